-- Steps are what the word says: following the parent that many times leads from the subject to the root, and fewer
-- times do not. If the answer is that the subject is outside, no number of times does.
use Rattle.std.specs.Prelude.{Bool, true, false, cond, ◌⊎◌, ◌≢◌, ◌≡◌, refl, ℕ, zero, suc, ◌+◌, ◌<◌, ◌≤◌, ltb, None, Option, Some, option_map}
use Rattle.std.proofs.lemmas.Option.{none-some, same_Some}
use Rattle.std.proofs.Common.{inl, inr, sym, ◌∙◌, arith, eq-eqb, ne_eqb, lt-ltb, ltb-true}
use Rattle.model.specs.Tree.{steps_up, outside, steps_number}
use Rattle.model.specs.HowFar.{follow, Leads, HowFar}
use Rattle.model.specs.HowFar.HowFar.{leads, never}
use Rattle.laws.specs.Tests.{two, eq_or_ne, lt_eq_gt}
use Rattle.laws.specs.Tree.{steps_up_lem}

module _ (up : ℕ → ℕ) where
  -- One step of the climb.

  steps_none_here : (s h : ℕ) → steps_up up s h ≡ None → s ≢ h
  steps_none_here s h e here = none-some 0 (sym (sym (steps_up_lem up h s ∙ rw (eq-eqb s h here)) ∙ e))

  steps_none_next : (s h : ℕ) → up s < s → steps_up up s h ≡ None → steps_up up (up s) h ≡ None
  steps_none_next s h low e =
      go (steps_up up (up s) h) (sym (steps_up_lem up h s ∙ rw (ne_eqb s h (steps_none_here s h e), lt-ltb (up s) s low)) ∙ e)
    where
      go : (o : Option ℕ) → option_map suc o ≡ None → o ≡ None
      go None e = refl
      go (Some n) e = absurd (none-some (suc n) (sym e))

  -- no step is taken at h alone
  steps_zero : (s h : ℕ) → steps_up up s h ≡ Some 0 → s ≡ h
  steps_zero s h e =
      elim (eq_or_ne s h) [
        | inl here ↦ here
        | inr other ↦ absurd (go (ltb (up s) s) (steps_up up (up s) h) (sym (steps_up_lem up h s ∙ rw (ne_eqb s h other)) ∙ e))
      ]
    where
      go : (b : Bool) (o : Option ℕ) → cond b (option_map suc o) None ≡ Some 0 → ⊥
      go true None e = none-some 0 e
      go true (Some n) e = omega (arith, same_Some (suc n) 0 e)
      go false o e = none-some 0 e

  -- more steps: the first leads to a lower number, and the others from there
  steps_next : (s h n : ℕ) → steps_up up s h ≡ Some (suc n) → (s ≢ h) × ((up s < s) × (steps_up up (up s) h ≡ Some n))
  steps_next s h n e =
      elim (eq_or_ne s h) [
        | inl here ↦ absurd (omega (arith, same_Some 0 (suc n) (sym (steps_up_lem up h s ∙ rw (eq-eqb s h here)) ∙ e)))
        | inr other ↦ (
          other,
          elim (two (ltb (up s) s)) [
            | inl low ↦ (ltb-true (up s) s low, go (steps_up up (up s) h) (sym (steps_up_lem up h s ∙ rw (ne_eqb s h other, low)) ∙ e))
            | inr high ↦ absurd (none-some (suc n) (sym (steps_up_lem up h s ∙ rw (ne_eqb s h other, high)) ∙ e))
          ],
        )
      ]
    where
      go : (o : Option ℕ) → option_map suc o ≡ Some (suc n) → o ≡ Some n
      go None e = absurd (none-some (suc n) e)
      go (Some k) e = let same : k ≡ n = omega (arith, same_Some (suc k) (suc n) e) in rw same

  -- For any `up`: the steps lead from s to h, and there are no more of them than numbers between.

  one_more : (s h n : ℕ) → s ≢ h → Leads up (up s) h n → Leads up s h (suc n)
  one_more s h n other rest = record { there = rest.there; not_before = before }
    where
      before : (m : ℕ) → m < suc n → follow up m s ≢ h
      before zero l = other
      before (suc m) l = rest.not_before m (omega arith)

  pub steps_lead : (n s h : ℕ) → steps_up up s h ≡ Some n → Leads up s h n
  steps_lead zero s h e = record { there = steps_zero s h e; not_before = λ m low. absurd (omega arith) }
  steps_lead (suc n) s h e = let next = steps_next s h n e in one_more s h n next.0 (steps_lead n (up s) h next.1.1)

  pub steps_most : (n s h : ℕ) → steps_up up s h ≡ Some n → n + h ≤ s
  steps_most zero s h e = omega (arith, steps_zero s h e)
  steps_most (suc n) s h e = let next = steps_next s h n e in omega (arith, next.1.0, steps_most n (up s) h next.1.1)

  -- If every step falls or stays, then outside means that no number of steps leads to h. So the number that is answered says
  -- how far it is, and no other number does.
  module _ (falls : (s : ℕ) → (up s < s) ⊎ (up s ≡ s)) where
    pub steps_never : (n s h : ℕ) → steps_up up s h ≡ None → follow up n s ≢ h
    steps_never zero s h e = steps_none_here s h e
    steps_never (suc n) s h e =
        elim (falls s) [
          | inl low ↦ steps_never n (up s) h (steps_none_next s h low e)
          | inr stays ↦ rw stays (steps_never n s h e)
        ]

    pub how_far : (s h : ℕ) → s < outside → HowFar up s h (steps_number (steps_up up s h))
    how_far s h small = go (steps_up up s h) refl
      where
        go : (o : Option ℕ) → steps_up up s h ≡ o → HowFar up s h (steps_number o)
        go None e = never (λ n. steps_never n s h e)
        go (Some n) e = leads {n = n} (omega (arith, steps_most n s h e)) (steps_lead n s h e)

  pub one_distance : (s h m n : ℕ) → HowFar up s h m → HowFar up s h n → m ≡ n
  one_distance s h m n (leads a x) (leads b y) =
      elim (lt_eq_gt m n) [
        | inl low ↦ absurd (y.not_before m low x.there)
        | inr (inl same) ↦ same
        | inr (inr high) ↦ absurd (x.not_before n high y.there)
      ]
  one_distance s h m n (leads a x) (never f) = absurd (f m x.there)
  one_distance s h m n (never f) (leads b y) = absurd (f n y.there)
  one_distance s h m n (never f) (never g) = refl

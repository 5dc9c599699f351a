-- Laws of counting: how many numbers pass a test, which is the lowest that does, and the list of what a function gives for each
-- number.
use Rattle.std.specs.Prelude.{Bool, List, ◌∷◌, ◌≡◌, length, get_or, replicate, None, Option, Some}
use Rattle.std.proofs.lemmas.Option.{none-some, same_Some}
use Rattle.std.proofs.Math.Bool.{true, false, cond}
use Rattle.std.proofs.lemmas.Bool.{false≢true}
use Rattle.std.proofs.Math.Logic.{inl, inr}
use Rattle.std.proofs.Math.Path.{refl}
use Rattle.std.proofs.Common.{sym, ap, ◌∙◌}
use Prim.Native.Nat.{ℕ, zero, suc, ◌<◌, ◌≤◌}
use native.Mathlib.Omega.{arith}
use Rattle.std.specs.List.{AllByRecursion}
use Rattle.model.specs.Lists.{how_many, of_each, or_else, lowest_passing}
use Rattle.laws.specs.Tests.{two, lt_eq_gt}

module _ (test : ℕ → Bool) where
  pub how_many_most : (n : ℕ) → how_many test n ≤ n
  unfolding how_many
  how_many_most zero = omega arith
  how_many_most (suc n) =
      elim (two (test n)) [
        | inl e ↦ rw e (omega (arith, how_many_most n))
        | inr e ↦ rw e (omega (arith, how_many_most n))
      ]

  -- one that passes is counted
  pub how_many_some : (k n : ℕ) → k < n → test k ≡ true → 1 ≤ how_many test n
  unfolding how_many
  how_many_some k zero h e = absurd (omega arith)
  how_many_some k (suc n) h e = go (how_many_some k n) (test n) refl
    where
      go : (k < n → test k ≡ true → 1 ≤ how_many test n) → (b : Bool) → test n ≡ b → 1 ≤ cond b (suc (how_many test n)) (how_many test n)
      go below true f = omega arith
      go below false f =
          elim (lt_eq_gt k n) [
            | inl low ↦ below low e
            | inr (inl here) ↦ absurd (false≢true (sym f ∙ rw (← here) e))
            | inr (inr high) ↦ absurd (omega arith)
          ]

  pub how_many_same : (also : ℕ → Bool) (n : ℕ) → ((k : ℕ) → k < n → test k ≡ also k) → how_many test n ≡ how_many also n
  unfolding how_many
  how_many_same also zero h = refl
  how_many_same also (suc n) h = rw (h n (omega arith), how_many_same also n (λ k l. h k (omega arith)))

or_none : {A : Type 0} (a b : Option A) → or_else a b ≡ None → (a ≡ None) × (b ≡ None)
or_none None b e = (refl, e)
or_none (Some x) b e = absurd (none-some x (sym e))

-- The lowest number that passes a test, said without a search.
module _ (test : ℕ → Bool) where
  pub record Least (n k : ℕ) : Type 0 where
    pub below : k < n
    pub passes : test k ≡ true
    pub no_lower : (j : ℕ) → j < k → test j ≡ false

  -- none is found exactly if no number below n passes
  pub lowest_none : (n : ℕ) → lowest_passing test n ≡ None → (k : ℕ) → k < n → test k ≡ false
  unfolding lowest_passing
  lowest_none zero e k h = absurd (omega arith)
  lowest_none (suc n) e k h =
      let both = or_none (lowest_passing test n) (cond (test n) (Some n) None) e in
      elim (lt_eq_gt k n) [
        | inl low ↦ lowest_none n both.0 k low
        | inr (inl here) ↦ rw here (failed (test n) both.1)
        | inr (inr high) ↦ absurd (omega arith)
      ]
    where
      failed : (b : Bool) → cond b (Some n) None ≡ None → b ≡ false
      failed true f = absurd (none-some n (sym f))
      failed false f = refl

  pub none_lowest : (n : ℕ) → ((k : ℕ) → k < n → test k ≡ false) → lowest_passing test n ≡ None
  unfolding lowest_passing
  none_lowest zero h = refl
  none_lowest (suc n) h = rw (none_lowest n (λ k l. h k (omega arith)), h n (omega arith))

  -- k is found exactly if it is the lowest that passes
  pub lowest_some : (n k : ℕ) → lowest_passing test n ≡ Some k → Least n k
  unfolding lowest_passing
  lowest_some zero k e = absurd (none-some k e)
  lowest_some (suc n) k e = go (lowest_some n k) (lowest_passing test n) refl (test n) refl e
    where
      go : (lowest_passing test n ≡ Some k → Least n k)
          → (o : Option ℕ) → lowest_passing test n ≡ o
          → (b : Bool) → test n ≡ b
          → or_else o (cond b (Some n) None) ≡ Some k
          → Least (suc n) k
      go before (Some j) f b g e =
          let it : Least n k = before (f ∙ e) in
          record { below = omega (arith, it.below); passes = it.passes; no_lower = it.no_lower }
      go before None f true g e =
          let here : n ≡ k = same_Some n k e in
          record { below = omega arith; passes = rw (← here) g; no_lower = λ j l. lowest_none n f j (omega arith) }
      go before None f false g e = absurd (none-some k e)

  pub some_lowest : (n k : ℕ) → Least n k → lowest_passing test n ≡ Some k
  unfolding lowest_passing
  some_lowest zero k it = absurd (omega (arith, it.below))
  some_lowest (suc n) k it =
      elim (lt_eq_gt k n) [
        | inl low ↦ rw (some_lowest n k (record { below = low; passes = it.passes; no_lower = it.no_lower }))
        | inr (inl here) ↦ rw (none_lowest n (λ j l. it.no_lower j (omega arith)), ← here, it.passes)
        | inr (inr high) ↦ absurd (omega (arith, it.below))
      ]

pub each_count : (f : ℕ → ℕ) (n : ℕ) → length (of_each f n) ≡ n
unfolding of_each
each_count f zero = refl
each_count f (suc n) = ap suc (each_count (λ k. f (suc k)) n)

pub each_at : (f : ℕ → ℕ) (n k : ℕ) → k < n → get_or (of_each f n) k 0 ≡ f k
unfolding of_each
each_at f zero k h = absurd (omega arith)
each_at f (suc n) zero h = refl
each_at f (suc n) (suc k) h = each_at (λ j. f (suc j)) n k (omega arith)

pub each_same : (f g : ℕ → ℕ) (n : ℕ) → ((k : ℕ) → f k ≡ g k) → of_each f n ≡ of_each g n
unfolding of_each
each_same f g zero h = refl
each_same f g (suc n) h = rw (h 0, each_same (λ k. f (suc k)) (λ k. g (suc k)) n (λ k. h (suc k)))

pub each_all : (P : ℕ → Type 0) (f : ℕ → ℕ) (n : ℕ) → ((k : ℕ) → P (f k)) → AllByRecursion P (of_each f n)
unfolding of_each
each_all P f zero h = tt
each_all P f (suc n) h = (h 0, each_all P (λ k. f (suc k)) n (λ k. h (suc k)))

pub each_zero : (n : ℕ) → replicate n 0 ≡ of_each (λ k. 0) n
unfolding of_each
each_zero zero = refl
each_zero (suc n) = ap (λ (r : List ℕ). 0 ∷ r) (each_zero n)

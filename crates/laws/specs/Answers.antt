-- The first no of a list of questions: it is 0 exactly when every question is answered yes.
use Rattle.std.specs.Prelude.{Bool, true, false, ◌&&◌, not, cond, List, [], ◌∷◌, ◌++◌, ◌≡◌, refl, ℕ, ◌≤◌, T, eqb, leb}
use Rattle.std.proofs.Common.{inl, inr, sym, ◌∙◌, arith, leb-true, eq-eqb, ne_eqb, T_not}
use Rattle.std.proofs.lemmas.Bool.{not-true}
use Rattle.model.specs.Lists.{every}
use Rattle.model.specs.Questions.{Question, ◌asks◌, first_no, image_questions, check}
use Rattle.laws.specs.Tests.{and_l, and_r, true_T, T_true, two, eq_or_ne, said_no, said_yes}
use Rattle.laws.specs.WellFormed.{Passed}

-- no question has the number 0
abbrev pub numbered : List Question → Bool
numbered [] = true
numbered (q ∷ qs) = not (eqb q.number 0) && numbered qs

pub first_passed : (qs : List Question) → Passed qs → first_no qs ≡ 0
unfolding first_no
first_passed [] p = refl
first_passed (q ∷ qs) p = rw (T_true q.answer p.0) (first_passed qs p.1)

pub passed_first : (qs : List Question) → T (numbered qs) → first_no qs ≡ 0 → Passed qs
unfolding first_no
passed_first [] n e = tt
passed_first (q ∷ qs) n e = go (passed_first qs (and_r (not (eqb q.number 0)) (numbered qs) n)) q.answer refl e
  where
    go : (first_no qs ≡ 0 → Passed qs) → (b : Bool) → q.answer ≡ b → cond b (first_no qs) q.number ≡ 0 → Passed (q ∷ qs)
    go rest true a f = (true_T q.answer a, rest f)
    go rest false a f = absurd (T_not (eqb q.number 0) (and_l (not (eqb q.number 0)) (numbered qs) n) (rw f tt))

-- the first no is not above m if no question's number is
pub first_most : (m : ℕ) (qs : List Question) → T (every (λ q. leb q.number m) qs) → first_no qs ≤ m
unfolding first_no
first_most m [] t = omega arith
first_most m (q ∷ qs) t =
    let low : T (leb q.number m) = and_l (leb q.number m) (every (λ p. leb p.number m) qs) t in
    let rest : T (every (λ p. leb p.number m) qs) = and_r (leb q.number m) (every (λ p. leb p.number m) qs) t in
    elim (two q.answer) [
      | inl e ↦ rw e (first_most m qs rest)
      | inr e ↦ rw e (leb-true q.number m (T_true (leb q.number m) low))
    ]

-- Questions asked one after the other, as code does: question n, whose answer is a, and the questions qs after it. Either the
-- code tests the question itself, or a callee answers it with t.
module _ (n : ℕ) (a : Bool) (qs : List Question) where
  pub tested_no : a ≡ false → n ≡ first_no (n asks a ∷ qs)
  unfolding first_no
  tested_no h = rw h

  pub tested_yes : (r : ℕ) → a ≡ true → r ≡ first_no qs → r ≡ first_no (n asks a ∷ qs)
  unfolding first_no
  tested_yes r h e = rw h e

  module _ (t : Bool) (said : t ≡ a) where
    pub asked_no : not t ≡ true → n ≡ first_no (n asks a ∷ qs)
    asked_no h = tested_no (said_no a t said h)

    pub asked_yes : (r : ℕ) → not t ≡ false → r ≡ first_no qs → r ≡ first_no (n asks a ∷ qs)
    asked_yes r h e = tested_yes r (said_yes a t said h) e

pub asked_all : 0 ≡ first_no []
unfolding first_no
asked_all = refl

-- Questions qs followed by questions rs: rs decide if all of qs are answered yes.
pub first_append : (qs rs : List Question) → T (numbered qs) → first_no (qs ++ rs) ≡ cond (eqb (first_no qs) 0) (first_no rs) (first_no qs)
unfolding first_no
first_append [] rs n = refl
first_append (q ∷ qs) rs n =
    elim (two q.answer) [
      | inl e ↦ rw e (first_append qs rs (and_r (not (eqb q.number 0)) (numbered qs) n))
      | inr e ↦ rw (e, not-true (eqb q.number 0) (T_true (not (eqb q.number 0)) (and_l (not (eqb q.number 0)) (numbered qs) n)))
    ]

-- if none of both together is answered no, none of either is
first_both : (qs rs : List Question) → T (numbered qs) → first_no (qs ++ rs) ≡ 0 → (first_no qs ≡ 0) × (first_no rs ≡ 0)
first_both qs rs n e =
    elim (eq_or_ne (first_no qs) 0) [
      | inl z ↦ (z, sym (rw (eq-eqb (first_no qs) 0 z) at (first_append qs rs n)) ∙ e)
      | inr some ↦ absurd (some (sym (rw (ne_eqb (first_no qs) 0 some) at (first_append qs rs n)) ∙ e))
    ]

-- the same as code asks them: n is the first no of qs, or 0
module _ (qs rs : List Question) (n : ℕ) (named : T (numbered qs)) (said : n ≡ first_no qs) where
  pub first_left : (n ≡ 0 → ⊥) → n ≡ first_no (qs ++ rs)
  first_left h = sym (first_append qs rs named ∙ rw (← said, ne_eqb n 0 h))

  pub first_right : (r : ℕ) → n ≡ 0 → r ≡ first_no rs → r ≡ first_no (qs ++ rs)
  first_right r h e = e ∙ sym (first_append qs rs named ∙ rw (← said, eq-eqb n 0 h))

-- if the check of an image answers 0, every question about the image is answered yes
pub image_passed : (img : List ℕ) → check img ≡ 0 → Passed (image_questions img)
unfolding check image_questions
image_passed img e = passed_first (image_questions img) tt e

-- if a call is not refused, the check of the image answers 0, and every one of the call's own questions qs is answered yes
module _ (img : List ℕ) (qs : List Question) (done : first_no (image_questions img ++ qs) ≡ 0) where
  both_zero : (first_no (image_questions img) ≡ 0) × (first_no qs ≡ 0)
  unfolding image_questions
  both_zero = first_both (image_questions img) qs tt done

  pub call_checked : check img ≡ 0
  unfolding check
  call_checked = both_zero.0

  pub call_passed : T (numbered qs) → Passed qs
  call_passed named = passed_first qs named both_zero.1

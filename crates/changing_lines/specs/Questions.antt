-- The questions about a line, as the code asks them: first those about the numbers that a call is handed, then the others.
use Rattle.std.specs.Prelude.{Bool, true, false, not, List, [], ◌∷◌, ◌≡◌, refl, ℕ, Result, Ok, Err}
use Rattle.std.proofs.Common.{sym, ap, ◌∙◌}
use Rattle.model.specs.declared.refusal.Refusal.{Refusal}
use Rattle.model.specs.WhoAndWhat.{has}
use Rattle.model.specs.Questions.{Question, ◌asks◌, first_no, refusal_number, refused_by}
use Rattle.laws.specs.Sets.{has_same}
use Rattle.laws.specs.Opens.{refusal_not}
use Rattle.laws.specs.Answers.{asked_no, asked_yes, first_left, first_right}

-- o is what the first four questions answer
module _ {A : Type 0} (a b c d : Bool) (qs : List Question) (o : Result A Refusal)
    (said : refused_by o ≡ first_no (10 asks a ∷ 11 asks b ∷ 13 asks c ∷ 14 asks d ∷ [])) where
  abbrev named : List Question
  named = 10 asks a ∷ 11 asks b ∷ 13 asks c ∷ 14 asks d ∷ []

  pub named_no : (e : Refusal) → o ≡ Err e → refusal_number e ≡ first_no (10 asks a ∷ 11 asks b ∷ 13 asks c ∷ 14 asks d ∷ qs)
  named_no e case = first_left named qs (refusal_number e) tt (sym (ap refused_by case) ∙ said) (refusal_not e)

  pub named_yes : (x : A) → o ≡ Ok x → (r : ℕ) → r ≡ first_no qs → r ≡ first_no (10 asks a ∷ 11 asks b ∷ 13 asks c ∷ 14 asks d ∷ qs)
  named_yes x case r rest = first_right named qs 0 tt (sym (ap refused_by case) ∙ said) r refl rest

-- 15: the position and the set are what the called functions answered
module _ (p s q m : ℕ) (qs : List Question) (t : Bool) (said : t ≡ has p s) (needed : p ≡ q) (given : s ≡ m) where
  pub right_no : not t ≡ true → 15 ≡ first_no (15 asks has q m ∷ qs)
  right_no h = asked_no 15 (has q m) qs t (has_same p q s m t needed given said) h

  pub right_yes : (r : ℕ) → not t ≡ false → r ≡ first_no qs → r ≡ first_no (15 asks has q m ∷ qs)
  right_yes r h e = asked_yes 15 (has q m) qs t (has_same p q s m t needed given said) r h e

-- The seven questions as the code asks them, by the layout that it read.
use Rattle.std.specs.Prelude.{Result, Ok, Err, Bool, true, false, ◌&&◌, List, ◌∷◌, ◌≡◌, refl, ℕ, leb, length, take, drop}
use Rattle.std.proofs.Math.Bool.{cond, and_assoc, and-true}
use Rattle.std.proofs.Common.{◌∙◌}
use Rattle.std.proofs.Math.Path.{ap}
use Rattle.model.specs.declared.Layout.{Layout}
use Rattle.model.specs.Lists.{all_of}
use Rattle.model.specs.Image.{shortest_image, longest_image, layout_of, layout_rules, header_rules, table_rules}
use Rattle.model.specs.declared.refusal.Refusal.{Refusal}
use Rattle.model.specs.Questions.{Question, ◌asks◌, first_no, questions_by, image_questions, check, opened}
use Rattle.model.specs.Questions.{refusal_number, by_number, refused_by}
use Rattle.laws.specs.Opens.{opened_no, opened_yes}

-- one question may be asked as three with the same number
in_three : (n : ℕ) (a b c : Bool) (qs : List Question)
    → first_no (n asks a ∷ n asks b ∷ n asks c ∷ qs) ≡ first_no (n asks (a && b && c) ∷ qs)
unfolding first_no
in_three n false b c qs = refl
in_three n true false c qs = refl
in_three n true true c qs = refl

module _ (lay : Layout) (img : List ℕ) where
  abbrev fits : Bool
  fits = leb shortest_image (length img) && leb (length img) longest_image

  abbrev header : Bool
  header = all_of (header_rules lay img)

  abbrev tables : Bool
  tables = all_of (take 4 (table_rules lay))

  abbrev subject : Bool
  subject = leb 1 lay.subjects.used

  abbrev others : List Question
  others = drop 2 (questions_by lay img)

  joined : (header && tables && subject) ≡ all_of (layout_rules lay img)
  unfolding layout_rules table_rules
  joined = simp (and_assoc, and-true)

  -- question 2 is asked as three
  pub by_tests : (n : ℕ)
      → n ≡ first_no (1 asks fits ∷ 2 asks header ∷ 2 asks tables ∷ 2 asks subject ∷ others)
      → n ≡ first_no (questions_by lay img)
  unfolding first_no
  by_tests n asked =
      asked
      ∙ ap (λ (m : ℕ). cond fits m 1)
      (in_three 2 header tables subject others ∙ ap (λ (b : Bool). first_no (2 asks b ∷ others)) joined)

-- What the questions answered, by the layout in the header: opening the image answers the same refusal, or the layout.
module _ {U : Type 0} (img : List ℕ) (lay : Layout) (read : lay ≡ layout_of img)
    (r : Result U Refusal) (asked : refused_by r ≡ first_no (questions_by lay img)) where
  same_check : refused_by r ≡ check img
  unfolding check image_questions
  same_check = asked ∙ ap (λ (l : Layout). first_no (questions_by l img)) read

  pub check_no : (e : Refusal) → r ≡ Err e → refusal_number e ≡ check img
  check_no e case = rw case at same_check

  pub check_yes : (u : U) → r ≡ Ok u → 0 ≡ check img
  check_yes u case = rw case at same_check

  pub open_no : (e : Refusal) → r ≡ Err e → by_number {A = Layout} (Err e) ≡ opened img
  open_no e case = opened_no img e (check_no e case)

  pub open_yes : (u : U) → r ≡ Ok u → by_number (Ok lay) ≡ opened img
  open_yes u case = opened_yes img lay read (check_yes u case)

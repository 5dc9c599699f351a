-- Whom the editor search names, by what the permission set call answers: the lowest subject other than the custodian whose set on the
-- list has the privilege to edit a list. If the search is refused with 20, no set but the custodian's has it.
use Rattle.std.specs.Prelude.{Bool, ◌&&◌, not, List, [], ◌∷◌, ◌≢◌, ◌≡◌, ℕ, ◌<◌, eqb, length, None, Option, Some, unwrap_or}
use Rattle.std.proofs.Math.Bool.{true, false}
use Rattle.std.proofs.lemmas.Bool.{false≢true}
use Rattle.std.proofs.Math.Logic.{inl, inr}
use Rattle.std.proofs.Math.Path.{refl, sym}
use Rattle.std.proofs.Common.{◌∙◌, arith, eq-eqb, ne_eqb, lt→ltb}
use Rattle.std.proofs.Math.Dec.{T}
use Rattle.model.specs.Lists.{is_there}
use Rattle.model.specs.WhoAndWhat.{custodian, edit_list, has}
use Rattle.model.specs.Image.{tables, is_list, item_used}
use Rattle.model.specs.Permission.{permission_set}
use Rattle.model.specs.Calls.{is_editor, lowest_editor, ask_result}
use Rattle.model.specs.Calls.Ask.{permission_set_of, find_editor}
use Rattle.model.specs.Questions.{Question, ◌asks◌, first_no, image_questions, ask_questions, check, answer, ask}
use Rattle.laws.specs.Tests.{true_T, and_l, eq_or_ne}
use Rattle.laws.specs.Counts.{Least, lowest_none, lowest_some}
use Rattle.laws.specs.Answers.{call_checked, call_passed, first_append, first_most}
use Rattle.laws.specs.WellFormed.{Passed}
use Rattle.laws.specs.Asks.{asked_set}

module _ (img : List ℕ) (a : ℕ) where
  -- the set that the permission set call answers for s on list a under role 0 has the privilege to edit a list
  abbrev pub edits : ℕ → Bool
  edits s = has edit_list (ask img (permission_set_of s 0 a)).result

  abbrev own : List Question
  own = ask_questions (tables img) (find_editor a)

  -- If the image is accepted and a is a list, that call is done for every subject in use. So the editors are those whose sets
  -- have the privilege.
  module _ (checked : check img ≡ 0) (listed : T (is_list (tables img).items a)) where
    asked : (s : ℕ) → s < length (tables img).subjects → ask img (permission_set_of s 0 a) ≡ answer 0 (permission_set (tables img) s 0 a)
    asked s used =
        asked_set img s 0 a checked (lt→ltb s (length (tables img).subjects) used)
        (and_l (item_used (tables img).items a) _ listed)

    editor_edits : (s : ℕ) → s < length (tables img).subjects → is_editor (tables img) a s ≡ (not (eqb s custodian) && edits s)
    editor_edits s used = rw (asked s used)

  module _ (done : (ask img (find_editor a)).number ≡ 0) where
    abbrev named : ℕ
    named = (ask img (find_editor a)).result

    passed : Passed own
    unfolding ask ask_questions
    passed = call_passed img own done tt

    checked_then : check img ≡ 0
    unfolding ask
    checked_then = call_checked img own done

    listed_then : T (is_list (tables img).items a)
    unfolding ask_questions
    listed_then = passed.0

    found : Least (is_editor (tables img) a) (length (tables img).subjects) named
    unfolding ask ask_questions ask_result lowest_editor
    found = rw done (go (lowest_editor (tables img) a) refl passed.1.0)
      where
        go : (o : Option ℕ) → lowest_editor (tables img) a ≡ o → T (is_there o)
            → Least (is_editor (tables img) a) (length (tables img).subjects) (unwrap_or o 0)
        go None e t = absurd t
        go (Some k) e t = lowest_some (is_editor (tables img) a) (length (tables img).subjects) k e

    -- whoever is named is in use, is not the custodian, and may edit the list; the permission set call for it is done
    pub named_used : named < length (tables img).subjects
    named_used = found.below

    pub named_other : named ≢ custodian
    named_other z = false≢true (sym (rw (eq-eqb named custodian z)) ∙ found.passes)

    pub named_asked : (ask img (permission_set_of named 0 a)).number ≡ 0
    named_asked = rw (asked checked_then listed_then named named_used)

    pub named_edits : edits named ≡ true
    named_edits =
        rw (ne_eqb named custodian named_other) at
        (sym (editor_edits checked_then listed_then named named_used) ∙ found.passes)

    -- nobody with a lower number may, except for the custodian
    pub named_lowest : (s : ℕ) → s < named → s ≢ custodian → edits s ≡ false
    named_lowest s low other =
        rw (ne_eqb s custodian other) at
        (sym (editor_edits checked_then listed_then s (omega (arith, named_used))) ∙ found.no_lower s low)

  -- refused with 20: nobody in use may edit the list, except for the custodian
  module _ (refused : (ask img (find_editor a)).number ≡ 20) where
    checked_first : check img ≡ 0
    unfolding ask check image_questions
    checked_first =
        elim (eq_or_ne (check img) 0) [
          | inl z ↦ z
          | inr bad ↦ absurd (omega (arith, first_most 7 (image_questions img) tt, image_said bad))
        ]
      where
        image_said : (check img ≢ 0) → check img ≡ 20
        image_said bad = sym (rw (ne_eqb (check img) 0 bad) at (first_append (image_questions img) own tt)) ∙ refused

    own_said : first_no own ≡ 20
    unfolding ask check image_questions
    own_said = sym (rw (eq-eqb (check img) 0 checked_first) at (first_append (image_questions img) own tt)) ∙ refused

    said : (is_list (tables img).items a ≡ true) × (is_there (lowest_editor (tables img) a) ≡ false)
    unfolding ask_questions first_no
    said = go (is_list (tables img).items a) (is_there (lowest_editor (tables img) a)) own_said
      where
        go : (b c : Bool) → first_no (13 asks b ∷ 20 asks c ∷ []) ≡ 20 → (b ≡ true) × (c ≡ false)
        go true true e = absurd (omega arith)
        go true false e = (refl, refl)
        go false c e = absurd (omega arith)

    nobody : lowest_editor (tables img) a ≡ None
    nobody = go (lowest_editor (tables img) a) said.1
      where
        go : (o : Option ℕ) → is_there o ≡ false → o ≡ None
        go None e = refl
        go (Some k) e = absurd (false≢true (sym e))

    pub nobody_edits : (s : ℕ) → s < length (tables img).subjects → s ≢ custodian → edits s ≡ false
    unfolding lowest_editor
    nobody_edits s used other =
        rw (ne_eqb s custodian other) at
        (sym (editor_edits checked_first (true_T (is_list (tables img).items a) said.0) s used)
        ∙ lowest_none (is_editor (tables img) a) (length (tables img).subjects) nobody s used)

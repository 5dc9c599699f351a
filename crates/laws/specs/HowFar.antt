-- What a call that is done says of steps, for any bytes and any numbers: how far it is from the subject up to the
-- root; in an explanation, from the item's owner up to the domain of the grant. In an accepted image each parent is lower than its
-- subject, except for the custodian's, and there are fewer subjects than the number that stands for outside.
use Rattle.std.specs.Prelude.{List, ◌⊎◌, ◌≡◌, refl, None, Some}
use Rattle.std.proofs.Math.Logic.{inl, inr}
use Rattle.std.proofs.Common.{ap, arith, eqb→eq}
use Prim.Native.Nat.{ℕ, zero, suc, ◌*◌, ◌-◌, ◌<◌, ◌≤◌}
use Rattle.std.proofs.Math.Nat.{mul-le-mul_left}
use Rattle.std.proofs.Math.Dec.{T, ltb→lt}
use Rattle.std.proofs.Math.ListN.{length, get_or-eq_default}
use Rattle.model.specs.declared.GrantRow.{GrantRow}
use Rattle.model.specs.declared.ItemRow.{ItemRow}
use Rattle.model.specs.declared.SubjectRow.{SubjectRow}
use Rattle.model.specs.Tree.{steps_up, outside, steps_number}
use Rattle.model.specs.HowFar.{HowFar}
use Rattle.model.specs.Image.{Tables, longest_image, no_subject, no_item, width_of, width_in, layout_of, tables_by}
use Rattle.model.specs.Image.{tables, size, subject_format}
use Rattle.model.specs.Image.{subject_in, parent_in, subject_used, item_in, item_used, subject_rules, item_rules}
use Rattle.model.specs.Image.{subjects_hold, items_hold}
use Rattle.model.specs.Permission.{grant_of, explanation_under}
use Rattle.model.specs.Calls.{ask_result}
use Rattle.model.specs.Calls.Ask.{steps_up_of}
use Rattle.model.specs.Questions.{Question, image_questions, ask_questions, explain_questions, check, ask, explain}
use Rattle.laws.specs.Tests.{and_l, le_or_lt, every_at}
use Rattle.laws.specs.Answers.{call_checked, call_passed, image_passed}
use Rattle.laws.specs.Rows.{subject_lawful, rows_count}
use Rattle.laws.specs.Blocks.{rows_extent}
use Rattle.laws.specs.Laid.{Laid, laid, subjects_inside}
use Rattle.laws.specs.Steps.{how_far}
use Rattle.laws.specs.Reasons.{not_refused, is_explanation}

-- Tables that hold their rules.
module _ (t : Tables) where
  parent_falls : T (subjects_hold t) → (s : ℕ) → (parent_in t.subjects s < s) ⊎ (parent_in t.subjects s ≡ s)
  unfolding subjects_hold
  parent_falls hold s = elim (le_or_lt (length t.subjects) s) [ inl past ↦ unused s past | inr used ↦ go s (rules used) ]
    where
      rules : s < length t.subjects → T (subject_rules (width_in t) t.subjects s (subject_in t.subjects s))
      rules = every_at (subject_rules (width_in t) t.subjects) t.subjects no_subject hold s

      go : (n : ℕ)
          → T (subject_rules (width_in t) t.subjects n (subject_in t.subjects n))
          → (parent_in t.subjects n < n) ⊎ (parent_in t.subjects n ≡ n)
      go zero r = inr (eqb→eq (parent_in t.subjects 0) 0 (search and_l))
      go (suc n) r = inl (ltb→lt (parent_in t.subjects (suc n)) (suc n) (search and_l))

      unused : (n : ℕ) → length t.subjects ≤ n → (parent_in t.subjects n < n) ⊎ (parent_in t.subjects n ≡ n)
      unused n past =
          let no_parent : parent_in t.subjects n ≡ 0 =
          ap (λ (x : SubjectRow). x.parent.0) (get_or-eq_default t.subjects no_subject past) in
          rw no_parent (zero_or_more n)
        where
          zero_or_more : (n : ℕ) → (0 < n) ⊎ (◌≡◌ {A = ℕ} 0 n)
          zero_or_more zero = inr refl
          zero_or_more (suc n) = inl (omega arith)

  owner_used : T (items_hold t) → (i : ℕ) → T (item_used t.items i) → T (subject_used t.subjects (item_in t.items i).owner.0)
  unfolding items_hold
  owner_used hold zero u = absurd u
  owner_used hold (suc n) u =
      let rules = every_at (λ k. item_rules t.subjects t.items (suc k)) t.items no_item hold n (ltb→lt n (length t.items) u) in
      and_l (subject_used t.subjects (item_in t.items (suc n)).owner.0) _ rules

-- An image that passes the check.
module _ (img : List ℕ) (checked : check img ≡ 0) where
  abbrev up : ℕ → ℕ
  up = parent_in (tables img).subjects

  subjects_few : length (tables img).subjects ≤ longest_image
  unfolding tables_by
  subjects_few =
      let w : ℕ = width_of (layout_of img) in
      let facts : Laid img = laid img checked in
      let rows : (layout_of img).subjects.used * size (subject_format w) ≤ (layout_of img).subjects.end - (layout_of img).subjects.start =
      rows_extent (subject_format w) (subject_lawful w) (layout_of img).subjects img facts.subjects_laid_out in
      let wide : (layout_of img).subjects.used * 1 ≤ (layout_of img).subjects.used * size (subject_format w) =
      mul-le-mul_left (layout_of img).subjects.used (subject_lawful w).wide in
      rw (rows_count (subject_format w) (layout_of img).subjects img)
      (omega (arith, rows, wide, subjects_inside img facts, facts.short))

  far : (s h : ℕ) → T (subject_used (tables img).subjects s) → HowFar up s h (steps_number (steps_up up s h))
  unfolding image_questions
  far s h used =
      how_far up (parent_falls (tables img) (image_passed img checked).1.1.0) s h
      (omega (arith, subjects_few, ltb→lt s (length (tables img).subjects) used))

-- The call, and an explanation with a grant and without one.

pub answered_steps : (img : List ℕ) (s h : ℕ)
    → (ask img (steps_up_of s h)).number ≡ 0
    → HowFar (parent_in (tables img).subjects) s h (ask img (steps_up_of s h)).result
unfolding ask ask_questions ask_result
answered_steps img s h done =
    let own : List Question = ask_questions (tables img) (steps_up_of s h) in
    rw done (far img (call_checked img own done) s h (call_passed img own done tt).0)

module _ (img : List ℕ) (s r i : ℕ) (done : (explain img s r i).number ≡ 0) where
  abbrev row : ItemRow
  row = item_in (tables img).items i

  abbrev own : List Question
  own = explain_questions (tables img) s i

  pub explained_steps : (g : GrantRow)
      → grant_of (tables img) s r ≡ Some g
      → HowFar (parent_in (tables img).subjects) row.owner.0 g.domain.0 (explain img s r i).steps
  unfolding explanation_under explain_questions image_questions
  explained_steps g held =
      let checked : check img ≡ 0 = call_checked img own (not_refused img s r i done) in
      let owned : T (subject_used (tables img).subjects row.owner.0) =
      owner_used (tables img) (image_passed img checked).1.1.1.0 i (call_passed img own (not_refused img s r i done) tt).1.0 in
      rw (is_explanation img s r i done, held) (far img checked row.owner.0 g.domain.0 owned)

  pub no_grant_explained : grant_of (tables img) s r ≡ None → (explain img s r i).steps ≡ outside
  unfolding explanation_under
  no_grant_explained missing = rw (is_explanation img s r i done, missing)

-- Define subject: adding the row gives the image of the call's definition.
use Rattle.std.specs.Prelude.{Result, Ok, List, ◌≡◌, ℕ, get_or}
use Rattle.std.proofs.Math.Path.{refl, sym}
use Rattle.std.proofs.Common.{◌∙◌, Fits}
use Rattle.std.specs.Int.{w8}
use Rattle.model.specs.declared.Layout.{Layout}
use Rattle.model.specs.declared.refusal.Refusal.{Refusal}
use Rattle.model.specs.Image.{layout_of, tables_by, tables, width_of, subject_format, subject_row, encode}
use Rattle.model.specs.Calls.{new_privileges, with_subjects, after, change_result}
use Rattle.model.specs.Calls.Change.{define_subject}
use Rattle.model.specs.Questions.{first_no, questions, answer, opened, by_number, act}
use Rattle.laws.specs.Rows.{rows_count}
use Rattle.laws.specs.Opens.{layout_with}
use Rattle.laws.specs.Acts.{Settled, act_done}
use Rattle.store.specs.Stores.{subjects_counter, with_row}
use Rattle.store.specs.Stored.{subjects_stored}
use Rattle.store.specs.Calls.{row_more}

module _ (img : List ℕ) (o : Result Layout Refusal) (is : by_number o ≡ opened img) (lay : Layout) (case : o ≡ Ok lay) (c r p v : ℕ) where
  pub result_subject : lay.subjects.used ≡ change_result (tables_by lay img) (define_subject c r p v)
  unfolding change_result tables_by
  result_subject = sym (rows_count (subject_format (width_of lay)) lay.subjects img)

  pub defined : (new : List ℕ)
      → ((i : ℕ) → Fits w8 (get_or img i 0))
      → first_no (questions (tables_by lay img) (define_subject c r p v)) ≡ 0
      → (held : ℕ) → held ≡ new_privileges (tables_by lay img) c v
      → new ≡ with_row (subject_format (width_of lay)) subjects_counter lay.subjects lay.subjects.used (subject_row p held c) img
      → Settled img (define_subject c r p v) (answer 0 lay.subjects.used) new
  unfolding questions after tables_by
  defined new bytes zero held is-held e =
      let done : answer 0 lay.subjects.used ≡ (act img (define_subject c r p v)).answer =
      act_done img o is (define_subject c r p v) lay case lay.subjects.used zero result_subject in (
        done,
        row_more (subject_format (width_of (layout_of img))) (layout_of img).subjects subjects_counter (tables img).capacities.subjects img
            (λ rows. encode (with_subjects (tables img) rows))
            (subjects_stored img)
            (define_subject c r p v)
            lay.subjects.used done bytes new
            (subject_row p (new_privileges (tables img) c v) c)
            refl
            (λ passed. passed.1.1.1.1.0)
            (e ∙ rw (is-held, layout_with img o is lay case) refl),
      )

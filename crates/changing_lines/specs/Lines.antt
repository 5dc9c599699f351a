-- Set line and remove line: storing the row or taking it out gives the image of the call's definition.
use Rattle.std.specs.Prelude.{Result, Ok, List, [], ◌∷◌, ◌≡◌, ℕ, T, get_or}
use Rattle.std.proofs.Math.Path.{refl}
use Rattle.std.proofs.Common.{◌∙◌, Fits}
use Rattle.std.specs.Int.{w8}
use Rattle.model.specs.declared.Layout.{Layout}
use Rattle.model.specs.declared.refusal.Refusal.{Refusal}
use Rattle.model.specs.declared.LineRow.{LineRow}
use Rattle.model.specs.Sorted.{ascending, insertion_index}
use Rattle.model.specs.Image.{layout_of, tables_by, tables, width_of, line_format, line_key, line_row, no_line, encode}
use Rattle.model.specs.Calls.{with_lines, after, change_result}
use Rattle.model.specs.Calls.Change.{set_line, remove_line}
use Rattle.model.specs.Questions.{first_no, questions, answer, opened, by_number, unless, Accepted, act}
use Rattle.laws.specs.Kept.{lines_ascending}
use Rattle.laws.specs.Back.{tables_well_formed}
use Rattle.laws.specs.Opens.{layout_with, unless_passed, unless_value}
use Rattle.laws.specs.Acts.{Settled, act_done}
use Rattle.tables.specs.declared.RowIndex.{RowIndex}
use Rattle.tables.specs.RowIndices.{row_index}
use Rattle.store.specs.Stores.{lines_counter, stored_at, without_row}
use Rattle.store.specs.Stored.{lines_stored}
use Rattle.store.specs.Calls.{row_set, row_cut}

module _ (img : List ℕ) (o : Result Layout Refusal) (is : by_number o ≡ opened img) (lay : Layout) (case : o ≡ Ok lay)
    (new : List ℕ) where
  there : lay ≡ layout_of img
  there = layout_with img o is lay case

  lines_sorted : Accepted img → T (ascending line_key (tables img).lines)
  lines_sorted accepted = lines_ascending (tables img) (tables_well_formed img accepted).lines_hold_lem

  pub line_stored : (c r l k s v : ℕ) (asked : Result RowIndex Refusal) (index : RowIndex) (x : LineRow)
      → by_number asked ≡ unless (first_no (questions (tables_by lay img) (set_line c r l k s v)))
      (row_index line_key (l ∷ k ∷ s ∷ []) (tables_by lay img).lines)
      → asked ≡ Ok index
      → x ≡ line_row l k s v
      → new ≡ stored_at (line_format (width_of lay)) lines_counter lay.lines index x img
      → ((i : ℕ) → Fits w8 (get_or img i 0))
      → Settled img (set_line c r l k s v) (answer 0 0) new
  unfolding questions after tables_by change_result
  line_stored c r l k s v asked index x so at row e bytes =
      let done : answer 0 0 ≡ (act img (set_line c r l k s v)).answer =
      act_done img o is (set_line c r l k s v) lay case 0
      (unless_passed (first_no (questions (tables_by lay img) (set_line c r l k s v)))
      (row_index line_key (l ∷ k ∷ s ∷ []) (tables_by lay img).lines) asked so index at) refl in (
        done,
        row_set (line_format (width_of (layout_of img))) (layout_of img).lines lines_counter (tables img).capacities.lines img
            (λ rows. encode (with_lines (tables img) rows))
            (lines_stored img)
            (set_line c r l k s v)
            0 done bytes new line_key no_line lines_sorted (line_row l k s v) index refl
            (λ passed. passed.1.1.1.1.1.0)
            (rw there at
            (unless_value (first_no (questions (tables_by lay img) (set_line c r l k s v)))
            (row_index line_key (l ∷ k ∷ s ∷ []) (tables_by lay img).lines) asked so index at))
            (e ∙ rw (row, there) refl),
      )

  pub line_cut : (c r l k s : ℕ) (asked : Result ℕ Refusal) (n : ℕ)
      → by_number asked ≡ unless (first_no (questions (tables_by lay img) (remove_line c r l k s)))
      (insertion_index line_key (l ∷ k ∷ s ∷ []) (tables_by lay img).lines)
      → asked ≡ Ok n
      → new ≡ without_row (line_format (width_of lay)) lines_counter lay.lines n img
      → ((i : ℕ) → Fits w8 (get_or img i 0))
      → Settled img (remove_line c r l k s) (answer 0 0) new
  unfolding questions after tables_by change_result
  line_cut c r l k s asked n so at e bytes =
      let done : answer 0 0 ≡ (act img (remove_line c r l k s)).answer =
      act_done img o is (remove_line c r l k s) lay case 0
      (unless_passed (first_no (questions (tables_by lay img) (remove_line c r l k s)))
      (insertion_index line_key (l ∷ k ∷ s ∷ []) (tables_by lay img).lines) asked so n at) refl in (
        done,
        row_cut (line_format (width_of (layout_of img))) (layout_of img).lines lines_counter (tables img).capacities.lines img
            (λ rows. encode (with_lines (tables img) rows))
            (lines_stored img)
            (remove_line c r l k s)
            0 done bytes new line_key no_line lines_sorted (l ∷ k ∷ s ∷ []) n refl
            (λ passed. passed.1.1.1.1.1.0)
            (λ accepted. (tables_well_formed img accepted).lines_capacity)
            (rw there at
            (unless_value (first_no (questions (tables_by lay img) (remove_line c r l k s)))
            (insertion_index line_key (l ∷ k ∷ s ∷ []) (tables_by lay img).lines) asked so n at))
            (e ∙ rw there refl),
      )

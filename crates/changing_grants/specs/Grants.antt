-- Set grant and remove grant: storing the row or taking it out gives the image of the call's definition.
use Rattle.std.specs.Prelude.{Result, Ok, List, [], ◌∷◌, ◌≡◌, ℕ, T, get_or}
use Rattle.std.proofs.Math.Path.{refl}
use Rattle.std.proofs.Common.{◌∙◌, Fits}
use Rattle.std.specs.Int.{w8}
use Rattle.model.specs.declared.Layout.{Layout}
use Rattle.model.specs.declared.refusal.Refusal.{Refusal}
use Rattle.model.specs.declared.GrantRow.{GrantRow}
use Rattle.model.specs.Sorted.{ascending, insertion_index}
use Rattle.model.specs.Image.{layout_of, tables_by, tables, width_of, grant_format, grant_key, grant_row, no_grant, encode}
use Rattle.model.specs.Calls.{with_grants, after, change_result}
use Rattle.model.specs.Calls.Change.{set_grant, remove_grant}
use Rattle.model.specs.Questions.{first_no, questions, answer, opened, by_number, unless, Accepted, act}
use Rattle.laws.specs.Kept.{grants_ascending}
use Rattle.laws.specs.Back.{tables_well_formed}
use Rattle.laws.specs.Opens.{layout_with, unless_passed, unless_value}
use Rattle.laws.specs.Acts.{Settled, act_done}
use Rattle.tables.specs.declared.RowIndex.{RowIndex}
use Rattle.tables.specs.RowIndices.{row_index}
use Rattle.store.specs.Stores.{grants_counter, stored_at, without_row}
use Rattle.store.specs.Stored.{grants_stored}
use Rattle.store.specs.Calls.{row_set, row_cut}

module _ (img : List ℕ) (o : Result Layout Refusal) (is : by_number o ≡ opened img) (lay : Layout) (case : o ≡ Ok lay)
    (new : List ℕ) where
  there : lay ≡ layout_of img
  there = layout_with img o is lay case

  grants_sorted : Accepted img → T (ascending grant_key (tables img).grants)
  grants_sorted accepted = grants_ascending (tables img) (tables_well_formed img accepted).grants_hold_lem

  pub grant_set : (c s r d v : ℕ) (asked : Result RowIndex Refusal) (index : RowIndex) (x : GrantRow)
      → by_number asked ≡ unless (first_no (questions (tables_by lay img) (set_grant c s r d v)))
      (row_index grant_key (s ∷ r ∷ []) (tables_by lay img).grants)
      → asked ≡ Ok index
      → x ≡ grant_row s r c d v
      → new ≡ stored_at (grant_format (width_of lay)) grants_counter lay.grants index x img
      → ((i : ℕ) → Fits w8 (get_or img i 0))
      → Settled img (set_grant c s r d v) (answer 0 0) new
  unfolding questions after tables_by change_result
  grant_set c s r d v asked index x so at row e bytes =
      let done : answer 0 0 ≡ (act img (set_grant c s r d v)).answer =
      act_done img o is (set_grant c s r d v) lay case 0
      (unless_passed (first_no (questions (tables_by lay img) (set_grant c s r d v)))
      (row_index grant_key (s ∷ r ∷ []) (tables_by lay img).grants) asked so index at) refl in (
        done,
        row_set (grant_format (width_of (layout_of img))) (layout_of img).grants grants_counter (tables img).capacities.grants img
            (λ rows. encode (with_grants (tables img) rows))
            (grants_stored img)
            (set_grant c s r d v)
            0 done bytes new grant_key no_grant grants_sorted (grant_row s r c d v) index refl
            (λ passed. passed.1.1.1.1.1.1.0)
            (rw there at
            (unless_value (first_no (questions (tables_by lay img) (set_grant c s r d v)))
            (row_index grant_key (s ∷ r ∷ []) (tables_by lay img).grants) asked so index at))
            (e ∙ rw (row, there) refl),
      )

  pub grant_cut : (c s r : ℕ) (asked : Result ℕ Refusal) (n : ℕ)
      → by_number asked ≡ unless (first_no (questions (tables_by lay img) (remove_grant c s r)))
      (insertion_index grant_key (s ∷ r ∷ []) (tables_by lay img).grants)
      → asked ≡ Ok n
      → new ≡ without_row (grant_format (width_of lay)) grants_counter lay.grants n img
      → ((i : ℕ) → Fits w8 (get_or img i 0))
      → Settled img (remove_grant c s r) (answer 0 0) new
  unfolding questions after tables_by change_result
  grant_cut c s r asked n so at e bytes =
      let done : answer 0 0 ≡ (act img (remove_grant c s r)).answer =
      act_done img o is (remove_grant c s r) lay case 0
      (unless_passed (first_no (questions (tables_by lay img) (remove_grant c s r)))
      (insertion_index grant_key (s ∷ r ∷ []) (tables_by lay img).grants) asked so n at) refl in (
        done,
        row_cut (grant_format (width_of (layout_of img))) (layout_of img).grants grants_counter (tables img).capacities.grants img
            (λ rows. encode (with_grants (tables img) rows))
            (grants_stored img)
            (remove_grant c s r)
            0 done bytes new grant_key no_grant grants_sorted (s ∷ r ∷ []) n refl
            (λ passed. passed.1.1.1.0)
            (λ accepted. (tables_well_formed img accepted).grants_capacity)
            (rw there at
            (unless_value (first_no (questions (tables_by lay img) (remove_grant c s r)))
            (insertion_index grant_key (s ∷ r ∷ []) (tables_by lay img).grants) asked so n at))
            (e ∙ rw there refl),
      )

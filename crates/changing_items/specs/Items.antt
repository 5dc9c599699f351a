-- Create item, bind and hand over: adding the row or replacing it gives the image of the call's definition.
use Rattle.std.specs.Prelude.{Result, Ok, List, ◌≡◌, ℕ, ◌+◌, ◌-◌, ◌/◌, ◌<◌, ◌^◌, get_or}
use Rattle.std.proofs.Math.Path.{refl}
use Rattle.std.proofs.Common.{◌∙◌, add-one, Fits}
use native.Mathlib.Omega.{arith}
use Rattle.std.proofs.Math.Dec.{ltb→lt}
use Rattle.std.proofs.Math.ListN.{length}
use Rattle.std.specs.Int.{w8}
use Rattle.model.specs.declared.Layout.{Layout}
use Rattle.model.specs.declared.refusal.Refusal.{Refusal}
use Rattle.model.specs.Image.{layout_of, tables_by, tables, size, rows_in, item_format, item_row, item_in, encode}
use Rattle.model.specs.Image.{with_list, with_owner}
use Rattle.model.specs.Calls.{with_items, after, change_result}
use Rattle.model.specs.Calls.Change.{create_item, bind, hand_over}
use Rattle.model.specs.Questions.{first_no, questions, answer, opened, by_number, act}
use Rattle.laws.specs.WellFormed.{Passed}
use Rattle.laws.specs.Answers.{passed_first}
use Rattle.laws.specs.Rows.{rows_count}
use Rattle.laws.specs.Opens.{layout_with}
use Rattle.laws.specs.Acts.{Settled, act_done}
use Rattle.store.specs.Stores.{items_counter, with_row, over_item}
use Rattle.store.specs.Stored.{items_stored}
use Rattle.store.specs.Calls.{row_more, item_replaced}

-- The new item's number. It fits its type, because there is a free row.
module _ (img : List ℕ) (lay : Layout) (c r l f p : ℕ) where
  pub result_item : lay.items.used + 1 ≡ change_result (tables_by lay img) (create_item c r l f p)
  unfolding change_result tables_by
  result_item = rw (rows_count item_format lay.items img, add-one)

  pub number_fits : first_no (questions (tables_by lay img) (create_item c r l f p)) ≡ 0
      → lay.items.end < 2 ^ 32
      → lay.items.used + 1 < 2 ^ 32
  unfolding questions tables_by
  number_fits zero bound =
      let passed : Passed (questions (tables_by lay img) (create_item c r l f p)) =
      passed_first (questions (tables_by lay img) (create_item c r l f p)) tt zero in
      let free : length (rows_in item_format lay.items img) < (lay.items.end - lay.items.start) / size item_format =
      ltb→lt _ _ passed.1.1.1.1.1.0 in
      let few : length (rows_in item_format lay.items img) ≡ lay.items.used = rows_count item_format lay.items img in
      omega arith

module _ (img : List ℕ) (o : Result Layout Refusal) (is : by_number o ≡ opened img) (lay : Layout) (case : o ≡ Ok lay)
    (new : List ℕ) (bytes : (i : ℕ) → Fits w8 (get_or img i 0)) where
  there : lay ≡ layout_of img
  there = layout_with img o is lay case

  pub item_created : (c r l f p : ℕ)
      → first_no (questions (tables_by lay img) (create_item c r l f p)) ≡ 0
      → new ≡ with_row item_format items_counter lay.items lay.items.used (item_row c l f p) img
      → Settled img (create_item c r l f p) (answer 0 (lay.items.used + 1)) new
  unfolding questions after tables_by
  item_created c r l f p zero e =
      let done : answer 0 (lay.items.used + 1) ≡ (act img (create_item c r l f p)).answer =
      act_done img o is (create_item c r l f p) lay case (lay.items.used + 1) zero (result_item img lay c r l f p) in (
        done,
        row_more item_format (layout_of img).items items_counter (tables img).capacities.items img
            (λ rows. encode (with_items (tables img) rows))
            (items_stored img)
            (create_item c r l f p)
            (lay.items.used + 1) done bytes new (item_row c l f p) refl
            (λ passed. passed.1.1.1.1.1.0)
            (e ∙ rw there refl),
      )

  pub item_bound : (c i l : ℕ)
      → first_no (questions (tables_by lay img) (bind c i l)) ≡ 0
      → new ≡ over_item lay.items i (with_list (item_in (tables_by lay img).items i) l) img
      → Settled img (bind c i l) (answer 0 0) new
  unfolding questions after change_result
  item_bound c i l zero e =
      let done : answer 0 0 ≡ (act img (bind c i l)).answer = act_done img o is (bind c i l) lay case 0 zero refl in (
        done,
        item_replaced img (bind c i l) 0 done bytes new i (with_list (item_in (tables img).items i) l) refl
            (λ passed. passed.1.0)
            (e ∙ rw there refl),
      )

  pub item_handed : (c i w : ℕ)
      → first_no (questions (tables_by lay img) (hand_over c i w)) ≡ 0
      → new ≡ over_item lay.items i (with_owner (item_in (tables_by lay img).items i) w) img
      → Settled img (hand_over c i w) (answer 0 0) new
  unfolding questions after change_result
  item_handed c i w zero e =
      let done : answer 0 0 ≡ (act img (hand_over c i w)).answer = act_done img o is (hand_over c i w) lay case 0 zero refl in (
        done,
        item_replaced img (hand_over c i w) 0 done bytes new i (with_owner (item_in (tables img).items i) w) refl
            (λ passed. passed.1.1.0)
            (e ∙ rw there refl),
      )

-- A call that changes one table: storing, removing or replacing the row leaves the
-- image that the call's definition gives. There is one law for each kind of change: three for any format, of which two
-- are for any key, and one for items.
use Rattle.std.specs.Prelude.{◌≡◌, ℕ, ◌≤◌, ◌||◌, T, List, [], ◌∷◌, ◌++◌, length, nat_lt, slice_index}
use Rattle.std.proofs.Common.{sym, ◌∙◌, Fits}
use Rattle.std.proofs.Math.Path.{ap}
use Rattle.std.specs.Int.{w8}
use Rattle.model.specs.declared.ItemRow.{ItemRow}
use Rattle.model.specs.declared.Table.{Table}
use Rattle.model.specs.Lists.{is_there}
use Rattle.model.specs.Sorted.{ascending, find_row, insertion_index, put, cut}
use Rattle.model.specs.Image.{Format, layout_of, tables_by, tables, rows_in, item_used, encode}
use Rattle.model.specs.Calls.{Change, with_items, set_item, after}
use Rattle.model.specs.Questions.{questions, answer, Accepted, act}
use Rattle.laws.specs.WellFormed.{Passed}
use Rattle.laws.specs.Acts.{was_passed, was_accepted, leaves, slice_bytes}
use Rattle.tables.specs.declared.RowIndex.{RowIndex}
use Rattle.tables.specs.RowIndices.{row_index}
use Rattle.store.specs.Stores.{items_counter}
use Rattle.store.specs.Stores.{stored_at, with_row, without_row, over_item}
use Rattle.store.specs.Stored.{Stored, items_stored, appended, item_stored, put_stored, cut_stored}

-- The image after a call c that answers 0.
module _ {A : Type 0} (f : Format A) (table : Table) (counter cap : ℕ) (img : List ℕ) (bytes_for : List A → List ℕ)
    (stored : Accepted img → Stored f table counter cap (rows_in f table img) img bytes_for)
    (c : Change) (v : ℕ) (so : answer 0 v ≡ (act img c).answer)
    (bytes : (i : ℕ) → Fits w8 (slice_index img i)) (new : List ℕ) where
  abbrev rows : List A
  rows = rows_in f table img

  accepted : Accepted img
  accepted = was_accepted img c v so (slice_bytes img bytes)

  done : {made : List ℕ} → new ≡ made → made ≡ encode (after (tables img) c) → new ≡ (act img c).image
  done e is = leaves img c v so new (e ∙ is)

  -- a row appended
  pub row_more : (x : A)
      → encode (after (tables img) c) ≡ bytes_for (rows ++ x ∷ [])
      → (Passed (questions (tables img) c) → T (nat_lt (length rows) cap))
      → new ≡ with_row f counter table table.used x img
      → new ≡ (act img c).image
  row_more x leaves-so free e =
      done e (appended f table counter cap img bytes_for (stored accepted) x (free (was_passed img c v so)) ∙ sym leaves-so)

  -- a row stored at its row index in a sorted table, and one removed from it; d is any row
  module _ (key : A → List ℕ) (d : A) (sorted : Accepted img → T (ascending key rows)) where
    pub row_set : (x : A) (index : RowIndex)
        → encode (after (tables img) c) ≡ bytes_for (put key x rows)
        → (Passed (questions (tables img) c) → T (is_there (find_row key (key x) rows) || nat_lt (length rows) cap))
        → index ≡ row_index key (key x) rows
        → new ≡ stored_at f counter table index x img
        → new ≡ (act img c).image
    row_set x index leaves-so free found e =
        done (e ∙ ap (λ (s : RowIndex). stored_at f counter table s x img) found)
        (put_stored f key d table counter cap img bytes_for (stored accepted) x (sorted accepted)
        (free (was_passed img c v so))
        ∙ sym leaves-so)

    pub row_cut : (k : List ℕ) (n : ℕ)
        → encode (after (tables img) c) ≡ bytes_for (cut key k rows)
        → (Passed (questions (tables img) c) → T (is_there (find_row key k rows)))
        → (Accepted img → length rows ≤ cap)
        → n ≡ insertion_index key k rows
        → new ≡ without_row f counter table n img
        → new ≡ (act img c).image
    row_cut k n leaves-so there few found e =
        done (e ∙ ap (λ (i : ℕ). without_row f counter table i img) found)
        (cut_stored f key d table counter cap img bytes_for (stored accepted) k (sorted accepted)
        (there (was_passed img c v so)) (few accepted)
        ∙ sym leaves-so)

-- an item's row replaced
module _ (img : List ℕ) (c : Change) (v : ℕ) (so : answer 0 v ≡ (act img c).answer)
    (bytes : (i : ℕ) → Fits w8 (slice_index img i)) (new : List ℕ) where
  pub item_replaced : (i : ℕ) (x : ItemRow)
      → after (tables img) c ≡ with_items (tables img) (set_item (tables img).items i x)
      → (Passed (questions (tables img) c) → T (item_used (tables img).items i))
      → new ≡ over_item (layout_of img).items i x img
      → new ≡ (act img c).image
  unfolding tables_by
  item_replaced i x leaves-so used e =
      let accepted : Accepted img = was_accepted img c v so (slice_bytes img bytes) in
      leaves img c v so new
      (e
      ∙ item_stored (layout_of img).items items_counter (tables img).capacities.items img
      (λ rows. encode (with_items (tables img) rows)) (items_stored img accepted) i x
      (used (was_passed img c v so))
      ∙ ap encode (sym leaves-so))

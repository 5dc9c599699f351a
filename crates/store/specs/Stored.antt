-- An accepted image: a row inserted into one of its tables, removed or replaced gives the bytes of the tables after this change.
use Rattle.std.specs.Prelude.{◌≡◌, ℕ, zero, suc, ◌+◌, ◌<◌, ◌≤◌, cond, ◌||◌, T, List, [], ◌∷◌, ◌++◌, length, take, drop, nat_lt, None, Option, Some}
use Rattle.std.proofs.Math.Path.{refl}
use Rattle.std.proofs.Common.{sym, ap, ◌∙◌, le_of_eq, arith, ltb→lt}
use Rattle.std.proofs.lemmas.List.{set_split}
use Rattle.std.proofs.Math.Seq.{take-length, drop-length}
use Rattle.model.specs.declared.Table.{Table}
use Rattle.model.specs.declared.Layout.{Layout}
use Rattle.model.specs.declared.ItemRow.{ItemRow}
use Rattle.std.specs.List.{AllByRecursion}
use Rattle.model.specs.Lists.{is_there}
use Rattle.model.specs.Sorted.{ascending, find_row, insertion_index, put, cut}
use Rattle.model.specs.Image.{Tables, Format, Block, width_of, width_in, layout_of, tables, rows_in}
use Rattle.model.specs.Image.{subject_format, grant_format, line_format, item_format, no_item, item_used, blocks}
use Rattle.model.specs.Image.{block_of, encode}
use Rattle.model.specs.Calls.{with_subjects, with_grants, with_lines, with_items, set_item}
use Rattle.model.specs.Questions.{Accepted}
use Rattle.laws.specs.WellFormed.{Fitting, fitting}
use Rattle.laws.specs.Rows.{Lawful, rows_count, subject_lawful, grant_lawful, line_lawful, item_lawful}
use Rattle.laws.specs.Sorted.{index_le, found_index, put_new, put_over, cut_found}
use Rattle.laws.specs.Back.{encode_back, tables_well_formed}
use Rattle.laws.specs.There.{Sized, sizes, lay, layout_there}
use Rattle.tables.specs.declared.RowIndex.TheVariants.{Existing, New}
use Rattle.tables.specs.RowIndices.{row_index}
use Rattle.store.specs.Stores.{stored_at, subjects_counter, grants_counter, lines_counter, items_counter}
use Rattle.store.specs.Stores.{with_row, without_row, over_row, over_item}
use Rattle.store.specs.Splices.{start_of, counter_of, around}
use Rattle.store.specs.RowSplices.{whole, row_added_lem, row_taken_lem, row_over}

-- What the three changes make of an image whose table holds the rows xs: the bytes that stand for the rows afterwards.
pub record Stored {A : Type 0} (f : Format A) (table : Table) (counter cap : ℕ) (xs : List A) (img : List ℕ)
    (bytes_for : List A → List ℕ) : Type 0 where
  pub row_in : (k : ℕ) (x : A) → k ≤ length xs → length xs < cap
      → with_row f counter table k x img ≡ bytes_for (take k xs ++ x ∷ drop k xs)
  pub row_out : (k : ℕ) (d : A) → k < length xs → length xs ≤ cap
      → without_row f counter table k img ≡ bytes_for (take k xs ++ drop (suc k) xs)
  pub row_replaced : (k : ℕ) (d x : A) → k < length xs
      → over_row f table k x img ≡ bytes_for (take k xs ++ x ∷ drop (suc k) xs)

-- They do so if the table stands between the blocks in front of it and those behind it.
module _ {A : Type 0} (f : Format A) (law : Lawful f) (front back : List Block)
    (count : length front + length back ≡ 3) (sized : AllByRecursion Sized front) (cap : ℕ) where
  abbrev holds : List A → List ℕ
  holds = whole f law front back count sized cap

  stored_between : (img : List ℕ) (xs : List A) (table : Table) (bytes_for : List A → List ℕ)
      → img ≡ bytes_for xs
      → ((rows : List A) → bytes_for rows ≡ holds rows)
      → table.used ≡ length xs
      → table.start ≡ start_of front back
      → Stored f table (counter_of front back) cap xs img bytes_for
  stored_between img xs table bytes_for is hold used start =
      let now_is : img ≡ holds xs = is ∙ hold xs in
      record {
        row_in = λ k x within less. rw (now_is, used, start) (row_added_lem f law front back count sized cap xs k x within less)
            ∙ sym (hold (take k xs ++ x ∷ drop k xs));
        row_out = λ k d within few. rw (now_is, used, start) (row_taken_lem f law front back count sized cap xs k d within few)
            ∙ sym (hold (take k xs ++ drop (suc k) xs));
        row_replaced = λ k d x within. rw (now_is, start) (row_over f law front back count sized cap xs k d within x)
            ∙ sym (hold (take k xs ++ x ∷ drop (suc k) xs));
      }

-- They do so for the four tables of an image that is the bytes of fitting tables.
module _ (t : Tables) (good : Fitting t) (img : List ℕ) (is : img ≡ encode t) where
  -- a number of the image's layout is the one that the blocks give
  number_is : {n : ℕ} (number : Layout → ℕ) → number (lay t good) ≡ n → number (layout_of img) ≡ n
  number_is number e = ap (λ (s : List ℕ). number (layout_of s)) is ∙ ap number (layout_there t good) ∙ e

  pub subjects_in : Stored (subject_format (width_in t)) (layout_of img).subjects subjects_counter t.capacities.subjects t.subjects img
      (λ rows. encode (with_subjects t rows))
  unfolding encode block_of
  subjects_in =
      stored_between (subject_format (width_in t)) (subject_lawful (width_in t)) (take 0 (blocks t)) (drop 1 (blocks t)) refl tt
      t.capacities.subjects img t.subjects (layout_of img).subjects (λ rows. encode (with_subjects t rows)) is
      (λ rows. around (take 0 (blocks t)) (drop 1 (blocks t)) (block_of (subject_format (width_in t)) t.capacities.subjects rows))
      (number_is (λ l. l.subjects.used) refl)
      (number_is (λ l. l.subjects.start) (omega arith))

  pub grants_in : Stored (grant_format (width_in t)) (layout_of img).grants grants_counter t.capacities.grants t.grants img
      (λ rows. encode (with_grants t rows))
  unfolding encode block_of
  grants_in =
      stored_between (grant_format (width_in t)) (grant_lawful (width_in t)) (take 1 (blocks t)) (drop 2 (blocks t)) refl
      ((sizes t good).0, tt)
      t.capacities.grants img t.grants (layout_of img).grants (λ rows. encode (with_grants t rows)) is
      (λ rows. around (take 1 (blocks t)) (drop 2 (blocks t)) (block_of (grant_format (width_in t)) t.capacities.grants rows))
      (number_is (λ l. l.grants.used) refl)
      (number_is (λ l. l.grants.start) (omega arith))

  pub lines_in : Stored (line_format (width_in t)) (layout_of img).lines lines_counter t.capacities.lines t.lines img
      (λ rows. encode (with_lines t rows))
  unfolding encode block_of
  lines_in =
      stored_between (line_format (width_in t)) (line_lawful (width_in t)) (take 2 (blocks t)) (drop 3 (blocks t)) refl
      ((sizes t good).0, ((sizes t good).1.0, tt))
      t.capacities.lines img t.lines (layout_of img).lines (λ rows. encode (with_lines t rows)) is
      (λ rows. around (take 2 (blocks t)) (drop 3 (blocks t)) (block_of (line_format (width_in t)) t.capacities.lines rows))
      (number_is (λ l. l.lines.used) refl)
      (number_is (λ l. l.lines.start) (omega arith))

  pub items_in : Stored item_format (layout_of img).items items_counter t.capacities.items t.items img
      (λ rows. encode (with_items t rows))
  unfolding encode block_of
  items_in =
      stored_between item_format item_lawful (take 3 (blocks t)) (drop 4 (blocks t)) refl
      ((sizes t good).0, ((sizes t good).1.0, ((sizes t good).1.1.0, tt)))
      t.capacities.items img t.items (layout_of img).items (λ rows. encode (with_items t rows)) is
      (λ rows. around (take 3 (blocks t)) (drop 4 (blocks t)) (block_of item_format t.capacities.items rows))
      (number_is (λ l. l.items.used) refl)
      (number_is (λ l. l.items.start) (omega arith))

-- An accepted image is the bytes of its tables, and they fit.
module _ (img : List ℕ) (accepted : Accepted img) where
  abbrev t : Tables
  t = tables img

  abbrev w : ℕ
  w = width_of (layout_of img)

  good : Fitting t
  good = fitting (tables_well_formed img accepted)

  is : img ≡ encode t
  is = sym (encode_back img accepted)

  pub subjects_stored : Stored (subject_format w) (layout_of img).subjects subjects_counter t.capacities.subjects t.subjects img
      (λ rows. encode (with_subjects t rows))
  subjects_stored = subjects_in t good img is

  pub grants_stored : Stored (grant_format w) (layout_of img).grants grants_counter t.capacities.grants t.grants img
      (λ rows. encode (with_grants t rows))
  grants_stored = grants_in t good img is

  pub lines_stored : Stored (line_format w) (layout_of img).lines lines_counter t.capacities.lines t.lines img
      (λ rows. encode (with_lines t rows))
  lines_stored = lines_in t good img is

  pub items_stored : Stored item_format (layout_of img).items items_counter t.capacities.items t.items img
      (λ rows. encode (with_items t rows))
  items_stored = items_in t good img is

-- A row appended, as subjects and items are, and an item's row replaced.

module _ {A : Type 0} (f : Format A) (table : Table) (counter cap : ℕ) (img : List ℕ) (bytes_for : List A → List ℕ)
    (stored : Stored f table counter cap (rows_in f table img) img bytes_for) where
  abbrev rows : List A
  rows = rows_in f table img

  pub appended : (x : A) → T (nat_lt (length rows) cap) → with_row f counter table table.used x img ≡ bytes_for (rows ++ x ∷ [])
  appended x free =
      let less : length rows < cap = ltb→lt (length rows) cap free in
      let last : take (length rows) rows ++ x ∷ drop (length rows) rows ≡ rows ++ x ∷ [] = rw (take-length rows, drop-length rows) in
      ap (λ (k : ℕ). with_row f counter table k x img) (sym (rows_count f table img))
      ∙ stored.row_in (length rows) x (le_of_eq refl) less
      ∙ ap bytes_for last

pub item_stored : (table : Table) (counter cap : ℕ) (img : List ℕ) (bytes_for : List ItemRow → List ℕ)
    → Stored item_format table counter cap (rows_in item_format table img) img bytes_for
    → (i : ℕ) (x : ItemRow)
    → T (item_used (rows_in item_format table img) i)
    → over_item table i x img ≡ bytes_for (set_item (rows_in item_format table img) i x)
item_stored table counter cap img bytes_for stored zero x used = absurd used
item_stored table counter cap img bytes_for stored (suc n) x used =
    let there : n < length (rows_in item_format table img) = ltb→lt n (length (rows_in item_format table img)) used in
    stored.row_replaced n no_item x there ∙ ap bytes_for (sym (set_split (rows_in item_format table img) n x there))

-- A row stored at its row index and a row removed at its index, in a table of an accepted image.
module _ {A : Type 0} (f : Format A) (key : A → List ℕ) (d : A) (table : Table) (counter cap : ℕ) (img : List ℕ)
    (bytes_for : List A → List ℕ) (stored : Stored f table counter cap (rows_in f table img) img bytes_for) where
  abbrev xs : List A
  xs = rows_in f table img

  pub put_stored : (x : A) → T (ascending key xs) → T (is_there (find_row key (key x) xs) || nat_lt (length xs) cap)
      → stored_at f counter table (row_index key (key x) xs) x img ≡ bytes_for (put key x xs)
  put_stored x up free = go (find_row key (key x) xs) refl free
    where
      go : (o : Option A) → find_row key (key x) xs ≡ o → T (is_there o || nat_lt (length xs) cap)
          → stored_at f counter table
          (cond (is_there o) (Existing (insertion_index key (key x) xs)) (New (insertion_index key (key x) xs))) x img
          ≡ bytes_for (put key x xs)
      go None e u =
          stored.row_in (insertion_index key (key x) xs) x (index_le key (key x) xs up) (ltb→lt (length xs) cap u)
          ∙ ap bytes_for (sym (put_new key x xs up e))
      go (Some y) e u =
          stored.row_replaced (insertion_index key (key x) xs) d x (found_index key (key x) xs y up e)
          ∙ ap bytes_for (sym (put_over key x xs y up e))

  pub cut_stored : (k : List ℕ) → T (ascending key xs) → T (is_there (find_row key k xs)) → length xs ≤ cap
      → without_row f counter table (insertion_index key k xs) img ≡ bytes_for (cut key k xs)
  cut_stored k up there few = go (find_row key k xs) refl there
    where
      go : (o : Option A) → find_row key k xs ≡ o → T (is_there o)
          → without_row f counter table (insertion_index key k xs) img ≡ bytes_for (cut key k xs)
      go None e u = absurd u
      go (Some y) e u =
          stored.row_out (insertion_index key k xs) d (found_index key k xs y up e) few ∙ ap bytes_for (sym (cut_found key k xs y up e))

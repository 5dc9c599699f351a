-- One row of a table added, removed or replaced, as bytes. A table's count stands at an offset in the header.
use Rattle.std.specs.Prelude.{ℕ, zero, suc, ◌+◌, ◌*◌, List}
use Rattle.model.specs.declared.Table.{Table}
use Rattle.model.specs.declared.ItemRow.{ItemRow}
use Rattle.model.specs.Image.{Format, size, row_in_bytes, item_format}
use Rattle.fields.specs.Edits.{put_bytes}
use Rattle.tables.specs.declared.RowIndex.{RowIndex}
use Rattle.tables.specs.declared.RowIndex.TheVariants.{Existing, New}
use Rattle.store.specs.Moves.{row_added, row_taken}

-- the offsets of the counts in the header: its fields 0, 2, 4 and 6
abbrev pub subjects_counter : ℕ
subjects_counter = 0

abbrev pub grants_counter : ℕ
grants_counter = 8

abbrev pub lines_counter : ℕ
lines_counter = 16

abbrev pub items_counter : ℕ
items_counter = 24

module _ {A : Type 0} (f : Format A) where
  -- the offset of the row with index n of a table
  abbrev pub row_offset : Table → ℕ → ℕ
  row_offset t n = t.start + n * size f

  -- x inserted as the row with index n
  abbrev pub with_row : ℕ → Table → ℕ → A → List ℕ → List ℕ
  with_row counter t n x s = row_added s counter t.used (row_offset t n) (row_offset t t.used) (row_in_bytes f x)

  -- the row with index n removed
  abbrev pub without_row : ℕ → Table → ℕ → List ℕ → List ℕ
  without_row counter t n s = row_taken s counter t.used (row_offset t n) (row_offset t t.used) (size f)

  -- x written over the row with index n
  abbrev pub over_row : Table → ℕ → A → List ℕ → List ℕ
  over_row t n x s = put_bytes s (row_offset t n) (row_in_bytes f x)

-- x written over item i: item n is the row with index n - 1, and 0 is no item
abbrev pub over_item : Table → ℕ → ItemRow → List ℕ → List ℕ
over_item t zero x s = s
over_item t (suc n) x s = over_row item_format t n x s

module _ {A : Type 0} (f : Format A) where
  -- a row stored at a row index
  abbrev pub stored_at : ℕ → Table → RowIndex → A → List ℕ → List ℕ
  stored_at counter t (Existing n) x s = over_row f t n x s
  stored_at counter t (New n) x s = with_row f counter t n x s

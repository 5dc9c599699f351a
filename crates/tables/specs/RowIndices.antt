-- The row index of a key in its sorted table: what the search for the key answers, without the row.
use Rattle.std.specs.Prelude.{Bool, true, false, cond, List, ℕ}
use Rattle.model.specs.Lists.{is_there}
use Rattle.model.specs.Sorted.{Found, search}
use Rattle.tables.specs.declared.RowIndex.{RowIndex}
use Rattle.tables.specs.declared.RowIndex.TheVariants.{Existing, New}

abbrev pub is_existing : RowIndex → Bool
is_existing (Existing n) = true
is_existing (New n) = false

abbrev pub index_in : RowIndex → ℕ
index_in (Existing n) = n
index_in (New n) = n

-- the index of the row that is there, or the insertion index of a new row
abbrev pub row_index_of : {A : Type 0} → Found A → RowIndex
row_index_of f = cond (is_there f.row) (Existing f.index) (New f.index)

abbrev pub row_index : {A : Type 0} → (A → List ℕ) → List ℕ → List A → RowIndex
row_index key k xs = row_index_of (search key k xs)

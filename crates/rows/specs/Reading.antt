-- What the contracts of `rows` cite beside the definitions of `model`: a row from its fields, the slice of a row, the slice of
-- a table's rows, and the slice of a row in that.
use Rattle.std.specs.Prelude.{◌&&◌, cond, List, [], ℕ, replicate, ◌+◌, ◌*◌, ◌/◌, leb, ltb, length, take, drop}
use Rattle.model.specs.declared.Table.{Table}
use Rattle.model.specs.Image.{Format, size, fields_at}

-- the slice of the row with index k, in a table whose rows have n bytes; empty if the row is not in use or runs past the end
unfoldable pub row_slice : Table → ℕ → ℕ → List ℕ → List ℕ
row_slice t n k s = cond (ltb k t.used && leb (t.start + k * n + n) (length s)) (take n (drop (t.start + k * n) s)) []

-- the slice of a table's rows in use, as far as s has them; the rows have n bytes
unfoldable pub used_slice : ℕ → Table → List ℕ → List ℕ
used_slice n t s = take (t.used * n) (drop t.start s)

-- the slice of the row with index k in such a slice s; empty if s does not have the whole row
unfoldable pub among_slice : ℕ → ℕ → List ℕ → List ℕ
among_slice n k s = cond (ltb k (length s / n)) (take n (drop (k * n) s)) []

module _ {A : Type 0} (f : Format A) where
  -- the row of the fields that s begins with
  abbrev pub row_of : List ℕ → A
  row_of s = f.row (fields_at f.widths s 0)

  abbrev pub rows_slice : Table → List ℕ → List ℕ
  rows_slice t s = used_slice (size f) t s

  -- the row of zeros
  abbrev pub zero_row : A
  zero_row = f.row (replicate (length f.widths) 0)

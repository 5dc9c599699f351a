-- A row stored in a table and a row removed from it, as bytes: the edit of the rows in use, and their count in the header.
use Rattle.std.specs.Prelude.{ℕ, ◌+◌, ◌-◌, cond, ◌&&◌, List, ◌++◌, length, take, drop, nat_le}
use Rattle.model.specs.Image.{bytes_of}
use Rattle.fields.specs.Edits.{put_bytes, insert_bytes, remove_bytes}

-- the first e bytes of s edited
abbrev pub in_first : ℕ → (List ℕ → List ℕ) → List ℕ → List ℕ
in_first e edit s = edit (take e s) ++ drop e s

-- A row inserted at the offset at of a table whose rows in use end at the offset end, and counted. The offset at is
-- meant to be that of a row in use, or end. Behind end nothing is inserted, and the row is counted all the same.
unfoldable pub row_added : List ℕ → ℕ → ℕ → ℕ → ℕ → List ℕ → List ℕ
row_added s counter used at end row =
    cond (nat_le (end + length row) (length s))
    (put_bytes (in_first (end + length row) (λ p. insert_bytes p at row) s) counter (bytes_of 4 (used + 1)))
    s

-- The n bytes of a row removed at the offset at of such a table, and no longer counted. If they run past end, only
-- the count changes.
unfoldable pub row_taken : List ℕ → ℕ → ℕ → ℕ → ℕ → ℕ → List ℕ
row_taken s counter used at end n =
    cond (nat_le end (length s) && nat_le 1 used) (put_bytes (in_first end (λ p. remove_bytes p at n) s) counter (bytes_of 4 (used - 1))) s

-- What the edits do to a list of bytes. They are defined for every offset: what does not fit changes nothing.
use Rattle.std.specs.Prelude.{cond, List, ◌++◌, ℕ, ◌+◌, ◌-◌, length, take, drop, replicate, leb}

-- new written over the bytes from offset at on
unfoldable pub put_bytes : List ℕ → ℕ → List ℕ → List ℕ
put_bytes s at new = cond (leb (at + length new) (length s)) (take at s ++ new ++ drop (at + length new) s) s

-- a row inserted at an offset: the bytes from there on move up, and the last bytes, as many as the row has, are lost
unfoldable pub insert_bytes : List ℕ → ℕ → List ℕ → List ℕ
insert_bytes s at row = cond (leb (at + length row) (length s)) (take at s ++ row ++ drop at (take (length s - length row) s)) s

-- n bytes removed at an offset: the bytes behind them move down, and the freed bytes at the end are zero
unfoldable pub remove_bytes : List ℕ → ℕ → ℕ → List ℕ
remove_bytes s at n = cond (leb (at + n) (length s)) (take at s ++ drop (at + n) s ++ replicate n 0) s

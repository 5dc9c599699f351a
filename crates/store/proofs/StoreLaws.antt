-- The stores follow from what the callees do.
use Rattle.std.specs.Prelude.{◌≡◌, ℕ, ◌+◌, ◌-◌, ◌%◌, ◌^◌, ◌<◌, ◌≤◌, List, ◌++◌, length, take, drop, ◌≢◌}
use Rattle.std.proofs.Common.{arith}
use borrow.Author.Tests.{le-leb, lt-leb}
use Rattle.model.specs.declared.Table.{Table}
use Rattle.model.specs.Image.{Format, size, row_in_bytes, bytes_of}
use Rattle.laws.specs.Fields.{bytes_mod}
use Rattle.laws.specs.Rows.{Lawful, row_long}
use Rattle.fields.specs.Edits.{put_bytes, insert_bytes, remove_bytes}
use Rattle.store.specs.Moves.{row_added, row_taken}
use Rattle.store.specs.Stores.{with_row, without_row, row_offset}

module _ {A : Type 0} (f : Format A) (law : Lawful f) (counter : ℕ) (t : Table) (n : ℕ) where
  module _ (x : A) (s : List ℕ) where
    pub not_added : (end m : ℕ) → end ≡ row_offset f t t.used → m ≡ size f → length s < end + m → s ≡ with_row f counter t n x s
    unfolding row_added
    not_added end m ends sized out =
        let long : length (row_in_bytes f x) ≡ size f = row_long f law x in
        rw (lt-leb (row_offset f t t.used + length (row_in_bytes f x)) (length s) (omega arith))

    pub added : row_offset f t t.used + size f ≤ length s → (k : ℕ) (q : List ℕ)
        → k ≡ row_offset f t t.used + size f
        → q ≡ insert_bytes (take k s) (row_offset f t n) (row_in_bytes f x)
        → put_bytes (q ++ drop k s) counter (bytes_of 4 ((t.used + 1) % 2 ^ 32)) ≡ with_row f counter t n x s
    unfolding row_added
    added fits k q behind made =
        let long : length (row_in_bytes f x) ≡ size f = row_long f law x in
        let whole : k ≡ row_offset f t t.used + length (row_in_bytes f x) = omega arith in
        rw (
          made,
          whole,
          bytes_mod 4 (t.used + 1),
          le-leb (row_offset f t t.used + length (row_in_bytes f x)) (length s) (omega arith),
        )

  module _ (s : List ℕ) where
    pub none_taken : (end : ℕ) → end ≡ row_offset f t t.used → length s < end → s ≡ without_row f counter t n s
    unfolding row_taken
    none_taken end ends out = rw (lt-leb (row_offset f t t.used) (length s) (omega arith))

    pub none_there : row_offset f t t.used ≤ length s → t.used ≡ 0 → s ≡ without_row f counter t n s
    unfolding row_taken
    none_there fits none = rw (le-leb (row_offset f t t.used) (length s) fits, lt-leb 1 t.used (omega arith))

    pub taken : row_offset f t t.used ≤ length s → t.used ≢ 0 → (q : List ℕ)
        → q ≡ remove_bytes (take (row_offset f t t.used) s) (row_offset f t n) (size f)
        → put_bytes (q ++ drop (row_offset f t t.used) s) counter (bytes_of 4 (t.used - 1)) ≡ without_row f counter t n s
    unfolding row_taken
    taken fits some q made =
        let one : 1 ≤ t.used = omega arith in
        rw (made, le-leb (row_offset f t t.used) (length s) fits, le-leb 1 t.used one)

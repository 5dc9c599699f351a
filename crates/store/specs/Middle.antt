-- Edits in the middle of bytes that are written as several lists one after the other.
use Rattle.std.specs.Prelude.{◌≡◌, ℕ, ◌+◌, ◌-◌, ◌≤◌, List, ◌++◌, length, take, drop, replicate}
use Rattle.std.proofs.Common.{append_assoc, arith, le-leb, length-append, take_at, drop_at}
use Rattle.fields.specs.Edits.{put_bytes, insert_bytes, remove_bytes}
use Rattle.store.specs.Moves.{in_first}

pub put_mid : (u r v a : List ℕ) (at : ℕ) → length u ≡ at → length r ≡ length a → put_bytes (u ++ (r ++ v)) at a ≡ u ++ (a ++ v)
unfolding put_bytes
put_mid u r v a at here long =
    let whole : length (u ++ (r ++ v)) ≡ length u + (length r + length v) = rw (length-append u (r ++ v), length-append r v) in
    let fits : at + length a ≤ length (u ++ (r ++ v)) = omega arith in
    let head : length (u ++ r) ≡ at + length a = rw (length-append u r, here, long) in
    let front : take at (u ++ (r ++ v)) ≡ u = take_at u (r ++ v) at here in
    let behind : drop (at + length a) (u ++ (r ++ v)) ≡ v =
    rw (← append_assoc u r v) (drop_at (u ++ r) v (at + length a) head) in
    rw (le-leb (at + length a) (length (u ++ (r ++ v))) fits, front, behind, append_assoc u a v)

-- a row inserted behind u, where the bytes z behind v are free
pub insert_mid : (u v z q row : List ℕ) (at end : ℕ) → length u ≡ at → at + length v ≡ end → length z ≡ length row
    → in_first (end + length row) (λ p. insert_bytes p at row) (u ++ (v ++ (z ++ q))) ≡ u ++ (row ++ (v ++ q))
unfolding insert_bytes
insert_mid u v z q row at end here ends free =
    let uv : length (u ++ v) ≡ end = rw (length-append u v, here) ends in
    let uvz : length (u ++ v ++ z) ≡ end + length row = rw (length-append (u ++ v) z, uv, free) in
    let pieces : u ++ (v ++ (z ++ q)) ≡ u ++ v ++ z ++ q = rw (append_assoc (u ++ v) z q, append_assoc u v (z ++ q)) in
    let first : take (end + length row) (u ++ (v ++ (z ++ q))) ≡ u ++ v ++ z = rw pieces (take_at (u ++ v ++ z) q (end + length row) uvz) in
    let rest : drop (end + length row) (u ++ (v ++ (z ++ q))) ≡ q = rw pieces (drop_at (u ++ v ++ z) q (end + length row) uvz) in
    let fits : at + length row ≤ length (u ++ v ++ z) = omega arith in
    let front : take at (u ++ v ++ z) ≡ u = rw (append_assoc u v z) (take_at u (v ++ z) at here) in
    let moved : length (u ++ v ++ z) - length row ≡ end = omega arith in
    let kept : take end (u ++ v ++ z) ≡ u ++ v = take_at (u ++ v) z end uv in
    let tail : drop at (u ++ v) ≡ v = drop_at u v at here in
    rw (
      first,
      rest,
      le-leb (at + length row) (length (u ++ v ++ z)) fits,
      front,
      moved,
      kept,
      tail,
      append_assoc (u ++ row) v q,
      append_assoc u row (v ++ q),
    )

-- the bytes r removed behind u: v moves down, and as many zeros follow it
pub remove_mid : (u r v q : List ℕ) (at end n : ℕ) → length u ≡ at → length r ≡ n → at + n + length v ≡ end
    → in_first end (λ p. remove_bytes p at n) (u ++ (r ++ (v ++ q))) ≡ u ++ (v ++ (replicate n 0 ++ q))
unfolding remove_bytes
remove_mid u r v q at end n here long ends =
    let ur : length (u ++ r) ≡ at + n = rw (length-append u r, here, long) in
    let urv : length (u ++ r ++ v) ≡ end = rw (length-append (u ++ r) v, ur) ends in
    let pieces : u ++ (r ++ (v ++ q)) ≡ u ++ r ++ v ++ q = rw (append_assoc (u ++ r) v q, append_assoc u r (v ++ q)) in
    let first : take end (u ++ (r ++ (v ++ q))) ≡ u ++ r ++ v = rw pieces (take_at (u ++ r ++ v) q end urv) in
    let rest : drop end (u ++ (r ++ (v ++ q))) ≡ q = rw pieces (drop_at (u ++ r ++ v) q end urv) in
    let fits : at + n ≤ length (u ++ r ++ v) = omega arith in
    let front : take at (u ++ r ++ v) ≡ u = rw (append_assoc u r v) (take_at u (r ++ v) at here) in
    let behind : drop (at + n) (u ++ r ++ v) ≡ v = drop_at (u ++ r) v (at + n) ur in
    rw (
      first,
      rest,
      le-leb (at + n) (length (u ++ r ++ v)) fits,
      front,
      behind,
      append_assoc (u ++ v) (replicate n 0) q,
      append_assoc u v (replicate n 0 ++ q),
    )

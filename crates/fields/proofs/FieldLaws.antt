-- A field of four bytes as the code reads it, byte by byte.
use Rattle.std.specs.Prelude.{List, [], ◌∷◌, ◌≡◌, ℕ, suc, ◌+◌, ◌<◌, ◌≤◌, length, get_or, take, drop}
use Rattle.std.proofs.Common.{arith, drop-cons, le-leb}
use Rattle.std.proofs.lemmas.Bool.{lt-leb}
use Rattle.std.specs.Int.{w32, from_le_bytes}
use Rattle.model.specs.Image.{value, field_at}

pub four_bytes : (s : List ℕ) (at : ℕ)
    → at + 4 ≤ length s
    → take 4 (drop at s) ≡ get_or s at 0 ∷ get_or s (at + 1) 0 ∷ get_or s (at + 2) 0 ∷ get_or s (at + 3) 0 ∷ []
four_bytes s at h =
    let a : at < length s = omega arith in
    let b : suc at < length s = omega arith in
    let c : suc (suc at) < length s = omega arith in
    let d : suc (suc (suc at)) < length s = omega arith in
    let one : suc at ≡ at + 1 = omega arith in
    let two : suc (suc at) ≡ at + 2 = omega arith in
    let three : suc (suc (suc at)) ≡ at + 3 = omega arith in
    rw (
      drop-cons s at 0 a,
      drop-cons s (suc at) 0 b,
      drop-cons s (suc (suc at)) 0 c,
      drop-cons s (suc (suc (suc at))) 0 d,
      ← one,
      ← two,
      ← three,
    )

four_joined : (a b c d : ℕ) → from_le_bytes w32 (a ∷ b ∷ c ∷ d ∷ []) ≡ value (a ∷ b ∷ c ∷ d ∷ [])
four_joined a b c d = omega arith

pub field_past : (s : List ℕ) (at : ℕ) → length s < at + 4 → 0 ≡ field_at 4 s at
unfolding field_at
field_past s at out = rw (lt-leb (at + 4) (length s) out)

pub field_read : (s : List ℕ) (at r : ℕ)
    → at + 4 ≤ length s
    → r ≡ from_le_bytes w32 (get_or s at 0 ∷ get_or s (at + 1) 0 ∷ get_or s (at + 2) 0 ∷ get_or s (at + 3) 0 ∷ [])
    → r ≡ field_at 4 s at
unfolding field_at
field_read s at r fits e = rw (e, four_joined, le-leb (at + 4) (length s) fits, four_bytes s at fits)

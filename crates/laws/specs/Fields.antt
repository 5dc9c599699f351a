-- Fields and rows of fields, for any width. A number that is written as bytes is read back from them, and bytes that are read
-- as a number are written back from it.
use Rattle.std.specs.Prelude.{Bool, true, false, cond, List, [], ◌∷◌, ◌++◌, ◌≡◌, refl, ℕ, zero, suc, ◌+◌, ◌*◌, ◌/◌}
use Rattle.std.specs.Prelude.{◌%◌, ◌^◌, ◌<◌, ◌≤◌, leb, length, take, drop, replicate}
use Rattle.std.proofs.Common.{append_assoc, ⊎_elim, sym, ap, ◌∙◌, add-zero, zero-add, add_assoc, arith, le-leb, lit<}
use Rattle.std.proofs.Common.{length-append, length-drop, take_at, drop_at, take-add, drop-drop, length-take-le}
use Rattle.std.proofs.lemmas.Bool.{lt-leb}
use Rattle.std.proofs.Math.Arith.{mod-mul}
use Rattle.model.specs.Lists.{Bytes, total}
use Rattle.model.specs.Image.{value, bytes_of, field_at, fields_at, row_bytes}
use Rattle.laws.specs.Tests.{le_or_lt, all_append}
use Rattle.laws.specs.WellFormed.{Fit}

-- A number and its bytes.

pub bytes_length : (k v : ℕ) → length (bytes_of k v) ≡ k
bytes_length zero v = refl
bytes_length (suc k) v = ap suc (bytes_length k (v / 256))

pub bytes_bytes : (k v : ℕ) → Bytes (bytes_of k v)
bytes_bytes zero v = tt
bytes_bytes (suc k) v = (omega arith, bytes_bytes k (v / 256))

pub value_bytes : (k v : ℕ) → v < 256 ^ k → value (bytes_of k v) ≡ v
value_bytes zero v h = omega arith
value_bytes (suc k) v h =
    let below : v / 256 < 256 ^ k = omega arith in
    rw (value_bytes k (v / 256) below) (omega arith)

pub bytes_value : (s : List ℕ) → Bytes s → bytes_of (length s) (value s) ≡ s
bytes_value [] b = refl
bytes_value (x ∷ s) b =
    let x_byte : x < 256 = b.0 in
    let low : (x + 256 * value s) % 256 ≡ x = omega arith in
    let high : (x + 256 * value s) / 256 ≡ value s = omega arith in
    rw (low, high, bytes_value s b.1)

pub value_below : (s : List ℕ) → Bytes s → value s < 256 ^ length s
value_below [] b = lit< tt
value_below (x ∷ s) b =
    let x_byte : x < 256 = b.0 in
    let rest : value s < 256 ^ length s = value_below s b.1 in
    let whole : x + 256 * value s < 256 ^ suc (length s) = omega arith in
    whole

power_positive : (k : ℕ) → 0 < 256 ^ k
power_positive zero = lit< tt
power_positive (suc k) = let h : 0 < 256 ^ k = power_positive k in omega arith

-- k bytes hold a number modulo 256 ^ k

head_tail : (x q r : ℕ) → x ≡ q * 256 + r → r < 256 → (x % 256 ≡ r) × (x / 256 ≡ q)
head_tail x q r e h = (omega arith, omega arith)

pub bytes_mod : (k v : ℕ) → bytes_of k (v % 256 ^ k) ≡ bytes_of k v
bytes_mod zero v = refl
bytes_mod (suc k) v =
    let split : v % (256 ^ k * 256) ≡ v / 256 % 256 ^ k * 256 + v % 256 = mod-mul v (power_positive k) (lit< tt) in
    let power : 256 ^ suc k ≡ 256 ^ k * 256 = omega arith in
    let whole : v % 256 ^ suc k ≡ v / 256 % 256 ^ k * 256 + v % 256 = ap (λ (m : ℕ). v % m) power ∙ split in
    let byte : v % 256 < 256 = omega arith in
    let pieces = head_tail (v % 256 ^ suc k) (v / 256 % 256 ^ k) (v % 256) whole byte in
    rw (pieces.0, pieces.1, bytes_mod k (v / 256))

-- Slices of bytes.

pub bytes_take : (n : ℕ) (s : List ℕ) → Bytes s → Bytes (take n s)
bytes_take zero [] b = tt
bytes_take zero (x ∷ s) b = tt
bytes_take (suc n) [] b = tt
bytes_take (suc n) (x ∷ s) b = (b.0, bytes_take n s b.1)

pub bytes_drop : (n : ℕ) (s : List ℕ) → Bytes s → Bytes (drop n s)
bytes_drop zero [] b = tt
bytes_drop zero (x ∷ s) b = b
bytes_drop (suc n) [] b = tt
bytes_drop (suc n) (x ∷ s) b = bytes_drop n s b.1

-- A field at an offset.

pub field_in : (k : ℕ) (s : List ℕ) (at : ℕ) → at + k ≤ length s → field_at k s at ≡ value (take k (drop at s))
unfolding field_at
field_in k s at h = rw (le-leb (at + k) (length s) h)

pub field_out : (k : ℕ) (s : List ℕ) (at : ℕ) → length s < at + k → field_at k s at ≡ 0
unfolding field_at
field_out k s at h = rw (lt-leb (at + k) (length s) h)

pub field_empty : (s : List ℕ) (at : ℕ) → field_at zero s at ≡ 0
unfolding field_at
field_empty s at = go (leb (at + zero) (length s))
  where
    go : (b : Bool) → cond b (value (take zero (drop at s))) 0 ≡ 0
    go true = refl
    go false = refl

pub field_drop : (k : ℕ) (s : List ℕ) (d at : ℕ) → field_at k (drop d s) at ≡ field_at k s (d + at)
field_drop zero s d at = field_empty (drop d s) at ∙ sym (field_empty s (d + at))
field_drop (suc k) s d at = ⊎_elim inside past (le_or_lt (d + at + suc k) (length s))
  where
    inside : d + at + suc k ≤ length s → field_at (suc k) (drop d s) at ≡ field_at (suc k) s (d + at)
    inside h =
        let long_enough : at + suc k ≤ length (drop d s) = simp length-drop (omega arith) in
        rw (field_in (suc k) (drop d s) at long_enough, field_in (suc k) s (d + at) h, drop-drop)

    past : length s < d + at + suc k → field_at (suc k) (drop d s) at ≡ field_at (suc k) s (d + at)
    past h =
        let short : length (drop d s) < at + suc k = simp length-drop (omega arith) in
        rw (field_out (suc k) (drop d s) at short, field_out (suc k) s (d + at) h)

pub field_below : (k : ℕ) (s : List ℕ) (at : ℕ) → Bytes s → field_at k s at < 256 ^ k
field_below k s at b = ⊎_elim inside past (le_or_lt (at + k) (length s))
  where
    inside : at + k ≤ length s → field_at k s at < 256 ^ k
    inside h =
        let long_enough : k ≤ length (drop at s) = simp length-drop (omega arith) in
        rw (field_in k s at h)
        (rw (length-take-le k (drop at s) long_enough) at
        (value_below (take k (drop at s)) (bytes_take k (drop at s) (bytes_drop at s b))))

    past : length s < at + k → field_at k s at < 256 ^ k
    past h = rw (field_out k s at h) (power_positive k)

-- The fields of a row, one after the other.

pub fields_drop : (ws : List ℕ) (s : List ℕ) (d at : ℕ) → fields_at ws (drop d s) at ≡ fields_at ws s (d + at)
fields_drop [] s d at = refl
fields_drop (w ∷ ws) s d at = rw (field_drop w s d at, fields_drop ws s d (at + w), add_assoc d at w)

pub fields_count : (ws s : List ℕ) (at : ℕ) → length (fields_at ws s at) ≡ length ws
fields_count [] s at = refl
fields_count (w ∷ ws) s at = ap suc (fields_count ws s (at + w))

pub fields_fit : (ws s : List ℕ) (at : ℕ) → Bytes s → Fit ws (fields_at ws s at)
fields_fit [] s at b = tt
fields_fit (w ∷ ws) s at b = (field_below w s at b, fields_fit ws s (at + w) b)

pub zeros_fit : (ws : List ℕ) → Fit ws (replicate (length ws) 0)
zeros_fit [] = tt
zeros_fit (w ∷ ws) = (power_positive w, zeros_fit ws)

pub row_length : (ws vs : List ℕ) → length vs ≡ length ws → length (row_bytes ws vs) ≡ total ws
row_length [] vs e = refl
row_length (w ∷ ws) [] e = absurd (omega arith)
row_length (w ∷ ws) (v ∷ vs) e = rw (length-append, bytes_length w v, row_length ws vs (omega arith))

pub row_bytes_lem : (ws vs : List ℕ) → Bytes (row_bytes ws vs)
row_bytes_lem [] vs = tt
row_bytes_lem (w ∷ ws) [] = tt
row_bytes_lem (w ∷ ws) (v ∷ vs) = all_append (λ b. b < 256) (bytes_of w v) (row_bytes ws vs) (bytes_bytes w v) (row_bytes_lem ws vs)

field_front : (w : ℕ) (p r : List ℕ) → length p ≡ w → field_at w (p ++ r) 0 ≡ value p
field_front w p r e =
    let long_enough : 0 + w ≤ length (p ++ r) = simp length-append (omega arith) in
    rw (field_in w (p ++ r) 0 long_enough, take_at p r w e)

fields_behind : (w : ℕ) (ws p r : List ℕ) → length p ≡ w → fields_at ws (p ++ r) (0 + w) ≡ fields_at ws r 0
fields_behind w ws p r e =
    let moved : fields_at ws (drop w (p ++ r)) 0 ≡ fields_at ws (p ++ r) (w + 0) = fields_drop ws (p ++ r) w 0 in
    rw (zero-add w, ← add-zero w, ← moved, drop_at p r w e)

-- Numbers to bytes to numbers.
pub fields_there : (ws vs z : List ℕ) → length vs ≡ length ws → Fit ws vs → fields_at ws (row_bytes ws vs ++ z) 0 ≡ vs
fields_there [] [] z e h = refl
fields_there [] (v ∷ vs) z e h = absurd (omega arith)
fields_there (w ∷ ws) [] z e h = absurd h
fields_there (w ∷ ws) (v ∷ vs) z e h =
    let first : field_at w (bytes_of w v ++ (row_bytes ws vs ++ z)) 0 ≡ v =
    field_front w (bytes_of w v) (row_bytes ws vs ++ z) (bytes_length w v) ∙ value_bytes w v h.0 in
    let rest : fields_at ws (bytes_of w v ++ (row_bytes ws vs ++ z)) (0 + w) ≡ vs =
    fields_behind w ws (bytes_of w v) (row_bytes ws vs ++ z) (bytes_length w v) ∙ fields_there ws vs z (omega arith) h.1 in
    rw (append_assoc, first, rest)

-- Bytes to numbers to bytes.
pub fields_back : (ws s : List ℕ) → Bytes s → total ws ≤ length s → row_bytes ws (fields_at ws s 0) ≡ take (total ws) s
fields_back [] s b h = refl
fields_back (w ∷ ws) s b h =
    let first_long_enough : 0 + w ≤ length s = omega arith in
    let rest_long_enough : total ws ≤ length (drop w s) = simp length-drop (omega arith) in
    let w_long : length (take w s) ≡ w = length-take-le w s (omega arith) in
    let first : bytes_of w (field_at w s 0) ≡ take w s =
    rw (field_in w s 0 first_long_enough) (rw w_long at (bytes_value (take w s) (bytes_take w s b))) in
    let moved : fields_at ws s (0 + w) ≡ fields_at ws (drop w s) 0 = rw (zero-add w, fields_drop ws s w 0, add-zero) in
    rw (first, moved, fields_back ws (drop w s) (bytes_drop w s b) rest_long_enough, take-add w (total ws) s)

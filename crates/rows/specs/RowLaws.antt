-- Rows of any table, as the code reads them.
use Rattle.std.specs.Prelude.{◌&&◌, cond, ◌⊎◌, ◌≡◌, refl, ℕ, zero, suc, ◌+◌, ◌-◌, ◌*◌, ◌<◌, ◌≤◌, leb, ltb, length}
use Rattle.std.specs.Prelude.{get_or, take, drop, replicate}
use mathlib.Core.List.{List, [], ◌∷◌, ◌++◌}
use Rattle.std.proofs.Common.{inl, inr, ◌∙◌, mul-le-mul_left, length-append, length-drop, take-append-drop, length-take-le}
use Rattle.std.proofs.Math.Logic.{⊎_elim}
use Rattle.std.proofs.Math.Path.{sym, ap}
use native.Mathlib.Omega.{arith}
use borrow.Author.Tests.{lt-ltb, le-ltb, le-leb, lt-leb}
use Rattle.std.proofs.lemmas.List.{take-append-le, drop-append-le}
use Rattle.model.specs.declared.Table.{Table}
use Rattle.model.specs.Lists.{total}
use Rattle.model.specs.Image.{Format, size, first_row, rows_in, field_at, fields_at}
use Rattle.laws.specs.Tests.{le_or_lt}
use Rattle.laws.specs.Fields.{field_in, field_out, field_empty}
use Rattle.laws.specs.Rows.{Lawful, row_in, row_past, whole_row, short_row}
use Rattle.rows.specs.Reading.{row_of, row_slice, zero_row}

-- Fields that p has are the same in p ++ r.

field_front : (k : ℕ) (p r : List ℕ) (at : ℕ) → at + k ≤ length p → field_at k (p ++ r) at ≡ field_at k p at
field_front k p r at h =
    let inside : at + k ≤ length (p ++ r) = simp length-append (omega arith) in
    let long_enough : k ≤ length (drop at p) = simp length-drop (omega arith) in
    rw (field_in k (p ++ r) at inside, field_in k p at h, drop-append-le at p r (omega arith), take-append-le k (drop at p) r long_enough)

pub fields_front : (ws p r : List ℕ) (at : ℕ) → at + total ws ≤ length p → fields_at ws (p ++ r) at ≡ fields_at ws p at
fields_front [] p r at h = refl
fields_front (w ∷ ws) p r at h = rw (field_front w p r at (omega arith), fields_front ws p r (at + w) (omega arith))

-- The slice of a row, as the code finds it. n is the size of a row, and n bytes fit at each offset below m.
module _ (t : Table) (n k : ℕ) (s : List ℕ) where
  pub slice_unused : t.used ≤ k → [] ≡ row_slice t n k s
  unfolding row_slice
  slice_unused h = rw (le-ltb k t.used h)

  module _ (used : k < t.used) (m : ℕ) (offset-count : m ≡ length s + 1 - n) where
    pub slice_out : m ≤ t.start + k * n → [] ≡ row_slice t n k s
    unfolding row_slice
    slice_out h = rw (lt-ltb k t.used used, lt-leb (t.start + k * n + n) (length s) (omega arith))

    pub slice_whole : t.start + k * n < m → take (t.start + k * n + n - (t.start + k * n)) (drop (t.start + k * n) s) ≡ row_slice t n k s
    unfolding row_slice
    slice_whole h =
        let long : t.start + k * n + n - (t.start + k * n) ≡ n = omega arith in
        rw (long, lt-ltb k t.used used, le-leb (t.start + k * n + n) (length s) (omega arith))

-- A row's offset is so low that no sum in the code wraps.
pub product_near : (k n : ℕ) → n ≤ 32 → k * n ≤ k * 32
product_near k n h = mul-le-mul_left k h

-- Fields read from no bytes are 0.
pub fields_none : (ws : List ℕ) (at : ℕ) → fields_at ws [] at ≡ replicate (length ws) 0
fields_none [] at = refl
fields_none (w ∷ ws) at = rw (field_none w at, fields_none ws (at + w))
  where
    field_none : (k at : ℕ) → field_at k [] at ≡ 0
    field_none zero at = field_empty [] at
    field_none (suc k) at = field_out (suc k) [] at (omega arith)

module _ {A : Type 0} (f : Format A) (law : Lawful f) (t : Table) (img : List ℕ) (d : A)
    (none : d ≡ f.row (replicate (length f.widths) 0)) (k : ℕ) where
  -- a row in use is the row of zeros if it runs past the end, and otherwise the row of its bytes
  module _ (used : k < t.used) where
    read : get_or (rows_in f t img) k d ≡ first_row f (drop (t.start + k * size f) img)
    read = row_in f t img d k used

    row_out : length img < t.start + k * size f + size f → d ≡ get_or (rows_in f t img) k d
    row_out out =
        let short : length (drop (t.start + k * size f) img) < size f = simp length-drop (omega (arith, law.wide)) in
        none ∙ sym (read ∙ short_row f (drop (t.start + k * size f) img) short)

    pub row_whole : t.start + k * size f + size f ≤ length img
        → row_of f (take (size f) (drop (t.start + k * size f) img)) ≡ get_or (rows_in f t img) k d
    row_whole inside =
        let at : ℕ = t.start + k * size f in
        let long_enough : size f ≤ length (drop at img) = simp length-drop (omega arith) in
        let long : length (take (size f) (drop at img)) ≡ size f = length-take-le (size f) (drop at img) long_enough in
        let same : fields_at f.widths (drop at img) 0 ≡ fields_at f.widths (take (size f) (drop at img)) 0 =
        ap (λ (b : List ℕ). fields_at f.widths b 0) (sym (take-append-drop (size f) (drop at img)))
        ∙ fields_front f.widths (take (size f) (drop at img)) (drop (size f) (drop at img)) 0 (omega arith) in
        ap f.row (sym same) ∙ sym (read ∙ whole_row f (drop at img) long_enough)

  -- a row that is not in use, or that runs past the end, is the row of zeros
  pub row_missing : t.used ≤ k ⊎ length img < t.start + k * size f + size f → d ≡ get_or (rows_in f t img) k d
  row_missing (inl past) = sym (row_past f t img d k past)
  row_missing (inr out) = ⊎_elim (λ past. sym (row_past f t img d k past)) (λ used. row_out used out) (le_or_lt t.used k)

  sliced : row_of f (row_slice t (size f) k img) ≡ get_or (rows_in f t img) k d
  unfolding row_slice
  sliced = ⊎_elim past used (le_or_lt t.used k)
    where
      nothing : row_of f [] ≡ d
      nothing = ap f.row (fields_none f.widths 0) ∙ sym none

      past : t.used ≤ k
          → row_of f
          (cond (ltb k t.used && leb (t.start + k * size f + size f) (length img))
          (take (size f) (drop (t.start + k * size f) img)) [])
          ≡ get_or (rows_in f t img) k d
      past h = rw (le-ltb k t.used h) (nothing ∙ row_missing (inl h))

      used : k < t.used
          → row_of f
          (cond (ltb k t.used && leb (t.start + k * size f + size f) (length img))
          (take (size f) (drop (t.start + k * size f) img)) [])
          ≡ get_or (rows_in f t img) k d
      used h =
          elim (le_or_lt (t.start + k * size f + size f) (length img)) [
            | inl whole ↦ rw (lt-ltb k t.used h, le-leb (t.start + k * size f + size f) (length img) whole) (row_whole h whole)
            | inr out ↦ rw (lt-ltb k t.used h, lt-leb (t.start + k * size f + size f) (length img) out)
                (nothing ∙ row_missing (inr out))
          ]

pub row_sliced : {A : Type 0} (f : Format A) (law : Lawful f) (t : Table) (img : List ℕ) (k : ℕ)
    → row_of f (row_slice t (size f) k img) ≡ get_or (rows_in f t img) k (zero_row f)
row_sliced f law t img k = sliced f law t img (zero_row f) refl k

-- A row of a table read from the slice of all its rows: a row that is not there, or not whole, is the row of zeros.
use mathlib.Core.List.{List, []}
use Rattle.std.proofs.Math.Logic.{inl, inr, ⊎_elim}
use Rattle.std.specs.Prelude.{◌≡◌, get_or, take, replicate}
use Rattle.std.proofs.Math.Path.{sym}
use Rattle.std.proofs.Common.{ap, ◌∙◌, le-div_iff_mul-le, div-lt_iff_lt-mul, mul-le-mul_right, lt-ltb, le-ltb}
use Rattle.std.proofs.Common.{length-take, take-append-drop, drop_of_length-le, take-add, drop_at, drop-drop}
use Prim.Native.Nat.{ℕ, suc, ◌+◌, ◌-◌, ◌*◌, ◌/◌, ◌<◌, ◌≤◌}
use Rattle.std.proofs.Math.Nat.{le_of_eq, suc-mul, add-sub_cancel_left}
use native.Mathlib.Omega.{arith}
use Rattle.std.proofs.Math.ListN.{length, drop, length-drop}
use Rattle.std.proofs.Math.Seq.{length-take-le, take_all}
use Rattle.model.specs.declared.Table.{Table}
use Rattle.model.specs.Image.{Format, size, first_row, rows_in, fields_at}
use Rattle.laws.specs.Tests.{le_or_lt}
use Rattle.laws.specs.Rows.{Lawful, row_in, row_past, whole_row, short_row}
use Rattle.rows.specs.Reading.{row_of, rows_slice, used_slice, among_slice}
use Rattle.rows.specs.RowLaws.{fields_front, fields_none}

pub drop_take : (n m : ℕ) (s : List ℕ) → drop n (take (n + m) s) ≡ take m (drop n s)
drop_take n m s = ⊎_elim inside past (le_or_lt n (length s))
  where
    inside : n ≤ length s → drop n (take (n + m) s) ≡ take m (drop n s)
    inside h = rw (take-add n m s) (drop_at (take n s) (take m (drop n s)) n (length-take-le n s h))

    past : length s < n → drop n (take (n + m) s) ≡ take m (drop n s)
    past h =
        let short : length (take (n + m) s) ≤ n = simp length-take (omega arith) in
        rw (drop_of_length-le (take (n + m) s) {i = n} short, drop_of_length-le s {i = n} (omega arith))
        (sym (take_all {A = ℕ} m [] (omega arith)))

module _ {A : Type 0} (f : Format A) (law : Lawful f) where
  -- the first row of s is the first row of its first m bytes, if these are a whole row or more
  pub first_of_take : (m : ℕ) (s : List ℕ) → size f ≤ m → first_row f (take m s) ≡ first_row f s
  first_of_take m s enough = ⊎_elim whole partial (le_or_lt (size f) (length s))
    where
      whole : size f ≤ length s → first_row f (take m s) ≡ first_row f s
      whole h =
          let long : size f ≤ length (take m s) = simp length-take (omega arith) in
          let same : fields_at f.widths s 0 ≡ fields_at f.widths (take m s) 0 =
          ap (λ (b : List ℕ). fields_at f.widths b 0) (sym (take-append-drop m s))
          ∙ fields_front f.widths (take m s) (drop m s) 0 (omega arith) in
          whole_row f (take m s) long ∙ ap f.row (sym same) ∙ sym (whole_row f s h)

      partial : length s < size f → first_row f (take m s) ≡ first_row f s
      partial h =
          let short : length (take m s) < size f = simp length-take (omega arith) in
          short_row f (take m s) short ∙ sym (short_row f s h)

  module _ (t : Table) (img : List ℕ) (d : A) (none : d ≡ f.row (replicate (length f.widths) 0)) (k : ℕ) where
    pub among_row : first_row f (drop (k * size f) (rows_slice f t img)) ≡ get_or (rows_in f t img) k d
    unfolding used_slice
    among_row = ⊎_elim past used (le_or_lt t.used k)
      where
        rest : List ℕ
        rest = drop t.start img

        past : t.used ≤ k → first_row f (drop (k * size f) (take (t.used * size f) rest)) ≡ get_or (rows_in f t img) k d
        past h =
            let far : t.used * size f ≤ k * size f = mul-le-mul_right (size f) h in
            let short : length (take (t.used * size f) rest) ≤ k * size f = simp length-take (omega arith) in
            let empty : drop (k * size f) (take (t.used * size f) rest) ≡ [] =
            drop_of_length-le (take (t.used * size f) rest) {i = k * size f} short in
            ap (first_row f) empty ∙ short_row f [] law.wide ∙ sym none ∙ sym (row_past f t img d k h)

        used : k < t.used → first_row f (drop (k * size f) (take (t.used * size f) rest)) ≡ get_or (rows_in f t img) k d
        used h =
            let more : suc k * size f ≤ t.used * size f = mul-le-mul_right (size f) h in
            let enough : size f ≤ t.used * size f - k * size f = omega (arith, suc-mul k (size f)) in
            let split : t.used * size f ≡ k * size f + (t.used * size f - k * size f) = omega (arith, suc-mul k (size f)) in
            let cut : drop (k * size f) (take (t.used * size f) rest) ≡ take (t.used * size f - k * size f) (drop (k * size f) rest) =
            ap (λ (n : ℕ). drop (k * size f) (take n rest)) split ∙ drop_take (k * size f) (t.used * size f - k * size f) rest in
            ap (first_row f) cut
            ∙ first_of_take (t.used * size f - k * size f) (drop (k * size f) rest) enough
            ∙ ap (first_row f) (drop-drop (k * size f) t.start img)
            ∙ sym (row_in f t img d k h)

-- The slice of the rows in use, as the code takes it. n is the size of a row, and p is the offset at which these rows end.
module _ (n : ℕ) (t : Table) (s : List ℕ) where
  pub rows_none : length s ≤ t.start → [] ≡ used_slice n t s
  unfolding used_slice
  rows_none h = rw (drop_of_length-le s {i = t.start} h) (sym (take_all {A = ℕ} (t.used * n) [] (omega arith)))

  pub rows_rest : length s < t.start + t.used * n → take (length s - t.start) (drop t.start s) ≡ used_slice n t s
  unfolding used_slice
  rows_rest h =
      let all : length (drop t.start s) ≤ length s - t.start = le_of_eq (length-drop t.start s) in
      let few : length (drop t.start s) ≤ t.used * n = simp length-drop (omega arith) in
      take_all (length s - t.start) (drop t.start s) all ∙ sym (take_all (t.used * n) (drop t.start s) few)

  pub rows_all : take (t.start + t.used * n - t.start) (drop t.start s) ≡ used_slice n t s
  unfolding used_slice
  rows_all = rw add-sub_cancel_left

-- The slice of one row in such a slice s, as the code takes it. n is the size of a row.
module _ (n k : ℕ) (s : List ℕ) where
  pub among_past : length s / n ≤ k → [] ≡ among_slice n k s
  unfolding among_slice
  among_past h = rw (le-ltb k (length s / n) h)

  module _ (wide : 0 < n) (there : k < length s / n) where
    pub among_end : k * n + n ≤ length s
    among_end =
        let long_enough : suc k * n ≤ length s = (le-div_iff_mul-le wide).0 there in
        omega (arith, suc-mul k n)

    pub among_whole : take (k * n + n - k * n) (drop (k * n) s) ≡ among_slice n k s
    unfolding among_slice
    among_whole = rw (lt-ltb k (length s / n) there, add-sub_cancel_left)

-- One row of such a slice s.
module _ {A : Type 0} (f : Format A) (law : Lawful f) (s : List ℕ) (k : ℕ) where
  pub past_end : length s / size f ≤ k → length (drop (k * size f) s) < size f
  past_end h =
      let few : length s / size f < suc k = omega arith in
      let short : length s < suc k * size f = (div-lt_iff_lt-mul law.wide).0 few in
      simp length-drop (omega (arith, suc-mul k (size f), law.wide))

  among_first : row_of f (among_slice (size f) k s) ≡ first_row f (drop (k * size f) s)
  unfolding among_slice
  among_first =
      elim (le_or_lt (length s / size f) k) [
        | inl past ↦
            rw (le-ltb k (length s / size f) past)
            (ap f.row (fields_none f.widths 0) ∙ sym (short_row f (drop (k * size f) s) (past_end past)))
        | inr there ↦
            let inside : k * size f + size f ≤ length s = among_end (size f) k s law.wide there in
            let long_enough : size f ≤ length (drop (k * size f) s) = simp length-drop (omega arith) in
            let long : length (take (size f) (drop (k * size f) s)) ≡ size f =
            length-take-le (size f) (drop (k * size f) s) long_enough in
            rw (lt-ltb k (length s / size f) there)
            (sym (whole_row f (take (size f) (drop (k * size f) s)) (omega arith))
            ∙ first_of_take f law (size f) (drop (k * size f) s) (omega arith))
      ]

  -- as the code reads it: n is the size of a row, and b is the slice that was found for it
  pub among_read : (n : ℕ) → n ≡ size f → (b : List ℕ) → b ≡ among_slice n k s → (r : A) → r ≡ row_of f b
      → r ≡ first_row f (drop (k * size f) s)
  among_read n wide b is r e = e ∙ ap (row_of f) (is ∙ ap (λ (m : ℕ). among_slice m k s) wide) ∙ among_first

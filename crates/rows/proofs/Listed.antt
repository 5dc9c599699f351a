-- The rows of a table as a list, from the bytes of its rows in use.
use Rattle.std.proofs.Common.{arith, ◌≡◌, refl, ap, ◌∙◌, sym, ◌+◌, ◌-◌, ◌*◌, ◌≤◌, ℕ, zero, suc, List, ◌∷◌, length, take, drop, get_or, length-take, ◌/◌, ◌<◌, div-lt_iff_lt-mul}
use Rattle.std.proofs.Math.Nat.{suc-mul}
use Rattle.std.proofs.Math.Seq.{take_all}
use Rattle.model.specs.declared.Table.{Table}
use Rattle.model.specs.Image.{Format, size, first_row, rows_from, rows_in}
use Rattle.laws.specs.Rows.{Lawful, rows_from_count, short_row}
use Rattle.rows.specs.Reading.{rows_slice, used_slice, zero_row}
use Rattle.rows.specs.Among.{drop_take, first_of_take, among_row, past_end}

module _ {A : Type 0} (f : Format A) (law : Lawful f) where
  -- only the bytes of the rows count
  rows_of_take : (n m : ℕ) (s : List ℕ) → n * size f ≤ m → rows_from f n (take m s) ≡ rows_from f n s
  rows_of_take zero m s few = refl
  rows_of_take (suc n) m s few =
      let fits : size f ≤ m = omega (arith, few, suc-mul n (size f)) in
      let parts : m ≡ size f + (m - size f) = omega (arith, fits) in
      let rest : drop (size f) (take m s) ≡ take (m - size f) (drop (size f) s) =
      ap (λ (k : ℕ). drop (size f) (take k s)) parts ∙ drop_take (size f) (m - size f) s in
      rw (first_of_take f law m s fits, rest)
      (ap (λ (xs : List A). first_row f s ∷ xs) (rows_of_take n (m - size f) (drop (size f) s) (omega (arith, few, suc-mul n (size f)))))

  pub cut_rows : (t u : Table) (img r : List ℕ) → u ≡ t → r ≡ rows_slice f t img → rows_from f u.used r ≡ rows_in f t img
  unfolding used_slice rows_in
  cut_rows t u img r same e = rw (same, e) (rows_of_take t.used (t.used * size f) (drop t.start img) (omega arith))

  pub row_listed : (u : ℕ) (s : List ℕ) (k : ℕ) → length s ≤ u * size f
      → first_row f (drop (k * size f) s) ≡ get_or (rows_from f u s) k (zero_row f)
  unfolding used_slice rows_in
  row_listed u s k few =
      let t : Table = record { used = u; start = 0; end = 0 } in
      let whole : take (u * size f) s ≡ s = take_all (u * size f) s few in
      ap (λ (b : List ℕ). first_row f (drop (k * size f) b)) (sym whole) ∙ among_row f law t s (zero_row f) refl k

module _ {A : Type 0} (f : Format A) (law : Lawful f) (u : ℕ) (s : List ℕ) (few : length s ≤ u * size f) where
  pub whole_listed : length s / size f ≤ length (rows_from f u s)
  whole_listed =
      let below : length s < suc u * size f = omega (arith, suc-mul u (size f), law.wide, few) in
      let less : length s / size f < suc u = (div-lt_iff_lt-mul law.wide).1 below in
      rw (rows_from_count f u s) (omega (arith, less))

  pub zeros_listed : (k : ℕ) → length s / size f ≤ k → get_or (rows_from f u s) k (zero_row f) ≡ zero_row f
  zeros_listed k h = sym (row_listed f law u s k few) ∙ short_row f (drop (k * size f) s) (past_end f law s k h)

pub used_few : (n : ℕ) (t : Table) (s r : List ℕ) → r ≡ used_slice n t s → length r ≤ t.used * n
unfolding used_slice
used_few n t s r e = rw (e, length-take) (omega arith)

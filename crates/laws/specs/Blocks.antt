-- A table's block of bytes, for any format. If the bytes of a table in an image are the block of some rows, the table holds
-- these rows. The other way round, the block made of the rows that a table holds is the table's bytes.
use Rattle.std.specs.Prelude.{List, [], ◌∷◌, ◌++◌, ◌≡◌, T, leb, eqb}
use Rattle.std.proofs.Common.{append_assoc, ◌∙◌, mul-le-mul_right, mul-div_cancel, div-add-mod', eq-eqb, le→leb}
use Rattle.std.proofs.Common.{leb→le, eqb→eq, length-append, take-append-drop, drop_at, length-take-le}
use Rattle.std.proofs.Math.Path.{refl, ap}
use Prim.Native.Nat.{ℕ, zero, suc, ◌+◌, ◌-◌, ◌*◌, ◌%◌, ◌<◌, ◌≤◌}
use native.Mathlib.Omega.{arith}
use Rattle.std.proofs.Math.Nat.{mul-mod_left}
use Rattle.std.proofs.Math.ListN.{length, take, drop, replicate, length-drop}
use Rattle.std.proofs.lemmas.List.{length-replicate}
use Rattle.std.proofs.Math.Seq.{take_at, take-add, drop-drop}
use Rattle.model.specs.declared.Table.{Table}
use Rattle.std.specs.List.{AllByRecursion}
use Rattle.model.specs.Lists.{Bytes, zeros}
use Rattle.model.specs.Image.{Format, Block, size, rows_in, capacity, joined, block_of, header_of, body_of, laid_out, unused}
use Rattle.laws.specs.Tests.{◌and◌, true_T, and_l, and_r, yes_all, all_yes, all_append}
use Rattle.laws.specs.WellFormed.{Fits, extents}
use Rattle.laws.specs.Rows.{Lawful, rows_count, joined_length, joined_bytes, rows_there, rows_back}
use Rattle.laws.specs.Fields.{bytes_drop}

-- Zeros.

pub zeros_are : (s : List ℕ) → T (zeros s) → s ≡ replicate (length s) 0
zeros_are [] t = refl
zeros_are (x ∷ s) t =
    let head : x ≡ 0 = eqb→eq x 0 (and_l (eqb x 0) (zeros s) t) in
    let tail : s ≡ replicate (length s) 0 = zeros_are s (and_r (eqb x 0) (zeros s) t) in
    cc

pub are_zeros : (m : ℕ) → T (zeros (replicate m 0))
are_zeros zero = tt
are_zeros (suc m) = are_zeros m

zero_bytes : (m : ℕ) → Bytes (replicate m 0)
zero_bytes zero = tt
zero_bytes (suc m) = (omega arith, zero_bytes m)

seam : (s e : ℕ) (img : List ℕ) → s ≤ e → take (e - s) (drop s img) ++ drop e img ≡ drop s img
seam s e img h =
    let sum_is : s + (e - s) ≡ e = omega arith in
    let behind : drop (e - s) (drop s img) ≡ drop e img = drop-drop (e - s) s img ∙ ap (λ (n : ℕ). drop n img) sum_is in
    rw (← behind) (take-append-drop (e - s) (drop s img))

module _ {A : Type 0} (f : Format A) where
  pub block_used : (cap : ℕ) (xs : List A) → (block_of f cap xs).used ≡ length xs
  unfolding block_of
  block_used cap xs = refl

  pub block_extent : (cap : ℕ) (xs : List A) → (block_of f cap xs).extent ≡ cap * size f
  unfolding block_of
  block_extent cap xs = refl

  pub block_bytes : (cap : ℕ) (xs : List A) → Bytes (block_of f cap xs).bytes
  unfolding block_of
  block_bytes cap xs =
      all_append (λ b. b < 256) (joined f xs) (replicate (cap * size f - length xs * size f) 0)
      (joined_bytes f xs) (zero_bytes (cap * size f - length xs * size f))

  -- What holds of the table t of an image if its bytes are the block of the rows xs.
  pub record Holds (cap : ℕ) (xs : List A) (t : Table) (img : List ℕ) : Type 0 where
    pub rows_are : rows_in f t img ≡ xs
    pub capacity_is : capacity f t ≡ cap
    pub is_laid_well : T (laid_out f t)
    pub unused_zero : T (zeros (unused f t img))

  module _ (law : Lawful f) (cap : ℕ) (xs : List A) (few : length xs ≤ cap) where
    rows_in_capacity : length xs * size f ≤ cap * size f
    rows_in_capacity = mul-le-mul_right (size f) few

    pub block_length : length (block_of f cap xs).bytes ≡ cap * size f
    unfolding block_of
    block_length =
        let h : length xs * size f ≤ cap * size f = rows_in_capacity in
        rw (length-append, joined_length f law xs, length-replicate) (omega arith)

    module _ (img : List ℕ) (at : ℕ) (rest : List ℕ) (stands : drop at img ≡ (block_of f cap xs).bytes ++ rest) where
      abbrev table : Table
      table = record { used = length xs; start = at; end = at + cap * size f }

      extent : at + cap * size f - at ≡ cap * size f
      extent = omega arith

      rows_stand : AllByRecursion (Fits f) xs → rows_in f table img ≡ xs
      unfolding rows_in block_of
      rows_stand fit = rw (stands, append_assoc) (rows_there f law xs (replicate (cap * size f - length xs * size f) 0 ++ rest) fit)

      capacity_stands : capacity f table ≡ cap
      capacity_stands = rw extent (mul-div_cancel cap law.wide)

      is_laid_out : T (laid_out f table)
      is_laid_out =
          let ordered : at ≤ at + cap * size f = omega arith in
          let whole : (at + cap * size f - at) % size f ≡ 0 = rw extent (mul-mod_left cap (size f)) in
          let enough : length xs ≤ capacity f table = rw capacity_stands few in
          all_yes (leb at (at + cap * size f) ∷ eqb ((at + cap * size f - at) % size f) 0 ∷ leb (length xs) (capacity f table) ∷ [])
          (le→leb _ _ ordered and true_T _ (eq-eqb _ 0 whole) and le→leb _ _ enough and tt)

      -- behind the rows in use the block has zeros up to the table's end
      blank : T (zeros (unused f table img))
      unfolding block_of
      blank =
          let h : length xs * size f ≤ cap * size f = rows_in_capacity in
          let gap : ℕ = cap * size f - length xs * size f in
          let left : at + cap * size f - (at + length xs * size f) ≡ gap = omega arith in
          let behind : drop (at + length xs * size f) img ≡ replicate gap 0 ++ rest =
          rw (← drop-drop (length xs * size f) at img, stands, append_assoc)
          (drop_at (joined f xs) (replicate gap 0 ++ rest) (length xs * size f) (joined_length f law xs)) in
          rw (left, behind, take_at (replicate gap 0) rest gap (length-replicate gap 0)) (are_zeros gap)

      pub holds_from : AllByRecursion (Fits f) xs
          → Holds cap xs (record { used = (block_of f cap xs).used; start = at; end = at + (block_of f cap xs).extent }) img
      unfolding block_of
      holds_from fit = record { rows_are = rows_stand fit; capacity_is = capacity_stands; is_laid_well = is_laid_out; unused_zero = blank }

  -- A table that is laid out: the block made of its rows is the table's bytes again, and its fields of the header are the
  -- table's.
  module _ (law : Lawful f) (t : Table) (img : List ℕ) (is_laid_out : T (laid_out f t)) where
    tests : AllByRecursion T (leb t.start t.end ∷ eqb ((t.end - t.start) % size f) 0 ∷ leb t.used (capacity f t) ∷ [])
    tests = yes_all (leb t.start t.end ∷ eqb ((t.end - t.start) % size f) 0 ∷ leb t.used (capacity f t) ∷ []) is_laid_out

    pub starts_before_end : t.start ≤ t.end
    starts_before_end = leb→le _ _ tests.0

    pub rows_few : t.used ≤ capacity f t
    rows_few = leb→le _ _ tests.1.1.0

    pub extent_back : capacity f t * size f ≡ t.end - t.start
    extent_back =
        let whole : (t.end - t.start) % size f ≡ 0 = eqb→eq _ 0 tests.1.0 in
        let split : capacity f t * size f + (t.end - t.start) % size f ≡ t.end - t.start = div-add-mod' (t.end - t.start) (size f) in
        omega arith

    pub rows_extent : t.used * size f ≤ t.end - t.start
    rows_extent = rw extent_back at (mul-le-mul_right (size f) rows_few)

    -- the next table starts where this one ends
    pub next_start : {at : ℕ} → at ≡ t.start → at + (block_of f (capacity f t) (rows_in f t img)).extent ≡ t.end
    next_start e =
        let ordered : t.start ≤ t.end = starts_before_end in
        let wide : (block_of f (capacity f t) (rows_in f t img)).extent ≡ t.end - t.start =
        block_extent (capacity f t) (rows_in f t img) ∙ extent_back in
        omega arith

    rows_bytes : Bytes img → t.used * size f ≤ length (drop t.start img)
        → joined f (rows_in f t img) ≡ take (t.used * size f) (drop t.start img)
    unfolding rows_in
    rows_bytes b h = rows_back f law t.used (drop t.start img) (bytes_drop t.start img b) h

    pub block_back : Bytes img → t.end ≤ length img → T (zeros (unused f t img))
        → (block_of f (capacity f t) (rows_in f t img)).bytes ≡ take (t.end - t.start) (drop t.start img)
    unfolding block_of
    block_back b inside blank =
        let first : t.start ≤ t.end = starts_before_end in
        let in_capacity : t.used * size f ≤ t.end - t.start = rows_extent in
        let in_image : t.used * size f ≤ length (drop t.start img) = simp length-drop (omega arith) in
        let gap : ℕ = t.end - t.start - t.used * size f in
        let behind : drop (t.used * size f) (drop t.start img) ≡ drop (t.start + t.used * size f) img =
        drop-drop (t.used * size f) t.start img in
        let from_gap : gap ≤ length (drop (t.start + t.used * size f) img) = simp length-drop (omega arith) in
        let ends : t.end - (t.start + t.used * size f) ≡ gap = omega arith in
        let blank_gap : take gap (drop (t.start + t.used * size f) img) ≡ replicate gap 0 =
        rw (length-take-le gap (drop (t.start + t.used * size f) img) from_gap) at
        (zeros_are (take gap (drop (t.start + t.used * size f) img)) (rw ends at blank)) in
        let sum_is : t.end - t.start ≡ t.used * size f + gap = omega arith in
        let whole : take (t.end - t.start) (drop t.start img) ≡ take (t.used * size f + gap) (drop t.start img) =
        ap (λ (n : ℕ). take n (drop t.start img)) sum_is in
        rw (
          rows_bytes b in_image,
          rows_count f t img,
          extent_back,
          whole,
          take-add (t.used * size f) gap (drop t.start img),
          behind,
          blank_gap,
        )

    -- A table followed by others, whose blocks are bs: the header's fields, the bytes and the length.

    pub header_block : {at : ℕ} {hs : List ℕ} (bs : List Block) → at ≡ t.start → header_of t.end bs ≡ hs
        → header_of at (block_of f (capacity f t) (rows_in f t img) ∷ bs) ≡ t.used ∷ t.start ∷ hs
    header_block bs e rest =
        let used_is : (block_of f (capacity f t) (rows_in f t img)).used ≡ t.used =
        block_used (capacity f t) (rows_in f t img) ∙ rows_count f t img in
        rw (next_start e, used_is, e, rest)

    pub body_block : (bs : List Block) → Bytes img → t.end ≤ length img → T (zeros (unused f t img)) → body_of bs ≡ drop t.end img
        → body_of (block_of f (capacity f t) (rows_in f t img) ∷ bs) ≡ drop t.start img
    body_block bs b inside blank rest =
        rw (block_back b inside blank, rest) (seam t.start t.end img starts_before_end)

    pub total_block : {n : ℕ} (bs : List Block) → t.end + extents bs ≡ n
        → t.start + extents (block_of f (capacity f t) (rows_in f t img) ∷ bs) ≡ n
    total_block bs rest =
        let next : t.start + (block_of f (capacity f t) (rows_in f t img)).extent ≡ t.end = next_start refl in
        omega arith

-- The rows of a table, for any format: a row by its index, and rows to bytes and back. The laws of each format are at the end.
use Rattle.std.specs.Prelude.{Bool, true, false, cond, List, [], ◌∷◌, ◌++◌, ◌≡◌, refl, ℕ, zero, suc, ◌+◌, ◌*◌, ◌<◌}
use Rattle.std.specs.Prelude.{◌≤◌, leb, length, get_or, take, drop, replicate}
use Rattle.std.proofs.Common.{append_assoc, sym, ◌∙◌, add_comm, zero-mul, suc-mul, le_of_suc-le-suc, not-suc-le-zero}
use Rattle.std.proofs.Common.{arith, le-leb, length-append, length-drop, drop_at, drop-drop, take-add, drop-cons}
use Rattle.std.proofs.Math.Path.{ap}
use Rattle.std.proofs.lemmas.Bool.{lt-leb}
use Rattle.std.proofs.lemmas.List.{length-replicate}
use Rattle.std.proofs.Math.ListN.{get_or-eq_default}
use Rattle.std.proofs.Math.Seq.{drop-length}
use Rattle.model.specs.declared.Table.{Table}
use Rattle.std.specs.List.{AllByRecursion}
use Rattle.model.specs.Lists.{Bytes}
use Rattle.model.specs.Image.{Format, size, first_row, row_in_bytes, rows_from, rows_in, joined}
use Rattle.model.specs.Image.{fields_at, subject_format, grant_format, line_format, item_format}
use Rattle.laws.specs.Tests.{all_append}
use Rattle.laws.specs.WellFormed.{Fits}
use Rattle.laws.specs.Fields.{fields_count, fields_fit, zeros_fit, fields_there, fields_back, row_length}
use Rattle.laws.specs.Fields.{row_bytes_lem, bytes_drop}

-- What a format must fulfil: a row has one number for each field and is the row made of its numbers, a row made of numbers has
-- these numbers, and a row has at least one byte.
pub record Lawful {A : Type 0} (f : Format A) : Type 0 where
  pub counted : (x : A) → length (f.numbers x) ≡ length f.widths
  pub there : (x : A) → f.row (f.numbers x) ≡ x
  pub back : (vs : List ℕ) → length vs ≡ length f.widths → f.numbers (f.row vs) ≡ vs
  pub wide : 0 < size f

module _ {A : Type 0} (f : Format A) where
  pub rows_from_count : (n : ℕ) (s : List ℕ) → length (rows_from f n s) ≡ n
  rows_from_count zero s = refl
  rows_from_count (suc n) s = ap suc (rows_from_count n (drop (size f) s))

  pub row_from : (n : ℕ) (s : List ℕ) (d : A) (k : ℕ) → k < n → get_or (rows_from f n s) k d ≡ first_row f (drop (k * size f) s)
  row_from zero s d k h = absurd (not-suc-le-zero h)
  row_from (suc n) s d zero h = rw (zero-mul (size f))
  row_from (suc n) s d (suc k) h =
      let further : size f + k * size f ≡ suc k * size f = rw (suc-mul k (size f)) (add_comm (size f) (k * size f)) in
      row_from n (drop (size f) s) d k (le_of_suc-le-suc h)
      ∙ ap (first_row f) (drop-drop (k * size f) (size f) s ∙ ap (λ (m : ℕ). drop m s) further)

  -- A table's rows by their index.

  pub rows_count : (t : Table) (img : List ℕ) → length (rows_in f t img) ≡ t.used
  unfolding rows_in
  rows_count t img = rows_from_count t.used (drop t.start img)

  pub row_in : (t : Table) (img : List ℕ) (d : A) (k : ℕ) → k < t.used
      → get_or (rows_in f t img) k d ≡ first_row f (drop (t.start + k * size f) img)
  unfolding rows_in
  row_in t img d k h = row_from t.used (drop t.start img) d k h ∙ ap (first_row f) (drop-drop (k * size f) t.start img)

  pub row_past : (t : Table) (img : List ℕ) (d : A) (k : ℕ) → t.used ≤ k → get_or (rows_in f t img) k d ≡ d
  row_past t img d k h =
      let past : length (rows_in f t img) ≤ k = rw (rows_count t img) h in
      get_or-eq_default (rows_in f t img) d past

  -- the rows from index k on begin with the row at index k
  pub rows_next : (t : Table) (img : List ℕ) (d : A) (k : ℕ) (x : A) → k < t.used → x ≡ get_or (rows_in f t img) k d
      → drop k (rows_in f t img) ≡ x ∷ drop (suc k) (rows_in f t img)
  rows_next t img d k x h e =
      let there : k < length (rows_in f t img) = rw (rows_count t img) h in
      drop-cons (rows_in f t img) k d there ∙ ap (λ (y : A). y ∷ drop (suc k) (rows_in f t img)) (sym e)

  -- bytes of at least a row's length begin with the row of their fields; shorter ones give the row of zeros
  pub whole_row : (s : List ℕ) → size f ≤ length s → first_row f s ≡ f.row (fields_at f.widths s 0)
  whole_row s h =
      ap (λ (b : Bool). f.row (cond b (fields_at f.widths s 0) (replicate (length f.widths) 0))) (le-leb (size f) (length s) h)

  pub short_row : (s : List ℕ) → length s < size f → first_row f s ≡ f.row (replicate (length f.widths) 0)
  short_row s h =
      ap (λ (b : Bool). f.row (cond b (fields_at f.widths s 0) (replicate (length f.widths) 0))) (lt-leb (size f) (length s) h)

  -- Rows to bytes and back.

  pub joined_bytes : (xs : List A) → Bytes (joined f xs)
  joined_bytes [] = tt
  joined_bytes (x ∷ xs) =
      all_append (λ b. b < 256) (row_in_bytes f x) (joined f xs) (row_bytes_lem f.widths (f.numbers x)) (joined_bytes xs)

  module _ (law : Lawful f) where
    pub row_long : (x : A) → length (row_in_bytes f x) ≡ size f
    row_long x = row_length f.widths (f.numbers x) (law.counted x)

    pub joined_length : (xs : List A) → length (joined f xs) ≡ length xs * size f
    joined_length [] = rw (zero-mul (size f))
    joined_length (x ∷ xs) =
        rw (length-append, row_long x, joined_length xs, suc-mul (length xs) (size f), add_comm (size f) (length xs * size f))

    pub rows_there : (xs : List A) (z : List ℕ) → AllByRecursion (Fits f) xs → rows_from f (length xs) (joined f xs ++ z) ≡ xs
    rows_there [] z h = refl
    rows_there (x ∷ xs) z h =
        let long : size f ≤ length (row_in_bytes f x ++ (joined f xs ++ z)) = simp (length-append, row_long x) (omega arith) in
        let row : first_row f (row_in_bytes f x ++ (joined f xs ++ z)) ≡ x =
        whole_row (row_in_bytes f x ++ (joined f xs ++ z)) long
        ∙ rw (fields_there f.widths (f.numbers x) (joined f xs ++ z) (law.counted x) h.0) (law.there x) in
        let rest : drop (size f) (row_in_bytes f x ++ (joined f xs ++ z)) ≡ joined f xs ++ z =
        drop_at (row_in_bytes f x) (joined f xs ++ z) (size f) (row_long x) in
        rw (append_assoc, row, rest, rows_there xs z h.1)

    pub rows_back : (n : ℕ) (s : List ℕ) → Bytes s → n * size f ≤ length s → joined f (rows_from f n s) ≡ take (n * size f) s
    rows_back zero s b h = rw (zero-mul (size f))
    rows_back (suc n) s b h =
        let whole : size f + n * size f ≤ length s = rw (suc-mul n (size f), add_comm (n * size f) (size f)) at h in
        let first_long_enough : size f ≤ length s = omega arith in
        let rest_long_enough : n * size f ≤ length (drop (size f) s) = simp length-drop (omega arith) in
        let numbers : f.numbers (first_row f s) ≡ fields_at f.widths s 0 =
        ap f.numbers (whole_row s first_long_enough) ∙ law.back (fields_at f.widths s 0) (fields_count f.widths s 0) in
        rw (
          numbers,
          fields_back f.widths s b first_long_enough,
          rows_back n (drop (size f) s) (bytes_drop (size f) s b) rest_long_enough,
          suc-mul n (size f),
          add_comm (n * size f) (size f),
          take-add (size f) (n * size f) s,
        )

    -- The numbers of a row that is read from bytes fit their fields.
    row_fits : (s : List ℕ) → Bytes s → Fits f (first_row f s)
    row_fits s b = either (leb (size f) (length s))
      where
        either : (whole : Bool) → Fits f (f.row (cond whole (fields_at f.widths s 0) (replicate (length f.widths) 0)))
        either true = rw (law.back (fields_at f.widths s 0) (fields_count f.widths s 0)) (fields_fit f.widths s 0 b)
        either false = rw (law.back (replicate (length f.widths) 0) (length-replicate (length f.widths) 0)) (zeros_fit f.widths)

    pub rows_fit : (n : ℕ) (s : List ℕ) → Bytes s → AllByRecursion (Fits f) (rows_from f n s)
    rows_fit zero s b = tt
    rows_fit (suc n) s b = (
      row_fits s b,
      rows_fit n (drop (size f) s) (bytes_drop (size f) s b),
    )

-- A list is the list of its elements, taken one by one.

abbrev elements : ℕ → ℕ → List ℕ → List ℕ
elements zero i vs = []
elements (suc n) i vs = get_or vs i 0 ∷ elements n (suc i) vs

elements_all : (n i : ℕ) (vs : List ℕ) → length vs ≡ i + n → elements n i vs ≡ drop i vs
elements_all zero i vs e =
    let ends : length vs ≡ i = omega arith in
    rw (← ends) (sym (drop-length vs))
elements_all (suc n) i vs e =
    let more : i < length vs = omega arith in
    let next : length vs ≡ suc i + n = omega arith in
    rw (elements_all n (suc i) vs next) (sym (drop-cons vs i 0 more))

pub subject_lawful : (w : ℕ) → Lawful (subject_format w)
subject_lawful w =
    record {
      counted = λ x. refl;
      there = λ x. refl;
      back = λ vs e. elements_all (length (subject_format w).widths) 0 vs e;
      wide = omega arith;
    }

pub grant_lawful : (w : ℕ) → Lawful (grant_format w)
grant_lawful w =
    record {
      counted = λ x. refl;
      there = λ x. refl;
      back = λ vs e. elements_all (length (grant_format w).widths) 0 vs e;
      wide = omega arith;
    }

pub line_lawful : (w : ℕ) → Lawful (line_format w)
line_lawful w =
    record {
      counted = λ x. refl;
      there = λ x. refl;
      back = λ vs e. elements_all (length (line_format w).widths) 0 vs e;
      wide = omega arith;
    }

pub item_lawful : Lawful item_format
item_lawful =
    record {
      counted = λ x. refl;
      there = λ x. refl;
      back = λ vs e. elements_all (length item_format.widths) 0 vs e;
      wide = omega arith;
    }

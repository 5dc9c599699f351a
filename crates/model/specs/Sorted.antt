-- Tables that are strictly ascending by a key. A key is a list of numbers, compared from the left.
use Rattle.std.specs.Prelude.{Bool, true, false, ◌&&◌, ◌||◌, cond, List, [], ◌∷◌, ℕ, zero, suc, ◌+◌, ◌-◌, ◌/◌, eqb, ltb, length, None, Option, Some, slice_get}
use Rattle.model.specs.Lists.{select, if_there}

-- the first key is lower than the second
abbrev pub before : List ℕ → List ℕ → Bool
before [] [] = false
before [] (y ∷ ys) = true
before (x ∷ xs) [] = false
before (x ∷ xs) (y ∷ ys) = ltb x y || (eqb x y && before xs ys)

-- the keys are equal
abbrev pub same : List ℕ → List ℕ → Bool
same [] [] = true
same [] (y ∷ ys) = false
same (x ∷ xs) [] = false
same (x ∷ xs) (y ∷ ys) = eqb x y && same xs ys

-- What the search for a key answers: the insertion index of the key, and the row with the key, if there is one. The row is
-- then the one at that index.
pub record Found (A : Type 0) : Type 0 where
  pub index : ℕ
  pub row : Option A

abbrev pub found : {A : Type 0} → ℕ → Option A → Found A
found n row = record { index = n; row = row }

-- the index half way between two
abbrev pub middle : ℕ → ℕ → ℕ
middle first end = first + (end - first) / 2

module _ {A : Type 0} (key : A → List ℕ) where
  -- strictly ascending
  unfoldable pub ascending : List A → Bool
  ascending [] = true
  ascending (x ∷ []) = true
  ascending (x ∷ (y ∷ ys)) = before (key x) (key y) && ascending (y ∷ ys)

  -- the row with key k, if there is one
  abbrev pub row_with : List ℕ → List A → Option A
  row_with k [] = None
  row_with k (x ∷ xs) = cond (same (key x) k) (Some x) (row_with k xs)

  -- how many rows have a key lower than k
  abbrev pub count_lower : List ℕ → List A → ℕ
  count_lower k xs = length (select (λ x. before (key x) k) xs)

  -- the row with index n is there, and its key is lower than k; and is k
  abbrev pub lower_at : List ℕ → List A → ℕ → Bool
  lower_at k xs n = if_there (λ x. before (key x) k) (slice_get xs n)

  abbrev pub same_at : List ℕ → List A → ℕ → Bool
  same_at k xs n = if_there (λ x. same (key x) k) (slice_get xs n)

  -- Halving: the row in the middle decides whether the search goes on behind it, ends there, or goes on in front of it. The
  -- first argument is how many steps are still allowed.
  unfoldable pub halve : ℕ → List ℕ → List A → ℕ → ℕ → Found A
  halve zero k xs first end = found first None
  halve (suc n) k xs first end =
      let m : ℕ = middle first end in
      cond (ltb first end)
      (cond (lower_at k xs m) (halve n k xs (suc m) end) (cond (same_at k xs m) (found m (slice_get xs m)) (halve n k xs first m)))
      (found first None)

  -- The search for key k. In an ascending table, and an accepted image has no others, it answers the row with the key and the
  -- number of rows with a lower one. Elsewhere it answers what halving comes to, so that it is defined for any rows.
  unfoldable pub search : List ℕ → List A → Found A
  search k xs = cond (ascending xs) (found (count_lower k xs) (row_with k xs)) (halve (length xs) k xs 0 (length xs))

  abbrev pub find_row : List ℕ → List A → Option A
  find_row k xs = (search k xs).row

  -- the insertion index: where the row with key k is, or where one goes
  abbrev pub insertion_index : List ℕ → List A → ℕ
  insertion_index k xs = (search k xs).index

  -- the rows with r put in at its insertion index; a row with an equal key is overwritten
  unfoldable pub put : A → List A → List A
  put r [] = r ∷ []
  put r (x ∷ xs) = cond (before (key x) (key r)) (x ∷ put r xs) (cond (same (key x) (key r)) (r ∷ xs) (r ∷ x ∷ xs))

  -- the rows without the one that has key k
  unfoldable pub cut : List ℕ → List A → List A
  cut k [] = []
  cut k (x ∷ xs) = cond (before (key x) k) (x ∷ cut k xs) (cond (same (key x) k) xs (x ∷ xs))

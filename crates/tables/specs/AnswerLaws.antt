-- What the code's answer to a search says of the row that `find_row` finds, of the insertion index and of the row index.
use Rattle.std.specs.Prelude.{Bool, true, false, ◌||◌, cond, List, ◌≡◌, refl, ℕ, ltb, length, None, Option, Some, Result, Ok, Err}
use Rattle.std.proofs.Common.{ap, ◌∙◌}
use Rattle.model.specs.Lists.{is_there}
use Rattle.model.specs.Sorted.{Found, search, find_row, insertion_index}
use Rattle.rows.specs.Found.{found_by}
use Rattle.tables.specs.declared.RowIndex.{RowIndex}
use Rattle.tables.specs.declared.RowIndex.TheVariants.{Existing, New}
use Rattle.tables.specs.RowIndices.{is_existing, index_in, row_index_of, row_index}

module _ {A : Type 0} (key : A → List ℕ) (k : List ℕ) (xs : List A) (r : Result (ℕ × A) ℕ) (so : found_by r ≡ search key k xs) where
  module _ (p : ℕ × A) (case : r ≡ Ok p) where
    pub at_key : Some p.1 ≡ find_row key k xs
    at_key = ap (λ (f : Found A). f.row) (rw case at so)

    pub at_index : p.0 ≡ insertion_index key k xs
    at_index = ap (λ (f : Found A). f.index) (rw case at so)

    pub key_is_there : is_there (find_row key k xs) ≡ true
    key_is_there = rw (← at_key)

  module _ (n : ℕ) (case : r ≡ Err n) where
    pub key_none : None ≡ find_row key k xs
    key_none = ap (λ (f : Found A). f.row) (rw case at so)

    pub key_missing : is_there (find_row key k xs) ≡ false
    key_missing = rw (← key_none)

  -- the row index that it is turned into
  pub row_index_found : (index : RowIndex) → index ≡ row_index_of (found_by r) → index ≡ row_index key k xs
  row_index_found index is = is ∙ ap row_index_of so

-- the index of a row index, whichever it is
pub index_of_found : {A : Type 0} (f : Found A) → index_in (row_index_of f) ≡ f.index
index_of_found {A = A} f = go f.row
  where
    go : (o : Option A) → index_in (cond (is_there o) (Existing f.index) (New f.index)) ≡ f.index
    go None = refl
    go (Some x) = refl

existing_there : {A : Type 0} (f : Found A) → is_existing (row_index_of f) ≡ is_there f.row
existing_there {A = A} f = go f.row
  where
    go : (o : Option A) → is_existing (cond (is_there o) (Existing f.index) (New f.index)) ≡ is_there o
    go None = refl
    go (Some x) = refl

-- b is computed from the row index; it is the same as computed from the row that `find_row` finds
pub index_found : {A : Type 0} (key : A → List ℕ) (k : List ℕ) (index : RowIndex) (b : Bool) (rows : List A) (cap : ℕ)
    → index ≡ row_index key k rows
    → b ≡ (is_existing index || ltb (length rows) cap)
    → b ≡ (is_there (find_row key k rows) || ltb (length rows) cap)
index_found key k index b rows cap is e = e ∙ rw (is, existing_there (search key k rows))

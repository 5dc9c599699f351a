-- General definitions about lists, which several sections of the rules use.
use Rattle.std.specs.Prelude.{Bool, true, false, ◌&&◌, cond, List, [], ◌∷◌, ℕ, zero, suc, ◌+◌, ◌<◌, eqb, None, Option, Some}
use Rattle.std.specs.List.{AllByRecursion}

-- every test of a list is passed
abbrev pub all_of : List Bool → Bool
all_of [] = true
all_of (b ∷ bs) = b && all_of bs

abbrev pub total : List ℕ → ℕ
total [] = 0
total (n ∷ ns) = n + total ns

-- how many of the numbers below n pass a test
unfoldable pub how_many : (ℕ → Bool) → ℕ → ℕ
how_many test zero = 0
how_many test (suc n) = cond (test n) (suc (how_many test n)) (how_many test n)

-- f of each number below n, in ascending order
unfoldable pub of_each : (ℕ → ℕ) → ℕ → List ℕ
of_each f zero = []
of_each f (suc n) = f 0 ∷ of_each (λ k. f (suc k)) n

module _ {A : Type 0} where
  -- every row passes a test
  abbrev pub every : (A → Bool) → List A → Bool
  every test [] = true
  every test (x ∷ xs) = test x && every test xs

  -- every row passes a test that is handed the row's index too
  abbrev pub every_numbered : (ℕ → A → Bool) → List A → Bool
  every_numbered test [] = true
  every_numbered test (x ∷ xs) = test 0 x && every_numbered (λ n. test (suc n)) xs

  -- the rows that pass a test
  abbrev pub select : (A → Bool) → List A → List A
  select test [] = []
  select test (x ∷ xs) = cond (test x) (x ∷ select test xs) (select test xs)

  -- the first row, if it is there; otherwise the second
  abbrev pub or_else : Option A → Option A → Option A
  or_else None b = b
  or_else (Some a) b = Some a

  -- a row that may be missing is there and passes a test
  abbrev pub if_there : (A → Bool) → Option A → Bool
  if_there test None = false
  if_there test (Some a) = test a

  -- a row that may be missing is there
  abbrev pub is_there : Option A → Bool
  is_there = if_there (λ a. true)

-- the lowest of the numbers below n that passes a test, if one does
unfoldable pub lowest_passing : (ℕ → Bool) → ℕ → Option ℕ
lowest_passing test zero = None
lowest_passing test (suc n) = or_else (lowest_passing test n) (cond (test n) (Some n) None)

-- nothing but zeros
abbrev pub zeros : List ℕ → Bool
zeros = every (λ b. eqb b 0)

-- every number is a byte
abbrev pub Bytes : List ℕ → Type 0
Bytes = AllByRecursion (λ b. b < 256)

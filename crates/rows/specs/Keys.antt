-- Keys compared from the left, as the code does: where the first numbers are equal, the others decide.
use Rattle.std.specs.Prelude.{Bool, List, ◌∷◌, ◌≡◌, ℕ}
use Rattle.std.proofs.Common.{arith, le-ltb, eq-eqb}
use Rattle.model.specs.Sorted.{before}

pub before_equal : (x y : ℕ) (xs ys : List ℕ) (b : Bool) → x ≡ y → b ≡ before xs ys → b ≡ before (x ∷ xs) (y ∷ ys)
before_equal x y xs ys b h e = rw (le-ltb x y (omega arith), eq-eqb x y h) e

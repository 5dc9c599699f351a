-- The rule of a constant table, proved for all of its entries at once. The rule makes a table of its own, and the two tables
-- are compared by computation. Then the rule holds at each entry.
use mathlib.Core.List.{List, [], ◌∷◌}
use mathlib.Core.Path.{◌≡◌}
use Prim.Native.Nat.{ℕ, zero, suc, ◌+◌, ◌<◌}
use native.Mathlib.Nat.{add-zero, zero-add, add-suc, suc-add, le_of_suc-le-suc, not-suc-le-zero}
use lib.ListN.{get_or}

-- what the rule gives for i and the n - 1 numbers after it
abbrev pub made_from : (ℕ → ℕ) → ℕ → ℕ → List ℕ
made_from rule i zero = []
made_from rule i (suc n) = rule i ∷ made_from rule (suc i) n

from : (rule : ℕ → ℕ) (n i k : ℕ) → k < n → get_or (made_from rule i n) k 0 ≡ rule (i + k)
from rule zero i k h = absurd (not-suc-le-zero h)
from rule (suc n) i zero h = rw add-zero
from rule (suc n) i (suc k) h = rw (add-suc, ← suc-add) (from rule n (suc i) k (le_of_suc-le-suc h))

pub entry : (rule : ℕ → ℕ) (n k : ℕ) → k < n → get_or (made_from rule 0 n) k 0 ≡ rule k
entry rule n k h = rw zero-add at (from rule n 0 k h)

use Rattle.std.proofs.Common.{◌≡◌, ◌++◌, take, drop}
use Rattle.holding.specs.Found.{counted}
use Rattle.holding.proofs.counts.count_set.Given as goal

-- `holding::counts::count_set` meets its contract: the counts up to here, with what is left of the set added to the others, are the
-- counts that are wanted, and the others are as they were.
abbrev pub invariant-loop-count : goal.invariant-loop-count
invariant-loop-count l =
    (take l.count-index l.counts ++ counted l.rest (drop l.count-index l.fn.counts) ≡ counted l.set l.fn.counts)
    × (drop l.count-index l.counts ≡ drop l.count-index l.fn.counts)

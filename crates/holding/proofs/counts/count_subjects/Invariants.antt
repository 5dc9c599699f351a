use lib.ListN.{length}
use Rattle.holding.specs.Counting.{Tally}
use Rattle.holding.proofs.counts.count_subjects.Given as goal

-- `holding::counts::count_subjects` meets its contract: in each turn of the loop, the subjects before this one are counted.
abbrev pub invariant-loop-n : goal.invariant-loop-n
invariant-loop-n l = Tally l.tables l.item.0 (length l.fn.counts) l.n l.counts

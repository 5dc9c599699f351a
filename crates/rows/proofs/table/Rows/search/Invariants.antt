use Rattle.std.proofs.Common.{◌-◌}
use Rattle.rows.specs.Reading.{zero_row}
use Rattle.rows.specs.Halving.{Halving}
use Rattle.rows.proofs.table.Rows.search.Given as goal

-- What is left between the two indices is still to be searched, and it gets less.
abbrev pub invariant-loop-first : goal.invariant-loop-first
invariant-loop-first g l = Halving g.R.Keyed.key_of l.self (g.R.Keyed.numbers l.key) (zero_row g.R.Row.format) l.first l.end

abbrev pub decreases-loop-first : goal.decreases-loop-first
decreases-loop-first g l = l.end - l.first

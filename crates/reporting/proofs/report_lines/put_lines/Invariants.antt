use Rattle.std.proofs.Common.{◌+◌}
use Rattle.reporting.proofs.Filling.{Lined}
use Rattle.reporting.proofs.report_lines.put_lines.Given as goal

-- each turn puts a line in front of those that are there
abbrev pub invariant-loop-number : goal.invariant-loop-number
invariant-loop-number l = Lined l.tables l.first (l.first + l.count) l.fn.page 65536 l.number l.page l.end

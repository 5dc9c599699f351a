use Rattle.std.proofs.Common.{◌*◌, ◌-◌}
use Rattle.std.specs.Io.KnownBytes.{Appends}
use Rattle.reporting.specs.Pages.{page_lines, pages_from}
use Rattle.reporting.proofs.write_lines.Given as goal

-- whatever is written of the pages that are left completes all pages
abbrev pub invariant-loop-number : goal.invariant-loop-number
invariant-loop-number g l =
    (end : _) → Appends (g.W.Write.contents l.out) end (pages_from l.tables (l.number * page_lines) (l.pages - l.number)) → Appends (g.W.Write.contents l.fn.out) end (pages_from l.tables 0 l.pages)

use Rattle.std.proofs.Common.{◌-◌}
use Rattle.model.specs.Image.{no_subject, subject_rules}
use Rattle.model.specs.WhoAndWhat.{privilege_width}
use Rattle.acceptance.specs.Passes.{Upto}
use Rattle.acceptance.proofs.row_rules.subjects_hold.Given as goal

-- the rows passed all hold their rules
abbrev pub invariant-loop-n : goal.invariant-loop-n
invariant-loop-n l = Upto l.rows no_subject (subject_rules privilege_width l.rows) l.n

abbrev pub decreases-loop-n : goal.decreases-loop-n
decreases-loop-n l = l.whole - l.n

use native.Mathlib.Omega.{arith}
use Rattle.reporting.proofs.Filling.{lined_none, lined_one, lined_all}
use Rattle.reporting.proofs.report_lines.put_lines.Goals as goal

pub loop-number-init : goal.loop-number-init
loop-number-init c = lined_none _ _ _ _ _ (omega arith) (omega arith)

pub loop-number-preserved : goal.loop-number-preserved
loop-number-preserved c = search lined_one

pub returns : goal.returns
returns c = search (arith, lined_all)

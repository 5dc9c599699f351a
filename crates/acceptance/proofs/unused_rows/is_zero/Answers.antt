use Rattle.acceptance.specs.Zeros.{seen_ends}
use Rattle.acceptance.proofs.unused_rows.is_zero.Goals as goal

pub loop-n-init : goal.loop-n-init
loop-n-init c = search seen_ends

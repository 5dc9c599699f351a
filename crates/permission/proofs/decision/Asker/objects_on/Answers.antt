use Rattle.std.proofs.Common.{rules}
use Rattle.std.specs.Int.Bits.{or_zero_r}
use Rattle.permission.proofs.decision.Asker.objects_on.Goals as goal

pub returns-in-None : goal.returns-in-None
returns-in-None c = search (or_zero_r, rules)

use Rattle.fields.proofs.Raised.{raised_one}
use Rattle.fields.proofs.edits.make_room.Goals as goal

pub loop-from-preserved : goal.loop-from-preserved
loop-from-preserved c = raised_one _ _ _ _ _ c.loop-from.invariant c.loop-from-test.true

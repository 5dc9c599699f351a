use Rattle.holding.specs.Counting.{added_early}
use Rattle.holding.proofs.counts.count_set.Goals as goal

pub returns-then-rest-eq0 : goal.returns-then-rest-eq0
returns-then-rest-eq0 c = added_early _ _ _ _ _ c.loop-count.invariant c.if-rest-eq0.true

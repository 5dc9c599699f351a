use Rattle.lines.specs.NearestGroups.{narrowing_all, comes_before}
use Rattle.lines.specs.NearestGroups.{narrowing_behind, narrowing_found, narrowing_front, narrowing_over}
use Rattle.lines.proofs.groups.nearest_group.Goals as goal

pub loop-first-init : goal.loop-first-init
loop-first-init c = rw c.len-end.ensures (narrowing_all _ _ _)

pub bound_behind-bound-requires-clause-comes_before : goal.bound_behind-bound-requires-clause-comes_before
bound_behind-bound-requires-clause-comes_before c = search comes_before

pub loop-first-preserved-then-before : goal.loop-first-preserved-then-before
loop-first-preserved-then-before c = search narrowing_behind

pub returns-then-is_at : goal.returns-then-is_at
returns-then-is_at c = rw (← c.rows-rows.ensures) (search narrowing_found)

pub loop-first-preserved : goal.loop-first-preserved
loop-first-preserved c = search narrowing_front

pub returns : goal.returns
returns c = rw (← c.rows-rows.ensures) (narrowing_over _ _ _ _ _ _ c.loop-first.invariant c.loop-first-test.false)

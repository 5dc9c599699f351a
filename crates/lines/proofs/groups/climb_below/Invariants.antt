use Rattle.model.specs.Image.{parent_in}
use Rattle.lines.specs.Climbing.{Way}
use Rattle.lines.proofs.groups.climb_below.Given as goal

-- `lines::groups::climb_below` meets its contract: each step up goes one step further on the way.
abbrev pub invariant-loop-at : goal.invariant-loop-at
invariant-loop-at l = Way (parent_in l.tables.subjects) l.bound l.initial.at.0 l.at.0

abbrev pub decreases-loop-at : goal.decreases-loop-at
decreases-loop-at l = l.at.0

use Rattle.model.specs.Image.{parent_in}
use Rattle.tables.specs.Climbs.{Climbed}
use Rattle.tables.proofs.Tables.steps_up.Given as goal

-- `tables::Tables::steps_up` meets its contract: each step up is counted and leaves the steps from there on, and below the root
-- there are none.
abbrev pub invariant-loop-at : goal.invariant-loop-at
invariant-loop-at l = Climbed (parent_in l.self.subjects) l.root.0 l.initial.at.0 l.steps l.at.0

abbrev pub decreases-loop-at : goal.decreases-loop-at
decreases-loop-at l = l.at.0

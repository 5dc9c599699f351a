use Prim.Native.Nat.{◌-◌}
use Rattle.lines.specs.NearestGroups.{Narrowing}
use Rattle.lines.proofs.groups.nearest_group.Given as goal

-- `lines::groups::nearest_group` meets its contract: the searches for all groups from the bound on are still to be made between
-- the two indices.
abbrev pub invariant-loop-first : goal.invariant-loop-first
invariant-loop-first l = Narrowing l.rows l.list.0 l.group.0 l.first l.end l.bound

abbrev pub decreases-loop-first : goal.decreases-loop-first
decreases-loop-first l = l.end - l.first

use Rattle.permission.specs.Folders.{Left}
use Rattle.permission.proofs.decision.Asker.shared_objects.Given as goal

-- `permission::decision::Asker::shared_objects` meets its contract: in each turn of the loop, what is left shares with the object sets from
-- here on what the whole set shares with those from the item on.
abbrev pub invariant-loop-left : goal.invariant-loop-left
invariant-loop-left l = Left l.self.tables.now l.self.subject.0 l.self.grant l.set l.initial.at.0 l.left l.at.0

abbrev pub decreases-loop-left : goal.decreases-loop-left
decreases-loop-left l = l.at.0

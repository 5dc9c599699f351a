use Rattle.lines.specs.Groups.{groups_out, groups_up}
use Rattle.lines.proofs.groups.group_rule.Goals as goal

pub returns-then-subject-parent : goal.returns-then-subject-parent
returns-then-subject-parent c = search groups_out

pub returns : goal.returns
returns c = search groups_up

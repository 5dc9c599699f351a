use Rattle.std.proofs.Common.{rules, arith}
use Rattle.lines.specs.NearestGroups.{row_below, behind_row}
use Rattle.lines.proofs.groups.bound_behind.Goals as goal

pub overflow_add-result : goal.overflow_add-result
overflow_add-result c =
    let below =
    row_below c.args.row c.args.list.0 c.args.group.0 0 (search rules) (search rules) (search rules) in
    record { fits = omega (arith, below) }

pub returns : goal.returns
returns c = search (behind_row, rules)

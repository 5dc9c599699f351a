-- One name for the definitions that are unfolded when a call is computed on tables written out in full. A theorem that is
-- proved by computation says `unfolding computing`.
use Rattle.model.specs.Lists.{how_many, of_each, lowest_passing}
use Rattle.model.specs.Sorted.{ascending, search, put, cut}
use Rattle.model.specs.Tree.{steps_within, steps_up, in_tree}
use Rattle.model.specs.WhoAndWhat.{has}
use Rattle.model.specs.Image.{field_at, layout_of, rows_in, tables_by, block_of, encode, subjects_hold, items_hold}
use Rattle.model.specs.Image.{lines_hold, grants_hold}
use Rattle.model.specs.Image.{header_rules, table_rules, layout_rules, unused_rules}
use Rattle.model.specs.Permission.{group_within, group_line, group_rule, own_rule, owner_rule, deciding_rule}
use Rattle.model.specs.Permission.{everyone_set, part_on}
use Rattle.model.specs.Permission.{operation_under, object_under, own_under, shared_within, shared_up}
use Rattle.model.specs.Permission.{permission_under, explanation_under}
use Rattle.model.specs.Calls.{holders, holder_counts, lowest_editor, ask_result, after, change_result}
use Rattle.model.specs.Questions.{first_no, image_questions, ask_questions, explain_questions, holders_questions, questions}
use Rattle.model.specs.Questions.{check, ask, explain, count_holders, act}

unfoldable pub computing : Unit {0}
unfolding how_many of_each lowest_passing ascending search put cut steps_within steps_up in_tree has
    field_at layout_of rows_in tables_by block_of encode
    subjects_hold items_hold lines_hold grants_hold header_rules table_rules layout_rules unused_rules
    group_within group_line group_rule own_rule owner_rule deciding_rule everyone_set part_on
    operation_under object_under own_under shared_within shared_up permission_under explanation_under
    holders holder_counts lowest_editor ask_result after change_result
    first_no image_questions ask_questions explain_questions holders_questions questions check ask explain count_holders act
computing = tt

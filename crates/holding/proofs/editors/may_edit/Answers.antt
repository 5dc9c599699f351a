use Rattle.holding.specs.Editors.{edit_no, edit_not_by_lines, edit_by_lines, edit_by_folder}
use Rattle.holding.proofs.editors.may_edit.Goals as goal

pub returns-then-not-has : goal.returns-then-not-has
returns-then-not-has c = search edit_no

pub returns-then-not-has-2 : goal.returns-then-not-has-2
returns-then-not-has-2 c = search edit_not_by_lines

pub returns-then-not-leads_up : goal.returns-then-not-leads_up
returns-then-not-leads_up c = search edit_by_lines

pub returns : goal.returns
returns c = search edit_by_folder

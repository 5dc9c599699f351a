use borrow.Author.Rules.{rules}
use Rattle.holding.specs.Editors.{tried_none, tried_here, tried_next, tried_all}
use Rattle.holding.proofs.editors.lowest_editor.Goals as goal

pub loop-n-init : goal.loop-n-init
loop-n-init c = search tried_none

pub may_edit-requires : goal.may_edit-requires
may_edit-requires c = search rules

pub returns-then-may_edit : goal.returns-then-may_edit
returns-then-may_edit c = search (tried_here)

pub loop-n-preserved : goal.loop-n-preserved
loop-n-preserved c = search (tried_next)

pub returns : goal.returns
returns c = search (tried_all)

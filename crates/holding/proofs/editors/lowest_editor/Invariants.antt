use Rattle.holding.specs.Editors.{Tried}
use Rattle.holding.proofs.editors.lowest_editor.Given as goal

-- `holding::editors::lowest_editor` meets its contract: in each turn of the loop, no subject that was passed is an editor.
abbrev pub invariant-loop-n : goal.invariant-loop-n
invariant-loop-n l = Tried l.tables l.list.0 l.n

use Rattle.rows.specs.Reading.{zero_row}
use Rattle.model.specs.Image.{tables_by}
use Rattle.acceptance.specs.Passes.{Ascends}
use Rattle.acceptance.proofs.row_rules.rows_hold.Given as goal

-- The rows passed all hold their rules and ascend, so the question is left for the rows after them.
abbrev pub invariant-loop-n : goal.invariant-loop-n
invariant-loop-n g l =
    Ascends (g.R.Listed.rows (tables_by l.layout l.image)) (zero_row g.R.Row.format) (g.R.Ruled.rules (tables_by l.layout l.image))
    g.R.Keyed.key_of l.n l.last

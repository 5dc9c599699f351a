use Rattle.rows.proofs.Listed.{cut_rows}
use Rattle.rows.proofs.table.Rows.cut.Goals as goal

pub returns : goal.returns
returns g c = cut_rows g.R.Row.format g.met.R.Row.lawful (g.R.Row.table c.args.layout) c.table.result c.args.bytes.now c.rows_in_use.result.now c.table.ensures c.rows_in_use.ensures

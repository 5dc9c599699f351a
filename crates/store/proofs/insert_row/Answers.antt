use Rattle.std.proofs.Common.{◌∙◌, arith}
use Rattle.store.proofs.StoreLaws.{not_added}
use Rattle.store.proofs.insert_row.Goals as goal

pub returns-then-offset_count-end : goal.returns-then-offset_count-end
returns-then-offset_count-end g c =
    not_added g.R.Row.format g.met.R.Row.lawful g.R.Row.USED (g.R.Row.table c.args.layout) c.args.n c.args.row c.args.image.now _ _
    (rw c.table-used.ensures at c.offset_of-end.ensures.value) (c.SIZE.ensures ∙ g.met.R.Row.sized) (omega arith)

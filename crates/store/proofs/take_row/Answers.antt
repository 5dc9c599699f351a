use Rattle.store.proofs.StoreLaws.{none_taken}
use Rattle.store.proofs.take_row.Goals as goal

pub returns-then-image-end : goal.returns-then-image-end
returns-then-image-end g c =
    none_taken g.R.Row.format g.met.R.Row.lawful g.R.Row.USED (g.R.Row.table c.args.layout) c.args.n c.args.image.now _
    (rw c.table-used.ensures at c.offset_of-end.ensures.value) c.if-image-end.true

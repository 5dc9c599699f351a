use Rattle.std.proofs.lemmas.Bool.{not_from_true}
use Rattle.model.specs.Image.{tables_by}
use Rattle.acceptance.specs.Passes.{ascends_none, ascends_broken, ascends_other, ascends_next, ascends_all, none_read}
use Rattle.acceptance.proofs.row_rules.rows_hold.Goals as goal

pub loop-n-init : goal.loop-n-init
loop-n-init g c =
    ascends_none _ _ _ _ _ (g.met.R.Ruled.follows (tables_by c.args.layout c.args.image.now)) (none_read g.R.Row.format _ c.read-last.ensures)

pub returns-then-not-before : goal.returns-then-not-before
returns-then-not-before g c =
    let row = rw c.at-tables.ensures at c.row_at-row.ensures in
    let count = rw c.at-tables.ensures at c.count-used.ensures in
    let order = rw c.key.ensures at c.before-in-loop-n.ensures in
    search (ascends_other, row, count, order)

pub returns-then-not-fits : goal.returns-then-not-fits
returns-then-not-fits g c =
    let row = rw c.at-tables.ensures at c.row_at-row.ensures in
    let count = rw c.at-tables.ensures at c.count-used.ensures in
    search (ascends_broken, row, count)

pub loop-n-preserved : goal.loop-n-preserved
loop-n-preserved g c =
    let row = rw c.at-tables.ensures at c.row_at-row.ensures in
    let count = rw c.at-tables.ensures at c.count-used.ensures in
    let order = rw c.key.ensures at c.before-in-loop-n.ensures in
    ascends_next _ _ _ _ _ _ _ c.loop-n.invariant _ count c.loop-n-test.true
    row _ order
    (not_from_true _ c.if-not-before.false) _ c.fits.ensures (not_from_true _ c.if-not-fits.false)

pub returns : goal.returns
returns g c =
    let count = rw c.at-tables.ensures at c.count-used.ensures in
    search (ascends_all, count)

use Rattle.model.specs.Image.{items_hold}
use Rattle.acceptance.specs.Passes.{upto_none, upto_broken, upto_next, upto_all}
use Rattle.acceptance.specs.Rules.{item_next}
use Rattle.acceptance.proofs.row_rules.items_hold.Goals as goal

pub loop-n-init : goal.loop-n-init
loop-n-init c = search upto_none

pub returns-then-not-item_fits : goal.returns-then-not-item_fits
unfolding items_hold
returns-then-not-item_fits c =
    let count = rw c.at-tables.ensures at c.count-used.ensures in
    search (upto_broken, item_next, count)

pub loop-n-preserved : goal.loop-n-preserved
loop-n-preserved c =
    let count = rw c.at-tables.ensures at c.count-used.ensures in
    search (upto_next, item_next, count)

pub returns : goal.returns
unfolding items_hold
returns c =
    let count = rw c.at-tables.ensures at c.count-used.ensures in
    search (upto_all, count)

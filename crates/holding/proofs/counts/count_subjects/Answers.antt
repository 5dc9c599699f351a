use Rattle.std.proofs.Common.{rules}
use Rattle.holding.specs.Counting.{tally_none, tally_fits, tally_one, tally_all}
use Rattle.holding.proofs.counts.count_subjects.Goals as goal

pub loop-n-init : goal.loop-n-init
loop-n-init c = tally_none _ _ _ _ (c.fill.ensures.after (λ y e. e))

pub set_on-set-requires : goal.set_on-set-requires
set_on-set-requires c = search rules

pub count_set-requires : goal.count_set-requires
count_set-requires c = search (tally_fits, rules)

pub loop-n-preserved : goal.loop-n-preserved
loop-n-preserved c = search (tally_one)

pub returns : goal.returns
returns c = search (tally_all)

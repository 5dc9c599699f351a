use Rattle.tables.specs.Rows.{parent_read}
use Rattle.tables.specs.Climbs.{climbed_none, climbed_out, climbed_up, climbed_past, climbed_there}
use Rattle.tables.proofs.Tables.steps_up.Goals as goal

pub loop-at-init : goal.loop-at-init
loop-at-init c = search climbed_none

pub returns-then-at-parent : goal.returns-then-at-parent
returns-then-at-parent c = search (climbed_out, parent_read)

pub loop-at-preserved : goal.loop-at-preserved
loop-at-preserved c = search (climbed_up, parent_read)

pub returns-then-at-root : goal.returns-then-at-root
returns-then-at-root c = search climbed_past

pub returns : goal.returns
returns c = search climbed_there

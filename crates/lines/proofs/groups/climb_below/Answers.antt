use Rattle.tables.specs.Rows.{parent_read}
use Rattle.lines.specs.Groups.{way_none, way_up, climbed_out, climbed_below}
use Rattle.lines.proofs.groups.climb_below.Goals as goal

pub loop-at-init : goal.loop-at-init
loop-at-init c = search way_none

pub returns-then-at-parent : goal.returns-then-at-parent
returns-then-at-parent c = search (climbed_out, parent_read)

pub loop-at-preserved : goal.loop-at-preserved
loop-at-preserved c = search (way_up, parent_read)

pub returns : goal.returns
returns c = search climbed_below

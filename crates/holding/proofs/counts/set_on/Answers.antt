use Rattle.permission.specs.Sets.{set_alone, set_in_folder}
use Rattle.holding.proofs.counts.set_on.Goals as goal

pub returns-then-not-leads_up : goal.returns-then-not-leads_up
returns-then-not-leads_up c = search set_alone

pub returns : goal.returns
returns c = search set_in_folder

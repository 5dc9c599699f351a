use Rattle.model.specs.Permission.{shared_up}
use Rattle.permission.specs.Folders.{left_none, left_last, left_further, folder_falls}
use Rattle.permission.proofs.decision.Asker.shared_objects.Goals as goal

pub returns-then-not-leads_up : goal.returns-then-not-leads_up
unfolding shared_up
returns-then-not-leads_up c = search left_last

pub loop-left-smaller : goal.loop-left-smaller
loop-left-smaller c = search folder_falls

pub loop-left-preserved : goal.loop-left-preserved
loop-left-preserved c = search left_further

pub returns : goal.returns
returns c = search left_none

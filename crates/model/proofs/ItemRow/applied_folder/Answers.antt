use Rattle.model.proofs.Flags.{folder_applies, no_folder_applies}
use Rattle.model.proofs.ItemRow.applied_folder.Goals as goal

pub returns-then-folder_applies : goal.returns-then-folder_applies
returns-then-folder_applies c = search folder_applies

pub returns : goal.returns
returns c = search no_folder_applies

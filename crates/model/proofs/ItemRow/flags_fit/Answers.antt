use Rattle.model.proofs.Flags.{flags_alone, flags_with_folder}
use Rattle.model.proofs.ItemRow.flags_fit.Goals as goal

-- `ItemRow::flags_fit` meets its contract, without a folder and with one.
pub returns-then-folder-eq0 : goal.returns-then-folder-eq0
returns-then-folder-eq0 c = search flags_alone

pub returns : goal.returns
returns c = search flags_with_folder

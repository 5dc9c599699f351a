use mathlib.Core.Path.{refl}
use borrow.Author.Rules.{rules}
use Rattle.model.proofs.Positions.{meets}
use Rattle.model.proofs.ItemRow.is_list.Goals as goal

-- `ItemRow::is_list` meets its contract: the flags and the mask of position 0 have a bit in common exactly when the
-- flags have position 0.
pub returns : goal.returns
returns c = meets 0 _ _ (search rules) refl

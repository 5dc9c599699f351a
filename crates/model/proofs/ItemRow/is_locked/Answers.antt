use mathlib.Core.Path.{refl}
use borrow.Author.Rules.{rules}
use Rattle.model.proofs.Positions.{meets}
use Rattle.model.proofs.ItemRow.is_locked.Goals as goal

-- `ItemRow::is_locked` meets its contract: the flags and the mask of position 1 have a bit in common exactly when the
-- flags have position 1.
pub returns : goal.returns
returns c = meets 1 _ _ (search rules) refl

use mathlib.Core.Path.{refl}
use borrow.Author.Rules.{rules}
use Rattle.model.proofs.Positions.{meets}
use Rattle.model.proofs.folder_applies.Goals as goal

-- `folder_applies` meets its contract: the flags and the mask of position 2 have a bit in common exactly when the
-- flags have position 2.
pub returns : goal.returns
returns c = meets 2 _ _ (search rules) refl

use borrow.Author.Rules.{rules}
use Rattle.model.proofs.Positions.{meets}
use Rattle.model.proofs.has.Goals as goal

pub returns : goal.returns
returns c = meets _ _ _ (search rules) c.mask.ensures

use Prim.Native.Nat.{◌<◌}
use borrow.Author.Rules.{rules}
use Rattle.model.specs.WhoAndWhat.{needed_position}
use Rattle.model.proofs.ConstantTable.{entry}
use Rattle.model.proofs.Positions.{no_position_lem}
use Rattle.model.proofs.needed_position.Goals as goal

-- `model::needed_position` meets its contract: each entry of the table is the position that question 15 names for
-- the call whose number is the entry's index.
pub returns-then-call-ge4 : goal.returns-then-call-ge4
returns-then-call-ge4 c = search no_position_lem

pub returns : goal.returns
returns c = let h : c.args.call < 4 = search rules in entry needed_position 4 _ h

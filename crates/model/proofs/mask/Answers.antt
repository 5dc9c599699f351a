use Prim.Native.Nat.{◌<◌}
use borrow.Author.Rules.{rules}
use borrow.Author.Tests.{le-ltb}
use Rattle.model.specs.WhoAndWhat.{mask_of}
use Rattle.model.proofs.ConstantTable.{entry}
use Rattle.model.proofs.mask.Goals as goal

-- `model::mask` meets its contract: each entry of the table is the power of two of its index.
pub returns-then-position-ge32 : goal.returns-then-position-ge32
returns-then-position-ge32 c = simp (le-ltb _ _ c.if-position-ge32.true)

pub returns : goal.returns
returns c = let h : c.args.position < 32 = search rules in entry mask_of 32 _ h

use borrow.Author.Tests.{eq-eqb, ne_eqb}
use Rattle.laws.specs.Tests.{or_yes, or_no}
use Rattle.tables.proofs.Tables.none_or_item.Goals as goal

-- `tables::items::none_or_item` meets its contract: the item is 0, or else it has to be in use.
pub returns-then-item-eq0 : goal.returns-then-item-eq0
returns-then-item-eq0 c = search (or_yes, eq-eqb)

pub returns : goal.returns
returns c = search (or_no, ne_eqb)

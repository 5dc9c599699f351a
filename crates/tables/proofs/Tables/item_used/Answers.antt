use Rattle.model.specs.Image.{tables_by}
use Rattle.tables.specs.Rows.{item_is_used}
use Rattle.tables.proofs.Tables.item_used.Goals as goal

pub returns : goal.returns
unfolding tables_by
returns c = rw (← c.self.view_is) (search item_is_used)

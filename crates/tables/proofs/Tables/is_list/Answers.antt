use Rattle.model.specs.Image.{tables_by}
use Rattle.laws.specs.Tests.{and_no, said_no}
use Rattle.tables.specs.Rows.{list_flag_lem}
use Rattle.tables.proofs.Tables.is_list.Goals as goal

pub returns-then-not-item_used : goal.returns-then-not-item_used
unfolding tables_by
returns-then-not-item_used c = search (and_no, said_no)

pub returns : goal.returns
unfolding tables_by
returns c = search list_flag_lem

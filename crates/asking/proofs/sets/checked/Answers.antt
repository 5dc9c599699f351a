use Rattle.laws.specs.Asks.{check_done}
use Rattle.asking.proofs.sets.checked.Goals as goal

pub returns : goal.returns
returns c = check_done _ _ c.open_tables.ensures _ c.in_ok-open_tables.was

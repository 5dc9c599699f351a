use Rattle.tables.specs.Capacities.{no_capacity}
use Rattle.tables.proofs.has_free.Goals as goal

-- `tables::free::has_free` meets its contract: a table that ends before it starts has the capacity 0.
pub returns-then-table : goal.returns-then-table
returns-then-table c = search no_capacity

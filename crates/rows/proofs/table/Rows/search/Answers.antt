use Rattle.rows.specs.Halving.{halving_found, halving_over}
use Rattle.rows.proofs.table.Rows.search.Goals as goal

pub returns-then-is_at : goal.returns-then-is_at
returns-then-is_at g c = search halving_found

pub returns : goal.returns
returns g c = search halving_over

-- Whether a table has a free row, answered by a callee that is handed the size of a row as a number.
use Rattle.std.specs.Prelude.{false, ◌≡◌, ℕ, ◌-◌, ◌<◌, ltb}
use Rattle.std.proofs.Common.{sym, arith, le-ltb}
use Rattle.std.proofs.Math.Nat.{zero-div}
use Rattle.model.specs.declared.Table.{Table}
use Rattle.model.specs.Image.{capacity_by}

pub no_capacity : (t : Table) (n : ℕ) → t.end < t.start → false ≡ ltb t.used (capacity_by n t)
no_capacity t n h =
    let none : t.end - t.start ≡ 0 = omega arith in
    sym (rw (none, zero-div n) (le-ltb t.used 0 (omega arith)))

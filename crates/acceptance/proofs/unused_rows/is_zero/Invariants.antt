use Rattle.acceptance.specs.Zeros.{Seen}
use Rattle.acceptance.proofs.unused_rows.is_zero.Given as goal

-- `seen` is the union of the bits of the words passed and of the last eight bytes
abbrev pub invariant-loop-n : goal.invariant-loop-n
invariant-loop-n l = Seen l.bytes l.n l.seen

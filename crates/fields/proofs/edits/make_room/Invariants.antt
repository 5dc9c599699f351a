use Rattle.fields.proofs.Raised.{Raised}
use Rattle.fields.proofs.edits.make_room.Given as goal

-- the bytes from offset `from` on have moved up, and those below are unchanged
abbrev pub invariant-loop-from : goal.invariant-loop-from
invariant-loop-from l = Raised l.initial.bytes l.size l.at l.bytes l.from

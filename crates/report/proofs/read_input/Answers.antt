use borrow.Author.Rules.{rules}
use Rattle.report.proofs.Input.{more_read}
use Rattle.report.proofs.read_input.Goals as goal

pub loop-done-preserved : goal.loop-done-preserved
loop-done-preserved g c =
    let read = c.in_ok-got.ensures in
    record {
      within = search rules;
      bytes = more_read _ _ _ _ _ c.loop-done.invariant.within read.bound.0 _ _ _ c.loop-done.invariant.bytes read.bytes.0;
    }

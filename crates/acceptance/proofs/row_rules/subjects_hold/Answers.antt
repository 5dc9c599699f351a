use Rattle.std.proofs.Common.{refl, arith, lt-ltb}
use Rattle.model.specs.WhoAndWhat.{privilege_width}
use Rattle.model.specs.Image.{subjects_hold}
use Rattle.acceptance.specs.Passes.{upto_none, whole_broken, whole_next, upto_inside, none_inside}
use Rattle.acceptance.specs.Rules.{zeros_hold}
use Rattle.acceptance.proofs.row_rules.subjects_hold.Goals as goal

pub loop-n-init : goal.loop-n-init
loop-n-init c = search upto_none

pub returns-then-not-subject_fits : goal.returns-then-not-subject_fits
unfolding subjects_hold
returns-then-not-subject_fits c = rw (← c.at-tables.ensures, ← c.rows-rows.ensures) (search whole_broken)

pub overflow_add-n : goal.overflow_add-n
overflow_add-n c = record { fits = omega (arith, c.whole-whole.ensures.few, c.len-used.ensures, c.len-used.type_inv, c.loop-n-test.true) }

pub loop-n-preserved : goal.loop-n-preserved
loop-n-preserved c = search whole_next

pub returns-then-n-gt0 : goal.returns-then-n-gt0
unfolding subjects_hold
returns-then-n-gt0 c =
    rw (← c.at-tables.ensures, ← c.rows-rows.ensures, lt-ltb 0 c.loop-n.n c.if-n-gt0.true)
    (upto_inside _ _ _ _ c.whole-whole.ensures.few c.whole-whole.ensures.zeros _ c.loop-n-test.false c.loop-n.invariant
    (zeros_hold privilege_width _ _ (omega arith)))

pub returns-else-n-gt0 : goal.returns-else-n-gt0
unfolding subjects_hold
returns-else-n-gt0 c =
    rw (← c.at-tables.ensures, ← c.rows-rows.ensures)
    (none_inside _ _ _ _ c.whole-whole.ensures.few c.whole-whole.ensures.zeros _ c.loop-n-test.false c.if-n-gt0.false refl _ c.len-used.ensures _ refl)

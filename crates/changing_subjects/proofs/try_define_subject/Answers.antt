use Rattle.laws.specs.Acts.{act_handed, act_image, act_asked}
use Rattle.laws.specs.Opens.{none_refused}
use Rattle.changing_subjects.specs.Subjects.{defined}
use Rattle.changing_subjects.proofs.try_define_subject.Goals as goal

pub returns-in_err-layout : goal.returns-in_err-layout
returns-in_err-layout c =
    let was = c.in_err-layout.was in
    let both = act_handed _ _ _ _ was _ c.from_residual.ensures.1 (act_image _ _ c.open.ensures.value _ _ was) in
    record { value = both.0; image_after = both.1 }

pub returns-in_err-ask_define_subject : goal.returns-in_err-ask_define_subject
returns-in_err-ask_define_subject c =
    let opened = c.in_ok-layout.was in
    let was = c.in_err-ask_define_subject.was in
    let said = rw c.at-tables.ensures at c.ask_define_subject.ensures in
    let both = act_handed _ _ _ _ was _ c.from_residual-in_err-ask_define_subject.ensures.1 (act_asked _ _ c.open.ensures.value _ _ opened _ said _ was) in
    record { value = both.0; image_after = both.1 }

pub returns : goal.returns
returns c =
    let opened = c.in_ok-layout.was in
    let was = c.in_ok-ask_define_subject.was in
    let zero = none_refused _ _ (rw c.at-tables.ensures at c.ask_define_subject.ensures) _ was in
    let both = defined _ _ c.open.ensures.value _ opened _ _ _ _ _ c.slice_known-1.given zero _ (rw c.at-tables.ensures at c.new_privileges-held.ensures) (rw c.new.ensures at c.add_row.ensures) in
    record { value = both.0; image_after = both.1 }

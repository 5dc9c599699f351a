use Rattle.laws.specs.Acts.{act_handed, act_image, act_asked}
use Rattle.laws.specs.Opens.{none_refused}
use Rattle.changing_items.specs.Items.{item_handed}
use Rattle.changing_items.proofs.try_hand_over.Goals as goal

pub returns-in_err-layout : goal.returns-in_err-layout
returns-in_err-layout c =
    let was = c.in_err-layout.was in
    let both = act_handed _ _ _ _ was _ c.from_residual.ensures.1 (act_image _ _ c.open.ensures.value _ _ was) in
    record { value = both.0; image_after = both.1 }

pub returns-in_err-ask_hand_over : goal.returns-in_err-ask_hand_over
returns-in_err-ask_hand_over c =
    let opened = c.in_ok-layout.was in
    let was = c.in_err-ask_hand_over.was in
    let said = rw c.at-tables.ensures at c.ask_hand_over.ensures in
    let both = act_handed _ _ _ _ was _ c.from_residual-in_err-ask_hand_over.ensures.1 (act_asked _ _ c.open.ensures.value _ _ opened _ said _ was) in
    record { value = both.0; image_after = both.1 }

pub returns : goal.returns
returns c =
    let opened = c.in_ok-layout.was in
    let was = c.in_ok-ask_hand_over.was in
    let zero = none_refused _ _ (rw c.at-tables.ensures at c.ask_hand_over.ensures) _ was in
    let both = item_handed _ _ c.open.ensures.value _ opened _ c.slice_known-1.given _ _ _ zero (rw (c.with_owner-row.ensures, c.item_at.ensures, c.at-tables.ensures) at c.replace_item.ensures) in
    record { value = both.0; image_after = both.1 }

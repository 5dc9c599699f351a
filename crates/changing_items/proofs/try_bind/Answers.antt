use Rattle.laws.specs.Acts.{act_handed, act_image, act_asked}
use Rattle.laws.specs.Opens.{none_refused}
use Rattle.changing_items.specs.Items.{item_bound}
use Rattle.changing_items.proofs.try_bind.Goals as goal

pub returns-in_err-layout : goal.returns-in_err-layout
returns-in_err-layout c =
    let was = c.in_err-layout.was in
    let both = act_handed _ _ _ _ was _ c.from_residual.ensures.1 (act_image _ _ c.open.ensures.value _ _ was) in
    record { value = both.0; image_after = both.1 }

pub returns-in_err-ask_bind : goal.returns-in_err-ask_bind
returns-in_err-ask_bind c =
    let opened = c.in_ok-layout.was in
    let was = c.in_err-ask_bind.was in
    let said = rw c.at-tables.ensures at c.ask_bind.ensures in
    let both = act_handed _ _ _ _ was _ c.from_residual-in_err-ask_bind.ensures.1 (act_asked _ _ c.open.ensures.value _ _ opened _ said _ was) in
    record { value = both.0; image_after = both.1 }

pub returns : goal.returns
returns c =
    let opened = c.in_ok-layout.was in
    let was = c.in_ok-ask_bind.was in
    let zero = none_refused _ _ (rw c.at-tables.ensures at c.ask_bind.ensures) _ was in
    let both = item_bound _ _ c.open.ensures.value _ opened _ c.slice_known-1.given _ _ _ zero (rw (c.with_list-row.ensures, c.item_at.ensures, c.at-tables.ensures) at c.replace_item.ensures) in
    record { value = both.0; image_after = both.1 }

use Rattle.laws.specs.Acts.{act_handed, act_image, act_asked}
use Rattle.laws.specs.Opens.{none_refused}
use Rattle.changing_items.specs.Items.{item_created, number_fits}
use Rattle.changing_items.proofs.try_create_item.Goals as goal

pub returns-in_err-layout : goal.returns-in_err-layout
returns-in_err-layout c =
    let was = c.in_err-layout.was in
    let both = act_handed _ _ _ _ was _ c.from_residual.ensures.1 (act_image _ _ c.open.ensures.value _ _ was) in
    record { value = both.0; image_after = both.1 }

pub returns-in_err-ask_create_item : goal.returns-in_err-ask_create_item
returns-in_err-ask_create_item c =
    let opened = c.in_ok-layout.was in
    let was = c.in_err-ask_create_item.was in
    let said = rw c.at-tables.ensures at c.ask_create_item.ensures in
    let both = act_handed _ _ _ _ was _ c.from_residual-in_err-ask_create_item.ensures.1 (act_asked _ _ c.open.ensures.value _ _ opened _ said _ was) in
    record { value = both.0; image_after = both.1 }

pub overflow_add-result : goal.overflow_add-result
overflow_add-result c =
    let was = c.in_ok-ask_create_item.was in
    let zero = none_refused _ _ (rw c.at-tables.ensures at c.ask_create_item.ensures) _ was in
    record { fits = search (number_fits, zero) }

pub returns : goal.returns
returns c =
    let opened = c.in_ok-layout.was in
    let was = c.in_ok-ask_create_item.was in
    let zero = none_refused _ _ (rw c.at-tables.ensures at c.ask_create_item.ensures) _ was in
    let both = item_created _ _ c.open.ensures.value _ opened _ c.slice_known-1.given _ _ _ _ _ zero (rw c.new.ensures at c.add_row.ensures) in
    record { value = both.0; image_after = both.1 }

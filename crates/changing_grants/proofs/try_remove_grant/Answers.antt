use Rattle.changing_grants.specs.Grants.{grant_cut}
use Rattle.laws.specs.Acts.{act_handed, act_image, act_asked}
use Rattle.changing_grants.proofs.try_remove_grant.Goals as goal

pub returns-in_err-layout : goal.returns-in_err-layout
returns-in_err-layout c =
    let was = c.in_err-layout.was in
    let both = act_handed _ _ _ _ was _ c.from_residual.ensures.1 (act_image _ _ c.open.ensures.value _ _ was) in
    record { value = both.0; image_after = both.1 }

pub returns-in_err-n : goal.returns-in_err-n
returns-in_err-n c =
    let opened = c.in_ok-layout.was in
    let was = c.in_err-n.was in
    let said = rw c.at-tables.ensures at c.ask_remove_grant.ensures.number in
    let both = act_handed _ _ _ _ was _ c.from_residual-in_err-n.ensures.1 (act_asked _ _ c.open.ensures.value _ _ opened _ said _ was) in
    record { value = both.0; image_after = both.1 }

pub returns : goal.returns
returns c =
    let opened = c.in_ok-layout.was in
    let was = c.in_ok-n.was in
    let so = rw c.at-tables.ensures at c.ask_remove_grant.ensures.value in
    let both = grant_cut _ _ c.open.ensures.value _ opened _ _ _ _ _ _ so was c.take_row.ensures c.slice_known-1.given in
    record { value = both.0; image_after = both.1 }

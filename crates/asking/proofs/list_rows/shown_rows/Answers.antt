use Rattle.asking.specs.Shown.{shown_rows}
use Rattle.asking.proofs.list_rows.shown_rows.Goals as goal

pub returns : goal.returns
returns c =
    let lowest = rw c.new-lowest.ensures at c.insertion_index-first.ensures in
    shown_rows _ _ c.open.ensures.value _ _ c.in_ok-layout.was _ c.at-tables.ensures _ c.is_list.ensures _ _ c.if-not-is_list.false
    lowest c.insertion_index-end.ensures

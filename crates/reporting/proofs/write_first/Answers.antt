use Rattle.reporting.proofs.Filling.{ending_text}
use Rattle.reporting.proofs.write_first.Goals as goal

pub returns : goal.returns
returns g c =
    let line = c.first_line-start in
    rw (ending_text _ _ _ _ line.array_long line.ensures.value line.ensures.page_after) at c.write_all.ensures.bytes

use Rattle.std.proofs.Common.{◌∙◌}
use Rattle.laws.specs.Opens.{refused_tables, tables_passed, tables_with, refusal_not}
use Rattle.reporting.proofs.Written.{then_written, accepted_written, refused_written}
use Rattle.reporting.proofs.write_report.Goals as goal

pub returns-in_ok-write_first-in-Ok : goal.returns-in_ok-write_first-in-Ok
returns-in_ok-write_first-in-Ok g c =
    let checked = tables_passed _ _ c.open_tables.ensures _ c.in-Ok.is in
    let there = tables_with _ _ c.open_tables.ensures _ c.in-Ok.is in
    then_written _ _ _ _ _ _ _ c.in_ok-write_first-in-Ok.ensures (accepted_written _ _ checked there) c.write_lines.ensures

pub returns-in-Err : goal.returns-in-Err
returns-in-Err g c =
    let refused = refused_tables _ _ c.open_tables.ensures _ c.in-Err.is in
    rw (refused_written _ _ (c.number.ensures ∙ refused) (rw c.number.ensures (refusal_not _))) at c.write_first-in-Err.ensures

use Rattle.std.proofs.lemmas.Result.{err_from_is_err_and}
use Rattle.model.specs.declared.refusal.Refusal.TheVariants.{UnknownItem, BadCountsLength}
use Rattle.laws.specs.Answers.{asked_no, asked_yes, asked_all, tested_no, tested_yes}
use Rattle.laws.specs.Asks.{count_image, count_no, count_done}
use Rattle.model.specs.Questions.{holders_questions}
use Rattle.std.proofs.Common.{eq-eqb, ne_eqb}
use Rattle.asking.proofs.holders.asked_counts.Goals as goal

pub returns-in_err-tables : goal.returns-in_err-tables
returns-in_err-tables c =
    let p = err_from_is_err_and c.from_residual.result c.from_residual.ensures.1 in
    let both = count_image _ _ c.open_tables.ensures _ _ _ c.in_err-tables.was in
    rw (p.1, p.2) (record { value = both.0; counts_after = both.1 })

pub returns-then-not-item_used : goal.returns-then-not-item_used
unfolding holders_questions
returns-then-not-item_used c =
    let both = count_no _ _ c.open_tables.ensures _ _ _ c.in_ok-tables.was UnknownItem (search asked_no) in
    record { value = both.0; counts_after = both.1 }

pub returns-then-counts-positions : goal.returns-then-counts-positions
unfolding holders_questions
returns-then-counts-positions c =
    let other = rw c.positions.ensures at c.if-counts-positions.true in
    let both = count_no _ _ c.open_tables.ensures _ _ _ c.in_ok-tables.was BadCountsLength (search (asked_yes, tested_no, ne_eqb, other)) in
    record { value = both.0; counts_after = both.1 }

pub returns : goal.returns
unfolding holders_questions
returns c =
    let all = rw c.positions.ensures at c.if-counts-positions.false in
    let both = count_done _ _ c.open_tables.ensures _ _ _ c.in_ok-tables.was _ (search (asked_yes, tested_yes, eq-eqb, all, asked_all)) c.count_subjects.ensures in
    record { value = both.0; counts_after = both.1 }

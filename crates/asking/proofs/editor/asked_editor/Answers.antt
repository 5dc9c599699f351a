use Rattle.std.specs.Prelude.{unwrap_or}
use Rattle.std.proofs.Common.{sym, ap}
use Rattle.model.specs.declared.refusal.Refusal.TheVariants.{NotAList, NoEditor}
use Rattle.model.specs.Calls.{ask_result}
use Rattle.model.specs.Lists.{is_there}
use Rattle.model.specs.Questions.{ask_questions}
use Rattle.laws.specs.Answers.{tested_no, tested_yes, asked_no, asked_yes, asked_all}
use Rattle.laws.specs.Asks.{ask_no, ask_done}
use Rattle.asking.proofs.editor.asked_editor.Goals as goal

pub returns-then-not-is_list : goal.returns-then-not-is_list
unfolding ask_questions
returns-then-not-is_list c = ask_no _ _ c.open_tables.ensures _ _ c.in_ok-tables.was NotAList (search asked_no)

pub returns-in-Some : goal.returns-in-Some
unfolding ask_questions ask_result
returns-in-Some c =
    let found = sym (rw c.in-Some.is at c.lowest_editor.ensures) in
    let there = ap is_there found in
    ask_done _ _ c.open_tables.ensures _ _ c.in_ok-tables.was _ (search (asked_yes, tested_yes, asked_all, there))
    (sym (ap (λ o. unwrap_or o 0) found))

pub returns-in-None : goal.returns-in-None
unfolding ask_questions
returns-in-None c =
    let none = ap is_there (sym (rw c.in-None.is at c.lowest_editor.ensures)) in
    ask_no _ _ c.open_tables.ensures _ _ c.in_ok-tables.was NoEditor (search (asked_yes, tested_no, none))

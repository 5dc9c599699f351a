use Rattle.std.proofs.Common.{ap, ◌∙◌}
use Rattle.model.specs.declared.refusal.Refusal.TheVariants.{UnknownSubject}
use Rattle.laws.specs.Answers.{asked_no, asked_yes, asked_all}
use Rattle.laws.specs.Asks.{ask_no, ask_done}
use Rattle.model.specs.Tree.{steps_number}
use Rattle.model.specs.Calls.{ask_result}
use Rattle.model.specs.Questions.{ask_questions}
use Rattle.asking.proofs.steps.asked_steps.Goals as goal

pub returns-then-not-subject_used : goal.returns-then-not-subject_used
unfolding ask_questions
returns-then-not-subject_used c = ask_no _ _ c.open_tables.ensures _ _ c.in_ok-tables.was UnknownSubject (search asked_no)

pub returns-then-not-subject_used-2 : goal.returns-then-not-subject_used-2
unfolding ask_questions
returns-then-not-subject_used-2 c = ask_no _ _ c.open_tables.ensures _ _ c.in_ok-tables.was UnknownSubject (search (asked_yes, asked_no))

pub returns : goal.returns
unfolding ask_questions ask_result
returns c =
    ask_done _ _ c.open_tables.ensures _ _ c.in_ok-tables.was _ (search (asked_yes, asked_all))
    (c.steps_number.ensures ∙ ap steps_number c.steps_up-steps.ensures)

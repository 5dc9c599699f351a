use Rattle.model.specs.declared.refusal.Refusal.TheVariants.{UnknownCaller, UnknownItem}
use Rattle.laws.specs.Answers.{asked_no, asked_yes, asked_all}
use Rattle.laws.specs.Asks.{ask_no, ask_done}
use Rattle.model.specs.Calls.{ask_result}
use Rattle.model.specs.Questions.{ask_questions}
use Rattle.asking.proofs.sets.asked_permissions.Goals as goal

pub returns-then-not-subject_used : goal.returns-then-not-subject_used
unfolding ask_questions
returns-then-not-subject_used c = ask_no _ _ c.open_tables.ensures _ _ c.in_ok-tables.was UnknownCaller (search asked_no)

pub returns-then-not-item_used : goal.returns-then-not-item_used
unfolding ask_questions
returns-then-not-item_used c = ask_no _ _ c.open_tables.ensures _ _ c.in_ok-tables.was UnknownItem (search (asked_yes, asked_no))

pub returns : goal.returns
unfolding ask_questions ask_result
returns c = let opened = c.in_ok-tables.was in search (ask_done, opened, asked_yes, asked_all)

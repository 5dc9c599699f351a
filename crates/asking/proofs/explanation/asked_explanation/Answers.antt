use Rattle.model.specs.declared.refusal.Refusal.TheVariants.{UnknownCaller, UnknownItem}
use Rattle.laws.specs.Answers.{asked_no, asked_yes, asked_all}
use Rattle.laws.specs.Asks.{explain_no, explain_done}
use Rattle.model.specs.Questions.{explain_questions}
use Rattle.asking.proofs.explanation.asked_explanation.Goals as goal

pub returns-then-not-subject_used : goal.returns-then-not-subject_used
unfolding explain_questions
returns-then-not-subject_used c = explain_no _ _ c.open_tables.ensures _ _ _ _ c.in_ok-tables.was UnknownCaller (search asked_no)

pub returns-then-not-item_used : goal.returns-then-not-item_used
unfolding explain_questions
returns-then-not-item_used c = explain_no _ _ c.open_tables.ensures _ _ _ _ c.in_ok-tables.was UnknownItem (search (asked_yes, asked_no))

pub returns : goal.returns
unfolding explain_questions
returns c = let opened = c.in_ok-tables.was in search (explain_done, opened, asked_yes, asked_all)

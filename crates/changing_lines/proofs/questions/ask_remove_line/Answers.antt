use Rattle.model.specs.Questions.{questions}
use Rattle.laws.specs.Opens.{handed_no, handed_number}
use Rattle.changing_lines.specs.Questions.{named_no}
use Rattle.changing_lines.proofs.questions.ask_remove_line.Goals as goal

pub returns-in_err-ask_numbers-clause-value : goal.returns-in_err-ask_numbers-clause-value
unfolding questions
returns-in_err-ask_numbers-clause-value c =
    let was = c.in_err-ask_numbers.was in
    let gave = c.from_residual.ensures.1 in
    search (handed_no, named_no, was, gave)

pub returns-in_err-ask_numbers-clause-number : goal.returns-in_err-ask_numbers-clause-number
unfolding questions
returns-in_err-ask_numbers-clause-number c =
    let was = c.in_err-ask_numbers.was in
    let gave = c.from_residual.ensures.1 in
    search (handed_number, named_no, was, gave)

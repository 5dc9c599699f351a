use borrow.Author.Rules.{rules}
use native.Mathlib.Omega.{arith}
use Rattle.std.proofs.lemmas.Fmt.{length-decimal-le}
use Rattle.reporting.proofs.Texts.{number_put}
use Rattle.reporting.proofs.text.put_number.Goals as goal

pub write_digits-requires : goal.write_digits-requires
write_digits-requires c = search (rules, length-decimal-le 20)

pub returns-clause-put : goal.returns-clause-put
returns-clause-put c =
    let wrote = c.write_digits.ensures in
    number_put _ _ _ _ (omega arith) (omega arith) (omega arith) _ _ wrote.start wrote.written wrote.before

pub returns-clause-end_bound : goal.returns-clause-end_bound
returns-clause-end_bound c = search (rules, length-decimal-le 20)

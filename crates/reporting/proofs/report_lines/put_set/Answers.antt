use Rattle.reporting.proofs.Filling.{numbers_put}
use Rattle.reporting.proofs.report_lines.put_set.Goals as goal

pub returns-clause-put : goal.returns-clause-put
returns-clause-put c =
    numbers_put _ _ _ _ _ _ _ _ _ _ _ (rw c.from.ensures at c.put_number-item_end.ensures.put)
    (rw c.from-2.ensures at c.put_number-subject_end.ensures.put)
    (rw c.from-3.ensures at c.put_number.ensures.put)

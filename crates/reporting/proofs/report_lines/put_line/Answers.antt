use Rattle.std.proofs.Common.{◌∙◌}
use native.Mathlib.Omega.{arith}
use native.Mathlib.Nat.{mod-lt}
use Rattle.reporting.proofs.Filling.{some_item, subject_inside, line_put}
use Rattle.reporting.proofs.report_lines.put_line.Goals as goal

pub nonzero_div-subject : goal.nonzero_div-subject
nonzero_div-subject c = some_item c.args.tables.now _ _ (c.from-items.ensures ∙ c.count.ensures) c.requires.number_bound

pub overflow_cast-subject : goal.overflow_cast-subject
overflow_cast-subject c =
    record { fits = omega (arith, c.requires.subjects_bound, subject_inside c.args.tables.now _ _ (c.from-items.ensures ∙ c.count.ensures) c.requires.number_bound) }

pub nonzero_rem-item : goal.nonzero_rem-item
nonzero_rem-item c = some_item c.args.tables.now _ _ (c.from-items.ensures ∙ c.count.ensures) c.requires.number_bound

pub overflow_cast-item : goal.overflow_cast-item
overflow_cast-item c =
    record {
      fits =
          omega
          (arith, mod-lt c.args.number (some_item c.args.tables.now _ _ (c.from-items.ensures ∙ c.count.ensures) c.requires.number_bound));
    }

pub overflow_add-item : goal.overflow_add-item
overflow_add-item c =
    record {
      fits =
          omega
          (arith, mod-lt c.args.number (some_item c.args.tables.now _ _ (c.from-items.ensures ∙ c.count.ensures) c.requires.number_bound));
    }

pub returns-clause-put : goal.returns-clause-put
returns-clause-put c =
    line_put c.args.tables.now _ _ (c.from-items.ensures ∙ c.count.ensures) c.requires.number_bound _ _ _ _ _ c.permissions-set.ensures c.put_set.ensures.put

-- Rows in use and flags, as the code tests them.
use Rattle.std.specs.Prelude.{Bool, false, not, List, ◌≡◌, refl, ℕ, zero, suc, leb, get_or}
use Rattle.std.proofs.Common.{ap, ◌∙◌}
use Rattle.model.specs.declared.Table.{Table}
use Rattle.model.specs.declared.SubjectRow.{SubjectRow}
use Rattle.model.specs.declared.ItemRow.{ItemRow}
use Rattle.model.specs.WhoAndWhat.{has}
use Rattle.model.specs.Image.{rows_in, no_subject, parent_in}
use Rattle.model.specs.Image.{item_format, list_flag, item_in, item_used, is_list}
use Rattle.laws.specs.Rows.{rows_count}
use Rattle.laws.specs.Tests.{and_yes, said_yes}

pub item_is_used : (t : Table) (img : List ℕ) (n : ℕ) (b : Bool)
    → (n ≡ 0 → ⊥)
    → b ≡ leb n t.used
    → b ≡ item_used (rows_in item_format t img) n
item_is_used t img zero b h e = absurd (h refl)
item_is_used t img (suc n) b h e = rw (rows_count item_format t img) e

pub list_flag_lem : (rows : List ItemRow) (n : ℕ) (x : ItemRow) (t b : Bool)
    → t ≡ item_used rows n
    → not t ≡ false
    → x ≡ item_in rows n
    → b ≡ has list_flag x.flags
    → b ≡ is_list rows n
list_flag_lem rows n x t b used there e f =
    and_yes (item_used rows n) (has list_flag (item_in rows n).flags) b (said_yes (item_used rows n) t used there) (rw (← e) f)

-- a subject's parent, read from the list of the subjects' rows
pub parent_read : (subjects rows : List SubjectRow) (n : ℕ) (x : SubjectRow)
    → rows ≡ subjects
    → x ≡ get_or rows n no_subject
    → x.parent.0 ≡ parent_in subjects n
parent_read subjects rows n x taken read =
    ap (λ (y : SubjectRow). y.parent.0) (read ∙ ap (λ (r : List SubjectRow). get_or r n no_subject) taken)

-- The questions about a grant, as the code asks them of the row that a search found.
use Rattle.std.specs.Prelude.{Bool, true, false, ◌||◌, not, List, ◌≡◌, ◌≢◌, ℕ, eqb, Option, Some, Result, Ok}
use Rattle.std.proofs.Common.{ap, ◌∙◌, eq-eqb, ne_eqb}
use Rattle.model.specs.declared.GrantRow.{GrantRow}
use Rattle.model.specs.Lists.{is_there}
use Rattle.model.specs.Sorted.{Found, search, find_row}
use Rattle.model.specs.WhoAndWhat.{custodian}
use Rattle.model.specs.Image.{grant_key}
use Rattle.model.specs.Questions.{given_by}
use Rattle.rows.specs.Found.{found_by}
use Rattle.tables.specs.AnswerLaws.{at_key}

-- 14: role 0 is no role
pub no_role : (r : ℕ) → r ≡ 0 → not (eqb r 0) ≡ false
no_role r e = rw (eq-eqb r 0 e)

pub a_role : (r : ℕ) → r ≢ 0 → not (eqb r 0) ≡ true
a_role r h = rw (ne_eqb r 0 h)

-- 18: t is what a called function answers about the row that the search found; the same holds of the row that `find_row` finds.
-- c is the caller.
module _ (rows : List GrantRow) (k : List ℕ) (c : ℕ) (x : Result (ℕ × GrantRow) ℕ) (so : found_by x ≡ search grant_key k rows) (t : Bool) where
  pub set_found : t ≡ (not (is_there (found_by x).row) || given_by c (found_by x).row)
      → t ≡ (not (is_there (find_row grant_key k rows)) || given_by c (find_row grant_key k rows))
  set_found e = e ∙ ap (λ (f : Found GrantRow). not (is_there f.row) || given_by c f.row) so

  pub remove_found : (p : ℕ × GrantRow)
      → x ≡ Ok p
      → t ≡ (given_by c (Some p.1) || eqb c custodian)
      → t ≡ (given_by c (find_row grant_key k rows) || eqb c custodian)
  remove_found p case e = e ∙ ap (λ (o : Option GrantRow). given_by c o || eqb c custodian) (at_key grant_key k rows x so p case)

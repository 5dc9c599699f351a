-- The questions of define subject, as the code asks them: first about the numbers, then about the caller's right and its
-- reach, under the grant that was found for its claimed role.
use Rattle.std.specs.Prelude.{Bool, ◌≡◌, ℕ, Option}
use Rattle.model.specs.declared.GrantRow.{GrantRow}
use Rattle.model.specs.WhoAndWhat.{define_call, needed_position, has}
use Rattle.model.specs.Image.{Tables}
use Rattle.model.specs.Permission.{grant_of, operation_under, operation_set}
use Rattle.model.specs.Questions.{in_reach_under, in_reach}
use Rattle.laws.specs.Sets.{has_same}

-- what holds under the grant that was found holds under the claimed role
module _ (t : Tables) (c role : ℕ) (g : Option GrantRow) (found : g ≡ grant_of t c role) (r : Bool) where
  pub right_claimed : (n s : ℕ) → n ≡ needed_position define_call → s ≡ operation_under t c g → r ≡ has n s
      → r ≡ has (needed_position define_call) (operation_set t c role)
  right_claimed n s position set e = rw (← found) (has_same n (needed_position define_call) s (operation_under t c g) r position set e)

  pub reach_claimed : (p : ℕ) → r ≡ in_reach_under t c g p → r ≡ in_reach t c role p
  reach_claimed p e = rw (← found) e

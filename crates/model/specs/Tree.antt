-- Climbing from a number to lower ones. `up` is the step, for example from a subject to its parent. A step that does not go to
-- a lower number ends the climb, so a climb from s has at most s steps.
use Rattle.std.specs.Prelude.{Bool, ◌&&◌, not, cond, ℕ, zero, suc, eqb, ltb, None, Option, Some, option_map, unwrap_or}
use Rattle.model.specs.Lists.{is_there}

-- How many steps lead from s up to h, if a climb from s meets h; the first argument is how many steps are still allowed.
unfoldable pub steps_within : ℕ → (ℕ → ℕ) → ℕ → ℕ → Option ℕ
steps_within zero up s h = cond (eqb s h) (Some 0) None
steps_within (suc n) up s h = cond (eqb s h) (Some 0) (cond (ltb (up s) s) (option_map suc (steps_within n up (up s) h)) None)

-- The steps from s up to h: 0 where s is h, 1 where h is the next above s, and so on; none if s is outside the tree
-- of h.
unfoldable pub steps_up : (ℕ → ℕ) → ℕ → ℕ → Option ℕ
steps_up up s h = steps_within s up s h

-- s is in the tree of h: it is h, or below h. Whose tree it is comes first here, as in the words; above, where the steps begin.
unfoldable pub in_tree : (ℕ → ℕ) → ℕ → ℕ → Bool
in_tree up h s = is_there (steps_up up s h)

-- s is below h: in its tree, but not h itself
abbrev pub below : (ℕ → ℕ) → ℕ → ℕ → Bool
below up h s = in_tree up h s && not (eqb s h)

-- The number that is answered for steps: their count, and this one for a subject that is outside.
abbrev pub outside : ℕ
outside = 4294967295

abbrev pub steps_number : Option ℕ → ℕ
steps_number steps = unwrap_or steps outside

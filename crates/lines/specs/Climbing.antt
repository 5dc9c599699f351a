-- What the contracts of the group search cite beside the definitions of `model`. g is a group, a is a list.
use Rattle.std.specs.Prelude.{List, [], ◌∷◌, ◌⊎◌, ◌≡◌, ℕ, ◌<◌, ◌≤◌, None, Option, Some, Result, Ok, Err}
use Rattle.model.specs.declared.LineRow.{LineRow}
use Rattle.model.specs.declared.Rule.{Rule}
use Rattle.model.specs.declared.Rule.TheVariants.{GroupLine, NothingFound}
use Rattle.model.specs.Lists.{or_else}
use Rattle.model.specs.Sorted.{find_row}
use Rattle.model.specs.Image.{line_key, group_kind}
use Rattle.model.specs.Permission.{line_in, group_line, rule_by}

-- the group line of g itself, or the lowest one above it
abbrev pub line_from : (ℕ → ℕ) → List LineRow → ℕ → ℕ → Option LineRow
line_from up lines g a = or_else (line_in lines a group_kind g) (group_line up lines g a)

abbrev pub rule_from : (ℕ → ℕ) → List LineRow → ℕ → ℕ → Rule
rule_from up lines g a = rule_by GroupLine (line_from up lines g a) NothingFound

-- from a bound on, up to g, no group has a line
abbrev pub NoneFrom : List LineRow → ℕ → ℕ → ℕ → Type 0
NoneFrom lines a g bound = (p : ℕ) → bound ≤ p → p ≤ g → find_row line_key (a ∷ group_kind ∷ p ∷ []) lines ≡ None

-- what the code's answer says: the line of g, or a bound
abbrev pub NearestBy : List LineRow → ℕ → ℕ → Result LineRow ℕ → Type 0
NearestBy lines a g (Ok l) = find_row line_key (a ∷ group_kind ∷ g ∷ []) lines ≡ Some l
NearestBy lines a g (Err bound) = (bound ≤ g) × NoneFrom lines a g bound

-- a new bound r: it is not lower than the old one, and above the subject of row x, if that is a group line of the list
pub record Behind (x : LineRow) (a g bound r : ℕ) : Type 0 where
  pub not_lower : bound ≤ r
  pub above_row : x.list.0 ≡ a → x.kind ≡ group_kind → x.subject.0 < r
  pub up_to_group : r ≤ g

-- r is reached from s by steps up, each from a number that is not below the bound to a lower one
pub data Way (up : ℕ → ℕ) (bound s : ℕ) : ℕ → Type 0 where
  here : Way up bound s s
  further : (r : ℕ) → Way up bound s r → bound ≤ r → up r < r → Way up bound s (up r)

-- and there it ends: r is below the bound, or there is no lower number above it
pub record Climbed (up : ℕ → ℕ) (bound s r : ℕ) : Type 0 where
  pub way : Way up bound s r
  pub ends : (r < bound) ⊎ (r ≤ up r)

-- What the code's answer to a search says: the insertion index, and the row if it is there. And the numbers of a key.
use Rattle.std.specs.Prelude.{Result, Ok, Err, List, [], ◌∷◌, ℕ, None, Some}
use Rattle.model.specs.Sorted.{Found, found}
use Rattle.rows.specs.declared.key.GrantKey.{GrantKey}
use Rattle.rows.specs.declared.key.LineKey.{LineKey}

abbrev pub found_by : {A : Type 0} → Result (ℕ × A) ℕ → Found A
found_by (Ok p) = found p.0 (Some p.1)
found_by (Err n) = found n None

abbrev pub grant_numbers : GrantKey → List ℕ
grant_numbers k = k.receiver.0 ∷ k.role.0 ∷ []

abbrev pub line_numbers : LineKey → List ℕ
line_numbers k = k.list.0 ∷ k.kind ∷ k.subject.0 ∷ []

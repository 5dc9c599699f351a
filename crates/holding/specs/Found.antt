-- What the contracts of `holding` cite beside the definitions of `model`: counts to which a set is added.
use Rattle.std.specs.Prelude.{List, [], ◌∷◌, ℕ, ◌+◌, ◌/◌, ◌%◌}

-- The counts with 1 added to the entry of each position that the set p has. The binary digits of p are its positions, the
-- lowest first.
abbrev pub counted : ℕ → List ℕ → List ℕ
counted p [] = []
counted p (c ∷ cs) = (c + p % 2) ∷ counted (p / 2) cs

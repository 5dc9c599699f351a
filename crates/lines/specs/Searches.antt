-- The rule that decides and what everyone's line adds where there is no line to look for: for the custodian, and without a list.
use Rattle.std.specs.Prelude.{Bool, true, false, cond, List, [], ◌∷◌, ◌≡◌, refl, ℕ, zero, suc, eqb, ltb, None, Option}
use Rattle.std.proofs.Common.{sym}
use borrow.Author.Tests.{eq-eqb, ne_eqb}
use Rattle.model.specs.declared.ItemRow.{ItemRow}
use Rattle.model.specs.declared.LineRow.{LineRow}
use Rattle.model.specs.declared.Rule.TheVariants.{Custodian, NothingFound}
use Rattle.model.specs.Sorted.{find_row}
use Rattle.model.specs.Image.{Tables, line_key, parent_in}
use Rattle.model.specs.Permission.{line_in, group_within, group_line, group_rule, own_rule, owner_rule, deciding_rule}
use Rattle.model.specs.Permission.{everyone_set, rule_on, everyone_on}

either_way : {A : Type 0} (b : Bool) (x : A) → cond b x x ≡ x
either_way true x = refl
either_way false x = refl

module _ (lines : List LineRow) (kind s : ℕ) (o : Option LineRow) where
  pub some_list : (a : ℕ) → (a ≡ 0 → ⊥) → o ≡ find_row line_key (a ∷ kind ∷ s ∷ []) lines → o ≡ line_in lines a kind s
  some_list zero h e = absurd (h refl)
  some_list (suc a) h e = e

-- without a list there is no group line
no_group : (n : ℕ) (up : ℕ → ℕ) (lines : List LineRow) (s : ℕ) → group_within n up lines s 0 ≡ None
unfolding group_within
no_group zero up lines s = refl
no_group (suc n) up lines s = rw (no_group n up lines (up s)) (either_way (ltb (up s) s) None)

pub no_list : (up : ℕ → ℕ) (lines : List LineRow) (s a : ℕ) → a ≡ 0 → group_line up lines s a ≡ None
unfolding group_line
no_list up lines s a z = rw z (no_group s up lines s)

-- of subject s on an item whose row is x
module _ (t : Tables) (s : ℕ) (x : ItemRow) where
  abbrev up : ℕ → ℕ
  up = parent_in t.subjects

  pub rule_custodian : s ≡ 0 → Custodian ≡ rule_on t s x
  unfolding deciding_rule
  rule_custodian h = rw (eq-eqb s 0 h)

  pub everyone_custodian : s ≡ 0 → 0 ≡ everyone_on t s x
  unfolding everyone_set
  everyone_custodian h = rw (eq-eqb s 0 h)

  module _ (some-s : s ≡ 0 → ⊥) where
    pub rule_unlisted : x.list.0 ≡ 0 → NothingFound ≡ rule_on t s x
    unfolding deciding_rule owner_rule own_rule group_rule
    rule_unlisted z = rw (ne_eqb s 0 some-s, z, no_list up t.lines s 0 refl) (sym (either_way (eqb s x.owner.0) NothingFound))

    pub everyone_unlisted : x.list.0 ≡ 0 → 0 ≡ everyone_on t s x
    unfolding everyone_set
    everyone_unlisted z = rw (ne_eqb s 0 some-s, z)

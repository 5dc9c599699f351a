-- The lines' part, case by case as in the code.
use Rattle.std.specs.Prelude.{◌≡◌, refl, ℕ}
use Rattle.std.proofs.Common.{sym, ◌∙◌}
use Rattle.std.specs.Int.Bits.{or_zero_r}
use Rattle.model.specs.declared.ItemRow.{ItemRow}
use Rattle.model.specs.declared.Rule.{Rule}
use Rattle.model.specs.declared.Rule.TheVariants.{Custodian, NothingFound}
use Rattle.model.specs.WhoAndWhat.{everything, ◌∪◌}
use Rattle.model.specs.Image.{Tables, width_in}
use Rattle.model.specs.Permission.{rule_set, rule_on, everyone_on, part_on}
use Rattle.lines.specs.Searches.{rule_custodian, everyone_custodian, rule_unlisted, everyone_unlisted}

module _ (t : Tables) (s : ℕ) (row : ItemRow) where
  pub part_joined : (e : ℕ) (rule : Rule) (all v r : ℕ)
      → e ≡ everyone_on t s row
      → rule ≡ rule_on t s row
      → all ≡ everything (width_in t)
      → v ≡ rule_set all rule
      → r ≡ v ∪ e
      → r ≡ part_on t s row
  unfolding part_on
  part_joined e rule all v r everyone deciding whole given both = rw (← deciding, ← everyone, ← whole, ← given) both

  abbrev all : ℕ
  all = everything (width_in t)

  pub part_custodian : (r : ℕ) → s ≡ 0 → r ≡ all → r ≡ part_on t s row
  part_custodian r h e =
      part_joined 0 Custodian all all r (everyone_custodian t s row h) (rule_custodian t s row h) refl refl (e ∙ sym (or_zero_r all))

  pub part_unlisted : (s ≡ 0 → ⊥) → row.list.0 ≡ 0 → 0 ≡ part_on t s row
  part_unlisted some-s z =
      part_joined 0 NothingFound all 0 0 (everyone_unlisted t s row some-s z) (rule_unlisted t s row some-s z) refl refl refl

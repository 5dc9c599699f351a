-- What the amendment changes of the rule as printed: the rule for an owner who is named on the list, and nothing else. All of
-- this is about subject s on an item whose row is x, for any rows.
use Rattle.std.specs.Prelude.{◌⊎◌, ◌≢◌, ◌≡◌, ℕ, None, Option, Some}
use Rattle.std.proofs.Math.Logic.{inl, inr}
use Rattle.std.proofs.Math.Path.{refl, ap}
use Rattle.std.proofs.Common.{sym, ◌∙◌}
use native.Mathlib.Omega.{arith}
use borrow.Author.Tests.{eq-eqb, ne_eqb}
use Rattle.model.specs.declared.ItemRow.{ItemRow}
use Rattle.model.specs.declared.LineRow.{LineRow}
use Rattle.model.specs.declared.Rule.{Rule}
use Rattle.model.specs.declared.Rule.TheVariants.{OwnLine, GroupLine, NothingFound}
use Rattle.model.specs.WhoAndWhat.{custodian, everything, ◌∪◌}
use Rattle.model.specs.Image.{Tables, width_in, parent_in, itself_kind, owner_kind}
use Rattle.model.specs.Permission.{line_in, group_line, rule_by, group_rule, own_rule, owner_rule, deciding_rule}
use Rattle.model.specs.Permission.{rule_number, rule_set, rule_on, everyone_on, part_on}
use Rattle.model.specs.Printed.{printed_rule, printed_rule_on, printed_part_on, NamedOwner}
use Rattle.laws.specs.Tests.{eq_or_ne}

module _ (t : Tables) (s : ℕ) (x : ItemRow) where
  -- what a rule makes of the lines' part
  abbrev with_everyone : Rule → ℕ
  with_everyone rule = rule_set (everything (width_in t)) rule ∪ everyone_on t s x

  abbrev by_groups : Rule
  by_groups = group_rule (parent_in t.subjects) t.lines s x.list.0

  -- The own line of a named owner decides, even one without privileges. As printed, the groups decide.

  pub named_rule : {l : LineRow} → NamedOwner t s x l → rule_on t s x ≡ OwnLine l
  unfolding deciding_rule owner_rule own_rule
  named_rule named =
      rw (ne_eqb s 0 named.other, eq-eqb s x.owner.0 named.owns, named.no_owner_line, named.own_line)

  pub named_printed : {l : LineRow} → NamedOwner t s x l → printed_rule_on t s x ≡ by_groups
  unfolding printed_rule
  named_printed named = rw (ne_eqb s 0 named.other, eq-eqb s x.owner.0 named.owns, named.no_owner_line)

  pub named_part : {l : LineRow} → NamedOwner t s x l → part_on t s x ≡ l.privileges ∪ everyone_on t s x
  unfolding part_on
  named_part named = ap with_everyone (named_rule named)

  -- So the two rules differ, since no group line is an own line.
  pub rule_differs : {l : LineRow} → NamedOwner t s x l → rule_on t s x ≢ printed_rule_on t s x
  unfolding group_rule
  rule_differs {l} named same =
      go (group_line (parent_in t.subjects) t.lines s x.list.0) (sym (named_rule named) ∙ same ∙ named_printed named)
    where
      go : (o : Option LineRow) → OwnLine l ≡ rule_by GroupLine o NothingFound → ⊥
      go None e = let number = ap rule_number e in omega arith
      go (Some h) e = let number = ap rule_number e in omega arith

  -- For anybody else the rule is as printed.

  owner_amended : s ≢ custodian
      → s ≡ x.owner.0
      → (rule_on t s x ≡ printed_rule_on t s x) ⊎ ((l : LineRow) × NamedOwner t s x l)
  unfolding deciding_rule owner_rule own_rule printed_rule
  owner_amended other owns =
      go (line_in t.lines x.list.0 owner_kind 0) refl (line_in t.lines x.list.0 itself_kind s) refl
    where
      go : (o : Option LineRow)
          → line_in t.lines x.list.0 owner_kind 0 ≡ o
          → (p : Option LineRow)
          → line_in t.lines x.list.0 itself_kind s ≡ p
          → (rule_on t s x ≡ printed_rule_on t s x) ⊎ ((l : LineRow) × NamedOwner t s x l)
      go (Some l) e p f = inl (rw (ne_eqb s 0 other, eq-eqb s x.owner.0 owns, e))
      go None e None f = inl (rw (ne_eqb s 0 other, eq-eqb s x.owner.0 owns, e, f))
      go None e (Some l) f = inr (l, record { other = other; owns = owns; no_owner_line = e; own_line = f })

  pub rule_amended : (rule_on t s x ≡ printed_rule_on t s x) ⊎ ((l : LineRow) × NamedOwner t s x l)
  unfolding deciding_rule printed_rule
  rule_amended =
      elim (eq_or_ne s custodian) [
        | inl is ↦ inl (rw (eq-eqb s 0 is))
        | inr other ↦ elim (eq_or_ne s x.owner.0) [
          | inl owns ↦ owner_amended other owns
          | inr owns_not ↦ inl (rw (ne_eqb s 0 other, ne_eqb s x.owner.0 owns_not))
        ]
      ]

  pub part_amended : (part_on t s x ≡ printed_part_on t s x) ⊎ ((l : LineRow) × NamedOwner t s x l)
  unfolding part_on
  part_amended = elim rule_amended [ inl same ↦ inl (ap with_everyone same) | inr named ↦ inr named ]

-- The rule for owners as it was printed, before it was amended: an owner without an owner line goes to the groups at
-- once, past its own line. No call answers by this rule. It stands here so that theorems can say what the amendment changes.
use Rattle.std.specs.Prelude.{cond, List, ◌≢◌, ◌≡◌, ℕ, eqb, None, Some}
use Rattle.model.specs.declared.ItemRow.{ItemRow}
use Rattle.model.specs.declared.LineRow.{LineRow}
use Rattle.model.specs.declared.Rule.{Rule}
use Rattle.model.specs.declared.Rule.TheVariants.{Custodian, OwnerLine}
use Rattle.model.specs.WhoAndWhat.{custodian, everything, ◌∪◌}
use Rattle.model.specs.Image.{Tables, width_in, itself_kind, owner_kind, parent_in, item_in}
use Rattle.model.specs.Permission.{line_in, rule_by, group_rule, own_rule, rule_set, everyone_on}

-- The deciding rule of subject s on an item with owner o and list a, as printed.
unfoldable pub printed_rule : (ℕ → ℕ) → List LineRow → ℕ → ℕ → ℕ → Rule
printed_rule up lines s o a =
    cond (eqb s custodian) Custodian
    (cond (eqb s o) (rule_by OwnerLine (line_in lines a owner_kind 0) (group_rule up lines s a)) (own_rule up lines s a))

-- The same of subject s on an item whose row is x, and the lines' part that it makes there.
abbrev pub printed_rule_on : Tables → ℕ → ItemRow → Rule
printed_rule_on t s x = printed_rule (parent_in t.subjects) t.lines s x.owner.0 x.list.0

abbrev pub printed_part_on : Tables → ℕ → ItemRow → ℕ
printed_part_on t s x = rule_set (everything (width_in t)) (printed_rule_on t s x) ∪ everyone_on t s x

-- on item i
abbrev pub printed_part : Tables → ℕ → ℕ → ℕ
printed_part t s i = printed_part_on t s (item_in t.items i)

-- Whom the amendment concerns: s owns the item, its list has no owner line, and l is the own line of s there. The custodian
-- needs no line.
pub record NamedOwner (t : Tables) (s : ℕ) (x : ItemRow) (l : LineRow) : Type 0 where
  pub other : s ≢ custodian
  pub owns : s ≡ x.owner.0
  pub no_owner_line : line_in t.lines x.list.0 owner_kind 0 ≡ None
  pub own_line : line_in t.lines x.list.0 itself_kind s ≡ Some l

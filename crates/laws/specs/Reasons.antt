-- Explanations. The fields, put together by the rules, are the item's own set. The rule, the group and
-- the rule's set say of the rows what decided, and no others would.
use Rattle.std.specs.Prelude.{List, ◌++◌, ◌≢◌, ◌≡◌, ℕ, T, None, Option, Some}
use Rattle.std.proofs.Math.Logic.{inl, inr}
use Rattle.std.proofs.Math.Path.{refl}
use Rattle.std.proofs.Common.{◌∙◌}
use borrow.Author.Tests.{eq-eqb, ne_eqb}
use Rattle.model.specs.declared.ItemRow.{ItemRow}
use Rattle.model.specs.declared.LineRow.{LineRow}
use Rattle.model.specs.declared.Rule.{Rule}
use Rattle.model.specs.declared.Rule.TheVariants.{Custodian, OwnerLine, OwnLine, GroupLine, NothingFound}
use Rattle.model.specs.WhoAndWhat.{custodian, everything}
use Rattle.model.specs.Image.{Tables, width_in, line_row, parent_in, item_in, tables, lines_hold}
use Rattle.model.specs.Image.{itself_kind, group_kind, owner_kind, everyone_kind}
use Rattle.model.specs.Permission.{line_in, line_set, group_line, rule_by, group_rule, own_rule, owner_rule, deciding_rule}
use Rattle.model.specs.Permission.{rule_number, rule_group, rule_set, everyone_set, rule_on, rule_set_on, everyone_on, part_on}
use Rattle.model.specs.Permission.{object_under, own_under, own_set, explanation_under, explanation, put_together}
use Rattle.model.specs.Reasons.{NoOwnerLine, NoDirectLine, Decides, Adds}
use Rattle.model.specs.Reasons.Decides.{by_custodian, by_owner_line, by_own_line, by_group_line, by_nothing}
use Rattle.model.specs.Reasons.Adds.{not_to_custodian, by_everyones_line, no_everyones_line}
use Rattle.model.specs.Calls.Ask.{permission_set_of}
use Rattle.model.specs.Questions.{first_no, image_questions, ask_questions, explain_questions, ask, explain}
use Rattle.laws.specs.Tests.{eq_or_ne}
use Rattle.laws.specs.Answers.{image_passed, call_checked}
use Rattle.laws.specs.Standing.{stands, absent, only_row, no_row}
use Rattle.laws.specs.Nearest.{Met, met, meets, meets_none}

-- The fields put together.

pub put_together_lem : (t : Tables) (s r i : ℕ) → put_together (explanation t s r i) ≡ own_set t s r i
unfolding explanation_under own_under object_under part_on
put_together_lem t s r i = refl

-- The deciding rule of s on an item whose row is x, and what the line for everyone adds, in tables whose lines hold their rules.
module _ (t : Tables) (hold : T (lines_hold t)) (s : ℕ) (x : ItemRow) where
  abbrev up : ℕ → ℕ
  up = parent_in t.subjects

  abbrev Says : Rule → Type 0
  Says rule = Decides t s x (rule_number rule) (rule_group rule) (rule_set (everything (width_in t)) rule)

  abbrev Same : Rule → ℕ → ℕ → ℕ → Type 0
  Same rule n h v = (n ≡ rule_number rule) × ((h ≡ rule_group rule) × (v ≡ rule_set (everything (width_in t)) rule))

  module _ (other : s ≢ custodian) where
    by_groups : NoDirectLine t s x → Says (group_rule up t.lines s x.list.0)
    unfolding group_rule
    by_groups direct = go (group_line up t.lines s x.list.0) (met t hold x.list.0 s)
      where
        go : (o : Option LineRow) → Met t hold x.list.0 s o → Says (rule_by GroupLine o NothingFound)
        go None m = by_nothing other direct (λ p above. absent t hold x.list.0 group_kind p (m p above))
        go (Some l) m =
            by_group_line other direct m.0 (stands t hold x.list.0 group_kind l.subject.0 l m.1.0)
            (λ p above between. absent t hold x.list.0 group_kind p (m.1.1 p above between))

    by_own : NoOwnerLine t s x → Says (own_rule up t.lines s x.list.0)
    unfolding own_rule
    by_own no_owner_line = go (line_in t.lines x.list.0 itself_kind s) refl
      where
        go : (o : Option LineRow)
            → line_in t.lines x.list.0 itself_kind s ≡ o
            → Says (rule_by OwnLine o (group_rule up t.lines s x.list.0))
        go None e =
            by_groups (record { no_owner_line = no_owner_line; no_own_line = absent t hold x.list.0 itself_kind s e })
        go (Some l) e = by_own_line other no_owner_line (stands t hold x.list.0 itself_kind s l e)

    by_owner : s ≡ x.owner.0 → Says (owner_rule up t.lines s x.list.0)
    unfolding owner_rule
    by_owner owns = go (line_in t.lines x.list.0 owner_kind 0) refl
      where
        go : (o : Option LineRow)
            → line_in t.lines x.list.0 owner_kind 0 ≡ o
            → Says (rule_by OwnerLine o (own_rule up t.lines s x.list.0))
        go None e = by_own (λ is. absent t hold x.list.0 owner_kind 0 e)
        go (Some l) e = by_owner_line other owns (stands t hold x.list.0 owner_kind 0 l e)

  pub decides : Decides t s x (rule_number (rule_on t s x)) (rule_group (rule_on t s x)) (rule_set_on t s x)
  unfolding deciding_rule
  decides =
      elim (eq_or_ne s custodian) [
        | inl is ↦ rw (eq-eqb s 0 is) (by_custodian is)
        | inr other ↦ rw (ne_eqb s 0 other) (elim (eq_or_ne s x.owner.0) [
          | inl owns ↦ rw (eq-eqb s x.owner.0 owns) (by_owner other owns)
          | inr owns_not ↦ rw (ne_eqb s x.owner.0 owns_not) (by_own other (λ owns. absurd (owns_not owns)))
        ])
      ]

  -- The rule that decides is the only one that fulfils this, with its group and its set.

  by_own_alone : s ≢ custodian → NoOwnerLine t s x → rule_on t s x ≡ own_rule up t.lines s x.list.0
  unfolding deciding_rule owner_rule
  by_own_alone other no_owner_line =
      elim (eq_or_ne s x.owner.0) [
        | inl owns ↦ rw (
          ne_eqb s 0 other,
          eq-eqb s x.owner.0 owns,
          no_row t hold x.list.0 owner_kind 0 (no_owner_line owns),
        )
        | inr owns_not ↦ rw (ne_eqb s 0 other, ne_eqb s x.owner.0 owns_not)
      ]

  by_groups_alone : s ≢ custodian → NoDirectLine t s x → rule_on t s x ≡ group_rule up t.lines s x.list.0
  unfolding own_rule
  by_groups_alone other direct =
      by_own_alone other direct.no_owner_line ∙ rw (no_row t hold x.list.0 itself_kind s direct.no_own_line)

  the_rule : {n h v : ℕ} → Decides t s x n h v → (rule : Rule) × ((rule_on t s x ≡ rule) × Same rule n h v)
  unfolding deciding_rule owner_rule own_rule group_rule
  the_rule (by_custodian is) = (Custodian, (rw (eq-eqb s 0 is), (refl, (refl, refl))))
  the_rule (by_owner_line {v} other owns at) = (
    OwnerLine (line_row x.list.0 owner_kind 0 v),
    (rw (ne_eqb s 0 other, eq-eqb s x.owner.0 owns, only_row t hold x.list.0 owner_kind 0 v at), (refl, (refl, refl))),
  )
  the_rule (by_own_line {v} other no_owner_line at) = (
    OwnLine (line_row x.list.0 itself_kind s v),
    (by_own_alone other no_owner_line ∙ rw (only_row t hold x.list.0 itself_kind s v at), (refl, (refl, refl))),
  )
  the_rule (by_group_line {h} {v} other direct b at nearest) =
      let l : LineRow = line_row x.list.0 group_kind h v in
      let found = meets t hold x.list.0 h s l b (only_row t hold x.list.0 group_kind h v at)
      (λ p above between. no_row t hold x.list.0 group_kind p (nearest p above between)) in
      (GroupLine l, (by_groups_alone other direct ∙ rw found, (refl, (refl, refl))))
  the_rule (by_nothing other direct missing) =
      let found = meets_none t hold x.list.0 s (λ p above. no_row t hold x.list.0 group_kind p (missing p above)) in
      (NothingFound, (by_groups_alone other direct ∙ rw found, (refl, (refl, refl))))

  pub decides_only : {n h v : ℕ}
      → Decides t s x n h v
      → (n ≡ rule_number (rule_on t s x)) × ((h ≡ rule_group (rule_on t s x)) × (v ≡ rule_set_on t s x))
  decides_only d = let one = the_rule d in rw one.1.0 one.1.1

  pub adds : Adds t s x (everyone_on t s x)
  unfolding everyone_set
  adds =
      elim (eq_or_ne s custodian) [
        | inl is ↦ rw (eq-eqb s 0 is) (not_to_custodian is)
        | inr other ↦ rw (ne_eqb s 0 other) (go other (line_in t.lines x.list.0 everyone_kind 0) refl)
      ]
    where
      go : s ≢ custodian → (o : Option LineRow) → line_in t.lines x.list.0 everyone_kind 0 ≡ o → Adds t s x (line_set o)
      go other None e = no_everyones_line other (absent t hold x.list.0 everyone_kind 0 e)
      go other (Some l) e = by_everyones_line other (stands t hold x.list.0 everyone_kind 0 l e)

-- The call, for any bytes and any numbers. If it is not refused, its fields say what decided.
module _ (img : List ℕ) (s r i : ℕ) where
  abbrev refusal : ℕ
  refusal = first_no (image_questions img ++ explain_questions (tables img) s i)

  -- it is refused where the permission set call is, with the same number
  pub explained_number : (ask img (permission_set_of s r i)).number ≡ (explain img s r i).number
  unfolding ask ask_questions explain explain_questions explanation_under
  explained_number = elim (eq_or_ne refusal 0) [ inl done ↦ rw done | inr refused ↦ rw (ne_eqb refusal 0 refused) ]

  module _ (done : (explain img s r i).number ≡ 0) where
    pub not_refused : refusal ≡ 0
    unfolding explain
    not_refused =
        elim (eq_or_ne refusal 0) [ inl e ↦ e | inr refused ↦ absurd (refused (rw (ne_eqb refusal 0 refused) at done)) ]

    pub is_explanation : explain img s r i ≡ explanation (tables img) s r i
    unfolding explain
    is_explanation = rw not_refused

    lines_hold_lem : T (lines_hold (tables img))
    unfolding image_questions
    lines_hold_lem = (image_passed img (call_checked img (explain_questions (tables img) s i) not_refused)).1.1.1.1.0

    abbrev row : ItemRow
    row = item_in (tables img).items i

    pub explained_rule : Decides (tables img) s row (explain img s r i).rule (explain img s r i).group (explain img s r i).rule_set
    unfolding explanation_under
    explained_rule = rw is_explanation (decides (tables img) lines_hold_lem s row)

    pub explained_everyone : Adds (tables img) s row (explain img s r i).everyone_set
    unfolding explanation_under
    explained_everyone = rw is_explanation (adds (tables img) lines_hold_lem s row)

    -- and nothing else fulfils what it says
    pub explained_only : {n h v : ℕ}
        → Decides (tables img) s row n h v
        → (n ≡ (explain img s r i).rule) × ((h ≡ (explain img s r i).group) × (v ≡ (explain img s r i).rule_set))
    unfolding explanation_under
    explained_only d = rw is_explanation (decides_only (tables img) lines_hold_lem s row d)

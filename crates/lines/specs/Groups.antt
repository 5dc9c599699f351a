-- The group search, step by step as in the code.
use Rattle.std.specs.Prelude.{List, ◌⊎◌, ◌≡◌, ltb, None, Some, Result, Ok, Err}
use Rattle.std.proofs.Math.Logic.{inl, inr}
use Rattle.std.proofs.Math.Path.{refl}
use Rattle.std.proofs.Common.{sym, ◌∙◌, le_of_eq, arith}
use Prim.Native.Nat.{ℕ, zero, suc, ◌<◌, ◌≤◌}
use borrow.Author.Tests.{lt-ltb, le-ltb, ltb-true}
use Rattle.model.specs.declared.LineRow.{LineRow}
use Rattle.model.specs.declared.Rule.{Rule}
use Rattle.model.specs.declared.Rule.TheVariants.{GroupLine, NothingFound}
use Rattle.model.specs.Image.{group_kind}
use Rattle.model.specs.Permission.{line_in, group_within, group_line, group_rule}
use Rattle.laws.specs.Tests.{two}
use Rattle.laws.specs.Tree.{group_up}
use Rattle.lines.specs.Searches.{some_list}
use Rattle.lines.specs.Climbing.{line_from, rule_from, NoneFrom, NearestBy, Way, Climbed}

-- The climb.
module _ (up : ℕ → ℕ) (bound s : ℕ) where
  pub way_none : Way up bound s s
  way_none = Way.here

  pub way_up : (r p : ℕ) → Way up bound s r → bound ≤ r → p ≡ up r → p < r → Way up bound s p
  way_up r p way in-bound e low = rw e (Way.further r way in-bound (rw e at low))

  pub climbed_out : (r p : ℕ) → Way up bound s r → p ≡ up r → r ≤ p → Climbed up bound s r
  climbed_out r p way e out = record { way = way; ends = inr (rw e at out) }

  pub climbed_below : (r : ℕ) → Way up bound s r → r < bound → Climbed up bound s r
  climbed_below r way low = record { way = way; ends = inl low }

  way_low : (r : ℕ) → Way up bound s r → r ≤ s
  way_low r (Way.here) = le_of_eq refl
  way_low r (Way.further q way in-bound low) = omega (arith, way_low q way)

module _ (up : ℕ → ℕ) (lines : List LineRow) (a : ℕ) where
  -- one step up
  from_up : (g : ℕ) → line_in lines a group_kind g ≡ None → up g < g → line_from up lines g a ≡ line_from up lines (up g) a
  from_up g missing low = rw (missing, group_up up lines a g, lt-ltb (up g) g low)

  from_top : (g : ℕ) → line_in lines a group_kind g ≡ None → g ≤ up g → line_from up lines g a ≡ None
  from_top g missing out = rw (missing, group_up up lines a g, le-ltb (up g) g out)

  none_within : (n s : ℕ) → ((p : ℕ) → p ≤ s → line_in lines a group_kind p ≡ None) → group_within n up lines s a ≡ None
  unfolding group_within
  none_within zero s all = refl
  none_within (suc n) s all =
      elim (two (ltb (up s) s)) [
        | inl e ↦
            let low : up s < s = ltb-true (up s) s e in
            rw (e, all (up s) (omega arith), none_within n (up s) (λ p to. all p (omega arith)))
        | inr e ↦ rw e
      ]

  -- groups without a line are passed over
  module _ (some-a : a ≡ 0 → ⊥) (g bound : ℕ) (no_lines : NoneFrom lines a g bound) where
    no_group_line : (p : ℕ) → bound ≤ p → p ≤ g → line_in lines a group_kind p ≡ None
    no_group_line p from to = sym (some_list lines group_kind p None a some-a (sym (no_lines p from to)))

    passed : (r : ℕ) → Way up bound g r → line_from up lines g a ≡ line_from up lines r a
    passed r (Way.here) = refl
    passed r (Way.further q way in-bound low) =
        passed q way ∙ from_up q (no_group_line q in-bound (way_low up bound g q way)) low

    pub passed_out : (r : ℕ) → Climbed up bound g r → bound ≤ r → NothingFound ≡ rule_from up lines g a
    passed_out r climbed in-bound =
        let top : line_from up lines g a ≡ None =
        passed r climbed.way
        ∙ from_top r (no_group_line r in-bound (way_low up bound g r climbed.way)) (out climbed.ends) in
        rw top
      where
        out : (r < bound) ⊎ (r ≤ up r) → r ≤ up r
        out (inl low) = absurd (omega arith)
        out (inr high) = high

  -- What the lines say of group g, and the rule that follows. x is the code's answer.
  module _ (some-a : a ≡ 0 → ⊥) (g : ℕ) (x : Result LineRow ℕ) (said : NearestBy lines a g x) where
    pub from_line : (l : LineRow) → x ≡ Ok l → GroupLine l ≡ rule_from up lines g a
    from_line l case =
        let hit : Some l ≡ line_in lines a group_kind g = some_list lines group_kind g (Some l) a some-a (sym (rw case at said)) in
        rw (← hit)

    module _ (bound : ℕ) (case : x ≡ Err bound) where
      bounded : (bound ≤ g) × NoneFrom lines a g bound
      bounded = rw case at said

      pub from_nobody : bound ≡ 0 → NothingFound ≡ rule_from up lines g a
      unfolding group_line
      from_nobody z = rw (all g (le_of_eq refl), none_within g g (λ p to. all p to))
        where
          all : (p : ℕ) → p ≤ g → line_in lines a group_kind p ≡ None
          all p to = no_group_line some-a g bound bounded.1 p (omega arith) to

      module _ (r : ℕ) (climbed : Climbed up bound g r) where
        pub from_out : bound ≤ r → NothingFound ≡ rule_from up lines g a
        from_out in-bound = passed_out some-a g bound bounded.1 r climbed in-bound

        pub from_next : (rule : Rule) → rule ≡ rule_from up lines r a → rule ≡ rule_from up lines g a
        from_next rule e = rw (passed some-a g bound bounded.1 r climbed.way) e

      pub from_falls : (r : ℕ) → r < bound → r < g
      from_falls r low = omega (arith, bounded.0)

-- The rule of a subject's groups: that of its parent on, if that is lower.
module _ (up : ℕ → ℕ) (lines : List LineRow) (s a p : ℕ) (e : p ≡ up s) where
  pub groups_out : s ≤ p → NothingFound ≡ group_rule up lines s a
  unfolding group_rule
  groups_out out = rw (group_up up lines a s, ← e, le-ltb p s out)

  pub groups_up : p < s → (rule : Rule) → rule ≡ rule_from up lines p a → rule ≡ group_rule up lines s a
  unfolding group_rule
  groups_up low rule is = rw (group_up up lines a s, ← e, lt-ltb p s low) is

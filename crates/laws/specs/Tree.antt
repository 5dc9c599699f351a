-- Laws of climbing, for any step `up`: the steps up, being in a tree, and the group search. A climb from s gives the same for every
-- number of allowed steps that is at least s. So each has an equation without that number. And each uses `up` only at s and at
-- lower numbers.
use Rattle.std.specs.Prelude.{Bool, ◌&&◌, ◌||◌, not, cond, List, ◌⊎◌, ◌≡◌, T, eqb, ltb, None, Option, Some, option_map}
use Rattle.std.proofs.Math.Bool.{true, false}
use Rattle.std.proofs.Math.Logic.{inl, inr}
use Rattle.std.proofs.Math.Path.{refl, ap}
use Rattle.std.proofs.Common.{◌∙◌, arith, eqb→eq, ltb→lt, lt→ltb, T_not}
use Prim.Native.Nat.{ℕ, zero, suc, ◌<◌, ◌≤◌}
use borrow.Author.Tests.{ltb-true, le-ltb, ne_eqb}
use Rattle.std.proofs.Math.Dec.{eqb_refl, not_T}
use Rattle.model.specs.declared.LineRow.{LineRow}
use Rattle.model.specs.Lists.{or_else, is_there}
use Rattle.model.specs.Tree.{steps_within, steps_up, in_tree, below}
use Rattle.model.specs.Permission.{line_in, group_within, group_line}
use Rattle.model.specs.Image.{group_kind}
use Rattle.laws.specs.Tests.{and_i, and_l, and_r, or_l, or_r, or_cases, two, le_or_lt, eq_or_ne}

module _ (up : ℕ → ℕ) where
  -- The steps up to h, and the tree of h.

  pub steps_enough : (h m n s : ℕ) → s ≤ m → s ≤ n → steps_within m up s h ≡ steps_within n up s h
  unfolding steps_within
  steps_enough h zero zero s a b = refl
  steps_enough h zero (suc n) s a b = rw (le-ltb (up s) s (omega arith))
  steps_enough h (suc m) zero s a b = rw (le-ltb (up s) s (omega arith))
  steps_enough h (suc m) (suc n) s a b =
      elim (two (ltb (up s) s)) [
        | inl e ↦ rw (steps_enough h m n (up s) (omega (arith, ltb-true (up s) s e)) (omega (arith, ltb-true (up s) s e)))
        | inr e ↦ rw e
      ]

  pub steps_up_lem : (h s : ℕ) → steps_up up s h ≡ cond (eqb s h) (Some 0) (cond (ltb (up s) s) (option_map suc (steps_up up (up s) h)) None)
  unfolding steps_within steps_up
  steps_up_lem h s =
      steps_enough h s (suc s) s (omega arith) (omega arith)
      ∙ elim (two (ltb (up s) s)) [
        | inl e ↦ rw (steps_enough h s (up s) (up s) (omega (arith, ltb-true (up s) s e)) (omega arith))
        | inr e ↦ rw e
      ]

  -- being in the tree is one reading of the steps
  pub steps_inside : (h s n : ℕ) → steps_up up s h ≡ Some n → in_tree up h s ≡ true
  unfolding in_tree
  steps_inside h s n e = rw e

  pub steps_outside : (h s : ℕ) → steps_up up s h ≡ None → in_tree up h s ≡ false
  unfolding in_tree
  steps_outside h s e = rw e

  pub tree_up : (h s : ℕ) → in_tree up h s ≡ (eqb s h || (ltb (up s) s && in_tree up h (up s)))
  unfolding in_tree
  tree_up h s = ap is_there (steps_up_lem h s) ∙ go (eqb s h) (ltb (up s) s) (steps_up up (up s) h)
    where
      go : (b c : Bool) (o : Option ℕ) → is_there (cond b (Some 0) (cond c (option_map suc o) None)) ≡ (b || (c && is_there o))
      go true c o = refl
      go false true (Some n) = refl
      go false true None = refl
      go false false o = refl

  steps_within_below : (h n s : ℕ) → s < h → steps_within n up s h ≡ None
  unfolding steps_within
  steps_within_below h zero s l = rw (ne_eqb s h (omega arith))
  steps_within_below h (suc n) s l =
      rw (ne_eqb s h (omega arith))
      (elim (two (ltb (up s) s)) [ inl e ↦ rw (e, steps_within_below h n (up s) (omega (arith, ltb-true (up s) s e))) | inr e ↦ rw e ])

  -- no steps lead to a higher number, so the tree of h has no number lower than h
  pub steps_below : (h s : ℕ) → s < h → steps_up up s h ≡ None
  unfolding steps_up
  steps_below h s l = steps_within_below h s s l

  pub tree_below : (h s : ℕ) → s < h → in_tree up h s ≡ false
  tree_below h s l = steps_outside h s (steps_below h s l)

  -- Who is below whom. One step up from s is the parent; whoever else is above s is above the parent.

  pub tree_low : (h s : ℕ) → T (in_tree up h s) → h ≤ s
  tree_low h s u = elim (le_or_lt h s) [ inl le ↦ le | inr lt ↦ absurd (rw (tree_below h s lt) at u) ]

  pub below_up : (h s : ℕ) → T (below up h s) → (up s < s) × T (in_tree up h (up s))
  below_up h s b =
      let in_tree_lem : T (eqb s h || (ltb (up s) s && in_tree up h (up s))) =
      rw (tree_up h s) at (and_l (in_tree up h s) (not (eqb s h)) b) in
      elim (or_cases (eqb s h) (ltb (up s) s && in_tree up h (up s)) in_tree_lem) [
        | inl same ↦ absurd (T_not (eqb s h) (and_r (in_tree up h s) (not (eqb s h)) b) same)
        | inr above ↦
            (ltb→lt (up s) s (and_l (ltb (up s) s) (in_tree up h (up s)) above), and_r (ltb (up s) s) (in_tree up h (up s)) above)
      ]

  pub up_below : (h s : ℕ) → up s < s → T (in_tree up h (up s)) → T (below up h s)
  up_below h s low u =
      and_i (in_tree up h s) (not (eqb s h))
      (rw (tree_up h s)
      (or_r (eqb s h) (ltb (up s) s && in_tree up h (up s))
      (and_i (ltb (up s) s) (in_tree up h (up s)) (lt→ltb (up s) s low) u)))
      (not_T (eqb s h) (λ same. omega (arith, eqb→eq s h same, tree_low h (up s) u)))

  pub itself_or_below : (h s : ℕ) → T (in_tree up h s) → (s ≡ h) ⊎ T (below up h s)
  itself_or_below h s u =
      elim (eq_or_ne s h) [
        | inl same ↦ inl same
        | inr other ↦ inr (and_i (in_tree up h s) (not (eqb s h)) u (not_T (eqb s h) (λ same. other (eqb→eq s h same))))
      ]

  pub own_tree : (s : ℕ) → T (in_tree up s s)
  own_tree s = rw (tree_up s s) (or_l (eqb s s) (ltb (up s) s && in_tree up s (up s)) (eqb_refl s))

  -- The group search.

  pub group_enough : (lines : List LineRow) (a m n s : ℕ) → s ≤ m → s ≤ n → group_within m up lines s a ≡ group_within n up lines s a
  unfolding group_within
  group_enough lines a zero zero s p q = refl
  group_enough lines a zero (suc n) s p q = rw (le-ltb (up s) s (omega arith))
  group_enough lines a (suc m) zero s p q = rw (le-ltb (up s) s (omega arith))
  group_enough lines a (suc m) (suc n) s p q =
      elim (two (ltb (up s) s)) [
        | inl e ↦ rw (group_enough lines a m n (up s) (omega (arith, ltb-true (up s) s e)) (omega (arith, ltb-true (up s) s e)))
        | inr e ↦ rw e
      ]

  pub group_up : (lines : List LineRow) (a s : ℕ)
      → group_line up lines s a ≡ cond (ltb (up s) s) (or_else (line_in lines a group_kind (up s)) (group_line up lines (up s) a)) None
  unfolding group_within group_line
  group_up lines a s =
      group_enough lines a s (suc s) s (omega arith) (omega arith)
      ∙ elim (two (ltb (up s) s)) [
        | inl e ↦ rw (group_enough lines a s (up s) (up s) (omega (arith, ltb-true (up s) s e)) (omega arith))
        | inr e ↦ rw e
      ]

-- Two steps that agree below n give the same for every climb from below n.
module _ (up vp : ℕ → ℕ) (n : ℕ) (agree : (s : ℕ) → s < n → up s ≡ vp s) where
  steps_within_same : (h m s : ℕ) → s < n → steps_within m up s h ≡ steps_within m vp s h
  unfolding steps_within
  steps_within_same h zero s l = refl
  steps_within_same h (suc m) s l =
      rw (agree s l)
      (elim (two (ltb (vp s) s)) [ inl e ↦ rw (steps_within_same h m (vp s) (omega (arith, ltb-true (vp s) s e))) | inr e ↦ rw e ])

  pub steps_same : (h s : ℕ) → s < n → steps_up up s h ≡ steps_up vp s h
  unfolding steps_up
  steps_same h s l = steps_within_same h s s l

  pub tree_same : (h s : ℕ) → s < n → in_tree up h s ≡ in_tree vp h s
  unfolding in_tree
  tree_same h s l = ap is_there (steps_same h s l)

  -- the group search, in lists of lines that agree on list a
  module _ (lines more : List LineRow) (a : ℕ) (lines-agree : (k s : ℕ) → line_in lines a k s ≡ line_in more a k s) where
    group_within_same : (m s : ℕ) → s < n → group_within m up lines s a ≡ group_within m vp more s a
    unfolding group_within
    group_within_same zero s l = refl
    group_within_same (suc m) s l =
        rw (agree s l, lines-agree group_kind (vp s))
        (elim (two (ltb (vp s) s)) [ inl e ↦ rw (group_within_same m (vp s) (omega (arith, ltb-true (vp s) s e))) | inr e ↦ rw e ])

    pub group_same : (s : ℕ) → s < n → group_line up lines s a ≡ group_line vp more s a
    unfolding group_line
    group_same s l = group_within_same s s l

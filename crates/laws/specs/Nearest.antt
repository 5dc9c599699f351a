-- What the group search meets in list a, in tables whose lines hold their rules: the group line of the nearest above s that has
-- one, if there is one, and no other.
use Rattle.std.specs.Prelude.{not, ◌≡◌, refl, ℕ, zero, suc, ◌<◌, ◌≤◌, T, eqb, None, Option, Some}
use Rattle.std.proofs.lemmas.Option.{none-some}
use Rattle.std.proofs.Common.{inl, inr, sym, ap, ◌∙◌, arith, lt-ltb, le-ltb, T_not}
use Rattle.std.proofs.Math.Dec.{eqb_refl}
use Rattle.model.specs.declared.LineRow.{LineRow}
use Rattle.model.specs.Lists.{or_else}
use Rattle.model.specs.Tree.{in_tree, below}
use Rattle.model.specs.Image.{Tables, parent_in, group_kind, lines_hold}
use Rattle.model.specs.Permission.{line_in, group_line}
use Rattle.laws.specs.Tests.{and_l, and_r, le_or_lt}
use Rattle.laws.specs.Tree.{group_up, tree_low, own_tree, below_up, up_below, itself_or_below}
use Rattle.laws.specs.Standing.{found_key}

module _ (t : Tables) (hold : T (lines_hold t)) (a : ℕ) where
  abbrev up : ℕ → ℕ
  up = parent_in t.subjects

  -- the group line for p, if the list has one
  abbrev pub group_of : ℕ → Option LineRow
  group_of p = line_in t.lines a group_kind p

  -- What the search from s meets is none, and then nobody above s has a group line. Or it is a line l: s is below its subject,
  -- which has that line, and nobody between the two has one.
  abbrev pub Met : ℕ → Option LineRow → Type 0
  Met s None = (p : ℕ) → T (below up p s) → group_of p ≡ None
  Met s (Some l) =
      T (below up l.subject.0 s)
      × ((group_of l.subject.0 ≡ Some l) × ((p : ℕ) → T (below up p s) → T (below up l.subject.0 p) → group_of p ≡ None))

  -- the parent has a group line
  met_parent : (s : ℕ) (l : LineRow) → up s < s → group_of (up s) ≡ Some l → Met s (Some l)
  met_parent s l low e = (rw is (up_below up (up s) s low (own_tree up (up s))), (ap group_of is ∙ e, nearest))
    where
      is : l.subject.0 ≡ up s
      is = cc (found_key t hold a group_kind (up s) l e)

      nearest : (p : ℕ) → T (below up p s) → T (below up l.subject.0 p) → group_of p ≡ None
      nearest p above between =
          let under : T (below up (up s) p) = rw is at between in
          let lowest : up s ≤ p = tree_low up (up s) p (and_l (in_tree up (up s) p) (not (eqb p (up s))) under) in
          let here : p ≡ up s = omega (arith, tree_low up p (up s) (below_up up p s above).1) in
          absurd (T_not (eqb p (up s)) (and_r (in_tree up (up s) p) (not (eqb p (up s))) under) (rw here (eqb_refl (up s))))

  -- the parent has none, so it is what the search meets above the parent
  met_above : (s : ℕ) (o : Option LineRow) → up s < s → group_of (up s) ≡ None → Met (up s) o → Met s o
  met_above s None low e rest = λ p above.
      elim (itself_or_below up p (up s) (below_up up p s above).1) [
        | inl here ↦ rw (← here) e
        | inr further ↦ rest p further
      ]
  met_above s (Some l) low e rest = (
    up_below up l.subject.0 s low (and_l (in_tree up l.subject.0 (up s)) (not (eqb (up s) l.subject.0)) rest.0),
    (
      rest.1.0,
      λ p above between.
          elim (itself_or_below up p (up s) (below_up up p s above).1) [
            | inl here ↦ rw (← here) e
            | inr further ↦ rest.1.1 p further between
          ],
    ),
  )

  -- there is nobody above s
  met_top : (s : ℕ) → s ≤ up s → Met s (group_line up t.lines s a)
  met_top s top =
      rw (group_up up t.lines a s, le-ltb (up s) s top) (λ p above. absurd (omega (arith, (below_up up p s above).0)))

  -- n is how many steps are still allowed: at most s are needed
  met_within : (n s : ℕ) → s ≤ n → Met s (group_line up t.lines s a)
  met_within zero s enough = met_top s (omega arith)
  met_within (suc n) s enough =
      elim (le_or_lt s (up s)) [
        | inl top ↦ met_top s top
        | inr low ↦
            rw (group_up up t.lines a s, lt-ltb (up s) s low) (step low (group_of (up s)) refl (met_within n (up s) (omega arith)))
      ]
    where
      step : up s < s
          → (o : Option LineRow)
          → group_of (up s) ≡ o
          → Met (up s) (group_line up t.lines (up s) a)
          → Met s (or_else o (group_line up t.lines (up s) a))
      step low None e rest = met_above s (group_line up t.lines (up s) a) low e rest
      step low (Some l) e rest = met_parent s l low e

  pub met : (s : ℕ) → Met s (group_line up t.lines s a)
  met s = met_within s s (omega arith)

  -- The other way round: if h is the nearest above s that has a group line, the search meets that line. If nobody above s has
  -- one, it meets none.

  meets_within : (h n s : ℕ) (l : LineRow)
      → s ≤ n
      → T (below up h s)
      → group_of h ≡ Some l
      → ((p : ℕ) → T (below up p s) → T (below up h p) → group_of p ≡ None)
      → group_line up t.lines s a ≡ Some l
  meets_within h zero s l enough b e nearest = absurd (omega (arith, (below_up up h s b).0))
  meets_within h (suc n) s l enough b e nearest =
      let over = below_up up h s b in
      rw (group_up up t.lines a s, lt-ltb (up s) s over.0)
      (elim (itself_or_below up h (up s) over.1) [
        | inl here ↦ rw (here, e)
        | inr further ↦
            rw (nearest (up s) (up_below up (up s) s over.0 (own_tree up (up s))) further)
            (meets_within h n (up s) l (omega (arith, over.0)) further e
            (λ p above. nearest p (up_below up p s over.0 (and_l (in_tree up p (up s)) (not (eqb (up s) p)) above))))
      ])

  pub meets : (h s : ℕ) (l : LineRow)
      → T (below up h s)
      → group_of h ≡ Some l
      → ((p : ℕ) → T (below up p s) → T (below up h p) → group_of p ≡ None)
      → group_line up t.lines s a ≡ Some l
  meets h s l = meets_within h s s l (omega arith)

  pub meets_none : (s : ℕ) → ((p : ℕ) → T (below up p s) → group_of p ≡ None) → group_line up t.lines s a ≡ None
  meets_none s missing = go (group_line up t.lines s a) (met s)
    where
      go : (o : Option LineRow) → Met s o → o ≡ None
      go None m = refl
      go (Some l) m = absurd (none-some l (sym (missing l.subject.0 m.0) ∙ m.1.0))

-- The search for the nearest group line, as the code does it. It is the search for the lines of several groups at once: of all
-- that are not below the bound. A row that is lower than group g is lower than these too, and so is one that is higher.
use Rattle.std.specs.Prelude.{Bool, true, false, List, [], ◌∷◌, ◌⊎◌, ◌≡◌, refl, ℕ, ◌+◌, ◌<◌, ◌≤◌, length, get_or, Some}
use Rattle.std.proofs.lemmas.Bool.{false≢true}
use Rattle.std.proofs.Common.{inl, inr, sym, ap, ◌∙◌, le_of_eq, arith, lt-ltb}
use Rattle.model.specs.declared.LineRow.{LineRow}
use Rattle.model.specs.Sorted.{before, same, Found, middle, find_row}
use Rattle.model.specs.Image.{line_key, group_kind, no_line}
use Rattle.laws.specs.Tests.{eq_or_ne}
use Rattle.laws.specs.KeyOrder.{order, before_self, before_heads, before_trans}
use Rattle.laws.specs.KeyOrder.Order.{lower, equal, higher}
use Rattle.rows.specs.Keys.{before_equal}
use Rattle.rows.specs.Halving.{Halving, halving_all, halving_behind, halving_found, halving_front, halving_over}
use Rattle.lines.specs.Climbing.{NoneFrom, Behind}

before_first : (x y : ℕ) (xs ys : List ℕ) → x < y → before (x ∷ xs) (y ∷ ys) ≡ true
before_first x y xs ys low = rw (lt-ltb x y low)

module _ (a : ℕ) where
  abbrev key_of : ℕ → List ℕ
  key_of p = a ∷ group_kind ∷ p ∷ []

  -- a row that is lower than group g's line is lower than group p's too, if it is no group line, or one of a group below p
  lower_too : (x : LineRow) (g p : ℕ)
      → before (line_key x) (key_of g) ≡ true
      → (x.list.0 ≡ a → x.kind ≡ group_kind → x.subject.0 < p)
      → true ≡ before (line_key x) (key_of p)
  lower_too x g p low below = by_list (before_heads x.list.0 a (x.kind ∷ x.subject.0 ∷ []) (group_kind ∷ g ∷ []) low)
    where
      by_kind : x.list.0 ≡ a → (x.kind < group_kind) ⊎ ((x.kind ≡ group_kind) × (before (x.subject.0 ∷ []) (g ∷ []) ≡ true))
          → true ≡ before (x.kind ∷ x.subject.0 ∷ []) (group_kind ∷ p ∷ [])
      by_kind i (inl less) = sym (before_first x.kind group_kind (x.subject.0 ∷ []) (p ∷ []) less)
      by_kind i (inr both) =
          before_equal x.kind group_kind (x.subject.0 ∷ []) (p ∷ []) true both.0
          (sym (before_first x.subject.0 p [] [] (below i both.0)))

      by_list : (x.list.0 < a)
          ⊎ ((x.list.0 ≡ a) × (before (x.kind ∷ x.subject.0 ∷ []) (group_kind ∷ g ∷ []) ≡ true))
          → true ≡ before (line_key x) (key_of p)
      by_list (inl less) = sym (before_first x.list.0 a (x.kind ∷ x.subject.0 ∷ []) (group_kind ∷ p ∷ []) less)
      by_list (inr both) =
          before_equal x.list.0 a (x.kind ∷ x.subject.0 ∷ []) (group_kind ∷ p ∷ []) true both.0
          (by_kind both.0 (before_heads x.kind group_kind (x.subject.0 ∷ []) (g ∷ []) both.1))

  keys_ascend : (p g : ℕ) → p < g → before (key_of p) (key_of g) ≡ true
  keys_ascend p g low =
      sym
      (before_equal a a (group_kind ∷ p ∷ []) (group_kind ∷ g ∷ []) true refl
      (before_equal group_kind group_kind (p ∷ []) (g ∷ []) true refl (sym (before_first p g [] [] low))))

  -- and a higher one is higher
  higher_too : (x : LineRow) (g p : ℕ)
      → p ≤ g
      → before (line_key x) (key_of g) ≡ false
      → same (line_key x) (key_of g) ≡ false
      → (false ≡ before (line_key x) (key_of p)) × (false ≡ same (line_key x) (key_of p))
  higher_too x g p to not_low not_same =
      elim (eq_or_ne p g) [
        | inl i ↦ rw i (sym not_low, sym not_same)
        | inr other ↦ past (before_trans (key_of p) (key_of g) (line_key x) (keys_ascend p g (omega arith)) above_g)
      ]
    where
      above_g : before (key_of g) (line_key x) ≡ true
      above_g =
          elim (order (line_key x) (key_of g)) [
            | lower e f h ↦ absurd (false≢true (sym not_low ∙ e))
            | equal e f h ↦ absurd (false≢true (sym not_same ∙ h))
            | higher e f h ↦ e
          ]

      past : before (key_of p) (line_key x) ≡ true → (false ≡ before (line_key x) (key_of p)) × (false ≡ same (line_key x) (key_of p))
      past above =
          elim (order (line_key x) (key_of p)) [
            | lower e f h ↦ absurd (false≢true (sym f ∙ above))
            | equal e f h ↦ absurd (false≢true (sym (before_self (key_of p)) ∙ ap (λ (k : List ℕ). before (key_of p) k) (sym e) ∙ above))
            | higher e f h ↦ (sym f, sym h)
          ]

-- its row is lower, as the code asks by a key
pub comes_before : (x : LineRow) (a g : ℕ) (k : List ℕ) (b : Bool)
    → k ≡ key_of a g
    → b ≡ before (line_key x) k
    → b ≡ true
    → before (line_key x) (key_of a g) ≡ true
comes_before x a g k b its_key asked is_so = ap (before (line_key x)) (sym its_key) ∙ sym asked ∙ is_so

-- the bound behind a group line of the list
module _ (x : LineRow) (a g bound : ℕ) (low : before (line_key x) (key_of a g) ≡ true) (its_list : x.list.0 ≡ a)
    (its_kind : x.kind ≡ group_kind) where
  pub row_below : x.subject.0 < g
  row_below =
      by_list (before_heads x.list.0 a (x.kind ∷ x.subject.0 ∷ []) (group_kind ∷ g ∷ []) low)
    where
      by_subject : (x.subject.0 < g) ⊎ ((x.subject.0 ≡ g) × (before [] [] ≡ true)) → x.subject.0 < g
      by_subject (inl less) = less
      by_subject (inr both) = absurd (false≢true both.1)

      by_kind : (x.kind < group_kind) ⊎ ((x.kind ≡ group_kind) × (before (x.subject.0 ∷ []) (g ∷ []) ≡ true)) → x.subject.0 < g
      by_kind (inl less) = absurd (omega arith)
      by_kind (inr both) = by_subject (before_heads x.subject.0 g [] [] both.1)

      by_list : (x.list.0 < a)
          ⊎ ((x.list.0 ≡ a) × (before (x.kind ∷ x.subject.0 ∷ []) (group_kind ∷ g ∷ []) ≡ true))
          → x.subject.0 < g
      by_list (inl less) = absurd (omega arith)
      by_list (inr both) = by_kind (before_heads x.kind group_kind (x.subject.0 ∷ []) (g ∷ []) both.1)

  pub behind_row : bound ≤ x.subject.0 → Behind x a g bound (x.subject.0 + 1)
  behind_row from =
      record {
        not_lower = omega arith;
        above_row = λ i j. omega arith;
        up_to_group = omega (arith, row_below);
      }

module _ (lines : List LineRow) (a g : ℕ) where
  abbrev HalvingFor : ℕ → ℕ → ℕ → Type 0
  HalvingFor p first end = Halving line_key lines (key_of a p) no_line first end

  -- the search for every group from the bound on, up to g, has come to the same two indices
  pub record Narrowing (first end bound : ℕ) : Type 0 where
    pub searches : (p : ℕ) → bound ≤ p → p ≤ g → HalvingFor p first end
    pub up_to_group : bound ≤ g

  pub narrowing_all : Narrowing 0 (length lines) 0
  narrowing_all =
      record {
        searches = λ p from to. halving_all line_key lines (key_of a p) no_line;
        up_to_group = omega arith;
      }

  pub narrowing_inside : (first end bound : ℕ) → Narrowing first end bound → end ≤ length lines
  narrowing_inside first end bound h = (h.searches g h.up_to_group (le_of_eq refl)).inside

  -- one step, as in the laws of halving; k is the key of the group's line
  module _ (k : List ℕ) (its_key : k ≡ key_of a g) (first end bound : ℕ) (h : Narrowing first end bound) (less : first < end) (m : ℕ)
      (half : m ≡ middle first end) (x : LineRow) (read : x ≡ get_or lines m no_line) (b : Bool) (asked : b ≡ before (line_key x) k) where
    low : b ≡ before (line_key x) (key_of a g)
    low = asked ∙ ap (before (line_key x)) its_key

    pub narrowing_behind : b ≡ true → (r : ℕ) → Behind x a g bound r → Narrowing (m + 1) end r
    narrowing_behind e r behind =
        record {
          searches =
              λ p from to.
              halving_behind line_key lines (key_of a p) no_line first end
              (h.searches p (omega (arith, behind.not_lower)) to) less m half x read true
              (lower_too a x g p (sym low ∙ e) (λ i j. omega (arith, behind.above_row i j))) refl;
          up_to_group = behind.up_to_group;
        }

    module _ (not_low : b ≡ false) (c : Bool) (compared : c ≡ same (line_key x) k) where
      hit : c ≡ same (line_key x) (key_of a g)
      hit = compared ∙ ap (same (line_key x)) its_key

      pub narrowing_found : c ≡ true → find_row line_key (key_of a g) lines ≡ Some x
      narrowing_found e =
          sym
          (ap (λ (f : Found LineRow). f.row)
          (halving_found line_key lines (key_of a g) no_line first end
          (h.searches g h.up_to_group (le_of_eq refl)) less m half x read b low not_low c hit e))

      pub narrowing_front : c ≡ false → Narrowing first m bound
      narrowing_front e =
          record {
            searches =
                λ p from to.
                let above = higher_too a x g p to (sym low ∙ not_low) (sym hit ∙ e) in
                halving_front line_key lines (key_of a p) no_line first end
                (h.searches p from to) less m half x read false above.0 refl false above.1 refl;
            up_to_group = h.up_to_group;
          }

  pub narrowing_over : (first end bound : ℕ) → Narrowing first end bound → end ≤ first → (bound ≤ g) × NoneFrom lines a g bound
  narrowing_over first end bound h past = (
    h.up_to_group,
    λ p from to.
        sym
        (ap (λ (f : Found LineRow). f.row)
        (halving_over line_key lines (key_of a p) no_line first end (h.searches p from to) past)),
  )

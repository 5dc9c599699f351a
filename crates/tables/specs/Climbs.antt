-- A climb to the root of a tree, step by step.
use Rattle.std.specs.Prelude.{Bool, is_some, cond, ◌≡◌, refl, ℕ, suc, ◌+◌, ◌<◌, ◌≤◌, ltb, None, Option, Some, option_map}
use Rattle.std.proofs.Common.{sym, ap, ◌∙◌, arith, lt-ltb, le-ltb, eq-eqb, ne_eqb}
use Rattle.model.specs.Lists.{is_there}
use Rattle.model.specs.Tree.{steps_up, in_tree}
use Rattle.laws.specs.Tree.{steps_up_lem, steps_below}

-- k steps, and those that there are from then on
abbrev after : ℕ → Option ℕ → Option ℕ
after k None = None
after k (Some n) = Some (k + n)

module _ (up : ℕ → ℕ) (h s : ℕ) where
  -- The climb has reached `at` in k steps. The steps from s are these and those from there, and each went to a lower number.
  pub record Climbed (k at : ℕ) : Type 0 where
    pub so_far : steps_up up s h ≡ after k (steps_up up at h)
    pub fell : k + at ≤ s

  pub climbed_none : Climbed 0 s
  climbed_none = record { so_far = sym (go (steps_up up s h)); fell = omega arith }
    where
      go : (o : Option ℕ) → after 0 o ≡ o
      go None = refl
      go (Some n) = let same : 0 + n ≡ n = omega arith in rw same

  module _ (k at : ℕ) (c : Climbed k at) where
    -- one more step, above the root
    module _ (above : h < at) (p : ℕ) (read : p ≡ up at) where
      step : steps_up up s h ≡ after k (cond (ltb p at) (option_map suc (steps_up up p h)) None)
      step = c.so_far ∙ rw (steps_up_lem up h at, ne_eqb at h (omega arith), read)

      pub climbed_out : at ≤ p → None ≡ steps_up up s h
      climbed_out out = sym (step ∙ rw (le-ltb p at out))

      pub climbed_up : p < at → Climbed (k + 1) p
      climbed_up low = record { so_far = step ∙ rw (lt-ltb p at low) (go (steps_up up p h)); fell = omega (arith, c.fell) }
        where
          go : (o : Option ℕ) → after k (option_map suc o) ≡ after (k + 1) o
          go None = refl
          go (Some n) = let same : k + suc n ≡ k + 1 + n = omega arith in rw same

    -- the climb is not above the root any more
    pub climbed_past : at ≤ h → (at ≡ h → ⊥) → None ≡ steps_up up s h
    climbed_past low other = sym (c.so_far ∙ rw (steps_below up h at (omega arith)))

    pub climbed_there : at ≡ h → Some k ≡ steps_up up s h
    climbed_there here = sym (c.so_far ∙ rw (steps_up_lem up h at, eq-eqb at h here) (let same : k + 0 ≡ k = omega arith in rw same))

-- being in the tree: there are steps
pub tree_by_steps : (up : ℕ → ℕ) (h s : ℕ) (x : Option ℕ) (b : Bool) → x ≡ steps_up up s h → b ≡ is_some x → b ≡ in_tree up h s
unfolding in_tree
tree_by_steps up h s x b found said = said ∙ go x ∙ ap is_there found
  where
    go : (o : Option ℕ) → is_some o ≡ is_there o
    go None = refl
    go (Some n) = refl

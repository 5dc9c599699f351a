-- The search for a key by halving, as the code does it, for any rows.
use Rattle.std.specs.Prelude.{Bool, true, false, cond, List, ◌≡◌, length, get_or, None, Some, slice_get}
use Rattle.std.proofs.Math.Path.{sym}
use Rattle.std.proofs.Common.{ap, ◌∙◌, arith, lt-ltb, le-ltb}
use Prim.Native.Nat.{ℕ, zero, suc, ◌+◌, ◌-◌, ◌<◌, ◌≤◌}
use Rattle.model.specs.Sorted.{before, same, found, middle, halve, search}
use Rattle.laws.specs.Tests.{index_there}
use Rattle.laws.specs.KeyOrder.{middle_within}
use Rattle.laws.specs.Sorted.{search_halves}

module _ {A : Type 0} (key : A → List ℕ) (rows : List A) (k : List ℕ) (d : A) where
  -- What is still to be searched are the rows from index `first` on, up to index `end`. `steps` are enough for them.
  pub record Halving (first end : ℕ) : Type 0 where
    pub inside : end ≤ length rows
    pub steps : ℕ
    pub enough : end - first ≤ steps
    pub rest : search key k rows ≡ halve key steps k rows first end

  pub halving_all : Halving 0 (length rows)
  halving_all =
      record {
        inside = omega arith;
        steps = length rows;
        enough = omega arith;
        rest = search_halves key k rows;
      }

  -- m is the index in the middle, and x the row there; b says whether its key is lower
  module _ (first end : ℕ) (h : Halving first end) (less : first < end) (m : ℕ) (half : m ≡ middle first end) (x : A)
      (read : x ≡ get_or rows m d) (b : Bool) (low : b ≡ before (key x) k) where
    within : (first ≤ m) × (m < end)
    within = rw half (middle_within first end less)

    there : slice_get rows m ≡ Some x
    there =
        let used : m < length rows = omega (arith, within.1, h.inside) in
        index_there rows m d used ∙ ap Some (sym read)

    stepped : (n : ℕ)
        → halve key (suc n) k rows first end
        ≡ cond b (halve key n k rows (suc m) end) (cond (same (key x) k) (found m (Some x)) (halve key n k rows first m))
    unfolding halve
    stepped n = rw (lt-ltb first end less, ← half, there, low)

    pub halving_behind : b ≡ true → Halving (m + 1) end
    halving_behind e = rw one (go h.steps h.enough h.rest)
      where
        one : m + 1 ≡ suc m
        one = omega arith

        go : (n : ℕ) → end - first ≤ n → search key k rows ≡ halve key n k rows first end → Halving (suc m) end
        go zero few is = absurd (omega arith)
        go (suc n) few is =
            record { inside = h.inside; steps = n; enough = omega (arith, within.0); rest = is ∙ stepped n ∙ rw e }

    -- c says whether it has the key
    module _ (not_low : b ≡ false) (c : Bool) (hit : c ≡ same (key x) k) where
      pub halving_found : c ≡ true → found m (Some x) ≡ search key k rows
      halving_found e = go h.steps h.enough h.rest
        where
          go : (n : ℕ) → end - first ≤ n → search key k rows ≡ halve key n k rows first end → found m (Some x) ≡ search key k rows
          go zero few is = absurd (omega arith)
          go (suc n) few is = sym (is ∙ stepped n ∙ rw (not_low, ← hit, e))

      pub halving_front : c ≡ false → Halving first m
      halving_front e = go h.steps h.enough h.rest
        where
          go : (n : ℕ) → end - first ≤ n → search key k rows ≡ halve key n k rows first end → Halving first m
          go zero few is = absurd (omega arith)
          go (suc n) few is =
              record {
                inside = omega (arith, within.1, h.inside);
                steps = n;
                enough = omega (arith, within.1);
                rest = is ∙ stepped n ∙ rw (not_low, ← hit, e);
              }

  -- nothing is left
  pub halving_over : (first end : ℕ) → Halving first end → end ≤ first → found first None ≡ search key k rows
  unfolding halve
  halving_over first end h past = go h.steps h.rest
    where
      go : (n : ℕ) → search key k rows ≡ halve key n k rows first end → found first None ≡ search key k rows
      go zero is = sym is
      go (suc n) is = sym (is ∙ rw (le-ltb first end past))

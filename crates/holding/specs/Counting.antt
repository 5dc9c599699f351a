-- The loops of the count: a set is added to counts, and one subject after the other is counted.
use Rattle.std.specs.Prelude.{cond, List, [], ◌∷◌, ◌++◌, ◌≡◌, refl, ℕ, zero, suc, ◌+◌, ◌/◌, ◌%◌, ◌^◌, ◌<◌, ◌≤◌}
use Rattle.std.specs.Prelude.{eqb, get_or, set, take, drop, replicate}
use Rattle.std.proofs.Common.{sym, ap, ◌∙◌, div-one, mod-lt, add-zero, lit<}
use Rattle.std.proofs.Common.{take-append-drop}
use Rattle.std.proofs.Math.Numerals.{add-one}
use native.Mathlib.Omega.{arith}
use Rattle.std.proofs.Math.ListN.{length}
use Rattle.std.proofs.lemmas.List.{set-get_or}
use Rattle.std.specs.List.{AllByRecursion}
use Rattle.model.specs.Lists.{how_many, of_each}
use Rattle.model.specs.WhoAndWhat.{has}
use Rattle.model.specs.Image.{Tables}
use Rattle.model.specs.Permission.{permission_set}
use Rattle.model.specs.Calls.{holders, holder_counts}
use Rattle.laws.specs.Counts.{how_many_most, each_same, each_all, each_zero}
use Rattle.laws.specs.Sets.{lowest_away}
use Rattle.holding.specs.Found.{counted}

-- nothing is left to add
counted_none : (cs : List ℕ) → counted 0 cs ≡ cs
counted_none [] = refl
counted_none (c ∷ cs) = rw (add-zero c, counted_none cs)

-- Where nothing is left of the set after i counts, the counts are those that are wanted.
pub added_early : (p rest i : ℕ) (old cs : List ℕ)
    → (take i cs ++ counted rest (drop i old) ≡ counted p old) × (drop i cs ≡ drop i old)
    → rest ≡ 0
    → set cs i (get_or cs i 0) ≡ counted p old
added_early p rest i old cs so_far none =
    set-get_or cs i 0
    ∙ sym (take-append-drop i cs)
    ∙ ap (λ (r : List ℕ). take i cs ++ r) (so_far.1 ∙ sym (counted_none (drop i old)))
    ∙ ap (λ (q : ℕ). take i cs ++ counted q (drop i old)) (sym none)
    ∙ so_far.0

-- a digit counts for one, or for nothing
one_more : (d c : ℕ) → d < 2 → c + d ≡ cond (eqb d 1) (suc c) c
one_more zero c h = add-zero c
one_more (suc zero) c h = add-one c
one_more (suc (suc d)) c h = absurd (omega arith)

counted_each : (p : ℕ) (f : ℕ → ℕ) (k : ℕ) → counted p (of_each f k) ≡ of_each (λ n. cond (has n p) (suc (f n)) (f n)) k
unfolding of_each has
counted_each p f zero = refl
counted_each p f (suc k) =
    rw (one_more (p % 2) (f 0) (mod-lt p (lit< tt)), div-one p, counted_each (p / 2) (λ n. f (suc n)) k)
    (ap (λ (r : List ℕ). cond (eqb (p % 2) 1) (suc (f 0)) (f 0) ∷ r) (each_same _ _ k (λ n. rw (lowest_away p n))))

-- The loop over the subjects: cs are the counts for k positions, of the subjects below s.
module _ (t : Tables) (i : ℕ) where
  -- how many of the subjects below s hold position n
  abbrev below : ℕ → ℕ → ℕ
  below s n = how_many (λ s. has n (permission_set t s 0 i)) s

  pub record Tally (k s : ℕ) (cs : List ℕ) : Type 0 where
    pub counts_below : cs ≡ of_each (below s) k
    pub not_past : s ≤ length t.subjects

  pub tally_none : (k : ℕ) (cs : List ℕ) → cs ≡ replicate k 0 → Tally k 0 cs
  unfolding how_many
  tally_none k cs e = record { counts_below = e ∙ each_zero k; not_past = omega arith }

  module _ (k s : ℕ) (cs : List ℕ) (tally : Tally k s cs) where
    module _ (u : ℕ) (used : u ≡ length t.subjects) where
      pub tally_fits : s < u → u < 2 ^ 32 → AllByRecursion (λ c. c + 1 < 2 ^ 32) cs
      tally_fits h fit =
          rw tally.counts_below
          (each_all (λ c. c + 1 < 2 ^ 32) (below s) k (λ n. omega (arith, how_many_most (λ s. has n (permission_set t s 0 i)) s)))

      pub tally_one : (p : ℕ) (next : List ℕ) → s < u → p ≡ permission_set t s 0 i → next ≡ counted p cs → Tally k (s + 1) next
      unfolding how_many
      tally_one p next h e f =
          record {
            counts_below = f ∙ rw (tally.counts_below, e, add-one s) (counted_each (permission_set t s 0 i) (below s) k);
            not_past = omega arith;
          }

      pub tally_all : u ≤ s → cs ≡ holder_counts t i k
      unfolding holders holder_counts
      tally_all h =
          let all : s ≡ length t.subjects = omega (arith, tally.not_past) in
          rw all at tally.counts_below

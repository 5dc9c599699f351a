-- Question 7: bytes are zero if the union of their bits is empty, by bytes or by words of eight. And the bytes between two offsets,
-- as far as there are any.
use Rattle.std.specs.Prelude.{Bool, true, false, ◌&&◌, List, [], ◌∷◌, ◌≡◌, refl, ℕ, zero, suc, ◌+◌, ◌-◌, ◌*◌, ◌/◌}
use Rattle.std.specs.Prelude.{◌<◌, ◌≤◌, min, eqb, length, get_or, take, drop, fold}
use Rattle.std.proofs.Math.Bool.{and_assoc, and-true}
use Rattle.std.proofs.Common.{inl, inr, ⊎_elim, sym, ap, ◌∙◌, eq-zero-or-pos, arith, ne_eqb, length-drop, drop_of_length-le}
use Rattle.std.proofs.Common.{drop-cons, take_all}
use Rattle.std.specs.Int.{w64, from_le_bytes}
use Rattle.std.proofs.Math.Seq.{take-nil}
use Rattle.model.specs.Image.{value}
use Rattle.std.specs.Int.Bits.{bit_or, or_zero_l, or_add_and}
use Rattle.std.proofs.lemmas.Nat.{and_le_r}
use Rattle.model.specs.Lists.{zeros}
use Rattle.laws.specs.Tests.{le_or_lt}

-- the union of two sets of bits is empty exactly if both are
or_empty : (a b : ℕ) → eqb (bit_or a b) 0 ≡ (eqb a 0 && eqb b 0)
or_empty a b =
    ⊎_elim
    (λ (none : a ≡ 0). rw (none, or_zero_l b))
    (λ (some : 0 < a).
    let more : 0 < bit_or a b = omega (arith, or_add_and a b, and_le_r a b) in
    rw (ne_eqb a 0 (λ z. omega arith), ne_eqb (bit_or a b) 0 (λ z. omega arith)))
    (eq-zero-or-pos a)

union_empty : (a : ℕ) (s : List ℕ) → eqb (fold bit_or a s) 0 ≡ (eqb a 0 && zeros s)
union_empty a [] = sym (and-true (eqb a 0))
union_empty a (b ∷ s) = rw (union_empty (bit_or a b) s, or_empty a b, and_assoc)

pub union_zero : (s : List ℕ) (n : ℕ) → n ≡ fold bit_or 0 s → eqb n 0 ≡ zeros s
union_zero s n e = ap (λ (k : ℕ). eqb k 0) e ∙ union_empty 0 s

-- a number of bytes is 0 exactly if all of them are
value_empty : (s : List ℕ) → eqb (value s) 0 ≡ zeros s
value_empty [] = refl
value_empty (b ∷ s) =
    ⊎_elim
    (λ (none : b ≡ 0).
    ⊎_elim
    (λ (empty : value s ≡ 0). rw (none, ← value_empty s, empty))
    (λ (some : 0 < value s).
    let more : 0 < b + 256 * value s = omega arith in
    rw (none, ← value_empty s, ne_eqb (value s) 0 (λ z. omega arith)) (ne_eqb (0 + 256 * value s) 0 (λ z. omega arith)))
    (eq-zero-or-pos (value s)))
    (λ (some : 0 < b). rw (ne_eqb b 0 (λ z. omega arith), ne_eqb (b + 256 * value s) 0 (λ z. omega arith)))
    (eq-zero-or-pos b)

-- bytes cut at one place

zeros_cut : (n : ℕ) (s : List ℕ) → zeros s ≡ (zeros (take n s) && zeros (drop n s))
zeros_cut zero s = refl
zeros_cut (suc n) [] = refl
zeros_cut (suc n) (x ∷ s) = rw (zeros_cut n s, and_assoc)

zeros_take : (n m : ℕ) (s : List ℕ) → zeros (take (n + m) s) ≡ (zeros (take n s) && zeros (take m (drop n s)))
zeros_take zero m s =
    let none : 0 + m ≡ m = omega arith in
    rw none
zeros_take (suc n) m [] = rw (take-nil {A = ℕ} m, take-nil {A = ℕ} (suc n + m))
zeros_take (suc n) m (x ∷ s) =
    let one : suc n + m ≡ suc (n + m) = omega arith in
    rw (one, zeros_take n m s, and_assoc)

-- Bytes looked at by words of eight.

eight_joined : (a b c d e f g h : ℕ)
    → from_le_bytes w64 (a ∷ b ∷ c ∷ d ∷ e ∷ f ∷ g ∷ h ∷ []) ≡ value (a ∷ b ∷ c ∷ d ∷ e ∷ f ∷ g ∷ h ∷ [])
eight_joined a b c d e f g h = omega arith

pub word_read : (s : List ℕ) (at r : ℕ)
    → at + 8 ≤ length s
    → r
    ≡ from_le_bytes w64
    (get_or s at 0
    ∷ get_or s (at + 1) 0
    ∷ get_or s (at + 2) 0
    ∷ get_or s (at + 3) 0
    ∷ get_or s (at + 4) 0
    ∷ get_or s (at + 5) 0
    ∷ get_or s (at + 6) 0
    ∷ get_or s (at + 7) 0
    ∷ [])
    → r ≡ value (take 8 (drop at s))
word_read s at r h e = e ∙ eight_joined _ _ _ _ _ _ _ _ ∙ ap value (sym all)
  where
    -- as many bytes as k says, the first of them j behind the offset
    list : ℕ → ℕ → List ℕ
    list zero j = []
    list (suc k) j = get_or s (at + j) 0 ∷ list k (j + 1)

    more : (k j : ℕ) → at + (j + k) ≤ length s → take k (drop (at + j) s) ≡ list k j
    more zero j h = refl
    more (suc k) j h =
        let here : at + j < length s = omega arith in
        let one : suc (at + j) ≡ at + (j + 1) = omega arith in
        rw (drop-cons s (at + j) 0 here, one, more k (j + 1) (omega arith))

    all : take 8 (drop at s) ≡ get_or s at 0 ∷ list 7 1
    all =
        let here : at < length s = omega arith in
        let one : suc at ≡ at + 1 = omega arith in
        ap (λ (t : List ℕ). take 8 t) (drop-cons s at 0 here)
        ∙ ap (λ (j : ℕ). get_or s at 0 ∷ take 7 (drop j s)) one
        ∙ ap (λ (t : List ℕ). get_or s at 0 ∷ t) (more 7 1 h)

in_turn : (a b c : Bool) → ((a && c) && b) ≡ ((a && b) && c)
in_turn false b c = refl
in_turn true true true = refl
in_turn true true false = refl
in_turn true false true = refl
in_turn true false false = refl

-- what is looked at twice counts once
twice : (a b c : Bool) → ((a && b) && (b && c)) ≡ (a && (b && c))
twice false b c = refl
twice true true c = refl
twice true false c = refl

module _ (s : List ℕ) where
  -- `seen` is the union of the bits of the first n words and of the last eight bytes
  pub record Seen (n seen : ℕ) : Type 0 where
    pub inside : n ≤ length s / 8
    pub both : eqb seen 0 ≡ (zeros (take (n * 8) s) && zeros (drop (length s - 8) s))

  pub seen_ends : (first last : ℕ)
      → 8 ≤ length s
      → first ≡ value (take 8 (drop 0 s))
      → last ≡ value (take 8 (drop (length s - 8) s))
      → Seen 1 (bit_or first last)
  seen_ends first last h e f =
      let end : length (drop (length s - 8) s) ≤ 8 = rw (length-drop (length s - 8) s) (omega arith) in
      record {
        inside = omega arith;
        both = rw (or_empty first last, e, f, value_empty (take 8 s), take_all 8 (drop (length s - 8) s) end)
            (rw (value_empty (drop (length s - 8) s)));
      }

  pub seen_one : (n seen word : ℕ)
      → Seen n seen
      → n < length s / 8
      → word ≡ value (take 8 (drop (n * 8) s))
      → Seen (n + 1) (bit_or seen word)
  seen_one n seen word z h e =
      let next : (n + 1) * 8 ≡ n * 8 + 8 = omega arith in
      record {
        inside = omega arith;
        both = rw (next, zeros_take (n * 8) 8 s, or_empty seen word, z.both, e, value_empty (take 8 (drop (n * 8) s)))
            (in_turn (zeros (take (n * 8) s)) (zeros (take 8 (drop (n * 8) s))) (zeros (drop (length s - 8) s)));
      }

  -- the words end within the last eight bytes
  pub seen_all : (n seen : ℕ) → Seen n seen → 8 ≤ length s → length s / 8 ≤ n → eqb seen 0 ≡ zeros s
  seen_all n seen z long h =
      let end : ℕ = length s - 8 in
      let more : ℕ = n * 8 - (length s - 8) in
      let sum : n * 8 ≡ (length s - 8) + (n * 8 - (length s - 8)) = omega (arith, z.inside) in
      z.both
      ∙ ap (λ (k : ℕ). zeros (take k s) && zeros (drop (length s - 8) s)) sum
      ∙ ap (λ (b : Bool). b && zeros (drop end s)) (zeros_take end more s)
      ∙ ap (λ (b : Bool). (zeros (take end s) && zeros (take more (drop end s))) && b) (zeros_cut more (drop end s))
      ∙ twice (zeros (take end s)) (zeros (take more (drop end s))) (zeros (drop more (drop end s)))
      ∙ ap (λ (b : Bool). zeros (take end s) && b) (sym (zeros_cut more (drop end s)))
      ∙ sym (zeros_cut end s)

-- There are no bytes past the end.
module _ (s : List ℕ) (from to : ℕ) where
  cut : take (min (length s) to - from) (drop from s) ≡ take (to - from) (drop from s)
  cut =
      elim (le_or_lt to (length s)) [
        | inl inside ↦
            let same : min (length s) to ≡ to = omega arith in
            rw same
        | inr past ↦
            let same : min (length s) to ≡ length s = omega arith in
            let all : length (drop from s) ≤ length s - from = rw (length-drop from s) (omega arith) in
            let more : length (drop from s) ≤ to - from = rw (length-drop from s) (omega arith) in
            rw (same, take_all (length s - from) (drop from s) all, take_all (to - from) (drop from s) more)
      ]

  pub zero_none : (end : ℕ) → end ≡ min (length s) to → end ≤ from → true ≡ zeros (take (to - from) (drop from s))
  zero_none end e h =
      let none : min (length s) to - from ≡ 0 = omega (arith, e, h) in
      rw (← cut, none)

  pub zero_some : (end : ℕ) → end ≡ min (length s) to → (b : Bool) → b ≡ zeros (take (end - from) (drop from s))
      → b ≡ zeros (take (to - from) (drop from s))
  zero_some end e b said = said ∙ ap (λ (k : ℕ). zeros (take (k - from) (drop from s))) e ∙ ap zeros cut

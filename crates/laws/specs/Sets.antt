-- Laws of privilege sets: the positions of the union and of the intersection, and which sets are within others.
use Rattle.std.specs.Prelude.{Bool, true, false, ◌&&◌, ◌||◌, ◌≡◌, refl, ℕ, zero, suc, ◌*◌, ◌/◌, ◌%◌, ◌^◌, ◌-◌, ◌<◌, T, eqb}
use Rattle.std.proofs.Common.{◌∙◌, mod-eq_of_lt, mod-lt, pow-suc, mul-suc, div-one, arith, eq-eqb, lit<, pow-add, pow_pos}
use Rattle.std.proofs.Math.Nat.{pow-succ', div-div-eq-div-mul}
use Rattle.std.proofs.Math.Arith.{bin_ind}
use Rattle.std.specs.Int.Bits.{and_step, and_self}
use Rattle.std.proofs.lemmas.Nat.{and_comm, and_shr, or_shr, and_mod, or_mod, and_mask}
use Rattle.model.specs.WhoAndWhat.{everything, positions_of, has, ◌∪◌, ◌∩◌, within}
use Rattle.laws.specs.Tests.{true_T}

-- A binary digit is 0 or 1, so there are four cases for two digits.
module _ (f : ℕ → ℕ → ℕ) (test : Bool → Bool → Bool)
    (at00 : eqb (f 0 0) 1 ≡ test false false) (at01 : eqb (f 0 1) 1 ≡ test false true)
    (at10 : eqb (f 1 0) 1 ≡ test true false) (at11 : eqb (f 1 1) 1 ≡ test true true) where
  by_digits : (a b : ℕ) → eqb (f (a % 2) (b % 2)) 1 ≡ test (eqb (a % 2) 1) (eqb (b % 2) 1)
  by_digits a b = go (a % 2) (b % 2) (mod-lt a (lit< tt)) (mod-lt b (lit< tt))
    where
      go : (x y : ℕ) → x < 2 → y < 2 → eqb (f x y) 1 ≡ test (eqb x 1) (eqb y 1)
      go zero zero h k = at00
      go zero (suc zero) h k = at01
      go zero (suc (suc y)) h k = absurd (omega arith)
      go (suc zero) zero h k = at10
      go (suc zero) (suc zero) h k = at11
      go (suc zero) (suc (suc y)) h k = absurd (omega arith)
      go (suc (suc x)) y h k = absurd (omega arith)

pub has_or : (n a b : ℕ) → has n (a ∪ b) ≡ (has n a || has n b)
unfolding has
has_or n a b = rw (or_shr a b n, or_mod (a / 2 ^ n) (b / 2 ^ n) 1) (by_digits ◌∪◌ ◌||◌ refl refl refl refl (a / 2 ^ n) (b / 2 ^ n))

pub has_and : (n a b : ℕ) → has n (a ∩ b) ≡ (has n a && has n b)
unfolding has
has_and n a b = rw (and_shr a b n, and_mod (a / 2 ^ n) (b / 2 ^ n) 1) (by_digits ◌∩◌ ◌&&◌ refl refl refl refl (a / 2 ^ n) (b / 2 ^ n))

-- The intersection is within the second set. The proof is by induction on the binary digits: the last one, then the others.
pub and_twice : (a b : ℕ) → (a ∩ b) ∩ b ≡ a ∩ b
and_twice = bin_ind (λ (a : ℕ). (b : ℕ) → (a ∩ b) ∩ b ≡ a ∩ b) (λ b. refl) step
  where
    step : (a : ℕ) → ((b : ℕ) → (a / 2 ∩ b) ∩ b ≡ a / 2 ∩ b) → (b : ℕ) → (a ∩ b) ∩ b ≡ a ∩ b
    step a ih b =
        let halves : (a ∩ b) / 2 ≡ a / 2 ∩ b / 2 = and_shr a b 1 in
        omega (arith, and_step a b, rw halves at (and_step (a ∩ b) b), ih (b / 2))

-- Intersections may be grouped in any way.
pub and_assoc : (a b c : ℕ) → (a ∩ b) ∩ c ≡ a ∩ (b ∩ c)
and_assoc = bin_ind (λ (a : ℕ). (b c : ℕ) → (a ∩ b) ∩ c ≡ a ∩ (b ∩ c)) (λ b c. refl) step
  where
    step : (a : ℕ) → ((b c : ℕ) → (a / 2 ∩ b) ∩ c ≡ a / 2 ∩ (b ∩ c)) → (b c : ℕ) → (a ∩ b) ∩ c ≡ a ∩ (b ∩ c)
    step a ih b c =
        let left : (a ∩ b) / 2 ≡ a / 2 ∩ b / 2 = and_shr a b 1 in
        let right : (b ∩ c) / 2 ≡ b / 2 ∩ c / 2 = and_shr b c 1 in
        omega (
          arith,
          and_step a b,
          and_step b c,
          rw left at (and_step (a ∩ b) c),
          rw right at (and_step a (b ∩ c)),
          ih (b / 2) (c / 2),
        )

-- To cut both of two sets by c is to cut what they share.
pub and_shared : (c a b : ℕ) → c ∩ (a ∩ b) ≡ (c ∩ a) ∩ (c ∩ b)
and_shared c a b =
    rw (and_assoc c a (c ∩ b), ← and_assoc a c b, and_comm a c, and_assoc c a b, ← and_assoc c c (a ∩ b), and_self c)

pub both_within : (a b : ℕ) → T (within (a ∩ b) b)
both_within a b = true_T (within (a ∩ b) b) (eq-eqb ((a ∩ b) ∩ b) (a ∩ b) (and_twice a b))

-- A set of k positions is within the set of all k positions.
pub and_all : (k v : ℕ) → v < 2 ^ k → v ∩ (2 ^ k - 1) ≡ v
and_all k v h = and_mask v k ∙ mod-eq_of_lt h

pub bytes_positions : (w : ℕ) → 256 ^ w ≡ 2 ^ positions_of w
bytes_positions zero = refl
bytes_positions (suc w) = rw (pow-suc, mul-suc 8 w, pow-add, bytes_positions w)

-- without its lowest position, a set has each higher one a position lower
pub lowest_away : (p n : ℕ) → p / 2 / 2 ^ n ≡ p / 2 ^ suc n
lowest_away p n = rw (pow-succ' 2 n) (div-div-eq-div-mul p 2 (2 ^ n))

-- every position below k is in the set of all k positions
has_all : (k n : ℕ) → n < k → has n (2 ^ k - 1) ≡ true
unfolding has
has_all zero n h = absurd (omega arith)
has_all (suc k) zero h = rw (pow-succ' 2 k, div-one) (eq-eqb ((2 * 2 ^ k - 1) % 2) 1 (omega (arith, pow_pos k)))
has_all (suc k) (suc n) h =
    let halved : (2 ^ suc k - 1) / 2 ≡ 2 ^ k - 1 = rw (pow-succ' 2 k) (omega (arith, pow_pos k)) in
    rw (← lowest_away (2 ^ suc k - 1) n, halved) (has_all k n (omega arith))

pub has_everything : (w n : ℕ) → n < positions_of w → has n (everything w) ≡ true
has_everything w n h = rw (bytes_positions w) (has_all (positions_of w) n h)

pub within_everything : (w v : ℕ) → v < 256 ^ w → T (within v (everything w))
within_everything w v h =
    let whole : v ∩ everything w ≡ v = rw (bytes_positions w) (and_all (positions_of w) v (rw (bytes_positions w) at h)) in
    true_T (within v (everything w)) (eq-eqb (v ∩ everything w) v whole)

-- the position and the set may be replaced by equal ones, as where callees answer them
pub has_same : (n m a b : ℕ) (r : Bool) → n ≡ m → a ≡ b → r ≡ has n a → r ≡ has m b
has_same n m a b r position set e = rw (← position, ← set) e

-- A position is in a set exactly when its mask and the set have a bit in common. The argument: the mask cuts out one binary
-- digit of the set. Past the last position, the mask is empty and the digit is 0.
use mathlib.Core.Bool.{Bool, true, false, not, cond}
use mathlib.Core.Path.{◌≡◌, refl}
use Prim.Native.Nat.{ℕ, zero, suc, ◌+◌, ◌-◌, ◌*◌, ◌/◌, ◌%◌, ◌^◌, ◌<◌, ◌≤◌}
use native.Mathlib.Nat.{mod-lt, div-eq_of_lt, one-mul, lt_of_lt_of_le}
use native.Mathlib.Numerals.{one-add}
use native.Mathlib.Omega.{arith}
use borrow.Author.Tests.{ltb-false, ne_eqb}
use lib.Bits.{bit_and, and_high, and_zero_r}
use lib.Dec.{eqb, ltb, lit<}
use lib.Pow.{pow_pos, pow_mono}
use Rattle.model.specs.WhoAndWhat.{has, mask_of, no_position, needed_position}

power : (n : ℕ) → 2 ^ (1 + n) - 2 ^ n ≡ 2 ^ n
power n = rw one-add (omega arith)

digit : (d m : ℕ) → d < 2 → 0 < m → not (eqb (d * m) 0) ≡ eqb d 1
digit zero m h k = rw (native.Mathlib.Nat.zero-mul m)
digit (suc zero) m h k = rw (one-mul m, ne_eqb m 0 (λ e. omega arith))
digit (suc (suc d)) m h k = absurd (omega arith)

cut : (p n : ℕ) → bit_and p (2 ^ n) ≡ p / 2 ^ n % 2 * 2 ^ n
cut p n = rw (power n) at (and_high p 1 n)

pub meets : (n p m : ℕ) → p < 2 ^ 32 → m ≡ mask_of n → not (eqb (bit_and p m) 0) ≡ has n p
unfolding has
meets n p m h e = rw e (go (ltb n 32) refl)
  where
    go : (b : Bool) → ltb n 32 ≡ b → not (eqb (bit_and p (cond b (2 ^ n) 0)) 0) ≡ eqb (p / 2 ^ n % 2) 1
    go true q = rw (cut p n) (digit (p / 2 ^ n % 2) (2 ^ n) (mod-lt (p / 2 ^ n) (lit< tt)) (pow_pos n))
    go false q = rw (and_zero_r, div-eq_of_lt (lt_of_lt_of_le h (pow_mono (ltb-false n 32 q))))

-- a number past the last call that needs a position
pub no_position_lem : (n : ℕ) → 4 ≤ n → no_position ≡ needed_position n
no_position_lem zero h = absurd (omega arith)
no_position_lem (suc zero) h = absurd (omega arith)
no_position_lem (suc (suc zero)) h = absurd (omega arith)
no_position_lem (suc (suc (suc zero))) h = absurd (omega arith)
no_position_lem (suc (suc (suc (suc n)))) h = refl

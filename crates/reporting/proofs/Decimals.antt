-- The digits of a number. Any number of steps that is enough gives all digits. The digits of a number are those of its tenth
-- and then its last digit, so they are what the standard library prints.
use Rattle.std.specs.Prelude.{List, [], ◌∷◌, ◌++◌, ◌≡◌, refl, ℕ, zero, suc, ◌+◌, ◌/◌, ◌%◌, ◌^◌, ◌<◌, ◌≤◌}
use Rattle.std.specs.Fmt.{decimal as printed}
use Rattle.std.proofs.Common.{⊎_elim, sym, ap, ◌∙◌, eq-zero-or-pos, arith, ne_eqb}
use Rattle.std.proofs.Math.Nat.{div-lt_self}
use Rattle.std.proofs.lemmas.Fmt.{decimal_by_steps}
use Rattle.reporting.specs.Report.{digit, digits_within, digits_of, decimal}

-- a tenth of a number above 0 is lower
tenth : (n : ℕ) → 0 < n → n / 10 < n
tenth n h = div-lt_self h (omega arith)

within_none : (m n : ℕ) → n ≡ 0 → digits_within m n ≡ []
unfolding digits_within
within_none zero n e = refl
within_none (suc m) n e = rw e

within_one : (m n : ℕ) → 0 < n → digits_within (suc m) n ≡ digits_within m (n / 10) ++ digit (n % 10) ∷ []
unfolding digits_within
within_one m n h = rw (ne_eqb n 0 (λ z. omega arith))

within_same : (m k n : ℕ) → n ≤ m → n ≤ k → digits_within m n ≡ digits_within k n
within_same zero k n p q =
    let e : n ≡ 0 = omega arith in
    within_none zero n e ∙ sym (within_none k n e)
within_same (suc m) zero n p q =
    let e : n ≡ 0 = omega arith in
    within_none (suc m) n e ∙ sym (within_none zero n e)
within_same (suc m) (suc k) n p q =
    ⊎_elim
    (λ e. within_none (suc m) n e ∙ sym (within_none (suc k) n e))
    (λ h.
    within_one m n h
    ∙ ap (λ (l : List ℕ). l ++ digit (n % 10) ∷ []) (within_same m k (n / 10) (omega (arith, tenth n h)) (omega (arith, tenth n h)))
    ∙ sym (within_one k n h))
    (eq-zero-or-pos n)

pub no_digits : digits_of 0 ≡ []
no_digits = within_none 0 0 refl

pub digits_step : (n : ℕ) → 0 < n → digits_of n ≡ digits_of (n / 10) ++ digit (n % 10) ∷ []
digits_step zero h = absurd (omega arith)
digits_step (suc n) h =
    within_one n (suc n) h
    ∙ ap (λ (l : List ℕ). l ++ digit (suc n % 10) ∷ [])
    (within_same n (suc n / 10) (suc n / 10) (omega (arith, tenth (suc n) h)) (omega arith))

-- below 2 ^ 64 it is what the standard library prints of a number
pub decimal_printed : (n : ℕ) → n < 2 ^ 64 → decimal n ≡ printed n
unfolding decimal
decimal_printed n fits = decimal_by_steps (λ (k : ℕ) (ds : List ℕ). decimal k ≡ ds) one more n fits
  where
    one : (k : ℕ) → k < 10 → decimal k ≡ (48 + k) ∷ []
    one k low =
        let none : k / 10 ≡ 0 = omega arith in
        let same : k % 10 ≡ k = omega arith in
        rw (none, no_digits, same)

    more : (k : ℕ) (ds : List ℕ) → 10 ≤ k → decimal (k / 10) ≡ ds → decimal k ≡ ds ++ ((48 + k % 10) ∷ [])
    more k ds high front = ap (λ (l : List ℕ). l ++ digit (k % 10) ∷ []) (digits_step (k / 10) (omega arith) ∙ front)

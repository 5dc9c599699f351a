-- The order of keys, and the middle of two indices.
use Rattle.std.specs.Prelude.{true, false, List, [], ◌∷◌, ◌⊎◌, ◌≢◌, ◌≡◌, refl, ℕ, ◌<◌, ◌≤◌}
use Rattle.std.proofs.lemmas.Bool.{false≢true}
use Rattle.std.proofs.Common.{inl, inr, sym, ◌∙◌, arith, lt-ltb, le-ltb, eq-eqb, ne_eqb}
use Rattle.model.specs.Sorted.{before, same, middle}
use Rattle.laws.specs.Tests.{lt_eq_gt}

pub before_self : (k : List ℕ) → before k k ≡ false
before_self [] = refl
before_self (x ∷ xs) = rw (le-ltb x x (omega arith), eq-eqb x x refl) (before_self xs)

pub same_self : (k : List ℕ) → same k k ≡ true
same_self [] = refl
same_self (x ∷ xs) = rw (eq-eqb x x refl) (same_self xs)

-- A key is lower than another, equal to it or higher. Each case says what the tests answer.
pub data Order (k l : List ℕ) : Type 0 where
  lower : before k l ≡ true → before l k ≡ false → same k l ≡ false → Order k l
  equal : k ≡ l → before k l ≡ false → same k l ≡ true → Order k l
  higher : before l k ≡ true → before k l ≡ false → same k l ≡ false → Order k l

before_tails : (x : ℕ) (xs ys : List ℕ) → before (x ∷ xs) (x ∷ ys) ≡ before xs ys
before_tails x xs ys = rw (le-ltb x x (omega arith), eq-eqb x x refl)

same_tails : (x : ℕ) (xs ys : List ℕ) → same (x ∷ xs) (x ∷ ys) ≡ same xs ys
same_tails x xs ys = rw (eq-eqb x x refl)

pub order : (k l : List ℕ) → Order k l
order [] [] = Order.equal refl refl refl
order [] (y ∷ ys) = Order.lower refl refl refl
order (x ∷ xs) [] = Order.higher refl refl refl
order (x ∷ xs) (y ∷ ys) = go (lt_eq_gt x y) (order xs ys)
  where
    tails : Order xs ys → Order (y ∷ xs) (y ∷ ys)
    tails (Order.lower a b c) = Order.lower (before_tails y xs ys ∙ a) (before_tails y ys xs ∙ b) (same_tails y xs ys ∙ c)
    tails (Order.equal a b c) = Order.equal (cc) (before_tails y xs ys ∙ b) (same_tails y xs ys ∙ c)
    tails (Order.higher a b c) = Order.higher (before_tails y ys xs ∙ a) (before_tails y xs ys ∙ b) (same_tails y xs ys ∙ c)

    go : (x < y) ⊎ ((x ≡ y) ⊎ (y < x)) → Order xs ys → Order (x ∷ xs) (y ∷ ys)
    go (inl h) o = Order.lower (rw (lt-ltb x y h)) (rw (le-ltb y x (omega arith), ne_eqb y x (omega arith))) (rw (ne_eqb x y (omega arith)))
    go (inr (inl h)) o = rw h (tails o)
    go (inr (inr h)) o =
        Order.higher (rw (lt-ltb y x h)) (rw (le-ltb x y (omega arith), ne_eqb x y (omega arith))) (rw (ne_eqb x y (omega arith)))

pub same_or_not : (k l : List ℕ) → (k ≡ l) ⊎ (k ≢ l)
same_or_not k l =
    elim (order k l) [
      | lower a b c ↦ inr (λ e. false≢true (sym c ∙ (rw e (same_self l))))
      | equal a b c ↦ inl a
      | higher a b c ↦ inr (λ e. false≢true (sym c ∙ (rw e (same_self l))))
    ]

pub same_is : (k l : List ℕ) → same k l ≡ true → k ≡ l
same_is k l e =
    elim (order k l) [
      | lower a b c ↦ absurd (false≢true (sym c ∙ e))
      | equal a b c ↦ a
      | higher a b c ↦ absurd (false≢true (sym c ∙ e))
    ]

pub not_same : (k l : List ℕ) → k ≢ l → same k l ≡ false
not_same k l d = elim (order k l) [ lower a b c ↦ c | equal a b c ↦ absurd (d a) | higher a b c ↦ c ]

pub before_not_after : (k l : List ℕ) → before k l ≡ true → before l k ≡ false
before_not_after k l e = elim (order k l) [ lower a b c ↦ b | equal a b c ↦ cc | higher a b c ↦ cc ]

pub before_heads : (x y : ℕ) (xs ys : List ℕ) → before (x ∷ xs) (y ∷ ys) ≡ true → (x < y) ⊎ ((x ≡ y) × (before xs ys ≡ true))
before_heads x y xs ys e = go (lt_eq_gt x y)
  where
    go : (x < y) ⊎ ((x ≡ y) ⊎ (y < x)) → (x < y) ⊎ ((x ≡ y) × (before xs ys ≡ true))
    go (inl h) = inl h
    go (inr (inl h)) = inr (h, sym (before_tails y xs ys) ∙ (rw h at e))
    go (inr (inr h)) = absurd (false≢true (rw (le-ltb x y (omega arith), ne_eqb x y (omega arith)) at e))

pub before_trans : (k l m : List ℕ) → before k l ≡ true → before l m ≡ true → before k m ≡ true
before_trans [] [] m e f = absurd (false≢true e)
before_trans [] (y ∷ ys) [] e f = f
before_trans [] (y ∷ ys) (z ∷ zs) e f = refl
before_trans (x ∷ xs) [] m e f = absurd (false≢true e)
before_trans (x ∷ xs) (y ∷ ys) [] e f = f
before_trans (x ∷ xs) (y ∷ ys) (z ∷ zs) e f = go (before_heads x y xs ys e) (before_heads y z ys zs f) (before_trans xs ys zs)
  where
    go : (x < y) ⊎ ((x ≡ y) × (before xs ys ≡ true))
        → (y < z) ⊎ ((y ≡ z) × (before ys zs ≡ true))
        → (before xs ys ≡ true → before ys zs ≡ true → before xs zs ≡ true)
        → before (x ∷ xs) (z ∷ zs) ≡ true
    go (inl a) (inl b) ih = rw (lt-ltb x z (omega arith))
    go (inl a) (inr b) ih = rw (lt-ltb x z (omega arith))
    go (inr a) (inl b) ih = rw (lt-ltb x z (omega arith))
    go (inr a) (inr b) ih = rw (a.0, b.0) (before_tails z xs zs ∙ ih a.1 b.1)

-- The middle of two indices is not before the first, and before the second.
pub middle_within : (first end : ℕ) → first < end → (first ≤ middle first end) × (middle first end < end)
middle_within first end h = (omega arith, omega arith)

-- What it means that tests are passed: one test, a list of tests, a test of every row. And laws of facts about every row.
use Rattle.std.specs.Prelude.{Bool, true, false, ◌&&◌, ◌||◌, not, List, [], ◌∷◌, ◌++◌, ◌⊎◌, ◌≢◌, ◌≡◌, refl, ℕ, zero, None, Some, slice_get}
use Rattle.std.proofs.lemmas.Option.{none-some}
use Rattle.std.specs.Prelude.{suc, ◌<◌, ◌≤◌, T, eqb, ltb, leb, length, get_or, set}
use Rattle.std.proofs.Math.Bool.{and-true}
use Rattle.std.proofs.Common.{sym, ◌∙◌, le_of_suc-le-suc, not-suc-le-zero, arith, ltb-true, ltb-false, leb-true}
use Rattle.std.proofs.Common.{leb-false, eqb-true}
use Rattle.std.proofs.lemmas.Bool.{eqb-false, not-true, not-false}
use Rattle.std.specs.List.{AllByRecursion}
use Rattle.model.specs.Lists.{all_of, every, every_numbered}

-- two facts as one
infixr 20 ◌and◌
abbrev pub ◌and◌ : {P Q : Type 0} → P → Q → P × Q
p and q = (p, q)

-- Tests as equations and as facts.

pub T_true : (b : Bool) → T b → b ≡ true
T_true true t = refl
T_true false t = absurd t

pub true_T : (b : Bool) → b ≡ true → T b
true_T b e = rw e tt

pub and_i : (a b : Bool) → T a → T b → T (a && b)
and_i true b p q = q
and_i false b p q = p

pub and_l : (a b : Bool) → T (a && b) → T a
and_l true b t = tt
and_l false b t = t

pub and_r : (a b : Bool) → T (a && b) → T b
and_r true b t = t
and_r false b t = absurd t

pub or_l : (a b : Bool) → T a → T (a || b)
or_l true b t = tt
or_l false b t = absurd t

pub or_r : (a b : Bool) → T b → T (a || b)
or_r true b t = tt
or_r false b t = t

pub or_cases : (a b : Bool) → T (a || b) → T a ⊎ T b
or_cases true b t = ◌⊎◌.inl tt
or_cases false b t = ◌⊎◌.inr t

-- Tests asked one after the other, as code does. r is what the code answers, t what a callee answered.

pub and_no : (a b : Bool) → a ≡ false → false ≡ (a && b)
and_no a b e = rw e

pub and_yes : (a b r : Bool) → a ≡ true → r ≡ b → r ≡ (a && b)
and_yes a b r e f = rw e f

pub and_last : (a r : Bool) → r ≡ a → r ≡ (a && true)
and_last a r e = e ∙ sym (and-true a)

pub or_yes : (a b : Bool) → a ≡ true → true ≡ (a || b)
or_yes a b e = rw e

pub or_no : (a b r : Bool) → a ≡ false → r ≡ b → r ≡ (a || b)
or_no a b r e f = rw e f

pub said_no : (a t : Bool) → t ≡ a → not t ≡ true → a ≡ false
said_no a t e h = sym e ∙ not-true t h

pub said_yes : (a t : Bool) → t ≡ a → not t ≡ false → a ≡ true
said_yes a t e h = sym e ∙ not-false t h

pub was_no : (a t : Bool) → t ≡ a → t ≡ false → a ≡ false
was_no a t e h = sym e ∙ h

pub was_yes : (a t : Bool) → t ≡ a → t ≡ true → a ≡ true
was_yes a t e h = sym e ∙ h

pub two : (b : Bool) → (b ≡ true) ⊎ (b ≡ false)
two true = ◌⊎◌.inl refl
two false = ◌⊎◌.inr refl

pub le_or_lt : (m n : ℕ) → (m ≤ n) ⊎ (n < m)
le_or_lt m n = go (leb m n) refl
  where
    go : (b : Bool) → leb m n ≡ b → (m ≤ n) ⊎ (n < m)
    go true e = ◌⊎◌.inl (leb-true m n e)
    go false e = ◌⊎◌.inr (leb-false m n e)

pub eq_or_ne : (m n : ℕ) → (m ≡ n) ⊎ (m ≡ n → ⊥)
eq_or_ne m n = go (eqb m n) refl
  where
    go : (b : Bool) → eqb m n ≡ b → (m ≡ n) ⊎ (m ≡ n → ⊥)
    go true e = ◌⊎◌.inl (eqb-true m n e)
    go false e = ◌⊎◌.inr (eqb-false m n e)

pub lt_eq_gt : (m n : ℕ) → (m < n) ⊎ ((m ≡ n) ⊎ (n < m))
lt_eq_gt m n = go (ltb m n) refl (eqb m n) refl
  where
    go : (a : Bool) → ltb m n ≡ a → (b : Bool) → eqb m n ≡ b → (m < n) ⊎ ((m ≡ n) ⊎ (n < m))
    go true e b f = ◌⊎◌.inl (ltb-true m n e)
    go false e true f = ◌⊎◌.inr (◌⊎◌.inl (eqb-true m n f))
    go false e false f = let l : n ≤ m = ltb-false m n e in let d : m ≢ n = eqb-false m n f in ◌⊎◌.inr (◌⊎◌.inr (omega arith))

-- All tests of a list are passed exactly when each of them is.

pub yes_all : (bs : List Bool) → T (all_of bs) → AllByRecursion T bs
yes_all [] t = tt
yes_all (b ∷ bs) t = (and_l b (all_of bs) t, yes_all bs (and_r b (all_of bs) t))

pub all_yes : (bs : List Bool) → AllByRecursion T bs → T (all_of bs)
all_yes [] f = tt
all_yes (b ∷ bs) f = and_i b (all_of bs) f.0 (all_yes bs f.1)

module _ {A : Type 0} where
  -- `every` and `AllByRecursion` say the same: each row passes the test
  pub every_all : (test : A → Bool) (xs : List A) → T (every test xs) → AllByRecursion (λ x. T (test x)) xs
  every_all test [] t = tt
  every_all test (x ∷ xs) t = (and_l (test x) (every test xs) t, every_all test xs (and_r (test x) (every test xs) t))

  pub all_every : (test : A → Bool) (xs : List A) → AllByRecursion (λ x. T (test x)) xs → T (every test xs)
  all_every test [] a = tt
  all_every test (x ∷ xs) a = and_i (test x) (every test xs) a.0 (all_every test xs a.1)

  -- a test that is handed the index: every row passes it exactly when the row at each index does
  pub every_at : (test : ℕ → A → Bool) (xs : List A) (d : A)
      → T (every_numbered test xs)
      → (k : ℕ) → k < length xs → T (test k (get_or xs k d))
  every_at test [] d t k h = absurd (not-suc-le-zero h)
  every_at test (x ∷ xs) d t zero h = and_l (test 0 x) (every_numbered (λ n. test (suc n)) xs) t
  every_at test (x ∷ xs) d t (suc k) h =
      every_at (λ n. test (suc n)) xs d (and_r (test 0 x) (every_numbered (λ n. test (suc n)) xs) t) k (le_of_suc-le-suc h)

  pub every_by : (test : ℕ → A → Bool) (xs : List A) (d : A)
      → ((k : ℕ) → k < length xs → T (test k (get_or xs k d)))
      → T (every_numbered test xs)
  every_by test [] d f = tt
  every_by test (x ∷ xs) d f =
      and_i (test 0 x) (every_numbered (λ n. test (suc n)) xs) (f zero (omega arith))
      (every_by (λ n. test (suc n)) xs d (λ k h. f (suc k) (omega arith)))

  -- if each row that passes one test passes another, and every row passes the first, every row passes the other
  pub every_map : (test more : ℕ → A → Bool) (xs : List A)
      → ((k : ℕ) (x : A) → k < length xs → T (test k x) → T (more k x))
      → T (every_numbered test xs)
      → T (every_numbered more xs)
  every_map test more [] f t = tt
  every_map test more (x ∷ xs) f t =
      and_i (more 0 x) (every_numbered (λ n. more (suc n)) xs)
      (f zero x (omega arith) (and_l (test 0 x) (every_numbered (λ n. test (suc n)) xs) t))
      (every_map (λ n. test (suc n)) (λ n. more (suc n)) xs (λ k y h. f (suc k) y (omega arith))
      (and_r (test 0 x) (every_numbered (λ n. test (suc n)) xs) t))

  -- one row more, and one row replaced
  pub every_append : (test : ℕ → A → Bool) (xs : List A) (r : A)
      → T (every_numbered test xs)
      → T (test (length xs) r)
      → T (every_numbered test (xs ++ r ∷ []))
  every_append test [] r t u = and_i (test 0 r) true u tt
  every_append test (x ∷ xs) r t u =
      and_i (test 0 x) (every_numbered (λ n. test (suc n)) (xs ++ r ∷ []))
      (and_l (test 0 x) (every_numbered (λ n. test (suc n)) xs) t)
      (every_append (λ n. test (suc n)) xs r (and_r (test 0 x) (every_numbered (λ n. test (suc n)) xs) t) u)

  pub every_set : (test : ℕ → A → Bool) (xs : List A) (i : ℕ) (r : A)
      → T (every_numbered test xs)
      → T (test i r)
      → T (every_numbered test (set xs i r))
  every_set test [] i r t u = tt
  every_set test (x ∷ xs) zero r t u =
      and_i (test 0 r) (every_numbered (λ n. test (suc n)) xs) u (and_r (test 0 x) (every_numbered (λ n. test (suc n)) xs) t)
  every_set test (x ∷ xs) (suc i) r t u =
      and_i (test 0 x) (every_numbered (λ n. test (suc n)) (set xs i r))
      (and_l (test 0 x) (every_numbered (λ n. test (suc n)) xs) t)
      (every_set (λ n. test (suc n)) xs i r (and_r (test 0 x) (every_numbered (λ n. test (suc n)) xs) t) u)

  -- a fact about each row
  pub all_map : {P Q : A → Type 0} → ((x : A) → P x → Q x) → (xs : List A) → AllByRecursion P xs → AllByRecursion Q xs
  all_map f [] a = tt
  all_map f (x ∷ xs) a = (f x a.0, all_map f xs a.1)

  pub all_both : (P Q : A → Type 0) (xs : List A) → AllByRecursion P xs → AllByRecursion Q xs → AllByRecursion (λ x. P x × Q x) xs
  all_both P Q [] p q = tt
  all_both P Q (x ∷ xs) p q = ((p.0, q.0), all_both P Q xs p.1 q.1)

  -- of each row: what holds of all rows holds of it
  pub all_self : {B : Type 0} (P : B → A → Type 0) (xs : List A) → AllByRecursion (λ x. (b : B) → AllByRecursion (P b) xs → P b x) xs
  all_self P [] = tt
  all_self P (x ∷ xs) = (λ b a. a.0, all_map (λ y f b a. f b a.1) xs (all_self P xs))

  module _ (P : A → Type 0) where
    pub all_append : (xs ys : List A) → AllByRecursion P xs → AllByRecursion P ys → AllByRecursion P (xs ++ ys)
    all_append [] ys p q = q
    all_append (x ∷ xs) ys p q = (p.0, all_append xs ys p.1 q)

    pub all_left : (xs ys : List A) → AllByRecursion P (xs ++ ys) → AllByRecursion P xs
    all_left [] ys p = tt
    all_left (x ∷ xs) ys p = (p.0, all_left xs ys p.1)

    pub all_right : (xs ys : List A) → AllByRecursion P (xs ++ ys) → AllByRecursion P ys
    all_right [] ys p = p
    all_right (x ∷ xs) ys p = all_right xs ys p.1

    pub all_set : (xs : List A) (i : ℕ) (r : A) → AllByRecursion P xs → P r → AllByRecursion P (set xs i r)
    all_set [] i r a p = tt
    all_set (x ∷ xs) zero r a p = (p, a.1)
    all_set (x ∷ xs) (suc i) r a p = (a.0, all_set xs i r a.1 p)

    pub all_at : (xs : List A) (d : A) → AllByRecursion P xs → (k : ℕ) → k < length xs → P (get_or xs k d)
    all_at [] d a k h = absurd (not-suc-le-zero h)
    all_at (x ∷ xs) d a zero h = a.0
    all_at (x ∷ xs) d a (suc k) h = all_at xs d a.1 k (le_of_suc-le-suc h)

    -- the same of a row that is looked up by its index
    pub all_index : (xs : List A) (n : ℕ) (r : A) → AllByRecursion P xs → slice_get xs n ≡ Some r → P r
    all_index [] n r all at = absurd (none-some r at)
    all_index (x ∷ xs) zero r all at = let is : x ≡ r = cc in rw is at all.0
    all_index (x ∷ xs) (suc n) r all at = all_index xs n r all.1 at

  -- A row by its index: past the end there is none.

  pub index_past : (xs : List A) (n : ℕ) → length xs ≤ n → slice_get xs n ≡ None
  index_past [] n h = refl
  index_past (x ∷ xs) zero h = absurd (not-suc-le-zero h)
  index_past (x ∷ xs) (suc n) h = index_past xs n (le_of_suc-le-suc h)

  pub index_there : (xs : List A) (n : ℕ) (d : A) → n < length xs → slice_get xs n ≡ Some (get_or xs n d)
  index_there [] n d h = absurd (not-suc-le-zero h)
  index_there (x ∷ xs) zero d h = refl
  index_there (x ∷ xs) (suc n) d h = index_there xs n d (le_of_suc-le-suc h)

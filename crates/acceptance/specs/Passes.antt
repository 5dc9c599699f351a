-- Passes through the rows of a table, for any table. A pass ends at the first row that breaks a rule.
use Rattle.std.specs.Prelude.{Bool, true, false, not, ◌&&◌, ◌≡◌, T, eqb, leb, cond, get_or, drop, replicate}
use Rattle.std.proofs.Math.Seq.{drop-nil, take-nil}
use Rattle.std.proofs.Math.Bool.{and-false}
use mathlib.Core.List.{List, [], ◌∷◌}
use Rattle.std.proofs.Math.Logic.{inl, inr}
use Rattle.std.proofs.Math.Path.{refl}
use Rattle.std.proofs.Common.{sym, ap, ◌∙◌, drop-cons}
use Prim.Native.Nat.{ℕ, suc, ◌+◌, ◌<◌, ◌≤◌}
use native.Mathlib.Omega.{arith}
use borrow.Author.Tests.{not-true, not-false, eq-eqb, ne_eqb}
use Rattle.std.proofs.Math.ListN.{length, drop_of_length-le}
use Rattle.model.specs.Lists.{every, every_numbered}
use Rattle.model.specs.Sorted.{before, ascending}
use Rattle.model.specs.Image.{Format, field_at, fields_at}
use Rattle.rows.specs.Reading.{row_of, zero_row}
use Rattle.laws.specs.Tests.{T_true, true_T, two, eq_or_ne, lt_eq_gt, every_at, every_by}

-- Each row is tested together with its index.
module _ {A : Type 0} (rows : List A) (d : A) (test : ℕ → A → Bool) where
  -- the first n rows pass
  pub record Upto (n : ℕ) : Type 0 where
    pub inside : n ≤ length rows
    pub passed : (k : ℕ) → k < n → T (test k (get_or rows k d))

  pub upto_none : Upto 0
  upto_none = record { inside = omega arith; passed = λ k h. absurd (omega arith) }

  pub upto_broken : (n : ℕ) (b : Bool) (u : ℕ)
      → u ≡ length rows
      → n < u
      → b ≡ test n (get_or rows n d)
      → not b ≡ true
      → false ≡ every_numbered test rows
  upto_broken n b u used h e broken =
      elim (two (every_numbered test rows)) [
        | inl all ↦
            let one : test n (get_or rows n d) ≡ true =
            T_true (test n (get_or rows n d))
            (every_at test rows d (true_T (every_numbered test rows) all) n (omega (arith, used, h))) in
            sym (not-true b broken) ∙ e ∙ one ∙ sym all
        | inr some ↦ sym some
      ]

  pub upto_next : (n : ℕ) (b : Bool) (u : ℕ)
      → u ≡ length rows
      → Upto n
      → n < u
      → b ≡ test n (get_or rows n d)
      → not b ≡ false
      → Upto (n + 1)
  upto_next n b m used u h e held = record { inside = omega (arith, used, h); passed = further }
    where
      further : (k : ℕ) → k < n + 1 → T (test k (get_or rows k d))
      further k l =
          elim (lt_eq_gt k n) [
            | inl low ↦ u.passed k low
            | inr (inl here) ↦ rw (here, ← e, not-false b held) tt
            | inr (inr high) ↦ absurd (omega arith)
          ]

  pub upto_all : (n : ℕ) (u : ℕ) → u ≡ length rows → Upto n → u ≤ n → true ≡ every_numbered test rows
  upto_all n m used u h =
      sym
      (T_true (every_numbered test rows)
      (every_by test rows d (λ k l. u.passed k (omega (arith, used, h)))))

  -- A pass through the first w rows, where all others are rows of zeros.
  module _ (w : ℕ) (few : w ≤ length rows) where
    pub whole_broken : (n : ℕ) (b : Bool) → n < w → b ≡ test n (get_or rows n d) → not b ≡ true → false ≡ every_numbered test rows
    whole_broken n b h e broken = upto_broken n b (length rows) refl (omega (arith, few, h)) e broken

    pub whole_next : (n : ℕ) (b : Bool) → Upto n → n < w → b ≡ test n (get_or rows n d) → not b ≡ false → Upto (n + 1)
    whole_next n b u h e held = upto_next n b (length rows) refl u (omega (arith, few, h)) e held

    module _ (zeros-from : (k : ℕ) → w ≤ k → get_or rows k d ≡ d) (n : ℕ) (all : w ≤ n) where
      pub upto_inside : Upto n → ((k : ℕ) → n ≤ k → T (test k d)) → true ≡ every_numbered test rows
      upto_inside u held =
          sym
          (T_true (every_numbered test rows)
          (every_by test rows d
          (λ k l.
          elim (lt_eq_gt k n) [
            | inl low ↦ u.passed k low
            | inr (inl here) ↦ rw (zeros-from k (omega (arith, all, here))) (held k (omega arith))
            | inr (inr high) ↦ rw (zeros-from k (omega (arith, all, high))) (held k (omega (arith, high)))
          ])))

      -- if n is 0, the first row is a row of zeros and breaks its rules, unless no row is in use
      pub none_inside : n ≤ 0 → test 0 d ≡ false → (u : ℕ) → u ≡ length rows → (b : Bool) → b ≡ eqb u 0 → b ≡ every_numbered test rows
      none_inside first broken m used b e =
          elim (eq_or_ne m 0) [
            | inl empty ↦ e ∙ rw (eq-eqb m 0 empty) (upto_all 0 m used upto_none (omega arith))
            | inr some ↦
                e
                ∙ rw (ne_eqb m 0 some)
                (upto_broken 0 false m used (omega (arith, some)) (sym broken ∙ ap (test 0) (sym (zeros-from 0 (omega (arith, all, first))))) refl)
          ]

-- Rows that each pass a test and ascend by a key.
module _ {A : Type 0} (rows : List A) (d : A) (rules : A → Bool) (key : A → List ℕ) where
  -- n rows were passed; `last` is the last of them, and at first the row of zeros. The question about all rows has the same
  -- answer as the question about the rows from n on, which must also come after `last`.
  pub record Ascends (n : ℕ) (last : A) : Type 0 where
    pub inside : n ≤ length rows
    pub same_question : (every rules rows && ascending key rows)
        ≡ (every rules (drop n rows) && ascending key (last ∷ drop n rows))

  next : (n : ℕ) (x : A) → n < length rows → x ≡ get_or rows n d → drop n rows ≡ x ∷ drop (suc n) rows
  next n x h e = drop-cons rows n d h ∙ ap (λ (y : A). y ∷ drop (suc n) rows) (sym e)

  -- A row that holds its rules comes after the row of zeros. So the first row, which has no row before it, may be tested
  -- like the others.
  after_zeros : ((x : A) → rules x ≡ true → before (key d) (key x) ≡ true)
      → (xs : List A)
      → (every rules xs && ascending key xs) ≡ (every rules xs && ascending key (d ∷ xs))
  unfolding ascending
  after_zeros low [] = refl
  after_zeros low (x ∷ xs) = elim (two (rules x)) [ inl holds ↦ rw (low x holds) | inr breaks ↦ rw breaks ]

  pub ascends_none : (last : A) → ((x : A) → rules x ≡ true → before (key d) (key x) ≡ true) → last ≡ d → Ascends 0 last
  ascends_none last low e = record { inside = omega arith; same_question = rw e (after_zeros low rows) }

  -- c is the answer about the order, b the answer about the rules
  module _ (n : ℕ) (last x : A) (a : Ascends n last) (u : ℕ) (used : u ≡ length rows) (h : n < u) (e : x ≡ get_or rows n d) where
    pub ascends_other : (c : Bool)
        → c ≡ before (key last) (key x)
        → not c ≡ true
        → false ≡ (every rules rows && ascending key rows)
    unfolding ascending
    ascends_other c l other =
        rw (a.same_question, next n x (omega (arith, used, h)) e, ← l, not-true c other)
        (sym (and-false (rules x && every rules (drop (suc n) rows))))

    pub ascends_broken : (b : Bool)
        → b ≡ rules x
        → not b ≡ true
        → false ≡ (every rules rows && ascending key rows)
    ascends_broken b r broken = rw (a.same_question, next n x (omega (arith, used, h)) e, ← r, not-true b broken)

    pub ascends_next : (c : Bool)
        → c ≡ before (key last) (key x)
        → not c ≡ false
        → (b : Bool)
        → b ≡ rules x
        → not b ≡ false
        → Ascends (n + 1) x
    unfolding ascending
    ascends_next c l after b r held =
        let one : n + 1 ≡ suc n = omega arith in
        rw one
        (record {
          inside = omega (arith, used, h);
          same_question = a.same_question ∙ rw (next n x (omega (arith, used, h)) e, ← r, not-false b held, ← l, not-false c after);
        })

  pub ascends_all : (n : ℕ) (last : A) (u : ℕ)
      → u ≡ length rows
      → Ascends n last
      → u ≤ n
      → true ≡ (every rules rows && ascending key rows)
  unfolding ascending
  ascends_all n last u used a h =
      rw (a.same_question, drop_of_length-le rows {i = n} (omega (arith, used, h)))

-- No bytes are read as the row of zeros.

field_none : (k at : ℕ) → field_at k [] at ≡ 0
unfolding field_at
field_none k at = rw (drop-nil {A = ℕ} at, take-nil {A = ℕ} k) (go (leb (at + k) 0))
  where
    go : (b : Bool) → ◌≡◌ {A = ℕ} (cond b 0 0) 0
    go true = refl
    go false = refl

fields_none : (ws : List ℕ) (at : ℕ) → fields_at ws [] at ≡ replicate (length ws) 0
fields_none [] at = refl
fields_none (w ∷ ws) at = rw (field_none w at, fields_none ws (at + w))

pub none_read : {A : Type 0} (f : Format A) (x : A) → x ≡ row_of f [] → x ≡ zero_row f
none_read f x read = read ∙ ap f.row (fields_none f.widths 0)

-- Laws of sorted tables, for any row type and key: what a search answers, in an ascending table and by halving in any; what it
-- finds after a row is put or cut; the length, the order and the facts about every row afterwards; and the new table as the rows
-- before the insertion index and those from it on. The laws about rows are proved by the three cases of `order`: the first row's
-- key is lower than the one sought, equal to it, or higher. None of them unfolds `search`: it is first turned into the plain row
-- and the plain count (`find_plain`, `index_counts`).
use Rattle.std.proofs.Math.Bool.{true, false≢true}
use Rattle.std.specs.Prelude.{false, ◌||◌, ◌≢◌, ◌≡◌, ltb, take, drop, None, Option, Some, slice_get}
use Rattle.std.proofs.lemmas.Option.{none-some}
use mathlib.Core.List.{List, [], ◌∷◌, ◌++◌}
use Rattle.std.proofs.Math.Logic.{inl, inr}
use Rattle.std.proofs.Math.Path.{refl}
use Rattle.std.proofs.Common.{sym, ap, ◌∙◌, ltb→lt, length-append, length-take, length-drop}
use Prim.Native.Nat.{ℕ, zero, suc, ◌-◌, ◌<◌, ◌≤◌}
use Rattle.std.proofs.Math.Nat.{suc-le-suc_iff}
use native.Mathlib.Omega.{arith}
use borrow.Author.Tests.{lt-ltb, le-ltb, ltb-true, ltb-false}
use Rattle.std.proofs.Math.Dec.{T, leb-suc-suc}
use Rattle.std.proofs.Math.ListN.{length}
use Rattle.std.specs.List.{AllByRecursion}
use Rattle.model.specs.Lists.{if_there, is_there}
use Rattle.model.specs.Sorted.{before, same, Found, found, middle}
use Rattle.model.specs.Sorted.{ascending, row_with, count_lower, lower_at, same_at, halve, search, find_row}
use Rattle.model.specs.Sorted.{insertion_index, put, cut}
use Rattle.laws.specs.Tests.{T_true, true_T, and_i, and_l, and_r, two, all_map, all_index}
use Rattle.laws.specs.KeyOrder.{before_self, same_self, order, same_is, not_same, before_not_after, before_trans, middle_within}
use Rattle.laws.specs.KeyOrder.Order.{lower, equal, higher}

-- A fact about a row that may be missing.
abbrev pub IfSome : {A : Type 0} → (A → Type 0) → Option A → Type 0
IfSome P None = Unit
IfSome P (Some r) = P r

module _ {A : Type 0} (key : A → List ℕ) where
  -- An ascending table: the first row's key is lower than every other, and the rest is ascending.

  abbrev pub Above : List ℕ → List A → Type 0
  Above k xs = AllByRecursion (λ y. before k (key y) ≡ true) xs

  pub above_lower : (k l : List ℕ) (xs : List A) → before k l ≡ true → Above l xs → Above k xs
  above_lower k l xs e a = all_map (λ y f. before_trans k l (key y) e f) xs a

  pub ascending_cons : (x : A) (xs : List A) → Above (key x) xs → T (ascending key xs) → T (ascending key (x ∷ xs))
  unfolding ascending
  ascending_cons x [] a t = tt
  ascending_cons x (y ∷ ys) a t = and_i (before (key x) (key y)) (ascending key (y ∷ ys)) (true_T (before (key x) (key y)) a.0) t

  pub ascending_tail : (x : A) (xs : List A) → T (ascending key (x ∷ xs)) → T (ascending key xs)
  unfolding ascending
  ascending_tail x [] t = tt
  ascending_tail x (y ∷ ys) t = and_r (before (key x) (key y)) (ascending key (y ∷ ys)) t

  pub ascending_above : (x : A) (xs : List A) → T (ascending key (x ∷ xs)) → Above (key x) xs
  unfolding ascending
  ascending_above x [] t = tt
  ascending_above x (y ∷ ys) t =
      let e : before (key x) (key y) ≡ true = T_true (before (key x) (key y)) (and_l (before (key x) (key y)) (ascending key (y ∷ ys)) t) in
      (e, above_lower (key x) (key y) ys e (ascending_above y ys (and_r (before (key x) (key y)) (ascending key (y ∷ ys)) t)))

  -- Facts about every row.

  module _ (P : A → Type 0) where
    pub all_put : (r : A) (xs : List A) → P r → AllByRecursion P xs → AllByRecursion P (put key r xs)
    unfolding put
    all_put r [] p a = (p, tt)
    all_put r (x ∷ xs) p a =
        elim (order (key x) (key r)) [
          | lower e f g ↦ rw e (a.0, all_put r xs p a.1)
          | equal e f g ↦ rw (f, g) (p, a.1)
          | higher e f g ↦ rw (f, g) (p, a)
        ]

    pub all_cut : (k : List ℕ) (xs : List A) → AllByRecursion P xs → AllByRecursion P (cut key k xs)
    unfolding cut
    all_cut k [] a = tt
    all_cut k (x ∷ xs) a =
        elim (order (key x) k) [
          | lower e f g ↦ rw e (a.0, all_cut k xs a.1)
          | equal e f g ↦ rw (f, g) a.1
          | higher e f g ↦ rw (f, g) a
        ]

  -- Putting and cutting keep a table ascending.

  pub ascending_put : (r : A) (xs : List A) → T (ascending key xs) → T (ascending key (put key r xs))
  unfolding put
  ascending_put r [] t = ascending_cons r [] tt t
  ascending_put r (x ∷ xs) t =
      let a : Above (key x) xs = ascending_above x xs t in
      let s : T (ascending key xs) = ascending_tail x xs t in
      elim (order (key x) (key r)) [
        | lower e f g ↦
            rw e (ascending_cons x (put key r xs) (all_put (λ y. before (key x) (key y) ≡ true) r xs e a) (ascending_put r xs s))
        | equal e f g ↦ rw (f, g) (ascending_cons r xs (rw e at a) s)
        | higher e f g ↦ rw (f, g) (ascending_cons r (x ∷ xs) (e, above_lower (key r) (key x) xs e a) t)
      ]

  pub ascending_cut : (k : List ℕ) (xs : List A) → T (ascending key xs) → T (ascending key (cut key k xs))
  unfolding cut
  ascending_cut k [] t = t
  ascending_cut k (x ∷ xs) t =
      let a : Above (key x) xs = ascending_above x xs t in
      let s : T (ascending key xs) = ascending_tail x xs t in
      elim (order (key x) k) [
        | lower e f g ↦ rw e (ascending_cons x (cut key k xs) (all_cut (λ y. before (key x) (key y) ≡ true) k xs a) (ascending_cut k xs s))
        | equal e f g ↦ rw (f, g) s
        | higher e f g ↦ rw (f, g) t
      ]

  -- The row with a key.

  row_above : (k : List ℕ) (xs : List A) → Above k xs → row_with key k xs ≡ None
  row_above k [] a = refl
  row_above k (x ∷ xs) a =
      elim (order (key x) k) [
        | lower e f g ↦ cc a.0
        | equal e f g ↦ cc (a.0, before_self k)
        | higher e f g ↦ rw g (row_above k xs a.1)
      ]

  -- it is one of the rows, and has the key; if there is none, no row has it
  pub row_there : (k : List ℕ) (xs : List A) (r : A)
      → row_with key k xs ≡ Some r
      → ((n : ℕ) × (slice_get xs n ≡ Some r)) × (key r ≡ k)
  row_there k [] r e = absurd (none-some r e)
  row_there k (x ∷ xs) r e =
      elim (order (key x) k) [
        | lower a b c ↦ let rest = row_there k xs r (rw c at e) in ((suc rest.0.0, rest.0.1), rest.1)
        | equal a b c ↦ ((0, rw c at e), cc (rw c at e))
        | higher a b c ↦ let rest = row_there k xs r (rw c at e) in ((suc rest.0.0, rest.0.1), rest.1)
      ]

  pub row_none : (k : List ℕ) (xs : List A) (n : ℕ) (r : A) → row_with key k xs ≡ None → slice_get xs n ≡ Some r → key r ≢ k
  row_none k [] n r e at h = none-some r at
  row_none k (x ∷ xs) zero r e at h =
      let first : key x ≡ k = cc in
      let hit : Some x ≡ None = rw (first, same_self k) at e in
      none-some x (sym hit)
  row_none k (x ∷ xs) (suc n) r e at h =
      elim (two (same (key x) k)) [
        | inl hit ↦ none-some x (sym (rw hit at e))
        | inr miss ↦ row_none k xs n r (rw miss at e) at h
      ]

  -- in an ascending table a row is the only one with its key
  pub row_only : (xs : List A) (n : ℕ) (r : A)
      → T (ascending key xs)
      → slice_get xs n ≡ Some r
      → row_with key (key r) xs ≡ Some r
  row_only [] n r up at = absurd (none-some r at)
  row_only (x ∷ xs) zero r up at = let is : x ≡ r = cc in rw (is, same_self (key r))
  row_only (x ∷ xs) (suc n) r up at =
      let higher_key : before (key x) (key r) ≡ true =
      all_index (λ y. before (key x) (key y) ≡ true) xs n r (ascending_above x xs up) at in
      elim (order (key x) (key r)) [
        | lower a b c ↦ rw c (row_only xs n r (ascending_tail x xs up) at)
        | equal a b c ↦ absurd (false≢true (sym b ∙ higher_key))
        | higher a b c ↦ absurd (false≢true (sym b ∙ higher_key))
      ]

  -- putting or cutting another row does not change it

  row_put_other : (r : A) (xs : List A) (k : List ℕ) → key r ≢ k → row_with key k (put key r xs) ≡ row_with key k xs
  unfolding put
  row_put_other r [] k d = rw (not_same (key r) k d)
  row_put_other r (x ∷ xs) k d =
      elim (order (key x) (key r)) [
        | lower e f g ↦ rw (e, row_put_other r xs k d)
        | equal e f g ↦ rw (f, g, e, not_same (key r) k d)
        | higher e f g ↦ rw (f, g, not_same (key r) k d)
      ]

  row_cut_other : (k : List ℕ) (xs : List A) (l : List ℕ) → k ≢ l → row_with key l (cut key k xs) ≡ row_with key l xs
  unfolding cut
  row_cut_other k [] l d = refl
  row_cut_other k (x ∷ xs) l d =
      elim (order (key x) k) [
        | lower e f g ↦ rw (e, row_cut_other k xs l d)
        | equal e f g ↦ rw (f, g, e, not_same k l d)
        | higher e f g ↦ rw (f, g)
      ]

  -- The number of rows with a lower key.

  count_le : (k : List ℕ) (xs : List A) → count_lower key k xs ≤ length xs
  count_le k [] = omega arith
  count_le k (x ∷ xs) =
      let ih : count_lower key k xs ≤ length xs = count_le k xs in
      elim (two (before (key x) k)) [ inl e ↦ rw e (omega arith) | inr e ↦ rw e (omega arith) ]

  count_above : (k : List ℕ) (xs : List A) → Above k xs → count_lower key k xs ≡ 0
  count_above k [] a = refl
  count_above k (x ∷ xs) a = rw (before_not_after k (key x) a.0) (count_above k xs a.1)

  -- Of an ascending table, split at the first row: either its key is lower, or it has the key, or neither it nor any other has
  -- the key. In the last two cases no row is lower.
  data Split (k : List ℕ) (x : A) (xs : List A) : Type 0 where
    behind : before (key x) k ≡ true → same (key x) k ≡ false → Split k x xs
    here : key x ≡ k → before (key x) k ≡ false → same (key x) k ≡ true → count_lower key k xs ≡ 0 → row_with key k xs ≡ None → Split k x xs
    nowhere : before (key x) k ≡ false → same (key x) k ≡ false → count_lower key k xs ≡ 0 → row_with key k xs ≡ None → Split k x xs

  split : (k : List ℕ) (x : A) (xs : List A) → T (ascending key (x ∷ xs)) → Split k x xs
  split k x xs up =
      let above : Above (key x) xs = ascending_above x xs up in
      elim (order (key x) k) [
        | lower e f g ↦ Split.behind e g
        | equal e f g ↦ Split.here e f g (count_above k xs (rw e at above)) (row_above k xs (rw e at above))
        | higher e f g ↦
            Split.nowhere f g (count_above k xs (above_lower k (key x) xs e above)) (row_above k xs (above_lower k (key x) xs e above))
      ]

  -- the row with the key is the one behind the rows with lower keys
  row_counted : (k : List ℕ) (xs : List A) (r : A)
      → T (ascending key xs)
      → row_with key k xs ≡ Some r
      → slice_get xs (count_lower key k xs) ≡ Some r
  row_counted k [] r up e = absurd (none-some r e)
  row_counted k (x ∷ xs) r up e =
      elim (split k x xs up) [
        | behind l n ↦ rw l (row_counted k xs r (ascending_tail x xs up) (rw n at e))
        | here i l n z m ↦ rw (l, z) (rw n at e)
        | nowhere l n z m ↦ absurd (none-some r (sym m ∙ (rw n at e)))
      ]

  count_there : (k : List ℕ) (xs : List A) (r : A)
      → T (ascending key xs)
      → row_with key k xs ≡ Some r
      → count_lower key k xs < length xs
  count_there k [] r up e = absurd (none-some r e)
  count_there k (x ∷ xs) r up e =
      elim (split k x xs up) [
        | behind l n ↦ rw l (suc-le-suc_iff.1 (count_there k xs r (ascending_tail x xs up) (rw n at e)))
        | here i l n z m ↦ rw (l, z) (omega arith)
        | nowhere l n z m ↦ absurd (none-some r (sym m ∙ (rw n at e)))
      ]

  -- Halving an ascending table comes to the row with the key and to the number of rows with a lower one. By index, the rows
  -- with lower keys come first, and a row with the key stands right behind them.

  lower_first : (k : List ℕ) (xs : List A) (n : ℕ) → T (ascending key xs) → lower_at key k xs n ≡ ltb n (count_lower key k xs)
  lower_first k [] n up = sym (le-ltb n 0 (omega arith))
  lower_first k (x ∷ xs) zero up =
      elim (split k x xs up) [
        | behind l m ↦ rw l (sym (lt-ltb 0 (suc (count_lower key k xs)) (omega arith)))
        | here i l m z o ↦ rw (l, z)
        | nowhere l m z o ↦ rw (l, z)
      ]
  lower_first k (x ∷ xs) (suc n) up =
      let rest : lower_at key k xs n ≡ ltb n (count_lower key k xs) = lower_first k xs n (ascending_tail x xs up) in
      elim (split k x xs up) [
        | behind l m ↦ rw (l, leb-suc-suc) rest
        | here i l m z o ↦ rw (l, z) (rest ∙ rw (z, le-ltb n 0 (omega arith)) (sym (le-ltb (suc n) 0 (omega arith))))
        | nowhere l m z o ↦ rw (l, z) (rest ∙ rw (z, le-ltb n 0 (omega arith)) (sym (le-ltb (suc n) 0 (omega arith))))
      ]

  hit_next : (k : List ℕ) (xs : List A) (n : ℕ)
      → T (ascending key xs)
      → same_at key k xs n ≡ true
      → (n ≡ count_lower key k xs) × (slice_get xs n ≡ row_with key k xs)
  hit_next k [] n up e = absurd (false≢true e)
  hit_next k (x ∷ xs) zero up e =
      elim (split k x xs up) [
        | behind l m ↦ absurd (false≢true (sym m ∙ e))
        | here i l m z o ↦ rw (l, m, z) (refl, refl)
        | nowhere l m z o ↦ absurd (false≢true (sym m ∙ e))
      ]
  hit_next k (x ∷ xs) (suc n) up e =
      let rest = hit_next k xs n (ascending_tail x xs up) e in
      elim (split k x xs up) [
        | behind l m ↦ rw (l, m) (ap suc rest.0, rest.1)
        | here i l m z o ↦ absurd (false≢true (rw (rest.1, o) at e))
        | nowhere l m z o ↦ absurd (false≢true (rw (rest.1, o) at e))
      ]

  hit_there : (k : List ℕ) (xs : List A) (r : A)
      → T (ascending key xs)
      → row_with key k xs ≡ Some r
      → same_at key k xs (count_lower key k xs) ≡ true
  hit_there k xs r up e = rw (row_counted k xs r up e, (row_there k xs r e).1) (same_self k)

  -- The count is between the two indices, and a row with the key is in front of the second.
  module _ (k : List ℕ) (xs : List A) (up : T (ascending key xs)) where
    ended : (first end : ℕ)
        → first ≤ count_lower key k xs
        → count_lower key k xs ≤ end
        → end ≤ first
        → ((r : A) → row_with key k xs ≡ Some r → count_lower key k xs < end)
        → found first None ≡ found (count_lower key k xs) (row_with key k xs)
    ended first end from to past there = go (row_with key k xs) refl
      where
        go : (o : Option A) → row_with key k xs ≡ o → found first None ≡ found (count_lower key k xs) o
        go None m = let is : first ≡ count_lower key k xs = omega arith in ap (λ (i : ℕ). found i None) is
        go (Some r) m = absurd (omega (arith, there r m))

    halve_comes : (n first end : ℕ)
        → first ≤ count_lower key k xs
        → count_lower key k xs ≤ end
        → end - first ≤ n
        → ((r : A) → row_with key k xs ≡ Some r → count_lower key k xs < end)
        → halve key n k xs first end ≡ found (count_lower key k xs) (row_with key k xs)
    unfolding halve
    halve_comes zero first end from to few there = ended first end from to (omega arith) there
    halve_comes (suc n) first end from to few there =
        elim (two (ltb first end)) [
          | inl e ↦
              let within = middle_within first end (ltb-true first end e) in
              rw (e, lower_first k xs (middle first end) up) (elim (two (ltb (middle first end) (count_lower key k xs))) [
                | inl l ↦
                    let low : middle first end < count_lower key k xs = ltb-true (middle first end) (count_lower key k xs) l in
                    let fewer : end - suc (middle first end) ≤ n = omega (arith, within.0, within.1) in
                    rw l (halve_comes n (suc (middle first end)) end low to fewer there)
                | inr l ↦
                    let high : count_lower key k xs ≤ middle first end = ltb-false (middle first end) (count_lower key k xs) l in
                    let fewer : middle first end - first ≤ n = omega (arith, within.0, within.1) in
                    rw l (elim (two (same_at key k xs (middle first end))) [
                      | inl h ↦ let next = hit_next k xs (middle first end) up h in rw (h, next.1, next.0)
                      | inr h ↦ rw h (halve_comes n first (middle first end) from high fewer (λ r m.
                          let other : middle first end ≡ count_lower key k xs → ⊥ =
                          λ i. false≢true (sym h ∙ (rw i (hit_there k xs r up m))) in
                          omega (arith, high, other)))
                    ])
              ])
          | inr e ↦ rw e (ended first end from to (ltb-false first end e) there)
        ]

  -- What a search answers: in an ascending table the row with the key and the number of rows with a lower one; in any table what
  -- halving comes to.

  search_plain : (k : List ℕ) (xs : List A) → T (ascending key xs) → search key k xs ≡ found (count_lower key k xs) (row_with key k xs)
  unfolding search
  search_plain k xs up = rw (T_true (ascending key xs) up)

  pub find_plain : (k : List ℕ) (xs : List A) → T (ascending key xs) → find_row key k xs ≡ row_with key k xs
  find_plain k xs up = ap (λ (f : Found A). f.row) (search_plain k xs up)

  pub index_counts : (k : List ℕ) (xs : List A) → T (ascending key xs) → insertion_index key k xs ≡ count_lower key k xs
  index_counts k xs up = ap (λ (f : Found A). f.index) (search_plain k xs up)

  pub search_halves : (k : List ℕ) (xs : List A) → search key k xs ≡ halve key (length xs) k xs 0 (length xs)
  unfolding search
  search_halves k xs =
      elim (two (ascending key xs)) [
        | inl e ↦
            let up : T (ascending key xs) = true_T (ascending key xs) e in
            rw e (sym (halve_comes k xs up (length xs) 0 (length xs) (omega arith) (count_le k xs) (omega arith) (λ r m.
            count_there k xs r up m)))
        | inr e ↦ rw e
      ]

  -- a found row has the key, and what holds of every row holds of it; in any table
  module _ (P : A → Type 0) (k : List ℕ) (xs : List A) (all : AllByRecursion P xs) where
    all_hit : (n : ℕ) (o : Option A) → slice_get xs n ≡ o → if_there (λ x. same (key x) k) o ≡ true → IfSome (λ r. P r × (key r ≡ k)) o
    all_hit n None at hit = tt
    all_hit n (Some r) at hit = (all_index P xs n r all at, same_is (key r) k hit)

    all_halve : (n first end : ℕ) → IfSome (λ r. P r × (key r ≡ k)) (halve key n k xs first end).row
    unfolding halve
    all_halve zero first end = tt
    all_halve (suc n) first end =
        elim (two (ltb first end)) [
          | inl e ↦ rw e (elim (two (lower_at key k xs (middle first end))) [
            | inl l ↦ rw l (all_halve n (suc (middle first end)) end)
            | inr l ↦ rw l (elim (two (same_at key k xs (middle first end))) [
              | inl h ↦ rw h (all_hit (middle first end) (slice_get xs (middle first end)) refl h)
              | inr h ↦ rw h (all_halve n first (middle first end))
            ])
          ])
          | inr e ↦ rw e tt
        ]

    pub all_find : IfSome (λ r. P r × (key r ≡ k)) (find_row key k xs)
    all_find = rw (ap (λ (f : Found A). f.row) (search_halves k xs)) (all_halve (length xs) 0 (length xs))

  pub find_put_other : (r : A) (xs : List A) (k : List ℕ) → T (ascending key xs)
      → key r ≢ k
      → find_row key k (put key r xs) ≡ find_row key k xs
  find_put_other r xs k up d =
      find_plain k (put key r xs) (ascending_put r xs up) ∙ row_put_other r xs k d ∙ sym (find_plain k xs up)

  pub find_cut_other : (k : List ℕ) (xs : List A) (l : List ℕ) → T (ascending key xs)
      → k ≢ l
      → find_row key l (cut key k xs) ≡ find_row key l xs
  find_cut_other k xs l up d =
      find_plain l (cut key k xs) (ascending_cut k xs up) ∙ row_cut_other k xs l d ∙ sym (find_plain l xs up)

  pub index_le : (k : List ℕ) (xs : List A) → T (ascending key xs) → insertion_index key k xs ≤ length xs
  index_le k xs up = rw (index_counts k xs up) (count_le k xs)

  pub found_index : (k : List ℕ) (xs : List A) (r : A)
      → T (ascending key xs)
      → find_row key k xs ≡ Some r
      → insertion_index key k xs < length xs
  found_index k xs r up h = rw (index_counts k xs up) (count_there k xs r up (sym (find_plain k xs up) ∙ h))

  -- Putting and cutting at the insertion index, in an ascending table.

  counted_new : (r : A) (xs : List A) → T (ascending key xs) → row_with key (key r) xs ≡ None
      → put key r xs ≡ take (count_lower key (key r) xs) xs ++ r ∷ drop (count_lower key (key r) xs) xs
  unfolding put
  counted_new r [] up h = refl
  counted_new r (x ∷ xs) up h =
      elim (split (key r) x xs up) [
        | behind l m ↦ rw l (ap (λ (ys : List A). x ∷ ys) (counted_new r xs (ascending_tail x xs up) (rw m at h)))
        | here i l m z o ↦ absurd (none-some x (sym (rw m at h)))
        | nowhere l m z o ↦ rw (l, m, z)
      ]

  counted_over : (r : A) (xs : List A) (y : A) → T (ascending key xs) → row_with key (key r) xs ≡ Some y
      → put key r xs ≡ take (count_lower key (key r) xs) xs ++ r ∷ drop (suc (count_lower key (key r) xs)) xs
  unfolding put
  counted_over r [] y up h = refl
  counted_over r (x ∷ xs) y up h =
      elim (split (key r) x xs up) [
        | behind l m ↦ rw l (ap (λ (ys : List A). x ∷ ys) (counted_over r xs y (ascending_tail x xs up) (rw m at h)))
        | here i l m z o ↦ rw (l, m, z)
        | nowhere l m z o ↦ absurd (none-some y (sym o ∙ (rw m at h)))
      ]

  counted_cut : (k : List ℕ) (xs : List A) (y : A) → T (ascending key xs) → row_with key k xs ≡ Some y
      → cut key k xs ≡ take (count_lower key k xs) xs ++ drop (suc (count_lower key k xs)) xs
  unfolding cut
  counted_cut k [] y up h = refl
  counted_cut k (x ∷ xs) y up h =
      elim (split k x xs up) [
        | behind l m ↦ rw l (ap (λ (ys : List A). x ∷ ys) (counted_cut k xs y (ascending_tail x xs up) (rw m at h)))
        | here i l m z o ↦ rw (l, m, z)
        | nowhere l m z o ↦ absurd (none-some y (sym o ∙ (rw m at h)))
      ]

  pub put_new : (r : A) (xs : List A) → T (ascending key xs) → find_row key (key r) xs ≡ None
      → put key r xs ≡ take (insertion_index key (key r) xs) xs ++ r ∷ drop (insertion_index key (key r) xs) xs
  put_new r xs up h = rw (index_counts (key r) xs up) (counted_new r xs up (sym (find_plain (key r) xs up) ∙ h))

  pub put_over : (r : A) (xs : List A) (y : A) → T (ascending key xs) → find_row key (key r) xs ≡ Some y
      → put key r xs ≡ take (insertion_index key (key r) xs) xs ++ r ∷ drop (suc (insertion_index key (key r) xs)) xs
  put_over r xs y up h = rw (index_counts (key r) xs up) (counted_over r xs y up (sym (find_plain (key r) xs up) ∙ h))

  pub cut_found : (k : List ℕ) (xs : List A) (y : A) → T (ascending key xs) → find_row key k xs ≡ Some y
      → cut key k xs ≡ take (insertion_index key k xs) xs ++ drop (suc (insertion_index key k xs)) xs
  cut_found k xs y up h = rw (index_counts k xs up) (counted_cut k xs y up (sym (find_plain k xs up) ∙ h))

  -- The length afterwards.

  length_put_new : (r : A) (xs : List A) → T (ascending key xs) → find_row key (key r) xs ≡ None → length (put key r xs) ≡ suc (length xs)
  length_put_new r xs up h =
      rw (put_new r xs up h) (simp (length-append, length-take, length-drop) (omega (arith, index_le (key r) xs up)))

  length_put_over : (r : A) (xs : List A) (y : A)
      → T (ascending key xs)
      → find_row key (key r) xs ≡ Some y
      → length (put key r xs) ≡ length xs
  length_put_over r xs y up h =
      rw (put_over r xs y up h) (simp (length-append, length-take, length-drop) (omega (arith, found_index (key r) xs y up h)))

  pub length_cut_le : (k : List ℕ) (xs : List A) → length (cut key k xs) ≤ length xs
  unfolding cut
  length_cut_le k [] = omega arith
  length_cut_le k (x ∷ xs) =
      let ih : length (cut key k xs) ≤ length xs = length_cut_le k xs in
      elim (order (key x) k) [
        | lower e f g ↦ rw e (omega arith)
        | equal e f g ↦ rw (f, g) (omega arith)
        | higher e f g ↦ rw (f, g) (omega arith)
      ]

  -- if the table has a row with the key already or has a free row, it is within its capacity after the put
  pub put_fits : (r : A) (xs : List A) (cap : ℕ)
      → T (ascending key xs)
      → length xs ≤ cap
      → T (is_there (find_row key (key r) xs) || ltb (length xs) cap)
      → length (put key r xs) ≤ cap
  put_fits r xs cap up h t = go (find_row key (key r) xs) refl t
    where
      go : (o : Option A) → find_row key (key r) xs ≡ o → T (is_there o || ltb (length xs) cap) → length (put key r xs) ≤ cap
      go None e u = omega (arith, length_put_new r xs up e, ltb→lt (length xs) cap u)
      go (Some y) e u = omega (arith, length_put_over r xs y up e)

-- The rows of one list stand together, because lines ascend by their list first. They start at the insertion index of the
-- list's lowest key, and end before that of a key beyond them.
use Rattle.std.specs.Prelude.{Bool, false, ◌||◌, List, [], ◌∷◌, ◌≡◌, refl, ℕ, ◌+◌, ◌≤◌, T, eqb, ltb, length}
use Rattle.std.proofs.Math.Bool.{or-false, and-false, and-true}
use Rattle.std.proofs.Common.{inl, inr, ap, ◌∙◌, arith, lt-ltb, le-ltb, eq-eqb, ne_eqb}
use Rattle.model.specs.declared.LineRow.{LineRow}
use Rattle.std.specs.List.{AllByRecursion}
use Rattle.model.specs.Lists.{select}
use Rattle.model.specs.Sorted.{before, ascending, count_lower, insertion_index}
use Rattle.model.specs.Image.{line_key, everyone_kind}
use Rattle.model.specs.Calls.{rows_of, rows_before}
use Rattle.laws.specs.Tests.{lt_eq_gt}
use Rattle.laws.specs.Sorted.{index_counts}

-- the lowest key that a line of list a can have
abbrev pub lowest : ℕ → List ℕ
lowest a = a ∷ 0 ∷ 0 ∷ []

-- a key higher than those of all lines of list a, and lower than those of the next list's: there is no such kind
abbrev pub beyond : ℕ → List ℕ
beyond a = a ∷ 4 ∷ 0 ∷ []

none_lower : (k s : ℕ) → before (k ∷ s ∷ []) (0 ∷ 0 ∷ []) ≡ false
none_lower k s = rw (le-ltb k 0 (omega arith), le-ltb s 0 (omega arith), and-false, and-false)

lower_list : (l : LineRow) (a : ℕ) → before (line_key l) (lowest a) ≡ ltb l.list.0 a
lower_list l a = rw (none_lower l.kind l.subject.0, and-false) (or-false (ltb l.list.0 a))

select_same : {A : Type 0} (p q : A → Bool) → ((x : A) → p x ≡ q x) → (xs : List A) → select p xs ≡ select q xs
select_same p q e [] = refl
select_same p q e (x ∷ xs) = rw (e x, select_same p q e xs)

pub run_begins : (a : ℕ) (rows : List LineRow) → T (ascending line_key rows)
    → insertion_index line_key (lowest a) rows ≡ length (rows_before a rows)
run_begins a rows up =
    index_counts line_key (lowest a) rows up
    ∙ ap length
    (select_same (λ (l : LineRow). before (line_key l) (lowest a)) (λ (l : LineRow). ltb l.list.0 a)
    (λ (l : LineRow). lower_list l a) rows)

-- a line of one of the kinds is in front of the key beyond a list if it names that list or a lower one
up_to_list : (l : LineRow) (a : ℕ) → l.kind ≤ everyone_kind → before (line_key l) (beyond a) ≡ (ltb l.list.0 a || eqb l.list.0 a)
up_to_list l a h = rw (lt-ltb l.kind 4 (omega arith), and-true)

counted : (a : ℕ) (rows : List LineRow) → AllByRecursion (λ l. l.kind ≤ everyone_kind) rows
    → count_lower line_key (beyond a) rows ≡ length (rows_before a rows) + length (rows_of a rows)
counted a [] kinds = refl
counted a (x ∷ xs) kinds =
    let rest : count_lower line_key (beyond a) xs ≡ length (rows_before a xs) + length (rows_of a xs) = counted a xs kinds.1 in
    rw (up_to_list x a kinds.0) (elim (lt_eq_gt x.list.0 a) [
      | inl low ↦ rw (lt-ltb x.list.0 a low, ne_eqb x.list.0 a (omega arith)) (omega arith)
      | inr (inl same) ↦ rw (le-ltb x.list.0 a (omega arith), eq-eqb x.list.0 a same) (omega arith)
      | inr (inr high) ↦ rw (le-ltb x.list.0 a (omega arith), ne_eqb x.list.0 a (omega arith)) rest
    ])

pub run_ends : (a : ℕ) (rows : List LineRow) → T (ascending line_key rows) → AllByRecursion (λ l. l.kind ≤ everyone_kind) rows
    → insertion_index line_key (beyond a) rows ≡ length (rows_before a rows) + length (rows_of a rows)
run_ends a rows up kinds = index_counts line_key (beyond a) rows up ∙ counted a rows kinds

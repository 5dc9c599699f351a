-- The rules of one row, as the code tests them: on rows that it has read, and on sets that a callee answered.
use Rattle.std.specs.Prelude.{Bool, true, List, [], ◌∷◌, ◌≡◌, T, eqb, get_or}
use Rattle.std.proofs.Math.Bool.{and-false}
use Rattle.std.proofs.lemmas.Bool.{false≢true}
use Rattle.std.proofs.Common.{inl, inr, ap, arith, lt-ltb}
use Prim.Native.Nat.{ℕ, zero, suc, ◌+◌, ◌<◌, ◌≤◌}
use Rattle.std.specs.Int.Bits.{and_zero_l}
use Rattle.std.proofs.Math.Dec.{ltb}
use Rattle.model.specs.declared.SubjectRow.{SubjectRow}
use Rattle.model.specs.declared.GrantRow.{GrantRow}
use Rattle.model.specs.declared.LineRow.{LineRow}
use Rattle.model.specs.declared.ItemRow.{ItemRow}
use Rattle.model.specs.Sorted.{before}
use Rattle.model.specs.WhoAndWhat.{within}
use Rattle.model.specs.Image.{Tables, privileges_in}
use Rattle.model.specs.Image.{no_subject, item_in, no_item, no_line, no_grant, line_key, grant_key}
use Rattle.model.specs.Image.{subject_rules, item_rules, line_rules, grant_rules}
use Rattle.laws.specs.Tests.{eq_or_ne, and_i, true_T}

none_within : (p : ℕ) → within 0 p ≡ true
none_within p = ap (λ (x : ℕ). eqb x 0) (and_zero_l p)

-- a row of zeros holds the rules of every subject but the custodian
pub zeros_hold : (w : ℕ) (rows : List SubjectRow) (n : ℕ) → 0 < n → (k : ℕ) → n ≤ k → T (subject_rules w rows k no_subject)
zeros_hold w rows n some zero h = absurd (omega (arith, some, h))
zeros_hold w rows n some (suc k) h =
    let low : T (ltb 0 (suc k)) = true_T (ltb 0 (suc k)) (lt-ltb 0 (suc k) (omega arith)) in
    let held : T (within 0 (privileges_in rows 0)) = true_T (within 0 (privileges_in rows 0)) (none_within (privileges_in rows 0)) in
    and_i (ltb 0 (suc k)) _ low (and_i (ltb 0 (suc k)) _ low (and_i (within 0 (privileges_in rows 0)) true held tt))

-- Items: item n + 1 is the row with index n.

pub item_next : (subjects : List SubjectRow) (items : List ItemRow) (n : ℕ) (b : Bool)
    → b ≡ item_rules subjects items (n + 1) (item_in items (n + 1))
    → b ≡ item_rules subjects items (suc n) (get_or items n no_item)
item_next subjects items n b r =
    let one : n + 1 ≡ suc n = omega arith in
    rw one at r

-- A line and a grant that hold their rules come after the row of zeros.

zero_lower : (n : ℕ) (k l : List ℕ) → (n ≡ 0 → ⊥) → before (0 ∷ k) (n ∷ l) ≡ true
zero_lower n k l h = rw (lt-ltb 0 n (omega arith))

zero_first : (n : ℕ) (k l : List ℕ) → before k l ≡ true → before (0 ∷ k) (n ∷ l) ≡ true
zero_first n k l e = elim (eq_or_ne n 0) [ inl z ↦ rw (z, e) | inr h ↦ zero_lower n k l h ]

pub line_follows : (t : Tables) (x : LineRow) → line_rules t.subjects t.items x ≡ true → before (line_key no_line) (line_key x) ≡ true
line_follows t x r =
    zero_lower x.list.0 (0 ∷ 0 ∷ []) (x.kind ∷ x.subject.0 ∷ []) (λ z. false≢true (rw z at r))

pub grant_follows : (t : Tables) (x : GrantRow) → grant_rules t.subjects x ≡ true → before (grant_key no_grant) (grant_key x) ≡ true
grant_follows t x r =
    zero_first x.receiver.0 (0 ∷ []) (x.role.0 ∷ [])
    (zero_lower x.role.0 [] [] (λ z. false≢true (rw (z, and-false) at r)))

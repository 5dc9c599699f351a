-- Rows by number, after a row is added at the end or replaced: the other numbers keep their rows, and the old subjects are in
-- the same trees as before.
use Rattle.std.specs.Prelude.{List, [], ◌∷◌, ◌++◌, ◌≢◌, ◌≡◌, refl, ℕ, zero, suc, ◌<◌, T, length}
use Rattle.std.proofs.Common.{ap, arith, ltb→lt, lt→ltb, length-append, length-set, get_or-set_same, get_or-set_other}
use Rattle.std.proofs.Math.ListN.{get_or-append}
use Rattle.model.specs.declared.SubjectRow.{SubjectRow}
use Rattle.model.specs.declared.ItemRow.{ItemRow}
use Rattle.model.specs.Tree.{in_tree}
use Rattle.model.specs.Image.{no_subject, no_item, subject_in, parent_in, privileges_in, subject_used, item_in, item_used}
use Rattle.model.specs.Calls.{set_item}
use Rattle.laws.specs.Tree.{tree_same}

-- one subject more
module _ (old : List SubjectRow) (r : SubjectRow) where
  pub subject_same : (s : ℕ) → s < length old → subject_in (old ++ r ∷ []) s ≡ subject_in old s
  subject_same s h = get_or-append old (r ∷ []) no_subject s h

  pub parent_same : (s : ℕ) → s < length old → parent_in (old ++ r ∷ []) s ≡ parent_in old s
  parent_same s h = ap (λ (x : SubjectRow). x.parent.0) (subject_same s h)

  pub privileges_same : (s : ℕ) → s < length old → privileges_in (old ++ r ∷ []) s ≡ privileges_in old s
  privileges_same s h = ap (λ (x : SubjectRow). x.privileges) (subject_same s h)

  pub subject_used_lem : (s : ℕ) → T (subject_used old s) → T (subject_used (old ++ r ∷ []) s)
  subject_used_lem s u = rw length-append (omega (arith, ltb→lt, lt→ltb))

  pub old_tree_same : (h s : ℕ) → s < length old → in_tree (parent_in (old ++ r ∷ [])) h s ≡ in_tree (parent_in old) h s
  old_tree_same = tree_same (parent_in (old ++ r ∷ [])) (parent_in old) (length old) parent_same

-- one item more
pub item_same : (old : List ItemRow) (r : ItemRow) (i : ℕ) → T (item_used old i) → item_in (old ++ r ∷ []) i ≡ item_in old i
item_same old r zero u = refl
item_same old r (suc n) u = get_or-append old (r ∷ []) no_item n (ltb→lt n (length old) u)

-- the row of item i replaced
pub length_set_item : (old : List ItemRow) (i : ℕ) (r : ItemRow) → length (set_item old i r) ≡ length old
length_set_item old zero r = refl
length_set_item old (suc n) r = length-set old n r

pub item_set : (old : List ItemRow) (i : ℕ) (r : ItemRow) → T (item_used old i) → item_in (set_item old i r) i ≡ r
item_set old zero r u = absurd u
item_set old (suc n) r u = get_or-set_same old n r no_item (ltb→lt n (length old) u)

pub item_other : (old : List ItemRow) (i : ℕ) (r : ItemRow) (j : ℕ) → j ≢ i → item_in (set_item old i r) j ≡ item_in old j
item_other old zero r j d = refl
item_other old (suc n) r zero d = refl
item_other old (suc n) r (suc m) d = get_or-set_other old n m r no_item (omega arith)

-- Laws of folders: what the sets of an item and of the folders that apply to it share. As for a climb, any number
-- of allowed steps that is at least the item's number gives the same, so there is an equation without that number.
use Rattle.std.specs.Prelude.{true, cond, List, ◌≡◌, T, length, Option}
use Rattle.std.proofs.Math.Bool.{and-false}
use Rattle.std.proofs.Math.Logic.{inl, inr}
use Rattle.std.proofs.Math.Path.{refl}
use Rattle.std.proofs.Common.{◌∙◌, arith, le-ltb, ltb→lt, lt→ltb}
use Prim.Native.Nat.{ℕ, zero, suc, ◌<◌, ◌≤◌}
use Rattle.model.specs.declared.GrantRow.{GrantRow}
use Rattle.model.specs.declared.ItemRow.{ItemRow}
use Rattle.model.specs.WhoAndWhat.{has, ◌∩◌}
use Rattle.model.specs.Image.{Tables, item_used}
use Rattle.model.specs.Permission.{operation_under, object_under, own_under, applied_folder, leads_up, shared_within}
use Rattle.model.specs.Permission.{shared_up, permission_under}
use Rattle.laws.specs.Tests.{two, true_T, and_l, and_r}
use Rattle.laws.specs.Sets.{has_and, and_shared}

-- where the way goes on, the numbers fall
pub leads_lower : (i f : ℕ) → T (leads_up i f) → f < i
leads_lower i f leads = search (ltb→lt, and_r)

-- and a folder of an item in use is in use
pub folder_used : (items : List ItemRow) (i f : ℕ) → T (item_used items i) → T (leads_up i f) → T (item_used items f)
folder_used items i zero used leads = absurd leads
folder_used items zero (suc k) used leads = absurd used
folder_used items (suc n) (suc k) used leads =
    lt→ltb k (length items) (omega (arith, ltb→lt n (length items) used, leads_lower (suc n) (suc k) leads))

module _ (up set : ℕ → ℕ) where
  shared_enough : (m n i : ℕ) → i ≤ m → i ≤ n → shared_within m up set i ≡ shared_within n up set i
  unfolding shared_within
  shared_enough zero zero i a b = refl
  shared_enough zero (suc n) i a b = rw (le-ltb (up i) i (omega arith), and-false)
  shared_enough (suc m) zero i a b = rw (le-ltb (up i) i (omega arith), and-false)
  shared_enough (suc m) (suc n) i a b =
      elim (two (leads_up i (up i))) [
        | inl e ↦
            let lower : up i < i = leads_lower i (up i) (true_T (leads_up i (up i)) e) in
            rw (e, shared_enough m n (up i) (omega arith) (omega arith))
        | inr e ↦ rw e
      ]

  shared_step : (i : ℕ) → shared_within i up set i ≡ cond (leads_up i (up i)) (set i ∩ shared_within (up i) up set (up i)) (set i)
  unfolding shared_within
  shared_step i =
      shared_enough i (suc i) i (omega arith) (omega arith)
      ∙ elim (two (leads_up i (up i))) [
        | inl e ↦
            let lower : up i < i = leads_lower i (up i) (true_T (leads_up i (up i)) e) in
            rw (e, shared_enough i (up i) (up i) (omega arith) (omega arith))
        | inr e ↦ rw e
      ]

  -- what is shared has only privileges of the item's own set
  shared_own : (k n i : ℕ) → T (has k (shared_within n up set i)) → T (has k (set i))
  unfolding shared_within
  shared_own k zero i h = h
  shared_own k (suc n) i h =
      elim (two (leads_up i (up i))) [
        | inl e ↦ and_l (has k (set i)) _ (rw (e, has_and k (set i) (shared_within n up set (up i))) at h)
        | inr e ↦ rw e at h
      ]

  -- a privilege that all the sets have is shared
  shared_all : (k : ℕ) → ((i : ℕ) → has k (set i) ≡ true) → (n i : ℕ) → has k (shared_within n up set i) ≡ true
  unfolding shared_within
  shared_all k all zero i = all i
  shared_all k all (suc n) i =
      elim (two (leads_up i (up i))) [
        | inl e ↦ rw (e, has_and k (set i) (shared_within n up set (up i)), all i, shared_all k all n (up i))
        | inr e ↦ rw (e, all i)
      ]

  -- to cut each set is to cut what they share
  shared_cut : (c n i : ℕ) → c ∩ shared_within n up set i ≡ shared_within n up (λ j. c ∩ set j) i
  unfolding shared_within
  shared_cut c zero i = refl
  shared_cut c (suc n) i =
      elim (two (leads_up i (up i))) [
        | inl e ↦ rw (e, ← shared_cut c n (up i)) (and_shared c (set i) (shared_within n up set (up i)))
        | inr e ↦ rw e
      ]

-- What is shared is read from the item and the folders that apply. `On` holds of them, and where it holds, steps and sets agree.
module _ (up set up-later set_later : ℕ → ℕ) (On : ℕ → Type 0) (on-up : (i : ℕ) → On i → T (leads_up i (up i)) → On (up i))
    (up_same : (i : ℕ) → On i → up-later i ≡ up i) (set_same : (i : ℕ) → On i → set_later i ≡ set i) where
  pub shared_same : (n i : ℕ) → On i → shared_within n up-later set_later i ≡ shared_within n up set i
  unfolding shared_within
  shared_same zero i on = set_same i on
  shared_same (suc n) i on =
      elim (two (leads_up i (up i))) [
        | inl e ↦ rw (up_same i on, set_same i on, e, shared_same n (up i) (on-up i on (true_T (leads_up i (up i)) e)))
        | inr e ↦ rw (up_same i on, set_same i on, e)
      ]

-- the same of the items of a table
pub shared_on : (items : List ItemRow) (set : ℕ → ℕ) (i : ℕ)
    → shared_up items set i
    ≡ cond (leads_up i (applied_folder items i)) (set i ∩ shared_up items set (applied_folder items i)) (set i)
unfolding shared_up
shared_on items set i = shared_step (applied_folder items) set i

-- The permission set of s under a grant g that may be missing.
module _ (t : Tables) (s : ℕ) (g : Option GrantRow) where
  pub permission_up : (i : ℕ)
      → permission_under t s g i
      ≡ cond (leads_up i (applied_folder t.items i)) (own_under t s g i ∩ permission_under t s g (applied_folder t.items i))
      (own_under t s g i)
  unfolding permission_under
  permission_up = shared_on t.items (own_under t s g)

  pub permission_own : (k i : ℕ) → T (has k (permission_under t s g i)) → T (has k (own_under t s g i))
  unfolding permission_under shared_up
  permission_own k i = shared_own (applied_folder t.items) (own_under t s g) k i i

  pub permission_all : (k : ℕ) → ((i : ℕ) → has k (own_under t s g i) ≡ true) → (i : ℕ) → has k (permission_under t s g i) ≡ true
  unfolding permission_under shared_up
  permission_all k all i = shared_all (applied_folder t.items) (own_under t s g) k all i i

  -- the operation set cuts once what the object sets share
  pub permission_cut : (i : ℕ) → operation_under t s g ∩ shared_up t.items (object_under t s g) i ≡ permission_under t s g i
  unfolding permission_under shared_up own_under
  permission_cut i = shared_cut (applied_folder t.items) (object_under t s g) (operation_under t s g) i i

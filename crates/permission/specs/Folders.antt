-- The way from an item up through the folders that apply, as the code goes it. S is what the object sets from an item on share.
use Rattle.std.specs.Prelude.{Bool, true, false, not, ◌≡◌, ℕ, ◌<◌, Option}
use Rattle.std.proofs.Common.{sym, ap, ◌∙◌}
use Rattle.std.proofs.lemmas.Bool.{not-true, not-false}
use Rattle.std.specs.Int.Bits.{and_zero_l}
use Rattle.model.specs.declared.ItemRow.{ItemRow}
use Rattle.model.specs.declared.GrantRow.{GrantRow}
use Rattle.model.specs.WhoAndWhat.{◌∪◌, ◌∩◌}
use Rattle.model.specs.Image.{Tables, item_in}
use Rattle.model.specs.Permission.{part_on, lent_on, object_under, folder_on, applied_folder, leads_up, shared_up}
use Rattle.laws.specs.Tests.{true_T}
use Rattle.laws.specs.Sets.{and_assoc}
use Rattle.laws.specs.Folders.{leads_lower, shared_on}

-- the folder that applies to an item whose row was read
pub folder_read : (t : Tables) (i : ℕ) (row : ItemRow)
    → row ≡ item_in t.items i
    → (f : ℕ) → f ≡ folder_on row → applied_folder t.items i ≡ f
folder_read t i row read f above = rw (← read) (sym above)

module _ (t : Tables) (s : ℕ) (x : Option GrantRow) (set i : ℕ) where
  abbrev S : ℕ → ℕ
  S = shared_up t.items (object_under t s x)

  -- at item `at`, what is left of the set has been cut by the object sets of all items before
  abbrev pub Left : ℕ → ℕ → Type 0
  Left left at = left ∩ S at ≡ set ∩ S i

  module _ (left at : ℕ) (so_far : Left left at) where
    pub left_none : left ≡ 0 → 0 ≡ set ∩ S i
    left_none e = sym (and_zero_l (S at)) ∙ rw e at so_far

    -- the item's row is read, its object set cuts once more, and b is whether the way goes on to the folder f
    module _ (row : ItemRow) (read : row ≡ item_in t.items at)
        (objects : ℕ) (there : objects ≡ part_on t s row ∪ lent_on t x row)
        (cut : ℕ) (both : cut ≡ left ∩ objects) (f : ℕ) (above : f ≡ folder_on row) (b : Bool) (asked : b ≡ leads_up at f) where
      is_object : object_under t s x at ≡ objects
      unfolding object_under
      is_object = rw (← read) (sym there)

      applied : applied_folder t.items at ≡ f
      applied = folder_read t at row read f above

      pub left_last : not b ≡ true → cut ≡ set ∩ S i
      left_last last =
          let alone : S at ≡ objects =
          shared_on t.items (object_under t s x) at ∙ rw (applied, ← asked, not-true b last) is_object in
          both ∙ ap (λ (v : ℕ). left ∩ v) (sym alone) ∙ so_far

      pub left_further : not b ≡ false → Left cut f
      left_further next =
          let shared : S at ≡ objects ∩ S f =
          shared_on t.items (object_under t s x) at
          ∙ rw (applied, ← asked, not-false b next) (ap (λ (v : ℕ). v ∩ S f) is_object) in
          rw both (and_assoc left objects (S f)) ∙ ap (λ (v : ℕ). left ∩ v) (sym shared) ∙ so_far

-- where the way goes on, it goes to a lower number
pub folder_falls : (at f : ℕ) (b : Bool) → b ≡ leads_up at f → not b ≡ false → f < at
folder_falls at f b asked next = leads_lower at f (true_T (leads_up at f) (sym asked ∙ not-false b next))

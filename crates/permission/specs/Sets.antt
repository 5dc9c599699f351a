-- The permission set of a subject that claims no role, put together from an item's row as the code does it.
use Rattle.std.specs.Prelude.{Bool, true, false, ◌&&◌, not, cond, ◌≡◌, refl, ℕ, None}
use Rattle.std.proofs.Math.Bool.{and-true}
use Rattle.std.proofs.Common.{inl, inr, sym, ap, ◌∙◌}
use Rattle.std.proofs.lemmas.Bool.{not-true, not-false}
use Rattle.std.specs.Int.Bits.{or_zero_r}
use Rattle.model.specs.declared.ItemRow.{ItemRow}
use Rattle.model.specs.WhoAndWhat.{has, ◌∩◌}
use Rattle.model.specs.Image.{Tables, privileges_in, item_in}
use Rattle.model.specs.Permission.{part_on}
use Rattle.model.specs.Permission.{operation_under, object_under, own_under, folder_on, leads_up, permission_under}
use Rattle.model.specs.Permission.{permission_set}
use Rattle.laws.specs.Tests.{two}
use Rattle.laws.specs.Sets.{has_and}
use Rattle.laws.specs.Folders.{permission_up}
use Rattle.permission.specs.Folders.{folder_read}

-- Without a role, an item's own set is what the subject's own row and the lines' part share. x is the item's row. The permission
-- set is that, and where a folder applies, what it shares with the folder's permission set.
module _ (t : Tables) (s i : ℕ) (x : ItemRow) (read : x ≡ item_in t.items i) where
  own_on_row : privileges_in t.subjects s ∩ part_on t s x ≡ own_under t s None i
  unfolding own_under operation_under object_under
  own_on_row = rw (or_zero_r (privileges_in t.subjects s), ← read, or_zero_r (part_on t s x))

  -- b is whether the way goes on to the folder f that applies
  module _ (f : ℕ) (above : f ≡ folder_on x) (b : Bool) (asked : b ≡ leads_up i f) where
    step : permission_set t s 0 i ≡ cond b (own_under t s None i ∩ permission_under t s None f) (own_under t s None i)
    step = permission_up t s None i ∙ rw (folder_read t i x read f above, ← asked)

    pub set_alone : (p : ℕ) → p ≡ privileges_in t.subjects s ∩ part_on t s x → not b ≡ true → p ≡ permission_set t s 0 i
    set_alone p own last = own ∙ own_on_row ∙ sym (step ∙ rw (not-true b last))

    pub set_in_folder : (own folders p : ℕ)
        → own ≡ privileges_in t.subjects s ∩ part_on t s x
        → folders ≡ permission_set t s 0 f
        → p ≡ own ∩ folders
        → not b ≡ false
        → p ≡ permission_set t s 0 i
    set_in_folder own folders p is of_folder shared next =
        shared ∙ rw (is ∙ own_on_row, of_folder) (sym (step ∙ rw (not-false b next)))

  -- Which positions that set has.
  pub set_has : (k : ℕ)
      → has k (permission_set t s 0 i)
      ≡ (has k (privileges_in t.subjects s) && has k (part_on t s x)
      && cond (leads_up i (folder_on x)) (has k (permission_set t s 0 (folder_on x))) true)
  set_has k =
      elim (two (leads_up i (folder_on x))) [
        | inl e ↦
            ap (has k) (sym (set_in_folder (folder_on x) refl true (sym e) own further (own ∩ further) refl refl refl refl))
            ∙ rw (e, has_and k own further, has_and k (privileges_in t.subjects s) (part_on t s x))
        | inr e ↦
            ap (has k) (sym (set_alone (folder_on x) refl false (sym e) own refl refl))
            ∙ rw (e, has_and k (privileges_in t.subjects s) (part_on t s x), and-true)
      ]
    where
      own : ℕ
      own = privileges_in t.subjects s ∩ part_on t s x

      further : ℕ
      further = permission_set t s 0 (folder_on x)

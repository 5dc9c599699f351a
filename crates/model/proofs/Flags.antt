-- The flags of an item and its folder, as the code asks about them: b is what it learns of the flag for folders.
use mathlib.Core.Bool.{Bool, true, false, ◌&&◌, not, and-true, and-false}
use mathlib.Core.Path.{◌≡◌, refl, ◌∙◌}
use Prim.Native.Nat.{ℕ, ◌/◌, ◌%◌, ◌^◌}
use native.Mathlib.Nat.{div-eq_of_lt}
use native.Mathlib.Omega.{arith}
use borrow.Author.Tests.{lt-ltb, ltb-true, ltb-false, eq-eqb, ne_eqb}
use lib.Dec.{eqb, ltb}
use Rattle.model.specs.declared.ItemRow.{ItemRow}
use Rattle.model.specs.WhoAndWhat.{has}
use Rattle.model.specs.Image.{folder_flag, flags_fit}
use Rattle.model.specs.Permission.{folder_on}

module _ (x : ItemRow) (b : Bool) (flag : b ≡ has folder_flag x.flags) where
  pub folder_applies : b ≡ true → x.folder.0 ≡ folder_on x
  folder_applies yes_flag = rw (← flag, yes_flag)

  pub no_folder_applies : b ≡ false → 0 ≡ folder_on x
  no_folder_applies no_flag = rw (← flag, no_flag)

-- The flags without the one for folders are those below 4: it is the highest of the three.
below_flag : (f : ℕ) → ltb f 4 ≡ (ltb f 8 && not (has folder_flag f))
unfolding has
below_flag f = go (ltb f 4) refl (ltb f 8) refl
  where
    go : (a : Bool) → ltb f 4 ≡ a → (b : Bool) → ltb f 8 ≡ b → a ≡ (b && not (eqb (f / 2 ^ folder_flag % 2) 1))
    go true low b below = rw (← below, lt-ltb f 8 (omega (arith, ltb-true f 4 low)), div-eq_of_lt (ltb-true f 4 low))
    go false high true below =
        let one : f / 4 ≡ 1 = omega (arith, ltb-false f 4 high, ltb-true f 8 below) in
        rw one
    go false high false below = refl

module _ (flags folder : ℕ) (b : Bool) where
  pub flags_alone : folder ≡ 0 → b ≡ ltb flags 4 → b ≡ flags_fit flags folder
  flags_alone no-folder low = low ∙ below_flag flags ∙ rw (eq-eqb folder 0 no-folder, and-true)

  pub flags_with_folder : (folder ≡ 0 → ⊥) → b ≡ ltb flags 8 → b ≡ flags_fit flags folder
  flags_with_folder some-folder below = rw (ne_eqb folder 0 some-folder, and-false, and-true) below

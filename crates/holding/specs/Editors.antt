-- The editor search: subjects are tried one after the other, from the first after the custodian; and whether a subject may edit.
use Rattle.std.specs.Prelude.{Bool, true, false, not, ◌&&◌, cond, ◌≡◌, ℕ, ◌+◌, ◌<◌, ◌≤◌, length, Option, None, Some, option_map, unwrap_or}
use Rattle.std.proofs.Common.{inl, inr, ◌∙◌, arith, ne_eqb, eq-eqb}
use Rattle.std.proofs.Math.Path.{sym}
use Rattle.std.proofs.lemmas.Bool.{not-true, not-false}
use Rattle.model.specs.declared.ItemRow.{ItemRow}
use Rattle.model.specs.declared.Subject.{Subject}
use Rattle.model.specs.Lists.{is_there}
use Rattle.model.specs.WhoAndWhat.{edit_list, has}
use Rattle.model.specs.Image.{Tables, privileges_in, item_in}
use Rattle.model.specs.Permission.{part_on, folder_on, leads_up, permission_set}
use Rattle.model.specs.Calls.{is_editor, lowest_editor}
use Rattle.laws.specs.Tests.{lt_eq_gt}
use Rattle.laws.specs.Counts.{none_lowest, some_lowest}
use Rattle.permission.specs.Sets.{set_has}

module _ (t : Tables) (a : ℕ) where
  -- no subject below n is an editor
  pub record Tried (n : ℕ) : Type 0 where
    pub after_custodian : 1 ≤ n
    pub passed : (s : ℕ) → s < n → is_editor t a s ≡ false

  pub tried_none : Tried 1
  tried_none = record { after_custodian = omega arith; passed = λ s h. custodian_not s (omega arith) }
    where
      custodian_not : (s : ℕ) → s ≡ 0 → is_editor t a s ≡ false
      custodian_not s z = rw (eq-eqb s 0 z)

  -- u rows are in use
  module _ (u : ℕ) (used : u ≡ length t.subjects) (n : ℕ) (tried : Tried n) where
    module _ (h : n < u) (b : Bool) (asked : b ≡ has edit_list (permission_set t n 0 a)) where
      looked : is_editor t a n ≡ b
      looked =
          let other : n ≡ 0 → ⊥ = λ z. omega (arith, tried.after_custodian) in
          rw (ne_eqb n 0 other) (sym asked)

      pub tried_here : b ≡ true → Some n ≡ lowest_editor t a
      unfolding lowest_editor
      tried_here e =
          sym
          (some_lowest (is_editor t a) (length t.subjects) n
          (record { below = omega arith; passes = looked ∙ e; no_lower = tried.passed }))

      pub tried_next : b ≡ false → Tried (n + 1)
      tried_next e = record { after_custodian = omega arith; passed = further }
        where
          further : (s : ℕ) → s < n + 1 → is_editor t a s ≡ false
          further s l =
              elim (lt_eq_gt s n) [
                | inl low ↦ tried.passed s low
                | inr (inl here) ↦ rw here (looked ∙ e)
                | inr (inr high) ↦ absurd (omega arith)
              ]

    pub tried_all : u ≤ n → None ≡ lowest_editor t a
    unfolding lowest_editor
    tried_all h = sym (none_lowest (is_editor t a) (length t.subjects) (λ s l. tried.passed s (omega arith)))

  -- question 20 and the result, by what the search answered
  module _ (x : Option Subject) (found : option_map (λ (s : Subject). s.0) x ≡ lowest_editor t a) where
    pub editor_none : x ≡ None → is_there (lowest_editor t a) ≡ false
    editor_none is = rw (← found, is)

    module _ (s : Subject) (is : x ≡ Some s) where
      pub editor_there : is_there (lowest_editor t a) ≡ true
      editor_there = rw (← found, is)

      pub editor_named : s.0 ≡ unwrap_or (lowest_editor t a) 0
      editor_named = rw (← found, is)

-- Whether s may edit list a, whose row is x. One test after the other: the position must be in its own row, in the lines' part and,
-- where a folder f applies, in the folder's permission set.
module _ (t : Tables) (s a : ℕ) (x : ItemRow) (read : x ≡ item_in t.items a) (needed : ℕ) (position : needed ≡ edit_list) where
  module _ (own : ℕ) (its_own : own ≡ privileges_in t.subjects s) (b : Bool) (said : b ≡ has needed own) where
    asked : has edit_list (permission_set t s 0 a)
        ≡ (b && has edit_list (part_on t s x)
        && cond (leads_up a (folder_on x)) (has edit_list (permission_set t s 0 (folder_on x))) true)
    asked =
        let held : has edit_list (privileges_in t.subjects s) ≡ b = rw (← its_own, ← position) (sym said) in
        set_has t s a x read edit_list
        ∙ rw held

    pub edit_no : not b ≡ true → false ≡ has edit_list (permission_set t s 0 a)
    edit_no h = rw (asked, not-true b h)

    module _ (yes-own : not b ≡ false) (part : ℕ) (its-part : part ≡ part_on t s x) (c : Bool) (said-part : c ≡ has needed part) where
      asked_part : has edit_list (permission_set t s 0 a)
          ≡ (c && cond (leads_up a (folder_on x)) (has edit_list (permission_set t s 0 (folder_on x))) true)
      asked_part =
          let held : has edit_list (part_on t s x) ≡ c = rw (← its-part, ← position) (sym said-part) in
          asked ∙ rw (not-false b yes-own, held)

      pub edit_not_by_lines : not c ≡ true → false ≡ has edit_list (permission_set t s 0 a)
      edit_not_by_lines h = rw (asked_part, not-true c h)

      module _ (yes-part : not c ≡ false) (f : ℕ) (above : f ≡ folder_on x) (d : Bool) (leads : d ≡ leads_up a f) where
        asked_folder : has edit_list (permission_set t s 0 a)
            ≡ cond d (has edit_list (permission_set t s 0 f)) true
        asked_folder = asked_part ∙ rw (not-false c yes-part, ← above, ← leads)

        pub edit_by_lines : not d ≡ true → true ≡ has edit_list (permission_set t s 0 a)
        edit_by_lines h = rw (asked_folder, not-true d h)

        pub edit_by_folder : not d ≡ false
            → (set : ℕ)
            → set ≡ permission_set t s 0 f
            → (r : Bool)
            → r ≡ has needed set
            → r ≡ has edit_list (permission_set t s 0 a)
        edit_by_folder h set of_folder r e = rw (asked_folder, not-false d h) (e ∙ rw (position, of_folder))

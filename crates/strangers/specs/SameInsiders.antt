-- Insiders are found by the amended lines' part. By the rule as printed they would be the same subjects: the
-- two parts differ only for the owner of a list, who is an insider anyway.
use Rattle.std.specs.Prelude.{◌⊎◌, ◌≡◌, ℕ, T}
use Rattle.std.proofs.Common.{inl, inr, sym}
use Rattle.model.specs.WhoAndWhat.{custodian, edit_list, has}
use Rattle.model.specs.Image.{Tables, item_in}
use Rattle.model.specs.Permission.{lines_part}
use Rattle.model.specs.Printed.{printed_part}
use Rattle.laws.specs.Amended.{part_amended}
use Rattle.strangers.specs.Sequences.{owner_of, Start, Followed, Insider}

module _ (t : Tables) (document : ℕ) where
  -- the definition of `Insider`, but for the lines' part
  pub data PrintedInsider : ℕ → Type 0 where
    the_custodian : PrintedInsider custodian
    owns_document : {d : ℕ} → Start t document d → PrintedInsider (owner_of t d)
    owns_list : {a : ℕ} → Followed t document a → PrintedInsider (owner_of t a)
    may_edit : {a s : ℕ} → Followed t document a → T (has edit_list (printed_part t s a)) → PrintedInsider s

  -- the two parts are the same, or the subject owns the item
  same_or_owner : (s i : ℕ) → (lines_part t s i ≡ printed_part t s i) ⊎ (owner_of t i ≡ s)
  same_or_owner s i = elim (part_amended t s (item_in t.items i)) [ inl same ↦ inl same | inr named ↦ inr (sym named.1.owns) ]

  pub insider_as_printed : {s : ℕ} → Insider t document s → PrintedInsider s
  insider_as_printed Insider.the_custodian = PrintedInsider.the_custodian
  insider_as_printed (Insider.owns_document d) = PrintedInsider.owns_document d
  insider_as_printed (Insider.owns_list a) = PrintedInsider.owns_list a
  insider_as_printed (Insider.may_edit {a} {s} followed allowed) =
      elim (same_or_owner s a) [
        | inl same ↦ PrintedInsider.may_edit followed (rw same at allowed)
        | inr owns ↦ rw owns at (PrintedInsider.owns_list followed)
      ]

  pub printed_insider : {s : ℕ} → PrintedInsider s → Insider t document s
  printed_insider PrintedInsider.the_custodian = Insider.the_custodian
  printed_insider (PrintedInsider.owns_document d) = Insider.owns_document d
  printed_insider (PrintedInsider.owns_list a) = Insider.owns_list a
  printed_insider (PrintedInsider.may_edit {a} {s} followed allowed) =
      elim (same_or_owner s a) [
        | inl same ↦ Insider.may_edit followed (rw (sym same) at allowed)
        | inr owns ↦ rw owns at (Insider.owns_list followed)
      ]

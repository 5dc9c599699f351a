-- The watched items: the starts, which are the document and the folders that apply, and the followed lists. Each is in use,
-- its owner is an insider, and its own list is none or a followed one.
use Rattle.std.specs.Prelude.{◌⊎◌, ◌≢◌, ◌≡◌, ℕ, T, eqb}
use Rattle.std.proofs.Common.{inl, inr, eqb→eq}
use Rattle.model.specs.WhoAndWhat.{has}
use Rattle.model.specs.Image.{Tables, subject_used, item_in, item_used, is_list, none_or_list}
use Rattle.laws.specs.Tests.{and_l, and_r, or_cases, eq_or_ne}
use Rattle.laws.specs.Folders.{folder_used}
use Rattle.laws.specs.WellFormed.{WellFormed}
use Rattle.laws.specs.Kept.{GoodItem, item_good}
use Rattle.strangers.specs.Sequences.{list_of, owner_of, Start, Followed, Insider}
use Rattle.strangers.specs.Sequences.Start.{the_document, its_folder}
use Rattle.strangers.specs.Sequences.Followed.{its_list, list_of_followed}
use Rattle.strangers.specs.Sequences.Insider.{owns_document, owns_list}

pub data Watched (t : Tables) (document : ℕ) : ℕ → Type 0 where
  start : {d : ℕ} → Start t document d → Watched t document d
  list : {a : ℕ} → Followed t document a → Watched t document a

module _ (t : Tables) (document : ℕ) where
  pub watched_owner : {i : ℕ} → Watched t document i → Insider t document (owner_of t i)
  watched_owner (Watched.start d) = search owns_document
  watched_owner (Watched.list a) = search owns_list

  followed_list : {i : ℕ} → Watched t document i → list_of t i ≢ 0 → Followed t document (list_of t i)
  followed_list (Watched.start d) some_list = search its_list
  followed_list (Watched.list a) some_list = search list_of_followed

  pub watched_list : {i : ℕ} → Watched t document i → (list_of t i ≡ 0) ⊎ Followed t document (list_of t i)
  watched_list {i} w = elim (eq_or_ne (list_of t i) 0) [ inl e ↦ inl e | inr d ↦ inr (followed_list w d) ]

  module _ (well : WellFormed t) (present : T (item_used t.items document)) where
    -- the list of an item in use, if it has one, is an item in use
    list_used : (i : ℕ) → T (item_used t.items i) → list_of t i ≢ 0 → T (item_used t.items (list_of t i))
    list_used i used some_list =
        let good : GoodItem t i (item_in t.items i) = item_good t well i used in
        let rule : T (none_or_list t.items (list_of t i)) = search (and_l, and_r) in
        go (or_cases (eqb (list_of t i) 0) (is_list t.items (list_of t i)) rule)
      where
        go : T (eqb (list_of t i) 0) ⊎ T (is_list t.items (list_of t i))
            → T (item_used t.items (list_of t i))
        go (inl e) = absurd (some_list (eqb→eq (list_of t i) 0 e))
        go (inr l) = and_l (item_used t.items (list_of t i)) (has 0 (item_in t.items (list_of t i)).flags) l

    start_used : {d : ℕ} → Start t document d → T (item_used t.items d)
    start_used the_document = present
    start_used (its_folder {d} s leads) = let used : T (item_used t.items d) = start_used s in search folder_used

    followed_used : {a : ℕ} → Followed t document a → T (item_used t.items a)
    followed_used (its_list {d} s some_list) = list_used d (start_used s) some_list
    followed_used (list_of_followed {a} f some_list) = list_used a (followed_used f) some_list

    pub watched_used : {i : ℕ} → Watched t document i → T (item_used t.items i)
    watched_used (Watched.start d) = start_used d
    watched_used (Watched.list a) = followed_used a

    -- the owner of an item in use is a subject in use
    pub owner_used : {i : ℕ} → Watched t document i → T (subject_used t.subjects (owner_of t i))
    owner_used {i} w =
        let good : GoodItem t i (item_in t.items i) = item_good t well i (watched_used w) in
        search (and_l, and_r)

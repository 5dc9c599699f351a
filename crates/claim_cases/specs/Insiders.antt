-- Who is an insider of a document, by computation. There is a test for each clause, and every insider by that clause passes
-- it. So a subject that passes none of them is no insider.
use Rattle.std.specs.Prelude.{Bool, true, false, ◌&&◌, ◌||◌, not, cond, List, [], ◌∷◌, ◌⊎◌, ◌≢◌, ◌≡◌, refl, ℕ, eqb}
use Rattle.std.proofs.Common.{inl, inr, eq-eqb, eqb→eq, T_not}
use Rattle.std.proofs.Math.Dec.{T, eqb_refl}
use Rattle.model.specs.declared.GrantRow.{GrantRow}
use Rattle.std.specs.List.{AllByRecursion}
use Rattle.model.specs.Lists.{every}
use Rattle.model.specs.WhoAndWhat.{custodian, edit_list, has}
use Rattle.model.specs.Image.{Tables, privileges_in}
use Rattle.model.specs.Permission.{lines_part, applied_folder, leads_up}
use Rattle.laws.specs.Tests.{T_true, true_T, and_i, and_l, and_r, or_l, or_r, or_cases, every_all, all_map, all_left, all_right}
use Rattle.strangers.specs.Sequences.{list_of, owner_of, Start, Followed, Insider}
use Rattle.strangers.specs.Sequences.Start.{the_document, its_folder}
use Rattle.strangers.specs.Sequences.Followed.{its_list, list_of_followed}
use Rattle.strangers.specs.Sequences.Insider.{the_custodian, owns_document, owns_list, may_edit}
use Rattle.strangers.proofs.Walk.{some_of, among, lists_from, folders_within, folders_of}
use Rattle.strangers.proofs.Walk.{folders_only, folder_among, list_of_start_met, list_of_list_met}
use Rattle.claim_cases.specs.Without.{Clause, same_clause, clauses_of_folder, clauses_of_way, clauses_of_editor}
use Rattle.claim_cases.specs.Without.{clauses_of, InsiderBut}

-- a test that counts as passed if P holds
abbrev pub or_if : {P : Type 0} → Dec P → Bool → Bool
or_if (yes p) b = true
or_if (no d) b = b

pub or_if_is : {P : Type 0} (d : Dec P) (b : Bool) → T (or_if d b) → ¬ P → T b
or_if_is (yes p) b t n = absurd (n p)
or_if_is (no d) b t n = t

pub unequal : (a b : ℕ) → T (not (eqb a b)) → a ≢ b
unequal a b p e = T_not (eqb a b) p (true_T (eqb a b) (eq-eqb a b e))

-- if a number of a list passes a test, some number of the list does
some_of_lem : (test : ℕ → Bool) (xs : List ℕ) (a : ℕ) → T (among a xs) → T (test a) → T (some_of test xs)
some_of_lem test [] a h p = h
some_of_lem test (x ∷ xs) a h p = go (or_cases (eqb a x) (among a xs) h) (some_of_lem test xs a)
  where
    go : T (eqb a x) ⊎ T (among a xs) → (T (among a xs) → T (test a) → T (some_of test xs)) → T (test x || some_of test xs)
    go (inl e) ih = or_l (test x) (some_of test xs) (rw (eqb→eq a x e) at p)
    go (inr k) ih = or_r (test x) (some_of test xs) (ih k p)

-- the lists that control some items, without the lists of these lists
abbrev first_lists : Tables → List ℕ → List ℕ
first_lists t [] = []
first_lists t (d ∷ starts) = list_of t d ∷ first_lists t starts

-- each of the items has its list among them
first_among : (t : Tables) (starts : List ℕ) (d : ℕ) → T (among d starts) → T (among (list_of t d) (first_lists t starts))
first_among t [] d h = h
first_among t (x ∷ starts) d h = elim (or_cases (eqb d x) (among d starts) h) [
  | inl e ↦ rw (eqb→eq d x e) (search (or_l, eqb_refl))
  | inr k ↦ or_r (eqb (list_of t d) (list_of t x)) (among (list_of t d) (first_lists t starts)) (first_among t starts d k)
]

module _ (left_out : Clause) (t : Tables) (document : ℕ) where
  -- The folders that apply. There are none if the clause about the document's folder is left out. There is only that folder
  -- if the clause about folders of folders is left out.
  abbrev on_folders : Dec (left_out ≡ Clause.folder_of_document) → Dec (left_out ≡ Clause.folders_of_folders) → List ℕ
  on_folders (yes e) (yes f) = []
  on_folders (yes e) (no f) = []
  on_folders (no d) (yes e) = folders_within 1 (applied_folder t.items) document
  on_folders (no d) (no e) = folders_of t document

  abbrev folders : List ℕ
  folders = on_folders (same_clause left_out Clause.folder_of_document) (same_clause left_out Clause.folders_of_folders)

  -- The items whose lists are followed. The document is not one of them, or the folders are not, if the clause about the
  -- document's list, or about the lists of folders, is left out.
  abbrev items_with : Dec (left_out ≡ Clause.list_of_document) → Dec (left_out ≡ Clause.list_of_folder) → List ℕ
  items_with (yes e) (yes f) = []
  items_with (yes e) (no d) = folders
  items_with (no d) (yes e) = document ∷ []
  items_with (no d) (no e) = document ∷ folders

  abbrev starts : List ℕ
  starts = items_with (same_clause left_out Clause.list_of_document) (same_clause left_out Clause.list_of_folder)

  -- The followed lists, as the walks from these items meet them. There are only the first ones if the clause about lists of
  -- lists is left out.
  abbrev on_way : Dec (left_out ≡ Clause.lists_of_lists) → List ℕ
  on_way (yes e) = first_lists t starts
  on_way (no d) = lists_from t starts

  abbrev lists : List ℕ
  lists = on_way (same_clause left_out Clause.lists_of_lists)

  -- Four tests: the subject owns the document; it owns one of the folders; it owns one of the lists; the lines allow it to
  -- edit one of the lists.
  abbrev documents_owner : ℕ → Bool
  documents_owner s = eqb s (owner_of t document)

  abbrev owns_folder : ℕ → Bool
  owns_folder s = some_of (λ d. eqb s (owner_of t d)) folders

  abbrev lists_owner : ℕ → Bool
  lists_owner s = some_of (λ a. eqb s (owner_of t a)) lists

  abbrev edits_some : ℕ → Bool
  edits_some s = some_of (λ a. has edit_list (lines_part t s a)) lists

  -- If the clause about editors without the operation is left out, only a subject whose own row has the operation counts
  -- as an editor.
  abbrev counts_as_editor : Dec (left_out ≡ Clause.editor_without_operation) → ℕ → Bool
  counts_as_editor (yes e) s = has edit_list (privileges_in t.subjects s)
  counts_as_editor (no d) s = true

  abbrev edits_list : ℕ → Bool
  edits_list s = counts_as_editor (same_clause left_out Clause.editor_without_operation) s && edits_some s

  -- The subject is no insider by any clause but the one left out.
  abbrev pub apart : ℕ → Bool
  apart s =
      or_if (same_clause left_out Clause.custodian_inside) (not (eqb s custodian))
      && or_if (same_clause left_out Clause.document_owner_inside) (not (documents_owner s))
      && or_if (same_clause left_out Clause.folder_owner_inside) (not (owns_folder s))
      && or_if (same_clause left_out Clause.list_owner_inside) (not (lists_owner s))
      && or_if (same_clause left_out Clause.editor_inside) (not (edits_list s))

  -- The grantors of the roles that it holds are not insiders by these clauses either.
  abbrev pub roles_apart : ℕ → Bool
  roles_apart s = every (λ g. not (eqb g.receiver.0 s) || apart g.grantor.0) t.grants

  abbrev Counted : List Clause → Type 0
  Counted = AllByRecursion (λ c. left_out ≢ c)

  -- every way to a folder begins with the document's folder
  begins : {d : ℕ} (s : Start t document d) → Counted (clauses_of_folder s) → left_out ≢ Clause.folder_of_document
  begins the_document counted = counted.0
  begins (its_folder s leads) counted = begins s counted.1

  -- the folder that applies to a start is one of the folders, unless a clause on the way to it is left out
  folder_in : {d : ℕ} (s : Start t document d)
      → T (leads_up d (applied_folder t.items d))
      → Counted (clauses_of_folder s)
      → T (among (applied_folder t.items d) folders)
  unfolding folders_within
  folder_in s leads counted =
      go s leads counted (same_clause left_out Clause.folder_of_document) (same_clause left_out Clause.folders_of_folders)
    where
      go : {d : ℕ} (s : Start t document d)
          → T (leads_up d (applied_folder t.items d))
          → Counted (clauses_of_folder s)
          → (a : Dec (left_out ≡ Clause.folder_of_document)) (b : Dec (left_out ≡ Clause.folders_of_folders))
          → T (among (applied_folder t.items d) (on_folders a b))
      go s leads counted (yes e) b = absurd (begins s counted e)
      go the_document leads counted (no n) (yes e) =
          rw (T_true (leads_up document (applied_folder t.items document)) leads) (search (or_l, eqb_refl))
      go (its_folder s up) leads counted (no n) (yes e) = absurd (counted.0 e)
      go s leads counted (no n) (no m) = folder_among t document s leads

  -- the folders, and the items whose lists are followed, are starts
  folders_start : AllByRecursion (Start t document) folders
  folders_start = go (same_clause left_out Clause.folder_of_document) (same_clause left_out Clause.folders_of_folders)
    where
      go : (a : Dec (left_out ≡ Clause.folder_of_document)) (b : Dec (left_out ≡ Clause.folders_of_folders))
          → AllByRecursion (Start t document) (on_folders a b)
      go (yes e) (yes f) = tt
      go (yes e) (no d) = tt
      go (no d) (yes e) = folders_only t document 1 document the_document
      go (no d) (no e) = folders_only t document document document the_document

  each_start : AllByRecursion (Start t document) starts
  each_start = go (same_clause left_out Clause.list_of_document) (same_clause left_out Clause.list_of_folder)
    where
      go : (a : Dec (left_out ≡ Clause.list_of_document)) (b : Dec (left_out ≡ Clause.list_of_folder))
          → AllByRecursion (Start t document) (items_with a b)
      go (yes e) (yes f) = tt
      go (yes e) (no d) = folders_start
      go (no d) (yes e) = (the_document, tt)
      go (no d) (no e) = (the_document, folders_start)

  -- a start is among the items whose lists are followed, unless a clause is left out by which its list is
  start_in : {d : ℕ} (s : Start t document d) (some_list : list_of t d ≢ 0)
      → Counted (clauses_of_way (its_list s some_list))
      → T (among d starts)
  start_in s some_list counted =
      go s some_list counted (same_clause left_out Clause.list_of_document) (same_clause left_out Clause.list_of_folder)
    where
      go : {d : ℕ} (s : Start t document d) (some_list : list_of t d ≢ 0)
          → Counted (clauses_of_way (its_list s some_list))
          → (a : Dec (left_out ≡ Clause.list_of_document)) (b : Dec (left_out ≡ Clause.list_of_folder))
          → T (among d (items_with a b))
      go the_document some_list counted (yes e) b = absurd (counted.0 e)
      go the_document some_list counted (no n) (yes e) = search (or_l, eqb_refl)
      go the_document some_list counted (no n) (no m) = search (or_l, eqb_refl)
      go (its_folder s leads) some_list counted a (yes e) = absurd (counted.0 e)
      go (its_folder s leads) some_list counted (yes e) (no m) = folder_in s leads counted.1
      go (its_folder {d} s leads) some_list counted (no n) (no m) =
          let f : ℕ = applied_folder t.items d in or_r (eqb f document) (among f folders) (folder_in s leads counted.1)

  -- so a followed list is one of the lists, unless a clause on the way to it is left out
  followed_in : {a : ℕ} (f : Followed t document a) → Counted (clauses_of_way f) → T (among a lists)
  followed_in f counted = go f counted (same_clause left_out Clause.lists_of_lists)
    where
      go : {a : ℕ} (f : Followed t document a)
          → Counted (clauses_of_way f)
          → (d : Dec (left_out ≡ Clause.lists_of_lists))
          → T (among a (on_way d))
      go (its_list {d} s some_list) counted (yes e) = first_among t starts d (start_in s some_list counted)
      go (list_of_followed f some_list) counted (yes e) = absurd (counted.0 e)
      go (its_list {d} s some_list) counted (no n) =
          list_of_start_met t document starts each_start d (start_in s some_list counted) some_list
      go (list_of_followed {a} f some_list) counted (no n) =
          list_of_list_met t document starts each_start a (go f counted.1 (no n)) some_list

  editor_counts : (s : ℕ) → Counted (clauses_of_editor t s) → T (counts_as_editor (same_clause left_out Clause.editor_without_operation) s)
  editor_counts s counted =
      go (has edit_list (privileges_in t.subjects s)) refl counted (same_clause left_out Clause.editor_without_operation)
    where
      go : (b : Bool)
          → has edit_list (privileges_in t.subjects s) ≡ b
          → Counted (cond b [] (Clause.editor_without_operation ∷ []))
          → (d : Dec (left_out ≡ Clause.editor_without_operation))
          → T (counts_as_editor d s)
      go true h counted (yes e) = true_T (has edit_list (privileges_in t.subjects s)) h
      go false h counted (yes e) = absurd (counted.0 e)
      go b h counted (no d) = tt

  fails : (this : Clause) (test : Bool) → T (or_if (same_clause left_out this) (not test)) → left_out ≢ this → ¬ T test
  fails this test p d h = T_not test (or_if_is (same_clause left_out this) (not test) p d) h

  -- a subject that passes `apart` can be an insider only by the clause left out
  inside_fails : {s : ℕ} → T (apart s) → (i : Insider t document s) → ¬ Counted (clauses_of i)
  inside_fails p the_custodian c = fails Clause.custodian_inside (eqb 0 custodian) (search (and_l, and_r)) c.0 tt
  inside_fails p (owns_document the_document) c =
      let owner : ℕ = owner_of t document in
      fails Clause.document_owner_inside (documents_owner owner) (search (and_l, and_r)) c.0 (eqb_refl owner)
  inside_fails p (owns_document (its_folder {d} s leads)) c =
      let f : ℕ = applied_folder t.items d in
      let owner : ℕ = owner_of t f in
      fails Clause.folder_owner_inside (owns_folder owner) (search (and_l, and_r)) c.0
      (some_of_lem (λ b. eqb owner (owner_of t b)) folders f (folder_in s leads c.1) (eqb_refl owner))
  inside_fails p (owns_list {a} f) c =
      let owner : ℕ = owner_of t a in
      fails Clause.list_owner_inside (lists_owner owner) (search (and_l, and_r)) c.0
      (some_of_lem (λ b. eqb owner (owner_of t b)) lists a (followed_in f c.1) (eqb_refl owner))
  inside_fails p (may_edit {a} {s} f allowed) c =
      fails Clause.editor_inside (edits_list s) (search (and_l, and_r)) c.0
      (and_i (counts_as_editor (same_clause left_out Clause.editor_without_operation) s) (edits_some s)
      (editor_counts s (all_left (λ c. left_out ≢ c) (clauses_of_editor t s) (clauses_of_way f) c.1))
      (some_of_lem (λ b. has edit_list (lines_part t s b)) lists a
      (followed_in f (all_right (λ c. left_out ≢ c) (clauses_of_editor t s) (clauses_of_way f) c.1))
      allowed))

  pub apart_is : (s : ℕ) → T (apart s) → ¬ InsiderBut left_out t document s
  apart_is s p i = inside_fails p i.insider i.counts

  pub roles_apart_is : (s : ℕ)
      → T (roles_apart s)
      → AllByRecursion (λ g. g.receiver.0 ≡ s → ¬ InsiderBut left_out t document g.grantor.0) t.grants
  roles_apart_is s p =
      all_map grant t.grants (every_all (λ g. not (eqb g.receiver.0 s) || apart g.grantor.0) t.grants p)
    where
      grant : (g : GrantRow)
          → T (not (eqb g.receiver.0 s) || apart g.grantor.0)
          → g.receiver.0 ≡ s
          → ¬ InsiderBut left_out t document g.grantor.0
      grant g h e =
          elim (or_cases (not (eqb g.receiver.0 s)) (apart g.grantor.0) h) [
            | inl n ↦ absurd (unequal g.receiver.0 s n e)
            | inr a ↦ apart_is g.grantor.0 a
          ]

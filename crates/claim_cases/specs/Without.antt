-- The claim on strangers with one of its clauses left out. The definitions are those of `strangers`, clause by clause in
-- their order. Each asks what its clause asks, unless that clause is the one left out.
use Rattle.std.specs.Prelude.{cond, List, [], ◌∷◌, ◌++◌, ◌≢◌, ◌≡◌, ℕ, T, None, Some}
use Rattle.model.specs.declared.GrantRow.{GrantRow}
use Rattle.std.specs.List.{AllByRecursion}
use Rattle.model.specs.WhoAndWhat.{edit_list, has}
use Rattle.model.specs.Image.{Tables, tables, privileges_in, subject_used, item_used}
use Rattle.model.specs.Permission.{grant_of}
use Rattle.model.specs.Calls.{Change, caller_of, Handed}
use Rattle.model.specs.Questions.{Accepted}
use Rattle.strangers.specs.Sequences.{Step, run, writing, Start, Followed, Insider, Unchanged}
use Rattle.strangers.specs.Sequences.Start.{the_document, its_folder}
use Rattle.strangers.specs.Sequences.Followed.{its_list, list_of_followed}
use Rattle.strangers.specs.Sequences.Insider.{the_custodian, owns_document, owns_list, may_edit}

-- The clauses that can be left out; `nothing` leaves none out.
pub data Clause : Type 0 where
  nothing : Clause
  folder_of_document : Clause
  folders_of_folders : Clause
  list_of_document : Clause
  list_of_folder : Clause
  lists_of_lists : Clause
  custodian_inside : Clause
  document_owner_inside : Clause
  folder_owner_inside : Clause
  list_owner_inside : Clause
  editor_inside : Clause
  editor_without_operation : Clause
  no_role_of_insiders : Clause
  caller_present : Clause
  asker_present : Clause
  document_present : Clause
  role_granted : Clause
  grantor_silent : Clause
  deriving Discrete as same_clause

-- The clauses by which the folder that applies to a start is a start too, by which a list is followed, and by which a subject
-- is an insider.

abbrev pub clauses_of_folder : {t : Tables} {document d : ℕ} → Start t document d → List Clause
clauses_of_folder the_document = Clause.folder_of_document ∷ []
clauses_of_folder (its_folder d leads) = Clause.folders_of_folders ∷ clauses_of_folder d

abbrev pub clauses_of_way : {t : Tables} {document a : ℕ} → Followed t document a → List Clause
clauses_of_way (its_list the_document some_list) = Clause.list_of_document ∷ []
clauses_of_way (its_list (its_folder d leads) some_list) = Clause.list_of_folder ∷ clauses_of_folder d
clauses_of_way (list_of_followed a some_list) = Clause.lists_of_lists ∷ clauses_of_way a

-- a subject whose own row lacks the operation is an editor by the lines all the same
abbrev pub clauses_of_editor : Tables → ℕ → List Clause
clauses_of_editor t s = cond (has edit_list (privileges_in t.subjects s)) [] (Clause.editor_without_operation ∷ [])

abbrev pub clauses_of : {t : Tables} {document s : ℕ} → Insider t document s → List Clause
clauses_of the_custodian = Clause.custodian_inside ∷ []
clauses_of (owns_document the_document) = Clause.document_owner_inside ∷ []
clauses_of (owns_document (its_folder d leads)) = Clause.folder_owner_inside ∷ clauses_of_folder d
clauses_of (owns_list a) = Clause.list_owner_inside ∷ clauses_of_way a
clauses_of {t} {document} {s} (may_edit a allowed) = Clause.editor_inside ∷ clauses_of_editor t s ++ clauses_of_way a

module _ (left_out : Clause) where
  pub record InsiderBut (t : Tables) (document s : ℕ) : Type 0 where
    pub insider : Insider t document s
    pub counts : AllByRecursion (λ c. left_out ≢ c) (clauses_of insider)

  pub record OutsiderBut (t : Tables) (document s : ℕ) : Type 0 where
    pub present : left_out ≢ Clause.caller_present → T (subject_used t.subjects s)
    pub outside : ¬ InsiderBut t document s
    pub holds_none : left_out ≢ Clause.no_role_of_insiders
        → AllByRecursion (λ g. g.receiver.0 ≡ s → ¬ InsiderBut t document g.grantor.0) t.grants

  pub record StrangerBut (t : Tables) (document s : ℕ) : Type 0 where
    pub outsider : OutsiderBut t document s

  pub data ClaimBut (t : Tables) (asker : ℕ) (added : List Change) : ℕ → Type 0 where
    no_role : ClaimBut t asker added 0
    granted : {r : ℕ} (g : GrantRow)
        → grant_of t asker r ≡ Some g
        → (left_out ≢ Clause.grantor_silent → AllByRecursion (λ c. caller_of c ≢ g.grantor.0) added)
        → ClaimBut t asker added r
    not_granted : {r : ℕ} → grant_of t asker r ≡ None → left_out ≡ Clause.role_granted → ClaimBut t asker added r

  pub record CoveredBut (stop : List ℕ) (second : List Step) (asker role document : ℕ) : Type 0 where
    pub asker_there : left_out ≢ Clause.asker_present → T (subject_used (tables stop).subjects asker)
    pub document_there : left_out ≢ Clause.document_present → T (item_used (tables stop).items document)
    pub strangers_only : AllByRecursion (λ c. StrangerBut (tables stop) document (caller_of c)) (writing second)
    pub claimed : ClaimBut (tables stop) asker (writing second) role

  abbrev pub Without : Type 0
  Without =
      (start : List ℕ)
      → Accepted start
      → (first second : List Step)
      → AllByRecursion Handed (writing first)
      → AllByRecursion Handed (writing second)
      → (asker role document : ℕ)
      → CoveredBut (run start first) second asker role document
      → Unchanged (run start first) (run (run start first) second) asker role document

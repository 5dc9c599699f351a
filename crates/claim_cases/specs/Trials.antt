-- For each clause of the claim, tables and calls for which the claim without that clause is false.
use Rattle.std.specs.Prelude.{List, [], ◌∷◌, ◌≢◌, refl, ℕ}
use Rattle.model.specs.WhoAndWhat.{everything}
use Rattle.model.specs.Image.{Tables, subject_row, grant_row, line_row, item_row, itself_kind, group_kind, owner_kind}
use Rattle.model.specs.Image.{everyone_kind}
use Rattle.model.specs.Calls.Change.{define_subject, set_grant, remove_grant, set_line, create_item, bind}
use Rattle.model.specs.Computing.{computing}
use Rattle.model.specs.Sample.{workshop}
use Rattle.strangers.specs.Sequences.{Step, run, writing}
use Rattle.strangers.specs.Sequences.Step.{changes}
use Rattle.strangers.proofs.Walk.{walk, folders_within}
use Rattle.claim_cases.specs.Without.{Clause, Without}
use Rattle.claim_cases.specs.Without.Clause.{nothing, folder_of_document, folders_of_folders}
use Rattle.claim_cases.specs.Without.Clause.{list_of_document, list_of_folder, lists_of_lists}
use Rattle.claim_cases.specs.Without.Clause.{custodian_inside, document_owner_inside, folder_owner_inside, list_owner_inside}
use Rattle.claim_cases.specs.Without.Clause.{editor_inside, editor_without_operation}
use Rattle.claim_cases.specs.Without.Clause.{no_role_of_insiders, caller_present, asker_present, document_present}
use Rattle.claim_cases.specs.Without.Clause.{role_granted, grantor_silent}
use Rattle.claim_cases.specs.Tried.{Trial, proper, covered_but, changed, refutes}

-- Item 3 is the document. List 1 controls it, and controls itself. Subject 1 may edit list 1 by its own line. Subject 2
-- owns list 1, but the owner line in list 1 gives nothing; the one in list 2 would let an owner edit. Subject 3 holds a
-- role that 1 granted. Subject 4 is below 1, as 2 is; its own line denies it what the line for the group of 1 gives. These
-- four have the privileges 0 to 6. The lines also let subject 5 edit list 1, but it has no privileges of its own.
-- Five trials start from the sample workshop. The others need rights that only insiders have there.
unfoldable rivals : Tables
rivals =
    record {
      subjects =
          subject_row 0 (everything 4) 0
          ∷ subject_row 0 127 0
          ∷ subject_row 1 127 0
          ∷ subject_row 0 127 0
          ∷ subject_row 1 127 0
          ∷ subject_row 0 0 0
          ∷ [];
      grants = grant_row 3 7 1 1 127 ∷ [];
      lines =
          line_row 1 itself_kind 1 64
          ∷ line_row 1 itself_kind 4 0
          ∷ line_row 1 itself_kind 5 64
          ∷ line_row 1 group_kind 1 64
          ∷ line_row 1 owner_kind 0 0
          ∷ line_row 2 owner_kind 0 64
          ∷ [];
      items = item_row 2 1 1 0 ∷ item_row 0 0 1 0 ∷ item_row 0 1 0 0 ∷ [];
      capacities = record { subjects = 7; grants = 2; lines = 7; items = 3 };
    }

-- Three followed lists: item 4 is the document, list 1 controls it, list 2 controls list 1, list 3 controls list 2. Subject
-- 1 may edit list 2.
unfoldable three_lists : Tables
three_lists =
    record {
      subjects = subject_row 0 (everything 4) 0 ∷ subject_row 0 127 0 ∷ [];
      grants = [];
      lines = line_row 3 itself_kind 1 64 ∷ [];
      items = item_row 0 2 1 0 ∷ item_row 0 3 1 0 ∷ item_row 0 0 1 0 ∷ item_row 0 1 0 0 ∷ [];
      capacities = record { subjects = 2; grants = 0; lines = 3; items = 4 };
    }

-- Folders: item 3 is the document. The folder that applies to it is item 2, and the one that applies to that is item 1.
-- Subject 1 owns item 1, and subject 2 owns item 2. List 4 controls the document and item 1, and nothing controls list 4.
-- List 5 controls item 2 and itself, and subject 3 may edit it. Everyone may read what the two lists control.
unfoldable two_folders : Tables
two_folders =
    record {
      subjects = subject_row 0 (everything 4) 0 ∷ subject_row 0 127 0 ∷ subject_row 0 127 0 ∷ subject_row 0 127 0 ∷ [];
      grants = [];
      lines = line_row 4 everyone_kind 0 1 ∷ line_row 5 itself_kind 3 64 ∷ line_row 5 everyone_kind 0 1 ∷ [];
      items = item_row 1 4 0 0 ∷ item_row 2 5 4 1 ∷ item_row 0 4 4 2 ∷ item_row 0 0 1 0 ∷ item_row 0 5 1 0 ∷ [];
      capacities = record { subjects = 4; grants = 0; lines = 3; items = 5 };
    }

-- a trial: tables and the added calls; asker, role and document; the set before and after the calls
abbrev tried : Tables → List Step → ℕ → ℕ → ℕ → ℕ → ℕ → Trial
tried start calls s r i before later =
    record { start = start; first = []; second = calls; asker = s; role = r; document = i; set_then = before; set_later = later }

-- c, under role r, lets everyone read what list 1 controls
abbrev opens : ℕ → ℕ → Step
opens c r = changes (set_line c r 1 everyone_kind 0 1)

-- Without any one of its clauses the claim is false.
pub each_is_needed : (left_out : Clause) → left_out ≢ nothing → ¬ Without left_out
unfolding workshop rivals three_lists two_folders computing proper covered_but changed run writing walk folders_within
each_is_needed nothing d = absurd (d refl)
-- The owner of a folder that applies takes it off its list: the document's folder, then that folder's folder.
each_is_needed folder_of_document d = refutes folder_of_document (tried two_folders (changes (bind 2 2 0) ∷ []) 1 0 3 1 0) tt tt tt
each_is_needed folders_of_folders d = refutes folders_of_folders (tried two_folders (changes (bind 1 1 0) ∷ []) 1 0 3 1 0) tt tt tt
-- 1, who may edit the document's list, sets a line of it.
each_is_needed list_of_document d = refutes list_of_document (tried rivals (opens 1 0 ∷ []) 3 0 3 0 1) tt tt tt
-- 3, who may edit the list of the document's folder, sets a line of it.
each_is_needed list_of_folder d =
    refutes list_of_folder (tried two_folders (changes (set_line 3 0 5 everyone_kind 0 0) ∷ []) 1 0 3 1 0) tt tt tt
-- 1, who may edit the list that controls list 1, lets itself edit list 1.
each_is_needed lists_of_lists d =
    refutes lists_of_lists (tried three_lists (changes (set_line 1 0 2 itself_kind 1 64) ∷ opens 1 0 ∷ []) 1 0 4 0 1) tt tt tt
-- The custodian, and the owner, bind an item.
each_is_needed custodian_inside d = refutes custodian_inside (tried workshop (changes (bind 0 4 1) ∷ []) 2 0 4 0 3) tt tt tt
each_is_needed document_owner_inside d = refutes document_owner_inside (tried workshop (changes (bind 2 4 1) ∷ []) 2 0 4 0 3) tt tt tt
-- The owner of the document's folder takes the folder off its list.
each_is_needed folder_owner_inside d = refutes folder_owner_inside (tried two_folders (changes (bind 2 2 0) ∷ []) 1 0 3 1 0) tt tt tt
-- The owner of list 1 binds it to a list that lets an owner edit.
each_is_needed list_owner_inside d = refutes list_owner_inside (tried rivals (changes (bind 2 1 2) ∷ opens 2 0 ∷ []) 3 0 3 0 1) tt tt tt
-- An editor sets a line, and the holder of a role that the editor granted does.
each_is_needed editor_inside d = refutes editor_inside (tried rivals (opens 1 0 ∷ []) 3 0 3 0 1) tt tt tt
each_is_needed no_role_of_insiders d = refutes no_role_of_insiders (tried rivals (opens 3 7 ∷ []) 3 0 3 0 1) tt tt tt
-- 4 grants 5 the operation that 5 lacks, and 5 sets a line.
each_is_needed editor_without_operation d =
    refutes editor_without_operation (tried rivals (changes (set_grant 4 5 9 4 64) ∷ opens 5 9 ∷ []) 3 0 3 0 1) tt tt tt
-- 4 defines a subject below itself. The group's line allows that subject to edit, and it sets a line.
each_is_needed caller_present d =
    refutes caller_present (tried rivals (changes (define_subject 4 0 4 127) ∷ opens 6 0 ∷ []) 3 0 3 0 1) tt tt tt
-- A subject and an item that are not there yet get a row.
each_is_needed asker_present d = refutes asker_present (tried rivals (changes (define_subject 4 0 4 127) ∷ []) 6 0 3 0 64) tt tt tt
each_is_needed document_present d = refutes document_present (tried workshop (changes (create_item 2 0 1 0 0) ∷ []) 2 0 5 0 3) tt tt tt
-- A stranger grants the role that the asker claims. And the grantor of a claimed role removes its grant.
each_is_needed role_granted d = refutes role_granted (tried workshop (changes (set_grant 2 4 9 2 2) ∷ []) 4 9 3 1 3) tt tt tt
each_is_needed grantor_silent d = refutes grantor_silent (tried workshop (changes (remove_grant 2 4 7) ∷ []) 4 7 3 3 1) tt tt tt

-- With nothing left out, the claim is the one on strangers: both cover the same cases. So the claim holds too.
use Rattle.std.specs.Prelude.{Bool, true, false, not, cond, List, [], ◌∷◌, ◌≢◌, ◌≡◌, ℕ, T}
use Rattle.std.specs.List.{AllByRecursion}
use Rattle.model.specs.WhoAndWhat.{edit_list, has}
use Rattle.model.specs.Image.{Tables, tables, privileges_in}
use Rattle.model.specs.Calls.{Change, caller_of}
use Rattle.laws.specs.Tests.{all_map, all_append}
use Rattle.strangers.specs.Sequences.{Step, run, writing, Start, Followed, Insider, Stranger, Claim, Covered}
use Rattle.strangers.specs.Sequences.Start.{the_document, its_folder}
use Rattle.strangers.specs.Sequences.Followed.{its_list, list_of_followed}
use Rattle.strangers.specs.Sequences.Insider.{the_custodian, owns_document, owns_list, may_edit}
use Rattle.strangers.proofs.Demand3.{demand_3}
use Rattle.claim_cases.specs.Without.{Clause, same_clause, clauses_of_folder, clauses_of_way, clauses_of_editor, clauses_of}
use Rattle.claim_cases.specs.Without.{StrangerBut, ClaimBut, CoveredBut, Without}
use Rattle.claim_cases.specs.Without.Clause.{nothing, folder_of_document, folders_of_folders}
use Rattle.claim_cases.specs.Without.Clause.{list_of_document, list_of_folder, lists_of_lists}
use Rattle.claim_cases.specs.Without.Clause.{custodian_inside, document_owner_inside, folder_owner_inside, list_owner_inside}
use Rattle.claim_cases.specs.Without.Clause.{editor_inside, editor_without_operation}
use Rattle.claim_cases.specs.Without.Clause.{no_role_of_insiders, caller_present, asker_present, document_present}
use Rattle.claim_cases.specs.Without.Clause.{role_granted, grantor_silent}
use Rattle.claim_cases.specs.Insiders.{or_if}

distinct : (j k : Clause) → T (not (or_if (same_clause j k) false)) → j ≢ k
distinct j k = go (same_clause j k)
  where
    go : (d : Dec (j ≡ k)) → T (not (or_if d false)) → j ≢ k
    go (yes e) t = absurd t
    go (no d) t = d

folder_counts : {t : Tables} {document d : ℕ} (s : Start t document d) → AllByRecursion (λ c. nothing ≢ c) (clauses_of_folder s)
folder_counts the_document = (distinct nothing folder_of_document tt, tt)
folder_counts (its_folder s leads) = (distinct nothing folders_of_folders tt, folder_counts s)

way_counts : {t : Tables} {document a : ℕ} (f : Followed t document a) → AllByRecursion (λ c. nothing ≢ c) (clauses_of_way f)
way_counts (its_list the_document some_list) = (distinct nothing list_of_document tt, tt)
way_counts (its_list (its_folder d leads) some_list) = (distinct nothing list_of_folder tt, folder_counts d)
way_counts (list_of_followed f some_list) = (distinct nothing lists_of_lists tt, way_counts f)

editor_counts : (t : Tables) (s : ℕ) → AllByRecursion (λ c. nothing ≢ c) (clauses_of_editor t s)
editor_counts t s = go (has edit_list (privileges_in t.subjects s))
  where
    go : (b : Bool) → AllByRecursion (λ c. nothing ≢ c) (cond b [] (editor_without_operation ∷ []))
    go true = tt
    go false = (distinct nothing editor_without_operation tt, tt)

counts : {t : Tables} {document s : ℕ} (i : Insider t document s) → AllByRecursion (λ c. nothing ≢ c) (clauses_of i)
counts the_custodian = (distinct nothing custodian_inside tt, tt)
counts (owns_document the_document) = (distinct nothing document_owner_inside tt, tt)
counts (owns_document (its_folder s leads)) = (distinct nothing folder_owner_inside tt, folder_counts s)
counts (owns_list f) = (distinct nothing list_owner_inside tt, way_counts f)
counts {t} {document} {s} (may_edit f allowed) = (
  distinct nothing editor_inside tt,
  all_append (λ c. nothing ≢ c) (clauses_of_editor t s) (clauses_of_way f) (editor_counts t s) (way_counts f),
)

stranger_whole : (t : Tables) (document s : ℕ) → StrangerBut nothing t document s → Stranger t document s
stranger_whole t document s x =
    record {
      outsider =
          record {
            present = x.outsider.present (distinct nothing caller_present tt);
            outside = λ i. x.outsider.outside record { insider = i; counts = counts i };
            holds_none =
                all_map (λ g f e i. f e record { insider = i; counts = counts i }) t.grants
                (x.outsider.holds_none (distinct nothing no_role_of_insiders tt));
          };
    }

claim_whole : (t : Tables) (asker : ℕ) (added : List Change) {r : ℕ} → ClaimBut nothing t asker added r → Claim t asker added r
claim_whole t asker added ClaimBut.no_role = Claim.no_role
claim_whole t asker added (ClaimBut.granted g held others) = Claim.granted g held (others (distinct nothing grantor_silent tt))
claim_whole t asker added (ClaimBut.not_granted missing e) = absurd (distinct nothing role_granted tt e)

pub covered_whole : (stop : List ℕ) (second : List Step) (asker role document : ℕ)
    → CoveredBut nothing stop second asker role document
    → Covered stop second asker role document
covered_whole stop second asker role document covered =
    record {
      asker_present = covered.asker_there (distinct nothing asker_present tt);
      document_present = covered.document_there (distinct nothing document_present tt);
      strangers_only = all_map (λ c. stranger_whole (tables stop) document (caller_of c)) (writing second) covered.strangers_only;
      claimed = claim_whole (tables stop) asker (writing second) covered.claimed;
    }

stranger_back : (t : Tables) (document s : ℕ) → Stranger t document s → StrangerBut nothing t document s
stranger_back t document s x =
    record {
      outsider =
          record {
            present = λ d. x.outsider.present;
            outside = λ i. x.outsider.outside i.insider;
            holds_none = λ d. all_map (λ g f e i. f e i.insider) t.grants x.outsider.holds_none;
          };
    }

claim_back : (t : Tables) (asker : ℕ) (added : List Change) {r : ℕ} → Claim t asker added r → ClaimBut nothing t asker added r
claim_back t asker added Claim.no_role = ClaimBut.no_role
claim_back t asker added (Claim.granted g held others) = ClaimBut.granted g held (λ d. others)

pub whole_covered : (stop : List ℕ) (second : List Step) (asker role document : ℕ)
    → Covered stop second asker role document
    → CoveredBut nothing stop second asker role document
whole_covered stop second asker role document covered =
    record {
      asker_there = λ d. covered.asker_present;
      document_there = λ d. covered.document_present;
      strangers_only = all_map (λ c. stranger_back (tables stop) document (caller_of c)) (writing second) covered.strangers_only;
      claimed = claim_back (tables stop) asker (writing second) covered.claimed;
    }

pub nothing_left_out : Without nothing
nothing_left_out start accepted first second handed-first handed-second asker role document covered =
    demand_3 start accepted first second handed-first handed-second asker role document
    (covered_whole (run start first) second asker role document covered)

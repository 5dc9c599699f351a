-- The rules, "Who is a stranger": sequences of calls, followed lists, insiders, strangers, and the claim. Each folder that
-- applies is followed like the document.
use Rattle.std.specs.Prelude.{List, [], ◌∷◌, ◌≢◌, ◌≡◌, ℕ, T, Some}
use Rattle.model.specs.declared.GrantRow.{GrantRow}
use Rattle.std.specs.List.{AllByRecursion}
use Rattle.model.specs.WhoAndWhat.{custodian, edit_list, has}
use Rattle.model.specs.Image.{Tables, tables, item_in, subject_used, item_used}
use Rattle.model.specs.Permission.{lines_part, grant_of, applied_folder, leads_up, permission_set}
use Rattle.model.specs.Calls.{Ask, Change, caller_of, Handed}
use Rattle.model.specs.Calls.Ask.{permission_set_of}
use Rattle.model.specs.Questions.{answer, Accepted, ask, act}

-- The calls that only read the image. One of them writes numbers that it is lent beside the image.
pub data Reading : Type 0 where
  asks : Ask → Reading
  explains : (subject role item : ℕ) → Reading
  counts_holders : (item : ℕ) → (counts : List ℕ) → Reading
  shows_lines : (list : ℕ) → Reading

-- One step of a sequence: a call that may change the tables, or one that only reads. Both kinds may come in any order.
pub data Step : Type 0 where
  changes : Change → Step
  reads : Reading → Step

-- The image after a sequence. Every step works on the image that the step before it left. A refused call leaves the image
-- as it was, and so does a call that only reads.
unfoldable pub run : List ℕ → List Step → List ℕ
run img [] = img
run img (changes c ∷ steps) = run (act img c).image steps
run img (reads q ∷ steps) = run img steps

-- the calls of a sequence that may change the tables, in their order
unfoldable pub writing : List Step → List Change
writing [] = []
writing (changes c ∷ steps) = c ∷ writing steps
writing (reads q ∷ steps) = writing steps

-- the access list that controls an item, which is 0 for none, and the item's owner
abbrev pub list_of : Tables → ℕ → ℕ
list_of t i = (item_in t.items i).list.0

abbrev pub owner_of : Tables → ℕ → ℕ
owner_of t i = (item_in t.items i).owner.0

-- Who is an insider of a document, and who is a stranger. t are the tables at the stop, where the first sequence ends.
module _ (t : Tables) (document : ℕ) where
  -- The items from which lists are followed: the document, the folder that applies to it, the folder that applies to that
  -- one, and so on. The test for a folder is the one in the permission set: there is one, and its number is lower. This ends
  -- at an item to which no folder applies.
  pub data Start : ℕ → Type 0 where
    the_document : Start document
    its_folder : {d : ℕ} → Start d → T (leads_up d (applied_folder t.items d)) → Start (applied_folder t.items d)

  -- A list is followed if it controls one of these items or a list that is followed. This ends at an item without a list,
  -- and a list that comes up again adds nothing. The folders of followed lists are not followed.
  pub data Followed : ℕ → Type 0 where
    its_list : {d : ℕ} → Start d → list_of t d ≢ 0 → Followed (list_of t d)
    list_of_followed : {a : ℕ} → Followed a → list_of t a ≢ 0 → Followed (list_of t a)

  -- There are four ways to be an insider: to be the custodian, to own the document or a folder that applies, to own a
  -- followed list, or to be allowed by the lines to edit a followed list. The last means that the subject's lines' part on
  -- that list has the privilege to edit a list. The subject's own privileges and its roles do not count for that.
  pub data Insider : ℕ → Type 0 where
    the_custodian : Insider custodian
    owns_document : {d : ℕ} → Start d → Insider (owner_of t d)
    owns_list : {a : ℕ} → Followed a → Insider (owner_of t a)
    may_edit : {a s : ℕ} → Followed a → T (has edit_list (lines_part t s a)) → Insider s

  -- An outsider is a subject in use that is not an insider. And no insider is the grantor of a role that it holds.
  pub record Outsider (s : ℕ) : Type 0 where
    pub present : T (subject_used t.subjects s)
    pub outside : ¬ Insider s
    pub holds_none : AllByRecursion (λ g. g.receiver.0 ≡ s → ¬ Insider g.grantor.0) t.grants

  -- The paper's strangers are the outsiders. Nothing more is asked of them.
  pub record Stranger (s : ℕ) : Type 0 where
    pub outsider : Outsider s

-- Which role the asker may claim: 0, which is no role, or one for which it has a grant in t. In the second case the grantor
-- of that grant is not the caller of any call in `added`.
pub data Claim (t : Tables) (asker : ℕ) (added : List Change) : ℕ → Type 0 where
  no_role : Claim t asker added 0
  granted : {r : ℕ} (g : GrantRow) → grant_of t asker r ≡ Some g
      → AllByRecursion (λ c. caller_of c ≢ g.grantor.0) added
      → Claim t asker added r

-- The conditions on the second sequence, the asker, its role and the document. Each is read from the image at the stop.
pub record Covered (stop : List ℕ) (second : List Step) (asker role document : ℕ) : Type 0 where
  pub asker_present : T (subject_used (tables stop).subjects asker)
  pub document_present : T (item_used (tables stop).items document)
  pub strangers_only : AllByRecursion (λ c. Stranger (tables stop) document (caller_of c)) (writing second)
  pub claimed : Claim (tables stop) asker (writing second) role

-- What is claimed: the permission set in `later` is the one in `stop`, and the call that asks for it answers number 0 and
-- this same set on either image.
pub record Unchanged (stop later : List ℕ) (asker role document : ℕ) : Type 0 where
  pub set_same : permission_set (tables later) asker role document ≡ permission_set (tables stop) asker role document
  pub answer_then : ask stop (permission_set_of asker role document) ≡ answer 0 (permission_set (tables stop) asker role document)
  pub answer_later : ask later (permission_set_of asker role document) ≡ answer 0 (permission_set (tables stop) asker role document)

-- The claim, one statement about both whole sequences. The first starts from any accepted image and ends at the stop, where
-- the second starts. Their calls are handed any numbers of 32 bits. If the second sequence, the asker, its role and the
-- document meet the conditions above, the set and the answer are unchanged when it ends.
abbrev pub Demand3 : Type 0
Demand3 =
    (start : List ℕ)
    → Accepted start
    → (first second : List Step)
    → AllByRecursion Handed (writing first)
    → AllByRecursion Handed (writing second)
    → (asker role document : ℕ)
    → Covered (run start first) second asker role document
    → Unchanged (run start first) (run (run start first) second) asker role document

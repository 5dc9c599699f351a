-- The rules, "The questions, in their order": the questions of each call as one list, and the first
-- one answered no. Then what a call answers and leaves, for any list of bytes and any numbers.
use Rattle.std.specs.Prelude.{Option, Result, Ok, Err, Bool, ◌&&◌, ◌||◌, not, cond, List, [], ◌∷◌, ◌++◌, ◌≡◌, ℕ, ◌+◌, ◌*◌}
use Rattle.std.specs.Prelude.{length, take, drop, eqb, ltb, leb}
use Rattle.model.specs.declared.Answer.{Answer}
use Rattle.model.specs.declared.Explanation.{Explanation}
use Rattle.model.specs.declared.GrantRow.{GrantRow}
use Rattle.model.specs.declared.Layout.{Layout}
use Rattle.model.specs.declared.refusal.Refusal.{Refusal}
use Rattle.model.specs.declared.refusal.Refusal.TheVariants.{BadLength, BadLayout, BadSubjectRow, BadItemRow, BadLineRow, BadGrantRow}
use Rattle.model.specs.declared.refusal.Refusal.TheVariants.{UnusedRowNotZero, UnknownCaller, UnknownSubject, UnknownItem, BadCountsLength}
use Rattle.model.specs.declared.refusal.Refusal.TheVariants.{NotAList, OutOfRange, NotPermitted, OutsideTree, NoSuchRow, NotTheGrantor}
use Rattle.model.specs.declared.refusal.Refusal.TheVariants.{TableFull, NoEditor}
use Rattle.model.specs.Lists.{all_of, if_there, is_there, Bytes}
use Rattle.model.specs.Sorted.{find_row}
use Rattle.model.specs.Tree.{in_tree}
use Rattle.model.specs.WhoAndWhat.{custodian, define_call, create_call, set_line_call, remove_line_call}
use Rattle.model.specs.WhoAndWhat.{needed_position, positions_of, has}
use Rattle.model.specs.Image.{shortest_image, longest_image, Tables, layout_of, tables_by, tables, encode}
use Rattle.model.specs.Image.{width_of, width_in, size, line_format, grant_key, line_key, parent_in, subject_used}
use Rattle.model.specs.Image.{item_in, item_used, is_list, is_locked, none_or_list, none_or_item, flags_fit, kind_fits}
use Rattle.model.specs.Image.{layout_rules, subjects_hold, items_hold, lines_hold, grants_hold, unused_rules}
use Rattle.model.specs.Permission.{grant_of, operation_set, permission_set, explanation}
use Rattle.model.specs.Calls.{Ask, Change, holder_counts, rows_of, rows_before, lowest_editor, ask_result, after, change_result}
use Rattle.model.specs.Calls.Ask.{check_image, operation_set_of, permission_set_of, list_count, find_editor, steps_up_of}
use Rattle.model.specs.Calls.Change.{define_subject, set_grant, remove_grant, set_line, remove_line, create_item, bind, hand_over}

pub record Question : Type 0 where
  pub number : ℕ
  pub answer : Bool

infix 85 ◌asks◌
abbrev pub ◌asks◌ : ℕ → Bool → Question
n asks b = record { number = n; answer = b }

-- the number of each refusal
abbrev pub refusal_number : Refusal → ℕ
refusal_number BadLength = 1
refusal_number BadLayout = 2
refusal_number BadSubjectRow = 3
refusal_number BadItemRow = 4
refusal_number BadLineRow = 5
refusal_number BadGrantRow = 6
refusal_number UnusedRowNotZero = 7
refusal_number UnknownCaller = 10
refusal_number UnknownSubject = 11
refusal_number UnknownItem = 12
refusal_number NotAList = 13
refusal_number OutOfRange = 14
refusal_number NotPermitted = 15
refusal_number OutsideTree = 16
refusal_number NoSuchRow = 17
refusal_number NotTheGrantor = 18
refusal_number TableFull = 19
refusal_number NoEditor = 20
refusal_number BadCountsLength = 21

-- the code's result with the number of its refusal
abbrev pub by_number : {A : Type 0} → Result A Refusal → Result A ℕ
by_number (Ok x) = Ok x
by_number (Err refusal) = Err (refusal_number refusal)

-- the number of that refusal; 0 if there is none
abbrev pub refused_by : {A : Type 0} → Result A Refusal → ℕ
refused_by (Ok x) = 0
refused_by (Err refusal) = refusal_number refusal

-- x, or the refusal n where there is one
abbrev pub unless : {A : Type 0} → ℕ → A → Result A ℕ
unless n x = cond (eqb n 0) (Ok x) (Err n)

-- the refusal: the number of the first question answered no; 0 if there is none
unfoldable pub first_no : List Question → ℕ
first_no [] = 0
first_no (q ∷ qs) = cond q.answer (first_no qs) q.number

-- Questions 1 to 7, which are asked before every call, about bytes whose tables a layout describes.
abbrev pub questions_by : Layout → List ℕ → List Question
questions_by lay img =
    1 asks (leb shortest_image (length img) && leb (length img) longest_image)
    ∷ 2 asks all_of (layout_rules lay img)
    ∷ 3 asks subjects_hold (tables_by lay img)
    ∷ 4 asks items_hold (tables_by lay img)
    ∷ 5 asks lines_hold (tables_by lay img)
    ∷ 6 asks grants_hold (tables_by lay img)
    ∷ 7 asks all_of (unused_rules lay img)
    ∷ []

-- The same questions about an image, with the layout that its header gives.
unfoldable pub image_questions : List ℕ → List Question
image_questions img = questions_by (layout_of img) img

-- The other questions, by call.

unfoldable pub ask_questions : Tables → Ask → List Question
ask_questions t check_image = []
ask_questions t (operation_set_of s r) = 10 asks subject_used t.subjects s ∷ []
ask_questions t (permission_set_of s r i) = 10 asks subject_used t.subjects s ∷ 12 asks item_used t.items i ∷ []
ask_questions t (list_count a) = 13 asks is_list t.items a ∷ []
ask_questions t (find_editor a) = 13 asks is_list t.items a ∷ 20 asks is_there (lowest_editor t a) ∷ []
ask_questions t (steps_up_of s h) = 11 asks subject_used t.subjects s ∷ 11 asks subject_used t.subjects h ∷ []

unfoldable pub explain_questions : Tables → ℕ → ℕ → List Question
explain_questions t s i = 10 asks subject_used t.subjects s ∷ 12 asks item_used t.items i ∷ []

-- k is the number of the counts that are lent
unfoldable pub holders_questions : Tables → ℕ → ℕ → List Question
holders_questions t i k = 12 asks item_used t.items i ∷ 21 asks eqb k (positions_of (width_in t)) ∷ []

-- question 16 of define subject: p is in the tree of caller c, or in that of the grantor of c's grant
abbrev pub in_reach_under : Tables → ℕ → Option GrantRow → ℕ → Bool
in_reach_under t c grant p = in_tree (parent_in t.subjects) c p || if_there (λ g. in_tree (parent_in t.subjects) g.grantor.0 p) grant

abbrev pub in_reach : Tables → ℕ → ℕ → ℕ → Bool
in_reach t c r p = in_reach_under t c (grant_of t c r) p

abbrev pub grant_there : Tables → ℕ → ℕ → Bool
grant_there t s r = is_there (find_row grant_key (s ∷ r ∷ []) t.grants)

abbrev pub line_there : Tables → ℕ → ℕ → ℕ → Bool
line_there t a k s = is_there (find_row line_key (a ∷ k ∷ s ∷ []) t.lines)

-- a grant that may be missing is there, and c is its grantor
abbrev pub given_by : ℕ → Option GrantRow → Bool
given_by c = if_there (λ g. eqb g.grantor.0 c)

-- there is a grant to s under role r, and c is its grantor
abbrev pub granted_by : Tables → ℕ → ℕ → ℕ → Bool
granted_by t c s r = given_by c (find_row grant_key (s ∷ r ∷ []) t.grants)

-- question 15 of bind: c owns the item and the item is not locked, or c is the custodian
abbrev pub may_bind : Tables → ℕ → ℕ → Bool
may_bind t c i = eqb c (item_in t.items i).owner.0 && not (is_locked t.items i) || eqb c custodian

unfoldable pub questions : Tables → Change → List Question
questions t (define_subject c r p v) =
    10 asks subject_used t.subjects c
    ∷ 11 asks subject_used t.subjects p
    ∷ 15 asks has (needed_position define_call) (operation_set t c r)
    ∷ 16 asks in_reach t c r p
    ∷ 19 asks ltb (length t.subjects) t.capacities.subjects
    ∷ []
questions t (set_grant c s r d v) =
    10 asks subject_used t.subjects c
    ∷ 11 asks subject_used t.subjects s
    ∷ 11 asks subject_used t.subjects d
    ∷ 14 asks not (eqb r 0)
    ∷ 16 asks in_tree (parent_in t.subjects) c d
    ∷ 18 asks (not (grant_there t s r) || granted_by t c s r)
    ∷ 19 asks (grant_there t s r || ltb (length t.grants) t.capacities.grants)
    ∷ []
questions t (remove_grant c s r) =
    10 asks subject_used t.subjects c
    ∷ 11 asks subject_used t.subjects s
    ∷ 14 asks not (eqb r 0)
    ∷ 17 asks grant_there t s r
    ∷ 18 asks (granted_by t c s r || eqb c custodian)
    ∷ []
questions t (set_line c r a k s v) =
    10 asks subject_used t.subjects c
    ∷ 11 asks subject_used t.subjects s
    ∷ 13 asks is_list t.items a
    ∷ 14 asks kind_fits k s
    ∷ 15 asks has (needed_position set_line_call) (permission_set t c r a)
    ∷ 19 asks (line_there t a k s || ltb (length t.lines) t.capacities.lines)
    ∷ []
questions t (remove_line c r a k s) =
    10 asks subject_used t.subjects c
    ∷ 11 asks subject_used t.subjects s
    ∷ 13 asks is_list t.items a
    ∷ 14 asks kind_fits k s
    ∷ 15 asks has (needed_position remove_line_call) (permission_set t c r a)
    ∷ 17 asks line_there t a k s
    ∷ []
questions t (create_item c r a f p) =
    10 asks subject_used t.subjects c
    ∷ 12 asks none_or_item t.items p
    ∷ 13 asks none_or_list t.items a
    ∷ 14 asks flags_fit f p
    ∷ 15 asks has (needed_position create_call) (operation_set t c r)
    ∷ 19 asks ltb (length t.items) t.capacities.items
    ∷ []
questions t (bind c i a) =
    10 asks subject_used t.subjects c
    ∷ 12 asks item_used t.items i
    ∷ 13 asks none_or_list t.items a
    ∷ 15 asks may_bind t c i
    ∷ []
questions t (hand_over c i o) =
    10 asks subject_used t.subjects c
    ∷ 11 asks subject_used t.subjects o
    ∷ 12 asks item_used t.items i
    ∷ 15 asks eqb c custodian
    ∷ []

abbrev pub answer : ℕ → ℕ → Answer
answer n r = record { number = n; result = r }

-- what a call answers, in the form in which C receives it
abbrev pub answer_of : Result ℕ Refusal → Answer
answer_of (Ok r) = answer 0 r
answer_of (Err refusal) = answer (refusal_number refusal) 0

-- A refused call answers its refusal n and 0. Any other call answers 0 and its result r.
abbrev pub answered : ℕ → ℕ → Answer
answered n r = answer n (cond (eqb n 0) r 0)

-- The check of an image: its refusal, or 0.
unfoldable pub check : List ℕ → ℕ
check img = first_no (image_questions img)

-- What opening an image answers: its layout, or its tables, if every question of the check is answered yes, otherwise the
-- refusal.
unfoldable pub opened : List ℕ → Result Layout ℕ
opened img = unless (check img) (layout_of img)

unfoldable pub opened_tables : List ℕ → Result Tables ℕ
opened_tables img = unless (check img) (tables img)

-- An accepted image: a list of bytes that has no question of the check answered no.
pub record Accepted (img : List ℕ) : Type 0 where
  pub bytes : Bytes img
  pub checked : check img ≡ 0

-- What a call that asks answers.
unfoldable pub ask : List ℕ → Ask → Answer
ask img q = answered (first_no (image_questions img ++ ask_questions (tables img) q)) (ask_result (tables img) q)

-- What explain answers: the explanation. A refused question has its refusal, and 0 in every other field.
abbrev pub refused_explanation : ℕ → Explanation
refused_explanation n =
    record {
      number = n;
      rule = 0;
      group = 0;
      rule_set = 0;
      everyone_set = 0;
      role_set = 0;
      operations = 0;
      steps = 0;
      folder = 0;
    }

-- what explain answers, in the form in which C receives it
abbrev pub explanation_of : Result Explanation Refusal → Explanation
explanation_of (Ok e) = e
explanation_of (Err refusal) = refused_explanation (refusal_number refusal)

abbrev pub explained : ℕ → Explanation → Explanation
explained n e = cond (eqb n 0) e (refused_explanation n)

unfoldable pub explain : List ℕ → ℕ → ℕ → ℕ → Explanation
explain img s r i = explained (first_no (image_questions img ++ explain_questions (tables img) s i)) (explanation (tables img) s r i)

-- The outcome of count holders: its answer, whose result is 0, and the lent counts afterwards. They are overwritten. A refused
-- call changes none of them.
pub record Counting : Type 0 where
  pub answer : Answer
  pub counts : List ℕ

abbrev pub counting : ℕ → List ℕ → List ℕ → Counting
counting n old new = record { answer = answered n 0; counts = cond (eqb n 0) new old }

unfoldable pub count_holders : List ℕ → ℕ → List ℕ → Counting
count_holders img i old =
    counting (first_no (image_questions img ++ holders_questions (tables img) i (length old))) old
    (holder_counts (tables img) i (length old))

-- The outcome of a call that writes: its answer, and the image afterwards. A refused call changes no byte.
pub record Outcome : Type 0 where
  pub answer : Answer
  pub image : List ℕ

abbrev pub settle : ℕ → ℕ → List ℕ → List ℕ → Outcome
settle n r old new = record { answer = answered n r; image = cond (eqb n 0) new old }

unfoldable pub act : List ℕ → Change → Outcome
act img c =
    settle (first_no (image_questions img ++ questions (tables img) c)) (change_result (tables img) c) img
    (encode (after (tables img) c))

-- Lines of a list: the slice of the image with the list's rows, as the offset of its first byte and its length. If the call is
-- refused or the list has no rows, it is the empty slice at offset 0.
abbrev pub shows : List ℕ → ℕ → Bool
shows img a = eqb (ask img (list_count a)).number 0 && not (eqb (ask img (list_count a)).result 0)

unfoldable pub list_start : List ℕ → ℕ → ℕ
list_start img a =
    cond (shows img a)
    ((layout_of img).lines.start + length (rows_before a (tables img).lines) * size (line_format (width_of (layout_of img))))
    0

unfoldable pub list_extent : List ℕ → ℕ → ℕ
list_extent img a = cond (shows img a) (length (rows_of a (tables img).lines) * size (line_format (width_of (layout_of img)))) 0

abbrev pub list_slice : List ℕ → ℕ → List ℕ
list_slice img a = take (list_extent img a) (drop (list_start img a) img)

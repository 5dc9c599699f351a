-- The sample workshop: the tables, and the twelve sets that are proved. Then the explanation of each of them, how many
-- subjects hold each position, owners without an owner line, whom the editor search names, how many steps lead up from one
-- subject to another, and items in folders.
use Rattle.std.specs.Prelude.{Bool, ◌&&◌, List, [], ◌∷◌, ◌++◌, ℕ, eqb, replicate}
use Rattle.model.specs.declared.Answer.{Answer}
use Rattle.model.specs.declared.Explanation.{Explanation}
use Rattle.model.specs.Tree.{outside}
use Rattle.model.specs.WhoAndWhat.{everything}
use Rattle.model.specs.declared.ItemRow.{ItemRow}
use Rattle.model.specs.Image.{Tables, encode, subject_row, grant_row, line_row, item_row}
use Rattle.model.specs.Image.{itself_kind, group_kind, owner_kind, everyone_kind}
use Rattle.model.specs.Calls.{Change, after}
use Rattle.model.specs.Calls.Ask.{check_image, permission_set_of, find_editor, steps_up_of}
use Rattle.model.specs.Calls.Change.{set_grant, set_line, remove_line, create_item, bind, hand_over}
use Rattle.model.specs.Questions.{answer, ask, act, refused_explanation, explain, Counting, count_holders}

-- Each table has one free row.
unfoldable pub workshop : Tables
workshop =
    record {
      subjects =
          subject_row 0 (everything 4) 0
          ∷ subject_row 0 127 0
          ∷ subject_row 1 91 1
          ∷ subject_row 0 73 0
          ∷ subject_row 3 9 0
          ∷ subject_row 2 3 1
          ∷ [];
      grants = grant_row 4 7 2 2 3 ∷ [];
      lines =
          line_row 1 itself_kind 4 8
          ∷ line_row 1 itself_kind 5 0
          ∷ line_row 1 group_kind 1 3
          ∷ line_row 1 owner_kind 0 7
          ∷ line_row 1 everyone_kind 0 1
          ∷ [];
      items = item_row 1 1 1 0 ∷ item_row 2 1 0 0 ∷ item_row 4 1 0 0 ∷ item_row 2 0 0 0 ∷ [];
      capacities = record { subjects = 7; grants = 2; lines = 6; items = 5 };
    }

pub record Case : Type 0 where
  pub asker : ℕ
  pub role : ℕ
  pub item : ℕ
  pub set : ℕ

abbrev case : ℕ → ℕ → ℕ → ℕ → Case
case s r i p = record { asker = s; role = r; item = i; set = p }

abbrev pub twelve : List Case
twelve =
    case 2 0 2 3
    ∷ case 2 0 3 3
    ∷ case 5 0 2 1
    ∷ case 4 0 2 9
    ∷ case 4 7 2 11
    ∷ case 4 0 3 1
    ∷ case 4 7 3 3
    ∷ case 4 9 2 9
    ∷ case 1 0 2 1
    ∷ case 3 0 2 1
    ∷ case 2 0 4 0
    ∷ case 0 0 4 4294967295
    ∷ []

-- asked on an image, the permission set call answers number 0 and the set of the case
abbrev pub right : List ℕ → Case → Bool
right img c =
    eqb (ask img (permission_set_of c.asker c.role c.item)).number 0
    && eqb (ask img (permission_set_of c.asker c.role c.item)).result c.set

-- The explanations of these cases, in the same order: the rule's number, the group, what the rule gives, what everyone's line and
-- the role add, the operation set, and the steps from the item's owner up to the grant's domain. No folder applies. `because_in`
-- is the same on an item to which a folder applies.
abbrev because_in : ℕ → ℕ → ℕ → ℕ → ℕ → ℕ → ℕ → ℕ → Explanation
because_in folder rule group given everyone role operations steps =
    record {
      number = 0;
      rule = rule;
      group = group;
      rule_set = given;
      everyone_set = everyone;
      role_set = role;
      operations = operations;
      steps = steps;
      folder = folder;
    }

abbrev because : ℕ → ℕ → ℕ → ℕ → ℕ → ℕ → ℕ → Explanation
because = because_in 0

abbrev pub reasons : List Explanation
reasons =
    because 2 0 7 1 0 91 outside
    ∷ because 4 1 3 1 0 91 outside
    ∷ because 3 0 0 1 0 3 outside
    ∷ because 3 0 8 1 0 9 outside
    ∷ because 3 0 8 1 3 11 0
    ∷ because 2 0 7 1 0 9 outside
    ∷ because 2 0 7 1 0 11 outside
    ∷ because 3 0 8 1 0 9 outside
    ∷ because 5 0 0 1 0 127 outside
    ∷ because 5 0 0 1 0 73 outside
    ∷ because 5 0 0 0 0 91 outside
    ∷ because 1 0 4294967295 0 0 4294967295 outside
    ∷ []

-- asked on an image, the explanation of a case
abbrev pub explained_case : List ℕ → Case → Explanation
explained_case img c = explain img c.asker c.role c.item

-- Three more questions: the custodian on an item whose list has a line for everyone, a subject that is not in use, and an item
-- that is not in use. Their sets are not looked at.
abbrev pub further_cases : List Case
further_cases = case 0 0 2 0 ∷ case 6 0 2 0 ∷ case 2 0 5 0 ∷ []

abbrev pub further_reasons : List Explanation
further_reasons = because 1 0 4294967295 0 0 4294967295 outside ∷ refused_explanation 10 ∷ refused_explanation 12 ∷ []

-- Count holders on item i with k lent counts, each of which is 9 before the call.
pub record Count : Type 0 where
  pub item : ℕ
  pub entries : ℕ

abbrev count : ℕ → ℕ → Count
count i k = record { item = i; entries = k }

abbrev lent : ℕ → List ℕ
lent k = replicate k 9

abbrev pub counted_case : List ℕ → Count → Counting
counted_case img c = count_holders img c.item (lent c.entries)

-- Each item; then an item that is not in use, one count too few, one too many, and both an item that is not in use and one count
-- too few.
abbrev pub count_cases : List Count
count_cases = count 1 32 ∷ count 2 32 ∷ count 3 32 ∷ count 4 32 ∷ count 5 32 ∷ count 2 31 ∷ count 2 33 ∷ count 5 31 ∷ []

-- the numbers for read, replace, discard and annotate; every other position is held by the custodian alone
abbrev held : ℕ → ℕ → ℕ → ℕ → Counting
held a b c d = record { answer = answer 0 0; counts = a ∷ b ∷ c ∷ d ∷ replicate 28 1 }

-- refused with n, and the k lent counts as they were
abbrev untouched : ℕ → ℕ → Counting
untouched n k = record { answer = answer n 0; counts = lent k }

abbrev pub count_outcomes : List Counting
count_outcomes =
    held 6 3 2 2
    ∷ held 6 2 1 2
    ∷ held 6 2 1 1
    ∷ held 1 1 1 1
    ∷ untouched 12 32
    ∷ untouched 21 31
    ∷ untouched 21 33
    ∷ untouched 12 31
    ∷ []

-- The workshop after two calls by the custodian: the owner line is removed from list 1, and item 1 is handed over to 5.
abbrev pub without_owner_line : Tables
without_owner_line = after (after workshop (remove_line 0 0 1 owner_kind 0)) (hand_over 0 1 5)

-- Three owners, their sets and the explanations of these. 4 has an own line, 5 an own line without privileges, though the group
-- of 1 would give it more, and 2 has none.
abbrev pub owner_cases : List Case
owner_cases = case 4 0 3 9 ∷ case 5 0 1 1 ∷ case 2 0 2 3 ∷ []

abbrev pub owner_reasons : List Explanation
owner_reasons = because 3 0 8 1 0 9 outside ∷ because 3 0 0 1 0 3 outside ∷ because 4 1 3 1 0 91 outside ∷ []

-- Whom the editor search names. 64 is the set with the privilege to edit a list alone. In the workshop nobody but the custodian has
-- it on list 1. One line after the other then makes 3 an editor, 2, which is in the group of 1, and 1, which owns the list.
abbrev one_editor : Tables
one_editor = after workshop (set_line 0 0 1 itself_kind 3 64)

abbrev two_editors : Tables
two_editors = after one_editor (set_line 0 0 1 group_kind 1 64)

abbrev three_editors : Tables
three_editors = after two_editors (set_line 0 0 1 owner_kind 0 64)

-- When 4 owns the list, 1 may edit it only under a role: 3 grants it role 8.
abbrev editor_by_role : Tables
editor_by_role = after (after three_editors (hand_over 0 1 4)) (set_grant 3 1 8 3 64)

-- the editor search for a list on the image of some tables, with the number and the result that it answers
pub record EditorSearch : Type 0 where
  pub tables : Tables
  pub list : ℕ
  pub number : ℕ
  pub result : ℕ

abbrev editor_search : Tables → ℕ → ℕ → ℕ → EditorSearch
editor_search t a n s = record { tables = t; list = a; number = n; result = s }

abbrev named : EditorSearch → Answer
named c = ask (encode c.tables) (find_editor c.list)

abbrev pub named_right : EditorSearch → Bool
named_right c = eqb (named c).number c.number && eqb (named c).result c.result

-- Each of the tables above, the last first; then the workshop: a list without an editor, an item that is no list, and an item that
-- is not in use.
abbrev pub editor_searches : List EditorSearch
editor_searches =
    editor_search editor_by_role 1 0 2
    ∷ editor_search three_editors 1 0 1
    ∷ editor_search two_editors 1 0 2
    ∷ editor_search one_editor 1 0 3
    ∷ editor_search workshop 1 20 0
    ∷ editor_search workshop 2 13 0
    ∷ editor_search workshop 5 13 0
    ∷ []

-- The steps that the call answers in the workshop, from one subject up to another, with its number and its result. 5 is below 2,
-- which is below 1; 1 created both, and the custodian created 4, which is below 3. Subject 6 is not in use.
pub record StepsCase : Type 0 where
  pub subject : ℕ
  pub root : ℕ
  pub number : ℕ
  pub result : ℕ

abbrev steps_case : ℕ → ℕ → ℕ → ℕ → StepsCase
steps_case s h n k = record { subject = s; root = h; number = n; result = k }

abbrev climbed : List ℕ → StepsCase → Answer
climbed img c = ask img (steps_up_of c.subject c.root)

abbrev pub climbed_right : List ℕ → StepsCase → Bool
climbed_right img c = eqb (climbed img c).number c.number && eqb (climbed img c).result c.result

abbrev pub steps_cases : List StepsCase
steps_cases =
    steps_case 5 2 0 1
    ∷ steps_case 5 1 0 2
    ∷ steps_case 5 0 0 3
    ∷ steps_case 5 5 0 0
    ∷ steps_case 0 0 0 0
    ∷ steps_case 4 3 0 1
    ∷ steps_case 4 1 0 outside
    ∷ steps_case 2 5 0 outside
    ∷ steps_case 6 0 11 0
    ∷ steps_case 5 6 11 0
    ∷ []

-- When item 2 is handed over to 5, its owner is one step below 2, the domain of the grant that 4 holds under role 7.
abbrev pub lower_owner : Tables
lower_owner = after workshop (hand_over 0 2 5)

abbrev pub lower_owner_cases : List Case
lower_owner_cases = case 4 7 2 11 ∷ []

abbrev pub lower_owner_reasons : List Explanation
lower_owner_reasons = because 3 0 8 1 3 11 1 ∷ []

-- The workshop with items in folders: 5 is in folder 3 and 6 in folder 5, and both apply. 7 is in folder 4, on which only the
-- custodian has a set, and which does not apply. 8 is in folder 7, which does.
abbrev hall_of : List ItemRow → Tables
hall_of more =
    record {
      subjects = workshop.subjects;
      grants = workshop.grants;
      lines = workshop.lines;
      items = workshop.items ++ more;
      capacities = record { subjects = 7; grants = 2; lines = 6; items = 9 };
    }

abbrev pub hall : Tables
hall = hall_of (item_row 2 1 4 3 ∷ item_row 2 1 4 5 ∷ item_row 2 1 0 4 ∷ item_row 2 1 4 7 ∷ [])

-- The own set of 4 is 9 on 5 and on 6, but 1 on 3. Under role 7, which reaches the items of 2, it is 11 on these and 3 on 3.
abbrev pub hall_cases : List Case
hall_cases = case 4 0 5 1 ∷ case 4 0 6 1 ∷ case 4 7 6 3 ∷ case 2 0 7 3 ∷ case 2 0 8 3 ∷ case 0 0 6 4294967295 ∷ []

abbrev pub hall_reasons : List Explanation
hall_reasons =
    because_in 3 3 0 8 1 0 9 outside
    ∷ because_in 5 3 0 8 1 0 9 outside
    ∷ because_in 5 3 0 8 1 3 11 0
    ∷ because 2 0 7 1 0 91 outside
    ∷ because_in 7 2 0 7 1 0 91 outside
    ∷ because_in 5 1 0 4294967295 0 0 4294967295 outside
    ∷ []

-- Item 6 after two calls by the custodian: bound to its list anew, and handed over to 4. It stays in its folder.
abbrev pub moved_hall : Tables
moved_hall = after (after hall (bind 0 6 1)) (hand_over 0 6 4)

abbrev pub moved_cases : List Case
moved_cases = case 2 0 6 3 ∷ []

abbrev pub moved_reasons : List Explanation
moved_reasons = because_in 5 4 1 3 1 0 91 outside ∷ []

-- A fifth item that breaks a rule: its folder is the item itself, or comes after it; a folder applies, and there is none; flags
-- that have a bit without a meaning. Then one that breaks none, in a folder that does not apply.
abbrev pub fifth_items : List ItemRow
fifth_items = item_row 2 1 0 5 ∷ item_row 2 1 4 6 ∷ item_row 2 1 4 0 ∷ item_row 2 1 8 0 ∷ item_row 2 1 3 4 ∷ []

abbrev pub checked_with : ItemRow → ℕ
checked_with x = (ask (encode (hall_of (x ∷ []))) check_image).number

abbrev pub fifth_checks : List ℕ
fifth_checks = 4 ∷ 4 ∷ 4 ∷ 4 ∷ 0 ∷ []

-- Create item by 1 in the hall, which has eight items: in folder 6; with a folder and a list that are not in use; with a list that
-- is none and flags that do not fit; with a folder that applies and is none; with flags that are too high.
abbrev pub creations : List Change
creations =
    create_item 1 0 1 4 6
    ∷ create_item 1 0 9 0 9
    ∷ create_item 1 0 2 4 0
    ∷ create_item 1 0 1 4 0
    ∷ create_item 1 0 1 8 6
    ∷ []

abbrev pub created : Change → Answer
created c = (act (encode hall) c).answer

abbrev pub creation_answers : List Answer
creation_answers = answer 0 9 ∷ answer 12 0 ∷ answer 13 0 ∷ answer 14 0 ∷ answer 14 0 ∷ []

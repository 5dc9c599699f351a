-- The rules, "The calls": what each call answers, and the tables that it leaves, if it is not refused.
-- The arguments of a call are plain numbers here, in the order in which the call takes them.
use Rattle.std.specs.Prelude.{Bool, ◌&&◌, not, cond, List, [], ◌∷◌, ◌++◌, ℕ, zero, suc, ◌<◌, ◌^◌, length, set, eqb, ltb, Option, unwrap_or}
use Rattle.model.specs.declared.SubjectRow.{SubjectRow}
use Rattle.model.specs.declared.GrantRow.{GrantRow}
use Rattle.model.specs.declared.LineRow.{LineRow}
use Rattle.model.specs.declared.ItemRow.{ItemRow}
use Rattle.std.specs.List.{AllByRecursion}
use Rattle.model.specs.Lists.{how_many, of_each, lowest_passing, select}
use Rattle.model.specs.Sorted.{put, cut}
use Rattle.model.specs.Tree.{steps_up, steps_number}
use Rattle.model.specs.WhoAndWhat.{custodian, edit_list, has, ◌∩◌}
use Rattle.model.specs.Image.{Tables, subject_row, grant_row, line_row, item_row, with_list}
use Rattle.model.specs.Image.{with_owner, grant_key, line_key, parent_in, privileges_in, item_in}
use Rattle.model.specs.Permission.{operation_set, permission_set}

-- The calls that only ask and whose result is one number.
pub data Ask : Type 0 where
  check_image : Ask
  operation_set_of : (subject role : ℕ) → Ask
  permission_set_of : (subject role item : ℕ) → Ask
  list_count : (list : ℕ) → Ask
  find_editor : (list : ℕ) → Ask
  steps_up_of : (subject root : ℕ) → Ask

-- The calls that write the image.
pub data Change : Type 0 where
  define_subject : (caller role parent privileges : ℕ) → Change
  set_grant : (caller receiver role domain privileges : ℕ) → Change
  remove_grant : (caller receiver role : ℕ) → Change
  set_line : (caller role list kind subject privileges : ℕ) → Change
  remove_line : (caller role list kind subject : ℕ) → Change
  create_item : (caller role list flags folder : ℕ) → Change
  bind : (caller item list : ℕ) → Change
  hand_over : (caller item new_owner : ℕ) → Change

-- who makes the call
abbrev pub caller_of : Change → ℕ
caller_of (define_subject c r p v) = c
caller_of (set_grant c s r d v) = c
caller_of (remove_grant c s r) = c
caller_of (set_line c r a k s v) = c
caller_of (remove_line c r a k s) = c
caller_of (create_item c r a f p) = c
caller_of (bind c i a) = c
caller_of (hand_over c i o) = c

-- the numbers that a call is handed, without its privilege set
abbrev pub numbers_of : Change → List ℕ
numbers_of (define_subject c r p v) = c ∷ r ∷ p ∷ []
numbers_of (set_grant c s r d v) = c ∷ s ∷ r ∷ d ∷ []
numbers_of (remove_grant c s r) = c ∷ s ∷ r ∷ []
numbers_of (set_line c r a k s v) = c ∷ r ∷ a ∷ k ∷ s ∷ []
numbers_of (remove_line c r a k s) = c ∷ r ∷ a ∷ k ∷ s ∷ []
numbers_of (create_item c r a f p) = c ∷ r ∷ a ∷ f ∷ p ∷ []
numbers_of (bind c i a) = c ∷ i ∷ a ∷ []
numbers_of (hand_over c i o) = c ∷ i ∷ o ∷ []

-- the privilege set that a call is handed, if it is handed one
abbrev pub sets_of : Change → List ℕ
sets_of (define_subject c r p v) = v ∷ []
sets_of (set_grant c s r d v) = v ∷ []
sets_of (remove_grant c s r) = []
sets_of (set_line c r a k s v) = v ∷ []
sets_of (remove_line c r a k s) = []
sets_of (create_item c r a f p) = []
sets_of (bind c i a) = []
sets_of (hand_over c i o) = []

-- Every number and privilege set that the call is handed has at most 32 bits.
abbrev pub Handed : Change → Type 0
Handed c = AllByRecursion (λ v. v < 2 ^ 32) (numbers_of c) × AllByRecursion (λ v. v < 2 ^ 32) (sets_of c)

-- Count holders: how many subjects in use hold position n on item i, which means that their permission set under
-- role 0 has it. The custodian is one of those who are looked at. Then these numbers for the first k positions, in their order.
unfoldable pub holders : Tables → ℕ → ℕ → ℕ
holders t i n = how_many (λ s. has n (permission_set t s 0 i)) (length t.subjects)

unfoldable pub holder_counts : Tables → ℕ → ℕ → List ℕ
holder_counts t i k = of_each (holders t i) k

-- Lines of a list: its rows, and the rows of lists with a lower number, which stand before them in the table.
abbrev pub rows_of : ℕ → List LineRow → List LineRow
rows_of a lines = select (λ l. eqb l.list.0 a) lines

abbrev pub rows_before : ℕ → List LineRow → List LineRow
rows_before a lines = select (λ l. ltb l.list.0 a) lines

-- Editor search: s is an editor of list a if it is not the custodian and its permission set on a, under role 0, has the privilege
-- to edit a list. The search names the lowest subject in use that is one.
abbrev pub is_editor : Tables → ℕ → ℕ → Bool
is_editor t a s = not (eqb s custodian) && has edit_list (permission_set t s 0 a)

unfoldable pub lowest_editor : Tables → ℕ → Option ℕ
lowest_editor t a = lowest_passing (is_editor t a) (length t.subjects)

-- The result of a call that asks.
unfoldable pub ask_result : Tables → Ask → ℕ
ask_result t check_image = 0
ask_result t (operation_set_of s r) = operation_set t s r
ask_result t (permission_set_of s r i) = permission_set t s r i
ask_result t (list_count a) = length (rows_of a t.lines)
ask_result t (find_editor a) = unwrap_or (lowest_editor t a) 0
ask_result t (steps_up_of s h) = steps_number (steps_up (parent_in t.subjects) s h)

-- The tables with the rows of one of them replaced and all else kept.

abbrev pub with_subjects : Tables → List SubjectRow → Tables
with_subjects t rows = record { subjects = rows; grants = t.grants; lines = t.lines; items = t.items; capacities = t.capacities }

abbrev pub with_grants : Tables → List GrantRow → Tables
with_grants t rows = record { subjects = t.subjects; grants = rows; lines = t.lines; items = t.items; capacities = t.capacities }

abbrev pub with_lines : Tables → List LineRow → Tables
with_lines t rows = record { subjects = t.subjects; grants = t.grants; lines = rows; items = t.items; capacities = t.capacities }

abbrev pub with_items : Tables → List ItemRow → Tables
with_items t rows = record { subjects = t.subjects; grants = t.grants; lines = t.lines; items = rows; capacities = t.capacities }

-- the items with the row of item i replaced; 0 is no item, so it changes nothing
abbrev pub set_item : List ItemRow → ℕ → ItemRow → List ItemRow
set_item rows zero r = rows
set_item rows (suc n) r = set rows n r

-- The privileges of a new subject. If the custodian defines it, they are the set v that the call was handed. If another
-- caller c defines it, they are the privileges that both v and c's own row have.
abbrev pub new_privileges : Tables → ℕ → ℕ → ℕ
new_privileges t c v = cond (eqb c custodian) v (v ∩ privileges_in t.subjects c)

-- The tables after a call that is not refused.
unfoldable pub after : Tables → Change → Tables
after t (define_subject c r p v) = with_subjects t (t.subjects ++ subject_row p (new_privileges t c v) c ∷ [])
after t (set_grant c s r d v) = with_grants t (put grant_key (grant_row s r c d v) t.grants)
after t (remove_grant c s r) = with_grants t (cut grant_key (s ∷ r ∷ []) t.grants)
after t (set_line c r a k s v) = with_lines t (put line_key (line_row a k s v) t.lines)
after t (remove_line c r a k s) = with_lines t (cut line_key (a ∷ k ∷ s ∷ []) t.lines)
after t (create_item c r a f p) = with_items t (t.items ++ item_row c a f p ∷ [])
after t (bind c i a) = with_items t (set_item t.items i (with_list (item_in t.items i) a))
after t (hand_over c i o) = with_items t (set_item t.items i (with_owner (item_in t.items i) o))

-- The result of that call: the number of the new subject or of the new item; for every other call, 0.
unfoldable pub change_result : Tables → Change → ℕ
change_result t (define_subject c r p v) = length t.subjects
change_result t (set_grant c s r d v) = 0
change_result t (remove_grant c s r) = 0
change_result t (set_line c r a k s v) = 0
change_result t (remove_line c r a k s) = 0
change_result t (create_item c r a f p) = suc (length t.items)
change_result t (bind c i a) = 0
change_result t (hand_over c i o) = 0

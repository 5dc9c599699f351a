-- The rules, "The image, byte by byte": bytes to tables, tables to bytes, and the rules of the rows and of the layout.
use Rattle.std.specs.Prelude.{Bool, false, ◌&&◌, ◌||◌, not, cond, List, [], ◌∷◌, ◌++◌, ℕ, zero, suc, ◌+◌, ◌-◌, ◌*◌}
use Rattle.std.specs.Prelude.{◌≡◌, ◌<◌, Result, Ok, Err, ◌/◌, ◌%◌, ◌^◌, length, get_or, take, drop, replicate, eqb, ltb, leb}
use Rattle.model.specs.declared.SubjectRow.{SubjectRow}
use Rattle.model.specs.declared.GrantRow.{GrantRow}
use Rattle.model.specs.declared.LineRow.{LineRow}
use Rattle.model.specs.declared.ItemRow.{ItemRow}
use Rattle.model.specs.declared.Table.{Table}
use Rattle.model.specs.declared.Layout.{Layout}
use Rattle.model.specs.declared.Kind.{Kind}
use Rattle.model.specs.declared.Kind.TheVariants.{Itself, Group, Owner, Everyone}
use Rattle.model.specs.declared.UnknownKind.{UnknownKind}
use Rattle.model.specs.Lists.{all_of, total, every, every_numbered, zeros}
use Rattle.model.specs.Sorted.{ascending}
use Rattle.model.specs.Tree.{in_tree}
use Rattle.model.specs.WhoAndWhat.{privilege_width, everything, has, within}

-- How many bytes the shortest and the longest image have.

abbrev pub shortest_image : ℕ
shortest_image = 36

abbrev pub longest_image : ℕ
longest_image = 65536

-- The fields. A field is a number in k bytes, the lowest byte first. A field that runs past the end of the bytes reads as 0.

abbrev pub value : List ℕ → ℕ
value [] = 0
value (b ∷ bs) = b + 256 * value bs

abbrev pub bytes_of : ℕ → ℕ → List ℕ
bytes_of zero v = []
bytes_of (suc k) v = v % 256 ∷ bytes_of k (v / 256)

unfoldable pub field_at : ℕ → List ℕ → ℕ → ℕ
field_at k s at = cond (leb (at + k) (length s)) (value (take k (drop at s))) 0

-- A row is its fields, one after the other. ws says how many bytes each field has.

abbrev pub fields_at : List ℕ → List ℕ → ℕ → List ℕ
fields_at [] s at = []
fields_at (w ∷ ws) s at = field_at w s at ∷ fields_at ws s (at + w)

abbrev pub row_bytes : List ℕ → List ℕ → List ℕ
row_bytes [] vs = []
row_bytes (w ∷ ws) [] = []
row_bytes (w ∷ ws) (v ∷ vs) = bytes_of w v ++ row_bytes ws vs

-- How the rows of one table are written: how many bytes each field has, the numbers in a row's fields, and the row with
-- given numbers.
pub record Format (A : Type 0) : Type 0 where
  pub widths : List ℕ
  pub numbers : A → List ℕ
  pub row : List ℕ → A

module _ {A : Type 0} (f : Format A) where
  abbrev pub size : ℕ
  size = total f.widths

  -- the row that s begins with; if s is shorter than a row, the row of zeros. So a row is read with one test for all its
  -- fields. No call shows the difference: question 2 refuses an image whose tables run past its end.
  abbrev pub first_row : List ℕ → A
  first_row s = f.row (cond (leb size (length s)) (fields_at f.widths s 0) (replicate (length f.widths) 0))

  -- the bytes of a row
  abbrev pub row_in_bytes : A → List ℕ
  row_in_bytes x = row_bytes f.widths (f.numbers x)

abbrev pub subject_row : ℕ → ℕ → ℕ → SubjectRow
subject_row parent privileges creator = record { parent = record { 0 = parent }; privileges = privileges; creator = record { 0 = creator } }

abbrev pub grant_row : ℕ → ℕ → ℕ → ℕ → ℕ → GrantRow
grant_row receiver role grantor domain privileges =
    record {
      receiver = record { 0 = receiver };
      role = record { 0 = role };
      grantor = record { 0 = grantor };
      domain = record { 0 = domain };
      privileges = privileges;
    }

abbrev pub line_row : ℕ → ℕ → ℕ → ℕ → LineRow
line_row list kind subject privileges =
    record { list = record { 0 = list }; kind = kind; subject = record { 0 = subject }; privileges = privileges }

abbrev pub item_row : ℕ → ℕ → ℕ → ℕ → ItemRow
item_row owner list flags folder =
    record { owner = record { 0 = owner }; list = record { 0 = list }; flags = flags; folder = record { 0 = folder } }

-- an item's row with another list, and with another owner; its folder never changes

abbrev pub with_list : ItemRow → ℕ → ItemRow
with_list i a = item_row i.owner.0 a i.flags i.folder.0

abbrev pub with_owner : ItemRow → ℕ → ItemRow
with_owner i o = item_row o i.list.0 i.flags i.folder.0

-- the rows whose fields are all 0

abbrev pub no_subject : SubjectRow
no_subject = subject_row 0 0 0

abbrev pub no_grant : GrantRow
no_grant = grant_row 0 0 0 0 0

abbrev pub no_line : LineRow
no_line = line_row 0 0 0 0

abbrev pub no_item : ItemRow
no_item = item_row 0 0 0 0

-- The formats of the four tables. w is how many bytes a privilege field has.
abbrev pub subject_format : ℕ → Format SubjectRow
subject_format w =
    record {
      widths = 4 ∷ w ∷ 4 ∷ [];
      numbers = λ s. s.parent.0 ∷ s.privileges ∷ s.creator.0 ∷ [];
      row = λ v. subject_row (get_or v 0 0) (get_or v 1 0) (get_or v 2 0);
    }

abbrev pub grant_format : ℕ → Format GrantRow
grant_format w =
    record {
      widths = 4 ∷ 4 ∷ 4 ∷ 4 ∷ w ∷ [];
      numbers = λ g. g.receiver.0 ∷ g.role.0 ∷ g.grantor.0 ∷ g.domain.0 ∷ g.privileges ∷ [];
      row = λ v. grant_row (get_or v 0 0) (get_or v 1 0) (get_or v 2 0) (get_or v 3 0) (get_or v 4 0);
    }

abbrev pub line_format : ℕ → Format LineRow
line_format w =
    record {
      widths = 4 ∷ 4 ∷ 4 ∷ w ∷ [];
      numbers = λ l. l.list.0 ∷ l.kind ∷ l.subject.0 ∷ l.privileges ∷ [];
      row = λ v. line_row (get_or v 0 0) (get_or v 1 0) (get_or v 2 0) (get_or v 3 0);
    }

abbrev pub item_format : Format ItemRow
item_format =
    record {
      widths = 4 ∷ 4 ∷ 4 ∷ 4 ∷ [];
      numbers = λ i. i.owner.0 ∷ i.list.0 ∷ i.flags ∷ i.folder.0 ∷ [];
      row = λ v. item_row (get_or v 0 0) (get_or v 1 0) (get_or v 2 0) (get_or v 3 0);
    }

-- The capacities of the four tables, in rows. No call changes them.
pub record Capacities : Type 0 where
  pub subjects : ℕ
  pub grants : ℕ
  pub lines : ℕ
  pub items : ℕ

-- The four tables: their rows in use, and their capacities.
pub record Tables : Type 0 where
  pub subjects : List SubjectRow
  pub grants : List GrantRow
  pub lines : List LineRow
  pub items : List ItemRow
  pub capacities : Capacities

-- Bytes to tables. The header has nine fields. For each table, in the order subjects, grants, lines, items, there are two: how
-- many rows are in use, and the offset at which the table starts. The ninth field records the length of the whole image.

abbrev pub header_widths : List ℕ
header_widths = replicate 9 4

abbrev pub header_size : ℕ
header_size = total header_widths

-- field n of the header, counted from 0
abbrev pub header_field : List ℕ → ℕ → ℕ
header_field img n = field_at 4 img (n * 4)

-- the layout that the header gives: a table ends where the next one starts, and the last one at the recorded length
unfoldable pub layout_of : List ℕ → Layout
layout_of img =
    record {
      subjects = record { used = header_field img 0; start = header_field img 1; end = header_field img 3 };
      grants = record { used = header_field img 2; start = header_field img 3; end = header_field img 5 };
      lines = record { used = header_field img 4; start = header_field img 5; end = header_field img 7 };
      items = record { used = header_field img 6; start = header_field img 7; end = header_field img 8 };
    }

-- how many bytes a privilege field has, in an image and in its tables
abbrev pub width_of : Layout → ℕ
width_of lay = privilege_width

abbrev pub width_in : Tables → ℕ
width_in t = privilege_width

-- the capacity of a table whose rows have n bytes
abbrev pub capacity_by : ℕ → Table → ℕ
capacity_by n t = (t.end - t.start) / n

module _ {A : Type 0} (f : Format A) where
  -- the first n rows of s
  abbrev pub rows_from : ℕ → List ℕ → List A
  rows_from zero s = []
  rows_from (suc n) s = first_row f s ∷ rows_from n (drop (size f) s)

  -- a table's rows in use, and its capacity
  unfoldable pub rows_in : Table → List ℕ → List A
  rows_in t img = rows_from t.used (drop t.start img)

  abbrev pub capacity : Table → ℕ
  capacity t = capacity_by (size f) t

abbrev pub capacities_by : Layout → Capacities
capacities_by lay =
    record {
      subjects = capacity (subject_format (width_of lay)) lay.subjects;
      grants = capacity (grant_format (width_of lay)) lay.grants;
      lines = capacity (line_format (width_of lay)) lay.lines;
      items = capacity item_format lay.items;
    }

unfoldable pub tables_by : Layout → List ℕ → Tables
tables_by lay img =
    record {
      subjects = rows_in (subject_format (width_of lay)) lay.subjects img;
      grants = rows_in (grant_format (width_of lay)) lay.grants img;
      lines = rows_in (line_format (width_of lay)) lay.lines img;
      items = rows_in item_format lay.items img;
      capacities = capacities_by lay;
    }

abbrev pub tables : List ℕ → Tables
tables img = tables_by (layout_of img) img

-- Tables to bytes. A table's block is its rows in use, then zeros up to its capacity. `extent` is how many bytes it has. The
-- header's numbers are computed from the blocks, so that one law about a block serves every table.

pub record Block : Type 0 where
  pub used : ℕ
  pub extent : ℕ
  pub bytes : List ℕ

module _ {A : Type 0} (f : Format A) where
  abbrev pub joined : List A → List ℕ
  joined [] = []
  joined (x ∷ xs) = row_in_bytes f x ++ joined xs

  unfoldable pub block_of : ℕ → List A → Block
  block_of cap rows =
      record {
        used = length rows;
        extent = cap * size f;
        bytes = joined rows ++ replicate (cap * size f - length rows * size f) 0;
      }

abbrev pub blocks : Tables → List Block
blocks t =
    block_of (subject_format (width_in t)) t.capacities.subjects t.subjects
    ∷ block_of (grant_format (width_in t)) t.capacities.grants t.grants
    ∷ block_of (line_format (width_in t)) t.capacities.lines t.lines
    ∷ block_of item_format t.capacities.items t.items
    ∷ []

-- the numbers in the header of blocks, if the first block starts at offset `at`: the rows in use and the offset of each block,
-- then the offset at which the last one ends
abbrev pub header_of : ℕ → List Block → List ℕ
header_of at [] = at ∷ []
header_of at (b ∷ bs) = b.used ∷ at ∷ header_of (at + b.extent) bs

abbrev pub body_of : List Block → List ℕ
body_of [] = []
body_of (b ∷ bs) = b.bytes ++ body_of bs

unfoldable pub encode : Tables → List ℕ
encode t = row_bytes header_widths (header_of header_size (blocks t)) ++ body_of (blocks t)

-- Rows by number. A subject's number is its index. Item n has index n - 1, and 0 is no item.

abbrev pub subject_in : List SubjectRow → ℕ → SubjectRow
subject_in rows s = get_or rows s no_subject

abbrev pub parent_in : List SubjectRow → ℕ → ℕ
parent_in rows s = (subject_in rows s).parent.0

abbrev pub privileges_in : List SubjectRow → ℕ → ℕ
privileges_in rows s = (subject_in rows s).privileges

abbrev pub subject_used : List SubjectRow → ℕ → Bool
subject_used rows s = ltb s (length rows)

abbrev pub item_in : List ItemRow → ℕ → ItemRow
item_in rows zero = no_item
item_in rows (suc n) = get_or rows n no_item

abbrev pub item_used : List ItemRow → ℕ → Bool
item_used rows zero = false
item_used rows (suc n) = ltb n (length rows)

-- The flag bits of an item. Bit 0 says that it is an access list, bit 1 that it is locked, bit 2 that the permission set of its
-- folder applies to it too. There are no others.

abbrev pub list_flag : ℕ
list_flag = 0

abbrev pub locked_flag : ℕ
locked_flag = 1

abbrev pub folder_flag : ℕ
folder_flag = 2

abbrev pub flag_count : ℕ
flag_count = 3

-- the flags of an item that has this folder, where 0 is no folder and so none that could apply
abbrev pub flags_fit : ℕ → ℕ → Bool
flags_fit flags folder = ltb flags (2 ^ flag_count) && not (has folder_flag flags && eqb folder 0)

abbrev pub is_list : List ItemRow → ℕ → Bool
is_list rows a = item_used rows a && has list_flag (item_in rows a).flags

abbrev pub is_locked : List ItemRow → ℕ → Bool
is_locked rows i = has locked_flag (item_in rows i).flags

-- an access list, or 0 for none
abbrev pub none_or_list : List ItemRow → ℕ → Bool
none_or_list rows a = eqb a 0 || is_list rows a

-- an item in use, or 0 for none
abbrev pub none_or_item : List ItemRow → ℕ → Bool
none_or_item rows i = eqb i 0 || item_used rows i

-- The rules of the rows.

-- the row with index 0 is the custodian's
abbrev pub custodian_rules : ℕ → SubjectRow → Bool
custodian_rules w s = all_of (eqb s.parent.0 0 ∷ eqb s.privileges (everything w) ∷ eqb s.creator.0 0 ∷ [])

abbrev pub subject_rules : ℕ → List SubjectRow → ℕ → SubjectRow → Bool
subject_rules w rows zero s = custodian_rules w s
subject_rules w rows (suc n) s =
    all_of (ltb s.parent.0 (suc n) ∷ ltb s.creator.0 (suc n) ∷ within s.privileges (privileges_in rows s.creator.0) ∷ [])

abbrev pub grant_rules : List SubjectRow → GrantRow → Bool
grant_rules subjects g =
    all_of
    (subject_used subjects g.receiver.0
    ∷ not (eqb g.role.0 0)
    ∷ subject_used subjects g.grantor.0
    ∷ subject_used subjects g.domain.0
    ∷ in_tree (parent_in subjects) g.grantor.0 g.domain.0
    ∷ [])

-- the kinds of a line: it is for one subject, for a subject's group, for the owner of the item or for everyone
abbrev pub itself_kind : ℕ
itself_kind = 0

abbrev pub group_kind : ℕ
group_kind = 1

abbrev pub owner_kind : ℕ
owner_kind = 2

abbrev pub everyone_kind : ℕ
everyone_kind = 3

-- the code's enum of them
abbrev pub kind_number : Kind → ℕ
kind_number Itself = itself_kind
kind_number Group = group_kind
kind_number Owner = owner_kind
kind_number Everyone = everyone_kind

-- Reading a number as a kind gives the kind with that number, and fails on every other number.
abbrev pub KindRead : ℕ → Result Kind UnknownKind → Type 0
KindRead n (Ok kind) = n ≡ kind_number kind
KindRead n (Err unknown) = (everyone_kind < n) × (unknown.0 ≡ n)

-- there is no higher kind; a line for the owner or for everyone has subject 0
abbrev pub kind_fits : ℕ → ℕ → Bool
kind_fits kind s = leb kind everyone_kind && (leb kind group_kind || eqb s 0)

abbrev pub line_rules : List SubjectRow → List ItemRow → LineRow → Bool
line_rules subjects items l =
    all_of (is_list items l.list.0 ∷ kind_fits l.kind l.subject.0 ∷ subject_used subjects l.subject.0 ∷ [])

-- n is the item's number; its folder is none, which is 0, or has a lower number
abbrev pub item_rules : List SubjectRow → List ItemRow → ℕ → ItemRow → Bool
item_rules subjects items n i =
    all_of
    (subject_used subjects i.owner.0
    ∷ none_or_list items i.list.0
    ∷ flags_fit i.flags i.folder.0
    ∷ ltb i.folder.0 n
    ∷ [])

abbrev pub grant_key : GrantRow → List ℕ
grant_key g = g.receiver.0 ∷ g.role.0 ∷ []

abbrev pub line_key : LineRow → List ℕ
line_key l = l.list.0 ∷ l.kind ∷ l.subject.0 ∷ []

unfoldable pub subjects_hold : Tables → Bool
subjects_hold t = every_numbered (subject_rules (width_in t) t.subjects) t.subjects

unfoldable pub items_hold : Tables → Bool
items_hold t = every_numbered (λ n. item_rules t.subjects t.items (suc n)) t.items

unfoldable pub lines_hold : Tables → Bool
lines_hold t = every (line_rules t.subjects t.items) t.lines && ascending line_key t.lines

unfoldable pub grants_hold : Tables → Bool
grants_hold t = every (grant_rules t.subjects) t.grants && ascending grant_key t.grants

-- The rules of the layout.

-- a table whose rows have n bytes is laid out: it does not end before it starts, its bytes are whole rows, and its rows in
-- use are within its capacity
abbrev pub laid_out_by : ℕ → Table → Bool
laid_out_by n t = all_of (leb t.start t.end ∷ eqb ((t.end - t.start) % n) 0 ∷ leb t.used (capacity_by n t) ∷ [])

module _ {A : Type 0} (f : Format A) where
  abbrev pub laid_out : Table → Bool
  laid_out t = laid_out_by (size f) t

  -- the bytes of a table's free rows
  abbrev pub unused : Table → List ℕ → List ℕ
  unused t img = take (t.end - (t.start + t.used * size f)) (drop (t.start + t.used * size f) img)

-- the rules of the header: the length that it records is the image's, and the first table starts right behind it. They stand
-- apart from those of the tables, which look at the layout alone.
unfoldable pub header_rules : Layout → List ℕ → List Bool
header_rules lay img = eqb lay.items.end (length img) ∷ eqb lay.subjects.start header_size ∷ []

-- the rules of the tables: each is laid out, and at least one subject is in use
unfoldable pub table_rules : Layout → List Bool
table_rules lay =
    laid_out (subject_format (width_of lay)) lay.subjects
    ∷ laid_out (grant_format (width_of lay)) lay.grants
    ∷ laid_out (line_format (width_of lay)) lay.lines
    ∷ laid_out item_format lay.items
    ∷ leb 1 lay.subjects.used
    ∷ []

unfoldable pub layout_rules : Layout → List ℕ → List Bool
layout_rules lay img = all_of (header_rules lay img) ∷ all_of (table_rules lay) ∷ []

-- the free rows are all zeros
unfoldable pub unused_rules : Layout → List ℕ → List Bool
unused_rules lay img =
    zeros (unused (subject_format (width_of lay)) lay.subjects img)
    ∷ zeros (unused (grant_format (width_of lay)) lay.grants img)
    ∷ zeros (unused (line_format (width_of lay)) lay.lines img)
    ∷ zeros (unused item_format lay.items img)
    ∷ []

-- The rules, "How a permission is found": the lines' part, the grant of a claimed role, and the sets that these make. An item's
-- own set and its permission set are two things: the permission set is also cut by the folders that apply.
use Rattle.std.specs.Prelude.{Bool, ◌&&◌, not, cond, List, [], ◌∷◌, ℕ, zero, suc, eqb, ltb, None, Option, Some}
use Rattle.model.specs.declared.GrantRow.{GrantRow}
use Rattle.model.specs.declared.ItemRow.{ItemRow}
use Rattle.model.specs.declared.LineRow.{LineRow}
use Rattle.model.specs.declared.Explanation.{Explanation}
use Rattle.model.specs.declared.Rule.{Rule}
use Rattle.model.specs.declared.Rule.TheVariants.{Custodian, OwnerLine, OwnLine, GroupLine, NothingFound}
use Rattle.model.specs.Lists.{or_else}
use Rattle.model.specs.Sorted.{find_row}
use Rattle.model.specs.Tree.{steps_up, in_tree, steps_number}
use Rattle.model.specs.WhoAndWhat.{custodian, everything, has, ◌∪◌, ◌∩◌}
use Rattle.model.specs.Image.{Tables, width_in, itself_kind, group_kind, owner_kind, everyone_kind, folder_flag}
use Rattle.model.specs.Image.{grant_key, line_key, parent_in, privileges_in, item_in}

-- The line of list a for a kind and a subject. List 0 is no list and has no lines.
abbrev pub line_in : List LineRow → ℕ → ℕ → ℕ → Option LineRow
line_in lines zero kind s = None
line_in lines (suc a) kind s = find_row line_key (suc a ∷ kind ∷ s ∷ []) lines

abbrev pub line_set : Option LineRow → ℕ
line_set None = 0
line_set (Some l) = l.privileges

-- The group search. It climbs from s to its parent, on to that one's parent, and so on, and answers the first group line that
-- it meets. The custodian is the last one that it looks at. A climb from s has at most s steps: the first argument is how many
-- are still allowed.
unfoldable pub group_within : ℕ → (ℕ → ℕ) → List LineRow → ℕ → ℕ → Option LineRow
group_within zero up lines s a = None
group_within (suc n) up lines s a =
    cond (ltb (up s) s) (or_else (line_in lines a group_kind (up s)) (group_within n up lines (up s) a)) None

unfoldable pub group_line : (ℕ → ℕ) → List LineRow → ℕ → ℕ → Option LineRow
group_line up lines s a = group_within s up lines s a

-- The rule that a line decides, if there is one. Otherwise the next rule.
abbrev pub rule_by : (LineRow → Rule) → Option LineRow → Rule → Rule
rule_by rule None next = next
rule_by rule (Some l) next = rule l

-- The group line that the search meets first. If it meets none, nothing was found.
unfoldable pub group_rule : (ℕ → ℕ) → List LineRow → ℕ → ℕ → Rule
group_rule up lines s a = rule_by GroupLine (group_line up lines s a) NothingFound

-- The subject's own line, even one without privileges. If there is none, the groups decide.
unfoldable pub own_rule : (ℕ → ℕ) → List LineRow → ℕ → ℕ → Rule
own_rule up lines s a = rule_by OwnLine (line_in lines a itself_kind s) (group_rule up lines s a)

-- The owner line, even one without privileges. If there is none, the owner's own line counts as anybody's does.
unfoldable pub owner_rule : (ℕ → ℕ) → List LineRow → ℕ → ℕ → Rule
owner_rule up lines s a = rule_by OwnerLine (line_in lines a owner_kind 0) (own_rule up lines s a)

-- The deciding rule of subject s on an item with owner o and list a. The custodian needs no line.
unfoldable pub deciding_rule : (ℕ → ℕ) → List LineRow → ℕ → ℕ → ℕ → Rule
deciding_rule up lines s o a = cond (eqb s custodian) Custodian (cond (eqb s o) (owner_rule up lines s a) (own_rule up lines s a))

-- The paper's number of each rule.
abbrev pub rule_number : Rule → ℕ
rule_number Custodian = 1
rule_number (OwnerLine l) = 2
rule_number (OwnLine l) = 3
rule_number (GroupLine l) = 4
rule_number NothingFound = 5

-- the subject whose group line it was; 0 for every other rule
abbrev pub rule_group : Rule → ℕ
rule_group Custodian = 0
rule_group (OwnerLine l) = 0
rule_group (OwnLine l) = 0
rule_group (GroupLine l) = l.subject.0
rule_group NothingFound = 0

-- the set that the rule gives; the first argument is all privileges
abbrev pub rule_set : ℕ → Rule → ℕ
rule_set all Custodian = all
rule_set all (OwnerLine l) = l.privileges
rule_set all (OwnLine l) = l.privileges
rule_set all (GroupLine l) = l.privileges
rule_set all NothingFound = 0

-- What the line for everyone in list a adds for s. It adds nothing for the custodian.
unfoldable pub everyone_set : List LineRow → ℕ → ℕ → ℕ
everyone_set lines s a = cond (eqb s custodian) 0 (line_set (line_in lines a everyone_kind 0))

-- The same of subject s on an item whose row is x, and its lines' part there: what the deciding rule gives, and what the line
-- for everyone adds.
abbrev pub rule_on : Tables → ℕ → ItemRow → Rule
rule_on t s x = deciding_rule (parent_in t.subjects) t.lines s x.owner.0 x.list.0

abbrev pub rule_set_on : Tables → ℕ → ItemRow → ℕ
rule_set_on t s x = rule_set (everything (width_in t)) (rule_on t s x)

abbrev pub everyone_on : Tables → ℕ → ItemRow → ℕ
everyone_on t s x = everyone_set t.lines s x.list.0

unfoldable pub part_on : Tables → ℕ → ItemRow → ℕ
part_on t s x = rule_set_on t s x ∪ everyone_on t s x

-- the lines' part on item i
abbrev pub lines_part : Tables → ℕ → ℕ → ℕ
lines_part t s i = part_on t s (item_in t.items i)

-- The grant to subject s under role r, if there is one. Role 0 is no role and has no grant.
abbrev pub grant_in : List GrantRow → ℕ → ℕ → Option GrantRow
grant_in grants s zero = None
grant_in grants s (suc r) = find_row grant_key (s ∷ suc r ∷ []) grants

abbrev pub grant_of : Tables → ℕ → ℕ → Option GrantRow
grant_of t s r = grant_in t.grants s r

-- What a grant adds to the operation set: those of its privileges that the grantor's own row has too.
abbrev pub lent_operations : Tables → Option GrantRow → ℕ
lent_operations t None = 0
lent_operations t (Some g) = g.privileges ∩ privileges_in t.subjects g.grantor.0

-- The steps from the owner of an item whose row is x up to the domain of a grant; none without a grant.
abbrev pub domain_steps : Tables → Option GrantRow → ItemRow → Option ℕ
domain_steps t None x = None
domain_steps t (Some g) x = steps_up (parent_in t.subjects) x.owner.0 g.domain.0

-- What a grant adds to the object set on an item whose row is x. If the item's owner is in the tree of the grant's domain, it
-- adds those of its privileges that the grantor's lines' part on the item has too. Otherwise it adds nothing.
abbrev pub lent_on : Tables → Option GrantRow → ItemRow → ℕ
lent_on t None x = 0
lent_on t (Some g) x = cond (in_tree (parent_in t.subjects) g.domain.0 x.owner.0) (g.privileges ∩ part_on t g.grantor.0 x) 0

abbrev pub lent_part : Tables → Option GrantRow → ℕ → ℕ
lent_part t g i = lent_on t g (item_in t.items i)

-- The sets of s: first under a grant that may be missing, then, further down, under the role that s claims.

unfoldable pub operation_under : Tables → ℕ → Option GrantRow → ℕ
operation_under t s g = privileges_in t.subjects s ∪ lent_operations t g

unfoldable pub object_under : Tables → ℕ → Option GrantRow → ℕ → ℕ
object_under t s g i = lines_part t s i ∪ lent_part t g i

-- the item's own set: what is in both
unfoldable pub own_under : Tables → ℕ → Option GrantRow → ℕ → ℕ
own_under t s g i = operation_under t s g ∩ object_under t s g i

-- The folder that applies to an item, for which 0 means none: to an item whose row is x, and to item i.

abbrev pub folder_on : ItemRow → ℕ
folder_on x = cond (has folder_flag x.flags) x.folder.0 0

abbrev pub applied_folder : List ItemRow → ℕ → ℕ
applied_folder items i = folder_on (item_in items i)

-- the way goes on from item i to folder f: there is one, and its number is lower
abbrev pub leads_up : ℕ → ℕ → Bool
leads_up i f = not (eqb f 0) && ltb f i

-- What the sets of item i, of the folder that applies to it, of the folder that applies to that one and so on share. `up` is the
-- step from an item to its folder. The numbers fall, so there are at most i steps: the first argument is how many are still
-- allowed.
unfoldable pub shared_within : ℕ → (ℕ → ℕ) → (ℕ → ℕ) → ℕ → ℕ
shared_within zero up set i = set i
shared_within (suc n) up set i = cond (leads_up i (up i)) (set i ∩ shared_within n up set (up i)) (set i)

-- the same along the folders of some items
unfoldable pub shared_up : List ItemRow → (ℕ → ℕ) → ℕ → ℕ
shared_up items set i = shared_within i (applied_folder items) set i

-- the permission set: what the item's own set shares with the permission set of the folder that applies, if one does
unfoldable pub permission_under : Tables → ℕ → Option GrantRow → ℕ → ℕ
permission_under t s g i = shared_up t.items (own_under t s g) i

-- The sets under the role that s claims.

abbrev pub operation_set : Tables → ℕ → ℕ → ℕ
operation_set t s r = operation_under t s (grant_of t s r)

abbrev pub own_set : Tables → ℕ → ℕ → ℕ → ℕ
own_set t s r i = own_under t s (grant_of t s r) i

abbrev pub permission_set : Tables → ℕ → ℕ → ℕ → ℕ
permission_set t s r i = permission_under t s (grant_of t s r) i

-- The explanation of the item's own set: the deciding rule, the sets that are put together, the operation set,
-- which cuts them, the steps from the item's owner up to the grant's domain, and the folder that applies. First on an
-- item whose row is x and under a grant that may be missing, then on item i, then under the role that s claims.

abbrev pub explanation_on : Tables → ℕ → Option GrantRow → ItemRow → Explanation
explanation_on t s g x =
    record {
      number = 0;
      rule = rule_number (rule_on t s x);
      group = rule_group (rule_on t s x);
      rule_set = rule_set_on t s x;
      everyone_set = everyone_on t s x;
      role_set = lent_on t g x;
      operations = operation_under t s g;
      steps = steps_number (domain_steps t g x);
      folder = folder_on x;
    }

unfoldable pub explanation_under : Tables → ℕ → Option GrantRow → ℕ → Explanation
explanation_under t s g i = explanation_on t s g (item_in t.items i)

abbrev pub explanation : Tables → ℕ → ℕ → ℕ → Explanation
explanation t s r i = explanation_under t s (grant_of t s r) i

-- the sets of an explanation, put together by the rules above
abbrev pub put_together : Explanation → ℕ
put_together e = e.operations ∩ (e.rule_set ∪ e.everyone_set ∪ e.role_set)

-- What the fields of an explanation say of the rows. No search is mentioned: a line stands in the table, or none
-- does. That every explanation fulfils this is a theorem of `laws`.
use Rattle.std.specs.Prelude.{List, ◌≢◌, ◌≡◌, ℕ, T, Some, slice_get}
use Rattle.model.specs.declared.ItemRow.{ItemRow}
use Rattle.model.specs.declared.LineRow.{LineRow}
use Rattle.model.specs.Tree.{below}
use Rattle.model.specs.WhoAndWhat.{custodian, everything}
use Rattle.model.specs.Image.{Tables, width_in, line_row, parent_in, itself_kind, group_kind, owner_kind, everyone_kind}

-- the line is one of the rows
abbrev pub Stands : List LineRow → LineRow → Type 0
Stands lines l = (n : ℕ) × (slice_get lines n ≡ Some l)

-- list a has no line of this kind for subject h, whatever its privileges
abbrev pub Absent : List LineRow → ℕ → ℕ → ℕ → Type 0
Absent lines a kind h = (v : ℕ) → ¬ Stands lines (line_row a kind h v)

-- Subject s and an item whose row is x.
module _ (t : Tables) (s : ℕ) (x : ItemRow) where
  abbrev up : ℕ → ℕ
  up = parent_in t.subjects

  abbrev owner : ℕ
  owner = x.owner.0

  abbrev list : ℕ
  list = x.list.0

  -- no owner line decides for s: it is not the owner, or the list has none
  abbrev pub NoOwnerLine : Type 0
  NoOwnerLine = s ≡ owner → Absent t.lines list owner_kind 0

  -- there is no line that takes precedence over group lines
  pub record NoDirectLine : Type 0 where
    pub no_owner_line : NoOwnerLine
    pub no_own_line : Absent t.lines list itself_kind s

  -- Which rule decides, by its number, the subject whose group line it was, and the set that it gives.
  -- 1: s is the custodian. 2: s is the owner, and the owner line gives v. 3: no owner line decides, and the own line of s gives v.
  -- 4: there is no such line; s is below h, the group line for h gives v, and nobody between s and h has a group line.
  -- 5: there is no such line, and nobody above s has a group line.
  pub data Decides : ℕ → ℕ → ℕ → Type 0 where
    by_custodian : s ≡ custodian → Decides 1 0 (everything (width_in t))
    by_owner_line : {v : ℕ} → s ≢ custodian → s ≡ owner → Stands t.lines (line_row list owner_kind 0 v) → Decides 2 0 v
    by_own_line : {v : ℕ} → s ≢ custodian → NoOwnerLine → Stands t.lines (line_row list itself_kind s v) → Decides 3 0 v
    by_group_line : {h v : ℕ}
        → s ≢ custodian
        → NoDirectLine
        → T (below up h s)
        → Stands t.lines (line_row list group_kind h v)
        → ((p : ℕ) → T (below up p s) → T (below up h p) → Absent t.lines list group_kind p)
        → Decides 4 h v
    by_nothing : s ≢ custodian
        → NoDirectLine
        → ((p : ℕ) → T (below up p s) → Absent t.lines list group_kind p)
        → Decides 5 0 0

  -- What the line for everyone adds: nothing for the custodian, else what the line gives, and nothing where there is none.
  pub data Adds : ℕ → Type 0 where
    not_to_custodian : s ≡ custodian → Adds 0
    by_everyones_line : {v : ℕ} → s ≢ custodian → Stands t.lines (line_row list everyone_kind 0 v) → Adds v
    no_everyones_line : s ≢ custodian → Absent t.lines list everyone_kind 0 → Adds 0

-- Every call keeps the tables well-formed. Each call replaces the rows of one table. For each table there is a law that says
-- what the new rows must fulfil.
use Rattle.std.specs.Prelude.{true, false, ◌||◌, ◌⊎◌, ◌≡◌, refl, eqb, ltb, set}
use mathlib.Core.List.{List, [], ◌∷◌, ◌++◌}
use Rattle.std.proofs.Common.{inl, inr, ◌∙◌, not-suc-le-zero, arith, eqb-true, lt→ltb, eqb→eq}
use Rattle.std.proofs.Math.Path.{ap}
use Prim.Native.Nat.{ℕ, zero, suc, ◌^◌, ◌<◌, ◌≤◌}
use Rattle.std.proofs.lemmas.Nat.{and_le_l}
use Rattle.std.proofs.Math.Dec.{T, ltb→lt, eqb-suc-zero}
use Rattle.std.proofs.Math.ListN.{length, length-append, length-set}
use Rattle.model.specs.declared.SubjectRow.{SubjectRow}
use Rattle.model.specs.declared.GrantRow.{GrantRow}
use Rattle.model.specs.declared.LineRow.{LineRow}
use Rattle.model.specs.declared.ItemRow.{ItemRow}
use Rattle.std.specs.List.{AllByRecursion}
use Rattle.model.specs.Lists.{every, every_numbered, is_there}
use Rattle.model.specs.Sorted.{find_row, put, cut, ascending}
use Rattle.model.specs.Tree.{in_tree}
use Rattle.model.specs.WhoAndWhat.{custodian, everything, has, within}
use Rattle.model.specs.Image.{Tables, none_or_item, width_in, subject_format, grant_format, line_format, item_format}
use Rattle.model.specs.Image.{subject_row, grant_row, line_row, item_row, no_subject, no_item, subject_in}
use Rattle.model.specs.Image.{parent_in, privileges_in, subject_used, item_in, item_used, is_list, none_or_list}
use Rattle.model.specs.Image.{subject_rules, grant_rules, line_rules, item_rules, grant_key, line_key, block_of}
use Rattle.model.specs.Image.{subjects_hold, items_hold, lines_hold, grants_hold, with_list, with_owner}
use Rattle.model.specs.Calls.{Change, Handed, with_subjects, with_grants, with_lines, with_items, set_item, new_privileges, after}
use Rattle.model.specs.Calls.Change.{define_subject, set_grant, remove_grant, set_line, remove_line, create_item, bind, hand_over}
use Rattle.model.specs.Questions.{questions}
use Rattle.laws.specs.Tests.{and_i, and_l, and_r, or_l, or_r, or_cases, two, eq_or_ne}
use Rattle.laws.specs.Tests.{every_at, every_map, every_append, every_set, every_all}
use Rattle.laws.specs.Tests.{all_every, all_map, all_both, all_append, all_set, all_at}
use Rattle.laws.specs.Sorted.{all_put, all_cut, ascending_put, ascending_cut, put_fits, length_cut_le}
use Rattle.laws.specs.Numbered.{privileges_same, old_tree_same, subject_used_lem, item_same, item_set, item_other}
use Rattle.laws.specs.Sets.{both_within, within_everything}
use Rattle.laws.specs.WellFormed.{Fits, WellFormed, Passed}

-- The rows of a sorted table: they are within the capacity, each is good, and they are ascending. Putting or cutting a row
-- keeps this.
record SortedRows {A : Type 0} (key : A → List ℕ) (Good : A → Type 0) (cap : ℕ) (rows : List A) : Type 0 where
  within_capacity : length rows ≤ cap
  all_good : AllByRecursion Good rows
  sorted : T (ascending key rows)

module _ {A : Type 0} (key : A → List ℕ) (Good : A → Type 0) (cap : ℕ) (rows : List A) (old : SortedRows key Good cap rows) where
  rows_put : (r : A) → Good r → T (is_there (find_row key (key r) rows) || ltb (length rows) cap) → SortedRows key Good cap (put key r rows)
  rows_put r good free =
      record {
        within_capacity = put_fits key r rows cap old.sorted old.within_capacity free;
        all_good = all_put key Good r rows good old.all_good;
        sorted = ascending_put key r rows old.sorted;
      }

  rows_cut : (k : List ℕ) → SortedRows key Good cap (cut key k rows)
  rows_cut k =
      record {
        within_capacity = omega (arith, length_cut_le key k rows, old.within_capacity);
        all_good = all_cut key Good k rows old.all_good;
        sorted = ascending_cut key k rows old.sorted;
      }

-- The grants hold their rules exactly when each row does and the rows are ascending. The same holds for the lines.

module _ (t : Tables) where
  pub grants_held : AllByRecursion (λ g. T (grant_rules t.subjects g)) t.grants → T (ascending grant_key t.grants) → T (grants_hold t)
  unfolding grants_hold
  grants_held rules up =
      and_i (every (grant_rules t.subjects) t.grants) (ascending grant_key t.grants)
      (all_every (grant_rules t.subjects) t.grants rules)
      up

  pub grant_rules_lem : T (grants_hold t) → AllByRecursion (λ g. T (grant_rules t.subjects g)) t.grants
  unfolding grants_hold
  grant_rules_lem h =
      every_all (grant_rules t.subjects) t.grants
      (and_l (every (grant_rules t.subjects) t.grants) (ascending grant_key t.grants) h)

  pub grants_ascending : T (grants_hold t) → T (ascending grant_key t.grants)
  unfolding grants_hold
  grants_ascending h = and_r (every (grant_rules t.subjects) t.grants) (ascending grant_key t.grants) h

  pub lines_held : AllByRecursion (λ l. T (line_rules t.subjects t.items l)) t.lines → T (ascending line_key t.lines) → T (lines_hold t)
  unfolding lines_hold
  lines_held rules up =
      and_i (every (line_rules t.subjects t.items) t.lines) (ascending line_key t.lines)
      (all_every (line_rules t.subjects t.items) t.lines rules)
      up

  pub line_rules_lem : T (lines_hold t) → AllByRecursion (λ l. T (line_rules t.subjects t.items l)) t.lines
  unfolding lines_hold
  line_rules_lem h =
      every_all (line_rules t.subjects t.items) t.lines
      (and_l (every (line_rules t.subjects t.items) t.lines) (ascending line_key t.lines) h)

  pub lines_ascending : T (lines_hold t) → T (ascending line_key t.lines)
  unfolding lines_hold
  lines_ascending h = and_r (every (line_rules t.subjects t.items) t.lines) (ascending line_key t.lines) h

-- A row's rules still hold if every subject in use stays in use and every access list stays one.

-- no item, or one in use, has a lower number than the next new item
folder_before : (items : List ItemRow) (p : ℕ) → T (none_or_item items p) → T (ltb p (suc (length items)))
folder_before items zero h = lt→ltb 0 (suc (length items)) (omega arith)
folder_before items (suc n) h =
    let used : T (ltb n (length items)) = rw (eqb-suc-zero n) at h in
    lt→ltb (suc n) (suc (length items)) (omega (arith, ltb→lt n (length items) used))

-- an access list stays one if no item is removed and the flags are kept
list_kept : (old new : List ItemRow)
    → length old ≤ length new
    → ((i : ℕ) → T (item_used old i) → (item_in new i).flags ≡ (item_in old i).flags)
    → (a : ℕ) → T (is_list old a) → T (is_list new a)
list_kept old new l same zero t = t
list_kept old new l same (suc n) t =
    let used : T (ltb n (length old)) = and_l (ltb n (length old)) (has 0 (item_in old (suc n)).flags) t in
    and_i (ltb n (length new)) (has 0 (item_in new (suc n)).flags) (omega (arith, ltb→lt, lt→ltb))
    (rw (same (suc n) used) (and_r (ltb n (length old)) (has 0 (item_in old (suc n)).flags) t))

module _ (subjects more : List SubjectRow) (items later : List ItemRow)
    (used : (s : ℕ) → T (subject_used subjects s) → T (subject_used more s))
    (lists : (a : ℕ) → T (is_list items a) → T (is_list later a)) where
  none_or_list_kept : (a : ℕ) → T (none_or_list items a) → T (none_or_list later a)
  none_or_list_kept a t = go (or_cases (eqb a 0) (is_list items a) t)
    where
      go : T (eqb a 0) ⊎ T (is_list items a) → T (none_or_list later a)
      go (inl e) = or_l (eqb a 0) (is_list later a) e
      go (inr e) = or_r (eqb a 0) (is_list later a) (lists a e)

  item_kept : (n : ℕ) (i : ItemRow) → T (item_rules subjects items n i) → T (item_rules more later n i)
  item_kept n i t = search (and_i, and_l, and_r, none_or_list_kept) depth 12

  line_kept : (l : LineRow) → T (line_rules subjects items l) → T (line_rules more later l)
  line_kept l t = search (and_i, and_l, and_r) depth 12

-- A good row: its numbers fit their fields and it holds its rules.
module _ (t : Tables) where
  abbrev pub GoodGrant : GrantRow → Type 0
  GoodGrant g = Fits (grant_format (width_in t)) g × T (grant_rules t.subjects g)

  abbrev pub GoodLine : LineRow → Type 0
  GoodLine l = Fits (line_format (width_in t)) l × T (line_rules t.subjects t.items l)

  -- x is good as the row of item i
  abbrev pub GoodItem : ℕ → ItemRow → Type 0
  GoodItem i x = Fits item_format x × T (item_rules t.subjects t.items i x)

-- The rows of one table replaced.

module _ (t : Tables) (w : WellFormed t) where
  grant_rows : SortedRows grant_key (GoodGrant t) t.capacities.grants t.grants
  grant_rows =
      record {
        within_capacity = w.grants_capacity;
        all_good =
            all_both (Fits (grant_format (width_in t))) (λ g. T (grant_rules t.subjects g)) t.grants
            w.grants_fit
            (grant_rules_lem t w.grants_hold_lem);
        sorted = grants_ascending t w.grants_hold_lem;
      }

  line_rows : SortedRows line_key (GoodLine t) t.capacities.lines t.lines
  line_rows =
      record {
        within_capacity = w.lines_capacity;
        all_good =
            all_both (Fits (line_format (width_in t))) (λ l. T (line_rules t.subjects t.items l)) t.lines
            w.lines_fit
            (line_rules_lem t w.lines_hold_lem);
        sorted = lines_ascending t w.lines_hold_lem;
      }

  grants_replaced : (rows : List GrantRow) → SortedRows grant_key (GoodGrant t) t.capacities.grants rows → WellFormed (with_grants t rows)
  unfolding block_of subjects_hold items_hold lines_hold
  grants_replaced rows new =
      record {
        custodian_there = w.custodian_there;
        subjects_capacity = w.subjects_capacity;
        grants_capacity = new.within_capacity;
        lines_capacity = w.lines_capacity;
        items_capacity = w.items_capacity;
        short = w.short;
        subjects_fit = w.subjects_fit;
        grants_fit = all_map (λ g p. p.0) rows new.all_good;
        lines_fit = w.lines_fit;
        items_fit = w.items_fit;
        subjects_hold_lem = w.subjects_hold_lem;
        items_hold_lem = w.items_hold_lem;
        lines_hold_lem = w.lines_hold_lem;
        grants_hold_lem = grants_held (with_grants t rows) (all_map (λ g p. p.1) rows new.all_good) new.sorted;
      }

  grant_put : (g : GrantRow)
      → GoodGrant t g
      → T (is_there (find_row grant_key (grant_key g) t.grants) || ltb (length t.grants) t.capacities.grants)
      → WellFormed (with_grants t (put grant_key g t.grants))
  grant_put g good free =
      grants_replaced (put grant_key g t.grants)
      (rows_put grant_key (GoodGrant t) t.capacities.grants t.grants grant_rows g good free)

  grant_cut : (k : List ℕ) → WellFormed (with_grants t (cut grant_key k t.grants))
  grant_cut k = grants_replaced (cut grant_key k t.grants)
      (rows_cut grant_key (GoodGrant t) t.capacities.grants t.grants grant_rows k)

  lines_replaced : (rows : List LineRow) → SortedRows line_key (GoodLine t) t.capacities.lines rows → WellFormed (with_lines t rows)
  unfolding block_of subjects_hold items_hold grants_hold
  lines_replaced rows new =
      record {
        custodian_there = w.custodian_there;
        subjects_capacity = w.subjects_capacity;
        grants_capacity = w.grants_capacity;
        lines_capacity = new.within_capacity;
        items_capacity = w.items_capacity;
        short = w.short;
        subjects_fit = w.subjects_fit;
        grants_fit = w.grants_fit;
        lines_fit = all_map (λ l p. p.0) rows new.all_good;
        items_fit = w.items_fit;
        subjects_hold_lem = w.subjects_hold_lem;
        items_hold_lem = w.items_hold_lem;
        lines_hold_lem = lines_held (with_lines t rows) (all_map (λ l p. p.1) rows new.all_good) new.sorted;
        grants_hold_lem = w.grants_hold_lem;
      }

  line_put : (l : LineRow)
      → GoodLine t l
      → T (is_there (find_row line_key (line_key l) t.lines) || ltb (length t.lines) t.capacities.lines)
      → WellFormed (with_lines t (put line_key l t.lines))
  line_put l good free =
      lines_replaced (put line_key l t.lines) (rows_put line_key (GoodLine t) t.capacities.lines t.lines line_rows l good free)

  line_cut : (k : List ℕ) → WellFormed (with_lines t (cut line_key k t.lines))
  line_cut k = lines_replaced (cut line_key k t.lines) (rows_cut line_key (GoodLine t) t.capacities.lines t.lines line_rows k)

  -- the rules of the new items may be asked against the old ones, since an access list stays one
  items_replaced : (rows : List ItemRow)
      → length t.items ≤ length rows
      → length rows ≤ t.capacities.items
      → ((i : ℕ) → T (item_used t.items i) → (item_in rows i).flags ≡ (item_in t.items i).flags)
      → AllByRecursion (Fits item_format) rows
      → T (every_numbered (λ n. item_rules t.subjects t.items (suc n)) rows)
      → WellFormed (with_items t rows)
  unfolding block_of subjects_hold items_hold grants_hold
  items_replaced rows more enough same fit rules =
      let lists : (a : ℕ) → T (is_list t.items a) → T (is_list rows a) = list_kept t.items rows more same in
      record {
        custodian_there = w.custodian_there;
        subjects_capacity = w.subjects_capacity;
        grants_capacity = w.grants_capacity;
        lines_capacity = w.lines_capacity;
        items_capacity = enough;
        short = w.short;
        subjects_fit = w.subjects_fit;
        grants_fit = w.grants_fit;
        lines_fit = w.lines_fit;
        items_fit = fit;
        subjects_hold_lem = w.subjects_hold_lem;
        items_hold_lem =
            every_map (λ n. item_rules t.subjects t.items (suc n)) (λ n. item_rules t.subjects rows (suc n)) rows
            (λ n i h r. item_kept t.subjects t.subjects t.items rows (λ s u. u) lists (suc n) i r)
            rules;
        lines_hold_lem =
            lines_held (with_items t rows)
            (all_map (line_kept t.subjects t.subjects t.items rows (λ s u. u) lists) t.lines (line_rules_lem t w.lines_hold_lem))
            (lines_ascending t w.lines_hold_lem);
        grants_hold_lem = w.grants_hold_lem;
      }

  item_more : (r : ItemRow)
      → length t.items < t.capacities.items
      → GoodItem t (suc (length t.items)) r
      → WellFormed (with_items t (t.items ++ r ∷ []))
  unfolding items_hold
  item_more r enough good =
      items_replaced (t.items ++ r ∷ [])
      (rw length-append (omega arith))
      (rw length-append (omega arith))
      (λ i u. ap (λ (x : ItemRow). x.flags) (item_same t.items r i u))
      (all_append (Fits item_format) t.items (r ∷ []) w.items_fit (good.0, tt))
      (every_append (λ n. item_rules t.subjects t.items (suc n)) t.items r w.items_hold_lem good.1)

  -- the row of one item replaced and its flags kept
  item_replaced : (i : ℕ) (r : ItemRow)
      → T (item_used t.items i)
      → r.flags ≡ (item_in t.items i).flags
      → GoodItem t i r
      → WellFormed (with_items t (set_item t.items i r))
  unfolding items_hold
  item_replaced zero r used flags good = absurd used
  item_replaced (suc n) r used flags good =
      items_replaced (set t.items n r)
      (rw length-set (omega arith))
      (rw length-set w.items_capacity)
      (λ i u. same i (eq_or_ne i (suc n)))
      (all_set (Fits item_format) t.items n r w.items_fit good.0)
      (every_set (λ k. item_rules t.subjects t.items (suc k)) t.items n r w.items_hold_lem good.1)
    where
      same : (i : ℕ) → (i ≡ suc n) ⊎ (i ≡ suc n → ⊥) → (item_in (set t.items n r) i).flags ≡ (item_in t.items i).flags
      same i (inl e) = rw e (ap (λ (x : ItemRow). x.flags) (item_set t.items (suc n) r used) ∙ flags)
      same i (inr d) = ap (λ (x : ItemRow). x.flags) (item_other t.items (suc n) r i d)

  pub item_good : (i : ℕ) → T (item_used t.items i) → GoodItem t i (item_in t.items i)
  unfolding items_hold
  item_good zero u = absurd u
  item_good (suc n) u =
      let there : n < length t.items = ltb→lt n (length t.items) u in (
        all_at (Fits item_format) t.items no_item w.items_fit n there,
        every_at (λ k. item_rules t.subjects t.items (suc k)) t.items no_item w.items_hold_lem n there,
      )

-- One subject more. The rules of an old subject's row read only rows with lower numbers, and these are kept.
module _ (old : List SubjectRow) (r : SubjectRow) where
  subject_kept : (w n : ℕ) (x : SubjectRow) → n < length old → T (subject_rules w old n x) → T (subject_rules w (old ++ r ∷ []) n x)
  subject_kept w zero x h t = t
  subject_kept w (suc n) x h t =
      let below : T (ltb x.creator.0 (suc n)) = search (and_l, and_r) in
      let inside : T (within x.privileges (privileges_in old x.creator.0)) = search (and_l, and_r) in
      search (and_i, and_l, and_r, rw (← privileges_same old r x.creator.0 (omega (arith, ltb→lt))) at inside) depth 12

  grant_kept : (g : GrantRow) → T (grant_rules old g) → T (grant_rules (old ++ r ∷ []) g)
  grant_kept g t =
      let used : T (subject_used old g.domain.0) = search (and_l, and_r) in
      let tree : T (in_tree (parent_in old) g.grantor.0 g.domain.0) = search (and_l, and_r) in
      search (
        and_i,
        and_l,
        and_r,
        subject_used_lem old r,
        rw (← old_tree_same old r g.grantor.0 g.domain.0 (omega (arith, ltb→lt))) at tree,
      ) depth 12

  new_rules : (w n : ℕ)
      → 1 ≤ n
      → r.parent.0 < n
      → r.creator.0 < n
      → T (within r.privileges (privileges_in (old ++ r ∷ []) r.creator.0))
      → T (subject_rules w (old ++ r ∷ []) n r)
  new_rules w zero h p c t = absurd (not-suc-le-zero h)
  new_rules w (suc n) h p c t = search (and_i, lt→ltb) depth 12

module _ (t : Tables) (w : WellFormed t) where
  pub custodian_rules_lem : T (subject_rules (width_in t) t.subjects 0 (subject_in t.subjects 0))
  unfolding subjects_hold
  custodian_rules_lem = every_at (subject_rules (width_in t) t.subjects) t.subjects no_subject w.subjects_hold_lem 0 w.custodian_there

  pub custodian_has : privileges_in t.subjects custodian ≡ everything (width_in t)
  custodian_has =
      let rules = custodian_rules_lem in
      eqb→eq (privileges_in t.subjects custodian) (everything (width_in t)) (search (and_l, and_r))

  -- the privileges of a new subject are within the caller's, and as a number they are at most the given ones
  new_privileges_within : (c v : ℕ) → v < 256 ^ width_in t → T (within (new_privileges t c v) (privileges_in t.subjects c))
  new_privileges_within c v h = go (two (eqb c custodian))
    where
      go : (eqb c custodian ≡ true) ⊎ (eqb c custodian ≡ false) → T (within (new_privileges t c v) (privileges_in t.subjects c))
      go (inl e) = rw (e, eqb-true c custodian e, custodian_has) (within_everything (width_in t) v h)
      go (inr e) = rw e (both_within v (privileges_in t.subjects c))

  new_privileges_le : (c v : ℕ) → new_privileges t c v ≤ v
  new_privileges_le c v =
      elim (two (eqb c custodian)) [ inl e ↦ rw e (omega arith) | inr e ↦ rw e (and_le_l v (privileges_in t.subjects c)) ]

  subject_more : (r : SubjectRow)
      → length t.subjects < t.capacities.subjects
      → Fits (subject_format (width_in t)) r
      → r.parent.0 < length t.subjects
      → r.creator.0 < length t.subjects
      → T (within r.privileges (privileges_in t.subjects r.creator.0))
      → WellFormed (with_subjects t (t.subjects ++ r ∷ []))
  unfolding block_of subjects_hold items_hold
  subject_more r enough fit parent creator privileges =
      record {
        custodian_there = rw length-append (omega arith);
        subjects_capacity = rw length-append (omega arith);
        grants_capacity = w.grants_capacity;
        lines_capacity = w.lines_capacity;
        items_capacity = w.items_capacity;
        short = w.short;
        subjects_fit = all_append (Fits (subject_format (width_in t))) t.subjects (r ∷ []) w.subjects_fit (fit, tt);
        grants_fit = w.grants_fit;
        lines_fit = w.lines_fit;
        items_fit = w.items_fit;
        subjects_hold_lem =
            every_append (subject_rules (width_in t) rows) t.subjects r
            (every_map (subject_rules (width_in t) t.subjects) (subject_rules (width_in t) rows) t.subjects kept w.subjects_hold_lem)
            (new_rules t.subjects r (width_in t) (length t.subjects) w.custodian_there parent creator inside);
        items_hold_lem =
            every_map (λ n. item_rules t.subjects t.items (suc n)) (λ n. item_rules rows t.items (suc n)) t.items
            (λ n i h u. item_kept t.subjects rows t.items t.items (subject_used_lem t.subjects r) (λ a l. l) (suc n) i u)
            w.items_hold_lem;
        lines_hold_lem =
            lines_held (with_subjects t rows)
            (all_map (line_kept t.subjects rows t.items t.items (subject_used_lem t.subjects r) (λ a l. l)) t.lines
            (line_rules_lem t w.lines_hold_lem))
            (lines_ascending t w.lines_hold_lem);
        grants_hold_lem =
            grants_held (with_subjects t rows)
            (all_map (grant_kept t.subjects r) t.grants (grant_rules_lem t w.grants_hold_lem))
            (grants_ascending t w.grants_hold_lem);
      }
    where
      rows : List SubjectRow
      rows = t.subjects ++ r ∷ []

      kept : (n : ℕ) (x : SubjectRow)
          → n < length t.subjects
          → T (subject_rules (width_in t) t.subjects n x)
          → T (subject_rules (width_in t) rows n x)
      kept n x h u = subject_kept t.subjects r (width_in t) n x h u

      inside : T (within r.privileges (privileges_in rows r.creator.0))
      inside = rw (privileges_same t.subjects r r.creator.0 creator) privileges

-- The eight calls. The call's questions, all answered yes, say that the new row holds its rules and that the table stays within
-- its capacity. The row's numbers fit their fields because the call's numbers and those of the old rows do. `search` finds each
-- answer among those of the call's questions.
pub well_formed_after : (t : Tables) (c : Change) → Handed c → WellFormed t → Passed (questions t c) → WellFormed (after t c)
unfolding questions after
well_formed_after t (define_subject c r p v) h w q =
    subject_more t w (subject_row p (new_privileges t c v) c)
    (search ltb→lt)
    (omega (arith, new_privileges_le t w c v))
    (search ltb→lt)
    (search ltb→lt)
    (new_privileges_within t w c v (search ltb→lt))
well_formed_after t (set_grant c s r d v) h w q = grant_put t w (grant_row s r c d v) (omega arith, search and_i depth 12) (search q)
well_formed_after t (remove_grant c s r) h w q = grant_cut t w (s ∷ r ∷ [])
well_formed_after t (set_line c r a k s v) h w q = line_put t w (line_row a k s v) (omega arith, search and_i depth 12) (search q)
well_formed_after t (remove_line c r a k s) h w q = line_cut t w (a ∷ k ∷ s ∷ [])
well_formed_after t (create_item c r a f p) h w q =
    let lower : T (ltb p (suc (length t.items))) = folder_before t.items p (search q) in
    item_more t w (item_row c a f p) (search ltb→lt) (omega arith, search and_i depth 12)
well_formed_after t (bind c i a) h w q =
    let there : T (item_used t.items i) = search q in
    let old : GoodItem t i (item_in t.items i) = item_good t w i there in
    item_replaced t w i (with_list (item_in t.items i) a) there refl (omega arith, search (and_i, and_l, and_r) depth 12)
well_formed_after t (hand_over c i o) h w q =
    let there : T (item_used t.items i) = search q in
    let old : GoodItem t i (item_in t.items i) = item_good t w i there in
    item_replaced t w i (with_owner (item_in t.items i) o) there refl (omega arith, search (and_i, and_l, and_r) depth 12)

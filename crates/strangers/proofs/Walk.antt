-- The followed lists by computation. The starts are the document and the folders that apply, one after the other. A walk
-- goes from a start to its list and then from list to list. It ends where there is no list, or one that was met before.
-- The walks from all starts meet exactly the followed lists. This is so because at each step every list met is a followed
-- one, and the list of every start and of every list met is itself met or is next. At the end nothing new is next, so all
-- are met. There are enough steps: a list that has a list of its own is an item in use, so meeting it leaves fewer items to
-- meet.
use Rattle.std.specs.Prelude.{Bool, true, ◌||◌, cond, ◌≢◌, ◌≡◌, refl, T, eqb, length}
use Rattle.std.proofs.Math.Bool.{false, true≢false}
use mathlib.Core.List.{List, [], ◌∷◌}
use Rattle.std.proofs.Math.Logic.{inl, inr}
use Rattle.std.proofs.Common.{ap, ◌∙◌, arith, eq-eqb}
use Prim.Native.Nat.{ℕ, zero, suc, ◌+◌, ◌<◌, ◌≤◌}
use Rattle.std.proofs.Math.Dec.{eqb→eq, eqb_refl, eqb-suc-zero}
use Rattle.std.proofs.Math.ListN.{get_or-eq_default}
use Rattle.std.specs.List.{AllByRecursion}
use Rattle.model.specs.Image.{Tables, no_item}
use Rattle.model.specs.Permission.{applied_folder, leads_up}
use Rattle.laws.specs.Tests.{two, or_l, or_r, or_cases, eq_or_ne, le_or_lt, true_T, all_map}
use Rattle.laws.specs.Folders.{leads_lower}
use Rattle.strangers.specs.Sequences.{list_of, Start, Followed}
use Rattle.strangers.specs.Sequences.Start.{the_document, its_folder}
use Rattle.strangers.specs.Sequences.Followed.{its_list, list_of_followed}

-- `some_of`: some number of a list passes a test; `among`: a is one of its numbers
abbrev pub some_of : (ℕ → Bool) → List ℕ → Bool
some_of test [] = false
some_of test (x ∷ xs) = test x || some_of test xs

abbrev pub among : ℕ → List ℕ → Bool
among a = some_of (eqb a)

-- The lists met by a walk that goes on at list a, together with those met before; the one met last is first. With more
-- steps than there are items the walk is not cut short.
unfoldable pub walk : Tables → ℕ → List ℕ → ℕ → List ℕ
walk t zero met a = met
walk t (suc n) met a = cond (eqb a 0 || among a met) met (walk t n (a ∷ met) (list_of t a))

-- the lists met from each of some items, one walk after the other
abbrev pub lists_from : Tables → List ℕ → List ℕ
lists_from t [] = []
lists_from t (d ∷ starts) = walk t (suc (length t.items)) (lists_from t starts) (list_of t d)

-- The folder that applies to item d, the folder that applies to that one, and so on. `up` is the step from an item to its
-- folder. The numbers fall, so there are at most d of them: the first argument is how many are still allowed.
unfoldable pub folders_within : ℕ → (ℕ → ℕ) → ℕ → List ℕ
folders_within zero up d = []
folders_within (suc n) up d = cond (leads_up d (up d)) (up d ∷ folders_within n up (up d)) []

-- the folders that apply, the starts, and the lists met from these
abbrev pub folders_of : Tables → ℕ → List ℕ
folders_of t document = folders_within document (applied_folder t.items) document

abbrev pub starts_of : Tables → ℕ → List ℕ
starts_of t document = document ∷ folders_of t document

abbrev pub followed_lists : Tables → ℕ → List ℕ
followed_lists t document = lists_from t (starts_of t document)

-- how many of the numbers 1 to m are not met
unfoldable left : ℕ → List ℕ → ℕ
left zero met = 0
left (suc m) met = cond (among (suc m) met) 0 1 + left m met

-- they are at most m
left_at_most : (m : ℕ) (met : List ℕ) → left m met ≤ m
unfolding left
left_at_most zero met = omega arith
left_at_most (suc m) met = elim (two (among (suc m) met)) [
  | inl e ↦ rw e (omega (arith, left_at_most m met))
  | inr e ↦ rw e (omega (arith, left_at_most m met))
]

-- a number that was met (q) stays met when one more is met, be it the same number (p) or another
one_more : (p q : Bool) → cond (p || q) 0 1 ≤ cond q 0 1
one_more true q = omega arith
one_more false q = omega arith

left_le : (m a : ℕ) (met : List ℕ) → left m (a ∷ met) ≤ left m met
unfolding left
left_le zero a met = omega arith
left_le (suc m) a met = omega (arith, one_more (eqb (suc m) a) (among (suc m) met), left_le m a met)

-- meeting one of them for the first time leaves fewer
left_lt : (m k : ℕ) (met : List ℕ) → k < m → among (suc k) met ≡ false → left m (suc k ∷ met) < left m met
unfolding left
left_lt zero k met h new = omega arith
left_lt (suc m) k met h new = elim (eq_or_ne m k) [
  | inl e ↦ rw (eq-eqb (suc m) (suc k) (ap suc e), e, new) (omega (arith, left_le k (suc k) met))
  | inr d ↦ omega (arith, one_more (eqb (suc m) (suc k)) (among (suc m) met), left_lt m k met (omega arith) new)
]

abbrev items_left : Tables → List ℕ → ℕ
items_left t = left (length t.items)

-- an item that has a list is in use, so meeting it for the first time leaves fewer items
items_lt : (t : Tables) (a : ℕ) (met : List ℕ) → among a (0 ∷ met) ≡ false → list_of t a ≢ 0 → items_left t (a ∷ met) < items_left t met
items_lt t zero met new some_list = absurd (some_list refl)
items_lt t (suc k) met new some_list = elim (le_or_lt (length t.items) k) [
  | inl past ↦ absurd (some_list (ap (λ r. r.list.0) (get_or-eq_default t.items no_item past)))
  | inr used ↦ left_lt (length t.items) k met used (rw (eqb-suc-zero k) at new)
]

-- what holds for all numbers of a list holds for each one among them
among_all : (P : ℕ → Type 0) (xs : List ℕ) → AllByRecursion P xs → (a : ℕ) → T (among a xs) → P a
among_all P [] all a h = absurd h
among_all P (x ∷ xs) all a h =
    elim (or_cases (eqb a x) (among a xs) h) [ inl e ↦ rw (eqb→eq a x e) all.0 | inr l ↦ among_all P xs all.1 a l ]

module _ (t : Tables) (document : ℕ) where
  -- item x has no list, or one among `lists`
  abbrev Listed : List ℕ → ℕ → Type 0
  Listed lists x = list_of t x ≢ 0 → T (among (list_of t x) lists)

  -- What holds along the walks: the lists met are followed ones, and the lists of the starts so far and of the lists met
  -- are among `lists`.
  record Met (starts met lists : List ℕ) : Type 0 where
    followed : AllByRecursion (Followed t document) met
    of_starts : AllByRecursion (Listed lists) starts
    of_met : AllByRecursion (Listed lists) met

  -- what has its list among `lists` still has it there after one more is added
  more_listed : (b : ℕ) (lists xs : List ℕ) → AllByRecursion (Listed lists) xs → AllByRecursion (Listed (b ∷ lists)) xs
  more_listed b lists = all_map (λ x l some_list. search or_r)

  -- if the next list a is none or was met before, it adds nothing to the lists met
  at_end : (starts met : List ℕ) (a : ℕ) → T (among a (0 ∷ met)) → Met starts met (a ∷ met) → Met starts met met
  at_end starts met a end m =
      record { followed = m.followed; of_starts = all_map listed starts m.of_starts; of_met = all_map listed met m.of_met }
    where
      listed : (x : ℕ) → Listed (a ∷ met) x → Listed met x
      listed x l some_list = elim (or_cases (eqb (list_of t x) a) (among (list_of t x) met) (l some_list)) [
        | inl e ↦ elim (or_cases (eqb a 0) (among a met) end) [
          | inl z ↦ absurd (some_list (eqb→eq (list_of t x) a e ∙ eqb→eq a 0 z))
          | inr h ↦ rw (eqb→eq (list_of t x) a e) h
        ]
        | inr h ↦ h
      ]

  -- Along a walk, a is the next list, and more steps are left than items to meet. After a list that is met for the first
  -- time, its own list is next.
  walk_met : (n : ℕ) (starts met : List ℕ) (a : ℕ)
      → (a ≢ 0 → Followed t document a × (items_left t met < n))
      → Met starts met (a ∷ met)
      → Met starts (walk t n met a) (walk t n met a)
  unfolding walk
  walk_met zero starts met a next m = elim (eq_or_ne a 0) [
    | inl e ↦ at_end starts met a (rw e tt) m
    | inr d ↦ absurd (omega (arith, (next d).1))
  ]
  walk_met (suc n) starts met a next m = elim (two (among a (0 ∷ met))) [
    | inl e ↦ rw e (at_end starts met a (true_T (among a (0 ∷ met)) e) m)
    | inr new ↦
        let f : Followed t document a × (items_left t met < suc n) = next (λ e. true≢false (rw (eq-eqb a 0 e) at new)) in
        rw new (walk_met n starts (a ∷ met) (list_of t a)
        (λ some_list. (list_of_followed f.0 some_list, omega (arith, items_lt t a met new some_list)))
        record {
          followed = (f.0, m.followed);
          of_starts = more_listed (list_of t a) (a ∷ met) starts m.of_starts;
          of_met = (λ some_list. search (or_l, eqb_refl), more_listed (list_of t a) (a ∷ met) met m.of_met);
        })
  ]

  -- walk after walk: at the beginning of each, the start's list is next
  walks_met : (starts : List ℕ) → AllByRecursion (Start t document) starts → Met starts (lists_from t starts) (lists_from t starts)
  walks_met [] each = record { followed = tt; of_starts = tt; of_met = tt }
  walks_met (d ∷ starts) each =
      let met : List ℕ = lists_from t starts in
      let m : Met starts met met = walks_met starts each.1 in
      walk_met (suc (length t.items)) (d ∷ starts) met (list_of t d)
      (λ some_list. (its_list each.0 some_list, omega (arith, left_at_most (length t.items) met)))
      record {
        followed = m.followed;
        of_starts = (λ some_list. search (or_l, eqb_refl), more_listed (list_of t d) met starts m.of_starts);
        of_met = more_listed (list_of t d) met met m.of_met;
      }

  -- `starts_of` has all starts and nothing else.

  abbrev up : ℕ → ℕ
  up = applied_folder t.items

  -- Nothing else: the folders that come after a start are starts.
  pub folders_only : (n d : ℕ) → Start t document d → AllByRecursion (Start t document) (folders_within n up d)
  unfolding folders_within
  folders_only zero d s = tt
  folders_only (suc n) d s = elim (two (leads_up d (up d))) [
    | inl e ↦ let next : Start t document (up d) = its_folder s (true_T (leads_up d (up d)) e) in rw e (next, folders_only n (up d) next)
    | inr e ↦ rw e tt
  ]

  starts_only : AllByRecursion (Start t document) (starts_of t document)
  starts_only = (the_document, folders_only document document the_document)

  -- All: if d is item e or one of the folders that come after e, so is the folder that applies to d. The steps are not used up,
  -- as their number is at least e and the numbers of the folders fall.
  next_among : (n e : ℕ)
      → e ≤ n
      → (d : ℕ) → T (among d (e ∷ folders_within n up e)) → T (leads_up d (up d)) → T (among (up d) (folders_within n up e))
  unfolding folders_within
  next_among zero e most d h leads = absurd (omega (arith, leads_lower d (up d) leads, at_last))
    where
      at_last : d ≡ e
      at_last = elim (or_cases (eqb d e) false h) [ inl same ↦ eqb→eq d e same | inr none ↦ absurd none ]
  next_among (suc n) e most d h leads = elim (two (leads_up e (up e))) [
    | inl goes_on ↦
        let rest : List ℕ = folders_within n up (up e) in
        rw goes_on (elim (or_cases (eqb d e) (among d (up e ∷ rest)) (rw goes_on at h)) [
          | inl same ↦
              or_l (eqb (up d) (up e)) (among (up d) rest)
              (true_T (eqb (up d) (up e)) (eq-eqb (up d) (up e) (ap up (eqb→eq d e same))))
          | inr later ↦
              or_r (eqb (up d) (up e)) (among (up d) rest)
              (next_among n (up e) (omega (arith, leads_lower e (up e) (true_T (leads_up e (up e)) goes_on))) d later leads)
        ])
    | inr ends ↦ elim (or_cases (eqb d e) false (rw ends at h)) [
      | inl same ↦ absurd (rw (eqb→eq d e same, ends) at leads)
      | inr none ↦ absurd none
    ]
  ]

  pub start_among : {d : ℕ} → Start t document d → T (among d (starts_of t document))
  start_among the_document = search (or_l, eqb_refl)
  start_among (its_folder {d} s leads) =
      or_r (eqb (up d) document) (among (up d) (folders_of t document))
      (next_among document document (omega arith) d (start_among s) leads)

  pub folder_among : {d : ℕ} → Start t document d → T (leads_up d (up d)) → T (among (up d) (folders_of t document))
  folder_among {d} s leads = next_among document document (omega arith) d (start_among s) leads

  -- The lists met from some of the starts: the list of each of these starts is met, and so is the list of each list met.
  module _ (starts : List ℕ) (each : AllByRecursion (Start t document) starts) where
    pub list_of_start_met : (d : ℕ) → T (among d starts) → Listed (lists_from t starts) d
    list_of_start_met = among_all (Listed (lists_from t starts)) starts (walks_met starts each).of_starts

    pub list_of_list_met : (a : ℕ) → T (among a (lists_from t starts)) → Listed (lists_from t starts) a
    list_of_list_met = among_all (Listed (lists_from t starts)) (lists_from t starts) (walks_met starts each).of_met

  pub walked_followed : (a : ℕ) → T (among a (followed_lists t document)) → Followed t document a
  walked_followed =
      among_all (Followed t document) (followed_lists t document) (walks_met (starts_of t document) starts_only).followed

  pub followed_walked : (a : ℕ) → Followed t document a → T (among a (followed_lists t document))
  followed_walked _ (its_list {d} s some_list) = list_of_start_met (starts_of t document) starts_only d (start_among s) some_list
  followed_walked _ (list_of_followed {a} f some_list) =
      list_of_list_met (starts_of t document) starts_only a (followed_walked a f) some_list

-- An outsider's call, for each of the eight calls. The questions that it passed make sure that it changes nothing that is
-- watched and no grant of another grantor. t are the tables at the stop, u those that the call finds. Each call gives new
-- rows to one table. For each table a law says what these rows must keep.
use Rattle.std.specs.Prelude.{◌&&◌, ◌||◌, not, List, [], ◌∷◌, ◌++◌, ◌⊎◌, ◌≢◌, ◌≡◌, refl, T, eqb, length, Some}
use Rattle.std.proofs.lemmas.Option.{none-some}
use Rattle.std.proofs.Common.{inl, inr, sym, ap, ◌∙◌, arith, eqb→eq}
use Prim.Native.Nat.{ℕ, zero, suc, ◌<◌, ◌≤◌}
use Rattle.std.proofs.Math.ListN.{length-append}
use Rattle.model.specs.declared.SubjectRow.{SubjectRow}
use Rattle.model.specs.declared.GrantRow.{GrantRow}
use Rattle.model.specs.declared.LineRow.{LineRow}
use Rattle.model.specs.declared.ItemRow.{ItemRow}
use Rattle.std.specs.List.{AllByRecursion}
use Rattle.model.specs.Lists.{is_there}
use Rattle.model.specs.Sorted.{find_row, put, cut}
use Rattle.model.specs.WhoAndWhat.{custodian, edit_list, has}
use Rattle.model.specs.Image.{Tables, grant_row, line_row, item_row, subject_row, grant_key, line_key}
use Rattle.model.specs.Image.{subject_in, item_in, item_used, is_locked, with_list, with_owner}
use Rattle.model.specs.Permission.{line_in, grant_of, permission_set}
use Rattle.model.specs.Calls.{Change, caller_of, with_subjects, with_grants, with_lines, with_items, set_item}
use Rattle.model.specs.Calls.{new_privileges, after}
use Rattle.model.specs.Calls.Change.{define_subject, set_grant, remove_grant, set_line, remove_line, create_item, bind, hand_over}
use Rattle.model.specs.Questions.{questions, given_by, may_bind}
use Rattle.laws.specs.Tests.{and_l, or_cases}
use Rattle.laws.specs.KeyOrder.{same_or_not}
use Rattle.laws.specs.Sorted.{all_put, all_cut, find_put_other, find_cut_other}
use Rattle.laws.specs.Numbered.{subject_same, item_same, item_other, length_set_item}
use Rattle.laws.specs.WellFormed.{WellFormed, Passed}
use Rattle.laws.specs.Kept.{grants_ascending, lines_ascending}
use Rattle.strangers.specs.Sequences.{owner_of, Followed, Outsider}
use Rattle.strangers.specs.Sequences.Insider.{the_custodian}
use Rattle.strangers.proofs.Watched.{Watched, watched_owner, watched_used}
use Rattle.strangers.proofs.Untouched.{Given, Untouched, item_still, no_editor}

module _ (t : Tables) (document : ℕ) where
  not_custodian : (c : ℕ) → Outsider t document c → c ≢ custodian
  not_custodian c outsider e = (rw e at outsider).outside (search the_custodian)

  module _ (well : WellFormed t) (there : T (item_used t.items document))
      (u : Tables) (now : WellFormed u) (same : Untouched t document u) where
    -- New rows for one table.

    subject_more : (r : SubjectRow) → Untouched t document (with_subjects u (u.subjects ++ r ∷ []))
    subject_more r =
        record {
          capacities_same = same.capacities_same;
          subjects_more = rw length-append (omega (arith, same.subjects_more));
          parents_same = λ s old. cc (kept s old, same.parents_same s old);
          creators_same = λ s old. cc (kept s old, same.creators_same s old);
          privileges_same = λ s old. cc (kept s old, same.privileges_same s old);
          items_more = same.items_more;
          watched_same = same.watched_same;
          lines_same = same.lines_same;
          grants_given = same.grants_given;
        }
      where
        kept : (s : ℕ) → s < length t.subjects → subject_in (u.subjects ++ r ∷ []) s ≡ subject_in u.subjects s
        kept s old = subject_same u.subjects r s (omega (arith, same.subjects_more))

    grants_replaced : (rows : List GrantRow) → AllByRecursion (Given t document) rows → Untouched t document (with_grants u rows)
    grants_replaced rows given =
        record {
          capacities_same = same.capacities_same;
          subjects_more = same.subjects_more;
          parents_same = same.parents_same;
          creators_same = same.creators_same;
          privileges_same = same.privileges_same;
          items_more = same.items_more;
          watched_same = same.watched_same;
          lines_same = same.lines_same;
          grants_given = given;
        }

    lines_replaced : (rows : List LineRow)
        → ((a : ℕ) → Followed t document a → (k s : ℕ) → line_in rows a k s ≡ line_in u.lines a k s)
        → Untouched t document (with_lines u rows)
    lines_replaced rows kept =
        record {
          capacities_same = same.capacities_same;
          subjects_more = same.subjects_more;
          parents_same = same.parents_same;
          creators_same = same.creators_same;
          privileges_same = same.privileges_same;
          items_more = same.items_more;
          watched_same = same.watched_same;
          lines_same = λ a f k s. kept a f k s ∙ same.lines_same a f k s;
          grants_given = same.grants_given;
        }

    items_replaced : (rows : List ItemRow)
        → length u.items ≤ length rows
        → ((i : ℕ) → Watched t document i → item_in rows i ≡ item_in u.items i)
        → Untouched t document (with_items u rows)
    items_replaced rows more kept =
        record {
          capacities_same = same.capacities_same;
          subjects_more = same.subjects_more;
          parents_same = same.parents_same;
          creators_same = same.creators_same;
          privileges_same = same.privileges_same;
          items_more = omega (arith, same.items_more);
          watched_same = λ i w. kept i w ∙ same.watched_same i w;
          lines_same = same.lines_same;
          grants_given = same.grants_given;
        }

    -- The caller may edit list b. So b is not a followed list, and its lines are not lines of a followed list.
    module _ (c r b : ℕ) (outsider : Outsider t document c) (allowed : T (has edit_list (permission_set u c r b))) where
      another_list : (a : ℕ) → Followed t document a → b ≢ a
      another_list a followed e = no_editor t document u same c a outsider followed r (rw e at allowed)

      line_put : (k s v : ℕ) → Untouched t document (with_lines u (put line_key (line_row b k s v) u.lines))
      line_put k s v = lines_replaced (put line_key (line_row b k s v) u.lines) kept
        where
          kept : (a : ℕ)
              → Followed t document a
              → (l x : ℕ) → line_in (put line_key (line_row b k s v) u.lines) a l x ≡ line_in u.lines a l x
          kept zero f l x = refl
          kept (suc a) f l x =
              find_put_other line_key (line_row b k s v) u.lines (suc a ∷ l ∷ x ∷ [])
              (lines_ascending u now.lines_hold_lem)
              (λ e. another_list (suc a) f (cc e))

      line_cut : (k s : ℕ) → Untouched t document (with_lines u (cut line_key (b ∷ k ∷ s ∷ []) u.lines))
      line_cut k s = lines_replaced (cut line_key (b ∷ k ∷ s ∷ []) u.lines) kept
        where
          kept : (a : ℕ)
              → Followed t document a
              → (l x : ℕ) → line_in (cut line_key (b ∷ k ∷ s ∷ []) u.lines) a l x ≡ line_in u.lines a l x
          kept zero f l x = refl
          kept (suc a) f l x =
              find_cut_other line_key (b ∷ k ∷ s ∷ []) u.lines (suc a ∷ l ∷ x ∷ [])
              (lines_ascending u now.lines_hold_lem)
              (λ e. another_list (suc a) f (cc e))

    -- A new row for an item that is not watched.
    item_replaced : (i : ℕ) (r : ItemRow) → ¬ Watched t document i → Untouched t document (with_items u (set_item u.items i r))
    item_replaced i r apart =
        items_replaced (set_item u.items i r) (rw (length_set_item u.items i r) (omega arith))
        (λ j w. item_other u.items i r j (λ e. apart (rw e at w)))

    -- only the owner of an item and the custodian may bind it, and the owner of a watched item is an insider
    not_watched : (c i : ℕ) → Outsider t document c → T (may_bind u c i) → ¬ Watched t document i
    not_watched c i outsider may w =
        go (or_cases (eqb c (owner_of u i) && not (is_locked u.items i)) (eqb c custodian) may)
      where
        go : T (eqb c (owner_of u i) && not (is_locked u.items i)) ⊎ T (eqb c custodian) → ⊥
        go (inl owns) =
            let e : c ≡ owner_of u i =
            eqb→eq c (owner_of u i) (and_l (eqb c (owner_of u i)) (not (is_locked u.items i)) owns) in
            let owner : c ≡ owner_of t i = e ∙ ap (λ (x : ItemRow). x.owner.0) (same.watched_same i w) in
            (rw owner at outsider).outside (watched_owner t document w)
        go (inr e) = not_custodian c outsider (eqb→eq c custodian e)

    -- The eight calls.
    pub untouched_after : (c : Change) → Outsider t document (caller_of c) → Passed (questions u c) → Untouched t document (after u c)
    unfolding questions after
    untouched_after (define_subject c r p v) outsider q = subject_more (subject_row p (new_privileges u c v) c)
    untouched_after (set_grant c s r d v) outsider q =
        grants_replaced (put grant_key (grant_row s r c d v) u.grants)
        (all_put grant_key (Given t document) (grant_row s r c d v) u.grants
        record { grantor_present = outsider.present; grantor_outside = λ holder. outsider.outside }
        same.grants_given)
    untouched_after (remove_grant c s r) outsider q =
        grants_replaced (cut grant_key (s ∷ r ∷ []) u.grants)
        (all_cut grant_key (Given t document) (s ∷ r ∷ []) u.grants same.grants_given)
    untouched_after (set_line c r a k s v) outsider q = line_put c r a outsider (search q) k s v
    untouched_after (remove_line c r a k s) outsider q = line_cut c r a outsider (search q) k s
    untouched_after (create_item c r a f p) outsider q =
        items_replaced (u.items ++ item_row c a f p ∷ []) (rw length-append (omega arith))
        (λ i w. item_same u.items (item_row c a f p) i (item_still t document u same i (watched_used t document well there w)))
    untouched_after (bind c i a) outsider q = item_replaced i (with_list (item_in u.items i) a) (not_watched c i outsider (search q))
    untouched_after (hand_over c i o) outsider q =
        item_replaced i (with_owner (item_in u.items i) o) (λ w. not_custodian c outsider (eqb→eq c custodian (search q)))

  -- A grant of another grantor: only its grantor can replace it, and only its grantor or the custodian can remove it.
  module _ (u : Tables) (now : WellFormed u) (g : GrantRow) where
    put_kept : (k : List ℕ) (x : GrantRow)
        → find_row grant_key k u.grants ≡ Some g
        → T (not (is_there (find_row grant_key (grant_key x) u.grants)) || given_by x.grantor.0 (find_row grant_key (grant_key x) u.grants))
        → x.grantor.0 ≢ g.grantor.0
        → find_row grant_key k (put grant_key x u.grants) ≡ Some g
    put_kept k x held asked another = go (same_or_not (grant_key x) k)
      where
        go : (grant_key x ≡ k) ⊎ (grant_key x ≢ k) → find_row grant_key k (put grant_key x u.grants) ≡ Some g
        go (inl e) = absurd (another (sym (eqb→eq g.grantor.0 x.grantor.0 (rw (e, held) at asked))))
        go (inr d) = find_put_other grant_key x u.grants k (grants_ascending u now.grants_hold_lem) d ∙ held

    cut_kept : (k l : List ℕ) (c : ℕ)
        → find_row grant_key k u.grants ≡ Some g
        → T (given_by c (find_row grant_key l u.grants) || eqb c custodian)
        → c ≢ g.grantor.0
        → c ≢ custodian
        → find_row grant_key k (cut grant_key l u.grants) ≡ Some g
    cut_kept k l c held asked another no-custodian = go (same_or_not l k)
      where
        mine : T (eqb g.grantor.0 c) ⊎ T (eqb c custodian) → ⊥
        mine (inl e) = another (sym (eqb→eq g.grantor.0 c e))
        mine (inr e) = no-custodian (eqb→eq c custodian e)

        go : (l ≡ k) ⊎ (l ≢ k) → find_row grant_key k (cut grant_key l u.grants) ≡ Some g
        go (inl e) = absurd (mine (or_cases (eqb g.grantor.0 c) (eqb c custodian) (rw (e, held) at asked)))
        go (inr d) = find_cut_other grant_key l u.grants k (grants_ascending u now.grants_hold_lem) d ∙ held

    pub grant_kept : (s r : ℕ) (c : Change)
        → grant_of u s r ≡ Some g
        → caller_of c ≢ g.grantor.0
        → Outsider t document (caller_of c)
        → Passed (questions u c)
        → grant_of (after u c) s r ≡ Some g
    unfolding questions after
    grant_kept s zero c held another outsider q = absurd (none-some g held)
    grant_kept s (suc r) (define_subject c x p v) held another outsider q = held
    grant_kept s (suc r) (set_grant c x y d v) held another outsider q =
        put_kept (s ∷ suc r ∷ []) (grant_row x y c d v) held (search q) another
    grant_kept s (suc r) (remove_grant c x y) held another outsider q =
        cut_kept (s ∷ suc r ∷ []) (x ∷ y ∷ []) c held (search q) another (not_custodian c outsider)
    grant_kept s (suc r) (set_line c x a k y v) held another outsider q = held
    grant_kept s (suc r) (remove_line c x a k y) held another outsider q = held
    grant_kept s (suc r) (create_item c x a f p) held another outsider q = held
    grant_kept s (suc r) (bind c i a) held another outsider q = held
    grant_kept s (suc r) (hand_over c i o) held another outsider q = held

-- What the calls of strangers keep, and that the permission set is read from nothing else. t are the tables at the stop, u
-- those now.
use Rattle.std.specs.Prelude.{Bool, true, false, cond, [], ◌∷◌, ◌⊎◌, ◌≡◌, refl, ℕ, zero, suc, ◌<◌, ◌≤◌, length, None, Option, Some}
use Rattle.std.proofs.Common.{inl, inr, ◌∙◌, arith, ltb→lt, lt→ltb}
use Rattle.std.proofs.Math.Path.{ap}
use Rattle.std.proofs.Math.Dec.{T}
use Rattle.model.specs.declared.GrantRow.{GrantRow}
use Rattle.std.specs.List.{AllByRecursion}
use Rattle.model.specs.Tree.{in_tree}
use Rattle.model.specs.WhoAndWhat.{edit_list, has, ◌∩◌}
use Rattle.model.specs.Image.{Tables, itself_kind, owner_kind, everyone_kind, grant_key, grant_rules}
use Rattle.model.specs.Image.{subject_in, parent_in, privileges_in, subject_used, item_in, item_used}
use Rattle.model.specs.Permission.{line_in, group_rule, own_rule, owner_rule, deciding_rule, everyone_set, part_on}
use Rattle.model.specs.Permission.{lines_part, grant_of, lent_operations, lent_part, operation_under, object_under, own_under}
use Rattle.model.specs.Permission.{folder_on, applied_folder, shared_up, permission_under, permission_set}
use Rattle.laws.specs.Tests.{and_l, and_r, or_cases, all_map, all_both, all_self}
use Rattle.laws.specs.Sorted.{IfSome, all_find}
use Rattle.laws.specs.Sets.{has_or, has_and}
use Rattle.laws.specs.Folders.{shared_same, permission_own}
use Rattle.laws.specs.WellFormed.{WellFormed}
use Rattle.laws.specs.Tree.{tree_same, group_same}
use Rattle.laws.specs.Kept.{grant_rules_lem}
use Rattle.strangers.specs.Sequences.{list_of, owner_of, Start, Followed, Insider, Outsider}
use Rattle.strangers.specs.Sequences.Start.{the_document, its_folder}
use Rattle.strangers.specs.Sequences.Insider.{may_edit}
use Rattle.strangers.proofs.Watched.{Watched, watched_list, owner_used}
use Rattle.strangers.proofs.Watched.Watched.{start, list}

module _ (t : Tables) (document : ℕ) where
  -- the grantor of a grant was present at the stop, and is no insider if an outsider holds the grant
  pub record Given (g : GrantRow) : Type 0 where
    pub grantor_present : T (subject_used t.subjects g.grantor.0)
    pub grantor_outside : Outsider t document g.receiver.0 → ¬ Insider t document g.grantor.0

  -- The capacities are the same. Every subject that was present still is, with the same parent, creator and privileges. No
  -- item has gone. The watched items and the lines of the followed lists are the same. Every grant is as `Given` says.
  pub record Untouched (u : Tables) : Type 0 where
    pub capacities_same : u.capacities ≡ t.capacities
    pub subjects_more : length t.subjects ≤ length u.subjects
    pub parents_same : (s : ℕ) → s < length t.subjects → parent_in u.subjects s ≡ parent_in t.subjects s
    pub creators_same : (s : ℕ) → s < length t.subjects → (subject_in u.subjects s).creator.0 ≡ (subject_in t.subjects s).creator.0
    pub privileges_same : (s : ℕ) → s < length t.subjects → privileges_in u.subjects s ≡ privileges_in t.subjects s
    pub items_more : length t.items ≤ length u.items
    pub watched_same : (i : ℕ) → Watched t document i → item_in u.items i ≡ item_in t.items i
    pub lines_same : (a : ℕ) → Followed t document a → (k s : ℕ) → line_in u.lines a k s ≡ line_in t.lines a k s
    pub grants_given : AllByRecursion Given u.grants

  -- All of this holds at the stop. In no row does an outsider hold a grant from an insider, so each grant is as `Given`
  -- says.
  pub untouched_at_stop : WellFormed t → Untouched t
  untouched_at_stop well =
      record {
        capacities_same = refl;
        subjects_more = omega arith;
        parents_same = λ s old. refl;
        creators_same = λ s old. refl;
        privileges_same = λ s old. refl;
        items_more = omega arith;
        watched_same = λ i w. refl;
        lines_same = λ a f k s. refl;
        grants_given =
            all_map grant_given t.grants
            (all_both (λ g. T (grant_rules t.subjects g))
            (λ g. (s : ℕ) → AllByRecursion (outside_for s) t.grants → outside_for s g) t.grants
            (grant_rules_lem t well.grants_hold_lem)
            (all_self outside_for t.grants));
      }
    where
      outside_for : ℕ → GrantRow → Type 0
      outside_for s g = g.receiver.0 ≡ s → ¬ Insider t document g.grantor.0

      grant_given : (g : GrantRow)
          → T (grant_rules t.subjects g) × ((s : ℕ) → AllByRecursion (outside_for s) t.grants → outside_for s g)
          → Given g
      grant_given g p =
          record {
            grantor_present = search (and_l, and_r);
            grantor_outside = λ holder. p.1 g.receiver.0 holder.holds_none refl;
          }

  module _ (u : Tables) (same : Untouched u) where
    -- what was present still is
    pub subject_still : (s : ℕ) → T (subject_used t.subjects s) → T (subject_used u.subjects s)
    subject_still s present =
        lt→ltb s (length u.subjects) (omega (arith, same.subjects_more, ltb→lt s (length t.subjects) present))

    pub item_still : (i : ℕ) → T (item_used t.items i) → T (item_used u.items i)
    item_still zero present = present
    item_still (suc n) present = lt→ltb n (length u.items) (omega (arith, same.items_more, ltb→lt n (length t.items) present))

    own_lines_agree : (a : ℕ) → (a ≡ 0) ⊎ Followed t document a → (k s : ℕ) → line_in u.lines a k s ≡ line_in t.lines a k s
    own_lines_agree a (inl e) k s = rw e refl
    own_lines_agree a (inr f) k s = same.lines_same a f k s

    -- the lines' part on a watched item is the same
    pub part_same : (s i : ℕ) → T (subject_used t.subjects s) → Watched t document i → lines_part u s i ≡ lines_part t s i
    unfolding part_on deciding_rule owner_rule own_rule group_rule everyone_set
    part_same s i present w =
        let agree : (k x : ℕ) → line_in u.lines (list_of t i) k x ≡ line_in t.lines (list_of t i) k x =
        own_lines_agree (list_of t i) (watched_list t document w) in
        rw (
          same.watched_same i w,
          agree owner_kind 0,
          agree itself_kind s,
          agree everyone_kind 0,
          group_same (parent_in u.subjects) (parent_in t.subjects) (length t.subjects) same.parents_same
              u.lines t.lines (list_of t i) agree s (search ltb→lt),
        )

    -- a grant that is found is as `Given` says
    given_of : (s r : ℕ) → IfSome (λ g. Given g × (grant_key g ≡ s ∷ r ∷ [])) (grant_of u s r)
    given_of s zero = tt
    given_of s (suc r) = all_find grant_key Given (s ∷ suc r ∷ []) u.grants same.grants_given

    -- An outsider may not edit a followed list, whatever role it claims. If its own lines' part allowed it, the outsider
    -- would be an insider. If its grantor's lines' part did, the grantor would be one. The list's folders can only take away.
    module _ (c a : ℕ) (outsider : Outsider t document c) (followed : Followed t document a) where
      allowed_inside : (s : ℕ) → T (subject_used t.subjects s) → T (has edit_list (lines_part u s a)) → Insider t document s
      allowed_inside s present allowed =
          let allowed_then : T (has edit_list (lines_part t s a)) = rw (part_same s a present (list followed)) at allowed in search may_edit

      lent_none : (o : Option GrantRow) (r : ℕ) → IfSome (λ g. Given g × (grant_key g ≡ c ∷ r ∷ [])) o
          → ¬ T (has edit_list (lent_part u o a))
      unfolding has
      lent_none None r p allowed = allowed
      lent_none (Some g) r p allowed = go (in_tree (parent_in u.subjects) g.domain.0 (owner_of u a)) allowed
        where
          received : Outsider t document g.receiver.0
          received = let holder : g.receiver.0 ≡ c = cc p.1 in rw holder outsider

          go : (b : Bool) → ¬ T (has edit_list (cond b (g.privileges ∩ lines_part u g.grantor.0 a) 0))
          go true h =
              p.0.grantor_outside received
              (allowed_inside g.grantor.0 p.0.grantor_present
              (and_r (has edit_list g.privileges) (has edit_list (lines_part u g.grantor.0 a))
              (rw (has_and edit_list g.privileges (lines_part u g.grantor.0 a)) at h)))
          go false h = h

      pub no_editor : (r : ℕ) → ¬ T (has edit_list (permission_set u c r a))
      unfolding own_under object_under
      no_editor r allowed =
          let own : T (has edit_list (own_under u c (grant_of u c r) a)) = permission_own u c (grant_of u c r) edit_list a allowed in
          let object : T (has edit_list (object_under u c (grant_of u c r) a)) =
          and_r (has edit_list (operation_under u c (grant_of u c r))) (has edit_list (object_under u c (grant_of u c r) a))
          (rw (has_and edit_list (operation_under u c (grant_of u c r)) (object_under u c (grant_of u c r) a)) at own) in
          go
          (or_cases (has edit_list (lines_part u c a)) (has edit_list (lent_part u (grant_of u c r) a))
          (rw (has_or edit_list (lines_part u c a) (lent_part u (grant_of u c r) a)) at object))
        where
          go : T (has edit_list (lines_part u c a)) ⊎ T (has edit_list (lent_part u (grant_of u c r) a)) → ⊥
          go (inl own) = outsider.outside (allowed_inside c outsider.present own)
          go (inr lent) = lent_none (grant_of u c r) r (given_of c r) lent

    -- if there is a grant, its grantor was present
    abbrev GrantorThere : Option GrantRow → Type 0
    GrantorThere = IfSome (λ g. T (subject_used t.subjects g.grantor.0))

    -- such a grant adds the same to the operation set
    lent_operations_same : (o : Option GrantRow) → GrantorThere o → lent_operations u o ≡ lent_operations t o
    lent_operations_same None p = refl
    lent_operations_same (Some g) p = ap (λ (x : ℕ). g.privileges ∩ x) (same.privileges_same g.grantor.0 (search ltb→lt))

    -- A watched item's own set is the same for an asker that was present, under a grant whose grantor was. All that it is read
    -- from is the same.
    module _ (well : WellFormed t) (there : T (item_used t.items document)) where
      lent_part_same : (i : ℕ) → Watched t document i → (o : Option GrantRow) → GrantorThere o → lent_part u o i ≡ lent_part t o i
      lent_part_same i w None p = refl
      lent_part_same i w (Some g) p =
          rw (
            part_same g.grantor.0 i p w,
            same.watched_same i w,
            tree_same (parent_in u.subjects) (parent_in t.subjects) (length t.subjects) same.parents_same
                g.domain.0 (owner_of t i)
                (ltb→lt (owner_of t i) (length t.subjects) (owner_used t document well there w)),
          )

      module _ (asker : ℕ) (present : T (subject_used t.subjects asker)) where
        own_same : (o : Option GrantRow)
            → GrantorThere o
            → (i : ℕ) → Watched t document i → own_under u asker o i ≡ own_under t asker o i
        unfolding own_under operation_under object_under
        own_same o p i w =
            rw (
              same.privileges_same asker (search ltb→lt),
              lent_operations_same o p,
              part_same asker i present w,
              lent_part_same i w o p,
            )

        -- So the permission set on the document is the same. It is what the own sets of the starts share, and which folder
        -- applies to a start stands in its row, which is the same.
        under_same : (o : Option GrantRow) → GrantorThere o → permission_under u asker o document ≡ permission_under t asker o document
        unfolding permission_under shared_up
        under_same o p =
            shared_same (applied_folder t.items) (own_under t asker o) (applied_folder u.items) (own_under u asker o)
            (Start t document)
            (λ i s leads. its_folder s leads)
            (λ i s. ap folder_on (same.watched_same i (start s)))
            (λ i s. own_same o p i (start s))
            document document the_document

        grantor_present_of : (o : Option GrantRow) (r : ℕ) → IfSome (λ g. Given g × (grant_key g ≡ asker ∷ r ∷ [])) o → GrantorThere o
        grantor_present_of None r p = tt
        grantor_present_of (Some g) r p = p.0.grantor_present

        pub permission_same : (role : ℕ)
            → grant_of u asker role ≡ grant_of t asker role
            → permission_set u asker role document ≡ permission_set t asker role document
        permission_same role grant =
            under_same (grant_of u asker role) (grantor_present_of (grant_of u asker role) role (given_of asker role))
            ∙ ap (λ (o : Option GrantRow). permission_under t asker o document) grant

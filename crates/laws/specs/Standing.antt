-- Lines by list, kind and subject, in tables whose lines hold their rules, as those of an accepted image do: a line is found
-- exactly if it stands in the table. No line is one of list 0, since that is no list.
use Rattle.std.specs.Prelude.{true, ◌&&◌, [], ◌∷◌, ◌≡◌, refl, ℕ, zero, suc, T, None, Option, Some}
use Rattle.std.proofs.lemmas.Option.{none-some}
use Rattle.std.proofs.Common.{sym, ap, ◌∙◌}
use Rattle.model.specs.declared.LineRow.{LineRow}
use Rattle.model.specs.Sorted.{row_with}
use Rattle.model.specs.Image.{Tables, line_row, line_key, is_list, kind_fits, subject_used, line_rules, lines_hold}
use Rattle.model.specs.Permission.{line_in}
use Rattle.model.specs.Reasons.{Stands, Absent}
use Rattle.laws.specs.Tests.{and_l, all_index}
use Rattle.laws.specs.Sorted.{find_plain, row_there, row_none, row_only}
use Rattle.laws.specs.Kept.{line_rules_lem, lines_ascending}

-- a line is its key and its privileges
row_by_key : (l : LineRow) (a kind h : ℕ) → line_key l ≡ a ∷ kind ∷ h ∷ [] → l ≡ line_row a kind h l.privileges
row_by_key l a kind h e =
    let its_list : l.list.0 ≡ a = cc in
    let its_kind : l.kind ≡ kind = cc in
    let its_subject : l.subject.0 ≡ h = cc in
    rw (← its_list, ← its_kind, ← its_subject)

module _ (t : Tables) (hold : T (lines_hold t)) where
  -- the search finds the row with the key
  by_plain : (a kind h : ℕ) → line_in t.lines (suc a) kind h ≡ row_with line_key (suc a ∷ kind ∷ h ∷ []) t.lines
  by_plain a kind h = find_plain line_key (suc a ∷ kind ∷ h ∷ []) t.lines (lines_ascending t hold)

  found_row : (a kind h : ℕ) (l : LineRow)
      → line_in t.lines a kind h ≡ Some l
      → Stands t.lines l × (line_key l ≡ a ∷ kind ∷ h ∷ [])
  found_row zero kind h l e = absurd (none-some l e)
  found_row (suc a) kind h l e = row_there line_key (suc a ∷ kind ∷ h ∷ []) t.lines l (sym (by_plain a kind h) ∙ e)

  pub found_key : (a kind h : ℕ) (l : LineRow) → line_in t.lines a kind h ≡ Some l → line_key l ≡ a ∷ kind ∷ h ∷ []
  found_key a kind h l e = (found_row a kind h l e).1

  pub stands : (a kind h : ℕ) (l : LineRow) → line_in t.lines a kind h ≡ Some l → Stands t.lines (line_row a kind h l.privileges)
  stands a kind h l e =
      let row = found_row a kind h l e in
      (row.0.0, row.0.1 ∙ ap Some (row_by_key l a kind h row.1))

  pub absent : (a kind h : ℕ) → line_in t.lines a kind h ≡ None → Absent t.lines a kind h
  absent zero kind h e v at =
      let l : LineRow = line_row 0 kind h v in
      and_l (is_list t.items 0) (kind_fits kind h && (subject_used t.subjects h && true))
      (all_index (λ x. T (line_rules t.subjects t.items x)) t.lines at.0 l (line_rules_lem t hold) at.1)
  absent (suc a) kind h e v at =
      row_none line_key (suc a ∷ kind ∷ h ∷ []) t.lines at.0 (line_row (suc a) kind h v) (sym (by_plain a kind h) ∙ e) at.1 refl

  -- and the other way round

  pub only_row : (a kind h v : ℕ) → Stands t.lines (line_row a kind h v) → line_in t.lines a kind h ≡ Some (line_row a kind h v)
  only_row zero kind h v at = absurd (absent zero kind h refl v at)
  only_row (suc a) kind h v at =
      by_plain a kind h ∙ row_only line_key t.lines at.0 (line_row (suc a) kind h v) (lines_ascending t hold) at.1

  pub no_row : (a kind h : ℕ) → Absent t.lines a kind h → line_in t.lines a kind h ≡ None
  no_row a kind h missing = go (line_in t.lines a kind h) refl
    where
      go : (o : Option LineRow) → line_in t.lines a kind h ≡ o → o ≡ None
      go None e = refl
      go (Some l) e = absurd (missing l.privileges (stands a kind h l e))

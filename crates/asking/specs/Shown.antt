-- The rows of a list that are shown: their count, and which bytes of the image they are.
use Rattle.std.specs.Prelude.{Result, Ok, Err, Bool, true, false, ◌&&◌, ◌||◌, ℕ, ◌+◌, ◌-◌, ◌*◌, ◌<◌, ◌≤◌, eqb, leb}
use mathlib.Core.List.{List, []}
use Rattle.std.proofs.Math.Path.{◌≡◌, refl, ap}
use Rattle.std.proofs.Common.{sym, ◌∙◌, mul-le-mul_right, add-mul, eq-eqb, ne_eqb, leb→le}
use native.Mathlib.Omega.{arith}
use Rattle.std.proofs.Math.Dec.{T}
use Rattle.std.proofs.Math.ListN.{length}
use Rattle.model.specs.declared.Layout.{Layout}
use Rattle.model.specs.declared.refusal.Refusal.{Refusal}
use Rattle.model.specs.declared.refusal.Refusal.TheVariants.{NotAList}
use Rattle.asking.specs.declared.list_rows.ListRows.{ListRows}
use Rattle.std.specs.List.{AllByRecursion}
use Rattle.model.specs.Sorted.{insertion_index, ascending}
use Rattle.model.specs.Image.{Tables, layout_of, tables_by, tables, size, line_format, width_of, is_list, line_key}
use Rattle.model.specs.Image.{subject_used, group_kind, everyone_kind, kind_fits, lines_hold}
use Rattle.model.specs.Calls.{rows_of, rows_before, ask_result}
use Rattle.model.specs.Calls.Ask.{list_count}
use Rattle.model.specs.Questions.{answer, refusal_number, by_number, check, opened, opened_tables, ask, ask_questions}
use Rattle.model.specs.Questions.{image_questions, shows, list_start}
use Rattle.model.specs.Questions.{list_extent}
use Rattle.laws.specs.Tests.{and_l, and_r, all_map}
use Rattle.laws.specs.Kept.{line_rules_lem, lines_ascending}
use Rattle.laws.specs.Answers.{tested_no, tested_yes, asked_all, image_passed}
use Rattle.laws.specs.Sorted.{index_le}
use Rattle.laws.specs.Rows.{rows_count, line_lawful}
use Rattle.laws.specs.Blocks.{starts_before_end, rows_extent}
use Rattle.laws.specs.Laid.{Laid, laid, lines_inside}
use Rattle.laws.specs.Opens.{refusal_some, opened_passed, layout_with, tables_err, tables_ok, tables_with}
use Rattle.laws.specs.Asks.{ask_image, ask_no, ask_done}
use Rattle.asking.specs.Found.{line_size, Shown, ShownBy}
use Rattle.asking.specs.Runs.{lowest, beyond, run_begins, run_ends}

-- in an accepted image the lines ascend, each is of one of the kinds, and the rows in use end inside the image

lines_held : (img : List ℕ) → check img ≡ 0 → T (lines_hold (tables img))
unfolding image_questions
lines_held img ok = (image_passed img ok).1.1.1.1.0

kinds_fit : (img : List ℕ) → check img ≡ 0 → AllByRecursion (λ l. l.kind ≤ everyone_kind) (tables img).lines
kinds_fit img ok =
    all_map
    (λ l rules.
    let fits : T (kind_fits l.kind l.subject.0) =
    and_l (kind_fits l.kind l.subject.0) (subject_used (tables img).subjects l.subject.0 && true)
    (and_r (is_list (tables img).items l.list.0)
    (kind_fits l.kind l.subject.0 && (subject_used (tables img).subjects l.subject.0 && true)) rules) in
    leb→le l.kind everyone_kind
    (and_l (leb l.kind everyone_kind) (leb l.kind group_kind || eqb l.subject.0 0) fits))
    (tables img).lines (line_rules_lem (tables img) (lines_held img ok))

lines_end : (img : List ℕ) (n : ℕ) → check img ≡ 0 → n ≤ length (tables img).lines
    → (layout_of img).lines.start + n * line_size img ≤ length img
unfolding tables_by
lines_end img n ok few =
    let w : ℕ = width_of (layout_of img) in
    let facts : Laid img = laid img ok in
    let used : n ≤ (layout_of img).lines.used = rw (rows_count (line_format w) (layout_of img).lines img) at few in
    let wide : n * line_size img ≤ (layout_of img).lines.used * line_size img = mul-le-mul_right (line_size img) used in
    let first : (layout_of img).lines.start ≤ (layout_of img).lines.end =
    starts_before_end (line_format w) (line_lawful w) (layout_of img).lines img facts.lines_laid_out in
    let rows : (layout_of img).lines.used * line_size img ≤ (layout_of img).lines.end - (layout_of img).lines.start =
    rows_extent (line_format w) (line_lawful w) (layout_of img).lines img facts.lines_laid_out in
    let last : (layout_of img).lines.end ≤ length img = lines_inside img facts in
    within (layout_of img).lines.start (layout_of img).lines.end (n * line_size img) ((layout_of img).lines.used * line_size img)
    (length img) wide first rows last
  where
    within : (s e x y l : ℕ) → x ≤ y → s ≤ e → y ≤ e - s → e ≤ l → s + x ≤ l
    within s e x y l p q r u = omega arith

-- What `shown_rows` answers at each of its returns. o is what `open` answered.
module _ (img : List ℕ) (o : Result Layout Refusal) (is : by_number o ≡ opened img) (a : ℕ) where
  pub shown_image : (e : Refusal) → o ≡ Err e → ShownBy img a (Err e)
  shown_image e case = ask_image img (Err e) (tables_err img o is e case) (list_count a) e refl

  module _ (lay : Layout) (case : o ≡ Ok lay) (t : Tables) (cut : t ≡ tables_by lay img) (b : Bool) (listed : b ≡ is_list t.items a) where
    there : by_number (Ok t) ≡ opened_tables img
    there = tables_ok img o is lay case t cut

    pub shown_no_list : b ≡ false → ShownBy img a (Err NotAList)
    unfolding ask_questions
    shown_no_list h = ask_no img (Ok t) there (list_count a) t refl NotAList (tested_no 13 _ [] (sym listed ∙ h))

    pub shown_rows : (first end : ℕ)
        → b ≡ true
        → first ≡ insertion_index line_key (lowest a) t.lines
        → end ≡ insertion_index line_key (beyond a) t.lines
        → ShownBy img a (Ok (record { layout = lay; first = first; end = end }))
    unfolding ask_questions ask_result
    shown_rows first end h at-t to-t =
        let same : t ≡ tables img = tables_with img (Ok t) there t refl in
        let at : first ≡ insertion_index line_key (lowest a) (tables img).lines = rw same at at-t in
        let to : end ≡ insertion_index line_key (beyond a) (tables img).lines = rw same at to-t in
        let accepted : check img ≡ 0 = opened_passed img o is lay case in
        let up : T (ascending line_key (tables img).lines) = lines_ascending (tables img) (lines_held img accepted) in
        let first_is : first ≡ length (rows_before a (tables img).lines) = at ∙ run_begins a (tables img).lines up in
        let end_is : end ≡ length (rows_before a (tables img).lines) + length (rows_of a (tables img).lines) =
        to ∙ run_ends a (tables img).lines up (kinds_fit img accepted) in
        let count_is : end ≡ first + length (rows_of a (tables img).lines) = omega arith in
        let rows_counted : end - first ≡ length (rows_of a (tables img).lines) = omega arith in
        let far : end ≤ length (tables img).lines = rw to (index_le line_key (beyond a) (tables img).lines up) in (
          record {
            answers =
                ask_done img (Ok t) there (list_count a) t refl (end - first)
                (tested_yes 13 _ [] 0 (sym listed ∙ h) asked_all)
                (rows_counted ∙ ap (λ (u : Tables). length (rows_of a u.lines)) (sym same));
            ordered = omega arith;
            begins = first_is;
            counts = count_is;
            inside = lines_end img end accepted far;
          },
          layout_with img o is lay case,
        )

-- Where no rows are shown.
module _ (img : List ℕ) (a : ℕ) (hidden : shows img a ≡ false) where
  none_start : 0 ≡ list_start img a
  unfolding list_start
  none_start = rw hidden

  none_end : 0 ≡ list_start img a + list_extent img a
  unfolding list_start list_extent
  none_end = rw hidden

-- What the calls answer about the rows. o is what `shown_rows` answered, and each module takes one of its cases.
module _ (img : List ℕ) (a : ℕ) (o : Result ListRows Refusal) (is : ShownBy img a o) where
  module _ (e : Refusal) (case : o ≡ Err e) where
    pub count_refused : answer (refusal_number e) 0 ≡ ask img (list_count a)
    count_refused = rw case at is

    refused : shows img a ≡ false
    refused = rw (← count_refused, refusal_some e)

    pub refused_start : 0 ≡ list_start img a
    refused_start = none_start img a refused

    pub refused_end : 0 ≡ list_start img a + list_extent img a
    refused_end = none_end img a refused

  module _ (r : ListRows) (case : o ≡ Ok r) where
    rows : Shown img a r.first r.end × (r.layout ≡ layout_of img)
    rows = rw case at is

    pub rows_ordered : r.first ≤ r.end
    rows_ordered = rows.0.ordered

    pub count_done : answer 0 (r.end - r.first) ≡ ask img (list_count a)
    count_done = rows.0.answers

    module _ (none : r.end ≤ r.first) where
      hidden : shows img a ≡ false
      hidden = rw (← rows.0.answers, eq-eqb (r.end - r.first) 0 (omega arith))

      pub no_start : 0 ≡ list_start img a
      no_start = none_start img a hidden

      pub no_end : 0 ≡ list_start img a + list_extent img a
      no_end = none_end img a hidden

    module _ (some : r.first < r.end) where
      visible : shows img a ≡ true
      visible = rw (← rows.0.answers, ne_eqb (r.end - r.first) 0 (λ z. omega arith))

      offset : (k o : ℕ) → o ≡ r.layout.lines.start + k * size (line_format (width_of r.layout))
          → o ≡ (layout_of img).lines.start + k * line_size img
      offset k o at = at ∙ ap (λ (l : Layout). l.lines.start + k * size (line_format (width_of l))) rows.1

      pub starts_at : (s : ℕ) → s ≡ r.layout.lines.start + r.first * size (line_format (width_of r.layout)) → s ≡ list_start img a
      unfolding list_start
      starts_at s at = offset r.first s at ∙ rw (visible, ← rows.0.begins)

      module _ (e : ℕ) (at : e ≡ r.layout.lines.start + r.end * size (line_format (width_of r.layout))) where
        pub ends_at : e ≡ list_start img a + list_extent img a
        unfolding list_start list_extent
        ends_at =
            let sum : r.end * line_size img
            ≡ length (rows_before a (tables img).lines) * line_size img + length (rows_of a (tables img).lines) * line_size img =
            ap (λ (k : ℕ). k * line_size img) (rows.0.counts ∙ ap (λ (k : ℕ). k + length (rows_of a (tables img).lines)) rows.0.begins)
            ∙ add-mul (length (rows_before a (tables img).lines)) (length (rows_of a (tables img).lines)) (line_size img) in
            rw visible (omega (arith, offset r.end e at, sum))

        pub ends_inside : e ≤ length img
        ends_inside = omega (arith, offset r.end e at, rows.0.inside)

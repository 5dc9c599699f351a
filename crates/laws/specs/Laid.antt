-- How the tables of an accepted image are laid out: what its questions say of this.
use Rattle.std.specs.Prelude.{List, ◌≡◌, ℕ, ◌≤◌, T, leb, length}
use Rattle.std.proofs.Common.{sym, arith, leb→le, eqb→eq}
use Rattle.model.specs.Lists.{zeros}
use Rattle.model.specs.Image.{shortest_image, longest_image, width_of, layout_of, subject_format}
use Rattle.model.specs.Image.{grant_format, line_format, item_format, header_size, laid_out}
use Rattle.model.specs.Image.{unused, header_rules, table_rules, layout_rules, unused_rules}
use Rattle.model.specs.Questions.{image_questions, check}
use Rattle.laws.specs.Tests.{yes_all, and_l, and_r}
use Rattle.laws.specs.WellFormed.{Passed}
use Rattle.laws.specs.Rows.{grant_lawful, line_lawful, item_lawful}
use Rattle.laws.specs.Blocks.{starts_before_end}
use Rattle.laws.specs.Answers.{image_passed}

-- what questions 1, 2 and 7 say
pub record Laid (img : List ℕ) : Type 0 where
  pub long : shortest_image ≤ length img
  pub short : length img ≤ longest_image
  pub total : (layout_of img).items.end ≡ length img
  pub first : header_size ≡ (layout_of img).subjects.start
  pub custodian_used : 1 ≤ (layout_of img).subjects.used
  pub subjects_laid_out : T (laid_out (subject_format (width_of (layout_of img))) (layout_of img).subjects)
  pub grants_laid_out : T (laid_out (grant_format (width_of (layout_of img))) (layout_of img).grants)
  pub lines_laid_out : T (laid_out (line_format (width_of (layout_of img))) (layout_of img).lines)
  pub items_laid_out : T (laid_out item_format (layout_of img).items)
  pub subjects_blank : T (zeros (unused (subject_format (width_of (layout_of img))) (layout_of img).subjects img))
  pub grants_blank : T (zeros (unused (grant_format (width_of (layout_of img))) (layout_of img).grants img))
  pub lines_blank : T (zeros (unused (line_format (width_of (layout_of img))) (layout_of img).lines img))
  pub items_blank : T (zeros (unused item_format (layout_of img).items img))

pub laid : (img : List ℕ) → check img ≡ 0 → Laid img
unfolding image_questions layout_rules header_rules table_rules unused_rules
laid img e =
    let passed : Passed (image_questions img) = image_passed img e in
    let both = yes_all (layout_rules (layout_of img) img) passed.1.0 in
    let header = yes_all (header_rules (layout_of img) img) both.0 in
    let rules = yes_all (table_rules (layout_of img)) both.1.0 in
    let blank = yes_all (unused_rules (layout_of img) img) passed.1.1.1.1.1.1.0 in
    record {
      long = leb→le shortest_image (length img) (and_l (leb shortest_image (length img)) (leb (length img) longest_image) passed.0);
      short = leb→le (length img) longest_image (and_r (leb shortest_image (length img)) (leb (length img) longest_image) passed.0);
      total = eqb→eq _ _ header.0;
      first = sym (eqb→eq _ _ header.1.0);
      subjects_laid_out = rules.0;
      grants_laid_out = rules.1.0;
      lines_laid_out = rules.1.1.0;
      items_laid_out = rules.1.1.1.0;
      custodian_used = leb→le _ _ rules.1.1.1.1.0;
      subjects_blank = blank.0;
      grants_blank = blank.1.0;
      lines_blank = blank.1.1.0;
      items_blank = blank.1.1.1.0;
    }

-- Every table ends within the image.
module _ (img : List ℕ) (facts : Laid img) where
  abbrev w : ℕ
  w = width_of (layout_of img)

  pub items_inside : (layout_of img).items.end ≤ length img
  items_inside = omega (arith, facts.total)

  pub lines_inside : (layout_of img).lines.end ≤ length img
  unfolding layout_of
  lines_inside = omega (arith, items_inside, starts_before_end item_format item_lawful (layout_of img).items img facts.items_laid_out)

  pub grants_inside : (layout_of img).grants.end ≤ length img
  unfolding layout_of
  grants_inside =
      omega (arith, lines_inside, starts_before_end (line_format w) (line_lawful w) (layout_of img).lines img facts.lines_laid_out)

  pub subjects_inside : (layout_of img).subjects.end ≤ length img
  unfolding layout_of
  subjects_inside =
      omega (arith, grants_inside, starts_before_end (grant_format w) (grant_lawful w) (layout_of img).grants img facts.grants_laid_out)

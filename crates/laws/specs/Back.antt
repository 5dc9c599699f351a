-- An accepted image is the bytes of its own tables, and these tables are well-formed. Each fact about the whole image (its
-- header, its bytes, its length) is put together from the law about one table's block, table by table.
use mathlib.Core.List.{List, ◌++◌}
use Rattle.std.specs.Prelude.{◌≡◌, ℕ, ◌+◌, ◌≤◌, T, length}
use Rattle.std.proofs.Math.Path.{refl, ap, ap₂}
use Rattle.std.proofs.Common.{sym, ◌∙◌, add-zero, arith}
use Rattle.std.proofs.Math.ListN.{drop, take-append-drop}
use Rattle.std.proofs.Math.Seq.{drop-length}
use Rattle.model.specs.declared.Table.{Table}
use Rattle.std.specs.List.{AllByRecursion}
use Rattle.model.specs.Image.{Format, Block, width_of, layout_of, tables_by, tables, rows_in, capacity}
use Rattle.model.specs.Image.{subject_format, grant_format, line_format, item_format, header_widths}
use Rattle.model.specs.Image.{header_size, fields_at, row_bytes, header_of, body_of, blocks, encode, laid_out}
use Rattle.model.specs.Questions.{image_questions, Accepted}
use Rattle.laws.specs.WellFormed.{WellFormed, Passed, Fits, extents}
use Rattle.laws.specs.Fields.{fields_back, bytes_drop}
use Rattle.laws.specs.Rows.{Lawful, rows_count, rows_fit, subject_lawful, grant_lawful, line_lawful, item_lawful}
use Rattle.laws.specs.Blocks.{rows_few, header_block, body_block, total_block}
use Rattle.laws.specs.Answers.{image_passed}
use Rattle.laws.specs.Laid.{Laid, laid, subjects_inside, grants_inside, lines_inside, items_inside}

module _ (img : List ℕ) (accepted : Accepted img) where
  facts : Laid img
  facts = laid img accepted.checked

  abbrev w : ℕ
  w = width_of (layout_of img)

  -- the blocks from the k-th on
  abbrev blocks_from : ℕ → List Block
  blocks_from k = drop k (blocks (tables img))

  header_back : header_of header_size (blocks (tables img)) ≡ fields_at header_widths img 0
  unfolding tables_by layout_of
  header_back =
      header_block (subject_format w) (subject_lawful w) (layout_of img).subjects img facts.subjects_laid_out (blocks_from 1)
      facts.first
      (header_block (grant_format w) (grant_lawful w) (layout_of img).grants img facts.grants_laid_out (blocks_from 2) refl
      (header_block (line_format w) (line_lawful w) (layout_of img).lines img facts.lines_laid_out (blocks_from 3) refl
      (header_block item_format item_lawful (layout_of img).items img facts.items_laid_out (blocks_from 4) refl refl)))

  body_back : body_of (blocks (tables img)) ≡ drop header_size img
  unfolding tables_by layout_of
  body_back =
      body_block (subject_format w) (subject_lawful w) (layout_of img).subjects img facts.subjects_laid_out (blocks_from 1)
      accepted.bytes (subjects_inside img facts) facts.subjects_blank
      (body_block (grant_format w) (grant_lawful w) (layout_of img).grants img facts.grants_laid_out (blocks_from 2)
      accepted.bytes (grants_inside img facts) facts.grants_blank
      (body_block (line_format w) (line_lawful w) (layout_of img).lines img facts.lines_laid_out (blocks_from 3)
      accepted.bytes (lines_inside img facts) facts.lines_blank
      (body_block item_format item_lawful (layout_of img).items img facts.items_laid_out (blocks_from 4)
      accepted.bytes (items_inside img facts) facts.items_blank
      (sym (drop-length img) ∙ ap (λ (n : ℕ). drop n img) (sym facts.total)))))
      ∙ ap (λ (n : ℕ). drop n img) (sym facts.first)

  pub encode_back : encode (tables img) ≡ img
  unfolding encode
  encode_back =
      ap₂ (λ (h b : List ℕ). row_bytes header_widths h ++ b) header_back body_back
      ∙ ap (λ (front : List ℕ). front ++ drop header_size img) (fields_back header_widths img accepted.bytes facts.long)
      ∙ take-append-drop header_size img

  -- a table's rows in use are within its capacity
  in_capacity : {A : Type 0} (f : Format A) (t : Table) → Lawful f → T (laid_out f t) → length (rows_in f t img) ≤ capacity f t
  in_capacity f t law is_laid_out = rw (rows_count f t img) (rows_few f law t img is_laid_out)

  in_fields : {A : Type 0} (f : Format A) (t : Table) → Lawful f → AllByRecursion (Fits f) (rows_in f t img)
  unfolding rows_in
  in_fields f t law = rows_fit f law t.used (drop t.start img) (bytes_drop t.start img accepted.bytes)

  all_bytes : header_size + extents (blocks (tables img)) ≡ length img
  unfolding tables_by layout_of
  all_bytes =
      ap (λ (n : ℕ). n + extents (blocks (tables img))) facts.first
      ∙ total_block (subject_format w) (subject_lawful w) (layout_of img).subjects img facts.subjects_laid_out (blocks_from 1)
      (total_block (grant_format w) (grant_lawful w) (layout_of img).grants img facts.grants_laid_out (blocks_from 2)
      (total_block (line_format w) (line_lawful w) (layout_of img).lines img facts.lines_laid_out (blocks_from 3)
      (total_block item_format item_lawful (layout_of img).items img facts.items_laid_out (blocks_from 4)
      (add-zero (layout_of img).items.end ∙ facts.total))))

  pub tables_well_formed : WellFormed (tables img)
  unfolding tables_by image_questions
  tables_well_formed =
      let passed : Passed (image_questions img) = image_passed img accepted.checked in
      record {
        custodian_there = rw (rows_count (subject_format w) (layout_of img).subjects img) facts.custodian_used;
        subjects_capacity = in_capacity (subject_format w) (layout_of img).subjects (subject_lawful w) facts.subjects_laid_out;
        grants_capacity = in_capacity (grant_format w) (layout_of img).grants (grant_lawful w) facts.grants_laid_out;
        lines_capacity = in_capacity (line_format w) (layout_of img).lines (line_lawful w) facts.lines_laid_out;
        items_capacity = in_capacity item_format (layout_of img).items item_lawful facts.items_laid_out;
        short = omega (arith, all_bytes, facts.short);
        subjects_fit = in_fields (subject_format w) (layout_of img).subjects (subject_lawful w);
        grants_fit = in_fields (grant_format w) (layout_of img).grants (grant_lawful w);
        lines_fit = in_fields (line_format w) (layout_of img).lines (line_lawful w);
        items_fit = in_fields item_format (layout_of img).items item_lawful;
        subjects_hold_lem = passed.1.1.0;
        items_hold_lem = passed.1.1.1.0;
        lines_hold_lem = passed.1.1.1.1.0;
        grants_hold_lem = passed.1.1.1.1.1.0;
      }

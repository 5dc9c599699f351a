-- Fitting tables are read back from their bytes, and the bytes of well-formed tables are an accepted image. The header is read
-- back first. It says where each block starts, and the law about one block then gives each table.
use Rattle.std.specs.Prelude.{List, [], ◌∷◌, ◌++◌, ◌≡◌, ℕ, ◌+◌, ◌*◌, ◌^◌, ◌<◌, ◌≤◌, T, leb, get_or, drop, replicate}
use Rattle.std.proofs.Math.Path.{refl, sym}
use Rattle.std.proofs.Common.{ap, ◌∙◌, mul-one, mul-le-mul_left, le_trans, arith, eq-eqb, length-append, drop-drop}
use Rattle.std.proofs.Math.Dec.{le→leb}
use Rattle.std.proofs.Math.ListN.{length}
use Rattle.std.proofs.Math.Seq.{drop_at}
use Rattle.model.specs.declared.Layout.{Layout}
use Rattle.std.specs.List.{AllByRecursion}
use Rattle.model.specs.Lists.{Bytes, all_of}
use Rattle.model.specs.Image.{shortest_image, longest_image, Tables, Format, Block, size, width_in, layout_of}
use Rattle.model.specs.Image.{tables_by, tables, subject_format, grant_format, line_format, item_format}
use Rattle.model.specs.Image.{header_widths, header_size, fields_at, row_bytes, header_of, body_of, blocks}
use Rattle.model.specs.Image.{block_of, encode, header_rules, table_rules, layout_rules, unused_rules}
use Rattle.model.specs.Questions.{image_questions, check, Accepted}
use Rattle.laws.specs.Tests.{◌and◌, true_T, and_i, all_yes, all_append}
use Rattle.laws.specs.WellFormed.{Fitting, WellFormed, fitting, Passed, Fit, extents}
use Rattle.laws.specs.Fields.{fields_there, row_length, row_bytes_lem}
use Rattle.laws.specs.Rows.{Lawful, subject_lawful, grant_lawful, line_lawful, item_lawful}
use Rattle.laws.specs.Blocks.{Holds, holds_from, block_used, block_extent, block_length, block_bytes}
use Rattle.laws.specs.Answers.{first_passed}

-- Blocks one after the other: the numbers in their header fit its fields, and their bytes are as many as their extents say.

pub record Sized (b : Block) : Type 0 where
  pub used_few : b.used ≤ b.extent
  pub long : length b.bytes ≡ b.extent
  pub are_bytes : Bytes b.bytes

header_fits : (at : ℕ) (bs : List Block)
    → AllByRecursion Sized bs
    → at + extents bs < 256 ^ 4
    → AllByRecursion (λ v. v < 256 ^ 4) (header_of at bs)
header_fits at [] s h = (omega arith, tt)
header_fits at (b ∷ bs) s h =
    let few : b.used ≤ b.extent = s.0.used_few in
    (omega arith, (omega arith, header_fits (at + b.extent) bs s.1 (omega arith)))

fit_same : (w : ℕ) (vs : List ℕ) → AllByRecursion (λ v. v < 256 ^ w) vs → Fit (replicate (length vs) w) vs
fit_same w [] h = tt
fit_same w (v ∷ vs) h = (h.0, fit_same w vs h.1)

pub body_length : (bs : List Block) → AllByRecursion Sized bs → length (body_of bs) ≡ extents bs
body_length [] s = refl
body_length (b ∷ bs) s = rw (length-append, s.0.long, body_length bs s.1)

body_bytes : (bs : List Block) → AllByRecursion Sized bs → Bytes (body_of bs)
body_bytes [] s = tt
body_bytes (b ∷ bs) s = all_append (λ x. x < 256) b.bytes (body_of bs) s.0.are_bytes (body_bytes bs s.1)

sized : {A : Type 0} (f : Format A) (law : Lawful f) (cap : ℕ) (xs : List A) → length xs ≤ cap → Sized (block_of f cap xs)
sized f law cap xs few =
    let wide : 1 ≤ size f = law.wide in
    let more : cap * 1 ≤ cap * size f = mul-le-mul_left cap wide in
    record {
      used_few = rw (block_used f cap xs, block_extent f cap xs) (le_trans few (rw mul-one at more));
      long = block_length f law cap xs few ∙ sym (block_extent f cap xs);
      are_bytes = block_bytes f cap xs;
    }

-- The layout that the nine numbers of a header give.
abbrev pub layout_from : List ℕ → Layout
layout_from h =
    record {
      subjects = record { used = get_or h 0 0; start = get_or h 1 0; end = get_or h 3 0 };
      grants = record { used = get_or h 2 0; start = get_or h 3 0; end = get_or h 5 0 };
      lines = record { used = get_or h 4 0; start = get_or h 5 0; end = get_or h 7 0 };
      items = record { used = get_or h 6 0; start = get_or h 7 0; end = get_or h 8 0 };
    }

layout_from_lem : (img : List ℕ) → layout_of img ≡ layout_from (fields_at header_widths img 0)
unfolding layout_of
layout_from_lem img = refl

-- the bytes behind a block
next_block : (img : List ℕ) (at : ℕ) (b : Block) (rest : List ℕ) → Sized b → drop at img ≡ b.bytes ++ rest
    → drop (at + b.extent) img ≡ rest
next_block img at b rest s e = sym (drop-drop b.extent at img) ∙ ap (drop b.extent) e ∙ drop_at b.bytes rest b.extent s.long

-- The bytes of fitting tables. The layout and the tables are read back from them, and the bytes hold the rules that are not
-- about rows.
module _ (t : Tables) (good : Fitting t) where
  abbrev w : ℕ
  w = width_in t

  pub sizes : AllByRecursion Sized (blocks t)
  sizes =
      sized (subject_format w) (subject_lawful w) t.capacities.subjects t.subjects good.subjects_capacity
      and sized (grant_format w) (grant_lawful w) t.capacities.grants t.grants good.grants_capacity
      and sized (line_format w) (line_lawful w) t.capacities.lines t.lines good.lines_capacity
      and sized item_format item_lawful t.capacities.items t.items good.items_capacity
      and tt

  front : List ℕ
  front = row_bytes header_widths (header_of header_size (blocks t))

  front_length : length front ≡ header_size
  unfolding front
  front_length = row_length header_widths (header_of header_size (blocks t)) refl

  header_there : fields_at header_widths (encode t) 0 ≡ header_of header_size (blocks t)
  unfolding encode
  header_there =
      fields_there header_widths (header_of header_size (blocks t)) (body_of (blocks t)) refl
      (fit_same 4 (header_of header_size (blocks t)) (header_fits header_size (blocks t) sizes (omega (arith, good.short))))

  abbrev pub lay : Layout
  lay = layout_from (header_of header_size (blocks t))

  pub layout_there : layout_of (encode t) ≡ lay
  layout_there = layout_from_lem (encode t) ∙ ap layout_from header_there

  -- Where each block starts.

  abbrev blocks_from : ℕ → List Block
  blocks_from k = drop k (blocks t)

  abbrev block : ℕ → Block
  block k = get_or (blocks t) k (record { used = 0; extent = 0; bytes = [] })

  body_from : drop header_size (encode t) ≡ body_of (blocks t)
  unfolding encode front
  body_from = drop_at front (body_of (blocks t)) header_size front_length

  grants_from : drop lay.grants.start (encode t) ≡ body_of (blocks_from 1)
  grants_from = next_block (encode t) header_size (block 0) (body_of (blocks_from 1)) sizes.0 body_from

  lines_from : drop lay.lines.start (encode t) ≡ body_of (blocks_from 2)
  lines_from = next_block (encode t) lay.grants.start (block 1) (body_of (blocks_from 2)) sizes.1.0 grants_from

  items_from : drop lay.items.start (encode t) ≡ body_of (blocks_from 3)
  items_from = next_block (encode t) lay.lines.start (block 2) (body_of (blocks_from 3)) sizes.1.1.0 lines_from

  subjects_hold_lem : Holds (subject_format w) t.capacities.subjects t.subjects lay.subjects (encode t)
  subjects_hold_lem =
      holds_from (subject_format w) (subject_lawful w) t.capacities.subjects t.subjects good.subjects_capacity
      (encode t) header_size (body_of (blocks_from 1)) body_from good.subjects_fit

  grants_hold_lem : Holds (grant_format w) t.capacities.grants t.grants lay.grants (encode t)
  grants_hold_lem =
      holds_from (grant_format w) (grant_lawful w) t.capacities.grants t.grants good.grants_capacity
      (encode t) lay.grants.start (body_of (blocks_from 2)) grants_from good.grants_fit

  lines_hold_lem : Holds (line_format w) t.capacities.lines t.lines lay.lines (encode t)
  lines_hold_lem =
      holds_from (line_format w) (line_lawful w) t.capacities.lines t.lines good.lines_capacity
      (encode t) lay.lines.start (body_of (blocks_from 3)) lines_from good.lines_fit

  items_hold_lem : Holds item_format t.capacities.items t.items lay.items (encode t)
  items_hold_lem =
      holds_from item_format item_lawful t.capacities.items t.items good.items_capacity
      (encode t) lay.items.start (body_of (blocks_from 4)) items_from good.items_fit

  tables_by_lem : tables_by lay (encode t) ≡ t
  unfolding tables_by
  tables_by_lem =
      λ i.
      record {
        subjects = subjects_hold_lem.rows_are i;
        grants = grants_hold_lem.rows_are i;
        lines = lines_hold_lem.rows_are i;
        items = items_hold_lem.rows_are i;
        capacities =
            record {
              subjects = subjects_hold_lem.capacity_is i;
              grants = grants_hold_lem.capacity_is i;
              lines = lines_hold_lem.capacity_is i;
              items = items_hold_lem.capacity_is i;
            };
      }

  pub tables_there : tables (encode t) ≡ t
  tables_there = ap (λ (l : Layout). tables_by l (encode t)) layout_there ∙ tables_by_lem

  total_end : lay.items.end ≡ header_size + extents (blocks t)
  total_end = omega arith

  encode_length : length (encode t) ≡ header_size + extents (blocks t)
  unfolding encode front
  encode_length =
      rw (length-append front (body_of (blocks t)), body_length (blocks t) sizes)
      (ap (λ (n : ℕ). n + extents (blocks t)) front_length)

  header_right : T (all_of (header_rules lay (encode t)))
  unfolding header_rules
  header_right =
      all_yes (header_rules lay (encode t))
      (true_T _ (eq-eqb lay.items.end (length (encode t)) (total_end ∙ sym encode_length)) and tt and tt)

  tables_right : 1 ≤ length t.subjects → T (all_of (table_rules lay))
  unfolding table_rules
  tables_right custodian_there =
      all_yes (table_rules lay)
      (subjects_hold_lem.is_laid_well
      and grants_hold_lem.is_laid_well
      and lines_hold_lem.is_laid_well
      and items_hold_lem.is_laid_well
      and le→leb 1 lay.subjects.used (rw (block_used (subject_format w) t.capacities.subjects t.subjects) custodian_there)
      and tt)

  layout_right : 1 ≤ length t.subjects → T (all_of (layout_rules lay (encode t)))
  unfolding layout_rules
  layout_right custodian_there = all_yes (layout_rules lay (encode t)) (header_right and tables_right custodian_there and tt)

  unused_right : T (all_of (unused_rules lay (encode t)))
  unfolding unused_rules
  unused_right =
      all_yes (unused_rules lay (encode t))
      (subjects_hold_lem.unused_zero and grants_hold_lem.unused_zero and lines_hold_lem.unused_zero and items_hold_lem.unused_zero and tt)

  encode_bytes : Bytes (encode t)
  unfolding encode
  encode_bytes =
      all_append (λ x. x < 256) (row_bytes header_widths (header_of header_size (blocks t))) (body_of (blocks t))
      (row_bytes_lem header_widths (header_of header_size (blocks t)))
      (body_bytes (blocks t) sizes)

-- For the bytes of well-formed tables, every question of the check is answered yes.
module _ (t : Tables) (good : WellFormed t) where
  fits : Fitting t
  fits = fitting good

  questions_passed : Passed (image_questions (encode t))
  unfolding image_questions
  questions_passed =
      let there : tables (encode t) ≡ t = tables_there t fits in
      let laid : layout_of (encode t) ≡ lay t fits = layout_there t fits in
      let long : length (encode t) ≡ header_size + extents (blocks t) = encode_length t fits in
      and_i (leb shortest_image (length (encode t))) (leb (length (encode t)) longest_image)
      (le→leb shortest_image (length (encode t)) (omega arith))
      (le→leb (length (encode t)) longest_image (omega arith))
      and rw laid (layout_right t fits good.custodian_there)
      and rw there good.subjects_hold_lem
      and rw there good.items_hold_lem
      and rw there good.lines_hold_lem
      and rw there good.grants_hold_lem
      and rw laid (unused_right t fits)
      and tt

  pub encode_accepted : Accepted (encode t)
  unfolding check
  encode_accepted = record { bytes = encode_bytes t fits; checked = first_passed (image_questions (encode t)) questions_passed }

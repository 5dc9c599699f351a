-- Fitting tables: their rows are within the capacities, their bytes are no more than an image may have, and every number fits
-- its field. Well-formed tables also fulfil what questions 2 to 6 ask of tables. An accepted image has well-formed tables, and
-- the bytes of well-formed tables are an accepted image.
use Rattle.std.specs.Prelude.{List, [], ◌∷◌, ℕ, ◌+◌, ◌^◌, ◌<◌, ◌≤◌, length, T}
use Rattle.std.specs.List.{AllByRecursion}
use Rattle.model.specs.Image.{longest_image, Format, Tables, Block, width_in, subject_format, grant_format, line_format}
use Rattle.model.specs.Image.{item_format, header_size, blocks, subjects_hold, items_hold, lines_hold, grants_hold}
use Rattle.model.specs.Questions.{Question}

-- each number fits its field: in a field of w bytes it is below 256 ^ w
abbrev pub Fit : List ℕ → List ℕ → Type 0
Fit [] vs = Unit
Fit (w ∷ ws) [] = ⊥
Fit (w ∷ ws) (v ∷ vs) = (v < 256 ^ w) × Fit ws vs

abbrev pub Fits : {A : Type 0} → Format A → A → Type 0
Fits f x = Fit f.widths (f.numbers x)

-- how many bytes blocks have together
abbrev pub extents : List Block → ℕ
extents [] = 0
extents (b ∷ bs) = b.extent + extents bs

pub record Fitting (t : Tables) : Type 0 where
  pub subjects_capacity : length t.subjects ≤ t.capacities.subjects
  pub grants_capacity : length t.grants ≤ t.capacities.grants
  pub lines_capacity : length t.lines ≤ t.capacities.lines
  pub items_capacity : length t.items ≤ t.capacities.items
  pub short : header_size + extents (blocks t) ≤ longest_image
  pub subjects_fit : AllByRecursion (Fits (subject_format (width_in t))) t.subjects
  pub grants_fit : AllByRecursion (Fits (grant_format (width_in t))) t.grants
  pub lines_fit : AllByRecursion (Fits (line_format (width_in t))) t.lines
  pub items_fit : AllByRecursion (Fits item_format) t.items

pub record WellFormed (t : Tables) : Type 0 where
  pub custodian_there : 1 ≤ length t.subjects
  pub subjects_capacity : length t.subjects ≤ t.capacities.subjects
  pub grants_capacity : length t.grants ≤ t.capacities.grants
  pub lines_capacity : length t.lines ≤ t.capacities.lines
  pub items_capacity : length t.items ≤ t.capacities.items
  pub short : header_size + extents (blocks t) ≤ longest_image
  pub subjects_fit : AllByRecursion (Fits (subject_format (width_in t))) t.subjects
  pub grants_fit : AllByRecursion (Fits (grant_format (width_in t))) t.grants
  pub lines_fit : AllByRecursion (Fits (line_format (width_in t))) t.lines
  pub items_fit : AllByRecursion (Fits item_format) t.items
  pub subjects_hold_lem : T (subjects_hold t)
  pub items_hold_lem : T (items_hold t)
  pub lines_hold_lem : T (lines_hold t)
  pub grants_hold_lem : T (grants_hold t)

pub fitting : {t : Tables} → WellFormed t → Fitting t
fitting w = search w

-- every question of a list is answered yes
abbrev pub Passed : List Question → Type 0
Passed = AllByRecursion (λ q. T q.answer)

-- The rows of each table, by the layout that cuts them out.
use Rattle.std.specs.Prelude.{List, ◌≡◌, refl, ℕ}
use Rattle.model.specs.declared.Layout.{Layout}
use Rattle.model.specs.WhoAndWhat.{privilege_width}
use Rattle.model.specs.Image.{tables_by, rows_in, subject_format, grant_format, line_format, item_format}

module _ (lay : Layout) (img : List ℕ) where
  pub subjects_listed : (tables_by lay img).subjects ≡ rows_in (subject_format privilege_width) lay.subjects img
  unfolding tables_by
  subjects_listed = refl

  pub grants_listed : (tables_by lay img).grants ≡ rows_in (grant_format privilege_width) lay.grants img
  unfolding tables_by
  grants_listed = refl

  pub lines_listed : (tables_by lay img).lines ≡ rows_in (line_format privilege_width) lay.lines img
  unfolding tables_by
  lines_listed = refl

  pub items_listed : (tables_by lay img).items ≡ rows_in item_format lay.items img
  unfolding tables_by
  items_listed = refl

-- The report as it is written: the first line, and page after page.
use Rattle.std.proofs.Common.{◌≡◌, sym, ap, ◌∙◌, ℕ, suc, ◌+◌, ◌-◌, ◌*◌, ◌<◌, ◌≤◌, List, [], ◌++◌, arith, Result, Ok, Err}
use Rattle.std.specs.Prelude.{Option, OnOk, ◌≢◌}
use Rattle.std.specs.Int.{div_ceil}
use Rattle.std.specs.Io.KnownBytes.{Appends}
use Rattle.std.proofs.KnownBytes.{Appends-trans}
use Rattle.std.proofs.lemmas.Grind.{div_ceil_times}
use Rattle.model.specs.Image.{Tables, tables}
use Rattle.model.specs.Questions.{check}
use Rattle.reporting.specs.Report.{report}
use Rattle.reporting.specs.Pages.{first_line, line_count, page_lines, page, pages_from}
use Rattle.reporting.proofs.Whole.{report_accepted, report_refused}

-- the page with number n, and those behind it
pub next_page : (t : Tables) (n pages : ℕ) → n < pages
    → pages_from t (n * page_lines) (pages - n) ≡ page t (n * page_lines) ++ pages_from t ((n + 1) * page_lines) (pages - (n + 1))
unfolding pages_from
next_page t n pages less =
    let one : pages - n ≡ suc (pages - (n + 1)) = omega arith in
    let next : n * page_lines + page_lines ≡ (n + 1) * page_lines = omega arith in
    ap (pages_from t (n * page_lines)) one ∙ ap (λ (k : ℕ). page t (n * page_lines) ++ pages_from t k (pages - (n + 1))) next

-- behind the last page there is none
pub no_page : (t : Tables) (n pages k : ℕ) → pages ≤ n → pages_from t k (pages - n) ≡ []
unfolding pages_from
no_page t n pages k all =
    let none : pages - n ≡ 0 = omega arith in
    rw none

-- a text, and the rest of it by a call that may fail
pub then_written : {T E : Type 0} (a b e : Option (List ℕ)) (first rest all : List ℕ) (r : Result T E)
    → Appends a b first
    → first ++ rest ≡ all
    → OnOk r (Appends b e rest)
    → OnOk r (Appends a e all)
then_written a b e first rest all (Ok x) done is more = rw (← is) (Appends-trans a b e first rest done more)
then_written a b e first rest all (Err x) done is more = more

-- the report of an image, by what opening it says: the first line and all pages, or the first line alone
module _ (img : List ℕ) where
  pub accepted_written : (t : Tables) → check img ≡ 0 → t ≡ tables img
      → first_line 0 ++ pages_from t 0 (div_ceil (line_count t) page_lines) ≡ report img
  accepted_written t ok is =
      let line : first_line 0 ≡ first_line (check img) = ap first_line (sym ok) in
      let enough = div_ceil_times (line_count (tables img)) page_lines (omega arith) in
      rw (is, line) (report_accepted img _ ok enough.0)

  pub refused_written : (n : ℕ) → n ≡ check img → n ≢ 0 → first_line n ≡ report img
  refused_written n is some = ap first_line is ∙ report_refused img (λ e. some (is ∙ e))

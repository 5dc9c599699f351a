-- The report as the code writes it: the first line, and then the other lines by their number, page after page. And what it
-- is to put a text into bytes. `Whole` shows that the first line and the pages are the report.
use Rattle.std.specs.Prelude.{cond, List, [], ◌++◌, ◌≡◌, ℕ, zero, suc, ◌+◌, ◌-◌, ◌*◌, ◌/◌, ◌%◌, ◌≤◌, min, eqb, length, take, drop}
use Rattle.model.specs.Image.{Tables}
use Rattle.model.specs.Permission.{permission_set}
use Rattle.reporting.specs.Report.{report_line, heading, refused_line}

-- the first line, by the number that the check answered
unfoldable pub first_line : ℕ → List ℕ
first_line number = cond (eqb number 0) heading (refused_line number)

-- how many lines come after it, numbered from 0
abbrev pub line_count : Tables → ℕ
line_count t = length t.subjects * length t.items

-- Line k. Each subject has as many lines as there are items.
unfoldable pub line_at : Tables → ℕ → List ℕ
line_at t k =
    report_line (k / length t.items) (k % length t.items + 1)
    (permission_set t (k / length t.items) 0 (k % length t.items + 1))

-- n lines from line k on
unfoldable pub lines_from : Tables → ℕ → ℕ → List ℕ
lines_from t k zero = []
lines_from t k (suc n) = line_at t k ++ lines_from t (suc k) n

-- A page begins at any line, and has `page_lines` lines, or those that are left.
abbrev pub page_lines : ℕ
page_lines = 1040

abbrev pub page_size : ℕ
page_size = 65536

unfoldable pub page : Tables → ℕ → List ℕ
page t k = lines_from t k (min (line_count t - k) page_lines)

-- bytes whose end is replaced by a text
unfoldable pub ending_in : List ℕ → List ℕ → List ℕ
ending_in bytes text = take (length bytes - length text) bytes ++ text

-- m pages from line k on
unfoldable pub pages_from : Tables → ℕ → ℕ → List ℕ
pages_from t k zero = []
pages_from t k (suc m) = page t k ++ pages_from t (k + page_lines) m

-- In q the text starts at offset r and ends before offset `end`. The other bytes are those of p.
pub record Put (p : List ℕ) (end : ℕ) (text q : List ℕ) (r : ℕ) : Type 0 where
  pub fits : end ≤ length p
  pub starts : r + length text ≡ end
  pub made : q ≡ take r p ++ (text ++ drop end p)
  pub same_length : length q ≡ length p

-- The pages are the report. Counted by their number, the lines are those of subject after subject and item after item; and
-- page after page, each line comes once.
use mathlib.Core.List.{List, [], ◌++◌, append_assoc, append-nil}
use Rattle.std.proofs.Common.{⊎_elim, ◌∙◌, eq-zero-or-pos, add-zero, suc-add, mul-zero, add-one, ne_eqb}
use Rattle.std.specs.Prelude.{◌≡◌, length}
use Rattle.std.proofs.Math.Path.{refl, sym, ap}
use Prim.Native.Nat.{ℕ, zero, suc, ◌+◌, ◌-◌, ◌*◌, ◌/◌, ◌%◌, ◌<◌, ◌≤◌}
use Rattle.std.proofs.Math.Nat.{zero-add, zero-mul, suc-mul, mul-suc, add-mul-div_left, add-mul-mod_self_left}
use Rattle.std.proofs.Math.Nat.{div-eq_of_lt, mod-eq_of_lt}
use native.Mathlib.Omega.{arith}
use Rattle.model.specs.Image.{Tables, tables}
use Rattle.model.specs.Permission.{permission_set}
use Rattle.model.specs.Questions.{check}
use Rattle.reporting.specs.Report.{report_line, item_lines, subject_lines, report}
use Rattle.reporting.specs.Pages.{first_line, line_count, line_at, lines_from, page_lines, page, pages_from}
use Rattle.reporting.proofs.Filling.{page_of}

module _ (t : Tables) where
  lines_split : (a b k : ℕ) → lines_from t k (a + b) ≡ lines_from t k a ++ lines_from t (k + a) b
  unfolding lines_from
  lines_split zero b k = rw (zero-add, add-zero)
  lines_split (suc a) b k =
      let next : suc k + a ≡ k + suc a = omega arith in
      rw (suc-add, append_assoc, ← next) (ap (λ (l : List ℕ). line_at t k ++ l) (lines_split a b (suc k)))

  abbrev items : ℕ
  items = length t.items

  -- line j of subject s
  line_is : (s j : ℕ) → j < items → line_at t (j + items * s) ≡ report_line s (suc j) (permission_set t s 0 (suc j))
  unfolding line_at
  line_is s j h =
      let some : 0 < items = omega arith in
      let quotient : (j + items * s) / items ≡ s = add-mul-div_left j s some ∙ rw (div-eq_of_lt h) (zero-add s) in
      let remainder : (j + items * s) % items + 1 ≡ suc j = rw (add-mul-mod_self_left, mod-eq_of_lt h) (add-one j) in
      rw (quotient, remainder)

  item_lines_lem : (n s j : ℕ) → j + n ≤ items → lines_from t (j + items * s) n ≡ item_lines t s (suc j) n
  unfolding lines_from item_lines
  item_lines_lem zero s j h = refl
  item_lines_lem (suc n) s j h =
      let next : suc (j + items * s) ≡ suc j + items * s = omega arith in
      rw (line_is s j (omega arith), next)
      (ap (λ (l : List ℕ). report_line s (suc j) (permission_set t s 0 (suc j)) ++ l) (item_lines_lem n s (suc j) (omega arith)))

  subject_lines_lem : (n s : ℕ) → lines_from t (items * s) (n * items) ≡ subject_lines t s n
  unfolding lines_from subject_lines
  subject_lines_lem zero s = rw zero-mul
  subject_lines_lem (suc n) s =
      let rows : suc n * items ≡ items + n * items = omega (arith, suc-mul n items) in
      let start : 0 + items * s ≡ items * s = zero-add (items * s) in
      let own : lines_from t (items * s) items ≡ item_lines t s 1 items = rw start at (item_lines_lem items s 0 (omega arith)) in
      ap (lines_from t (items * s)) rows
      ∙ lines_split items (n * items) (items * s)
      ∙ rw (own, ← mul-suc items s) (ap (λ (l : List ℕ). item_lines t s 1 items ++ l) (subject_lines_lem n (suc s)))

  all_lines : subject_lines t 0 (length t.subjects) ≡ lines_from t 0 (line_count t)
  all_lines = sym (rw mul-zero at (subject_lines_lem (length t.subjects) 0))

  no_lines : (k n : ℕ) → n ≡ 0 → lines_from t k n ≡ []
  unfolding lines_from
  no_lines k n none = rw none

  -- a page and the lines behind it are all lines from line k on
  first_page : (k : ℕ) → page t k ++ lines_from t (k + page_lines) (line_count t - (k + page_lines)) ≡ lines_from t k (line_count t - k)
  first_page k =
      ⊎_elim
      (λ (h : line_count t - (k + page_lines) ≡ 0).
      rw (no_lines (k + page_lines) (line_count t - (k + page_lines)) h, append-nil) (sym (page_of t k (line_count t - k) (omega arith))))
      (λ (h : 0 < line_count t - (k + page_lines)).
      let rest : line_count t - k ≡ page_lines + (line_count t - (k + page_lines)) = omega arith in
      ap (λ (l : List ℕ). l ++ lines_from t (k + page_lines) (line_count t - (k + page_lines))) (sym (page_of t k page_lines (omega arith)))
      ∙ sym (ap (lines_from t k) rest ∙ lines_split page_lines (line_count t - (k + page_lines)) k))
      (eq-zero-or-pos (line_count t - (k + page_lines)))

  -- enough pages, so that no line is left, have all lines
  pages_lines : (m k : ℕ) → line_count t ≤ k + m * page_lines → pages_from t k m ≡ lines_from t k (line_count t - k)
  unfolding pages_from
  pages_lines zero k h = sym (no_lines k (line_count t - k) (omega arith))
  pages_lines (suc m) k h =
      ap (λ (l : List ℕ). page t k ++ l) (pages_lines m (k + page_lines) (omega (arith, suc-mul m page_lines))) ∙ first_page k

  pub pages_all : (m : ℕ) → line_count t ≤ m * page_lines → pages_from t 0 m ≡ subject_lines t 0 (length t.subjects)
  pages_all m h =
      let whole : line_count t - 0 ≡ line_count t = omega arith in
      pages_lines m 0 (omega arith) ∙ ap (lines_from t 0) whole ∙ sym all_lines

-- The report of an accepted image is the first line and all pages. Of a refused image it is the first line.
module _ (img : List ℕ) where
  pub report_accepted : (m : ℕ) → check img ≡ 0 → line_count (tables img) ≤ m * page_lines
      → first_line (check img) ++ pages_from (tables img) 0 m ≡ report img
  unfolding first_line report
  report_accepted m ok enough = rw (ok, pages_all (tables img) m enough)

  pub report_refused : (check img ≡ 0 → ⊥) → first_line (check img) ≡ report img
  unfolding first_line report
  report_refused h = rw (ne_eqb (check img) 0 h)

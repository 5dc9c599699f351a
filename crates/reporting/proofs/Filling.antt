-- Lines put into a page: each line from its numbers, and one line in front of the other.
use mathlib.Core.List.{List, [], ◌++◌, append-nil}
use Rattle.std.specs.Prelude.{◌≡◌, ℕ, zero, suc, ◌+◌, ◌-◌, ◌*◌, ◌/◌, ◌%◌, ◌<◌, ◌≤◌, min}
use Rattle.std.proofs.Math.Path.{refl, ap}
use Rattle.std.proofs.Common.{◌∙◌, div-lt_iff_lt-mul, mul-zero, ne_eqb, length-append, length-drop, drop_at, take}
use Rattle.std.proofs.lemmas.List.{take_all}
use native.Mathlib.Omega.{arith}
use Rattle.std.proofs.Math.ListN.{length, drop, drop_of_length-le}
use Rattle.model.specs.Image.{Tables}
use Rattle.model.specs.Permission.{permission_set}
use Rattle.reporting.specs.Report.{space, newline, ended_by, report_line, heading, refused_word, refused_line}
use Rattle.reporting.specs.Pages.{first_line, line_count, line_at, lines_from, page_lines, page_size, page, ending_in, Put}
use Rattle.reporting.proofs.Texts.{put_none, put_more}

-- A line is put in from its numbers, the last number first.
pub numbers_put : (p : List ℕ) (end s i v : ℕ) (q₁ : List ℕ) (r₁ : ℕ) (q₂ : List ℕ) (r₂ : ℕ) (q₃ : List ℕ) (r₃ : ℕ)
    → Put p end (ended_by newline v) q₁ r₁
    → Put q₁ r₁ (ended_by space i) q₂ r₂
    → Put q₂ r₂ (ended_by space s) q₃ r₃
    → Put p end (report_line s i v) q₃ r₃
unfolding report_line
numbers_put p end s i v q₁ r₁ q₂ r₂ q₃ r₃ a b c =
    put_more p end _ q₂ r₂ (ended_by space s) q₃ r₃ (put_more p end (ended_by newline v) q₁ r₁ (ended_by space i) q₂ r₂ a b) c

-- Line n, by the counts of subjects and items.
module _ (t : Tables) (n items : ℕ) (is : items ≡ length t.items) (inside : n < line_count t) where
  counted : n < length t.subjects * items
  counted = rw is inside

  pub some_item : 0 < items
  some_item = go items counted
    where
      go : (k : ℕ) → n < length t.subjects * k → 0 < k
      go zero h = absurd (omega (arith, rw mul-zero at h))
      go (suc k) h = omega arith

  pub subject_inside : n / items < length t.subjects
  subject_inside = (div-lt_iff_lt-mul some_item).1 counted

  pub line_put : (p : List ℕ) (end v : ℕ) (q : List ℕ) (r : ℕ)
      → v ≡ permission_set t (n / items) 0 (n % items + 1)
      → Put p end (report_line (n / items) (n % items + 1) v) q r
      → Put p end (line_at t n) q r
  unfolding line_at
  line_put p end v q r set a = rw (← is, ← set) a

-- Lines are put in from the last to the first. Of the lines from line k up to line e, those from line n on are there, and
-- none is longer than 63 bytes.
module _ (t : Tables) (k e : ℕ) (p : List ℕ) (end : ℕ) where
  pub record Lined (n : ℕ) (q : List ℕ) (r : ℕ) : Type 0 where
    pub behind : k ≤ n
    pub within : n ≤ e
    pub there : Put p end (lines_from t n (e - n)) q r
    pub fits : end ≤ r + 63 * (e - n)

  one_more : (j m : ℕ) → lines_from t j (suc m) ≡ line_at t j ++ lines_from t (suc j) m
  unfolding lines_from
  one_more j m = refl

  pub lined_none : k ≤ e → length p ≡ end → Lined e p end
  unfolding lines_from
  lined_none some whole =
      let none : e - e ≡ 0 = omega arith in
      record { behind = some; within = omega arith; there = rw none (put_none p end (omega arith)); fits = omega arith }

  pub lined_one : (n : ℕ) (q : List ℕ) (r : ℕ) (q' : List ℕ) (r' : ℕ)
      → k < n
      → Lined n q r
      → Put q r (line_at t (n - 1)) q' r'
      → r ≤ r' + 63
      → Lined (n - 1) q' r'
  lined_one n q r q' r' some a b short =
      let next : suc (n - 1) ≡ n = omega arith in
      let rest : e - (n - 1) ≡ suc (e - n) = omega (arith, a.within) in
      let whole : lines_from t (n - 1) (e - (n - 1)) ≡ line_at t (n - 1) ++ lines_from t n (e - n) =
      ap (lines_from t (n - 1)) rest
      ∙ one_more (n - 1) (e - n)
      ∙ ap (λ (j : ℕ). line_at t (n - 1) ++ lines_from t j (e - n)) next in
      record {
        behind = omega arith;
        within = omega (arith, a.within);
        there = rw whole (put_more p end (lines_from t n (e - n)) q r (line_at t (n - 1)) q' r' a.there b);
        fits = omega (arith, a.fits, a.within);
      }

  pub lined_all : (c n : ℕ) (q : List ℕ) (r : ℕ) → e ≡ k + c → n ≤ k → Lined n q r → Put p end (lines_from t k c) q r
  lined_all c n q r all none a =
      let start : n ≡ k = omega (arith, a.behind) in
      let rest : e - k ≡ c = omega arith in
      rw rest at (rw start at a.there)

-- A text that ends where the page ends, and that is the wanted text.
module _ (p text wanted q : List ℕ) (r : ℕ) (is : text ≡ wanted) (whole : length p ≡ page_size) (a : Put p page_size text q r) where
  pub ends_at : r ≡ page_size - length wanted
  ends_at = rw (← is) (omega (arith, a.starts))

  pub ends_in : q ≡ ending_in p wanted
  unfolding ending_in
  ends_in =
      let none : drop page_size p ≡ [] = drop_of_length-le p {i = page_size} (omega arith) in
      a.made ∙ rw (none, append-nil, whole, ← ends_at, is)

-- The two cases of the first line: the heading, and the refusal.
pub first_heading : (n : ℕ) → n ≡ 0 → heading ≡ first_line n
unfolding first_line
first_heading n e = rw e

pub first_refused : (n : ℕ) → (n ≡ 0 → ⊥) → refused_line n ≡ first_line n
unfolding first_line
first_refused n h = rw (ne_eqb n 0 h)

pub refusal_put : (p : List ℕ) (n : ℕ) (q : List ℕ) (r : ℕ) (q' : List ℕ) (r' : ℕ)
    → Put p page_size (ended_by newline n) q r
    → Put q r refused_word q' r'
    → Put p page_size (refused_line n) q' r'
refusal_put p n q r q' r' a b = put_more p page_size (ended_by newline n) q r refused_word q' r' a b

-- the lines of a page: all that are left, or as many as it holds
pub page_of : (t : Tables) (k n : ℕ) → n ≡ min (line_count t - k) page_lines → lines_from t k n ≡ page t k
unfolding page
page_of t k n e = ap (lines_from t k) e

-- what a page ends in, read from where it starts
pub ending_text : (p text q : List ℕ) (r : ℕ) → length q ≡ page_size → r ≡ page_size - length text → q ≡ ending_in p text
    → take (page_size - r) (drop r q) ≡ text
unfolding ending_in
ending_text p text q r whole start made =
    let front = take (length p - length text) p in
    let long : length front ≡ r = omega (arith, simp length-append at (ap length made)) in
    let rest : drop r q ≡ text = ap (drop r) made ∙ drop_at front text r long in
    take_all (page_size - r) (drop r q) (omega (arith, length-drop r q)) ∙ rest

-- The report: the text for the bytes of an image, in ASCII.
use Rattle.std.specs.Prelude.{cond, List, [], ◌∷◌, ◌++◌, ℕ, zero, suc, ◌+◌, ◌/◌, ◌%◌, eqb, length}
use Rattle.model.specs.Image.{Tables, tables}
use Rattle.model.specs.Permission.{permission_set}
use Rattle.model.specs.Questions.{check}

abbrev pub space : ℕ
space = 32

abbrev pub newline : ℕ
newline = 10

abbrev pub digit : ℕ → ℕ
digit d = 48 + d

-- the digits of n, the most significant first, and none for 0; m is the number of steps, and n steps are enough
unfoldable pub digits_within : ℕ → ℕ → List ℕ
digits_within zero n = []
digits_within (suc m) n = cond (eqb n 0) [] (digits_within m (n / 10) ++ digit (n % 10) ∷ [])

abbrev pub digits_of : ℕ → List ℕ
digits_of n = digits_within n n

-- n in decimal: at least one digit
unfoldable pub decimal : ℕ → List ℕ
decimal n = digits_of (n / 10) ++ digit (n % 10) ∷ []

-- n in decimal, and behind it byte b
abbrev pub ended_by : ℕ → ℕ → List ℕ
ended_by b n = decimal n ++ b ∷ []

-- a line: subject, item and set, with one space between them
unfoldable pub report_line : ℕ → ℕ → ℕ → List ℕ
report_line s i p = ended_by space s ++ (ended_by space i ++ ended_by newline p)

-- the lines of subject s for n items from item i on, with its set under role 0 on each
unfoldable pub item_lines : Tables → ℕ → ℕ → ℕ → List ℕ
item_lines t s i zero = []
item_lines t s i (suc n) = report_line s i (permission_set t s 0 i) ++ item_lines t s (suc i) n

-- the lines of n subjects from subject s on, each for all items
unfoldable pub subject_lines : Tables → ℕ → ℕ → List ℕ
subject_lines t s zero = []
subject_lines t s (suc n) = item_lines t s 1 (length t.items) ++ subject_lines t (suc s) n

-- "subject item set"
abbrev pub heading : List ℕ
heading = 115 ∷ 117 ∷ 98 ∷ 106 ∷ 101 ∷ 99 ∷ 116 ∷ space ∷ 105 ∷ 116 ∷ 101 ∷ 109 ∷ space ∷ 115 ∷ 101 ∷ 116 ∷ newline ∷ []

-- "refused " and the number
abbrev pub refused_word : List ℕ
refused_word = 114 ∷ 101 ∷ 102 ∷ 117 ∷ 115 ∷ 101 ∷ 100 ∷ space ∷ []

abbrev pub refused_line : ℕ → List ℕ
refused_line n = refused_word ++ ended_by newline n

-- The report: the heading, then a line for each subject and item. Subjects ascend, and items ascend within a subject. For a
-- refused image, the report is the refusal alone.
unfoldable pub report : List ℕ → List ℕ
report img = cond (eqb (check img) 0) (heading ++ subject_lines (tables img) 0 (length (tables img).subjects)) (refused_line (check img))

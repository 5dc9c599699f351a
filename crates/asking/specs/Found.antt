-- What the contracts of `asking` cite beside the definitions of `model`: the rows of a list among the lines.
use Rattle.std.specs.Prelude.{Result, Ok, Err, List, ◌≡◌, ℕ, ◌+◌, ◌-◌, ◌*◌, ◌≤◌, length}
use Rattle.model.specs.declared.refusal.Refusal.{Refusal}
use Rattle.model.specs.Image.{layout_of, tables, size, line_format, width_of}
use Rattle.model.specs.Calls.{rows_of, rows_before}
use Rattle.model.specs.Calls.Ask.{list_count}
use Rattle.model.specs.Questions.{answer, ask, refusal_number}
use Rattle.asking.specs.declared.list_rows.ListRows.{ListRows}

-- how many bytes a line has
abbrev pub line_size : List ℕ → ℕ
line_size img = size (line_format (width_of (layout_of img)))

-- The rows of list a start at index `first` and end before index `end`.
pub record Shown (img : List ℕ) (a first end : ℕ) : Type 0 where
  pub answers : answer 0 (end - first) ≡ ask img (list_count a)
  pub ordered : first ≤ end
  pub begins : first ≡ length (rows_before a (tables img).lines)
  pub counts : end ≡ first + length (rows_of a (tables img).lines)
  pub inside : (layout_of img).lines.start + end * line_size img ≤ length img

-- What the code answers: the rows, with the layout of the image, or the refusal.
abbrev pub ShownBy : List ℕ → ℕ → Result ListRows Refusal → Type 0
ShownBy img a (Ok rows) = Shown img a rows.first rows.end × (rows.layout ≡ layout_of img)
ShownBy img a (Err refusal) = answer (refusal_number refusal) 0 ≡ ask img (list_count a)

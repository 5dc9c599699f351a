use Rattle.std.proofs.Common.{◌≡◌, ◌+◌, ◌≤◌, drop}
use Rattle.model.specs.Image.{line_key}
use Rattle.rows.specs.Found.{line_numbers}
use Rattle.model.specs.Sorted.{count_lower}
use Rattle.timing.proofs.lower_lines.Given as goal

-- `lower` of the rows that the loop has passed have a lower key, and the others are still to be counted.
abbrev pub invariant-loop-n : goal.invariant-loop-n
invariant-loop-n l = record {
  few : l.lower ≤ l.n;
  rest : count_lower line_key (line_numbers l.key) l.lines ≡ l.lower + count_lower line_key (line_numbers l.key) (drop l.n l.lines);
}

use Rattle.asking.specs.Shown.{starts_at, ends_at}
use Rattle.asking.proofs.list_lines.shown_bytes.Goals as goal

pub returns-clause-start : goal.returns-clause-start
returns-clause-start c = search starts_at

pub returns-clause-end : goal.returns-clause-end
returns-clause-end c = search ends_at

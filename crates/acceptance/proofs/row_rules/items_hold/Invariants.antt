use Prim.Native.Nat.{suc}
use Rattle.model.specs.Image.{tables_by, no_item, item_rules}
use Rattle.acceptance.specs.Passes.{Upto}
use Rattle.acceptance.proofs.row_rules.items_hold.Given as goal

-- `acceptance::row_rules::items_hold` meets its contract: the rows passed all hold their rules.
abbrev pub invariant-loop-n : goal.invariant-loop-n
invariant-loop-n l =
    Upto (tables_by l.layout l.image).items no_item
    (λ k. item_rules (tables_by l.layout l.image).subjects (tables_by l.layout l.image).items (suc k))
    l.n

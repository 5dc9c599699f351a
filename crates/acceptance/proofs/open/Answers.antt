use Rattle.std.proofs.lemmas.Result.{err_from_is_err_and}
use Rattle.acceptance.specs.Seven.{open_no, check_no}
use Rattle.acceptance.proofs.open.Goals as goal

pub returns-in_err-first_no : goal.returns-in_err-first_no
returns-in_err-first_no c =
    let p = err_from_is_err_and c.from_residual.result c.from_residual.ensures.1 in
    rw (p.1, p.2) (record {
      value = open_no _ _ c.layout_of-layout.ensures _ c.first_no.ensures _ c.in_err-first_no.was;
      refusal = check_no _ _ c.layout_of-layout.ensures _ c.first_no.ensures _ c.in_err-first_no.was;
    })

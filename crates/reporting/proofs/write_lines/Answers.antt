use Rattle.std.proofs.Common.{ℕ, ap, ◌∙◌}
use Rattle.std.specs.Int.{div_ceil}
use Rattle.std.proofs.KnownBytes.{Appends-nil, Appends-trans}
use Rattle.reporting.specs.Pages.{page_lines}
use Rattle.reporting.proofs.Filling.{ending_text}
use Rattle.reporting.proofs.Written.{next_page, no_page}
use Rattle.reporting.proofs.write_lines.Goals as goal

pub loop-number-preserved : goal.loop-number-preserved
loop-number-preserved g c end rest =
    let page = c.lines_page-start in
    let text = ending_text _ _ _ _ page.array_long page.ensures.value page.ensures.page_after in
    let wrote = rw text at c.in_ok-write_all.ensures.bytes in
    c.loop-number.invariant end (rw (next_page _ _ _ c.loop-number-test.true) (Appends-trans _ _ end _ _ wrote rest))

pub returns : goal.returns
returns g c =
    let out = g.W.Write.contents c.loop-number.out in
    let pages = c.div_ceil-pages.ensures ∙ ap (λ (k : ℕ). div_ceil k page_lines) c.line_count.ensures.value in
    rw pages at (c.loop-number.invariant out (rw (no_page _ _ _ _ c.loop-number-test.false) (Appends-nil out)))

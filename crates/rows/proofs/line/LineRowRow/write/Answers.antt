use Rattle.model.specs.WhoAndWhat.{privilege_width}
use Rattle.model.specs.Image.{line_format}
use Rattle.laws.specs.Rows.{line_lawful}
use Rattle.rows.proofs.PutLaws.{row_put}
use Rattle.rows.proofs.PutLaws.Put.{none, first, then}
use Rattle.rows.proofs.line.LineRowRow.write.Goals as goal

pub returns : goal.returns
returns c =
    row_put (line_format privilege_width) (line_lawful privilege_width) c.args.self _ _ _ c.offset_count.ensures c.if-offset_count-at.false _
    (first c.put_field.ensures (then c.put_field-2.ensures (then c.put_field-3.ensures (then c.put_field-4.ensures none))))

use Rattle.model.specs.Image.{item_format}
use Rattle.laws.specs.Rows.{item_lawful}
use Rattle.rows.proofs.PutLaws.{row_put}
use Rattle.rows.proofs.PutLaws.Put.{none, first, then}
use Rattle.rows.proofs.item.ItemRowRow.write.Goals as goal

pub returns : goal.returns
returns c =
    row_put item_format item_lawful c.args.self _ _ _ c.offset_count.ensures c.if-offset_count-at.false _
    (first c.put_field.ensures (then c.put_field-2.ensures (then c.put_field-3.ensures (then c.put_field-4.ensures none))))

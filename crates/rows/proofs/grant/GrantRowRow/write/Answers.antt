use Rattle.model.specs.WhoAndWhat.{privilege_width}
use Rattle.model.specs.Image.{grant_format}
use Rattle.laws.specs.Rows.{grant_lawful}
use Rattle.rows.proofs.PutLaws.{row_put}
use Rattle.rows.proofs.PutLaws.Put.{none, first, then}
use Rattle.rows.proofs.grant.GrantRowRow.write.Goals as goal

pub returns : goal.returns
returns c =
    row_put (grant_format privilege_width) (grant_lawful privilege_width) c.args.self _ _ _ c.offset_count.ensures c.if-offset_count-at.false _
    (first c.put_field.ensures (then c.put_field-2.ensures (then c.put_field-3.ensures (then c.put_field-4.ensures (then c.put_field-5.ensures none)))))

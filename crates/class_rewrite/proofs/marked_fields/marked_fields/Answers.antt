use Rattle.class_rewrite.proofs.AddedMarks.{fields_all}
use Rattle.class_rewrite.proofs.marked_fields.marked_fields.Goals as goal

pub returns : goal.returns
returns c =
    fields_all c.args.tree.now.folder c.args.fields.now c.in_ok-rows.rows.items c.mark_fields.new.rows.items c.in_ok-rows.ensures c.mark_fields.ensures

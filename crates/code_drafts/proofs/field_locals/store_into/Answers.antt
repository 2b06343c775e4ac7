use Rattle.std.proofs.Common.{Some, refl}
use Rattle.code_drafts.proofs.FieldLaws.{store_step}
use Rattle.code_drafts.proofs.field_locals.store_into.Goals as goal

pub returns : goal.returns
returns c = λ flat site number unit.
    store_step flat site number (Some c.args.of_type.now) c.args.of_type.now c.kind.result c.args.unit c.args.kept.now c.narrow.new.kept c.put.new.kept refl c.kind.ensures unit
    (c.in_ok-narrow.ensures flat) (c.in_ok-put.ensures flat)

use Rattle.std.proofs.Common.{pos, [], ◌∷◌, sym, ap}
use Rattle.class_model.specs.declared.descriptor.FieldType.TheVariants as field_types
use Rattle.class_model.specs.declared.instr.Imm.TheVariants as imms
use Rattle.class_model.specs.declared.instr.Instr.TheVariants.{Const, Pure}
use Rattle.class_model.specs.declared.opcodes.TheConstants.{IAND}
use Rattle.code_drafts.proofs.PutLaws.{plain_put, puts_as, puts_both}
use Rattle.code_drafts.proofs.field_locals.narrow.Goals as goal
use Rattle.making_code.specs.Items.{plain}
use Rattle.plan_flow.specs.Written.Templates.{narrowing}

pub returns-in_ok-put-in-Bool-2 : goal.returns-in_ok-put-in-Bool-2
returns-in_ok-put-in-Bool-2 c = λ flat.
    let one = Const (imms.Int (pos 1)) in
    let other = Pure IAND in
    puts_as flat c.args.kept.now c.put-in-Bool-2.new.kept (narrowing field_types.Bool) (narrowing c.args.of_type.now) (ap narrowing (sym c.in-Bool.is))
    (puts_both flat c.args.kept.now c.put-in-Bool.new.kept c.put-in-Bool-2.new.kept (plain one ∷ []) (plain other ∷ [])
    (c.in_ok-put-in-Bool.ensures flat (plain one) (plain_put flat one)) (c.in_ok-put-in-Bool-2.ensures flat (plain other) (plain_put flat other)))

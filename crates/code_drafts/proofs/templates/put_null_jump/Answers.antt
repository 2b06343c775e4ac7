use Rattle.std.proofs.Common.{[], ◌∷◌, refl}
use Rattle.class_model.specs.declared.descriptor.Kind.TheVariants as kinds
use Rattle.class_model.specs.declared.instr.Imm.TheVariants as imms
use Rattle.class_model.specs.declared.instr.Instr.TheVariants.{Const, IfNull}
use Rattle.class_model.specs.declared.opcodes.TheConstants.{IFNONNULL}
use Rattle.code_drafts.proofs.FieldLaws.{load_put}
use Rattle.code_drafts.proofs.PutLaws.{items_both, plain_put}
use Rattle.code_drafts.proofs.templates.put_null_jump.Goals as goal
use Rattle.code_drafts.specs.Inner.WrittenWords.{ahead_item}
use Rattle.making_code.specs.Items.{item, load, plain}
use Rattle.making_code.specs.Units.{own}

pub returns : goal.returns
returns c = λ flat.
    let first = load kinds.Ref (own c.args.local) in
    let jump = ahead_item (IfNull IFNONNULL 0) 3 in
    let null = plain (Const imms.Null) in
    items_both flat c.args.kept.now c.put.new.kept c.put-2.new.kept (item first ∷ []) (jump ∷ item null ∷ [])
    (c.in_ok-put.ensures flat first (load_put flat kinds.Ref (own c.args.local) c.args.local refl))
    (items_both flat c.put.new.kept c.put_ahead.new.kept c.put-2.new.kept (jump ∷ []) (item null ∷ []) (c.in_ok-put_ahead.ensures flat)
    (c.in_ok-put-2.ensures flat null (plain_put flat (Const imms.Null))))

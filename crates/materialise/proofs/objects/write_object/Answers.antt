use Rattle.std.proofs.Common.{List, sym, subst}
use Rattle.class_model.specs.declared.descriptor.FieldType.{FieldType}
use Rattle.making_code.specs.MakeCode.{load_fields_from}
use Rattle.materialise.proofs.ObjectCode.{object_written}
use Rattle.materialise.proofs.objects.write_object.Goals as goal
use Rattle.materialise.specs.Inner.CodeWords.{Writes}

pub returns : goal.returns
returns c =
    let loads = subst (λ (fields : List FieldType). Writes c.args.units.now c.push-2.new.self.items (load_fields_from c.args.object.now.site 0 fields c.args.object.now.fields) c.load_fields.new.instrs.items) c.as_slice.ensures c.in_ok-load_fields.ensures in
    object_written c.args.units.now c.args.instrs.now.items c.args.object.now c.args.one.now c.args.made.class c.args.made.constructor c.object-unit.result
    c.push.new.self.items c.push-2.new.self.items c.load_fields.new.instrs.items c.push-3.new.self.items c.push-4.new.self.items c.push-5.new.self.items c.enter.new.instrs.items
    c.in_ok-push.ensures.items c.in_ok-push-2.ensures.items loads c.in_ok-push-3.ensures.items c.in_ok-push-4.ensures.items c.in_ok-push-5.ensures.items (sym c.object-unit.ensures)
    (c.in_ok-enter.ensures c.args.units.now c.args.object.now.site (sym c.object-unit.ensures))

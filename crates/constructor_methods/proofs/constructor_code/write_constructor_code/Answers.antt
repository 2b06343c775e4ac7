use Rattle.std.proofs.Common.{rules, ◌+◌, ℕ, subst}
use Rattle.std.specs.List.{flat_map}
use Rattle.std.specs.Result.{IsErrOf}
use Rattle.class_tree.specs.Headers.{headers_of}
use Rattle.field_constructors.specs.Inner.FieldWords.{instance_fields_of}
use Rattle.flow_code.specs.declared.reason.KeptFault.TheVariants.{Kept}
use Rattle.making_code.specs.FieldConstructor.{item_needs, puts_from}
use Rattle.constructor_methods.proofs.ConstructLaws.{all_written, call_full, stores_full}
use Rattle.constructor_methods.proofs.constructor_code.write_constructor_code.Goals as goal
use Rattle.materialise.specs.Growing.{IsFull}
use Rattle.constructor_methods.specs.Inner.ConstructorWords.{Constructs}

pub returns-in_err-write_call-clause-full : goal.returns-in_err-write_call-clause-full
returns-in_err-write_call-clause-full c = λ reason constructor is described.
    let fails : IsErrOf c.write_call.result (Kept reason) = search rules in
    call_full constructor (headers_of c.args.constructors.now) c.args.header.now c.args.above.now c.requires.found c.requires.above c.args.pool.now reason
    (c.write_call.ensures.full reason constructor fails described)

pub returns-in_err-write_puts-clause-full : goal.returns-in_err-write_puts-clause-full
returns-in_err-write_puts-clause-full c = λ reason constructor is described.
    let fails : IsErrOf c.write_puts.result (Kept reason) = search rules in
    stores_full constructor (headers_of c.args.constructors.now) c.args.header.now c.args.above.now c.requires.found c.requires.above c.args.pool.now c.write_call.new.pool reason
    (c.in_ok-write_call.ensures.ok constructor described).grows
    (subst (λ (units : ℕ). IsFull c.write_call.new.pool (flat_map (item_needs constructor) (puts_from c.args.header.now.name (1 + units) (instance_fields_of c.args.header.now))) reason)
    c.field_units.ensures (c.write_puts.ensures.full reason constructor fails))

pub returns-clause-ok : goal.returns-clause-ok
returns-clause-ok c = λ constructor described.
    all_written constructor (headers_of c.args.constructors.now) c.args.header.now c.args.above.now c.requires.found c.requires.above
    c.args.pool.now c.write_call.new.pool c.write_puts.new.pool c.args.instrs.now.items c.write_call.new.instrs.items c.write_puts.new.instrs.items c.push.new.self.items
    (c.in_ok-write_call.ensures.ok constructor described)
    (subst (λ (units : ℕ). Constructs constructor c.write_call.new.pool c.write_call.new.instrs.items (puts_from c.args.header.now.name (1 + units) (instance_fields_of c.args.header.now)) c.write_puts.new.pool c.write_puts.new.instrs.items)
    c.field_units.ensures (c.in_ok-write_puts.ensures.ok constructor))
    c.write_puts.ensures.more (c.an_edit_goes_back_to_what_it_was.ensures.itself c.write_puts.new.pool) c.in_ok-push.ensures.items

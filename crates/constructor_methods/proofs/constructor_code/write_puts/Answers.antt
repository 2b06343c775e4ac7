use Rattle.std.proofs.Common.{rules, ◌≡◌, ◌+◌, ◌≤◌, ℕ, List, true, false, drop, length, slice_get, Some, sym, ap, subst, ◌∙◌, arith}
use Rattle.std.proofs.lemmas.Grind.{common_steps}
use Rattle.std.specs.Result.{IsErrOf}
use Rattle.class_model.specs.Descriptors.{units_of}
use Rattle.class_model.specs.Members.{has, STATIC}
use Rattle.class_model.specs.declared.header.Member.{Member}
use Rattle.flow_code.specs.declared.reason.KeptFault.TheVariants.{Kept}
use Rattle.making_code.specs.FieldConstructor.{units_of_fields}
use Rattle.constructor_methods.proofs.ConstructLaws.{PutsRest, instance_of, instance_there, item_there, none_there, puts_done, puts_full, puts_step, static_there}
use Rattle.constructor_methods.proofs.constructor_code.write_puts.Goals as goal
use Rattle.constructor_methods.proofs.constructor_code.write_puts.Goals.{then-not-has+in_ok-write_put, else-not-has}
use Rattle.constructor_methods.specs.Inner.ConstructorWords.{units_of_desc}

pub returns-in_err-write_put-clause-full : goal.returns-in_err-write_put-clause-full
returns-in_err-write_put-clause-full c = λ reason constructor is.
    let fails : IsErrOf c.write_put.result (Kept reason) = search rules in
    let fields = c.args.header.now.fields in
    let at = c.loop-field.field-index in
    let field = c.field-item.result in
    let there : slice_get c.args.header.now.fields c.loop-field.field-index ≡ Some c.field-item.result =
    subst (λ (list : List Member). slice_get list c.loop-field.field-index ≡ Some c.field-item.result) c.as_slice-field-items.ensures
    (item_there c.as_slice-field-items.result.now at field c.loop-field-test.true c.field-item.is) in
    let test : has c.field-item.result.flags STATIC ≡ false = first_of (search rules, grind (arith, common_steps)) in
    puts_full c.args.header.now.name c.args.from (instance_of fields) c.args.pool.now c.args.instrs.now.items c.loop-field.pool c.loop-field.instrs.items c.loop-field.unit field
    (instance_of (drop at fields)) (instance_of (drop (at + 1) fields)) (instance_there fields at field there test) c.loop-field.invariant.0
    constructor reason (c.write_put.ensures.full reason constructor fails)

pub loop-field-preserved : goal.loop-field-preserved
loop-field-preserved c =
    let fields = c.args.header.now.fields in
    let at = c.loop-field.field-index in
    let field = c.field-item.result in
    let there : slice_get c.args.header.now.fields c.loop-field.field-index ≡ Some c.field-item.result =
    subst (λ (list : List Member). slice_get list c.loop-field.field-index ≡ Some c.field-item.result) c.as_slice-field-items.ensures
    (item_there c.as_slice-field-items.result.now at field c.loop-field-test.true c.field-item.is) in
    let bound = c.loop-field.invariant.1 in
    elim c.if-not-has.branch [
      | then-not-has+in_ok-write_put w ↦
          let test : has c.field-item.result.flags STATIC ≡ false = first_of (search rules, grind (arith, common_steps)) in
          let units_is : w.units-unit.result ≡ units_of_desc c.field-item.result.desc = w.units-unit.ensures ∙ ap units_of w.field_kind.ensures in
          let rest_is = instance_there fields at field there test in
          let split = ap units_of_fields rest_is in
          rw (w.pool-is, w.instrs-is, w.unit-is) (
            subst (λ (n : ℕ). PutsRest c.args.header.now.name c.args.from (instance_of fields) c.args.pool.now c.args.instrs.now.items w.write_put.new.pool w.write_put.new.instrs.items (c.loop-field.unit + n) (instance_of (drop (at + 1) fields))) (sym units_is)
                (puts_step c.args.header.now.name c.args.from (instance_of fields) c.args.pool.now c.args.instrs.now.items c.loop-field.pool c.loop-field.instrs.items c.loop-field.unit field
                (instance_of (drop at fields)) (instance_of (drop (at + 1) fields)) rest_is c.loop-field.invariant.0
                w.write_put.new.pool w.write_put.new.instrs.items w.in_ok-write_put.ensures.ok w.write_put.ensures.more),
            omega (arith, bound, units_is, split),
          )
      | else-not-has w ↦
          let test : has c.field-item.result.flags STATIC ≡ true = first_of (search rules, grind (arith, common_steps)) in
          let rest_is = static_there fields at field there test in
          rw (w.pool-is, w.instrs-is, w.unit-is) (
            subst (λ (rest : List Member). PutsRest c.args.header.now.name c.args.from (instance_of fields) c.args.pool.now c.args.instrs.now.items c.loop-field.pool c.loop-field.instrs.items c.loop-field.unit rest) rest_is c.loop-field.invariant.0,
            subst (λ (rest : List Member). c.loop-field.unit + units_of_fields rest ≤ 65) rest_is bound,
          )
    ]

pub returns-clause-ok : goal.returns-clause-ok
returns-clause-ok c =
    let fields = c.args.header.now.fields in
    let at = c.loop-field.field-index in
    let end : length c.args.header.now.fields ≤ c.loop-field.field-index =
    subst (λ (list : List Member). length list ≤ c.loop-field.field-index) c.as_slice-field-items.ensures c.loop-field-test.false in
    puts_done c.args.header.now.name c.args.from (instance_of fields) c.args.pool.now c.args.instrs.now.items c.loop-field.pool c.loop-field.instrs.items c.loop-field.unit
    (instance_of (drop at fields)) (none_there fields at end) (c.an_edit_goes_back_to_what_it_was.ensures.itself c.loop-field.pool) c.loop-field.invariant.0

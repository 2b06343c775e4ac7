use Rattle.std.proofs.Common.{rules, ◌≡◌, ◌+◌, ◌≤◌, ◌<◌, ℕ, List, true, false, drop, max, slice_get, Some, sym, ap, subst, ◌∙◌, arith}
use Rattle.std.proofs.lemmas.Grind.{common_steps}
use Rattle.class_model.specs.Descriptors.{units_of}
use Rattle.class_model.specs.Members.{has, STATIC}
use Rattle.class_model.specs.declared.header.Member.{Member}
use Rattle.making_code.specs.ConstructorCode.{depth_of_stores}
use Rattle.constructor_methods.proofs.ConstructLaws.{instance_of, instance_there, item_there, static_there}
use Rattle.constructor_methods.proofs.ConstructorMethodLaws.{raised, stores_step, unraised}
use Rattle.constructor_methods.proofs.constructor_method.stores_depth.Goals as goal
use Rattle.constructor_methods.proofs.constructor_method.stores_depth.Goals.{then-not-has+then-depth-units, then-not-has+else-depth-units, else-not-has}
use Rattle.constructor_methods.specs.Inner.ConstructorWords.{units_of_desc}

pub loop-field-preserved : goal.loop-field-preserved
loop-field-preserved c =
    let fields = c.args.header.now.fields in
    let at = c.loop-field.field-index in
    let field = c.field-item.result in
    let later = instance_of (drop (at + 1) fields) in
    let there : slice_get c.args.header.now.fields c.loop-field.field-index ≡ Some c.field-item.result =
    subst (λ (list : List Member). slice_get list c.loop-field.field-index ≡ Some c.field-item.result) c.as_slice-field-items.ensures
    (item_there c.as_slice-field-items.result.now at field c.loop-field-test.true c.field-item.is) in
    elim c.if-not-has.branch [
      | then-not-has+then-depth-units w ↦
          let test : has c.field-item.result.flags STATIC ≡ false = first_of (search rules, grind (arith, common_steps)) in
          let units_is : w.units-units.result ≡ units_of_desc c.field-item.result.desc = w.units-units.ensures ∙ ap units_of w.field_kind.ensures in
          let less : c.loop-field.depth < 1 + w.units-units.result = first_of (search rules, grind (arith, common_steps)) in
          rw w.depth-is
          (stores_step c.loop-field.depth (1 + w.units-units.result) field later (instance_of (drop at fields)) (instance_of fields) (instance_there fields at field there test)
          (sym (raised c.loop-field.depth (1 + w.units-units.result) less) ∙ ap (λ (n : ℕ). max c.loop-field.depth (1 + n)) units_is) c.loop-field.invariant)
      | then-not-has+else-depth-units w ↦
          let test : has c.field-item.result.flags STATIC ≡ false = first_of (search rules, grind (arith, common_steps)) in
          let units_is : w.units-units.result ≡ units_of_desc c.field-item.result.desc = w.units-units.ensures ∙ ap units_of w.field_kind.ensures in
          let most : 1 + w.units-units.result ≤ c.loop-field.depth = first_of (search rules, grind (arith, common_steps)) in
          rw w.depth-is
          (stores_step c.loop-field.depth c.loop-field.depth field later (instance_of (drop at fields)) (instance_of fields) (instance_there fields at field there test)
          (sym (unraised c.loop-field.depth (1 + w.units-units.result) most) ∙ ap (λ (n : ℕ). max c.loop-field.depth (1 + n)) units_is) c.loop-field.invariant)
      | else-not-has w ↦
          let test : has c.field-item.result.flags STATIC ≡ true = first_of (search rules, grind (arith, common_steps)) in
          let rest_is = static_there fields at field there test in
          rw w.depth-is
          (subst (λ (rest : List Member). max c.loop-field.depth (depth_of_stores rest) ≡ depth_of_stores (instance_of fields)) rest_is c.loop-field.invariant)
    ]

use Rattle.std.proofs.Common.{◌≡◌, ◌+◌, ◌++◌, ℕ, [], ◌∷◌, drop, slice_get, Some, sym, ap, subst, ◌∙◌, arith}
use Rattle.class_model.specs.Descriptors.{kind_of, type_of, units_of}
use Rattle.class_model.specs.declared.descriptor.Kind.{Kind}
use Rattle.class_model.specs.declared.instr.Instr.TheVariants.{Load}
use Rattle.constructor_methods.proofs.ConstructLaws.{LoadsRest, item_there, loads_done, loads_step, units_there}
use Rattle.constructor_methods.proofs.constructor_code.load_parameters.Goals as goal
use Rattle.constructor_methods.specs.Inner.ConstructorWords.{units_of_desc}

pub loop-desc-preserved : goal.loop-desc-preserved
loop-desc-preserved c =
    let descs = c.args.descs.now in
    let at = c.loop-desc.desc-index in
    let desc = c.desc-item.result in
    let there : slice_get c.args.descs.now c.loop-desc.desc-index ≡ Some c.desc-item.result = item_there descs at desc c.loop-desc-test.true c.desc-item.is in
    let kind_is : c.field_kind-kind.result ≡ kind_of (type_of c.desc-item.result) = c.field_kind-kind.ensures in
    let units_is : c.units-unit.result ≡ units_of_desc c.desc-item.result = c.units-unit.ensures ∙ ap units_of kind_is in
    let is = c.in_ok-push.ensures.items ∙ ap (λ (kind : Kind). c.loop-desc.instrs.items ++ Load kind c.loop-desc.unit ∷ []) kind_is in (
      subst (λ (n : ℕ). LoadsRest descs c.args.from c.args.instrs.now.items c.push.new.self.items (c.loop-desc.unit + n) (drop (at + 1) descs)) (sym units_is)
          (loads_step descs c.args.from c.args.instrs.now.items c.loop-desc.instrs.items c.push.new.self.items c.loop-desc.unit at desc there is c.loop-desc.invariant.0),
      (let before = c.loop-desc.invariant.1 in let split = units_there descs at desc there in omega (arith, before, units_is, split)),
    )

pub returns : goal.returns
returns c = λ constructor pool.
    loads_done c.args.descs.now c.args.from c.args.instrs.now.items c.loop-desc.instrs.items c.loop-desc.unit c.loop-desc.desc-index c.loop-desc-test.false c.loop-desc.invariant.0 constructor pool

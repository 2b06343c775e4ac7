use Rattle.std.proofs.Common.{◌≡◌, ◌+◌, ◌-◌, ℕ, [], ◌∷◌, refl, sym, ap, subst, arith}
use Rattle.class_model.specs.declared.descriptor.Kind.TheVariants as kinds
use Rattle.class_model.specs.declared.instr.Instr.TheVariants.{Enter, Load}
use Rattle.making_code.specs.Items.{load, plain}
use Rattle.making_code.specs.MakeCode.{enters}
use Rattle.making_code.specs.Units.{object_unit}
use Rattle.materialise.proofs.CodeLaws.{writes_all, writes_both, writes_first, writes_more, writes_one}
use Rattle.materialise.proofs.CopyLaws.{enters_end, enters_there}
use Rattle.materialise.proofs.objects.enter.Goals as goal
use Rattle.materialise.specs.Inner.CodeWords.{WritesRest}

pub loop-init : goal.loop-init
loop-init c = λ flat site same.
    let all : c.args.depth - 0 ≡ c.args.depth = omega arith in
    subst (λ (n : ℕ). WritesRest flat c.args.instrs.now.items (enters site c.args.depth) c.args.instrs.now.items (enters site n)) (sym all)
    (writes_first flat c.args.instrs.now.items (enters site c.args.depth))

pub loop-preserved : goal.loop-preserved
loop-preserved c = λ flat site same.
    let first = writes_one flat c.loop.instrs.items c.push.new.self.items (load kinds.Ref (object_unit site)) (Load kinds.Ref c.args.unit) c.in_ok-push.ensures.items
    (λ class_of constructor_of. ap (λ (unit : ℕ). Load kinds.Ref unit) (sym same)) in
    let second = writes_one flat c.push.new.self.items c.push-in-loop.new.self.items (plain Enter) Enter c.in_ok-push-2.ensures.items (λ class_of constructor_of. refl) in
    let both = writes_both flat c.loop.instrs.items c.push.new.self.items c.push-in-loop.new.self.items (load kinds.Ref (object_unit site) ∷ []) (plain Enter ∷ []) first second in
    writes_more flat c.args.instrs.now.items c.loop.instrs.items c.push-in-loop.new.self.items (enters site c.args.depth) (load kinds.Ref (object_unit site) ∷ plain Enter ∷ [])
    (enters site (c.args.depth - (c.loop.counter + 1))) (enters site (c.args.depth - c.loop.counter)) (c.loop.invariant flat site same)
    (enters_there site c.args.depth c.loop.counter c.loop-test.true) both

pub returns : goal.returns
returns c = λ flat site same.
    writes_all flat c.args.instrs.now.items c.loop.instrs.items (enters site c.args.depth) (enters site (c.args.depth - c.loop.counter)) (c.loop.invariant flat site same)
    (enters_end site c.args.depth c.loop.counter c.loop-test.false)

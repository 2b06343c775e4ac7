use Rattle.std.proofs.Common.{rules, ◌≡◌, List, Option, sym, subst, arith}
use Rattle.std.proofs.lemmas.Grind.{common_steps}
use Rattle.std.specs.List.{flat_map}
use Rattle.class_tree.specs.Headers.{Name, headers_of}
use Rattle.class_tree.specs.Names.{object}
use Rattle.making_code.specs.FieldConstructor.{CInstr, call_above, item_needs}
use Rattle.std.proofs.lemmas.Result.{on_ok_weaker}
use Rattle.constructor_methods.proofs.ConstructLaws.{above_object}
use Rattle.constructor_methods.proofs.constructor_code.write_call.Goals as goal
use Rattle.materialise.specs.Growing.{IsFull}
use Rattle.constructor_methods.specs.Inner.ConstructorWords.{Constructs}

pub returns-then-eq-clause-ok : goal.returns-then-eq-clause-ok
returns-then-eq-clause-ok c =
    let same : c.in-Some.class ≡ object = first_of (search rules, grind (arith, common_steps)) in
    let items_are = above_object (headers_of c.args.constructors.now) c.args.header.now.super_name c.in-Some.class c.in-Some.is same in
    on_ok_weaker c.call_object.result
    (λ all constructor described. subst (λ (items : List CInstr). Constructs constructor c.args.pool.now c.args.instrs.now.items items c.call_object.new.pool c.call_object.new.instrs.items) (sym items_are) (all constructor))
    c.call_object.ensures.ok

pub returns-then-eq-clause-full : goal.returns-then-eq-clause-full
returns-then-eq-clause-full c = λ reason constructor fails described.
    let same : c.in-Some.class ≡ object = first_of (search rules, grind (arith, common_steps)) in
    let items_are = above_object (headers_of c.args.constructors.now) c.args.header.now.super_name c.in-Some.class c.in-Some.is same in
    subst (λ (items : List CInstr). IsFull c.args.pool.now (flat_map (item_needs constructor) items) reason) (sym items_are) (c.call_object.ensures.full reason constructor fails)

pub returns-else-eq-clause-full : goal.returns-else-eq-clause-full
returns-else-eq-clause-full c = λ reason constructor fails described.
    subst (λ (super : Option Name). IsFull c.args.pool.now (flat_map (item_needs constructor) (call_above (headers_of c.args.constructors.now) super)) reason) (sym c.in-Some.is)
    (c.call_constructor.ensures.full reason constructor fails described)

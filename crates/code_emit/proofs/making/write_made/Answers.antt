use Rattle.std.proofs.Common.{rules, sym, subst}
use Rattle.std.specs.Result.{IsErrOf}
use Rattle.class_tree.specs.Headers.{Classes}
use Rattle.code_emit.proofs.MadeLaws.{made_emits, made_full}
use Rattle.code_emit.proofs.making.write_made.Goals as goal
use Rattle.flow_code.specs.FlatCode.{FlatCode}
use Rattle.flow_code.specs.declared.reason.KeptFault.TheVariants.{Kept}
use Rattle.making_code.specs.IndexedMaking.{all_making_needs}
use Rattle.making_code.specs.MakeCode.{make_code}
use Rattle.materialise.specs.Growing.{IsFull}
use Rattle.materialise.specs.MadeCode.{DescribesConstructors, IsMakeCode}

pub returns-in_err-instrs-clause-full : goal.returns-in_err-instrs-clause-full
returns-in_err-instrs-clause-full c = λ reason is.
    let w = c.args.setting.now in
    let at = c.args.at in
    let state = c.args.state.now in
    let made = c.args.made.now in
    let pool = c.args.pool.now in
    let fails : IsErrOf c.write_make_code.result (Kept reason) = search rules in
    made_full w at state made pool reason
    (λ constructor order described is_order.
    subst (λ (flat : FlatCode). IsFull pool (all_making_needs constructor (make_code flat at state made order)) reason) c.units.ensures
    (c.write_make_code.ensures.full reason constructor order fails
    (subst (λ (classes : Classes). DescribesConstructors classes constructor) (sym c.constructors.ensures) described) is_order))

pub returns-clause-ok : goal.returns-clause-ok
returns-clause-ok c =
    let w = c.args.setting.now in
    let at = c.args.at in
    let state = c.args.state.now in
    let made = c.args.made.now in
    let old = c.args.pool.now in
    let new = c.write_make_code.new.pool in
    let instrs = c.in_ok-instrs.instrs in
    made_emits w at state made old new instrs c.args.kept.now c.put_instrs.new.kept
    (subst (λ (classes : Classes). IsMakeCode classes w.flat at state made old new instrs) c.constructors.ensures
    (subst (λ (flat : FlatCode). IsMakeCode c.constructors.result.now flat at state made old new instrs) c.units.ensures c.in_ok-instrs.ensures.ok))
    c.write_make_code.ensures.more c.in_ok-put_instrs.ensures

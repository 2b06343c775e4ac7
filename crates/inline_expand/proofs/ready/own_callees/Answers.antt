use Rattle.std.proofs.Common.{◌≡◌, ◌<◌, List, length, slice_get, refl, sym, ap, ◌∙◌, subst, arith}
use Rattle.std.proofs.lemmas.Option.{slice_get_read}
use Rattle.class_model.specs.declared.instr.Placed.{Placed}
use Rattle.inline_expand.proofs.OwnCallees.{calls_each, none_before, one_more_call, own_fails}
use Rattle.inline_expand.specs.Inner.ReadyCallees.{AddsOwn, CallsBefore}
use Rattle.inline_expand.proofs.ready.own_callees.Goals as goal

pub loop-number-init : goal.loop-number-init
loop-number-init c =
    subst (CallsBefore c.args.host.tree.now c.args.host.typed.now c.args.method.now 0) (sym c.new-callees.ensures.items)
    (none_before c.args.host.tree.now c.args.host.typed.now c.args.method.now)

pub loop-number-preserved : goal.loop-number-preserved
loop-number-preserved c =
    let instrs = c.instrs-instrs.result.now in
    let number = c.loop-number.number in
    let placed = c.index-instrs-number.result in
    let within : number < length instrs = omega (arith, c.loop-number-test.true) in
    let placed_is = slice_get_read instrs (length instrs) number placed refl within c.index-instrs-number.is in
    one_more_call c.args.host.tree.now c.args.host.typed.now c.args.method.now number c.loop-number.callees.items c.add_own_callee.new.callees.items placed
    (ap (λ (list : List Placed). slice_get list number) (sym c.instrs-instrs.ensures) ∙ placed_is)
    c.loop-number.invariant
    (subst (AddsOwn c.args.host.tree.now c.args.host.typed.now c.args.method.now placed.at c.loop-number.callees.items c.add_own_callee.new.callees.items) c.if-not-branch.false
    (subst (λ (p : Placed). AddsOwn c.args.host.tree.now c.args.host.typed.now c.args.method.now p.at c.loop-number.callees.items c.add_own_callee.new.callees.items c.in_ok-add_own_callee.field-0) (sym c.index-instrs-number.is) c.in_ok-add_own_callee.ensures))

pub returns-then-not-branch : goal.returns-then-not-branch
returns-then-not-branch c =
    let placed = c.index-instrs-number.result in
    own_fails c.args.host.tree.now c.args.host.typed.now c.args.method.now c.requires.stands placed.at
    (subst (AddsOwn c.args.host.tree.now c.args.host.typed.now c.args.method.now placed.at c.loop-number.callees.items c.add_own_callee.new.callees.items) c.if-not-branch.true
    (subst (λ (p : Placed). AddsOwn c.args.host.tree.now c.args.host.typed.now c.args.method.now p.at c.loop-number.callees.items c.add_own_callee.new.callees.items c.in_ok-add_own_callee.field-0) (sym c.index-instrs-number.is) c.in_ok-add_own_callee.ensures))

pub returns : goal.returns
returns c =
    let all : c.loop-number.number ≡ length c.instrs-instrs.result.now = omega (arith, c.loop-number-test.false, c.loop-number.auto.number-end) in
    calls_each c.args.host.tree.now c.args.host.typed.now c.args.method.now c.requires.stands c.loop-number.number c.loop-number.callees.items
    (all ∙ ap (λ (list : List Placed). length list) c.instrs-instrs.ensures) c.loop-number.invariant

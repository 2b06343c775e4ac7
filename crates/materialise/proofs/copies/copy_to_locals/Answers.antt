use Rattle.std.proofs.Common.{◌≡◌, ◌+◌, ◌<◌, ◌≤◌, ℕ, length, drop, slice_get, Some, None, option_map, sym, ap, subst, ◌∙◌, arith}
use Rattle.class_model.specs.Laws.Lists.{none_behind}
use Rattle.class_model.specs.declared.frame.Frame.{Frame}
use Rattle.flow_code.specs.FlatCode.{FlatCode, point_at}
use Rattle.flow_code.specs.declared.point.Point.{Point}
use Rattle.making_code.specs.MakeCode.{copy_locals_from, local_slots_in}
use Rattle.making_code.specs.Units.{own}
use Rattle.materialise.proofs.CodeLaws.{writes_all, writes_more}
use Rattle.materialise.proofs.CopyLaws.{IsTypedPoint, few_local_slots, locals_end, locals_there, slot_at, typed_point}
use Rattle.materialise.proofs.UnitLaws.{few_min}
use Rattle.materialise.proofs.copies.copy_to_locals.Goals as goal
use Rattle.materialise.specs.Inner.CodeWords.{copied}

pub returns-in_default-slot : goal.returns-in_default-slot
returns-in_default-slot c =
    let flat = c.args.units.now in
    let at = c.args.at in
    let state = c.args.state.now in
    let types = c.in-Some.types.now in
    let unit = c.loop-unit.unit in
    let typed : IsTypedPoint flat at types =
    typed_point flat at types (ap (λ (f : FlatCode). option_map (λ (point : Point). point.typed) (point_at f at)) (sym c.flat.ensures.flat) ∙ sym c.in-Some.ensures) in
    let less : unit < length types.locals = subst (λ (n : ℕ). unit < n) c.len-unit-end.ensures c.loop-unit-test.true in
    let none : slice_get (local_slots_in (point_at flat at) state) unit ≡ None = slot_at flat at state types unit typed less ∙ sym c.slot.ensures ∙ c.in_default-slot.is in
    writes_all flat c.args.instrs.now.items c.loop-unit.instrs.items (copy_locals_from c.args.sites.now 0 (local_slots_in (point_at flat at) state))
    (copy_locals_from c.args.sites.now unit (drop unit (local_slots_in (point_at flat at) state))) c.loop-unit.invariant
    (locals_end c.args.sites.now (local_slots_in (point_at flat at) state) unit (none_behind (local_slots_in (point_at flat at) state) unit none))

pub loop-unit-preserved : goal.loop-unit-preserved
loop-unit-preserved c =
    let flat = c.args.units.now in
    let at = c.args.at in
    let sites = c.args.sites.now in
    let state = c.args.state.now in
    let types = c.in-Some.types.now in
    let unit = c.loop-unit.unit in
    let slots = local_slots_in (point_at flat at) state in
    let typed : IsTypedPoint flat at types =
    typed_point flat at types (ap (λ (f : FlatCode). option_map (λ (point : Point). point.typed) (point_at f at)) (sym c.flat.ensures.flat) ∙ sym c.in-Some.ensures) in
    let less : unit < length types.locals = subst (λ (n : ℕ). unit < n) c.len-unit-end.ensures c.loop-unit-test.true in
    let there : slice_get slots unit ≡ Some c.in-Some-slot.slot = slot_at flat at state types unit typed less ∙ sym c.slot.ensures ∙ c.in-Some-slot.is in
    let most = subst (λ (frame : Frame). length frame.locals ≤ 65536) typed.typed (c.requires typed.point typed.there) in
    writes_more flat c.args.instrs.now.items c.loop-unit.instrs.items c.copy_slot.new.instrs.items (copy_locals_from sites 0 slots) (copied sites c.in-Some-slot.slot (own unit))
    (copy_locals_from sites (unit + 1) (drop (unit + 1) slots)) (copy_locals_from sites unit (drop unit slots)) c.loop-unit.invariant
    (locals_there sites slots unit c.in-Some-slot.slot there)
    (c.in_ok-copy_slot.ensures (own unit) (few_min unit (omega (arith, less, most))))

pub returns : goal.returns
returns c =
    let flat = c.args.units.now in
    let at = c.args.at in
    let state = c.args.state.now in
    let types = c.in-Some.types.now in
    let unit = c.loop-unit.unit in
    let typed : IsTypedPoint flat at types =
    typed_point flat at types (ap (λ (f : FlatCode). option_map (λ (point : Point). point.typed) (point_at f at)) (sym c.flat.ensures.flat) ∙ sym c.in-Some.ensures) in
    let end : length types.locals ≤ unit = subst (λ (n : ℕ). n ≤ unit) c.len-unit-end.ensures c.loop-unit-test.false in
    writes_all flat c.args.instrs.now.items c.loop-unit.instrs.items (copy_locals_from c.args.sites.now 0 (local_slots_in (point_at flat at) state))
    (copy_locals_from c.args.sites.now unit (drop unit (local_slots_in (point_at flat at) state))) c.loop-unit.invariant
    (locals_end c.args.sites.now (local_slots_in (point_at flat at) state) unit (few_local_slots flat at state types unit typed end))

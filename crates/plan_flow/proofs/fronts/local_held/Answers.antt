use Rattle.std.proofs.Common.{◌≡◌, ◌≢◌, ◌<◌, ◌≤◌, ℕ, Option, Some, slice_get, length, sym, ap, ◌∙◌, arith}
use Rattle.plan_flow.specs.Inner.Fronts.{locals_held}
use Rattle.plan_flow.specs.PlanSlots.{held}
use Rattle.plan_flow.proofs.LocalUnits.{held_there, other_there, past_held, stored_there}
use Rattle.virtual_state.specs.declared.slot.Slot.{Slot}
use Rattle.plan_flow.proofs.fronts.local_held.Goals as goal

pub returns-then-at-len : goal.returns-then-at-len
returns-then-at-len c =
    let test = c.if-at-len.true in
    let len = c.len.ensures in
    let past : length c.args.types.now.locals ≤ c.args.at = omega (arith, test, len) in
    sym (past_held c.args.state.now c.args.types.now c.args.stored c.args.at past)

pub returns-then-from-at : goal.returns-then-from-at
returns-then-from-at c =
    let state = c.args.state.now in
    let types = c.args.types.now in
    let test = c.if-at-len.false in
    let len = c.len.ensures in
    let low : c.args.at < length types.locals = omega (arith, test, len) in
    let here = c.if-from-at.true in
    let from = c.from.ensures in
    let same : c.in-Some.local ≡ c.args.at = omega (arith, here, from) in
    ap (λ (slot : Slot). Some slot) (c.held.ensures ∙ ap (held state) c.operand.ensures)
    ∙ sym (stored_there state types c.in-Some.local c.args.at low same)
    ∙ ap (λ (stored : Option ℕ). slice_get (locals_held state types stored) c.args.at) (sym c.in-Some.is)

pub returns-else-from-at : goal.returns-else-from-at
returns-else-from-at c =
    let state = c.args.state.now in
    let types = c.args.types.now in
    let test = c.if-at-len.false in
    let len = c.len.ensures in
    let low : c.args.at < length types.locals = omega (arith, test, len) in
    let other = c.if-from-at.false in
    let from = c.from.ensures in
    let differ : c.in-Some.local ≢ c.args.at = λ same. omega (arith, other, from, same) in
    ap (λ (slot : Slot). Some slot) c.held-else-from-at.ensures
    ∙ sym (other_there state types c.in-Some.local c.args.at low differ)
    ∙ ap (λ (stored : Option ℕ). slice_get (locals_held state types stored) c.args.at) (sym c.in-Some.is)

pub returns-in-None : goal.returns-in-None
returns-in-None c =
    let state = c.args.state.now in
    let types = c.args.types.now in
    let test = c.if-at-len.false in
    let len = c.len.ensures in
    let low : c.args.at < length types.locals = omega (arith, test, len) in
    ap (λ (slot : Slot). Some slot) c.held-in-None.ensures
    ∙ sym (held_there state types c.args.at low)
    ∙ ap (λ (stored : Option ℕ). slice_get (locals_held state types stored) c.args.at) (sym c.in-None.is)

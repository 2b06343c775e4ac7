use Rattle.std.proofs.Common.{◌≡◌, ◌≤◌, length, slice_get, Some, None, option_map, refl}
use Rattle.std.proofs.lemmas.Option.{slice_get_past, slice_get_read}
use Rattle.inline_expand.specs.Inner.Calls.{call_meant}
use Rattle.inline_expand.proofs.CalledMethods.{call_is}
use Rattle.inline_expand.proofs.calls.call_at.Goals as goal

pub returns-in-Some : goal.returns-in-Some
returns-in-Some c =
    let s = c.args.from.now in
    let instrs = c.instrs.result.now in
    let number = c.number-number.result in
    let found = c.in-Some.ensures.lookup in
    let read : slice_get instrs number ≡ Some c.in-Some.placed.now = slice_get_read instrs (length instrs) number c.in-Some.placed.now refl found.3.0 found.1 in
    call_is s c.args.at instrs number c.instrs.ensures c.number-number.ensures (Some c.in-Some.placed.now) read c.pool.result.now c.pool.ensures (option_map call_meant c.call_of.result) c.call_of.ensures

pub returns-in-None : goal.returns-in-None
returns-in-None c =
    let s = c.args.from.now in
    let instrs = c.instrs.result.now in
    let number = c.number-number.result in
    let past : length instrs ≤ number = c.in-None.ensures.lookup.3 in
    let none : slice_get instrs number ≡ None = slice_get_past instrs number past in
    call_is s c.args.at instrs number c.instrs.ensures c.number-number.ensures None none s.class.pool refl None refl

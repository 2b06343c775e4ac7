use Rattle.std.proofs.Common.{◌≡◌, List, ℕ, Option, Some, None, length, slice_get, option_map, refl, ap, sym, ◌∙◌}
use Rattle.std.proofs.lemmas.Option.{slice_get_past, slice_get_read}
use Rattle.std.specs.Option.{option_copied}
use Rattle.machine_code.specs.Prepared.{catches_around}
use Rattle.machine_code.specs.declared.prepared_method.PreparedHandler.{PreparedHandler}
use Rattle.machine_run.specs.Inner.ThrowTargets.{first_handler}
use Rattle.machine_run.proofs.Places.{by_catches, handler_by_offset}
use Rattle.machine_run.proofs.throw_targets.handler_of.Goals as goal

pub returns-in-Some : goal.returns-in-Some
returns-in-Some c = λ P at is prepared.
    let method = c.args.method.now in
    let shape = option_copied c.args.shape in
    let there : slice_get method.offsets.items c.args.place ≡ Some c.in-Some.offset.now =
    ap (λ (offsets : List ℕ). slice_get offsets c.args.place) (sym c.deref.ensures.value)
    ∙ slice_get_read c.deref.result.now (length c.deref.result.now) c.args.place c.in-Some.offset.now refl c.in-Some.ensures.lookup.3.0 c.in-Some.ensures.lookup.1
    in
    c.first_handler.ensures P is
    ∙ ap (λ (handlers : List PreparedHandler). first_handler P shape (catches_around handlers c.in-Some.offset.now)) c.as_slice.ensures.value
    ∙ ap (λ (offset : Option ℕ). by_catches P shape (option_map (catches_around method.handlers.items) offset)) (sym there)
    ∙ handler_by_offset P shape at method c.args.place prepared

pub returns-in-None : goal.returns-in-None
returns-in-None c = λ P at is prepared.
    let method = c.args.method.now in
    let shape = option_copied c.args.shape in
    let there : slice_get method.offsets.items c.args.place ≡ None =
    ap (λ (offsets : List ℕ). slice_get offsets c.args.place) (sym c.deref.ensures.value)
    ∙ slice_get_past c.deref.result.now c.args.place c.in-None.ensures.lookup.3
    in
    ap (λ (offset : Option ℕ). by_catches P shape (option_map (catches_around method.handlers.items) offset)) (sym there)
    ∙ handler_by_offset P shape at method c.args.place prepared

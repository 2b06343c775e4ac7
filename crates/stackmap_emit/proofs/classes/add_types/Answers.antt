use Rattle.std.proofs.Common.{rules, ◌≡◌, ◌+◌, drop, length, refl, slice_get, Some}
use Rattle.std.specs.List.{flat_map}
use Rattle.std.specs.Result.{IsErrOf}
use Rattle.std.proofs.lemmas.Option.{slice_get_read}
use Rattle.flow_code.specs.declared.reason.KeptFault.TheVariants.{Kept}
use Rattle.stackmap_emit.proofs.Adding.{adds_full, adds_next, needs_next}
use Rattle.stackmap_emit.proofs.classes.add_types.Goals as goal
use Rattle.stackmap_emit.specs.FrameConstants.{type_needs}

pub returns-in_err-add_type-clause-full : goal.returns-in_err-add_type-clause-full
returns-in_err-add_type-clause-full c = λ reason is.
    let types = c.args.types.now in
    let at = c.loop-entry.entry-index in
    let type = c.entry-item.result in
    let there : slice_get types at ≡ Some type = slice_get_read types (length types) at type refl c.loop-entry-test.true c.entry-item.is in
    let fails : IsErrOf c.add_type.result (Kept reason) = search rules in
    adds_full c.args.pool.now c.loop-entry.pool c.args.noted.now c.loop-entry.noted (flat_map type_needs types) (flat_map type_needs (drop at types))
    (type_needs type) (flat_map type_needs (drop (at + 1) types)) reason (needs_next type_needs types at type there) c.loop-entry.invariant
    (c.add_type.ensures.full reason fails)

pub loop-entry-preserved : goal.loop-entry-preserved
loop-entry-preserved c =
    let types = c.args.types.now in
    let at = c.loop-entry.entry-index in
    let type = c.entry-item.result in
    let there : slice_get types at ≡ Some type = slice_get_read types (length types) at type refl c.loop-entry-test.true c.entry-item.is in
    adds_next c.args.pool.now c.loop-entry.pool c.add_type.new.pool c.args.noted.now c.loop-entry.noted c.add_type.new.noted
    (flat_map type_needs types) (flat_map type_needs (drop at types)) (type_needs type) (flat_map type_needs (drop (at + 1) types))
    (needs_next type_needs types at type there) c.loop-entry.invariant c.in_ok-add_type.ensures.ok c.add_type.ensures.more

use Rattle.std.proofs.Common.{rules, List, subst, sym}
use Rattle.std.specs.List.{flat_map}
use Rattle.std.specs.Result.{IsErrOf}
use Rattle.class_model.specs.declared.frame.VType.{VType}
use Rattle.flow_code.specs.declared.reason.KeptFault.TheVariants.{Kept}
use Rattle.making_code.specs.Constants.{Need}
use Rattle.materialise.specs.Growing.{IsFull}
use Rattle.stackmap_emit.proofs.Adding.{adds_both, frame_parts}
use Rattle.materialise.specs.Laws.GrownEdits.{full_first, full_then}
use Rattle.stackmap_emit.proofs.classes.add_frame.Goals as goal
use Rattle.stackmap_emit.specs.FrameConstants.{type_needs}
use Rattle.stackmap_emit.specs.Inner.ClassIndices.{Adds}

pub returns-in_err-add_units-clause-full : goal.returns-in_err-add_units-clause-full
returns-in_err-add_units-clause-full c = λ reason is.
    let frame = c.args.placed.now.frame in
    let fails : IsErrOf c.add_units.result (Kept reason) = search rules in
    subst (λ (needs : List Need). IsFull c.args.pool.now needs reason) (sym (frame_parts frame))
    (full_first c.args.pool.now (flat_map type_needs frame.locals) (flat_map type_needs frame.stack) reason (c.add_units.ensures.full reason fails))

pub returns-in_err-add_types-clause-full : goal.returns-in_err-add_types-clause-full
returns-in_err-add_types-clause-full c = λ reason is.
    let frame = c.args.placed.now.frame in
    let fails : IsErrOf c.add_types.result (Kept reason) = search rules in
    let full : IsFull c.add_units.new.pool (flat_map type_needs frame.stack) reason =
    subst (λ (types : List VType). IsFull c.add_units.new.pool (flat_map type_needs types) reason) c.as_slice.ensures (c.add_types.ensures.full reason fails) in
    subst (λ (needs : List Need). IsFull c.args.pool.now needs reason) (sym (frame_parts frame))
    (full_then c.args.pool.now c.add_units.new.pool (flat_map type_needs frame.locals) (flat_map type_needs frame.stack) reason
    c.in_ok-add_units.ensures.ok.grows full)

pub returns-clause-ok : goal.returns-clause-ok
returns-clause-ok c =
    let frame = c.args.placed.now.frame in
    let adds : Adds c.add_units.new.pool c.add_units.new.noted (flat_map type_needs frame.stack) c.add_types.new.pool c.add_types.new.noted =
    subst (λ (types : List VType). Adds c.add_units.new.pool c.add_units.new.noted (flat_map type_needs types) c.add_types.new.pool c.add_types.new.noted)
    c.as_slice.ensures c.in_ok-add_types.ensures.ok in
    subst (λ (needs : List Need). Adds c.args.pool.now c.args.noted.now needs c.add_types.new.pool c.add_types.new.noted) (sym (frame_parts frame))
    (adds_both c.args.pool.now c.add_units.new.pool c.add_types.new.pool c.args.noted.now c.add_units.new.noted c.add_types.new.noted
    (flat_map type_needs frame.locals) (flat_map type_needs frame.stack) c.in_ok-add_units.ensures.ok adds)

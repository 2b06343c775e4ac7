use Rattle.std.proofs.Common.{rules, [], List, subst}
use Rattle.std.specs.List.{AllByRecursion}
use Rattle.std.specs.Result.{IsErrOf}
use Rattle.class_model.specs.Code.{stack_map_table}
use Rattle.class_model.specs.declared.frame.PlacedFrame.{PlacedFrame}
use Rattle.flow_code.specs.declared.reason.KeptFault.TheVariants.{Kept}
use Rattle.making_code.specs.Constants.{Need, needs_text}
use Rattle.materialise.specs.Growing.{IsFull}
use Rattle.materialise.specs.Laws.GrownEdits.{full_first, full_then}
use Rattle.stackmap_emit.proofs.Attributes.{attribute_grows, attribute_is, table_some}
use Rattle.stackmap_emit.proofs.attribute.some_attribute.Goals as goal
use Rattle.stackmap_emit.specs.FramesAttribute.{IsNamed, placed_needs}
use Rattle.stackmap_emit.specs.Inner.ClassIndices.{Adds}

pub returns-in_err-name-clause-full : goal.returns-in_err-name-clause-full
returns-in_err-name-clause-full c = λ reason is.
    let frames = c.args.frames.now in
    let fails : IsErrOf c.add_name.result (Kept reason) = search rules in
    subst (λ (needs : List Need). IsFull c.args.pool.now needs reason) (table_some frames c.requires.some)
    (full_first c.args.pool.now (needs_text stack_map_table) (placed_needs frames) reason (c.add_name.ensures.full reason fails))

pub returns-in_err-classes-clause-full : goal.returns-in_err-classes-clause-full
returns-in_err-classes-clause-full c = λ reason is.
    let frames = c.args.frames.now in
    let fails : IsErrOf c.add_frames.result (Kept reason) = search rules in
    let full : IsFull c.add_name.new.pool (placed_needs frames) reason =
    subst (λ (list : List PlacedFrame). IsFull c.add_name.new.pool (placed_needs list) reason) c.as_slice.ensures (c.add_frames.ensures.full reason fails) in
    subst (λ (needs : List Need). IsFull c.args.pool.now needs reason) (table_some frames c.requires.some)
    (full_then c.args.pool.now c.add_name.new.pool (needs_text stack_map_table) (placed_needs frames) reason c.in_ok-name.ensures.ok full)

pub frame_bytes-requires : goal.frame_bytes-requires
frame_bytes-requires c =
    let classes = c.in_ok-classes.classes in
    c.requires.written classes
    (subst (λ (list : List PlacedFrame). AllByRecursion (IsNamed classes) (placed_needs list)) c.as_slice.ensures c.in_ok-classes.ensures.ok.each)

pub returns-clause-attribute : goal.returns-clause-attribute
returns-clause-attribute c =
    let classes = c.in_ok-classes.classes in
    let adds : Adds c.add_name.new.pool [] (placed_needs c.args.frames.now) c.add_frames.new.pool classes =
    subst (λ (list : List PlacedFrame). Adds c.add_name.new.pool [] (placed_needs list) c.add_frames.new.pool classes) c.as_slice.ensures c.in_ok-classes.ensures.ok in
    attribute_is c.add_name.new.pool c.add_frames.new.pool c.args.entry.now c.args.frames.now classes c.in_ok-name.name c.in_ok-bytes.bytes c.requires.some
    c.in_ok-name.ensures.index adds c.in_ok-bytes.ensures.chosen c.in_ok-bytes.ensures.read

pub returns-clause-ok : goal.returns-clause-ok
returns-clause-ok c =
    let classes = c.in_ok-classes.classes in
    let adds : Adds c.add_name.new.pool [] (placed_needs c.args.frames.now) c.add_frames.new.pool classes =
    subst (λ (list : List PlacedFrame). Adds c.add_name.new.pool [] (placed_needs list) c.add_frames.new.pool classes) c.as_slice.ensures c.in_ok-classes.ensures.ok in
    attribute_grows c.args.pool.now c.add_name.new.pool c.add_frames.new.pool c.args.frames.now classes c.requires.some c.in_ok-name.ensures.ok adds

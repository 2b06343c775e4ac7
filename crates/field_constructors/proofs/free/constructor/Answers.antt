use Rattle.std.proofs.Common.{◌≡◌, sym, ap, ◌∙◌, arith}
use Rattle.field_constructors.proofs.FreeConstructors.{free_found, none_free, none_taken, one_taken}
use Rattle.field_constructors.specs.Inner.ConstructorWords.{descriptor_of, is_taken}
use Rattle.field_constructors.proofs.free.constructor.Goals as goal

pub loop-dimensions-init : goal.loop-dimensions-init
loop-dimensions-init c = none_taken c.args.class.now c.args.fields.now c.args.handles.now

pub loop-dimensions-preserved : goal.loop-dimensions-preserved
loop-dimensions-preserved c =
    let text : c.as_slice.result.now ≡ descriptor_of c.args.fields.now c.loop-dimensions.dimensions = c.as_slice.ensures.value ∙ c.in_ok-desc.ensures.same in
    one_taken c.args.class.now c.args.fields.now c.args.handles.now c.loop-dimensions.dimensions c.loop-dimensions.invariant
    (ap (is_taken c.args.class.now c.args.handles.now) (sym text) ∙ sym c.is_taken.ensures ∙ c.if-not-is_taken.false)

pub returns : goal.returns
returns c = none_free c.args.class.now c.args.fields.now c.args.handles.now c.loop-dimensions.dimensions (omega arith) c.loop-dimensions.invariant

pub returns-then-not-is_taken : goal.returns-then-not-is_taken
returns-then-not-is_taken c =
    let text : c.as_slice.result.now ≡ descriptor_of c.args.fields.now c.loop-dimensions.dimensions = c.as_slice.ensures.value ∙ c.in_ok-desc.ensures.same in
    let other : c.as_slice-then-not-is_taken.result.now ≡ descriptor_of c.args.fields.now c.loop-dimensions.dimensions = c.as_slice-then-not-is_taken.ensures.value ∙ c.in_ok-desc.ensures.same in
    free_found c.args.class.now c.args.fields.now c.args.handles.now c.loop-dimensions.dimensions _ c.fitting.result (omega arith) (omega arith) c.loop-dimensions.invariant
    (ap (is_taken c.args.class.now c.args.handles.now) (sym text) ∙ sym c.is_taken.ensures ∙ c.if-not-is_taken.true) other c.fitting.ensures

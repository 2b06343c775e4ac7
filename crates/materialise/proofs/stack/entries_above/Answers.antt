use Rattle.std.proofs.Common.{◌≡◌, ◌+◌, ◌≤◌, ℕ, List, ◌∷◌, length, drop, slice_get, Some, None, refl, sym, ap, subst, ◌∙◌, arith}
use Rattle.std.proofs.lemmas.Option.{slice_get_read}
use Rattle.class_model.specs.Descriptors.{units_of}
use Rattle.class_model.specs.Frames.{depth}
use Rattle.class_model.specs.declared.descriptor.Kind.{Kind}
use Rattle.class_model.specs.declared.frame.Frame.{Frame}
use Rattle.class_model.specs.declared.frame.VType.{VType}
use Rattle.making_code.specs.MakeCode.{Entry, entries_from, from_lowest, kind_of_type}
use Rattle.materialise.proofs.CopyLaws.{IsTypedPoint, entries_are, few_stack, typed_point}
use Rattle.materialise.proofs.DepthLaws.{no_more_entries}
use Rattle.materialise.proofs.StackLaws.{SoFar, behind_locals, so_far_all, so_far_first, so_far_more, so_far_none, sum_fits}
use Rattle.materialise.proofs.stack.entries_above.Goals as goal
use Rattle.materialise.specs.Inner.StackWords.{Gathers}
use Rattle.materialise.specs.declared.stack.StackEntry.{StackEntry}

pub loop-place-init : goal.loop-place-init
loop-place-init c =
    let stack = c.as_slice-vtype-items.result.now in
    let slots = drop c.len-locals.result c.args.state.now.slots in
    subst (λ (done : List StackEntry). SoFar c.args.sites.now stack slots done 0 0) (sym c.new-entries.ensures.items) (so_far_first c.args.sites.now stack slots)

pub returns-in_default-slot : goal.returns-in_default-slot
returns-in_default-slot c =
    let types = c.in-Some.types.now in
    let stack = c.as_slice-vtype-items.result.now in
    let slots = c.args.state.now.slots in
    let typed : IsTypedPoint c.args.flat.now c.args.at types = typed_point c.args.flat.now c.args.at types (sym c.in-Some.ensures) in
    let none : slice_get (drop c.len-locals.result slots) c.loop-place.place ≡ None = behind_locals slots c.len-locals.result c.loop-place.place ∙ sym c.slot.ensures ∙ c.in_default-slot.is in
    so_far_none c.args.sites.now stack (drop c.len-locals.result slots) c.loop-place.entries.items c.loop-place.place c.loop-place.below none c.loop-place.invariant
    ∙ ap (λ (list : List VType). from_lowest c.args.sites.now (entries_from 0 0 list (drop c.len-locals.result slots))) c.as_slice-vtype-items.ensures
    ∙ ap (λ (n : ℕ). from_lowest c.args.sites.now (entries_from 0 0 types.stack (drop n slots))) c.len-locals.ensures
    ∙ ap (from_lowest c.args.sites.now) (sym (entries_are c.args.flat.now c.args.at c.args.state.now types typed))

pub overflow_add-below : goal.overflow_add-below
overflow_add-below c =
    let types = c.in-Some.types.now in
    let stack = c.as_slice-vtype-items.result.now in
    let vtype = c.vtype-item.result in
    let typed : IsTypedPoint c.args.flat.now c.args.at types = typed_point c.args.flat.now c.args.at types (sym c.in-Some.ensures) in
    let there : slice_get stack c.loop-place.place ≡ Some vtype = slice_get_read stack (length stack) c.loop-place.place vtype refl c.loop-place-test.true c.vtype-item.is in
    let few : depth stack ≤ 65535 = subst (λ (list : List VType). depth list ≤ 65535) (sym c.as_slice-vtype-items.ensures) (few_stack c.args.flat.now c.args.at types typed c.requires.units) in
    let fits = sum_fits stack c.loop-place.place c.loop-place.below vtype there c.loop-place.invariant.sum_is in
    let units : c.units-below.result ≡ units_of (kind_of_type vtype) = c.units-below.ensures ∙ ap units_of c.kind_of_type-kind.ensures in
    omega (arith, few, fits, units)

pub loop-place-preserved : goal.loop-place-preserved
loop-place-preserved c =
    let stack = c.as_slice-vtype-items.result.now in
    let slots = c.args.state.now.slots in
    let vtype = c.vtype-item.result in
    let place = c.loop-place.place in
    let below = c.loop-place.below in
    let there : slice_get stack place ≡ Some vtype = slice_get_read stack (length stack) place vtype refl c.loop-place-test.true c.vtype-item.is in
    let held : slice_get (drop c.len-locals.result slots) place ≡ Some c.in-Some-slot.slot = behind_locals slots c.len-locals.result place ∙ sym c.slot.ensures ∙ c.in-Some-slot.is in
    let units : c.units-below.result ≡ units_of (kind_of_type vtype) = c.units-below.ensures ∙ ap units_of c.kind_of_type-kind.ensures in
    let gathers : (rest all : List Entry)
    → Gathers c.args.sites.now c.loop-place.entries.items (record { place = place; below = below; kind = kind_of_type vtype; slot = c.in-Some-slot.slot } ∷ rest) all
    → Gathers c.args.sites.now c.gather.new.entries.items rest all =
    subst (λ (kind : Kind). (rest all : List Entry)
    → Gathers c.args.sites.now c.loop-place.entries.items (record { place = place; below = below; kind = kind; slot = c.in-Some-slot.slot } ∷ rest) all
    → Gathers c.args.sites.now c.gather.new.entries.items rest all) c.kind_of_type-kind.ensures c.in_ok-gather.ensures in
    so_far_more c.args.sites.now stack (drop c.len-locals.result slots) c.loop-place.entries.items c.gather.new.entries.items place below (below + c.units-below.result) vtype c.in-Some-slot.slot
    there held (ap (λ (n : ℕ). below + n) units) gathers c.loop-place.invariant

pub returns : goal.returns
returns c =
    let types = c.in-Some.types.now in
    let stack = c.as_slice-vtype-items.result.now in
    let slots = c.args.state.now.slots in
    let typed : IsTypedPoint c.args.flat.now c.args.at types = typed_point c.args.flat.now c.args.at types (sym c.in-Some.ensures) in
    so_far_all c.args.sites.now stack (drop c.len-locals.result slots) c.loop-place.entries.items c.loop-place.place c.loop-place.below c.loop-place-test.false c.loop-place.invariant
    ∙ ap (λ (list : List VType). from_lowest c.args.sites.now (entries_from 0 0 list (drop c.len-locals.result slots))) c.as_slice-vtype-items.ensures
    ∙ ap (λ (n : ℕ). from_lowest c.args.sites.now (entries_from 0 0 types.stack (drop n slots))) c.len-locals.ensures
    ∙ ap (from_lowest c.args.sites.now) (sym (entries_are c.args.flat.now c.args.at c.args.state.now types typed))

pub overflow_add-locals : goal.overflow_add-locals
overflow_add-locals c =
    let types = c.in-Some.types.now in
    let stack = c.as_slice-vtype-items.result.now in
    let typed : IsTypedPoint c.args.flat.now c.args.at types = typed_point c.args.flat.now c.args.at types (sym c.in-Some.ensures) in
    let few : depth stack ≤ 65535 = subst (λ (list : List VType). depth list ≤ 65535) (sym c.as_slice-vtype-items.ensures) (few_stack c.args.flat.now c.args.at types typed c.requires.units) in
    let entries = no_more_entries stack in
    let place = c.loop-place-test.true in
    let locals = c.len-locals.ensures in
    let most = subst (λ (frame : Frame). length frame.locals ≤ 65536) typed.typed (c.requires.locals typed.point typed.there) in
    omega (arith, few, entries, place, locals, most)

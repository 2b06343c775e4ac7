use Rattle.std.proofs.Common.{◌≡◌, ℤ, w32, slice_get, Some, sym, ap, subst, ◌∙◌, rules}
use Rattle.std.proofs.Math.Facts.{to_z-of_z}
use Rattle.machine_values.specs.Heaps.{object_at}
use Rattle.member_link.specs.Machine.Acting.{act_array_set, given_value, known_object, set_of_shape}
use Rattle.member_link.specs.Machine.Worlds.{World, going}
use Rattle.machine_run.specs.Inner.ArrayWords.{with_written}
use Rattle.machine_run.proofs.Written.{put_found}
use Rattle.machine_run.proofs.acting.arrays.find_written.Goals as goal

pub returns : goal.returns
returns c = λ P program.
    let inside = c.w.inside in
    let world : World =
    record { frames = inside.frames; memory = inside.memory; known = inside.known; events = inside.events; steps = inside.steps; halt = going }
    in
    let r = c.in_ok-reference.reference in
    let object = c.in_ok-object.object.now in
    let value = c.in_ok-value.value in
    let known : slice_get inside.known c.args.at ≡ Some r = search rules in
    let found : object_at inside.memory.heap r ≡ Some object = search rules in
    let given : given_value inside.known c.args.value ≡ Some value = search rules in
    subst (λ (w : World). act_array_set P w (slice_get w.known c.args.at) (known_object w (slice_get w.known c.args.at)) c.args.index (given_value w.known c.args.value) ≡ with_written w c.written_in.result)
    c.w.view_is
    (put_found P world r (slice_get inside.known c.args.at) object (given_value inside.known c.args.value) value c.args.index known found given
    ∙ ap (λ (i : ℤ). set_of_shape P world r i value object.shape) (sym (to_z-of_z {w = w32} {z = c.args.index} c.ranges.index))
    ∙ c.written_in.ensures P world program (sym c.heap-heap.ensures))

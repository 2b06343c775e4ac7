use Rattle.std.proofs.Common.{◌≡◌, Option, None, sym, ap, ◌∙◌}
use Rattle.std.specs.Option.{option_copied}
use Rattle.machine_values.specs.Heaps.{Heap}
use Rattle.machine_values.specs.declared.object.Shape.{Shape}
use Rattle.member_link.specs.Machine.Worlds.{World}
use Rattle.machine_run.specs.Inner.ThrowTargets.{shape_at, target_in}
use Rattle.machine_run.proofs.Throws.{landed_nowhere}
use Rattle.machine_run.proofs.unwinding.throw.Goals as goal

pub returns-in-None-clause-thrown : goal.returns-in-None-clause-thrown
returns-in-None-clause-thrown c = λ P program.
    let w = c.args.w.now in
    let at = c.args.at in
    let shape : option_copied c.shape_of-shape.result ≡ shape_at w.memory.heap at =
    c.shape_of-shape.ensures
    ∙ ap (λ (heap : Heap). shape_at heap at) (c.heap.ensures ∙ ap (λ (v : World). v.memory.heap) c.w.view_is)
    in
    let none : target_in P (shape_at w.memory.heap at) w.frames ≡ None =
    sym (ap (λ (s : Option Shape). target_in P s w.frames) shape)
    ∙ sym (ap (λ (v : World). target_in P (option_copied c.shape_of-shape.result) v.frames) c.w.view_is)
    ∙ sym (c.in_ok-target.ensures.target P program)
    ∙ c.in-None.is
    in
    landed_nowhere P w at w.memory none

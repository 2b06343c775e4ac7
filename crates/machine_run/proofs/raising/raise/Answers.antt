use Rattle.std.proofs.Common.{◌≡◌, Option, [], None, Some, option_map, sym, ap, ◌∙◌}
use Rattle.class_tree.specs.Headers.{Name}
use Rattle.machine_heap.specs.Laws.Heaps.{made_object}
use Rattle.machine_values.specs.Heaps.{external}
use Rattle.machine_values.specs.declared.object.Object.{Object}
use Rattle.machine_values.specs.declared.object.Shape.{Shape}
use Rattle.machine_values.specs.declared.object.Shape.TheVariants.{External}
use Rattle.member_link.specs.Machine.Worlds.{World, with_heap}
use Rattle.member_link.specs.RunOps.{throwable_name}
use Rattle.machine_run.specs.Inner.ThrowTargets.{shape_at, target_in}
use Rattle.machine_run.proofs.Throws.{landed_nowhere}
use Rattle.machine_run.proofs.raising.raise.Goals as goal

pub returns-in-None-clause-raised : goal.returns-in-None-clause-raised
returns-in-None-clause-raised c = λ P program.
    let w = c.args.w.now in
    let name = throwable_name c.args.throwable in
    let made = external w.memory.heap name in
    let shape : External c.in_ok-name_of.field-0 c.new.result ≡ External name [] =
    ap (λ (n : Name). External n c.new.result) c.in_ok-name_of.ensures ∙ ap (External name) c.new.ensures
    in
    let none : target_in P (shape_at made.heap made.reference) w.frames ≡ None =
    ap (λ (o : Option Object). target_in P (option_map (λ (object : Object). object.shape) o) w.frames) (made_object w.memory.heap (External name []) [])
    ∙ sym (ap (λ (s : Shape). target_in P (Some s) w.frames) shape)
    ∙ sym (ap (λ (v : World). target_in P (Some (External c.in_ok-name_of.field-0 c.new.result)) v.frames) c.w.view_is)
    ∙ sym (c.in_ok-target.ensures.target P program)
    ∙ c.in-None.is
    in
    landed_nowhere P w made.reference (with_heap w.memory made.heap) none

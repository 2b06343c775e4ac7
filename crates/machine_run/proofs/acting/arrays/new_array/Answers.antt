use Rattle.std.proofs.Common.{ℕ, w32, sym, ap, ◌∙◌}
use Rattle.std.proofs.Math.Facts.{to_z-of_z}
use Rattle.member_link.specs.Machine.Acting.{act_new_array, shows_new}
use Rattle.member_link.specs.Machine.ArraySteps.{blank_array}
use Rattle.member_link.specs.Machine.Showing.{shows_made}
use Rattle.member_link.specs.Machine.Worlds.{Memory, World, going, with_heap}
use Rattle.machine_run.proofs.Going.{goes_on}
use Rattle.machine_run.proofs.acting.arrays.new_array.Goals as goal

pub returns-in_ok-show_made-in-Some-clause-acted : goal.returns-in_ok-show_made-in-Some-clause-acted
returns-in_ok-show_made-in-Some-clause-acted c = λ P program.
    let inside = c.w.inside in
    let world : Memory → World =
    λ memory. record { frames = inside.frames; memory = memory; known = inside.known; events = inside.events; steps = inside.steps; halt = going }
    in
    let desc = c.args.desc.now in
    let count = c.in-Some.count in
    let made = blank_array inside.memory.heap desc count in
    goes_on c.show_made.new.world c.a_state_goes_on.ensures
    ∙ c.in_ok-show_made-in-Some.ensures P program
    ∙ ap (λ (memory : Memory). shows_made P (world memory) c.in_ok-at-in-Some.at) c.in_ok-at-in-Some.ensures.memory
    ∙ ap (λ (at : ℕ). shows_made P (world (with_heap inside.memory made.heap)) at) c.in_ok-at-in-Some.ensures.reference
    ∙ ap (λ (w : World). shows_new P w (blank_array w.memory.heap desc count)) c.w.view_is
    ∙ sym (c.in-Some.ensures.count P c.args.w.now)
    ∙ ap (act_new_array P c.args.w.now desc) (to_z-of_z {w = w32} {z = c.args.length} c.ranges.length)

pub returns-in-None-clause-acted : goal.returns-in-None-clause-acted
returns-in-None-clause-acted c = λ P program.
    sym (c.in-None.ensures.count P c.args.w.now)
    ∙ ap (act_new_array P c.args.w.now c.args.desc.now) (to_z-of_z {w = w32} {z = c.args.length} c.ranges.length)

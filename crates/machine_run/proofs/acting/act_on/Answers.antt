use Rattle.std.proofs.Common.{◌≡◌, ◌+◌, true, refl, sym, ap, subst, ◌∙◌}
use Rattle.class_tree.specs.Headers.{Classes}
use Rattle.member_link.specs.Machine.Acting.{act, acted, is_fault}
use Rattle.member_link.specs.Machine.Programs.{Program}
use Rattle.member_link.specs.Machine.Worlds.{World}
use Rattle.machine_step.specs.Bounded.{IsBoundedWorld}
use Rattle.member_link.specs.TreePrograms.{IsProgram}
use Rattle.machine_step.specs.declared.world.Acted.{Acted}
use Rattle.machine_step.specs.declared.world.Acted.TheVariants as answers
use Rattle.machine_run.specs.Outcomes.{ended, halt_behind}
use Rattle.machine_run.proofs.ActedWorlds.{act_of, bounded_of, fault_of}
use Rattle.machine_run.proofs.acting.act_on.Goals as goal

is_a_fault : (a : Acted) → is_fault (halt_behind a) ≡ true → a ≡ answers.Fault
is_a_fault answers.Done is = absurd cc
is_a_fault answers.Stopped is = absurd cc
is_a_fault answers.InitThrew is = absurd cc
is_a_fault answers.Fault is = refl
is_a_fault answers.Stuck is = absurd cc

pub returns-then-is_fault-clause-acted : goal.returns-then-is_fault-clause-acted
returns-then-is_fault-clause-acted c = λ P program.
    let a = c.args.action.now in
    let h = halt_behind c.in_ok-acted.acted in
    let is = sym c.is_fault.ensures ∙ c.if-is_fault.true in
    let same = c.in_ok-acted.ensures.acted P program ∙ ap (λ (v : World). acted P a (record v { steps = v.steps + 1 })) c.w.view_is in
    ap (λ (v : World). ended h (record v { steps = c.w.inside.steps })) (c.w-2.view_is ∙ c.in_ok-acted.ensures.fault (is_a_fault c.in_ok-acted.acted is))
    ∙ ap (ended h) c.w.view_is
    ∙ fault_of P a c.args.w.now c.take_action.new.w h same is

pub returns-then-is_fault-clause-bounded : goal.returns-then-is_fault-clause-bounded
returns-then-is_fault-clause-bounded c =
    let P : Program = c.a_tree_has_a_program.ensures.0 in
    let program : IsProgram c.args.prepared.now P = subst (λ (classes : Classes). IsProgram classes P) c.tree.ensures c.a_tree_has_a_program.ensures.1 in
    let a = c.args.action.now in
    let w = c.args.w.now in
    let is = sym c.is_fault.ensures ∙ c.if-is_fault.true in
    let back = ap (λ (v : World). record v { steps = c.w.inside.steps }) (c.w-2.view_is ∙ c.in_ok-acted.ensures.fault (is_a_fault c.in_ok-acted.acted is)) ∙ c.w.view_is in
    subst IsBoundedWorld (sym back) c.requires.bounded

pub returns-else-is_fault-clause-acted : goal.returns-else-is_fault-clause-acted
returns-else-is_fault-clause-acted c = λ P program.
    let a = c.args.action.now in
    let same = c.in_ok-acted.ensures.acted P program ∙ ap (λ (v : World). acted P a (record v { steps = v.steps + 1 })) c.w.view_is in
    act_of P a c.args.w.now c.take_action.new.w (halt_behind c.in_ok-acted.acted) same (sym c.is_fault.ensures ∙ c.if-is_fault.false)

pub returns-else-is_fault-clause-bounded : goal.returns-else-is_fault-clause-bounded
returns-else-is_fault-clause-bounded c =
    let P : Program = c.a_tree_has_a_program.ensures.0 in
    let program : IsProgram c.args.prepared.now P = subst (λ (classes : Classes). IsProgram classes P) c.tree.ensures c.a_tree_has_a_program.ensures.1 in
    let a = c.args.action.now in
    let w = c.args.w.now in
    let same = c.in_ok-acted.ensures.acted P program ∙ ap (λ (v : World). acted P a (record v { steps = v.steps + 1 })) c.w.view_is in
    bounded_of c.take_action.new.w (act P a w) (halt_behind c.in_ok-acted.acted)
    (act_of P a w c.take_action.new.w (halt_behind c.in_ok-acted.acted) same (sym c.is_fault.ensures ∙ c.if-is_fault.false))
    (record {
      counts = c.an_action_keeps_counts_within_bounds.ensures P a w c.requires.bounded.counts;
      places = c.an_action_keeps_next_places.ensures P a w c.requires.turn c.requires.bounded.places;
    })

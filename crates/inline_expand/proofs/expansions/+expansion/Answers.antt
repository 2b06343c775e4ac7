use Rattle.std.proofs.Common.{◌≡◌, ◌<◌, List, ◌∷◌, Some, length, slice_get, refl, sym, ap, ◌∙◌, subst, arith}
use Rattle.std.proofs.lemmas.Option.{slice_get_read}
use Rattle.class_model.specs.declared.instr.Placed.{Placed}
use Rattle.inline_expand.proofs.GrownSteps.{callee_of_body, grown_by_body, grown_on, other_line, pushed_last, so_far_counted, so_far_expands, so_far_fails, so_far_more, so_far_none, step_of_body, whole_of_body}
use Rattle.inline_expand.specs.Inner.Growths.{AreStepsFound, IsStepFound}
use Rattle.inline_expand.specs.Inner.Places.{chain_of, host_of}
use Rattle.inline_expand.specs.Inner.Replacements.{IsReplacementFound}
use Rattle.inline_expand.specs.Inner.Steps.{callees_of, expansion_by}
use Rattle.inline_expand.specs.declared.expansions.Body.{Body}
use Rattle.inline_expand.specs.declared.expansions.Growth.{Growth}
use Rattle.member_link.specs.Scope.{instructions}
use Rattle.inline_expand.proofs.expansions.+expansion.Goals as goal

-- ---- the steps of a method

pub steps_of-loop-number-init : goal.steps_of-loop-number-init
steps_of-loop-number-init t c = record {
  far = so_far_none c.args.place.class.tree.now c.args.place.class.typed.now (host_of c.args.place.line.now) (chain_of c.args.place.line.now) c.args.method.now.at (instructions c.args.method.now.host)
      (callees_of c.args.growth.now.bodies.items) c.new-steps.result c.args.growth.now.left c.new-steps.ensures;
  grown = record {
    grown = record { right = c.in_ok-sites.ensures.right; whole = c.requires.growth.whole };
    same = λ number callee got. got;
  };
  classes = c.in_ok-sites.ensures.classes;
}

pub steps_of-loop-number-preserved : goal.steps_of-loop-number-preserved
steps_of-loop-number-preserved t c =
    let instrs = c.instrs-instrs.result.now in
    let number = c.loop-number.number in
    let placed = c.index-instrs-number.result in
    let within : number < length instrs = omega (arith, c.loop-number-test.true) in
    let placed_is = slice_get_read instrs (length instrs) number placed refl within c.index-instrs-number.is in
    record {
      far = so_far_more c.args.place.class.tree.now c.args.place.class.typed.now (host_of c.args.place.line.now) (chain_of c.args.place.line.now) c.args.method.now.at (instructions c.args.method.now.host) (λ s at one other calls also. c.a_call_runs_one_method.ensures c.args.place.class.tree.now s at one other c.a_tree_is_a_hierarchy.ensures calls also)
          number (callees_of c.loop-number.growth.bodies.items) (callees_of c.step_at.new.growth.bodies.items) c.loop-number.steps c.push.new.self placed c.in-Some.step
          c.args.growth.now.left c.loop-number.growth.left c.step_at.new.growth.left c.loop-number.invariant.far
          (ap (λ (list : List Placed). slice_get list number) (sym c.instrs-instrs.ensures) ∙ placed_is)
          c.in_ok-found.ensures.growth.same
          (subst (IsStepFound c.args.place.class.tree.now c.args.place.class.typed.now (host_of c.args.place.line.now) (chain_of c.args.place.line.now) c.args.method.now.at placed c.loop-number.growth c.step_at.new.growth) c.in-Some.is c.in_ok-found.ensures.step)
          c.in_ok-push.ensures.ok;
      grown = grown_on c.args.place.class c.args.growth.now c.loop-number.growth c.step_at.new.growth c.loop-number.invariant.grown c.in_ok-found.ensures.growth;
      classes = c.in_ok-found.ensures.classes ∙ c.loop-number.invariant.classes;
    }

pub steps_of-returns-in_default-clause-steps : goal.steps_of-returns-in_default-clause-steps
steps_of-returns-in_default-clause-steps t c =
    let instrs = c.instrs-instrs.result.now in
    let number = c.loop-number.number in
    let placed = c.index-instrs-number.result in
    let within : number < length instrs = omega (arith, c.loop-number-test.true) in
    let placed_is = slice_get_read instrs (length instrs) number placed refl within c.index-instrs-number.is in
    so_far_fails c.args.place.class.tree.now c.args.place.class.typed.now (host_of c.args.place.line.now) (chain_of c.args.place.line.now) c.args.method.now.at (instructions c.args.method.now.host)
    number (callees_of c.loop-number.growth.bodies.items) c.loop-number.steps placed c.args.growth.now.left c.loop-number.growth.left c.loop-number.invariant.far
    (ap (λ (list : List Placed). slice_get list number) (sym c.instrs-instrs.ensures) ∙ placed_is)
    (subst (IsStepFound c.args.place.class.tree.now c.args.place.class.typed.now (host_of c.args.place.line.now) (chain_of c.args.place.line.now) c.args.method.now.at placed c.loop-number.growth c.step_at.new.growth) c.in_default.is c.in_ok-found.ensures.step)

pub steps_of-returns-clause-steps : goal.steps_of-returns-clause-steps
steps_of-returns-clause-steps t c =
    let all : c.loop-number.number ≡ length c.instrs-instrs.result.now = omega (arith, c.loop-number-test.false, c.loop-number.auto.number-end) in
    let end = all ∙ ap (λ (list : List Placed). length list) c.instrs-instrs.ensures in
    let far = c.loop-number.invariant.far in
    record {
      long = far.long ∙ end;
      expands = so_far_expands c.args.place.class.tree.now c.args.place.class.typed.now (host_of c.args.place.line.now) (chain_of c.args.place.line.now) c.args.method.now.at (instructions c.args.method.now.host) c.loop-number.number (callees_of c.loop-number.growth.bodies.items) c.loop-number.steps c.args.growth.now.left c.loop-number.growth.left far end;
      counted = so_far_counted c.args.place.class.tree.now c.args.place.class.typed.now (host_of c.args.place.line.now) (chain_of c.args.place.line.now) c.args.method.now.at (instructions c.args.method.now.host) c.loop-number.number (callees_of c.loop-number.growth.bodies.items) c.loop-number.steps c.args.growth.now.left c.loop-number.growth.left far end;
    }

-- ---- one step

pub step_at-returns-in-Some-clause-step : goal.step_at-returns-in-Some-clause-step
step_at-returns-in-Some-clause-step t c =
    let is = subst (IsReplacementFound c.args.place.class.tree.now c.args.place.class.typed.now (host_of c.args.place.line.now) (chain_of c.args.place.line.now) c.args.method.now.at c.args.placed.now.at) c.in-Some.is c.in_ok-found.ensures.callee in
    step_of_body c.args.place.class.tree.now c.args.place.class.typed.now (host_of c.args.place.line.now) (chain_of c.args.place.line.now) c.args.method.now.at c.args.placed.now (λ s at one other calls also. c.a_call_runs_one_method.ensures c.args.place.class.tree.now s at one other c.a_tree_is_a_hierarchy.ensures calls also)
    c.in-Some.callee is c.args.growth.now c.replace.new.growth c.in_ok-step.step c.in_ok-step.ensures.step

-- ---- a callee

pub replace-returns-clause-step : goal.replace-returns-clause-step
replace-returns-clause-step t c =
    let steps = c.in-Some.steps in
    let callees = callees_of c.steps_of.new.growth.bodies.items in
    let line = c.as_slice.ensures.value ∙ c.in_ok-line.ensures in
    let found = other_line c.args.place.class.tree.now c.args.place.class.typed.now c.as_slice.result.now (host_of c.args.place.line.now) (c.args.callee.at ∷ chain_of c.args.place.line.now)
    c.args.callee c.args.growth.now c.steps_of.new.growth (Some steps) line
    (subst (AreStepsFound c.args.place.class.tree.now c.args.place.class.typed.now (host_of c.as_slice.result.now) (chain_of c.as_slice.result.now) c.args.callee c.args.growth.now c.steps_of.new.growth) c.in-Some.is c.in_ok-steps.ensures.steps) in (
      expansion_by callees steps,
      pushed_last c.steps_of.new.growth.bodies.items c.push.new.self.items c.body_of.result (length c.as_slice-number.result.now) c.in_ok-push.ensures.items (ap (λ (list : List Body). length list) c.as_slice-number.ensures.value)
          ∙ ap Some (callee_of_body callees c.body_of.result c.args.callee steps c.body_of.ensures.at c.body_of.ensures.host c.body_of.ensures.frames c.body_of.ensures.steps),
      record { frames = c.requires.callee; expands = found.expands; counted = found.counted },
    )

pub replace-returns-clause-growth : goal.replace-returns-clause-growth
replace-returns-clause-growth t c =
    let steps = c.in-Some.steps in
    let found = subst (AreStepsFound c.args.place.class.tree.now c.args.place.class.typed.now (host_of c.as_slice.result.now) (chain_of c.as_slice.result.now) c.args.callee c.args.growth.now c.steps_of.new.growth) c.in-Some.is c.in_ok-steps.ensures.steps in
    let last : Growth = record { verdicts = c.steps_of.new.growth.verdicts; bodies = c.push.new.self; left = c.steps_of.new.growth.left } in
    grown_on c.args.place.class c.args.growth.now c.steps_of.new.growth last c.in_ok-steps.ensures.growth
    (grown_by_body c.args.place.class c.steps_of.new.growth last c.body_of.result c.in_ok-steps.ensures.growth.grown
    (whole_of_body c.args.place.class.tree.now c.args.place.class.typed.now c.body_of.result c.args.callee steps c.body_of.ensures.at c.body_of.ensures.host c.body_of.ensures.frames c.body_of.ensures.steps c.requires.callee found.long)
    c.in_ok-push.ensures.items c.in_ok-steps.ensures.growth.grown.right)

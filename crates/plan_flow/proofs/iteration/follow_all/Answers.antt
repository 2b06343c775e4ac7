use Rattle.std.proofs.Common.{◌≡◌, ◌||◌, ◌+◌, ◌<◌, ℕ, suc, Bool, true, take, length, Some, sym, ap, subst, ◌∙◌, arith, rules}
use Rattle.std.proofs.lemmas.Bool.{or_right}
use Rattle.std.proofs.lemmas.Option.{slice_get-get_or}
use Rattle.plan_flow.specs.Inner.Blocks.{AreFollowedBy}
use Rattle.plan_flow.proofs.Following.{or_false}
use Rattle.plan_flow.proofs.HeadSteps.{more_followed, next_started, start_followed}
use Rattle.plan_flow.proofs.iteration.follow_all.Goals.{then-branch, else-branch}
use Rattle.plan_flow.proofs.iteration.follow_all.Goals as goal

pub loop-edge-init : goal.loop-edge-init
loop-edge-init c = λ all started.
    start_followed c.args.tree.now c.args.flat.now c.args.states.now all c.args.work.now c.args.edges.now started

pub follow-requires : goal.follow-requires
follow-requires c =
    let edge = c.in-Some.edge.now in
    let inside : c.loop-edge.number < length c.args.edges.now = search rules in
    let is = slice_get-get_or c.args.edges.now c.loop-edge.number edge inside ∙ ap Some (sym c.in-Some.ensures.lookup.1) in
    let before = c.requires.start.states in
    let followed = c.loop-edge.invariant before c.requires.start.started in
    record {
      start = record {
        states = followed.more;
        started =
            next_started c.args.tree.now c.args.flat.now c.args.states.now c.loop-edge.states before c.args.work.now c.loop-edge.work
            c.args.edges.now (take c.loop-edge.number c.args.edges.now) c.loop-edge.new c.loop-edge.number edge c.requires.start.started followed is;
      };
    }

pub loop-edge-preserved : goal.loop-edge-preserved
loop-edge-preserved c = λ all started.
    let tree = c.args.tree.now in
    let flat = c.args.flat.now in
    let edges = c.args.edges.now in
    let edge = c.in-Some.edge.now in
    let new = c.loop-edge.new in
    let also = c.in_ok-follow.field-0 in
    let inside : c.loop-edge.number < length edges = search rules in
    let is = slice_get-get_or edges c.loop-edge.number edge inside ∙ ap Some (sym c.in-Some.ensures.lookup.1) in
    let next : suc c.loop-edge.number ≡ c.loop-edge.number + 1 = omega arith in
    let low = c.loop-edge.invariant all started in
    let here = next_started tree flat c.args.states.now c.loop-edge.states all c.args.work.now c.loop-edge.work edges
    (take c.loop-edge.number edges) new c.loop-edge.number edge started low is in
    let more = more_followed tree flat c.args.states.now c.loop-edge.states c.follow.new.states all c.args.work.now c.loop-edge.work
    c.follow.new.work edges new also c.loop-edge.number edge low (c.in_ok-follow.ensures low.more here) is in
    let made = subst (λ (number : ℕ). AreFollowedBy tree flat c.args.states.now c.follow.new.states all c.args.work.now c.follow.new.work
    (take number edges) (new || also)) next more in
    let same : (new || also) ≡ c.if-branch.new =
    elim c.if-branch.branch [
      | then-branch w ↦
          let is_new : c.if-branch.new ≡ true = search rules in
          or_right new also w.if-branch.true ∙ sym is_new
      | else-branch w ↦
          let is_new : c.if-branch.new ≡ new = search rules in
          ap (λ (b : Bool). new || b) w.if-branch.false ∙ or_false new ∙ sym is_new
    ] in
    subst (AreFollowedBy tree flat c.args.states.now c.follow.new.states all c.args.work.now c.follow.new.work
    (take (c.loop-edge.number + 1) edges)) same made

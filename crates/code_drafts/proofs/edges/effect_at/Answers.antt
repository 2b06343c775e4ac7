use Rattle.std.proofs.Common.{[], sym, subst}
use Rattle.class_tree.specs.Headers.{headers_of}
use Rattle.code_drafts.proofs.edges.effect_at.Goals as goal
use Rattle.code_drafts.specs.Emits.{Writing}
use Rattle.member_link.specs.Machine.Links.{AreLinksOf}
use Rattle.plan_flow.specs.Must.{IsMust}
use Rattle.plan_flow.specs.PlanScope.{scope_of}
use Rattle.virtual_state.specs.States.{State}

pub effect-requires-clause-asks_none : goal.effect-requires-clause-asks_none
effect-requires-clause-asks_none c = λ links is_links.
    let w = c.args.setting.now in
    let are = subst (λ (w : Writing). AreLinksOf (headers_of w.classes) links) c.setting.view_is is_links in
    let left = c.requires.state in
    let none = ((c.requires.can.valid links are).each c.args.at left.point left.reached).asks_none in
    subst (λ (w : Writing). IsMust (scope_of w.classes links w.flat) c.args.at c.args.state.now []) (sym c.setting.view_is)
    (subst (λ (state : State). IsMust (scope_of w.classes links w.flat) c.args.at state []) (sym left.left) none)

use Rattle.std.proofs.Common.{ℕ, List, [], sym, subst}
use Rattle.making_code.specs.MakeOrder.{ComesNext, left_of}
use Rattle.making_code.specs.Laws.MakeOrders.{fewer_left, none_left}
use Rattle.materialise.proofs.OrderLaws.{Ordered, ordered_all, ordered_first, ordered_more}
use Rattle.materialise.specs.Inner.OrderWords.{IsNext}
use Rattle.materialise.proofs.ordering.make_order.Goals as goal

pub loop-site-init : goal.loop-site-init
loop-site-init c =
    let objects = c.args.state.now.objects in
    let sites = c.args.sites.now in
    subst (λ (made : List ℕ). Ordered objects sites made c.new-order.result) (sym c.new-made.ensures)
    (subst (λ (order : List ℕ). Ordered objects sites [] order) (sym c.new-order.ensures) (ordered_first objects sites))

pub loop-site-smaller : goal.loop-site-smaller
loop-site-smaller c =
    let next : ComesNext c.args.state.now.objects (left_of c.args.sites.now c.loop-site.made) c.in-Some.site =
    subst (IsNext c.args.state.now.objects (left_of c.args.sites.now c.loop-site.made)) c.in-Some.is c.next_site.ensures in
    fewer_left c.args.sites.now c.loop-site.made c.add.new.self c.in-Some.site c.in_ok-add.ensures.ok next.left_over

pub loop-site-preserved : goal.loop-site-preserved
loop-site-preserved c =
    let next : ComesNext c.args.state.now.objects (left_of c.args.sites.now c.loop-site.made) c.in-Some.site =
    subst (IsNext c.args.state.now.objects (left_of c.args.sites.now c.loop-site.made)) c.in-Some.is c.next_site.ensures in
    ordered_more c.args.state.now.objects c.args.sites.now c.loop-site.made c.add.new.self c.loop-site.order c.push.new.self c.in-Some.site
    c.in_ok-add.ensures.ok c.in_ok-push.ensures.ok next c.loop-site.invariant

pub returns : goal.returns
returns c =
    let objects = c.args.state.now.objects in
    let left = left_of c.args.sites.now c.loop-site.made in
    ordered_all objects c.args.sites.now c.loop-site.made c.loop-site.order
    (none_left objects left c.is_state.ensures.acyclic (subst (IsNext objects left) c.in_default.is c.next_site.ensures))
    c.loop-site.invariant

use Rattle.std.proofs.Common.{◌≡◌, ◌≤◌, ◌||◌, None, Option, List, ap, subst, ◌∙◌, arith}
use Rattle.virtual_state.proofs.LostSites.{lost_all, lost_more}
use Rattle.virtual_state.specs.Inner.Comparing.{is_lost}
use Rattle.virtual_state.specs.Sites.{has}
use Rattle.virtual_state.specs.States.{object_of}
use Rattle.virtual_state.specs.declared.slot.VObject.{VObject}
use Rattle.virtual_state.proofs.lost.differing.Goals as goal

pub loop-site-preserved : goal.loop-site-preserved
loop-site-preserved c =
    let objects = c.args.state.now.objects in
    let others = c.args.other.now.objects in
    let found = c.get.ensures ∙ ap (λ (list : List VObject). object_of list c.loop-site.site) c.objects-objects.ensures in
    lost_more c.loop-site.sites c.add_lost.new.sites objects others c.loop-site.site c.loop-site.invariant (λ one. c.in_ok-add_lost.ensures one ∙ ap (λ (o : Option VObject). has c.loop-site.sites one || is_lost others o one) found)

pub returns : goal.returns
returns c = lost_all c.loop-site.sites c.args.state.now c.args.other.now c.loop-site.site c.loop-site.invariant (λ site high.
    let past : c.end-site-end.result ≤ site = omega arith in
    subst (λ (list : List VObject). object_of list site ≡ None) c.objects-objects.ensures (c.end-site-end.ensures site past))

use Rattle.std.proofs.Common.{◌∷◌, ap, ◌∙◌, subst, true, rules}
use Rattle.inline_expand.proofs.Walking.{judged_is_seen, left, skipped}
use Rattle.inline_expand.specs.Inner.Walks.{Walks}
use Rattle.inline_expand.specs.declared.visits.Visit.{Visit}
use Rattle.inline_expand.proofs.ready.next.Goals as goal

pub loop-visit-preserved-in-Continue-1 : goal.loop-visit-preserved-in-Continue-1
loop-visit-preserved-in-Continue-1 c = record {
  walks = λ classes typed host root walk.
      let top = c.in-Some.ensures.some ∙ ap (λ (v : Visit). v ∷ c.pop.new.self) c.in-Leave.is in
      left classes typed host root c.loop-visit.verdicts c.judge.new.self c.pop.new.self c.in-Leave.at
      (subst (Walks classes typed host root c.loop-visit.verdicts) top (c.loop-visit.invariant.walks classes typed host root walk))
      c.in_ok-judge-in-Leave.ensures.ok;
  unseen = λ at none. c.loop-visit.invariant.unseen at (judged_is_seen c.loop-visit.verdicts c.judge.new.self c.in-Leave.at at true c.in_ok-judge-in-Leave.ensures.ok none);
}

pub loop-visit-preserved : goal.loop-visit-preserved
loop-visit-preserved c = record {
  walks = λ classes typed host root walk.
      let top = c.in-Some.ensures.some ∙ ap (λ (v : Visit). v ∷ c.pop.new.self) c.in-Enter.is in
      skipped classes typed host root c.loop-visit.verdicts c.pop.new.self c.in-Enter.at
      (subst (Walks classes typed host root c.loop-visit.verdicts) top (c.loop-visit.invariant.walks classes typed host root walk))
      (search rules);
  unseen = c.loop-visit.invariant.unseen;
}

use Rattle.std.proofs.Common.{ap, subst, sym, option_copied, ◌∙◌}
use Rattle.std.proofs.lemmas.Result.{on_ok_weaker}
use Rattle.class_rewrite.proofs.NotedSites.{before_is, before_none, noted_both, noted_none}
use Rattle.class_rewrite.proofs.made_sites.note_point.Goals as goal
use Rattle.class_rewrite.proofs.made_sites.note_point.Goals.{in-Some+in_ok-note_sites, in_default}
use Rattle.class_rewrite.specs.Inner.MadeSites.{IsNoted, edges_behind, made_before, made_on}
use Rattle.plan_flow.specs.Plans.{planned}

pub returns : goal.returns
returns c =
    let first : IsNoted c.args.making.now (made_before (planned c.args.plan.now c.args.at)) c.match-made_at.making =
    elim c.match-made_at.branch [
      | in-Some+in_ok-note_sites w ↦
          subst (IsNoted c.args.making.now (made_before (planned c.args.plan.now c.args.at))) (sym w.making-is)
          (subst (λ sites. IsNoted c.args.making.now sites w.note_sites.new.making)
          (w.as_slice.ensures.sites
          ∙ sym (before_is _ (planned c.args.plan.now c.args.at) _ c.made_at.ensures (ap (λ found. option_copied found) w.in-Some.is)))
          w.in_ok-note_sites.ensures)
      | in_default w ↦
          subst (IsNoted c.args.making.now (made_before (planned c.args.plan.now c.args.at))) (sym w.making-is)
          (subst (λ sites. IsNoted c.args.making.now sites c.args.making.now)
          (sym (before_none _ (planned c.args.plan.now c.args.at) c.made_at.ensures (ap (λ found. option_copied found) w.in_default.is)))
          (noted_none c.args.making.now))
    ] in
    on_ok_weaker c.note_edges.result
    (λ more. noted_both c.args.making.now c.match-made_at.making c.note_edges.new.making (made_before (planned c.args.plan.now c.args.at))
    (made_on (edges_behind (planned c.args.plan.now c.args.at))) first more)
    c.note_edges.ensures

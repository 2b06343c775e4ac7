use Rattle.std.proofs.Common.{subst}
use Rattle.std.proofs.lemmas.Result.{IfOk-weaker}
use Rattle.class_rewrite.proofs.MadeOfPlans.{count_here, names_here}
use Rattle.class_rewrite.proofs.made_sites.made_sites.Goals as goal
use Rattle.class_rewrite.specs.Inner.MadeSites.{AreMadeBy}
use Rattle.class_rewrite.specs.Inner.Meanings.{rewriting, scope}
use Rattle.class_rewrite.specs.Inner.WrittenCodes.{one_of}

pub returns : goal.returns
returns c =
    let of = c.args.setting.now in
    IfOk-weaker c.made_by.result (AreMadeBy c.flat.result.now c.plan.result.now) _
    (λ made made_by m meant.
    let by : AreMadeBy of.flat of.plan made =
    subst (λ plan. AreMadeBy of.flat plan made) c.plan.ensures (subst (λ flat. AreMadeBy flat c.plan.result.now made) c.flat.ensures made_by) in
    record {
      counts = λ routes form routed few.
          count_here (rewriting of m) (one_of of routes form) of.plan (c.effect_grows.ensures.one (scope of m)) meant.least.valid routed made by few;
      names_are = λ routes form routed.
          names_here (rewriting of m) (one_of of routes form) of.plan (c.effect_grows.ensures.one (scope of m)) meant.least.valid routed made by;
    })
    c.made_by.ensures

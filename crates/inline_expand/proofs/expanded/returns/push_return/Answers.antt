use Rattle.std.proofs.Common.{◌∷◌, ◌++◌, ℕ, List, [], ap, ◌∙◌, append_assoc}
use Rattle.std.proofs.lemmas.Result.{on_ok_weaker}
use Rattle.class_model.specs.declared.instr.Instr.TheVariants.{Goto}
use Rattle.expanded_code.specs.Expanded.{point_in}
use Rattle.flow_code.specs.declared.point.FlatInstr.TheVariants.{Of}
use Rattle.flow_code.specs.declared.point.Point.{Point}
use Rattle.inline_expand.proofs.SettingParts.{spot-point}
use Rattle.inline_expand.proofs.expanded.returns.push_return.Goals as goal
use Rattle.inline_expand.specs.Inner.Settings.{narrowed_points}

pub returns : goal.returns
returns c = on_ok_weaker c.push.result (λ pushed t at is.
    let before = c.args.points.now.items in
    let narrowed = narrowed_points t at c.args.typed c.args.narrowed in
    pushed
    ∙ ap (λ (some : List Point). some ++ record { instr = Of c.args.spot.class (Goto c.from.result); typed = c.args.typed; handlers = c.args.spot.handlers.now } ∷ []) (c.in_ok-push_narrowed.ensures t at is)
    ∙ ap (λ (instr : ℕ). before ++ narrowed ++ record { instr = Of c.args.spot.class (Goto instr); typed = c.args.typed; handlers = c.args.spot.handlers.now } ∷ []) c.from.ensures
    ∙ ap (λ (point : Point). before ++ narrowed ++ point ∷ []) (spot-point t at c.args.spot c.args.typed (Goto c.args.behind) is)
    ∙ append_assoc before narrowed (point_in t at c.args.typed (Goto c.args.behind) ∷ [])) c.push.ensures

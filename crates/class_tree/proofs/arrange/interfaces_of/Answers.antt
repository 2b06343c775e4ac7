use Rattle.std.proofs.Common.{◌≡◌, map, arith, sym, ◌∙◌}
use Rattle.std.proofs.lemmas.Grind.{common_steps}
use Rattle.class_model.specs.PoolChecks.{class_at}
use Rattle.class_tree.proofs.HeaderParts.{text_or_empty, interfaces_are}
use Rattle.class_tree.proofs.arrange.interfaces_of.Goals as goal

pub returns : goal.returns
returns c =
    let class = c.args.class.now in
    let all : c.loop-index.names ≡ map (λ index. text_or_empty (class_at class.pool index)) class.interfaces = grind (arith, common_steps) in
    all ∙ sym (interfaces_are class class.interfaces)

use Rattle.std.proofs.Common.{◌≡◌, map, arith, sym, ◌∙◌}
use Rattle.std.proofs.lemmas.Grind.{common_steps}
use Rattle.class_tree.proofs.HeaderParts.{member, methods_are}
use Rattle.class_tree.proofs.arrange.methods_of.Goals as goal

pub returns : goal.returns
returns c =
    let class = c.args.class.now in
    let all : c.loop-method.members ≡ map (λ method. member class.pool method.flags method.name method.desc) class.methods = grind (arith, common_steps) in
    all ∙ sym (methods_are class class.methods)

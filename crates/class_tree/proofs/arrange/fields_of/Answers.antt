use Rattle.std.proofs.Common.{◌≡◌, map, arith, sym, ◌∙◌}
use Rattle.std.proofs.lemmas.Grind.{common_steps}
use Rattle.class_tree.proofs.HeaderParts.{member, fields_are}
use Rattle.class_tree.proofs.arrange.fields_of.Goals as goal

pub returns : goal.returns
returns c =
    let class = c.args.class.now in
    let all : c.loop-field.members ≡ map (λ field. member class.pool field.flags field.name field.desc) class.fields = grind (arith, common_steps) in
    all ∙ sym (fields_are class class.fields)

use Rattle.std.proofs.Common.{◌≡◌, ◌∷◌}
use Rattle.class_model.proofs.DescriptorGrammar.{array_of_type, class_of_type}
use Rattle.class_model.proofs.descriptor.field_type_at.Goals as goal

pub returns-in-91-clause-bad_name : goal.returns-in-91-clause-bad_name
returns-in-91-clause-bad_name c = λ bad type rest at.
    let front : c.args.bytes.now ≡ 91 ∷ c.in-Some.after.now = cc (c.in-Some.ensures.cases.0, c.in-91.is) in
    let array = array_of_type _ _ _ _ front at in
    c.array_type_at.ensures.bad_name bad array.0 rest array.1 array.2

pub returns-in-76-clause-bad_name : goal.returns-in-76-clause-bad_name
returns-in-76-clause-bad_name c = λ bad type rest at.
    let front : c.args.bytes.now ≡ 76 ∷ c.in-Some.after.now = cc (c.in-Some.ensures.cases.0, c.in-76.is) in
    let class = class_of_type _ _ _ _ front at in
    c.class_type_at.ensures.bad_name bad class.0 rest class.1 class.2

use Rattle.std.proofs.Common.{Some, subst}
use Rattle.class_tree.specs.Headers.{headers_of}
use Rattle.member_link.specs.Defaults.{first_inherited}
use Rattle.member_link.specs.Inner.DefaultsOf.{AreDefaults}
use Rattle.member_link.specs.Methods.{one_default, first_of_all}
use Rattle.member_link.proofs.FoundInClass.{not_one_default}
use Rattle.member_link.proofs.methods.find_in_interfaces.Goals as goal

pub returns-in-One : goal.returns-in-One
returns-in-One c = λ header at.
    let headers = headers_of c.args.tree.now in
    let one = subst (AreDefaults headers header.name c.args.name.now c.args.desc.now) c.in-One.is (c.defaults.ensures header at) in
    (Some one.0, one_default one.0 one.2, one.1)

pub returns-in-Nothing : goal.returns-in-Nothing
returns-in-Nothing c = λ header at.
    let headers = headers_of c.args.tree.now in
    let name = c.args.name.now in
    let desc = c.args.desc.now in
    let none = not_one_default headers header.name name desc c.defaults.result (c.defaults.ensures header at) c.in-Nothing.is in
    let first = c.first_inherited.ensures header at in
    (first_inherited headers name desc first.0, first_of_all first.0 none first.1, first.2)

use Rattle.std.proofs.Common.{◌≡◌, bytes_eq, ◌∙◌, rules, tests}
use Rattle.std.proofs.lemmas.Iterator.{YieldsList-from_slice}
use Rattle.std.proofs.lemmas.Iterator.Adapters.{position_from-zero}
use Rattle.std.proofs.lemmas.Iterator.Search.{position_from_yields_List}
use Rattle.class_model.specs.declared.header.Member.{Member}
use Rattle.class_tree.specs.Order.{first_place}
use Rattle.member_link.proofs.FirstNamed.{first_from_start, named_within}
use Rattle.member_link.proofs.methods.place_of_name.Goals as goal

pub returns : goal.returns
returns c =
    let methods = c.args.methods.now in
    let has_name = λ (method : Member). bytes_eq c.args.name.now method.name in
    let is : c.position.result ≡ first_place has_name methods =
    position_from_yields_List has_name _ _ c.position.result c.position.ensures.ran (YieldsList-from_slice methods cc) (λ x b q k. search (rules, tests))
    ∙ position_from-zero has_name methods ∙ first_from_start has_name methods in
    record { first = is; within = named_within c.args.name.now methods c.position.result is }

use Rattle.std.proofs.Common.{Option, Some, None, is_some, sym, ap, subst, ◌∙◌}
use Rattle.class_tree.specs.Headers.{headers_of}
use Rattle.member_link.specs.Inner.Counting.{Counts}
use Rattle.member_link.specs.DeclaredMembers.{Declared}
use Rattle.member_link.specs.Found.{AreSame, IsMethodFound}
use Rattle.member_link.specs.Methods.{nowhere}
use Rattle.member_link.specs.Upwards.{FirstUpwards}
use Rattle.member_link.specs.declared.found.Found.{Found}
use Rattle.member_link.proofs.FoundInClass.{same_some, same_none, found_upwards, found_in_interfaces}
use Rattle.member_link.proofs.methods.find_in_class.Goals as goal

pub returns-in_err-class : goal.returns-in_err-class
returns-in_err-class c =
    let headers = headers_of c.args.tree.now in
    let absent = c.a_tree_is_a_hierarchy.ensures.absent c.args.class.now (sym c.find.ensures.same ∙ c.in_err-class.was) in
    (None, nowhere absent, subst (λ (result : Option Found). AreSame (IsMethodFound headers) result None) (sym c.from_residual.ensures) tt)

pub counted_for-requires : goal.counted_for-requires
counted_for-requires c =
    let class = c.a_tree_is_a_hierarchy.ensures.placed c.args.class.now c.in_ok-class.class (sym c.find.ensures.same ∙ c.in_ok-class.was) in
    ap is_some class.1.at

pub first_upwards-requires-clause-start : goal.first_upwards-requires-clause-start
first_upwards-requires-clause-start c =
    let class = c.a_tree_is_a_hierarchy.ensures.placed c.args.class.now c.in_ok-class.class (sym c.find.ensures.same ∙ c.in_ok-class.was) in
    ap is_some class.1.at

pub returns-in-Some : goal.returns-in-Some
returns-in-Some c =
    let headers = headers_of c.args.tree.now in
    let name = c.args.name.now in
    let desc = c.args.desc.now in
    let class = c.a_tree_is_a_hierarchy.ensures.placed c.args.class.now c.in_ok-class.class (sym c.find.ensures.same ∙ c.in_ok-class.was) in
    let Counted = Counts headers c.counted_for.result in
    let up = c.first_upwards.ensures class.0 class.1.at in
    let found = same_some (IsMethodFound headers) c.first_upwards.result up.0 up.2 c.in-Some.found c.in-Some.is in
    let finds = found_upwards headers c.args.class.now c.in_ok-class.class class.0 class.1 Counted (c.counted_for.ensures.same class.0 class.1.at) name desc found.0 (subst (λ (o : Option Declared). FirstUpwards headers Counted name desc class.0.name o) found.1 up.1) in
    (Some found.0, finds, found.2)

pub find_in_interfaces-requires : goal.find_in_interfaces-requires
find_in_interfaces-requires c =
    let class = c.a_tree_is_a_hierarchy.ensures.placed c.args.class.now c.in_ok-class.class (sym c.find.ensures.same ∙ c.in_ok-class.was) in
    ap is_some class.1.at

pub returns : goal.returns
returns c =
    let headers = headers_of c.args.tree.now in
    let name = c.args.name.now in
    let desc = c.args.desc.now in
    let class = c.a_tree_is_a_hierarchy.ensures.placed c.args.class.now c.in_ok-class.class (sym c.find.ensures.same ∙ c.in_ok-class.was) in
    let Counted = Counts headers c.counted_for.result in
    let up = c.first_upwards.ensures class.0 class.1.at in
    let none = same_none (IsMethodFound headers) c.first_upwards.result up.0 up.2 c.in_default.is in
    let over = c.find_in_interfaces.ensures class.0 class.1.at in
    let finds = found_in_interfaces headers c.args.class.now c.in_ok-class.class class.0 class.1 Counted (c.counted_for.ensures.same class.0 class.1.at) name desc over.0 (subst (λ (o : Option Declared). FirstUpwards headers Counted name desc class.0.name o) none up.1) over.1 in
    (over.0, finds, over.2)

use Rattle.std.proofs.Common.{rules, subst, inr}
use Rattle.class_tree.specs.Headers.{headers_of}
use Rattle.member_link.specs.Found.{IsField}
use Rattle.member_link.proofs.Referents.{no_field, one_field, in_no_array, referent}
use Rattle.member_link.proofs.resolving.resolve_field.Goals as goal

pub returns-in_default-find_field : goal.returns-in_default-find_field
returns-in_default-find_field c =
    let headers = headers_of c.args.tree.now in
    let none = no_field headers _ _ _ (subst (IsField headers _ _ _) c.in_default-find_field.is c.find_field.ensures) in
    search rules

-- src/resolving.rt:91:24
pub accessible-requires : goal.accessible-requires
accessible-requires c =
    let headers = headers_of c.args.tree.now in
    let one = one_field headers _ _ _ c.in-Some-find_field.found (subst (IsField headers _ _ _) c.in-Some-find_field.is c.find_field.ensures) in
    (one.member, inr (in_no_array headers c.a_tree_is_a_hierarchy.ensures _ _ _ _ one, one.is))

pub returns : goal.returns
returns c =
    let headers = headers_of c.args.tree.now in
    let one = one_field headers _ _ _ c.in-Some-find_field.found (subst (IsField headers _ _ _) c.in-Some-find_field.is c.find_field.ensures) in
    let no_array = in_no_array headers c.a_tree_is_a_hierarchy.ensures _ _ _ _ one in
    let kept = referent c.accessible.result one (λ member is. c.accessible.ensures member (inr (no_array, is))) one.is.same_flags in
    search rules

use Rattle.std.proofs.Common.{◌≡◌, ◌||◌, false, refl, sym, ap, subst, ◌∙◌}
use Rattle.std.proofs.lemmas.Bool.{false≢true}
use Rattle.class_model.specs.Members.{has, PROTECTED}
use Rattle.class_tree.specs.Headers.{headers_of}
use Rattle.expanded_code.specs.Callees.{public_field}
use Rattle.inline_expand.proofs.OpenMembers.{opened_decides}
use Rattle.inline_expand.proofs.open.is_open_field.Goals as goal
use Rattle.inline_expand.specs.Inner.Open.{IsOpenToAll}
use Rattle.member_link.specs.DeclaredMembers.{is_package_access}
use Rattle.member_link.specs.Overriding.{package_of}

pub returns-then-is_open_to_all : goal.returns-then-is_open_to_all
returns-then-is_open_to_all c = λ field is.
    let open_ = subst IsOpenToAll is.same_flags (c.is_open_to_all.ensures.0 c.if-is_open_to_all.true) in
    (λ yes. public_field open_.is_public open_.unprotected, λ any. refl)

pub returns-else-is_open_in_package : goal.returns-else-is_open_in_package
returns-else-is_open_in_package c = λ field is.
    let headers = headers_of c.args.tree.now in
    let not_all : ¬ IsOpenToAll field.member.flags = λ open_. false≢true (sym c.if-is_open_to_all.false ∙ c.is_open_to_all.ensures.1 (subst IsOpenToAll (sym is.same_flags) open_)) in
    let same : package_of c.args.host.now ≡ package_of field.class = (c.is_of_package.ensures is.header is.at).0 c.if-not-is_of_package.false ∙ ap package_of is.own_class in
    let no_package : (is_package_access field.member || has field.member.flags PROTECTED) ≡ false = sym (c.is_open_in_package.ensures field.member (sym is.same_flags)) ∙ c.if-is_open_in_package.false in
    let opened = opened_decides headers c.a_tree_is_a_hierarchy.ensures c.args.host.now c.args.found field is not_all same no_package in
    (λ yes. opened.0 (c.is_opened.ensures.0 yes), λ open_. c.is_opened.ensures.1 (opened.1 open_))

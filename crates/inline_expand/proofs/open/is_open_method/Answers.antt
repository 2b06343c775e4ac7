use Rattle.std.proofs.Common.{◌≡◌, ◌||◌, IsTrue, refl, sym, ap, subst, ◌∙◌}
use Rattle.std.proofs.lemmas.Bool.{false≢true}
use Rattle.class_model.specs.Members.{has, PROTECTED}
use Rattle.class_tree.specs.Subtype.{IsArray}
use Rattle.expanded_code.specs.Callees.{public_method}
use Rattle.inline_expand.proofs.OpenMembers.{clone_decides}
use Rattle.inline_expand.proofs.open.is_open_method.Goals as goal
use Rattle.inline_expand.proofs.open.is_open_method.Goals.{else-is_open_in_package-via-then-is_open_in_package+else-is_of_package, else-is_open_in_package-via-else-is_open_in_package}
use Rattle.inline_expand.specs.Inner.Open.{IsOpenToAll}
use Rattle.member_link.specs.DeclaredMembers.{is_package_access}
use Rattle.member_link.specs.Overriding.{package_of}

pub returns-then-is_open_to_all : goal.returns-then-is_open_to_all
returns-then-is_open_to_all c = λ method is.
    let open_ = subst IsOpenToAll is.same_flags (c.is_open_to_all.ensures.0 c.if-is_open_to_all.true) in
    (λ yes. public_method open_.is_public open_.unprotected, λ any. refl)

pub returns-then-is_array : goal.returns-then-is_array
returns-then-is_array c = λ method is.
    let not_all : ¬ IsOpenToAll method.member.flags = λ open_. false≢true (sym c.if-is_open_to_all.false ∙ c.is_open_to_all.ensures.1 (subst IsOpenToAll (sym is.same_flags) open_)) in
    let no_package : IsTrue (is_package_access method.member || has method.member.flags PROTECTED) → package_of c.args.host.now ≡ package_of method.class → ⊥ = λ access same.
    elim c.else-is_open_in_package.branch [
      | else-is_open_in_package-via-then-is_open_in_package+else-is_of_package w ↦ false≢true (sym w.if-is_of_package.false ∙ (w.is_of_package.ensures is.header is.at).1 (same ∙ ap package_of (sym is.own_class)))
      | else-is_open_in_package-via-else-is_open_in_package w ↦ false≢true (sym w.if-is_open_in_package.false ∙ c.is_open_in_package.ensures method.member (sym is.same_flags) ∙ access)
    ] in
    let deep = subst IsArray c.bytes.ensures.same (c.is_array.ensures.0 c.if-is_array.true) in
    let told = clone_decides c.args.host.now c.args.named.now method not_all no_package deep in
    (λ passed. told.1 ((c.is_clone.ensures method is).0 passed), λ open_. (c.is_clone.ensures method is).1 (told.0 open_))

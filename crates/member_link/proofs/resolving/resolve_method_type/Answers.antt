use Rattle.std.proofs.Common.{◌∙◌, sym, subst}
use Rattle.std.proofs.lemmas.Bool.{false≢true}
use Rattle.class_tree.specs.Headers.{headers_of}
use Rattle.member_link.specs.Access.{IsClassAccessible}
use Rattle.member_link.specs.References.{DescriptorNames}
use Rattle.member_link.proofs.resolving.resolve_method_type.Goals as goal

pub returns-then-not-branch-2 : goal.returns-then-not-branch-2
returns-then-not-branch-2 c =
    let headers = headers_of c.args.tree.now in
    rw c.in-Some.is (
      c.in_ok-is_descriptor_there.ensures.0 c.if-not-branch.false,
      λ is_open. false≢true (sym c.if-not-branch-2.true ∙ c.in_ok-is_descriptor_accessible.ensures.1 (subst (λ from. DescriptorNames (IsClassAccessible headers from) c.in-Some.desc.now) (sym c.bytes.ensures.same) is_open)),
    )

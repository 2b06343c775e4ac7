use Rattle.std.proofs.Common.{sym, subst, ap, ◌∙◌}
use Rattle.std.proofs.lemmas.Bool.{both_ways}
use Rattle.class_model.specs.Members.{has, FINAL}
use Rattle.class_tree.specs.Headers.{headers_of}
use Rattle.member_link.specs.DeclaredMembers.{Declared, declared_by}
use Rattle.member_link.specs.Overriding.{Overrides}
use Rattle.member_link.proofs.FolderMethods.{folder_decides}
use Rattle.member_link.proofs.declarations.overrides_final.Goals as goal
use Rattle.member_link.proofs.declarations.overrides_final.Goals.{then-has, else-has}

pub returns-then-is_in_folder : goal.returns-then-is_in_folder
returns-then-is_in_folder c = λ method is.
    let headers = headers_of c.args.tree.now in
    let low = declared_by c.args.low.header.now.name c.args.low.member.now in
    let folder = folder_decides headers c.a_tree_is_a_hierarchy.ensures is in
    let same = c.method_at.ensures.same method is in (
      λ yes. elim c.if-has.branch [
        | then-has w ↦ record {
          of_folder = folder.0 (w.is_in_folder.ensures.0 (sym w.value-is ∙ c.if-is_in_folder.true));
          is_final = ap (λ flags. has flags FINAL) (sym is.same_flags) ∙ sym c.has.ensures ∙ w.if-has.true;
          overrides = subst (λ (high : Declared). Overrides headers low high) (sym same) (c.overrides_method.ensures.0 yes);
        }
        | else-has w ↦ absurd (both_ways _ (w.value-is ∙ w.if-has.false) c.if-is_in_folder.true)
      ],
      λ final. c.overrides_method.ensures.1 (subst (λ (high : Declared). Overrides headers low high) same final.overrides),
    )

pub returns-else-is_in_folder : goal.returns-else-is_in_folder
returns-else-is_in_folder c = λ method is.
    let folder = folder_decides (headers_of c.args.tree.now) c.a_tree_is_a_hierarchy.ensures is in (
      λ yes. absurd (both_ways _ c.if-is_in_folder.false yes),
      λ final. elim c.if-has.branch [
        | then-has w ↦ w.value-is ∙ w.is_in_folder.ensures.1 (folder.1 final.of_folder)
        | else-has w ↦ absurd (both_ways _ w.if-has.false (c.has.ensures ∙ ap (λ flags. has flags FINAL) is.same_flags ∙ final.is_final))
      ],
    )

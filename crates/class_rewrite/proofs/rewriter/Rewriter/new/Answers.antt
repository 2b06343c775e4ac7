use Rattle.std.proofs.Common.{sym, ap, subst, ◌∙◌}
use Rattle.class_rewrite.proofs.rewriter.Rewriter.new.Goals as goal
use Rattle.class_rewrite.specs.Inner.VerifiedFolders.{IsVerifiedFolder}
use Rattle.inline_expand.specs.TypedClasses.{TypedClasses}

pub invariant_of-result : goal.invariant_of-result
invariant_of-result c =
    let same = sym (ap (λ (of : TypedClasses). of.classes) c.in_ok-new.ensures) in (
      subst IsVerifiedFolder (sym c.in_ok-new.ensures)
          (record { tree = c.folder.ensures.tree; bytes = c.codes_of_a_tree_are_bytes.ensures; linked = c.requires.linked; types = c.requires.typed }),
      same,
      c.in_ok-new-2.ensures ∙ same,
    )

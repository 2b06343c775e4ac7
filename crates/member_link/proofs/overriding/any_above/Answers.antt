use Rattle.std.proofs.Common.{false, sym, subst, ◌∙◌}
use Rattle.class_tree.specs.Headers.{headers_of}
use Rattle.member_link.specs.DeclaredMembers.{declared_by}
use Rattle.member_link.specs.Inner.OpenMethods.{IsAbove, IsAboveOfKind, IsAnyOf}
use Rattle.member_link.proofs.WaysUp.{interfaces_say, class_says}
use Rattle.member_link.proofs.overriding.any_above.Goals as goal
use Rattle.member_link.proofs.overriding.any_above.Goals.{then-any_superclass, else-any_superclass}

pub returns : goal.returns
returns g c =
    let headers = headers_of c.args.tree.now in
    let low = declared_by c.args.low.header.now.name c.args.low.member.now in
    let Answer = goal.F-post g c.args.test in
    elim c.if-any_superclass.branch [
      | then-any_superclass w ↦
          subst (IsAnyOf headers (IsAbove headers low) Answer) (sym (w.result-is ∙ w.if-any_superclass.true))
          (class_says headers low Answer (subst (IsAnyOf headers (IsAboveOfKind headers false low) Answer) w.if-any_superclass.true c.any_superclass.ensures))
      | else-any_superclass w ↦
          subst (IsAnyOf headers (IsAbove headers low) Answer) (sym w.result-is)
          (interfaces_say headers low Answer w.any_superinterface.result (subst (IsAnyOf headers (IsAboveOfKind headers false low) Answer) w.if-any_superclass.false c.any_superclass.ensures) w.any_superinterface.ensures)
    ]

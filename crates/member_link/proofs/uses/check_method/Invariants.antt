use Rattle.class_model.specs.Methods.{home_of}
use Rattle.member_link.specs.Inner.Resolving.{resolved_scope}
use Rattle.member_link.specs.Uses.{attr_checks}
use Rattle.member_link.proofs.EachUse.{UsedBelow}
use Rattle.member_link.proofs.uses.check_method.Given as goal

abbrev pub invariant-loop-attr : goal.invariant-loop-attr
invariant-loop-attr l = UsedBelow (λ resolver attr. attr_checks (resolved_scope resolver l.member) (home_of l.class) l.method attr) l.attr-items l.initial.resolver l.resolver l.attr-index

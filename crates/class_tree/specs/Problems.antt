-- What linking asks, and what is told of a class that breaks it (JVM Specification SE 8, 5.3 and 5.4).
use Rattle.std.specs.Prelude.{[]}
use Rattle.class_model.specs.Checks.{Check}
use Rattle.class_model.specs.declared.header.Member.{Member}
use Rattle.class_tree.specs.Headers.{Name}
use Rattle.class_tree.specs.declared.fault.LinkRule.{LinkRule}

-- the rule that a class breaks, and the member where; an empty member is the class itself
pub record Problem : Type 0 where
  pub class : Name
  pub member : Member
  pub rule : LinkRule

-- no member
abbrev pub itself : Member
itself = record { flags = 0; name = []; desc = [] }

-- a problem of a class itself
abbrev pub of_class : Name → LinkRule → Problem
of_class class rule = record { class = class; member = itself; rule = rule }

-- what is asked of a class itself
abbrev pub check : Name → LinkRule → Type 0 → Check Problem
check class rule holds = record { fault = of_class class rule; holds = holds }

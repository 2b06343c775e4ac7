use Rattle.std.proofs.Common.{◌<◌, ◌≤◌, ℕ}
use Rattle.class_tree.specs.Headers.{headers_of}
use Rattle.type_rules.specs.Inner.Changes.{IsUnitAssignable}
use Rattle.type_rules.proofs.assignability.are_changed_locals_assignable.Given as goal

abbrev pub invariant-loop-at : goal.invariant-loop-at
invariant-loop-at l = (unit : ℕ) → l.from ≤ unit → unit < l.at → IsUnitAssignable (headers_of l.fn.tree) l.locals l.to.locals unit

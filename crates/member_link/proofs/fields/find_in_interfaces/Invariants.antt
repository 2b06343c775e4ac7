use Rattle.std.proofs.Common.{drop, Option}
use Rattle.class_tree.specs.Headers.{headers_of}
use Rattle.member_link.specs.DeclaredMembers.{Declared}
use Rattle.member_link.specs.Fields.{FindsFirst}
use Rattle.member_link.proofs.fields.find_in_interfaces.Given as goal

abbrev pub invariant-loop-interface : goal.invariant-loop-interface
invariant-loop-interface l = (field : Option Declared) → FindsFirst (headers_of l.tree) l.name l.desc (drop l.interface-index l.interfaces) field → FindsFirst (headers_of l.tree) l.name l.desc l.interfaces field

use Rattle.std.proofs.Common.{◌≡◌, drop, Option}
use Rattle.class_tree.specs.Headers.{headers_of}
use Rattle.member_link.specs.DeclaredMembers.{Declared}
use Rattle.member_link.specs.Inner.FieldSearch.{first_met}
use Rattle.member_link.specs.Found.{AreSame, IsFieldFound}
use Rattle.member_link.proofs.fields.first_met.Given as goal

abbrev pub invariant-loop-interface : goal.invariant-loop-interface
invariant-loop-interface l = (field : Option Declared) → AreSame (IsFieldFound (headers_of l.tree)) l.top field → first_met (headers_of l.tree) field l.name l.desc (drop l.interface-index l.interfaces) ≡ first_met (headers_of l.tree) field l.name l.desc l.interfaces

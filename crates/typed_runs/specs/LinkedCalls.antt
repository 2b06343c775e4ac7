-- What linking and reading say of a call, beyond what IsLinkedOp says of its operation.
use Rattle.std.specs.Prelude.{◌≡◌, Some, None}
use Rattle.class_model.specs.Names.{init}
use Rattle.class_tree.specs.Headers.{class_named}
use Rattle.member_link.specs.Machine.Ops.{Op, call_virtual, call_special}
use Rattle.member_link.specs.Machine.Programs.{Program, headers_in}
use Rattle.member_link.specs.References.{Reference, IsNamedThere}
use Rattle.member_link.specs.RowScope.{RowScope}
use Rattle.member_link.specs.Signatures.{result_of}

-- The named class, or the class of the element of the array that is named, is there; an instance initialiser has no result (4.3.3); and the
-- current class is the one of its name.
pub record IsLinkedSpecial (P : Program) (s : RowScope) (r : Reference) : Type 0 where
  pub named : IsNamedThere (headers_in P) r.class
  pub void : r.name ≡ init → result_of r.desc ≡ None
  pub own : class_named (headers_in P) s.own.name ≡ Some s.own

abbrev pub IsLinkedCall : Program → RowScope → Op → Type 0
IsLinkedCall P s (call_virtual r) = IsNamedThere (headers_in P) r.class
IsLinkedCall P s (call_special r from) = IsLinkedSpecial P s r
IsLinkedCall P s op = Unit {0}

-- Operations that are read as they are, and how others may be read.
use Rattle.std.specs.Prelude.{◌≡◌, ℕ, true, List, bytes_eq, None}
use Rattle.std.proofs.Common.{subst}
use Rattle.std.proofs.lemmas.Slice.Eq.{bytes_eq-Decides}
use Rattle.class_model.specs.Names.{init}
use Rattle.class_model.specs.declared.frame.Frame.{Frame}
use Rattle.class_tree.specs.Headers.{Name}
use Rattle.class_tree.specs.Names.{object}
use Rattle.member_link.specs.Machine.CallSteps.{is_object_init}
use Rattle.member_link.specs.Machine.Ops.{Op, call_special, new_object}
use Rattle.member_link.specs.Machine.Programs.{Program}
use Rattle.member_link.specs.References.{Reference}
use Rattle.member_link.specs.RowScope.{RowScope}
use Rattle.member_link.specs.Rows.Readings.{Reading, reads_itself}
use Rattle.member_link.specs.Signatures.{result_of}
use Rattle.typed_runs.proofs.Basics.{and_first, and_second}
use Rattle.typed_runs.proofs.OtherOperations.{IsNot}
use Rattle.typed_runs.specs.Laws.PlainReadings.{plainly_read}
use Rattle.typed_runs.specs.LinkedCalls.{IsLinkedCall, IsLinkedSpecial}
use Rattle.typed_runs.specs.TypedPoints.{CallsObjectInit, MayBeRead}

-- a family has no operation that may be read in another way
pub record IsReadAsItIs (Family : Op → Type 0) : Type 0 where
  pub no_new : (name : Name) → IsNot Family (new_object name)
  pub no_special : (r : Reference) (from : Name) → IsNot Family (call_special r from)

pub reads_as_it_is : (Family : Op → Type 0) → IsReadAsItIs Family → (reading : Reading) (frame : Frame) (op : Op)
    → MayBeRead reading frame op → Family op → reading ≡ reads_itself
reads_as_it_is Family plain reading frame op read is =
    plainly_read reading frame op read (record {
      no_new = λ name e. plain.no_new name (subst Family e is);
      no_init = λ r from e. absurd (plain.no_special r from (subst Family e is));
    })

-- ---- java/lang/Object.<init>

module _ (r : Reference) (is : is_object_init r ≡ true) where
  pub object_init_class : r.class ≡ object
  object_init_class = (bytes_eq-Decides r.class object).0 (and_first (bytes_eq r.class object) (bytes_eq r.name init) is)

  pub object_init_name : r.name ≡ init
  object_init_name = (bytes_eq-Decides r.name init).0 (and_second (bytes_eq r.class object) (bytes_eq r.name init) is)

-- it has no result
pub object_init_void : (P : Program) (s : RowScope) {frame : Frame} {desc : List ℕ} {op : Op} (calls : CallsObjectInit frame desc op)
    → IsLinkedCall P s op → result_of calls.reference.desc ≡ None
object_init_void P s calls linked =
    let special : IsLinkedSpecial P s calls.reference = subst (IsLinkedCall P s) calls.calls linked in
    special.void (object_init_name calls.reference calls.of_object)

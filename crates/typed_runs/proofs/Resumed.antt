use Rattle.std.specs.Prelude.{◌≡◌, ◌==◌, ◌+◌, ◌++◌, refl, ℕ, Bool, true, false, List, reverse, bytes_eq, Option, Some, None, IfSome, option_map, if◌then◌else◌}
use Rattle.std.proofs.Common.{ap, sym, ◌∙◌, subst}
use Rattle.class_model.specs.Names.{init}
use Rattle.class_model.specs.Pool.{constant_at}
use Rattle.class_model.specs.declared.frame.Frame.{Frame}
use Rattle.class_model.specs.declared.frame.VType.{VType}
use Rattle.class_model.specs.declared.header.Member.{Member}
use Rattle.class_model.specs.declared.instr.Instr.TheVariants as instrs
use Rattle.class_model.specs.declared.opcodes.TheConstants.{INVOKEVIRTUAL, INVOKESPECIAL, INVOKESTATIC, INVOKEINTERFACE}
use Rattle.machine_values.specs.Frames.{MethodState}
use Rattle.machine_values.specs.declared.value.Value.{Value}
use Rattle.member_link.specs.Bodies.{CodeItem, item_instr, item_row, item_falls_through}
use Rattle.member_link.specs.Machine.Codes.{item_op, or_meaningless, call_op, special_start}
use Rattle.member_link.specs.Machine.Ops.{Op, meaningless, call_static, call_virtual, call_interface, call_special}
use Rattle.member_link.specs.Machine.Performing.{resumed}
use Rattle.member_link.specs.Machine.Programs.{Program, Links}
use Rattle.member_link.specs.Machine.Worlds.{Memory}
use Rattle.member_link.specs.References.{Reference}
use Rattle.member_link.specs.RowScope.{RowScope}
use Rattle.member_link.specs.Rows.MemberRows.{call_row, static_row, init_row, special_row, instance_row, receiver, result_types, PassesMethod}
use Rattle.member_link.specs.Rows.Readings.{Reading, reads_itself, reads_object, reads_pop, row_by}
use Rattle.member_link.specs.Rows.Row.{Row, either, row_frame, stack_behind}
use Rattle.member_link.specs.Signatures.{reference_of, result_of}
use Rattle.typed_runs.proofs.Here.{pushed}
use Rattle.typed_runs.proofs.OpSorts.{of_calls, sort_of_op, not_of_family}
use Rattle.typed_runs.proofs.Points.{does_there}
use Rattle.typed_runs.proofs.ReadOps.{object_init_void}
use Rattle.typed_runs.specs.Conforming.{AllConform, IsTypedMemory}
use Rattle.typed_runs.specs.LinkedCalls.{IsLinkedCall}
use Rattle.typed_runs.specs.TypedFrames.{FitsCall, Waits, Does}
use Rattle.typed_runs.specs.TypedPoints.{MayBeRead, Typing, LeadsTo, row_at}
use Rattle.typed_runs.specs.TypedPrograms.{Typings, IsTypedProgram}

-- what an instruction gives, behind which control goes on
pub record GoesOn (given : List VType) (falls : Bool) (row : Row) : Type 0 where
  pub gives : row.gives ≡ given
  pub row_goes : row.goes_on ≡ true
  pub falls_through : falls ≡ true

-- ---- calls give the result of their descriptor

call_goes_on : (s : RowScope) (frame : Frame) (opcode : ℕ) (r : Reference)
    → GoesOn (result_types (result_of r.desc)) true (call_row s frame opcode (Some r))
call_goes_on s frame opcode r = by (opcode == INVOKESTATIC) (opcode == INVOKESPECIAL) (bytes_eq r.name init) where
  by : (a b c : Bool)
      → GoesOn (result_types (result_of r.desc)) true
      (either a (static_row frame r) (either b (either c (init_row s frame r) (special_row s frame r))
      (instance_row frame r (Unit {0}) (PassesMethod s r (receiver frame r.desc)))))
  by true b c = record { gives = refl; row_goes = refl; falls_through = refl }
  by false true true = record { gives = refl; row_goes = refl; falls_through = refl }
  by false true false = record { gives = refl; row_goes = refl; falls_through = refl }
  by false false c = record { gives = refl; row_goes = refl; falls_through = refl }

calls_desc : (member : Member) (links : Links) (s : RowScope) (opcode : ℕ) (r : Reference) → FitsCall member (call_op links s opcode r)
    → member.desc ≡ r.desc
calls_desc member links s opcode r is =
    by (opcode == INVOKEVIRTUAL) (opcode == INVOKESPECIAL) (opcode == INVOKESTATIC) (opcode == INVOKEINTERFACE) is where
      by : (a b c d : Bool)
          → FitsCall member
          (if a then call_virtual r else (if b then call_special r (special_start links s r.class)
          else (if c then call_static r else (if d then call_interface r else meaningless))))
          → member.desc ≡ r.desc
      by true b c d fits = fits
      by false true c d fits = fits
      by false false true d fits = fits
      by false false false true fits = fits
      by false false false false fits = absurd fits

fits_sort : (member : Member) (op : Op) → FitsCall member op → sort_of_op op ≡ of_calls
fits_sort member (call_static r) is = refl
fits_sort member (call_virtual r) is = refl
fits_sort member (call_interface r) is = refl
fits_sort member (call_special r from) is = refl
fits_sort member op is = absurd is

module _ (member : Member) (links : Links) (numbered : ℕ → ℕ) (s : RowScope) (frame : Frame) (place : ℕ) where
  of_reference : (opcode : ℕ) (o : Option Reference) → FitsCall member (or_meaningless (option_map (call_op links s opcode) o))
      → GoesOn (result_types (result_of member.desc)) true (call_row s frame opcode o)
  of_reference opcode None is = absurd is
  of_reference opcode (Some r) is =
      subst (λ (desc : List ℕ). GoesOn (result_types (result_of desc)) true (call_row s frame opcode (Some r)))
      (sym (calls_desc member links s opcode r is)) (call_goes_on s frame opcode r)

  -- an item whose operation a method's frame fits
  pub call_item_goes : (item : CodeItem) → FitsCall member (item_op links numbered s item)
      → GoesOn (result_types (result_of member.desc)) (item_falls_through item) (item_row s frame place item)
  call_item_goes (item_instr (instrs.Invoke opcode index count)) is = of_reference opcode (reference_of s.pool (constant_at s.pool index)) is
  call_item_goes item is =
      absurd (not_of_family links numbered s item of_calls (fits_sort member (item_op links numbered s item) is) (λ e. cc) (λ e. cc))

-- the same, however it is read
read_call_goes : (P : Program) (member : Member) (numbered : ℕ → ℕ) (s : RowScope) (frame : Frame) (place : ℕ) (item : CodeItem)
    (reading : Reading) → MayBeRead reading frame (item_op P.links numbered s item) → IsLinkedCall P s (item_op P.links numbered s item)
    → FitsCall member (item_op P.links numbered s item)
    → GoesOn (result_types (result_of member.desc)) (item_falls_through item) (row_by reading frame (item_row s frame place item))
read_call_goes P member numbered s frame place item reads_itself read linked is =
    let on = call_item_goes member P.links numbered s frame place item is in
    record { gives = on.gives; row_goes = on.row_goes; falls_through = on.falls_through }
read_call_goes P member numbered s frame place item (reads_object class) read linked is = absurd (subst (FitsCall member) read is)
read_call_goes P member numbered s frame place item (reads_pop desc) read linked is =
    let same : member.desc ≡ read.reference.desc = subst (FitsCall member) read.calls is in
    record {
      gives = ap result_types (sym (ap result_of same ∙ object_init_void P s read linked));
      row_goes = refl;
      falls_through = (call_item_goes member P.links numbered s frame place item is).falls_through;
    }

-- ---- a frame that waited for a call goes on

pub leads_on : (t : Typing) (n : ℕ) (frame : Frame) (given : List VType) (falls : Bool) (row : Row) → GoesOn given falls row
    → IfSome (if falls then row_frame frame row else None) (LeadsTo t n)
    → LeadsTo t n (record { locals = row.locals; stack = stack_behind frame row })
leads_on t n frame given falls row on next = by falls row.goes_on on.falls_through on.row_goes next where
  by : (a b : Bool) → a ≡ true → b ≡ true
      → IfSome (if a then (if b then Some (record { locals = row.locals; stack = stack_behind frame row }) else None) else None) (LeadsTo t n)
      → LeadsTo t n (record { locals = row.locals; stack = stack_behind frame row })
  by true true e f leads = leads
  by true false e f leads = cc
  by false b e f leads = cc

pub resumes : (P : Program) (T : Typings) (m : Memory) → IsTypedProgram P T → IsTypedMemory P m → (f : MethodState) (member : Member)
    → Waits P T m.heap f (FitsCall member)
    → (vs : List Value) → ((s : RowScope) → AllConform P s m.heap (result_types (result_of member.desc)) vs) → Does P T m.heap (resumed f vs)
resumes P T m program memory f member waits vs given =
    let p = waits.stands.fits in
    let on =
    read_call_goes P member p.numbered p.scope p.frame p.place p.item p.reading (subst (MayBeRead p.reading p.frame) p.is_op p.read)
    (subst (IsLinkedCall P p.scope) p.is_op p.call) (subst (FitsCall member) p.is_op waits.waited) in
    does_there P T m program memory f waits.stands (f.place + 1) (record { locals = (row_at p).locals; stack = stack_behind p.frame (row_at p) })
    (leads_on (T f.at) (f.place + 1) p.frame (result_types (result_of member.desc)) (item_falls_through p.item) (row_at p) on p.next)
    f.locals (reverse vs ++ f.stack) waits.stands.paired waits.locals
    (pushed f.stack vs waits.stack (subst (λ ts. AllConform P (T f.at).scope m.heap ts vs) (sym on.gives) (given (T f.at).scope)))

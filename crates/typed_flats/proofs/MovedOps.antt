-- Operations among classes whose flags are cleared.
use Rattle.std.proofs.Common.{◌≡◌, ◌==◌, ℕ, [], Option, Some, None, option_map, if◌then◌else◌, refl, ap}
use Rattle.class_model.specs.declared.header.Header.{Header}
use Rattle.class_model.specs.declared.instr.Instr.TheVariants as instrs
use Rattle.class_model.specs.declared.opcodes.TheConstants.{INVOKEINTERFACE, INVOKESPECIAL, INVOKESTATIC, INVOKEVIRTUAL}
use Rattle.class_model.specs.Pool.{constant_at}
use Rattle.class_model.specs.PoolChecks.{descriptor_at, name_at}
use Rattle.class_model.specs.declared.pool.Const.{Const}
use Rattle.class_model.specs.declared.pool.Const.TheVariants as consts
use Rattle.class_tree.specs.Headers.{Name, class_named}
use Rattle.class_tree.specs.Laws.Alike.{no_twin}
use Rattle.member_link.specs.Bodies.{CodeItem, item_instr}
use Rattle.member_link.specs.Laws.TranslatedOps.{dynamic_of}
use Rattle.member_link.specs.Machine.Codes.{call_op, dynamic_op, item_op, or_meaningless, special_start}
use Rattle.member_link.specs.Machine.Ops.{Op, call_interface, call_special, call_static, call_virtual, get_field, get_static, meaningless, new_array, new_arrays, new_object, push_constant, put_field, put_static}
use Rattle.member_link.specs.Machine.Programs.{Links, Program, headers_in}
use Rattle.member_link.specs.Machine.Replaced.{Replacement, replaced}
use Rattle.member_link.specs.References.{Reference}
use Rattle.member_link.specs.RowScope.{RowScope}
use Rattle.member_link.specs.Forms.{IsInstanceForm, IsStaticForm}
use Rattle.member_link.specs.Signatures.{reference_of}
use Rattle.typed_flats.proofs.MovedClasses.{moved_instantiable, moved_library, moved_named}
use Rattle.typed_flats.proofs.GrownLaws.{GrownLaws}
use Rattle.typed_flats.proofs.GrownScopes.{scope_in}
use Rattle.typed_flats.proofs.MovedLinks.{moved_instance_field, moved_method, moved_static_field, same_shapes}
use Rattle.typed_flats.proofs.ReplacedClasses.{class_in}
use Rattle.typed_runs.specs.LinkedCalls.{IsLinkedCall}
use Rattle.typed_runs.specs.TypedPoints.{IsLinkedOp}
use Rattle.typed_runs.specs.TypedPrograms.{IsTypedProgram, Typings}

module _ {P : Program} {T : Typings} (typed : IsTypedProgram P T) (r : Replacement) (none : (class : ℕ) → r.added class ≡ []) (laws : GrownLaws) where
  -- ---- operations

  module _ (s : RowScope) (are : s.headers ≡ headers_in P) where
    start_same : (links : Links) (name : Name) → special_start links (scope_in P r s) name ≡ special_start links s name
    start_same links name = by (class_named (headers_in P) name) refl where
      by : (found : Option Header) → class_named (headers_in P) name ≡ found
          → special_start links (scope_in P r s) name ≡ special_start links s name
      by None is =
          rw (no_twin (headers_in P) (headers_in (replaced P r)) (same_shapes typed r none laws) name is, are, is) refl
      by (Some header) is = rw (class_in r none P name header is, are, is) refl

    call_same : (links : Links) (opcode : ℕ) (named : Reference) → call_op links (scope_in P r s) opcode named ≡ call_op links s opcode named
    call_same links opcode named =
        ap (λ (start : Name). if opcode == INVOKEVIRTUAL then call_virtual named
        else (if opcode == INVOKESPECIAL then call_special named start
        else (if opcode == INVOKESTATIC then call_static named
        else (if opcode == INVOKEINTERFACE then call_interface named
        else meaningless)))) (start_same links named.class)

    named_same : (links : Links) (opcode : ℕ) (found : Option Reference)
        → or_meaningless (option_map (call_op links (scope_in P r s) opcode) found) ≡ or_meaningless (option_map (call_op links s opcode) found)
    named_same links opcode None = refl
    named_same links opcode (Some named) = call_same links opcode named

    dynamic_same : (found : Option Const) → dynamic_op (scope_in P r s) found ≡ dynamic_op s found
    dynamic_same (Some (consts.InvokeDynamic bootstrap member)) = by (name_at s.pool member) (descriptor_at s.pool member) where
      by : (name desc : Option Name) → dynamic_of (scope_in P r s) bootstrap name desc ≡ dynamic_of s bootstrap name desc
      by None desc = refl
      by (Some name) None = refl
      by (Some name) (Some desc) = refl
    dynamic_same found = refl

    pub same_op : (links : Links) (numbered : ℕ → ℕ) (item : CodeItem)
        → item_op links numbered (scope_in P r s) item ≡ item_op links numbered s item
    same_op links numbered (item_instr (instrs.Invoke opcode index count)) = named_same links opcode (reference_of s.pool (constant_at s.pool index))
    same_op links numbered (item_instr (instrs.Dynamic index)) = dynamic_same (constant_at s.pool index)
    same_op links numbered item = refl

  -- ---- what linking says

  pub moved_op : (s : RowScope) (place : ℕ) (op : Op) → IsLinkedOp P s place op
      → IsLinkedOp (replaced P r) (record s { headers = headers_in (replaced P r) }) place op
  moved_op s place (push_constant constant) is = moved_library typed r none laws _ is
  moved_op s place (get_static named) is = moved_static_field typed r none laws named is
  moved_op s place (put_static named initialises) is = moved_static_field typed r none laws named is
  moved_op s place (get_field named) is = moved_instance_field typed r none laws named is
  moved_op s place (put_field named initialises) is = moved_instance_field typed r none laws named is
  moved_op s place (call_static named) is = (moved_method typed r none laws IsStaticForm named is.0, is.1)
  moved_op s place (call_virtual named) is = (moved_method typed r none laws IsInstanceForm named is.0, is.1)
  moved_op s place (call_interface named) is = (moved_method typed r none laws IsInstanceForm named is.0, is.1)
  moved_op s place (call_special named from) is = moved_method typed r none laws IsInstanceForm named is
  moved_op s place (new_object name) is = (moved_instantiable typed r none laws name is.0, is.1)
  moved_op s place (new_array desc) is = (is.0, moved_named typed r none laws desc is.1)
  moved_op s place (new_arrays desc dimensions) is = (is.0, is.1, moved_named typed r none laws desc is.2)
  moved_op s place op is = is

  pub moved_call : (s : RowScope) (op : Op) → IsLinkedCall P s op → IsLinkedCall (replaced P r) (scope_in P r s) op
  moved_call s (call_virtual named) is = moved_named typed r none laws named.class is
  moved_call s (call_special named from) is = record {
    named = moved_named typed r none laws named.class is.named;
    void = is.void;
    own = class_in r none P s.own.name s.own is.own;
  }
  moved_call s op is = is

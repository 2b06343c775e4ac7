use Rattle.std.specs.Prelude.{◌≡◌, ◌==◌, ◌&&◌, refl, ℕ, Bool, true, false, List, [], ◌∷◌, nat_le, bytes_eq, Option, Some, None, option_map}
use Rattle.std.proofs.Common.{ap, sym, ◌∙◌, subst}
use Rattle.std.proofs.lemmas.Slice.Eq.{bytes_eq-Decides}
use Rattle.class_model.specs.Names.{init}
use Rattle.class_model.specs.Pool.{constant_at}
use Rattle.class_model.specs.PoolChecks.{class_at, name_at, descriptor_at}
use Rattle.class_model.specs.declared.frame.Frame.{Frame}
use Rattle.class_model.specs.declared.instr.Instr.TheVariants as instrs
use Rattle.class_model.specs.declared.opcodes.TheConstants.{IALOAD, SALOAD, IASTORE, SASTORE, IFEQ, IFLE, IF_ICMPEQ, IF_ICMPLE, IF_ACMPEQ, IF_ACMPNE, IFNULL, IFNONNULL, INVOKEVIRTUAL, INVOKESPECIAL, INVOKESTATIC, INVOKEINTERFACE}
use Rattle.class_model.specs.declared.pool.Const.{Const}
use Rattle.class_model.specs.declared.pool.Const.TheVariants as consts
use Rattle.machine_values.specs.Frames.{MethodState}
use Rattle.machine_values.specs.declared.frame.RunFrame.{RunFrame}
use Rattle.member_link.specs.Bodies.{CodeItem, item_instr, item_row, item_targets, item_falls_through}
use Rattle.member_link.specs.Machine.Codes.{item_op, or_meaningless, call_op, dynamic_op, special_start, initialises}
use Rattle.member_link.specs.Machine.Ops.{Op, meaningless, get_static, put_static, get_field, put_field, call_special, new_object, new_array, new_arrays, load_element, store_element, check_cast, instance_of, jump_by_int, jump_by_ints, jump_by_references, jump_by_null}
use Rattle.member_link.specs.Machine.Programs.{Program}
use Rattle.member_link.specs.Machine.Stepping.{op_step, step}
use Rattle.member_link.specs.Machine.Worlds.{World}
use Rattle.member_link.specs.References.{Reference}
use Rattle.member_link.specs.RowScope.{RowScope}
use Rattle.member_link.specs.Rows.ArrayRows.{primitive_array, array_of}
use Rattle.member_link.specs.Rows.MemberRows.{call_row, dynamic_row, init_row, special_row, argument_needs, receiver, result_types}
use Rattle.member_link.specs.Rows.Operands.{IsInitialised, single}
use Rattle.member_link.specs.Rows.Readings.{reads_itself, reads_object, reads_pop}
use Rattle.member_link.specs.Rows.Row.{Row, access_aside, either, plain, no_row}
use Rattle.member_link.specs.Signatures.{reference_of, result_of}
use Rattle.typed_runs.proofs.Basics.{same_number}
use Rattle.typed_runs.proofs.DynamicCalls.{dynamic_stays}
use Rattle.typed_runs.proofs.FamilySteps.{EachReadStays, family_step}
use Rattle.typed_runs.proofs.Here.{Here}
use Rattle.typed_runs.proofs.InitialiserCalls.{init_stays}
use Rattle.typed_runs.proofs.InstanceCalls.{virtual_stays, interface_stays}
use Rattle.typed_runs.proofs.LookedUp.{LookUps}
use Rattle.typed_runs.proofs.OpSorts.{of_calls, sort_of_op, not_of_family}
use Rattle.typed_runs.proofs.OtherOperations.{IsNot}
use Rattle.typed_runs.proofs.ReadCalls.{object_init_stays}
use Rattle.member_link.specs.Laws.TranslatedOps.{constant_has, dynamic_of, found_has, return_has, tested_has}
use Rattle.typed_runs.proofs.SpecialCalls.{special_stays}
use Rattle.typed_runs.proofs.StaticCalls.{static_stays}
use Rattle.typed_runs.specs.Families.{Calls, NextIs}
use Rattle.typed_runs.specs.LinkedCalls.{IsLinkedCall, IsLinkedSpecial}
use Rattle.typed_runs.specs.TypedFrames.{Does}
use Rattle.typed_runs.specs.TypedPoints.{IsLinkedOp}
use Rattle.typed_runs.specs.TypedPrograms.{Typings}
use Rattle.typed_runs.specs.TypedWorlds.{TypedWorld, StaysTyped}

-- the row of a dynamic call, by its descriptor
abbrev pub parts_row : Frame → Option (List ℕ) → Row
parts_row frame None = no_row frame
parts_row frame (Some desc) = plain frame (argument_needs desc) (result_types (result_of desc))

-- what is shown of a call of an opcode
abbrev pub StaysOf : (P : Program) (T : Typings) (w : World) (f : MethodState) → List RunFrame → RowScope → Frame → ℕ → (ℕ → ℕ)
    → Reference → ℕ → Type 0
StaysOf P T w f rest s frame place numbered r opcode =
    IsLinkedCall P s (call_op P.links s opcode r) → Here P T w f rest s frame place numbered
    (access_aside (call_row s frame opcode (Some r))) (call_op P.links s opcode r) true []
    → StaysTyped P T w (op_step P w f rest (call_op P.links s opcode r))

module _ {P : Program} {T : Typings} {w : World} {f : MethodState} {rest : List RunFrame} {s : RowScope} {frame : Frame} {place : ℕ}
    {numbered : ℕ → ℕ} (laws : LookUps) where
  -- ---- by the opcode

  -- an invokespecial of an instance initialiser, and of another method
  pub special_named : (r : Reference) → IsLinkedCall P s (call_special r (special_start P.links s r.class)) → (b : Bool)
      → bytes_eq r.name init ≡ b
      → Here P T w f rest s frame place numbered (access_aside (either b (init_row s frame r) (special_row s frame r)))
      (call_special r (special_start P.links s r.class)) true []
      → StaysTyped P T w (op_step P w f rest (call_special r (special_start P.links s r.class)))
  special_named r linked true e h = init_stays laws r (special_start P.links s r.class) h
      ((bytes_eq-Decides r.name init).0 e) linked.named (linked.void ((bytes_eq-Decides r.name init).0 e)) linked.own
  special_named r linked false e h = special_stays laws r other linked.named linked.own h where
    other : r.name ≡ init → ⊥
    other is = let both : true ≡ false = sym ((bytes_eq-Decides r.name init).1 is) ∙ e in cc

  pub opcode_stays : Does P T w.memory.heap f → (r : Reference) (opcode : ℕ) → StaysOf P T w f rest s frame place numbered r opcode
  opcode_stays does r opcode = by_virtual (opcode == INVOKEVIRTUAL) refl where
    no_opcode : (opcode == INVOKEVIRTUAL) ≡ false → (opcode == INVOKESPECIAL) ≡ false → (opcode == INVOKESTATIC) ≡ false
        → (opcode == INVOKEINTERFACE) ≡ false → call_op P.links s opcode r ≡ meaningless
    no_opcode a b c d = rw a (rw b (rw c (rw d refl)))

    by_interface : (opcode == INVOKEVIRTUAL) ≡ false → (opcode == INVOKESPECIAL) ≡ false → (opcode == INVOKESTATIC) ≡ false → (b : Bool)
        → (opcode == INVOKEINTERFACE) ≡ b → StaysOf P T w f rest s frame place numbered r opcode
    by_interface v sp st true e = subst (StaysOf P T w f rest s frame place numbered r) (sym (same_number opcode INVOKEINTERFACE e))
        (λ linked h. interface_stays laws r h)
    by_interface v sp st false e = λ linked h. absurd (subst (IsLinkedOp P (T f.at).scope place) (no_opcode v sp st e) h.linked)

    by_static : (opcode == INVOKEVIRTUAL) ≡ false → (opcode == INVOKESPECIAL) ≡ false → (b : Bool) → (opcode == INVOKESTATIC) ≡ b
        → StaysOf P T w f rest s frame place numbered r opcode
    by_static v sp true e = subst (StaysOf P T w f rest s frame place numbered r) (sym (same_number opcode INVOKESTATIC e))
        (λ linked h. static_stays laws does r h)
    by_static v sp false e = by_interface v sp e (opcode == INVOKEINTERFACE) refl

    by_special : (opcode == INVOKEVIRTUAL) ≡ false → (b : Bool) → (opcode == INVOKESPECIAL) ≡ b
        → StaysOf P T w f rest s frame place numbered r opcode
    by_special v true e = subst (StaysOf P T w f rest s frame place numbered r) (sym (same_number opcode INVOKESPECIAL e))
        (λ linked h. special_named r linked (bytes_eq r.name init) refl h)
    by_special v false e = by_static v e (opcode == INVOKESTATIC) refl

    by_virtual : (b : Bool) → (opcode == INVOKEVIRTUAL) ≡ b → StaysOf P T w f rest s frame place numbered r opcode
    by_virtual true e = subst (StaysOf P T w f rest s frame place numbered r) (sym (same_number opcode INVOKEVIRTUAL e))
        (λ linked h. virtual_stays laws r linked h)
    by_virtual false e = by_special e (opcode == INVOKESPECIAL) refl

  -- ---- by the constant

  pub call_stays : Does P T w.memory.heap f → (opcode : ℕ) (o : Option Reference)
      → IsLinkedCall P s (or_meaningless (option_map (call_op P.links s opcode) o))
      → Here P T w f rest s frame place numbered (access_aside (call_row s frame opcode o))
      (or_meaningless (option_map (call_op P.links s opcode) o)) true []
      → StaysTyped P T w (op_step P w f rest (or_meaningless (option_map (call_op P.links s opcode) o)))
  call_stays does opcode None linked h = absurd h.linked
  call_stays does opcode (Some r) linked h = opcode_stays does r opcode linked h

  pub dynamic_parts : (bootstrap : ℕ) (n d : Option (List ℕ))
      → Here P T w f rest s frame place numbered (access_aside (parts_row frame d)) (dynamic_of s bootstrap n d) true []
      → StaysTyped P T w (op_step P w f rest (dynamic_of s bootstrap n d))
  dynamic_parts bootstrap None d h = absurd h.linked
  dynamic_parts bootstrap (Some n) None h = absurd h.linked
  dynamic_parts bootstrap (Some n) (Some d) h = dynamic_stays s.own.name bootstrap n d h

  pub dynamic_call_stays : (c : Option Const) → Here P T w f rest s frame place numbered (access_aside (dynamic_row s frame c))
      (dynamic_op s c) true [] → StaysTyped P T w (op_step P w f rest (dynamic_op s c))
  dynamic_call_stays None h = absurd h.linked
  dynamic_call_stays (Some (consts.InvokeDynamic bootstrap member)) h =
      dynamic_parts bootstrap (name_at s.pool member) (descriptor_at s.pool member) h
  dynamic_call_stays (Some c) h = absurd h.linked

  -- ---- by the item

  pub item_calls : Does P T w.memory.heap f → (item : CodeItem) → Calls (item_op P.links numbered s item)
      → IsLinkedCall P s (item_op P.links numbered s item)
      → Here P T w f rest s frame place numbered (access_aside (item_row s frame place item)) (item_op P.links numbered s item)
      (item_falls_through item) (item_targets item)
      → StaysTyped P T w (op_step P w f rest (item_op P.links numbered s item))
  item_calls does (item_instr (instrs.Invoke opcode index count)) is linked h =
      call_stays does opcode (reference_of s.pool (constant_at s.pool index)) linked h
  item_calls does (item_instr (instrs.Dynamic index)) is linked h = dynamic_call_stays (constant_at s.pool index) h
  item_calls does (item_instr (instrs.Ldc index)) is linked h =
      absurd (constant_has (IsNot Calls) (λ no. no) s.pool (constant_at s.pool index) (λ v no. no) (λ c no. no) is)
  item_calls does (item_instr (instrs.Ldc2 index)) is linked h =
      absurd (constant_has (IsNot Calls) (λ no. no) s.pool (constant_at s.pool index) (λ v no. no) (λ c no. no) is)
  item_calls does (item_instr (instrs.ArrayLoad opcode)) is linked h =
      absurd (tested_has (IsNot Calls) (λ no. no) (nat_le IALOAD opcode && nat_le opcode SALOAD) (load_element opcode) (λ no. no) is)
  item_calls does (item_instr (instrs.ArrayStore opcode)) is linked h =
      absurd (tested_has (IsNot Calls) (λ no. no) (nat_le IASTORE opcode && nat_le opcode SASTORE) (store_element opcode) (λ no. no) is)
  item_calls does (item_instr (instrs.If opcode target)) is linked h =
      absurd (tested_has (IsNot Calls) (λ no. no) (nat_le IFEQ opcode && nat_le opcode IFLE) (jump_by_int opcode (numbered target)) (λ no. no) is)
  item_calls does (item_instr (instrs.If2 opcode target)) is linked h =
      absurd (tested_has (IsNot Calls) (λ no. no) (nat_le IF_ICMPEQ opcode && nat_le opcode IF_ICMPLE) (jump_by_ints opcode (numbered target))
      (λ no. no) is)
  item_calls does (item_instr (instrs.IfSame opcode target)) is linked h =
      absurd (tested_has (IsNot Calls) (λ no. no) (nat_le IF_ACMPEQ opcode && nat_le opcode IF_ACMPNE)
      (jump_by_references opcode (numbered target)) (λ no. no) is)
  item_calls does (item_instr (instrs.IfNull opcode target)) is linked h =
      absurd (tested_has (IsNot Calls) (λ no. no) (nat_le IFNULL opcode && nat_le opcode IFNONNULL) (jump_by_null opcode (numbered target))
      (λ no. no) is)
  item_calls does (item_instr (instrs.Return kind)) is linked h =
      absurd (return_has (IsNot Calls) (λ no. no) s.result kind (λ no. no) (λ t no. no) is)
  item_calls does (item_instr (instrs.GetStatic index)) is linked h =
      absurd (found_has (IsNot Calls) (λ no. no) (reference_of s.pool (constant_at s.pool index)) get_static (λ r no. no) is)
  item_calls does (item_instr (instrs.PutStatic index)) is linked h =
      absurd (found_has (IsNot Calls) (λ no. no) (reference_of s.pool (constant_at s.pool index))
      (λ r. put_static r (initialises s.is_clinit s.own)) (λ r no. no) is)
  item_calls does (item_instr (instrs.GetField index)) is linked h =
      absurd (found_has (IsNot Calls) (λ no. no) (reference_of s.pool (constant_at s.pool index)) get_field (λ r no. no) is)
  item_calls does (item_instr (instrs.PutField index)) is linked h =
      absurd (found_has (IsNot Calls) (λ no. no) (reference_of s.pool (constant_at s.pool index)) (λ r. put_field r (initialises s.is_init s.own))
      (λ r no. no) is)
  item_calls does (item_instr (instrs.New index)) is linked h =
      absurd (found_has (IsNot Calls) (λ no. no) (class_at s.pool index) new_object (λ r no. no) is)
  item_calls does (item_instr (instrs.NewArray code)) is linked h =
      absurd (found_has (IsNot Calls) (λ no. no) (primitive_array code) new_array (λ r no. no) is)
  item_calls does (item_instr (instrs.NewRefArray index)) is linked h =
      absurd (found_has (IsNot Calls) (λ no. no) (array_of (class_at s.pool index)) new_array (λ r no. no) is)
  item_calls does (item_instr (instrs.NewMulti index dimensions)) is linked h =
      absurd (found_has (IsNot Calls) (λ no. no) (class_at s.pool index) (λ name. new_arrays name dimensions) (λ r no. no) is)
  item_calls does (item_instr (instrs.Cast index)) is linked h =
      absurd (found_has (IsNot Calls) (λ no. no) (class_at s.pool index) check_cast (λ r no. no) is)
  item_calls does (item_instr (instrs.InstanceOf index)) is linked h =
      absurd (found_has (IsNot Calls) (λ no. no) (class_at s.pool index) instance_of (λ r no. no) is)
  item_calls does item is linked h = absurd is

-- ---- a call, however it is read

each_call : (P : Program) (T : Typings) → LookUps → EachReadStays P T Calls
each_call P T laws w f rest s frame place numbered item reads_itself read is linked d h = item_calls laws d item is linked h
each_call P T laws w f rest s frame place numbered (item_instr (instrs.Invoke opcode index count)) (reads_pop desc) read is linked d h =
    subst (λ (op : Op). IsLinkedCall P s op → Here P T w f rest s frame place numbered (plain frame (single ∷ argument_needs desc) []) op true []
    → StaysTyped P T w (op_step P w f rest op))
    (sym read.calls) initialises linked h where
      initialises : IsLinkedSpecial P s read.reference
          → Here P T w f rest s frame place numbered (plain frame (single ∷ argument_needs desc) []) (call_special read.reference read.from) true []
          → StaysTyped P T w (op_step P w f rest (call_special read.reference read.from))
      initialises l k =
          object_init_stays laws read.reference read.from read.of_object
          (subst (λ (d : List ℕ). IsInitialised (receiver frame d)) (sym read.same_desc) read.initialised) l.named
          (subst (λ (d : List ℕ). Here P T w f rest s frame place numbered (plain frame (single ∷ argument_needs d) [])
          (call_special read.reference read.from) true []) (sym read.same_desc) k)
each_call P T laws w f rest s frame place numbered item (reads_pop desc) read is linked d h =
    absurd (not_of_family P.links numbered s item of_calls (ap sort_of_op read.calls) (λ e. cc) (λ e. cc))
each_call P T laws w f rest s frame place numbered item (reads_object class) read is linked d h = absurd (subst Calls read is)

-- ---- a step

pub calls_next_typed : LookUps → (P : Program) (T : Typings) (w : World) → TypedWorld P T w → NextIs Calls P w.frames → StaysTyped P T w (step P w)
calls_next_typed laws P T w typed next = family_step P T Calls (each_call P T laws) w typed next

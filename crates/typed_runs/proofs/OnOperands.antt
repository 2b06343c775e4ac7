use Rattle.std.specs.Prelude.{◌&&◌, refl, ℕ, true, List, [], ◌∷◌, nat_le, Option, Some, None, option_map}
use Rattle.class_model.specs.Pool.{Constants, constant_at}
use Rattle.class_model.specs.PoolChecks.{utf8_at, class_at}
use Rattle.class_model.specs.declared.frame.Frame.{Frame}
use Rattle.class_model.specs.declared.instr.Instr.TheVariants as instrs
use Rattle.class_model.specs.declared.opcodes.TheConstants.{IALOAD, SALOAD, IASTORE, SASTORE}
use Rattle.class_model.specs.declared.pool.Const.{Const}
use Rattle.class_model.specs.declared.pool.Const.TheVariants as consts
use Rattle.class_tree.specs.Headers.{Name}
use Rattle.class_tree.specs.Names.{method_handle}
use Rattle.machine_values.specs.Frames.{MethodState}
use Rattle.machine_values.specs.declared.frame.RunFrame.{RunFrame}
use Rattle.machine_values.specs.declared.object.Constant.TheVariants as objects
use Rattle.member_link.specs.Bodies.{CodeItem, item_instr, item_null_test, item_row, item_targets, item_falls_through}
use Rattle.member_link.specs.Machine.Codes.{item_op, constant_op, or_meaningless, naming, call_op, initialises}
use Rattle.member_link.specs.Machine.Ops.{push_constant, get_static, put_static, get_field, put_field, new_object, new_array, new_arrays, load_element, store_element, check_cast, instance_of}
use Rattle.member_link.specs.Machine.Programs.{Program}
use Rattle.member_link.specs.Machine.Stepping.{op_step, step}
use Rattle.member_link.specs.Machine.Worlds.{World}
use Rattle.member_link.specs.References.{Reference}
use Rattle.member_link.specs.RowScope.{RowScope}
use Rattle.member_link.specs.Rows.ArrayRows.{primitive_array, array_of}
use Rattle.member_link.specs.Rows.LocalRows.{const_row}
use Rattle.member_link.specs.Signatures.{reference_of}
use Rattle.member_link.specs.Rows.Operands.{initialised}
use Rattle.member_link.specs.Rows.Row.{access_aside, plain}
use Rattle.member_link.specs.Rows.Table.{cast_row}
use Rattle.class_model.specs.declared.frame.VType.TheVariants as types
use Rattle.typed_runs.proofs.Arithmetic.{pure_stays}
use Rattle.typed_runs.proofs.Casts.{cast_stays, instance_of_stays}
use Rattle.typed_runs.proofs.Constants.{imm_conforms, value_stays, named_stays, pushed_stays}
use Rattle.typed_runs.proofs.Divisions.{divide_stays}
use Rattle.typed_runs.proofs.Floats.{float_stays}
use Rattle.typed_runs.proofs.Monitors.{enter_stays, leave_stays, null_test_stays}
use Rattle.typed_runs.proofs.FamilySteps.{as_it_is, family_step}
use Rattle.typed_runs.proofs.Here.{Here}
use Rattle.typed_runs.proofs.Jumps.{if_stays, if2_stays, if_same_stays, if_null_stays, goto_stays}
use Rattle.typed_runs.proofs.Moves.{nop_stays, load_stays, store_stays, iinc_stays}
use Rattle.typed_runs.proofs.Shuffles.{shuffle_stays}
use Rattle.typed_runs.proofs.Switches.{table_stays, lookup_stays}
use Rattle.typed_runs.proofs.OtherOperations.{IsNot}
use Rattle.member_link.specs.Laws.TranslatedOps.{call_has, dynamic_has, found_has, return_has, tested_has}
use Rattle.typed_runs.specs.Conforming.{an_int, a_long, a_float, a_double}
use Rattle.typed_runs.specs.Families.{NextIs, WorksOnOperands}
use Rattle.typed_runs.specs.TypedPrograms.{Typings}
use Rattle.typed_runs.specs.TypedWorlds.{TypedWorld, StaysTyped}

-- ---- one of the family, by its item

module _ {P : Program} {T : Typings} {w : World} {f : MethodState} {rest : List RunFrame} {s : RowScope} {frame : Frame} {place : ℕ} {numbered : ℕ → ℕ} where
  pub handle_stays : (r : Option Reference) (kind : ℕ)
      → Here P T w f rest s frame place numbered (plain frame [] (types.Object method_handle ∷ [])) (or_meaningless (option_map push_constant (option_map (λ (x : Reference). objects.Handle kind x.class x.name x.desc) r))) true []
      → StaysTyped P T w (op_step P w f rest (or_meaningless (option_map push_constant (option_map (λ (x : Reference). objects.Handle kind x.class x.name x.desc) r))))
  handle_stays None kind h = absurd h.linked
  handle_stays (Some r) kind h = pushed_stays (objects.Handle kind r.class r.name r.desc) h

  pub constant_stays : (pool : Constants) (c : Option Const) → WorksOnOperands (constant_op pool c)
      → Here P T w f rest s frame place numbered (access_aside (const_row frame c)) (constant_op pool c) true [] → StaysTyped P T w (op_step P w f rest (constant_op pool c))
  constant_stays pool (Some (consts.Integer n)) is h = value_stays _ _ an_int h
  constant_stays pool (Some (consts.Long n)) is h = value_stays _ _ a_long h
  constant_stays pool (Some (consts.Float n)) is h = value_stays _ _ a_float h
  constant_stays pool (Some (consts.Double n)) is h = value_stays _ _ a_double h
  constant_stays pool (Some (consts.String t)) is h = named_stays (utf8_at pool t) objects.Str _ (λ a. refl) h
  constant_stays pool (Some (consts.Class t)) is h = named_stays (utf8_at pool t) objects.Class _ (λ a. refl) h
  constant_stays pool (Some (consts.MethodType t)) is h = named_stays (utf8_at pool t) objects.MethodType _ (λ a. refl) h
  constant_stays pool (Some (consts.MethodHandle kind reference)) is h = handle_stays (reference_of pool (constant_at pool reference)) kind h
  constant_stays pool c is h = absurd is

  pub cast_named : (name : Option Name) → Here P T w f rest s frame place numbered (access_aside (cast_row frame name)) (naming name check_cast) true []
      → StaysTyped P T w (op_step P w f rest (naming name check_cast))
  cast_named None h = absurd h.linked
  cast_named (Some name) h = cast_stays name h

  pub instance_named : (name : Option Name) → Here P T w f rest s frame place numbered (plain frame (initialised ∷ []) (types.Int ∷ [])) (naming name instance_of) true []
      → StaysTyped P T w (op_step P w f rest (naming name instance_of))
  instance_named None h = absurd h.linked
  instance_named (Some name) h = instance_of_stays name h

  pub item_stays : (item : CodeItem) → WorksOnOperands (item_op P.links numbered s item)
      → Here P T w f rest s frame place numbered (access_aside (item_row s frame place item)) (item_op P.links numbered s item) (item_falls_through item) (item_targets item)
      → StaysTyped P T w (op_step P w f rest (item_op P.links numbered s item))
  item_stays (item_null_test local) is h = null_test_stays local h
  item_stays (item_instr instrs.Nop) is h = nop_stays h
  item_stays (item_instr (instrs.Const imm)) is h = value_stays _ _ (imm_conforms imm) h
  item_stays (item_instr (instrs.Ldc index)) is h = constant_stays s.pool (constant_at s.pool index) is h
  item_stays (item_instr (instrs.Ldc2 index)) is h = constant_stays s.pool (constant_at s.pool index) is h
  item_stays (item_instr (instrs.Load kind at)) is h = load_stays kind at h
  item_stays (item_instr (instrs.Store kind at)) is h = store_stays kind at h
  item_stays (item_instr (instrs.Iinc at by)) is h = iinc_stays at by h
  item_stays (item_instr (instrs.ArrayLoad opcode)) is h = absurd (tested_has (IsNot WorksOnOperands) (λ no. no) (nat_le IALOAD opcode && nat_le opcode SALOAD) (load_element opcode) (λ no. no) is)
  item_stays (item_instr (instrs.ArrayStore opcode)) is h = absurd (tested_has (IsNot WorksOnOperands) (λ no. no) (nat_le IASTORE opcode && nat_le opcode SASTORE) (store_element opcode) (λ no. no) is)
  item_stays (item_instr (instrs.Shuffle opcode)) is h = shuffle_stays opcode h
  item_stays (item_instr (instrs.Pure opcode)) is h = pure_stays opcode h
  item_stays (item_instr (instrs.Divide opcode)) is h = divide_stays opcode h
  item_stays (item_instr (instrs.FloatAsk opcode)) is h = float_stays opcode h
  item_stays (item_instr (instrs.If opcode target)) is h = if_stays opcode target h
  item_stays (item_instr (instrs.If2 opcode target)) is h = if2_stays opcode target h
  item_stays (item_instr (instrs.IfSame opcode target)) is h = if_same_stays opcode target h
  item_stays (item_instr (instrs.IfNull opcode target)) is h = if_null_stays opcode target h
  item_stays (item_instr (instrs.Goto target)) is h = goto_stays target h
  item_stays (item_instr (instrs.Table low other targets)) is h = table_stays low other targets h
  item_stays (item_instr (instrs.Lookup other pairs)) is h = lookup_stays other pairs h
  item_stays (item_instr (instrs.Return kind)) is h = absurd (return_has (IsNot WorksOnOperands) (λ no. no) s.result kind (λ no. no) (λ t no. no) is)
  item_stays (item_instr (instrs.GetStatic index)) is h = absurd (found_has (IsNot WorksOnOperands) (λ no. no) (reference_of s.pool (constant_at s.pool index)) get_static (λ r no. no) is)
  item_stays (item_instr (instrs.PutStatic index)) is h = absurd (found_has (IsNot WorksOnOperands) (λ no. no) (reference_of s.pool (constant_at s.pool index)) (λ r. put_static r (initialises s.is_clinit s.own)) (λ r no. no) is)
  item_stays (item_instr (instrs.GetField index)) is h = absurd (found_has (IsNot WorksOnOperands) (λ no. no) (reference_of s.pool (constant_at s.pool index)) get_field (λ r no. no) is)
  item_stays (item_instr (instrs.PutField index)) is h = absurd (found_has (IsNot WorksOnOperands) (λ no. no) (reference_of s.pool (constant_at s.pool index)) (λ r. put_field r (initialises s.is_init s.own)) (λ r no. no) is)
  item_stays (item_instr (instrs.Invoke opcode index count)) is h = absurd (found_has (IsNot WorksOnOperands) (λ no. no) (reference_of s.pool (constant_at s.pool index)) (call_op P.links s opcode) (λ r. call_has (IsNot WorksOnOperands) (λ no. no) P.links s opcode r (λ no. no) (λ start no. no) (λ no. no) (λ no. no)) is)
  item_stays (item_instr (instrs.Dynamic index)) is h = absurd (dynamic_has (IsNot WorksOnOperands) (λ no. no) s (constant_at s.pool index) (λ class bootstrap name desc no. no) is)
  item_stays (item_instr (instrs.New index)) is h = absurd (found_has (IsNot WorksOnOperands) (λ no. no) (class_at s.pool index) new_object (λ r no. no) is)
  item_stays (item_instr (instrs.NewArray code)) is h = absurd (found_has (IsNot WorksOnOperands) (λ no. no) (primitive_array code) new_array (λ r no. no) is)
  item_stays (item_instr (instrs.NewRefArray index)) is h = absurd (found_has (IsNot WorksOnOperands) (λ no. no) (array_of (class_at s.pool index)) new_array (λ r no. no) is)
  item_stays (item_instr (instrs.NewMulti index dimensions)) is h = absurd (found_has (IsNot WorksOnOperands) (λ no. no) (class_at s.pool index) (λ name. new_arrays name dimensions) (λ r no. no) is)
  item_stays (item_instr instrs.Length) is h = absurd is
  item_stays (item_instr instrs.Throw) is h = absurd is
  item_stays (item_instr (instrs.Cast index)) is h = cast_named (class_at s.pool index) h
  item_stays (item_instr (instrs.InstanceOf index)) is h = instance_named (class_at s.pool index) h
  item_stays (item_instr instrs.Enter) is h = enter_stays h
  item_stays (item_instr instrs.Leave) is h = leave_stays h

-- ---- a step

pub steps_typed : (P : Program) (T : Typings) (w : World) → TypedWorld P T w → NextIs WorksOnOperands P w.frames → StaysTyped P T w (step P w)
steps_typed P T w typed next =
    family_step P T WorksOnOperands
    (as_it_is P T WorksOnOperands (record { no_new = λ name no. no; no_special = λ r from no. no })
    (λ v f rest s frame place numbered item is d h. item_stays item is h)) w typed next

use Rattle.std.specs.Prelude.{◌≡◌, ◌&&◌, nat_le, refl, ℕ, true, List, [], ◌∷◌}
use Rattle.std.proofs.Common.{sym, subst}
use Rattle.class_model.specs.Pool.{constant_at}
use Rattle.class_model.specs.PoolChecks.{class_at}
use Rattle.class_model.specs.declared.frame.Frame.{Frame}
use Rattle.class_model.specs.declared.frame.VType.TheVariants as types
use Rattle.class_model.specs.declared.instr.Instr.TheVariants as instrs
use Rattle.class_model.specs.declared.opcodes.TheConstants.{IFEQ, IFLE, IF_ICMPEQ, IF_ICMPLE, IF_ACMPEQ, IF_ACMPNE, IFNULL, IFNONNULL}
use Rattle.machine_values.specs.Frames.{MethodState}
use Rattle.machine_values.specs.declared.frame.RunFrame.{RunFrame}
use Rattle.member_link.specs.Bodies.{CodeItem, item_instr, item_row, item_targets, item_falls_through}
use Rattle.member_link.specs.Machine.Codes.{item_op, call_op, initialises}
use Rattle.member_link.specs.Machine.Ops.{Op, jump_by_int, jump_by_ints, jump_by_references, jump_by_null, get_static, put_static, get_field, put_field, check_cast, instance_of, new_object, new_array, new_arrays, load_element, store_element, array_length}
use Rattle.member_link.specs.Machine.Programs.{Program}
use Rattle.member_link.specs.Machine.Stepping.{op_step, step}
use Rattle.member_link.specs.Machine.Worlds.{World}
use Rattle.member_link.specs.RowScope.{RowScope}
use Rattle.member_link.specs.Rows.ArrayRows.{primitive_array, array_of}
use Rattle.member_link.specs.Rows.Readings.{reads_itself, reads_object, reads_pop}
use Rattle.member_link.specs.Rows.Row.{access_aside, plain}
use Rattle.member_link.specs.Signatures.{reference_of}
use Rattle.typed_runs.proofs.ArrayLengths.{length_stays}
use Rattle.typed_runs.proofs.ElementLoads.{load_stays}
use Rattle.typed_runs.proofs.ElementStores.{store_stays}
use Rattle.typed_runs.proofs.FamilySteps.{EachReadStays, as_it_is, family_step}
use Rattle.typed_runs.proofs.Here.{Here}
use Rattle.typed_runs.proofs.NestedArrays.{named_arrays_stays}
use Rattle.typed_runs.proofs.NewArrays.{named_array_stays}
use Rattle.typed_runs.proofs.NewObjects.{initialised_object_stays, named_object_stays}
use Rattle.typed_runs.proofs.OpSorts.{of_news, sort_of_op, not_of_family}
use Rattle.typed_runs.proofs.OtherOperations.{IsNot}
use Rattle.member_link.specs.Laws.TranslatedOps.{call_has, constant_has, dynamic_has, found_has, return_has, tested_has}
use Rattle.typed_runs.specs.Families.{NextIs, WorksOnArrays, MakesObject}
use Rattle.typed_runs.specs.TypedFrames.{Does}
use Rattle.typed_runs.specs.TypedPrograms.{Typings}
use Rattle.typed_runs.specs.TypedWorlds.{TypedWorld, StaysTyped}

-- an operation of either family
abbrev pub UsesObjects : Op → Type 0
UsesObjects (new_object name) = Unit {0}
UsesObjects (new_array desc) = Unit {0}
UsesObjects (new_arrays desc dimensions) = Unit {0}
UsesObjects (load_element opcode) = Unit {0}
UsesObjects (store_element opcode) = Unit {0}
UsesObjects array_length = Unit {0}
UsesObjects op = ⊥

pub of_arrays : (op : Op) → WorksOnArrays op → UsesObjects op
of_arrays (new_array desc) is = tt
of_arrays (new_arrays desc dimensions) is = tt
of_arrays (load_element opcode) is = tt
of_arrays (store_element opcode) is = tt
of_arrays array_length is = tt
of_arrays op is = absurd is

pub of_objects : (op : Op) → MakesObject op → UsesObjects op
of_objects (new_object name) is = tt
of_objects op is = absurd is

module _ (P : Program) (T : Typings) where
  pub object_stays : (w : World) (f : MethodState) (rest : List RunFrame) (s : RowScope) (frame : Frame) (place : ℕ) (numbered : ℕ → ℕ)
      (item : CodeItem) → UsesObjects (item_op P.links numbered s item)
      → Does P T w.memory.heap f
      → Here P T w f rest s frame place numbered (access_aside (item_row s frame place item)) (item_op P.links numbered s item)
      (item_falls_through item) (item_targets item)
      → StaysTyped P T w (op_step P w f rest (item_op P.links numbered s item))
  object_stays w f rest s frame place numbered (item_instr (instrs.ArrayLoad opcode)) is d h = load_stays opcode h
  object_stays w f rest s frame place numbered (item_instr (instrs.ArrayStore opcode)) is d h = store_stays opcode h
  object_stays w f rest s frame place numbered (item_instr (instrs.New index)) is d h = named_object_stays (class_at s.pool index) h d
  object_stays w f rest s frame place numbered (item_instr (instrs.NewArray code)) is d h = named_array_stays (primitive_array code) h
  object_stays w f rest s frame place numbered (item_instr (instrs.NewRefArray index)) is d h =
      named_array_stays (array_of (class_at s.pool index)) h
  object_stays w f rest s frame place numbered (item_instr (instrs.NewMulti index dimensions)) is d h =
      named_arrays_stays (class_at s.pool index) dimensions h
  object_stays w f rest s frame place numbered (item_instr instrs.Length) is d h = length_stays h
  object_stays w f rest s frame place numbered (item_instr (instrs.Ldc index)) is d h =
      absurd (constant_has (IsNot UsesObjects) (λ no. no) s.pool (constant_at s.pool index) (λ v no. no) (λ x no. no) is)
  object_stays w f rest s frame place numbered (item_instr (instrs.Ldc2 index)) is d h =
      absurd (constant_has (IsNot UsesObjects) (λ no. no) s.pool (constant_at s.pool index) (λ v no. no) (λ x no. no) is)
  object_stays w f rest s frame place numbered (item_instr (instrs.If opcode target)) is d h =
      absurd (tested_has (IsNot UsesObjects) (λ no. no) (nat_le IFEQ opcode && nat_le opcode IFLE)
      (jump_by_int opcode (numbered target)) (λ no. no) is)
  object_stays w f rest s frame place numbered (item_instr (instrs.If2 opcode target)) is d h =
      absurd (tested_has (IsNot UsesObjects) (λ no. no) (nat_le IF_ICMPEQ opcode && nat_le opcode IF_ICMPLE)
      (jump_by_ints opcode (numbered target)) (λ no. no) is)
  object_stays w f rest s frame place numbered (item_instr (instrs.IfSame opcode target)) is d h =
      absurd (tested_has (IsNot UsesObjects) (λ no. no) (nat_le IF_ACMPEQ opcode && nat_le opcode IF_ACMPNE)
      (jump_by_references opcode (numbered target)) (λ no. no) is)
  object_stays w f rest s frame place numbered (item_instr (instrs.IfNull opcode target)) is d h =
      absurd (tested_has (IsNot UsesObjects) (λ no. no) (nat_le IFNULL opcode && nat_le opcode IFNONNULL)
      (jump_by_null opcode (numbered target)) (λ no. no) is)
  object_stays w f rest s frame place numbered (item_instr (instrs.Return kind)) is d h =
      absurd (return_has (IsNot UsesObjects) (λ no. no) s.result kind (λ no. no) (λ t no. no) is)
  object_stays w f rest s frame place numbered (item_instr (instrs.GetStatic index)) is d h =
      absurd (found_has (IsNot UsesObjects) (λ no. no) (reference_of s.pool (constant_at s.pool index)) get_static (λ r no. no) is)
  object_stays w f rest s frame place numbered (item_instr (instrs.PutStatic index)) is d h =
      absurd (found_has (IsNot UsesObjects) (λ no. no) (reference_of s.pool (constant_at s.pool index))
      (λ r. put_static r (initialises s.is_clinit s.own)) (λ r no. no) is)
  object_stays w f rest s frame place numbered (item_instr (instrs.GetField index)) is d h =
      absurd (found_has (IsNot UsesObjects) (λ no. no) (reference_of s.pool (constant_at s.pool index)) get_field (λ r no. no) is)
  object_stays w f rest s frame place numbered (item_instr (instrs.PutField index)) is d h =
      absurd (found_has (IsNot UsesObjects) (λ no. no) (reference_of s.pool (constant_at s.pool index))
      (λ r. put_field r (initialises s.is_init s.own)) (λ r no. no) is)
  object_stays w f rest s frame place numbered (item_instr (instrs.Invoke opcode index count)) is d h =
      absurd (found_has (IsNot UsesObjects) (λ no. no) (reference_of s.pool (constant_at s.pool index)) (call_op P.links s opcode)
      (λ r. call_has (IsNot UsesObjects) (λ no. no) P.links s opcode r (λ no. no) (λ start no. no) (λ no. no) (λ no. no)) is)
  object_stays w f rest s frame place numbered (item_instr (instrs.Dynamic index)) is d h =
      absurd (dynamic_has (IsNot UsesObjects) (λ no. no) s (constant_at s.pool index) (λ class bootstrap name desc no. no) is)
  object_stays w f rest s frame place numbered (item_instr (instrs.Cast index)) is d h =
      absurd (found_has (IsNot UsesObjects) (λ no. no) (class_at s.pool index) check_cast (λ n no. no) is)
  object_stays w f rest s frame place numbered (item_instr (instrs.InstanceOf index)) is d h =
      absurd (found_has (IsNot UsesObjects) (λ no. no) (class_at s.pool index) instance_of (λ n no. no) is)
  object_stays w f rest s frame place numbered item is d h = absurd is

  -- ---- an object that is made, however it is read

  makes_object : (op : Op) → MakesObject op → sort_of_op op ≡ of_news
  makes_object (new_object name) is = refl
  makes_object op is = absurd is

  each_object : EachReadStays P T MakesObject
  each_object w f rest s frame place numbered item reads_itself read is linked d h =
      object_stays w f rest s frame place numbered item (of_objects (item_op P.links numbered s item) is) d h
  each_object w f rest s frame place numbered (item_instr (instrs.New index)) (reads_object class) read is linked d h =
      subst (λ (op : Op). Here P T w f rest s frame place numbered (plain frame [] (types.Object class ∷ [])) op true [] → StaysTyped P T w (op_step P w f rest op))
      (sym read) (λ k. initialised_object_stays class k d) h
  each_object w f rest s frame place numbered item (reads_object class) read is linked d h =
      absurd (not_of_family P.links numbered s item of_news (makes_object (item_op P.links numbered s item) is) (λ e. cc) (λ e. cc))
  each_object w f rest s frame place numbered item (reads_pop desc) read is linked d h = absurd (subst MakesObject read.calls is)

  -- ---- a step

  pub arrays_typed : (w : World) → TypedWorld P T w → NextIs WorksOnArrays P w.frames → StaysTyped P T w (step P w)
  arrays_typed w typed next =
      family_step P T WorksOnArrays
      (as_it_is P T WorksOnArrays (record { no_new = λ name no. no; no_special = λ r from no. no })
      (λ v f rest s frame place numbered item is. object_stays v f rest s frame place numbered item (of_arrays (item_op P.links numbered s item) is)))
      w typed next

  pub objects_typed : (w : World) → TypedWorld P T w → NextIs MakesObject P w.frames → StaysTyped P T w (step P w)
  objects_typed w typed next = family_step P T MakesObject each_object w typed next

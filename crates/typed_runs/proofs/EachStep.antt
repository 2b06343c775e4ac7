-- Each step of a typed world, by the family of its operation.
use Rattle.std.specs.Prelude.{◌≡◌, refl, List, [], ◌∷◌, true, IfSome}
use Rattle.std.proofs.Common.{sym, subst}
use Rattle.machine_values.specs.declared.frame.RunFrame.{RunFrame}
use Rattle.machine_values.specs.declared.frame.RunFrame.TheVariants as frames
use Rattle.member_link.specs.Machine.Ops.{Op, no_operation, meaningless, push_value, push_constant, load_local, store_local, increment_local, test_local, shuffle_stack, pure_arithmetic, division, float_arithmetic, jump_by_int, jump_by_ints, jump_by_references, jump_by_null, jump_to, table_switch, lookup_switch, return_nothing, return_value, throw_reference, get_static, put_static, get_field, put_field, call_static, call_virtual, call_interface, call_special, call_dynamic, new_object, new_array, new_arrays, load_element, store_element, array_length, check_cast, instance_of, enter_monitor, leave_monitor}
use Rattle.member_link.specs.Machine.Programs.{Program, Point}
use Rattle.member_link.specs.Machine.Stepping.{step, is_library_turn}
use Rattle.member_link.specs.Machine.Worlds.{World}
use Rattle.typed_runs.specs.Families.{BeginsClass, Calls, EndsMethod, MakesObject, NamesField, NextIs, ThrowsReference, WorksOnArrays, WorksOnOperands}
use Rattle.typed_runs.specs.TypedFrames.{nothing_awaited, FramesConform, upon}
use Rattle.typed_runs.specs.TypedPoints.{IsLinkedOp}
use Rattle.typed_runs.specs.TypedPrograms.{Typings}
use Rattle.typed_runs.specs.TypedWorlds.{TypedWorld, StaysTyped}

-- ---- families

-- an operation is of a family, or it has no meaning
pub data OfFamily (op : Op) : Type 0 where
  on_operands : WorksOnOperands op → OfFamily op
  on_arrays : WorksOnArrays op → OfFamily op
  making : MakesObject op → OfFamily op
  on_fields : NamesField op → OfFamily op
  calling : Calls op → OfFamily op
  ending : EndsMethod op → OfFamily op
  throwing : ThrowsReference op → OfFamily op
  without_meaning : op ≡ meaningless → OfFamily op

pub family_of : (op : Op) → OfFamily op
family_of no_operation = on_operands tt
family_of meaningless = without_meaning refl
family_of (push_value value) = on_operands tt
family_of (push_constant constant) = on_operands tt
family_of (load_local kind at) = on_operands tt
family_of (store_local kind at) = on_operands tt
family_of (increment_local at by) = on_operands tt
family_of (test_local at) = on_operands tt
family_of (shuffle_stack opcode) = on_operands tt
family_of (pure_arithmetic opcode) = on_operands tt
family_of (division opcode) = on_operands tt
family_of (float_arithmetic opcode) = on_operands tt
family_of (jump_by_int opcode to) = on_operands tt
family_of (jump_by_ints opcode to) = on_operands tt
family_of (jump_by_references opcode to) = on_operands tt
family_of (jump_by_null opcode to) = on_operands tt
family_of (jump_to to) = on_operands tt
family_of (table_switch low other targets) = on_operands tt
family_of (lookup_switch other pairs) = on_operands tt
family_of return_nothing = ending tt
family_of (return_value type) = ending tt
family_of throw_reference = throwing tt
family_of (get_static r) = on_fields tt
family_of (put_static r initialises) = on_fields tt
family_of (get_field r) = on_fields tt
family_of (put_field r initialises) = on_fields tt
family_of (call_static r) = calling tt
family_of (call_virtual r) = calling tt
family_of (call_interface r) = calling tt
family_of (call_special r from) = calling tt
family_of (call_dynamic class bootstrap name desc) = calling tt
family_of (new_object name) = making tt
family_of (new_array desc) = on_arrays tt
family_of (new_arrays desc dimensions) = on_arrays tt
family_of (load_element opcode) = on_arrays tt
family_of (store_element opcode) = on_arrays tt
family_of array_length = on_arrays tt
family_of (check_cast name) = on_operands tt
family_of (instance_of name) = on_operands tt
family_of enter_monitor = on_operands tt
family_of leave_monitor = on_operands tt

-- ---- a step

-- a step of a family leaves a typed world
abbrev pub Stays : (Op → Type 0) → Type 0
Stays Family = (P : Program) (T : Typings) (w : World) → TypedWorld P T w → NextIs Family P w.frames → StaysTyped P T w (step P w)

-- each family does, and the beginnings of classes
pub record EachFamilyStays : Type 0 where
  pub operands : Stays WorksOnOperands
  pub arrays : Stays WorksOnArrays
  pub objects : Stays MakesObject
  pub fields : Stays NamesField
  pub calls : Stays Calls
  pub ends : Stays EndsMethod
  pub throws : Stays ThrowsReference
  pub beginnings : (P : Program) (T : Typings) (w : World) → TypedWorld P T w → BeginsClass w.frames → StaysTyped P T w (step P w)

-- at the library's turn the world stays
library_stays : (P : Program) (T : Typings) (w : World) → TypedWorld P T w → is_library_turn w.frames ≡ true → StaysTyped P T w (step P w)
library_stays P T w typed own = let same : step P w ≡ w = rw own refl in rw same (record { typed = typed; not_stuck = λ not. not })

pub each_step_typed : EachFamilyStays → (P : Program) (T : Typings) (w : World) → TypedWorld P T w → StaysTyped P T w (step P w)
each_step_typed each P T w typed = by w.frames refl typed.frames where
  by : (fs : List RunFrame) → w.frames ≡ fs → FramesConform P T w.memory.heap nothing_awaited fs → StaysTyped P T w (step P w)
  by [] same conform = elim conform [ ]
  by (frames.Library made ∷ rest) same conform = library_stays P T w typed (rw same refl)
  by (frames.Beginning class ∷ rest) same conform = each.beginnings P T w typed (subst BeginsClass (sym same) tt)
  by (frames.Method f ∷ rest) same (upon d below) = of_op (family_of d.stands.point.op) where
    next : (Family : Op → Type 0) → Family d.stands.point.op → NextIs Family P w.frames
    next Family is =
        subst (NextIs Family P) (sym same)
        (subst (λ p. IfSome p (λ (q : Point). Family q.op)) (sym d.stands.is_point) is)

    of_op : OfFamily d.stands.point.op → StaysTyped P T w (step P w)
    of_op (on_operands is) = each.operands P T w typed (next WorksOnOperands is)
    of_op (on_arrays is) = each.arrays P T w typed (next WorksOnArrays is)
    of_op (making is) = each.objects P T w typed (next MakesObject is)
    of_op (on_fields is) = each.fields P T w typed (next NamesField is)
    of_op (calling is) = each.calls P T w typed (next Calls is)
    of_op (ending is) = each.ends P T w typed (next EndsMethod is)
    of_op (throwing is) = each.throws P T w typed (next ThrowsReference is)
    of_op (without_meaning is) = absurd (subst (IsLinkedOp P (T f.at).scope d.stands.fits.place) is d.stands.fits.linked)

use Rattle.std.specs.Prelude.{◌≡◌, ◌⊎◌, refl, ℕ, pos, Bool, true, false, List, [], ◌∷◌, drop, take, reverse, Some, if◌then◌else◌}
use Rattle.std.proofs.Common.{arith, inl, inr}
use Rattle.class_model.specs.declared.frame.Frame.{Frame}
use Rattle.class_model.specs.declared.frame.VType.{VType}
use Rattle.class_model.specs.declared.frame.VType.TheVariants as types
use Rattle.class_tree.specs.Headers.{Name}
use Rattle.machine_values.specs.Frames.{MethodState}
use Rattle.machine_values.specs.Heaps.{Heap, object_at}
use Rattle.machine_values.specs.declared.frame.RunFrame.{RunFrame}
use Rattle.machine_values.specs.declared.object.Object.{Object}
use Rattle.machine_values.specs.declared.value.Value.{Value}
use Rattle.machine_values.specs.declared.value.Value.TheVariants as values
use Rattle.member_link.specs.Machine.Completions.{Completion, gives, raises}
use Rattle.member_link.specs.Machine.ObjectSteps.{check_cast_work, instance_of_work}
use Rattle.member_link.specs.Machine.Ops.{Op, check_cast, instance_of}
use Rattle.member_link.specs.Machine.Performing.{perform}
use Rattle.member_link.specs.Machine.Programs.{Program}
use Rattle.member_link.specs.Machine.Shapes.{is_instance}
use Rattle.member_link.specs.Machine.Stepping.{op_step}
use Rattle.member_link.specs.Machine.Throwables.{class_cast}
use Rattle.member_link.specs.Machine.Worlds.{World}
use Rattle.member_link.specs.RowScope.{RowScope}
use Rattle.member_link.specs.Rows.Operands.{initialised, IsInitialised, topmost}
use Rattle.member_link.specs.Rows.Row.{plain}
use Rattle.typed_runs.proofs.Here.{Here, operands_here, worked, gives_same}
use Rattle.typed_runs.proofs.Performing.{raises_goes}
use Rattle.typed_runs.proofs.Raising.{raises_cast}
use Rattle.typed_runs.proofs.Stacks.{Operands}
use Rattle.typed_runs.proofs.Taken.{one_of}
use Rattle.typed_runs.proofs.Unwinding.{instance_conforms}
use Rattle.typed_runs.specs.Conforming.{Conforms, an_int, only_null, null_object, an_object, HasShape, no_values, and_value}
use Rattle.typed_runs.specs.TypedPrograms.{Typings}
use Rattle.typed_runs.specs.TypedWorlds.{StaysTyped}

-- null, or the reference of an object
pub record IsObject (heap : Heap) (v : Value) : Type 0 where
  pub reference : ℕ
  pub is : v ≡ values.Ref reference
  pub object : Object
  pub is_there : object_at heap reference ≡ Some object

pub initialised_value : {P : Program} {s : RowScope} {h : Heap} {t : VType} {v : Value} → IsInitialised t → Conforms P s h t v → (v ≡ values.Null) ⊎ IsObject h v
initialised_value is only_null = inl refl
initialised_value is null_object = inl refl
initialised_value is (an_object {reference = r} shape c) = inr (record { reference = r; is = refl; object = shape.object; is_there = shape.is_there })
initialised_value is c = absurd is

module _ {P : Program} {T : Typings} {w : World} {f : MethodState} {rest : List RunFrame} {s : RowScope} {frame : Frame} {place : ℕ} {numbered : ℕ → ℕ} {op : Op} {given : List VType}
    (h : Here P T w f rest s frame place numbered (plain frame (initialised ∷ []) given) op true []) where
  pub of_object : (work : List Value → Completion)
      → ((v : Value) → (v ≡ values.Null) ⊎ IsObject w.memory.heap v → StaysTyped P T w (perform P w f (record f { stack = drop 1 f.stack }) rest (work (v ∷ []))))
      → StaysTyped P T w (perform P w f (record f { stack = drop 1 f.stack }) rest (work (reverse (take 1 f.stack))))
  of_object work proved = by f.stack refl (operands_here h) where
    by : (stack : List Value) → f.stack ≡ stack → Operands P (T f.at).scope w.memory.heap frame.stack stack 1
        → StaysTyped P T w (perform P w f (record f { stack = drop 1 f.stack }) rest (work (reverse (take 1 stack))))
    by [] e o = absurd (omega (arith, o.enough))
    by (v ∷ others) e o =
        let one = one_of s initialised (topmost 1 frame.stack) h.holds.operands o.values in
        proved v (initialised_value one.fits one.conforms)

module _ {P : Program} {T : Typings} {w : World} {f : MethodState} {rest : List RunFrame} {s : RowScope} {frame : Frame} {place : ℕ} {numbered : ℕ → ℕ} where
  pub cast_stays : (name : Name) → Here P T w f rest s frame place numbered (plain frame (initialised ∷ []) (types.Object name ∷ [])) (check_cast name) true []
      → StaysTyped P T w (op_step P w f rest (check_cast name))
  cast_stays name h = worked h 1 refl (operands_here h).enough (of_object h (check_cast_work P w.memory name) by) where
    of_test : (r : ℕ) (o : Object) → object_at w.memory.heap r ≡ Some o → (b : Bool) → is_instance P o.shape name ≡ b
        → StaysTyped P T w (perform P w f (record f { stack = drop 1 f.stack }) rest (if b then gives w.memory (values.Ref r ∷ []) else raises class_cast))
    of_test r o there true holds =
        let shape : HasShape w.memory.heap r o.shape = record { object = o; is_there = there; same = refl } in
        gives_same h (values.Ref r ∷ []) (and_value (an_object shape (instance_conforms P o.shape name holds)) no_values)
    of_test r o there false other = raises_goes h class_cast (drop 1 f.stack) (raises_cast P T h.typed.program)

    by : (v : Value) → (v ≡ values.Null) ⊎ IsObject w.memory.heap v → StaysTyped P T w (perform P w f (record f { stack = drop 1 f.stack }) rest (check_cast_work P w.memory name (v ∷ [])))
    by v (inl e) = rw e (gives_same h (values.Null ∷ []) (and_value null_object no_values))
    by v (inr o) = rw o.is (rw o.is_there (of_test o.reference o.object o.is_there (is_instance P o.object.shape name) refl))

  pub instance_of_stays : (name : Name) → Here P T w f rest s frame place numbered (plain frame (initialised ∷ []) (types.Int ∷ [])) (instance_of name) true []
      → StaysTyped P T w (op_step P w f rest (instance_of name))
  instance_of_stays name h = worked h 1 refl (operands_here h).enough (of_object h (instance_of_work P w.memory name) by) where
    by : (v : Value) → (v ≡ values.Null) ⊎ IsObject w.memory.heap v → StaysTyped P T w (perform P w f (record f { stack = drop 1 f.stack }) rest (instance_of_work P w.memory name (v ∷ [])))
    by v (inl e) = rw e (gives_same h (values.Int (pos 0) ∷ []) (and_value an_int no_values))
    by v (inr o) = rw o.is (rw o.is_there (gives_same h (values.Int (if is_instance P o.object.shape name then pos 1 else pos 0) ∷ []) (and_value an_int no_values)))

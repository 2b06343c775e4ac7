use Rattle.std.specs.Prelude.{◌≡◌, refl, ℕ, Bool, true, false, List, [], ◌∷◌, map, bytes_eq, Option, Some, None, is_some, option_and_then, if◌then◌else◌}
use Rattle.std.proofs.Common.{ap, sym, ◌∙◌, subst}
use Rattle.class_model.specs.Code.{verification_type}
use Rattle.class_model.specs.Descriptors.{parameters_of}
use Rattle.class_model.specs.Frames.{filled}
use Rattle.class_model.specs.Members.{has, STATIC}
use Rattle.class_model.specs.Names.{clinit, init}
use Rattle.class_model.specs.declared.class_file.MethodAt.{MethodAt}
use Rattle.class_model.specs.declared.descriptor.FieldType.TheVariants as field_types
use Rattle.class_model.specs.declared.frame.VType.TheVariants as types
use Rattle.class_tree.specs.Headers.{Name}
use Rattle.machine_values.specs.declared.action.Given.{Given}
use Rattle.machine_values.specs.declared.value.Value.{Value}
use Rattle.machine_values.specs.declared.value.Value.TheVariants as values
use Rattle.member_link.specs.Machine.Acting.{fault, given_values, all_conform, beginning_if, begins_with_angle, call_of_static, call_on, call_of_instance, call_by_sort, call_of_method, call_at, act_call}
use Rattle.member_link.specs.Machine.Performing.{is_initialiser, called}
use Rattle.member_link.specs.Machine.Programs.{Program, RunMethod, Code, name_of_class, place_of_method, run_method, code_run, code_at}
use Rattle.member_link.specs.Machine.Shapes.{value_conforms}
use Rattle.member_link.specs.Machine.Stepping.{is_library_turn}
use Rattle.member_link.specs.Machine.Throwables.{null_pointer}
use Rattle.member_link.specs.Machine.Worlds.{World}
use Rattle.member_link.specs.References.{Reference}
use Rattle.typed_runs.proofs.Basics.{and_first, and_second}
use Rattle.typed_runs.proofs.BeginningSteps.{MethodFound, method_found}
use Rattle.typed_runs.proofs.Entered.{stays_through, called_stays, beginning_if_stays}
use Rattle.typed_runs.proofs.Entering.{fields_are_no_top, static_entry, instance_entry}
use Rattle.typed_runs.proofs.Given.{given_conforms, all_given}
use Rattle.typed_runs.proofs.LibraryFrames.{fault_stays, under_any, library_can}
use Rattle.typed_runs.proofs.MethodsFound.{differ, no_angle, class_of_place, name_of_found}
use Rattle.typed_runs.proofs.Raising.{raises_null, raised_stays}
use Rattle.typed_runs.specs.Conforming.{AllConform, and_value}
use Rattle.typed_runs.specs.TypedPrograms.{Typings, entry}
use Rattle.typed_runs.specs.TypedWorlds.{TypedWorld, StaysTyped}

module _ (P : Program) (T : Typings) (w : World) (typed : TypedWorld P T w) (turn : is_library_turn w.frames ≡ true) where
  -- ---- a call

  pub static_stays : (class : Name) (desc : List ℕ) (at : MethodAt) (method : RunMethod) (code : Code) (vs : List Value)
      → run_method P at ≡ Some method → code_run method ≡ Some code
      → is_initialiser method ≡ false → has method.member.flags STATIC ≡ true → method.member.desc ≡ desc
      → StaysTyped P T w (call_of_static P w class desc at vs)
  static_stays class desc at method code vs run is plain static same = by (all_conform P w (parameters_of desc) vs) refl where
    begins : (entry P at method.member code).locals ≡ filled code.locals (map verification_type (parameters_of desc))
    begins =
        static_entry method.member.flags method.member.name (name_of_class P at.class) (parameters_of method.member.desc) code.locals
        static
        ∙ ap (λ d. filled code.locals (map verification_type (parameters_of d))) same

    by : (b : Bool) → all_conform P w (parameters_of desc) vs ≡ b
        → StaysTyped P T w (if b then beginning_if P class (called P w at vs w.frames) else fault w)
    by false e = fault_stays P T w typed
    by true e =
        let one = called_stays P T w typed at method code run is plain (map verification_type (parameters_of desc)) vs begins
        (fields_are_no_top (parameters_of desc))
        (all_given P w (T at).scope (parameters_of desc) vs e) w.frames (under_any P T w.memory.heap w.frames turn typed.frames) in
        stays_through one (beginning_if_stays P T (called P w at vs w.frames) class one.typed)

  -- on a receiver
  pub call_on_stays : (class : Name) (desc : List ℕ) (at : MethodAt) (method : RunMethod) (code : Code) (vs : List Value)
      → run_method P at ≡ Some method → code_run method ≡ Some code
      → is_initialiser method ≡ false → (entry P at method.member code).locals ≡ filled code.locals
      (types.Object class ∷ map verification_type (parameters_of desc))
      → AllConform P (T at).scope w.memory.heap (map verification_type (parameters_of desc)) vs
      → (receiver : Value) → value_conforms P w.memory.heap (field_types.Named class) receiver ≡ true
      → StaysTyped P T w (call_on P w at vs receiver)
  call_on_stays class desc at method code vs run is plain begins all values.Null conforms =
      raised_stays P T w null_pointer w.frames typed (raises_null P T typed.program)
      (library_can P T w.memory.heap w.frames turn typed.frames)
  call_on_stays class desc at method code vs run is plain begins all (values.Ref r) conforms =
      called_stays P T w typed at method code run is plain (types.Object class ∷ map verification_type (parameters_of desc))
      (values.Ref r ∷ vs) begins
      ((λ e. cc), fields_are_no_top (parameters_of desc)) (and_value
      (given_conforms P (T at).scope w.memory.heap (field_types.Named class) (values.Ref r) conforms) all)
      w.frames (under_any P T w.memory.heap w.frames turn typed.frames)
  call_on_stays class desc at method code vs run is plain begins all (values.Int n) conforms = cc
  call_on_stays class desc at method code vs run is plain begins all (values.Long n) conforms = cc
  call_on_stays class desc at method code vs run is plain begins all (values.Float n) conforms = cc
  call_on_stays class desc at method code vs run is plain begins all (values.Double n) conforms = cc

  pub instance_stays : (class : Name) (desc : List ℕ) (at : MethodAt) (method : RunMethod) (code : Code) (vs : List Value)
      → run_method P at ≡ Some method → code_run method ≡ Some code
      → is_initialiser method ≡ false → bytes_eq init method.member.name ≡ false → has method.member.flags STATIC ≡ false
      → method.member.desc ≡ desc → name_of_class P at.class ≡ class
      → StaysTyped P T w (call_of_instance P w class desc at vs)
  instance_stays class desc at method code [] run is plain other flat same named = fault_stays P T w typed
  instance_stays class desc at method code (receiver ∷ vs) run is plain other flat same named =
      by (all_conform P w (field_types.Named class ∷ parameters_of desc) (receiver ∷ vs)) refl where
        begins : (entry P at method.member code).locals ≡ filled code.locals (types.Object class ∷ map verification_type (parameters_of desc))
        begins =
            instance_entry method.member.flags method.member.name (name_of_class P at.class) (parameters_of method.member.desc) code.locals
            flat other
            ∙ (ap (λ d. filled code.locals (types.Object (name_of_class P at.class) ∷ map verification_type (parameters_of d))) same
            ∙ ap (λ n. filled code.locals (types.Object n ∷ map verification_type (parameters_of desc))) named)

        by : (b : Bool) → all_conform P w (field_types.Named class ∷ parameters_of desc) (receiver ∷ vs) ≡ b
            → StaysTyped P T w (if b then call_on P w at vs receiver else fault w)
        by false e = fault_stays P T w typed
        by true e =
            let one : value_conforms P w.memory.heap (field_types.Named class) receiver ≡ true =
            and_first (value_conforms P w.memory.heap (field_types.Named class) receiver) (all_conform P w (parameters_of desc) vs) e in
            let others : all_conform P w (parameters_of desc) vs ≡ true =
            and_second (value_conforms P w.memory.heap (field_types.Named class) receiver) (all_conform P w (parameters_of desc) vs) e in
            call_on_stays class desc at method code vs run is plain begins (all_given P w (T at).scope (parameters_of desc) vs others)
            receiver one

  pub method_stays : (class : Name) (name desc : List ℕ) (at : MethodAt) (vs : List Value) → begins_with_angle name ≡ false
      → place_of_method P (record { class = class; name = name; desc = desc }) ≡ Some at
      → StaysTyped P T w (call_of_method P w class desc at vs (run_method P at))
  method_stays class name desc at vs plain place = subst (λ m. StaysTyped P T w (call_of_method P w class desc at vs m)) (sym f.run)
      (by (code_at P at) refl) where
        r : Reference
        r = record { class = class; name = name; desc = desc }

        f : MethodFound P r at
        f = method_found P r at place

        no_clinit : is_initialiser f.method ≡ false
        no_clinit = differ f.method.member.name clinit (λ e. no_angle name clinit plain refl (sym f.name ∙ e))

        no_init : bytes_eq init f.method.member.name ≡ false
        no_init = differ init f.method.member.name (λ e. no_angle name init plain refl (sym (e ∙ f.name)))

        by_sort : (code : Code) → code_run f.method ≡ Some code → (b : Bool) → has f.method.member.flags STATIC ≡ b
            → StaysTyped P T w (call_by_sort P w class desc at vs b)
        by_sort code is true e = static_stays class desc at f.method code vs f.run is no_clinit e f.desc
        by_sort code is false e = instance_stays class desc at f.method code vs f.run is no_clinit no_init e f.desc
            (name_of_found P class at.class (class_of_place P r at place))

        by : (c : Option Code) → code_at P at ≡ c → StaysTyped P T w (if is_some c then call_by_sort P w class desc at vs
            (has f.method.member.flags STATIC) else fault w)
        by None e = fault_stays P T w typed
        by (Some code) e = by_sort code (sym (ap (λ o. option_and_then code_run o) f.run) ∙ e) (has f.method.member.flags STATIC) refl

  pub call_stays : (class : Name) (name desc : List ℕ) (given : List Given) → StaysTyped P T w (act_call P w class name desc given)
  call_stays class name desc given = by (begins_with_angle name) refl where
    by_place : begins_with_angle name ≡ false → (at : Option MethodAt)
        → place_of_method P (record { class = class; name = name; desc = desc }) ≡ at → (vs : Option (List Value))
        → StaysTyped P T w (call_at P w class desc at vs)
    by_place plain None e vs = fault_stays P T w typed
    by_place plain (Some at) e None = fault_stays P T w typed
    by_place plain (Some at) e (Some vs) = method_stays class name desc at vs plain e

    by : (b : Bool) → begins_with_angle name ≡ b
        → StaysTyped P T w (if b then fault w else call_at P w class desc
        (place_of_method P (record { class = class; name = name; desc = desc })) (given_values w.known given))
    by true e = fault_stays P T w typed
    by false e = by_place e (place_of_method P (record { class = class; name = name; desc = desc })) refl (given_values w.known given)

use Rattle.std.specs.Prelude.{◌≡◌, ◌&&◌, refl, ℕ, Bool, true, false, List, ◌∷◌, map, bytes_eq, Option, Some, None, is_some, option_and_then, if◌then◌else◌}
use Rattle.std.proofs.Common.{ap, sym, ◌∙◌, subst}
use Rattle.class_model.specs.Code.{verification_type}
use Rattle.class_model.specs.Descriptors.{parameters_of}
use Rattle.class_model.specs.Frames.{filled}
use Rattle.class_model.specs.Names.{clinit, init}
use Rattle.class_model.specs.declared.class_file.MethodAt.{MethodAt}
use Rattle.class_model.specs.declared.frame.VType.TheVariants as types
use Rattle.class_tree.specs.Headers.{Name}
use Rattle.class_tree.specs.Layouts.{instance_fields}
use Rattle.class_tree.specs.Subtype.{itself}
use Rattle.machine_values.specs.Heaps.{Made}
use Rattle.machine_values.specs.Values.{blank_values}
use Rattle.machine_values.specs.declared.action.Given.{Given}
use Rattle.machine_values.specs.declared.object.Shape.TheVariants as shapes
use Rattle.machine_values.specs.declared.value.Value.{Value}
use Rattle.machine_values.specs.declared.value.Value.TheVariants as values
use Rattle.member_link.specs.Machine.Acting.{fault, given_values, all_conform, is_handled, is_concrete, with_made, constructed, construct_at, act_construct}
use Rattle.member_link.specs.Machine.ObjectSteps.{blank_object}
use Rattle.member_link.specs.Machine.Performing.{is_initialiser, called}
use Rattle.member_link.specs.Machine.Programs.{Program, Code, headers_in, header_named, folder_number, name_of_class, place_of_method, code_run, code_at}
use Rattle.member_link.specs.Machine.Stepping.{is_library_turn}
use Rattle.member_link.specs.Machine.Worlds.{World, with_heap}
use Rattle.member_link.specs.References.{Reference}
use Rattle.typed_runs.proofs.Basics.{and_second, some_of}
use Rattle.typed_runs.proofs.BeginningSteps.{MethodFound, method_found, flags_of}
use Rattle.typed_runs.proofs.Blanks.{blank_object_holds}
use Rattle.typed_runs.proofs.Entered.{stays_through, called_stays, beginning_if_stays}
use Rattle.typed_runs.proofs.Entering.{fields_are_no_top, initialiser_entry}
use Rattle.typed_runs.proofs.Given.{all_given}
use Rattle.typed_runs.proofs.Here.{stays}
use Rattle.typed_runs.proofs.Kept.{Keeps, frames_kept, all_kept, there}
use Rattle.typed_runs.proofs.LibraryFrames.{fault_stays, made_below}
use Rattle.typed_runs.proofs.Memories.{made_keeps, made_shape, made_typed}
use Rattle.typed_runs.proofs.MethodsFound.{class_of_place}
use Rattle.typed_runs.specs.Conforming.{HasShape, Conforms, of_this, and_value, IsTypedMemory}
use Rattle.typed_runs.specs.TypedPrograms.{Typings, IsTypedMethod, entry}
use Rattle.typed_runs.specs.TypedWorlds.{TypedWorld, StaysTyped}

module _ (P : Program) (T : Typings) (w : World) (typed : TypedWorld P T w) (turn : is_library_turn w.frames ≡ true) where
  -- ---- a construction

  pub constructed_stays : (class : Name) (desc : List ℕ) (at : MethodAt) (code : Code) (vs : List Value)
      → place_of_method P (record { class = class; name = init; desc = desc }) ≡ Some at
      → code_at P at ≡ Some code → all_conform P w (parameters_of desc) vs ≡ true
      → StaysTyped P T w (constructed P w class at vs (blank_object P w.memory.heap at.class))
  constructed_stays class desc at code vs place is_code conform =
      stays_through stored (stays_through entered (beginning_if_stays P T
      (called P v at (values.Ref made.reference ∷ vs) (with_made made.reference w.frames)) class entered.typed)) where
        r : Reference
        r = record { class = class; name = init; desc = desc }

        f : MethodFound P r at
        f = method_found P r at place

        run : code_run f.method ≡ Some code
        run = sym (ap (λ o. option_and_then code_run o) f.run) ∙ is_code

        fields : List Value
        fields = blank_values (instance_fields (headers_in P) (name_of_class P at.class))

        made : Made
        made = blank_object P w.memory.heap at.class

        keep : Keeps w.memory.heap made.heap
        keep = made_keeps w.memory.heap (shapes.Folder at.class) fields

        memory : IsTypedMemory P (with_heap w.memory made.heap)
        memory = made_typed P w.memory (shapes.Folder at.class) fields typed.memory
            (blank_object_holds P made.heap at.class f.class f.is_class)

        shape : HasShape made.heap made.reference (shapes.Folder at.class)
        shape = made_shape w.memory.heap (shapes.Folder at.class) fields

        v : World
        v = record w { memory = with_heap w.memory made.heap }

        stored : StaysTyped P T w v
        stored = stays P T w (with_heap w.memory made.heap) w.frames typed keep memory (frames_kept keep typed.frames)

        of_method : IsTypedMethod P at f.method.member code (T at)
        of_method = typed.program.methods at f.method code f.run run

        this : Conforms P (T at).scope made.heap types.UninitThis (values.Ref made.reference)
        this = of_this shape (subst (λ n. P.links.below (name_of_class P at.class) n ≡ true) (sym of_method.own)
            ((typed.program.links.below (name_of_class P at.class) (name_of_class P at.class)).1 (itself (name_of_class P at.class))))

        plain : is_initialiser f.method ≡ false
        plain = subst (λ n. bytes_eq n clinit ≡ false) (sym f.name) refl

        begins : (entry P at f.method.member code).locals ≡ filled code.locals
            (types.UninitThis ∷ map verification_type (parameters_of desc))
        begins =
            subst (λ n. (entry P at (record f.method.member { name = n }) code).locals ≡ filled code.locals
            (types.UninitThis ∷ map verification_type (parameters_of desc))) (sym f.name)
            (initialiser_entry f.method.member.flags (name_of_class P at.class) (parameters_of f.method.member.desc) code.locals
            ((flags_of P T typed.program r at f).of_init f.name)
            ∙ ap (λ d. filled code.locals (types.UninitThis ∷ map verification_type (parameters_of d))) f.desc)

        entered : StaysTyped P T v (called P v at (values.Ref made.reference ∷ vs) (with_made made.reference w.frames))
        entered =
            called_stays P T v stored.typed at f.method code f.run run plain (types.UninitThis ∷ map verification_type
            (parameters_of desc)) (values.Ref made.reference ∷ vs) begins
            ((λ e. cc), fields_are_no_top (parameters_of desc)) (and_value this
            (all_kept keep (all_given P w (T at).scope (parameters_of desc) vs conform)))
            (with_made made.reference w.frames) (made_below P T made.heap made.reference w.frames turn (frames_kept keep typed.frames)
            (there shape))

  pub construct_stays : (class : Name) (desc : List ℕ) (given : List Given) → StaysTyped P T w (act_construct P w class desc given)
  construct_stays class desc given =
      by (folder_number P class) refl (place_of_method P (record { class = class; name = init; desc = desc })) refl
      (given_values w.known given) where
        by_test : (at : MethodAt) (vs : List Value) → place_of_method P (record { class = class; name = init; desc = desc }) ≡ Some at
            → (c : Option Code) → code_at P at ≡ c
            → (b : Bool) → (is_some c && (is_concrete (header_named P class) && (is_handled P class desc && all_conform P w
            (parameters_of desc) vs))) ≡ b
            → StaysTyped P T w (if b then constructed P w class at vs (blank_object P w.memory.heap at.class) else fault w)
        by_test at vs place c is_code false e = fault_stays P T w typed
        by_test at vs place None is_code true e = cc
        by_test at vs place (Some code) is_code true e =
            let rest : (is_handled P class desc && all_conform P w (parameters_of desc) vs) ≡ true =
            and_second (is_concrete (header_named P class)) (is_handled P class desc && all_conform P w (parameters_of desc) vs) e in
            constructed_stays class desc at code vs place is_code (and_second (is_handled P class desc)
            (all_conform P w (parameters_of desc) vs) rest)

        by : (n : Option ℕ) → folder_number P class ≡ n → (at : Option MethodAt)
            → place_of_method P (record { class = class; name = init; desc = desc }) ≡ at → (vs : Option (List Value))
            → StaysTyped P T w (construct_at P w class desc n at vs)
        by None of_class at e vs = fault_stays P T w typed
        by (Some n) of_class None e vs = fault_stays P T w typed
        by (Some n) of_class (Some at) e None = fault_stays P T w typed
        by (Some n) of_class (Some at) e (Some vs) =
            let same : n ≡ at.class = some_of (sym of_class ∙ class_of_place P (record { class = class; name = init; desc = desc }) at e)
            in
            subst (λ k. StaysTyped P T w (construct_at P w class desc (Some k) (Some at) (Some vs))) (sym same)
            (by_test at vs e (code_at P at) refl (is_some (code_at P at) && (is_concrete
            (header_named P class) && (is_handled P class desc && all_conform P w (parameters_of desc) vs))) refl)

use Rattle.std.specs.Prelude.{◌≡◌, ◌+◌, refl, ℕ, ℤ, pos, negsuc, Bool, true, false, List, [], slice_get, Option, Some, None, if◌then◌else◌}
use Rattle.std.proofs.Common.{sym, subst}
use Rattle.class_model.specs.Names.{init}
use Rattle.class_model.specs.declared.class_file.MethodAt.{MethodAt}
use Rattle.class_model.specs.declared.descriptor.FieldType.{FieldType}
use Rattle.class_tree.specs.Headers.{Name}
use Rattle.machine_values.specs.declared.action.Action.{Action}
use Rattle.machine_values.specs.declared.action.Action.TheVariants as actions
use Rattle.machine_values.specs.declared.action.Given.{Given}
use Rattle.machine_values.specs.declared.object.Object.{Object}
use Rattle.machine_values.specs.declared.object.Shape.{Shape}
use Rattle.machine_values.specs.declared.object.Shape.TheVariants as shapes
use Rattle.machine_values.specs.declared.value.Value.{Value}
use Rattle.machine_values.specs.Heaps.{Made}
use Rattle.member_link.specs.Machine.Acting.{fault, act_call, call_at, given_values, begins_with_angle, act_construct, construct_at, act_return, act_throw, waiting_in, Waiting, act_array_get, got_of_shape, got_of_value, act_array_set, set_of_shape, set_at, act_array_length, length_of_shape, shows_new, act_new_array, known_object, given_value, acted, is_fault, act}
use Rattle.member_link.specs.Machine.Programs.{Program, RunClass, folder_number, place_of_method}
use Rattle.member_link.specs.Machine.Stepping.{is_library_turn, step}
use Rattle.member_link.specs.Machine.Worlds.{World}
use Rattle.member_link.specs.References.{Reference}
use Rattle.never_stuck.specs.PlainFolders.{LibraryAlone}

module _ (P : Program) (none : P.classes ≡ []) where
  no_number : (name : Name) → folder_number P name ≡ None
  no_number name = subst (λ (cs : List RunClass). folder_number (record P { classes = cs }) name ≡ None) (sym none) refl

  no_place : (r : Reference) → place_of_method P r ≡ None
  no_place r = subst (λ (cs : List RunClass). place_of_method (record P { classes = cs }) r ≡ None) (sym none) refl

  module _ (w : World) (alone : LibraryAlone w) where
    fault_alone : LibraryAlone (fault w)
    fault_alone = record { frames = alone.frames; not_stuck = λ e. cc }

    none_waits : waiting_in P w.frames ≡ None
    none_waits = subst (λ fs. waiting_in P fs ≡ None) (sym alone.frames) refl

    call_alone : (class : Name) (name desc : List ℕ) (given : List Given) → LibraryAlone (act_call P w class name desc given)
    call_alone class name desc given = by (begins_with_angle name) (place_of_method P r) (no_place r) where
      r : Reference
      r = record { class = class; name = name; desc = desc }

      by : (b : Bool) (at : Option MethodAt) → at ≡ None → LibraryAlone (if b then fault w else call_at P w class desc at (given_values w.known given))
      by true at e = fault_alone
      by false None e = fault_alone
      by false (Some at) e = cc

    construct_alone : (class : Name) (desc : List ℕ) (given : List Given) → LibraryAlone (act_construct P w class desc given)
    construct_alone class desc given = by (folder_number P class) (no_number class) where
      by : (n : Option ℕ) → n ≡ None
          → LibraryAlone (construct_at P w class desc n (place_of_method P (record { class = class; name = init; desc = desc })) (given_values w.known given))
      by None e = fault_alone
      by (Some n) e = cc

    return_alone : (x : Option Waiting) → x ≡ None → (given : Option Given) → LibraryAlone (act_return P w x given)
    return_alone None e given = fault_alone
    return_alone (Some x) e given = cc

    throw_alone : (x : Option Waiting) → x ≡ None → (r : Option ℕ) → LibraryAlone (act_throw P w x r)
    throw_alone None e r = fault_alone
    throw_alone (Some x) e r = cc

    of_test : (b : Bool) {after : World} → LibraryAlone after → LibraryAlone (if b then after else fault w)
    of_test true is = is
    of_test false is = fault_alone

    get_alone : (o : Option Object) (index : ℤ) → LibraryAlone (act_array_get P w o index)
    get_alone None index = fault_alone
    get_alone (Some o) index = by o.shape where
      by_value : (v : Option Value) → LibraryAlone (got_of_value P w v)
      by_value None = fault_alone
      by_value (Some v) = record { frames = alone.frames; not_stuck = alone.not_stuck }

      by : (s : Shape) → LibraryAlone (got_of_shape P w o.values index s)
      by (shapes.Array desc len) = by_value _
      by (shapes.Folder class) = fault_alone
      by (shapes.External class also) = fault_alone

    set_alone : (r : Option ℕ) (o : Option Object) (index : ℤ) (v : Option Value) → LibraryAlone (act_array_set P w r o index v)
    set_alone None o index v = fault_alone
    set_alone (Some r) None index v = fault_alone
    set_alone (Some r) (Some o) index None = fault_alone
    set_alone (Some r) (Some o) index (Some v) = by o.shape where
      by_at : (t : FieldType) (at : Option ℕ) → LibraryAlone (set_at P w r t v at)
      by_at t None = fault_alone
      by_at t (Some at) = of_test _ (record { frames = alone.frames; not_stuck = alone.not_stuck })

      by : (s : Shape) → LibraryAlone (set_of_shape P w r index v s)
      by (shapes.Array desc len) = by_at _ _
      by (shapes.Folder class) = fault_alone
      by (shapes.External class also) = fault_alone

    length_alone : (o : Option Object) → LibraryAlone (act_array_length w o)
    length_alone None = fault_alone
    length_alone (Some o) = by o.shape where
      by : (s : Shape) → LibraryAlone (length_of_shape w s)
      by (shapes.Array desc len) = record { frames = alone.frames; not_stuck = alone.not_stuck }
      by (shapes.Folder class) = fault_alone
      by (shapes.External class also) = fault_alone

    new_alone : (made : Made) → LibraryAlone (shows_new P w made)
    new_alone made = record { frames = alone.frames; not_stuck = alone.not_stuck }

    new_array_alone : (desc : Name) (count : ℤ) → LibraryAlone (act_new_array P w desc count)
    new_array_alone desc (negsuc n) = fault_alone
    new_array_alone desc (pos count) = of_test _ (new_alone _)

    pub acted_alone : (action : Action) → LibraryAlone (acted P action w)
    acted_alone (actions.Call class name desc values) = call_alone class name desc values
    acted_alone (actions.Construct class desc values) = construct_alone class desc values
    acted_alone (actions.Return value) = return_alone (waiting_in P w.frames) none_waits value
    acted_alone (actions.Throw number) = throw_alone (waiting_in P w.frames) none_waits (slice_get w.known number)
    acted_alone (actions.ArrayGet number index) = get_alone (known_object w (slice_get w.known number)) index
    acted_alone (actions.ArraySet number index value) =
        set_alone (slice_get w.known number) (known_object w (slice_get w.known number)) index (given_value w.known value)
    acted_alone (actions.ArrayLength number) = length_alone (known_object w (slice_get w.known number))
    acted_alone (actions.NewArray desc count) = new_array_alone desc count
    acted_alone (actions.NewExternal class also) = of_test _ (new_alone _)
    acted_alone actions.Stop = record { frames = alone.frames; not_stuck = λ e. cc }

  pub act_alone : (w : World) (action : Action) → LibraryAlone w → LibraryAlone (act P action w)
  act_alone w action alone = by (is_fault (acted P action v).halt) where
    v : World
    v = record w { steps = w.steps + 1 }

    by : (b : Bool) → LibraryAlone (if b then fault w else acted P action v)
    by true = fault_alone w alone
    by false = acted_alone v (record { frames = alone.frames; not_stuck = alone.not_stuck }) action

  pub step_alone : (w : World) → LibraryAlone w → step P w ≡ w
  step_alone w alone = let turn : is_library_turn w.frames ≡ true = subst (λ fs. is_library_turn fs ≡ true) (sym alone.frames) refl in rw turn refl

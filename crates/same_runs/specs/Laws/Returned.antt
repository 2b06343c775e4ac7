-- A method that ends in both runs: its value goes to the same frame below, or is shown to the library, and its monitor is left.
use Rattle.std.proofs.Common.{◌≡◌, ℕ, Bool, true, false, List, [], ◌∷◌, Option, None, IsTrue, IsFalse, if◌then◌else◌, refl}
use Rattle.class_model.specs.Descriptors.{kind_of}
use Rattle.class_model.specs.declared.descriptor.FieldType.{FieldType}
use Rattle.machine_values.specs.Frames.{MethodState}
use Rattle.machine_values.specs.Values.{has_kind}
use Rattle.machine_values.specs.declared.frame.RunFrame.{RunFrame}
use Rattle.machine_values.specs.declared.frame.RunFrame.TheVariants.{Library}
use Rattle.machine_values.specs.declared.value.Value.{Value}
use Rattle.member_link.specs.Machine.Performing.{is_initialiser, result_seen, returned, returned_to, returned_value, unlocked}
use Rattle.member_link.specs.Machine.Programs.{Program}
use Rattle.member_link.specs.Machine.Stepping.{ends_stuck, return_step}
use Rattle.member_link.specs.Machine.Worlds.{World, going}
use Rattle.same_runs.specs.Renamings.{Names, SameHeld, none_held, one_held, SameUnit, no_value, has_value, SameValue, same_reference, SameValues, no_values, and_value}
use Rattle.same_runs.specs.SameMemories.{SameMemories}
use Rattle.same_runs.specs.SamePrograms.{SamePrograms}
use Rattle.same_runs.specs.SameWorlds.{Comparison, Compares, Returns, SameAfter, both_go, both_over, SameBelow, none_below, beginnings_below, library_below, methods_below, SameSeen}
use Rattle.same_runs.specs.Laws.FieldWork.{narrowed_same}
use Rattle.same_runs.specs.Laws.Names.{names_themselves}
use Rattle.same_runs.specs.Laws.Numbering.{option_numbered}
use Rattle.same_runs.specs.Laws.OperandWork.{kind_same}
use Rattle.same_runs.specs.Laws.Performed.{shown_same}
use Rattle.same_runs.specs.Laws.Unwinding.{unlocked_same}

-- what the library sees of a method that it called is the same
pub result_same : {names : Names} {made made_also : Option ℕ} {values also : List Value}
    → SameHeld names made made_also
    → SameValues names values also
    → SameUnit names (result_seen made values) (result_seen made_also also)
result_same (one_held is) are = has_value (same_reference is)
result_same none_held no_values = no_value
result_same none_held (and_value is rest) = has_value is

module _ {P Q : Program} {c : Comparison} (same : SamePrograms P Q) (compares : Compares c) {names : Names}
    (first second : World)
    (memories : SameMemories P c.allocated c.entered c.apart names [] first.memory second.memory) (seen : SameSeen c names first second)
    (goes : first.halt ≡ going) (goes_also : second.halt ≡ going) where
  -- a value, or none, goes to the frame below
  pub returned_to_same : {held held_also : Option ℕ} {values also : List Value} {rest rest_also : List RunFrame}
      → SameHeld names held held_also
      → SameValues names values also
      → SameBelow P Q c names rest rest_also
      → SameAfter P c names (returned_to P first held values rest) (returned_to Q second held_also also rest_also)
  returned_to_same held are none_below =
      both_over names (record { known = seen.known; events = seen.events }) (λ impossible. cc impossible) refl
  returned_to_same held are beginnings_below =
      both_over names (record { known = seen.known; events = seen.events }) (λ impossible. cc impossible) refl
  returned_to_same {values = values} {also = also} held are (methods_below frames) =
      both_go names (names_themselves names) (frames values also are) (unlocked_same memories held)
      (record { known = seen.known; events = seen.events }) goes goes_also
  returned_to_same {held = held} {held_also = held_also} {values = values} {also = also} locks are
      (library_below {made = made} {made_also = made_also} {ones = ones} {others = others} constructs frames) =
      let left = unlocked_same memories locks in
      let number = option_numbered same left.heaps seen.known (result_same constructs are) in
      both_go names (names_themselves names) frames left
      (shown_same same compares (record first { memory = unlocked first.memory held; frames = Library None ∷ ones })
      (record second { memory = unlocked second.memory held_also; frames = Library None ∷ others })
      left seen.events (record { seen = rw (number.seen) refl; known = number.known })) goes goes_also

  -- a method of both ends, with the same values
  pub returned_same : {f g : MethodState} {rest rest_also : List RunFrame} {values also : List Value}
      → Returns P Q c names f g rest rest_also
      → SameValues names values also
      → SameAfter P c names (returned P first f rest values) (returned Q second g rest_also also)
  returned_same {f = f} {g = g} {rest = rest} {rest_also = rest_also} {values = values} {also = also} returns are =
      rw (returns.ends.is, returns.ends.is_also, returns.ends.same)
      (by (is_initialiser returns.ends.method) returns.initialised returns.below) where
        by : (b : Bool) → (IsTrue b → c.frames names rest rest_also) → (IsFalse b → SameBelow P Q c names rest rest_also)
            → SameAfter P c names
            (if b then record first { memory = unlocked first.memory f.held; frames = rest } else returned_to P first f.held values rest)
            (if b then record second { memory = unlocked second.memory g.held; frames = rest_also }
            else returned_to Q second g.held also rest_also)
        by true initialised below =
            both_go names (names_themselves names) (initialised refl) (unlocked_same memories returns.held)
            (record { known = seen.known; events = seen.events }) goes goes_also
        by false initialised below = returned_to_same returns.held are (below refl)

  -- a value, narrowed to the declared result
  pub returned_value_same : {f g : MethodState} {rest rest_also : List RunFrame} {value also : Value} (type : FieldType)
      → Returns P Q c names f g rest rest_also
      → SameValue names value also
      → SameAfter P c names (returned_value P first f rest type value) (returned_value Q second g rest_also type also)
  returned_value_same type returns is = returned_same returns (and_value (narrowed_same type is) no_values)

  -- the step of a return with a value: it is on top of both stacks
  pub return_step_same : {f g : MethodState} {rest rest_also : List RunFrame} {stack stack_also : List Value} (type : FieldType)
      → Returns P Q c names f g rest rest_also
      → SameValues names stack stack_also
      → SameAfter P c names (return_step P first f rest type stack) (return_step Q second g rest_also type stack_also)
  return_step_same type returns no_values =
      both_over names (record { known = seen.known; events = seen.events }) (λ impossible. cc impossible) refl
  return_step_same {f = f} {g = g} {rest = rest} {rest_also = rest_also} type returns (and_value {one = value} {other = also} is are) =
      rw (kind_same same memories (kind_of type) is) (by (has_kind (kind_of type) value)) where
        by : (b : Bool) → SameAfter P c names
            (if b then returned_value P first f rest type value else ends_stuck first)
            (if b then returned_value Q second g rest_also type also else ends_stuck second)
        by true = returned_value_same type returns is
        by false = both_over names (record { known = seen.known; events = seen.events }) (λ impossible. cc impossible) refl

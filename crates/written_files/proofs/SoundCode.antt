-- What written code needs is well formed.
use Rattle.std.proofs.Common.{◌==◌, ℕ, Bool, true, false, List, [], ◌∷◌, Option, Some, None, if◌then◌else◌}
use Rattle.std.specs.List.{AllByRecursion, flat_map}
use Rattle.class_model.specs.Checks.{AllHold}
use Rattle.class_model.specs.Names.{init}
use Rattle.class_model.specs.Pool.{Constants}
use Rattle.class_model.specs.PoolChecks.{entries_checks}
use Rattle.class_model.specs.declared.instr.Instr.{Instr}
use Rattle.class_tree.specs.Headers.{Name}
use Rattle.making_code.specs.Constants.{of_method}
use Rattle.making_code.specs.Items.{WCatch, WInstr, WItem, carried, constructs, load, makes, plain, store}
use Rattle.plan_flow.specs.PlanScope.{PlanScope, pool_of}
use Rattle.plan_flow.specs.Written.WrittenConstants.{carried_needs, catch_needs, code_needs, instr_needs, item_needs, named_index, needs_of_index}
use Rattle.written_files.proofs.SoundConstructors.{constructor_text}
use Rattle.written_files.proofs.SoundNeeds.{ClassSound, both_sound, needs_sound, one_class, one_member}
use Rattle.written_files.specs.GrownPools.{AreSound, sound_none}
use Rattle.written_files.specs.SoundCode.{IsSoundCatch, IsSoundInstr, IsSoundItem, IsSoundName}

known : (name : Name) → IsSoundName name → ClassSound name
known name is = record { text = is.text; is_name = is.is_name }

index_sound : (major : ℕ) (pool : Constants) → AllHold (entries_checks major pool 10 pool) → (index : Option ℕ)
    → AreSound (needs_of_index pool index)
index_sound major pool hold None = sound_none
index_sound major pool hold (Some index) = needs_sound major pool hold index

module _ (s : PlanScope) (constructor : Name → List ℕ) where
  carried_sound : (class : ℕ) (instr : Instr) → IsSoundInstr s constructor (carried class instr) → AreSound (carried_needs s class instr)
  carried_sound class instr is = by (class == s.flat.host.class) where
    by : (b : Bool) → AreSound (if b then [] else needs_of_index (pool_of s class) (named_index instr))
    by true = sound_none
    by false = index_sound is.0 (pool_of s class) is.1 (named_index instr)

  instr_sound : (instr : WInstr) → IsSoundInstr s constructor instr → AreSound (instr_needs s constructor instr)
  instr_sound (carried class instr) is = carried_sound class instr is
  instr_sound (plain instr) is = sound_none
  instr_sound (load kind unit) is = sound_none
  instr_sound (store kind unit) is = sound_none
  instr_sound (makes class) is = one_class class is.text is.is_name
  instr_sound (constructs class) is =
      one_member of_method class init (constructor class) (constructor_text class (constructor class) (known class is.name) is.text is.void)

  catch_sound : (class : Option Name) → IsSoundCatch class → AreSound (catch_needs class)
  catch_sound None is = sound_none
  catch_sound (Some class) is = one_class class is.text is.is_name

  catches_sound : (catches : List WCatch) → AllByRecursion (λ catch. IsSoundCatch catch.class) catches
      → AreSound (flat_map (λ catch. catch_needs catch.class) catches)
  catches_sound [] are = sound_none
  catches_sound (catch ∷ catches) are =
      both_sound (catch_needs catch.class) (flat_map (λ catch. catch_needs catch.class) catches) (catch_sound catch.class are.0) (catches_sound catches are.1)

  pub code_sound : (items : List WItem) → AllByRecursion (IsSoundItem s constructor) items → AreSound (code_needs s constructor items)
  code_sound [] are = sound_none
  code_sound (item ∷ items) are =
      both_sound (item_needs s constructor item) (flat_map (item_needs s constructor) items)
      (both_sound (instr_needs s constructor item.instr) (flat_map (λ catch. catch_needs catch.class) item.catches)
      (instr_sound item.instr are.0.instr) (catches_sound item.catches are.0.catches))
      (code_sound items are.1)

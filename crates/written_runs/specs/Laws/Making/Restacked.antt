-- The stack is loaded again, with the objects that were made.
use Rattle.std.proofs.Common.{◌≡◌, ◌+◌, ℕ, suc, Bool, true, false, List, [], ◌∷◌, ◌++◌, map, reverse, slice_get, Some, IsTrue, refl, sym, ap, subst, ◌∙◌}
use Rattle.std.specs.List.{flat_map}
use Rattle.class_model.specs.Frames.{depth}
use Rattle.class_model.specs.declared.descriptor.Kind.{Kind}
use Rattle.class_model.specs.declared.descriptor.Kind.TheVariants as kinds
use Rattle.class_model.specs.declared.frame.VType.{VType}
use Rattle.machine_values.specs.Values.{has_kind}
use Rattle.machine_values.specs.declared.value.Value.{Value}
use Rattle.machine_values.specs.declared.value.Value.TheVariants.{Ref}
use Rattle.making_code.specs.Items.{WInstr, load}
use Rattle.making_code.specs.MakeCode.{Entry, entries_from, kind_of_type, load_entry}
use Rattle.making_code.specs.Units.{WUnit, object_unit, scratch}
use Rattle.member_link.specs.Machine.Worlds.{Memory}
use Rattle.plan_flow.specs.Written.WrittenPrograms.{WrittenMethod}
use Rattle.same_runs.specs.Laws.Moves.{same_kind}
use Rattle.same_runs.specs.Laws.Stored.{Units}
use Rattle.same_runs.specs.Renamings.{Names, SameValue, no_values}
use Rattle.virtual_state.specs.Laws.Fields.{kept_slot, plain_slot}
use Rattle.virtual_state.specs.Sites.{has}
use Rattle.virtual_state.specs.Without.{made_plain}
use Rattle.virtual_state.specs.declared.slot.Slot.{Slot}
use Rattle.virtual_state.specs.declared.slot.Slot.TheVariants.{Plain, Virt, Unusable}
use Rattle.written_runs.specs.Inner.MadeObjects.{StandAt}
use Rattle.written_runs.specs.Inner.PlannedFrames.{KeepStack}
use Rattle.written_runs.specs.Inner.Setup.{Setup}
use Rattle.written_runs.specs.Laws.GivenValues.{push_one}
use Rattle.written_runs.specs.Laws.Making.Held.{HeldIn, HoldsMade, SavedEntries, Scene, reference_is, value_made}
use Rattle.written_runs.specs.Laws.Making.Saved.{AllUsable, AreMany, HasKinds, kinds_behind, no_entries, one_entry, usable_behind}
use Rattle.written_runs.specs.Laws.Making.Steps.{Doing, Done, done_as, done_none, done_then, loads_unit, stand_behind}
use Rattle.written_runs.specs.VirtualObjects.{RefersTo}

-- a held reference is one
pub reference_kind : {names : Names} {reference : ℕ} {value also : Value} → value ≡ Ref reference → SameValue names value also
    → IsTrue (has_kind kinds.Ref also)
reference_kind {names = names} {also = also} is same =
    let found = reference_is (subst (λ (v : Value). SameValue names v also) is same) in ap (has_kind kinds.Ref) found.is

module _ {u : Setup} {w : WrittenMethod} (d : Doing u w) (s : Scene u w) (names : Names) (units : Units)
    (are_made : (site : ℕ) → IsTrue (has s.made site) → HoldsMade w.flat s.virtuals s.frame names units (object_unit site) site) where
  -- virtual entries refer to their objects
  pub record AllRefer (slots : List Slot) (values : List Value) : Type 0 where
    pub each : (place site : ℕ) (value : Value)
        → slice_get slots place ≡ Some (Virt site)
        → slice_get values place ≡ Some value
        → RefersTo s.virtuals s.frame site value

  refer_behind : {slot : Slot} {slots : List Slot} {value : Value} {values : List Value} → AllRefer (slot ∷ slots) (value ∷ values)
      → AllRefer slots values
  refer_behind all = record { each = λ place site value slot is. all.each (suc place) site value slot is }

  -- behind the loads
  pub record AreStacked (instrs : List WInstr) (slots : List Slot) (values : List Value) (place steps : ℕ) (memory : Memory) (stack : List Value)
      : Type 0 where
    pub after : List Value
    pub done : Done d instrs place steps memory memory units units stack (reverse after ++ stack)
    pub kept : KeepStack names (map (made_plain (has s.made)) slots) values after

  -- the entries above are loaded behind one
  abbrev Above : List Slot → List Value → List WInstr → Memory → Type 0
  Above slots values instrs memory =
      (stack : List Value) (place steps : ℕ)
      → StandAt u w place instrs
      → AreStacked instrs slots values place steps memory stack

  -- a unit is loaded for an entry, and then those above
  stack_one : (slot : Slot) (slots : List Slot) (value : Value) (values stack : List Value) (kind : Kind) (unit : WUnit) (place steps : ℕ)
      (memory : Memory) (above : List WInstr)
      → (held : HeldIn w.flat names units unit value)
      → IsTrue (has_kind kind held.also)
      → made_plain (has s.made) slot ≡ Plain
      → StandAt u w place (load kind unit ∷ above)
      → Above slots values above memory
      → AreStacked (load kind unit ∷ above) (slot ∷ slots) (value ∷ values) place steps memory stack
  stack_one slot slots value values stack kind unit place steps memory above held fits plain stand others = record {
    after = held.also ∷ rest.after;
    done = done_as d refl refl (push_one held.also rest.after stack) (done_then d first rest.done);
    kept =
        subst (λ (one : Slot). KeepStack names (one ∷ map (made_plain (has s.made)) slots) (value ∷ values) (held.also ∷ rest.after)) (sym plain)
        (held.same, rest.kept);
  } where
    first : Done d (load kind unit ∷ []) place steps memory memory units units stack (held.also ∷ stack)
    first = loads_unit d kind unit steps memory units stack held.also stand held.is fits

    rest : AreStacked above slots values (place + 1) first.then_steps memory (held.also ∷ stack)
    rest = others (held.also ∷ stack) (place + 1) first.then_steps (stand_behind (load kind unit ∷ []) above stand)

  -- an entry of the set, or one that stays virtual
  stack_virtual : (site : ℕ) (slots : List Slot) (value : Value) (values stack : List Value) (entry : Entry) (place steps : ℕ) (memory : Memory)
      (above : List WInstr)
      → entry.slot ≡ Virt site
      → RefersTo s.virtuals s.frame site value
      → StandAt u w place (load_entry s.made entry ++ above)
      → Above slots values above memory
      → AreStacked (load_entry s.made entry ++ above) (Virt site ∷ slots) (value ∷ values) place steps memory stack
  stack_virtual site slots value values stack entry place steps memory above slot_is refers stand others = by (has s.made site) refl where
    by : (b : Bool) → has s.made site ≡ b
        → AreStacked (load_entry s.made entry ++ above) (Virt site ∷ slots) (value ∷ values) place steps memory stack
    by false is = record {
      after = rest.after;
      done = done_as d (sym code_is) refl refl rest.done;
      kept =
          subst (λ (slot : Slot). KeepStack names (slot ∷ map (made_plain (has s.made)) slots) (value ∷ values) rest.after)
          (sym (kept_slot (has s.made) site is)) rest.kept;
    } where
      code_is : load_entry s.made entry ++ above ≡ above
      code_is = rw (slot_is, is) refl

      rest : AreStacked above slots values place steps memory stack
      rest = others stack place steps (subst (StandAt u w place) code_is stand)
    by true is =
        subst (λ (instrs : List WInstr). AreStacked instrs (Virt site ∷ slots) (value ∷ values) place steps memory stack) (sym code_is)
        (stack_one (Virt site) slots value values stack kinds.Ref (object_unit site) place steps memory above held
        (reference_kind refers.is held.same) (plain_slot (has s.made) site is) (subst (StandAt u w place) code_is stand) others) where
          held : HeldIn w.flat names units (object_unit site) value
          held = value_made s.are_apart refers (are_made site is)

          code_is : load_entry s.made entry ++ above ≡ load kinds.Ref (object_unit site) ∷ above
          code_is = rw (slot_is, is) refl

  pub restacks : (types : List VType) (slots : List Slot) (values stack : List Value) (place number below steps : ℕ) (memory : Memory)
      → AreMany types slots values
      → AllUsable slots
      → HasKinds types slots values
      → AllRefer slots values
      → SavedEntries w.flat names units (entries_from number below types slots) values
      → StandAt u w place (flat_map (load_entry s.made) (entries_from number below types slots))
      → AreStacked (flat_map (load_entry s.made) (entries_from number below types slots)) slots values place steps memory stack
  restacks [] [] (value ∷ values) stack place number below steps memory many usable kinds refer saved stand = elim many [ ]
  restacks [] (slot ∷ slots) values stack place number below steps memory many usable kinds refer saved stand = elim many [ ]
  restacks (type ∷ types) [] values stack place number below steps memory many usable kinds refer saved stand = elim many [ ]
  restacks (type ∷ types) (Plain ∷ slots) [] stack place number below steps memory many usable kinds refer saved stand = elim many [ ]
  restacks (type ∷ types) (Virt site ∷ slots) [] stack place number below steps memory many usable kinds refer saved stand = elim many [ ]
  restacks (type ∷ types) (Unusable ∷ slots) [] stack place number below steps memory many usable kinds refer saved stand = elim many [ ]
  restacks [] [] [] stack place number below steps memory no_entries usable kinds refer saved stand =
      record { after = []; done = done_none d place steps memory units stack; kept = no_values }
  restacks (type ∷ types) (Unusable ∷ slots) (value ∷ values) stack place number below steps memory (one_entry many) usable kinds refer saved
      stand =
      absurd (usable.each 0 refl)
  restacks (type ∷ types) (Plain ∷ slots) (value ∷ values) stack place number below steps memory (one_entry many) usable kinds refer saved
      stand =
      stack_one Plain slots value values stack (kind_of_type type) (scratch below) place steps memory
      (flat_map (load_entry s.made) (entries_from (suc number) (below + depth (type ∷ [])) types slots)) saved.0
      (same_kind (kind_of_type type) saved.0.same ∙ kinds.each 0 type value refl refl refl) refl stand
      (λ more later_place later_steps stand_above.
      restacks types slots values more later_place (suc number) (below + depth (type ∷ [])) later_steps memory many (usable_behind usable)
      (kinds_behind kinds) (refer_behind refer) saved.1 stand_above)
  restacks (type ∷ types) (Virt site ∷ slots) (value ∷ values) stack place number below steps memory (one_entry many) usable kinds refer saved
      stand =
      stack_virtual site slots value values stack (record { place = number; below = below; kind = kind_of_type type; slot = Virt site }) place steps
      memory (flat_map (load_entry s.made) (entries_from (suc number) (below + depth (type ∷ [])) types slots)) refl (refer.each 0 site value refl refl)
      stand (λ more later_place later_steps stand_above.
      restacks types slots values more later_place (suc number) (below + depth (type ∷ [])) later_steps memory many (usable_behind usable)
      (kinds_behind kinds) (refer_behind refer) saved.1 stand_above)

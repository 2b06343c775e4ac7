use Rattle.std.specs.Prelude.{◌≡◌, ◌==◌, ◌⊎◌, ◌<◌, ◌-◌, ◌&&◌, refl, ℕ, ℤ, nat_le, Bool, true, false, List, [], ◌∷◌, Option, Some, None, if◌then◌else◌}
use Rattle.std.proofs.Common.{arith, inl, inr, ap, sym, ◌∙◌, subst}
use Rattle.class_model.specs.Descriptors.{kind_of, type_of}
use Rattle.class_model.specs.declared.descriptor.Kind.TheVariants as kinds
use Rattle.class_model.specs.declared.frame.Frame.{Frame}
use Rattle.class_model.specs.declared.frame.VType.{VType}
use Rattle.class_model.specs.declared.opcodes.TheConstants.{IASTORE, AASTORE, SASTORE}
use Rattle.class_tree.specs.Headers.{Name}
use Rattle.class_tree.specs.Laws.Arrays.{is_array_of}
use Rattle.machine_values.specs.Frames.{MethodState}
use Rattle.machine_values.specs.Values.{component_text, has_kind}
use Rattle.machine_values.specs.declared.frame.RunFrame.{RunFrame}
use Rattle.machine_values.specs.declared.value.Value.{Value}
use Rattle.machine_values.specs.declared.value.Value.TheVariants as values
use Rattle.member_link.specs.Machine.ArraySteps.{takes_array, store_element_work}
use Rattle.member_link.specs.Machine.Codes.{if_between}
use Rattle.member_link.specs.Machine.Ops.{meaningless, store_element}
use Rattle.member_link.specs.Machine.Programs.{Program}
use Rattle.member_link.specs.Machine.Stepping.{op_step}
use Rattle.member_link.specs.Machine.Worlds.{World}
use Rattle.member_link.specs.RowScope.{RowScope}
use Rattle.member_link.specs.Rows.ArrayRows.{Elements, elements_of, elements_from, elements_store_row, array_store_row, need_of_value}
use Rattle.member_link.specs.Rows.Operands.{of_kind, initialised, array_among, array_of_references, Fits, IsAmong, topmost}
use Rattle.member_link.specs.Rows.Row.{Row, access_aside, plain, either}
use Rattle.typed_runs.proofs.ArrayShapes.{IsArrayOf, IsOfReferences, an_array_value, same_array}
use Rattle.typed_runs.proofs.AssignedNames.{component_is}
use Rattle.typed_runs.proofs.Basics.{same_number, within}
use Rattle.typed_runs.proofs.ConformsThrough.{component_through}
use Rattle.typed_runs.proofs.ElementTypes.{TakesElements, TakesArray, elements_taken, among_taken, counted_from}
use Rattle.typed_runs.proofs.Here.{Here, operands_here, worked}
use Rattle.typed_runs.proofs.OperandsTaken.{ComesTyped, Three, of_three}
use Rattle.typed_runs.proofs.Starting.{number_narrowed}
use Rattle.typed_runs.proofs.Taken.{an_int_value, takes_nothing}
use Rattle.typed_runs.proofs.Units.{kind_conforms}
use Rattle.typed_runs.specs.TypedPrograms.{Typings}
use Rattle.typed_runs.specs.TypedWorlds.{StaysTyped}
use Rattle.typed_runs.proofs.ElementWrites.{store_null, store_goes, StoresReference, stores_reference}

-- ---- arrays of numbers, and of references

abbrev pub reference_store_row : Frame → Row
reference_store_row frame = plain frame (array_of_references ∷ of_kind kinds.Int ∷ initialised ∷ []) []

module _ {P : Program} {T : Typings} {w : World} {f : MethodState} {rest : List RunFrame} {s : RowScope} {frame : Frame} {place : ℕ}
    {numbered : ℕ → ℕ} where
  pub number_store : (opcode : ℕ) (e : Elements) → opcode - IASTORE < 8 → elements_of (opcode - IASTORE) ≡ Some e
      → Here P T w f rest s frame place numbered (elements_store_row frame (Some e)) (store_element opcode) true []
      → StaysTyped P T w (op_step P w f rest (store_element opcode))
  number_store opcode e few is h =
      worked h 3 refl (operands_here h).enough
      (of_three (array_among e.arrays) (of_kind kinds.Int) (need_of_value e.type) h
      (store_element_work P w.memory (opcode - IASTORE)) by) where
        taken : TakesElements (opcode - IASTORE) e
        taken = elements_taken (opcode - IASTORE) e few is

        array_taken : (name : Name) → IsAmong e.arrays name → TakesArray (opcode - IASTORE) taken.kind.kind name
        array_taken name named = among_taken (opcode - IASTORE) taken.kind.kind e.arrays taken.arrays name named

        by_array : (v x y : Value) (i : ℤ) → x ≡ values.Int i → has_kind taken.kind.kind y ≡ true → {t : VType}
            → (v ≡ values.Null) ⊎ IsArrayOf P w.memory.heap (IsAmong e.arrays) t v
            → ComesTyped P T w f rest 3 (store_element_work P w.memory (opcode - IASTORE) (v ∷ x ∷ y ∷ []))
        by_array v x y i int has (inl null) = store_null h (opcode - IASTORE) v x y i null int (taken.kind.stores y has)
        by_array v x y i int has (inr a) =
            let one = array_taken a.name a.named in
            let d : Name = a.array.desc in
            let same : d ≡ a.name = same_array P T h.typed.program d a.name one.is_array one.of_numbers a.array.conforms in
            let kind_is = ap (λ n. kind_of (type_of (component_text n))) same ∙ one.is_kind in
            let kind = subst (λ k. has_kind k y ≡ true) (sym kind_is) has in
            store_goes h (opcode - IASTORE) v x y i int (taken.kind.stores y has) a.name a.array
            (ap (takes_array (opcode - IASTORE)) same ∙ one.takes)
            (λ fits. number_narrowed P w.memory.heap (type_of (component_text d)) y kind (taken.kind.numbers y has))

        by : (v x y : Value)
            → Three P (T f.at).scope w.memory.heap s (array_among e.arrays) (of_kind kinds.Int) (need_of_value e.type)
            (topmost 3 frame.stack) v x y
            → ComesTyped P T w f rest 3 (store_element_work P w.memory (opcode - IASTORE) (v ∷ x ∷ y ∷ []))
        by v x y three =
            let i = an_int_value three.second_fits three.second_conforms in
            let fits = subst (λ need. Fits s need three.third_type) taken.kind.needs three.third_fits in
            by_array v x y i.0 i.1 (kind_conforms taken.kind.kind fits three.third_conforms)
            (an_array_value P T h.typed.program w.memory h.typed.memory (IsAmong e.arrays)
            (λ name named. (array_taken name named).is_array) three.first_fits three.first_conforms)

  pub reference_store : Here P T w f rest s frame place numbered (reference_store_row frame) (store_element AASTORE) true []
      → StaysTyped P T w (op_step P w f rest (store_element AASTORE))
  reference_store h =
      worked h 3 refl (operands_here h).enough
      (of_three array_of_references (of_kind kinds.Int) initialised h (store_element_work P w.memory (AASTORE - IASTORE)) by) where
        by_array : (v x y : Value) (i : ℤ) → x ≡ values.Int i → ((desc : Name) → StoresReference P w.memory desc y) → {t : VType}
            → (v ≡ values.Null) ⊎ IsArrayOf P w.memory.heap IsOfReferences t v
            → ComesTyped P T w f rest 3 (store_element_work P w.memory (AASTORE - IASTORE) (v ∷ x ∷ y ∷ []))
        by_array v x y i int stores (inl null) = store_null h (AASTORE - IASTORE) v x y i null int (stores []).stored
        by_array v x y i int stores (inr a) =
            let c = component_through P T h.typed.program (component_is a.named.1) a.array.conforms in
            let one = stores a.array.desc in
            store_goes h (AASTORE - IASTORE) v x y i int one.stored a.name a.array (rw c.is_component refl) (one.fits c.name c.is_component)

        by : (v x y : Value)
            → Three P (T f.at).scope w.memory.heap s array_of_references (of_kind kinds.Int) initialised (topmost 3 frame.stack) v x y
            → ComesTyped P T w f rest 3 (store_element_work P w.memory (AASTORE - IASTORE) (v ∷ x ∷ y ∷ []))
        by v x y three =
            let i = an_int_value three.second_fits three.second_conforms in
            by_array v x y i.0 i.1 (λ desc. stores_reference P w.memory desc three.third_fits three.third_conforms)
            (an_array_value P T h.typed.program w.memory h.typed.memory IsOfReferences (λ name is. is_array_of is.1) three.first_fits
            three.first_conforms)

  -- ---- by opcode

  pub store_stays : (opcode : ℕ)
      → Here P T w f rest s frame place numbered (access_aside (array_store_row frame opcode))
      (if_between IASTORE SASTORE opcode (store_element opcode)) true []
      → StaysTyped P T w (op_step P w f rest (if_between IASTORE SASTORE opcode (store_element opcode)))
  store_stays opcode h = by (nat_le IASTORE opcode && nat_le opcode SASTORE) refl h where
    by_elements : (o : Option Elements) → elements_from IASTORE opcode ≡ o → opcode - IASTORE < 8
        → Here P T w f rest s frame place numbered (access_aside (elements_store_row frame o)) (store_element opcode) true []
        → StaysTyped P T w (op_step P w f rest (store_element opcode))
    by_elements None e few k = absurd (takes_nothing s (topmost 1 frame.stack) k.holds.operands)
    by_elements (Some elements) e few k = number_store opcode elements few (counted_from IASTORE opcode elements e) k

    by_sort : (b : Bool) → (opcode == AASTORE) ≡ b → opcode - IASTORE < 8
        → Here P T w f rest s frame place numbered
        (access_aside (either b (reference_store_row frame) (elements_store_row frame (elements_from IASTORE opcode))))
        (store_element opcode) true []
        → StaysTyped P T w (op_step P w f rest (store_element opcode))
    by_sort true e few k =
        subst (λ o. Here P T w f rest s frame place numbered (reference_store_row frame) (store_element o) true []
        → StaysTyped P T w (op_step P w f rest (store_element o))) (sym (same_number opcode AASTORE e)) reference_store k
    by_sort false e few k = by_elements (elements_from IASTORE opcode) refl few k

    by : (b : Bool) → (nat_le IASTORE opcode && nat_le opcode SASTORE) ≡ b
        → Here P T w f rest s frame place numbered (access_aside (array_store_row frame opcode))
        (if b then store_element opcode else meaningless) true []
        → StaysTyped P T w (op_step P w f rest (if b then store_element opcode else meaningless))
    by false e k = absurd k.linked
    by true e k = by_sort (opcode == AASTORE) refl (within IASTORE SASTORE opcode 8 e (omega arith)) k

use Rattle.std.specs.Prelude.{◌≡◌, ◌==◌, ◌⊎◌, ◌<◌, ◌-◌, ◌&&◌, refl, ℕ, ℤ, zero, suc, pos, negsuc, nat_lt, nat_le, Bool, true, false, List, [], ◌∷◌, length, drop, slice_get, Option, Some, None, if◌then◌else◌}
use Rattle.std.proofs.Common.{arith, inl, inr, ap, sym, ◌∙◌, subst}
use Rattle.class_model.specs.Descriptors.{kind_of, type_of}
use Rattle.class_model.specs.Laws.Lists.{at_index}
use Rattle.class_model.specs.declared.descriptor.Kind.TheVariants as kinds
use Rattle.class_model.specs.declared.frame.Frame.{Frame}
use Rattle.class_model.specs.declared.frame.VType.{VType}
use Rattle.class_model.specs.declared.frame.VType.TheVariants as types
use Rattle.class_model.specs.declared.opcodes.TheConstants.{IALOAD, AALOAD, SALOAD}
use Rattle.class_tree.specs.Headers.{Name}
use Rattle.class_tree.specs.Laws.Arrays.{is_array_of}
use Rattle.machine_values.specs.Frames.{MethodState}
use Rattle.machine_values.specs.Values.{component_text, has_kind}
use Rattle.machine_values.specs.declared.frame.RunFrame.{RunFrame}
use Rattle.machine_values.specs.declared.value.Value.{Value}
use Rattle.machine_values.specs.declared.value.Value.TheVariants as values
use Rattle.member_link.specs.Machine.ArraySteps.{takes_array, index_in, load_element_work}
use Rattle.member_link.specs.Machine.Codes.{if_between}
use Rattle.member_link.specs.Machine.Completions.{raises}
use Rattle.member_link.specs.Machine.Ops.{Op, meaningless, load_element}
use Rattle.member_link.specs.Machine.Programs.{Program}
use Rattle.member_link.specs.Machine.Stepping.{op_step}
use Rattle.member_link.specs.Machine.Throwables.{null_pointer, index_outside}
use Rattle.member_link.specs.Machine.Worlds.{World}
use Rattle.member_link.specs.RowScope.{RowScope}
use Rattle.member_link.specs.Rows.ArrayRows.{Elements, elements_of, elements_from, elements_load_row, array_load_row, component_type}
use Rattle.member_link.specs.Rows.Operands.{Need, of_kind, array_among, array_of_references, IsAmong, lowest_of, topmost}
use Rattle.member_link.specs.Rows.Row.{Row, access_aside, plain, either}
use Rattle.typed_runs.proofs.ArrayShapes.{IsArrayIn, IsArrayOf, IsOfReferences, an_array_value, same_array}
use Rattle.typed_runs.proofs.AssignedNames.{component_is}
use Rattle.typed_runs.proofs.Basics.{some_of, same_number, within}
use Rattle.typed_runs.proofs.ConformsThrough.{component_through, shape_through}
use Rattle.typed_runs.proofs.ElementTypes.{TakesElements, TakesArray, field_kind, number_conforms, elements_taken, among_taken, counted_from, component_type_of, component_name}
use Rattle.typed_runs.proofs.Here.{Here, operands_here, worked, gives_same}
use Rattle.typed_runs.proofs.OperandsTaken.{ComesTyped, of_two}
use Rattle.typed_runs.proofs.Performing.{raises_goes}
use Rattle.typed_runs.proofs.Raising.{raises_null, raises_index}
use Rattle.typed_runs.proofs.Stacks.{lowest_is}
use Rattle.typed_runs.proofs.Taken.{Two, an_int_value, takes_nothing}
use Rattle.typed_runs.specs.Conforming.{NameConforms, Conforms, null_object, an_object, no_values, and_value, RefersTo, to_none, to_one, FieldConforms, FitsDescriptor}
use Rattle.typed_runs.specs.TypedPrograms.{Typings}
use Rattle.typed_runs.specs.TypedWorlds.{StaysTyped}

-- ---- an element by its index

pub index_inside : (i : ℤ) (len at : ℕ) → index_in i len ≡ Some at → at < len
index_inside (negsuc n) len at is = cc
index_inside (pos n) len at is = by (nat_lt n len) refl where
  by : (b : Bool) → nat_lt n len ≡ b → at < len
  by false e = let none = rw e at is in cc
  by true e = let same : n ≡ at = some_of (rw e at is) in let below : n < len = search arith in subst (λ k. k < len) same below

pub element_there : (xs : List Value) (at : ℕ) → at < length xs → (x : Value) × (slice_get xs at ≡ Some x)
element_there [] at below = absurd (omega (arith, below))
element_there (x ∷ xs) zero below = (x, refl)
element_there (x ∷ xs) (suc at) below = element_there xs at (omega (arith, below))

-- ---- a load of an array

module _ {P : Program} {T : Typings} {w : World} {f : MethodState} {rest : List RunFrame} {s : RowScope} {frame : Frame} {place : ℕ}
    {numbered : ℕ → ℕ} {need : Need} {t : VType} {op : Op}
    (h : Here P T w f rest s frame place numbered (plain frame (need ∷ of_kind kinds.Int ∷ []) (t ∷ [])) op true []) where
  pub load_null : (n : ℕ) (v x : Value) (i : ℤ) → v ≡ values.Null → x ≡ values.Int i
      → ComesTyped P T w f rest 2 (load_element_work w.memory n (v ∷ x ∷ []))
  load_null n v x i null is = rw null (rw is (raises_goes h null_pointer (drop 2 f.stack) (raises_null P T h.typed.program)))

  pub load_goes : (n : ℕ) (v x : Value) (i : ℤ) → x ≡ values.Int i → (name : Name) (a : IsArrayIn P w.memory.heap name v)
      → takes_array n a.desc ≡ true
      → ((y : Value) → FitsDescriptor P w.memory.heap (component_text a.desc) y → Conforms P (T f.at).scope w.memory.heap t y)
      → ComesTyped P T w f rest 2 (load_element_work w.memory n (v ∷ x ∷ []))
  load_goes n v x i is name a takes element = by (index_in i a.len) refl where
    raised : ComesTyped P T w f rest 2 (raises index_outside)
    raised = raises_goes h index_outside (drop 2 f.stack) (raises_index P T h.typed.program)

    by : (at : Option ℕ) → index_in i a.len ≡ at → ComesTyped P T w f rest 2 (load_element_work w.memory n (v ∷ x ∷ []))
    by None e = rw a.is (rw is (rw a.is_there (rw takes (rw e raised))))
    by (Some at) e =
        let long = a.holds.as_long in
        let inside = index_inside i a.len at e in
        let y = element_there a.elements at (omega (arith, long, inside)) in
        let fits = at_index (FitsDescriptor P w.memory.heap (component_text a.desc)) a.elements at y.0 a.holds.elements y.1 in
        rw a.is (rw is (rw a.is_there (rw takes (rw e (rw y.1 (gives_same h (y.0 ∷ []) (and_value (element y.0 fits) no_values)))))))

-- ---- arrays of numbers, and of references

abbrev pub reference_load_row : Frame → Row
reference_load_row frame =
    plain frame (array_of_references ∷ of_kind kinds.Int ∷ []) (component_type (lowest_of 2 frame.stack) ∷ [])

module _ {P : Program} {T : Typings} {w : World} {f : MethodState} {rest : List RunFrame} {s : RowScope} {frame : Frame} {place : ℕ}
    {numbered : ℕ → ℕ} where
  pub number_load : (opcode : ℕ) (e : Elements) → opcode - IALOAD < 8 → elements_of (opcode - IALOAD) ≡ Some e
      → Here P T w f rest s frame place numbered (elements_load_row frame (Some e)) (load_element opcode) true []
      → StaysTyped P T w (op_step P w f rest (load_element opcode))
  number_load opcode e few is h =
      worked h 2 refl (operands_here h).enough
      (of_two (array_among e.arrays) (of_kind kinds.Int) h (load_element_work w.memory (opcode - IALOAD)) by) where
        taken : TakesElements (opcode - IALOAD) e
        taken = elements_taken (opcode - IALOAD) e few is

        array_taken : (name : Name) → IsAmong e.arrays name → TakesArray (opcode - IALOAD) taken.kind.kind name
        array_taken name named = among_taken (opcode - IALOAD) taken.kind.kind e.arrays taken.arrays name named

        held : (desc name : Name) → desc ≡ name → IsAmong e.arrays name → (y : Value)
            → FitsDescriptor P w.memory.heap (component_text desc) y → Conforms P (T f.at).scope w.memory.heap e.type y
        held desc name same named y fits =
            let kind = field_kind P w.memory.heap (type_of (component_text desc)) y fits in
            let kind_is = ap (λ d. kind_of (type_of (component_text d))) same ∙ (array_taken name named).is_kind in
            let has : has_kind taken.kind.kind y ≡ true = subst (λ k. has_kind k y ≡ true) kind_is kind in
            subst (λ t. Conforms P (T f.at).scope w.memory.heap t y) taken.kind.loads
            (number_conforms taken.kind.kind y has (taken.kind.numbers y has))

        by_array : (v x : Value) (i : ℤ) → x ≡ values.Int i → {t : VType}
            → (v ≡ values.Null) ⊎ IsArrayOf P w.memory.heap (IsAmong e.arrays) t v
            → ComesTyped P T w f rest 2 (load_element_work w.memory (opcode - IALOAD) (v ∷ x ∷ []))
        by_array v x i int (inl null) = load_null h (opcode - IALOAD) v x i null int
        by_array v x i int (inr a) =
            let one = array_taken a.name a.named in
            let d : Name = a.array.desc in
            let same : d ≡ a.name = same_array P T h.typed.program d a.name one.is_array one.of_numbers a.array.conforms in
            load_goes h (opcode - IALOAD) v x i int a.name a.array (ap (takes_array (opcode - IALOAD)) same ∙ one.takes)
            (held d a.name same a.named)

        by : (v x : Value)
            → Two P (T f.at).scope w.memory.heap s (array_among e.arrays) (of_kind kinds.Int) (topmost 2 frame.stack) v x
            → ComesTyped P T w f rest 2 (load_element_work w.memory (opcode - IALOAD) (v ∷ x ∷ []))
        by v x two =
            let i = an_int_value two.second_fits two.second_conforms in
            by_array v x i.0 i.1
            (an_array_value P T h.typed.program w.memory h.typed.memory (IsAmong e.arrays)
            (λ name named. (array_taken name named).is_array) two.first_fits two.first_conforms)

  pub reference_load : Here P T w f rest s frame place numbered (reference_load_row frame) (load_element AALOAD) true []
      → StaysTyped P T w (op_step P w f rest (load_element AALOAD))
  reference_load h =
      worked h 2 refl (operands_here h).enough
      (of_two array_of_references (of_kind kinds.Int) h (load_element_work w.memory (AALOAD - IALOAD)) by) where
        held : (name component : Name) → NameConforms P component name → (y : Value) → RefersTo P w.memory.heap component y
            → Conforms P (T f.at).scope w.memory.heap (types.Object name) y
        held name component conforms y to_none = null_object
        held name component conforms y (to_one has is) = an_object has (shape_through P T h.typed.program conforms is)

        by_array : (v x : Value) (i : ℤ) → x ≡ values.Int i → {t : VType} → lowest_of 2 frame.stack ≡ t
            → (v ≡ values.Null) ⊎ IsArrayOf P w.memory.heap IsOfReferences t v
            → ComesTyped P T w f rest 2 (load_element_work w.memory (AALOAD - IALOAD) (v ∷ x ∷ []))
        by_array v x i int lowest (inl null) = load_null h (AALOAD - IALOAD) v x i null int
        by_array v x i int lowest (inr a) =
            let c = component_through P T h.typed.program (component_is a.named.1) a.array.conforms in
            let text : Name = component_text a.array.desc in
            let type_is : types.Object a.named.0 ≡ component_type (lowest_of 2 frame.stack) =
            ap types.Object (sym (component_name a.named.1)) ∙ sym (ap component_type (lowest ∙ a.is_type)) in
            load_goes h (AALOAD - IALOAD) v x i int a.name a.array (rw c.is_component refl) (λ y fits.
            subst (λ t. Conforms P (T f.at).scope w.memory.heap t y) type_is
            (held a.named.0 c.name c.conforms y
            (subst (λ t. FieldConforms P w.memory.heap t y) (component_type_of text c.name c.is_component) fits)))

        by : (v x : Value)
            → Two P (T f.at).scope w.memory.heap s array_of_references (of_kind kinds.Int) (topmost 2 frame.stack) v x
            → ComesTyped P T w f rest 2 (load_element_work w.memory (AALOAD - IALOAD) (v ∷ x ∷ []))
        by v x two =
            let i = an_int_value two.second_fits two.second_conforms in
            by_array v x i.0 i.1 (lowest_is 2 frame.stack two.first_type (two.second_type ∷ []) two.are_types)
            (an_array_value P T h.typed.program w.memory h.typed.memory IsOfReferences (λ name is. is_array_of is.1) two.first_fits
            two.first_conforms)

  -- ---- by opcode

  pub load_stays : (opcode : ℕ)
      → Here P T w f rest s frame place numbered (access_aside (array_load_row frame opcode))
      (if_between IALOAD SALOAD opcode (load_element opcode)) true []
      → StaysTyped P T w (op_step P w f rest (if_between IALOAD SALOAD opcode (load_element opcode)))
  load_stays opcode h = by (nat_le IALOAD opcode && nat_le opcode SALOAD) refl h where
    by_elements : (o : Option Elements) → elements_from IALOAD opcode ≡ o → opcode - IALOAD < 8
        → Here P T w f rest s frame place numbered (access_aside (elements_load_row frame o)) (load_element opcode) true []
        → StaysTyped P T w (op_step P w f rest (load_element opcode))
    by_elements None e few k = absurd (takes_nothing s (topmost 1 frame.stack) k.holds.operands)
    by_elements (Some elements) e few k = number_load opcode elements few (counted_from IALOAD opcode elements e) k

    by_sort : (b : Bool) → (opcode == AALOAD) ≡ b → opcode - IALOAD < 8
        → Here P T w f rest s frame place numbered
        (access_aside (either b (reference_load_row frame) (elements_load_row frame (elements_from IALOAD opcode))))
        (load_element opcode) true []
        → StaysTyped P T w (op_step P w f rest (load_element opcode))
    by_sort true e few k =
        subst (λ o. Here P T w f rest s frame place numbered (reference_load_row frame) (load_element o) true []
        → StaysTyped P T w (op_step P w f rest (load_element o))) (sym (same_number opcode AALOAD e)) reference_load k
    by_sort false e few k = by_elements (elements_from IALOAD opcode) refl few k

    by : (b : Bool) → (nat_le IALOAD opcode && nat_le opcode SALOAD) ≡ b
        → Here P T w f rest s frame place numbered (access_aside (array_load_row frame opcode))
        (if b then load_element opcode else meaningless) true []
        → StaysTyped P T w (op_step P w f rest (if b then load_element opcode else meaningless))
    by false e k = absurd k.linked
    by true e k = by_sort (opcode == AALOAD) refl (within IALOAD SALOAD opcode 8 e (omega arith)) k

use Rattle.std.specs.Prelude.{◌≡◌, refl, ℕ, false, List, [], ◌∷◌, slice_set, Some}
use Rattle.std.proofs.Common.{ap, sym, ◌∙◌, subst}
use Rattle.class_model.specs.Descriptors.{type_of}
use Rattle.machine_values.specs.Heaps.{Heap, object_at, with_object, with_value}
use Rattle.machine_values.specs.declared.object.Object.{Object}
use Rattle.machine_values.specs.declared.object.Shape.{Shape}
use Rattle.machine_values.specs.declared.object.Shape.TheVariants as shapes
use Rattle.machine_values.specs.declared.value.Value.{Value}
use Rattle.member_link.specs.Machine.Completions.{gives}
use Rattle.member_link.specs.Machine.FieldSteps.{got_field, put_field_value}
use Rattle.member_link.specs.Machine.Layouts.{slots_of, slot_number}
use Rattle.member_link.specs.Machine.Programs.{Program, folder_number, name_of_class}
use Rattle.member_link.specs.Machine.Worlds.{Memory, with_heap}
use Rattle.member_link.specs.References.{Reference}
use Rattle.typed_runs.proofs.FieldOwners.{owner, value_there, value_put}
use Rattle.typed_runs.proofs.FolderFields.{folder_field, SlotThere, slot_there}
use Rattle.typed_runs.proofs.Kept.{Keeps, slots_kept}
use Rattle.typed_runs.proofs.LinkedFields.{FieldLinked}
use Rattle.typed_runs.proofs.Memories.{object_keeps, object_typed}
use Rattle.typed_runs.specs.Conforming.{HasShape, ShapeConforms, FieldConforms, FitsDescriptor, FitSlots, HoldsShape, IsTypedMemory}
use Rattle.typed_runs.specs.TypedPrograms.{Typings, IsTypedProgram}

-- ---- the value of a field of the folder

module _ (P : Program) (T : Typings) (program : IsTypedProgram P T) (r : Reference) (l : FieldLinked P r false) (class : ℕ)
    (is_folder : folder_number P l.field.class ≡ Some class) where
  -- the object, its class, and the slot of the field
  pub record FieldPlace (m : Memory) (reference : ℕ) : Type 0 where
    pub object : Object
    pub is_there : object_at m.heap reference ≡ Some object
    pub number : ℕ
    pub same : object.shape ≡ shapes.Folder number
    pub holds : HoldsShape P m.heap (shapes.Folder number) object.values
    pub at : SlotThere P T program (name_of_class P number) l.field

  pub field_place : (m : Memory) (reference : ℕ) (shape : Shape) → IsTypedMemory P m → HasShape m.heap reference shape → ShapeConforms P shape r.class
      → FieldPlace m reference
  field_place m reference shape typed has is =
      let f = folder_field P T program r l class is_folder in
      let holds = typed.objects reference has.object has.is_there in
      let o =
      owner P T program l.field class is_folder f r.class l.named_there l.above m.heap has.object.shape has.object.values holds
      (subst (λ x. ShapeConforms P x r.class) (sym has.same) is) in
      record {
        object = has.object;
        is_there = has.is_there;
        number = o.number;
        same = o.same;
        holds = subst (λ x. HoldsShape P m.heap x has.object.values) o.same holds;
        at = slot_there P T program (name_of_class P o.number) l.field f o.number_there o.up;
      }

  -- the value there
  pub got_is : (m : Memory) (reference : ℕ) (p : FieldPlace m reference)
      → (v : Value) × (got_field P m l.field (object_at m.heap reference) ≡ gives m (v ∷ [])) × FieldConforms P m.heap (type_of r.desc) v
  got_is m reference p =
      let v = value_there P m.heap (slots_of P (name_of_class P p.number)) p.object.values p.at.number p.at.slot p.holds.fields p.at.is_slot in (
        v.0,
        rw p.is_there (rw p.same (rw p.at.is_number (rw v.1 refl))),
        subst (λ (desc : List ℕ). FieldConforms P m.heap (type_of desc) v.0) (p.at.same_desc ∙ l.same_desc) v.2,
      )

  -- the memory with another
  pub record FieldPut (m : Memory) (reference : ℕ) (v : Value) : Type 0 where
    pub heap : Heap
    pub is_put : put_field_value P m l.field reference v (object_at m.heap reference) ≡ gives (with_heap m heap) []
    pub keep : Keeps m.heap heap
    pub typed : IsTypedMemory P (with_heap m heap)

  pub put_is : (m : Memory) (reference : ℕ) (v : Value) → IsTypedMemory P m → (p : FieldPlace m reference)
      → FieldConforms P m.heap (type_of l.field.desc) v → FieldPut m reference v
  put_is m reference v typed p fits =
      let new : Object = record p.object { values = slice_set p.object.values p.at.number v } in
      let slots : List Reference = slots_of P (name_of_class P p.number) in
      let own : FitsDescriptor P m.heap p.at.slot.desc v = subst (λ (desc : List ℕ). FitsDescriptor P m.heap desc v) (sym p.at.same_desc) fits in
      let values : FitSlots P m.heap slots new.values =
      value_put P m.heap slots p.object.values p.at.number p.at.slot v p.holds.fields p.at.is_slot own in
      let keep = object_keeps m.heap reference p.object new p.is_there refl in
      let holds : HoldsShape P (with_object m.heap reference new) (shapes.Folder p.number) new.values =
      record { found = p.holds.found; is_class = p.holds.is_class; fields = slots_kept P keep slots new.values values } in
      let put : with_value m.heap reference p.at.number v ≡ with_object m.heap reference new = rw p.is_there refl in
      record {
        heap = with_object m.heap reference new;
        is_put =
            ap (put_field_value P m l.field reference v) p.is_there
            ∙ put_at p.object.shape p.object.values p.object.monitor p.number p.at.number p.same p.at.is_number
            ∙ ap (λ h. gives (with_heap m h) []) put;
        keep = keep;
        typed =
            object_typed P m reference p.object new typed p.is_there refl (subst (λ x. HoldsShape P (with_object m.heap reference new) x new.values) (sym p.same) holds);
      } where
        put_at : (s : Shape) (vs : List Value) (monitor number n : ℕ) → s ≡ shapes.Folder number
            → slot_number P (name_of_class P number) l.field ≡ Some n
            → put_field_value P m l.field reference v (Some (record { shape = s; values = vs; monitor = monitor }))
            ≡ gives (with_heap m (with_value m.heap reference n v)) []
        put_at s vs monitor number n same is_number = rw same (rw is_number refl)

-- The fields of the objects of sites, by their numbers: a field that a look-up finds has the type of its descriptor there.
use Rattle.std.proofs.Common.{◌≡◌, ℕ, zero, suc, Bool, true, false, List, [], ◌∷◌, ◌++◌, map, reverse, replicate, length, slice_get, Option, Some, None, option_map, if◌then◌else◌, refl, sym, ap, subst, ◌∙◌}
use Rattle.std.specs.Prelude.{◌==◌, ◌&&◌, bytes_eq, slice_set}
use Rattle.std.specs.List.{flat_map}
use Rattle.std.proofs.lemmas.Bool.{and_parts, eqb-true}
use Rattle.std.proofs.lemmas.List.{length-map, map-append}
use Rattle.std.proofs.lemmas.Option.{none-some, same_Some, slice_get-map}
use Rattle.std.proofs.lemmas.Slice.Eq.{bytes_eq-Decides}
use Rattle.class_model.specs.Code.{verification_type}
use Rattle.class_model.specs.Descriptors.{type_of}
use Rattle.class_model.specs.declared.descriptor.FieldType.{FieldType}
use Rattle.class_model.specs.declared.header.Member.{Member}
use Rattle.class_tree.specs.Headers.{Headers, IsThere, Name, headers_of}
use Rattle.class_tree.specs.Hierarchy.{IsHierarchy}
use Rattle.class_tree.specs.Layouts.{instance_fields, own_fields, superclasses}
use Rattle.flow_code.specs.declared.point.Site.{Site}
use Rattle.member_link.specs.DeclaredMembers.{Declared}
use Rattle.member_link.specs.FieldConstructors.{field_types}
use Rattle.member_link.specs.Fields.{FindsFirst, above_class, absent_class, in_class, in_no_class, in_other_class}
use Rattle.member_link.specs.Laws.OwnMembers.{own_of_declared}
use Rattle.member_link.specs.Machine.Layouts.{own_slots_in, slot_number_in, slots_in}
use Rattle.member_link.specs.Machine.Links.{AreLinksOf, reference_to}
use Rattle.member_link.specs.Machine.Programs.{number_of_first, same_reference}
use Rattle.member_link.specs.References.{Reference}
use Rattle.member_link.specs.Signatures.{field_type}
use Rattle.plan_flow.specs.PlanRows.{new_object}
use Rattle.plan_flow.specs.PlanScope.{PlanScope, field_count, field_number}
use Rattle.plan_flow.specs.PlanSlots.{at_depth, changed, field_in, field_of_slot, put_in, with_depth_of, with_field}
use Rattle.virtual_state.specs.Laws.Objects.{found_site}
use Rattle.virtual_state.specs.States.{State, object_of}
use Rattle.virtual_state.specs.declared.slot.Slot.{Slot}
use Rattle.virtual_state.specs.declared.slot.Slot.TheVariants.{Plain, Virt, Unusable}
use Rattle.virtual_state.specs.declared.slot.VObject.{VObject}
use Rattle.written_types.proofs.SlotTypes.{place_has, plain_slots, put_slot}
use Rattle.written_types.proofs.Standing.{HaveFieldTypes}
use Rattle.written_types.specs.FitsTypes.{HasFieldTypes, HasType, HaveTypes}

-- What is known of the sites: the class of each is there, and its fields are those of the class; and the links are those of the hierarchy.
pub record SitesKnown (s : PlanScope) : Type 0 where
  pub hierarchy : IsHierarchy (headers_of s.classes)
  pub links : AreLinksOf (headers_of s.classes) s.links
  pub there : (number : ℕ) (site : Site) → slice_get s.flat.sites number ≡ Some site → IsThere (headers_of s.classes) site.class
  pub fields : (number : ℕ) (site : Site) → slice_get s.flat.sites number ≡ Some site → site.fields ≡ field_types (headers_of s.classes) site.class

-- ---- what a look-up finds

found_desc : {headers : Headers} {name desc : List ℕ} {classes : List Name} {found : Option Declared} → FindsFirst headers name desc classes found
    → (field : Declared) → found ≡ Some field → field.member.desc ≡ desc
found_desc in_no_class field is = absurd (none-some field is)
found_desc {name = name} {desc = desc} (in_class class classes header member there declares) field is =
    let own = own_of_declared name desc header.fields member declares in
    ap (λ (d : Declared). d.member.desc) (sym (same_Some _ field is)) ∙ own.4
found_desc (above_class class classes header one there none finds) field is = found_desc finds field is
found_desc (in_other_class class classes header found there none above finds) field is = found_desc finds field is
found_desc (absent_class class classes found there finds) field is = found_desc finds field is

-- ---- numbers of fields

-- the first that passes is there, and passes
pub first_passing : {A : Type 0} (test : A → Bool) (items : List A) (number : ℕ) → number_of_first test items ≡ Some number
    → (item : A) × (slice_get items number ≡ Some item) × (test item ≡ true)
first_passing test [] number is = absurd (none-some number is)
first_passing {A} test (first ∷ items) number is = by (test first) refl is (λ n some. first_passing test items n some) where
  later : (found : Option ℕ) → number_of_first test items ≡ found → option_map suc found ≡ Some number → ((n : ℕ) → number_of_first test items ≡ Some n → (item : A) × (slice_get items n ≡ Some item) × (test item ≡ true))
      → (item : A) × (slice_get (first ∷ items) number ≡ Some item) × (test item ≡ true)
  later None none is below = absurd (none-some number is)
  later (Some n) some is below =
      let one = below n some in
      (one.0, subst (λ (m : ℕ). slice_get (first ∷ items) m ≡ Some one.0) (same_Some (suc n) number is) one.1, one.2)

  by : (b : Bool) → test first ≡ b → (if b then Some zero else option_map suc (number_of_first test items)) ≡ Some number → ((n : ℕ) → number_of_first test items ≡ Some n → (item : A) × (slice_get items n ≡ Some item) × (test item ≡ true))
      → (item : A) × (slice_get (first ∷ items) number ≡ Some item) × (test item ≡ true)
  by true passes is below = (first, subst (λ (m : ℕ). slice_get (first ∷ items) m ≡ Some first) (same_Some zero number is) refl, passes)
  by false fails is below = later (number_of_first test items) refl is below

module _ (headers : Headers) where
  own_descs : (name : Name) (fields : List Member)
      → map (λ (r : Reference). r.desc) (map (λ (field : Member). record { class = name; name = field.name; desc = field.desc }) fields)
      ≡ map (λ (m : Member). m.desc) fields
  own_descs name [] = refl
  own_descs name (field ∷ fields) = λ i. field.desc ∷ own_descs name fields i

  slot_descs : (names : List Name)
      → map (λ (r : Reference). r.desc) (flat_map (own_slots_in headers) names) ≡ map (λ (m : Member). m.desc) (flat_map (own_fields headers) names)
  slot_descs [] = refl
  slot_descs (name ∷ names) =
      map-append (λ (r : Reference). r.desc) (own_slots_in headers name) (flat_map (own_slots_in headers) names)
      ∙ (λ i. own_descs name (own_fields headers name) i ++ slot_descs names i)
      ∙ sym (map-append (λ (m : Member). m.desc) (own_fields headers name) (flat_map (own_fields headers) names))

  types_of_descs : (fields : List Member)
      → map (λ (m : Member). type_of m.desc) fields ≡ map type_of (map (λ (m : Member). m.desc) fields)
  types_of_descs [] = refl
  types_of_descs (field ∷ fields) = λ i. type_of field.desc ∷ types_of_descs fields i

  -- the field of a number has the type of its descriptor
  pub number_has_type : (class : Name) (field : Reference) (number : ℕ) → slot_number_in headers class field ≡ Some number
      → slice_get (field_types headers class) number ≡ Some (type_of field.desc)
  number_has_type class field number is =
      let first = first_passing (same_reference field) (slots_in headers class) number is in
      let parts = and_parts (bytes_eq field.class first.0.class) (bytes_eq field.name first.0.name && bytes_eq field.desc first.0.desc) first.2 in
      let desc : field.desc ≡ first.0.desc =
      (bytes_eq-Decides field.desc first.0.desc).0 (and_parts (bytes_eq field.name first.0.name) (bytes_eq field.desc first.0.desc) parts.1).1 in
      ap (λ (all : List FieldType). slice_get all number)
      (types_of_descs (instance_fields headers class) ∙ ap (map type_of) (sym (slot_descs (reverse (superclasses headers class)))))
      ∙ slice_get-map type_of (map (λ (r : Reference). r.desc) (slots_in headers class)) number
      ∙ ap (option_map type_of) (slice_get-map (λ (r : Reference). r.desc) (slots_in headers class) number)
      ∙ ap (λ (found : Option Reference). option_map type_of (option_map (λ (r : Reference). r.desc) found)) first.1
      ∙ ap (λ (d : List ℕ). Some (type_of d)) (sym desc)

module _ (s : PlanScope) (known : SitesKnown s) where
  -- a field that is linked has the descriptor by which it is named
  pub linked_desc : (reference field : Reference) → s.links.field reference ≡ Some field → field.desc ≡ reference.desc
  linked_desc reference field is =
      let link = known.links.field reference in
      by link.found link.finds (sym link.same ∙ is) where
        by : (found : Option Declared) → FindsFirst (headers_of s.classes) reference.name reference.desc (reference.class ∷ []) found
            → option_map reference_to found ≡ Some field
            → field.desc ≡ reference.desc
        by None finds none = absurd (none-some field none)
        by (Some one) finds same =
            ap (λ (r : Reference). r.desc) (sym (same_Some (reference_to one) field same)) ∙ found_desc finds one refl

  field_at : (site : ℕ) (one : Site) → slice_get s.flat.sites site ≡ Some one → (field : Reference) (number : ℕ)
      → field_number s site field ≡ Some number
      → slice_get (map verification_type one.fields) number ≡ Some (field_type field.desc)
  field_at site one there field number is =
      let own : slot_number_in (headers_of s.classes) one.class field ≡ Some number = rw there at is in
      slice_get-map verification_type one.fields number
      ∙ ap (λ (all : List FieldType). option_map verification_type (slice_get all number)) (known.fields site one there)
      ∙ ap (option_map verification_type) (number_has_type (headers_of s.classes) one.class field number own)

  -- ---- reading

  pub field_has : (before : State) → HaveFieldTypes s before.objects → (slot : Slot) (field : Reference)
      → HasType s (field_type field.desc) (field_of_slot s before slot field)
  field_has before have Plain field = tt
  field_has before have Unusable field = tt
  field_has before have (Virt site) field = by (object_of before.objects site) (field_number s site field) refl refl where
    by : (object : Option VObject) (number : Option ℕ) → object_of before.objects site ≡ object → field_number s site field ≡ number
        → HasType s (field_type field.desc) (field_in object number)
    by None number is also = tt
    by (Some object) None is also = tt
    by (Some object) (Some number) is also =
        let known_fields = have site object is in
        place_has s (map verification_type known_fields.site.fields) object.fields number (field_type field.desc) known_fields.fields
        (field_at site known_fields.site known_fields.there field number also)

  -- ---- objects that change

  pub in_front : (first : VObject) (objects : List VObject) → HasFieldTypes s first.site first → HaveFieldTypes s objects
      → HaveFieldTypes s (first ∷ objects)
  in_front first objects has have number object is = by (first.site == number) refl is where
    by : (b : Bool) → (first.site == number) ≡ b → (if b then Some first else object_of objects number) ≡ Some object
        → HasFieldTypes s number object
    by true same found =
        subst (λ (n : ℕ). HasFieldTypes s n object) (eqb-true first.site number same)
        (subst (HasFieldTypes s first.site) (same_Some first object found) has)
    by false other found = have number object found

  pub put_have : (before : State) → HaveFieldTypes s before.objects → (object value : Slot) (field : Reference)
      → HasType s (field_type field.desc) value
      → HaveFieldTypes s (put_in s before object field value ++ before.objects)
  put_have before have Plain value field has = have
  put_have before have Unusable value field has = have
  put_have before have (Virt site) value field has = by (object_of before.objects site) (field_number s site field) refl refl where
    by : (object : Option VObject) (number : Option ℕ) → object_of before.objects site ≡ object → field_number s site field ≡ number
        → HaveFieldTypes s (with_field object number value ++ before.objects)
    by None number is also = have
    by (Some object) None is also = have
    by (Some object) (Some number) is also =
        let known_fields = have site object is in
        in_front (record object { fields = slice_set object.fields number value }) before.objects
        (subst (λ (n : ℕ). HasFieldTypes s n (record object { fields = slice_set object.fields number value }))
        (sym (found_site before.objects site object is)) (record {
          site = known_fields.site;
          there = known_fields.there;
          fields = put_slot s (map verification_type known_fields.site.fields) object.fields number (field_type field.desc) value known_fields.fields
              (field_at site known_fields.site known_fields.there field number also) has;
        })) have

  pub depth_have : (before : State) → HaveFieldTypes s before.objects → (object : Slot) (change : ℕ → ℕ)
      → HaveFieldTypes s (at_depth before object change ++ before.objects)
  depth_have before have Plain change = have
  depth_have before have Unusable change = have
  depth_have before have (Virt site) change = by (object_of before.objects site) refl where
    by : (object : Option VObject) → object_of before.objects site ≡ object → HaveFieldTypes s (with_depth_of object change ++ before.objects)
    by None is = have
    by (Some object) is =
        let known_fields = have site object is in
        in_front (record object { depth = change object.depth }) before.objects
        (subst (λ (n : ℕ). HasFieldTypes s n (record object { depth = change object.depth })) (sym (found_site before.objects site object is)) (record {
          site = known_fields.site;
          there = known_fields.there;
          fields = known_fields.fields;
        })) have

  pub new_have : (before : State) → HaveFieldTypes s before.objects → (number : ℕ) (site : Site) → slice_get s.flat.sites number ≡ Some site
      → HaveFieldTypes s (changed s before (new_object number) ++ before.objects)
  new_have before have number site there =
      in_front (record { site = number; fields = replicate (field_count s number) Plain; depth = 0 }) before.objects (record {
        site = site;
        there = there;
        fields = subst (λ (n : ℕ). HaveTypes s (map verification_type site.fields) (replicate n Plain))
            (length-map site.fields verification_type ∙ sym (counted there)) (plain_slots s (map verification_type site.fields));
      }) have where
        counted : slice_get s.flat.sites number ≡ Some site → field_count s number ≡ length site.fields
        counted is = rw is refl

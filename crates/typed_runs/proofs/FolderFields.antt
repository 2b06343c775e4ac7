use Rattle.std.specs.Prelude.{◌≡◌, ◌⊎◌, ◌≤◌, not, refl, ℕ, zero, suc, Bool, true, false, List, length, reverse, bytes_eq, slice_get, Option, Some, None, IsTrue, IsFalse}
use Rattle.std.proofs.Common.{arith, inl, inr, ap, sym, ◌∙◌, subst}
use Rattle.std.proofs.lemmas.Slice.Eq.{bytes_eq-Decides}
use Rattle.class_model.specs.Laws.Lists.{at_index}
use Rattle.class_model.specs.Members.{has, STATIC}
use Rattle.class_model.specs.declared.header.Header.{Header}
use Rattle.class_model.specs.declared.header.Member.{Member}
use Rattle.class_tree.specs.Headers.{Name, Headers, all_headers, class_named, named, IsThere}
use Rattle.class_tree.specs.Hierarchy.{IsHierarchy, superclass_of, climb, height}
use Rattle.class_tree.specs.Laws.Above.{hierarchy_is_sound, hierarchy_is_rooted, low_is_there, class_is_climbed}
use Rattle.class_tree.specs.Laws.Headers.{class_there, superclass_is}
use Rattle.class_tree.specs.Layouts.{classes_up, superclasses, own_fields}
use Rattle.class_tree.specs.Names.{object, is_interface}
use Rattle.class_tree.specs.Order.{place_of}
use Rattle.class_tree.specs.Subtype.{IsBelow}
use Rattle.class_tree.specs.declared.place.Place.{Place}
use Rattle.member_link.specs.DeclaredMembers.{declared}
use Rattle.member_link.specs.Machine.Layouts.{own_slots, slots_of, slot_number}
use Rattle.member_link.specs.Machine.Programs.{Program, RunClass, headers_in, folder_number, same_reference}
use Rattle.member_link.specs.References.{Reference}
use Rattle.typed_runs.proofs.Basics.{and_second}
use Rattle.typed_runs.proofs.LinkedFields.{FieldLinked, folder_class, declared_is, declared_number}
use Rattle.typed_runs.proofs.Members.{IsIn, in_reverse, in_map, in_filter, in_flat_map, in_at, one_passes}
use Rattle.typed_runs.specs.TypedPrograms.{Typings, IsTypedProgram}

-- ---- a class among those above another

fits : (hs : Headers) (fuel : ℕ) (next : Option Place) → climb hs fuel next ≤ fuel
unfolding climb
fits hs zero next = omega arith
fits hs (suc fuel) None = omega arith
fits hs (suc fuel) (Some place) = omega (arith, fits hs fuel (superclass_of hs place))

-- a class is among those upwards of each class at or below it, followed so often
abbrev Reaches : Headers → ℕ → Name → Type 0
Reaches hs fuel high =
    (name : Name) (header : Header) → class_named hs name ≡ Some header → (name ≡ high) ⊎ IsBelow hs name high → height hs (place_of hs name) ≤ fuel
    → IsIn high (classes_up hs fuel (Some name))

-- upwards of a class to one that is no interface
climbs : (hs : Headers) → IsHierarchy hs → (fuel : ℕ) (low high : Name) (header above : Header) → class_named hs low ≡ Some header
    → class_named hs high ≡ Some above → IsFalse (is_interface above)
    → (low ≡ high) ⊎ IsBelow hs low high → height hs (place_of hs low) ≤ fuel → IsIn high (classes_up hs fuel (Some low))
climbs hs hierarchy zero low high header above is above_is kind up enough =
    let stands = hierarchy.of_name low header is in
    let falls = hierarchy.falls stands.0 header stands.1.at in
    let none : height hs (Some stands.0) ≤ 0 = subst (λ p. height hs p ≤ 0) stands.1.is_place enough in
    absurd (omega (arith, falls, none))
climbs hs hierarchy (suc fuel) low high header above is above_is kind (inl same) enough = inl same
climbs hs hierarchy (suc fuel) low high header above is above_is kind (inr up) enough =
    let sound = hierarchy_is_sound hs hierarchy in
    let next = class_is_climbed hs sound (hierarchy_is_rooted hs hierarchy) up header above is above_is kind in
    let stands = hierarchy.of_name low header is in
    let falls = hierarchy.falls stands.0 header stands.1.at in
    let now : height hs (Some stands.0) ≤ suc fuel = subst (λ p. height hs p ≤ suc fuel) stands.1.is_place enough in
    let left : height hs (place_of hs next.0) ≤ fuel =
    subst (λ p. height hs p ≤ fuel) (superclass_is hs stands.0 header stands.1.at next.0 next.1) (omega (arith, falls, now)) in
    let others : Reaches hs fuel high =
    λ name h named more few. climbs hs hierarchy fuel name high h above named above_is kind more few in
    inr (rw is (rw next.1 (further others next.0 next.2 left))) where
      further : Reaches hs fuel high
          → (name : Name) → (name ≡ high) ⊎ IsBelow hs name high → height hs (place_of hs name) ≤ fuel → IsIn high (classes_up hs fuel (Some name))
      further others name (inl same) left = others name above (subst (λ n. class_named hs n ≡ Some above) (sym same) above_is) (inl same) left
      further others name (inr more) left = let c = class_there hs name (low_is_there more) in others name c.0 c.1 (inr more) left

pub among_superclasses : (hs : Headers) → IsHierarchy hs → (low high : Name) (above : Header) → IsThere hs low → class_named hs high ≡ Some above
    → IsFalse (is_interface above)
    → (low ≡ high) ⊎ IsBelow hs low high → IsIn high (superclasses hs low)
among_superclasses hs hierarchy low high above is_there is kind up =
    let c = class_there hs low is_there in
    climbs hs hierarchy (length (all_headers hs)) low high c.0 above c.1 is kind up (fits hs (length (all_headers hs)) (place_of hs low))

-- ---- a field of an object of the folder

-- the class that declares it is of the folder
pub record FolderField (P : Program) (field : Reference) : Type 0 where
  pub header : Header
  pub found : class_named (headers_in P) field.class ≡ Some header
  pub in_folder : named field.class (headers_in P).folder ≡ Some header
  pub member : Member
  pub declares : declared field.name field.desc header.fields ≡ Some member
  pub of_object : has member.flags STATIC ≡ false
  pub no_interface : is_interface header ≡ false
  pub no_object : field.class ≡ object → ⊥

module _ (P : Program) (T : Typings) (program : IsTypedProgram P T) where
  pub folder_field : (r : Reference) (l : FieldLinked P r false) (class : ℕ) → folder_number P l.field.class ≡ Some class → FolderField P l.field
  folder_field r l class is =
      let c = folder_class P l.field.class class l.header is l.found in
      let n = declared_number l.field l.header.fields l.member l.declares in
      let at : slice_get c.class.header.fields n.0 ≡ Some l.member = ap (λ (h : Header). slice_get h.fields n.0) c.header_is ∙ n.2 in
      record {
        header = l.header;
        found = l.found;
        in_folder = c.in_folder;
        member = l.member;
        declares = l.declares;
        of_object = l.static;
        no_interface = subst (λ (h : Header). is_interface h ≡ false) c.header_is (flat c.class c.is_class n.0 at (is_interface c.class.header) refl);
        no_object = λ same. let no : None ≡ Some class = sym program.base.of_object.outside ∙ ap (folder_number P) (sym same) ∙ is in cc;
      } where
        flat : (found : RunClass) → slice_get P.classes class ≡ Some found → (n : ℕ) → slice_get found.header.fields n ≡ Some l.member → (b : Bool)
            → is_interface found.header ≡ b → is_interface found.header ≡ false
        flat found is_class n there false e = e
        flat found is_class n there true e =
            let static =
            at_index (λ (field : Member). IsTrue (has field.flags STATIC)) found.header.fields n l.member ((program.classes class found is_class).of_interface e) there in
            let no : true ≡ false = sym static ∙ l.static in
            cc

  -- ---- its place among the values of an object

  -- its slot, which has its descriptor
  pub record SlotThere (name : Name) (field : Reference) : Type 0 where
    pub number : ℕ
    pub is_number : slot_number P name field ≡ Some number
    pub slot : Reference
    pub is_slot : slice_get (slots_of P name) number ≡ Some slot
    pub same_desc : slot.desc ≡ field.desc

  same_itself : (r : Reference) → same_reference r r ≡ true
  same_itself r =
      rw ((bytes_eq-Decides r.class r.class).1 refl) (rw ((bytes_eq-Decides r.name r.name).1 refl) ((bytes_eq-Decides r.desc r.desc).1 refl))

  pub slot_there : (name : Name) (field : Reference) → FolderField P field → IsThere (headers_in P) name
      → (name ≡ field.class) ⊎ IsBelow (headers_in P) name field.class → SlotThere name field
  slot_there name field f is_there up =
      let above = among_superclasses (headers_in P) program.hierarchy name field.class f.header is_there f.found f.no_interface up in
      let n = declared_number field f.header.fields f.member f.declares in
      let own : IsIn f.member (own_fields (headers_in P) field.class) =
      rw f.in_folder (in_filter (λ (m : Member). not (has m.flags STATIC)) f.member f.header.fields (ap not f.of_object) (in_at f.member f.header.fields n.0 n.2)) in
      let d = declared_is field.name field.desc f.header.fields f.member f.declares in
      let slot : IsIn (record { class = field.class; name = f.member.name; desc = f.member.desc }) (own_slots P field.class) =
      in_map (λ (m : Member). let r : Reference = record { class = field.class; name = m.name; desc = m.desc } in r) f.member (own_fields (headers_in P) field.class) own in
      let same : IsIn field (own_slots P field.class) =
      subst (λ (x : List ℕ). IsIn (let r : Reference = record { class = field.class; name = field.name; desc = x } in r) (own_slots P field.class)) d.1
      (subst (λ (x : List ℕ). IsIn (let r : Reference = record { class = field.class; name = x; desc = f.member.desc } in r) (own_slots P field.class)) d.0 slot) in
      let is_in : IsIn field (slots_of P name) =
      in_flat_map (own_slots P) field.class field (reverse (superclasses (headers_in P) name)) (in_reverse field.class (superclasses (headers_in P) name) above) same in
      let p = one_passes (same_reference field) field (slots_of P name) (same_itself field) is_in in
      record {
        number = p.number;
        is_number = p.is_number;
        slot = p.item;
        is_slot = p.is_there;
        same_desc = sym ((bytes_eq-Decides field.desc p.item.desc).0
            (and_second (bytes_eq field.name p.item.name) (bytes_eq field.desc p.item.desc)
            (and_second (bytes_eq field.class p.item.class) _ p.passed)));
      }

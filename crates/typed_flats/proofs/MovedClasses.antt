-- Names, the library and the classes of a program, where codes are replaced and flags cleared.
use Rattle.std.proofs.Common.{◌≡◌, ℕ, zero, suc, List, [], ◌∷◌, ◌++◌, map, slice_get, Option, Some, None, option_map, IfSome, IsTrue, refl, sym, ap, subst, ◌∙◌}
use Rattle.std.specs.List.{AllByRecursion}
use Rattle.std.proofs.lemmas.List.{append-nil}
use Rattle.std.proofs.lemmas.Option.{none-some, same_Some}
use Rattle.class_model.specs.Descriptors.{type_of}
use Rattle.class_model.specs.Laws.Lists.{AllByRecursion-weaker}
use Rattle.class_model.specs.Members.{STATIC, has}
use Rattle.class_model.specs.declared.header.Header.{Header}
use Rattle.class_model.specs.declared.header.Member.{Member}
use Rattle.class_tree.specs.Headers.{Name, IsThere, class_named}
use Rattle.class_tree.specs.Laws.Alike.{there_alike}
use Rattle.class_tree.specs.Names.{cloneable, machine_throwables, object, serializable, throwable}
use Rattle.class_tree.specs.Steps.{supers}
use Rattle.member_link.specs.Forms.{IsInstantiable}
use Rattle.member_link.specs.Machine.Programs.{Program, RunClass, RunMethod, folder_number, header_named, headers_in, is_interface_named}
use Rattle.member_link.specs.Machine.Replaced.{Replacement, field_cleared, map_numbered, replaced, replaced_class}
use Rattle.member_link.specs.References.{IsNamedThere, element_class}
use Rattle.same_runs.specs.Laws.Numbered.{methods_are, replaced_at}
use Rattle.same_runs.specs.Laws.Programs.{SameNamed, named_both, same_field_desc, same_header, same_interface, same_number}
use Rattle.same_runs.specs.Laws.ReplacedPrograms.{members_same, static_stays}
use Rattle.typed_flats.proofs.GrownLaws.{GrownLaws}
use Rattle.typed_flats.proofs.MovedLinks.{same_shapes}
use Rattle.typed_flats.proofs.ReplacedClasses.{class_in, same_program}
use Rattle.typed_runs.specs.TypedPoints.{IsOfLibrary}
use Rattle.typed_runs.specs.TypedPrograms.{FitsFlags, FitsStart, HasBase, IsTypedClass, IsTypedProgram, IsTypedStart, Typings}

pub if_weaker : {A : Type 0} {F G : A → Type 0} (found : Option A) → ((a : A) → F a → G a) → IfSome found F → IfSome found G
if_weaker None each is = tt
if_weaker (Some a) each is = each a is

module _ {P : Program} {T : Typings} (typed : IsTypedProgram P T) (r : Replacement) (none : (class : ℕ) → r.added class ≡ []) (laws : GrownLaws) where
  -- ---- names

  pub moved_there : (name : Name) → IsThere (headers_in P) name → IsThere (headers_in (replaced P r)) name
  moved_there name there = there_alike (headers_in P) (headers_in (replaced P r)) (same_shapes typed r none laws) name there

  pub moved_named : (name : Name) → IsNamedThere (headers_in P) name → IsNamedThere (headers_in (replaced P r)) name
  moved_named name there = if_weaker (element_class name) moved_there there

  pub moved_instantiable : (name : Name) → IsInstantiable (headers_in P) name → IsInstantiable (headers_in (replaced P r)) name
  moved_instantiable name is = record {
    header = _;
    found = class_in r none P name is.header is.found;
    concrete = is.concrete;
    no_interface = is.no_interface;
  }

  pub moved_library : (name : Name) → IsOfLibrary P name → IsOfLibrary (replaced P r) name
  moved_library name is = record {
    is_there = moved_there name is.is_there;
    outside = same_number (same_program typed r none) name ∙ is.outside;
  }

  -- ---- the library

  leans : (name : Name) (header : Header) → class_named (headers_in (replaced P r)) name ≡ Some header
      → folder_number (replaced P r) name ≡ None
      → AllByRecursion (λ above. folder_number (replaced P r) above ≡ None) (supers header)
  leans name header is outside = by (header_named P name) refl (subst (SameNamed (header_named P name)) is (same_header (same_program typed r none) name)) where
    by : (found : Option Header) → header_named P name ≡ found → SameNamed found (Some header)
        → AllByRecursion (λ above. folder_number (replaced P r) above ≡ None) (supers header)
    by None e impossible = elim impossible [ ]
    by (Some one) e (named_both alike) =
        let own = typed.base.leans_on_itself name one e (sym (same_number (same_program typed r none) name) ∙ outside) in
        let moved = AllByRecursion-weaker (λ (above : Name). folder_number P above ≡ None) (λ (above : Name). folder_number (replaced P r) above ≡ None)
        (λ above outside_too. same_number (same_program typed r none) above ∙ outside_too) (supers one) own in
        subst (AllByRecursion (λ (above : Name). folder_number (replaced P r) above ≡ None)) (sym (supers_same one header alike.superclass alike.interfaces)) moved where
          supers_same : (one other : Header) → other.super_name ≡ one.super_name → other.interfaces ≡ one.interfaces → supers other ≡ supers one
          supers_same one other super interfaces = rw (super, interfaces) refl

  pub moved_base : HasBase (replaced P r)
  moved_base = record {
    of_object = moved_library object typed.base.of_object;
    of_strings = moved_library _ typed.base.of_strings;
    of_classes = moved_library _ typed.base.of_classes;
    of_throwables =
        AllByRecursion-weaker (λ (name : Name). IsOfLibrary P name × IsTrue (P.links.below name throwable))
        (λ (name : Name). IsOfLibrary (replaced P r) name × IsTrue (P.links.below name throwable))
        (λ name is. (moved_library name is.0, is.1)) machine_throwables typed.base.of_throwables;
    of_arrays =
        AllByRecursion-weaker (λ (name : Name). IsTrue (is_interface_named P name)) (λ (name : Name). IsTrue (is_interface_named (replaced P r) name))
        (λ name is. same_interface (same_program typed r none) name ∙ is) (cloneable ∷ serializable ∷ []) typed.base.of_arrays;
    leans_on_itself = leans;
  }

  -- ---- the classes

  members_are : (number : ℕ) (class : RunClass) → IsTypedClass P number class
      → map (λ (method : RunMethod). method.member) (replaced_class r number class).methods ≡ (replaced_class r number class).header.methods
  members_are number class is =
      ap (map (λ (method : RunMethod). method.member)) (methods_are P r none number class)
      ∙ members_same r number zero class.methods ∙ is.methods
      ∙ sym (append-nil class.header.methods)
      ∙ ap (λ (more : List RunMethod). class.header.methods ++ map (λ (method : RunMethod). method.member) more) (sym (none number))

  statics : (class number : ℕ) (fields : List Member) → AllByRecursion (λ (field : Member). IsTrue (has field.flags STATIC)) fields
      → AllByRecursion (λ (field : Member). IsTrue (has field.flags STATIC)) (map_numbered (field_cleared r class) number fields)
  statics class number [] all = tt
  statics class number (field ∷ fields) all =
      (static_stays field.flags (r.cleared class number) ∙ all.0, statics class (suc number) fields all.1)

  class_moved : (number : ℕ) (class : RunClass) → slice_get P.classes number ≡ Some class
      → IsTypedClass (replaced P r) number (replaced_class r number class)
  class_moved number class there =
      let is = typed.classes number class there in
      let more : class.header.methods ≡ (replaced_class r number class).header.methods =
      sym (append-nil class.header.methods)
      ∙ ap (λ (more : List RunMethod). class.header.methods ++ map (λ (method : RunMethod). method.member) more) (sym (none number)) in
      record {
        methods = members_are number class is;
        flags = subst (AllByRecursion FitsFlags) more is.flags;
        of_interface = λ interface. statics number zero class.header.fields (is.of_interface interface);
        starts =
            AllByRecursion-weaker (IsTypedStart P number) (IsTypedStart (replaced P r) number)
            (λ start fits. subst (λ (desc : List ℕ). FitsStart (type_of desc) start.value)
            (sym (same_field_desc (same_program typed r none) number start.field)) fits) class.starts is.starts;
      }

  pub moved_classes : (number : ℕ) (class : RunClass) → slice_get (replaced P r).classes number ≡ Some class
      → IsTypedClass (replaced P r) number class
  moved_classes number class there = by (slice_get P.classes number) refl (sym (replaced_at P r number) ∙ there) where
    by : (found : Option RunClass) → slice_get P.classes number ≡ found → option_map (replaced_class r number) found ≡ Some class
        → IsTypedClass (replaced P r) number class
    by None e is = absurd (none-some class is)
    by (Some one) e is =
        subst (IsTypedClass (replaced P r) number) (same_Some (replaced_class r number one) class is) (class_moved number one e)

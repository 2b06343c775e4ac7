use Rattle.std.specs.Prelude.{◌≡◌, ◌<◌, refl, Bool, true, false, List, [], ◌∷◌, ◌++◌, length, bytes_eq, codes, Option, Some, None, IsSome, IsTrue, IfSome}
use Rattle.std.specs.List.{AllByRecursion}
use Rattle.std.proofs.Common.{arith, sym, subst}
use Rattle.class_model.specs.Checks.{Check, AllHold, asked_each}
use Rattle.class_model.specs.Laws.Checks.{first_holds, others_hold}
use Rattle.class_model.specs.declared.class_file.ClassFile.{ClassFile}
use Rattle.class_model.specs.declared.header.Header.{Header}
use Rattle.class_tree.specs.Headers.{Name, Classes, Headers, headers_of, named, class_named}
use Rattle.class_tree.specs.Hierarchy.{IsHierarchy}
use Rattle.class_tree.specs.Laws.Above.{hierarchy_is_sound, class_is_subtype}
use Rattle.class_tree.specs.Names.{object, cloneable, serializable, throwable, method_handle, method_type, machine_throwables, base_names, is_interface}
use Rattle.class_tree.specs.Problems.{Problem, check}
use Rattle.class_tree.specs.Steps.{supers, IsOutside, HasOneConstructor, library_checks, folder_checks, hierarchy_checks, is_method_handle, is_method_type, needed_class_checks, base_checks, step_checks}
use Rattle.class_tree.specs.Subtype.{IsBelow}
use Rattle.class_tree.specs.Trees.{IsTree}
use Rattle.class_tree.specs.declared.fault.LinkRule.TheVariants as rules
use Rattle.member_link.specs.Machine.Classes.{program_of}
use Rattle.member_link.specs.Machine.Links.{AreLinksOf}
use Rattle.member_link.specs.Machine.Programs.{Links, Program, headers_in, folder_number, is_interface_named}
use Rattle.typed_programs.proofs.Folders.{some_of, named_behind, apart, outside_folder, no_folder_class}
use Rattle.typed_programs.proofs.ProgramHeaders.{headers_are}
use Rattle.typed_runs.specs.TypedPoints.{IsOfLibrary}
use Rattle.typed_runs.specs.TypedPrograms.{HasBase}

-- ---- what is asked of the library

abbrev pub name_checks : Classes → List (Check Problem)
name_checks classes = asked_each (λ name. check name rules.Missing (IsSome (named name classes.library)) ∷ []) base_names

abbrev pub object_checks : Classes → List (Check Problem)
object_checks classes = check object rules.NoMember (IfSome (class_named (headers_of classes) object) HasOneConstructor) ∷ []

abbrev pub throwable_checks : Classes → List (Check Problem)
throwable_checks classes = asked_each (λ name. check name rules.KindOfSuper (IsBelow (headers_of classes) name throwable) ∷ [])
    machine_throwables

abbrev pub interface_checks : Classes → List (Check Problem)
interface_checks classes = asked_each (λ name. check name rules.KindOfSuper
    (IfSome (class_named (headers_of classes) name) (λ header. IsTrue (is_interface header))) ∷ []) (serializable ∷ cloneable ∷ [])

-- the parts of what is asked of it
pub record BaseHolds (classes : Classes) : Type 0 where
  pub names : AllHold (name_checks classes)
  pub throwables : AllHold (throwable_checks classes)
  pub interfaces : AllHold (interface_checks classes)
  pub handles : AllHold (needed_class_checks is_method_handle method_handle classes)
  pub types : AllHold (needed_class_checks is_method_type method_type classes)

pub parts_of_base : (a b c d e f : List (Check Problem)) → AllHold (a ++ b ++ c ++ d ++ e ++ f)
    → AllHold a × AllHold c × AllHold d × AllHold e × AllHold f
parts_of_base a b c d e f all =
    let five = first_holds (a ++ b ++ c ++ d ++ e) f all in
    let four = first_holds (a ++ b ++ c ++ d) e five in
    let three = first_holds (a ++ b ++ c) d four in
    let two = first_holds (a ++ b) c three in (
      first_holds a b two,
      others_hold (a ++ b) c three,
      others_hold (a ++ b ++ c) d four,
      others_hold (a ++ b ++ c ++ d) e five,
      others_hold (a ++ b ++ c ++ d ++ e) f all,
    )

abbrev pub base_of : Classes → List ClassFile → List (Check Problem)
base_of classes [] = []
base_of classes (class ∷ folder) = base_checks classes

pub base_holds : (classes : Classes) → 0 < length classes.folder → AllHold (step_checks classes) → BaseHolds classes
base_holds classes some all = by classes.folder some (others_hold (hierarchy_checks (headers_of classes)) (base_of classes classes.folder)
    all) where
      by : (folder : List ClassFile) → 0 < length folder → AllHold (base_of classes folder) → BaseHolds classes
      by [] none base = absurd (omega (arith, none))
      by (first ∷ rest) some base =
          let p = parts_of_base (name_checks classes) (object_checks classes) (throwable_checks classes) (interface_checks classes)
          (needed_class_checks is_method_handle method_handle classes) (needed_class_checks is_method_type method_type classes) base in
          record { names = p.0; throwables = p.1; interfaces = p.2; handles = p.3; types = p.4 }

-- of a class of the library
pub library_holds : (headers : Headers) (libraries : List Header) → AllHold (asked_each (library_checks headers) libraries)
    → (name : Name) (header : Header) → named name libraries ≡ Some header
    → AllHold (library_checks headers header)
library_holds headers [] all name header found = cc
library_holds headers (first ∷ rest) all name header found = by (bytes_eq name first.name) refl
    (library_holds headers rest (others_hold (library_checks headers first) (asked_each (library_checks headers) rest) all) name header)
  where
    by : (b : Bool) → bytes_eq name first.name ≡ b → (named name rest ≡ Some header → AllHold (library_checks headers header))
        → AllHold (library_checks headers header)
    by true e next =
        let same : first ≡ header = some_of (rw e at found) in
        subst (λ (h : Header). AllHold (library_checks headers h)) same
        (first_holds (library_checks headers first) (asked_each (library_checks headers) rest) all)
    by false e next = next (rw e at found)

pub named_in_library : (name : Name) (folder library : List Header) (header : Header) → named name folder ≡ None
    → named name (folder ++ library) ≡ Some header → named name library ≡ Some header
named_in_library name [] library header none found = found
named_in_library name (x ∷ folder) library header none found = by (bytes_eq name x.name) refl
    (named_in_library name folder library header) where
      by : (b : Bool) → bytes_eq name x.name ≡ b → (named name folder ≡ None → named name (folder ++ library) ≡ Some header
          → named name library ≡ Some header) → named name library ≡ Some header
      by true e next = let no : Some x ≡ None = rw e at none in cc
      by false e next = next (rw e at none) (rw e at found)

module _ (classes : Classes) (links : Links) (are_links : AreLinksOf (headers_of classes) links) (tree : IsTree classes)
    (hierarchy : IsHierarchy (headers_of classes)) (some : 0 < length classes.folder) where
  abbrev P : Program
  P = program_of classes links

  holds : BaseHolds classes
  holds = base_holds classes some tree.holds

  pub of_library : (name : Name) → IsSome (named name classes.library) → IsOfLibrary (program_of classes links) name
  of_library name there = record {
    is_there = subst (λ hs. IsSome (class_named hs name)) (sym (headers_are classes links))
        (named_behind name (headers_of classes).folder classes.library there);
    outside = outside_folder classes links name (apart name (headers_of classes).folder classes.library (tree.in_order.once name) there);
  }

  below_throwable : (name : Name) → IsBelow (headers_of classes) name throwable → IsTrue (links.below name throwable)
  below_throwable name below = (are_links.below name throwable).1
      (class_is_subtype (headers_of classes) (hierarchy_is_sound (headers_of classes) hierarchy) hierarchy.no_array below)

  interface_there : (name : Name) → IsSome (named name classes.library)
      → IfSome (class_named (headers_of classes) name) (λ header. IsTrue (is_interface header)) → IsTrue (is_interface_named P name)
  interface_there name there kind = by (class_named (headers_of classes) name) refl where
    by : (o : Option Header) → class_named (headers_of classes) name ≡ o → IsTrue (is_interface_named P name)
    by None e = let no : IsSome (class_named (headers_of classes) name) = named_behind name (headers_of classes).folder classes.library
        there in let none : IsSome {T = Header} None = rw e at no in cc
    by (Some header) e =
        let found : class_named (headers_in P) name ≡ Some header = subst (λ hs. class_named hs name ≡ Some header)
        (sym (headers_are classes links)) e in
        let flag : IsTrue (is_interface header) = rw e at kind in
        rw found flag

  leans : (name : Name) (header : Header) → class_named (headers_in P) name ≡ Some header → named name (headers_of classes).folder ≡ None
      → AllByRecursion (λ above. folder_number P above ≡ None) (supers header)
  leans name header found outside =
      let there : class_named (headers_of classes) name ≡ Some header = subst (λ hs. class_named hs name ≡ Some header)
      (headers_are classes links) found in
      let all : AllHold (hierarchy_checks (headers_of classes)) = first_holds (hierarchy_checks (headers_of classes)) _ tree.holds in
      let checks = library_holds (headers_of classes) classes.library
      (others_hold (asked_each (folder_checks (headers_of classes)) (headers_of classes).folder) _ all) name header
      (named_in_library name (headers_of classes).folder classes.library header outside there) in
      each (supers header) checks.1.0 where
        each : (names : List Name) → AllByRecursion (IsOutside (headers_of classes)) names
            → AllByRecursion (λ above. folder_number P above ≡ None) names
        each [] out = tt
        each (above ∷ names) out = (outside_folder classes links above out.0, each names out.1)

  throwable_there : (name : Name) → IsSome (named name classes.library) → IsBelow (headers_of classes) name throwable
      → IsOfLibrary P name × IsTrue (links.below name throwable)
  throwable_there name there below = (of_library name there, below_throwable name below)

  pub has_base : HasBase (program_of classes links)
  has_base =
      let n = holds.names in
      let t = holds.throwables in
      record {
        of_object = of_library object n.1.1.1.1.1.1.1.1.1.1.1.1.1.0;
        of_strings = of_library (codes "java/lang/String") n.1.1.1.1.1.1.1.1.1.1.1.1.1.1.0;
        of_classes = of_library (codes "java/lang/Class") n.1.1.1.1.1.0;
        of_throwables = (
          throwable_there _ n.1.0 t.0,
          (
            throwable_there _ n.1.1.0 t.1.0,
            (
              throwable_there _ n.1.1.1.0 t.1.1.0,
              (
                throwable_there _ n.1.1.1.1.0 t.1.1.1.0,
                (
                  throwable_there _ n.1.1.1.1.1.1.0 t.1.1.1.1.0,
                  (
                    throwable_there _ n.1.1.1.1.1.1.1.1.0 t.1.1.1.1.1.0,
                    (
                      throwable_there _ n.1.1.1.1.1.1.1.1.1.0 t.1.1.1.1.1.1.0,
                      (
                        throwable_there _ n.1.1.1.1.1.1.1.1.1.1.0 t.1.1.1.1.1.1.1.0,
                        (
                          throwable_there _ n.1.1.1.1.1.1.1.1.1.1.1.0 t.1.1.1.1.1.1.1.1.0,
                          (throwable_there _ n.1.1.1.1.1.1.1.1.1.1.1.1.0 t.1.1.1.1.1.1.1.1.1.0, tt),
                        ),
                      ),
                    ),
                  ),
                ),
              ),
            ),
          ),
        );
        of_arrays = (
          interface_there cloneable n.1.1.1.1.1.1.1.0 holds.interfaces.1.0,
          (interface_there serializable n.0 holds.interfaces.0, tt),
        );
        leans_on_itself = λ name header found outside. leans name header found (no_folder_class classes links name outside);
      }

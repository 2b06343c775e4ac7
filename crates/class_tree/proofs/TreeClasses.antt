-- What is known of each class of a hierarchy.
use Rattle.std.proofs.Common.{◌≡◌, ◌+◌, ℕ, zero, suc, List, [], ◌∷◌, ◌++◌, length, map, slice_get, Option, Some, None, IsSome, IfSome, refl, sym, ◌∙◌, subst}
use Rattle.std.specs.List.{AllByRecursion, flat_map}
use Rattle.class_model.specs.Checks as checks
use Rattle.class_model.specs.Checks.{AllHold}
use Rattle.class_model.specs.ClassOf.{ClassOf}
use Rattle.class_model.specs.Header.{header_of}
use Rattle.class_model.specs.Laws.Checks.{first_holds, others_hold}
use Rattle.class_model.specs.Laws.ClassFiles.{flags_place, parts_hold}
use Rattle.class_model.specs.Laws.Descriptors.{name_head}
use Rattle.class_model.specs.Members.{class_name_checks}
use Rattle.class_model.specs.Names.{IsClassName}
use Rattle.class_model.specs.PoolChecks.{class_at}
use Rattle.class_model.specs.Spelling.{class_bytes, entry_bytes}
use Rattle.class_model.specs.declared.class_file.ClassFile.{ClassFile}
use Rattle.class_model.specs.declared.header.Header.{Header}
use Rattle.class_tree.specs.Headers.{Name, Classes, Headers, headers_of, class_named, IsClassFile, IsLibraryClass}
use Rattle.class_tree.specs.Steps.{hierarchy_checks}
use Rattle.class_tree.specs.Subtype.{IsArray}
use Rattle.class_tree.specs.Trees.{IsInOrder, IsTree}
use Rattle.class_tree.proofs.ClassHolds.{in_either_list}
use Rattle.class_tree.proofs.Places.{number_of_class}

-- ---- names of classes

name_is_class_name : (class : ClassFile) (at : ℕ) → checks.AllHold (class_name_checks class.pool at class.this_class) → IsClassName (header_of class).name
name_is_class_name class at hold = by (class_at class.pool class.this_class) refl hold.0 hold.1.0
  where
    by : (found : Option (List ℕ)) → class_at class.pool class.this_class ≡ found → IsSome found → IfSome found IsClassName → IsClassName (header_of class).name
    by None is some named = absurd cc
    by (Some text) is some named = rw is named

-- ---- what the checks of a class file say of its name

class_file_name : (bytes : List ℕ) (class : ClassFile) → ClassOf bytes class → IsClassName (header_of class).name
class_file_name bytes class is =
    let c = is.cut in
    subst (λ (c : ClassFile). IsClassName (header_of c).name) (sym is.is) (name_is_class_name c (flags_place c + 2) (parts_hold c is.holds).this_class)

-- the second of six parts
second_of_six : (a b c d e f : List (checks.Check checks.Fault)) → checks.AllHold (a ++ b ++ c ++ d ++ e ++ f) → checks.AllHold b
second_of_six a b c d e f all =
    let abcde = first_holds (a ++ b ++ c ++ d ++ e) f all in
    let abcd = first_holds (a ++ b ++ c ++ d) e abcde in
    others_hold a b (first_holds (a ++ b) c (first_holds (a ++ b ++ c) d abcd))

library_name : (header : Header) → IsLibraryClass header → IsClassName header.name
library_name header is =
    let c = is.read.cut in
    let at = 10 + length (flat_map entry_bytes c.pool) + 2 in
    let named = second_of_six _ (class_name_checks c.pool at c.this_class) _ _ _ _ is.read.holds in
    subst (λ (h : Header). IsClassName h.name) (sym is.read.is) (name_is_class_name c at named)

each_class_file : (list : List ClassFile) → AllByRecursion IsClassFile list → (number : ℕ) (header : Header) → slice_get (map header_of list) number ≡ Some header → IsClassName header.name
each_class_file [] all number header there = absurd cc
each_class_file (class ∷ list) all zero header there = subst (λ (h : Header). IsClassName h.name) {x = header_of class} {y = header} (cc) (class_file_name (class_bytes class) class all.0)
each_class_file (class ∷ list) all (suc number) header there = each_class_file list all.1 number header there

each_library_class : (list : List Header) → AllByRecursion IsLibraryClass list → (number : ℕ) (header : Header) → slice_get list number ≡ Some header → IsClassName header.name
each_library_class [] all number header there = absurd cc
each_library_class (first ∷ list) all zero header there = subst (λ (h : Header). IsClassName h.name) {x = first} {y = header} (cc) (library_name first all.0)
each_library_class (first ∷ list) all (suc number) header there = each_library_class list all.1 number header there

-- ---- hierarchies

-- Classes in order that hold what is asked of a hierarchy; none has the name of an array.
pub record HoldsSteps (headers : Headers) : Type 0 where
  pub in_order : IsInOrder headers
  pub hold : AllHold (hierarchy_checks headers)
  pub no_array : (name : Name) → IsArray name → class_named headers name ≡ None

pub tree_holds_steps : (classes : Classes) → IsTree classes → HoldsSteps (headers_of classes)
tree_holds_steps classes tree = record {
  in_order = tree.in_order;
  hold = first_holds (hierarchy_checks (headers_of classes)) _ tree.holds;
  no_array = λ name array. by name array (class_named (headers_of classes) name) refl;
}
  where
    by : (name : Name) → IsArray name → (found : Option Header) → class_named (headers_of classes) name ≡ found → class_named (headers_of classes) name ≡ None
    by name array None none = none
    by name array (Some header) is =
        let class = number_of_class (headers_of classes) name header is in
        let own = in_either_list (λ header. IsClassName header.name) (map header_of classes.folder) classes.library (each_class_file classes.folder tree.folder) (each_library_class classes.library tree.library) class.0 header class.1.there in
        let head = name_head header.name own in
        absurd (head.no_bracket (let e : head.first ∷ head.more ≡ 91 ∷ array.0 = sym head.is ∙ class.1.same ∙ array.1 in cc))

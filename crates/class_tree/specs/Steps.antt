-- What a folder and its library are asked to be a hierarchy (JVM Specification SE 8, 5.3.5): class by class, those of the
-- folder first, and then, where the folder has a class, what the machine needs of its library. The lists are in byte
-- order of names, and no name stands twice.
use Rattle.std.specs.Prelude.{◌≡◌, ◌≢◌, ◌&&◌, not, Bool, true, false, List, [], ◌∷◌, ◌++◌, Option, Some, None, IfSome, IsSome, IsTrue, IsFalse, codes}
use Rattle.std.specs.List.{AllByRecursion, list_any}
use Rattle.class_model.specs.Checks.{Check, asked_each, asked_if}
use Rattle.class_model.specs.Members.{has, FINAL, PUBLIC, STATIC}
use Rattle.class_model.specs.Names.{init}
use Rattle.class_model.specs.declared.class_file.ClassFile.{ClassFile}
use Rattle.class_model.specs.declared.header.Header.{Header}
use Rattle.class_model.specs.declared.header.Member.{Member}
use Rattle.class_model.specs.declared.pool.Const.{Const}
use Rattle.class_model.specs.declared.pool.Const.TheVariants.{MethodHandle, MethodType}
use Rattle.class_tree.specs.Headers.{Name, Classes, Headers, headers_of, named, class_named, IsThere}
use Rattle.class_tree.specs.Names.{object, cloneable, serializable, throwable, method_handle, method_type, machine_throwables, base_names, is_interface, is_member, times_named}
use Rattle.class_tree.specs.Problems.{check, Problem}
use Rattle.class_tree.specs.Subtype.{IsBelow}
use Rattle.class_tree.specs.declared.fault.LinkRule.TheVariants as rules

-- ---- the classes above a class

-- the superclass, if there is one, and then the interfaces
abbrev pub supers : Header → List Name
supers header = with_super header.super_name header.interfaces where
  with_super : Option Name → List Name → List Name
  with_super None names = names
  with_super (Some name) names = name ∷ names

-- the superclass is there and is no final class
abbrev pub IsExtensible : Headers → Header → Type 0
IsExtensible headers header =
    IfSome header.super_name
    (λ name. IfSome (class_named headers name) (λ above. IsFalse (has above.flags FINAL)))

-- The superclass is no interface and each interface is one; the superclass of an interface is java/lang/Object; and
-- java/lang/Object alone has none.
pub record FitsKinds (headers : Headers) (header : Header) : Type 0 where
  pub superclass : IfSome header.super_name
      (λ name. IfSome (class_named headers name) (λ above. IsFalse (is_interface above)))
  pub interfaces : AllByRecursion
      (λ name. IfSome (class_named headers name)
      (λ above. IsTrue (is_interface above))) header.interfaces
  pub of_interface : IsTrue (is_interface header) → header.super_name ≡ Some object
  pub root : header.super_name ≡ None → header.name ≡ object

-- no class of the folder has this name
abbrev pub IsOutside : Headers → Name → Type 0
IsOutside headers name = named name headers.folder ≡ None

-- what a class of the folder is asked
abbrev pub folder_checks : Headers → Header → List (Check Problem)
folder_checks headers header =
    check header.name rules.Missing (AllByRecursion (IsThere headers) (supers header))
    ∷ check header.name rules.Circle (¬ IsBelow headers header.name header.name)
    ∷ check header.name rules.FinalSuper (IsExtensible headers header)
    ∷ check header.name rules.KindOfSuper (FitsKinds headers header × (header.name ≢ object))
    ∷ []

-- what a class of the library is asked
abbrev pub library_checks : Headers → Header → List (Check Problem)
library_checks headers header =
    check header.name rules.Missing (AllByRecursion (IsThere headers) (supers header))
    ∷ check header.name rules.LibraryLeans (AllByRecursion (IsOutside headers) (supers header))
    ∷ check header.name rules.Circle (¬ IsBelow headers header.name header.name)
    ∷ check header.name rules.KindOfSuper (FitsKinds headers header)
    ∷ []

abbrev pub hierarchy_checks : Headers → List (Check Problem)
hierarchy_checks headers =
    asked_each (folder_checks headers) headers.folder
    ++ asked_each (library_checks headers) headers.library

-- ---- what the machine needs of its library

-- the member is a public instance initialiser with no parameters
abbrev pub is_open_constructor : Member → Bool
is_open_constructor member =
    is_member init (codes "()V") member
    && has member.flags PUBLIC
    && not (has member.flags STATIC)

-- the class declares such an initialiser, and no other
pub record HasOneConstructor (header : Header) : Type 0 where
  pub callable : IsTrue (list_any is_open_constructor header.methods)
  pub once : times_named init header.methods ≡ 1

-- a class file's pool has a constant that passes the test
abbrev pub has_constant : (Const → Bool) → ClassFile → Bool
has_constant test class = list_any (passes test) class.pool where
  passes : (Const → Bool) → Option Const → Bool
  passes test None = false
  passes test (Some constant) = test constant

abbrev pub is_method_handle : Const → Bool
is_method_handle (MethodHandle kind reference) = true
is_method_handle other = false

abbrev pub is_method_type : Const → Bool
is_method_type (MethodType descriptor) = true
is_method_type other = false

-- where a constant of the folder passes the test, a class is in the library
abbrev pub needed_class_checks : (Const → Bool) → Name → Classes → List (Check Problem)
needed_class_checks test name classes =
    asked_if (list_any (has_constant test) classes.folder)
    (check name rules.Missing (IsSome (named name classes.library)) ∷ [])

abbrev pub base_checks : Classes → List (Check Problem)
base_checks classes =
    let headers = headers_of classes in
    asked_each (λ name. check name rules.Missing (IsSome (named name classes.library)) ∷ [])
    base_names
    ++ (check object rules.NoMember (IfSome (class_named headers object) HasOneConstructor) ∷ [])
    ++ asked_each
    (λ name. check name rules.KindOfSuper (IsBelow headers name throwable) ∷ [])
    machine_throwables
    ++ asked_each
    (λ name. check name rules.KindOfSuper
    (IfSome (class_named headers name) (λ header. IsTrue (is_interface header))) ∷ [])
    (serializable ∷ cloneable ∷ [])
    ++ needed_class_checks is_method_handle method_handle classes
    ++ needed_class_checks is_method_type method_type classes

-- ---- the whole

abbrev pub step_checks : Classes → List (Check Problem)
step_checks classes = hierarchy_checks (headers_of classes) ++ of_folder classes.folder where
  of_folder : List ClassFile → List (Check Problem)
  of_folder [] = []
  of_folder (class ∷ folder) = base_checks classes

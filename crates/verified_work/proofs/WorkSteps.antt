-- Generated work and its library are a hierarchy.
use Rattle.std.proofs.Common.{◌≡◌, ℕ, suc, false, List, [], ◌∷◌, Some, None, refl, codes}
use Rattle.std.specs.List.{AllByRecursion}
use Rattle.std.specs.Prelude.{IsFalse, IsTrue, IfSome}
use Rattle.class_model.specs.Checks.{AllHold}
use Rattle.class_model.specs.Header.{header_of}
use Rattle.class_model.specs.Laws.Checks.{◌▸◌, both_hold}
use Rattle.class_model.specs.declared.header.Header.{Header}
use Rattle.class_model.specs.declared.header.Member.{Member}
use Rattle.class_tree.specs.Headers.{Classes, Headers, Name, class_named, headers_of}
use Rattle.class_tree.specs.Names.{is_interface, method_handle, method_type, object, throwable}
use Rattle.class_tree.specs.Steps.{FitsKinds, base_checks, has_constant, hierarchy_checks, is_method_handle, is_method_type, needed_class_checks, step_checks}
use Rattle.class_tree.specs.Subtype.{IsBelow, directly, superclass}
use Rattle.work_gen.specs.Generated.{generated_folder, indexed, name_constant, point, work}
use Rattle.work_gen.specs.declared.choices.Choice.{Choice}
use Rattle.verified_work.proofs.WorkAbove.{no_circle}
use Rattle.verified_work.proofs.WorkHeaders.{headers, library}

-- ---- class by class

-- a class below another, which is neither final nor an interface
abbrev below : {given : Headers} {header : Header} → IfSome header.super_name (λ name. IfSome (class_named given name) (λ above. IsFalse (is_interface above)))
    → AllByRecursion (λ name. IfSome (class_named given name) (λ above. IsTrue (is_interface above))) header.interfaces
    → (IsTrue (is_interface header) → header.super_name ≡ Some object) → (header.super_name ≡ None → header.name ≡ object) → FitsKinds given header
below up across kind root = record { superclass = up; interfaces = across; of_interface = kind; root = root }

hierarchy_holds : (methods : List Member) → AllHold (hierarchy_checks (headers methods))
hierarchy_holds methods =
    -- the folder
    (refl, tt) ▸ no_circle methods (codes "G") ▸ refl ▸ (below refl tt (λ is. refl) (λ is. absurd cc), λ is. absurd cc)
    ▸ (refl, tt) ▸ no_circle methods (codes "P") ▸ refl ▸ (below refl tt (λ is. refl) (λ is. absurd cc), λ is. absurd cc)
    -- the library
    ▸ (refl, tt) ▸ (refl, tt) ▸ no_circle methods _ ▸ below refl tt (λ is. absurd cc) (λ is. absurd cc)
    ▸ (refl, tt) ▸ (refl, tt) ▸ no_circle methods _ ▸ below refl tt (λ is. refl) (λ is. absurd cc)
    ▸ (refl, tt) ▸ (refl, tt) ▸ no_circle methods _ ▸ below refl tt (λ is. absurd cc) (λ is. absurd cc)
    ▸ (refl, tt) ▸ (refl, tt) ▸ no_circle methods _ ▸ below refl tt (λ is. absurd cc) (λ is. absurd cc)
    ▸ (refl, tt) ▸ (refl, tt) ▸ no_circle methods _ ▸ below refl tt (λ is. absurd cc) (λ is. absurd cc)
    ▸ (refl, tt) ▸ (refl, tt) ▸ no_circle methods _ ▸ below refl tt (λ is. absurd cc) (λ is. absurd cc)
    ▸ (refl, tt) ▸ (refl, tt) ▸ no_circle methods _ ▸ below refl tt (λ is. absurd cc) (λ is. absurd cc)
    ▸ (refl, tt) ▸ (refl, tt) ▸ no_circle methods _ ▸ below refl tt (λ is. absurd cc) (λ is. absurd cc)
    ▸ (refl, tt) ▸ (refl, tt) ▸ no_circle methods _ ▸ below refl tt (λ is. refl) (λ is. absurd cc)
    ▸ (refl, tt) ▸ (refl, tt) ▸ no_circle methods _ ▸ below refl tt (λ is. absurd cc) (λ is. absurd cc)
    ▸ (refl, tt) ▸ (refl, tt) ▸ no_circle methods _ ▸ below refl tt (λ is. absurd cc) (λ is. absurd cc)
    ▸ (refl, tt) ▸ (refl, tt) ▸ no_circle methods _ ▸ below refl tt (λ is. absurd cc) (λ is. absurd cc)
    ▸ (refl, tt) ▸ (refl, tt) ▸ no_circle methods _ ▸ below refl tt (λ is. absurd cc) (λ is. absurd cc)
    ▸ (refl, tt) ▸ (refl, tt) ▸ no_circle methods _ ▸ below refl tt (λ is. absurd cc) (λ is. absurd cc)
    ▸ tt ▸ tt ▸ no_circle methods _ ▸ below tt tt (λ is. absurd cc) (λ is. refl)
    ▸ (refl, tt) ▸ (refl, tt) ▸ no_circle methods _ ▸ below refl tt (λ is. absurd cc) (λ is. absurd cc)
    ▸ (refl, tt) ▸ (refl, tt) ▸ no_circle methods _ ▸ below refl tt (λ is. absurd cc) (λ is. absurd cc)
    ▸ (refl, tt) ▸ (refl, tt) ▸ no_circle methods _ ▸ below refl tt (λ is. absurd cc) (λ is. absurd cc)
    ▸ (refl, tt) ▸ (refl, tt) ▸ no_circle methods _ ▸ below refl tt (λ is. absurd cc) (λ is. absurd cc)
    ▸ tt

-- ---- what the machine needs of the library

-- the names of methods are no handles and no types
no_handle : (number : ℕ) (left : List Choice) → has_constant is_method_handle (record point { pool = indexed (λ n choice. Some (name_constant n) ∷ []) number left }) ≡ false
no_handle number [] = refl
no_handle number (choice ∷ left) = no_handle (suc number) left

no_type : (number : ℕ) (left : List Choice) → has_constant is_method_type (record point { pool = indexed (λ n choice. Some (name_constant n) ∷ []) number left }) ≡ false
no_type number [] = refl
no_type number (choice ∷ left) = no_type (suc number) left

-- generated work, with its library in order
abbrev pub classes_of : List Choice → Classes
classes_of chosen = record { folder = generated_folder chosen; library = library }

is_thrown : (methods : List Member) (name : Name) (header : Header) → class_named (headers methods) name ≡ Some header → header.super_name ≡ Some throwable → IsBelow (headers methods) name throwable
is_thrown methods name header is above = directly name throwable (superclass name throwable header is above)

base_holds : (chosen : List Choice) → AllHold (base_checks (classes_of chosen))
base_holds chosen =
    refl ▸ refl ▸ refl ▸ refl ▸ refl ▸ refl ▸ refl ▸ refl ▸ refl ▸ refl ▸ refl ▸ refl ▸ refl ▸ refl ▸ refl ▸ refl
    ▸ record { callable = refl; once = refl }
    ▸ is_thrown _ (codes "java/lang/AbstractMethodError") _ refl refl
    ▸ is_thrown _ (codes "java/lang/ArithmeticException") _ refl refl
    ▸ is_thrown _ (codes "java/lang/ArrayIndexOutOfBoundsException") _ refl refl
    ▸ is_thrown _ (codes "java/lang/ArrayStoreException") _ refl refl
    ▸ is_thrown _ (codes "java/lang/ClassCastException") _ refl refl
    ▸ is_thrown _ (codes "java/lang/IllegalAccessError") _ refl refl
    ▸ is_thrown _ (codes "java/lang/IllegalMonitorStateException") _ refl refl
    ▸ is_thrown _ (codes "java/lang/IncompatibleClassChangeError") _ refl refl
    ▸ is_thrown _ (codes "java/lang/NegativeArraySizeException") _ refl refl
    ▸ is_thrown _ (codes "java/lang/NullPointerException") _ refl refl
    ▸ refl ▸ refl
    ▸ both_hold (needed_class_checks is_method_handle method_handle (classes_of chosen)) (needed_class_checks is_method_type method_type (classes_of chosen))
    (rw (no_handle 0 chosen) tt) (rw (no_type 0 chosen) tt)

-- the methods of the class with the generated methods, by name and descriptor
abbrev pub methods_of : List Choice → List Member
methods_of chosen = (header_of (work chosen)).methods

pub steps_hold : (chosen : List Choice) → AllHold (step_checks (classes_of chosen))
steps_hold chosen = both_hold (hierarchy_checks (headers_of (classes_of chosen))) (base_checks (classes_of chosen)) (hierarchy_holds (methods_of chosen)) (base_holds chosen)

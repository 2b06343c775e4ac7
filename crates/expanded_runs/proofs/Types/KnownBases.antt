-- The classes that each library has are there, and the interfaces of arrays are interfaces, where the folder has a class.
use Rattle.std.proofs.Common.{◌≡◌, ◌<◌, ◌++◌, ℕ, zero, suc, Bool, true, false, List, [], ◌∷◌, length, bytes_eq, slice_get, codes, Option, Some, None, IfSome, IsSome, IsTrue, refl, ap, ◌∙◌, arith}
use Rattle.std.specs.List.{list_any}
use Rattle.std.proofs.lemmas.Option.{none-some, same_Some}
use Rattle.class_model.specs.Checks.{AllHold, Check, asked_each}
use Rattle.class_model.specs.Laws.Checks.{first_holds, others_hold}
use Rattle.class_model.specs.Pool.{Constants, constant_at}
use Rattle.class_model.specs.declared.class_file.ClassFile.{ClassFile}
use Rattle.class_model.specs.declared.header.Header.{Header}
use Rattle.class_model.specs.declared.pool.Const.{Const}
use Rattle.class_tree.specs.Headers.{Classes, IsThere, Name, class_named, headers_of, named}
use Rattle.class_tree.specs.Names.{base_names, cloneable, is_interface, machine_throwables, method_handle, method_type, object, serializable, throwable}
use Rattle.class_tree.specs.Problems.{Problem, check}
use Rattle.class_tree.specs.Steps.{HasOneConstructor, base_checks, has_constant, hierarchy_checks, is_method_handle, is_method_type, needed_class_checks, step_checks}
use Rattle.class_tree.specs.Subtype.{IsBelow}
use Rattle.class_tree.specs.declared.fault.LinkRule.TheVariants as rules
use Rattle.expanded_runs.proofs.Types.ThroughClass.{ArrayInterfaces}

-- ---- what is asked of the library

abbrev name_checks : Classes → List (Check Problem)
name_checks classes = asked_each (λ name. check name rules.Missing (IsSome (named name classes.library)) ∷ []) base_names

abbrev object_checks : Classes → List (Check Problem)
object_checks classes = check object rules.NoMember (IfSome (class_named (headers_of classes) object) HasOneConstructor) ∷ []

abbrev throwable_checks : Classes → List (Check Problem)
throwable_checks classes = asked_each (λ name. check name rules.KindOfSuper (IsBelow (headers_of classes) name throwable) ∷ []) machine_throwables

abbrev interface_checks : Classes → List (Check Problem)
interface_checks classes =
    asked_each (λ name. check name rules.KindOfSuper
    (IfSome (class_named (headers_of classes) name) (λ header. IsTrue (is_interface header))) ∷ []) (serializable ∷ cloneable ∷ [])

-- the parts of what is asked of it
pub record BaseHolds (classes : Classes) : Type 0 where
  pub names : AllHold (name_checks classes)
  pub interfaces : AllHold (interface_checks classes)
  pub handles : AllHold (needed_class_checks is_method_handle method_handle classes)
  pub types : AllHold (needed_class_checks is_method_type method_type classes)

parts_of_base : (a b c d e f : List (Check Problem)) → AllHold (a ++ b ++ c ++ d ++ e ++ f) → AllHold a × AllHold d × AllHold e × AllHold f
parts_of_base a b c d e f all =
    let five = first_holds (a ++ b ++ c ++ d ++ e) f all in
    let four = first_holds (a ++ b ++ c ++ d) e five in
    let three = first_holds (a ++ b ++ c) d four in
    let two = first_holds (a ++ b) c three in (
      first_holds a b two,
      others_hold (a ++ b ++ c) d four,
      others_hold (a ++ b ++ c ++ d) e five,
      others_hold (a ++ b ++ c ++ d ++ e) f all,
    )

abbrev base_of : Classes → List ClassFile → List (Check Problem)
base_of classes [] = []
base_of classes (class ∷ folder) = base_checks classes

pub base_holds : (classes : Classes) → 0 < length classes.folder → AllHold (step_checks classes) → BaseHolds classes
base_holds classes some all =
    by classes.folder some (others_hold (hierarchy_checks (headers_of classes)) (base_of classes classes.folder) all) where
      by : (folder : List ClassFile) → 0 < length folder → AllHold (base_of classes folder) → BaseHolds classes
      by [] none base = absurd (omega (arith, none))
      by (first ∷ rest) some base =
          let p = parts_of_base (name_checks classes) (object_checks classes) (throwable_checks classes) (interface_checks classes)
          (needed_class_checks is_method_handle method_handle classes) (needed_class_checks is_method_type method_type classes) base in
          record { names = p.0; interfaces = p.1; handles = p.2; types = p.3 }

-- ---- classes that are there

named_behind : (name : Name) (xs ys : List Header) → IsSome (named name ys) → IsSome (named name (xs ++ ys))
named_behind name [] ys there = there
named_behind name (x ∷ xs) ys there = by (bytes_eq name x.name) refl (named_behind name xs ys there) where
  by : (b : Bool) → bytes_eq name x.name ≡ b → IsSome (named name (xs ++ ys)) → IsSome (named name (x ∷ (xs ++ ys)))
  by true e next = rw e refl
  by false e next = rw e next

of_library : (classes : Classes) (name : Name) → IsSome (named name classes.library) → IsThere (headers_of classes) name
of_library classes name there = named_behind name (headers_of classes).folder classes.library there

-- a class that the library must have where a constant of the folder passes a test
any_at : {A : Type 0} (test : A → Bool) (xs : List A) (n : ℕ) (x : A) → slice_get xs n ≡ Some x → test x ≡ true → list_any test xs ≡ true
any_at test [] n x is passed = absurd cc
any_at test (y ∷ xs) zero x is passed = let one : test y ≡ true = ap test (same_Some y x is) ∙ passed in rw one refl
any_at test (y ∷ xs) (suc n) x is passed = by (test y) refl (any_at test xs n x is passed) where
  by : (b : Bool) → test y ≡ b → list_any test xs ≡ true → list_any test (y ∷ xs) ≡ true
  by true e next = rw e refl
  by false e next = rw e next

abbrev passes : (Const → Bool) → Option Const → Bool
passes test None = false
passes test (Some constant) = test constant

entry_at : (pool : Constants) (index : ℕ) (c : Const) → constant_at pool index ≡ Some c → slice_get pool index ≡ Some (Some c)
entry_at pool index c is = by (slice_get pool index) refl where
  by : (o : Option (Option Const)) → slice_get pool index ≡ o → slice_get pool index ≡ Some (Some c)
  by None e = let no : None ≡ Some c = rw e at is in absurd (none-some c no)
  by (Some None) e = let no : None ≡ Some c = rw e at is in absurd (none-some c no)
  by (Some (Some d)) e = let same : d ≡ c = same_Some d c (rw e at is) in e ∙ ap (λ (x : Const). Some (Some x)) same

needed_there : (classes : Classes) (test : Const → Bool) (name : Name) → AllHold (needed_class_checks test name classes)
    → (n : ℕ) (file : ClassFile) → slice_get classes.folder n ≡ Some file
    → (index : ℕ) (c : Const) → constant_at file.pool index ≡ Some c → test c ≡ true
    → IsThere (headers_of classes) name
needed_there classes test name all n file is index c has passed =
    let one : has_constant test file ≡ true = any_at (passes test) file.pool index (Some c) (entry_at file.pool index c has) passed in
    let any : list_any (has_constant test) classes.folder ≡ true = any_at (has_constant test) classes.folder n file is one in
    of_library classes name (rw any at all).0

module _ (classes : Classes) (some : 0 < length classes.folder) (holds : AllHold (step_checks classes)) where
  base : BaseHolds classes
  base = base_holds classes some holds

  pub strings_there : IsThere (headers_of classes) (codes "java/lang/String")
  strings_there = of_library classes (codes "java/lang/String") base.names.1.1.1.1.1.1.1.1.1.1.1.1.1.1.0

  pub classes_there : IsThere (headers_of classes) (codes "java/lang/Class")
  classes_there = of_library classes (codes "java/lang/Class") base.names.1.1.1.1.1.0

  pub handles_there : (n : ℕ) (file : ClassFile) → slice_get classes.folder n ≡ Some file
      → (index : ℕ) (c : Const) → constant_at file.pool index ≡ Some c → is_method_handle c ≡ true
      → IsThere (headers_of classes) method_handle
  handles_there = needed_there classes is_method_handle method_handle base.handles

  pub types_there : (n : ℕ) (file : ClassFile) → slice_get classes.folder n ≡ Some file
      → (index : ℕ) (c : Const) → constant_at file.pool index ≡ Some c → is_method_type c ≡ true
      → IsThere (headers_of classes) method_type
  types_there = needed_there classes is_method_type method_type base.types

  -- The interfaces of arrays are interfaces.
  pub array_interfaces : ArrayInterfaces (headers_of classes)
  array_interfaces = record {
    clones = λ header found. rw found at base.interfaces.1.0;
    serializes = λ header found. rw found at base.interfaces.0;
  }

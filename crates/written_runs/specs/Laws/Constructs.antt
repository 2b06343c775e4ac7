-- The field constructors of the second program: what their calls on blank objects do, and how the constructors of a chain follow from each one.
use Rattle.std.proofs.Common.{◌≡◌, ◌≢◌, ℕ, Bool, true, false, List, [], ◌∷◌, ◌++◌, bytes_eq, length, reverse, slice_get, Some, None, refl, sym, ap, subst, ◌∙◌, append-nil}
use Rattle.std.specs.List.{AllByRecursion, flat_map}
use Rattle.std.proofs.lemmas.Bool.{false≢true}
use Rattle.std.proofs.lemmas.Grind.{flat_map-append}
use Rattle.std.proofs.lemmas.List.{reverse-append}
use Rattle.std.proofs.lemmas.Option.{same_Some}
use Rattle.std.proofs.lemmas.Slice.Eq.{bytes_eq-Decides}
use Rattle.class_model.specs.Header.{header_of}
use Rattle.class_model.specs.declared.class_file.ClassFile.{ClassFile}
use Rattle.class_model.specs.declared.header.Header.{Header}
use Rattle.class_model.specs.declared.header.Member.{Member}
use Rattle.class_tree.specs.Headers.{Name, Classes, Headers, class_named, headers_of, named}
use Rattle.class_tree.specs.Hierarchy.{IsHierarchy}
use Rattle.class_tree.specs.Laws.Above.{hierarchy_is_rooted, hierarchy_is_sound, object_no_superclass}
use Rattle.class_tree.specs.Layouts.{chain, instance_fields, own_fields, superclasses}
use Rattle.class_tree.specs.Names.{object}
use Rattle.expanded_code.specs.Laws.SuperChains.{chain_is, of_each_class, superclasses_is, superclasses_of_root}
use Rattle.machine_values.specs.Frames.{MethodState}
use Rattle.machine_values.specs.Heaps.{object_at}
use Rattle.machine_values.specs.declared.frame.RunFrame.{RunFrame}
use Rattle.machine_values.specs.declared.object.Object.{Object}
use Rattle.machine_values.specs.declared.object.Shape.TheVariants.{Folder}
use Rattle.machine_values.specs.declared.value.Value.{Value}
use Rattle.machine_values.specs.declared.value.Value.TheVariants.{Null, Ref}
use Rattle.making_code.specs.FieldConstructor.{superclass_of}
use Rattle.member_link.specs.Machine.Ops.{call_special}
use Rattle.member_link.specs.Machine.Programs.{Links, Point, Program, RunClass, name_of_class, point_at}
use Rattle.member_link.specs.Machine.Replaced.{Replacement}
use Rattle.member_link.specs.Machine.Runs.{Run}
use Rattle.member_link.specs.Machine.Worlds.{Memory, going}
use Rattle.member_link.specs.References.{Reference}
use Rattle.plan_flow.specs.Written.WrittenPrograms.{HasConstructor, constructor_method}
use Rattle.written_runs.specs.Laws.ConstructorRuns.{constructor_fills}
use Rattle.written_runs.specs.Laws.FieldConstructors.{FillsObjects, GoesOn, HasConstructors, IsBelowObject, IsConstructor, behind_call, filled, highest, lower, reference_of_constructor}
use Rattle.written_runs.specs.Laws.GivenValues.{FitTypes, pushed_all, types_of}
use Rattle.written_runs.specs.Inner.Setup.{Setup, second}

-- ---- blank objects

-- Where calls of a constructor fill objects, a call with a blank one, the values of its fields and null goes on quietly to where it has these values.
pub fills_blank : {Q : Program} {fields : List Member} {shape : ℕ} {called : Reference} → FillsObjects Q fields shape called
    → (r : Run) (g : MethodState) (others : List RunFrame) (memory : Memory) (steps : ℕ) (point : Point) (from : Name) (given rest : List Value)
    (reference : ℕ) (one : Object)
    → r.world.halt ≡ going
    → point_at Q g.at g.place ≡ Some point
    → point.op ≡ call_special called from
    → g.stack ≡ Null ∷ (reverse given ++ (Ref reference ∷ rest))
    → FitTypes (types_of fields) given
    → object_at memory.heap reference ≡ Some one
    → one.shape ≡ Folder shape
    → length one.values ≡ length given
    → GoesOn Q r others memory (filled memory reference one given) g (behind_call g rest) steps
fills_blank {Q = Q} all r g others memory steps point from given rest reference one goes is_point calls stack fit there is_shape many =
    subst (λ (values : List Value). GoesOn Q r others memory (filled memory reference one values) g (behind_call g rest) steps) (append-nil given)
    (all.fills r g memory given [] rest reference one others steps (record {
      goes = goes;
      point = point;
      is_point = is_point;
      from = from;
      calls_it = calls;
      stack = stack ∙ pushed_all (Ref reference) given rest;
      fit = fit;
      is_there = there;
      is_shape = is_shape;
      before = one.values;
      values = sym (append-nil one.values);
      as_many = many;
    }))

-- ---- fields

module _ (headers : Headers) (hierarchy : IsHierarchy headers) where
  -- the fields of an object are those of the superclass's objects, and then the class's own
  pub fields_above_and_own : (name : Name) (header : Header) → class_named headers name ≡ Some header
      → (above : Name) → header.super_name ≡ Some above
      → instance_fields headers name ≡ instance_fields headers above ++ own_fields headers name
  fields_above_and_own name header is above some =
      ap (λ (names : List Name). flat_map (own_fields headers) (reverse names)) (superclasses_is headers hierarchy name header is above some)
      ∙ ap (flat_map (own_fields headers)) (reverse-append (name ∷ []) uppers)
      ∙ flat_map-append (own_fields headers) (reverse uppers) (name ∷ [])
      ∙ ap (λ (fields : List Member). flat_map (own_fields headers) (reverse uppers) ++ fields) (append-nil (own_fields headers name)) where
        uppers : List Name
        uppers = superclasses headers above

  -- java/lang/Object has none where it is no class of the folder
  pub object_without_fields : (top : Header) → class_named headers object ≡ Some top → named object headers.folder ≡ None
      → instance_fields headers object ≡ []
  object_without_fields top is outside =
      ap (λ (names : List Name). flat_map (own_fields headers) (reverse names))
      (superclasses_of_root headers hierarchy object top is
      (object_no_superclass headers (hierarchy_is_sound headers hierarchy) (hierarchy_is_rooted headers hierarchy) top is))
      ∙ ap (λ (fields : List Member). fields ++ []) none where
        none : own_fields headers object ≡ []
        none = rw (outside) refl

-- ---- the constructors of a chain

-- what is known of each class with a field constructor that is above the class of an object
pub record KnowsEach (Q : Program) (classes : Classes) (links : Links) (constructor : Name → List ℕ) (s : Replacement) (shape : ℕ) : Type 0 where
  pub each : (number : ℕ) (file : ClassFile)
      → slice_get classes.folder number ≡ Some file
      → s.added number ≡ constructor_method classes links constructor file ∷ []
      → Q.links.below (name_of_class Q shape) (header_of file).name ≡ true
      → IsConstructor Q classes links constructor shape file
  pub up : (name above : Name) (header : Header)
      → class_named (headers_of classes) name ≡ Some header
      → header.super_name ≡ Some above
      → Q.links.below (name_of_class Q shape) name ≡ true
      → Q.links.below (name_of_class Q shape) above ≡ true
  pub top : (above : Name)
      → bytes_eq above object ≡ true
      → Q.links.below (name_of_class Q shape) above ≡ true
      → IsBelowObject Q classes shape above

module _ {Q : Program} {classes : Classes} {links : Links} {constructor : Name → List ℕ} {s : Replacement} {shape : ℕ}
    (hierarchy : IsHierarchy (headers_of classes)) (knows : KnowsEach Q classes links constructor s shape) where
  -- from a class on upwards
  abbrev FromHere : Name → Type 0
  FromHere name =
      name ≢ object
      → AllByRecursion (HasConstructor classes links constructor s) (chain (headers_of classes) name)
      → Q.links.below (name_of_class Q shape) name ≡ true
      → HasConstructors Q classes links constructor shape name

  step_up : (name above : Name) (header : Header) → class_named (headers_of classes) name ≡ Some header → name ≢ object
      → header.super_name ≡ Some above → FromHere above → FromHere name
  step_up name above header is differ some higher not_object all below =
      subst (HasConstructors Q classes links constructor shape) has.named (by (bytes_eq one.above object) refl) where
        both : AllByRecursion (HasConstructor classes links constructor s) (name ∷ chain (headers_of classes) above)
        both =
            subst (AllByRecursion (HasConstructor classes links constructor s))
            (chain_is (headers_of classes) hierarchy name header is differ above some) all

        has : HasConstructor classes links constructor s name
        has = both.0

        one : IsConstructor Q classes links constructor shape has.file
        one = knows.each has.number has.file has.is_file has.added
            (ap (λ (n : Name). Q.links.below (name_of_class Q shape) n) has.named ∙ below)

        superclass : superclass_of (headers_of classes) name ≡ Some above
        superclass = rw (is) some

        same : above ≡ one.above
        same =
            same_Some above one.above (sym superclass ∙ ap (superclass_of (headers_of classes)) (sym has.named) ∙ one.has_above)

        below_above : Q.links.below (name_of_class Q shape) one.above ≡ true
        below_above = ap (λ (n : Name). Q.links.below (name_of_class Q shape) n) (sym same) ∙ knows.up name above header is some below

        by : (test : Bool) → bytes_eq one.above object ≡ test → HasConstructors Q classes links constructor shape (header_of has.file).name
        by true e = highest has.file one (knows.top one.above e below_above)
        by false e = lower has.file one e (subst (HasConstructors Q classes links constructor shape) same (higher
            (λ is_object. false≢true (sym e ∙ ap (λ (n : Name). bytes_eq n object) (sym same ∙ is_object) ∙ (bytes_eq-Decides object object).1 refl))
            both.1 (ap (λ (n : Name). Q.links.below (name_of_class Q shape) n) same ∙ below_above)))

  pub constructors_up : (name : Name) (header : Header) → class_named (headers_of classes) name ≡ Some header → FromHere name
  constructors_up name header is =
      of_each_class (headers_of classes) hierarchy FromHere (λ top there not_object all below. absurd (not_object refl)) step_up name header is

-- ---- the statement

-- The field constructor of a class fills the objects of a class that is at or below it, where each class of its chain has its field constructor.
pub record Constructs (u : Setup) : Type 0 where
  pub fills : (class : Name) (header : Header) (shape : ℕ)
      → class_named (headers_of u.classes) class ≡ Some header
      → class ≢ object
      → (second u).links.below (name_of_class (second u) shape) class ≡ true
      → AllByRecursion (HasConstructor u.classes u.links u.constructor u.s) (chain (headers_of u.classes) class)
      → (found : RunClass)
      → slice_get (second u).classes shape ≡ Some found
      → FillsObjects (second u) (instance_fields (headers_of u.classes) class) shape (reference_of_constructor u.constructor class)

pub constructs_by : (u : Setup) → IsHierarchy (headers_of u.classes)
    → ((shape : ℕ) (found : RunClass)
    → slice_get (second u).classes shape ≡ Some found
    → KnowsEach (second u) u.classes u.links u.constructor u.s shape)
    → Constructs u
constructs_by u hierarchy knows = record {
  fills = λ class header shape is differ below all found of_shape.
      constructor_fills (constructors_up hierarchy (knows shape found of_shape) class header is differ all below);
}

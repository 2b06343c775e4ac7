-- The conditions of a callee, part by part.
use Rattle.std.proofs.Common.{◌≡◌, ◌↔◌, Bool, IsTrue, ◌+◌, ◌-◌, ◌<◌, ◌≤◌, ℕ, List, ◌∷◌, drop, slice_get, Some, None, Result, Ok, Err, IfOk, sym, ap, subst, ◌∙◌, arith}
use Rattle.std.proofs.lemmas.List.{drop-drop, drop_all}
use Rattle.std.specs.List.{AllByRecursion}
use Rattle.class_model.specs.Descriptors.{SpellsDescriptor, kind_of, parameters_of, units_of}
use Rattle.class_model.specs.Laws.Lists.{drop_item, none_behind}
use Rattle.class_model.specs.Header.{header_of}
use Rattle.class_model.specs.declared.class_file.ClassFile.{ClassFile}
use Rattle.class_model.specs.declared.descriptor.Descriptor.{Descriptor}
use Rattle.class_model.specs.declared.descriptor.FieldType.{FieldType}
use Rattle.class_model.specs.declared.descriptor.FieldType.TheVariants as sorts
use Rattle.class_model.specs.declared.frame.Frame.{Frame}
use Rattle.class_model.specs.declared.frame.VType.{VType}
use Rattle.class_model.specs.declared.instr.Placed.{Placed}
use Rattle.class_model.specs.declared.memory.NoMemory.{NoMemory}
use Rattle.class_tree.specs.Headers.{Name, Classes, Headers, headers_of}
use Rattle.expanded_code.specs.Callees.{LeavesResult, MayStandIn, SayAtMost, SaysAtMost}
use Rattle.inline_expand.specs.Inner.Standing.{AreOpen, IsQuietIfStatic, StandsAlone, TakesDeclared}
use Rattle.member_link.specs.Laws.ResultTexts.{result_spelled}
use Rattle.member_link.specs.Scope.{Scope, instructions}
use Rattle.member_link.specs.Signatures.{result_of}

-- ---- loops

-- The rest of a list is left to be asked: what holds of each there holds of all.
pub record IsLeft {X : Type 0} (Asked : X → Type 0) (xs : List X) (i : ℕ) : Type 0 where
  pub all : AllByRecursion Asked (drop i xs) → AllByRecursion Asked xs

-- what returns there are among the first so many instructions has its result alone
pub record AloneBefore (instrs : List Placed) (frames : List Frame) (count : ℕ) : Type 0 where
  pub alone : (number : ℕ) (placed : Placed) (frame : Frame) → number < count → slice_get instrs number ≡ Some placed → slice_get frames number ≡ Some frame → LeavesResult placed.instr frame

-- ---- descriptors

pub result_of_own : (own text : List ℕ) → own ≡ text → (read : Result Descriptor NoMemory) → IfOk read (SpellsDescriptor text) → IfOk read (λ (d : Descriptor). parameters_of text ≡ d.params) → IfOk read (λ (d : Descriptor). result_of own ≡ d.result)
result_of_own own text same (Ok descriptor) spells params = ap result_of same ∙ result_spelled text descriptor params spells
result_of_own own text same (Err fault) spells params = tt

-- ---- parameters

-- What is said of the types from one on and of the units from one on is said of all.
pub record IsSaidOfRest (headers : Headers) (types : List FieldType) (units : List VType) (from index unit : ℕ) : Type 0 where
  pub to : SayAtMost headers (drop index types) (drop unit units) → SayAtMost headers types (drop from units)
  pub back : SayAtMost headers types (drop from units) → SayAtMost headers (drop index types) (drop unit units)

some_units : (type : FieldType) → 1 ≤ units_of (kind_of type)
some_units sorts.Byte = omega arith
some_units sorts.Char = omega arith
some_units sorts.Short = omega arith
some_units sorts.Bool = omega arith
some_units sorts.Int = omega arith
some_units sorts.Long = omega arith
some_units sorts.Float = omega arith
some_units sorts.Double = omega arith
some_units (sorts.Named name) = omega arith

pub few_units : (type : FieldType) → units_of (kind_of type) ≤ 2
few_units sorts.Byte = omega arith
few_units sorts.Char = omega arith
few_units sorts.Short = omega arith
few_units sorts.Bool = omega arith
few_units sorts.Int = omega arith
few_units sorts.Long = omega arith
few_units sorts.Float = omega arith
few_units sorts.Double = omega arith
few_units (sorts.Named name) = omega arith

module _ (headers : Headers) (types : List FieldType) (units : List VType) (from index unit : ℕ) where
  module _ (before : IsSaidOfRest headers types units from index unit) where
    module _ (type : FieldType) (at : slice_get types index ≡ Some type) where
      at_type : SayAtMost headers types (drop from units) → SayAtMost headers (type ∷ drop (index + 1) types) (drop unit units)
      at_type all = subst (λ (rest : List FieldType). SayAtMost headers rest (drop unit units)) (drop_item types index type at) (before.back all)

      pub said_of_none : slice_get units unit ≡ None → ¬ SayAtMost headers types (drop from units)
      said_of_none none all = subst (SayAtMost headers (type ∷ drop (index + 1) types)) (drop_all unit units (none_behind units unit none)) (at_type all)

      module _ (said : VType) (held : slice_get units unit ≡ Some said) where
        behind : drop (units_of (kind_of type) - 1) (drop (unit + 1) units) ≡ drop (unit + units_of (kind_of type)) units
        behind =
            let some = some_units type in
            drop-drop (units_of (kind_of type) - 1) (unit + 1) units ∙ ap (λ (n : ℕ). drop n units) (omega (arith, some))

        split : SayAtMost headers types (drop from units) → SaysAtMost headers type said × SayAtMost headers (drop (index + 1) types) (drop (unit + units_of (kind_of type)) units)
        split all =
            let both = subst (SayAtMost headers (type ∷ drop (index + 1) types)) (drop_item units unit said held) (at_type all) in
            (both.0, subst (SayAtMost headers (drop (index + 1) types)) behind both.1)

        pub said_too_much : ¬ SaysAtMost headers type said → ¬ SayAtMost headers types (drop from units)
        said_too_much not all = not (split all).0

        pub said_more : SaysAtMost headers type said → IsSaidOfRest headers types units from (index + 1) (unit + units_of (kind_of type))
        said_more says = record {
          to = λ rest.
              let at_units = subst (SayAtMost headers (drop (index + 1) types)) (sym behind) rest in
              let here = subst (SayAtMost headers (type ∷ drop (index + 1) types)) (sym (drop_item units unit said held)) (says, at_units) in
              before.to (subst (λ (all : List FieldType). SayAtMost headers all (drop unit units)) (sym (drop_item types index type at)) here);
          back = λ all. (split all).1;
        }

-- ---- all conditions

-- What is asked of the code alone, of what it names and of its parameters holds: the last condition decides.
pub stands_by : (classes : Classes) (host : ClassFile) (s : Scope) (frames : List Frame)
    → StandsAlone host s frames
    → (own : Name)
    → own ≡ (header_of host).name
    → (instrs : List Placed)
    → instrs ≡ instructions s
    → AreOpen s own instrs
    → TakesDeclared (headers_of classes) s frames
    → (result : Result Bool NoMemory)
    → IfOk result (λ quiet. IsTrue quiet ↔ IsQuietIfStatic (headers_of classes) s)
    → IfOk result (λ stands. IsTrue stands ↔ MayStandIn classes host s frames)
stands_by classes host s frames alone own is_own instrs are_its open_ takes (Err fault) told = tt
stands_by classes host s frames alone own is_own instrs are_its open_ takes (Ok passed) told = (
  λ yes. record {
    version = alone.form.version;
    quiet = told.0 yes;
    short = alone.form.short;
    no_handlers = alone.form.no_handlers;
    plain = alone.plain.plain;
    no_monitor = alone.form.no_monitor;
    returns = alone.plain.returns;
    parameters = takes;
    special = alone.plain.special;
    without_this = alone.own_this;
    access = subst (λ (name : Name). AreOpen s name (instructions s)) is_own (subst (λ (code : List Placed). AreOpen s own code) are_its open_);
  },
  λ stands. told.1 stands.quiet,
)

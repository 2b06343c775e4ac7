-- A folder is linked class by class.
use Rattle.std.proofs.Common.{◌≡◌, ◌+◌, ◌<◌, inl, inr, ℕ, List, [], ◌∷◌, ◌++◌, length, take, drop, slice_get, Some, Result, Ok, Err, refl, sym, ap, subst, ◌∙◌, append_assoc, arith}
use Rattle.std.proofs.lemmas.List.{take-append-drop}
use Rattle.std.proofs.lemmas.Option.{slice_get_cases}
use Rattle.class_model.specs.Checks.{Check, AllHold, IsFirstFault, asked_each}
use Rattle.class_model.specs.Laws.Checks.{both_hold, first_holds, others_hold, first_behind, first_before}
use Rattle.class_model.specs.Laws.Lists.{drop_item, take_item}
use Rattle.class_model.specs.declared.class_file.ClassFile.{ClassFile}
use Rattle.class_tree.specs.Answers.{Answers}
use Rattle.class_tree.specs.Headers.{Classes, headers_of}
use Rattle.class_tree.specs.Problems.{Problem}
use Rattle.class_tree.specs.declared.fault.LinkFault.{LinkFault}
use Rattle.class_tree.specs.declared.fault.LinkFault.TheVariants.{Unlinked, NoMemory}
use Rattle.member_link.specs.Declarations.{declaration_checks}
use Rattle.member_link.specs.Linked.{link_checks}
use Rattle.member_link.specs.LinkedFirst.{AreFirstLinked, FirstLink}
use Rattle.member_link.specs.Uses.{use_checks}

asked_both : {X : Type 0} (asks : X → List (Check Problem)) (items others : List X) → asked_each asks (items ++ others) ≡ asked_each asks items ++ asked_each asks others
asked_both asks [] others = refl
asked_both asks (item ∷ items) others = ap (λ rest. asks item ++ rest) (asked_both asks items others) ∙ sym (append_assoc (asks item) (asked_each asks items) (asked_each asks others))

-- of the folder's classes, declarations are linked
pub declared : (classes : Classes) (result : Result (Unit {0}) LinkFault) → Answers (asked_each (declaration_checks (headers_of classes)) (headers_of classes).folder) result → FirstLink classes 0 result
declared classes (Ok done) told = both_hold (asked_each (declaration_checks (headers_of classes)) (headers_of classes).folder) [] told tt
declared classes (Err (Unlinked class member rule)) told =
    first_before (asked_each (declaration_checks (headers_of classes)) (headers_of classes).folder) (asked_each (use_checks (headers_of classes)) classes.folder) (record { class = class; member = member; rule = rule }) told
declared classes (Err NoMemory) told = tt

-- the references of one class more
module _ (classes : Classes) (place : ℕ) (class : ClassFile) (linked : AreFirstLinked classes place) (found : slice_get classes.folder place ≡ Some class) where
  abbrev declares : List (Check Problem)
  declares = asked_each (declaration_checks (headers_of classes)) (headers_of classes).folder

  abbrev asks : ClassFile → List (Check Problem)
  asks = use_checks (headers_of classes)

  abbrev before : List (Check Problem)
  before = asked_each asks (take place classes.folder)

  declared_hold : AllHold declares
  declared_hold = first_holds declares before linked

  before_hold : AllHold before
  before_hold = others_hold declares before linked

  one_holds : AllHold (asks class) → AreFirstLinked classes (place + 1)
  one_holds holds =
      let last : AllHold (before ++ asked_each asks (class ∷ [])) = both_hold before (asked_each asks (class ∷ [])) before_hold (both_hold (asks class) [] holds tt) in
      both_hold declares (asked_each asks (take (place + 1) classes.folder)) declared_hold
      (subst (λ first. AllHold (asked_each asks first)) (sym (take_item classes.folder place class found)) (subst AllHold (sym (asked_both asks (take place classes.folder) (class ∷ []))) last))

  one_fails : (problem : Problem) → IsFirstFault (asks class) problem → IsFirstFault (link_checks classes) problem
  one_fails problem fails =
      let left : IsFirstFault (asked_each asks (drop place classes.folder)) problem = subst (λ behind. IsFirstFault (asked_each asks behind) problem) (sym (drop_item classes.folder place class found))
      (first_before (asks class) (asked_each asks (drop (place + 1) classes.folder)) problem fails) in
      let all : IsFirstFault (asked_each asks classes.folder) problem = subst (λ folder. IsFirstFault (asked_each asks folder) problem) (take-append-drop place classes.folder)
      (subst (λ checks. IsFirstFault checks problem) (sym (asked_both asks (take place classes.folder) (drop place classes.folder))) (first_behind before (asked_each asks (drop place classes.folder)) problem before_hold left)) in
      first_behind declares (asked_each asks classes.folder) problem declared_hold all

  one_answers : (result : Result (Unit {0}) LinkFault) → Answers (asks class) result → FirstLink classes (place + 1) result
  one_answers (Ok done) told = one_holds told
  one_answers (Err (Unlinked name member rule)) told = one_fails (record { class = name; member = member; rule = rule }) told
  one_answers (Err NoMemory) told = tt

-- the class that stands at its place
pub one_answered : (classes : Classes) (place : ℕ) → place < length classes.folder → AreFirstLinked classes place → (result : Result (Unit {0}) LinkFault)
    → ((class : ClassFile) → slice_get classes.folder place ≡ Some class → Answers (use_checks (headers_of classes) class) result) → FirstLink classes (place + 1) result
one_answered classes place within linked result told =
    elim (slice_get_cases classes.folder place).1 [
      | inl here ↦ one_answers classes place here.0 linked here.2 result (told here.0 here.2)
      | inr past ↦ let behind = past.0 in absurd (omega arith)
    ]

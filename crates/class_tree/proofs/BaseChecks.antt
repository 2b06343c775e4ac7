-- What the machine needs of its library, part by part.
use Rattle.std.proofs.lemmas.List.{get_or_default}
use Rattle.std.proofs.Common.{◌≡◌, ◌⊎◌, Bool, true, false, List, [], ◌∷◌, ◌++◌, map, Result, Ok, Err, IsSome, IsTrue, sym, subst, inl, inr, append_assoc, refl, ap, ℕ, ◌+◌, ◌<◌, length, drop, get_or}
use Rattle.std.specs.List.{list_any}
use Rattle.std.specs.Option.{IfSome}
use Rattle.class_model.specs.Checks.{Check, asked_each, asked_if, AllHold}
use Rattle.class_model.specs.Header.{header_of}
use Rattle.class_model.specs.Laws.Checks.{Remain, all_remain, remain, asked_at}
use Rattle.class_model.specs.declared.class_file.ClassFile.{ClassFile}
use Rattle.class_model.specs.declared.header.Header.{Header}
use Rattle.class_model.specs.declared.pool.Const.{Const}
use Rattle.class_tree.specs.Answers.{Answers}
use Rattle.class_tree.specs.Headers.{Name, Headers, class_named, named}
use Rattle.class_tree.specs.Names.{object, throwable, serializable, cloneable, method_handle, method_type, base_names, machine_throwables, is_interface}
use Rattle.class_tree.specs.Problems.{check, Problem}
use Rattle.class_tree.specs.Steps.{base_checks, has_constant, is_method_handle, is_method_type, HasOneConstructor}
use Rattle.class_tree.specs.Subtype.{IsBelow}
use Rattle.class_tree.specs.declared.fault.LinkFault.{LinkFault}
use Rattle.class_tree.specs.declared.fault.LinkFault.TheVariants.{Unlinked, NoMemory}
use Rattle.class_tree.specs.declared.fault.LinkRule.TheVariants as rules

-- items that are seen as others are asked what these are
pub asked_each-map : {X Y : Type 0} (asks : X → List (Check Problem)) (f : Y → X) (ys : List Y) → asked_each asks (map f ys) ≡ asked_each (λ y. asks (f y)) ys
asked_each-map asks f [] = refl
asked_each-map asks f (y ∷ ys) = ap (λ (rest : List (Check Problem)). asks (f y) ++ rest) (asked_each-map asks f ys)

-- what is left to ask at an item
pub asked_name : {X : Type 0} {whole : List (Check Problem)} (asks : X → List (Check Problem)) (items : List X) (i : ℕ) (d : X) → i < length items → Remain whole (asked_each asks (drop i items)) → Remain whole (asks (get_or items i d) ++ asked_each asks (drop (i + 1) items))
asked_name asks items i d within left = asked_at asks items i (get_or items i d) within (get_or_default items i d (get_or items i d) within) left

-- a class of this name is in the library
abbrev pub library_check : Headers → Name → List (Check Problem)
library_check headers name = check name rules.Missing (IsSome (named name headers.library)) ∷ []

abbrev pub names_checks : Headers → List (Check Problem)
names_checks headers = asked_each (library_check headers) base_names

-- java/lang/Throwable is one of the classes that each library has
pub throwable_in_library : (headers : Headers) → AllHold (names_checks headers) → IsSome (named throwable headers.library)
throwable_in_library headers h = h.1.1.1.1.1.1.1.1.1.1.1.1.1.1.1.0

abbrev pub object_checks : Headers → List (Check Problem)
object_checks headers = check object rules.NoMember (IfSome (class_named headers object) HasOneConstructor) ∷ []

-- the class of this name is a throwable
abbrev pub throwable_check : Headers → Name → List (Check Problem)
throwable_check headers name = check name rules.KindOfSuper (IsBelow headers name throwable) ∷ []

abbrev pub throwables_checks : Headers → List (Check Problem)
throwables_checks headers = asked_each (throwable_check headers) machine_throwables

abbrev pub interfaces_checks : Headers → List (Check Problem)
interfaces_checks headers =
    asked_each (λ name. check name rules.KindOfSuper (IfSome (class_named headers name) (λ header. IsTrue (is_interface header))) ∷ []) (serializable ∷ cloneable ∷ [])

-- a class is in the library if the folder has a constant that needs it
abbrev pub need_checks : Headers → List ClassFile → (Const → Bool) → Name → List (Check Problem)
need_checks headers folder test name = asked_if (list_any (has_constant test) folder) (check name rules.Missing (IsSome (named name headers.library)) ∷ [])

abbrev pub handle_checks : Headers → List ClassFile → List (Check Problem)
handle_checks headers folder = need_checks headers folder is_method_handle method_handle

abbrev pub type_checks : Headers → List ClassFile → List (Check Problem)
type_checks headers folder = need_checks headers folder is_method_type method_type

-- a class that the library has answers what asks for it, whether it is needed or not
there_told : {P : Type 0} (name : Name) (asked needed : Bool) (result : Result (Unit {0}) LinkFault) → P → Answers (asked_if needed (check name rules.Missing P ∷ [])) result → Answers (asked_if asked (check name rules.Missing P ∷ [])) result
there_told name true needed (Ok x) h told = (h, tt)
there_told name false needed (Ok x) h told = tt
there_told name asked needed (Err NoMemory) h told = tt
there_told name asked true (Err (Unlinked class member rule)) h (inl here) = absurd (here.0 h)
there_told name asked true (Err (Unlinked class member rule)) h (inr later) = absurd later.1
there_told name asked false (Err (Unlinked class member rule)) h told = absurd told

pub need_told : (headers : Headers) (folder : List ClassFile) (test : Const → Bool) (name : Name) (needed : Bool) (result : Result (Unit {0}) LinkFault) → IsSome (named name headers.library) ⊎ (needed ≡ list_any (has_constant test) folder) → Answers (asked_if needed (check name rules.Missing (IsSome (named name headers.library)) ∷ [])) result → Answers (need_checks headers folder test name) result
need_told headers folder test name needed result (inl there) told = there_told name (list_any (has_constant test) folder) needed result there told
need_told headers folder test name needed result (inr is) told =
    subst (λ (n : Bool). Answers (asked_if n (check name rules.Missing (IsSome (named name headers.library)) ∷ [])) result) is told

-- ---- the parts in turn

regrouped : (a b c d e f : List (Check Problem)) → ((((a ++ b) ++ c) ++ d) ++ e) ++ f ≡ a ++ (b ++ (c ++ (d ++ (e ++ f))))
regrouped a b c d e f = simp append_assoc

abbrev pub from_handles : Headers → List ClassFile → List (Check Problem)
from_handles headers folder = handle_checks headers folder ++ type_checks headers folder

abbrev pub from_interfaces : Headers → List ClassFile → List (Check Problem)
from_interfaces headers folder = interfaces_checks headers ++ from_handles headers folder

abbrev pub from_throwables : Headers → List ClassFile → List (Check Problem)
from_throwables headers folder = throwables_checks headers ++ from_interfaces headers folder

abbrev pub from_object : Headers → List ClassFile → List (Check Problem)
from_object headers folder = object_checks headers ++ from_throwables headers folder

abbrev pub from_names : Headers → List ClassFile → List (Check Problem)
from_names headers folder = names_checks headers ++ from_object headers folder

module _ (headers : Headers) (folder : List ClassFile) (same : headers.folder ≡ map header_of folder) where
  -- what is left of the checks
  abbrev pub Left : List (Check Problem) → Type 0
  Left left = Remain (base_checks (record { folder = folder; library = headers.library })) left

  pub at_names : Left (from_names headers folder)
  at_names =
      let all : Headers = record { folder = map header_of folder; library = headers.library } in
      let parts = regrouped (names_checks all) (object_checks all) (throwables_checks all) (interfaces_checks all) (handle_checks all folder) (type_checks all folder) in
      subst (λ (f : List Header). Left (from_names (record { folder = f; library = headers.library }) folder)) (sym same) (subst Left parts (all_remain (base_checks (record { folder = folder; library = headers.library }))))

  pub at_object : AllHold (names_checks headers) → Left (from_object headers folder)
  at_object names = remain (names_checks headers) (from_object headers folder) at_names names

  pub at_throwables : AllHold (names_checks headers) → AllHold (object_checks headers) → Left (from_throwables headers folder)
  at_throwables names opens = remain (object_checks headers) (from_throwables headers folder) (at_object names) opens

  pub at_interfaces : AllHold (names_checks headers) → AllHold (object_checks headers) → AllHold (throwables_checks headers) → Left (from_interfaces headers folder)
  at_interfaces names opens throwables = remain (throwables_checks headers) (from_interfaces headers folder) (at_throwables names opens) throwables

  pub at_handles : AllHold (names_checks headers) → AllHold (object_checks headers) → AllHold (throwables_checks headers) → AllHold (interfaces_checks headers) → Left (from_handles headers folder)
  at_handles names opens throwables interfaces = remain (interfaces_checks headers) (from_handles headers folder) (at_interfaces names opens throwables) interfaces

  pub at_types : AllHold (names_checks headers) → AllHold (object_checks headers) → AllHold (throwables_checks headers) → AllHold (interfaces_checks headers) → AllHold (handle_checks headers folder) → Left (type_checks headers folder)
  at_types names opens throwables interfaces handles = remain (handle_checks headers folder) (type_checks headers folder) (at_handles names opens throwables interfaces) handles

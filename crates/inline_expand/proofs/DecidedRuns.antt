-- Which method of the folder a call by a reference runs.
use Rattle.std.proofs.Common.{◌≡◌, ◌≢◌, ◌⊎◌, ℕ, List, Option, Some, None, IsFalse, refl, sym, ap, subst, ◌∙◌, arith}
use Rattle.std.proofs.lemmas.Option.{none-some, same_Some}
use Rattle.class_model.specs.Members.{has, STATIC}
use Rattle.class_model.specs.Names.{init}
use Rattle.class_model.specs.declared.class_file.MethodAt.{MethodAt}
use Rattle.class_model.specs.declared.header.Header.{Header}
use Rattle.class_model.specs.declared.opcodes.TheConstants.{INVOKESPECIAL, INVOKESTATIC, INVOKEVIRTUAL}
use Rattle.class_tree.specs.Headers.{Name, Classes, Headers, class_named, headers_of}
use Rattle.class_tree.specs.Hierarchy.{IsHierarchy}
use Rattle.class_tree.specs.Laws.Headers.{same_class}
use Rattle.class_tree.specs.Names.{is_interface}
use Rattle.expanded_code.specs.Callees.{Finds, IsClass, IsOverriddenByNone, Runs, StandsAt, runs_special, runs_static, runs_virtual}
use Rattle.inline_expand.proofs.FoundMethods.{numbers_stand, standing_numbers}
use Rattle.inline_expand.specs.Inner.Calls.{Decides}
use Rattle.inline_expand.specs.Inner.Found.{folder_method}
use Rattle.member_link.specs.DeclaredMembers.{Declared}
use Rattle.member_link.specs.Found.{AreSame, IsChoice, IsMethodFound, IsMethodOf}
use Rattle.member_link.specs.Methods.{FindsMethod, IsPolymorphic}
use Rattle.member_link.specs.References.{Reference}
use Rattle.member_link.specs.Selection.{Choice, Selects, abstract_choice, choice_not_public, chosen_method, several_defaults}
use Rattle.member_link.specs.SpecialStart.{StartsSpecial}
use Rattle.member_link.specs.declared.found.Found.{Found}
use Rattle.member_link.specs.declared.selection.CallForm.{CallForm}
use Rattle.member_link.specs.declared.selection.CallForm.TheVariants.{Special}
use Rattle.member_link.specs.declared.selection.Selected.{Selected}
use Rattle.member_link.specs.declared.selection.Selected.TheVariants as selected

-- ---- laws of member_link

abbrev pub LooksUpOnce : Type 0
LooksUpOnce = (headers : Headers) (class : Name) (name desc : List ℕ) (one other : Option Declared) → FindsMethod headers class name desc one → FindsMethod headers class name desc other → one ≡ other

abbrev pub SelectsOnce : Type 0
SelectsOnce = (headers : Headers) (receiver : Name) (resolved : Declared) (form : CallForm) (one other : Choice) → Selects headers receiver resolved form one → Selects headers receiver resolved form other → one ≡ other

abbrev pub StartsOnce : Type 0
StartsOnce = (headers : Headers) (current named one other : Name) → StartsSpecial headers current named one → StartsSpecial headers current named other → one ≡ other

pub record HasLaws : Type 0 where
  pub looks_up : LooksUpOnce
  pub selects : SelectsOnce
  pub starts : StartsOnce

-- ---- what a look-up answers

pub looked_up : {headers : Headers} {class : Name} {name desc : List ℕ} {found : Found} → IsMethodOf headers class name desc (Some found) → (method : Declared) × FindsMethod headers class name desc (Some method) × IsMethodFound headers found method
looked_up {headers} {class} {name} {desc} {found} is = by is.method is.finds is.same
  where
    by : (method : Option Declared) → FindsMethod headers class name desc method → AreSame (IsMethodFound headers) (Some found) method → (method : Declared) × FindsMethod headers class name desc (Some method) × IsMethodFound headers found method
    by (Some method) finds same = (method, finds, same)
    by None finds same = absurd same

pub looked_up_none : {headers : Headers} {class : Name} {name desc : List ℕ} → IsMethodOf headers class name desc None → FindsMethod headers class name desc None
looked_up_none {headers} {class} {name} {desc} is = by is.method is.finds is.same
  where
    by : (method : Option Declared) → FindsMethod headers class name desc method → AreSame (IsMethodFound headers) None method → FindsMethod headers class name desc None
    by (Some method) finds same = absurd same
    by None finds same = finds

-- ---- the three sorts of calls

pub record RunsSpecial (headers : Headers) (own : Name) (reference : Reference) (method : Declared) : Type 0 where
  pub found : Declared
  pub start : Name
  pub may : IsClass headers own ⊎ (reference.name ≡ init)
  pub plain : ¬ IsPolymorphic headers reference.class reference.name
  pub finds : Finds headers reference found
  pub of_instance : IsFalse (has found.member.flags STATIC)
  pub starts : StartsSpecial headers own reference.class start
  pub selects : Selects headers start found Special (chosen_method method)

pub record RunsVirtual (headers : Headers) (reference : Reference) (method : Declared) : Type 0 where
  pub finds : Finds headers reference method
  pub of_class : IsClass headers method.class
  pub alone : IsOverriddenByNone headers method

module _ {headers : Headers} {own : Name} {reference : Reference} where
  pub of_static : {opcode : ℕ} {method : Declared} → Runs headers own reference opcode method → opcode ≡ INVOKESTATIC → Finds headers reference method
  of_static (runs_static method finds) is = finds
  of_static (runs_special found method start may plain finds of_instance starts selects) is = absurd (omega (arith, is))
  of_static (runs_virtual method finds class alone) is = absurd (omega (arith, is))

  pub of_special : {opcode : ℕ} {method : Declared} → Runs headers own reference opcode method → opcode ≡ INVOKESPECIAL → RunsSpecial headers own reference method
  of_special (runs_static method finds) is = absurd (omega (arith, is))
  of_special (runs_special found method start may plain finds of_instance starts selects) is =
      record { found = found; start = start; may = may; plain = plain; finds = finds; of_instance = of_instance; starts = starts; selects = selects }
  of_special (runs_virtual method finds class alone) is = absurd (omega (arith, is))

  pub of_virtual : {opcode : ℕ} {method : Declared} → Runs headers own reference opcode method → opcode ≡ INVOKEVIRTUAL → RunsVirtual headers reference method
  of_virtual (runs_static method finds) is = absurd (omega (arith, is))
  of_virtual (runs_special found method start may plain finds of_instance starts selects) is = absurd (omega (arith, is))
  of_virtual (runs_virtual method finds class alone) is = record { finds = finds; of_class = class; alone = alone }

  pub of_other : {opcode : ℕ} {method : Declared} → opcode ≢ INVOKESTATIC → opcode ≢ INVOKESPECIAL → opcode ≢ INVOKEVIRTUAL → ¬ Runs headers own reference opcode method
  of_other no_static no_special no_virtual (runs_static method finds) = no_static refl
  of_other no_static no_special no_virtual (runs_special found method start may plain finds of_instance starts selects) = no_special refl
  of_other no_static no_special no_virtual (runs_virtual method finds class alone) = no_virtual refl

module _ (look-up : LooksUpOnce) {headers : Headers} {reference : Reference} where
  pub finds_once : {one other : Declared} → Finds headers reference one → Finds headers reference other → one ≡ other
  finds_once {one} {other} finds also = same_Some one other (look-up headers reference.class reference.name reference.desc (Some one) (Some other) finds also)

  pub finds_nothing : {method : Declared} → FindsMethod headers reference.class reference.name reference.desc None → ¬ Finds headers reference method
  finds_nothing {method} none finds = none-some method (look-up headers reference.class reference.name reference.desc None (Some method) none finds)

pub same_choice : (one other : Declared) → chosen_method one ≡ chosen_method other → one ≡ other
same_choice one other same = cc

module _ (laws : HasLaws) {headers : Headers} {own : Name} {reference : Reference} where
  -- what a special call runs is what is selected
  pub special_selects : {found method : Declared} {start : Name} {choice : Choice} → RunsSpecial headers own reference method → Finds headers reference found → StartsSpecial headers own reference.class start → Selects headers start found Special choice → chosen_method method ≡ choice
  special_selects {found} {method} {start} {choice} runs finds starts selects =
      let resolved : runs.found ≡ found = finds_once laws.looks_up runs.finds finds in
      let from : runs.start ≡ start = laws.starts headers own reference.class runs.start start runs.starts starts in
      let at_found = subst (λ (d : Declared). Selects headers runs.start d Special (chosen_method method)) resolved runs.selects in
      let at_start = subst (λ (name : Name). Selects headers name found Special (chosen_method method)) from at_found in
      laws.selects headers start found Special (chosen_method method) choice at_start selects

  pub special_once : {one other : Declared} → RunsSpecial headers own reference one → RunsSpecial headers own reference other → one ≡ other
  special_once {one} {other} runs also = same_choice one other (special_selects runs also.finds also.starts also.selects)

  -- a call runs one method
  pub runs_once : {opcode : ℕ} {one other : Declared} → Runs headers own reference opcode one → Runs headers own reference opcode other → one ≡ other
  runs_once (runs_static method finds) also = finds_once laws.looks_up finds (of_static also refl)
  runs_once (runs_special found method start may plain finds of_instance starts selects) also =
      special_once (record { found = found; start = start; may = may; plain = plain; finds = finds; of_instance = of_instance; starts = starts; selects = selects }) (of_special also refl)
  runs_once (runs_virtual method finds class alone) also = finds_once laws.looks_up finds (of_virtual also refl).finds

-- ---- the numbers of the method that runs

module _ (classes : Classes) (hierarchy : IsHierarchy (headers_of classes)) where
  pub decided : (IsRun : Declared → Type 0) (found : Found) (method : Declared) → IsMethodFound (headers_of classes) found method → IsRun method → ((other : Declared) → IsRun other → other ≡ method) → Decides classes IsRun (folder_method found)
  decided IsRun found method is runs one = by (folder_method found) refl
    where
      by : (callee : Option MethodAt) → folder_method found ≡ callee → Decides classes IsRun callee
      by (Some callee) numbers = record { method = method; runs = runs; stands = numbers_stand classes hierarchy callee is numbers }
      by None numbers = λ callee at.
          let stands = subst (λ (d : Declared). StandsAt classes callee d) (one at.method at.runs) at.stands in
          none-some callee (sym numbers ∙ standing_numbers classes hierarchy callee is stands)

  -- where the one method that may run is found outside the folder, none of it runs
  pub outside : (IsRun : Declared → Type 0) (found : Found) (method : Declared) → IsMethodFound (headers_of classes) found method → folder_method found ≡ None → ((other : Declared) → IsRun other → other ≡ method) → Decides classes IsRun None
  outside IsRun found method is numbers one = λ callee at.
      let stands = subst (λ (d : Declared). StandsAt classes callee d) (one at.method at.runs) at.stands in
      none-some callee (sym numbers ∙ standing_numbers classes hierarchy callee is stands)

pub undecided : (classes : Classes) (IsRun : Declared → Type 0) → ((method : Declared) → ¬ IsRun method) → Decides classes IsRun None
undecided classes IsRun none = λ callee at. none at.method at.runs

-- ---- what a selection answers

pub chosen_found : {headers : Headers} {chosen : Found} (choice : Choice) → IsChoice headers (selected.Found chosen) choice → (method : Declared) × (choice ≡ chosen_method method) × IsMethodFound headers chosen method
chosen_found (chosen_method method) is = (method, refl, is)
chosen_found abstract_choice is = absurd is
chosen_found several_defaults is = absurd is
chosen_found choice_not_public is = absurd is

pub nothing_chosen : (headers : Headers) (method : Declared) (answer : Selected) → ((chosen : Found) → answer ≡ selected.Found chosen → ⊥) → ¬ IsChoice headers answer (chosen_method method)
nothing_chosen headers method (selected.Found found) not is = not found refl
nothing_chosen headers method selected.Abstract not is = is
nothing_chosen headers method selected.Twice not is = is
nothing_chosen headers method selected.NotPublic not is = is

-- ---- classes

-- the class of a name is no interface
pub no_interface : (headers : Headers) (name : Name) (header : Header) → class_named headers name ≡ Some header → IsClass headers name → IsFalse (is_interface header)
no_interface headers name header found class = ap (λ (h : Header). is_interface h) (same_class headers name header class.header found class.found) ∙ class.no_interface

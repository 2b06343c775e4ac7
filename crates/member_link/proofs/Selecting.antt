-- Selection, step by step: where it starts, which methods count, and what is chosen.
use Rattle.std.proofs.Common.{◌≡◌, ◌≢◌, ◌⊎◌, ◌↔◌, ◌∙◌, true, false, ℕ, List, Some, None, IsTrue, IsFalse, sym, ap}
use Rattle.std.proofs.lemmas.Bool.{both_ways, false_from_ne_true}
use Rattle.std.proofs.lemmas.Option.{none-some, same_Some}
use Rattle.class_model.specs.Members.{has, PUBLIC, STATIC}
use Rattle.class_model.specs.declared.header.Header.{Header}
use Rattle.class_tree.specs.Headers.{Name, Headers, class_named}
use Rattle.class_tree.specs.Names.{object, is_interface}
use Rattle.class_tree.specs.Subtype.{IsArray, IsDirectlyBelow, superclass, interface, IsBelow, directly, onwards}
use Rattle.member_link.specs.DeclaredMembers.{Declared}
use Rattle.member_link.specs.Selection.{Choice, abstract_choice, choice_of, Chooses, by_default, no_default, start_of, CountsForSpecial, Selects, of_private, of_virtual, of_interface, of_initialiser, of_special}
use Rattle.member_link.specs.Inner.SelectionSteps.{IsFixed, CountsFrom, choice_by}
use Rattle.member_link.specs.Upwards.{in_absent_class}
use Rattle.member_link.specs.declared.selection.CallForm.{CallForm}
use Rattle.member_link.specs.declared.selection.CallForm.TheVariants.{Virtual, Interface, Special}

-- ---- where it starts

pub start_of_array : (name : Name) → IsArray name → start_of name ≡ object
start_of_array name array = ap start_of array.1

-- ---- which methods count

module _ (headers : Headers) (start : Name) (header : Header) (there : class_named headers start ≡ Some header) (method : Declared) where
  pub special_at_interface : is_interface header ≡ true → (IsFalse (has method.member.flags STATIC) × ((method.class ≢ object) ⊎ IsTrue (has method.member.flags PUBLIC))) ↔ CountsForSpecial headers start method
  special_at_interface is = (
    λ counts. record { of_instance = counts.0; at_interface = λ other other_there kind. counts.1 },
    λ counts. (counts.of_instance, counts.at_interface header there is),
  )

  pub special_at_class : is_interface header ≡ false → IsFalse (has method.member.flags STATIC) ↔ CountsForSpecial headers start method
  special_at_class plain = (
    λ counts. record {
      of_instance = counts;
      at_interface = λ other other_there kind. absurd (both_ways (is_interface header) plain (ap is_interface (same_Some header other (sym there ∙ other_there)) ∙ kind));
    },
    λ counts. counts.of_instance,
  )

-- ---- what is chosen

module _ (headers : Headers) (receiver : Name) (resolved : Declared) where
  pub fixed_selects : (form : CallForm) → IsFixed form resolved → Selects headers receiver resolved form (choice_of resolved)
  fixed_selects Virtual is = of_private is
  fixed_selects Interface is = absurd is
  fixed_selects Special is = of_initialiser is

  pub chooses_selects : (form : CallForm) → ¬ IsFixed form resolved → (choice : Choice) → Chooses headers (CountsFrom headers (start_of receiver) resolved form) (choice_by form) (start_of receiver) resolved.member.name resolved.member.desc choice → Selects headers receiver resolved form choice
  chooses_selects Virtual free choice is = of_virtual choice (false_from_ne_true _ free) is
  chooses_selects Interface free choice is = of_interface choice is
  chooses_selects Special free choice is = of_special choice free is

steps_from : (headers : Headers) {low high : Name} → IsDirectlyBelow headers low high → class_named headers low ≡ None → ⊥
steps_from headers (superclass low high header is some) absent = none-some header (sym absent ∙ is)
steps_from headers (interface low high header is one) absent = none-some header (sym absent ∙ is)

-- nothing is above a class that is not there
nothing_above : (headers : Headers) {low high : Name} → IsBelow headers low high → class_named headers low ≡ None → ⊥
nothing_above headers (directly low high step) absent = steps_from headers step absent
nothing_above headers (onwards low middle high step rest) absent = steps_from headers step absent

pub absent_chooses : (headers : Headers) (CountsThere : Declared → Type 0) (of_method : Declared → Choice) (class : Name) (name desc : List ℕ) → class_named headers class ≡ None → Chooses headers CountsThere of_method class name desc abstract_choice
absent_chooses headers CountsThere of_method class name desc absent =
    by_default abstract_choice (in_absent_class class absent) (no_default (λ method is. nothing_above headers is.specific.of_superinterface.above absent))

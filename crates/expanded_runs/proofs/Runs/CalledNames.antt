-- The callee of a call has the name that the call gives; an instance initialiser is of the class that is named.
use Rattle.std.proofs.Common.{◌≡◌, ℕ, Bool, true, false, List, slice_get, Option, Some, None, option_map, IsTrue, if◌then◌else◌, refl, sym, ap, subst, ◌∙◌}
use Rattle.std.specs.Prelude.{option_and_then}
use Rattle.std.proofs.lemmas.Bool.{false≢true}
use Rattle.std.proofs.lemmas.Option.{none-some, same_Some, slice_get-map}
use Rattle.std.proofs.lemmas.Slice.Eq.{bytes_eq-Decides}
use Rattle.class_model.specs.Header.{header_of, method_member}
use Rattle.class_model.specs.Members.{ABSTRACT, has, is_text}
use Rattle.class_model.specs.Names.{clinit, init}
use Rattle.class_model.specs.PoolChecks.{text_or_empty, utf8_at}
use Rattle.class_model.specs.declared.class_file.MethodAt.{MethodAt}
use Rattle.class_model.specs.declared.header.Header.{Header}
use Rattle.class_model.specs.declared.header.Member.{Member}
use Rattle.class_tree.specs.Headers.{Classes, Headers, Name, class_named}
use Rattle.expanded_code.specs.Callees.{Finds, Runs, StandsAt, own_name, runs_special, runs_static, runs_virtual}
use Rattle.member_link.specs.DeclaredMembers.{Declared, declared, declared_by}
use Rattle.member_link.specs.Machine.Links.{reference_to}
use Rattle.member_link.specs.Methods.{FindsMethod, first_named, initialiser, of_array, of_class, polymorphic}
use Rattle.member_link.specs.References.{Reference}
use Rattle.member_link.specs.Scope.{Scope, is_clinit, is_init, scope_at}
use Rattle.member_link.specs.Selection.{Choice, Selects, abstract_choice, choice_of, chosen_method, of_initialiser, of_special}
use Rattle.member_link.specs.declared.selection.CallForm.TheVariants.{Special}
use Rattle.same_runs.specs.Laws.NoInitLinks.{method_name, selects_name}
use Rattle.member_link.specs.Laws.Scopes.{scope_is_at}

-- ---- the method that runs

pub run_has_name : {headers : Headers} {own : Name} {reference : Reference} {opcode : ℕ} {method : Declared}
    → Runs headers own reference opcode method → method.member.name ≡ reference.name
run_has_name (runs_static method finds) = let named = method_name finds in named.is method refl
run_has_name (runs_special found method start is_class no_handle finds of_instance starts selects) =
    let named = method_name finds in
    let chosen = selects_name selects in
    chosen.is (reference_to method) refl ∙ named.is found refl
run_has_name (runs_virtual method finds is_class alone) = let named = method_name finds in named.is method refl

-- ---- instance initialisers

-- what is found is declared by a class
record IsOf (class : Name) (found : Option Declared) : Type 0 where
  is : (method : Declared) → found ≡ Some method → method.class ≡ class

of_member : (class : Name) (found : Option Member) → IsOf class (option_map (declared_by class) found)
of_member class None = record { is = λ method is. absurd (none-some method is) }
of_member class (Some member) = record { is = λ method is. ap (λ (m : Declared). m.class) (sym (same_Some (declared_by class member) method is)) }

of_header : (class : Name) (f : Header → Option Member) (found : Option Header)
    → IsOf class (option_and_then (λ (header : Header). option_map (declared_by class) (f header)) found)
of_header class f None = record { is = λ method is. absurd (none-some method is) }
of_header class f (Some header) = of_member class (f header)

-- it is looked up in the named class alone
init_is_of : {headers : Headers} {class : Name} {name desc : List ℕ} {found : Option Declared}
    → FindsMethod headers class name desc found → name ≡ init → IsOf class found
init_is_of {headers = headers} {class = class} {name = name} {desc = desc} (initialiser is) named =
    of_header class (λ (header : Header). declared name desc header.methods) (class_named headers class)
init_is_of {headers = headers} {class = class} {name = name} (polymorphic is) named =
    of_header class (λ (header : Header). first_named name header.methods) (class_named headers class)
init_is_of (of_array found differs is finds) named = absurd (differs named)
init_is_of (of_class found differs is other finds) named = absurd (differs named)

init_is_chosen : {headers : Headers} {start : Name} {found : Declared} {choice : Choice}
    → Selects headers start found Special choice → found.member.name ≡ init → choice ≡ choice_of found
init_is_chosen (of_initialiser is) named = refl
init_is_chosen (of_special choice differs chooses) named = absurd (differs named)

one_choice : (found method : Declared) → choice_of found ≡ chosen_method method → found ≡ method
one_choice found method same = by (has found.member.flags ABSTRACT) same where
  by : (b : Bool) → (if b then abstract_choice else chosen_method found) ≡ chosen_method method → found ≡ method
  by true same = absurd cc
  by false same = cc

-- The method of a special call that names an initialiser is of the named class.
pub init_of_named : {headers : Headers} {reference : Reference} {found method : Declared} {start : Name}
    → Finds headers reference found
    → Selects headers start found Special (chosen_method method)
    → reference.name ≡ init
    → method.class ≡ reference.class
init_of_named {reference = reference} {found = found} {method = method} finds selects named =
    let of_named = init_is_of finds named in
    let found_name = method_name finds in
    let same = one_choice found method (sym (init_is_chosen selects (found_name.is found refl ∙ named))) in
    subst (λ (m : Declared). m.class ≡ reference.class) same (of_named.is found refl)

-- ---- the method that stands at the callee's numbers

text_is : (wanted : List ℕ) (text : Option (List ℕ)) → is_text wanted text ≡ true → text_or_empty text ≡ wanted
text_is wanted None is = absurd (false≢true is)
text_is wanted (Some text) is = sym ((bytes_eq-Decides wanted text).0 is)

-- its class and member
pub record IsMethodAt (s : Scope) (method : Declared) : Type 0 where
  pub own : own_name s ≡ method.class
  pub member : method_member s.class.pool s.method ≡ method.member

module _ (classes : Classes) (at : MethodAt) (s : Scope) (scope : scope_at classes at ≡ Some s) (method : Declared)
    (stands : StandsAt classes at method) where
  pub method_at : IsMethodAt s method
  method_at =
      let known = scope_is_at classes at s scope in
      let header : stands.header ≡ header_of s.class =
      same_Some stands.header (header_of s.class)
      (sym stands.at ∙ slice_get-map header_of classes.folder at.class ∙ ap (option_map header_of) known.of_folder) in
      let stands_there = subst (λ (h : Header). slice_get h.methods at.method ≡ Some method.member) header stands.stands in
      record {
        own = ap (λ (h : Header). h.name) (sym header) ∙ stands.own_class;
        member =
            same_Some (method_member s.class.pool s.method) method.member
            (sym (slice_get-map (method_member s.class.pool) s.class.methods at.method
            ∙ ap (option_map (method_member s.class.pool)) known.of_class)
            ∙ stands_there);
      }

  -- it has the name that its constant is
  named_at : (name : List ℕ) → is_text name (utf8_at s.class.pool s.method.name) ≡ true → method.member.name ≡ name
  named_at name is = ap (λ (m : Member). m.name) (sym method_at.member) ∙ text_is name (utf8_at s.class.pool s.method.name) is

  pub init_named : IsTrue (is_init s) → method.member.name ≡ init
  init_named is = named_at init is

  pub clinit_named : IsTrue (is_clinit s) → method.member.name ≡ clinit
  clinit_named is = named_at clinit is

-- The links of a hierarchy find no instance initialiser, and choose none for another method.
use Rattle.std.proofs.Common.{◌≡◌, ◌≢◌, ℕ, Bool, true, false, List, [], ◌∷◌, bytes_eq, Option, Some, None, option_map, option_and_then, if◌then◌else◌, refl, sym, subst, ◌∙◌}
use Rattle.std.proofs.lemmas.Bool.{and_parts, false≢true}
use Rattle.std.proofs.lemmas.Option.{none-some, same_Some}
use Rattle.std.proofs.lemmas.Slice.Eq.{bytes_eq-Decides}
use Rattle.class_model.specs.Members.{has, ABSTRACT, PUBLIC}
use Rattle.class_model.specs.Names.{init}
use Rattle.class_model.specs.declared.header.Header.{Header}
use Rattle.class_model.specs.declared.header.Member.{Member}
use Rattle.class_tree.specs.Headers.{Headers, Name, class_named}
use Rattle.class_tree.specs.Names.{is_member}
use Rattle.member_link.specs.DeclaredMembers.{Declared, declared, declared_by, is_inherited, own_method}
use Rattle.member_link.specs.Defaults.{IsOneDefault, first_inherited}
use Rattle.member_link.specs.Machine.Links.{AreLinksOf, IsSelection, chosen_by, reference_to}
use Rattle.member_link.specs.Machine.Programs.{Chosen, Links, abstract_method, chosen}
use Rattle.member_link.specs.Methods.{FindsInClass, FindsInInterfaces, FindsMethod, first_named, first_of_all, in_interfaces, initialiser, nowhere, of_array, of_class, one_default, polymorphic, upwards}
use Rattle.member_link.specs.References.{Reference}
use Rattle.member_link.specs.Selection.{Choice, Chooses, ChoosesDefault, Selects, abstract_choice, by_default, choice_not_public, choice_of, chosen_method, first_upwards, no_default, of_initialiser, of_interface, of_private, of_special, of_virtual, public_choice_of, several_defaults as several_choices, the_one, two_defaults}
use Rattle.member_link.specs.Upwards.{FirstUpwards, in_absent_class, in_itself, in_no_superclass, in_superclass}
use Rattle.member_link.specs.declared.selection.CallForm.{CallForm}
use Rattle.same_runs.specs.SamePrograms.{LinksNoInit}

-- what is found has the name that was asked for
pub record HasName (name : List ℕ) (found : Option Declared) : Type 0 where
  pub is : (method : Declared) → found ≡ Some method → method.member.name ≡ name

no_name : (name : List ℕ) → HasName name None
no_name name = record { is = λ method is. absurd (none-some method is) }

one_name : (name : List ℕ) (found : Declared) → found.member.name ≡ name → HasName name (Some found)
one_name name found same = record { is = λ method is. subst (λ (m : Declared). m.member.name ≡ name) (same_Some found method is) same }

-- ---- in a class

declared_name : (name desc : List ℕ) (members : List Member) (member : Member) → declared name desc members ≡ Some member
    → member.name ≡ name
declared_name name desc [] member is = absurd (none-some member is)
declared_name name desc (first ∷ members) member is = by (is_member name desc first) refl is (declared_name name desc members member) where
  by : (b : Bool) → is_member name desc first ≡ b → (if b then Some first else declared name desc members) ≡ Some member
      → (declared name desc members ≡ Some member → member.name ≡ name) → member.name ≡ name
  by true e is rest =
      let parts = and_parts (bytes_eq name first.name) (bytes_eq desc first.desc) e in
      subst (λ (m : Member). m.name ≡ name) (same_Some first member is) (sym ((bytes_eq-Decides name first.name).0 parts.0))
  by false e is rest = rest is

first_name : (name : List ℕ) (members : List Member) (member : Member) → first_named name members ≡ Some member → member.name ≡ name
first_name name [] member is = absurd (none-some member is)
first_name name (first ∷ members) member is = by (bytes_eq name first.name) refl is (first_name name members member) where
  by : (b : Bool) → bytes_eq name first.name ≡ b → (if b then Some first else first_named name members) ≡ Some member
      → (first_named name members ≡ Some member → member.name ≡ name) → member.name ≡ name
  by true e is rest = subst (λ (m : Member). m.name ≡ name) (same_Some first member is) (sym ((bytes_eq-Decides name first.name).0 e))
  by false e is rest = rest is

of_member : (class : Name) (name : List ℕ) (found : Option Member) → ((member : Member) → found ≡ Some member → member.name ≡ name)
    → HasName name (option_map (declared_by class) found)
of_member class name None named = no_name name
of_member class name (Some member) named = one_name name (declared_by class member) (named member refl)

of_header : (class : Name) (name : List ℕ) (f : Header → Option Member) (found : Option Header)
    → ((header : Header) (member : Member) → f header ≡ Some member → member.name ≡ name)
    → HasName name (option_and_then (λ (header : Header). option_map (declared_by class) (f header)) found)
of_header class name f None named = no_name name
of_header class name f (Some header) named = of_member class name (f header) (named header)

own_name : (headers : Headers) (class : Name) (name desc : List ℕ) → HasName name (own_method headers class name desc)
own_name headers class name desc =
    of_header class name (λ (header : Header). declared name desc header.methods) (class_named headers class)
    (λ header. declared_name name desc header.methods)

-- ---- upwards, and in superinterfaces

upwards_name : {headers : Headers} {Counts : Declared → Type 0} {name desc : List ℕ} {class : Name} {found : Option Declared}
    → FirstUpwards headers Counts name desc class found → HasName name found
upwards_name {name = name} {desc = desc} (in_itself class header member there declares counts) =
    one_name name (declared_by class member) (declared_name name desc header.methods member declares)
upwards_name (in_superclass class high header found there passed above rest) = upwards_name rest
upwards_name {name = name} (in_no_superclass class header there passed above) = no_name name
upwards_name {name = name} (in_absent_class class there) = no_name name

default_name : {headers : Headers} {class : Name} {name desc : List ℕ} {method : Declared} → IsOneDefault headers class name desc method
    → method.member.name ≡ name
default_name {name = name} {desc = desc} {method = method} is =
    let of_interface = is.is_default.specific.of_superinterface in
    declared_name name desc of_interface.header.methods method.member of_interface.declares

inherited_name : (headers : Headers) (name desc : List ℕ) (interfaces : List Name)
    → HasName name (first_inherited headers name desc interfaces)
inherited_name headers name desc [] = no_name name
inherited_name headers name desc (interface ∷ interfaces) =
    by (class_named headers interface) refl (inherited_name headers name desc interfaces) where
      tested : (header : Header) (member : Member) (b : Bool) → class_named headers interface ≡ Some header
          → declared name desc header.methods ≡ Some member → is_inherited member ≡ b
          → HasName name (first_inherited headers name desc interfaces)
          → HasName name (first_inherited headers name desc (interface ∷ interfaces))
      tested header member true there is e rest =
          rw (there, is, e) (one_name name (declared_by interface member) (declared_name name desc header.methods member is))
      tested header member false there is e rest = rw (there, is, e) rest

      in_header : (header : Header) (found : Option Member) → class_named headers interface ≡ Some header
          → declared name desc header.methods ≡ found
          → HasName name (first_inherited headers name desc interfaces)
          → HasName name (first_inherited headers name desc (interface ∷ interfaces))
      in_header header None there is rest = rw (there, is) rest
      in_header header (Some member) there is rest = tested header member (is_inherited member) there is refl rest

      by : (found : Option Header) → class_named headers interface ≡ found → HasName name (first_inherited headers name desc interfaces)
          → HasName name (first_inherited headers name desc (interface ∷ interfaces))
      by None there rest = rw (there) rest
      by (Some header) there rest = in_header header (declared name desc header.methods) there refl rest

interfaces_name : {headers : Headers} {class : Name} {name desc : List ℕ} {found : Option Declared}
    → FindsInInterfaces headers class name desc found → HasName name found
interfaces_name {name = name} (one_default method is) = one_name name method (default_name is)
interfaces_name {headers = headers} {name = name} {desc = desc} (first_of_all names none are) = inherited_name headers name desc names

class_name : {headers : Headers} {class : Name} {name desc : List ℕ} {found : Option Declared} → FindsInClass headers class name desc found
    → HasName name found
class_name {name = name} (nowhere there) = no_name name
class_name (upwards header method there up) = upwards_name up
class_name (in_interfaces header found there up over) = interfaces_name over

pub method_name : {headers : Headers} {class : Name} {name desc : List ℕ} {found : Option Declared} → FindsMethod headers class name desc found
    → HasName name found
method_name {headers = headers} {class = class} {name = name} {desc = desc} (initialiser is) = own_name headers class name desc
method_name {headers = headers} {class = class} {name = name} (polymorphic is) =
    of_header class name (λ (header : Header). first_named name header.methods) (class_named headers class)
    (λ header. first_name name header.methods)
method_name (of_array found differs is finds) = class_name finds
method_name (of_class found differs is other finds) = class_name finds

-- ---- choices

-- a chosen method has the name of the resolved one
pub record ChoosesName (name : List ℕ) (choice : Choice) : Type 0 where
  pub is : (method : Reference) → chosen_by choice ≡ chosen method → method.name ≡ name

chosen_name : (name : List ℕ) (method : Declared) → method.member.name ≡ name → ChoosesName name (chosen_method method)
chosen_name name method same = record {
  is = λ r is.
      let here : reference_to method ≡ r = cc is in
      subst (λ (q : Reference). q.name ≡ name) here same;
}

no_choice : (name : List ℕ) (choice : Choice) → ((method : Reference) → chosen_by choice ≡ chosen method → ⊥) → ChoosesName name choice
no_choice name choice none = record { is = λ method is. absurd (none method is) }

no_abstract : (name : List ℕ) → ChoosesName name abstract_choice
no_abstract name = no_choice name abstract_choice (λ method is. cc is)

choice_name : (name : List ℕ) (method : Declared) → method.member.name ≡ name → ChoosesName name (choice_of method)
choice_name name method same = by (has method.member.flags ABSTRACT) where
  by : (b : Bool) → ChoosesName name (if b then abstract_choice else chosen_method method)
  by true = no_abstract name
  by false = chosen_name name method same

public_choice_name : (name : List ℕ) (method : Declared) → method.member.name ≡ name → ChoosesName name (public_choice_of method)
public_choice_name name method same = by (has method.member.flags PUBLIC) where
  by : (b : Bool) → ChoosesName name (if b then choice_of method else choice_not_public)
  by true = choice_name name method same
  by false = no_choice name choice_not_public (λ method is. cc is)

by_default_name : {headers : Headers} {class : Name} {name desc : List ℕ} {choice : Choice} → ChoosesDefault headers class name desc choice
    → ChoosesName name choice
by_default_name {name = name} (the_one method is) = chosen_name name method (default_name is)
by_default_name {name = name} (no_default none) = no_abstract name
by_default_name {name = name} (two_defaults one other is is_also differ) = no_choice name several_choices (λ method is. cc is)

chooses_name :
    {headers : Headers} {Counts : Declared → Type 0} {of_method : Declared → Choice} {class : Name} {name desc : List ℕ} {choice : Choice}
    → ((method : Declared) → method.member.name ≡ name → ChoosesName name (of_method method))
    → Chooses headers Counts of_method class name desc choice
    → ChoosesName name choice
chooses_name named (first_upwards method up) = let here = upwards_name up in named method (here.is method refl)
chooses_name named (by_default choice up chooses) = by_default_name chooses

pub selects_name : {headers : Headers} {receiver : Name} {resolved : Declared} {form : CallForm} {choice : Choice}
    → Selects headers receiver resolved form choice → ChoosesName resolved.member.name choice
selects_name {resolved = resolved} (of_private private) = choice_name resolved.member.name resolved refl
selects_name {resolved = resolved} (of_virtual choice not_private chooses) = chooses_name (choice_name resolved.member.name) chooses
selects_name {resolved = resolved} (of_interface choice chooses) = chooses_name (public_choice_name resolved.member.name) chooses
selects_name {resolved = resolved} (of_initialiser is) = choice_name resolved.member.name resolved refl
selects_name {resolved = resolved} (of_special choice differs chooses) = chooses_name (choice_name resolved.member.name) chooses

-- ---- links

linked_name : (name : List ℕ) (found : Option Declared) → HasName name found → (r : Reference) → option_map reference_to found ≡ Some r
    → r.name ≡ name
linked_name name None named r is = absurd (none-some r is)
linked_name name (Some method) named r is =
    subst (λ (q : Reference). q.name ≡ name) (same_Some (reference_to method) r is) (named.is method refl)

selection_name : (headers : Headers) (receiver : Name) (form : CallForm) (link : Chosen) (name : List ℕ) (found : Option Declared)
    → HasName name found → IsSelection headers receiver form found link
    → (r : Reference) → link ≡ chosen r → r.name ≡ name
selection_name headers receiver form link name None named is r chooses =
    let none : abstract_method ≡ chosen r = sym is ∙ chooses in
    absurd (cc none)
selection_name headers receiver form link name (Some method) named is r chooses =
    let here = selects_name is.selects in
    here.is r (sym is.same ∙ chooses) ∙ named.is method refl

pub links_no_init : (headers : Headers) (links : Links) → AreLinksOf headers links → LinksNoInit links
links_no_init headers links are = record {
  found = λ r found is init_found. by_name r found is init_found;
  selected = λ receiver r found form differs is init_found.
      let same = selection_name headers receiver form (links.select receiver r form) r.name (own_method headers r.class r.name r.desc)
      (own_name headers r.class r.name r.desc) (are.select receiver r form differs) found is in
      differs (sym same ∙ init_found);
} where
  by_name : (r found : Reference) → links.method r ≡ Some found → found.name ≡ init → ⊥
  by_name r found is init_found = by (bytes_eq r.name init) refl where
    by : (b : Bool) → bytes_eq r.name init ≡ b → ⊥
    by true e = none-some found (sym (are.initialiser r ((bytes_eq-Decides r.name init).0 e)) ∙ is)
    by false e =
        let differs : r.name ≢ init = λ same. false≢true (sym e ∙ (bytes_eq-Decides r.name init).1 same) in
        let link = are.method r differs in
        differs (sym (linked_name r.name link.found (method_name link.finds) found (sym link.same ∙ is)) ∙ init_found)

-- Methods that classes declare themselves, in a tree and in its program, and what is selected for them.
use Rattle.std.proofs.Common.{◌≡◌, ◌≢◌, ℕ, Bool, true, false, List, [], ◌∷◌, bytes_eq, slice_get, Option, Some, None, option_map, option_and_then, refl, sym, ap, subst, ◌∙◌}
use Rattle.std.proofs.lemmas.Bool.{and_parts}
use Rattle.std.proofs.lemmas.Option.{same_Some}
use Rattle.std.proofs.lemmas.Slice.Eq.{bytes_eq-Decides}
use Rattle.class_model.specs.Members.{has, STATIC}
use Rattle.class_model.specs.Names.{init}
use Rattle.class_model.specs.declared.header.Header.{Header}
use Rattle.class_model.specs.declared.header.Member.{Member}
use Rattle.class_tree.specs.Headers.{Name, Classes, Headers, class_named, headers_of}
use Rattle.class_tree.specs.Hierarchy.{IsHierarchy}
use Rattle.class_tree.specs.Laws.FirstPlaces.{first_passes}
use Rattle.class_tree.specs.Names.{is_member}
use Rattle.class_tree.specs.Order.{header_at, member_place, place_of}
use Rattle.class_tree.specs.declared.place.Place.{Place}
use Rattle.member_link.specs.DeclaredMembers.{Declared, declared_by, declared, own_method}
use Rattle.member_link.specs.Found.{AreSame, IsMethodFound}
use Rattle.member_link.specs.Machine.Links.{IsSelection, chosen_by}
use Rattle.member_link.specs.Machine.Programs.{Program, abstract_method, has_flag, method_of}
use Rattle.member_link.specs.References.{Reference}
use Rattle.member_link.specs.Selection.{Choice, Selects}
use Rattle.member_link.specs.declared.found.Found.{Found}
use Rattle.member_link.specs.declared.selection.CallForm.{CallForm}
use Rattle.member_link.specs.TreePrograms.{IsProgram}
use Rattle.member_link.specs.Laws.ProgramHeaders.{links_are}
use Rattle.member_link.specs.Laws.ProgramMembers.{class_at_place, method_is}

-- ---- what the search of a class answers

module _ (headers : Headers) where
  -- by the place of the class
  pub own_at_place :
      IsHierarchy headers
      → (class : Name) (name desc : List ℕ) (place : Place) (result : Option Found)
      → place_of headers class ≡ Some place
      → ((header : Header)
      → header_at headers place ≡ Some header
      → AreSame (IsMethodFound headers) result (option_map (declared_by header.name) (declared name desc header.methods)))
      → AreSame (IsMethodFound headers) result (own_method headers class name desc)
  own_at_place hierarchy class name desc place result at told =
      let stands = hierarchy.placed class place at in
      let there : class_named headers class ≡ Some stands.0 = sym (class_at_place headers hierarchy class place at) ∙ stands.1.at in
      let found : own_method headers class name desc ≡ option_map (declared_by stands.0.name) (declared name desc stands.0.methods) =
      ap (option_and_then (λ (header : Header). option_map (declared_by class) (declared name desc header.methods))) there
      ∙ ap (λ (own : Name). option_map (declared_by own) (declared name desc stands.0.methods)) (sym stands.1.own_name)
      in
      subst (AreSame (IsMethodFound headers) result) (sym found) (told stands.0 stands.1.at)

  -- one is found
  pub one_own :
      (found : Found) (own : Option Declared)
      → AreSame (IsMethodFound headers) (Some found) own
      → (method : Declared) × (own ≡ Some method) × IsMethodFound headers found method
  one_own found None same = absurd same
  one_own found (Some method) same = (method, refl, same)

  pub nothing_own :
      (own : Option Declared) → AreSame (IsMethodFound headers) None own → own ≡ None
  nothing_own None same = refl
  nothing_own (Some method) same = absurd same

-- ---- in a program

-- a selection chooses one
pub record OneChoice : Type 0 where
  pub one :
      (headers : Headers) (receiver : Name) (resolved : Declared) (form : CallForm)
      (one other : Choice)
      → Selects headers receiver resolved form one
      → Selects headers receiver resolved form other
      → one ≡ other

module _ (classes : Classes) (P : Program) (is : IsProgram classes P) where
  member_in :
      (class : Name) (name desc : List ℕ) (found : Option Header)
      → option_map (λ (d : Declared). d.member) (option_and_then (λ (header : Header). option_map (declared_by class) (declared name desc header.methods)) found)
      ≡ option_and_then (λ (header : Header). declared name desc header.methods) found
  member_in class name desc None = refl
  member_in class name desc (Some header) = by (declared name desc header.methods)
    where
      by : (found : Option Member) → option_map (λ (d : Declared). d.member) (option_map (declared_by class) found) ≡ found
      by None = refl
      by (Some member) = refl

  pub own_member :
      (r : Reference)
      → option_map (λ (d : Declared). d.member) (own_method (headers_of classes) r.class r.name r.desc) ≡ method_of P r
  own_member r = member_in r.class r.name r.desc (class_named (headers_of classes) r.class) ∙ method_is classes P is r

  pub own_flag :
      (r : Reference) (method : Declared) (mask : ℕ)
      → own_method (headers_of classes) r.class r.name r.desc ≡ Some method
      → has_flag (method_of P r) mask ≡ has method.member.flags mask
  own_flag r method mask own =
      ap (λ (member : Option Member). has_flag member mask) (sym (own_member r) ∙ ap (option_map (λ (d : Declared). d.member)) own)

  -- ---- what is selected

  module _ (receiver : Name) (r : Reference) (form : CallForm) where
    pub initialiser_selected : r.name ≡ init → P.links.select receiver r form ≡ abstract_method
    initialiser_selected name = (links_are classes P is).no_initialiser receiver r form name

    selection :
        r.name ≢ init
        → (own : Option Declared)
        → own_method (headers_of classes) r.class r.name r.desc ≡ own
        → IsSelection (headers_of classes) receiver form own (P.links.select receiver r form)
    selection name own same =
        subst (λ (o : Option Declared). IsSelection (headers_of classes) receiver form o (P.links.select receiver r form)) same ((links_are classes P is).select receiver r form name)

    pub none_selected :
        r.name ≢ init
        → own_method (headers_of classes) r.class r.name r.desc ≡ None
        → P.links.select receiver r form ≡ abstract_method
    none_selected name own = selection name None own

    pub one_selected :
        OneChoice
        → r.name ≢ init
        → (method : Declared) (choice : Choice)
        → own_method (headers_of classes) r.class r.name r.desc ≡ Some method
        → Selects (headers_of classes) receiver method form choice
        → P.links.select receiver r form ≡ chosen_by choice
    one_selected law name method choice own selects =
        let link = selection name (Some method) own in
        link.same ∙ ap chosen_by (law.one (headers_of classes) receiver method form link.choice choice link.selects selects)

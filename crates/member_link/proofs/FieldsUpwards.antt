-- The look-up of a field goes from a class to its superclass.
use Rattle.std.proofs.Common.{◌≡◌, ◌∙◌, ℕ, List, [], Option, Some, None, IsSome, IfSome, refl, sym, ap, subst, is_some}
use Rattle.std.proofs.lemmas.Option.{same_Some}
use Rattle.class_model.specs.declared.header.Header.{Header}
use Rattle.class_tree.specs.Headers.{Name, Headers}
use Rattle.class_tree.specs.Hierarchy.{IsHierarchy, superclass_of}
use Rattle.class_tree.specs.Laws.Headers.{no_superclass, superclass_there}
use Rattle.class_tree.specs.Order.{header_at, place_of}
use Rattle.class_tree.specs.declared.place.Place.{Place}
use Rattle.member_link.specs.DeclaredMembers.{Declared}
use Rattle.member_link.specs.Fields.{FindsFirst, FindsField, in_no_class, absent_class}
use Rattle.member_link.specs.Inner.FieldSearch.{super_list, FindsOrLeaves}
use Rattle.member_link.proofs.Climbed.{superclass_at}

-- what is found in the class at a place, or where there is none, nothing
abbrev pub FoundFrom : Headers → List ℕ → List ℕ → Option Place → Option Declared → Type 0
FoundFrom headers name desc None found = found ≡ None
FoundFrom headers name desc (Some place) found = (header : Header) → header_at headers place ≡ Some header → FindsField headers header.name name desc found

-- whatever is found from the next place is found in the class
pub record IsSearched (headers : Headers) (class : Name) (name desc : List ℕ) (next : Option Place) : Type 0 where
  pub onwards : (found : Option Declared) → FoundFrom headers name desc next found → FindsField headers class name desc found
  pub there : IfSome next (λ place. IsSome (header_at headers place))

module _ (headers : Headers) (hierarchy : IsHierarchy headers) (class : Name) (name desc : List ℕ) where
  pub first_searched : (next : Option Place) → next ≡ place_of headers class → IsSearched headers class name desc next
  first_searched None is = record {
    onwards = λ found none. subst (FindsField headers class name desc) (sym none) (absent_class class [] None (hierarchy.absent class (sym is)) in_no_class);
    there = tt;
  }
  first_searched (Some place) is =
      let stands = hierarchy.placed class place (sym is) in
      record {
        onwards = λ found from. subst (λ (n : Name). FindsField headers n name desc found) stands.1.own_name (from stands.0 stands.1.at);
        there = ap is_some stands.1.at;
      }

  in_super : (place : Place) (header : Header) → header_at headers place ≡ Some header → (found : Option Declared) → FoundFrom headers name desc (superclass_of headers place) found → FindsFirst headers name desc (super_list header.super_name) found
  in_super place header at found from = by header.super_name refl
    where
      by : (super : Option Name) → header.super_name ≡ super → FindsFirst headers name desc (super_list header.super_name) found
      by None none =
          let nothing = subst (λ (next : Option Place). FoundFrom headers name desc next found) (no_superclass headers place header at none) from in
          subst (λ (super : Option Name). FindsFirst headers name desc (super_list super) found) (sym none) (subst (FindsFirst headers name desc []) (sym nothing) in_no_class)
      by (Some high) some =
          let above = superclass_at headers hierarchy place header at high some in
          let up = subst (λ (next : Option Place). FoundFrom headers name desc next found) above.is from above.class above.stands.at in
          subst (λ (super : Option Name). FindsFirst headers name desc (super_list super) found) (sym some) (subst (λ (n : Name). FindsField headers n name desc found) above.stands.own_name up)

  -- nothing is found in the class at a place without its superclass
  pub searched_more : (place : Place) (header : Header) → header_at headers place ≡ Some header → FindsOrLeaves headers name desc header None → IsSearched headers class name desc (Some place) → IsSearched headers class name desc (superclass_of headers place)
  searched_more place header at leaves searched = record {
    onwards = λ found from. searched.onwards found (λ other other_at. subst (λ (h : Header). FindsField headers h.name name desc found) (same_Some header other (sym at ∙ other_at)) (leaves found (in_super place header at found from)));
    there = superclass_there headers place;
  }

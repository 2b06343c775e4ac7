-- Methods of classes that are neither private nor static, and what look-up finds of them.
use Rattle.std.proofs.Common.{◌≡◌, ℕ, cond, List, [], ◌∷◌, Option, Some, None, IsSome, is_some, IsTrue, refl, sym, ap, subst, ◌∙◌, inl, inr}
use Rattle.std.proofs.lemmas.Option.{none-some, same_Some, cond_some}
use Rattle.class_model.specs.declared.header.Header.{Header}
use Rattle.class_model.specs.declared.header.Member.{Member}
use Rattle.class_tree.specs.Headers.{Name, Headers, class_named}
use Rattle.class_tree.specs.Hierarchy.{IsHierarchy}
use Rattle.class_tree.specs.Names.{is_interface}
use Rattle.class_tree.specs.Order.{header_at, place_of}
use Rattle.class_tree.specs.Subtype.{IsBelow}
use Rattle.class_tree.specs.declared.place.Place.{Place}
use Rattle.member_link.specs.DeclaredMembers.{Declared, declared_by, declared, is_inherited}
use Rattle.member_link.specs.Defaults.{IsSuperinterfaceMethod}
use Rattle.member_link.specs.Inner.DefaultsAt.{inherited_by, inherited_of, IsSuperinterfaceAt, IsHidden}
use Rattle.member_link.specs.Found.{AreSame}
use Rattle.member_link.specs.declared.found.Found.{Found}
use Rattle.member_link.proofs.OneHas.{OneHas}
use Rattle.member_link.proofs.Superinterfaces.{IsPlacedIn, AreSuperinterfacesAt}

-- where the one found something, the other did
pub same_found : (Is : Found → Declared → Type 0) (found : Option Found) (declared : Option Declared) → AreSame Is found declared → is_some found ≡ is_some declared
same_found Is (Some found) (Some declared) same = refl
same_found Is None None same = refl
same_found Is (Some found) None same = absurd same
same_found Is None (Some declared) same = absurd same

-- A method that a class declares and that is neither private nor static.
pub record IsInherited (name desc : List ℕ) (header : Header) (method : Declared) : Type 0 where
  pub own : method.class ≡ header.name
  pub declares : declared name desc header.methods ≡ Some method.member
  pub inherited : IsTrue (is_inherited method.member)

inherited_parts : (class : Name) (member : Option Member) (method : Declared) → inherited_by class member ≡ Some method → (method.class ≡ class) × (member ≡ Some method.member) × IsTrue (is_inherited method.member)
inherited_parts class None method is = absurd (none-some method is)
inherited_parts class (Some member) method is =
    let parts = cond_some (is_inherited member) (declared_by class member) method is in (
      sym (ap (λ (d : Declared). d.class) parts.1),
      ap (λ (d : Declared). Some d.member) parts.1,
      ap (λ (d : Declared). is_inherited d.member) (sym parts.1) ∙ parts.0,
    )

pub is_inherited_of : (name desc : List ℕ) (header : Header) (method : Declared) → inherited_of name desc header ≡ Some method → IsInherited name desc header method
is_inherited_of name desc header method is =
    let parts = inherited_parts header.name (declared name desc header.methods) method is in
    record { own = parts.0; declares = parts.1; inherited = parts.2 }

pub inherited_is : (name desc : List ℕ) (header : Header) (method : Declared) → IsInherited name desc header method → inherited_of name desc header ≡ Some method
inherited_is name desc header method is =
    ap (inherited_by header.name) is.declares
    ∙ ap (λ b. cond b (Some (declared_by header.name method.member)) None) is.inherited
    ∙ ap (λ (class : Name). Some (declared_by class method.member)) (sym is.own)

pub some_inherited : (name desc : List ℕ) (header : Header) → IsSome (inherited_of name desc header) → (method : Declared) × (inherited_of name desc header ≡ Some method)
some_inherited name desc header some = by (inherited_of name desc header) refl some
  where
    by : (found : Option Declared) → inherited_of name desc header ≡ found → IsSome found → (method : Declared) × (inherited_of name desc header ≡ Some method)
    by None e some = absurd cc
    by (Some method) e some = (method, e)

-- ---- superinterfaces

-- such a method of a superinterface
pub superinterface_method : (headers : Headers) → IsHierarchy headers → (class : Name) (place : Place) (name desc : List ℕ) (header : Header) → header_at headers place ≡ Some header → IsSuperinterfaceAt headers class place → (method : Declared) → IsInherited name desc header method → IsSuperinterfaceMethod headers class name desc method
superinterface_method headers hierarchy class place name desc header at is method own =
    let same : is.header ≡ header = same_Some is.header header (sym is.at ∙ at) in
    record {
      header = header;
      found = ap (class_named headers) own.own ∙ (hierarchy.of_place place header at).found;
      interface = subst (λ (h : Header). IsTrue (is_interface h)) same is.interface;
      above = subst (IsBelow headers class) (ap (λ (h : Header). h.name) same ∙ sym own.own) is.above;
      declares = own.declares;
      inherited = own.inherited;
    }

-- A method of a superinterface, and the place of that.
pub record Placed (headers : Headers) (places : List Place) (name desc : List ℕ) (method : Declared) : Type 0 where
  pub header : Header
  pub stands : (place : Place) → place_of headers method.class ≡ Some place → header_at headers place ≡ Some header
  pub own : IsInherited name desc header method
  pub placed : IsPlacedIn headers places method.class

pub method_placed : (headers : Headers) → IsHierarchy headers → (class : Name) (places : List Place) → AreSuperinterfacesAt headers class places → (name desc : List ℕ) (method : Declared) → IsSuperinterfaceMethod headers class name desc method → Placed headers places name desc method
method_placed headers hierarchy class places are name desc method is =
    let stands = hierarchy.of_name method.class is.header is.found in
    record {
      header = is.header;
      stands = λ place there. subst (λ p. header_at headers p ≡ Some is.header) (same_Some stands.0 place (sym stands.1.is_place ∙ there)) stands.1.at;
      own = record { own = sym stands.1.own_name; declares = is.declares; inherited = is.inherited };
      placed = (are.all method.class is.header is.found is.interface).0 is.above;
    }

-- the interface at a place is below another and declares such a method
pub record HidesAt (headers : Headers) (name desc : List ℕ) (interface : Name) (place : Place) : Type 0 where
  pub header : Header
  pub at : header_at headers place ≡ Some header
  pub declares : IsSome (inherited_of name desc header)
  pub below : IsBelow headers header.name interface

any_placed : (headers : Headers) (P : Place → Type 0) (places : List Place) (name : Name) → IsPlacedIn headers places name → ((place : Place) → place_of headers name ≡ Some place → P place) → OneHas P places
any_placed headers P [] name placed holds = absurd placed
any_placed headers P (place ∷ places) name placed holds = elim placed [ inl here ↦ inl (holds place here) | inr there ↦ inr (any_placed headers P places name there holds) ]

-- what hides is one of the superinterfaces
pub hidden_by_one : (headers : Headers) → IsHierarchy headers → (class : Name) (places : List Place) → AreSuperinterfacesAt headers class places → (name desc : List ℕ) (interface : Name) → IsHidden headers class name desc interface → OneHas (HidesAt headers name desc interface) places
hidden_by_one headers hierarchy class places are name desc interface is =
    let method = method_placed headers hierarchy class places are name desc is.other is.of_superinterface in
    any_placed headers (HidesAt headers name desc interface) places is.other.class method.placed (λ place there. record {
      header = method.header;
      at = method.stands place there;
      declares = ap is_some (inherited_is name desc method.header is.other method.own);
      below = subst (λ n. IsBelow headers n interface) method.own.own is.below;
    })

pub one_hides : (headers : Headers) → IsHierarchy headers → (class : Name) (place : Place) (name desc : List ℕ) (interface : Name) → IsSuperinterfaceAt headers class place → HidesAt headers name desc interface place → IsHidden headers class name desc interface
one_hides headers hierarchy class place name desc interface superinterface hides =
    let method = some_inherited name desc hides.header hides.declares in
    let own = is_inherited_of name desc hides.header method.0 method.1 in
    record {
      other = method.0;
      of_superinterface = superinterface_method headers hierarchy class place name desc hides.header hides.at superinterface method.0 own;
      below = subst (λ n. IsBelow headers n interface) (sym own.own) hides.below;
    }

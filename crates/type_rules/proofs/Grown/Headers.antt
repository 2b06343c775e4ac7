-- Look-up in classes that have grown.
use Rattle.std.proofs.Common.{◌≡◌, ◌&&◌, ◌++◌, ℕ, Bool, true, false, cond, List, [], ◌∷◌, bytes_eq, Option, Some, None, refl, sym, ap, subst}
use Rattle.std.proofs.lemmas.List.{append-nil}
use Rattle.std.proofs.lemmas.Option.{same_Some}
use Rattle.class_model.specs.declared.header.Header.{Header}
use Rattle.class_model.specs.declared.header.Member.{Member}
use Rattle.class_tree.specs.Alike.{AreFieldsAlike, AreAllAlike, AreAlike}
use Rattle.class_tree.specs.Headers.{Name, Headers, named, class_named}
use Rattle.class_tree.specs.Laws.Alike.{alike_shape}
use Rattle.class_tree.specs.Names.{is_member}
use Rattle.member_link.specs.DeclaredMembers.{Declared, declared_by, declared}
use Rattle.member_link.specs.Fields.{interfaces_and_super, FindsFirst, in_no_class, in_class, above_class, in_other_class, absent_class}
use Rattle.type_rules.proofs.Grown.Flags.{nothing_cleared}
use Rattle.type_rules.specs.Grown.{IsOpened, AreOpened, IsGrownHeader, AreAllGrown, AreGrownHeaders, IsSameFound}

-- ---- a class is a grown one of itself

fields_itself : (fields : List Member) → AreFieldsAlike fields fields
fields_itself [] = tt
fields_itself (field ∷ fields) = (record { same_name = refl; same_desc = refl }, fields_itself fields)

opened_itself : (member : Member) → IsOpened member member
opened_itself member = record { cleared = 0; flags = sym (nothing_cleared member.flags) }

all_opened_itself : (fields : List Member) → AreOpened fields fields
all_opened_itself [] = tt
all_opened_itself (field ∷ fields) = (opened_itself field, all_opened_itself fields)

pub grown_itself : (header : Header) → IsGrownHeader header header
grown_itself header = record {
  alike = record {
    same_name = refl;
    same_flags = refl;
    same_super = refl;
    same_interfaces = refl;
    fields = fields_itself header.fields;
    added = [];
    methods = sym (append-nil header.methods);
    initialisers = tt;
  };
  opened = all_opened_itself header.fields;
  initialisers = tt;
}

all_itself : (headers : List Header) → AreAllGrown headers headers
all_itself [] = tt
all_itself (header ∷ headers) = (grown_itself header, all_itself headers)

-- ---- grown classes are alike

all_alike : (olds news : List Header) → AreAllGrown olds news → AreAllAlike olds news
all_alike [] [] grown = tt
all_alike [] (new ∷ news) grown = absurd grown
all_alike (old ∷ olds) [] grown = absurd grown
all_alike (old ∷ olds) (new ∷ news) grown = (grown.0.alike, all_alike olds news grown.1)

pub grown_alike : (old new : Headers) → AreGrownHeaders old new → AreAlike old new
grown_alike old new grown = record {
  folder = all_alike old.folder new.folder grown.folder;
  library = subst (λ library. AreAllAlike old.library library) (sym grown.library) (all_alike old.library old.library (all_itself old.library));
}

-- ---- two options

-- none of both is there, or both are and are related
pub data Both {A B : Type 0} (R : A → B → Type 0) : Option A → Option B → Type 0 where
  no_pair : Both R None None
  a_pair : (one : A) (other : B) → R one other → Both R (Some one) (Some other)

pub first_some : {A B : Type 0} {R : A → B → Type 0} {o : Option A} {p : Option B} → Both R o p → (x : A) → o ≡ Some x → (y : B) × (p ≡ Some y) × R x y
first_some no_pair x e = absurd cc
first_some {R = R} (a_pair one other r) x e = (other, refl, subst (λ z. R z other) (same_Some one x e) r)

pub first_none : {A B : Type 0} {R : A → B → Type 0} {o : Option A} {p : Option B} → Both R o p → o ≡ None → p ≡ None
first_none no_pair e = refl
first_none (a_pair one other r) e = absurd cc

pub turned : {A B : Type 0} {R : A → B → Type 0} {o : Option A} {p : Option B} → Both R o p → Both (λ y x. R x y) p o
turned no_pair = no_pair
turned (a_pair one other r) = a_pair other one r

-- ---- the class of a name

pub named_pair : (name : Name) (olds news : List Header) → AreAllGrown olds news → Both IsGrownHeader (named name olds) (named name news)
named_pair name [] [] grown = no_pair
named_pair name [] (new ∷ news) grown = absurd grown
named_pair name (old ∷ olds) [] grown = absurd grown
named_pair name (old ∷ olds) (new ∷ news) grown =
    subst (λ (n : Name). Both IsGrownHeader (cond (bytes_eq name old.name) (Some old) (named name olds)) (cond (bytes_eq name n) (Some new) (named name news)))
    (sym grown.0.alike.same_name) (by (bytes_eq name old.name) (named_pair name olds news grown.1))
  where
    by : (b : Bool) → Both IsGrownHeader (named name olds) (named name news) → Both IsGrownHeader (cond b (Some old) (named name olds)) (cond b (Some new) (named name news))
    by true rest = a_pair old new grown.0
    by false rest = rest

joined : (olds news front back : List Header) → AreAllGrown olds news → AreAllGrown front back → AreAllGrown (olds ++ front) (news ++ back)
joined [] [] front back grown more = more
joined [] (new ∷ news) front back grown more = absurd grown
joined (old ∷ olds) [] front back grown more = absurd grown
joined (old ∷ olds) (new ∷ news) front back grown more = (grown.0, joined olds news front back grown.1 more)

pub class_pair : (old new : Headers) → AreGrownHeaders old new → (name : Name) → Both IsGrownHeader (class_named old name) (class_named new name)
class_pair old new grown name =
    named_pair name (old.folder ++ old.library) (new.folder ++ new.library)
    (joined old.folder new.folder old.library new.library grown.folder
    (subst (AreAllGrown old.library) (sym grown.library) (all_itself old.library)))

-- ---- the field of a name and descriptor

-- the same but for flags
pub record IsSameField (old new : Member) : Type 0 where
  pub name : new.name ≡ old.name
  pub desc : new.desc ≡ old.desc
  pub opened : IsOpened old new

pub field_pair : (name desc : List ℕ) (olds news : List Member) → AreFieldsAlike olds news → AreOpened olds news → Both IsSameField (declared name desc olds) (declared name desc news)
field_pair name desc [] [] alike opened = no_pair
field_pair name desc [] (new ∷ news) alike opened = absurd alike
field_pair name desc (old ∷ olds) [] alike opened = absurd alike
field_pair name desc (old ∷ olds) (new ∷ news) alike opened =
    subst (λ (n : List ℕ). Both IsSameField (cond (is_member name desc old) (Some old) (declared name desc olds)) (cond (bytes_eq name n && bytes_eq desc new.desc) (Some new) (declared name desc news))) (sym alike.0.same_name)
    (subst (λ (d : List ℕ). Both IsSameField (cond (is_member name desc old) (Some old) (declared name desc olds)) (cond (bytes_eq name old.name && bytes_eq desc d) (Some new) (declared name desc news))) (sym alike.0.same_desc)
    (by (is_member name desc old) (field_pair name desc olds news alike.1 opened.1)))
  where
    by : (b : Bool) → Both IsSameField (declared name desc olds) (declared name desc news) → Both IsSameField (cond b (Some old) (declared name desc olds)) (cond b (Some new) (declared name desc news))
    by true rest = a_pair old new (record { name = alike.0.same_name; desc = alike.0.same_desc; opened = opened.0 })
    by false rest = rest

pub header_fields : (old new : Header) → IsGrownHeader old new → (name desc : List ℕ) → Both IsSameField (declared name desc old.fields) (declared name desc new.fields)
header_fields old new grown name desc = field_pair name desc old.fields new.fields grown.alike.fields grown.opened

-- ---- look-up of fields, one way

-- what the look-up of a field reads of two classes
pub record IsFieldTwin (M : Member → Member → Type 0) (one other : Header) : Type 0 where
  pub above : interfaces_and_super other ≡ interfaces_and_super one
  pub fields : (name desc : List ℕ) → Both M (declared name desc one.fields) (declared name desc other.fields)

module _ (M : Member → Member → Type 0) (one other : Headers)
    (pairs : (name : Name) → Both (IsFieldTwin M) (class_named one name) (class_named other name)) (name desc : List ℕ) where
  pub record IsTwin (found twin : Declared) : Type 0 where
    pub class : twin.class ≡ found.class
    pub member : M found.member twin.member

  abbrev Finds : List Name → Option Declared → Type 0
  Finds classes found = (twin : Option Declared) × FindsFirst other name desc classes twin × Both IsTwin found twin

  to_some : {classes : List Name} {field : Declared} → Finds classes (Some field) → (twin : Declared) × FindsFirst other name desc classes (Some twin) × IsTwin field twin
  to_some {classes} {field} finds =
      let has = first_some finds.2 field refl in
      (has.0, subst (FindsFirst other name desc classes) has.1 finds.1, has.2)

  to_none : {classes : List Name} → Finds classes None → FindsFirst other name desc classes None
  to_none {classes} finds = subst (FindsFirst other name desc classes) (first_none finds.2 refl) finds.1

  pub first_found : {classes : List Name} {found : Option Declared} → FindsFirst one name desc classes found → Finds classes found
  first_found in_no_class = (None, in_no_class, no_pair)
  first_found (in_class class classes header member is declares) =
      let twin = first_some (pairs class) header is in
      let also = first_some (twin.2.fields name desc) member declares in (
        Some (declared_by class also.0),
        in_class class classes twin.0 also.0 twin.1 also.1,
        a_pair (declared_by class member) (declared_by class also.0) (record { class = refl; member = also.2 }),
      )
  first_found (above_class class classes header field is lacks above) =
      let twin = first_some (pairs class) header is in
      let none = first_none (twin.2.fields name desc) lacks in
      let up = to_some (first_found above) in (
        Some up.0,
        above_class class classes twin.0 up.0 twin.1 none (subst (λ names. FindsFirst other name desc names (Some up.0)) (sym twin.2.above) up.1),
        a_pair field up.0 up.2,
      )
  first_found (in_other_class class classes header found is lacks above beside) =
      let twin = first_some (pairs class) header is in
      let none = first_none (twin.2.fields name desc) lacks in
      let up = to_none (first_found above) in
      let more = first_found beside in (
        more.0,
        in_other_class class classes twin.0 more.0 twin.1 none (subst (λ names. FindsFirst other name desc names None) (sym twin.2.above) up) more.1,
        more.2,
      )
  first_found (absent_class class classes found none beside) =
      let more = first_found beside in
      (more.0, absent_class class classes more.0 (first_none (pairs class) none) more.1, more.2)

-- ---- and both ways

mapped : {A B : Type 0} {R S : A → B → Type 0} → ((x : A) (y : B) → R x y → S x y) → {o : Option A} {p : Option B} → Both R o p → Both S o p
mapped to no_pair = no_pair
mapped to (a_pair one other r) = a_pair one other (to one other r)

above_same : (old new : Header) → IsGrownHeader old new → interfaces_and_super new ≡ interfaces_and_super old
above_same old new grown = ap (λ (h : Header). interfaces_and_super h) (sym (alike_shape old new grown.alike))

module _ (old new : Headers) (grown : AreGrownHeaders old new) (name desc : List ℕ) where
  pub field_after : (class : Name) (field : Declared) → FindsFirst old name desc (class ∷ []) (Some field)
      → (found : Declared) × FindsFirst new name desc (class ∷ []) (Some found) × IsSameFound field found
  field_after class field finds =
      let pairs = λ (n : Name). mapped {S = IsFieldTwin IsSameField} (λ h t g. record { above = above_same h t g; fields = header_fields h t g }) (class_pair old new grown n) in
      let twin = to_some IsSameField old new pairs name desc (first_found IsSameField old new pairs name desc finds) in
      (twin.0, twin.1, record { class = twin.2.class; name = twin.2.member.name; desc = twin.2.member.desc; opened = twin.2.member.opened })

  pub field_before : (class : Name) (found : Declared) → FindsFirst new name desc (class ∷ []) (Some found)
      → (field : Declared) × FindsFirst old name desc (class ∷ []) (Some field) × IsSameFound field found
  field_before class found finds =
      let Back : Member → Member → Type 0 = λ t f. IsSameField f t in
      let pairs = λ (n : Name). mapped {S = IsFieldTwin Back} (λ t h g. record { above = sym (above_same h t g); fields = λ a b. turned (header_fields h t g a b) }) (turned (class_pair old new grown n)) in
      let twin = to_some Back new old pairs name desc (first_found Back new old pairs name desc finds) in
      (twin.0, twin.1, record { class = sym twin.2.class; name = twin.2.member.name; desc = twin.2.member.desc; opened = twin.2.member.opened })

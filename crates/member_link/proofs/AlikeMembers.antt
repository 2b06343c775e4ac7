-- The members of classes that are alike.
use Rattle.std.proofs.Common.{◌≡◌, ◌≢◌, ◌∙◌, ◌&&◌, ◌++◌, ℕ, Bool, true, false, cond, List, [], ◌∷◌, bytes_eq, Option, Some, None, option_map, refl, sym, ap, subst}
use Rattle.std.specs.List.{AllByRecursion}
use Rattle.std.proofs.lemmas.Bool.{false_from_ne_true, and_left}
use Rattle.std.proofs.lemmas.Option.{none-some, same_Some}
use Rattle.std.proofs.lemmas.Slice.Eq.{bytes_eq-Decides}
use Rattle.class_model.specs.Names.{init}
use Rattle.class_model.specs.declared.header.Header.{Header}
use Rattle.class_model.specs.declared.header.Member.{Member}
use Rattle.class_tree.specs.Alike.{IsAlike, IsFieldAlike, AreFieldsAlike, AreAllAlike, AreAlike}
use Rattle.class_tree.specs.Headers.{Name, Headers, named, class_named}
use Rattle.class_tree.specs.Laws.Alike.{shape_of, alike_shape}
use Rattle.class_tree.specs.Names.{is_member}
use Rattle.member_link.specs.DeclaredMembers.{declared}
use Rattle.member_link.specs.Methods.{first_named}

-- the name and the descriptor of a member
pub record Signature : Type 0 where
  pub name : List ℕ
  pub desc : List ℕ

abbrev pub signature : Member → Signature
signature member = record { name = member.name; desc = member.desc }

signature_of : List ℕ → List ℕ → Signature
signature_of name desc = record { name = name; desc = desc }

-- Two classes of one shape, with fields of the same signatures, and with the same methods but for instance initialisers.
pub record IsPair (one other : Header) : Type 0 where
  pub shape : shape_of one ≡ shape_of other
  pub fields : (name desc : List ℕ) → option_map signature (declared name desc one.fields) ≡ option_map signature (declared name desc other.fields)
  pub methods : (name desc : List ℕ) → name ≢ init → declared name desc one.methods ≡ declared name desc other.methods
  pub first : (name : List ℕ) → name ≢ init → first_named name one.methods ≡ first_named name other.methods

pub pair_back : {one other : Header} → IsPair one other → IsPair other one
pair_back pair = record {
  shape = sym pair.shape;
  fields = λ name desc. sym (pair.fields name desc);
  methods = λ name desc differ. sym (pair.methods name desc differ);
  first = λ name differ. sym (pair.first name differ);
}

-- the twin of a member
pub member_twin : (one other : Option Member) → option_map signature one ≡ option_map signature other → (member : Member) → one ≡ Some member → (twin : Member) × (other ≡ Some twin) × (signature member ≡ signature twin)
member_twin one None same member is = absurd (none-some (signature member) (sym same ∙ ap (option_map signature) is))
member_twin one (Some twin) same member is = (twin, refl, same_Some (signature member) (signature twin) (sym (ap (option_map signature) is) ∙ same))

pub member_no_twin : (one other : Option Member) → option_map signature one ≡ option_map signature other → one ≡ None → other ≡ None
member_no_twin one None same none = refl
member_no_twin one (Some twin) same none = absurd (none-some (signature twin) (sym (ap (option_map signature) none) ∙ same))

-- ---- fields

same_signature : (one other : Member) → IsFieldAlike one other → signature one ≡ signature other
unfolding signature_of
same_signature one other alike = ap (λ name. signature_of name one.desc) (sym alike.same_name) ∙ ap (signature_of other.name) (sym alike.same_desc)

same_fields : (name desc : List ℕ) (ones others : List Member) → AreFieldsAlike ones others → option_map signature (declared name desc ones) ≡ option_map signature (declared name desc others)
same_fields name desc [] [] alike = refl
same_fields name desc [] (other ∷ others) alike = absurd alike
same_fields name desc (one ∷ ones) [] alike = absurd alike
same_fields name desc (one ∷ ones) (other ∷ others) alike =
    let same = same_signature one other alike.0 in
    by (is_member name desc one) (same_fields name desc ones others alike.1) ∙ ap (λ (s : Signature). option_map signature (cond (bytes_eq name s.name && bytes_eq desc s.desc) (Some other) (declared name desc others))) same
  where
    by : (b : Bool) → option_map signature (declared name desc ones) ≡ option_map signature (declared name desc others) → option_map signature (cond b (Some one) (declared name desc ones)) ≡ option_map signature (cond b (Some other) (declared name desc others))
    by true rest = ap Some (same_signature one other alike.0)
    by false rest = rest

-- ---- methods

not_named : (name : List ℕ) → name ≢ init → (method : Member) → method.name ≡ init → bytes_eq name method.name ≡ false
not_named name differ method is = false_from_ne_true (bytes_eq name method.name) (λ same. differ ((bytes_eq-Decides name method.name).0 same ∙ is))

module _ (name : List ℕ) (differ : name ≢ init) where
  none_added : (desc : List ℕ) (added : List Member) → AllByRecursion (λ method. method.name ≡ init) added → declared name desc added ≡ None
  none_added desc [] are = refl
  none_added desc (method ∷ added) are =
      ap (λ b. cond b (Some method) (declared name desc added)) (and_left (bytes_eq name method.name) (bytes_eq desc method.desc) (not_named name differ method are.0)) ∙ none_added desc added are.1

  same_methods : (desc : List ℕ) (methods added : List Member) → AllByRecursion (λ method. method.name ≡ init) added → declared name desc methods ≡ declared name desc (methods ++ added)
  same_methods desc [] added are = sym (none_added desc added are)
  same_methods desc (method ∷ methods) added are = ap (λ rest. cond (is_member name desc method) (Some method) rest) (same_methods desc methods added are)

  none_first : (added : List Member) → AllByRecursion (λ method. method.name ≡ init) added → first_named name added ≡ None
  none_first [] are = refl
  none_first (method ∷ added) are = ap (λ b. cond b (Some method) (first_named name added)) (not_named name differ method are.0) ∙ none_first added are.1

  same_first : (methods added : List Member) → AllByRecursion (λ method. method.name ≡ init) added → first_named name methods ≡ first_named name (methods ++ added)
  same_first [] added are = sym (none_first added are)
  same_first (method ∷ methods) added are = ap (λ rest. cond (bytes_eq name method.name) (Some method) rest) (same_first methods added are)

alike_pair : (one other : Header) → IsAlike one other → IsPair one other
alike_pair one other alike = record {
  shape = alike_shape one other alike;
  fields = λ name desc. same_fields name desc one.fields other.fields alike.fields;
  methods = λ name desc differ. same_methods name differ desc one.methods alike.added alike.initialisers ∙ ap (declared name desc) (sym alike.methods);
  first = λ name differ. same_first name differ one.methods alike.added alike.initialisers ∙ ap (first_named name) (sym alike.methods);
}

-- ---- the classes of a name

named_alike : (name : Name) (ones others : List Header) → AreAllAlike ones others → (one other : Header) → named name ones ≡ Some one → named name others ≡ Some other → IsAlike one other
named_alike name [] others alike one other is also = absurd (none-some one is)
named_alike name (first ∷ ones) [] alike one other is also = absurd alike
named_alike name (first ∷ ones) (second ∷ others) alike one other is also =
    by (bytes_eq name first.name) (named_alike name ones others alike.1 one other) is (ap (λ (n : Name). cond (bytes_eq name n) (Some second) (named name others)) (sym alike.0.same_name) ∙ also)
  where
    by : (b : Bool) → (named name ones ≡ Some one → named name others ≡ Some other → IsAlike one other) → cond b (Some first) (named name ones) ≡ Some one → cond b (Some second) (named name others) ≡ Some other → IsAlike one other
    by true rest is also = subst (λ h. IsAlike h other) (same_Some first one is) (subst (IsAlike first) (same_Some second other also) alike.0)
    by false rest is also = rest is also

all_alike : (ones others front back : List Header) → AreAllAlike ones others → AreAllAlike front back → AreAllAlike (ones ++ front) (others ++ back)
all_alike [] [] front back alike more = more
all_alike [] (other ∷ others) front back alike more = absurd alike
all_alike (one ∷ ones) [] front back alike more = absurd alike
all_alike (one ∷ ones) (other ∷ others) front back alike more = (alike.0, all_alike ones others front back alike.1 more)

pub alike_classes : (one other : Headers) → AreAlike one other → (name : Name) (header twin : Header) → class_named one name ≡ Some header → class_named other name ≡ Some twin → IsPair header twin
alike_classes one other alike name header twin is also =
    alike_pair header twin (named_alike name (one.folder ++ one.library) (other.folder ++ other.library) (all_alike one.folder other.folder one.library other.library alike.folder alike.library) header twin is also)

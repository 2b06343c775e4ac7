-- The numbers of the members of classes that are alike.
use Rattle.std.proofs.Common.{◌≡◌, ◌≢◌, ◌∙◌, ◌+◌, ◌&&◌, ◌++◌, ℕ, cond, List, [], ◌∷◌, bytes_eq, Option, Some, None, option_map, refl, sym, ap}
use Rattle.std.specs.List.{AllByRecursion}
use Rattle.std.proofs.lemmas.Bool.{false_from_ne_true, and_left}
use Rattle.std.proofs.lemmas.Slice.Eq.{bytes_eq-Decides}
use Rattle.class_model.specs.Names.{init}
use Rattle.class_model.specs.declared.header.Header.{Header}
use Rattle.class_model.specs.declared.header.Member.{Member}
use Rattle.class_tree.specs.Alike.{IsAlike, AreFieldsAlike}
use Rattle.class_tree.specs.Names.{is_member}
use Rattle.class_tree.specs.Order.{member_place}

abbrev first_or : List ℕ → List ℕ → Member → Option ℕ → Option ℕ
first_or name desc member rest = cond (is_member name desc member) (Some 0) (option_map (λ place. place + 1) rest)

abbrev first_by : List ℕ → List ℕ → List ℕ → List ℕ → Option ℕ → Option ℕ
first_by name desc own_name own_desc rest = cond (bytes_eq name own_name && bytes_eq desc own_desc) (Some 0) (option_map (λ place. place + 1) rest)

module _ (name desc : List ℕ) where
  pub same_field_places : (ones others : List Member) → AreFieldsAlike ones others → member_place name desc ones ≡ member_place name desc others
  same_field_places [] [] alike = refl
  same_field_places [] (other ∷ others) alike = absurd alike
  same_field_places (one ∷ ones) [] alike = absurd alike
  same_field_places (one ∷ ones) (other ∷ others) alike =
      ap (λ n. first_by name desc n one.desc (member_place name desc ones)) (sym alike.0.same_name)
      ∙ ap (λ d. first_by name desc other.name d (member_place name desc ones)) (sym alike.0.same_desc)
      ∙ ap (first_by name desc other.name other.desc) (same_field_places ones others alike.1)

  module _ (differ : name ≢ init) where
    no_place : (added : List Member) → AllByRecursion (λ method. method.name ≡ init) added → member_place name desc added ≡ None
    no_place [] are = refl
    no_place (method ∷ added) are =
        ap (λ b. cond b (Some 0) (option_map (λ place. place + 1) (member_place name desc added))) (and_left (bytes_eq name method.name) (bytes_eq desc method.desc) (false_from_ne_true (bytes_eq name method.name) (λ same. differ ((bytes_eq-Decides name method.name).0 same ∙ are.0))))
        ∙ ap (option_map (λ place. place + 1)) (no_place added are.1)

    pub same_method_places : (methods added : List Member) → AllByRecursion (λ method. method.name ≡ init) added → member_place name desc methods ≡ member_place name desc (methods ++ added)
    same_method_places [] added are = sym (no_place added are)
    same_method_places (method ∷ methods) added are = ap (first_or name desc method) (same_method_places methods added are)

pub alike_fields : (one other : Header) (name desc : List ℕ) → IsAlike one other → member_place name desc one.fields ≡ member_place name desc other.fields
alike_fields one other name desc alike = same_field_places name desc one.fields other.fields alike.fields

pub alike_methods : (one other : Header) (name desc : List ℕ) → IsAlike one other → name ≢ init → member_place name desc one.methods ≡ member_place name desc other.methods
alike_methods one other name desc alike differ = same_method_places name desc differ one.methods alike.added alike.initialisers ∙ ap (member_place name desc) (sym alike.methods)

-- The look-up of a method finds one method.
use Rattle.std.proofs.Common.{◌≡◌, ◌∙◌, ℕ, false, eqb, List, [], ◌∷◌, ◌++◌, Option, Some, None, refl, sym, ap, subst, inl, inr}
use Rattle.std.proofs.lemmas.Bool.{both_ways, eq-eqb}
use Rattle.std.proofs.lemmas.Option.{none-some, same_Some}
use Rattle.class_model.specs.Names.{init}
use Rattle.class_model.specs.declared.header.Header.{Header}
use Rattle.class_tree.specs.Headers.{Name, Headers, class_named}
use Rattle.class_tree.specs.Interfaces.{IsWalk, done, next, IsInterfaceWalk, of_root, below, each_once, AreSuperinterfaces}
use Rattle.class_tree.specs.Names.{object}
use Rattle.class_tree.specs.Subtype.{IsArray}
use Rattle.member_link.specs.DeclaredMembers.{Declared}
use Rattle.member_link.specs.Defaults.{first_inherited}
use Rattle.member_link.specs.Methods.{CountsFor, FindsInInterfaces, one_default, first_of_all, FindsInClass, nowhere, upwards, in_interfaces, IsPolymorphic, FindsMethod, initialiser, polymorphic, of_array, of_class}
use Rattle.member_link.specs.Upwards.{FirstUpwards}
use Rattle.member_link.proofs.UpwardsOnce.{upwards_once}

-- ---- walks

-- a walk that begins with an interface that is there
record WalkFrom (headers : Headers) (name : Name) (header : Header) (others walk : List Name) : Type 0 where
  own : List Name
  rest : List Name
  inner : IsWalk headers header.interfaces own
  outer : IsWalk headers others rest
  is : name ∷ (own ++ rest) ≡ walk

-- the superinterfaces of a class that is there
record WalkAbove (headers : Headers) (header : Header) (walk : List Name) : Type 0 where
  front : List Name
  inner : IsWalk headers header.interfaces front
  of_root : header.super_name ≡ None → front ≡ walk
  of_superclass : (above : Name) → header.super_name ≡ Some above → (back : List Name) × IsInterfaceWalk headers above back × (front ++ back ≡ walk)

module _ (headers : Headers) where
  walk_nowhere : {walk : List Name} → IsWalk headers [] walk → [] ≡ walk
  walk_nowhere done = refl

  walk_from : {name : Name} {others walk : List Name} → IsWalk headers (name ∷ others) walk → (header : Header) → class_named headers name ≡ Some header → WalkFrom headers name header others walk
  walk_from (next name own_header others own rest own_is inner outer) header is = record {
    own = own;
    rest = rest;
    inner = subst (λ h. IsWalk headers h.interfaces own) (same_Some own_header header (sym own_is ∙ is)) inner;
    outer = outer;
    is = refl;
  }

  walk_once : {names one other : List Name} → IsWalk headers names one → IsWalk headers names other → one ≡ other
  walk_once done also = walk_nowhere also
  walk_once (next name header others own rest is inner outer) also =
      let from = walk_from also header is in
      ap (λ (names : List Name). name ∷ (names ++ rest)) (walk_once inner from.inner) ∙ ap (λ (names : List Name). name ∷ (from.own ++ names)) (walk_once outer from.outer) ∙ from.is

  walk_above : {class : Name} {walk : List Name} → IsInterfaceWalk headers class walk → (header : Header) → class_named headers class ≡ Some header → WalkAbove headers header walk
  walk_above (of_root class own walk own_is none inner) header is =
      let same = same_Some own header (sym own_is ∙ is) in
      record {
        front = walk;
        inner = subst (λ h. IsWalk headers h.interfaces walk) same inner;
        of_root = λ none. refl;
        of_superclass = λ above some. absurd (none-some above (sym none ∙ ap (λ (h : Header). h.super_name) same ∙ some));
      }
  walk_above (below class high own front back own_is some inner outer) header is =
      let same = same_Some own header (sym own_is ∙ is) in
      record {
        front = front;
        inner = subst (λ h. IsWalk headers h.interfaces front) same inner;
        of_root = λ none. absurd (none-some high (sym none ∙ sym (ap (λ (h : Header). h.super_name) same) ∙ some));
        of_superclass = λ above also. (back, subst (λ n. IsInterfaceWalk headers n back) (same_Some high above (sym some ∙ ap (λ (h : Header). h.super_name) same ∙ also)) outer, refl);
      }

  interface_walk_once : {class : Name} {one other : List Name} → IsInterfaceWalk headers class one → IsInterfaceWalk headers class other → one ≡ other
  interface_walk_once (of_root class header walk is none inner) also =
      let above = walk_above also header is in
      walk_once inner above.inner ∙ above.of_root none
  interface_walk_once (below class high header front back is some inner outer) also =
      let above = walk_above also header is in
      let more = above.of_superclass high some in
      ap (λ (names : List Name). names ++ back) (walk_once inner above.inner) ∙ ap (λ (names : List Name). above.front ++ names) (interface_walk_once outer more.1) ∙ more.2

  pub superinterfaces_once : (class : Name) (one other : List Name) → AreSuperinterfaces headers class one → AreSuperinterfaces headers class other → one ≡ other
  superinterfaces_once class one other is also = is.once ∙ ap each_once (interface_walk_once is.walked also.walked) ∙ sym also.once

-- ---- look-up

module _ (headers : Headers) (class : Name) (name desc : List ℕ) where
  in_interfaces_once : {one other : Option Declared} → FindsInInterfaces headers class name desc one → FindsInInterfaces headers class name desc other → one ≡ other
  in_interfaces_once (one_default method default) (one_default other other_default) = ap Some (other_default.only method default.is_default)
  in_interfaces_once (one_default method default) (first_of_all names none are) = absurd (none method default)
  in_interfaces_once (first_of_all names none are) (one_default method default) = absurd (none method default)
  in_interfaces_once (first_of_all names none are) (first_of_all others also_none also) = ap (first_inherited headers name desc) (superinterfaces_once headers class names others are also)

  counts_once : (header other : Header) → class_named headers class ≡ Some header → class_named headers class ≡ Some other → {found found_other : Option Declared} → FirstUpwards headers (CountsFor header) name desc class found → FirstUpwards headers (CountsFor other) name desc class found_other → found ≡ found_other
  counts_once header other is also {found_other = found_other} up up_other =
      upwards_once headers (CountsFor header) name desc up (subst (λ h. FirstUpwards headers (CountsFor h) name desc class found_other) (same_Some other header (sym also ∙ is)) up_other)

  in_class_once : {one other : Option Declared} → FindsInClass headers class name desc one → FindsInClass headers class name desc other → one ≡ other
  in_class_once (nowhere absent) (nowhere also) = refl
  in_class_once (nowhere absent) (upwards header method is up) = absurd (none-some header (sym absent ∙ is))
  in_class_once (nowhere absent) (in_interfaces header found is none over) = absurd (none-some header (sym absent ∙ is))
  in_class_once (upwards header method is up) (nowhere absent) = absurd (none-some header (sym absent ∙ is))
  in_class_once (upwards header method is up) (upwards other method_other also up_other) = counts_once header other is also up up_other
  in_class_once (upwards header method is up) (in_interfaces other found also none over) = absurd (none-some method (sym (counts_once header other is also up none)))
  in_class_once (in_interfaces header found is none over) (nowhere absent) = absurd (none-some header (sym absent ∙ is))
  in_class_once (in_interfaces header found is none over) (upwards other method also up) = absurd (none-some method (counts_once header other is also none up))
  in_class_once (in_interfaces header found is none over) (in_interfaces other found_other also none_other over_other) = in_interfaces_once over over_other

abbrev first_byte : List ℕ → ℕ
first_byte [] = 0
first_byte (first ∷ rest) = first

apart : (one other : ℕ) → one ≡ other → eqb one other ≡ false → ⊥
apart one other same differ = both_ways (eqb one other) differ (eq-eqb one other same)

-- an instance initialiser is not found under every descriptor, and an array is not java/lang/invoke/MethodHandle
pub init_is_not_polymorphic : (headers : Headers) (class : Name) (name : List ℕ) → name ≡ init → ¬ IsPolymorphic headers class name
init_is_not_polymorphic headers class name is (same, inl invoke, there) = apart 60 105 (ap first_byte (sym is ∙ invoke)) refl
init_is_not_polymorphic headers class name is (same, inr exact, there) = apart 60 105 (ap first_byte (sym is ∙ exact)) refl

pub array_is_not_polymorphic : (headers : Headers) (class : Name) (name : List ℕ) → IsArray class → ¬ IsPolymorphic headers class name
array_is_not_polymorphic headers class name array (same, names, there) = apart 91 106 (ap first_byte (sym array.1 ∙ same)) refl

pub method_once : (headers : Headers) (class : Name) (name desc : List ℕ) (one other : Option Declared) → FindsMethod headers class name desc one → FindsMethod headers class name desc other → one ≡ other
method_once headers class name desc one other finds also = by finds also
  where
    by : {one other : Option Declared} → FindsMethod headers class name desc one → FindsMethod headers class name desc other → one ≡ other
    by (initialiser is) (initialiser also) = refl
    by (initialiser is) (polymorphic every) = absurd (init_is_not_polymorphic headers class name is every)
    by (initialiser is) (of_array found differ array over) = absurd (differ is)
    by (initialiser is) (of_class found differ single plain over) = absurd (differ is)
    by (polymorphic every) (initialiser is) = absurd (init_is_not_polymorphic headers class name is every)
    by (polymorphic every) (polymorphic also) = refl
    by (polymorphic every) (of_array found differ array over) = absurd (array_is_not_polymorphic headers class name array every)
    by (polymorphic every) (of_class found differ single plain over) = absurd (plain every)
    by (of_array found differ array over) (initialiser is) = absurd (differ is)
    by (of_array found differ array over) (polymorphic every) = absurd (array_is_not_polymorphic headers class name array every)
    by (of_array found differ array over) (of_array found_other differ_other array_other over_other) = in_class_once headers object name desc over over_other
    by (of_array found differ array over) (of_class found_other differ_other single plain over_other) = absurd (single array)
    by (of_class found differ single plain over) (initialiser is) = absurd (differ is)
    by (of_class found differ single plain over) (polymorphic every) = absurd (plain every)
    by (of_class found differ single plain over) (of_array found_other differ_other array over_other) = absurd (single array)
    by (of_class found differ single plain over) (of_class found_other differ_other single_other plain_other over_other) = in_class_once headers class name desc over over_other

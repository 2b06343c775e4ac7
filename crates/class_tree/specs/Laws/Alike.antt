-- Classes of one shape: of the same names, with the same classes above them.
use Rattle.std.proofs.Common.{◌≡◌, ◌++◌, ◌∙◌, ℕ, Bool, true, false, cond, List, [], ◌∷◌, map, bytes_eq, Option, Some, None, is_some, option_map, refl, sym, ap, subst}
use Rattle.std.proofs.lemmas.List.{map-append}
use Rattle.std.proofs.lemmas.Option.{none-some, same_Some}
use Rattle.std.specs.List.{list_any}
use Rattle.class_model.specs.declared.header.Header.{Header}
use Rattle.class_tree.specs.Alike.{IsAlike, AreAllAlike, AreAlike}
use Rattle.class_tree.specs.Headers.{Name, Headers, named, class_named, IsThere}
use Rattle.class_tree.specs.Interfaces.{IsWalk, done, next, IsInterfaceWalk, of_root, below, AreSuperinterfaces}
use Rattle.class_tree.specs.Laws.Headers.{class_there}
use Rattle.class_tree.specs.Subtype.{IsDirectlyBelow, superclass, interface, IsBelow, directly, onwards, IsSubtype, itself, below as subtype_below, of_arrays, components}

-- a class without its members
abbrev pub shape_of : Header → Header
shape_of header = record header { fields = []; methods = [] }

abbrev pub shapes : Headers → Headers
shapes headers = record { folder = map shape_of headers.folder; library = map shape_of headers.library }

-- ---- what is alike is of one shape

bare : Name → ℕ → Option Name → List Name → Header
bare name flags super interfaces = record { name = name; flags = flags; super_name = super; interfaces = interfaces; fields = []; methods = [] }

pub alike_shape : (one other : Header) → IsAlike one other → shape_of one ≡ shape_of other
unfolding bare
alike_shape one other alike =
    ap (λ name. bare name one.flags one.super_name one.interfaces) (sym alike.same_name)
    ∙ ap (λ flags. bare other.name flags one.super_name one.interfaces) (sym alike.same_flags)
    ∙ ap (λ super. bare other.name other.flags super one.interfaces) (sym alike.same_super)
    ∙ ap (bare other.name other.flags other.super_name) (sym alike.same_interfaces)

all_shapes :
    (ones others : List Header) → AreAllAlike ones others → map shape_of ones ≡ map shape_of others
all_shapes [] [] alike = refl
all_shapes [] (other ∷ others) alike = absurd alike
all_shapes (one ∷ ones) [] alike = absurd alike
all_shapes (one ∷ ones) (other ∷ others) alike =
    ap (λ h. h ∷ map shape_of ones) (alike_shape one other alike.0) ∙ ap (λ (hs : List Header). shape_of other ∷ hs) (all_shapes ones others alike.1)

folder_and_library : List Header → List Header → Headers
folder_and_library folder library = record { folder = folder; library = library }

pub alike_shapes : (one other : Headers) → AreAlike one other → shapes one ≡ shapes other
unfolding folder_and_library
alike_shapes one other alike =
    ap (λ folder. folder_and_library folder (map shape_of one.library)) (all_shapes one.folder other.folder alike.folder)
    ∙ ap (folder_and_library (map shape_of other.folder)) (all_shapes one.library other.library alike.library)

-- ---- the class of a name

named_shape :
    (name : Name) (list : List Header)
    → option_map shape_of (named name list) ≡ named name (map shape_of list)
named_shape name [] = refl
named_shape name (first ∷ list) = by (bytes_eq name first.name) (named_shape name list)
  where
    by :
        (b : Bool)
        → option_map shape_of (named name list) ≡ named name (map shape_of list)
        → option_map shape_of (cond b (Some first) (named name list))
        ≡ cond b (Some (shape_of first)) (named name (map shape_of list))
    by true rest = refl
    by false rest = rest

class_shape :
    (headers : Headers) (name : Name)
    → option_map shape_of (class_named headers name) ≡ class_named (shapes headers) name
class_shape headers name = named_shape name (headers.folder ++ headers.library) ∙ ap (named name) (map-append shape_of headers.folder headers.library)

pub option_twin :
    (one other : Option Header)
    → option_map shape_of one ≡ option_map shape_of other
    → (header : Header)
    → one ≡ Some header
    → (twin : Header) × (other ≡ Some twin) × (shape_of header ≡ shape_of twin)
option_twin one None same header is = absurd (none-some (shape_of header) (sym same ∙ ap (option_map shape_of) is))
option_twin one (Some twin) same header is = (twin, refl, same_Some (shape_of header) (shape_of twin) (sym (ap (option_map shape_of) is) ∙ same))

pub option_no_twin :
    (one other : Option Header)
    → option_map shape_of one ≡ option_map shape_of other
    → one ≡ None
    → other ≡ None
option_no_twin one None same none = refl
option_no_twin one (Some twin) same none = absurd (none-some (shape_of twin) (sym (ap (option_map shape_of) none) ∙ same))

module _ (one other : Headers) (same : shapes one ≡ shapes other) where
  pub class_same :
      (name : Name)
      → option_map shape_of (class_named one name) ≡ option_map shape_of (class_named other name)
  class_same name = class_shape one name ∙ ap (λ headers. class_named headers name) same ∙ sym (class_shape other name)

  -- the class of the same name
  pub twin :
      (name : Name) (header : Header)
      → class_named one name ≡ Some header
      → (twin : Header) × (class_named other name ≡ Some twin) × (shape_of header ≡ shape_of twin)
  twin name header is = option_twin (class_named one name) (class_named other name) (class_same name) header is

  pub no_twin : (name : Name) → class_named one name ≡ None → class_named other name ≡ None
  no_twin name none = option_no_twin (class_named one name) (class_named other name) (class_same name) none

  pub there_alike : (name : Name) → IsThere one name → IsThere other name
  there_alike name there =
      let found = class_there one name there in
      ap is_some (twin name found.0 found.1).1

  -- ---- what is above a class

  pub directly_alike :
      {low high : Name} → IsDirectlyBelow one low high → IsDirectlyBelow other low high
  directly_alike (superclass low high header is some) =
      let class = twin low header is in
      superclass low high class.0 class.1 (sym (ap (λ (h : Header). h.super_name) class.2) ∙ some)
  directly_alike (interface low high header is named) =
      let class = twin low header is in
      interface low high class.0 class.1 (sym (ap (λ (h : Header). list_any (bytes_eq high) h.interfaces) class.2) ∙ named)

  pub below_alike : {low high : Name} → IsBelow one low high → IsBelow other low high
  below_alike (directly low high step) = directly low high (directly_alike step)
  below_alike (onwards low middle high step rest) = onwards low middle high (directly_alike step) (below_alike rest)

  pub subtype_alike : {low high : Name} → IsSubtype one low high → IsSubtype other low high
  subtype_alike (itself name) = itself name
  subtype_alike (subtype_below low middle high step rest) = subtype_below low middle high (directly_alike step) (subtype_alike rest)
  subtype_alike (of_arrays low high is above) = of_arrays low high is above
  subtype_alike (components low high low_component high_component is also sub) = components low high low_component high_component is also (subtype_alike sub)

  -- ---- walks

  walk_alike : {names walk : List Name} → IsWalk one names walk → IsWalk other names walk
  walk_alike done = done
  walk_alike (next name header names own rest is inner outer) =
      let class = twin name header is in
      next name class.0 names own rest class.1 (subst (λ interfaces. IsWalk other interfaces own) (ap (λ (h : Header). h.interfaces) class.2) (walk_alike inner)) (walk_alike outer)

  pub interface_walk_alike :
      {name : Name} {walk : List Name}
      → IsInterfaceWalk one name walk
      → IsInterfaceWalk other name walk
  interface_walk_alike (of_root name header walk is none inner) =
      let class = twin name header is in
      of_root name class.0 walk class.1 (sym (ap (λ (h : Header). h.super_name) class.2) ∙ none) (subst (λ interfaces. IsWalk other interfaces walk) (ap (λ (h : Header). h.interfaces) class.2) (walk_alike inner))
  interface_walk_alike (below name above header walk rest is some inner outer) =
      let class = twin name header is in
      below name above class.0 walk rest class.1 (sym (ap (λ (h : Header). h.super_name) class.2) ∙ some) (subst (λ interfaces. IsWalk other interfaces walk) (ap (λ (h : Header). h.interfaces) class.2) (walk_alike inner)) (interface_walk_alike outer)

  pub superinterfaces_alike :
      (class : Name) (names : List Name)
      → AreSuperinterfaces one class names
      → AreSuperinterfaces other class names
  superinterfaces_alike class names are = record { walk = are.walk; walked = interface_walk_alike are.walked; once = are.once }

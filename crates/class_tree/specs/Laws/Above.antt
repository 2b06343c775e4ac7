-- The classes above a class.
use Rattle.std.proofs.Common.{◌≡◌, ◌⊎◌, ◌↔◌, List, [], ◌∷◌, ◌++◌, Option, Some, None, IfSome, IsTrue, IsFalse, is_some, refl, sym, ap, subst, ◌∙◌, inl, inr}
use Rattle.std.specs.List.{AllByRecursion}
use Rattle.std.proofs.lemmas.Bool.{false≢true, both_ways}
use Rattle.std.proofs.lemmas.List.{append-nil}
use Rattle.std.proofs.lemmas.Option.{same_Some}
use Rattle.class_model.specs.declared.header.Header.{Header}
use Rattle.class_tree.specs.Headers.{Name, Headers, class_named, IsThere}
use Rattle.class_tree.specs.Hierarchy.{IsHierarchy}
use Rattle.class_tree.specs.Interfaces.{IsWalk, done, next, IsInterfaceWalk, of_root, below}
use Rattle.class_tree.specs.Laws.Arrays.{is_array_of}
use Rattle.class_tree.specs.Laws.Headers.{class_there, same_class, own_name, super_is_there, interfaces_there}
use Rattle.class_tree.specs.Laws.Names.{IsOneName, one_name_first, each_of_names}
use Rattle.class_tree.specs.Names.{object, is_interface}
use Rattle.class_tree.specs.Order.{header_at}
use Rattle.class_tree.specs.Steps.{supers, FitsKinds}
use Rattle.class_tree.specs.Subtype.{IsArray, IsDirectlyBelow, superclass, interface, IsBelow, directly, onwards, IsSubtype, itself, below as subtype_below, of_arrays, components}
use Rattle.class_tree.specs.declared.place.Place.{Place}

-- what is above a class is above those below it
pub below_more :
    {headers : Headers} {low middle high : Name}
    → IsBelow headers low middle
    → IsBelow headers middle high
    → IsBelow headers low high
below_more (directly low middle step) rest = onwards low middle _ step rest
below_more (onwards low other middle step more) rest = onwards low other _ step (below_more more rest)

directly_named :
    {headers : Headers} {low high : Name} → IsDirectlyBelow headers low high → IsThere headers low
directly_named (superclass low high header is some) = ap is_some is
directly_named (interface low high header is one) = ap is_some is

-- what is below another is there
pub low_is_there :
    {headers : Headers} {low high : Name} → IsBelow headers low high → IsThere headers low
low_is_there (directly low high step) = directly_named step
low_is_there (onwards low middle high step rest) = directly_named step

-- the class of the name stands at the place, or is above the one that does
abbrev pub IsReached : Headers → Option Place → Name → Type 0
IsReached headers None name = ⊥
IsReached headers (Some place) name = (header : Header) × (header_at headers place ≡ Some header) × ((header.name ≡ name) ⊎ IsBelow headers header.name name)

-- The classes that each class names are there and of the right kinds, and no class is above itself.
pub record IsSound (headers : Headers) : Type 0 where
  pub above :
      (name : Name) (header : Header)
      → class_named headers name ≡ Some header
      → AllByRecursion (IsThere headers) (supers header)
  pub kinds :
      (name : Name) (header : Header)
      → class_named headers name ≡ Some header
      → FitsKinds headers header
  pub acyclic : (name : Name) → ¬ IsBelow headers name name

pub hierarchy_is_sound : (headers : Headers) → IsHierarchy headers → IsSound headers
hierarchy_is_sound headers hierarchy = record { above = hierarchy.above; kinds = hierarchy.kinds; acyclic = hierarchy.acyclic }

module _ (headers : Headers) (sound : IsSound headers) where
  pub directly_there : {low high : Name} → IsDirectlyBelow headers low high → IsThere headers high
  directly_there (superclass low high header is some) = super_is_there headers header high (sound.above low header is) some
  directly_there (interface low high header is one) = each_of_names (IsThere headers) header.interfaces (interfaces_there headers header (sound.above low header is)) high one

  pub above_is_there : {low high : Name} → IsBelow headers low high → IsThere headers high
  above_is_there (directly low high step) = directly_there step
  above_is_there (onwards low middle high step rest) = above_is_there rest

  -- ---- kinds

  pub superclass_kind :
      (low : Name) (header : Header)
      → class_named headers low ≡ Some header
      → (name : Name)
      → header.super_name ≡ Some name
      → (above : Header)
      → class_named headers name ≡ Some above
      → IsFalse (is_interface above)
  superclass_kind low header is name some above above_is =
      let at = subst (λ super. IfSome super (λ name. IfSome (class_named headers name) (λ above. IsFalse (is_interface above)))) some (sound.kinds low header is).superclass in
      subst (λ found. IfSome found (λ above. IsFalse (is_interface above))) above_is at

  pub interface_kind :
      (low : Name) (header : Header)
      → class_named headers low ≡ Some header
      → (name : Name)
      → IsOneName header.interfaces name
      → (above : Header)
      → class_named headers name ≡ Some above
      → IsTrue (is_interface above)
  interface_kind low header is name one above above_is =
      let kind = each_of_names (λ name. IfSome (class_named headers name) (λ above. IsTrue (is_interface above))) header.interfaces (sound.kinds low header is).interfaces name one in
      subst (λ found. IfSome found (λ above. IsTrue (is_interface above))) above_is kind

  -- the superclass of an interface is java/lang/Object
  pub above_interface :
      (low : Name) (header : Header)
      → class_named headers low ≡ Some header
      → IsTrue (is_interface header)
      → (class : Header)
      → class_named headers low ≡ Some class
      → (name : Name)
      → class.super_name ≡ Some name
      → name ≡ object
  above_interface low header is kind class class_is name some =
      same_Some name object (sym some ∙ ap (λ (h : Header). h.super_name) (same_class headers low class header class_is is) ∙ (sound.kinds low header is).of_interface kind)

  -- ---- java/lang/Object

  none_of_object :
      (top : Header)
      → class_named headers object ≡ Some top
      → (names : List Name)
      → top.interfaces ≡ names
      → AllByRecursion (IsThere headers) names
      → names ≡ []
  none_of_object top is [] same there = refl
  none_of_object top is (name ∷ names) same there =
      let found = class_there headers name there.0 in
      let one : IsOneName top.interfaces name = subst (λ (all : List Name). IsOneName all name) (sym same) (one_name_first name name names refl) in
      let kind = interface_kind object top is name one found.0 found.1 in
      absurd (sound.acyclic object (onwards object name object (interface object name top is one) (directly name object (superclass name object found.0 found.1 ((sound.kinds name found.0 found.1).of_interface kind)))))

  -- it names no interface
  pub no_interfaces_of_object :
      (top : Header) → class_named headers object ≡ Some top → top.interfaces ≡ []
  no_interfaces_of_object top is = none_of_object top is top.interfaces refl (interfaces_there headers top (sound.above object top is))

  -- it is upwards of each class that has a walk
  pub walked_is_rooted :
      {name : Name} {walk : List Name}
      → IsInterfaceWalk headers name walk
      → (name ≡ object) ⊎ IsBelow headers name object
  walked_is_rooted (of_root name header walk is none walked) = inl (sym (own_name headers name header is) ∙ (sound.kinds name header is).root none)
  walked_is_rooted (below name above header front rest is some walked more) =
      let step = superclass name above header is some in
      elim (walked_is_rooted more) [
        | inl top ↦ inr (directly name object (subst (IsDirectlyBelow headers name) top step))
        | inr up ↦ inr (onwards name above object step up)
      ]

  -- ---- walks

  walk_of_none : {names walk : List Name} → IsWalk headers names walk → names ≡ [] → walk ≡ []
  walk_of_none done none = refl
  walk_of_none (next name header more own rest is walked others) none = absurd cc

  walk_of_object :
      {name : Name} {walk : List Name}
      → IsInterfaceWalk headers name walk
      → name ≡ object
      → walk ≡ []
  walk_of_object (of_root name header walk is none walked) top =
      walk_of_none walked (no_interfaces_of_object header (subst (λ n. class_named headers n ≡ Some header) top is))
  walk_of_object (below name above header front rest is some walked more) top =
      let step = superclass name above header is some in
      absurd (sound.acyclic name (elim (walked_is_rooted more) [
        | inl same ↦ directly name name (subst (IsDirectlyBelow headers name) (same ∙ sym top) step)
        | inr up ↦ onwards name above name step (subst (IsBelow headers above) (sym top) up)
      ]))

  -- what is walked of an interface is walked of those that it names
  pub walk_of_interface :
      {name : Name} {walk : List Name}
      → IsInterfaceWalk headers name walk
      → (header : Header)
      → class_named headers name ≡ Some header
      → IsTrue (is_interface header)
      → IsWalk headers header.interfaces walk
  walk_of_interface (of_root name other walk other_is none walked) header is kind =
      subst (λ h. IsWalk headers h.interfaces walk) (same_class headers name other header other_is is) walked
  walk_of_interface (below name above other front rest other_is some walked more) header is kind =
      let nothing = walk_of_object more (above_interface name header is kind other other_is above some) in
      subst (IsWalk headers header.interfaces) (sym (ap (λ (l : List Name). front ++ l) nothing ∙ append-nil front))
      (subst (λ h. IsWalk headers h.interfaces front) (same_class headers name other header other_is is) walked)

  -- ---- superclasses

  module _ (rooted : (name : Name) → IsThere headers name → (name ≡ object) ⊎ IsBelow headers name object) where
    pub nothing_above_object : {high : Name} → ¬ IsBelow headers object high
    nothing_above_object {high} up = sound.acyclic object (elim (rooted high (above_is_there up)) [
      | inl same ↦ subst (IsBelow headers object) same up
      | inr more ↦ below_more up more
    ])

    pub object_no_superclass :
        (top : Header) → class_named headers object ≡ Some top → top.super_name ≡ None
    object_no_superclass top is = by top.super_name refl
      where
        by : (super : Option Name) → top.super_name ≡ super → top.super_name ≡ None
        by None none = none
        by (Some above) some = absurd (nothing_above_object (directly object above (superclass object above top is some)))

    -- no class but java/lang/Object is above an interface
    pub class_above_interface :
        {low high : Name}
        → IsBelow headers low high
        → (header above : Header)
        → class_named headers low ≡ Some header
        → IsTrue (is_interface header)
        → class_named headers high ≡ Some above
        → IsFalse (is_interface above)
        → high ≡ object
    class_above_interface (directly low high (superclass _ _ class class_is some)) header above is kind above_is above_kind = above_interface low header is kind class class_is high some
    class_above_interface (directly low high (interface _ _ class class_is one)) header above is kind above_is above_kind =
        absurd (both_ways (is_interface above) above_kind (interface_kind low class class_is high one above above_is))
    class_above_interface (onwards low middle high (superclass _ _ class class_is some) rest) header above is kind above_is above_kind =
        absurd (nothing_above_object (subst (λ name. IsBelow headers name high) (above_interface low header is kind class class_is middle some) rest))
    class_above_interface (onwards low middle high (interface _ _ class class_is one) rest) header above is kind above_is above_kind =
        let there = class_there headers middle (directly_there (interface low middle class class_is one)) in
        class_above_interface rest there.0 above there.1 (interface_kind low class class_is middle one there.0 there.1) above_is above_kind

    -- what is above a class and is no interface is its superclass or above that
    pub class_is_climbed :
        {low high : Name}
        → IsBelow headers low high
        → (header above : Header)
        → class_named headers low ≡ Some header
        → class_named headers high ≡ Some above
        → IsFalse (is_interface above)
        → (name : Name)
        × (header.super_name ≡ Some name)
        × ((name ≡ high) ⊎ IsBelow headers name high)
    class_is_climbed (directly low high (superclass _ _ class class_is some)) header above is above_is kind =
        (high, ap (λ (h : Header). h.super_name) (same_class headers low header class is class_is) ∙ some, inl refl)
    class_is_climbed (directly low high (interface _ _ class class_is one)) header above is above_is kind =
        absurd (both_ways (is_interface above) kind (interface_kind low class class_is high one above above_is))
    class_is_climbed (onwards low middle high (superclass _ _ class class_is some) rest) header above is above_is kind =
        (middle, ap (λ (h : Header). h.super_name) (same_class headers low header class is class_is) ∙ some, inr rest)
    class_is_climbed (onwards low middle high (interface _ _ class class_is one) rest) header above is above_is kind =
        let step = interface low middle class class_is one in
        let there = class_there headers middle (directly_there step) in
        let top = class_above_interface rest there.0 above there.1 (interface_kind low class class_is middle one there.0 there.1) above_is kind in
        by header.super_name refl top (onwards low middle high step rest)
      where
        by :
            (super : Option Name)
            → header.super_name ≡ super
            → high ≡ object
            → IsBelow headers low high
            → (name : Name)
            × (header.super_name ≡ Some name)
            × ((name ≡ high) ⊎ IsBelow headers name high)
        by None none top up = absurd (nothing_above_object (subst (λ name. IsBelow headers name high) (sym (own_name headers low header is) ∙ (sound.kinds low header is).root none) up))
        by (Some name) some top up =
            (name, some, subst (λ n. (name ≡ n) ⊎ IsBelow headers name n) (sym top) (rooted name (directly_there (superclass low name header is some))))

  -- ---- subtypes of a class

  module _ (no_array : (name : Name) → IsArray name → class_named headers name ≡ None) where
    pub there_is_no_array : (name : Name) → IsThere headers name → ¬ IsArray name
    there_is_no_array name there is = false≢true (sym (ap is_some (no_array name is)) ∙ there)

    pub class_is_subtype : {low high : Name} → IsBelow headers low high → IsSubtype headers low high
    class_is_subtype (directly low high step) = subtype_below low high high step (itself high)
    class_is_subtype (onwards low middle high step rest) = subtype_below low middle high step (class_is_subtype rest)

    subtype_of_class :
        {low high : Name}
        → IsSubtype headers low high
        → ¬ IsArray low
        → (low ≡ high) ⊎ IsBelow headers low high
    subtype_of_class (itself name) flat = inl refl
    subtype_of_class (subtype_below low middle high step rest) flat =
        elim (subtype_of_class rest (there_is_no_array middle (directly_there step))) [
          | inl same ↦ inr (directly low high (subst (IsDirectlyBelow headers low) same step))
          | inr up ↦ inr (onwards low middle high step up)
        ]
    subtype_of_class (of_arrays low high is above) flat = absurd (flat is)
    subtype_of_class (components low high one other is also sub) flat = absurd (flat (is_array_of is))

    pub class_decides :
        (low high : Name)
        → ¬ IsArray low
        → IsSubtype headers low high ↔ ((low ≡ high) ⊎ IsBelow headers low high)
    class_decides low high flat = (
      λ sub. subtype_of_class sub flat,
      λ up. elim up [ inl same ↦ subst (IsSubtype headers low) same (itself low) | inr above ↦ class_is_subtype above ],
    )

-- upwards of each class of a hierarchy is java/lang/Object
pub hierarchy_is_rooted :
    (headers : Headers)
    → IsHierarchy headers
    → (name : Name)
    → IsThere headers name
    → (name ≡ object) ⊎ IsBelow headers name object
hierarchy_is_rooted headers hierarchy name there =
    let class = class_there headers name there in
    walked_is_rooted headers (hierarchy_is_sound headers hierarchy) (hierarchy.walked name class.0 class.1).1

-- Quiet classes, class by class.
use Rattle.std.proofs.Common.{◌≡◌, ◌≢◌, ◌↔◌, cond, not, Bool, true, false, List, [], ◌∷◌, bytes_eq, filter, map, Option, Some, None, IsSome, IsTrue, IsFalse, IfSome, is_some, refl, sym, ap, subst, ◌∙◌, inl, inr}
use Rattle.std.specs.List.{AllByRecursion, list_any}
use Rattle.std.proofs.lemmas.Bool.{false≢true, or_right}
use Rattle.std.proofs.lemmas.Slice.Eq.{bytes_eq-Decides}
use Rattle.std.proofs.lemmas.Option.{none-some, same_Some}
use Rattle.class_model.specs.declared.header.Header.{Header}
use Rattle.class_tree.specs.Headers.{Name, Headers, named, class_named, IsThere}
use Rattle.class_tree.specs.Hierarchy.{IsHierarchy}
use Rattle.class_tree.specs.Interfaces.{AreSuperinterfaces}
use Rattle.class_tree.specs.Laws.Above.{below_more, class_above_interface, hierarchy_is_rooted, hierarchy_is_sound, nothing_above_object}
use Rattle.class_tree.specs.Laws.Headers.{class_there, interfaces_there, own_name, same_class}
use Rattle.class_tree.specs.Laws.Names.{IsOneName, one_name_first, each_of_names}
use Rattle.class_tree.specs.Layouts.{superclasses, chain}
use Rattle.class_tree.specs.Names.{is_interface, object}
use Rattle.class_tree.specs.Order.{header_at, place_of}
use Rattle.class_tree.specs.Subtype.{IsBelow, IsChain, IsDirectlyBelow, superclass, interface, directly, onwards}
use Rattle.class_tree.specs.Subtype.IsChain.{root, below}
use Rattle.class_tree.specs.declared.place.Place.{Place}
use Rattle.class_tree.specs.declared.place.Place.TheVariants.{Folder, Library}
use Rattle.expanded_code.specs.Laws.SuperChains.{chain_is, chain_of_object, of_each_class, superclasses_is, superclasses_of_root}
use Rattle.expanded_code.specs.Quiet.{IsOfFolder, IsQuiet, declares_initialiser}
use Rattle.inline_expand.proofs.FolderNames.{in_folder_at, of_folder}
use Rattle.inline_expand.specs.Inner.QuietWords.{IsInterfaceThere, IsQuietItself, IsSilent, IsSilentAt, IsSilentItself}
use Rattle.member_link.specs.Access.{IsAtOrBelow}

-- ---- silent classes

-- so is what is above
pub silent_above : {headers : Headers} {low middle : Name} → IsSilent headers low → IsBelow headers low middle → IsSilent headers middle
silent_above {headers} {low} {middle} silent up = record { each = λ high at. silent.each high (inr (by at)) }
  where
    by : {high : Name} → IsAtOrBelow headers middle high → IsBelow headers low high
    by (inl same) = subst (IsBelow headers low) same up
    by (inr more) = below_more up more

-- a class whose superclass and interfaces are
pub silent_is : (headers : Headers) (low : Name) (header : Header) → class_named headers low ≡ Some header
    → IsSilentItself headers low
    → ((above : Name) → header.super_name ≡ Some above → IsSilent headers above)
    → AllByRecursion (IsSilent headers) header.interfaces
    → IsSilent headers low
silent_is headers low header is itself super interfaces = record { each = λ high at. by high at }
  where
    step : {middle : Name} → IsDirectlyBelow headers low middle → IsSilent headers middle
    step (superclass _ middle other is_other some) =
        super middle (sym (ap (λ (h : Header). h.super_name) (same_class headers low other header is_other is)) ∙ some)
    step (interface _ middle other is_other one) =
        each_of_names (IsSilent headers) header.interfaces interfaces middle
        (sym (ap (λ (h : Header). list_any (bytes_eq middle) h.interfaces) (same_class headers low other header is_other is)) ∙ one)

    up : {high : Name} → IsBelow headers low high → IsSilentItself headers high
    up (directly _ high first) = (step first).each high (inl refl)
    up (onwards _ middle high first rest) = (step first).each high (inr rest)

    by : (high : Name) → IsAtOrBelow headers low high → IsSilentItself headers high
    by high (inl same) = subst (IsSilentItself headers) same itself
    by high (inr more) = up more

-- the interfaces of a silent class are
pub interfaces_silent : (headers : Headers) (low : Name) (header : Header) → class_named headers low ≡ Some header
    → IsSilent headers low → AllByRecursion (IsSilent headers) header.interfaces
interfaces_silent headers low header is silent = each header.interfaces (λ name one. one)
  where
    each : (names : List Name) → ((name : Name) → IsOneName names name → IsOneName header.interfaces name) → AllByRecursion (IsSilent headers) names
    each [] among = tt
    each (name ∷ names) among = (
      silent_above silent (directly low name (interface low name header is (among name (one_name_first name name names refl)))),
      each names (λ other one. among other (later name names other one)),
    ) where
      later : (name : Name) (names : List Name) (other : Name) → IsOneName names other → IsOneName (name ∷ names) other
      later name names other one = or_right _ _ one

-- ---- quiet classes

module _ (headers : Headers) (hierarchy : IsHierarchy headers) where
  -- the class of a name stands at its place
  pub stands_there : (name : Name) (header : Header) → class_named headers name ≡ Some header → (place : Place) → place_of headers name ≡ Some place
      → header_at headers place ≡ Some header
  stands_there name header is place placed =
      let stands = hierarchy.of_name name header is in
      let same : stands.0 ≡ place = same_Some stands.0 place (sym stands.1.is_place ∙ placed) in
      subst (λ (p : Place). header_at headers p ≡ Some header) same stands.1.at

  -- what a class names as its interfaces are interfaces
  pub interfaces_are : (name : Name) (header : Header) → class_named headers name ≡ Some header → AllByRecursion (IsInterfaceThere headers) header.interfaces
  interfaces_are name header is = each header.interfaces (interfaces_there headers header (hierarchy.above name header is)) (hierarchy.kinds name header is).interfaces
    where
      each : (names : List Name) → AllByRecursion (IsThere headers) names
          → AllByRecursion (λ name. IfSome (class_named headers name) (λ above. IsTrue (is_interface above))) names
          → AllByRecursion (IsInterfaceThere headers) names
      each [] there kinds = tt
      each (first ∷ names) there kinds =
          let found = class_there headers first there.0 in
          ((found.0, found.1, subst (λ (o : Option Header). IfSome o (λ above. IsTrue (is_interface above))) found.1 kinds.0), each names there.1 kinds.1)

  -- a class's superclasses are its chain
  pub chain_names : {name : Name} {names : List Name} → IsChain headers name names → superclasses headers name ≡ names
  chain_names (root name header is none) = superclasses_of_root headers hierarchy name header is none
  chain_names (below name above header names is some rest) =
      superclasses_is headers hierarchy name header is above some ∙ ap (λ (others : List Name). name ∷ others) (chain_names rest)

-- what holds of each name but java/lang/Object
pub each_but_object : (P : Name → Type 0) (names : List Name)
    → AllByRecursion (λ name. name ≢ object → P name) names ↔ AllByRecursion P (filter (λ name. not (bytes_eq name object)) names)
each_but_object P [] = (λ all. tt, λ all. tt)
each_but_object P (name ∷ names) = by (bytes_eq name object) refl (each_but_object P names)
  where
    by : (test : Bool) → bytes_eq name object ≡ test
        → (AllByRecursion (λ name. name ≢ object → P name) names ↔ AllByRecursion P (filter (λ name. not (bytes_eq name object)) names))
        → ((name ≢ object → P name) × AllByRecursion (λ name. name ≢ object → P name) names)
        ↔ AllByRecursion P (cond (not test) (name ∷ filter (λ name. not (bytes_eq name object)) names) (filter (λ name. not (bytes_eq name object)) names))
    by true same others = (λ all. others.0 all.1, λ all. (λ differ. absurd (differ ((bytes_eq-Decides name object).0 same)), others.1 all))
    by false differ others = (
      λ all. (all.0 (λ same. false≢true (sym differ ∙ (bytes_eq-Decides name object).1 same)), others.0 all.1),
      λ all. (λ _. all.0, others.1 all.1),
    )

-- What follows holds where java/lang/Object is no class of the folder.
module _ (headers : Headers) (hierarchy : IsHierarchy headers) (outside : (header : Header) → named object headers.folder ≡ Some header → ⊥) where
  object_itself : IsSilentItself headers object
  object_itself = record { none = λ header is. absurd (outside header is) }

  pub object_silent : IsSilent headers object
  object_silent = record { each = λ high at. by at }
    where
      by : {high : Name} → IsAtOrBelow headers object high → IsSilentItself headers high
      by (inl same) = subst (IsSilentItself headers) same object_itself
      by (inr up) = absurd (nothing_above_object headers (hierarchy_is_sound headers hierarchy) (hierarchy_is_rooted headers hierarchy) up)

  -- an interface is silent where it and its superinterfaces are by themselves
  pub interface_silent : (low : Name) (header : Header) → class_named headers low ≡ Some header → IsTrue (is_interface header)
      → (names : List Name) → AreSuperinterfaces headers low names
      → IsSilentItself headers low
      → AllByRecursion (IsSilentItself headers) names
      → IsSilent headers low
  interface_silent low header is kind names are itself all = record { each = λ high at. by high at }
    where
      up : (high : Name) → IsBelow headers low high → (above : Header) → named high headers.folder ≡ Some above → (test : Bool) → is_interface above ≡ test
          → IsFalse (declares_initialiser above)
      up high more above found true above_kind =
          (each_of_names (IsSilentItself headers) names all high
          ((hierarchy.superinterfaces low high above names are (of_folder headers high above found) above_kind).1 more)).none above found
      up high more above found false above_kind =
          let top : high ≡ object = class_above_interface headers (hierarchy_is_sound headers hierarchy) (hierarchy_is_rooted headers hierarchy) more header above is kind (of_folder headers high above found) above_kind in
          absurd (outside above (subst (λ (n : Name). named n headers.folder ≡ Some above) top found))

      by : (high : Name) → IsAtOrBelow headers low high → IsSilentItself headers high
      by high (inl same) = subst (IsSilentItself headers) same itself
      by high (inr more) = record { none = λ above found. up high more above found (is_interface above) refl }

  -- and only there
  pub superinterfaces_silent : (low : Name) (names : List Name) → AreSuperinterfaces headers low names
      → IsSilent headers low
      → AllByRecursion (IsSilentItself headers) names
  superinterfaces_silent low names are silent = each names (hierarchy.interfaces low names are) (λ name one. one)
    where
      later : (name : Name) (others : List Name) (other : Name) → IsOneName others other → IsOneName (name ∷ others) other
      later name others other one = or_right _ _ one

      each : (some : List Name) → AllByRecursion (λ name. (header : Header) × (class_named headers name ≡ Some header) × IsTrue (is_interface header)) some
          → ((name : Name) → IsOneName some name → IsOneName names name) → AllByRecursion (IsSilentItself headers) some
      each [] kinds among = tt
      each (name ∷ some) kinds among = (
        silent.each name (inr ((hierarchy.superinterfaces low name kinds.0.0 names are kinds.0.1 kinds.0.2).0 (among name (one_name_first name name some refl)))),
        each some kinds.1 (λ other one. among other (later name some other one)),
      )

  -- ---- quiet classes

  -- a silent class whose chain is of the folder
  record IsQuietUp (name : Name) : Type 0 where
    silent : IsSilent headers name
    above : AllByRecursion (IsOfFolder headers) (chain headers name)

  folder_class : (name : Name) → IsOfFolder headers name → (header : Header) × (named name headers.folder ≡ Some header)
  folder_class name of = by (named name headers.folder) refl of
    where
      by : (found : Option Header) → named name headers.folder ≡ found → IsSome found → (header : Header) × (named name headers.folder ≡ Some header)
      by None is some = absurd cc
      by (Some header) is some = (header, is)

  quiet_up : (name : Name) (header : Header) → class_named headers name ≡ Some header
      → AllByRecursion (IsQuietItself headers) (chain headers name)
      → IsQuietUp name
  quiet_up =
      of_each_class headers hierarchy (λ name. AllByRecursion (IsQuietItself headers) (chain headers name) → IsQuietUp name)
      (λ top is all. record { silent = object_silent; above = subst (AllByRecursion (IsOfFolder headers)) (sym (chain_of_object headers hierarchy top is)) tt })
      (λ name above header is differ some higher all.
      let chain_at = chain_is headers hierarchy name header is differ above some in
      let parts : IsQuietItself headers name × AllByRecursion (IsQuietItself headers) (chain headers above) = subst (AllByRecursion (IsQuietItself headers)) chain_at all in
      let rest = higher parts.1 in
      let found = folder_class name parts.0.of_folder in
      let same = same_class headers name found.0 header (of_folder headers name found.0 found.1) is in
      let interfaces : AllByRecursion (IsSilent headers) header.interfaces = subst (λ (h : Header). AllByRecursion (IsSilent headers) h.interfaces) same (parts.0.interfaces found.0 found.1) in
      record {
        silent = silent_is headers name header is parts.0.silent
            (λ other other_is. subst (IsSilent headers) (same_Some above other (sym some ∙ other_is)) rest.silent) interfaces;
        above = subst (AllByRecursion (IsOfFolder headers)) (sym chain_at) (parts.0.of_folder, rest.above);
      })

  quiet_down : (name : Name) (header : Header) → class_named headers name ≡ Some header
      → IsQuietUp name
      → AllByRecursion (IsQuietItself headers) (chain headers name)
  quiet_down =
      of_each_class headers hierarchy (λ name. IsQuietUp name → AllByRecursion (IsQuietItself headers) (chain headers name))
      (λ top is up. subst (AllByRecursion (IsQuietItself headers)) (sym (chain_of_object headers hierarchy top is)) tt)
      (λ name above header is differ some higher up.
      let chain_at = chain_is headers hierarchy name header is differ above some in
      let folder : IsOfFolder headers name × AllByRecursion (IsOfFolder headers) (chain headers above) = subst (AllByRecursion (IsOfFolder headers)) chain_at up.above in
      let step = directly name above (superclass name above header is some) in
      let itself : IsQuietItself headers name = record {
        of_folder = folder.0;
        silent = up.silent.each name (inl refl);
        interfaces = λ found found_is. interfaces_silent headers name found (of_folder headers name found found_is) up.silent;
      } in
      subst (AllByRecursion (IsQuietItself headers)) (sym chain_at)
      (itself, higher (record { silent = silent_above up.silent step; above = folder.1 })))

  pub quiet_is : (name : Name) (header : Header) → named name headers.folder ≡ Some header
      → IsQuiet headers name ↔ AllByRecursion (IsQuietItself headers) (chain headers name)
  quiet_is name header is = (
    λ quiet. quiet_down name header (of_folder headers name header is) (record {
      silent = record { each = λ high at. record { none = λ above found. quiet.no_initialiser high above at found } };
      above = quiet.above;
    }),
    λ all.
        let up = quiet_up name header (of_folder headers name header is) all in
        record {
          itself = ap is_some is;
          above = up.above;
          no_initialiser = λ high above at found. (up.silent.each high at).none above found;
        },
  )

  -- by its superclasses in a list
  pub quiet_by_chain : (name : Name) (header : Header) → named name headers.folder ≡ Some header
      → (names items : List Name) → IsChain headers name names → items ≡ names
      → AllByRecursion (λ other. other ≢ object → IsQuietItself headers other) items ↔ IsQuiet headers name
  quiet_by_chain name header is names items are same =
      let all : superclasses headers name ≡ items = chain_names headers hierarchy are ∙ sym same in
      let each = each_but_object (IsQuietItself headers) items in
      let quiet = quiet_is name header is in
      let family : List Name → Type 0 = λ n. AllByRecursion (IsQuietItself headers) (filter (λ (other : Name). not (bytes_eq other object)) n) in
      (λ h. quiet.1 (subst family (sym all) (each.0 h)), λ h. each.1 (subst family all (quiet.0 h)))

  -- ---- by place

  pub silent_at : (name : Name) (place : Place) → place_of headers name ≡ Some place → IsSilentAt headers place ↔ IsSilentItself headers name
  silent_at name (Folder number) is =
      let same = in_folder_at headers name (Some (Folder number)) is in
      (λ silent. record { none = λ header found. silent header (sym same ∙ found) }, λ silent header at. silent.none header (same ∙ at))
  silent_at name (Library number) is =
      let same = in_folder_at headers name (Some (Library number)) is in
      (λ silent. record { none = λ header found. absurd (none-some header (sym same ∙ found)) }, λ silent. tt)

  -- those at the places of names
  pub silent_places : (names : List Name) (places : List Place) → map (place_of headers) names ≡ map Some places
      → AllByRecursion (IsSilentAt headers) places ↔ AllByRecursion (IsSilentItself headers) names
  silent_places [] [] same = (λ all. tt, λ all. tt)
  silent_places [] (place ∷ places) same = absurd cc
  silent_places (name ∷ names) [] same = absurd cc
  silent_places (name ∷ names) (place ∷ places) same =
      let first : place_of headers name ≡ Some place = cc in
      let others : map (place_of headers) names ≡ map Some places = cc in
      let one = silent_at name place first in
      let rest = silent_places names places others in
      (λ all. (one.0 all.0, rest.0 all.1), λ all. (one.1 all.0, rest.1 all.1))

  -- what a call tells of the superinterfaces of the class at a place
  abbrev pub HasSuperinterfaces : Place → List Place → Type 0
  HasSuperinterfaces place places =
      IfSome (header_at headers place)
      (λ header. (names : List Name) × AreSuperinterfaces headers header.name names × (map (place_of headers) names ≡ map Some places))

  pub interface_places : (low : Name) (header : Header) → class_named headers low ≡ Some header → IsTrue (is_interface header)
      → (place : Place) → place_of headers low ≡ Some place
      → (places : List Place) → HasSuperinterfaces place places
      → IsSilent headers low ↔ (IsSilentAt headers place × AllByRecursion (IsSilentAt headers) places)
  interface_places low header is kind place placed places told =
      let at = stands_there headers hierarchy low header is place placed in
      let found = subst (λ (o : Option Header). IfSome o (λ header. (names : List Name) × AreSuperinterfaces headers header.name names × (map (place_of headers) names ≡ map Some places))) at told in
      let are : AreSuperinterfaces headers low found.0 = subst (λ (n : Name). AreSuperinterfaces headers n found.0) (own_name headers low header is) found.1 in
      let own = silent_at low place placed in
      let others = silent_places found.0 places found.2 in (
        λ silent. (own.1 (silent.each low (inl refl)), others.1 (superinterfaces_silent low found.0 are silent)),
        λ both. interface_silent low header is kind found.0 are (own.0 both.0) (others.0 both.1),
      )

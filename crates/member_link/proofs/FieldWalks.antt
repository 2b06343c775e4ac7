-- The field that is met first in the interfaces above an interface is the one that the look-up finds.
use Rattle.std.proofs.Common.{◌≡◌, ◌∙◌, not, cond, ℕ, List, [], ◌∷◌, ◌++◌, map, filter, bytes_eq, Option, Some, None, option_map, option_and_then, IfSome, IsTrue, refl, sym, ap, subst, inl, inr}
use Rattle.std.specs.List.{AllByRecursion}
use Rattle.std.specs.Option.{option_or}
use Rattle.std.proofs.lemmas.Bool.{cases_Bool}
use Rattle.std.proofs.lemmas.List.{append-nil}
use Rattle.std.proofs.lemmas.Option.{none-some}
use Rattle.std.proofs.lemmas.Slice.Eq.{bytes_eq-Decides}
use Rattle.class_model.specs.declared.header.Header.{Header}
use Rattle.class_model.specs.declared.header.Member.{Member}
use Rattle.class_tree.specs.Headers.{Name, Headers, class_named}
use Rattle.class_tree.specs.Hierarchy.{IsHierarchy}
use Rattle.class_tree.specs.Interfaces.{IsWalk, done, next, AreSuperinterfaces, each_once}
use Rattle.class_tree.specs.Laws.Above.{object_no_superclass, no_interfaces_of_object, walk_of_interface, hierarchy_is_sound, hierarchy_is_rooted}
use Rattle.class_tree.specs.Laws.Headers.{own_name}
use Rattle.class_tree.specs.Names.{object, is_interface}
use Rattle.class_tree.specs.Order.{header_at, place_of}
use Rattle.class_tree.specs.declared.place.Place.{Place}
use Rattle.member_link.specs.DeclaredMembers.{Declared, declared_by, declared}
use Rattle.member_link.specs.Fields.{interfaces_and_super, FindsFirst, in_no_class, in_class, above_class, in_other_class, absent_class, FindsField}
use Rattle.member_link.specs.Inner.FieldSearch.{IsInterfaceIfThere, of_last, met, first_met, super_list, FindsOrLeaves}

-- ---- the one or the other

or_assoc : {X : Type 0} (a b c : Option X) → option_or (option_or a b) c ≡ option_or a (option_or b c)
or_assoc None b c = refl
or_assoc (Some x) b c = refl

or_none : {X : Type 0} (a : Option X) → option_or a None ≡ a
or_none None = refl
or_none (Some x) = refl

neither : {X : Type 0} (a b : Option X) → option_or a b ≡ None → (a ≡ None) × (b ≡ None)
neither None b none = (refl, none)
neither (Some x) b none = absurd cc

-- ---- the interfaces of a class, and then its superclass

pub interfaces_then_super : (header : Header) → interfaces_and_super header ≡ header.interfaces ++ super_list header.super_name
interfaces_then_super header = by header.super_name
  where
    by : (super : Option Name) → interfaces_and_super (record header { super_name = super }) ≡ header.interfaces ++ super_list super
    by None = refl
    by (Some name) = refl

module _ (headers : Headers) (name desc : List ℕ) where
  -- ---- a field that is found in classes, and in others after them

  pub some_in_front : {classes : List Name} {found : Option Declared} → FindsFirst headers name desc classes found → (field : Declared) → found ≡ Some field → (rest : List Name) → FindsFirst headers name desc (classes ++ rest) found
  some_in_front in_no_class field is rest = absurd (none-some field is)
  some_in_front (in_class class classes header member there declares) field is rest = in_class class (classes ++ rest) header member there declares
  some_in_front (above_class class classes header other there lacks above) field is rest = above_class class (classes ++ rest) header other there lacks above
  some_in_front (in_other_class class classes header found there lacks above beside) field is rest = in_other_class class (classes ++ rest) header found there lacks above (some_in_front beside field is rest)
  some_in_front (absent_class class classes found absent beside) field is rest = absent_class class (classes ++ rest) found absent (some_in_front beside field is rest)

  pub none_in_front : {classes : List Name} {found : Option Declared} → FindsFirst headers name desc classes found → found ≡ None → (rest : List Name) (other : Option Declared) → FindsFirst headers name desc rest other → FindsFirst headers name desc (classes ++ rest) other
  none_in_front in_no_class none rest other more = more
  none_in_front (in_class class classes header member there declares) none rest other more = absurd (none-some _ (sym none))
  none_in_front (above_class class classes header field there lacks above) none rest other more = absurd (none-some field (sym none))
  none_in_front (in_other_class class classes header found there lacks above beside) none rest other more = in_other_class class (classes ++ rest) header other there lacks above (none_in_front beside none rest other more)
  none_in_front (absent_class class classes found absent beside) none rest other more = absent_class class (classes ++ rest) other absent (none_in_front beside none rest other more)

  -- what is found in a class that does not declare the field, and in others after it
  pub goes_on : (class : Name) (header : Header) → class_named headers class ≡ Some header → declared name desc header.fields ≡ None → (classes : List Name) (above beside : Option Declared) → FindsFirst headers name desc (interfaces_and_super header) above → FindsFirst headers name desc classes beside → FindsFirst headers name desc (class ∷ classes) (option_or above beside)
  goes_on class header is lacks classes None beside up more = in_other_class class classes header beside is lacks up more
  goes_on class header is lacks classes (Some field) beside up more = above_class class classes header field is lacks up

  -- what is found in the interfaces of a class that does not declare the field, and above it
  pub super_left : (header : Header) → class_named headers header.name ≡ Some header → declared name desc header.fields ≡ None → (field : Option Declared) → FindsFirst headers name desc header.interfaces field → FindsOrLeaves headers name desc header field
  super_left header is lacks None finds = λ found up.
      let above = subst (λ (classes : List Name). FindsFirst headers name desc classes found) (sym (interfaces_then_super header)) (none_in_front finds refl (super_list header.super_name) found up) in
      subst (FindsFirst headers name desc (header.name ∷ [])) (or_none found) (goes_on header.name header is lacks [] found None above in_no_class)
  super_left header is lacks (Some field) finds =
      above_class header.name [] header field is lacks (subst (λ (classes : List Name). FindsFirst headers name desc classes (Some field)) (sym (interfaces_then_super header)) (some_in_front finds field refl (super_list header.super_name)))

-- ---- what is met in interfaces of these names

abbrev met_in : Headers → Option Declared → List ℕ → List ℕ → Name → Option Declared
met_in headers top name desc interface = option_and_then (met top name desc) (class_named headers interface)

abbrev pub first_met_in : Headers → Option Declared → List ℕ → List ℕ → List Name → Option Declared
first_met_in headers top name desc [] = None
first_met_in headers top name desc (interface ∷ interfaces) = option_or (met_in headers top name desc interface) (first_met_in headers top name desc interfaces)

module _ (headers : Headers) (top : Option Declared) (name desc : List ℕ) where
  first_met-append : (front back : List Name) → first_met_in headers top name desc (front ++ back) ≡ option_or (first_met_in headers top name desc front) (first_met_in headers top name desc back)
  first_met-append [] back = refl
  first_met-append (first ∷ front) back = ap (option_or (met_in headers top name desc first)) (first_met-append front back) ∙ sym (or_assoc (met_in headers top name desc first) (first_met_in headers top name desc front) (first_met_in headers top name desc back))

  others_met : (first : Name) → met_in headers top name desc first ≡ None → (names : List Name) → first_met_in headers top name desc (filter (λ other. not (bytes_eq first other)) names) ≡ first_met_in headers top name desc names
  others_met first none [] = refl
  others_met first none (other ∷ names) =
      let rest = others_met first none names in
      elim (cases_Bool (bytes_eq first other)) [
        | inl same ↦
            let nothing = subst (λ n. met_in headers top name desc n ≡ None) ((bytes_eq-Decides first other).0 same) none in
            ap (λ b. first_met_in headers top name desc (cond (not b) (other ∷ filter (λ other. not (bytes_eq first other)) names) (filter (λ other. not (bytes_eq first other)) names))) same
            ∙ rest ∙ sym (ap (λ (o : Option Declared). option_or o (first_met_in headers top name desc names)) nothing)
        | inr differs ↦
            ap (λ b. first_met_in headers top name desc (cond (not b) (other ∷ filter (λ other. not (bytes_eq first other)) names) (filter (λ other. not (bytes_eq first other)) names))) differs
            ∙ ap (option_or (met_in headers top name desc other)) rest
      ]

  -- each name once is enough
  first_met-once : (names : List Name) → first_met_in headers top name desc (each_once names) ≡ first_met_in headers top name desc names
  first_met-once [] = refl
  first_met-once (first ∷ names) = by (first_met-once names) (met_in headers top name desc first) refl
    where
      by : first_met_in headers top name desc (each_once names) ≡ first_met_in headers top name desc names → (found : Option Declared) → met_in headers top name desc first ≡ found → first_met_in headers top name desc (each_once (first ∷ names)) ≡ first_met_in headers top name desc (first ∷ names)
      by rest None none = ap (option_or (met_in headers top name desc first)) (others_met first none (each_once names) ∙ rest)
      by rest (Some field) some =
          ap (λ (o : Option Declared). option_or o (first_met_in headers top name desc (filter (λ other. not (bytes_eq first other)) (each_once names)))) some
          ∙ sym (ap (λ (o : Option Declared). option_or o (first_met_in headers top name desc names)) some)

  -- the names' places are enough
  pub first_met-placed : IsHierarchy headers → (names : List Name) (places : List Place) → map (place_of headers) names ≡ map Some places → first_met headers top name desc places ≡ first_met_in headers top name desc names
  first_met-placed hierarchy [] [] same = refl
  first_met-placed hierarchy [] (place ∷ places) same = absurd cc
  first_met-placed hierarchy (first ∷ names) [] same = absurd cc
  first_met-placed hierarchy (first ∷ names) (place ∷ places) same =
      let class = hierarchy.placed first place cc in
      let here : header_at headers place ≡ class_named headers first = class.1.at ∙ sym class.1.found in
      ap (λ (o : Option Header). option_or (option_and_then (met top name desc) o) (first_met headers top name desc places)) here
      ∙ ap (option_or (met_in headers top name desc first)) (first_met-placed hierarchy names places cc)

-- ---- the field of java/lang/Object

module _ (headers : Headers) (hierarchy : IsHierarchy headers) (name desc : List ℕ) where
  pub object_finds : (header : Header) → class_named headers object ≡ Some header → FindsField headers object name desc (option_map (declared_by header.name) (declared name desc header.fields))
  object_finds header is = by (declared name desc header.fields) refl
    where
      nothing_above : interfaces_and_super header ≡ []
      nothing_above =
          interfaces_then_super header
          ∙ ap (λ (names : List Name). names ++ super_list header.super_name) (no_interfaces_of_object headers (hierarchy_is_sound headers hierarchy) header is)
          ∙ ap super_list (object_no_superclass headers (hierarchy_is_sound headers hierarchy) (hierarchy_is_rooted headers hierarchy) header is)

      by : (own : Option Member) → declared name desc header.fields ≡ own → FindsField headers object name desc (option_map (declared_by header.name) (declared name desc header.fields))
      by None lacks =
          subst (λ (o : Option Member). FindsField headers object name desc (option_map (declared_by header.name) o)) (sym lacks)
          (in_other_class object [] header None is lacks (subst (λ (names : List Name). FindsFirst headers name desc names None) (sym nothing_above) in_no_class) in_no_class)
      by (Some member) declares =
          subst (λ (o : Option Member). FindsField headers object name desc (option_map (declared_by header.name) o)) (sym declares)
          (subst (λ (n : Name). FindsField headers object name desc (Some (declared_by n member))) (sym (own_name headers object header is)) (in_class object [] header member is declares))

-- ---- what is met first is what is found

module _ (headers : Headers) (hierarchy : IsHierarchy headers) (name desc : List ℕ) (top : Option Declared) (of_object : FindsFirst headers name desc (object ∷ []) top) where
  met_here : (first : Name) (header : Header) → class_named headers first ≡ Some header → met_in headers top name desc first ≡ met top name desc header
  met_here first header is = ap (option_and_then (met top name desc)) is

  -- Where java/lang/Object declares the field, one is met in each walk of interfaces.
  none_of_top : {names walk : List Name} → IsWalk headers names walk → ¬ (names ≡ []) → first_met_in headers top name desc walk ≡ None → top ≡ None
  none_of_top done some none = absurd (some refl)
  none_of_top (next first header names own rest is walked others) some none =
      let parts = neither (met_in headers top name desc first) (first_met_in headers top name desc (own ++ rest)) none in
      let here = neither (option_map (declared_by header.name) (declared name desc header.fields)) (of_last top header.interfaces) (sym (met_here first header is) ∙ parts.0) in
      let inside = neither (first_met_in headers top name desc own) (first_met_in headers top name desc rest) (sym (first_met-append headers top name desc own rest) ∙ parts.1) in
      by header.interfaces refl here.1 (λ more. none_of_top walked more inside.0)
    where
      by : (interfaces : List Name) → header.interfaces ≡ interfaces → of_last top interfaces ≡ None → (¬ (header.interfaces ≡ []) → top ≡ None) → top ≡ None
      by [] same last above = last
      by (interface ∷ interfaces) same last above = above (λ none. absurd cc)

  -- of the interfaces that an interface names, and of java/lang/Object, its superclass
  above_interface : {interfaces own : List Name} → IsWalk headers interfaces own → FindsFirst headers name desc interfaces (first_met_in headers top name desc own) → FindsFirst headers name desc (interfaces ++ object ∷ []) (option_or (of_last top interfaces) (first_met_in headers top name desc own))
  above_interface done finds = subst (FindsFirst headers name desc (object ∷ [])) (sym (or_none top)) of_object
  above_interface (next first header names own rest is walked others) finds = by (first_met_in headers top name desc (first ∷ (own ++ rest))) refl
    where
      by : (found : Option Declared) → first_met_in headers top name desc (first ∷ (own ++ rest)) ≡ found → FindsFirst headers name desc ((first ∷ names) ++ object ∷ []) (first_met_in headers top name desc (first ∷ (own ++ rest)))
      by (Some field) some = some_in_front headers name desc finds field some (object ∷ [])
      by None none =
          let nothing = none_of_top (next first header names own rest is walked others) (λ empty. absurd cc) none in
          subst (FindsFirst headers name desc ((first ∷ names) ++ object ∷ [])) (nothing ∙ sym none) (none_in_front headers name desc finds none (object ∷ []) top of_object)

  first_finds : (first : Name) (header : Header) (names own rest : List Name) → class_named headers first ≡ Some header → IsTrue (is_interface header) → IsWalk headers header.interfaces own → FindsFirst headers name desc header.interfaces (first_met_in headers top name desc own) → FindsFirst headers name desc names (first_met_in headers top name desc rest) → FindsFirst headers name desc (first ∷ names) (first_met_in headers top name desc (first ∷ (own ++ rest)))
  first_finds first header names own rest is kind walked inside beside = by (declared name desc header.fields) refl
    where
      supers_are : header.interfaces ++ object ∷ [] ≡ interfaces_and_super header
      supers_are = sym (interfaces_then_super header ∙ ap (λ (super : Option Name). header.interfaces ++ super_list super) ((hierarchy.kinds first header is).of_interface kind))

      up : FindsFirst headers name desc (interfaces_and_super header) (option_or (of_last top header.interfaces) (first_met_in headers top name desc own))
      up = subst (λ (classes : List Name). FindsFirst headers name desc classes (option_or (of_last top header.interfaces) (first_met_in headers top name desc own))) supers_are (above_interface walked inside)

      by : (own_field : Option Member) → declared name desc header.fields ≡ own_field → FindsFirst headers name desc (first ∷ names) (first_met_in headers top name desc (first ∷ (own ++ rest)))
      by (Some member) declares =
          let here = met_here first header is ∙ ap (λ (o : Option Member). option_or (option_map (declared_by header.name) o) (of_last top header.interfaces)) declares ∙ ap (λ (n : Name). Some (declared_by n member)) (own_name headers first header is) in
          subst (FindsFirst headers name desc (first ∷ names)) (sym (ap (λ (o : Option Declared). option_or o (first_met_in headers top name desc (own ++ rest))) here)) (in_class first names header member is declares)
      by None lacks =
          let here = met_here first header is ∙ ap (λ (o : Option Member). option_or (option_map (declared_by header.name) o) (of_last top header.interfaces)) lacks in
          let whole =
          ap (λ (o : Option Declared). option_or o (first_met_in headers top name desc (own ++ rest))) here
          ∙ ap (option_or (of_last top header.interfaces)) (first_met-append headers top name desc own rest)
          ∙ sym (or_assoc (of_last top header.interfaces) (first_met_in headers top name desc own) (first_met_in headers top name desc rest)) in
          subst (FindsFirst headers name desc (first ∷ names)) (sym whole) (goes_on headers name desc first header is lacks names (option_or (of_last top header.interfaces) (first_met_in headers top name desc own)) (first_met_in headers top name desc rest) up beside)

  walk_finds : {names walk : List Name} → IsWalk headers names walk → AllByRecursion (IsInterfaceIfThere headers) names → FindsFirst headers name desc names (first_met_in headers top name desc walk)
  walk_finds done kinds = in_no_class
  walk_finds (next first header names own rest is walked others) kinds =
      let kind : IsTrue (is_interface header) = subst (λ (o : Option Header). IfSome o (λ above. IsTrue (is_interface above))) is kinds.0 in
      first_finds first header names own rest is kind walked (walk_finds walked (hierarchy.kinds first header is).interfaces) (walk_finds others kinds.1)

  -- what is met first in an interface and in its superinterfaces is found in it
  pub interface_finds : (interface : Name) (header : Header) → class_named headers interface ≡ Some header → IsTrue (is_interface header) → (names : List Name) → AreSuperinterfaces headers interface names → FindsField headers interface name desc (option_or (met top name desc header) (first_met_in headers top name desc names))
  interface_finds interface header is kind names above =
      let walked = walk_of_interface headers (hierarchy_is_sound headers hierarchy) above.walked header is kind in
      let finds = walk_finds (next interface header [] above.walk [] is walked done) (subst (λ (o : Option Header). IfSome o (λ above. IsTrue (is_interface above))) (sym is) kind, tt) in
      let whole =
      ap (λ (names : List Name). first_met_in headers top name desc (interface ∷ names)) (append-nil above.walk)
      ∙ ap (λ (o : Option Declared). option_or o (first_met_in headers top name desc above.walk)) (met_here interface header is)
      ∙ ap (option_or (met top name desc header)) (sym (ap (first_met_in headers top name desc) above.once ∙ first_met-once headers top name desc above.walk)) in
      subst (FindsFirst headers name desc (interface ∷ [])) whole finds

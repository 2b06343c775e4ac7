-- The classes that come before a class that begins: the first that is not begun, part by part.
use Rattle.std.proofs.Common.{◌≡◌, ◌-◌, ◌&&◌, ◌||◌, not, ℕ, zero, suc, Bool, true, false, List, [], ◌∷◌, ◌++◌, if◌then◌else◌, filter, map, length, slice_get, Option, Some, None, IsTrue, refl, sym, ap, ◌∙◌}
use Rattle.std.specs.List.{AllByRecursion, list_any}
use Rattle.std.specs.Option.{option_or}
use Rattle.std.proofs.lemmas.Bool.{or_right}
use Rattle.std.proofs.lemmas.List.{append-nil}
use Rattle.std.proofs.lemmas.List.Elements.{filter-append}
use Rattle.class_model.specs.declared.header.Header.{Header}
use Rattle.class_tree.specs.Headers.{Name, Classes, Headers, all_headers, class_named, headers_of}
use Rattle.class_tree.specs.Hierarchy.{IsHierarchy}
use Rattle.class_tree.specs.Interfaces.{AreSuperinterfaces}
use Rattle.class_tree.specs.Laws.Above.{below_more, hierarchy_is_sound, interface_kind}
use Rattle.class_tree.specs.Laws.Names.{IsOneName, each_of_names, one_name_first}
use Rattle.class_tree.specs.Names.{is_interface}
use Rattle.class_tree.specs.Order.{header_at, place_of}
use Rattle.class_tree.specs.Subtype.{IsBelow, directly, interface}
use Rattle.class_tree.specs.declared.place.Place.{Place}
use Rattle.class_tree.specs.declared.place.Place.TheVariants.{Folder, Library}
use Rattle.member_link.specs.Laws.FolderNumbers.{number_at}
use Rattle.member_link.specs.Machine.Beginnings.{come_first, first_unbegun, has_defaults, interfaces_up}
use Rattle.member_link.specs.Machine.Programs.{Program, folder_number, header_named, headers_in}
use Rattle.member_link.specs.Machine.Worlds.{Memory, is_begun}
use Rattle.member_link.specs.Laws.ProgramHeaders.{headers_are, number_by_place}
use Rattle.member_link.specs.TreePrograms.{IsProgram}
use Rattle.machine_run.specs.Inner.ComeFirst.{is_unbegun_at, super_names, unbegun_above, unbegun_default}

module _ (P : Program) (memory : Memory) where
  -- ---- lists one behind the other

  -- of a name, then of the others
  pub unbegun_more :
      (name : Name) (names : List Name)
      → first_unbegun P memory (name ∷ names)
      ≡ option_or (first_unbegun P memory (name ∷ [])) (first_unbegun P memory names)
  unbegun_more name names = by (folder_number P name) refl
    where
      at_number :
          (number : ℕ) (begun : Bool)
          → folder_number P name ≡ Some number
          → is_begun memory number ≡ begun
          → first_unbegun P memory (name ∷ names)
          ≡ option_or (first_unbegun P memory (name ∷ [])) (first_unbegun P memory names)
      at_number number true at is = rw (at, is) refl
      at_number number false at is = rw (at, is) refl

      by :
          (number : Option ℕ)
          → folder_number P name ≡ number
          → first_unbegun P memory (name ∷ names)
          ≡ option_or (first_unbegun P memory (name ∷ [])) (first_unbegun P memory names)
      by None at = rw at refl
      by (Some number) at = at_number number (is_begun memory number) at refl

  -- a class of the folder alone
  pub one_named :
      (name : Name) (number : ℕ) (begun : Bool)
      → folder_number P name ≡ Some number
      → is_begun memory number ≡ begun
      → first_unbegun P memory (name ∷ []) ≡ (if begun then None else Some number)
  one_named name number true at is = rw (at, is) refl
  one_named name number false at is = rw (at, is) refl

  or_grouped : (one two three : Option ℕ) → option_or one (option_or two three) ≡ option_or (option_or one two) three
  or_grouped None two three = refl
  or_grouped (Some x) two three = refl

  pub unbegun_joined :
      (names others : List Name)
      → first_unbegun P memory (names ++ others)
      ≡ option_or (first_unbegun P memory names) (first_unbegun P memory others)
  unbegun_joined [] others = refl
  unbegun_joined (name ∷ names) others =
      unbegun_more name (names ++ others)
      ∙ ap (option_or (first_unbegun P memory (name ∷ []))) (unbegun_joined names others)
      ∙ or_grouped (first_unbegun P memory (name ∷ [])) (first_unbegun P memory names) (first_unbegun P memory others)
      ∙ ap (λ (first : Option ℕ). option_or first (first_unbegun P memory others)) (sym (unbegun_more name names))

  abbrev has_default : Name → Bool
  has_default name = has_defaults (header_named P name)

  pub default_joined :
      (names others : List Name)
      → unbegun_default P memory (names ++ others)
      ≡ option_or (unbegun_default P memory names) (unbegun_default P memory others)
  default_joined names others =
      ap (first_unbegun P memory) (filter-append has_default names others)
      ∙ unbegun_joined (filter has_default names) (filter has_default others)

  -- ---- interfaces upwards

  abbrev up_of : ℕ → Name → List Name
  up_of left name = interfaces_up P (suc left) (name ∷ [])

  -- one of them is like a list of it alone
  up_more :
      (left : ℕ) (name : Name) (names : List Name)
      → interfaces_up P (suc left) (name ∷ names) ≡ up_of left name ++ interfaces_up P (suc left) names
  up_more left name names = by (header_named P name) refl
    where
      by :
          (header : Option Header)
          → header_named P name ≡ header
          → interfaces_up P (suc left) (name ∷ names) ≡ up_of left name ++ interfaces_up P (suc left) names
      by None is = rw is refl
      by (Some header) is =
          rw is
          (ap (λ (front : List Name). front ++ interfaces_up P (suc left) names)
          (sym (append-nil (interfaces_up P left header.interfaces ++ name ∷ []))))

  pub above_more :
      (left : ℕ) (name : Name) (names : List Name)
      → unbegun_above P memory (suc left) (name ∷ names)
      ≡ option_or (unbegun_above P memory (suc left) (name ∷ []))
      (unbegun_above P memory (suc left) names)
  above_more left name names =
      ap (unbegun_default P memory) (up_more left name names)
      ∙ default_joined (up_of left name) (interfaces_up P (suc left) names)

  -- those above it, and then itself
  pub above_one :
      (left : ℕ) (name : Name) (header : Header)
      → header_named P name ≡ Some header
      → unbegun_above P memory (suc left) (name ∷ [])
      ≡ option_or (unbegun_above P memory left header.interfaces)
      (unbegun_default P memory (name ∷ []))
  above_one left name header is =
      ap (unbegun_default P memory) up
      ∙ default_joined (interfaces_up P left header.interfaces) (name ∷ [])
    where
      up : up_of left name ≡ interfaces_up P left header.interfaces ++ name ∷ []
      up = rw is (append-nil (interfaces_up P left header.interfaces ++ name ∷ []))

  pub above_none :
      (left : ℕ) (name : Name)
      → header_named P name ≡ None
      → unbegun_above P memory (suc left) (name ∷ []) ≡ None
  above_none left name none = rw none refl

  -- ---- interfaces one after the other

  -- the first of those that are left has one
  pub found_here :
      (left : ℕ) (names rest more : List Name) (name : Name) (class : ℕ)
      → left ≡ suc (left - 1)
      → unbegun_above P memory left names ≡ unbegun_above P memory left rest
      → rest ≡ name ∷ more
      → Some class ≡ unbegun_above P memory (suc (left - 1)) (name ∷ [])
      → Some class ≡ unbegun_above P memory left names
  found_here left names rest more name class some so_far split found =
      sym (so_far
      ∙ ap (unbegun_above P memory left) split
      ∙ ap (λ (n : ℕ). unbegun_above P memory n (name ∷ more)) some
      ∙ above_more (left - 1) name more
      ∙ ap (λ (first : Option ℕ). option_or first (unbegun_above P memory (suc (left - 1)) more)) (sym found))

  -- or has none
  pub not_here :
      (left : ℕ) (names rest more : List Name) (name : Name)
      → left ≡ suc (left - 1)
      → unbegun_above P memory left names ≡ unbegun_above P memory left rest
      → rest ≡ name ∷ more
      → None ≡ unbegun_above P memory (suc (left - 1)) (name ∷ [])
      → unbegun_above P memory left names ≡ unbegun_above P memory left more
  not_here left names rest more name some so_far split none =
      so_far
      ∙ ap (unbegun_above P memory left) split
      ∙ ap (λ (n : ℕ). unbegun_above P memory n (name ∷ more)) some
      ∙ above_more (left - 1) name more
      ∙ ap (λ (first : Option ℕ). option_or first (unbegun_above P memory (suc (left - 1)) more)) (sym none)
      ∙ ap (λ (n : ℕ). unbegun_above P memory n more) (sym some)

  -- ---- superclass and interfaces

  pub super_then_interfaces :
      (header : Header)
      → is_interface header ≡ false
      → first_unbegun P memory (come_first P header)
      ≡ option_or (first_unbegun P memory (super_names header.super_name))
      (unbegun_above P memory (length (all_headers (headers_in P))) header.interfaces)
  super_then_interfaces header is = by header.super_name refl
    where
      by :
          (super : Option Name)
          → header.super_name ≡ super
          → first_unbegun P memory (come_first P header)
          ≡ option_or (first_unbegun P memory (super_names header.super_name))
          (unbegun_above P memory (length (all_headers (headers_in P))) header.interfaces)
      by None none = rw (is, none) refl
      by (Some name) some = rw (is, some) (unbegun_more name _)

-- ---- what is above an interface

-- the class at a place, if it is one of the folder and a test is passed
abbrev pub number_if : Bool → Place → Option ℕ
number_if true place = number_at (Some place)
number_if false place = None

each_one :
    (P : Name → Type 0) (names : List Name)
    → ((name : Name) → IsOneName names name → P name)
    → AllByRecursion P names
each_one P [] holds = tt
each_one P (first ∷ names) holds = (
  holds first (one_name_first first first names refl),
  each_one P names (λ name one. holds name (or_right _ _ one)),
)

all_weaker :
    (P Q : Name → Type 0) (names : List Name)
    → ((name : Name) → P name → Q name)
    → AllByRecursion P names
    → AllByRecursion Q names
all_weaker P Q [] weaker all = tt
all_weaker P Q (first ∷ names) weaker all = (weaker first all.0, all_weaker P Q names weaker all.1)

module _ (classes : Classes) (P : Program) (is : IsProgram classes P)
    (hierarchy : IsHierarchy (headers_of classes)) (memory : Memory) where
  abbrev H : Headers
  H = headers_of classes

  pub header_is : (name : Name) → header_named P name ≡ class_named H name
  header_is name = ap (λ (headers : Headers). class_named headers name) (headers_are classes P is)

  pub header_placed :
      (name : Name) (place : Place)
      → place_of H name ≡ Some place
      → header_named P name ≡ header_at H place
  header_placed name place at =
      let stands = hierarchy.placed name place at in
      header_is name ∙ stands.1.found ∙ sym stands.1.at

  pub from_place :
      (left : ℕ) (name : Name) (place : Place) (header : Header) (above : Option ℕ)
      → place_of H name ≡ Some place
      → header_at H place ≡ Some header
      → unbegun_above P memory left header.interfaces ≡ above
      → unbegun_above P memory (suc left) (name ∷ [])
      ≡ option_or above (unbegun_default P memory (name ∷ []))
  from_place left name place header above at is same =
      above_one P memory left name header (header_placed name place at ∙ is)
      ∙ ap (λ (first : Option ℕ). option_or first (unbegun_default P memory (name ∷ []))) same

  -- ---- one interface by its place

  in_folder :
      (name : Name) (number : ℕ) (begun default : Bool)
      → folder_number P name ≡ Some number
      → is_begun memory number ≡ begun
      → has_defaults (header_named P name) ≡ default
      → unbegun_default P memory (name ∷ []) ≡ number_if (not begun && default) (Folder number)
  in_folder name number begun false at is_begun none = rw none (by begun)
    where
      by : (begun : Bool) → None ≡ number_if (not begun && false) (Folder number)
      by true = refl
      by false = refl
  in_folder name number true true at begun some = rw some (one_named P memory name number true at begun)
  in_folder name number false true at begun some = rw some (one_named P memory name number false at begun)

  in_library :
      (name : Name) (default : Bool)
      → folder_number P name ≡ None
      → has_defaults (header_named P name) ≡ default
      → unbegun_default P memory (name ∷ []) ≡ None
  in_library name false at none = rw none refl
  in_library name true at some = rw (some, at) refl

  pub default_at :
      (name : Name) (place : Place)
      → place_of H name ≡ Some place
      → unbegun_default P memory (name ∷ []) ≡ number_if (is_unbegun_at H memory place) place
  default_at name (Folder number) at =
      in_folder name number (is_begun memory number) (has_defaults (slice_get H.folder number))
      (sym (number_by_place classes P is name (Some (Folder number)) at))
      refl
      (ap has_defaults (header_placed name (Folder number) at))
  default_at name (Library number) at =
      in_library name (has_defaults (header_named P name))
      (sym (number_by_place classes P is name (Some (Library number)) at))
      refl

  -- ---- where no superinterface is to be begun

  none_placed :
      (names : List Name) (places : List Place)
      → map (place_of H) names ≡ map Some places
      → list_any (is_unbegun_at H memory) places ≡ false
      → AllByRecursion (λ name. unbegun_default P memory (name ∷ []) ≡ None) names
  none_placed [] places same none = tt
  none_placed (name ∷ names) [] same none = absurd cc
  none_placed (name ∷ names) (place ∷ places) same none =
      let at : place_of H name ≡ Some place = cc in
      let both = or_false (is_unbegun_at H memory place) (list_any (is_unbegun_at H memory) places) none in (
        default_at name place at ∙ ap (λ (test : Bool). number_if test place) both.0,
        none_placed names places (cc) both.1,
      )
    where
      or_false : (one other : Bool) → (one || other) ≡ false → (one ≡ false) × (other ≡ false)
      or_false false false none = (refl, refl)
      or_false false true none = absurd cc
      or_false true other none = absurd cc

  -- an interface above a class
  abbrev IsUp : Name → Name → Type 0
  IsUp class name = IsBelow H class name × ((header : Header) → class_named H name ≡ Some header → IsTrue (is_interface header))

  named_up :
      (class : Name) (header : Header)
      → class_named H class ≡ Some header
      → AllByRecursion (IsUp class) header.interfaces
  named_up class header at =
      each_one (IsUp class) header.interfaces (λ name one. (
        directly class name (interface class name header at one),
        λ above above_is. interface_kind H (hierarchy_is_sound H hierarchy) class header at name one above above_is,
      ))

  module _ (class : Name) (free : (name : Name) (header : Header) → IsUp class name → class_named H name ≡ Some header → unbegun_default P memory (name ∷ []) ≡ None) where
    none_from :
        (left : ℕ)
        → ((names : List Name) → AllByRecursion (IsUp class) names → unbegun_above P memory left names ≡ None)
        → (name : Name)
        → IsUp class name
        → unbegun_above P memory (suc left) (name ∷ []) ≡ None
    none_from left none name up = by (class_named H name) refl
      where
        by :
            (header : Option Header)
            → class_named H name ≡ header
            → unbegun_above P memory (suc left) (name ∷ []) ≡ None
        by None absent = above_none P memory left name (header_is name ∙ absent)
        by (Some header) at =
            above_one P memory left name header (header_is name ∙ at)
            ∙ ap (λ (first : Option ℕ). option_or first (unbegun_default P memory (name ∷ [])))
            (none header.interfaces (all_weaker (IsUp name) (IsUp class) header.interfaces (λ other further. (below_more up.0 further.0, further.1)) (named_up name header at)))
            ∙ free name header up at

    none_of_all :
        (left : ℕ)
        → ((name : Name) → IsUp class name → unbegun_above P memory (suc left) (name ∷ []) ≡ None)
        → (names : List Name)
        → AllByRecursion (IsUp class) names
        → unbegun_above P memory (suc left) names ≡ None
    none_of_all left none [] all = refl
    none_of_all left none (name ∷ names) all =
        above_more P memory left name names
        ∙ ap (λ (first : Option ℕ). option_or first (unbegun_above P memory (suc left) names)) (none name all.0)
        ∙ none_of_all left none names all.1

    none_up :
        (left : ℕ) (names : List Name)
        → AllByRecursion (IsUp class) names
        → unbegun_above P memory left names ≡ None
    none_up zero names all = refl
    none_up (suc left) names all = none_of_all left (none_from left (none_up left)) names all

  pub none_above :
      (header : Header) (names : List Name) (places : List Place)
      → class_named H header.name ≡ Some header
      → AreSuperinterfaces H header.name names
      → map (place_of H) names ≡ map Some places
      → list_any (is_unbegun_at H memory) places ≡ false
      → (left : ℕ)
      → unbegun_above P memory left header.interfaces ≡ None
  none_above header names places at are same none left =
      none_up header.name free left header.interfaces (named_up header.name header at)
    where
      free :
          (name : Name) (found : Header)
          → IsUp header.name name
          → class_named H name ≡ Some found
          → unbegun_default P memory (name ∷ []) ≡ None
      free name found up is_found =
          each_of_names (λ name. unbegun_default P memory (name ∷ []) ≡ None) names (none_placed names places same none) name
          ((hierarchy.superinterfaces header.name name found names are is_found (up.1 found is_found)).1 up.0)

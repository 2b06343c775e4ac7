-- The numbers of superinterfaces that a class has from those that it names.
use Rattle.std.proofs.Common.{◌≡◌, ◌⊎◌, ◌+◌, ◌<◌, ◌≤◌, ◌∙◌, ℕ, Bool, List, [], ◌∷◌, ◌++◌, length, map, filter_map, get_or, set, take, drop, slice_get, Option, Some, None, IsSome, IfSome, IsTrue, is_some, unwrap_or, option_map, option_to_list, refl, sym, ap, subst, inl, inr, arith}
use Rattle.std.specs.List.{All, AllByRecursion}
use Rattle.std.proofs.lemmas.Bool.{false≢true, or_left, or_right, or_cases, eqb-true, eq-eqb, cases_eq}
use Rattle.std.proofs.lemmas.List.{append-nil, drop_more, take_more, take_all, take-append-drop, length-map, get_or-map, length-set, get_or-set_same, get_or-set_other}
use Rattle.std.proofs.lemmas.List.Elements.{All-nil, All-cons, All-head, All-tail, All-set}
use Rattle.std.proofs.lemmas.Option.{slice_get-map, slice_get_cases, slice_get_within, get_or_from_slice_get, same_Some}
use Rattle.class_model.specs.Checks.{AllHold}
use Rattle.class_model.specs.declared.header.Header.{Header}
use Rattle.class_tree.specs.Inner.Graphs.{Graph, IsOneOf, IsTopological}
use Rattle.class_tree.specs.Headers.{Name, Headers, all_headers, class_named}
use Rattle.class_tree.specs.Inner.InterfaceNumbers.{with_number, with_numbers, with_lists, AreMarks, AreLists, AreNumbersOf, AreNumberLists, IsOnce}
use Rattle.class_tree.specs.Interfaces.{each_once, IsWalk, done, next, of_root, below}
use Rattle.class_tree.specs.Laws.Above.{walk_of_interface}
use Rattle.class_tree.specs.Laws.Names.{IsOneName, one_name_first}
use Rattle.class_tree.specs.Names.{is_interface}
use Rattle.class_tree.specs.Inner.Nodes.{number_of, graph_of, place_at, AreInterfaceLists}
use Rattle.class_tree.specs.Steps.{supers, hierarchy_checks}
use Rattle.class_tree.specs.Subtype.{IsBelow}
use Rattle.class_tree.specs.Trees.{IsInOrder}
use Rattle.class_tree.specs.declared.place.Place.{Place}
use Rattle.class_tree.proofs.ClassHolds.{ClassHolds, class_holds, is_sound}
use Rattle.class_tree.proofs.EachOnce.{joined_same, once_numbered, names_placed}
use Rattle.class_tree.proofs.NewNumbers.{with_numbers-append, as_made, all_with_numbers, made_once, made_behind}
use Rattle.class_tree.proofs.OneOf.{one_at, one_of_parts, one_of_single}
use Rattle.class_tree.proofs.Places.{class_of_number, number_of_itself}
use Rattle.class_tree.proofs.SuperNumbers.{have_numbers}
use Rattle.class_tree.proofs.HierarchyChecks.{as_many_nodes}
use Rattle.class_tree.proofs.WalkedNames.{walked_is_above}

-- ---- names and their numbers

all_below : (headers : Headers) (names : List Name) (numbers : List ℕ) → map (number_of headers) names ≡ map Some numbers → All (λ number. number < length (all_headers headers)) numbers
all_below headers names [] same = All-nil (λ number. number < length (all_headers headers))
all_below headers [] (number ∷ numbers) same = absurd cc
all_below headers (name ∷ names) (number ∷ numbers) same =
    All-cons (λ one. one < length (all_headers headers)) number numbers (class_of_number headers name number cc).1.within (all_below headers names numbers cc)

-- the numbers of superinterfaces are of classes
pub numbers_below : (headers : Headers) (class : Name) (numbers : List ℕ) → AreNumbersOf headers class numbers → All (λ number. number < length (all_headers headers)) numbers
numbers_below headers class numbers are =
    let P = λ (number : ℕ). number < length (all_headers headers) in
    subst (All P) (sym are.once) (all_with_numbers P [] are.met (All-nil P) (all_below headers are.walk are.met are.same))

joined_made : (a b m k : List ℕ) → ((list : List ℕ) → with_numbers list a ≡ with_numbers list m) → ((list : List ℕ) → with_numbers list b ≡ with_numbers list k) → (list : List ℕ) → with_numbers list (a ++ b) ≡ with_numbers list (m ++ k)
joined_made a b m k front back list =
    with_numbers-append list a b ∙ ap (λ l. with_numbers l b) (front list) ∙ back (with_numbers list m) ∙ sym (with_numbers-append list m k)

-- ---- walks

-- the class of a number has its list
pub record IsListed (headers : Headers) (lists : List (List ℕ)) (number : ℕ) : Type 0 where
  pub are : (header : Header) → slice_get (all_headers headers) number ≡ Some header → AreNumbersOf headers header.name (get_or lists number [])

-- what is walked of these interfaces, and numbers that stand for it
record Walked (headers : Headers) (names : List Name) (numbers : List ℕ) : Type 0 where
  walk : List Name
  walked : IsWalk headers names walk
  met : List ℕ
  same : map (number_of headers) walk ≡ map Some met
  made : (list : List ℕ) → with_numbers list numbers ≡ with_numbers list met

own_made : (headers : Headers) (class : Name) (numbers : List ℕ) (are : AreNumbersOf headers class numbers) (list : List ℕ) → with_numbers list numbers ≡ with_numbers list are.met
own_made headers class numbers are list = ap (with_numbers list) are.once ∙ as_made list are.met

listed_name : (headers : Headers) (lists : List (List ℕ)) (name : Name) (number : ℕ) → number_of headers name ≡ Some number → IsListed headers lists number → AreNumbersOf headers name (get_or lists number [])
listed_name headers lists name number is listed =
    let class = class_of_number headers name number is in
    subst (λ n. AreNumbersOf headers n (get_or lists number [])) class.1.same (listed.are class.0 class.1.there)

module _ (headers : Headers) (hold : AllHold (hierarchy_checks headers)) (lists : List (List ℕ)) where
  walk_names : (names : List Name) (numbers : List ℕ) → map (number_of headers) names ≡ map Some numbers → AllByRecursion (λ name. IfSome (class_named headers name) (λ above. IsTrue (is_interface above))) names → ((number : ℕ) → IsOneOf numbers number → IsListed headers lists number) → Walked headers names (with_lists lists numbers)
  walk_names [] [] same kinds listed = record { walk = []; walked = done; met = []; same = refl; made = λ list. refl }
  walk_names [] (number ∷ numbers) same kinds listed = absurd cc
  walk_names (name ∷ names) [] same kinds listed = absurd cc
  walk_names (name ∷ names) (number ∷ numbers) same kinds listed =
      let is : number_of headers name ≡ Some number = cc in
      let class = class_of_number headers name number is in
      let kind : IsTrue (is_interface class.0) = rw class.1.named at kinds.0 in
      let own = listed_name headers lists name number is (listed number (or_left _ _ (eq-eqb number number refl))) in
      let rest = walk_names names numbers (cc) kinds.1 (λ other one. listed other (or_right _ _ one)) in
      record {
        walk = name ∷ (own.walk ++ rest.walk);
        walked = next name class.0 names own.walk rest.walk class.1.named (walk_of_interface headers (is_sound headers hold) own.walked class.0 class.1.named kind) rest.walked;
        met = number ∷ (own.met ++ rest.met);
        same = let more = joined_same (number_of headers) own.walk rest.walk own.met rest.met own.same rest.same in cc;
        made = λ list. joined_made (get_or lists number []) (with_lists lists numbers) own.met rest.met (own_made headers name (get_or lists number []) own) rest.made (with_number list number);
      }

  -- a class has the numbers that the lists of those that it names give it
  pub class_numbers : IsInOrder headers → (number : ℕ) (header : Header) → slice_get (all_headers headers) number ≡ Some header → (superclass : Option ℕ) (interfaces : List ℕ) → filter_map (number_of headers) (supers header) ≡ option_to_list superclass ++ interfaces → is_some superclass ≡ is_some header.super_name → ((one : ℕ) → IsOneOf (filter_map (number_of headers) (supers header)) one → IsListed headers lists one) → AreNumbersOf headers header.name (with_numbers [] (with_lists lists interfaces ++ unwrap_or (option_map (λ one. get_or lists one []) superclass) []))
  class_numbers in_order number header there superclass interfaces parts alike listed =
      by header.super_name refl superclass alike (have_numbers headers (supers header) holds.there ∙ ap (map Some) parts) (λ one is. listed one (subst (λ numbers. IsOneOf numbers one) (sym parts) is))
    where
      holds : ClassHolds headers header
      holds = class_holds headers hold number header there

      named : class_named headers header.name ≡ Some header
      named = (number_of_itself headers in_order number header there).named

      by : (super : Option Name) → header.super_name ≡ super → (superclass : Option ℕ) → is_some superclass ≡ is_some super → map (number_of headers) (supers (record header { super_name = super })) ≡ map Some (option_to_list superclass ++ interfaces) → ((one : ℕ) → IsOneOf (option_to_list superclass ++ interfaces) one → IsListed headers lists one) → AreNumbersOf headers header.name (with_numbers [] (with_lists lists interfaces ++ unwrap_or (option_map (λ one. get_or lists one []) superclass) []))
      by None none None alike same listed =
          let own = walk_names header.interfaces interfaces same holds.kinds.interfaces listed in
          record {
            walk = own.walk;
            walked = of_root header.name header own.walk named none own.walked;
            met = own.met;
            same = own.same;
            once = ap (with_numbers []) (append-nil (with_lists lists interfaces)) ∙ own.made [];
          }
      by None none (Some one) alike same listed = absurd cc
      by (Some above) some None alike same listed = absurd cc
      by (Some above) some (Some one) alike same listed =
          let own = walk_names header.interfaces interfaces (cc) holds.kinds.interfaces (λ other is. listed other (or_right _ _ is)) in
          let rest = listed_name headers lists above one (cc) (listed one (or_left _ _ (eq-eqb one one refl))) in
          record {
            walk = own.walk ++ rest.walk;
            walked = below header.name above header own.walk rest.walk named some own.walked rest.walked;
            met = own.met ++ rest.met;
            same = joined_same (number_of headers) own.walk rest.walk own.met rest.met own.same rest.same;
            once = joined_made (with_lists lists interfaces) (get_or lists one []) own.met rest.met own.made (own_made headers above (get_or lists one []) rest) [];
          }

-- ---- class after class

-- the classes of the first numbers of the order have their lists, and no number is marked
pub record Made (headers : Headers) (order : List ℕ) (at : ℕ) (lists : List (List ℕ)) (marks : List Bool) : Type 0 where
  pub count : length marks ≡ length (all_headers headers)
  pub fit : AreLists (length marks) lists
  pub clear : AreMarks marks []
  pub listed : (number : ℕ) → IsOneOf (take at order) number → IsListed headers lists number

listed_more : (headers : Headers) (lists : List (List ℕ)) (number other : ℕ) (list : List ℕ) → number < length lists → ((header : Header) → slice_get (all_headers headers) number ≡ Some header → AreNumbersOf headers header.name list) → IsListed headers lists other ⊎ (number ≡ other) → IsListed headers (set lists number list) other
listed_more headers lists number other list within are listed = elim (cases_eq other number) [
  | inl same ↦ record { are = λ header there. subst (AreNumbersOf headers header.name) (sym (get_or-set_same lists number list [] within) ∙ ap (λ n. get_or (set lists number list) n []) (sym same)) (are header (subst (λ n. slice_get (all_headers headers) n ≡ Some header) same there)) }
  | inr differs ↦ elim listed [
    | inl before ↦ record { are = λ header there. subst (AreNumbersOf headers header.name) (sym (get_or-set_other lists number other list [] differs)) (before.are header there) }
    | inr same ↦ absurd (differs (sym same))
  ]
]

-- one class more
pub one_made : (headers : Headers) (order : List ℕ) (at : ℕ) (lists : List (List ℕ)) (marks : List Bool) → Made headers order at lists marks → at < length order → (header : Header) → slice_get (all_headers headers) (get_or order at 0) ≡ Some header → (list : List ℕ) → AreNumbersOf headers header.name list → (cleared : List Bool) → length cleared ≡ length marks → AreMarks cleared [] → Made headers order (at + 1) (set lists (get_or order at 0) list) cleared
one_made headers order at lists marks made before header there list are cleared same clear =
    let number = get_or order at 0 in
    let within : number < length lists = omega (arith, slice_get_within (all_headers headers) number header there, made.count, made.fit.len) in
    let below = subst (λ count. All (λ one. one < count) list) (sym (same ∙ made.count)) (numbers_below headers header.name list are) in
    let lists_below = subst (λ count. All (All (λ one. one < count)) lists) (sym same) made.fit.within in
    record {
      count = same ∙ made.count;
      fit = record {
        len = length-set lists number list ∙ made.fit.len ∙ sym same;
        within = All-set (All (λ one. one < length cleared)) lists number list below lists_below;
      };
      clear = clear;
      listed = λ other one.
          listed_more headers lists number other list within
          (λ found is_there. let alike : header ≡ found = cc in subst (λ (h : Header). AreNumbersOf headers h.name list) alike are)
          (elim (one_of_parts (take at order) (number ∷ []) other (subst (λ front. IsOneOf front other) (take_more order at 0 before) one)) [
            | inl earlier ↦ inl (made.listed other earlier)
            | inr here ↦ inr (one_of_single number other here)
          ]);
    }

-- all classes
pub all_made : (headers : Headers) (order : List ℕ) (at : ℕ) (lists : List (List ℕ)) (marks : List Bool) → Made headers order at lists marks → length order ≤ at → ((node : ℕ) → node < length (all_headers headers) → IsOneOf order node) → AreNumberLists headers lists
all_made headers order at lists marks made past all = record {
  len = made.fit.len ∙ made.count;
  each = λ number header there. (made.listed number (subst (λ l. IsOneOf l number) (sym (take_all at order past)) (all number (slice_get_within (all_headers headers) number header there)))).are header there;
}

-- ---- the next class

targets : Headers → Header → List ℕ
targets headers header = filter_map (number_of headers) (supers header)

graph_at : (headers : Headers) (number : ℕ) (header : Header) → slice_get (all_headers headers) number ≡ Some header → slice_get (graph_of headers) number ≡ Some (targets headers header)
unfolding targets
graph_at headers number header there = slice_get-map (targets headers) (all_headers headers) number ∙ ap (option_map (targets headers)) there

module _ (headers : Headers) (hold : AllHold (hierarchy_checks headers)) (graph : Graph) (same : graph ≡ graph_of headers) where
  -- the classes at the end of the edges
  pub targets_are : (number : ℕ) (header : Header) → slice_get (all_headers headers) number ≡ Some header → (read : List ℕ) → slice_get graph number ≡ Some read → read ≡ filter_map (number_of headers) (supers header)
  unfolding targets
  targets_are number header there read is =
      same_Some read (targets headers header) (sym is ∙ ap (λ g. slice_get g number) same ∙ graph_at headers number header there)

  numbered : (number : ℕ) (header : Header) → slice_get (all_headers headers) number ≡ Some header → map (number_of headers) (supers header) ≡ map Some (filter_map (number_of headers) (supers header))
  numbered number header there = have_numbers headers (supers header) (class_holds headers hold number header there).there

  -- a superclass is one of them
  pub some_target : (number : ℕ) (header : Header) → slice_get (all_headers headers) number ≡ Some header → IsSome header.super_name → 0 < length (filter_map (number_of headers) (supers header))
  some_target number header there some = by header.super_name some (numbered number header there)
    where
      by : (super : Option Name) → IsSome super → map (number_of headers) (supers (record header { super_name = super })) ≡ map Some (filter_map (number_of headers) (supers header)) → 0 < length (filter_map (number_of headers) (supers header))
      by None some alike = absurd cc
      by (Some above) some alike =
          let numbers = filter_map (number_of headers) (supers header) in
          omega (arith, ap length alike, length-map numbers Some)

  -- each is below their number
  pub targets_below : (number : ℕ) (header : Header) → slice_get (all_headers headers) number ≡ Some header → All (λ one. one < length (all_headers headers)) (filter_map (number_of headers) (supers header))
  targets_below number header there = all_below headers (supers header) (filter_map (number_of headers) (supers header)) (numbered number header there)

  module _ (order : List ℕ) (topological : IsTopological graph order) (at : ℕ) (before : at < length order) where
    -- the next number is of a class
    pub next_below : get_or order at 0 < length (all_headers headers)
    next_below = omega (arith, topological.nodes (get_or order at 0) (one_at order at before), ap length same, as_many_nodes headers)

    -- those that the next class names have their lists
    pub targets_listed : (lists : List (List ℕ)) (marks : List Bool) → Made headers order at lists marks → (header : Header) → slice_get (all_headers headers) (get_or order at 0) ≡ Some header → (one : ℕ) → IsOneOf (filter_map (number_of headers) (supers header)) one → IsListed headers lists one
    unfolding targets
    targets_listed lists marks made header there one target =
        let number = get_or order at 0 in
        let split : order ≡ take at order ++ number ∷ drop (at + 1) order = sym (take-append-drop at order) ∙ ap (λ (l : List ℕ). take at order ++ l) (drop_more order at 0 before) in
        made.listed one (topological.behind (take at order) (drop (at + 1) order) number one split (record {
          targets = targets headers header;
          there = ap (λ g. slice_get g number) same ∙ graph_at headers number header there;
          target = target;
        }))

-- the parts of those that a class names
pub superclass_within : (P : ℕ → Type 0) (superclass : Option ℕ) (interfaces : List ℕ) → All P (option_to_list superclass ++ interfaces) → IfSome superclass P
superclass_within P None interfaces all = tt
superclass_within P (Some number) interfaces all = All-head P number interfaces all

pub interfaces_within : (P : ℕ → Type 0) (superclass : Option ℕ) (interfaces : List ℕ) → All P (option_to_list superclass ++ interfaces) → All P interfaces
interfaces_within P None interfaces all = all
interfaces_within P (Some number) interfaces all = All-tail P number interfaces all

interface_listed : (P : ℕ → Type 0) (superclass : Option ℕ) (interfaces : List ℕ) → ((one : ℕ) → IsOneOf (option_to_list superclass ++ interfaces) one → P one) → (one : ℕ) → IsOneOf interfaces one → P one
interface_listed P None interfaces listed one is = listed one is
interface_listed P (Some number) interfaces listed one is = listed one (or_right _ _ is)

-- ---- lists that have each number once

-- a number that was met is that of a name that was walked
number_walked : (headers : Headers) (walk : List Name) (met : List ℕ) → map (number_of headers) walk ≡ map Some met → (number : ℕ) → IsOneOf met number → (name : Name) × IsOneName walk name × (number_of headers name ≡ Some number)
number_walked headers [] [] same number one = absurd (false≢true one)
number_walked headers [] (first ∷ met) same number one = absurd cc
number_walked headers (name ∷ walk) [] same number one = absurd (false≢true one)
number_walked headers (name ∷ walk) (first ∷ met) same number one =
    let is : number_of headers name ≡ Some first = cc in
    let rest : map (number_of headers) walk ≡ map Some met = cc in
    elim (or_cases _ _ one) [
      | inl here ↦ (name, one_name_first name name walk refl, subst (λ n. number_of headers name ≡ Some n) (eqb-true first number here) is)
      | inr there ↦ let later = number_walked headers walk met rest number there in (later.0, or_right _ _ later.1, later.2)
    ]

module _ (headers : Headers) (hold : AllHold (hierarchy_checks headers)) (lists : List (List ℕ)) where
  -- no class is among its superinterfaces
  once_behind : (number : ℕ) (header : Header) → slice_get (all_headers headers) number ≡ Some header → AreNumbersOf headers header.name (get_or lists number []) → IsOnce (number ∷ get_or lists number [])
  once_behind number header there are =
      made_behind number are.met (get_or lists number []) are.once (λ one.
      let walked = number_walked headers are.walk are.met are.same number one in
      let class = class_of_number headers walked.0 number walked.2 in
      let same : class.0 ≡ header = same_Some class.0 header (sym class.1.there ∙ there) in
      let name : walked.0 ≡ header.name = sym class.1.same ∙ ap (λ (h : Header). h.name) same in
      (class_holds headers hold number header there).circle (subst (IsBelow headers header.name) name (walked_is_above headers are.walked walked.0 walked.1)))

  one_once : (number : ℕ) → number < length (all_headers headers) → IsListed headers lists number → IsOnce (number ∷ get_or lists number []) × IsOnce (get_or lists number [])
  one_once number low listed =
      elim (slice_get_cases (all_headers headers) number).1 [
        | inl found ↦
            let are = listed.are found.0 found.2 in
            (once_behind number found.0 found.2 are, made_once are.met (get_or lists number []) are.once)
        | inr past ↦ absurd (omega (arith, past.0, low))
      ]

  each_once_behind : (numbers : List ℕ) → All (λ one. one < length (all_headers headers)) numbers → ((one : ℕ) → IsOneOf numbers one → IsListed headers lists one) → All (λ one. IsOnce (one ∷ get_or lists one [])) numbers
  each_once_behind [] low listed = All-nil (λ one. IsOnce (one ∷ get_or lists one []))
  each_once_behind (number ∷ numbers) low listed =
      All-cons (λ one. IsOnce (one ∷ get_or lists one [])) number numbers
      (one_once number (All-head (λ one. one < length (all_headers headers)) number numbers low) (listed number (or_left _ _ (eq-eqb number number refl)))).0
      (each_once_behind numbers (All-tail (λ one. one < length (all_headers headers)) number numbers low) (λ one is. listed one (or_right _ _ is)))

  -- the lists of the interfaces that a class names
  pub interfaces_once : (superclass : Option ℕ) (interfaces : List ℕ) → All (λ one. one < length (all_headers headers)) (option_to_list superclass ++ interfaces) → ((one : ℕ) → IsOneOf (option_to_list superclass ++ interfaces) one → IsListed headers lists one) → All (λ one. IsOnce (one ∷ get_or lists one [])) interfaces
  interfaces_once superclass interfaces low listed =
      each_once_behind interfaces (interfaces_within (λ one. one < length (all_headers headers)) superclass interfaces low) (interface_listed (IsListed headers lists) superclass interfaces listed)

  -- that of its superclass
  pub superclass_once : (superclass : Option ℕ) (interfaces : List ℕ) → All (λ one. one < length (all_headers headers)) (option_to_list superclass ++ interfaces) → ((one : ℕ) → IsOneOf (option_to_list superclass ++ interfaces) one → IsListed headers lists one) → IfSome superclass (λ above. IsOnce (get_or lists above []))
  superclass_once None interfaces low listed = tt
  superclass_once (Some number) interfaces low listed =
      (one_once number (All-head (λ one. one < length (all_headers headers)) number interfaces low) (listed number (or_left _ _ (eq-eqb number number refl)))).1

-- ---- places

-- the lists as places
pub lists_placed : (headers : Headers) (numbers : List (List ℕ)) (lists : List (List Place)) → AreNumberLists headers numbers → lists ≡ map (map (place_at headers)) numbers → AreInterfaceLists headers lists
lists_placed headers numbers lists are same = record {
  len = ap length same ∙ length-map numbers (map (place_at headers)) ∙ are.len;
  each = λ number header places there is.
      let own = are.each number header there in
      let within : number < length numbers = omega (arith, slice_get_within (all_headers headers) number header there, are.len) in
      let placed : places ≡ map (place_at headers) (get_or numbers number []) =
      sym (get_or_from_slice_get lists number places [] is) ∙ ap (λ (l : List (List Place)). get_or l number []) same ∙ get_or-map (map (place_at headers)) numbers number [] [] within in
      (each_once own.walk, record { walk = own.walk; walked = own.walked; once = refl }, rw (placed, own.once) (names_placed headers (each_once own.walk) (with_numbers [] own.met) (once_numbered headers own.walk own.met own.same)));
}

-- What the classes from a number on are asked of those above them.
use Rattle.std.proofs.Common.{◌≡◌, ◌↔◌, ◌+◌, ◌-◌, ◌<◌, ◌≤◌, ℕ, Bool, true, List, [], ◌++◌, length, drop, filter_map, slice_get, Some, option_map, Result, Ok, Err, refl, sym, ap, subst, ◌∙◌, append_assoc, inl, inr, arith}
use Rattle.std.proofs.lemmas.Bool.{cases_lt}
use Rattle.std.proofs.lemmas.List.{drop_all, length-append, length-map}
use Rattle.std.proofs.lemmas.Option.{slice_get_within, slice_get-map, same_Some}
use Rattle.class_model.specs.Checks.{Check, asked_each, AllHold}
use Rattle.class_model.specs.Laws.Checks.{Remain, all_remain, remain}
use Rattle.class_model.specs.Laws.Lists.{drop_item}
use Rattle.class_model.specs.declared.header.Header.{Header}
use Rattle.class_tree.specs.Answers.{Answers}
use Rattle.class_tree.specs.Inner.Graphs.{Graph, IsPath}
use Rattle.class_tree.specs.Headers.{Name, Headers, all_headers}
use Rattle.class_tree.specs.Laws.Links.{refused}
use Rattle.class_tree.specs.Inner.Nodes.{graph_of, number_of, place_at}
use Rattle.class_tree.specs.Order.{header_at}
use Rattle.class_tree.specs.Problems.{Problem}
use Rattle.class_tree.specs.Steps.{supers, folder_checks, library_checks, hierarchy_checks}
use Rattle.class_tree.specs.Subtype.{IsBelow}
use Rattle.class_tree.specs.Trees.{IsInOrder}
use Rattle.class_tree.specs.declared.fault.LinkFault.{LinkFault}
use Rattle.class_tree.specs.declared.place.Place.TheVariants.{Library}
use Rattle.class_tree.proofs.GraphPaths.{path_is_below, some_at}
use Rattle.class_tree.proofs.Places.{class_of_number, number_of_itself, header_at_number, place_in_folder, place_in_library}

-- ---- the class of a number

pub as_many_nodes : (headers : Headers) → length (graph_of headers) ≡ length (all_headers headers)
as_many_nodes headers = length-map (all_headers headers) (λ class. filter_map (number_of headers) (supers class))

-- the numbers of those that it names
pub targets_at : (headers : Headers) (graph : Graph) (number : ℕ) (header : Header) (read : List ℕ) → graph ≡ graph_of headers → slice_get (all_headers headers) number ≡ Some header → slice_get graph number ≡ Some read → read ≡ filter_map (number_of headers) (supers header)
targets_at headers graph number header read is there at =
    same_Some read (filter_map (number_of headers) (supers header))
    (sym at ∙ ap (λ (g : Graph). slice_get g number) is ∙ slice_get-map (λ class. filter_map (number_of headers) (supers class)) (all_headers headers) number ∙ ap (option_map (λ class. filter_map (number_of headers) (supers class))) there)

-- it is on a circle where it is above itself
pub circle_decides : (headers : Headers) (graph : Graph) (number : ℕ) (header : Header) (test : Bool) → IsInOrder headers → graph ≡ graph_of headers → slice_get (all_headers headers) number ≡ Some header → (test ≡ true ↔ IsPath graph number number) → (test ≡ true) ↔ IsBelow headers header.name header.name
circle_decides headers graph number header test order is there same =
    let below = path_is_below headers order number number header header there there in (
      λ yes. below.0 (subst (λ (g : Graph). IsPath g number number) is (same.0 yes)),
      λ circle. same.1 (subst (λ (g : Graph). IsPath g number number) (sym is) (below.1 circle)),
    )

-- it has a name where the name has its number
pub number_decides : (headers : Headers) (name : Name) (number : ℕ) (header : Header) (test : Bool) → IsInOrder headers → slice_get (all_headers headers) number ≡ Some header → (test ≡ true ↔ (number_of headers name ≡ Some number)) → (test ≡ true) ↔ (header.name ≡ name)
number_decides headers name number header test order there same = (
  λ yes. let c = class_of_number headers name number (same.0 yes) in subst (λ (h : Header). h.name ≡ name) (same_Some c.0 header (sym c.1.there ∙ there)) c.1.same,
  λ e. same.1 (subst (λ n. number_of headers n ≡ Some number) e (number_of_itself headers order number header there).is),
)

pub same_in_folder : (headers : Headers) (number : ℕ) (header other : Header) → slice_get (all_headers headers) number ≡ Some header → slice_get headers.folder number ≡ Some other → header ≡ other
same_in_folder headers number header other there is =
    let place = place_in_folder headers number (slice_get_within headers.folder number other is) in
    same_Some header other (sym there ∙ sym (header_at_number headers number) ∙ ap (header_at headers) place ∙ is)

placed_in_library : (headers : Headers) (number : ℕ) → length headers.folder ≤ number → place_at headers number ≡ Library (number - length headers.folder)
placed_in_library headers number behind =
    let same : length headers.folder + (number - length headers.folder) ≡ number = omega arith in
    subst (λ n. place_at headers n ≡ Library (number - length headers.folder)) same (place_in_library headers (number - length headers.folder))

pub same_in_library : (headers : Headers) (number : ℕ) (header other : Header) → slice_get (all_headers headers) number ≡ Some header → length headers.folder ≤ number → slice_get headers.library (number - length headers.folder) ≡ Some other → header ≡ other
same_in_library headers number header other there behind is =
    same_Some header other (sym there ∙ sym (header_at_number headers number) ∙ ap (header_at headers) (placed_in_library headers number behind) ∙ is)

-- ---- the classes from a number on

abbrev pub checks_from : Headers → ℕ → List (Check Problem)
checks_from headers number = asked_each (folder_checks headers) (drop number headers.folder) ++ asked_each (library_checks headers) (drop (number - length headers.folder) headers.library)

pub begin : (headers : Headers) → Remain (hierarchy_checks headers) (checks_from headers 0)
begin headers =
    let none : 0 - length headers.folder ≡ 0 = omega arith in
    rw none (all_remain (hierarchy_checks headers))

from_folder : (headers : Headers) (number : ℕ) (header : Header) → slice_get headers.folder number ≡ Some header → checks_from headers number ≡ folder_checks headers header ++ checks_from headers (number + 1)
from_folder headers number header is =
    let within = slice_get_within headers.folder number header is in
    let here : number - length headers.folder ≡ 0 = omega arith in
    let later : number + 1 - length headers.folder ≡ 0 = omega arith in
    rw (drop_item headers.folder number header is, here, later)
    (append_assoc (folder_checks headers header) (asked_each (folder_checks headers) (drop (number + 1) headers.folder)) (asked_each (library_checks headers) headers.library))

from_library : (headers : Headers) (number : ℕ) (header : Header) → length headers.folder ≤ number → slice_get headers.library (number - length headers.folder) ≡ Some header → checks_from headers number ≡ library_checks headers header ++ checks_from headers (number + 1)
from_library headers number header behind is =
    let next : number + 1 - length headers.folder ≡ number - length headers.folder + 1 = omega arith in
    rw (drop_all number headers.folder behind, drop_all (number + 1) headers.folder (omega arith), next, drop_item headers.library (number - length headers.folder) header is) refl

-- what the class of a number is answered
pub record ClassAnswers (headers : Headers) (number : ℕ) (result : Result (Unit {0}) LinkFault) : Type 0 where
  pub folder : (header : Header) → slice_get headers.folder number ≡ Some header → Answers (folder_checks headers header) result
  pub library : (header : Header) → length headers.folder ≤ number → slice_get headers.library (number - length headers.folder) ≡ Some header → Answers (library_checks headers header) result

-- what one class is asked, and then the rest
record Asked (headers : Headers) (number : ℕ) (result : Result (Unit {0}) LinkFault) : Type 1 where
  asks : List (Check Problem)
  is : checks_from headers number ≡ asks ++ checks_from headers (number + 1)
  told : Answers asks result

asked_at : (headers : Headers) (number : ℕ) (result : Result (Unit {0}) LinkFault) → number < length (all_headers headers) → ClassAnswers headers number result → Asked headers number result
asked_at headers number result within answers = elim (cases_lt number (length headers.folder)) [
  | inl low ↦
      let at = some_at headers.folder number low in
      record { asks = folder_checks headers at.0; is = from_folder headers number at.0 at.1; told = answers.folder at.0 at.1 }
  | inr high ↦
      let at = some_at headers.library (number - length headers.folder) (omega (arith, length-append headers.folder headers.library)) in
      record { asks = library_checks headers at.0; is = from_library headers number at.0 high at.1; told = answers.library at.0 high at.1 }
]

pub one_more : {whole : List (Check Problem)} (headers : Headers) (number : ℕ) → number < length (all_headers headers) → Remain whole (checks_from headers number) → ClassAnswers headers number (Ok tt) → Remain whole (checks_from headers (number + 1))
one_more {whole} headers number within left answers =
    let asked = asked_at headers number (Ok tt) within answers in
    remain asked.asks (checks_from headers (number + 1)) (subst (Remain whole) asked.is left) asked.told

pub one_refused : {whole : List (Check Problem)} (headers : Headers) (number : ℕ) (e : LinkFault) → number < length (all_headers headers) → Remain whole (checks_from headers number) → ClassAnswers headers number (Err e) → Answers {X = Unit {0}} whole (Err e)
one_refused {whole} headers number e within left answers =
    let asked = asked_at headers number (Err e) within answers in
    refused asked.asks (checks_from headers (number + 1)) e (subst (Remain whole) asked.is left) asked.told

pub none_left : {whole : List (Check Problem)} (headers : Headers) (number : ℕ) → length (all_headers headers) ≤ number → Remain whole (checks_from headers number) → AllHold whole
none_left {whole} headers number end left =
    let count = length-append headers.folder headers.library in
    let none : checks_from headers number ≡ [] = rw (drop_all number headers.folder (omega (arith, count)), drop_all (number - length headers.folder) headers.library (omega (arith, count))) refl in
    (subst (Remain whole) none left).hold tt

-- Where the classes of a folder and its library stand: their numbers and their places.
use Rattle.std.proofs.Common.{◌≡◌, ◌+◌, ◌-◌, ◌<◌, ◌≤◌, ℕ, zero, suc, Bool, true, cond, List, [], ◌∷◌, ◌++◌, length, slice_get, count_by, bytes_eq, Option, Some, None, option_map, option_and_then, refl, sym, ap, subst, ◌∙◌, inl, inr, arith}
use Rattle.std.proofs.lemmas.Bool.{cases_lt, lt-ltb, le-ltb}
use Rattle.std.proofs.lemmas.List.Sums.{sum_by-append}
use Rattle.std.proofs.lemmas.Option.{slice_get_within}
use Rattle.std.proofs.lemmas.Slice.Eq.{bytes_eq-Decides}
use Rattle.class_model.specs.declared.header.Header.{Header}
use Rattle.class_tree.specs.Headers.{Name, Headers, all_headers, named, class_named}
use Rattle.class_tree.specs.Laws.FirstPlaces.{first_passes, first_at}
use Rattle.class_tree.specs.Inner.Nodes.{number_of, place_at}
use Rattle.class_tree.specs.Order.{first_place, header_at, place_of}
use Rattle.class_tree.specs.Trees.{IsInOrder, times}
use Rattle.class_tree.specs.declared.place.Place.{Place}
use Rattle.class_tree.specs.declared.place.Place.TheVariants.{Folder, Library}
use Rattle.class_tree.proofs.FirstPlaces.{in_either, is_only, first_place-append}

-- whether a class has this name
abbrev pub has_name : Name → Header → Bool
has_name name header = bytes_eq name header.name

pub same_name : (name : Name) (header : Header) → has_name name header ≡ true → header.name ≡ name
same_name name header e = sym ((bytes_eq-Decides name header.name).0 e)

pub own_name : (header : Header) → has_name header.name header ≡ true
own_name header = (bytes_eq-Decides header.name header.name).1 refl

-- ---- what has a name in a list

-- the class of a name is the item at its first place
pub named_at : (name : Name) (headers : List Header) → named name headers ≡ option_and_then (slice_get headers) (first_place (has_name name) headers)
named_at name headers = first_at (has_name name) (named name) refl (λ header rest. refl) headers

-- ---- numbers

-- A class has this number.
pub record HasNumber (headers : Headers) (name : Name) (number : ℕ) (header : Header) : Type 0 where
  pub is : number_of headers name ≡ Some number
  pub there : slice_get (all_headers headers) number ≡ Some header
  pub named : class_named headers name ≡ Some header
  pub same : header.name ≡ name
  pub within : number < length (all_headers headers)

-- a number is that of a class
pub class_of_number : (headers : Headers) (name : Name) (number : ℕ) → number_of headers name ≡ Some number → (header : Header) × HasNumber headers name number header
class_of_number headers name number e =
    let p = first_passes (has_name name) (all_headers headers) number e in (
      p.item,
      record {
        is = e;
        there = p.there;
        named = named_at name (all_headers headers) ∙ rw e p.there;
        same = same_name name p.item p.passes;
        within = slice_get_within (all_headers headers) number p.item p.there;
      },
    )

-- where a name has no number, there is no class of that name
pub class_of_no_number : (headers : Headers) (name : Name) → number_of headers name ≡ None → class_named headers name ≡ None
class_of_no_number headers name e = named_at name (all_headers headers) ∙ rw e refl

-- a class that is there has a number
pub number_of_class : (headers : Headers) (name : Name) (header : Header) → class_named headers name ≡ Some header → (number : ℕ) × HasNumber headers name number header
number_of_class headers name header there = by (number_of headers name) refl
  where
    by : (found : Option ℕ) → number_of headers name ≡ found → (number : ℕ) × HasNumber headers name number header
    by None e = absurd (cc (there, class_of_no_number headers name e))
    by (Some number) e =
        let c = class_of_number headers name number e in
        (number, subst (HasNumber headers name number) (cc (there, c.1.named)) c.1)

-- Where no name stands twice, each class has the number where it stands.
pub number_of_itself : (headers : Headers) → IsInOrder headers → (number : ℕ) (header : Header) → slice_get (all_headers headers) number ≡ Some header → HasNumber headers header.name number header
number_of_itself headers order number header there =
    let e : number_of headers header.name ≡ Some number = is_only (has_name header.name) (all_headers headers) number (order.once header.name) (record { item = header; there = there; passes = own_name header }) in
    let c = class_of_number headers header.name number e in
    subst (HasNumber headers header.name number) (cc (there, c.1.there)) c.1

-- ---- places

slice_get-append_left : {X : Type 0} (xs ys : List X) (place : ℕ) → place < length xs → slice_get (xs ++ ys) place ≡ slice_get xs place
slice_get-append_left [] ys place h = absurd (omega arith)
slice_get-append_left (x ∷ xs) ys zero h = refl
slice_get-append_left (x ∷ xs) ys (suc place) h = slice_get-append_left xs ys place (omega arith)

slice_get-append_right : {X : Type 0} (xs ys : List X) (place : ℕ) → slice_get (xs ++ ys) (length xs + place) ≡ slice_get ys place
slice_get-append_right [] ys place = ap (slice_get ys) (omega arith)
slice_get-append_right (x ∷ xs) ys place = ap (slice_get (x ∷ (xs ++ ys))) {y = suc (length xs + place)} (omega arith) ∙ slice_get-append_right xs ys place

pub place_in_folder : (headers : Headers) (number : ℕ) → number < length headers.folder → place_at headers number ≡ Folder number
place_in_folder headers number h = rw (lt-ltb number (length headers.folder) h) refl

pub place_in_library : (headers : Headers) (place : ℕ) → place_at headers (length headers.folder + place) ≡ Library place
place_in_library headers place = rw (le-ltb (length headers.folder + place) (length headers.folder) (omega arith)) (ap Library (omega arith))

-- a number and its place are of one class
pub header_at_number : (headers : Headers) (number : ℕ) → header_at headers (place_at headers number) ≡ slice_get (all_headers headers) number
header_at_number headers number = elim (cases_lt number (length headers.folder)) [
  | inl h ↦ ap (header_at headers) (place_in_folder headers number h) ∙ sym (slice_get-append_left headers.folder headers.library number h)
  | inr h ↦ subst (λ n. header_at headers (place_at headers n) ≡ slice_get (all_headers headers) n) {x = length headers.folder + (number - length headers.folder)} (omega arith)
      (ap (header_at headers) (place_in_library headers (number - length headers.folder)) ∙ sym (slice_get-append_right headers.folder headers.library (number - length headers.folder)))
]

pub place_in_front : (headers : Headers) (name : Name) (place : ℕ) → first_place (has_name name) headers.folder ≡ Some place → place_of headers name ≡ Some (Folder place)
place_in_front headers name place e = rw e refl

pub place_in_back : (headers : Headers) (name : Name) → first_place (has_name name) headers.folder ≡ None → place_of headers name ≡ option_map Library (first_place (has_name name) headers.library)
place_in_back headers name e = rw e refl

-- a name's number and its place are of one class
pub place_of_number : (headers : Headers) (name : Name) → place_of headers name ≡ option_map (place_at headers) (number_of headers name)
place_of_number headers name =
    by (first_place (has_name name) headers.folder) refl (first_place (has_name name) headers.library) refl (first_place-append (has_name name) headers.folder headers.library)
  where
    by : (front : Option ℕ) → first_place (has_name name) headers.folder ≡ front → (back : Option ℕ) → first_place (has_name name) headers.library ≡ back → number_of headers name ≡ in_either (length headers.folder) front back → place_of headers name ≡ option_map (place_at headers) (number_of headers name)
    by (Some place) e back f number =
        let h = first_passes (has_name name) headers.folder place e in
        place_in_front headers name place e ∙ rw number (ap Some (sym (place_in_folder headers place (slice_get_within headers.folder place h.item h.there))))
    by None e None f number = place_in_back headers name e ∙ rw (f, number) refl
    by None e (Some place) f number = place_in_back headers name e ∙ rw (f, number) (ap Some (sym (place_in_library headers place)))

-- the class at a name's place is the class of that name
pub header_at_place : (headers : Headers) (name : Name) → option_and_then (header_at headers) (place_of headers name) ≡ class_named headers name
header_at_place headers name = rw (place_of_number headers name) (by (number_of headers name) refl ∙ sym (named_at name (all_headers headers)))
  where
    by : (found : Option ℕ) → number_of headers name ≡ found → option_and_then (header_at headers) (option_map (place_at headers) found) ≡ option_and_then (slice_get (all_headers headers)) found
    by None e = refl
    by (Some number) e = header_at_number headers number

-- the number of a place
abbrev pub place_number : Headers → Place → ℕ
place_number headers (Folder place) = place
place_number headers (Library place) = length headers.folder + place

pub number_at_place : (headers : Headers) (number : ℕ) → place_number headers (place_at headers number) ≡ number
number_at_place headers number = elim (cases_lt number (length headers.folder)) [
  | inl h ↦ ap (place_number headers) (place_in_folder headers number h)
  | inr h ↦ let e : length headers.folder + (number - length headers.folder) ≡ number = omega arith in subst (λ n. place_number headers (place_at headers n) ≡ n) e (ap (place_number headers) (place_in_library headers (number - length headers.folder)))
]

-- a name's number is that of its place
pub number_of_place : (headers : Headers) (name : Name) → option_map (place_number headers) (place_of headers name) ≡ number_of headers name
number_of_place headers name = rw (place_of_number headers name) (by (number_of headers name))
  where
    by : (found : Option ℕ) → option_map (place_number headers) (option_map (place_at headers) found) ≡ found
    by None = refl
    by (Some number) = ap Some (number_at_place headers number)

-- what stands at a name's place
pub class_of_place : (headers : Headers) (name : Name) (place : Place) → place_of headers name ≡ Some place → (header : Header) × (header_at headers place ≡ Some header) × HasNumber headers name (place_number headers place) header
class_of_place headers name place e =
    let number : number_of headers name ≡ Some (place_number headers place) = sym (number_of_place headers name) ∙ ap (option_map (place_number headers)) e in
    let c = class_of_number headers name (place_number headers place) number in
    (c.0, sym (ap (option_and_then (header_at headers)) e) ∙ header_at_place headers name ∙ c.1.named, c.1)

pub library_place_within : (headers : Headers) (name : Name) (place : ℕ) → place_of headers name ≡ Some (Library place) → place < length headers.library
library_place_within headers name place e = let c = class_of_place headers name (Library place) e in slice_get_within headers.library place c.0 c.1

-- a class that is at a place has that place's number
pub header_of_place : (headers : Headers) (place : Place) (header : Header) → header_at headers place ≡ Some header → slice_get (all_headers headers) (place_number headers place) ≡ Some header
header_of_place headers (Folder place) header there = slice_get-append_left headers.folder headers.library place (slice_get_within headers.folder place header there) ∙ there
header_of_place headers (Library place) header there = slice_get-append_right headers.folder headers.library place ∙ there

-- ---- each name once

pub times_in_parts : (name : Name) (headers : Headers) → times name headers ≡ count_by (has_name name) headers.folder + count_by (has_name name) headers.library
times_in_parts name headers = sum_by-append (λ header. cond (has_name name header) 1 0) headers.folder headers.library

pub once_in_folder : (headers : Headers) → IsInOrder headers → (name : Name) → count_by (has_name name) headers.folder ≤ 1
once_in_folder headers order name = omega (arith, order.once name, times_in_parts name headers)

pub once_in_library : (headers : Headers) → IsInOrder headers → (name : Name) → count_by (has_name name) headers.library ≤ 1
once_in_library headers order name = omega (arith, order.once name, times_in_parts name headers)

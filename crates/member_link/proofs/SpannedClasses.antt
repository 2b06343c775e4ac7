-- The classes below each class of the folder, by their spans, and what the checks of a hierarchy say of its folder and its library.
use Rattle.std.proofs.Common.{◌≡◌, ◌⊎◌, ◌+◌, ◌<◌, ◌≤◌, ℕ, zero, suc, Bool, true, false, cond, List, [], ◌∷◌, ◌++◌, bytes_eq, slice_get, Option, Some, None, IsFalse, refl, sym, ap, subst, ◌∙◌, inl, inr, arith}
use Rattle.std.specs.List.{AllByRecursion}
use Rattle.std.proofs.lemmas.Bool.{cases_lt}
use Rattle.std.proofs.lemmas.Option.{same_Some, none-some}
use Rattle.class_model.specs.Checks.{Check, AllHold, asked_each}
use Rattle.class_model.specs.Laws.Checks.{first_holds, others_hold}
use Rattle.class_model.specs.declared.header.Header.{Header}
use Rattle.class_tree.specs.Headers.{Name, Classes, Headers, headers_of, named}
use Rattle.class_tree.specs.Hierarchy.{IsHierarchy}
use Rattle.class_tree.specs.Laws.Above.{class_is_climbed, hierarchy_is_sound, hierarchy_is_rooted}
use Rattle.class_tree.specs.Laws.Headers.{own_name}
use Rattle.class_tree.specs.Laws.Names.{each_of_names}
use Rattle.class_tree.specs.Names.{object, is_interface}
use Rattle.class_tree.specs.Order.{header_at, place_of}
use Rattle.class_tree.specs.Problems.{Problem}
use Rattle.class_tree.specs.Steps.{supers, IsOutside, folder_checks, library_checks, hierarchy_checks}
use Rattle.class_tree.specs.Subtype.{IsDirectlyBelow, superclass, interface, IsBelow, directly, onwards}
use Rattle.class_tree.specs.Trees.{IsTree}
use Rattle.class_tree.specs.declared.place.Place.{Place}
use Rattle.class_tree.specs.declared.place.Place.TheVariants.{Folder, Library}
use Rattle.member_link.specs.Inner.Spans.{AreSpans}
use Rattle.member_link.specs.declared.spans.Span.{Span}
use Rattle.member_link.specs.declared.spans.Spans.{Spans}
use Rattle.member_link.proofs.Climbed.{superclass_at}
use Rattle.member_link.specs.Laws.FolderClasses.{folder_index, in_folder}

-- what holds below a number and at it holds below the next
pub one_more : (P : ℕ → Type 0) (n : ℕ) → ((i : ℕ) → i < n → P i) → P n → (i : ℕ) → i < n + 1 → P i
one_more P n below at i within = elim (cases_lt i n) [
  | inl less ↦ below i less
  | inr more ↦ let same : n ≡ i = omega (arith, within, more) in subst P same at
]

-- ---- the folder and the library

-- what a class of the library names is outside of the folder, and java/lang/Object is
pub record StandsApart (headers : Headers) : Type 0 where
  pub leans : (name : Name) (header : Header) → named name headers.library ≡ Some header → AllByRecursion (IsOutside headers) (supers header)
  pub no_object : named object headers.folder ≡ None

each_named : (P : Header → Type 0) (asks : Header → List (Check Problem)) → ((header : Header) → AllHold (asks header) → P header) → (list : List Header) → AllHold (asked_each asks list) → (name : Name) (header : Header) → named name list ≡ Some header → P header
each_named P asks told [] hold name header is = absurd cc
each_named P asks told (first ∷ list) hold name header is = by (bytes_eq name first.name) is (each_named P asks told list (others_hold (asks first) (asked_each asks list) hold) name header)
  where
    by : (test : Bool) → cond test (Some first) (named name list) ≡ Some header → (named name list ≡ Some header → P header) → P header
    by true is later = subst P (same_Some first header is) (told first (first_holds (asks first) (asked_each asks list) hold))
    by false is later = later is

own_name_of : (name : Name) (folder library : List Header) (header : Header) → named name folder ≡ Some header → header.name ≡ name
own_name_of name folder library header is = own_name (record { folder = folder; library = [] }) name header (in_front folder is)
  where
    in_front : (list : List Header) → named name list ≡ Some header → named name (list ++ []) ≡ Some header
    in_front [] is = absurd cc
    in_front (first ∷ list) is = by (bytes_eq name first.name) is (in_front list)
      where
        by : (test : Bool) → cond test (Some first) (named name list) ≡ Some header → (named name list ≡ Some header → named name (list ++ []) ≡ Some header) → cond test (Some first) (named name (list ++ [])) ≡ Some header
        by true is later = is
        by false is later = later is

pub stands_apart : (classes : Classes) → IsTree classes → StandsApart (headers_of classes)
stands_apart classes tree = record { leans = leans; no_object = by (named object headers.folder) refl }
  where
    headers : Headers
    headers = headers_of classes

    hold : AllHold (hierarchy_checks headers)
    hold = first_holds (hierarchy_checks headers) _ tree.holds

    leans : (name : Name) (header : Header) → named name headers.library ≡ Some header → AllByRecursion (IsOutside headers) (supers header)
    leans = each_named (λ header. AllByRecursion (IsOutside headers) (supers header)) (library_checks headers) (λ header h. h.1.0) headers.library
        (others_hold (asked_each (folder_checks headers) headers.folder) (asked_each (library_checks headers) headers.library) hold)

    by : (found : Option Header) → named object headers.folder ≡ found → named object headers.folder ≡ None
    by None is = is
    by (Some header) is =
        absurd (each_named (λ header. ¬ (header.name ≡ object)) (folder_checks headers) (λ header h. h.1.1.1.0.1) headers.folder
        (first_holds (asked_each (folder_checks headers) headers.folder) (asked_each (library_checks headers) headers.library) hold) object header is
        (own_name_of object headers.folder headers.library header is))

named_behind : (name : Name) (front back : List Header) (header : Header) → named name front ≡ None → named name (front ++ back) ≡ Some header → named name back ≡ Some header
named_behind name [] back header none is = is
named_behind name (first ∷ front) back header none is = by (bytes_eq name first.name) none is (named_behind name front back header)
  where
    by : (test : Bool) → cond test (Some first) (named name front) ≡ None → cond test (Some first) (named name (front ++ back)) ≡ Some header → (named name front ≡ None → named name (front ++ back) ≡ Some header → named name back ≡ Some header) → named name back ≡ Some header
    by true none is later = absurd cc
    by false none is later = later none is

super_of : (P : Name → Type 0) (header : Header) (name : Name) → AllByRecursion P (supers header) → header.super_name ≡ Some name → P name
super_of P header name all is = by header.super_name all is
  where
    by : (super : Option Name) → AllByRecursion P (supers (record header { super_name = super })) → super ≡ Some name → P name
    by None all is = absurd cc
    by (Some above) all is = subst P (cc) all.0

interfaces_of : (P : Name → Type 0) (header : Header) → AllByRecursion P (supers header) → AllByRecursion P header.interfaces
interfaces_of P header all = by header.super_name all
  where
    by : (super : Option Name) → AllByRecursion P (supers (record header { super_name = super })) → AllByRecursion P header.interfaces
    by None all = all
    by (Some above) all = all.1

module _ (headers : Headers) (apart : StandsApart headers) where
  directly_outside : {low high : Name} → IsDirectlyBelow headers low high → named low headers.folder ≡ None → named high headers.folder ≡ None
  directly_outside (superclass low high header is some) out =
      super_of (IsOutside headers) header high (apart.leans low header (named_behind low headers.folder headers.library header out is)) some
  directly_outside (interface low high header is one) out =
      each_of_names (IsOutside headers) header.interfaces (interfaces_of (IsOutside headers) header (apart.leans low header (named_behind low headers.folder headers.library header out is))) high one

  -- what is above a class outside of the folder is
  pub outside_above : {low high : Name} → IsBelow headers low high → named low headers.folder ≡ None → named high headers.folder ≡ None
  outside_above (directly low high step) out = directly_outside step out
  outside_above (onwards low middle high step rest) out = outside_above rest (directly_outside step out)

  -- the place of a class that is not outside of the folder
  placed_inside : (name : Name) (place : Place) → place_of headers name ≡ Some place → ¬ (named name headers.folder ≡ None) → (index : ℕ) × (place ≡ Folder index)
  placed_inside name (Folder index) is inside = (index, refl)
  placed_inside name (Library index) is inside = by (named name headers.folder) refl
    where
      by : (found : Option Header) → named name headers.folder ≡ found → (at : ℕ) × (Library index ≡ Folder at)
      by None none = absurd (inside none)
      by (Some header) some =
          let place = folder_index headers name header some in
          (place.0, same_Some (Library index) (Folder place.0) (sym is ∙ place.2))

-- ---- spans

-- the span of a class is within that of a class above it
pub record IsInside (low high : Span) : Type 0 where
  pub first : high.first < low.first
  pub last : low.last ≤ high.last

module _ (headers : Headers) (apart : StandsApart headers) (hierarchy : IsHierarchy headers) (spans : Spans) (are : AreSpans headers spans) (top : ℕ) (high : Header) (top_at : header_at headers (Folder top) ≡ Some high) (kind : IsFalse (is_interface high)) (span : Span) (span_is : slice_get spans.of_classes.items top ≡ Some span) where
  top_inside : ¬ (named high.name headers.folder ≡ None)
  top_inside none =
      let found = in_folder headers high.name top (hierarchy.of_place (Folder top) high top_at).is_place in
      none-some found.0 (sym none ∙ found.1)

  -- the superclass of a class below it is one of the folder, and the class itself or below it
  pub record IsStep (index : ℕ) : Type 0 where
    pub above : ℕ
    pub class : Header
    pub at : header_at headers (Folder above) ≡ Some class
    pub inner : Span
    pub outer : Span
    pub inner_is : slice_get spans.of_classes.items index ≡ Some inner
    pub outer_is : slice_get spans.of_classes.items above ≡ Some outer
    pub inside : IsInside inner outer
    pub further : (class.name ≡ high.name) ⊎ IsBelow headers class.name high.name

  step : (index : ℕ) (low : Header) → header_at headers (Folder index) ≡ Some low → IsBelow headers low.name high.name → IsStep index
  step index low at up =
      let named_low = (hierarchy.of_place (Folder index) low at).found in
      let named_high = (hierarchy.of_place (Folder top) high top_at).found in
      let climbed = class_is_climbed headers (hierarchy_is_sound headers hierarchy) (hierarchy_is_rooted headers hierarchy) up low high named_low named_high kind in
      let super = superclass_at headers hierarchy (Folder index) low at climbed.0 climbed.1 in
      let inside : ¬ (named climbed.0 headers.folder ≡ None) = λ out. elim climbed.2 [
        | inl same ↦ top_inside (subst (λ name. named name headers.folder ≡ None) same out)
        | inr more ↦ top_inside (outside_above headers apart more out)
      ] in
      let placed = placed_inside headers apart climbed.0 super.high super.stands.is_place inside in
      let own = are.each index low at in
      let within = own.super.within placed.0 (super.is ∙ ap Some placed.1) in
      record {
        above = placed.0;
        class = super.class;
        at = ap (header_at headers) (sym placed.1) ∙ super.stands.at;
        inner = own.span;
        outer = within.0;
        inner_is = own.is;
        outer_is = within.1;
        inside = record { first = within.2; last = within.3 };
        further = subst (λ name. (name ≡ high.name) ⊎ IsBelow headers name high.name) (sym super.stands.own_name) climbed.2;
      }

  up_to : (fuel : ℕ) (index : ℕ) (low : Header) → header_at headers (Folder index) ≡ Some low → IsBelow headers low.name high.name → (inner : Span) → slice_get spans.of_classes.items index ≡ Some inner → inner.first < fuel → IsInside inner span
  up_to zero index low at up inner is few = absurd (omega (arith, few))
  up_to (suc fuel) index low at up inner is few =
      let s = step index low at up in
      let same : s.inner ≡ inner = same_Some s.inner inner (sym s.inner_is ∙ is) in
      let less : s.outer.first < fuel = omega (arith, few, ap (λ (i : Span). i.first) same, s.inside.first) in
      subst (λ i. IsInside i span) same (elim s.further [
        | inl here ↦
            let place = same_Some (Folder s.above) (Folder top) (sym (hierarchy.of_place (Folder s.above) s.class s.at).is_place ∙ ap (place_of headers) here ∙ (hierarchy.of_place (Folder top) high top_at).is_place) in
            let number : s.above ≡ top = cc in
            subst (IsInside s.inner) (same_Some s.outer span (sym s.outer_is ∙ ap (slice_get spans.of_classes.items) number ∙ span_is)) s.inside
        | inr more ↦
            let rest = up_to fuel s.above s.class s.at more s.outer s.outer_is less in
            record { first = omega (arith, rest.first, s.inside.first); last = omega (arith, rest.last, s.inside.last) }
      ])

  -- the span of a class below it is within its own
  pub below_is_inside : (index : ℕ) (low : Header) → header_at headers (Folder index) ≡ Some low → IsBelow headers low.name high.name → (inner : Span) → slice_get spans.of_classes.items index ≡ Some inner → IsInside inner span
  below_is_inside index low at up inner is = up_to (inner.first + 1) index low at up inner is (omega arith)

-- Paths between the numbers of classes are what is below in the hierarchy.
use Rattle.std.proofs.Common.{◌≡◌, ◌↔◌, ◌==◌, ◌||◌, ℕ, zero, suc, ◌<◌, Bool, true, false, List, [], ◌∷◌, length, slice_get, filter_map, bytes_eq, option_map, Option, Some, None, refl, sym, ap, subst, ◌∙◌, inl, inr, arith}
use Rattle.std.specs.List.{list_any, cons_option}
use Rattle.std.proofs.lemmas.Bool.{false≢true, or_cases, or_left, or_right, eqb-true, eq-eqb}
use Rattle.std.proofs.lemmas.List.{length-map}
use Rattle.std.proofs.lemmas.Option.{slice_get-map, slice_get_within, same_Some}
use Rattle.std.proofs.lemmas.Slice.Eq.{bytes_eq-Decides}
use Rattle.class_model.specs.declared.header.Header.{Header}
use Rattle.class_tree.specs.Inner.Graphs.{IsOneOf, IsEdge, IsPath, edge, onwards, IsWithin}
use Rattle.class_tree.specs.Headers.{Name, Headers, all_headers, class_named}
use Rattle.class_tree.specs.Inner.Nodes.{number_of, graph_of}
use Rattle.class_tree.specs.Steps.{supers}
use Rattle.class_tree.specs.Subtype.{IsDirectlyBelow, superclass, interface, IsBelow, directly, onwards as further}
use Rattle.class_tree.specs.Trees.{IsInOrder}
use Rattle.class_tree.proofs.Places.{class_of_number, number_of_class, number_of_itself}

-- ---- the names of those above a class

abbrev is_super : Option Name → Name → Bool
is_super None name = false
is_super (Some above) name = bytes_eq name above

is_super-Some : (super : Option Name) (name : Name) → is_super super name ≡ true → super ≡ Some name
is_super-Some None name is = absurd (false≢true is)
is_super-Some (Some above) name is = ap (λ (n : Name). Some n) (sym ((bytes_eq-Decides name above).0 is))

some_super : (header : Header) (super : Option Name) (name : Name) → list_any (bytes_eq name) (supers (record header { super_name = super })) ≡ (is_super super name || list_any (bytes_eq name) header.interfaces)
some_super header None name = refl
some_super header (Some above) name = refl

-- a class is below each that it names
pub below_each_super : (headers : Headers) (low high : Name) (header : Header) → class_named headers low ≡ Some header → list_any (bytes_eq high) (supers header) ≡ true → IsDirectlyBelow headers low high
below_each_super headers low high header is one =
    elim (or_cases (is_super header.super_name high) (list_any (bytes_eq high) header.interfaces) (sym (some_super header header.super_name high) ∙ one)) [
      | inl super ↦ superclass low high header is (is_super-Some header.super_name high super)
      | inr among ↦ interface low high header is among
    ]

-- the class of this name is there, and names the other
pub record Names (headers : Headers) (low high : Name) : Type 0 where
  pub header : Header
  pub is : class_named headers low ≡ Some header
  pub one : list_any (bytes_eq high) (supers header) ≡ true

pub names_above : (headers : Headers) {low high : Name} → IsDirectlyBelow headers low high → Names headers low high
names_above headers (superclass low high header is super) = record {
  header = header;
  is = is;
  one = some_super header header.super_name high ∙ or_left _ _ (ap (λ (o : Option Name). is_super o high) super ∙ (bytes_eq-Decides high high).1 refl);
}
names_above headers (interface low high header is among) = record { header = header; is = is; one = some_super header header.super_name high ∙ or_right _ _ among }

-- ---- the numbers of names

-- a name of these has this number
pub record OneNumbered (number_of_name : Name → Option ℕ) (names : List Name) (number : ℕ) : Type 0 where
  pub name : Name
  pub one : list_any (bytes_eq name) names ≡ true
  pub is : number_of_name name ≡ Some number

numbered_behind : (f : Name → Option ℕ) (first : Name) (names : List Name) (number : ℕ) → OneNumbered f names number → OneNumbered f (first ∷ names) number
numbered_behind f first names number found = record { name = found.name; one = or_right _ _ found.one; is = found.is }

numbered_more : (f : Name → Option ℕ) (first : Name) (names : List Name) (number : ℕ) (front : Option ℕ) → f first ≡ front → (IsOneOf (filter_map f names) number → OneNumbered f names number) → IsOneOf (cons_option front (filter_map f names)) number → OneNumbered f (first ∷ names) number
numbered_more f first names number None is later one = numbered_behind f first names number (later one)
numbered_more f first names number (Some front) is later one =
    elim (or_cases _ _ one) [
      | inl here ↦ record { name = first; one = or_left _ _ ((bytes_eq-Decides first first).1 refl); is = is ∙ ap (λ (n : ℕ). Some n) (eqb-true front number here) }
      | inr there ↦ numbered_behind f first names number (later there)
    ]

pub one_numbered : (f : Name → Option ℕ) (names : List Name) (number : ℕ) → IsOneOf (filter_map f names) number → OneNumbered f names number
one_numbered f [] number one = absurd (false≢true one)
one_numbered f (first ∷ names) number one = numbered_more f first names number (f first) refl (one_numbered f names number) one

one_behind : (front : Option ℕ) (numbers : List ℕ) (number : ℕ) → IsOneOf numbers number → IsOneOf (cons_option front numbers) number
one_behind None numbers number one = one
one_behind (Some front) numbers number one = or_right _ _ one

pub number_is_one : (f : Name → Option ℕ) (names : List Name) (name : Name) (number : ℕ) → list_any (bytes_eq name) names ≡ true → f name ≡ Some number → IsOneOf (filter_map f names) number
number_is_one f [] name number one is = absurd (false≢true one)
number_is_one f (first ∷ names) name number one is =
    elim (or_cases _ _ one) [
      | inl here ↦
          ap (λ (front : Option ℕ). list_any (λ (n : ℕ). n == number) (cons_option front (filter_map f names))) (ap f (sym ((bytes_eq-Decides name first).0 here)) ∙ is)
          ∙ or_left _ _ (eq-eqb number number refl)
      | inr there ↦ one_behind (f first) (filter_map f names) number (number_is_one f names name number there is)
    ]

-- ---- edges

abbrev targets_of : Headers → Header → List ℕ
targets_of headers header = filter_map (number_of headers) (supers header)

pub some_at : {X : Type 0} (xs : List X) (at : ℕ) → at < length xs → (x : X) × (slice_get xs at ≡ Some x)
some_at [] at within = absurd (omega arith)
some_at (x ∷ xs) zero within = (x, refl)
some_at (x ∷ xs) (suc at) within = some_at xs at (omega arith)

-- the class that an edge leads from, and the name of the class that it leads to
pub record EdgeOf (headers : Headers) (from to : ℕ) : Type 0 where
  pub header : Header
  pub at : slice_get (all_headers headers) from ≡ Some header
  pub above : OneNumbered (number_of headers) (supers header) to

pub edge_of : (headers : Headers) (from to : ℕ) → IsEdge (graph_of headers) from to → EdgeOf headers from to
edge_of headers from to e =
    let within = slice_get_within (graph_of headers) from e.targets e.there in
    let class = some_at (all_headers headers) from (omega (arith, within, length-map (all_headers headers) (targets_of headers))) in
    let same = same_Some (targets_of headers class.0) e.targets (ap (option_map (targets_of headers)) (sym class.1) ∙ sym (slice_get-map (targets_of headers) (all_headers headers) from) ∙ e.there) in
    record { header = class.0; at = class.1; above = one_numbered (number_of headers) (supers class.0) to (subst (λ (targets : List ℕ). IsOneOf targets to) (sym same) e.target) }

pub edge_above : (headers : Headers) (low high : Name) (from to : ℕ) → IsDirectlyBelow headers low high → number_of headers low ≡ Some from → number_of headers high ≡ Some to → IsEdge (graph_of headers) from to
edge_above headers low high from to above low_is high_is =
    let names = names_above headers above in
    let class = class_of_number headers low from low_is in
    record {
      targets = targets_of headers names.header;
      there = slice_get-map (targets_of headers) (all_headers headers) from ∙ ap (option_map (targets_of headers)) (class.1.there ∙ sym class.1.named ∙ names.is);
      target = number_is_one (number_of headers) (supers names.header) high to names.one high_is;
    }

-- each target is a class
pub graph_is_within : (headers : Headers) → IsWithin (graph_of headers)
graph_is_within headers from to e =
    let above = (edge_of headers from to e).above in
    let class = class_of_number headers above.name to above.is in
    omega (arith, class.1.within, length-map (all_headers headers) (targets_of headers))

-- the name that an edge leads to, from the class of a name
pub record Above (headers : Headers) (low : Name) (to : ℕ) : Type 0 where
  pub name : Name
  pub is : number_of headers name ≡ Some to
  pub below : IsDirectlyBelow headers low name

pub above_edge : (headers : Headers) (from to : ℕ) (low : Name) → IsEdge (graph_of headers) from to → number_of headers low ≡ Some from → Above headers low to
above_edge headers from to low e low_is =
    let found = edge_of headers from to e in
    let class = class_of_number headers low from low_is in
    record {
      name = found.above.name;
      is = found.above.is;
      below = below_each_super headers low found.above.name found.header (class.1.named ∙ sym class.1.there ∙ found.at) found.above.one;
    }

-- ---- paths by the numbers of names

one_name : (headers : Headers) (name other : Name) (number : ℕ) → number_of headers name ≡ Some number → number_of headers other ≡ Some number → name ≡ other
one_name headers name other number is other_is =
    let class = class_of_number headers name number is in
    let same = class_of_number headers other number other_is in
    sym class.1.same ∙ ap (λ (header : Header). header.name) (same_Some class.0 same.0 (sym class.1.there ∙ same.1.there)) ∙ same.1.same

pub below_from_path : (headers : Headers) → {from to : ℕ} → IsPath (graph_of headers) from to → (low high : Name) → number_of headers low ≡ Some from → number_of headers high ≡ Some to → IsBelow headers low high
below_from_path headers (edge from to e) low high low_is high_is =
    let above = above_edge headers from to low e low_is in
    directly low high (subst (λ (name : Name). IsDirectlyBelow headers low name) (one_name headers above.name high to above.is high_is) above.below)
below_from_path headers (onwards from middle to e rest) low high low_is high_is =
    let above = above_edge headers from middle low e low_is in
    further low above.name high above.below (below_from_path headers rest above.name high above.is high_is)

-- what is below another is there
pub low_is_there : (headers : Headers) {low high : Name} → IsBelow headers low high → (number : ℕ) × (number_of headers low ≡ Some number)
low_is_there headers (directly low high above) =
    let names = names_above headers above in
    let class = number_of_class headers low names.header names.is in
    (class.0, class.1.is)
low_is_there headers (further low middle high above rest) =
    let names = names_above headers above in
    let class = number_of_class headers low names.header names.is in
    (class.0, class.1.is)

pub path_from_below : (headers : Headers) → {low high : Name} → IsBelow headers low high → (from to : ℕ) → number_of headers low ≡ Some from → number_of headers high ≡ Some to → IsPath (graph_of headers) from to
path_from_below headers (directly low high above) from to low_is high_is = edge from to (edge_above headers low high from to above low_is high_is)
path_from_below headers (further low middle high above rest) from to low_is high_is =
    let next = low_is_there headers rest in
    onwards from next.0 to (edge_above headers low middle from next.0 above low_is next.1) (path_from_below headers rest next.0 to next.1 high_is)

-- ---- paths by the classes at numbers, in order

pub path_is_below : (headers : Headers) → IsInOrder headers → (from to : ℕ) (low high : Header) → slice_get (all_headers headers) from ≡ Some low → slice_get (all_headers headers) to ≡ Some high → IsPath (graph_of headers) from to ↔ IsBelow headers low.name high.name
path_is_below headers in_order from to low high low_is high_is =
    let from_is = (number_of_itself headers in_order from low low_is).is in
    let to_is = (number_of_itself headers in_order to high high_is).is in
    (λ path. below_from_path headers path low.name high.name from_is to_is, λ below. path_from_below headers below from to from_is to_is)

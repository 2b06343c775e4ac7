-- What holds of a class where it holds of those above it; and that each class has superinterfaces.
use Rattle.std.proofs.Common.{◌≡◌, ◌<◌, ◌+◌, ℕ, zero, suc, false, eqb, List, [], ◌∷◌, ◌++◌, length, Option, Some, None, refl, sym, subst, arith}
use Rattle.std.specs.List.{AllByRecursion, IsDistinct}
use Rattle.std.proofs.lemmas.Bool.{ne_eqb, or_right}
use Rattle.std.proofs.lemmas.Map.Keys.{IsDistinct-cons}
use Rattle.std.proofs.lemmas.Map.Steps.{length-le_from_distinct_below}
use Rattle.class_model.specs.Laws.Lists.{AllByRecursion-weaker}
use Rattle.class_model.specs.declared.header.Header.{Header}
use Rattle.class_tree.specs.Headers.{Name, Headers, all_headers, class_named}
use Rattle.class_tree.specs.Inner.Graphs.{IsPath, edge}
use Rattle.class_tree.specs.Inner.Nodes.{number_of, graph_of}
use Rattle.class_tree.specs.Interfaces.{IsWalk, done, next, IsInterfaceWalk, of_root, below}
use Rattle.class_tree.specs.Laws.Above.{directly_there}
use Rattle.class_tree.specs.Laws.Headers.{class_there}
use Rattle.class_tree.specs.Laws.Names.{IsOneName, one_name_first}
use Rattle.class_tree.specs.Subtype.{IsDirectlyBelow, superclass, interface}
use Rattle.class_tree.proofs.Acyclic.{path_and_edge, each_of}
use Rattle.class_tree.proofs.ClassHolds.{is_sound}
use Rattle.class_tree.proofs.GraphPaths.{edge_above, below_from_path}
use Rattle.class_tree.proofs.Places.{number_of_class}
use Rattle.class_tree.proofs.TreeClasses.{HoldsSteps}

-- ---- from those above to a class

-- the numbers of classes, each once, from which paths lead to this one
record AreMet (headers : Headers) (met : List ℕ) (number : ℕ) : Type 0 where
  paths : AllByRecursion (λ one. IsPath (graph_of headers) one number) met
  distinct : IsDistinct eqb met
  within : AllByRecursion (λ one. one < length (all_headers headers)) met

module _ (headers : Headers) (tree : HoldsSteps headers) (P : Name → Type 0)
    (step : (name : Name) (header : Header) → class_named headers name ≡ Some header
    → ((above : Name) → IsDirectlyBelow headers name above → P above) → P name) where
  -- a way upwards ends before it has more classes than there are
  upwards : (fuel : ℕ) (met : List ℕ) (name : Name) (header : Header) → class_named headers name ≡ Some header
      → length (all_headers headers) < length met + fuel
      → ((number : ℕ) → number_of headers name ≡ Some number → AreMet headers met number)
      → P name
  upwards zero met name header is many are =
      let own = number_of_class headers name header is in
      let way = are own.0 own.1.is in
      absurd (omega (arith, many, length-le_from_distinct_below met (length (all_headers headers)) way.distinct (each_of (λ one. one < length (all_headers headers)) met way.within)))
  upwards (suc fuel) met name header is many are = step name header is (λ above direct.
      let own = number_of_class headers name header is in
      let way = are own.0 own.1.is in
      let class = class_there headers above (directly_there headers (is_sound headers tree.hold) direct) in
      upwards fuel (own.0 ∷ met) above class.0 class.1 (omega (arith, many)) (λ number numbered.
      let up = edge_above headers name above own.0 number direct own.1.is numbered in
      record {
        paths = (edge _ _ up, AllByRecursion-weaker (λ one. IsPath (graph_of headers) one own.0) (λ one. IsPath (graph_of headers) one number) (λ one path. path_and_edge path up) met way.paths);
        distinct = IsDistinct-cons eqb own.0 met
            (AllByRecursion-weaker (λ one. IsPath (graph_of headers) one own.0) (λ one. eqb own.0 one ≡ false) (λ one path. ne_eqb own.0 one (λ same.
            (is_sound headers tree.hold).acyclic name (below_from_path headers (subst (λ (n : ℕ). IsPath (graph_of headers) n own.0) (sym same) path) name name own.1.is own.1.is))) met way.paths)
            way.distinct;
        within = (own.1.within, way.within);
      }))

  pub holds_upwards : (name : Name) (header : Header) → class_named headers name ≡ Some header → P name
  unfolding IsDistinct
  holds_upwards name header is =
      upwards (suc (length (all_headers headers))) [] name header is (omega arith) (λ number numbered. record { paths = tt; distinct = tt; within = tt })

-- ---- superinterfaces

-- the interfaces of a class and all that it has
record HasWalks (headers : Headers) (name : Name) : Type 0 where
  header : Header
  is : class_named headers name ≡ Some header
  own : List Name
  own_walked : IsWalk headers header.interfaces own
  walk : List Name
  walked : IsInterfaceWalk headers name walk

walks_of : (headers : Headers) (names : List Name) → ((name : Name) → IsOneName names name → HasWalks headers name)
    → (walk : List Name) × IsWalk headers names walk
walks_of headers [] each = ([], done)
walks_of headers (name ∷ names) each =
    let first = each name (one_name_first name name names refl) in
    let rest = walks_of headers names (λ other one. each other (or_right _ _ one)) in
    (name ∷ (first.own ++ rest.0), next name first.header names first.own rest.0 first.is first.own_walked rest.1)

has_walks : (headers : Headers) (name : Name) (header : Header) → class_named headers name ≡ Some header
    → ((above : Name) → IsDirectlyBelow headers name above → HasWalks headers above) → HasWalks headers name
has_walks headers name header is above = record {
  header = header;
  is = is;
  own = own.0;
  own_walked = own.1;
  walk = all.0;
  walked = all.1;
} where
  own : (walk : List Name) × IsWalk headers header.interfaces walk
  own = walks_of headers header.interfaces (λ other one. above other (interface name other header is one))

  by : (super : Option Name) → header.super_name ≡ super → (walk : List Name) × IsInterfaceWalk headers name walk
  by None none = (own.0, of_root name header own.0 is none own.1)
  by (Some high) some =
      let more = above high (superclass name high header is some) in
      (own.0 ++ more.walk, below name high header own.0 more.walk is some own.1 more.walked)

  all : (walk : List Name) × IsInterfaceWalk headers name walk
  all = by header.super_name refl

pub class_is_walked : (headers : Headers) → HoldsSteps headers → (name : Name) (header : Header) → class_named headers name ≡ Some header
    → (walk : List Name) × IsInterfaceWalk headers name walk
class_is_walked headers tree name header is =
    let has = holds_upwards headers tree (HasWalks headers) (has_walks headers) name header is in
    (has.walk, has.walked)

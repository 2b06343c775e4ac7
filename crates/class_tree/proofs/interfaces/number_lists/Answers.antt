use Rattle.std.proofs.Common.{◌≡◌, ◌+◌, ◌<◌, ◌∙◌, ℕ, List, [], ◌++◌, length, filter_map, get_or, slice_get, unwrap_or, option_map, Option, Some, None, IsSome, option_to_list, Bor, refl, sym, ap, subst, inl, inr, arith}
use Rattle.std.specs.List.{All}
use Rattle.std.specs.Option.{option_copied}
use Rattle.std.proofs.lemmas.Option.{slice_get_cases, none-some}
use Rattle.class_model.specs.declared.header.Header.{Header}
use Rattle.class_tree.specs.Headers.{Headers, all_headers}
use Rattle.class_tree.specs.Inner.Graphs.{IsOneOf}
use Rattle.class_tree.specs.Inner.InterfaceNumbers.{AreNumbersOf, with_numbers, with_lists}
use Rattle.class_tree.specs.Inner.Nodes.{number_of}
use Rattle.class_tree.specs.Steps.{supers}
use Rattle.class_tree.proofs.InterfaceLists.{Made, class_numbers, one_made, all_made, targets_are, some_target, targets_below, next_below, targets_listed, superclass_within, interfaces_within, IsListed, superclass_once, interfaces_once}
use Rattle.class_tree.proofs.interfaces.number_lists.Goals as goal
use Rattle.class_tree.proofs.interfaces.number_lists.Goals.{After-get-in-loop-number, After-split_supers-superclass}
use Rattle.class_tree.proofs.HierarchyChecks.{as_many_nodes}

-- a number below the length is that of a class
some_read : {R : Type 0} (found : Option (Bor R)) (items : List R) (at : ℕ) → at < length items → option_copied found ≡ slice_get items at → IsSome found
some_read None items at within is = elim (slice_get_cases items at).1 [
  | inl found ↦ absurd (none-some found.0 (is ∙ found.2))
  | inr past ↦ absurd (omega (arith, past.0))
]
some_read (Some found) items at within is = refl

pub unwrap-header-requires : goal.unwrap-header-requires
unwrap-header-requires c =
    let below = next_below c.args.headers.now c.requires.hierarchy c.args.graph.now c.requires.graph c.args.order.now c.requires.topological c.loop-number.number-index c.loop-number-test.true in
    some_read c.get.result (all_headers c.args.headers.now) (get_or c.args.order.now c.loop-number.number-index 0) below c.get.ensures

pub get-requires-in-loop-number : goal.get-requires-in-loop-number
get-requires-in-loop-number c =
    let below = next_below c.args.headers.now c.requires.hierarchy c.args.graph.now c.requires.graph c.args.order.now c.requires.topological c.loop-number.number-index c.loop-number-test.true in
    omega (arith, below, ap length c.requires.graph, as_many_nodes c.args.headers.now)

-- what is known of the class of the next number
record Next (headers : Headers) (number : ℕ) (header : Header) (read : List ℕ) : Type 0 where
  there : slice_get (all_headers headers) number ≡ Some header
  targets : read ≡ filter_map (number_of headers) (supers header)

next_class : (c : After-get-in-loop-number) → Next c.args.headers.now (get_or c.args.order.now c.loop-number.number-index 0) c.unwrap-header.result.now c.get-in-loop-number.result.now
next_class c =
    let number = get_or c.args.order.now c.loop-number.number-index 0 in
    let header = c.unwrap-header.result.now in
    let there : slice_get (all_headers c.args.headers.now) number ≡ Some header = sym c.get.ensures ∙ ap option_copied c.unwrap-header.ensures in
    record {
      there = there;
      targets = targets_are c.args.headers.now c.requires.hierarchy c.args.graph.now c.requires.graph number header there c.get-in-loop-number.result.now c.get-in-loop-number.ensures;
    }

pub split_supers-superclass-requires : goal.split_supers-superclass-requires
split_supers-superclass-requires c = λ some.
    let n = next_class c in
    subst (λ (l : List ℕ). 0 < length l) (sym n.targets) (some_target c.args.headers.now c.requires.hierarchy c.args.graph.now c.requires.graph (get_or c.args.order.now c.loop-number.number-index 0) c.unwrap-header.result.now n.there some)

-- those that the class names are of classes
parts_below : (c : After-split_supers-superclass) → Next c.args.headers.now (get_or c.args.order.now c.loop-number.number-index 0) c.unwrap-header.result.now c.get-in-loop-number.result.now → All (λ number. number < length c.loop-number.marks) (option_to_list c.split_supers-superclass.result.0 ++ c.split_supers-superclass.result.1.now)
parts_below c n =
    let below = targets_below c.args.headers.now c.requires.hierarchy c.args.graph.now c.requires.graph (get_or c.args.order.now c.loop-number.number-index 0) c.unwrap-header.result.now n.there in
    subst (λ (count : ℕ). All (λ number. number < count) (option_to_list c.split_supers-superclass.result.0 ++ c.split_supers-superclass.result.1.now)) (sym c.loop-number.invariant.count)
    (subst (All (λ number. number < length (all_headers c.args.headers.now))) (sym n.targets ∙ c.split_supers-superclass.ensures.parts) below)

-- those that the class names have their lists
listed : (c : After-split_supers-superclass) → Next c.args.headers.now (get_or c.args.order.now c.loop-number.number-index 0) c.unwrap-header.result.now c.get-in-loop-number.result.now → (one : ℕ) → IsOneOf (option_to_list c.split_supers-superclass.result.0 ++ c.split_supers-superclass.result.1.now) one → IsListed c.args.headers.now c.loop-number.lists one
listed c n = λ one is.
    targets_listed c.args.headers.now c.requires.hierarchy c.args.graph.now c.requires.graph c.args.order.now c.requires.topological c.loop-number.number-index c.loop-number-test.true c.loop-number.lists c.loop-number.marks c.loop-number.invariant c.unwrap-header.result.now n.there one
    (subst (λ (numbers : List ℕ). IsOneOf numbers one) (sym (sym n.targets ∙ c.split_supers-superclass.ensures.parts)) is)

classes_below : (c : After-split_supers-superclass) → Next c.args.headers.now (get_or c.args.order.now c.loop-number.number-index 0) c.unwrap-header.result.now c.get-in-loop-number.result.now → All (λ number. number < length (all_headers c.args.headers.now)) (option_to_list c.split_supers-superclass.result.0 ++ c.split_supers-superclass.result.1.now)
classes_below c n =
    subst (All (λ number. number < length (all_headers c.args.headers.now))) (sym n.targets ∙ c.split_supers-superclass.ensures.parts)
    (targets_below c.args.headers.now c.requires.hierarchy c.args.graph.now c.requires.graph (get_or c.args.order.now c.loop-number.number-index 0) c.unwrap-header.result.now n.there)

pub put_list-requires-clause-number : goal.put_list-requires-clause-number
put_list-requires-clause-number c =
    let below = next_below c.args.headers.now c.requires.hierarchy c.args.graph.now c.requires.graph c.args.order.now c.requires.topological c.loop-number.number-index c.loop-number-test.true in
    omega (arith, below, c.loop-number.invariant.count)

pub put_list-requires-clause-superclass : goal.put_list-requires-clause-superclass
put_list-requires-clause-superclass c =
    let at = goal.at.put_list-requires-clause-superclass c in
    superclass_within (λ number. number < length c.loop-number.marks) c.split_supers-superclass.result.0 c.split_supers-superclass.result.1.now (parts_below at.After-split_supers-superclass (next_class at.After-get-in-loop-number))

pub put_list-requires-clause-interfaces : goal.put_list-requires-clause-interfaces
put_list-requires-clause-interfaces c =
    let at = goal.at.put_list-requires-clause-interfaces c in
    interfaces_within (λ number. number < length c.loop-number.marks) c.split_supers-superclass.result.0 c.split_supers-superclass.result.1.now (parts_below at.After-split_supers-superclass (next_class at.After-get-in-loop-number))

pub put_list-requires-clause-above : goal.put_list-requires-clause-above
put_list-requires-clause-above c =
    let at = goal.at.put_list-requires-clause-above c in
    let n = next_class at.After-get-in-loop-number in
    superclass_once c.args.headers.now c.requires.hierarchy c.loop-number.lists c.split_supers-superclass.result.0 c.split_supers-superclass.result.1.now (classes_below at.After-split_supers-superclass n) (listed at.After-split_supers-superclass n)

pub put_list-requires-clause-only : goal.put_list-requires-clause-only
put_list-requires-clause-only c =
    let at = goal.at.put_list-requires-clause-only c in
    let n = next_class at.After-get-in-loop-number in
    interfaces_once c.args.headers.now c.requires.hierarchy c.loop-number.lists c.split_supers-superclass.result.0 c.split_supers-superclass.result.1.now (classes_below at.After-split_supers-superclass n) (listed at.After-split_supers-superclass n)

-- the list that is put
abbrev put_of : List (List ℕ) → Option ℕ → List ℕ → List ℕ
put_of lists superclass interfaces = with_numbers [] (with_lists lists interfaces ++ unwrap_or (option_map (λ one. get_or lists one []) superclass) [])

list_is : (c : After-split_supers-superclass) → Next c.args.headers.now (get_or c.args.order.now c.loop-number.number-index 0) c.unwrap-header.result.now c.get-in-loop-number.result.now → AreNumbersOf c.args.headers.now c.unwrap-header.result.now.name (put_of c.loop-number.lists c.split_supers-superclass.result.0 c.split_supers-superclass.result.1.now)
list_is c n =
    let headers = c.args.headers.now in
    let order = c.args.order.now in
    let at = c.loop-number.number-index in
    let lists = c.loop-number.lists in
    let superclass = c.split_supers-superclass.result.0 in
    let interfaces = c.split_supers-superclass.result.1.now in
    let each = targets_listed headers c.requires.hierarchy c.args.graph.now c.requires.graph order c.requires.topological at c.loop-number-test.true lists c.loop-number.marks c.loop-number.invariant c.unwrap-header.result.now n.there in
    class_numbers headers c.requires.hierarchy lists c.requires.in_order (get_or order at 0) c.unwrap-header.result.now n.there superclass interfaces (sym n.targets ∙ c.split_supers-superclass.ensures.parts) c.split_supers-superclass.ensures.superclass each

pub loop-number-preserved : goal.loop-number-preserved
loop-number-preserved c =
    let at = goal.at.loop-number-preserved c in
    let n = next_class at.After-get-in-loop-number in
    let list = put_of c.loop-number.lists c.split_supers-superclass.result.0 c.split_supers-superclass.result.1.now in
    subst (λ (lists : List (List ℕ)). Made c.args.headers.now c.args.order.now (c.loop-number.number-index + 1) lists c.put_list.new.marks) (sym c.in_ok-put_list.ensures.list)
    (one_made c.args.headers.now c.args.order.now c.loop-number.number-index c.loop-number.lists c.loop-number.marks c.loop-number.invariant c.loop-number-test.true c.unwrap-header.result.now n.there list (list_is at.After-split_supers-superclass n) c.put_list.new.marks c.put_list.auto.marks c.in_ok-put_list.ensures.marks)

pub returns : goal.returns
returns c =
    all_made c.args.headers.now c.args.order.now c.loop-number.number-index c.loop-number.lists c.loop-number.marks c.loop-number.invariant c.loop-number-test.false
    (λ node below. c.requires.all node (omega (arith, below, as_many_nodes c.args.headers.now, ap length c.requires.graph)))

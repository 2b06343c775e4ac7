-- Each edge of a plan is written: control falls on to its target, an item leads there, or blocks between write nothing.
use Rattle.std.proofs.Common.{◌≡◌, ◌+◌, ◌<◌, ◌≤◌, ℕ, zero, suc, Bool, true, false, List, [], ◌∷◌, ◌++◌, drop, length, take, slice_get, Some, refl, sym, ap, subst, ◌∙◌, arith}
use Rattle.std.specs.List.{AllByRecursion, find}
use Rattle.std.proofs.lemmas.Bool.{eq-eqb, false≢true}
use Rattle.std.proofs.lemmas.Option.{none-some, same_Some}
use Rattle.flow_code.specs.FlatCode.{point_at}
use Rattle.flow_code.specs.declared.point.Point.{Point}
use Rattle.making_code.specs.Items.{WItem}
use Rattle.plan_flow.specs.Laws.WrittenBlocks.{block_finished, split_at}
use Rattle.plan_flow.specs.Laws.WrittenPads.{ComesTo, StandsFirst, comes_nowhere, comes_over, pad_block}
use Rattle.plan_flow.specs.Plans.{AllLead, MadeEdge, Plan}
use Rattle.plan_flow.specs.Written.Blocks.{Block, BlockOf, blocks_of, instruction_block}
use Rattle.plan_flow.specs.Written.Finish.{End, Finished, begins_point, comes_to, end_items, end_of, finish, finished_items, goto_end, is_empty}
use Rattle.plan_flow.specs.Written.FramedCode.{is_led_to}
use Rattle.plan_flow.specs.Written.Routes.{AreEdgeRoutes, Route, RouteEdge, Routes, is_kind}
use Rattle.plan_flow.specs.Written.WrittenCode.{Form, block_items, in_form, short, start_of, wide, written_items}
use Rattle.plan_flow.specs.declared.edge.Edge.{Edge}
use Rattle.plan_flow.specs.declared.edge.EdgeKind.{EdgeKind}
use Rattle.plan_flow.specs.declared.edge.EdgeKind.TheVariants as edges
use Rattle.written_types.proofs.BlockEnds.{goto_item}
use Rattle.written_types.proofs.BlockKinds.{finished}
use Rattle.written_types.proofs.CarriedBlocks.{Inside, stands_inside}
use Rattle.written_types.proofs.EdgeTargets.{edges_fit}
use Rattle.written_types.proofs.EdgesWritten.{EdgeWritten, is_led, over_empties}
use Rattle.written_types.proofs.FramedBodies.{leads_to_item}
use Rattle.written_types.proofs.Given.{Given}
use Rattle.written_types.proofs.NewItems.{OwnBlock, own_block}
use Rattle.written_types.proofs.Placing.{items_and_end}
use Rattle.written_types.specs.Writing.{Writing, items_in}

-- ---- lists

dropped_at : {A : Type 0} (count n : ℕ) (all : List A) → slice_get (drop count all) n ≡ slice_get all (count + n)
dropped_at zero n all = ap (slice_get all) (the_same n (0 + n) (omega arith)) where
  the_same : (a b : ℕ) → a ≡ b → a ≡ b
  the_same a b e = e
dropped_at (suc count) n [] = refl
dropped_at (suc count) n (first ∷ all) = dropped_at count n all ∙ ap (slice_get (first ∷ all)) (the_same (suc (count + n)) (suc count + n) (omega arith)) where
  the_same : (a b : ℕ) → a ≡ b → a ≡ b
  the_same a b e = e

among_taken : {A : Type 0} (P : A → Type 0) (count n : ℕ) (all : List A) (item : A) → n < count → slice_get all n ≡ Some item
    → AllByRecursion P (take count all)
    → P item
among_taken P zero n all item less is have = absurd (omega (arith, less))
among_taken P (suc count) n [] item less is have = absurd (none-some item is)
among_taken P (suc count) zero (first ∷ all) item less is have = subst P (same_Some first item is) have.0
among_taken P (suc count) (suc n) (first ∷ all) item less is have = among_taken P count n all item (omega (arith, less)) is have.1

-- where one passes, one is found
pub some_found : {A : Type 0} (test : A → Bool) (all : List A) (n : ℕ) (item : A) → slice_get all n ≡ Some item → test item ≡ true
    → (found : A) × (find test all ≡ Some found)
some_found test [] n item is passes = absurd (none-some item is)
some_found {A} test (first ∷ all) n item is passes = by (test first) refl n is (λ m there. some_found test all m item there passes) where
  by : (b : Bool) → test first ≡ b → (n : ℕ) → slice_get (first ∷ all) n ≡ Some item
      → ((m : ℕ) → slice_get all m ≡ Some item → (found : A) × (find test all ≡ Some found))
      → (found : A) × (find test (first ∷ all) ≡ Some found)
  by true told n there rest = (first, rw (told) refl)
  by false told zero there rest = absurd (false≢true (sym told ∙ ap test (same_Some first item there) ∙ passes))
  by false told (suc m) there rest = let found = rest m there in (found.0, rw (told) found.1)

-- the edge of a route of the same number as a plan's
pub route_edge : (plan : Plan) (effect : List Edge) (plans : List MadeEdge) (all : List RouteEdge) → AreEdgeRoutes effect plans all → AllLead plan effect plans
    → (n : ℕ) (made : MadeEdge) → slice_get plans n ≡ Some made
    → (edge : RouteEdge) × (slice_get all n ≡ Some edge) × (edge.to ≡ made.to)
route_edge plan [] [] [] are lead n made is = absurd (none-some made is)
route_edge plan [] [] (one ∷ all) are lead n made is = absurd are
route_edge plan [] (first ∷ plans) all are lead n made is = absurd are
route_edge plan (edge ∷ effect) [] all are lead n made is = absurd (none-some made is)
route_edge plan (edge ∷ effect) (first ∷ plans) [] are lead n made is = absurd are
route_edge plan (edge ∷ effect) (first ∷ plans) (one ∷ all) are lead zero made is =
    (one, refl, are.0.to ∙ sym lead.0.same_to ∙ ap (λ (m : MadeEdge). m.to) (same_Some first made is))
route_edge plan (edge ∷ effect) (first ∷ plans) (one ∷ all) are lead (suc n) made is = route_edge plan effect plans all are.1 lead.1 n made is

pub is_its_kind : (kind : EdgeKind) → is_kind kind kind ≡ true
is_its_kind edges.Next = refl
is_its_kind (edges.Jump number) = eq-eqb number number refl
is_its_kind (edges.Handler number) = eq-eqb number number refl

module _ (w : Writing) (given : Given w) where
  abbrev routes : Routes
  routes = given.setting.routes

  abbrev blocks : List Block
  blocks = blocks_of w.s routes

  abbrev place_of : ℕ → ℕ
  place_of to = start_of w.form w.blocks (begins_point to)

  -- ---- a goto at the end of a block

  pub goto_led : (front behind : List Finished) (one : Finished) (to : ℕ)
      → w.blocks ≡ front ++ (one ∷ behind)
      → one.end ≡ goto_end to
      → is_led_to (items_in w) (place_of to) ≡ true
  goto_led front behind one to is end_is =
      leads_to_item w number (place_of to) (goto_item to)
      (stands_inside w front behind one number (in_form w.form one.block.items) [] (goto_item to) inside)
      (rw (eq-eqb (place_of to) (place_of to) refl) refl) where
        number : ℕ
        number = length (written_items w.form front) + length (in_form w.form one.block.items)

        inside : Inside w front behind one number (in_form w.form one.block.items) (goto_item to ∷ [])
        inside = record {
          is = is;
          items = items_and_end w.form one ∙ ap (λ (end : End). in_form w.form one.block.items ++ end_items end) end_is;
          number_is = refl;
        }

  -- ---- pads

  pub pad_led : (of : BlockOf) (is_it : BlockOf → Bool) (edge : RouteEdge) (made : List ℕ) (place : ℕ)
      → StandsFirst w.s routes is_it (pad_block w.s of edge made) place
      → is_led_to (items_in w) (place_of edge.to) ≡ true
  pad_led of is_it edge made place stands =
      goto_led (take place w.blocks) (drop (suc place) w.blocks) one edge.to (split_at w.blocks place one found)
      (rw (comes_nowhere w.s.flat edge.to (drop (suc place) blocks) (stands.no_point_behind edge.to)) refl) where
        one : Finished
        one = record {
          block = pad_block w.s of edge made;
          end = end_of w.s.flat (pad_block w.s of edge made) (finish w.s.flat (drop (suc place) blocks));
        }

        found : slice_get w.blocks place ≡ Some one
        found =
            ap (λ (all : List Finished). slice_get all place) given.setting.blocks
            ∙ block_finished w.s.flat blocks place (pad_block w.s of edge made) stands.is_there

  -- ---- an instruction that goes to its target

  empty_in_form : (form : Form) (one : Finished) → finished_items one ≡ [] → is_empty (block_items form one) ≡ true
  empty_in_form short one none = ap is_empty none
  empty_in_form wide one none = ap (λ (items : List WItem). is_empty (in_form wide items)) none

  pub decided_written : (from to : ℕ) (point : Point) (route : Route)
      → point_at w.s.flat from ≡ Some point
      → slice_get routes from ≡ Some (Some route)
      → (instruction_block w.s from point route).leaves ≡ Some to
      → EdgeWritten w from to
  decided_written from to point route there is_route leaves = by (comes_to to behind) refl where
    own : OwnBlock w from point route
    own = own_block w given from point route there is_route

    one : Finished
    one = own.one

    behind : List Finished
    behind = drop (suc own.number) w.blocks

    split : w.blocks ≡ take own.number w.blocks ++ (one ∷ behind)
    split = split_at w.blocks own.number one own.is

    end_is : one.end ≡ end_of w.s.flat one.block behind
    end_is = (finished w given (edges_fit w given) (take own.number w.blocks) behind one split).end_is

    leaves_here : one.block.leaves ≡ Some to
    leaves_here = ap (λ (b : Block). b.leaves) own.is_block ∙ leaves

    by : (b : Bool) → comes_to to behind ≡ b → EdgeWritten w from to
    by false apart =
        is_led (goto_led (take own.number w.blocks) behind one to split (end_is ∙ rw (leaves_here, apart) refl))
    by true comes =
        let c = comes_over to behind comes in
        over_empties own.number (suc own.number + c.number) one c.first own.is (ap (λ (b : Block). b.of) own.is_block)
        (sym (dropped_at (suc own.number) c.number w.blocks) ∙ c.is_there) c.begins (omega arith)
        (λ number between above under is. empty_between c number between above under is) where
          empty_between : (c : ComesTo to behind) (number : ℕ) (between : Finished)
              → own.number < number
              → number < suc own.number + c.number
              → slice_get w.blocks number ≡ Some between
              → is_empty (block_items w.form between) ≡ true
          empty_between c number between above under is =
              let more = split_sum number (suc own.number) (omega (arith, above)) in
              let less : more.0 < c.number = (let sum = more.1 in omega (arith, sum, under)) in
              empty_in_form w.form between
              (among_taken (λ (other : Finished). finished_items other ≡ []) c.number more.0 behind between less
              (dropped_at (suc own.number) more.0 w.blocks ∙ ap (slice_get w.blocks) (sym more.1) ∙ is) c.empty) where
                split_sum : (a b : ℕ) → b ≤ a → (more : ℕ) × (a ≡ b + more)
                split_sum a zero low = (a, omega arith)
                split_sum zero (suc b) low = absurd (omega (arith, low))
                split_sum (suc a) (suc b) low = let rest = split_sum a b (omega (arith, low)) in let sum = rest.1 in (rest.0, omega (arith, sum))

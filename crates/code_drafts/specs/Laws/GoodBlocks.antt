-- The blocks of a valid plan's code: each of their items has its form and leads to blocks that stand, and the last block writes something.
use Rattle.std.proofs.Common.{◌≡◌, ◌≢◌, ◌+◌, ℕ, zero, suc, Bool, true, false, List, [], ◌∷◌, ◌++◌, length, map, slice_get, flat_map, Option, Some, None, refl, sym, ap, subst, ◌∙◌, arith}
use Rattle.std.specs.List.{AllByRecursion}
use Rattle.std.proofs.lemmas.List.{append_assoc}
use Rattle.std.proofs.lemmas.Option.{none-some, same_Some}
use Rattle.class_model.specs.Instructions.{targets}
use Rattle.class_model.specs.declared.descriptor.Kind.TheVariants as kinds
use Rattle.class_model.specs.declared.instr.Imm.TheVariants as imms
use Rattle.class_model.specs.declared.instr.Instr.{Instr}
use Rattle.class_model.specs.declared.instr.Instr.TheVariants.{Const, IfNull, Throw}
use Rattle.class_model.specs.declared.opcodes.TheConstants.{IFNONNULL}
use Rattle.code_drafts.specs.FlatForms.{AreFormed, IsFormed}
use Rattle.code_drafts.specs.Laws.FittingItems.{AllFit, Fits, OptionFits, fits_carried, make_code_fits, template_fits}
use Rattle.code_drafts.specs.Laws.GoingOn.{GoesOn, OptionGoesOn, carried_jumps, decided_is, falls_on, jumps_to, template_goes}
use Rattle.code_drafts.specs.Laws.ReachedStarts.{IsReached, LeadsSome, catches_lead, edge_at_reaches, edge_reaches, falls_to, jumps_lead, jumps_there, next_reached, reached_starts}
use Rattle.flow_code.specs.declared.point.FlatInstr.{FlatInstr}
use Rattle.flow_code.specs.declared.point.FlatInstr.TheVariants.{Of, NullTest}
use Rattle.flow_code.specs.declared.point.Point.{Point}
use Rattle.making_code.specs.Items.{WCatch, WInstr, WItem, ahead, carried, item, load, plain, to_point}
use Rattle.making_code.specs.MakeCode.{make_code}
use Rattle.making_code.specs.Units.{own}
use Rattle.plan_flow.specs.Laws.WrittenBlocks.{begins_with_first, holds_of_both}
use Rattle.plan_flow.specs.PlanScope.{PlanScope}
use Rattle.plan_flow.specs.PlanSlots.{held}
use Rattle.plan_flow.specs.PlanTable.{targets_at}
use Rattle.plan_flow.specs.Plans.{IsValid, Plan}
use Rattle.plan_flow.specs.Written.Blocks.{Block, BlockOf, before_point, blocks_of, handler_pad, handler_pad_of, handler_pads, instruction_block, is_decided, jump_pad, jump_pad_of, jump_pads, leaves_to, make_block, making, next_block, of_reached, on_next_edge, point_blocks, state_written}
use Rattle.plan_flow.specs.Written.Finish.{is_empty}
use Rattle.plan_flow.specs.Written.Routes.{IsRouted, Route, RouteEdge, Routes, edge_by}
use Rattle.plan_flow.specs.Written.Templates.{as_it_is, catches_at, items_at, jump_targets, null_test, template}
use Rattle.plan_flow.specs.declared.edge.EdgeKind.{EdgeKind}
use Rattle.plan_flow.specs.declared.edge.EdgeKind.TheVariants as edges
use Rattle.virtual_state.specs.States.{State}
use Rattle.virtual_state.specs.declared.slot.Slot.{Slot}
use Rattle.virtual_state.specs.declared.slot.Slot.TheVariants.{Plain, Virt, Unusable}

-- ---- each block, by those behind it

abbrev pub Each : {A : Type 0} → (A → List A → Type 0) → List A → Type 0
Each P [] = Unit {0}
Each P (block ∷ blocks) = P block blocks × Each P blocks

each_append : (P : Block → List Block → Type 0) (left right : List Block)
    → Each (λ block behind. P block (behind ++ right)) left
    → Each P right
    → Each P (left ++ right)
each_append P [] right all others = others
each_append P (block ∷ left) right all others = (all.0, each_append P left right all.1 others)

each_anywhere : (P : Block → List Block → Type 0) (blocks : List Block)
    → AllByRecursion (λ (block : Block). (behind : List Block) → P block behind) blocks
    → Each P blocks
each_anywhere P [] all = tt
each_anywhere P (block ∷ blocks) all = (all.0 blocks, each_anywhere P blocks all.1)

pub all_reached : (P : Block → Type 0) (blocks : ℕ → Point → Route → List Block) (from : ℕ) (points : List Point) (routes : Routes)
    → ((number : ℕ) (point : Point) (route : Route) → slice_get points number ≡ Some point → slice_get routes number ≡ Some (Some route)
    → AllByRecursion P (blocks (from + number) point route))
    → AllByRecursion P (of_reached blocks from points routes)
all_reached P blocks from [] routes each = tt
all_reached P blocks from (point ∷ points) [] each = tt
all_reached P blocks from (point ∷ points) (None ∷ routes) each =
    all_reached P blocks (suc from) points routes (λ number one route is is_route.
    subst (λ (n : ℕ). AllByRecursion P (blocks n one route)) (further number) (each (suc number) one route is is_route)) where
      further : (n : ℕ) → from + suc n ≡ suc from + n
      further n = omega arith
all_reached P blocks from (point ∷ points) (Some route ∷ routes) each =
    holds_of_both P (blocks from point route) (of_reached blocks (suc from) points routes)
    (subst (λ (n : ℕ). AllByRecursion P (blocks n point route)) (zeroth from) (each 0 point route refl refl))
    (all_reached P blocks (suc from) points routes (λ number one onwards is is_route.
    subst (λ (n : ℕ). AllByRecursion P (blocks n one onwards)) (further number) (each (suc number) one onwards is is_route))) where
      zeroth : (n : ℕ) → n + 0 ≡ n
      zeroth n = omega arith

      further : (n : ℕ) → from + suc n ≡ suc from + n
      further n = omega arith

pub all_flat : (P : Block → Type 0) (of : RouteEdge → List Block) (all : List RouteEdge)
    → ((number : ℕ) (edge : RouteEdge) → slice_get all number ≡ Some edge → AllByRecursion P (of edge))
    → AllByRecursion P (flat_map of all)
all_flat P of [] each = tt
all_flat P of (edge ∷ others) each =
    holds_of_both P (of edge) (flat_map of others) (each 0 edge refl) (all_flat P of others (λ number one is. each (suc number) one is))

-- ---- good blocks

-- an item has its form, and leads to blocks that stand
pub record IsFar (s : PlanScope) (routes : Routes) (one : WItem) : Type 0 where
  pub fits : Fits s (length one.targets) one.instr
  pub targets : AllByRecursion (LeadsSome s routes) one.targets
  pub catches : AllByRecursion (λ (catch : WCatch). LeadsSome s routes catch.to) one.catches

-- a block writes something by itself, or goes elsewhere at its end
pub data Closes (block : Block) : Type 0 where
  writes : is_empty block.items ≡ false → Closes block
  leaves : (to : ℕ) → block.leaves ≡ Some to → Closes block

-- a test of a local for null
abbrev pub test_items : ℕ → List WCatch → List WItem
test_items local catches =
    item (load kinds.Ref (own local))
    ∷ record {
      instr = plain (IfNull IFNONNULL 0);
      targets = ahead 3 ∷ [];
      catches = [];
    }
    ∷ item (plain (Const imms.Null))
    ∷ record { instr = plain Throw; targets = []; catches = catches }
    ∷ []

-- all items are so, or they are a test for null behind which something stands
pub data HasItems (s : PlanScope) (routes : Routes) (block : Block) (behind : List Block) : Type 0 where
  all_far : AllByRecursion (IsFar s routes) block.items → HasItems s routes block behind
  tests_null : (local : ℕ) (catches : List WCatch)
      → block.items ≡ test_items local catches
      → block.leaves ≡ None
      → AllByRecursion (λ (catch : WCatch). LeadsSome s routes catch.to) catches
      → behind ≢ []
      → HasItems s routes block behind

pub record IsGood (s : PlanScope) (routes : Routes) (block : Block) (behind : List Block) : Type 0 where
  pub closes : behind ≡ [] → Closes block
  pub leads : (to : ℕ) → block.leaves ≡ Some to → LeadsSome s routes (to_point to)
  pub items : HasItems s routes block behind

-- ---- make code

far_items : (s : PlanScope) (routes : Routes) (instrs : List WInstr) → AllFit s instrs → AllByRecursion (IsFar s routes) (map item instrs)
far_items s routes [] fit = tt
far_items s routes (instr ∷ instrs) fit = (record { fits = fit.0; targets = tt; catches = tt }, far_items s routes instrs fit.1)

made_far : (s : PlanScope) (routes : Routes) (at : ℕ) (state : State) (made order : List ℕ)
    → AllByRecursion (IsFar s routes) (making s at state made order)
made_far s routes at state made order =
    far_items s routes (make_code s.flat at state made order) (make_code_fits s s.flat at state made order)

pad_good : (s : PlanScope) (routes : Routes) (of : BlockOf) (edge : RouteEdge) (made : List ℕ) → IsReached s routes edge.to
    → AllByRecursion (λ (block : Block). (behind : List Block) → IsGood s routes block behind)
    (make_block s of edge.to edge.state made edge.order (Some edge.to))
pad_good s routes of edge [] reached = tt
pad_good s routes of edge (site ∷ sites) reached = (
  λ behind. record {
    closes = λ none. leaves edge.to refl;
    leads = λ to is. subst (λ (n : ℕ). LeadsSome s routes (to_point n)) (same_Some edge.to to is) (reached_starts s routes edge.to reached);
    items = all_far (made_far s routes edge.to edge.state (site ∷ sites) edge.order);
  },
  tt,
)

some_not_none : (block : Block) (blocks : List Block) → block ∷ blocks ≢ []
some_not_none block blocks none = cc none

none_of_both : (left right : List Block) → left ++ right ≡ [] → right ≡ []
none_of_both [] right none = none
none_of_both (block ∷ left) right none = absurd (some_not_none block (left ++ right) none)

module _ (s : PlanScope) (plan : Plan) (routes : Routes) (valid : IsValid s plan) (routed : IsRouted s plan routes) (formed : AreFormed s.flat) where
  -- ---- the pads

  module _ (at : ℕ) (point : Point) (route : Route) (is_point : slice_get s.flat.points at ≡ Some point)
      (is_route : slice_get routes at ≡ Some (Some route)) where
    abbrev Anywhere : Block → Type 0
    Anywhere block = (behind : List Block) → IsGood s routes block behind

    jump_pads_good : AllByRecursion Anywhere (jump_pads s at point route)
    jump_pads_good =
        all_flat Anywhere (λ edge. jump_pad_of s at (is_decided point route) edge edge.by) route.edges (λ number edge is.
        of_kind edge (is_decided point route) edge.by
        (edge_at_reaches s plan routes valid routed at point route is_point is_route number edge is)) where
          of_kind : (edge : RouteEdge) (told : Bool) (by : EdgeKind)
              → IsReached s routes edge.to
              → AllByRecursion Anywhere (jump_pad_of s at told edge by)
          of_kind edge false (edges.Jump number) reached = pad_good s routes (jump_pad at number) edge edge.made reached
          of_kind edge true (edges.Jump number) reached = tt
          of_kind edge false edges.Next reached = tt
          of_kind edge true edges.Next reached = tt
          of_kind edge false (edges.Handler number) reached = tt
          of_kind edge true (edges.Handler number) reached = tt

    handler_pads_good : AllByRecursion Anywhere (handler_pads s at point route)
    handler_pads_good =
        all_flat Anywhere (λ edge. handler_pad_of s at edge edge.by) route.edges (λ number edge is.
        of_kind edge edge.by (edge_at_reaches s plan routes valid routed at point route is_point is_route number edge is)) where
          of_kind : (edge : RouteEdge) (by : EdgeKind) → IsReached s routes edge.to → AllByRecursion Anywhere (handler_pad_of s at edge by)
          of_kind edge (edges.Handler number) reached = pad_good s routes (handler_pad at number) edge edge.made reached
          of_kind edge edges.Next reached = tt
          of_kind edge (edges.Jump number) reached = tt

    -- ---- the instruction

    form_here : (instr : FlatInstr) → point.instr ≡ instr → IsFormed instr
    form_here instr is = subst IsFormed is (formed_at s.flat.points at formed is_point) where
      formed_at : (points : List Point) (number : ℕ) → AllByRecursion (λ (one : Point). IsFormed one.instr) points
          → slice_get points number ≡ Some point
          → IsFormed point.instr
      formed_at [] number all got = absurd (none-some point got)
      formed_at (first ∷ points) zero all got = subst (λ (one : Point). IsFormed one.instr) (same_Some first point got) all.0
      formed_at (first ∷ points) (suc number) all got = formed_at points number all.1 got

    leads_here : (to : ℕ) → leaves_to point route ≡ Some to → LeadsSome s routes (to_point to)
    leads_here to = by (is_decided point route) refl (edge_by route (edges.Jump 0)) refl where
      by : (told : Bool) → is_decided point route ≡ told → (edge : Option RouteEdge) → edge_by route (edges.Jump 0) ≡ edge
          → leaves_to point route ≡ Some to
          → LeadsSome s routes (to_point to)
      by false told edge found is = absurd (none-some to (sym (rw (told) refl) ∙ is))
      by true told None found is = absurd (none-some to (sym (rw (told, found) refl) ∙ is))
      by true told (Some edge) found is =
          subst (λ (n : ℕ). LeadsSome s routes (to_point n)) (same_Some edge.to to (sym (rw (told, found) refl) ∙ is))
          (reached_starts s routes edge.to (edge_reaches s plan routes valid routed at point route is_point is_route (edges.Jump 0) edge found))

    as_many : (first : ℕ) (all : List ℕ) → length (jump_targets at route first all) ≡ length all
    as_many first [] = refl
    as_many first (to ∷ all) = ap suc (as_many (suc first) all)

    abbrev before : State
    before = state_written route

    -- what is written of an instruction
    as_it_is_written : (class : ℕ) (instr : Instr) → point.instr ≡ Of class instr
        → template s at point.typed before route class instr ≡ None
        → items_at s at point before route ≡ as_it_is at point route class instr
    as_it_is_written class instr is none = rw (is, none) refl

    template_written : (class : ℕ) (instr : Instr) (instrs : List WInstr) → point.instr ≡ Of class instr
        → template s at point.typed before route class instr ≡ Some instrs
        → items_at s at point before route ≡ map item instrs
    template_written class instr instrs is some = rw (is, some) refl

    module _ (behind : List Block) (goes : IsReached s routes (suc at) → behind ≢ []) where
      carried_good : (class : ℕ) (instr : Instr) → point.instr ≡ Of class instr
          → template s at point.typed before route class instr ≡ None
          → IsGood s routes (instruction_block s at point route) behind
      carried_good class instr is none = record {
        closes = λ last. writes (ap is_empty written);
        leads = leads_here;
        items = all_far (subst (AllByRecursion (IsFar s routes)) (sym written) (far, tt));
      } where
        written : items_at s at point before route ≡ as_it_is at point route class instr
        written = as_it_is_written class instr is none

        same_targets : targets_at point.instr ≡ targets instr
        same_targets = ap targets_at is

        jumps : (number to : ℕ) → slice_get (targets_at point.instr) number ≡ Some to
            → (edge : RouteEdge) × (edge_by route (edges.Jump number) ≡ Some edge)
        jumps number to got =
            jumps_there s plan routes valid routed at point route is_point is_route number to got
            (rw (is) (carried_jumps s at point.typed before route class instr number to none
            (sym (ap (λ (all : List ℕ). slice_get all number) same_targets) ∙ got)).opens)

        undecided : (number to : ℕ) → slice_get (targets_at point.instr) number ≡ Some to → is_decided point route ≡ false
        undecided number to got =
            decided_is point route class instr is
            ∙ (carried_jumps s at point.typed before route class instr number to none
            (sym (ap (λ (all : List ℕ). slice_get all number) same_targets) ∙ got)).undecided

        far : IsFar s routes (record {
          instr = carried class instr;
          targets = jump_targets at route 0 (targets_at point.instr);
          catches = catches_at at point route;
        })
        far = record {
          fits =
              subst (λ (n : ℕ). Fits s n (carried class instr)) (sym (as_many 0 (targets_at point.instr) ∙ ap length same_targets))
              (fits_carried s class instr (form_here (Of class instr) is));
          targets = jumps_lead s plan routes valid routed at point route is_point is_route (targets_at point.instr) jumps undecided;
          catches = catches_lead s plan routes valid routed at point route is_point is_route;
        }

      template_good : (class : ℕ) (instr : Instr) (instrs : List WInstr) → point.instr ≡ Of class instr
          → template s at point.typed before route class instr ≡ Some instrs
          → IsGood s routes (instruction_block s at point route) behind
      template_good class instr instrs is some = record {
        closes =
            λ last. by_goes (subst (OptionGoesOn s at point.typed before class instr) some
            (template_goes s at point.typed before route class instr)) last;
        leads = leads_here;
        items =
            all_far (subst (AllByRecursion (IsFar s routes)) (sym (template_written class instr instrs is some))
            (far_items s routes instrs (subst (OptionFits s) some (template_fits s at point.typed before route class instr))));
      } where
        by_goes : GoesOn s at point.typed before class instr → behind ≡ [] → Closes (instruction_block s at point route)
        by_goes (falls_on falls opens) last =
            absurd (goes (falls_to s plan routes valid routed at point route is_point is_route (rw (is) falls) (rw (is) opens)) last)
        by_goes (jumps_to to told target opens) last =
            let jump = jumps_there s plan routes valid routed at point route is_point is_route 0 to (rw (is) target) (rw (is) opens) in
            leaves jump.0.to (rw (decided_is point route class instr is ∙ told, jump.1) refl)

      null_good : (local : ℕ) → point.instr ≡ NullTest local → IsGood s routes (instruction_block s at point route) behind
      null_good local is = by (held before local) refl where
        on : IsReached s routes (suc at)
        on = falls_to s plan routes valid routed at point route is_point is_route (rw (is) refl) (rw (is) refl)

        stays : leaves_to point route ≡ None
        stays = rw (is) refl

        tested : items_at s at point before route ≡ null_test at point route local
            → IsGood s routes (instruction_block s at point route) behind
        tested written = record {
          closes = λ last. writes (ap is_empty written);
          leads = leads_here;
          items =
              tests_null local (catches_at at point route) written stays
              (catches_lead s plan routes valid routed at point route is_point is_route) (goes on);
        }

        by : (slot : Slot) → held before local ≡ slot → IsGood s routes (instruction_block s at point route) behind
        by Plain told = tested (rw (is, told) refl)
        by Unusable told = tested (rw (is, told) refl)
        by (Virt site) told = record {
          closes = λ last. absurd (goes on last);
          leads = leads_here;
          items = all_far (subst (AllByRecursion (IsFar s routes)) (sym written) tt);
        } where
          written : items_at s at point before route ≡ []
          written = rw (is, told) refl

      instruction_good : (instr : FlatInstr) → point.instr ≡ instr → IsGood s routes (instruction_block s at point route) behind
      instruction_good (NullTest local) is = null_good local is
      instruction_good (Of class instr) is = by (template s at point.typed before route class instr) refl where
        by : (found : Option (List WInstr)) → template s at point.typed before route class instr ≡ found
            → IsGood s routes (instruction_block s at point route) behind
        by None none = carried_good class instr is none
        by (Some instrs) some = template_good class instr instrs is some

    -- ---- the blocks of the point

    point_good : (rest : List Block) → (IsReached s routes (suc at) → rest ≢ [])
        → Each (λ block behind. IsGood s routes block (behind ++ rest)) (point_blocks s at point route)
    point_good rest goes =
        each_append Good (make_block s (before_point at) at route.state route.made route.order None ++ (instruction_block s at point route ∷ []))
        (next_block s at (edge_by route edges.Next))
        (each_append (λ block behind. Good block (behind ++ next_block s at (edge_by route edges.Next)))
        (make_block s (before_point at) at route.state route.made route.order None) (instruction_block s at point route ∷ [])
        (of_before route.made) (
          instruction_good (next_block s at (edge_by route edges.Next) ++ rest)
              (λ reached none. goes reached (none_of_both (next_block s at (edge_by route edges.Next)) rest none)) point.instr refl,
          tt,
        ))
        (of_next (edge_by route edges.Next) refl) where
          Good : Block → List Block → Type 0
          Good block behind = IsGood s routes block (behind ++ rest)

          of_before : (made : List ℕ)
              → Each (λ block behind. Good block
              ((behind ++ (instruction_block s at point route ∷ [])) ++ next_block s at (edge_by route edges.Next)))
              (make_block s (before_point at) at route.state made route.order None)
          of_before [] = tt
          of_before (site ∷ sites) = (
            record {
              closes = λ none. absurd (some_not_none _ _ none);
              leads = λ to is. absurd (none-some to is);
              items = all_far (made_far s routes at route.state (site ∷ sites) route.order);
            },
            tt,
          )

          of_made : (edge : RouteEdge) (made : List ℕ) → IsReached s routes (suc at)
              → Each Good (make_block s (on_next_edge at) edge.to edge.state made edge.order None)
          of_made edge [] reached = tt
          of_made edge (site ∷ sites) reached = (
            record {
              closes = λ none. absurd (goes reached none);
              leads = λ to is. absurd (none-some to is);
              items = all_far (made_far s routes edge.to edge.state (site ∷ sites) edge.order);
            },
            tt,
          )

          of_next : (edge : Option RouteEdge) → edge_by route edges.Next ≡ edge → Each Good (next_block s at edge)
          of_next None is = tt
          of_next (Some edge) is = of_made edge edge.made (next_reached s plan routes valid routed at point route is_point is_route edge is)

  -- ---- all blocks

  reached_some : (pads : List Block) (from : ℕ) (points : List Point) (others : Routes) (point : Point) (route : Route)
      → slice_get points 0 ≡ Some point
      → slice_get others 0 ≡ Some (Some route)
      → of_reached (point_blocks s) from points others ++ pads ≢ []
  reached_some pads from [] others point route is is_route = absurd (none-some point is)
  reached_some pads from (first ∷ points) [] point route is is_route = absurd (none-some (Some route) is_route)
  reached_some pads from (first ∷ points) (None ∷ others) point route is is_route =
      absurd (none-some route (same_Some None (Some route) is_route))
  reached_some pads from (first ∷ points) (Some one ∷ others) point route is is_route =
      subst (λ (blocks : List Block). (blocks ++ of_reached (point_blocks s) (suc from) points others) ++ pads ≢ [])
      (sym (begins_with_first s from first one)) (some_not_none _ _)

  points_good : (pads : List Block) (from : ℕ) (points : List Point) (others : Routes)
      → ((number : ℕ) → slice_get points number ≡ slice_get s.flat.points (from + number))
      → ((number : ℕ) → slice_get others number ≡ slice_get routes (from + number))
      → Each (IsGood s routes) pads
      → Each (IsGood s routes) (of_reached (point_blocks s) from points others ++ pads)
  points_good pads from [] others same same_routes good = good
  points_good pads from (point ∷ points) [] same same_routes good = good
  points_good pads from (point ∷ points) (None ∷ others) same same_routes good =
      points_good pads (suc from) points others (λ number. same (suc number) ∙ ap (slice_get s.flat.points) (further number))
      (λ number. same_routes (suc number) ∙ ap (slice_get routes) (further number)) good where
        further : (n : ℕ) → from + suc n ≡ suc from + n
        further n = omega arith
  points_good pads from (point ∷ points) (Some route ∷ others) same same_routes good =
      subst (Each (IsGood s routes))
      (sym (append_assoc (point_blocks s from point route) (of_reached (point_blocks s) (suc from) points others) pads))
      (each_append (IsGood s routes) (point_blocks s from point route) (of_reached (point_blocks s) (suc from) points others ++ pads)
      (point_good from point route (sym (ap (slice_get s.flat.points) (zeroth from)) ∙ sym (same 0))
      (sym (ap (slice_get routes) (zeroth from)) ∙ sym (same_routes 0))
      (of_reached (point_blocks s) (suc from) points others ++ pads) behind)
      (points_good pads (suc from) points others (λ number. same (suc number) ∙ ap (slice_get s.flat.points) (further number))
      (λ number. same_routes (suc number) ∙ ap (slice_get routes) (further number)) good)) where
        zeroth : (n : ℕ) → n + 0 ≡ n
        zeroth n = omega arith

        further : (n : ℕ) → from + suc n ≡ suc from + n
        further n = omega arith

        one_more : from + 1 ≡ suc from
        one_more = omega arith

        behind : IsReached s routes (suc from) → of_reached (point_blocks s) (suc from) points others ++ pads ≢ []
        behind reached =
            reached_some pads (suc from) points others reached.point reached.route
            (same 1 ∙ ap (slice_get s.flat.points) one_more ∙ reached.is_point)
            (same_routes 1 ∙ ap (slice_get routes) one_more ∙ reached.is_route)

  -- Each block is good.
  pub blocks_good : Each (IsGood s routes) (blocks_of s routes)
  blocks_good =
      subst (Each (IsGood s routes))
      (sym (append_assoc (of_reached (point_blocks s) 0 s.flat.points routes) (of_reached (jump_pads s) 0 s.flat.points routes)
      (of_reached (handler_pads s) 0 s.flat.points routes)))
      (points_good (of_reached (jump_pads s) 0 s.flat.points routes ++ of_reached (handler_pads s) 0 s.flat.points routes) 0 s.flat.points routes
      (λ number. ap (slice_get s.flat.points) (zeroth number)) (λ number. ap (slice_get routes) (zeroth number))
      (each_anywhere (IsGood s routes) (of_reached (jump_pads s) 0 s.flat.points routes ++ of_reached (handler_pads s) 0 s.flat.points routes)
      (holds_of_both Anywhere (of_reached (jump_pads s) 0 s.flat.points routes) (of_reached (handler_pads s) 0 s.flat.points routes)
      (all_reached Anywhere (jump_pads s) 0 s.flat.points routes (λ number point route is is_route.
      jump_pads_good (0 + number) point route (sym (ap (slice_get s.flat.points) (zeroth number)) ∙ is)
      (sym (ap (slice_get routes) (zeroth number)) ∙ is_route)))
      (all_reached Anywhere (handler_pads s) 0 s.flat.points routes (λ number point route is is_route.
      handler_pads_good (0 + number) point route (sym (ap (slice_get s.flat.points) (zeroth number)) ∙ is)
      (sym (ap (slice_get routes) (zeroth number)) ∙ is_route)))))) where
        Anywhere : Block → Type 0
        Anywhere block = (behind : List Block) → IsGood s routes block behind

        zeroth : (n : ℕ) → n ≡ 0 + n
        zeroth n = omega arith

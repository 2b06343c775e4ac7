-- The plans of edges of which one stands for all to handlers that lead to one point are those of all edges.
use Rattle.std.proofs.Common.{◌≡◌, ℕ, ◌+◌, ◌==◌, nat_lt, zero, suc, Bool, true, false, cond, List, [], ◌∷◌, ◌++◌, slice_get, Option, Some, None, refl, sym, ap, subst, ◌∙◌, inl, inr, ◌⊎◌}
use Rattle.std.specs.BTreeMap.{is_at}
use Rattle.std.specs.Cmp.{nat_cmp_is}
use Rattle.std.specs.List.{AllByRecursion, filter}
use Rattle.std.specs.Ordering.{is_eq, nat_cmp}
use Rattle.std.specs.declared.cmp.Ordering.TheVariants.{Less, Equal, Greater}
use Rattle.std.proofs.lemmas.Bool.{cases_Bool, eqb-true, false≢true}
use Rattle.std.proofs.lemmas.List.{append-nil}
use Rattle.std.proofs.lemmas.List.Elements.{filter-append}
use Rattle.std.proofs.lemmas.Option.{none-some, same_Some}
use Rattle.flow_code.specs.declared.handlers.FlatHandler.{FlatHandler}
use Rattle.flow_code.specs.declared.point.Point.{Point}
use Rattle.plan_flow.specs.Effect.{AreEdges, IsStateBehind}
use Rattle.plan_flow.specs.Inner.Gaining.{is_normal}
use Rattle.plan_flow.specs.Inner.Planning.{made_edge, made_edges, made_on}
use Rattle.plan_flow.specs.Inner.Reaching.{Reached}
use Rattle.plan_flow.specs.Inner.Sharing.{AreTargetsOf, caught_made, caught_part, caught_plans, kept_set, last_set, open_by, or_no_site, own_part, plans_of, put_set, target_edges, thrown_to}
use Rattle.plan_flow.specs.Must.{open_edges, row_of_point}
use Rattle.plan_flow.specs.PlanRows.{Guard, PlanRow, RowEdge}
use Rattle.plan_flow.specs.PlanScope.{PlanScope}
use Rattle.plan_flow.specs.PlanSlots.{is_open}
use Rattle.plan_flow.specs.PlanTable.{falls_on, handler_edges, jump_edges, next_edges, targets_at, thrown_edges}
use Rattle.plan_flow.specs.Plans.{MadeEdge}
use Rattle.plan_flow.specs.declared.edge.Edge.{Edge}
use Rattle.plan_flow.specs.declared.edge.EdgeKind.TheVariants as kinds
use Rattle.virtual_state.specs.Sites.{has}
use Rattle.virtual_state.specs.States.{State}
use Rattle.plan_flow.proofs.EffectGrows.{EdgeOf, edge_of_row, row_of_edge}
use Rattle.plan_flow.proofs.Iterating.{behind_is_one}
use Rattle.plan_flow.proofs.MustGrows.{StandsIn}
use Rattle.plan_flow.proofs.Sharing.{behind_alike, handler_row, has_stands, stands_target, target_stands, to_has}

-- ---- edges that no exception takes

abbrev AllNormal : List RowEdge → Type 0
AllNormal rows = AllByRecursion (λ row. is_normal row.by ≡ true) rows

normal_both : (rows others : List RowEdge) → AllNormal rows → AllNormal others → AllNormal (rows ++ others)
normal_both [] others all more = more
normal_both (row ∷ rows) others all more = (all.0, normal_both rows others all.1 more)

normal_next : (at : ℕ) (row : PlanRow) (falls : Bool) → AllNormal (next_edges at row falls)
normal_next at row true = (refl, tt)
normal_next at row false = tt

normal_jumps : (row : PlanRow) (number : ℕ) (targets : List ℕ) → AllNormal (jump_edges row number targets)
normal_jumps row number [] = tt
normal_jumps row number (to ∷ targets) = (refl, normal_jumps row (number + 1) targets)

normal_first : (row : RowEdge) (rows : List RowEdge) (passes : Bool) → is_normal row.by ≡ true → AllNormal rows → AllNormal (cond passes (row ∷ rows) rows)
normal_first row rows true is all = (is, all)
normal_first row rows false is all = all

normal_filtered : (test : RowEdge → Bool) (rows : List RowEdge) → AllNormal rows → AllNormal (filter test rows)
normal_filtered test [] all = tt
normal_filtered test (row ∷ rows) all = normal_first row (filter test rows) (test row) all.0 (normal_filtered test rows all.1)

-- ---- edges of two lists of rows

record Split (s : PlanScope) (point : Point) (at : ℕ) (before : State) (one two : List RowEdge) (edges : List Edge) : Type 0 where
  front : List Edge
  back : List Edge
  is : edges ≡ front ++ back
  front_are : AreEdges s point at before one front
  back_are : AreEdges s point at before two back

made_both : (states : Reached) (front back : List Edge) → made_edges states (front ++ back) ≡ made_edges states front ++ made_edges states back
made_both states [] back = refl
made_both states (edge ∷ front) back = λ i. made_edge states edge ∷ made_both states front back i

-- ---- sets by target

is_at_same : (to : ℕ) → is_at (nat_cmp to) to ≡ true
is_at_same to = ap is_eq (sym (nat_cmp_is to to Equal refl))

same_at : (to at : ℕ) → is_at (nat_cmp to) at ≡ true → to ≡ at
same_at to at is = by (nat_lt to at) (to == at) refl is where
  by : (less same : Bool) → (to == at) ≡ same → is_eq (cond less Less (cond same Equal Greater)) ≡ true → to ≡ at
  by true same equal none = absurd (false≢true none)
  by false true equal some = eqb-true to at equal
  by false false equal none = absurd (false≢true none)

-- the edges to a point make one set
abbrev AllMake : Reached → List Edge → ℕ → List ℕ → Type 0
AllMake states edges to made = (number : ℕ) (edge : Edge) → slice_get edges number ≡ Some edge → edge.to ≡ to → made_on edge.state (states edge.to) ≡ made

kept_is : (set : Option (List ℕ)) (sites made : List ℕ) → sites ≡ made → or_no_site set ≡ made → or_no_site (kept_set set sites) ≡ made
kept_is set [] made same is = is
kept_is set (site ∷ sites) made same is = same

put_is : (to at : ℕ) (sites made : List ℕ) (set : Option (List ℕ)) → (to ≡ at → sites ≡ made) → or_no_site set ≡ made → or_no_site (put_set to sites at set) ≡ made
put_is to at sites made set same is = by (is_at (nat_cmp to) at) (λ here. same (same_at to at here)) where
  by : (b : Bool) → (b ≡ true → sites ≡ made) → or_no_site (cond b (kept_set set sites) set) ≡ made
  by true same = kept_is set sites made (same refl) is
  by false same = is

last_keeps : (states : Reached) (to : ℕ) (made : List ℕ) (edges : List Edge) (set : Option (List ℕ)) → AllMake states edges to made → or_no_site set ≡ made → or_no_site (last_set states edges to set) ≡ made
last_keeps states to made [] set all is = is
last_keeps states to made (edge ∷ edges) set all is =
    last_keeps states to made edges (put_set edge.to (made_on edge.state (states edge.to)) to set) (λ number. all (suc number))
    (put_is edge.to to (made_on edge.state (states edge.to)) made set (all 0 edge refl) is)

abbrev NoneOr : List ℕ → Option (List ℕ) → Type 0
NoneOr made set = (or_no_site set ≡ []) ⊎ (or_no_site set ≡ made)

kept_none_or : (set : Option (List ℕ)) (sites made : List ℕ) → sites ≡ made → NoneOr made set → NoneOr made (kept_set set sites)
kept_none_or set [] made same is = is
kept_none_or set (site ∷ sites) made same is = inr same

kept_here : (set : Option (List ℕ)) (sites made : List ℕ) → sites ≡ made → NoneOr made set → or_no_site (kept_set set sites) ≡ made
kept_here set [] made same (inl none) = none ∙ same
kept_here set [] made same (inr is) = is
kept_here set (site ∷ sites) made same is = same

put_none_or : (to at : ℕ) (sites made : List ℕ) (set : Option (List ℕ)) → (to ≡ at → sites ≡ made) → NoneOr made set → NoneOr made (put_set to sites at set)
put_none_or to at sites made set same is = by (is_at (nat_cmp to) at) (λ here. same (same_at to at here)) where
  by : (b : Bool) → (b ≡ true → sites ≡ made) → NoneOr made (cond b (kept_set set sites) set)
  by true same = kept_none_or set sites made (same refl) is
  by false same = is

put_here : (to at : ℕ) (sites made : List ℕ) (set : Option (List ℕ)) → to ≡ at → sites ≡ made → NoneOr made set → or_no_site (put_set to sites at set) ≡ made
put_here to at sites made set here same is =
    let there : is_at (nat_cmp to) at ≡ true = subst (λ (n : ℕ). is_at (nat_cmp to) n ≡ true) here (is_at_same to) in
    ap (λ (b : Bool). or_no_site (cond b (kept_set set sites) set)) there ∙ kept_here set sites made same is

last_is : (states : Reached) (to : ℕ) (made : List ℕ) (edges : List Edge) (set : Option (List ℕ)) (number : ℕ) (edge : Edge) → slice_get edges number ≡ Some edge → edge.to ≡ to → AllMake states edges to made → NoneOr made set → or_no_site (last_set states edges to set) ≡ made
last_is states to made [] set number edge is here all none = absurd (none-some edge is)
last_is states to made (first ∷ edges) set zero edge is here all none =
    let leads : first.to ≡ to = ap (λ (one : Edge). one.to) (same_Some first edge is) ∙ here in
    last_keeps states to made edges (put_set first.to (made_on first.state (states first.to)) to set) (λ number. all (suc number))
    (put_here first.to to (made_on first.state (states first.to)) made set leads (all 0 first refl leads) none)
last_is states to made (first ∷ edges) set (suc number) edge is here all none =
    last_is states to made edges (put_set first.to (made_on first.state (states first.to)) to set) number edge is here (λ more. all (suc more))
    (put_none_or first.to to (made_on first.state (states first.to)) made set (all 0 first refl) none)

-- ---- edges to shared points

module _ (s : PlanScope) (point : Point) (at : ℕ) (before : State) (states : Reached) where
  split_edges : (one two : List RowEdge) (edges : List Edge) → AreEdges s point at before (one ++ two) edges → Split s point at before one two edges
  split_edges [] two edges are = record { front = []; back = edges; is = refl; front_are = tt; back_are = are }
  split_edges (row ∷ one) two [] are = absurd are
  split_edges (row ∷ one) two (edge ∷ edges) are =
      let rest = split_edges one two edges are.3 in
      record {
        front = edge ∷ rest.front;
        back = rest.back;
        is = ap (λ (list : List Edge). edge ∷ list) rest.is;
        front_are = (are.0, are.1, are.2, rest.front_are);
        back_are = rest.back_are;
      }

  join_edges : (one two : List RowEdge) (front back : List Edge) → AreEdges s point at before one front → AreEdges s point at before two back → AreEdges s point at before (one ++ two) (front ++ back)
  join_edges [] two [] back front_are back_are = back_are
  join_edges [] two (edge ∷ front) back front_are back_are = absurd front_are
  join_edges (row ∷ one) two [] back front_are back_are = absurd front_are
  join_edges (row ∷ one) two (edge ∷ front) back front_are back_are =
      (front_are.0, front_are.1, front_are.2, join_edges one two front back front_are.3 back_are)

  -- the edges that no exception takes are the first
  own_front : (rows : List RowEdge) (front back : List Edge) → AllNormal rows → AreEdges s point at before rows front → own_part (front ++ back) ≡ front ++ own_part back
  own_front [] [] back all are = refl
  own_front [] (edge ∷ front) back all are = absurd are
  own_front (row ∷ rows) [] back all are = absurd are
  own_front (row ∷ rows) (edge ∷ front) back all are =
      ap (λ (b : Bool). cond b (edge ∷ own_part (front ++ back)) []) (ap is_normal are.0 ∙ all.0)
      ∙ ap (λ (list : List Edge). edge ∷ list) (own_front rows front back all.1 are.3)

  caught_front : (rows : List RowEdge) (front back : List Edge) → AllNormal rows → AreEdges s point at before rows front → caught_part (front ++ back) ≡ caught_part back
  caught_front [] [] back all are = refl
  caught_front [] (edge ∷ front) back all are = absurd are
  caught_front (row ∷ rows) [] back all are = absurd are
  caught_front (row ∷ rows) (edge ∷ front) back all are =
      ap (λ (b : Bool). cond b (caught_part (front ++ back)) (edge ∷ (front ++ back))) (ap is_normal are.0 ∙ all.0)
      ∙ caught_front rows front back all.1 are.3

  own_back : (guard : Guard) (targets : List ℕ) (back : List Edge) → AreEdges s point at before (target_edges guard targets) back → own_part back ≡ []
  own_back guard [] [] are = refl
  own_back guard [] (edge ∷ back) are = absurd are
  own_back guard (to ∷ targets) [] are = absurd are
  own_back guard (to ∷ targets) (edge ∷ back) are = ap (λ (b : Bool). cond b (edge ∷ own_part back) []) (ap is_normal are.0)

  caught_back : (guard : Guard) (targets : List ℕ) (back : List Edge) → AreEdges s point at before (target_edges guard targets) back → caught_part back ≡ back
  caught_back guard [] [] are = refl
  caught_back guard [] (edge ∷ back) are = absurd are
  caught_back guard (to ∷ targets) [] are = absurd are
  caught_back guard (to ∷ targets) (edge ∷ back) are = ap (λ (b : Bool). cond b (caught_part back) (edge ∷ back)) (ap is_normal are.0)

  -- ---- the plans of the edges to handlers

  -- all edges of these rows, and the plans that the shared ones give
  record Caught (rows : List RowEdge) (plans : List MadeEdge) : Type 0 where
    full : List Edge
    are : AreEdges s point at before rows full
    same : plans ≡ made_edges states full

  module _ (guard : Guard) (targets : List ℕ) (back : List Edge) (back_are : AreEdges s point at before (target_edges guard targets) back) where
    record Shared (to : ℕ) : Type 0 where
      edge : Edge
      number : ℕ
      is : slice_get back number ≡ Some edge
      leads : edge.to ≡ to
      behind : IsStateBehind s point at before (handler_row guard 0 to) edge.state

    shared_to : (to : ℕ) → has targets to ≡ true → Shared to
    shared_to to there =
        let stands = has_stands targets to there in
        let found = edge_of_row s point at before (target_edges guard targets) back back_are stands.number (handler_row guard 0 to) (target_stands guard targets to stands.number stands.is) in
        record { edge = found.0; number = stands.number; is = found.1; leads = found.2.same_to; behind = found.2.behind }

    all_make : (to : ℕ) (shared : Shared to) → AllMake states back to (made_on shared.edge.state (states to))
    all_make to shared number edge is leads =
        let found = row_of_edge s point at before (target_edges guard targets) back back_are number edge is in
        let target = stands_target guard targets number found.0 found.1 in
        let same_to : target.0 ≡ to = ap (λ (row : RowEdge). row.to) (sym target.2) ∙ sym found.2.same_to ∙ leads in
        let same_row : found.0 ≡ handler_row guard 0 to = target.2 ∙ ap (handler_row guard 0) same_to in
        let behind = subst (λ (row : RowEdge). IsStateBehind s point at before row edge.state) same_row found.2.behind in
        let same_state = behind_is_one s at point before (handler_row guard 0 to) edge.state shared.edge.state behind shared.behind in
        λ i. made_on (same_state i) (states (leads i))

    set_is : (to : ℕ) (shared : Shared to) → or_no_site (last_set states back to None) ≡ made_on shared.edge.state (states to)
    set_is to shared =
        last_is states to (made_on shared.edge.state (states to)) back None shared.number shared.edge shared.is shared.leads (all_make to shared) (inl refl)

    all_caught :
        (number : ℕ) (handlers : List FlatHandler)
        → ((at : ℕ) (handler : FlatHandler) → slice_get handlers at ≡ Some handler → has targets handler.to ≡ true)
        → Caught (handler_edges guard number handlers) (caught_made (λ to. or_no_site (last_set states back to None)) number handlers)
    all_caught number [] listed = record { full = []; are = tt; same = refl }
    all_caught number (handler ∷ handlers) listed =
        let shared = shared_to handler.to (listed 0 handler refl) in
        let set = set_is handler.to shared in
        let rest = all_caught (number + 1) handlers (λ at. listed (suc at)) in
        let edge : Edge = record { to = handler.to; by = kinds.Handler number; state = shared.edge.state } in
        record {
          full = edge ∷ rest.full;
          are = (refl, refl, behind_alike s point at before guard 0 number handler.to shared.edge.state shared.behind, rest.are);
          same = λ i. record { by = kinds.Handler number; to = handler.to; made = set i } ∷ rest.same i;
        }

  -- where there is no shared point, there is no handler
  caught_open :
      (guard : Guard) (targets : List ℕ) (handlers : List FlatHandler) (back : List Edge)
      → AreTargetsOf handlers targets
      → AreEdges s point at before (target_edges guard targets) back
      → Caught (handler_edges guard 0 handlers) (caught_plans states handlers back)
  caught_open guard targets [] [] listed are = record { full = []; are = tt; same = refl }
  caught_open guard [] (handler ∷ handlers) [] listed are =
      absurd (false≢true (listed.same handler.to ∙ to_has (handler ∷ handlers) 0 handler refl))
  caught_open guard (to ∷ targets) (handler ∷ handlers) [] listed are = absurd are
  caught_open guard targets handlers (edge ∷ back) listed are =
      all_caught guard targets (edge ∷ back) are 0 handlers
      (λ number handler is. listed.same handler.to ∙ to_has handlers number handler is)

  filter_targets : (guard : Guard) (passes : Bool) → is_open before guard ≡ passes → (targets : List ℕ) → filter (λ (edge : RowEdge). is_open before edge.guard) (target_edges guard targets) ≡ cond passes (target_edges guard targets) []
  filter_targets guard true is [] = refl
  filter_targets guard false is [] = refl
  filter_targets guard true is (to ∷ targets) =
      let rest = filter (λ (edge : RowEdge). is_open before edge.guard) (target_edges guard targets) in
      ap (λ (b : Bool). cond b (handler_row guard 0 to ∷ rest) rest) is ∙ ap (λ (rows : List RowEdge). handler_row guard 0 to ∷ rows) (filter_targets guard true is targets)
  filter_targets guard false is (to ∷ targets) =
      let rest = filter (λ (edge : RowEdge). is_open before edge.guard) (target_edges guard targets) in
      ap (λ (b : Bool). cond b (handler_row guard 0 to ∷ rest) rest) is ∙ filter_targets guard false is targets

  filter_handlers : (guard : Guard) (passes : Bool) → is_open before guard ≡ passes → (number : ℕ) (handlers : List FlatHandler) → filter (λ (edge : RowEdge). is_open before edge.guard) (handler_edges guard number handlers) ≡ cond passes (handler_edges guard number handlers) []
  filter_handlers guard true is number [] = refl
  filter_handlers guard false is number [] = refl
  filter_handlers guard true is number (handler ∷ handlers) =
      let rest = filter (λ (edge : RowEdge). is_open before edge.guard) (handler_edges guard (number + 1) handlers) in
      ap (λ (b : Bool). cond b (handler_row guard number handler.to ∷ rest) rest) is ∙ ap (λ (rows : List RowEdge). handler_row guard number handler.to ∷ rows) (filter_handlers guard true is (number + 1) handlers)
  filter_handlers guard false is number (handler ∷ handlers) =
      let rest = filter (λ (edge : RowEdge). is_open before edge.guard) (handler_edges guard (number + 1) handlers) in
      ap (λ (b : Bool). cond b (handler_row guard number handler.to ∷ rest) rest) is ∙ filter_handlers guard false is (number + 1) handlers

  -- the shared edges behind the others, and all edges to handlers
  record Behind (rows : List RowEdge) (handlers : List FlatHandler) (back : List Edge) : Type 0 where
    own : own_part back ≡ []
    caught : Caught rows (caught_plans states handlers (caught_part back))

  behind_none : (handlers : List FlatHandler) (back : List Edge) → AreEdges s point at before [] back → Behind [] handlers back
  behind_none handlers [] are = record { own = refl; caught = record { full = []; are = tt; same = refl } }
  behind_none handlers (edge ∷ back) are = absurd are

  behind_open :
      (guard : Guard) (passes : Bool) (targets : List ℕ) (handlers : List FlatHandler) (back : List Edge)
      → AreTargetsOf handlers targets
      → AreEdges s point at before (cond passes (target_edges guard targets) []) back
      → Behind (cond passes (handler_edges guard 0 handlers) []) handlers back
  behind_open guard false targets handlers back listed are = behind_none handlers back are
  behind_open guard true targets handlers back listed are = record {
    own = own_back guard targets back are;
    caught =
        subst (λ (list : List Edge). Caught (handler_edges guard 0 handlers) (caught_plans states handlers list)) (sym (caught_back guard targets back are))
        (caught_open guard targets handlers back listed are);
  }

  behind_thrown :
      (throws : Option Guard) (targets : List ℕ) (handlers : List FlatHandler) (back : List Edge)
      → AreTargetsOf handlers targets
      → AreEdges s point at before (filter (λ (edge : RowEdge). is_open before edge.guard) (thrown_to throws targets)) back
      → Behind (filter (λ (edge : RowEdge). is_open before edge.guard) (thrown_edges throws handlers)) handlers back
  behind_thrown None targets handlers back listed are = behind_none handlers back are
  behind_thrown (Some guard) targets handlers back listed are =
      let passes = is_open before guard in
      subst (λ (rows : List RowEdge). Behind rows handlers back) (sym (filter_handlers guard passes refl 0 handlers))
      (behind_open guard passes targets handlers back listed
      (subst (λ (rows : List RowEdge). AreEdges s point at before rows back) (filter_targets guard passes refl targets) are))

-- ---- all edges

-- all edges of a point, and the plans that its shared edges give
pub record AllPlanned (s : PlanScope) (point : Point) (at : ℕ) (left : State) (states : Reached) (plans : List MadeEdge) : Type 0 where
  pub full : List Edge
  pub are : AreEdges s point at left (open_edges s at point left) full
  pub same : plans ≡ made_edges states full

pub all_planned_edges :
    (s : PlanScope) (point : Point) (at : ℕ) (left : State) (states : Reached) (targets : List ℕ) (edges : List Edge)
    → AreTargetsOf point.handlers targets
    → AreEdges s point at left (open_by s at point left (Some targets)) edges
    → AllPlanned s point at left states (plans_of states point.handlers edges)
all_planned_edges s point at left states targets edges listed are =
    let test : RowEdge → Bool = λ edge. is_open left edge.guard in
    let row = row_of_point s at point in
    let own = next_edges at row (falls_on point.instr) ++ jump_edges row 0 (targets_at point.instr) in
    let normal = normal_filtered test own
    (normal_both (next_edges at row (falls_on point.instr)) (jump_edges row 0 (targets_at point.instr)) (normal_next at row (falls_on point.instr))
    (normal_jumps row 0 (targets_at point.instr))) in
    let split = split_edges s point at left states (filter test own) (filter test (thrown_to row.throws targets)) edges
    (subst (λ (rows : List RowEdge). AreEdges s point at left rows edges) (filter-append test own (thrown_to row.throws targets)) are) in
    let behind = behind_thrown s point at left states row.throws targets point.handlers split.back listed split.back_are in
    let own_is : own_part edges ≡ split.front =
    ap own_part split.is ∙ own_front s point at left states (filter test own) split.front split.back normal split.front_are
    ∙ ap (λ (list : List Edge). split.front ++ list) behind.own
    ∙ append-nil split.front in
    let caught_is : caught_part edges ≡ caught_part split.back =
    ap caught_part split.is ∙ caught_front s point at left states (filter test own) split.front split.back normal split.front_are in
    record {
      full = split.front ++ behind.caught.full;
      are =
          subst (λ (rows : List RowEdge). AreEdges s point at left rows (split.front ++ behind.caught.full)) (sym (filter-append test own (thrown_edges row.throws point.handlers)))
          (join_edges s point at left states (filter test own) (filter test (thrown_edges row.throws point.handlers)) split.front behind.caught.full split.front_are behind.caught.are);
      same =
          (λ i. made_edges states (own_is i) ++ caught_plans states point.handlers (caught_is i))
          ∙ ap (λ (list : List MadeEdge). made_edges states split.front ++ list) behind.caught.same
          ∙ sym (made_both states split.front behind.caught.full);
    }

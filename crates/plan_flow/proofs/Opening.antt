-- Edges that are taken one after the other.
use Rattle.std.proofs.Common.{◌≡◌, ◌+◌, ◌<◌, ℕ, zero, suc, Bool, true, false, cond, List, [], ◌∷◌, ◌++◌, map, drop, length, slice_get, Option, Some, None, refl, sym, ap, subst, ◌∙◌, append_assoc, arith}
use Rattle.std.specs.List.{filter}
use Rattle.std.proofs.lemmas.List.{append-nil, map-append}
use Rattle.std.proofs.lemmas.List.Elements.{filter-append}
use Rattle.flow_code.specs.declared.handlers.FlatHandler.{FlatHandler}
use Rattle.flow_code.specs.declared.point.FlatInstr.{FlatInstr}
use Rattle.flow_code.specs.declared.point.Point.{Point}
use Rattle.plan_flow.specs.Inner.EdgeViews.{IsOpened, row_edge}
use Rattle.plan_flow.specs.Inner.RowViews.{guard_of}
use Rattle.plan_flow.specs.Inner.Sharing.{caught_edges, edges_by, target_edges}
use Rattle.plan_flow.specs.PlanRows.{Guard, PlanRow, RowEdge}
use Rattle.plan_flow.specs.PlanSlots.{is_open}
use Rattle.plan_flow.specs.PlanTable.{falls_on, handler_edges, jump_edges, next_edges, targets_at}
use Rattle.plan_flow.specs.declared.edge.EdgeKind.TheVariants as kinds
use Rattle.plan_flow.specs.declared.edges.GuardedEdge.{GuardedEdge}
use Rattle.plan_flow.specs.declared.rows.Guard.{Guard as CodeGuard}
use Rattle.virtual_state.specs.States.{State}

pub opened_none : (state : State) (edges : List GuardedEdge) → IsOpened state edges edges []
opened_none state edges = record { same = sym (append-nil (map row_edge edges)) }

pub opened_both :
    {state : State} {first middle last : List GuardedEdge} (front back : List RowEdge)
    → IsOpened state first middle front
    → IsOpened state middle last back
    → IsOpened state first last (front ++ back)
opened_both {state} {first} front back one other = record {
  same =
      other.same
      ∙ ap (λ (list : List RowEdge). list ++ filter (λ edge. is_open state edge.guard) back) one.same
      ∙ append_assoc (map row_edge first) (filter (λ edge. is_open state edge.guard) front) (filter (λ edge. is_open state edge.guard) back)
      ∙ ap (λ (list : List RowEdge). map row_edge first ++ list) (sym (filter-append (λ (edge : RowEdge). is_open state edge.guard) front back));
}

pub opened_one : (state : State) (before : List GuardedEdge) (edge : GuardedEdge) → is_open state (guard_of edge.guard) ≡ true → IsOpened state before (before ++ edge ∷ []) (row_edge edge ∷ [])
opened_one state before edge is = record {
  same =
      map-append row_edge before (edge ∷ [])
      ∙ ap (λ (b : Bool). map row_edge before ++ cond b (row_edge edge ∷ []) []) (sym is);
}

pub opened_not : (state : State) (before : List GuardedEdge) (edge : GuardedEdge) → is_open state (guard_of edge.guard) ≡ false → IsOpened state before before (row_edge edge ∷ [])
opened_not state before edge is = record {
  same = sym (append-nil (map row_edge before)) ∙ ap (λ (b : Bool). map row_edge before ++ cond b (row_edge edge ∷ []) []) (sym is);
}

pub opened_all :
    {first second third last : List GuardedEdge} (shared : Option (List ℕ)) (state : State) (at : ℕ) (point : Point) (row : PlanRow) (instr : FlatInstr) (handlers : List FlatHandler)
    → point.instr ≡ instr
    → point.handlers ≡ handlers
    → IsOpened state first second (next_edges at row (falls_on instr))
    → IsOpened state second third (jump_edges row 0 (targets_at instr))
    → IsOpened state third last (caught_edges shared row.throws handlers)
    → IsOpened state first last (edges_by shared at point row)
opened_all {first} {second} {third} {last} shared state at point row instr handlers same also next jumps thrown =
    subst (λ (list : List RowEdge). IsOpened state first last list)
    (λ i. next_edges at row (falls_on (sym same i)) ++ jump_edges row 0 (targets_at (sym same i)) ++ caught_edges shared row.throws (sym also i))
    (opened_both (next_edges at row (falls_on instr) ++ jump_edges row 0 (targets_at instr)) (caught_edges shared row.throws handlers)
    (opened_both (next_edges at row (falls_on instr)) (jump_edges row 0 (targets_at instr)) next jumps) thrown)

-- ---- targets and handlers, one by one

pub dropped : {A : Type 0} (list : List A) (at : ℕ) (item : A) → slice_get list at ≡ Some item → drop at list ≡ item ∷ drop (at + 1) list
dropped [] at item is = absurd cc
dropped (first ∷ list) zero item is = let same : first ≡ item = cc in ap (λ one. one ∷ list) same
dropped (first ∷ list) (suc at) item is =
    let number : suc (at + 1) ≡ suc at + 1 = omega arith in
    dropped list at item is ∙ ap (λ (n : ℕ). item ∷ drop n (first ∷ list)) number

pub got_inside : {A : Type 0} (list : List A) (at : ℕ) (item : A) → slice_get list at ≡ Some item → at < length list
got_inside [] at item is = absurd cc
got_inside (first ∷ list) zero item is = omega arith
got_inside (first ∷ list) (suc at) item is = let low = got_inside list at item is in omega (arith, low)

pub dropped_all : {A : Type 0} (list : List A) (at : ℕ) → slice_get list at ≡ None → drop at list ≡ []
dropped_all [] zero is = refl
dropped_all [] (suc at) is = refl
dropped_all (first ∷ list) zero is = absurd cc
dropped_all (first ∷ list) (suc at) is = dropped_all list at is

-- what is opened of the rest is opened of all
pub record OpensAll (state : State) (start now : List GuardedEdge) (all rest : List RowEdge) : Type 0 where
  pub then : (after : List GuardedEdge) → IsOpened state now after rest → IsOpened state start after all

pub opens_start : (state : State) (start : List GuardedEdge) (all : List RowEdge) → OpensAll state start start all all
opens_start state start all = record { then = λ after opened. opened }

pub opens_more :
    {state : State} {start now next : List GuardedEdge} {all : List RowEdge} (edge : RowEdge) (rest : List RowEdge)
    → OpensAll state start now all (edge ∷ rest)
    → IsOpened state now next (edge ∷ [])
    → OpensAll state start next all rest
opens_more edge rest opens one = record { then = λ after opened. opens.then after (opened_both (edge ∷ []) rest one opened) }

pub opens_end : {state : State} {start now : List GuardedEdge} {all : List RowEdge} → OpensAll state start now all [] → IsOpened state start now all
opens_end {state} {start} {now} opens = opens.then now (opened_none state now)

pub record JumpsLeft (state : State) (start now : List GuardedEdge) (guard : CodeGuard) (targets : List ℕ) (number : ℕ) : Type 0 where
  pub each : (row : PlanRow) → row.jump ≡ guard_of guard → OpensAll state start now (jump_edges row 0 targets) (jump_edges row number (drop number targets))

pub jumps_start : (state : State) (start : List GuardedEdge) (guard : CodeGuard) (targets : List ℕ) → JumpsLeft state start start guard targets 0
jumps_start state start guard targets = record { each = λ row is. opens_start state start (jump_edges row 0 targets) }

pub jumps_next :
    {state : State} {start now next : List GuardedEdge} {guard : CodeGuard} (targets : List ℕ) (number behind to : ℕ)
    → JumpsLeft state start now guard targets number
    → slice_get targets number ≡ Some to
    → IsOpened state now next (row_edge (record { by = kinds.Jump number; to = to; guard = guard }) ∷ [])
    → behind ≡ number + 1
    → JumpsLeft state start next guard targets behind
jumps_next {state} {start} {now} {next} {guard} targets number behind to left is opened one =
    subst (λ (n : ℕ). JumpsLeft state start next guard targets n) (sym one) (record {
      each = λ row same.
          let edge : RowEdge = record { by = kinds.Jump number; to = to; guard = guard_of guard } in
          let first : jump_edges row number (drop number targets) ≡ edge ∷ jump_edges row (number + 1) (drop (number + 1) targets) =
          ap (jump_edges row number) (dropped targets number to is)
          ∙ ap (λ (g : Guard). (let e : RowEdge = record { by = kinds.Jump number; to = to; guard = g } in e) ∷ jump_edges row (number + 1) (drop (number + 1) targets)) same in
          opens_more edge (jump_edges row (number + 1) (drop (number + 1) targets))
          (subst (λ (list : List RowEdge). OpensAll state start now (jump_edges row 0 targets) list) first (left.each row same)) opened;
    })

pub jumps_end :
    {state : State} {start now : List GuardedEdge} {guard : CodeGuard} (targets : List ℕ) (number : ℕ)
    → JumpsLeft state start now guard targets number
    → slice_get targets number ≡ None
    → (row : PlanRow)
    → row.jump ≡ guard_of guard
    → IsOpened state start now (jump_edges row 0 targets)
jumps_end {state} {start} {now} targets number left is row same =
    opens_end (subst (λ (list : List RowEdge). OpensAll state start now (jump_edges row 0 targets) list) (ap (jump_edges row number) (dropped_all targets number is)) (left.each row same))

pub record HandlersLeft (state : State) (start now : List GuardedEdge) (guard : CodeGuard) (handlers : List FlatHandler) (at number : ℕ) : Type 0 where
  pub same : number ≡ at
  pub opens : OpensAll state start now (handler_edges (guard_of guard) 0 handlers) (handler_edges (guard_of guard) at (drop at handlers))

pub handlers_start : (state : State) (start : List GuardedEdge) (guard : CodeGuard) (handlers : List FlatHandler) → HandlersLeft state start start guard handlers 0 0
handlers_start state start guard handlers = record { same = refl; opens = opens_start state start (handler_edges (guard_of guard) 0 handlers) }

pub handlers_next :
    {state : State} {start now next : List GuardedEdge} {guard : CodeGuard} (handlers : List FlatHandler) (at number behind more : ℕ) (handler : FlatHandler)
    → HandlersLeft state start now guard handlers at number
    → slice_get handlers at ≡ Some handler
    → IsOpened state now next (row_edge (record { by = kinds.Handler number; to = handler.to; guard = guard }) ∷ [])
    → behind ≡ at + 1
    → more ≡ number + 1
    → HandlersLeft state start next guard handlers behind more
handlers_next {state} {start} {now} {next} {guard} handlers at number behind more handler left is opened one also =
    subst (λ (n : ℕ). HandlersLeft state start next guard handlers n more) (sym one) (record {
      same = also ∙ ap (λ (n : ℕ). n + 1) left.same;
      opens =
          let edge : RowEdge = record { by = kinds.Handler at; to = handler.to; guard = guard_of guard } in
          opens_more edge (handler_edges (guard_of guard) (at + 1) (drop (at + 1) handlers))
          (subst (λ (list : List RowEdge). OpensAll state start now (handler_edges (guard_of guard) 0 handlers) list) (ap (handler_edges (guard_of guard) at) (dropped handlers at handler is)) left.opens)
          (subst (λ (n : ℕ). IsOpened state now next (row_edge (record { by = kinds.Handler n; to = handler.to; guard = guard }) ∷ [])) left.same opened);
    })

pub handlers_end :
    {state : State} {start now : List GuardedEdge} {guard : CodeGuard} (handlers : List FlatHandler) (at number : ℕ)
    → HandlersLeft state start now guard handlers at number
    → slice_get handlers at ≡ None
    → IsOpened state start now (handler_edges (guard_of guard) 0 handlers)
handlers_end {state} {start} {now} {guard} handlers at number left is =
    opens_end (subst (λ (list : List RowEdge). OpensAll state start now (handler_edges (guard_of guard) 0 handlers) list) (ap (handler_edges (guard_of guard) at) (dropped_all handlers at is)) left.opens)

-- ---- shared points, one by one

pub record TargetsLeft (state : State) (start now : List GuardedEdge) (guard : CodeGuard) (targets : List ℕ) (at : ℕ) : Type 0 where
  pub opens : OpensAll state start now (target_edges (guard_of guard) targets) (target_edges (guard_of guard) (drop at targets))

pub targets_start : (state : State) (start : List GuardedEdge) (guard : CodeGuard) (targets : List ℕ) → TargetsLeft state start start guard targets 0
targets_start state start guard targets = record { opens = opens_start state start (target_edges (guard_of guard) targets) }

pub targets_next :
    {state : State} {start now next : List GuardedEdge} {guard : CodeGuard} (targets : List ℕ) (at behind to : ℕ)
    → TargetsLeft state start now guard targets at
    → slice_get targets at ≡ Some to
    → IsOpened state now next (row_edge (record { by = kinds.Handler 0; to = to; guard = guard }) ∷ [])
    → behind ≡ at + 1
    → TargetsLeft state start next guard targets behind
targets_next {state} {start} {now} {next} {guard} targets at behind to left is opened one =
    subst (λ (n : ℕ). TargetsLeft state start next guard targets n) (sym one) (record {
      opens =
          let edge : RowEdge = record { by = kinds.Handler 0; to = to; guard = guard_of guard } in
          opens_more edge (target_edges (guard_of guard) (drop (at + 1) targets))
          (subst (λ (list : List RowEdge). OpensAll state start now (target_edges (guard_of guard) targets) list) (ap (target_edges (guard_of guard)) (dropped targets at to is)) left.opens)
          opened;
    })

pub targets_end :
    {state : State} {start now : List GuardedEdge} {guard : CodeGuard} (targets : List ℕ) (at : ℕ)
    → TargetsLeft state start now guard targets at
    → slice_get targets at ≡ None
    → IsOpened state start now (target_edges (guard_of guard) targets)
targets_end {state} {start} {now} {guard} targets at left is =
    opens_end (subst (λ (list : List RowEdge). OpensAll state start now (target_edges (guard_of guard) targets) list) (ap (target_edges (guard_of guard)) (dropped_all targets at is)) left.opens)

-- Edges to handlers of which one stands for all that lead to one point.
use Rattle.std.proofs.Common.{◌≡◌, ℕ, ◌+◌, ◌==◌, zero, suc, Bool, true, false, cond, List, [], ◌∷◌, ◌++◌, slice_get, Option, Some, None, refl, sym, ap, subst, ◌∙◌, inl, inr, ◌⊎◌}
use Rattle.std.specs.List.{filter}
use Rattle.std.proofs.lemmas.Bool.{eq-eqb, eqb-true, false≢true, or_cases, or_left, or_right}
use Rattle.std.proofs.lemmas.Option.{none-some, same_Some}
use Rattle.flow_code.specs.declared.handlers.FlatHandler.{FlatHandler}
use Rattle.flow_code.specs.declared.point.Point.{Point}
use Rattle.plan_flow.specs.Effect.{IsStateBehind}
use Rattle.plan_flow.specs.Inner.Sharing.{AreTargetsOf, open_by, points_of, target_edges, thrown_to}
use Rattle.plan_flow.specs.Must.{open_edges, row_of_point}
use Rattle.plan_flow.specs.PlanRows.{Guard, RowEdge}
use Rattle.plan_flow.specs.PlanScope.{PlanScope}
use Rattle.plan_flow.specs.PlanSlots.{is_open}
use Rattle.plan_flow.specs.PlanTable.{falls_on, handler_edges, jump_edges, next_edges, targets_at, thrown_edges}
use Rattle.plan_flow.specs.declared.edge.EdgeKind.TheVariants as kinds
use Rattle.virtual_state.specs.Sites.{has}
use Rattle.virtual_state.specs.States.{State}
use Rattle.plan_flow.proofs.MustGrows.{StandsIn, behind_first}

-- ---- items of lists

stands_front : {A : Type 0} (items others : List A) (item : A) (number : ℕ) → slice_get items number ≡ Some item → StandsIn (items ++ others) item
stands_front [] others item number is = absurd (none-some item is)
stands_front (first ∷ items) others item zero is = record { number = 0; is = is }
stands_front (first ∷ items) others item (suc number) is = behind_first first (items ++ others) item (stands_front items others item number is)

stands_back : {A : Type 0} (items others : List A) (item : A) → StandsIn others item → StandsIn (items ++ others) item
stands_back [] others item stands = stands
stands_back (first ∷ items) others item stands = behind_first first (items ++ others) item (stands_back items others item stands)

pub stands_either : {A : Type 0} (items others : List A) (item : A) (number : ℕ) → slice_get (items ++ others) number ≡ Some item → StandsIn items item ⊎ StandsIn others item
stands_either [] others item number is = inr (record { number = number; is = is })
stands_either (first ∷ items) others item zero is = inl (record { number = 0; is = is })
stands_either (first ∷ items) others item (suc number) is = elim (stands_either items others item number is) [
  | inl front ↦ inl (behind_first first items item front)
  | inr back ↦ inr back
]

filtered_behind : {A : Type 0} (first : A) (items : List A) (item : A) (passes : Bool) → StandsIn items item → StandsIn (cond passes (first ∷ items) items) item
filtered_behind first items item true stands = behind_first first items item stands
filtered_behind first items item false stands = stands

stands_filtered : {A : Type 0} (test : A → Bool) (items : List A) (item : A) (number : ℕ) → slice_get items number ≡ Some item → test item ≡ true → StandsIn (filter test items) item
stands_filtered test [] item number is passes = absurd (none-some item is)
stands_filtered test (first ∷ items) item zero is passes =
    subst (λ (list : List _). StandsIn list item)
    (ap (λ (b : Bool). cond b (first ∷ filter test items) (filter test items)) (sym (ap test (same_Some first item is) ∙ passes)))
    (record { number = 0; is = is })
stands_filtered test (first ∷ items) item (suc number) is passes =
    filtered_behind first (filter test items) item (test first) (stands_filtered test items item number is passes)

pub record Passing {A : Type 0} (test : A → Bool) (items : List A) (item : A) : Type 0 where
  pub stands : StandsIn items item
  pub passes : test item ≡ true

passing_behind : {A : Type 0} (test : A → Bool) (first : A) (items : List A) (item : A) → Passing test items item → Passing test (first ∷ items) item
passing_behind test first items item passing = record { stands = behind_first first items item passing.stands; passes = passing.passes }

passing_first :
    {A : Type 0} (test : A → Bool) (first : A) (items : List A) (item : A) (passes : Bool) (number : ℕ)
    → test first ≡ passes
    → ((number : ℕ) → slice_get (filter test items) number ≡ Some item → Passing test items item)
    → slice_get (cond passes (first ∷ filter test items) (filter test items)) number ≡ Some item
    → Passing test (first ∷ items) item
passing_first test first items item false number told rest is = passing_behind test first items item (rest number is)
passing_first test first items item true zero told rest is = record {
  stands = record { number = 0; is = is };
  passes = ap test (sym (same_Some first item is)) ∙ told;
}
passing_first test first items item true (suc number) told rest is = passing_behind test first items item (rest number is)

pub filtered_stands : {A : Type 0} (test : A → Bool) (items : List A) (item : A) (number : ℕ) → slice_get (filter test items) number ≡ Some item → Passing test items item
filtered_stands test [] item number is = absurd (none-some item is)
filtered_stands test (first ∷ items) item number is =
    passing_first test first items item (test first) number refl (filtered_stands test items item) is

-- ---- points that are listed

pub has_stands : (list : List ℕ) (to : ℕ) → has list to ≡ true → StandsIn list to
has_stands [] to there = absurd (false≢true there)
has_stands (first ∷ list) to there = elim (or_cases (first == to) (has list to) there) [
  | inl here ↦ record { number = 0; is = ap Some (eqb-true first to here) }
  | inr rest ↦ behind_first first list to (has_stands list to rest)
]

pub stands_has : (list : List ℕ) (to number : ℕ) → slice_get list number ≡ Some to → has list to ≡ true
stands_has [] to number is = absurd (none-some to is)
stands_has (first ∷ list) to zero is = or_left (first == to) (has list to) (eq-eqb first to (same_Some first to is))
stands_has (first ∷ list) to (suc number) is = or_right (first == to) (has list to) (stands_has list to number is)

record HandlerTo (handlers : List FlatHandler) (to : ℕ) : Type 0 where
  number : ℕ
  handler : FlatHandler
  is : slice_get handlers number ≡ Some handler
  leads : handler.to ≡ to

handler_to : (handlers : List FlatHandler) (to : ℕ) → has (points_of handlers) to ≡ true → HandlerTo handlers to
handler_to [] to there = absurd (false≢true there)
handler_to (first ∷ handlers) to there = elim (or_cases (first.to == to) (has (points_of handlers) to) there) [
  | inl here ↦ record { number = 0; handler = first; is = refl; leads = eqb-true first.to to here }
  | inr later ↦
      let rest = handler_to handlers to later in
      record { number = suc rest.number; handler = rest.handler; is = rest.is; leads = rest.leads }
]

pub to_has : (handlers : List FlatHandler) (number : ℕ) (handler : FlatHandler) → slice_get handlers number ≡ Some handler → has (points_of handlers) handler.to ≡ true
to_has [] number handler is = absurd (none-some handler is)
to_has (first ∷ handlers) zero handler is =
    or_left (first.to == handler.to) (has (points_of handlers) handler.to) (eq-eqb first.to handler.to (ap (λ (one : FlatHandler). one.to) (same_Some first handler is)))
to_has (first ∷ handlers) (suc number) handler is =
    or_right (first.to == handler.to) (has (points_of handlers) handler.to) (to_has handlers number handler is)

-- ---- edges to handlers

-- the edge to a point by the handler of a number
abbrev pub handler_row : Guard → ℕ → ℕ → RowEdge
handler_row guard number to = record { by = kinds.Handler number; to = to; guard = guard }

pub record ThrownRow (guard : Guard) (handlers : List FlatHandler) (row : RowEdge) : Type 0 where
  pub at : ℕ
  pub number : ℕ
  pub handler : FlatHandler
  pub is : slice_get handlers number ≡ Some handler
  pub same : row ≡ handler_row guard at handler.to

stands_handler : (guard : Guard) (first : ℕ) (handlers : List FlatHandler) (number : ℕ) (row : RowEdge) → slice_get (handler_edges guard first handlers) number ≡ Some row → ThrownRow guard handlers row
stands_handler guard first [] number row is = absurd (none-some row is)
stands_handler guard first (handler ∷ handlers) zero row is =
    record { at = first; number = 0; handler = handler; is = refl; same = sym (same_Some (handler_row guard first handler.to) row is) }
stands_handler guard first (handler ∷ handlers) (suc number) row is =
    let rest = stands_handler guard (first + 1) handlers number row is in
    record { at = rest.at; number = suc rest.number; handler = rest.handler; is = rest.is; same = rest.same }

handler_stands : (guard : Guard) (first : ℕ) (handlers : List FlatHandler) (number : ℕ) (handler : FlatHandler) → slice_get handlers number ≡ Some handler → (at : ℕ) × StandsIn (handler_edges guard first handlers) (handler_row guard at handler.to)
handler_stands guard first [] number handler is = absurd (none-some handler is)
handler_stands guard first (one ∷ handlers) zero handler is =
    (first, record { number = 0; is = ap (λ (h : FlatHandler). Some (handler_row guard first h.to)) (same_Some one handler is) })
handler_stands guard first (one ∷ handlers) (suc number) handler is =
    let rest = handler_stands guard (first + 1) handlers number handler is in
    (rest.0, behind_first (handler_row guard first one.to) (handler_edges guard (first + 1) handlers) (handler_row guard rest.0 handler.to) rest.1)

pub stands_target : (guard : Guard) (targets : List ℕ) (number : ℕ) (row : RowEdge) → slice_get (target_edges guard targets) number ≡ Some row → (to : ℕ) × (slice_get targets number ≡ Some to) × (row ≡ handler_row guard 0 to)
stands_target guard [] number row is = absurd (none-some row is)
stands_target guard (to ∷ targets) zero row is = (to, refl, sym (same_Some (handler_row guard 0 to) row is))
stands_target guard (to ∷ targets) (suc number) row is = stands_target guard targets number row is

pub target_stands : (guard : Guard) (targets : List ℕ) (to number : ℕ) → slice_get targets number ≡ Some to → slice_get (target_edges guard targets) number ≡ Some (handler_row guard 0 to)
target_stands guard [] to number is = absurd (none-some to is)
target_stands guard (one ∷ targets) to zero is = ap (λ (n : ℕ). Some (handler_row guard 0 n)) (same_Some one to is)
target_stands guard (one ∷ targets) to (suc number) is = target_stands guard targets to number is

-- ---- edges that lead to one point

-- an edge to a handler, and another one to the same point
record AlikeIn (rows : List RowEdge) (row : RowEdge) : Type 0 where
  guard : Guard
  one : ℕ
  other : ℕ
  to : ℕ
  is : row ≡ handler_row guard one to
  stands : StandsIn rows (handler_row guard other to)

abbrev AllAlikeIn : List RowEdge → List RowEdge → Type 0
AllAlikeIn rows others = (row : RowEdge) (number : ℕ) → slice_get rows number ≡ Some row → AlikeIn others row

shared_alike : (throws : Option Guard) (handlers : List FlatHandler) (targets : List ℕ) → AreTargetsOf handlers targets → AllAlikeIn (thrown_to throws targets) (thrown_edges throws handlers)
shared_alike None handlers targets are row number is = absurd (none-some row is)
shared_alike (Some guard) handlers targets are row number is =
    let target = stands_target guard targets number row is in
    let handler = handler_to handlers target.0 (sym (are.same target.0) ∙ stands_has targets target.0 number target.1) in
    let stands = handler_stands guard 0 handlers handler.number handler.handler handler.is in
    record {
      guard = guard;
      one = 0;
      other = stands.0;
      to = target.0;
      is = target.2;
      stands = subst (λ (to : ℕ). StandsIn (handler_edges guard 0 handlers) (handler_row guard stands.0 to)) handler.leads stands.1;
    }

handlers_alike : (throws : Option Guard) (handlers : List FlatHandler) (targets : List ℕ) → AreTargetsOf handlers targets → AllAlikeIn (thrown_edges throws handlers) (thrown_to throws targets)
handlers_alike None handlers targets are row number is = absurd (none-some row is)
handlers_alike (Some guard) handlers targets are row number is =
    let thrown = stands_handler guard 0 handlers number row is in
    let to = thrown.handler.to in
    let stands = has_stands targets to (are.same to ∙ to_has handlers thrown.number thrown.handler thrown.is) in
    record {
      guard = guard;
      one = thrown.at;
      other = 0;
      to = to;
      is = thrown.same;
      stands = record { number = stands.number; is = target_stands guard targets to stands.number stands.is };
    }

-- the state behind edges to handlers that lead to one point is the same
pub behind_alike :
    (s : PlanScope) (point : Point) (at : ℕ) (before : State) (guard : Guard) (one other to : ℕ) (state : State)
    → IsStateBehind s point at before (handler_row guard one to) state
    → IsStateBehind s point at before (handler_row guard other to) state
behind_alike s point at before guard one other to state behind = record { is_state = behind.is_state; is = behind.is }

-- ---- open edges

-- an edge, and another one to the same point with the same state behind it
pub record IsLike (s : PlanScope) (point : Point) (at : ℕ) (before : State) (rows : List RowEdge) (row : RowEdge) : Type 0 where
  pub other : RowEdge
  pub stands : StandsIn rows other
  pub same_to : other.to ≡ row.to
  pub behind : (state : State) → IsStateBehind s point at before row state → IsStateBehind s point at before other state

module _ (s : PlanScope) (point : Point) (at : ℕ) (before : State) where
  like :
      (own caught others : List RowEdge)
      → AllAlikeIn caught others
      → (number : ℕ) (row : RowEdge)
      → slice_get (filter (λ (edge : RowEdge). is_open before edge.guard) (own ++ caught)) number ≡ Some row
      → IsLike s point at before (filter (λ (edge : RowEdge). is_open before edge.guard) (own ++ others)) row
  like own caught others alike number row is =
      let found = filtered_stands (λ (edge : RowEdge). is_open before edge.guard) (own ++ caught) row number is in
      elim (stands_either own caught row found.stands.number found.stands.is) [
        | inl front ↦
            let stands = stands_front own others row front.number front.is in
            record {
              other = row;
              stands = stands_filtered (λ (edge : RowEdge). is_open before edge.guard) (own ++ others) row stands.number stands.is found.passes;
              same_to = refl;
              behind = λ state behind. behind;
            }
        | inr back ↦
            let other = alike row back.number back.is in
            let stands = stands_back own others (handler_row other.guard other.other other.to) other.stands in
            record {
              other = handler_row other.guard other.other other.to;
              stands =
                  stands_filtered (λ (edge : RowEdge). is_open before edge.guard) (own ++ others) (handler_row other.guard other.other other.to) stands.number stands.is
                  (ap (λ (edge : RowEdge). is_open before edge.guard) (sym other.is) ∙ found.passes);
              same_to = ap (λ (edge : RowEdge). edge.to) (sym other.is);
              behind = λ state behind.
                  behind_alike s point at before other.guard other.one other.other other.to state
                  (subst (λ (edge : RowEdge). IsStateBehind s point at before edge state) other.is behind);
            }
      ]

  -- each shared edge is like one of the code's, and conversely
  pub shared_like :
      (targets : List ℕ)
      → AreTargetsOf point.handlers targets
      → (number : ℕ) (row : RowEdge)
      → slice_get (open_by s at point before (Some targets)) number ≡ Some row
      → IsLike s point at before (open_edges s at point before) row
  shared_like targets are number row is =
      like
      (next_edges at (row_of_point s at point) (falls_on point.instr) ++ jump_edges (row_of_point s at point) 0 (targets_at point.instr))
      (thrown_to (row_of_point s at point).throws targets) (thrown_edges (row_of_point s at point).throws point.handlers)
      (shared_alike (row_of_point s at point).throws point.handlers targets are) number row is

  pub like_shared :
      (targets : List ℕ)
      → AreTargetsOf point.handlers targets
      → (number : ℕ) (row : RowEdge)
      → slice_get (open_edges s at point before) number ≡ Some row
      → IsLike s point at before (open_by s at point before (Some targets)) row
  like_shared targets are number row is =
      like
      (next_edges at (row_of_point s at point) (falls_on point.instr) ++ jump_edges (row_of_point s at point) 0 (targets_at point.instr))
      (thrown_edges (row_of_point s at point).throws point.handlers) (thrown_to (row_of_point s at point).throws targets)
      (handlers_alike (row_of_point s at point).throws point.handlers targets are) number row is

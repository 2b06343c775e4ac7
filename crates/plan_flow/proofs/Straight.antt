-- Points that have no edge to a target or to a handler, and the points behind them.
use Rattle.std.proofs.Common.{◌≡◌, ℕ, ◌<◌, ◌+◌, ◌||◌, ◌&&◌, ◌==◌, zero, suc, Bool, true, false, cond, List, [], ◌∷◌, ◌++◌, length, slice_get, Option, Some, None, IsTrue, IsFalse, refl, sym, ap, subst, ◌∙◌, inl, inr, ◌⊎◌}
use Rattle.std.specs.List.{filter}
use Rattle.std.proofs.lemmas.Bool.{cases_Bool, both_ways, eq-eqb, false≢true, true≢false, or_left, or_right, or_parts}
use Rattle.std.proofs.lemmas.List.{append-nil}
use Rattle.std.proofs.lemmas.Option.{none-some, same_Some}
use Rattle.class_model.specs.Instructions.{targets}
use Rattle.class_model.specs.Pool.{constant_at}
use Rattle.class_model.specs.PoolChecks.{class_at}
use Rattle.class_model.specs.declared.descriptor.Kind.{Kind}
use Rattle.class_model.specs.declared.frame.Frame.{Frame}
use Rattle.class_model.specs.declared.instr.Instr.{Instr}
use Rattle.class_model.specs.declared.instr.Instr.TheVariants.{Nop, Const, Ldc, Ldc2, Load, Store, Iinc, ArrayLoad, ArrayStore, Shuffle, Pure, Divide, FloatAsk, If, If2, IfSame, IfNull, Goto, Table, Lookup, Return, GetStatic, PutStatic, GetField, PutField, Invoke, Dynamic, New, NewArray, NewRefArray, NewMulti, Length, Throw, Cast, InstanceOf, Enter, Leave}
use Rattle.class_model.specs.declared.opcodes.TheConstants.{IF_ACMPEQ, IFNULL}
use Rattle.class_tree.specs.Headers.{Name}
use Rattle.flow_code.specs.FlatCode.{FlatCode, point_at}
use Rattle.flow_code.specs.declared.handlers.FlatHandler.{FlatHandler}
use Rattle.flow_code.specs.declared.point.FlatInstr.{FlatInstr}
use Rattle.flow_code.specs.declared.point.FlatInstr.TheVariants.{Of, NullTest}
use Rattle.flow_code.specs.declared.point.Point.{Point}
use Rattle.member_link.specs.Machine.CallSteps.{is_object_init}
use Rattle.member_link.specs.References.{Reference}
use Rattle.member_link.specs.Rows.ShuffleRows.{Form, form_in, forms_of}
use Rattle.plan_flow.specs.Effect.{AreEdges, IsStateBehind}
use Rattle.plan_flow.specs.Inner.Blocks.{AreHeads, branches, caught_by, has_some, makes_head, marked, may_throw, next_edge, throws_by_form}
use Rattle.plan_flow.specs.Inner.RowViews.{described_row, dynamic_desc}
use Rattle.plan_flow.specs.Inner.Sharing.{AreTargetsOf, caught_edges, edges_by, open_by, points_of, target_edges, thrown_to}
use Rattle.plan_flow.specs.Must.{open_edges, row_of_point}
use Rattle.plan_flow.specs.PlanRows.{Guard, in_each_state, PlanRow, RowEdge}
use Rattle.plan_flow.specs.PlanScope.{PlanScope, pool_of, member_of, field_of, site_at}
use Rattle.plan_flow.specs.PlanSlots.{is_open}
use Rattle.plan_flow.specs.PlanTable.{call_row, cast_row, falls_on, get_field_row, instr_row, jump_edges, new_row, next_edges, put_field_row, return_row, row_at, shuffle_row, targets_at, thrown_edges}
use Rattle.plan_flow.specs.declared.edge.Edge.{Edge}
use Rattle.virtual_state.specs.Sites.{has}
use Rattle.virtual_state.specs.States.{State}
use Rattle.plan_flow.proofs.RowUpdates.{dynamic_is}
use Rattle.plan_flow.proofs.Sharing.{filtered_stands, stands_either, stands_has, stands_target}

-- ---- rows by the forms of instructions

module _ (s : PlanScope) (at : ℕ) (f : Frame) (class : ℕ) where
  -- the row of an instruction without a target lets control go on in each state
  next_open : (instr : Instr) → has_some (targets instr) ≡ false → (instr_row s at f class instr).next ≡ in_each_state
  next_open Nop none = refl
  next_open (Const imm) none = refl
  next_open (Ldc index) none = refl
  next_open (Ldc2 index) none = refl
  next_open (Load kind local) none = refl
  next_open (Store kind local) none = refl
  next_open (Iinc local by) none = refl
  next_open (ArrayLoad opcode) none = refl
  next_open (ArrayStore opcode) none = refl
  next_open (Shuffle opcode) none = by (form_in (forms_of opcode) f.stack) where
    by : (form : Option Form) → (shuffle_row f form).next ≡ in_each_state
    by None = refl
    by (Some form) = refl
  next_open (Pure opcode) none = refl
  next_open (Divide opcode) none = refl
  next_open (FloatAsk opcode) none = refl
  next_open (If opcode target) none = refl
  next_open (If2 opcode target) none = refl
  next_open (IfSame opcode target) none = absurd (true≢false none)
  next_open (IfNull opcode target) none = absurd (true≢false none)
  next_open (Goto target) none = refl
  next_open (Table low other list) none = refl
  next_open (Lookup other pairs) none = refl
  next_open (Return kind) none = by kind where
    by : (kind : Option Kind) → (return_row f kind).next ≡ in_each_state
    by None = refl
    by (Some kind) = refl
  next_open (GetStatic index) none = refl
  next_open (PutStatic index) none = refl
  next_open (GetField index) none = by (field_of s class index) where
    by : (field : Option Reference) → (get_field_row s f field).next ≡ in_each_state
    by None = refl
    by (Some field) = refl
  next_open (PutField index) none = by (field_of s class index) where
    by : (field : Option Reference) → (put_field_row s f field).next ≡ in_each_state
    by None = refl
    by (Some field) = refl
  next_open (Invoke opcode index count) none = by (member_of s class index) where
    by : (method : Option Reference) → (call_row f opcode method).next ≡ in_each_state
    by None = refl
    by (Some method) = elim (cases_Bool (is_object_init method)) [
      | inl is ↦ rw is refl
      | inr is ↦ rw is refl
    ]
  next_open (Dynamic index) none =
      subst (λ (row : PlanRow). row.next ≡ in_each_state) (dynamic_is (pool_of s class) f (constant_at (pool_of s class) index))
      (by (dynamic_desc (pool_of s class) (constant_at (pool_of s class) index))) where
        by : (desc : Option (List ℕ)) → (described_row f desc).next ≡ in_each_state
        by None = refl
        by (Some desc) = refl
  next_open (New index) none = by (site_at s.flat at) where
    by : (site : Option ℕ) → (new_row f site).next ≡ in_each_state
    by None = refl
    by (Some site) = refl
  next_open (NewArray code) none = refl
  next_open (NewRefArray index) none = refl
  next_open (NewMulti index dimensions) none = refl
  next_open Length none = refl
  next_open Throw none = refl
  next_open (Cast index) none = by (class_at (pool_of s class) index) where
    by : (name : Option Name) → (cast_row f name).next ≡ in_each_state
    by None = refl
    by (Some name) = refl
  next_open (InstanceOf index) none = refl
  next_open Enter none = refl
  next_open Leave none = refl

  -- the row of an instruction that does not throw by its form has no edge to a handler
  throws_none : (instr : Instr) → throws_by_form instr ≡ false → (instr_row s at f class instr).throws ≡ None
  throws_none Nop none = refl
  throws_none (Const imm) none = refl
  throws_none (Ldc index) none = refl
  throws_none (Ldc2 index) none = refl
  throws_none (Load kind local) none = refl
  throws_none (Store kind local) none = refl
  throws_none (Iinc local by) none = refl
  throws_none (ArrayLoad opcode) none = absurd (true≢false none)
  throws_none (ArrayStore opcode) none = absurd (true≢false none)
  throws_none (Shuffle opcode) none = by (form_in (forms_of opcode) f.stack) where
    by : (form : Option Form) → (shuffle_row f form).throws ≡ None
    by None = refl
    by (Some form) = refl
  throws_none (Pure opcode) none = refl
  throws_none (Divide opcode) none = absurd (true≢false none)
  throws_none (FloatAsk opcode) none = refl
  throws_none (If opcode target) none = refl
  throws_none (If2 opcode target) none = refl
  throws_none (IfSame opcode target) none = elim (cases_Bool (opcode == IF_ACMPEQ)) [
    | inl is ↦ rw is refl
    | inr is ↦ rw is refl
  ]
  throws_none (IfNull opcode target) none = elim (cases_Bool (opcode == IFNULL)) [
    | inl is ↦ rw is refl
    | inr is ↦ rw is refl
  ]
  throws_none (Goto target) none = refl
  throws_none (Table low other list) none = refl
  throws_none (Lookup other pairs) none = refl
  throws_none (Return kind) none = by kind where
    by : (kind : Option Kind) → (return_row f kind).throws ≡ None
    by None = refl
    by (Some kind) = refl
  throws_none (GetStatic index) none = refl
  throws_none (PutStatic index) none = absurd (true≢false none)
  throws_none (GetField index) none = absurd (true≢false none)
  throws_none (PutField index) none = absurd (true≢false none)
  throws_none (Invoke opcode index count) none = absurd (true≢false none)
  throws_none (Dynamic index) none = absurd (true≢false none)
  throws_none (New index) none = by (site_at s.flat at) where
    by : (site : Option ℕ) → (new_row f site).throws ≡ None
    by None = refl
    by (Some site) = refl
  throws_none (NewArray code) none = absurd (true≢false none)
  throws_none (NewRefArray index) none = absurd (true≢false none)
  throws_none (NewMulti index dimensions) none = absurd (true≢false none)
  throws_none Length none = absurd (true≢false none)
  throws_none Throw none = absurd (true≢false none)
  throws_none (Cast index) none = absurd (true≢false none)
  throws_none (InstanceOf index) none = refl
  throws_none Enter none = absurd (true≢false none)
  throws_none Leave none = absurd (true≢false none)

next_open_at : (s : PlanScope) (at : ℕ) (f : Frame) (instr : FlatInstr) → has_some (targets_at instr) ≡ false → (row_at s at f instr).next ≡ in_each_state
next_open_at s at f (Of class instr) none = next_open s at f class instr none
next_open_at s at f (NullTest local) none = refl

throws_none_at : (s : PlanScope) (at : ℕ) (f : Frame) (instr : FlatInstr) → may_throw instr ≡ false → (row_at s at f instr).throws ≡ None
throws_none_at s at f (Of class instr) none = throws_none s at f class instr none
throws_none_at s at f (NullTest local) none = absurd (true≢false none)

-- ---- lists of points

some_if_has : (list : List ℕ) (to : ℕ) → IsTrue (has list to) → IsTrue (has_some list)
some_if_has [] to there = absurd (false≢true there)
some_if_has (first ∷ list) to there = refl

empty_if : (list : List ℕ) → has_some list ≡ false → list ≡ []
empty_if [] none = refl
empty_if (first ∷ list) none = absurd (true≢false none)

has_first : (list : List ℕ) → IsTrue (has_some list) → (to : ℕ) × IsTrue (has list to)
has_first [] some = absurd (false≢true some)
has_first (first ∷ list) some = (first, or_left (first == first) (has list first) (eq-eqb first first refl))

-- lists that have the same points are empty alike
pub some_alike : (list other : List ℕ) → ((to : ℕ) → has list to ≡ has other to) → has_some list ≡ has_some other
some_alike list other same = by (cases_Bool (has_some list)) (cases_Bool (has_some other)) where
  by : IsTrue (has_some list) ⊎ IsFalse (has_some list) → IsTrue (has_some other) ⊎ IsFalse (has_some other) → has_some list ≡ has_some other
  by (inl one) (inl two) = one ∙ sym two
  by (inr one) (inr two) = one ∙ sym two
  by (inl one) (inr two) =
      let first = has_first list one in
      absurd (both_ways (has_some other) two (some_if_has other first.0 (sym (same first.0) ∙ first.1)))
  by (inr one) (inl two) =
      let first = has_first other two in
      absurd (both_ways (has_some list) one (some_if_has list first.0 (same first.0 ∙ first.1)))

-- ---- edges to points that are no heads

-- a point does not make another one a head
record MakesNone (at : ℕ) (point : Point) (to : ℕ) : Type 0 where
  target : IsFalse (has (targets_at point.instr) to)
  caught : IsFalse (has (caught_by point) to)
  next : at + 1 ≡ to → IsFalse (branches point)

makes_none : (at : ℕ) (point : Point) (to : ℕ) → IsFalse (makes_head at point to) → MakesNone at point to
makes_none at point to none =
    let all = or_parts (has (targets_at point.instr) to || has (caught_by point) to) (branches point && (at + 1 == to)) none in
    let either = or_parts (has (targets_at point.instr) to) (has (caught_by point) to) all.0 in
    record {
      target = either.0;
      caught = either.1;
      next = λ same. by (cases_Bool (branches point)) (eq-eqb (at + 1) to same) all.1;
    } where
      by : IsTrue (branches point) ⊎ IsFalse (branches point) → IsTrue (at + 1 == to) → (branches point && (at + 1 == to)) ≡ false → IsFalse (branches point)
      by (inr stays) same both = stays
      by (inl goes) same both = absurd (true≢false ((λ i. sym goes i && sym same i) ∙ both))

-- the point before a point that is no head does not make it one
pub inside_makes_none :
    (flat : FlatCode) (heads : List Bool) (at to : ℕ) (point : Point)
    → AreHeads flat heads
    → at < length flat.points
    → point_at flat at ≡ Some point
    → IsFalse (marked heads to)
    → IsFalse (makes_head at point to)
inside_makes_none flat heads at to point are inside is none = elim (cases_Bool (makes_head at point to)) [
  | inr not ↦ not
  | inl makes ↦ absurd (both_ways (marked heads to) none (are.each at to point inside is makes))
]

jump_to : (row : PlanRow) (first : ℕ) (list : List ℕ) (number : ℕ) (edge : RowEdge) → slice_get (jump_edges row first list) number ≡ Some edge → IsTrue (has list edge.to)
jump_to row first [] number edge is = absurd (none-some edge is)
jump_to row first (to ∷ list) zero edge is =
    or_left (to == edge.to) (has list edge.to) (eq-eqb to edge.to (ap (λ (one : RowEdge). one.to) (same_Some _ edge is)))
jump_to row first (to ∷ list) (suc number) edge is = or_right (to == edge.to) (has list edge.to) (jump_to row (first + 1) list number edge is)

next_to : (at : ℕ) (row : PlanRow) (falls : Bool) (number : ℕ) (edge : RowEdge) → slice_get (next_edges at row falls) number ≡ Some edge → edge.to ≡ at + 1
next_to at row false number edge is = absurd (none-some edge is)
next_to at row true zero edge is = ap (λ (one : RowEdge). one.to) (sym (same_Some _ edge is))
next_to at row true (suc number) edge is = absurd (none-some edge is)

thrown_to_has : (throws : Option Guard) (list : List ℕ) (number : ℕ) (edge : RowEdge) → slice_get (thrown_to throws list) number ≡ Some edge → IsTrue (has list edge.to)
thrown_to_has None list number edge is = absurd (none-some edge is)
thrown_to_has (Some guard) list number edge is =
    let target = stands_target guard list number edge is in
    subst (λ (to : ℕ). IsTrue (has list to)) (ap (λ (row : RowEdge). row.to) (sym target.2)) (stands_has list target.0 number target.1)

module _ (s : PlanScope) (at : ℕ) (point : Point) (list : List ℕ) (are : AreTargetsOf point.handlers list) where
  -- the points to which edges by handlers lead
  caught_has : (to : ℕ) → IsTrue (may_throw point.instr) → IsTrue (has list to) → IsTrue (has (caught_by point) to)
  caught_has to may there = rw may (sym (are.same to) ∙ there)

  -- an edge to a point that it does not make a head is the one to the next point
  pub edge_inside :
      (state : State) (number : ℕ) (edge : RowEdge)
      → slice_get (open_by s at point state (Some list)) number ≡ Some edge
      → IsFalse (makes_head at point edge.to)
      → edge.to ≡ at + 1
  edge_inside state number edge is makes =
      let none = makes_none at point edge.to makes in
      let row = row_of_point s at point in
      let passing = filtered_stands (λ (one : RowEdge). is_open state one.guard) (edges_by (Some list) at point row) edge number is in
      elim (stands_either (next_edges at row (falls_on point.instr) ++ jump_edges row 0 (targets_at point.instr)) (thrown_to row.throws list) edge passing.stands.number passing.stands.is) [
        | inl front ↦ elim (stands_either (next_edges at row (falls_on point.instr)) (jump_edges row 0 (targets_at point.instr)) edge front.number front.is) [
          | inl next ↦ next_to at row (falls_on point.instr) next.number edge next.is
          | inr jump ↦ absurd (both_ways (has (targets_at point.instr) edge.to) none.target (jump_to row 0 (targets_at point.instr) jump.number edge jump.is))
        ]
        | inr back ↦ elim (cases_Bool (may_throw point.instr)) [
          | inl may ↦ absurd (both_ways (has (caught_by point) edge.to) none.caught (caught_has edge.to may (thrown_to_has row.throws list back.number edge back.is)))
          | inr not ↦
              let gone = throws_none_at s at point.typed point.instr not in
              absurd (none-some edge (subst (λ (throws : Option Guard). slice_get (thrown_to throws list) back.number ≡ Some edge) gone back.is))
        ]
      ]

  -- ---- points that do not branch

  thrown_to_none : (throws : Option Guard) (points : List ℕ) → points ≡ [] → thrown_to throws points ≡ []
  thrown_to_none None points none = refl
  thrown_to_none (Some guard) points none = ap (λ (l : List ℕ). target_edges guard l) none

  thrown_by_none : (throws : Option Guard) (handlers : List FlatHandler) → has_some (points_of handlers) ≡ false → thrown_edges throws handlers ≡ []
  thrown_by_none None handlers none = refl
  thrown_by_none (Some guard) [] none = refl
  thrown_by_none (Some guard) (handler ∷ handlers) none = absurd (true≢false none)

  record NoneCaught : Type 0 where
    shared : thrown_to (row_of_point s at point).throws list ≡ []
    each : thrown_edges (row_of_point s at point).throws point.handlers ≡ []

  none_caught : has_some (caught_by point) ≡ false → NoneCaught
  none_caught none = elim (cases_Bool (may_throw point.instr)) [
    | inl may ↦
        let caught : caught_by point ≡ points_of point.handlers = rw may refl in
        let no : has_some (points_of point.handlers) ≡ false = sym (ap (λ (l : List ℕ). has_some l) caught) ∙ none in
        record {
          shared = thrown_to_none (row_of_point s at point).throws list (empty_if list (some_alike list (points_of point.handlers) are.same ∙ no));
          each = thrown_by_none (row_of_point s at point).throws point.handlers no;
        }
    | inr not ↦
        let gone = throws_none_at s at point.typed point.instr not in
        record {
          shared = ap (λ (throws : Option Guard). thrown_to throws list) gone;
          each = ap (λ (throws : Option Guard). thrown_edges throws point.handlers) gone;
        }
  ]

  filter_next : (state : State) (falls : Bool) → (row_of_point s at point).next ≡ in_each_state → filter (λ (edge : RowEdge). is_open state edge.guard) (next_edges at (row_of_point s at point) falls) ≡ next_edges at (row_of_point s at point) falls
  filter_next state false same = refl
  filter_next state true same = ap (λ (guard : Guard). cond (is_open state guard) (next_edge s at point ∷ []) []) same

  -- its edges, if there are any, are the one to the next point
  straight : (state : State) (shared : Option (List ℕ)) → branches point ≡ false → caught_edges shared (row_of_point s at point).throws point.handlers ≡ [] → open_by s at point state shared ≡ next_edges at (row_of_point s at point) (falls_on point.instr)
  straight state shared none caught =
      let row = row_of_point s at point in
      let parts = or_parts (has_some (targets_at point.instr)) (has_some (caught_by point)) none in
      let next = next_edges at row (falls_on point.instr) in
      let targets_none = empty_if (targets_at point.instr) parts.0 in
      let all : edges_by shared at point row ≡ next =
      (λ i. (next ++ jump_edges row 0 (targets_none i)) ++ caught i) ∙ append-nil (next ++ []) ∙ append-nil next in
      ap (λ (l : List RowEdge). filter (λ (edge : RowEdge). is_open state edge.guard) l) all
      ∙ filter_next state (falls_on point.instr) (next_open_at s at point.typed point.instr parts.0)

  pub straight_shared : (state : State) → branches point ≡ false → open_by s at point state (Some list) ≡ next_edges at (row_of_point s at point) (falls_on point.instr)
  straight_shared state none =
      let parts = or_parts (has_some (targets_at point.instr)) (has_some (caught_by point)) none in
      straight state (Some list) none (none_caught parts.1).shared

  pub straight_open : (state : State) → branches point ≡ false → open_edges s at point state ≡ next_edges at (row_of_point s at point) (falls_on point.instr)
  straight_open state none =
      let parts = or_parts (has_some (targets_at point.instr)) (has_some (caught_by point)) none in
      straight state None none (none_caught parts.1).each

-- ---- the edge to the next point

pub record OnlyEdge (s : PlanScope) (at : ℕ) (point : Point) (left : State) (edges : List Edge) (edge : Edge) : Type 0 where
  pub falls : IsTrue (falls_on point.instr)
  pub only : edges ≡ edge ∷ []
  pub leads : edge.to ≡ at + 1
  pub behind : IsStateBehind s point at left (next_edge s at point) edge.state

pub only_edge :
    (s : PlanScope) (at : ℕ) (point : Point) (left : State) (edges : List Edge) (edge : Edge)
    → AreEdges s point at left (next_edges at (row_of_point s at point) (falls_on point.instr)) edges
    → slice_get edges 0 ≡ Some edge
    → OnlyEdge s at point left edges edge
only_edge s at point left edges edge are is = by (falls_on point.instr) edges refl are is where
  by :
      (falls : Bool) (list : List Edge)
      → falls_on point.instr ≡ falls
      → AreEdges s point at left (next_edges at (row_of_point s at point) falls) list
      → slice_get list 0 ≡ Some edge
      → OnlyEdge s at point left list edge
  by false [] told list_are found = absurd (none-some edge found)
  by false (one ∷ list) told list_are found = absurd list_are
  by true [] told list_are found = absurd list_are
  by true (one ∷ more ∷ list) told list_are found = absurd list_are.3
  by true (one ∷ []) told list_are found =
      let same = same_Some one edge found in
      record {
        falls = told;
        only = ap (λ (e : Edge). e ∷ []) same;
        leads = ap (λ (e : Edge). e.to) (sym same) ∙ list_are.1;
        behind = subst (λ (e : Edge). IsStateBehind s point at left (next_edge s at point) e.state) same list_are.2;
      }

pub no_edge :
    (s : PlanScope) (at : ℕ) (point : Point) (left : State) (edges : List Edge)
    → AreEdges s point at left (next_edges at (row_of_point s at point) (falls_on point.instr)) edges
    → slice_get edges 0 ≡ None
    → IsFalse (falls_on point.instr)
no_edge s at point left edges are none = by (falls_on point.instr) edges refl are none where
  by :
      (falls : Bool) (list : List Edge)
      → falls_on point.instr ≡ falls
      → AreEdges s point at left (next_edges at (row_of_point s at point) falls) list
      → slice_get list 0 ≡ None
      → IsFalse (falls_on point.instr)
  by false list told list_are gone = told
  by true [] told list_are gone = absurd list_are
  by true (one ∷ list) told list_are gone = absurd (none-some one (sym gone))

-- the point before a point that is no head does not branch
pub inside_straight :
    (flat : FlatCode) (heads : List Bool) (at : ℕ) (point : Point)
    → AreHeads flat heads
    → at < length flat.points
    → point_at flat at ≡ Some point
    → IsFalse (marked heads (at + 1))
    → branches point ≡ false
inside_straight flat heads at point are inside is none =
    (makes_none at point (at + 1) (inside_makes_none flat heads at (at + 1) point are inside is none)).next refl

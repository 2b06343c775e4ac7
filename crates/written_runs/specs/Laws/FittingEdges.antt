-- Rows fit the types of a flat code that its points type.
use Rattle.std.proofs.Common.{◌≡◌, ◌+◌, ◌++◌, ℕ, zero, suc, Bool, true, false, List, [], ◌∷◌, length, map, slice_get, Option, Some, None, option_map, IfSome, if◌then◌else◌, refl, sym, ap, subst, ◌∙◌}
use Rattle.std.specs.List.{AllByRecursion}
use Rattle.std.proofs.lemmas.Bool.{false≢true}
use Rattle.std.proofs.lemmas.List.{length-map}
use Rattle.std.proofs.lemmas.Option.{none-some, same_Some, slice_get-map}
use Rattle.class_model.specs.Frames.{is_top, is_wide}
use Rattle.class_model.specs.declared.descriptor.Kind.{Kind}
use Rattle.class_model.specs.declared.descriptor.Kind.TheVariants as kinds
use Rattle.class_model.specs.declared.frame.Frame.{Frame}
use Rattle.class_model.specs.declared.frame.VType.{VType}
use Rattle.class_model.specs.declared.instr.Instr.TheVariants.{Store}
use Rattle.class_tree.specs.Headers.{Headers}
use Rattle.flow_code.specs.FlatCode.{point_at}
use Rattle.flow_code.specs.ReadTypes.{read_frame, read_type}
use Rattle.flow_code.specs.declared.handlers.FlatHandler.{FlatHandler}
use Rattle.flow_code.specs.declared.point.FlatInstr.{FlatInstr}
use Rattle.flow_code.specs.declared.point.FlatInstr.TheVariants.{NullTest, Of}
use Rattle.flow_code.specs.declared.point.Point.{Point}
use Rattle.machine_values.specs.Values.{blank_of_kind, is_wide_value}
use Rattle.member_link.specs.Assignability.{IsAssignable, from_null, of_names, to_same, to_top}
use Rattle.member_link.specs.Bodies.{catch_frame, item_falls_through, item_targets}
use Rattle.member_link.specs.BodyTyping.{MayGoTo}
use Rattle.member_link.specs.Rows.FrameAssignability.{AreAssignable}
use Rattle.member_link.specs.Rows.Operands.{AllFit, IsOfKind, lowest_of, of_kind, topmost}
use Rattle.member_link.specs.Rows.Row.{Row, row_frame, stack_behind}
use Rattle.member_link.specs.Scope.{Scope}
use Rattle.plan_flow.specs.Laws.WrittenBlocks.{holds_of_both}
use Rattle.plan_flow.specs.Must.{row_of_point}
use Rattle.plan_flow.specs.PlanRows.{Guard, PlanRow, RowEdge}
use Rattle.plan_flow.specs.PlanScope.{PlanScope, local_types, stack_types}
use Rattle.plan_flow.specs.PlanTable.{edges_of, falls_on, handler_edges, jump_edges, next_edges, targets_at, thrown_edges}
use Rattle.same_runs.specs.FlatBodies.{caught_class}
use Rattle.same_runs.specs.Flats.{flat_item, host_scope, instr_scope}
use Rattle.same_runs.specs.TypedFlats.{MayGoToPoint, TypesFlat, TypesPoint, read_row, reading_of}
use Rattle.written_runs.specs.Laws.Carried.PlannedEdges.{FitsAlong, RowsFit}
use Rattle.written_runs.specs.Laws.FittingRows.{CallsInit, FitsRow, handler_usable, read_no_top, row_fits, second_top}
use Rattle.written_runs.specs.Laws.RowsGo.{read_goes}

falls_same : (instr : FlatInstr) → falls_on instr ≡ item_falls_through (flat_item instr)
falls_same (Of class instr) = refl
falls_same (NullTest local) = refl

targets_same : (instr : FlatInstr) → targets_at instr ≡ item_targets (flat_item instr)
targets_same (Of class instr) = refl
targets_same (NullTest local) = refl

-- ---- types that are assigned

assigned_many : (headers : Headers) (lows highs : List VType) → AreAssignable headers lows highs → length highs ≡ length lows
assigned_many headers [] [] are = refl
assigned_many headers [] (high ∷ highs) are = absurd are
assigned_many headers (low ∷ lows) [] are = absurd are
assigned_many headers (low ∷ lows) (high ∷ highs) are = ap suc (assigned_many headers lows highs are.1)

assigned_at : (headers : Headers) (lows highs : List VType) (unit : ℕ) (high : VType) → AreAssignable headers lows highs
    → slice_get highs unit ≡ Some high
    → (low : VType) × (slice_get lows unit ≡ Some low) × IsAssignable headers low high
assigned_at headers [] [] unit high are is = absurd (none-some high is)
assigned_at headers [] (one ∷ highs) unit high are is = absurd are
assigned_at headers (low ∷ lows) [] unit high are is = absurd are
assigned_at headers (low ∷ lows) (one ∷ highs) zero high are is =
    (low, refl, subst (IsAssignable headers low) (same_Some one high is) are.0)
assigned_at headers (low ∷ lows) (one ∷ highs) (suc unit) high are is = assigned_at headers lows highs unit high are.1 is

no_top_assigned : {headers : Headers} {low high : VType} → IsAssignable headers low high → is_top high ≡ false → is_top low ≡ false
no_top_assigned (to_same type) is = is
no_top_assigned (to_top type) is = absurd (false≢true (sym is))
no_top_assigned (from_null name) is = refl
no_top_assigned (of_names low high names) is = refl

-- ---- the edges of a point

module _ (s : PlanScope) (scope : Scope) where
  -- what a local unit of a target, usable there, comes from
  abbrev Comes : List VType → ℕ → Type 0
  Comes locals to =
      (unit : ℕ) (type : VType)
      → slice_get (local_types s.flat to) unit ≡ Some type
      → is_top type ≡ false
      → (low : VType) × (slice_get locals unit ≡ Some low) × (is_top low ≡ false)

  arrives : (to : ℕ) (frame : Frame) → MayGoToPoint s.classes scope s.flat (Some frame) to
      → (length (stack_types s.flat to) ≡ length frame.stack) × Comes frame.locals to
  arrives to frame may = by (point_at s.flat to) refl where
    by : (found : Option Point) → point_at s.flat to ≡ found → (length (stack_types s.flat to) ≡ length frame.stack) × Comes frame.locals to
    by None none =
        let nowhere : MayGoTo (host_scope s.classes scope s.flat) (Some frame) None =
        subst (MayGoTo (host_scope s.classes scope s.flat) (Some frame)) (ap (option_map (λ (p : Point). read_frame s.flat p.typed)) none) may in
        absurd nowhere
    by (Some next) some = (entries, comes) where
      assignable : MayGoTo (host_scope s.classes scope s.flat) (Some frame) (Some (read_frame s.flat next.typed))
      assignable =
          subst (MayGoTo (host_scope s.classes scope s.flat) (Some frame)) (ap (option_map (λ (p : Point). read_frame s.flat p.typed)) some) may

      entries : length (stack_types s.flat to) ≡ length frame.stack
      entries =
          let types : length (stack_types s.flat to) ≡ length next.typed.stack = rw (some) refl in
          types ∙ sym (length-map next.typed.stack (read_type s.flat))
          ∙ assigned_many (host_scope s.classes scope s.flat).headers frame.stack (map (read_type s.flat) next.typed.stack) assignable.stack

      comes : Comes frame.locals to
      comes unit type is high =
          let types : local_types s.flat to ≡ next.typed.locals = rw (some) refl in
          let there : slice_get (map (read_type s.flat) next.typed.locals) unit ≡ Some (read_type s.flat type) =
          slice_get-map (read_type s.flat) next.typed.locals unit
          ∙ ap (option_map (read_type s.flat)) (sym (ap (λ (all : List VType). slice_get all unit) types) ∙ is) in
          let low =
          assigned_at (host_scope s.classes scope s.flat).headers frame.locals (map (read_type s.flat) next.typed.locals) unit (read_type s.flat type)
          assignable.locals there in
          (low.0, low.1, no_top_assigned low.2 (read_no_top s.flat type ∙ high))

  module _ (typed : TypesFlat s.classes scope s.flat) (at : ℕ) (point : Point) (is_point : point_at s.flat at ≡ Some point)
      (inits : CallsInit s point.instr) where
    abbrev p : PlanRow
    p = row_of_point s at point

    abbrev read : Frame
    read = read_frame s.flat point.typed

    abbrev done : Row
    done = read_row s.classes scope s.flat at point

    types : TypesPoint s.classes scope s.flat at point
    types = typed.points at point is_point

    fits : FitsRow point.typed p done.locals (stack_behind read done)
    fits = row_fits s point.typed scope at point.instr inits types.row

    abbrev behind : Frame
    behind = record { locals = done.locals; stack = stack_behind read done }

    abbrev Fits : RowEdge → Type 0
    Fits edge = FitsAlong s at point edge

    next_fits : (falls : Bool) → falls_on point.instr ≡ falls → AllByRecursion Fits (next_edges at p falls)
    next_fits false e = tt
    next_fits true e = (
      record {
        entries = may.0 ∙ fits.entries;
        usable = λ unit place type is high source. let low = may.1 unit type is high in fits.usable unit place low.0 low.1 low.2 source;
      },
      tt,
    ) where
      falls : item_falls_through (flat_item point.instr) ≡ true
      falls = sym (falls_same point.instr) ∙ e

      on : done.goes_on ≡ true
      on =
          read_goes (instr_scope s.classes scope s.flat point.instr) read at (flat_item point.instr)
          (reading_of s.classes s.flat at point.typed point.instr) falls

      flows : MayGoToPoint s.classes scope s.flat (Some behind) (at + 1)
      flows =
          subst (λ (found : Option Frame). IfSome found (λ frame. MayGoToPoint s.classes scope s.flat (Some frame) (at + 1)))
          (ap (λ (b : Bool). if b then row_frame read done else None) falls ∙ ap (λ (b : Bool). if b then Some behind else None) on)
          types.next

      may : (length (stack_types s.flat (at + 1)) ≡ length behind.stack) × Comes behind.locals (at + 1)
      may = arrives (at + 1) behind flows

    jumps_fit : (goes : Bool) (number : ℕ) (targets : List ℕ)
        → AllByRecursion (MayGoToPoint s.classes scope s.flat (if goes then Some behind else None)) targets
        → AllByRecursion Fits (jump_edges p number targets)
    jumps_fit goes number [] may = tt
    jumps_fit false number (to ∷ targets) may = absurd may.0
    jumps_fit true number (to ∷ targets) may = (
      record {
        entries = (arrives to behind may.0).0 ∙ fits.entries;
        usable = λ unit place type is high source.
            let low = (arrives to behind may.0).1 unit type is high in fits.usable unit place low.0 low.1 low.2 source;
      },
      jumps_fit true (number + 1) targets may.1,
    )

    handlers_fit : (guard : Guard) (number : ℕ) (handlers : List FlatHandler)
        → AllByRecursion (λ handler. MayGoToPoint s.classes scope s.flat (Some (catch_frame read (caught_class handler.catch_class))) handler.to) handlers
        → AllByRecursion Fits (handler_edges guard number handlers)
    handlers_fit guard number [] may = tt
    handlers_fit guard number (handler ∷ handlers) may = (
      record {
        entries = (arrives handler.to (catch_frame read (caught_class handler.catch_class)) may.0).0;
        usable = λ unit place type is high source.
            let low = (arrives handler.to (catch_frame read (caught_class handler.catch_class)) may.0).1 unit type is high in
            handler_usable s.flat point.typed unit place low.0 low.1 low.2 source;
      },
      handlers_fit guard (number + 1) handlers may.1,
    )

    thrown_fit : (throws : Option Guard) → AllByRecursion Fits (thrown_edges throws point.handlers)
    thrown_fit None = tt
    thrown_fit (Some guard) = handlers_fit guard 0 point.handlers types.handlers

    pub along : AllByRecursion Fits (edges_of at point p)
    along =
        holds_of_both Fits (next_edges at p (falls_on point.instr) ++ jump_edges p 0 (targets_at point.instr)) (thrown_edges p.throws point.handlers)
        (holds_of_both Fits (next_edges at p (falls_on point.instr)) (jump_edges p 0 (targets_at point.instr))
        (next_fits (falls_on point.instr) refl)
        (jumps_fit done.goes_on 0 (targets_at point.instr)
        (subst (AllByRecursion (MayGoToPoint s.classes scope s.flat (row_frame read done))) (sym (targets_same point.instr)) types.targets)))
        (thrown_fit p.throws)

  -- ---- the second unit of a store

  wide_kind : (kind : Kind) (value : VType) → is_wide_value (blank_of_kind kind) ≡ true → IsOfKind kind value → is_wide value ≡ true
  wide_kind kinds.Int value wide is = absurd (false≢true wide)
  wide_kind kinds.Long value wide is = ap is_wide is
  wide_kind kinds.Float value wide is = absurd (false≢true wide)
  wide_kind kinds.Double value wide is = ap is_wide is
  wide_kind kinds.Ref value wide is = absurd (false≢true wide)

  second_fits : TypesFlat s.classes scope s.flat → (at : ℕ) (point : Point) (class : ℕ) (kind : Kind) (local : ℕ) (type : VType)
      → point_at s.flat at ≡ Some point
      → point.instr ≡ Of class (Store kind local)
      → is_wide_value (blank_of_kind kind) ≡ true
      → slice_get (local_types s.flat (at + 1)) (local + 1) ≡ Some type
      → is_top type ≡ true
  second_fits typed at point class kind local type is_point is_instr wide is = by (is_top type) refl where
    read : Frame
    read = read_frame s.flat point.typed

    types : TypesPoint s.classes scope s.flat at (record point { instr = Of class (Store kind local) })
    types =
        subst (λ (instr : FlatInstr). TypesPoint s.classes scope s.flat at (record point { instr = instr })) is_instr (typed.points at point is_point)

    fit : AllFit (instr_scope s.classes scope s.flat (Of class (Store kind local))) (of_kind kind ∷ []) (topmost 1 read.stack)
    fit = types.row.operands

    value_wide : is_wide (lowest_of 1 read.stack) ≡ true
    value_wide = of_top (topmost 1 read.stack) refl fit where
      of_top : (top : List VType) → topmost 1 read.stack ≡ top
          → AllFit (instr_scope s.classes scope s.flat (Of class (Store kind local))) (of_kind kind ∷ []) top
          → is_wide (lowest_of 1 read.stack) ≡ true
      of_top [] e fit = absurd fit
      of_top (value ∷ rest) e fit = rw (e) (wide_kind kind value wide fit.0)

    by : (b : Bool) → is_top type ≡ b → b ≡ true
    by true e = refl
    by false e =
        let low = (arrives (at + 1) _ types.next).1 (local + 1) type is e in
        let top = second_top local (lowest_of 1 read.stack) read.locals low.0 value_wide low.1 in
        absurd (false≢true (sym low.2 ∙ ap is_top top))

pub rows_fit_typed : (s : PlanScope) (scope : Scope)
    → TypesFlat s.classes scope s.flat
    → ((at : ℕ) (point : Point) → point_at s.flat at ≡ Some point → CallsInit s point.instr)
    → RowsFit s
rows_fit_typed s scope typed inits = record {
  along = λ at point is. along s scope typed at point is (inits at point is);
  second = second_fits s scope typed;
}

-- Points whose instruction takes some entries, gives others, and goes on behind.
use Rattle.flow_code.specs.ReadTypes.{read_frame}
use Rattle.same_runs.specs.TypedFlats.{MayGoToPoint, TypesPoint, read_at, read_row}
use Rattle.std.proofs.Common.{◌≡◌, ◌+◌, ◌≤◌, ◌-◌, ℕ, Bool, true, false, List, [], ◌∷◌, length, drop, Option, Some, None, option_map, if◌then◌else◌, refl, sym, ap, subst, ◌∙◌, arith}
use Rattle.std.specs.Prelude.{IfSome}
use Rattle.std.specs.List.{AllByRecursion}
use Rattle.std.proofs.lemmas.List.{take_all}
use Rattle.class_model.specs.Frames.{depth}
use Rattle.class_model.specs.declared.frame.Frame.{Frame}
use Rattle.class_model.specs.declared.frame.VType.{VType}
use Rattle.class_tree.specs.Headers.{Classes}
use Rattle.expanded_runs.proofs.StackRoom.{no_deeper, two_each}
use Rattle.flow_code.specs.FlatCode.{FlatCode, point_at}
use Rattle.flow_code.specs.FlatRoom.{stack_room}
use Rattle.flow_code.specs.declared.point.Point.{Point}
use Rattle.member_link.specs.Bodies.{catch_frame, item_falls_through, item_targets}
use Rattle.member_link.specs.BodyTyping.{RowHolds}
use Rattle.member_link.specs.Rows.Operands.{topmost, under}
use Rattle.member_link.specs.Rows.Row.{row_frame}
use Rattle.member_link.specs.Scope.{Scope}
use Rattle.same_runs.specs.FlatBodies.{caught_class}
use Rattle.same_runs.specs.Flats.{flat_item, instr_scope}

-- ---- no entries are taken

drop_whole : (stack : List VType) → drop (length stack) stack ≡ []
drop_whole [] = refl
drop_whole (entry ∷ stack) = drop_whole stack

pub topmost_none : (stack : List VType) → topmost 0 stack ≡ []
topmost_none stack =
    let count : length stack - 0 ≡ length stack = omega arith in
    ap (λ (n : ℕ). drop n stack) count ∙ drop_whole stack

pub under_none : (stack : List VType) → under 0 stack ≡ stack
under_none stack = take_all (length stack - 0) stack (omega arith)

module _ (classes : Classes) (s : Scope) (flat : FlatCode) where
  -- ---- the room of the stack

  -- entries as many as those before some point
  pub has_room : (entries : List VType) (number : ℕ) (point : Point) → point_at flat number ≡ Some point
      → length entries ≡ length point.typed.stack
      → depth entries ≤ stack_room flat
  has_room entries number point is many =
      let few = no_deeper flat.points number point.typed (ap (option_map (λ (p : Point). p.typed)) is) in
      let two = two_each entries in
      omega (arith, many, few, two)

  -- the frame of a point, read
  pub read_there : (number : ℕ) (point : Point) (frame : Frame) → point_at flat number ≡ Some point → point.typed ≡ frame
      → read_at flat number ≡ Some (read_frame flat frame)
  read_there number point frame is typed =
      ap (option_map (λ (p : Point). read_frame flat p.typed)) is ∙ ap (λ (f : Frame). Some (read_frame flat f)) typed

  -- ---- control goes on

  pub goes_typed : (number : ℕ) (point : Point) (after : Frame)
      → RowHolds (instr_scope classes s flat point.instr) (read_frame flat point.typed) (read_row classes s flat number point)
      → row_frame (read_frame flat point.typed) (read_row classes s flat number point) ≡ Some after
      → MayGoToPoint classes s flat (Some after) (number + 1)
      → item_targets (flat_item point.instr) ≡ []
      → AllByRecursion
      (λ handler. MayGoToPoint classes s flat
      (Some (catch_frame (read_frame flat point.typed) (caught_class handler.catch_class))) handler.to) point.handlers
      → TypesPoint classes s flat number point
  goes_typed number point after holds behind goes no_targets handlers = record {
    row = holds;
    next = by (item_falls_through (flat_item point.instr));
    targets =
        subst (AllByRecursion (MayGoToPoint classes s flat (row_frame (read_frame flat point.typed) (read_row classes s flat number point))))
        (sym no_targets) tt;
    handlers = handlers;
  } where
    by : (falls : Bool)
        → IfSome (if falls then row_frame (read_frame flat point.typed) (read_row classes s flat number point) else None)
        (λ frame. MayGoToPoint classes s flat (Some frame) (number + 1))
    by false = tt
    by true = subst (λ (o : Option Frame). IfSome o (λ frame. MayGoToPoint classes s flat (Some frame) (number + 1))) (sym behind) goes

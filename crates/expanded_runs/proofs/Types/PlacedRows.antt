-- Rows of an instruction in its place in flat code: what they ask holds where it held, and they leave the same in the place.
use Rattle.std.proofs.Common.{◌≡◌, ◌-◌, ◌≤◌, Bool, true, false, List, [], ◌++◌, length, map, Option, Some, None, option_map, if◌then◌else◌, refl, sym, ap, subst, ◌∙◌, inl, inr, arith}
use Rattle.std.specs.Prelude.{◌⊎◌}
use Rattle.std.specs.List.{AllByRecursion}
use Rattle.std.proofs.lemmas.List.{append_assoc, length-drop, map-append}
use Rattle.class_model.specs.declared.frame.Frame.{Frame}
use Rattle.class_model.specs.declared.frame.VType.{VType}
use Rattle.expanded_runs.proofs.Types.PlacedTypes.{IsKept, Place, all_fit_kept, fit_as_many, flat_scope, placed_frame, placed_locals, placed_stack, placed_type, topmost_same, under_same}
use Rattle.member_link.specs.RowScope.{RowScope}
use Rattle.member_link.specs.Rows.Operands.{AllFit, Need, topmost, under}
use Rattle.member_link.specs.Rows.Row.{Row, conditional, either, ending, no_row, plain, row_frame, stack_behind, stack_left}

-- it leaves entries as they are, and gives none
pub record Leaves (row : Row) : Type 0 where
  pub none_given : row.gives ≡ []
  pub as_before : (entries : List VType) → row.becomes entries ≡ entries

-- as many are on the stack as are asked for
pub has_enough : (s : RowScope) (needs : List Need) (stack : List VType) → AllFit s needs (topmost (length needs) stack)
    → length needs ≤ length stack
has_enough s needs stack fit =
    omega (arith, fit_as_many s needs (topmost (length needs) stack) fit, length-drop (length stack - length needs) stack)

module _ (p : Place) (f : Frame) where
  -- what a row asks for is on the stack
  abbrev pub HasOperands : Row → Type 0
  HasOperands row = AllFit p.scope row.takes (topmost (length row.takes) f.stack)

  pub record Moves (row also : Row) : Type 0 where
    pub takes : also.takes ≡ row.takes
    pub fits : row.further → AllFit (flat_scope p) row.takes (map (placed_type p) (topmost (length row.takes) f.stack))
    pub local : row.local → also.local
    pub gives : also.gives ≡ map (placed_type p) row.gives
    pub further : row.further → also.further
    pub locals : row.local → also.locals ≡ placed_locals p row.locals
    pub becomes : (entries : List VType) → also.becomes (placed_stack p entries) ≡ placed_stack p (row.becomes entries)
    pub goes_on : also.goes_on ≡ row.goes_on
    -- where control does not go on, nothing is pushed
    pub ends : (row.goes_on ≡ true) ⊎ Leaves row

  -- ---- forms of rows

  pub plain_moves : (takes : List Need) (gives given : List VType) → AllByRecursion (IsKept p) takes → given ≡ map (placed_type p) gives
      → HasOperands (plain f takes gives) → Moves (plain f takes gives) (plain (placed_frame p f) takes given)
  plain_moves takes gives given kept given_are fit = record {
    takes = refl;
    fits = λ further. all_fit_kept p takes _ kept fit;
    local = λ held. held;
    gives = given_are;
    further = λ held. held;
    locals = λ held. refl;
    becomes = λ entries. refl;
    goes_on = refl;
    ends = inl refl;
  }

  pub no_row_moves : HasOperands (no_row f) → Moves (no_row f) (no_row (placed_frame p f))
  no_row_moves fit = plain_moves _ _ _ (tt, tt) refl fit

  pub conditional_moves : (takes : List Need) (gives given : List VType) (Further Also Access Asked : Type 0)
      → AllByRecursion (IsKept p) takes → given ≡ map (placed_type p) gives → (Further → Also)
      → HasOperands (conditional f takes gives Further Access)
      → Moves (conditional f takes gives Further Access) (conditional (placed_frame p f) takes given Also Asked)
  conditional_moves takes gives given Further Also Access Asked kept given_are also fit = record {
    takes = refl;
    fits = λ further. all_fit_kept p takes _ kept fit;
    local = λ held. held;
    gives = given_are;
    further = also;
    locals = λ held. refl;
    becomes = λ entries. refl;
    goes_on = refl;
    ends = inl refl;
  }

  pub ending_moves : (takes : List Need) (Further Also : Type 0) → AllByRecursion (IsKept p) takes → (Further → Also)
      → HasOperands (ending f takes Further) → Moves (ending f takes Further) (ending (placed_frame p f) takes Also)
  ending_moves takes Further Also kept also fit = record {
    takes = refl;
    fits = λ further. all_fit_kept p takes _ kept fit;
    local = λ held. held;
    gives = refl;
    further = also;
    locals = λ held. refl;
    becomes = λ entries. refl;
    goes_on = refl;
    ends = inr (record { none_given = refl; as_before = λ entries. refl });
  }

  pub either_moves : (test : Bool) (row also other other_also : Row) → (HasOperands row → Moves row also)
      → (HasOperands other → Moves other other_also) → HasOperands (either test row other)
      → Moves (either test row other) (either test also other_also)
  either_moves true row also other other_also one two fit = one fit
  either_moves false row also other other_also one two fit = two fit

  -- ---- what follows

  module _ (row also : Row) (fit : HasOperands row) (moves : Moves row also) where
    enough : length row.takes ≤ length f.stack
    enough = has_enough p.scope row.takes f.stack fit

    pub operands_fit : row.further → AllFit (flat_scope p) also.takes (topmost (length also.takes) (placed_stack p f.stack))
    operands_fit further =
        subst (λ (needs : List Need). AllFit (flat_scope p) needs (topmost (length needs) (placed_stack p f.stack))) (sym moves.takes)
        (subst (λ (entries : List VType). AllFit (flat_scope p) row.takes entries)
        (sym (topmost_same p (length row.takes) f.stack enough)) (moves.fits further))

    pub stack_moves : stack_behind (placed_frame p f) also ≡ placed_stack p (stack_behind f row)
    stack_moves =
        let left : also.becomes (under (length also.takes) (placed_stack p f.stack)) ≡ placed_stack p
        (row.becomes (under (length row.takes) f.stack)) =
        ap (λ (needs : List Need). also.becomes (under (length needs) (placed_stack p f.stack))) moves.takes
        ∙ ap also.becomes (under_same p (length row.takes) f.stack enough) ∙ moves.becomes (under (length row.takes) f.stack) in
        ap (λ (entries : List VType). entries ++ also.gives) left
        ∙ ap (λ (entries : List VType). placed_stack p (stack_left f row) ++ entries) moves.gives
        ∙ append_assoc p.below.stack (map (placed_type p) (stack_left f row)) (map (placed_type p) row.gives)
        ∙ ap (λ (entries : List VType). p.below.stack ++ entries) (sym (map-append (placed_type p) (stack_left f row) row.gives))

    abbrev framed : Bool → List VType → List VType → Option Frame
    framed on locals stack = if on then Some (record { locals = locals; stack = stack }) else None

    framed_same : (on : Bool) (locals stack : List VType)
        → framed on (placed_locals p locals) (placed_stack p stack) ≡ option_map (placed_frame p) (framed on locals stack)
    framed_same true locals stack = refl
    framed_same false locals stack = refl

    pub frame_moves : row.local → row_frame (placed_frame p f) also ≡ option_map (placed_frame p) (row_frame f row)
    frame_moves local =
        ap (λ (on : Bool). framed on also.locals (stack_behind (placed_frame p f) also)) moves.goes_on
        ∙ ap (λ (locals : List VType). framed row.goes_on locals (stack_behind (placed_frame p f) also)) (moves.locals local)
        ∙ ap (λ (stack : List VType). framed row.goes_on (placed_locals p row.locals) stack) stack_moves
        ∙ framed_same row.goes_on row.locals (stack_behind f row)

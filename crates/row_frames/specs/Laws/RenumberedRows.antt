-- Rows of an instruction at another number, behind frames whose uninitialised objects have other numbers: what they ask holds where it
-- held, and they leave the same with the other numbers.
use Rattle.std.proofs.Common.{◌≡◌, inl, inr, ℕ, Bool, true, false, List, [], ◌++◌, length, map, Option, Some, None, option_map, if◌then◌else◌, refl, sym, ap, subst, ◌∙◌}
use Rattle.std.specs.Prelude.{◌⊎◌}
use Rattle.std.proofs.lemmas.List.{length-map, map-append}
use Rattle.class_model.specs.declared.frame.Frame.{Frame}
use Rattle.class_model.specs.declared.frame.VType.{VType}
use Rattle.class_tree.specs.Headers.{Name}
use Rattle.row_frames.specs.Laws.NumberedFrames.{numbered_type, numbered_frame}
use Rattle.row_frames.specs.Laws.RenumberedTypes.{all_fit_kept, numbered_need, renumbered, topmost_same, under_same}
use Rattle.member_link.specs.RowScope.{RowScope}
use Rattle.member_link.specs.Rows.Operands.{AllFit, Need, topmost, under}
use Rattle.member_link.specs.Rows.Row.{Row, conditional, either, ending, no_row, plain, row_frame, stack_behind, stack_left}

-- it leaves entries as they are, and gives none
pub record Leaves (row : Row) : Type 0 where
  pub none_given : row.gives ≡ []
  pub as_before : (entries : List VType) → row.becomes entries ≡ entries

module _ (number : ℕ → ℕ) where
  pub record Moves (row also : Row) : Type 0 where
    pub takes : also.takes ≡ map (numbered_need number) row.takes
    pub local : row.local → also.local
    pub gives : also.gives ≡ map (numbered_type number) row.gives
    pub further : row.further → also.further
    pub access : row.access → also.access
    pub locals : also.locals ≡ map (numbered_type number) row.locals
    pub becomes : (entries : List VType)
        → also.becomes (map (numbered_type number) entries) ≡ map (numbered_type number) (row.becomes entries)
    pub goes_on : also.goes_on ≡ row.goes_on
    -- where control does not go on, nothing is pushed
    pub ends : (row.goes_on ≡ true) ⊎ Leaves row

  -- ---- forms of rows

  pub plain_moves : (f : Frame) (takes needs : List Need) (gives given : List VType) → needs ≡ map (numbered_need number) takes
      → given ≡ map (numbered_type number) gives → Moves (plain f takes gives) (plain (numbered_frame number f) needs given)
  plain_moves f takes needs gives given needs_are given_are = record {
    takes = needs_are;
    local = λ held. held;
    gives = given_are;
    further = λ held. held;
    access = λ held. held;
    locals = refl;
    becomes = λ entries. refl;
    goes_on = refl;
    ends = inl refl;
  }

  pub no_row_moves : (f : Frame) → Moves (no_row f) (no_row (numbered_frame number f))
  no_row_moves f = plain_moves f _ _ _ _ refl refl

  pub conditional_moves : (f : Frame) (takes needs : List Need) (gives given : List VType) (Further Also Access Asked : Type 0)
      → needs ≡ map (numbered_need number) takes → given ≡ map (numbered_type number) gives → (Further → Also) → (Access → Asked)
      → Moves (conditional f takes gives Further Access) (conditional (numbered_frame number f) needs given Also Asked)
  conditional_moves f takes needs gives given Further Also Access Asked needs_are given_are also asked = record {
    takes = needs_are;
    local = λ held. held;
    gives = given_are;
    further = also;
    access = asked;
    locals = refl;
    becomes = λ entries. refl;
    goes_on = refl;
    ends = inl refl;
  }

  pub ending_moves : (f : Frame) (takes needs : List Need) (Further Also : Type 0) → needs ≡ map (numbered_need number) takes
      → (Further → Also) → Moves (ending f takes Further) (ending (numbered_frame number f) needs Also)
  ending_moves f takes needs Further Also needs_are also = record {
    takes = needs_are;
    local = λ held. held;
    gives = refl;
    further = also;
    access = λ held. held;
    locals = refl;
    becomes = λ entries. refl;
    goes_on = refl;
    ends = inr (record { none_given = refl; as_before = λ entries. refl });
  }

  pub either_moves : (test : Bool) (row also other other_also : Row) → Moves row also → Moves other other_also
      → Moves (either test row other) (either test also other_also)
  either_moves true row also other other_also one two = one
  either_moves false row also other other_also one two = two

  -- ---- what follows

  module _ (f : Frame) (row also : Row) (moves : Moves row also) where
    as_many : length also.takes ≡ length row.takes
    as_many = ap (λ (needs : List Need). length needs) moves.takes ∙ length-map row.takes (numbered_need number)

    pub operands_fit : (s : RowScope) (room : ℕ) (news : ℕ → Option Name) → AllFit s row.takes (topmost (length row.takes) f.stack)
        → AllFit (renumbered s room news) also.takes (topmost (length also.takes) (map (numbered_type number) f.stack))
    operands_fit s room news fit =
        let same : map (numbered_type number) (topmost (length row.takes) f.stack) ≡ topmost (length also.takes)
        (map (numbered_type number) f.stack) =
        sym (topmost_same number (length row.takes) f.stack)
        ∙ ap (λ (n : ℕ). topmost n (map (numbered_type number) f.stack)) (sym as_many) in
        subst (λ (entries : List VType). AllFit (renumbered s room news) also.takes entries) same
        (subst (λ (needs : List Need). AllFit (renumbered s room news) needs
        (map (numbered_type number) (topmost (length row.takes) f.stack))) (sym moves.takes)
        (all_fit_kept number s room news row.takes _ fit))

    pub stack_moves : stack_behind (numbered_frame number f) also ≡ map (numbered_type number) (stack_behind f row)
    stack_moves =
        let left : also.becomes (under (length also.takes) (map (numbered_type number) f.stack)) ≡ map (numbered_type number)
        (row.becomes (under (length row.takes) f.stack)) =
        ap (λ (n : ℕ). also.becomes (under n (map (numbered_type number) f.stack))) as_many
        ∙ ap also.becomes (under_same number (length row.takes) f.stack) ∙ moves.becomes (under (length row.takes) f.stack) in
        ap (λ (entries : List VType). entries ++ also.gives) left
        ∙ ap (λ (entries : List VType). map (numbered_type number) (stack_left f row) ++ entries) moves.gives
        ∙ sym (map-append (numbered_type number) (stack_left f row) row.gives)

    abbrev framed : Bool → List VType → List VType → Option Frame
    framed on locals stack = if on then Some (record { locals = locals; stack = stack }) else None

    framed_same : (on : Bool) (locals stack : List VType)
        → framed on (map (numbered_type number) locals) (map (numbered_type number) stack) ≡ option_map (numbered_frame number)
        (framed on locals stack)
    framed_same true locals stack = refl
    framed_same false locals stack = refl

    pub frame_moves : row_frame (numbered_frame number f) also ≡ option_map (numbered_frame number) (row_frame f row)
    frame_moves =
        ap (λ (on : Bool). framed on also.locals (stack_behind (numbered_frame number f) also)) moves.goes_on
        ∙ ap (λ (locals : List VType). framed row.goes_on locals (stack_behind (numbered_frame number f) also)) moves.locals
        ∙ ap (λ (stack : List VType). framed row.goes_on (map (numbered_type number) row.locals) stack) stack_moves
        ∙ framed_same row.goes_on row.locals (stack_behind f row)

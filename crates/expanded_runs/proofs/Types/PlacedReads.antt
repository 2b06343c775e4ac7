-- An instruction in its place in flat code, by how it is read: its row holds, and the frame behind it may stand for what the frame of the
-- method may stand for.
use Rattle.std.proofs.Common.{◌≡◌, ◌+◌, ◌-◌, ◌*◌, ◌≤◌, ℕ, suc, Bool, true, List, [], ◌∷◌, ◌++◌, length, map, Option, Some, None, option_map, IsTrue, if◌then◌else◌, refl, sym, ap, subst, ◌∙◌, inl, inr, arith}
use Rattle.std.specs.Prelude.{◌⊎◌}
use Rattle.std.proofs.lemmas.List.{append-nil, append_assoc, length-append, length-map, length-take}
use Rattle.std.proofs.lemmas.Option.{none-some, same_Some}
use Rattle.class_model.specs.Frames.{depth, units, units_of_entries}
use Rattle.class_model.specs.declared.frame.Frame.{Frame}
use Rattle.class_model.specs.declared.frame.VType.{VType}
use Rattle.class_model.specs.declared.frame.VType.TheVariants as types
use Rattle.class_tree.specs.Headers.{Name}
use Rattle.class_tree.specs.Subtype.{IsArray}
use Rattle.expanded_runs.proofs.Types.PlacedGoes.{StandsFor, all_initialised, all_joined, all_older, all_themselves, frame_goes, itself_stands}
use Rattle.expanded_runs.proofs.Types.PlacedMembers.{arguments_kept}
use Rattle.expanded_runs.proofs.Types.PlacedRows.{Leaves, Moves, frame_moves, has_enough, operands_fit, stack_moves}
use Rattle.expanded_runs.proofs.Types.PlacedTypes.{Place, all_fit_kept, flat_scope, new_type, placed_frame, placed_locals, placed_stack, placed_type, single_same, topmost_same, under_same}
use Rattle.member_link.specs.Access.{IsAtOrBelow}
use Rattle.member_link.specs.BodyTyping.{RowHolds}
use Rattle.member_link.specs.References.{Reference}
use Rattle.member_link.specs.Rows.FrameAssignability.{IsFrameAssignable}
use Rattle.member_link.specs.Rows.MemberRows.{argument_needs, init_row, initialised_type, receiver}
use Rattle.member_link.specs.Rows.Operands.{AllFit, IsUninitialised, is_single, single, topmost, under, uninitialised}
use Rattle.member_link.specs.Rows.Row.{Row, access_aside, plain, row_frame, stack_behind}
use Rattle.member_link.specs.Rows.Table.{new_row, without_older}
use Rattle.member_link.specs.Signatures.{result_of}

-- ---- room for the stack

units_few : (type : VType) → length (units type) ≤ 2
units_few types.Long = omega arith
units_few types.Double = omega arith
units_few other = omega arith

-- an entry takes two units at most
two_each : (entries : List VType) → depth entries ≤ 2 * length entries
two_each [] = omega arith
two_each (type ∷ entries) =
    let rest : depth entries ≤ 2 * length entries = two_each entries in
    let here : length (units type) ≤ 2 = units_few type in
    let both : length (units type ++ units_of_entries entries) ≡ length (units type) + length (units_of_entries entries) =
    length-append (units type) (units_of_entries entries) in
    omega (arith, rest, here, both)

-- The stack of the flat code has room for so many entries: as many as before the instruction, and as behind it, in its place.
pub record HasRoom (p : Place) (f : Frame) (row : Row) : Type 0 where
  pub most : ℕ
  pub room : p.around.room ≡ 2 * most
  pub here : length p.below.stack + length f.stack ≤ most
  pub behind : (g : Frame) → row_frame f row ≡ Some g → length p.below.stack + length g.stack ≤ most

-- ---- an instruction

-- what a frame behind it is in the flat code
pub record GoesBehind (p : Place) (g : Frame) (found : Option Frame) : Type 0 where
  pub frame : Frame
  pub is : found ≡ Some frame
  pub goes : (to : Frame) → IsFrameAssignable p.scope.headers g to → IsFrameAssignable p.scope.headers frame (placed_frame p to)

pub record Reads (p : Place) (f : Frame) (row also : Row) : Type 0 where
  pub holds : RowHolds (flat_scope p) (placed_frame p f) also
  pub behind : (g : Frame) → row_frame f row ≡ Some g → GoesBehind p g (row_frame (placed_frame p f) also)
  pub stops : row_frame f row ≡ None → row_frame (placed_frame p f) also ≡ None

module _ (p : Place) (f : Frame) where
  placed_many : (stack : List VType) → length (placed_stack p stack) ≡ length p.below.stack + length stack
  placed_many stack = omega (arith, length-append p.below.stack (map (placed_type p) stack), length-map stack (placed_type p))

  few : (stack : List VType) (count : ℕ) → length (under count stack) ≤ length stack
  few stack count = omega (arith, length-take (length stack - count) stack)

  -- ---- it is read as it is

  module _ (row also : Row) (moves : Moves p f row also) (held : RowHolds p.scope f (access_aside row)) (room : HasRoom p f row) where
    left : (row.goes_on ≡ true) ⊎ Leaves row → length p.below.stack + length (stack_behind f row) ≤ room.most
    left (inl on) =
        room.behind (record { locals = row.locals; stack = stack_behind f row })
        (ap (λ (goes_on : Bool). if goes_on then Some (record { locals = row.locals; stack = stack_behind f row }) else None) on)
    left (inr leaves) =
        let same : stack_behind f row ≡ under (length row.takes) f.stack =
        ap (λ (given : List VType). row.becomes (under (length row.takes) f.stack) ++ given) leaves.none_given
        ∙ append-nil (row.becomes (under (length row.takes) f.stack)) ∙ leaves.as_before (under (length row.takes) f.stack) in
        let many : length (stack_behind f row) ≡ length (under (length row.takes) f.stack) = ap length same in
        omega (arith, many, few f.stack (length row.takes), room.here)

    deep : depth (stack_behind (placed_frame p f) also) ≤ p.around.room
    deep =
        let many : length (stack_behind (placed_frame p f) also) ≡ length p.below.stack + length (stack_behind f row) =
        ap length (stack_moves p f row also held.operands moves) ∙ placed_many (stack_behind f row) in
        omega (arith, many, left moves.ends, two_each (stack_behind (placed_frame p f) also), room.room)

    pub itself_reads : Reads p f row (access_aside also)
    itself_reads = record {
      holds = record {
        operands = operands_fit p f row also held.operands moves held.further;
        local = moves.local held.local;
        depth_fits = deep;
        further = moves.further held.further;
        access = tt;
      };
      behind = λ g is. record {
        frame = placed_frame p g;
        is = same ∙ ap (option_map (placed_frame p)) is;
        goes = λ to assignable. frame_goes p (map (placed_type p) g.locals) (map (placed_type p) g.stack) g to
            (all_themselves p g.locals) (all_themselves p g.stack) assignable;
      };
      stops = λ none. same ∙ ap (option_map (placed_frame p)) none;
    } where
      same : row_frame (placed_frame p f) also ≡ option_map (placed_frame p) (row_frame f row)
      same = frame_moves p f row also held.operands moves held.local

  -- ---- a new at a site

  module _ (at : ℕ) (name : Name) (is_site : p.site (p.number at) ≡ Some name)
      (held : RowHolds p.scope f (access_aside (new_row f at))) (room : HasRoom p f (new_row f at)) where
    abbrev object_row : Row
    object_row = plain (placed_frame p f) [] (types.Object name ∷ [])

    abbrev object_behind : Frame
    object_behind = record {
      locals = placed_locals p f.locals;
      stack = p.below.stack ++ (map (placed_type p) (under 0 f.stack) ++ types.Object name ∷ []);
    }

    abbrev new_behind : Frame
    new_behind = record { locals = map (without_older at) f.locals; stack = under 0 f.stack ++ types.Uninit at ∷ [] }

    object_stack : stack_behind (placed_frame p f) object_row ≡ object_behind.stack
    object_stack =
        ap (λ (entries : List VType). entries ++ types.Object name ∷ []) (under_same p 0 f.stack (omega arith))
        ∙ append_assoc p.below.stack (map (placed_type p) (under 0 f.stack)) (types.Object name ∷ [])

    new_stands : StandsFor p (types.Object name) (types.Uninit at)
    new_stands =
        subst (λ (site : Option Name). StandsFor p (new_type site (p.number at)) (types.Uninit at)) is_site
        (itself_stands p (types.Uninit at))

    object_deep : depth (stack_behind (placed_frame p f) object_row) ≤ p.around.room
    object_deep =
        let few_left = room.behind new_behind refl in
        let many : length (stack_behind (placed_frame p f) object_row) ≡ length object_behind.stack = ap length object_stack in
        let parts = length-append p.below.stack (map (placed_type p) (under 0 f.stack) ++ types.Object name ∷ []) in
        let own = length-append (map (placed_type p) (under 0 f.stack)) (types.Object name ∷ []) in
        let others = length-append (under 0 f.stack) (types.Uninit at ∷ []) in
        omega (
          arith,
          few_left,
          many,
          parts,
          own,
          others,
          length-map (under 0 f.stack) (placed_type p),
          two_each (stack_behind (placed_frame p f) object_row),
          room.room,
        )

    pub object_reads : Reads p f (new_row f at) object_row
    object_reads = record {
      holds = record {
        operands =
            subst (λ (entries : List VType). AllFit (flat_scope p) [] entries) (sym (topmost_same p 0 f.stack (omega arith)))
            (all_fit_kept p [] (topmost 0 f.stack) tt held.operands);
        local = tt;
        depth_fits = object_deep;
        further = tt;
        access = tt;
      };
      behind = λ g is. record {
        frame = object_behind;
        is = ap (λ (stack : List VType). Some (record { locals = placed_locals p f.locals; stack = stack })) object_stack;
        goes = λ to assignable. frame_goes p (map (placed_type p) f.locals)
            (map (placed_type p) (under 0 f.stack) ++ types.Object name ∷ []) new_behind to (all_older p at f.locals)
            (all_joined p (map (placed_type p) (under 0 f.stack)) (under 0 f.stack) (types.Object name ∷ []) (types.Uninit at ∷ [])
            (all_themselves p (under 0 f.stack)) (new_stands, tt))
            (subst (λ (h : Frame). IsFrameAssignable p.scope.headers h to) (sym (same_Some new_behind g is)) assignable);
      };
      stops = λ none. absurd cc;
    }

  -- ---- a call of java/lang/Object.<init> on the object of a site

  module _ (r : Reference) (on_this : receiver f r.desc ≡ types.UninitThis) (no_result : result_of r.desc ≡ None) (name : Name)
      (is_site : p.this ≡ Some name) (at_or_below : IsAtOrBelow p.scope.headers name p.scope.own.name) (no_array : ¬ IsArray name)
      (no_array_above : ¬ IsArray p.scope.own.name) (held : RowHolds p.scope f (access_aside (init_row p.scope f r)))
      (room : HasRoom p f (init_row p.scope f r)) where
    abbrev pop_row : Row
    pop_row = plain (placed_frame p f) (single ∷ argument_needs r.desc) []

    abbrev left_under : List VType
    left_under = under (suc (length (argument_needs r.desc))) f.stack

    abbrev pop_behind : Frame
    pop_behind = record {
      locals = placed_locals p f.locals;
      stack = p.below.stack ++ (map (placed_type p) left_under ++ []);
    }

    abbrev change : VType → VType
    change = initialised_type p.scope r types.UninitThis

    abbrev init_behind : Frame
    init_behind = record { locals = map change f.locals; stack = map change left_under ++ [] }

    init_is : row_frame f (init_row p.scope f r) ≡ Some init_behind
    init_is = rw (on_this, no_result) refl

    enough : suc (length (argument_needs r.desc)) ≤ length f.stack
    enough = has_enough p.scope (uninitialised ∷ argument_needs r.desc) f.stack held.operands

    pop_stack : stack_behind (placed_frame p f) pop_row ≡ pop_behind.stack
    pop_stack =
        ap (λ (entries : List VType). entries ++ []) (under_same p (suc (length (argument_needs r.desc))) f.stack enough)
        ∙ append_assoc p.below.stack (map (placed_type p) left_under) []

    pop_deep : depth (stack_behind (placed_frame p f) pop_row) ≤ p.around.room
    pop_deep =
        let many : length (stack_behind (placed_frame p f) pop_row) ≡ length pop_behind.stack = ap length pop_stack in
        let parts = length-append p.below.stack (map (placed_type p) left_under ++ []) in
        let own = length-append (map (placed_type p) left_under) [] in
        omega (
          arith,
          many,
          parts,
          own,
          length-map left_under (placed_type p),
          few f.stack (suc (length (argument_needs r.desc))),
          room.here,
          room.room,
          two_each (stack_behind (placed_frame p f) pop_row),
        )

    single_if : (type : VType) → IsUninitialised type → is_single type ≡ true
    single_if types.UninitThis is = refl
    single_if (types.Uninit at) is = refl
    single_if other is = absurd is

    operands : (entries : List VType) → AllFit p.scope (uninitialised ∷ argument_needs r.desc) entries
        → AllFit (flat_scope p) (single ∷ argument_needs r.desc) (map (placed_type p) entries)
    operands [] fit = absurd fit
    operands (object ∷ entries) fit = (
      subst (λ (b : Bool). IsTrue b) (sym (single_same p object ∙ single_if object fit.0)) refl,
      all_fit_kept p (argument_needs r.desc) entries (arguments_kept p f r.desc) fit.1,
    )

    pub pop_reads : Reads p f (init_row p.scope f r) pop_row
    pop_reads = record {
      holds = record {
        operands =
            subst (λ (entries : List VType). AllFit (flat_scope p) (single ∷ argument_needs r.desc) entries)
            (sym (topmost_same p (suc (length (argument_needs r.desc))) f.stack enough))
            (operands (topmost (suc (length (argument_needs r.desc))) f.stack) held.operands);
        local = tt;
        depth_fits = pop_deep;
        further = tt;
        access = tt;
      };
      behind = λ g is. record {
        frame = pop_behind;
        is = ap (λ (stack : List VType). Some (record { locals = placed_locals p f.locals; stack = stack })) pop_stack;
        goes = λ to assignable. frame_goes p (map (placed_type p) f.locals) (map (placed_type p) left_under ++ []) init_behind to
            (all_initialised p name is_site at_or_below no_array no_array_above r f.locals)
            (all_joined p (map (placed_type p) left_under) (map change left_under) [] []
            (all_initialised p name is_site at_or_below no_array no_array_above r left_under) tt)
            (subst (λ (h : Frame). IsFrameAssignable p.scope.headers h to)
            (sym (same_Some init_behind g (sym init_is ∙ is))) assignable);
      };
      stops = λ none. absurd (none-some init_behind (sym none ∙ init_is));
    }

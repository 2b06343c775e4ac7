-- The points in place of a callee's return: the result is narrowed, and control goes behind the call.
use Rattle.flow_code.specs.ReadTypes.{read_frame, read_type}
use Rattle.same_runs.specs.TypedFlats.{MayGoToPoint, TypesPoint}
use Rattle.std.proofs.Common.{◌≡◌, ◌+◌, ◌≤◌, ℕ, zero, suc, List, [], ◌∷◌, ◌++◌, length, map, slice_get, Option, Some, None, refl, sym, ap, subst, ◌∙◌, arith, append-nil}
use Rattle.std.specs.Prelude.{pos}
use Rattle.std.specs.List.{AllByRecursion}
use Rattle.std.proofs.lemmas.List.{append_assoc, length-map, map-append}
use Rattle.std.proofs.lemmas.Option.{none-some, same_Some}
use Rattle.class_model.specs.Descriptors.{kind_of}
use Rattle.class_model.specs.Frames.{depth}
use Rattle.class_model.specs.declared.descriptor.FieldType.{FieldType}
use Rattle.class_model.specs.declared.descriptor.FieldType.TheVariants as field_types
use Rattle.class_model.specs.declared.descriptor.Kind.{Kind}
use Rattle.class_model.specs.declared.descriptor.Kind.TheVariants as kinds
use Rattle.class_model.specs.declared.frame.Frame.{Frame}
use Rattle.class_model.specs.declared.frame.VType.{VType}
use Rattle.class_model.specs.declared.frame.VType.TheVariants as types
use Rattle.class_model.specs.declared.instr.Imm.TheVariants as imms
use Rattle.class_model.specs.declared.instr.Instr.TheVariants.{Const, Goto, Pure}
use Rattle.class_model.specs.declared.opcodes.TheConstants.{I2B, I2C, I2S, IAND}
use Rattle.class_tree.specs.Headers.{Classes, Headers}
use Rattle.expanded_code.specs.Expanded.{Narrowing, Setting, narrowing, own_narrowing, point_in, return_points, set_frame, set_type}
use Rattle.expanded_runs.proofs.Types.CallFacts.{Returned, returned_none, returned_one}
use Rattle.expanded_runs.proofs.Types.OwnPoints.{itself}
use Rattle.expanded_runs.proofs.Types.PlainPoints.{goes_typed, has_room, read_there, topmost_none, under_none}
use Rattle.expanded_runs.proofs.Types.ReturnFrames.{topmost_back, under_back}
use Rattle.flow_code.specs.FlatCode.{FlatCode, point_at}
use Rattle.flow_code.specs.FlatRoom.{stack_room}
use Rattle.flow_code.specs.declared.point.Point.{Point}
use Rattle.member_link.specs.Bodies.{caught_type}
use Rattle.member_link.specs.BodyTyping.{MayGoTo}
use Rattle.member_link.specs.Rows.ArithmeticRows.{operation_in, pure_operations}
use Rattle.member_link.specs.Rows.Operands.{AllFit, IsOfKind, of_kind, topmost, under}
use Rattle.member_link.specs.Scope.{Scope, own_descriptor}
use Rattle.member_link.specs.Signatures.{result_of}
use Rattle.same_runs.specs.FlatBodies.{caught_class}
use Rattle.same_runs.specs.Flats.{host_scope, instr_scope}

-- A return of a callee in a flat code, whose points stand from a number on: what holds of each of its points.
module _ (flat : FlatCode) (t : Setting) (at : ℕ) (frame : Frame) (behind start : ℕ)
    (there : (n : ℕ) (point : Point) → slice_get (return_points t at (set_frame t frame) behind) n ≡ Some point
    → point_at flat (start + n) ≡ Some point) (Holds : ℕ → Point → Type 0)
    (goto_holds : (number : ℕ) → point_at flat number ≡ Some (point_in t at (set_frame t frame) (Goto behind))
    → Holds number (point_in t at (set_frame t frame) (Goto behind)))
    (int_holds : (below : List VType) → (set_frame t frame).stack ≡ below ++ types.Int ∷ [] → (opcode : ℕ) (opcodes : List ℕ)
    → operation_in pure_operations opcode ≡ Some (record { opcodes = opcodes; takes = kinds.Int ∷ []; gives = kinds.Int })
    → (number : ℕ) (next : Point)
    → point_at flat (number + 1) ≡ Some next
    → next.typed ≡ set_frame t frame
    → Holds number (point_in t at (record (set_frame t frame) { stack = (set_frame t frame).stack ++ [] }) (Pure opcode)))
    (one_holds : (below : List VType) → (set_frame t frame).stack ≡ below ++ types.Int ∷ [] → (number : ℕ) (next : Point)
    → point_at flat (number + 1) ≡ Some next
    → next.typed ≡ record (set_frame t frame) { stack = (set_frame t frame).stack ++ types.Int ∷ [] }
    → Holds number (point_in t at (record (set_frame t frame) { stack = (set_frame t frame).stack ++ [] }) (Const (imms.Int (pos 1)))))
    (and_holds : (below : List VType) → (set_frame t frame).stack ≡ below ++ types.Int ∷ [] → (number : ℕ) (next : Point)
    → point_at flat (number + 1) ≡ Some next
    → next.typed ≡ set_frame t frame
    → Holds number (point_in t at (record (set_frame t frame) { stack = (set_frame t frame).stack ++ types.Int ∷ [] }) (Pure IAND))) where
  -- above the result
  abbrev with_above : List VType → Frame
  with_above above = record (set_frame t frame) { stack = (set_frame t frame).stack ++ above }

  abbrev points_by : List Narrowing → List Point
  points_by narrows =
      map (λ (n : Narrowing). point_in t at (record (set_frame t frame) { stack = (set_frame t frame).stack ++ n.above }) n.instr) narrows
      ++ point_in t at (set_frame t frame) (Goto behind)
      ∷ []

  -- an int is on top where a result is narrowed
  abbrev Narrows : List Narrowing → Type 0
  Narrows [] = Unit {0}
  Narrows (n ∷ narrows) = (below : List VType) × ((set_frame t frame).stack ≡ below ++ types.Int ∷ [])

  holds_by : (result : Option FieldType) → narrowing result ≡ own_narrowing t.coded.scope → Narrows (narrowing result)
      → (n : ℕ) (point : Point) → slice_get (points_by (narrowing result)) n ≡ Some point
      → Holds (start + n) point
  holds_by result own int n point is = by result own int n point is where
    stands : (narrows : List Narrowing) → narrows ≡ own_narrowing t.coded.scope → (m : ℕ) (one : Point) → slice_get (points_by narrows) m ≡ Some one
        → point_at flat (start + m) ≡ Some one
    stands narrows same m one there_is =
        there m one (subst (λ (all : List Narrowing). slice_get (points_by all) m ≡ Some one) same there_is)

    goto : (narrows : List Narrowing) → narrows ≡ own_narrowing t.coded.scope → (m : ℕ) (one : Point)
        → slice_get (points_by narrows) m ≡ Some (point_in t at (set_frame t frame) (Goto behind))
        → point_in t at (set_frame t frame) (Goto behind) ≡ one
        → Holds (start + m) one
    goto narrows same m one there_is is =
        subst (Holds (start + m)) is
        (goto_holds (start + m) (stands narrows same m (point_in t at (set_frame t frame) (Goto behind)) there_is))

    -- an operation on an int, and the goto
    narrow : (opcode : ℕ) (opcodes : List ℕ)
        → operation_in pure_operations opcode ≡ Some (record { opcodes = opcodes; takes = kinds.Int ∷ []; gives = kinds.Int })
        → (record { instr = Pure opcode; above = [] } ∷ []) ≡ own_narrowing t.coded.scope
        → Narrows (record { instr = Pure opcode; above = [] } ∷ [])
        → (m : ℕ) (one : Point) → slice_get (points_by (record { instr = Pure opcode; above = [] } ∷ [])) m ≡ Some one
        → Holds (start + m) one
    narrow opcode opcodes found same int zero one is =
        let next : start + 1 ≡ start + 0 + 1 = omega arith in
        subst (Holds (start + 0)) (same_Some _ one is)
        (int_holds int.0 int.1 opcode opcodes found (start + 0) (point_in t at (set_frame t frame) (Goto behind))
        (subst (λ (k : ℕ). point_at flat k ≡ Some (point_in t at (set_frame t frame) (Goto behind))) next
        (stands (record { instr = Pure opcode; above = [] } ∷ []) same 1 (point_in t at (set_frame t frame) (Goto behind)) refl)) refl)
    narrow opcode opcodes found same int (suc zero) one is =
        goto (record { instr = Pure opcode; above = [] } ∷ []) same 1 one refl (same_Some _ one is)
    narrow opcode opcodes found same int (suc (suc m)) one is = absurd (none-some one is)

    alone : [] ≡ own_narrowing t.coded.scope → (m : ℕ) (one : Point) → slice_get (points_by []) m ≡ Some one
        → Holds (start + m) one
    alone same zero one is = goto [] same 0 one refl (same_Some _ one is)
    alone same (suc m) one is = absurd (none-some one is)

    bits : narrowing (Some field_types.Bool) ≡ own_narrowing t.coded.scope → Narrows (narrowing (Some field_types.Bool))
        → (m : ℕ) (one : Point) → slice_get (points_by (narrowing (Some field_types.Bool))) m ≡ Some one
        → Holds (start + m) one
    bits same int zero one is =
        let next : start + 1 ≡ start + 0 + 1 = omega arith in
        subst (Holds (start + 0)) (same_Some _ one is)
        (one_holds int.0 int.1 (start + 0) (point_in t at (with_above (types.Int ∷ [])) (Pure IAND))
        (subst (λ (k : ℕ). point_at flat k ≡ Some (point_in t at (with_above (types.Int ∷ [])) (Pure IAND))) next
        (stands (narrowing (Some field_types.Bool)) same 1 (point_in t at (with_above (types.Int ∷ [])) (Pure IAND)) refl)) refl)
    bits same int (suc zero) one is =
        let next : start + 2 ≡ start + 1 + 1 = omega arith in
        subst (Holds (start + 1)) (same_Some _ one is)
        (and_holds int.0 int.1 (start + 1) (point_in t at (set_frame t frame) (Goto behind))
        (subst (λ (k : ℕ). point_at flat k ≡ Some (point_in t at (set_frame t frame) (Goto behind))) next
        (stands (narrowing (Some field_types.Bool)) same 2 (point_in t at (set_frame t frame) (Goto behind)) refl)) refl)
    bits same int (suc (suc zero)) one is = goto (narrowing (Some field_types.Bool)) same 2 one refl (same_Some _ one is)
    bits same int (suc (suc (suc m))) one is = absurd (none-some one is)

    by : (result : Option FieldType) → narrowing result ≡ own_narrowing t.coded.scope → Narrows (narrowing result)
        → (m : ℕ) (one : Point) → slice_get (points_by (narrowing result)) m ≡ Some one
        → Holds (start + m) one
    by None same int m one is = alone same m one is
    by (Some field_types.Byte) same int m one is = narrow I2B _ refl same int m one is
    by (Some field_types.Short) same int m one is = narrow I2S _ refl same int m one is
    by (Some field_types.Char) same int m one is = narrow I2C _ refl same int m one is
    by (Some field_types.Bool) same int m one is = bits same int m one is
    by (Some field_types.Int) same int m one is = alone same m one is
    by (Some field_types.Long) same int m one is = alone same m one is
    by (Some field_types.Float) same int m one is = alone same m one is
    by (Some field_types.Double) same int m one is = alone same m one is
    by (Some (field_types.Named name)) same int m one is = alone same m one is

  -- what is narrowed is an int
  int : {headers : Headers} (type : FieldType) → Returned headers (Some type) frame.stack → kind_of type ≡ kinds.Int
      → (below : List VType) × ((set_frame t frame).stack ≡ below ++ types.Int ∷ [])
  int type (returned_none none empty) is = absurd cc
  int type (returned_one other value some alone kind assignable) is =
      let same : other ≡ type = sym (same_Some type other some) in
      let int_value : value ≡ types.Int = subst (λ (k : Kind). IsOfKind k value) (ap kind_of same ∙ is) kind in (
        t.below.stack,
        ap (λ (l : List VType). t.below.stack ++ map (set_type t) l) (alone ∙ ap (λ (v : VType). v ∷ []) int_value),
      )

  narrows : {headers : Headers} (result : Option FieldType) → Returned headers result frame.stack → Narrows (narrowing result)
  narrows None returned = tt
  narrows (Some field_types.Byte) returned = int field_types.Byte returned refl
  narrows (Some field_types.Short) returned = int field_types.Short returned refl
  narrows (Some field_types.Char) returned = int field_types.Char returned refl
  narrows (Some field_types.Bool) returned = int field_types.Bool returned refl
  narrows (Some field_types.Int) returned = tt
  narrows (Some field_types.Long) returned = tt
  narrows (Some field_types.Float) returned = tt
  narrows (Some field_types.Double) returned = tt
  narrows (Some (field_types.Named name)) returned = tt

  -- It holds of each.
  pub return_points_hold : {headers : Headers} → Returned headers (result_of (own_descriptor t.coded.scope)) frame.stack
      → (n : ℕ) (point : Point) → slice_get (return_points t at (set_frame t frame) behind) n ≡ Some point
      → Holds (start + n) point
  return_points_hold returned n point is =
      holds_by (result_of (own_descriptor t.coded.scope)) refl (narrows (result_of (own_descriptor t.coded.scope)) returned) n point is

-- A return of a callee in a flat code: its points stand from a number on, the frame before it may stand for that behind the call, and its
-- handlers take over from its locals.
module _ (classes : Classes) (s : Scope) (flat : FlatCode) (t : Setting) (at : ℕ) (frame : Frame) (behind start : ℕ)
    (there : (n : ℕ) (point : Point) → slice_get (return_points t at (set_frame t frame) behind) n ≡ Some point
    → point_at flat (start + n) ≡ Some point)
    (goes : MayGoToPoint classes s flat (Some (read_frame flat (set_frame t frame))) behind)
    (handlers : AllByRecursion
    (λ handler. MayGoToPoint classes s flat
    (Some (record {
      locals = map (read_type flat) (set_frame t frame).locals;
      stack = caught_type (caught_class handler.catch_class) ∷ [];
    })) handler.to) (t.handlers at)) where
  abbrev typed : Frame
  typed = set_frame t frame

  -- above the result
  abbrev upon : List VType → Frame
  upon above = record (set_frame t frame) { stack = (set_frame t frame).stack ++ above }

  -- ---- the goto

  goto_typed : (number : ℕ) → point_at flat number ≡ Some (point_in t at (set_frame t frame) (Goto behind))
      → TypesPoint classes s flat number (point_in t at (set_frame t frame) (Goto behind))
  goto_typed number is =
      let read = read_frame flat (set_frame t frame) in
      let same : under 0 read.stack ++ [] ≡ read.stack = append-nil (under 0 read.stack) ∙ under_none read.stack in
      record {
        row = record {
          operands = subst (AllFit (instr_scope classes s flat (point_in t at (set_frame t frame) (Goto behind)).instr) []) (sym (topmost_none read.stack)) tt;
          local = tt;
          depth_fits =
              subst (λ (entries : List VType). depth entries ≤ stack_room flat) (sym same)
              (has_room classes s flat read.stack number (point_in t at (set_frame t frame) (Goto behind)) is
              (length-map (set_frame t frame).stack (read_type flat)));
          further = tt;
          access = tt;
        };
        next = tt;
        targets = (
          subst (λ (entries : List VType). MayGoToPoint classes s flat (Some (record { locals = read.locals; stack = entries })) behind) (sym same) goes,
          tt,
        );
        handlers = handlers;
      }

  -- ---- narrowing

  -- an int is on top
  module _ (below : List VType) (int : (set_frame t frame).stack ≡ below ++ types.Int ∷ []) where
    read_int : map (read_type flat) (set_frame t frame).stack ≡ map (read_type flat) below ++ types.Int ∷ []
    read_int = ap (map (read_type flat)) int ∙ map-append (read_type flat) below (types.Int ∷ [])

    int_upon_none : map (read_type flat) ((set_frame t frame).stack ++ []) ≡ map (read_type flat) below ++ types.Int ∷ []
    int_upon_none = ap (map (read_type flat)) (append-nil (set_frame t frame).stack) ∙ read_int

    ints_upon : map (read_type flat) ((set_frame t frame).stack ++ types.Int ∷ []) ≡ map (read_type flat) below ++ types.Int ∷ types.Int ∷ []
    ints_upon =
        map-append (read_type flat) (set_frame t frame).stack (types.Int ∷ [])
        ∙ ap (λ (l : List VType). l ++ types.Int ∷ []) read_int
        ∙ append_assoc (map (read_type flat) below) (types.Int ∷ []) (types.Int ∷ [])

    -- an int is narrowed
    int_typed : (opcode : ℕ) (opcodes : List ℕ)
        → operation_in pure_operations opcode ≡ Some (record { opcodes = opcodes; takes = kinds.Int ∷ []; gives = kinds.Int })
        → (number : ℕ) (next : Point)
        → point_at flat (number + 1) ≡ Some next
        → next.typed ≡ set_frame t frame
        → TypesPoint classes s flat number (point_in t at (upon []) (Pure opcode))
    int_typed opcode opcodes found number next next_is next_typed =
        let point = point_in t at (upon []) (Pure opcode) in
        let read = map (read_type flat) ((set_frame t frame).stack ++ []) in
        let top : topmost 1 read ≡ types.Int ∷ [] =
        ap (topmost 1) int_upon_none ∙ topmost_back (map (read_type flat) below) (types.Int ∷ []) in
        let left : under 1 read ++ types.Int ∷ [] ≡ map (read_type flat) (set_frame t frame).stack =
        ap (λ (l : List VType). under 1 l ++ types.Int ∷ []) int_upon_none
        ∙ ap (λ (l : List VType). l ++ types.Int ∷ []) (under_back (map (read_type flat) below) (types.Int ∷ []))
        ∙ sym read_int in
        let few : depth (under 1 read ++ types.Int ∷ []) ≤ stack_room flat =
        has_room classes s flat (under 1 read ++ types.Int ∷ []) (number + 1) next next_is
        (ap (λ (l : List VType). length l) left ∙ length-map (set_frame t frame).stack (read_type flat)
        ∙ ap (λ (f : Frame). length f.stack) (sym next_typed)) in
        let fit : AllFit (instr_scope classes s flat point.instr) (of_kind kinds.Int ∷ []) (topmost 1 read) =
        subst (AllFit (instr_scope classes s flat point.instr) (of_kind kinds.Int ∷ [])) (sym top) (refl, tt) in
        goes_typed classes s flat number point (read_frame flat (set_frame t frame))
        (rw (found) (record { operands = fit; local = tt; depth_fits = few; further = tt; access = tt }))
        (rw (found) (ap (λ (l : List VType). Some (record { locals = map (read_type flat) (set_frame t frame).locals; stack = l })) left))
        (subst (MayGoTo (host_scope classes s flat) (Some (read_frame flat (set_frame t frame))))
        (sym (read_there classes s flat (number + 1) next (set_frame t frame) next_is next_typed)) (itself s.headers (read_frame flat (set_frame t frame))))
        refl handlers

    -- the lowest bit of an int is taken: the int 1 is on top of it
    one_typed : (number : ℕ) (next : Point)
        → point_at flat (number + 1) ≡ Some next
        → next.typed ≡ upon (types.Int ∷ [])
        → TypesPoint classes s flat number (point_in t at (upon []) (Const (imms.Int (pos 1))))
    one_typed number next next_is next_typed =
        let point = point_in t at (upon []) (Const (imms.Int (pos 1))) in
        let read = map (read_type flat) ((set_frame t frame).stack ++ []) in
        let left : under 0 read ++ types.Int ∷ [] ≡ map (read_type flat) ((set_frame t frame).stack ++ types.Int ∷ []) =
        ap (λ (l : List VType). l ++ types.Int ∷ []) (under_none read ∙ ap (map (read_type flat)) (append-nil (set_frame t frame).stack))
        ∙ sym (map-append (read_type flat) (set_frame t frame).stack (types.Int ∷ [])) in
        let few : depth (under 0 read ++ types.Int ∷ []) ≤ stack_room flat =
        has_room classes s flat (under 0 read ++ types.Int ∷ []) (number + 1) next next_is
        (ap (λ (l : List VType). length l) left ∙ length-map ((set_frame t frame).stack ++ types.Int ∷ []) (read_type flat)
        ∙ ap (λ (f : Frame). length f.stack) (sym next_typed)) in
        let fit : AllFit (instr_scope classes s flat point.instr) [] (topmost 0 read) =
        subst (AllFit (instr_scope classes s flat point.instr) []) (sym (topmost_none read)) tt in
        goes_typed classes s flat number point (read_frame flat (upon (types.Int ∷ [])))
        (record { operands = fit; local = tt; depth_fits = few; further = tt; access = tt })
        (ap (λ (l : List VType). Some (record { locals = map (read_type flat) (set_frame t frame).locals; stack = l })) left)
        (subst (MayGoTo (host_scope classes s flat) (Some (read_frame flat (upon (types.Int ∷ [])))))
        (sym (read_there classes s flat (number + 1) next (upon (types.Int ∷ [])) next_is next_typed))
        (itself s.headers (read_frame flat (upon (types.Int ∷ [])))))
        refl handlers

    and_typed : (number : ℕ) (next : Point)
        → point_at flat (number + 1) ≡ Some next
        → next.typed ≡ set_frame t frame
        → TypesPoint classes s flat number (point_in t at (upon (types.Int ∷ [])) (Pure IAND))
    and_typed number next next_is next_typed =
        let point = point_in t at (upon (types.Int ∷ [])) (Pure IAND) in
        let read = map (read_type flat) ((set_frame t frame).stack ++ types.Int ∷ []) in
        let top : topmost 2 read ≡ types.Int ∷ types.Int ∷ [] =
        ap (topmost 2) ints_upon ∙ topmost_back (map (read_type flat) below) (types.Int ∷ types.Int ∷ []) in
        let left : under 2 read ++ types.Int ∷ [] ≡ map (read_type flat) (set_frame t frame).stack =
        ap (λ (l : List VType). under 2 l ++ types.Int ∷ []) ints_upon
        ∙ ap (λ (l : List VType). l ++ types.Int ∷ []) (under_back (map (read_type flat) below) (types.Int ∷ types.Int ∷ []))
        ∙ sym read_int in
        let few : depth (under 2 read ++ types.Int ∷ []) ≤ stack_room flat =
        has_room classes s flat (under 2 read ++ types.Int ∷ []) (number + 1) next next_is
        (ap (λ (l : List VType). length l) left ∙ length-map (set_frame t frame).stack (read_type flat)
        ∙ ap (λ (f : Frame). length f.stack) (sym next_typed)) in
        let fit : AllFit (instr_scope classes s flat point.instr) (of_kind kinds.Int ∷ of_kind kinds.Int ∷ []) (topmost 2 read) =
        subst (AllFit (instr_scope classes s flat point.instr) (of_kind kinds.Int ∷ of_kind kinds.Int ∷ [])) (sym top) (refl, (refl, tt)) in
        goes_typed classes s flat number point (read_frame flat (set_frame t frame))
        (record { operands = fit; local = tt; depth_fits = few; further = tt; access = tt })
        (ap (λ (l : List VType). Some (record { locals = map (read_type flat) (set_frame t frame).locals; stack = l })) left)
        (subst (MayGoTo (host_scope classes s flat) (Some (read_frame flat (set_frame t frame))))
        (sym (read_there classes s flat (number + 1) next (set_frame t frame) next_is next_typed)) (itself s.headers (read_frame flat (set_frame t frame))))
        refl handlers

  -- ---- all

  -- Each is typed.
  pub return_points_typed : {headers : Headers} → Returned headers (result_of (own_descriptor t.coded.scope)) frame.stack
      → (n : ℕ) (point : Point) → slice_get (return_points t at (set_frame t frame) behind) n ≡ Some point
      → TypesPoint classes s flat (start + n) point
  return_points_typed returned n point is =
      return_points_hold flat t at frame behind start there (TypesPoint classes s flat) goto_typed int_typed one_typed and_typed returned n point is

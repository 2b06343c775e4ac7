-- How deep the stack may be is read neither by the frame behind an instruction, nor by the frames of written code.
use Rattle.std.proofs.Common.{◌≡◌, ◌==◌, ℕ, zero, suc, max, Bool, true, false, List, [], ◌∷◌, ◌++◌, bytes_eq, length, map, slice_get, Option, Some, None, option_map, if◌then◌else◌, refl, sym, ap, ◌∙◌}
use Rattle.class_model.specs.Frames.{depth}
use Rattle.class_model.specs.Names.{init}
use Rattle.class_model.specs.Pool.{Constants, constant_at}
use Rattle.class_model.specs.PoolChecks.{descriptor_at}
use Rattle.class_model.specs.declared.descriptor.Kind.{Kind}
use Rattle.class_model.specs.declared.frame.Frame.{Frame}
use Rattle.class_model.specs.declared.frame.VType.{VType}
use Rattle.class_model.specs.declared.frame.VType.TheVariants as types
use Rattle.class_model.specs.declared.instr.Instr.{Instr}
use Rattle.class_model.specs.declared.instr.Instr.TheVariants.{Dynamic, GetField, Invoke, PutField, Return}
use Rattle.class_model.specs.declared.opcodes.TheConstants.{INVOKESPECIAL, INVOKESTATIC}
use Rattle.class_model.specs.declared.pool.Const.{Const}
use Rattle.class_model.specs.declared.pool.Const.TheVariants as consts
use Rattle.flow_code.specs.FlatCode.{FlatCode}
use Rattle.making_code.specs.IndexedItems.{IndexedItem}
use Rattle.member_link.specs.Bodies.{Body, frame_behind, item_falls_through}
use Rattle.member_link.specs.Machine.Replaced.{map_numbered}
use Rattle.member_link.specs.References.{Reference}
use Rattle.member_link.specs.RowScope.{RowScope}
use Rattle.member_link.specs.Rows.MemberRows.{call_row, dynamic_row, get_field_row, init_row, initialised_type, put_field_row, receiver, result_types, return_row}
use Rattle.member_link.specs.Rows.Operands.{under}
use Rattle.member_link.specs.Rows.Row.{Row, either, row_frame}
use Rattle.member_link.specs.Rows.Table.{row_of}
use Rattle.member_link.specs.Scope.{Scope}
use Rattle.member_link.specs.Signatures.{reference_of, result_of}
use Rattle.plan_flow.specs.Written.Finish.{Finished}
use Rattle.plan_flow.specs.Written.FramedCode.{IsFramed, body_of_items, depth_in, flow_into, frame_had, frame_of_item, greatest_of, is_led_to, item_body, items_scope, stated_by}
use Rattle.plan_flow.specs.Written.WrittenCode.{Form}
use Rattle.same_runs.specs.Laws.Numbered.{from_zero}

-- ---- rows

module _ (s : RowScope) (room : ℕ) (f : Frame) where
  abbrev roomy : RowScope
  roomy = record s { max_stack = room }

  either_left : (b : Bool) (row also other another : Row) → row_frame f row ≡ row_frame f also → row_frame f other ≡ row_frame f another
      → row_frame f (either b row other) ≡ row_frame f (either b also another)
  either_left true row also other another one two = one
  either_left false row also other another one two = two

  field_left : (o : Option Reference) → row_frame f (get_field_row roomy f o) ≡ row_frame f (get_field_row s f o)
  field_left None = refl
  field_left (Some reference) = refl

  put_left : (o : Option Reference) → row_frame f (put_field_row roomy f o) ≡ row_frame f (put_field_row s f o)
  put_left None = refl
  put_left (Some reference) = refl

  type_left : (reference : Reference) (object type : VType) → initialised_type roomy reference object type ≡ initialised_type s reference object type
  type_left reference (types.Uninit at) (types.Uninit other) = refl
  type_left reference (types.Uninit at) type = refl
  type_left reference types.UninitThis type = refl
  type_left reference other type = refl

  types_left : (reference : Reference) (object : VType) (list : List VType)
      → map (initialised_type roomy reference object) list ≡ map (initialised_type s reference object) list
  types_left reference object [] = refl
  types_left reference object (type ∷ list) =
      ap (λ (t : VType). t ∷ map (initialised_type roomy reference object) list) (type_left reference object type)
      ∙ ap (λ (rest : List VType). initialised_type s reference object type ∷ rest) (types_left reference object list)

  init_left : (reference : Reference) → row_frame f (init_row roomy f reference) ≡ row_frame f (init_row s f reference)
  init_left reference =
      let object = receiver f reference.desc in
      let below = under (length (init_row s f reference).takes) f.stack in
      let gives = result_types (result_of reference.desc) in
      ap (λ (locals : List VType). Some (record { locals = locals; stack = map (initialised_type roomy reference object) below ++ gives }))
      (types_left reference object f.locals)
      ∙ ap (λ (stack : List VType). Some (record { locals = map (initialised_type s reference object) f.locals; stack = stack ++ gives }))
      (types_left reference object below)

  call_left : (opcode : ℕ) (o : Option Reference) → row_frame f (call_row roomy f opcode o) ≡ row_frame f (call_row s f opcode o)
  call_left opcode None = refl
  call_left opcode (Some reference) =
      either_left (opcode == INVOKESTATIC) _ _ _ _ refl
      (either_left (opcode == INVOKESPECIAL) _ _ _ _ (either_left (bytes_eq reference.name init) _ _ _ _ (init_left reference) refl) refl)

  dynamic_left : (o : Option Const) → row_frame f (dynamic_row roomy f o) ≡ row_frame f (dynamic_row s f o)
  dynamic_left (Some (consts.InvokeDynamic bootstrap member)) = by (descriptor_at s.pool member) refl where
    by : (o : Option (List ℕ)) → descriptor_at s.pool member ≡ o
        → row_frame f (dynamic_row roomy f (Some (consts.InvokeDynamic bootstrap member)))
        ≡ row_frame f (dynamic_row s f (Some (consts.InvokeDynamic bootstrap member)))
    by None e = rw (e) refl
    by (Some desc) e = rw (e) refl
  dynamic_left other = refl

  return_left : (kind : Option Kind) → row_frame f (return_row roomy f kind) ≡ row_frame f (return_row s f kind)
  return_left None = refl
  return_left (Some kind) = refl

  -- The frame behind an instruction is the same.
  pub room_left : (at : ℕ) (instr : Instr) → row_frame f (row_of roomy f at instr) ≡ row_frame f (row_of s f at instr)
  room_left at (Return kind) = return_left kind
  room_left at (GetField index) = field_left (reference_of s.pool (constant_at s.pool index))
  room_left at (PutField index) = put_left (reference_of s.pool (constant_at s.pool index))
  room_left at (Invoke opcode index count) = call_left opcode (reference_of s.pool (constant_at s.pool index))
  room_left at (Dynamic index) = dynamic_left (constant_at s.pool index)
  room_left at other = refl

-- ---- bodies

module _ (host : Scope) (flat : FlatCode) (pool : Constants) (items : List IndexedItem) (state : ℕ → Option Frame) (room also : ℕ) where
  abbrev scope : ℕ → RowScope
  scope most = items_scope host pool most items

  abbrev body : ℕ → Body
  body most = body_of_items host flat pool most items state

  point_left : (number : ℕ) (one : IndexedItem) (frame : Frame)
      → frame_behind (item_body pool (scope also) number one) frame ≡ frame_behind (item_body pool (scope room) number one) frame
  point_left number one frame = room_left (scope room) also frame number one.instr

  flows_same : (frames : List Frame) (n : ℕ) → flow_into (body also) frames n ≡ flow_into (body room) frames n
  flows_same frames zero = refl
  flows_same frames (suc n) = by (slice_get items n) refl (slice_get frames n) refl where
    at : (most : ℕ) → slice_get (body most).points n ≡ option_map (item_body pool (scope most) n) (slice_get items n)
    at most = from_zero (item_body pool (scope most)) items n

    by : (item : Option IndexedItem) → slice_get items n ≡ item → (frame : Option Frame) → slice_get frames n ≡ frame
        → flow_into (body also) frames (suc n) ≡ flow_into (body room) frames (suc n)
    by None e frame d =
        let one : slice_get (body also).points n ≡ None = at also ∙ ap (option_map (item_body pool (scope also) n)) e in
        let other : slice_get (body room).points n ≡ None = at room ∙ ap (option_map (item_body pool (scope room) n)) e in
        rw (one, other) refl
    by (Some item) e None d =
        let one : slice_get (body also).points n ≡ Some (item_body pool (scope also) n item) = at also ∙ ap (option_map (item_body pool (scope also) n)) e in
        let other : slice_get (body room).points n ≡ Some (item_body pool (scope room) n item) = at room ∙ ap (option_map (item_body pool (scope room) n)) e in
        rw (one, other, d) refl
    by (Some item) e (Some frame) d =
        let one : slice_get (body also).points n ≡ Some (item_body pool (scope also) n item) = at also ∙ ap (option_map (item_body pool (scope also) n)) e in
        let other : slice_get (body room).points n ≡ Some (item_body pool (scope room) n item) = at room ∙ ap (option_map (item_body pool (scope room) n)) e in
        rw (one, other, d)
        (ap (λ (behind : Option Frame). if item_falls_through (item_body pool (scope room) n item).item then behind else None) (point_left n item frame))

  -- The greatest depth is the same.
  greatest_same : (front : ℕ) (left : List IndexedItem) (frames : List Frame)
      → greatest_of (map_numbered (item_body pool (scope also)) front left) frames
      ≡ greatest_of (map_numbered (item_body pool (scope room)) front left) frames
  greatest_same front [] frames = refl
  greatest_same front (item ∷ left) [] = refl
  greatest_same front (item ∷ left) (frame ∷ frames) =
      ap (λ (behind : Option Frame). max (max (depth frame.stack) (depth_in behind)) (greatest_of (map_numbered (item_body pool (scope also)) (suc front) left) frames))
      (point_left front item frame)
      ∙ ap (λ (most : ℕ). max (max (depth frame.stack) (depth_in (frame_behind (item_body pool (scope room) front item) frame))) most)
      (greatest_same (suc front) left frames)

  pub greatest_roomy : (frames : List Frame) → greatest_of (body also).points frames ≡ greatest_of (body room).points frames
  greatest_roomy frames = greatest_same zero items frames

  -- The same frames are those of written code.
  pub framed_roomy : (form : Form) (blocks : List Finished) (frames : List Frame) → IsFramed flat form blocks items (body room) frames
      → IsFramed flat form blocks items (body also) frames
  framed_roomy form blocks frames framed = record {
    stated = λ number.
        framed.stated number
        ∙ ap (λ (flow : Option Frame). stated_by (is_led_to items number) flow (frame_of_item flat form blocks number)) (sym (flows_same frames number));
    many = framed.many;
    had = λ number frame is. ap (frame_had (state number)) (flows_same frames number) ∙ framed.had number frame is;
  }

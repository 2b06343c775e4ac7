-- The local units that typed items load and store are units of their frames.
use Rattle.std.proofs.Common.{◌≡◌, ◌∙◌, ◌+◌, ◌≤◌, ℕ, zero, suc, Bool, true, false, List, [], ◌∷◌, length, map, slice_get, Option, Some, None, IsSome, if◌then◌else◌, refl, sym, ap, subst, arith}
use Rattle.std.specs.List.{AllByRecursion}
use Rattle.std.proofs.lemmas.Bool.{false≢true}
use Rattle.std.proofs.lemmas.Option.{none-some, same_Some, slice_get_within}
use Rattle.class_model.specs.Code.{FitsLocal, entry_frame, verification_type}
use Rattle.class_model.specs.Descriptors.{parameter_units}
use Rattle.class_model.specs.Frames.{is_wide}
use Rattle.class_model.specs.Members.{STATIC, has, is_text}
use Rattle.class_model.specs.Methods.{this_units}
use Rattle.class_model.specs.Names.{init}
use Rattle.class_model.specs.Pool.{Constants}
use Rattle.class_model.specs.declared.descriptor.FieldType.{FieldType}
use Rattle.class_model.specs.declared.descriptor.Kind.{Kind}
use Rattle.class_model.specs.declared.descriptor.Kind.TheVariants as kinds
use Rattle.class_model.specs.declared.frame.Frame.{Frame}
use Rattle.class_model.specs.declared.frame.VType.{VType}
use Rattle.class_model.specs.declared.frame.VType.TheVariants as types
use Rattle.class_model.specs.declared.instr.Instr.{Instr}
use Rattle.class_model.specs.declared.instr.Instr.TheVariants.{Nop, Const, Ldc, Ldc2, Load, Store, Iinc, ArrayLoad, ArrayStore, Shuffle, Pure, Divide, FloatAsk, If, If2, IfSame, IfNull, Goto, Table, Lookup, Return, GetStatic, PutStatic, GetField, PutField, Invoke, Dynamic, New, NewArray, NewRefArray, NewMulti, Length, Throw, Cast, InstanceOf, Enter, Leave}
use Rattle.class_rewrite.specs.Inner.FittingFolders.{UnitFits}
use Rattle.code_layout.specs.PlainItems.{plain_item, plain_items}
use Rattle.code_layout.specs.declared.emitted.EmitItem.{EmitItem}
use Rattle.expanded_code.specs.Laws.EntryUnits.{entry_frame_long}
use Rattle.expanded_code.specs.Laws.RowUnits.{ArePaired, BeginsTop, KeepsUnits, filled_paired, row_keeps_units}
use Rattle.expanded_code.specs.Laws.StatedUnits.{HasUnitsOf}
use Rattle.flow_code.specs.FlatCode.{FlatCode}
use Rattle.flow_code.specs.WrittenUnits.{written_units}
use Rattle.making_code.specs.IndexedItems.{IndexedItem}
use Rattle.member_link.specs.Bodies.{Body, falls_through, flows_on, point_row}
use Rattle.member_link.specs.BodyTyping.{FlowsInto, HasFrames, PointFits, Reaches, RowHolds, begins_at, frame_at}
use Rattle.member_link.specs.Machine.Replaced.{map_numbered}
use Rattle.member_link.specs.RowScope.{RowScope}
use Rattle.member_link.specs.Rows.LocalRows.{HasRoom, HoldsKind}
use Rattle.member_link.specs.Rows.Row.{stack_behind}
use Rattle.member_link.specs.Rows.Table.{row_of}
use Rattle.member_link.specs.Scope.{Scope}
use Rattle.plan_flow.specs.Written.FramedCode.{body_of_items, item_body, items_scope}
use Rattle.written_types.specs.FitsTypes.{BeginsWithTop, HavePairs}
use Rattle.written_types.specs.StatedFrames.{IsWholeFrame}
use Rattle.written_types.specs.Writing.{Writing}

-- ---- one instruction

paired_room : (entries : List VType) → ArePaired entries → (at : ℕ) (type : VType) → slice_get entries at ≡ Some type → is_wide type ≡ true
    → at + 2 ≤ length entries
paired_room [] paired at type is wide = absurd cc
paired_room (first ∷ entries) paired zero type is wide = by entries (paired.0 (ap is_wide (same_Some first type is) ∙ wide)) where
  by : (behind : List VType) → BeginsTop behind → 2 ≤ length (first ∷ behind)
  by [] begins = absurd begins
  by (other ∷ behind) begins = omega arith
paired_room (first ∷ entries) paired (suc at) type is wide =
    let less = paired_room entries paired.1 at type is wide in
    omega (arith, less)

narrow_room : (locals : List VType) (at : ℕ) (type : VType) → slice_get locals at ≡ Some type → at + 1 ≤ length locals
narrow_room locals at type is = let less = slice_get_within locals at type is in omega (arith, less)

load_fits : (kind : Kind) (locals : List VType) → ArePaired locals → (at : ℕ) → HoldsKind kind locals at → FitsLocal (length locals) kind at
load_fits kinds.Long locals paired at holds = paired_room locals paired at holds.0 holds.1 (ap is_wide holds.2)
load_fits kinds.Double locals paired at holds = paired_room locals paired at holds.0 holds.1 (ap is_wide holds.2)
load_fits kinds.Int locals paired at holds = narrow_room locals at holds.0 holds.1
load_fits kinds.Float locals paired at holds = narrow_room locals at holds.0 holds.1
load_fits kinds.Ref locals paired at holds = narrow_room locals at holds.0 holds.1

store_fits : (kind : Kind) (locals : List VType) (at : ℕ) → HasRoom kind locals at → FitsLocal (length locals) kind at
store_fits kinds.Long locals at room = room
store_fits kinds.Double locals at room = room
store_fits kinds.Int locals at room = room
store_fits kinds.Float locals at room = room
store_fits kinds.Ref locals at room = room

instr_fits : (s : RowScope) (f : Frame) (at : ℕ) (instr : Instr) → ArePaired f.locals → (row_of s f at instr).local → UnitFits (length f.locals) instr
instr_fits s f at (Load kind unit) paired local = load_fits kind f.locals paired unit local
instr_fits s f at (Store kind unit) paired local = store_fits kind f.locals unit local
instr_fits s f at Nop paired local = tt
instr_fits s f at (Const imm) paired local = tt
instr_fits s f at (Ldc index) paired local = tt
instr_fits s f at (Ldc2 index) paired local = tt
instr_fits s f at (Iinc unit by) paired local = tt
instr_fits s f at (ArrayLoad opcode) paired local = tt
instr_fits s f at (ArrayStore opcode) paired local = tt
instr_fits s f at (Shuffle opcode) paired local = tt
instr_fits s f at (Pure opcode) paired local = tt
instr_fits s f at (Divide opcode) paired local = tt
instr_fits s f at (FloatAsk opcode) paired local = tt
instr_fits s f at (If opcode target) paired local = tt
instr_fits s f at (If2 opcode target) paired local = tt
instr_fits s f at (IfSame opcode target) paired local = tt
instr_fits s f at (IfNull opcode target) paired local = tt
instr_fits s f at (Goto target) paired local = tt
instr_fits s f at (Table low other targets) paired local = tt
instr_fits s f at (Lookup other pairs) paired local = tt
instr_fits s f at (Return kind) paired local = tt
instr_fits s f at (GetStatic index) paired local = tt
instr_fits s f at (PutStatic index) paired local = tt
instr_fits s f at (GetField index) paired local = tt
instr_fits s f at (PutField index) paired local = tt
instr_fits s f at (Invoke opcode index count) paired local = tt
instr_fits s f at (Dynamic index) paired local = tt
instr_fits s f at (New index) paired local = tt
instr_fits s f at (NewArray code) paired local = tt
instr_fits s f at (NewRefArray index) paired local = tt
instr_fits s f at (NewMulti index dimensions) paired local = tt
instr_fits s f at Length paired local = tt
instr_fits s f at Throw paired local = tt
instr_fits s f at (Cast index) paired local = tt
instr_fits s f at (InstanceOf index) paired local = tt
instr_fits s f at Enter paired local = tt
instr_fits s f at Leave paired local = tt

-- ---- frames

top_behind : (types : List VType) → BeginsWithTop types → BeginsTop types
top_behind [] begins = absurd begins
top_behind (type ∷ types) begins = begins

paired_of : (types : List VType) → HavePairs types → ArePaired types
paired_of [] pairs = tt
paired_of (type ∷ types) pairs = (λ wide. top_behind types (pairs.0 wide), paired_of types pairs.1)

-- a whole frame has the units of written code
pub whole_units : (w : Writing) (frame : Frame) → IsWholeFrame w frame → HasUnitsOf (written_units w.s.flat) frame.locals
whole_units w frame whole = record { long = whole.all_locals; paired = paired_of frame.locals whole.pairs }

entry_paired : (flags : ℕ) (name : List ℕ) (class : Option (List ℕ)) (params : List FieldType) (max_locals : ℕ)
    → ArePaired (entry_frame flags name class params max_locals).locals
entry_paired flags name class params max_locals = by (has flags STATIC) refl where
  of_class : (class_is : Option (List ℕ)) → class ≡ class_is → has flags STATIC ≡ false → is_text init (Some name) ≡ false
      → ArePaired (entry_frame flags name class params max_locals).locals
  of_class (Some named) is static other =
      rw (static, other, is) (filled_paired max_locals (types.Object named ∷ map verification_type params))
  of_class None is static other = rw (static, other, is) (filled_paired max_locals (types.Top ∷ map verification_type params))

  of_name : (is_init : Bool) → is_text init (Some name) ≡ is_init → has flags STATIC ≡ false
      → ArePaired (entry_frame flags name class params max_locals).locals
  of_name true is static = rw (static, is) (filled_paired max_locals (types.UninitThis ∷ map verification_type params))
  of_name false is static = of_class class refl static is

  by : (static : Bool) → has flags STATIC ≡ static → ArePaired (entry_frame flags name class params max_locals).locals
  by true is = rw is (filled_paired max_locals (map verification_type params))
  by false is = of_name (is_text init (Some name)) refl is

-- so has the frame that a code begins with, where they hold its arguments
pub entry_units : (flags : ℕ) (name : List ℕ) (class : Option (List ℕ)) (params : List FieldType) (max_locals : ℕ)
    → parameter_units params + this_units flags ≤ max_locals
    → HasUnitsOf max_locals (entry_frame flags name class params max_locals).locals
entry_units flags name class params max_locals few = record {
  long = entry_frame_long flags name class params max_locals few;
  paired = entry_paired flags name class params max_locals;
}

-- ---- items one after the other

module _ (host : Scope) (flat : FlatCode) (pool : Constants) (room : ℕ) (all : List EmitItem) (state : ℕ → Option Frame) (frames : List Frame) where
  abbrev scope : RowScope
  scope = items_scope host pool room (plain_items all)

  abbrev b : Body
  b = body_of_items host flat pool room (plain_items all) state

  module _ (typed : HasFrames b frames) (units : ℕ)
      (stated : (number : ℕ) (frame : Frame) → state number ≡ Some frame → HasUnitsOf units frame.locals) where
    -- the frame of a number has so many units, in pairs
    abbrev Known : ℕ → Type 0
    Known number = (frame : Frame) → frame_at b frames number ≡ Some frame → HasUnitsOf units frame.locals

    of_stated : (number : ℕ) (frame one : Frame) → frame_at b frames number ≡ Some frame → state number ≡ Some one → HasUnitsOf units frame.locals
    of_stated number frame one is there =
        subst (λ (f : Frame). HasUnitsOf units f.locals) (sym (typed.stated number frame one is there)) (stated number one there)

    known_by : (number : ℕ) (flows : Option Frame) → ((f : Frame) → flows ≡ Some f → HasUnitsOf units f.locals) → FlowsInto b frames number flows
        → Known number
    known_by number None of into frame is = by (state number) refl (into frame is) where
      by : (o : Option Frame) → state number ≡ o → IsSome (state number) → HasUnitsOf units frame.locals
      by None e some = absurd (false≢true (subst IsSome e some))
      by (Some one) e some = of_stated number frame one is e
    known_by number (Some flow) of into frame is = by (state number) refl where
      by : (o : Option Frame) → state number ≡ o → HasUnitsOf units frame.locals
      by None e =
          let reach : flow ≡ into.0 = subst (Reaches b.scope flow into.0) e into.2 in
          subst (λ (f : Frame). HasUnitsOf units f.locals) (reach ∙ same_Some into.0 frame (sym into.1 ∙ is)) (of flow refl)
      by (Some one) e = of_stated number frame one is e

    flow_units : (number : ℕ) (one : IndexedItem) (frame : Frame) → HasUnitsOf units frame.locals
        → RowHolds scope frame (point_row (item_body pool scope number one) frame)
        → (f : Frame) → flows_on (item_body pool scope number one) frame ≡ Some f
        → HasUnitsOf units f.locals
    flow_units number one frame has row f is =
        by (falls_through one.instr) (row_of scope frame number one.instr).goes_on
        (record {
          locals = (row_of scope frame number one.instr).locals;
          stack = stack_behind frame (point_row (item_body pool scope number one) frame);
        }) is (record { long = keeps.long ∙ has.long; paired = keeps.paired has.paired }) where
          keeps : KeepsUnits frame.locals (row_of scope frame number one.instr).locals
          keeps = row_keeps_units scope frame number one.instr row.local row.operands

          by : (falls goes : Bool) (next : Frame) → (if falls then (if goes then Some next else None) else None) ≡ Some f
              → HasUnitsOf units next.locals
              → HasUnitsOf units f.locals
          by true true next is units_next = subst (λ (g : Frame). HasUnitsOf units g.locals) (same_Some next f is) units_next
          by true false next is units_next = absurd (none-some f is)
          by false goes next is units_next = absurd (none-some f is)

    walk : (number : ℕ) (items : List EmitItem) → AllByRecursion (PointFits b frames) (map_numbered (item_body pool scope) number (plain_items items))
        → Known number
        → AllByRecursion (λ item. UnitFits units item.instr) items
    walk number [] points known = tt
    walk number (item ∷ items) points known =
        let point = points.0 in
        let has = known point.frame point.is_at in (
          subst (λ (many : ℕ). UnitFits many item.instr) has.long (instr_fits scope point.frame number item.instr has.paired point.row.local),
          walk (suc number) items points.1
              (known_by (suc number) (flows_on (item_body pool scope number (plain_item item)) point.frame)
              (flow_units number (plain_item item) point.frame has point.row)
              (subst (λ (place : ℕ). FlowsInto b frames place (flows_on (item_body pool scope number (plain_item item)) point.frame)) (omega arith) point.next)),
        )

    begins : (items : List EmitItem) → begins_at (map_numbered (item_body pool scope) 0 (plain_items items)) (length (plain_items items)) ≡ 0
    begins [] = refl
    begins (item ∷ items) = refl

    -- Where the frame that the code begins with has these units too, each item loads and stores units among them.
    pub units_inside : HasUnitsOf units b.entry.locals → AllByRecursion (λ item. UnitFits units item.instr) all
    units_inside entry =
        walk 0 all typed.points
        (known_by 0 (Some b.entry) (λ f is. subst (λ (g : Frame). HasUnitsOf units g.locals) (same_Some b.entry f is) entry)
        (subst (λ (place : ℕ). FlowsInto b frames place (Some b.entry)) (begins all) typed.entry))

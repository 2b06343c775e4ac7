-- The last of items that frames type is no conditional jump, so that nothing stands behind them in the wide form.
use Rattle.std.proofs.Common.{◌≡◌, ◌==◌, ◌≤◌, ◌+◌, ◌∙◌, ℕ, zero, suc, Bool, true, false, List, [], ◌∷◌, length, is_some, Option, Some, None, refl, sym, subst, arith}
use Rattle.std.specs.List.{AllByRecursion}
use Rattle.std.proofs.lemmas.Bool.{false≢true}
use Rattle.std.proofs.lemmas.Bool.Decides.{Decides-eqb}
use Rattle.std.proofs.lemmas.List.{length-map}
use Rattle.std.proofs.lemmas.Option.{none-some}
use Rattle.class_model.specs.Pool.{Constants}
use Rattle.class_model.specs.declared.frame.Frame.{Frame}
use Rattle.class_model.specs.declared.instr.Instr.{Instr}
use Rattle.class_model.specs.declared.instr.Instr.TheVariants.{If, If2, IfNull, IfSame}
use Rattle.code_layout.specs.PlainItems.{plain_item, plain_items}
use Rattle.code_layout.specs.WideForm.{closing, jump_over}
use Rattle.code_layout.specs.declared.emitted.EmitItem.{EmitItem}
use Rattle.flow_code.specs.FlatCode.{FlatCode}
use Rattle.making_code.specs.IndexedItems.{IndexedItem}
use Rattle.making_code.specs.Opposites.{opposite_instr}
use Rattle.member_link.specs.Bodies.{Body, flows_on}
use Rattle.member_link.specs.BodyTyping.{FlowsInto, HasFrames, PointFits, frame_among, frame_at}
use Rattle.member_link.specs.Machine.Replaced.{map_numbered}
use Rattle.member_link.specs.RowScope.{RowScope}
use Rattle.member_link.specs.Rows.Operands.{Need}
use Rattle.member_link.specs.Rows.Row.{row_frame}
use Rattle.member_link.specs.Rows.Table.{jump_row}
use Rattle.member_link.specs.Scope.{Scope}
use Rattle.plan_flow.specs.Written.FramedCode.{body_of_items, item_body}

-- ---- conditional jumps go on

jump_goes_on : (f : Frame) (known : Bool) (takes : List Need) → is_some (row_frame f (jump_row f known takes)) ≡ true
jump_goes_on f true takes = refl
jump_goes_on f false takes = refl

goes_on : (pool : Constants) (scope : RowScope) (number : ℕ) (one : IndexedItem) (frame : Frame) (jump : Instr) → opposite_instr one.instr ≡ Some jump
    → is_some (flows_on (item_body pool scope number one) frame) ≡ true
goes_on pool scope number one frame jump = by one.instr where
  by : (instr : Instr) → opposite_instr instr ≡ Some jump → is_some (flows_on (item_body pool scope number (record one { instr = instr })) frame) ≡ true
  by (If opcode to) is = jump_goes_on frame _ _
  by (If2 opcode to) is = jump_goes_on frame _ _
  by (IfSame opcode to) is = jump_goes_on frame _ _
  by (IfNull opcode to) is = jump_goes_on frame _ _
  by other is = absurd (none-some jump is)

flows_there : (b : Body) (frames : List Frame) (place : ℕ) (flows : Option Frame) → is_some flows ≡ true → FlowsInto b frames place flows
    → (frame : Frame) × (frame_at b frames place ≡ Some frame)
flows_there b frames place None some is = absurd (false≢true some)
flows_there b frames place (Some flows) some is = (is.0, is.1)

-- ---- no item stands behind the last

none_behind : (pool : Constants) (scope : RowScope) (number : ℕ) (items : List IndexedItem) (frames : List Frame) (place : ℕ) → number + length items ≤ place
    → frame_among (map_numbered (item_body pool scope) number items) frames place ≡ None
none_behind pool scope number [] frames place low = refl
none_behind pool scope number (item ∷ items) [] place low = refl
none_behind pool scope number (item ∷ items) (frame ∷ frames) place low =
    by (number == place) refl (none_behind pool scope (suc number) items frames place (omega (arith, low))) where
      by : (b : Bool) → (number == place) ≡ b → frame_among (map_numbered (item_body pool scope) (suc number) items) frames place ≡ None
          → frame_among (map_numbered (item_body pool scope) number (item ∷ items)) (frame ∷ frames) place ≡ None
      by true e rest = let same = (Decides-eqb number place).0 e in absurd (omega (arith, same, low))
      by false e rest = rw (e) rest

-- ---- nothing is closed

no_jump : (item : EmitItem) → ((jump : Instr) → opposite_instr item.instr ≡ Some jump → ⊥) → jump_over item ≡ None
no_jump item never = by item.near refl where
  of : (found : Option Instr) → opposite_instr item.instr ≡ found → found ≡ None
  of None e = refl
  of (Some jump) e = absurd (never jump e)

  by : (near : Bool) → item.near ≡ near → jump_over item ≡ None
  by true e = rw (e) refl
  by false e = rw (e) (of (opposite_instr item.instr) refl)

module _ (b : Body) (frames : List Frame) (pool : Constants) (scope : RowScope) where
  last_closes : (number : ℕ) (items : List EmitItem) → frame_at b frames (number + length items) ≡ None
      → AllByRecursion (PointFits b frames) (map_numbered (item_body pool scope) number (plain_items items))
      → closing items ≡ []
  last_closes number [] none all = refl
  last_closes number (item ∷ []) none all =
      let over : jump_over item ≡ None =
      no_jump item (λ jump is.
      let there =
      flows_there b frames (number + 1) (flows_on (item_body pool scope number (plain_item item)) all.0.frame)
      (goes_on pool scope number (plain_item item) all.0.frame jump is) all.0.next in
      none-some there.0 (sym none ∙ there.1)) in
      rw (over) refl
  last_closes number (item ∷ next ∷ items) none all =
      last_closes (suc number) (next ∷ items) (subst (λ (n : ℕ). frame_at b frames n ≡ None) (omega arith) none) all.1

-- The last item of a typed body does not go on.
pub nothing_closes : (host : Scope) (flat : FlatCode) (pool : Constants) (room : ℕ) (items : List EmitItem) (state : ℕ → Option Frame) (frames : List Frame)
    → HasFrames (body_of_items host flat pool room (plain_items items) state) frames
    → closing items ≡ []
nothing_closes host flat pool room items state frames has =
    let b : Body = body_of_items host flat pool room (plain_items items) state in
    let long = length-map items plain_item in
    last_closes b frames pool b.scope zero items (none_behind pool b.scope zero (plain_items items) frames (zero + length items) (omega (arith, long)))
    has.points

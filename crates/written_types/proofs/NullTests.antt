-- A test of a plain local unit for null: it is loaded, and null is thrown where it is null.
use Rattle.std.proofs.Common.{◌≡◌, ◌+◌, ◌-◌, ◌<◌, ℕ, zero, suc, List, [], ◌∷◌, ◌++◌, drop, length, map, slice_get, take, Option, Some, None, option_map, refl, sym, ap, subst, ◌∙◌, arith}
use Rattle.std.specs.List.{AllByRecursion}
use Rattle.std.proofs.lemmas.List.{append-nil, append_assoc, length-append, length-map}
use Rattle.std.proofs.lemmas.Option.{none-some, same_Some, slice_get-map}
use Rattle.class_model.specs.declared.descriptor.Kind.TheVariants as kinds
use Rattle.class_model.specs.declared.frame.Frame.{Frame}
use Rattle.class_model.specs.declared.frame.VType.{VType}
use Rattle.class_model.specs.declared.frame.VType.TheVariants as types
use Rattle.class_model.specs.declared.instr.Imm.TheVariants as imms
use Rattle.class_model.specs.declared.instr.Instr.TheVariants.{Const, IfNull, Throw}
use Rattle.class_model.specs.declared.opcodes.TheConstants.{IFNONNULL}
use Rattle.class_tree.specs.Names.{throwable}
use Rattle.flow_code.specs.FlatCode.{FlatCode}
use Rattle.flow_code.specs.ReadTypes.{read_type}
use Rattle.flow_code.specs.declared.point.Point.{Point}
use Rattle.flow_code.specs.declared.point.FlatInstr.{FlatInstr}
use Rattle.flow_code.specs.declared.point.FlatInstr.TheVariants.{NullTest}
use Rattle.making_code.specs.Items.{WItem, ahead, item, load, plain}
use Rattle.making_code.specs.Units.{own}
use Rattle.member_link.specs.Assignability.{from_null}
use Rattle.member_link.specs.Bodies.{BodyCatch, catch_frame}
use Rattle.member_link.specs.Rows.Operands.{AllFit, IsReference, assignable_to, of_kind, under}
use Rattle.member_link.specs.Rows.Row.{stack_behind}
use Rattle.plan_flow.specs.PlanSlots.{changed, held, is_open, readable}
use Rattle.plan_flow.specs.PlanTable.{falls_on}
use Rattle.plan_flow.specs.Written.Blocks.{Block, blocks_of}
use Rattle.plan_flow.specs.Written.Finish.{Finished, end_items, end_of, no_end}
use Rattle.plan_flow.specs.Written.FramedCode.{frame_by_item, type_by_item}
use Rattle.plan_flow.specs.Written.Routes.{Route, RouteEdge, edge_by}
use Rattle.plan_flow.specs.Written.Templates.{catches_at}
use Rattle.plan_flow.specs.Written.WrittenCode.{Form, block_items, in_form, written_items}
use Rattle.plan_flow.specs.declared.edge.EdgeKind.TheVariants as edges
use Rattle.virtual_state.specs.States.{State, is_present}
use Rattle.virtual_state.specs.declared.slot.Slot.{Slot}
use Rattle.virtual_state.specs.declared.slot.Slot.TheVariants.{Plain}
use Rattle.written_types.proofs.BlockEnds.{topmost_none}
use Rattle.written_types.proofs.DecidedJumps.{reference_single}
use Rattle.written_types.proofs.EmptyBlocks.{ends_so}
use Rattle.written_types.proofs.FieldWrites.{own_types}
use Rattle.written_types.proofs.Given.{ComesNext, EdgesFit, EndsCarry, FitsState, Given, entries_in, locals_in}
use Rattle.written_types.proofs.ItemPlaces.{written_apart}
use Rattle.written_types.proofs.ItemSteps.{const_carries, frame_of, load_carries}
use Rattle.written_types.proofs.Placing.{fits_before, items_and_end, same_form}
use Rattle.written_types.proofs.SlotFrames.{agree_at, as_read, by_top, read_slot, topmost_is, under_is, units_behind}
use Rattle.written_types.proofs.SlotTypes.{item_before}
use Rattle.written_types.proofs.TemplateEnds.{along_fits}
use Rattle.written_types.proofs.TemplateRows.{holds_for, plan_for, row_for}
use Rattle.written_types.proofs.Templates.{Before, By, Taken, agrees_behind, along, entries, locals_agree, locals_stay, next_there, number, places, read, state, taken}
use Rattle.written_types.specs.Inner.CarriedFrames.{AgreeIn, Agrees, BlockCarries, Carries, IsPlaced, ItemHolds, LeadsIn, carries_away, carries_on}
use Rattle.written_types.specs.Writing.{Writing, point_in, scope_in}

-- ---- lists

taken_at : (count : ℕ) (slots : List Slot) (n : ℕ) → n < count → slice_get (map as_read (take count slots)) n ≡ option_map as_read (slice_get slots n)
taken_at zero slots n low = absurd (omega (arith, low))
taken_at (suc count) [] n low = refl
taken_at (suc count) (slot ∷ slots) zero low = refl
taken_at (suc count) (slot ∷ slots) (suc n) low = taken_at count slots n (omega (arith, low))

plain_local : (all : List VType) (slots : List Slot) (n : ℕ) (type : VType) → slice_get all n ≡ Some type → slice_get slots n ≡ Some Plain
    → slice_get (locals_in all slots) n ≡ Some type
plain_local [] slots n type is there = absurd (none-some type is)
plain_local (one ∷ all) [] n type is there = absurd (none-some Plain there)
plain_local (one ∷ all) (slot ∷ slots) zero type is there =
    ap (λ (found : Slot). slice_get (locals_in (one ∷ all) (found ∷ slots)) 0) (same_Some slot Plain there) ∙ is
plain_local (one ∷ all) (slot ∷ slots) (suc n) type is there = plain_local all slots n type is there

within : (all : List VType) (n : ℕ) (type : VType) → slice_get all n ≡ Some type → n < length all
within [] n type is = absurd (none-some type is)
within (one ∷ all) zero type is = omega arith
within (one ∷ all) (suc n) type is = let rest = within all n type is in omega (arith, rest)

-- what is read as plain is plain, where there is a slot
read_plain : (found : Option Slot) (slots : List Slot) (n : ℕ) → slice_get slots n ≡ found → n < length slots → readable found ≡ Plain
    → option_map as_read found ≡ Some Plain
read_plain None slots n is low plain_is = absurd (there slots n is low) where
  there : (slots : List Slot) (n : ℕ) → slice_get slots n ≡ None → n < length slots → ⊥
  there [] n is low = omega (arith, low)
  there (slot ∷ slots) zero is low = cc
  there (slot ∷ slots) (suc n) is low = there slots n is (omega (arith, low))
read_plain (Some slot) slots n is low plain_is = ap Some (sym (read_slot slot) ∙ plain_is)

no_end_written : (one : Block) (items : List WItem) (first : WItem) → one.items ≡ first ∷ items → one.leaves ≡ None
    → (flat : FlatCode) (behind : List Finished)
    → end_of flat one behind ≡ no_end
no_end_written one items first is leaves flat behind = rw (leaves, is) refl

by_reference : (form : Form) (blocks : List Finished) (type : VType) → IsReference type → IsReference (type_by_item form blocks type)
by_reference form blocks types.Null is = tt
by_reference form blocks (types.Object name) is = tt
by_reference form blocks types.UninitThis is = tt
by_reference form blocks (types.Uninit at) is = tt
by_reference form blocks types.Top is = absurd is
by_reference form blocks types.Int is = absurd is
by_reference form blocks types.Float is = absurd is
by_reference form blocks types.Long is = absurd is
by_reference form blocks types.Double is = absurd is

-- ---- the test

abbrev pub throw_item : ℕ → Point → Route → WItem
throw_item at point route = record { instr = plain Throw; targets = []; catches = catches_at at point route }

abbrev pub jump_item : WItem
jump_item = record { instr = plain (IfNull IFNONNULL 0); targets = ahead 3 ∷ []; catches = [] }

module _ (w : Writing) (given : Given w) (b : Before w given) (fit : EdgesFit w given) (ends : EndsCarry w given) (local : ℕ)
    (is : b.point.instr ≡ NullTest local) (is_plain : held (state w given b) local ≡ Plain)
    (handlers : (n : ℕ) → AllByRecursion (λ (catch : BodyCatch). LeadsIn w (Some (catch_frame b.frame catch.class)) catch.to)
    (point_in w n (throw_item b.at b.point b.route)).catches) where
  abbrev now : State
  now = state w given b

  abbrev read_stack : List VType
  read_stack = (read w given b).stack

  abbrev first : ℕ
  first = number w given b

  -- ---- the local unit

  abbrev type : VType
  type = (holds_for w given b (NullTest local) is).local.0

  there : slice_get (read w given b).locals local ≡ Some type
  there = (holds_for w given b (NullTest local) is).local.1

  reference : IsReference type
  reference = (holds_for w given b (NullTest local) is).local.2

  low : local < length b.point.typed.locals
  low =
      let here = within (read w given b).locals local type there in
      let mapped = length-map b.point.typed.locals (read_type w.s.flat) in
      omega (arith, here, mapped)

  local_is : slice_get (own_types w given b) local ≡ Some type
  local_is =
      ap (λ (all : List VType). slice_get all local) (sym (places w given b).locals_read)
      ∙ plain_local (read w given b).locals (map as_read (take (length b.point.typed.locals) now.slots)) local type there
      (taken_at (length b.point.typed.locals) now.slots local low
      ∙ read_plain (slice_get now.slots local) now.slots local refl (let many = (places w given b).many in let here = low in omega (arith, many, here)) is_plain)

  frame_local : slice_get b.frame.locals local ≡ Some (By w given b type)
  frame_local =
      agree_at b.frame.locals _ local (By w given b type) (locals_agree w given b)
      (slice_get-map (By w given b) _ local
      ∙ ap (option_map (By w given b)) (item_before (own_types w given b) (units_behind w.s.flat now.objects) local type local_is))
      (by_top w.form w.blocks type ∙ (reference_single type reference).0)

  -- ---- behind the test

  operands : Taken w b.frame read_stack (entries w given b) 0
  operands = taken w given b 0

  agrees : Agrees b.frame (frame_by_item w.form w.blocks (along w given b))
  agrees =
      subst (λ (stack : List VType). Agrees (frame_of b.frame.locals stack) (frame_by_item w.form w.blocks (along w given b))) (sym operands.is)
      (agrees_behind w given b 0 [] [] b.frame.locals operands.top operands (ap (λ (i : FlatInstr). (plan_for w given b i).stack) is)
      (ap (λ (i : FlatInstr). stack_behind (read w given b) (row_for w given b i)) is)
      (subst (λ (all : List VType). AgreeIn operands.top (map (By w given b) (entries_in all (drop (length read_stack - 0) (entries w given b)))))
      (topmost_none read_stack) operands.top_agree)
      (locals_stay w given b (ap (λ (i : FlatInstr). (row_for w given b i).locals) is) (ap (λ (i : FlatInstr). (plan_for w given b i).locals) is)
      (λ one. ap (λ (i : FlatInstr). is_present (changed w.s now (plan_for w given b i).change ++ now.objects) one) is)) b.agrees.no_this)

  next : (edge : RouteEdge) × (edge_by b.route edges.Next ≡ Some edge)
  next = next_there w given b (ap falls_on is) (ap (λ (i : FlatInstr). is_open now (plan_for w given b i).next) is)

  fits : FitsState w b.frame next.0.to next.0.state
  fits = along_fits w given b fit ends b.frame next.0 next.1 agrees

  comes : ComesNext b.behind next.0.to next.0.state
  comes = b.here.next next.0 next.1

  -- ---- its items

  abbrev throw : WItem
  throw = throw_item b.at b.point b.route

  abbrev items : List WItem
  items = item (load kinds.Ref (own local)) ∷ jump_item ∷ item (plain (Const imms.Null)) ∷ throw ∷ []

  items_are : b.one.block.items ≡ items
  items_are = ap (λ (block : Block). block.items) b.here.is_block ∙ rw (is, is_plain) refl

  leaves : b.one.block.leaves ≡ None
  leaves = ap (λ (block : Block). block.leaves) b.here.is_block ∙ rw (is) refl

  end_is : b.one.end ≡ no_end
  end_is =
      ends_so w.s.flat (blocks_of w.s given.setting.routes) b.front b.behind b.one (sym given.setting.blocks ∙ b.is)
      ∙ no_end_written b.one.block _ _ items_are leaves w.s.flat b.behind

  block_is : block_items w.form b.one ≡ items
  block_is =
      items_and_end w.form b.one
      ∙ (λ j. in_form w.form (items_are j) ++ end_items (end_is j))
      ∙ append-nil (in_form w.form items)
      ∙ same_form w.form items (tt, (tt, (tt, (tt, tt))))

  placed : IsPlaced w (suc first + 3) comes.next
  placed = record {
    front = b.front ++ (b.one ∷ []);
    behind = comes.others;
    is = b.is ∙ ap (λ (rest : List Finished). b.front ++ (b.one ∷ rest)) comes.is ∙ sym (append_assoc b.front (b.one ∷ []) (comes.next ∷ comes.others));
    starts =
        let apart = ap length (written_apart w.form b.front (b.one ∷ []))
        ∙ length-append (written_items w.form b.front) (written_items w.form (b.one ∷ [])) in
        let alone = length-append (block_items w.form b.one) [] in
        let four = ap length block_is in
        omega (arith, apart, alone, four);
  }

  leads : LeadsIn w (Some b.frame) (suc first + 3)
  leads = record {
    goes = b.frame;
    is_frame = refl;
    block = comes.next;
    placed = placed;
    fits = fits_before w b.frame comes.next next.0.to next.0.state fits comes.begins;
  }

  abbrev loaded : Frame
  loaded = frame_of b.frame.locals (b.frame.stack ++ By w given b type ∷ [])

  back : Some (frame_of b.frame.locals (under 1 (b.frame.stack ++ By w given b type ∷ []) ++ [])) ≡ Some b.frame
  back =
      ap (λ (stack : List VType). Some (frame_of b.frame.locals stack))
      (append-nil (under 1 (b.frame.stack ++ By w given b type ∷ [])) ∙ under_is b.frame.stack (By w given b type ∷ []) 1 refl)

  jump_holds : ItemHolds w (suc first) jump_item loaded
  jump_holds = record {
    row = record {
      operands = subst (AllFit (scope_in w) (of_kind kinds.Ref ∷ [])) (sym (topmost_is b.frame.stack (By w given b type ∷ []) 1 refl))
          (by_reference w.form w.blocks type reference, tt);
      local = tt;
      further = tt;
      access = tt;
    };
    targets = (subst (λ (from : Option Frame). LeadsIn w from (suc first + 3)) (sym back) leads, tt);
    handlers = tt;
    access = λ usable. tt;
  }

  abbrev thrown : Frame
  thrown = frame_of b.frame.locals (b.frame.stack ++ types.Null ∷ [])

  throw_holds : ItemHolds w (suc (suc (suc first))) throw thrown
  throw_holds = record {
    row = record {
      operands = subst (AllFit (scope_in w) (assignable_to (types.Object throwable) ∷ [])) (sym (topmost_is b.frame.stack (types.Null ∷ []) 1 refl))
          (from_null throwable, tt);
      local = tt;
      further = tt;
      access = tt;
    };
    targets = tt;
    handlers = handlers (suc (suc (suc first)));
    access = λ usable. tt;
  }

  so : Carries w first items b.frame None
  so =
      load_carries w first b.frame (jump_item ∷ item (plain (Const imms.Null)) ∷ throw ∷ []) None kinds.Ref (own local) (By w given b type) frame_local
      (by_reference w.form w.blocks type reference)
      (carries_on (suc first) jump_item (item (plain (Const imms.Null)) ∷ throw ∷ []) loaded b.frame None jump_holds back
      (const_carries w (suc (suc first)) b.frame (throw ∷ []) None imms.Null
      (carries_away (suc (suc (suc first))) throw thrown throw_holds refl)))

  -- The template of a test for null.
  pub null_test_carries : BlockCarries w first b.one b.behind b.frame
  null_test_carries = record {
    last = None;
    carries = subst (λ (all : List WItem). Carries w first all b.frame None) (sym block_is) so;
    goes = tt;
  }

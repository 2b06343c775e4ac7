-- A test of a local unit for null, of a plain one and of a virtual one.
use Rattle.std.proofs.Common.{◌≡◌, ◌+◌, ◌-◌, ◌++◌, ℕ, List, [], ◌∷◌, drop, length, slice_get, Option, Some, None, refl, sym, ap, subst, ◌∙◌, arith}
use Rattle.std.specs.List.{AllByRecursion}
use Rattle.std.proofs.lemmas.List.{append_assoc}
use Rattle.class_model.specs.declared.descriptor.Kind.TheVariants as kinds
use Rattle.class_model.specs.declared.frame.Frame.{Frame}
use Rattle.class_model.specs.declared.frame.VType.{VType}
use Rattle.class_model.specs.declared.instr.Imm.TheVariants as imms
use Rattle.class_model.specs.declared.instr.Instr.TheVariants.{Const}
use Rattle.flow_code.specs.declared.handlers.FlatHandler.{FlatHandler}
use Rattle.flow_code.specs.declared.point.FlatInstr.{FlatInstr}
use Rattle.flow_code.specs.declared.point.FlatInstr.TheVariants.{NullTest}
use Rattle.making_code.specs.Items.{WItem, item, load, plain}
use Rattle.making_code.specs.Units.{own}
use Rattle.member_link.specs.Bodies.{BodyCatch, catch_frame, caught_type}
use Rattle.member_link.specs.Rows.Row.{stack_behind}
use Rattle.plan_flow.specs.PlanSlots.{changed, held, is_open, readable, slots_from}
use Rattle.plan_flow.specs.PlanTable.{falls_on, held_locals}
use Rattle.plan_flow.specs.Written.Blocks.{Block}
use Rattle.plan_flow.specs.Written.Finish.{end_items}
use Rattle.plan_flow.specs.Written.FramedCode.{frame_by_item}
use Rattle.same_runs.specs.FlatBodies.{caught_class}
use Rattle.making_code.specs.StateFrames.{state_frame}
use Rattle.plan_flow.specs.Written.WrittenCode.{short, written_items}
use Rattle.plan_flow.specs.declared.edge.EdgeKind.TheVariants as edges
use Rattle.virtual_state.specs.States.{State, is_present}
use Rattle.virtual_state.specs.declared.slot.Slot.{Slot}
use Rattle.virtual_state.specs.declared.slot.Slot.TheVariants.{Plain, Virt, Unusable}
use Rattle.written_types.proofs.BlockEnds.{topmost_none}
use Rattle.written_types.proofs.CarriedHolds.{fits_at}
use Rattle.written_types.proofs.CarriedItems.{caught_steady, handlers_lead}
use Rattle.written_types.proofs.CaughtNames.{IsCaught, caught_same}
use Rattle.written_types.proofs.EdgeFrames.{before_is}
use Rattle.written_types.proofs.Given.{EdgesFit, EndsCarry, Given, TargetsStand, caught_at, entries_in, frame_in_slots, written_along, written_before}
use Rattle.written_types.proofs.ItemPlaces.{written_apart}
use Rattle.written_types.proofs.NullTests.{jump_item, null_test_carries, throw_item}
use Rattle.written_types.proofs.PointFrames.{agrees_caught, rest_of, stands_there}
use Rattle.written_types.proofs.StandingFrames.{Stands}
use Rattle.written_types.proofs.TemplateRows.{nothing_template, plan_for, row_for}
use Rattle.written_types.proofs.Templates.{Before, entries, locals_stay, number, plan_row, read, state}
use Rattle.written_types.proofs.WrittenPool.{PoolLaws}
use Rattle.written_types.specs.FitsTypes.{is_reached}
use Rattle.written_types.specs.Inner.CarriedFrames.{Agrees, BlockCarries, LeadsIn}
use Rattle.written_types.specs.Writing.{Writing, point_in}

module _ (w : Writing) (given : Given w) (laws : PoolLaws) (b : Before w given) (fit : EdgesFit w given) (stand : TargetsStand w given)
    (ends : EndsCarry w given) (local : ℕ) (is : b.point.instr ≡ NullTest local) where
  abbrev now : State
  now = state w given b

  abbrev read_stack : List VType
  read_stack = (read w given b).stack

  -- ---- a plain local

  before_agrees : Agrees b.frame (frame_by_item w.form w.blocks (written_before w b.point now))
  before_agrees =
      subst (λ (f : Frame). Agrees b.frame (frame_by_item w.form w.blocks f))
      (ap (λ (block : Block). state_frame w.s.flat block.at block.state) b.here.is_block ∙ before_is w b.at b.point now b.here.there) b.agrees

  stands : Stands w (is_reached given.setting.routes) b.point.typed now (rest_of w.s.flat now.objects) b.frame
  stands =
      stands_there w (is_reached given.setting.routes) b.at b.point now (fits_at w given b.at b.point b.route b.here.there b.here.is_route) b.frame before_agrees

  caught : (from : ℕ) (handler : FlatHandler) → slice_get b.point.handlers from ≡ Some handler
      → Agrees (record { locals = b.frame.locals; stack = caught_type (caught_class handler.catch_class) ∷ [] })
      (frame_by_item w.form w.blocks (written_along w b.at b.point now (edges.Handler from)))
  caught from handler there =
      subst (λ (found : Option FlatHandler). Agrees (record { locals = b.frame.locals; stack = caught_type (caught_class handler.catch_class) ∷ [] })
      (frame_by_item w.form w.blocks
      (frame_in_slots w.s.flat (record { locals = (read w given b).locals; stack = caught_at found })
      (slots_from w.s now (plan_row w given b).change (held_locals b.point.typed)) (Plain ∷ []) now.objects))) (sym there)
      (agrees_caught w (is_reached given.setting.routes) b.point.typed now now.objects b.frame (plan_row w given b)
      (caught_type (caught_class handler.catch_class)) stands (caught_steady (caught_class handler.catch_class)))

  module _ (is_plain : held now local ≡ Plain) where
    abbrev throw : WItem
    throw = throw_item b.at b.point b.route

    abbrev ahead_of : List WItem
    ahead_of = item (load kinds.Ref (own local)) ∷ jump_item ∷ item (plain (Const imms.Null)) ∷ []

    items_are : b.one.block.items ≡ ahead_of ++ (throw ∷ [])
    items_are = ap (λ (block : Block). block.items) b.here.is_block ∙ rw (is, is_plain) refl

    throw_stands : written_items short w.blocks
        ≡ (written_items short b.front ++ ahead_of) ++ (throw ∷ (end_items b.one.end ++ written_items short b.behind))
    throw_stands =
        ap (written_items short) b.is
        ∙ written_apart short b.front (b.one ∷ b.behind)
        ∙ ap (λ (items : List WItem). written_items short b.front ++ ((items ++ end_items b.one.end) ++ written_items short b.behind)) items_are
        ∙ sym (append_assoc (written_items short b.front) ahead_of (throw ∷ (end_items b.one.end ++ written_items short b.behind)))

    names : AllByRecursion (IsCaught w given laws) throw.catches
    names =
        caught_same w given laws (written_items short b.front ++ ahead_of) (end_items b.one.end ++ written_items short b.behind) throw throw_stands

    handlers : (n : ℕ) → AllByRecursion (λ (catch : BodyCatch). LeadsIn w (Some (catch_frame b.frame catch.class)) catch.to) (point_in w n throw).catches
    handlers n =
        handlers_lead w given fit stand b.at b.point b.route b.here.there b.here.is_route n b.frame caught 0 b.point.handlers
        (λ k. let same : k ≡ 0 + k = omega arith in ap (slice_get b.point.handlers) same) names

  -- ---- a virtual local

  of_virtual : (site : ℕ) → held now local ≡ Virt site → BlockCarries w (number w given b) b.one b.behind b.frame
  of_virtual site virtual =
      nothing_template w given b fit ends 0 [] [] (ap (λ (i : FlatInstr). (plan_for w given b i).stack) is)
      (ap (λ (i : FlatInstr). stack_behind (read w given b) (row_for w given b i)) is)
      (ap (λ (all : List VType). entries_in all (drop (length read_stack - 0) (entries w given b))) (topmost_none read_stack))
      (locals_stay w given b (ap (λ (i : FlatInstr). (row_for w given b i).locals) is) (ap (λ (i : FlatInstr). (plan_for w given b i).locals) is)
      (λ one. ap (λ (i : FlatInstr). is_present (changed w.s now (plan_for w given b i).change ++ now.objects) one) is))
      (rw (is, virtual) refl) (rw (is) refl) (ap falls_on is) (ap (λ (i : FlatInstr). is_open now (plan_for w given b i).next) is)

  -- The block of a test for null carries each frame.
  pub null_test_block : BlockCarries w (number w given b) b.one b.behind b.frame
  null_test_block = by (held now local) refl where
    by : (slot : Slot) → held now local ≡ slot → BlockCarries w (number w given b) b.one b.behind b.frame
    by Plain plain_is = null_test_carries w given b fit ends local is plain_is (handlers plain_is)
    by (Virt site) virtual = of_virtual site virtual
    by Unusable never = absurd (always (slice_get now.slots local) never) where
      always : (found : Option Slot) → readable found ≡ Unusable → ⊥
      always None same = cc
      always (Some Plain) same = cc
      always (Some (Virt site)) same = cc
      always (Some Unusable) same = cc

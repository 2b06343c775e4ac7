-- tableswitch and lookupswitch: both frames jump by the same key to the same of the targets.
use Rattle.std.proofs.Common.{◌≡◌, ◌≤◌, ◌+◌, ◌-◌, not, ℕ, ℤ, int_lt, zero, suc, Bool, true, false, List, [], ◌∷◌, drop, length, map, slice_get, take, Option, Some, None, option_and_then, option_map, if◌then◌else◌, refl, sym, ap, subst, ◌∙◌, arith}
use Rattle.std.specs.Int.{int_gap}
use Rattle.std.proofs.lemmas.List.{length-map}
use Rattle.std.proofs.lemmas.Option.{none-some, same_Some, slice_get-map, slice_get_within}
use Rattle.class_model.specs.Instructions.{targets}
use Rattle.class_model.specs.declared.instr.Pair.{Pair}
use Rattle.flow_code.specs.declared.point.Point.{Point}
use Rattle.machine_values.specs.Frames.{MethodState}
use Rattle.machine_values.specs.declared.frame.RunFrame.{RunFrame}
use Rattle.machine_values.specs.declared.value.Value.{Value}
use Rattle.machine_values.specs.declared.value.Value.TheVariants.{Int, Long, Float, Double, Null, Ref}
use Rattle.making_code.specs.Items.{WItem, to_jump_pad, to_point}
use Rattle.member_link.specs.Machine.Codes.{instr_op}
use Rattle.member_link.specs.Machine.Locals.{lookup_target, table_target}
use Rattle.member_link.specs.Machine.Programs.{Point as RunPoint, Program}
use Rattle.member_link.specs.Machine.Runs.{Run}
use Rattle.member_link.specs.Machine.Stepping.{ends_stuck, op_step, switch_step, with_top}
use Rattle.plan_flow.specs.Laws.WrittenBlocks.{first_item}
use Rattle.plan_flow.specs.Must.{row_of_point}
use Rattle.plan_flow.specs.PlanRows.{PlanRow}
use Rattle.plan_flow.specs.PlanScope.{PlanScope}
use Rattle.plan_flow.specs.PlanSlots.{edge_locals, edge_objects, edge_stack, held, is_open}
use Rattle.plan_flow.specs.PlanTable.{moving, operand, targets_at}
use Rattle.plan_flow.specs.Written.Blocks.{is_decided, state_written}
use Rattle.plan_flow.specs.Written.Routes.{Route}
use Rattle.plan_flow.specs.Written.Templates.{jump_target, jump_targets, to_or_pad}
use Rattle.making_code.specs.Opposites.{opposite_instr}
use Rattle.plan_flow.specs.Written.WrittenCode.{Form, carried_scope, in_form, jumping_to, pairs_to, short, target_number, wide, written_point}
use Rattle.plan_flow.specs.declared.edge.EdgeKind.TheVariants as edges
use Rattle.same_runs.specs.Laws.BothBegin.{counted}
use Rattle.same_runs.specs.QuietMoves.{moved_at, moved_by, moves, switched}
use Rattle.same_runs.specs.Renamings.{SameValues, and_value, same_int}
use Rattle.plan_flow.specs.Written.WrittenPrograms.{WrittenMethod}
use Rattle.virtual_state.specs.States.{State}
use Rattle.virtual_state.specs.declared.slot.Slot.TheVariants.{Virt}
use Rattle.written_runs.specs.Inner.PlannedFrames.{Known, blocks_in, scope_in}
use Rattle.written_runs.specs.Inner.Setup.{Setup, first}
use Rattle.written_runs.specs.Inner.Waiting.{LeavesLocals}
use Rattle.written_runs.specs.Laws.Carried.EdgeBlocks.{EdgeBlock, jump_block_at}
use Rattle.written_runs.specs.Laws.Carried.JumpEdges.{all_slots, code_here, have_here, many_here, moves_edge, not_stuck_so, number_here, own_here, point_here, then_at}
use Rattle.written_runs.specs.Laws.Carried.JumpPoints.{alone_item, its_item, jump_item_there, one_item}
use Rattle.written_runs.specs.Laws.Carried.Knowing.{CarriedLaws}
use Rattle.written_runs.specs.Laws.Carried.Landing.{number_stays}
use Rattle.written_runs.specs.Laws.Carried.Operands.{AreReal}
use Rattle.written_runs.specs.Laws.Carried.PlannedEdges.{EdgeThere, jump_there}
use Rattle.written_runs.specs.Laws.Carried.Rows.{real_operands}
use Rattle.written_runs.specs.Laws.Carried.Waiting.{AtCarried}
use Rattle.written_runs.specs.Laws.Halfway.{Halfway}
use Rattle.written_runs.specs.Laws.Settling.{SettleLaws}
use Rattle.written_runs.specs.Laws.Simulation.{KeepsTurn}
use Rattle.written_runs.specs.Laws.Templates.Stacks.{drop_at}
use Rattle.written_runs.specs.VirtualObjects.{stack_slots}

-- ---- targets by keys

-- the same of two lists of targets
abbrev pub SameOf : List ℕ → List ℕ → ℕ → ℕ → Type 0
SameOf ones others one other = (number : ℕ) × (slice_get ones number ≡ Some one) × (slice_get others number ≡ Some other)

pub table_same : (low key : ℤ) (other also : ℕ) (ones others : List ℕ) → length others ≡ length ones
    → SameOf (other ∷ ones) (also ∷ others) (table_target low other ones key) (table_target low also others key)
table_same low key other also ones others many = by (int_lt key low) refl where
  both : int_lt key low ≡ false → (one : Option ℕ) → slice_get ones (int_gap low key) ≡ one → (and : Option ℕ) → slice_get others (int_gap low key) ≡ and
      → SameOf (other ∷ ones) (also ∷ others) (table_target low other ones key) (table_target low also others key)
  both above None is None is_also = (0, rw (above, is) refl, rw (above, is_also) refl)
  both above (Some one) is (Some and) is_also = (suc (int_gap low key), is ∙ rw (above, is) refl, is_also ∙ rw (above, is_also) refl)
  both above (Some one) is None is_also =
      let within = slice_get_within ones (int_gap low key) one is in
      let there = drop_at (int_gap low key) others (omega (arith, within, many)) in
      absurd (none-some there.0 (sym is_also ∙ there.1))
  both above None is (Some and) is_also =
      let within = slice_get_within others (int_gap low key) and is_also in
      let there = drop_at (int_gap low key) ones (omega (arith, within, many)) in
      absurd (none-some there.0 (sym is ∙ there.1))

  by : (b : Bool) → int_lt key low ≡ b
      → SameOf (other ∷ ones) (also ∷ others) (table_target low other ones key) (table_target low also others key)
  by true below = (0, rw (below) refl, rw (below) refl)
  by false above = both above (slice_get ones (int_gap low key)) refl (slice_get others (int_gap low key)) refl

-- a key is that of a pair
abbrev is_key : ℤ → Pair → Bool
is_key key pair = if int_lt key pair.key then false else not (int_lt pair.key key)

pub lookup_same : (key : ℤ) (other also : ℕ) (pairs : List Pair) (others : List ℕ) → length others ≡ length pairs
    → SameOf (other ∷ map (λ (pair : Pair). pair.to) pairs) (also ∷ others) (lookup_target other pairs key) (lookup_target also (pairs_to pairs others) key)
lookup_same key other also [] [] many = (0, refl, refl)
lookup_same key other also [] (one ∷ others) many = absurd (omega (arith, many))
lookup_same key other also (pair ∷ pairs) [] many = absurd (omega (arith, many))
lookup_same key other also (pair ∷ pairs) (one ∷ others) many =
    by (is_key key pair) refl (lookup_same key other also pairs others (omega (arith, many))) where
      later : SameOf (other ∷ map (λ (p : Pair). p.to) pairs) (also ∷ others) (lookup_target other pairs key) (lookup_target also (pairs_to pairs others) key)
          → SameOf (other ∷ pair.to ∷ map (λ (p : Pair). p.to) pairs) (also ∷ one ∷ others) (lookup_target other pairs key)
          (lookup_target also (pairs_to pairs others) key)
      later (zero, is, is_also) = (0, is, is_also)
      later (suc number, is, is_also) = (suc (suc number), is, is_also)

      by : (b : Bool) → is_key key pair ≡ b
          → SameOf (other ∷ map (λ (p : Pair). p.to) pairs) (also ∷ others) (lookup_target other pairs key) (lookup_target also (pairs_to pairs others) key)
          → SameOf (other ∷ map (λ (p : Pair). p.to) (pair ∷ pairs)) (also ∷ one ∷ others) (lookup_target other (pair ∷ pairs) key)
          (lookup_target also (pairs_to (pair ∷ pairs) (one ∷ others)) key)
      by true is rest = (1, rw (is) refl, rw (is) refl)
      by false is rest = rw (is) (later rest)

-- ---- the written targets

jump_target_at : (at : ℕ) (route : Route) (start number : ℕ) (tos : List ℕ) (to : ℕ)
    → slice_get tos number ≡ Some to
    → slice_get (jump_targets at route start tos) number ≡ Some (jump_target at route (start + number) to)
jump_target_at at route start number [] to is = absurd (none-some to is)
jump_target_at at route start zero (one ∷ tos) to is =
    let here : start ≡ start + 0 = omega arith in
    ap (λ (n : ℕ). Some (jump_target at route start n)) (same_Some one to is) ∙ ap (λ (n : ℕ). Some (jump_target at route n to)) here
jump_target_at at route start (suc number) (one ∷ tos) to is =
    let next : suc start + number ≡ start + suc number = omega arith in
    jump_target_at at route (suc start) number tos to is ∙ ap (λ (n : ℕ). Some (jump_target at route n to)) next

jump_targets_long : (at : ℕ) (route : Route) (start : ℕ) (tos : List ℕ) → length (jump_targets at route start tos) ≡ length tos
jump_targets_long at route start [] = refl
jump_targets_long at route start (to ∷ tos) = ap suc (jump_targets_long at route (suc start) tos)

-- ---- at an instruction

module _ (u : Setup) (laws : CarriedLaws u) (measure : ℕ) {one other : Run} {f : MethodState} {rest : List RunFrame} {w : WrittenMethod} {known : Known}
    {at_point : Point} {state : State} {place : ℕ} (h : Halfway u one other f rest w known at_point state place)
    (c : AtCarried u h.virtuals known h.names (length rest) f h.g) (undecided : is_decided c.point c.route ≡ false)
    (no_opposite : opposite_instr c.carried.instr ≡ None)
    (row_is : row_of_point (scope_in u c.w) f.place c.point ≡ moving c.point.typed 1 [])
    (no_object : (number site : ℕ) (key : ℤ) → slice_get f.stack number ≡ Some (Int key)
    → held (state_written c.route) (operand c.point.typed number) ≡ Virt site
    → ⊥)
    (target_of : ℤ → ℕ) (switch_by : List ℕ → ℤ → ℕ)
    (steps : op_step (first u) (counted one) f rest (point_here u laws measure h c).op ≡ switch_step (counted one) f rest target_of f.stack)
    (target_is : (key : ℤ) → target_of key ≡ number_here u laws measure h c (switch_by (targets c.carried.instr) key))
    (moved : (numbers : List ℕ) → length numbers ≡ length (targets c.carried.instr)
    → moved_by h.g (instr_op (scope_in u c.w).links (λ (m : ℕ). m) (carried_scope (scope_in u c.w) (own_here u laws measure h c).host c.carried.class)
    (jumping_to numbers c.carried.instr))
    ≡ switched h.g (switch_by numbers) h.g.stack)
    (same : (numbers : List ℕ) → length numbers ≡ length (targets c.carried.instr) → (key : ℤ)
    → SameOf (targets c.carried.instr) numbers (switch_by (targets c.carried.instr) key) (switch_by numbers key)) where
  abbrev P : Program
  P = first u

  abbrev s : PlanScope
  s = scope_in u c.w

  abbrev settle : SettleLaws u
  settle = laws.turns.settle

  abbrev before : State
  before = state_written c.route

  abbrev g : MethodState
  g = h.g

  abbrev tos : List ℕ
  tos = targets c.carried.instr

  abbrev its : WItem
  its = its_item u c.w f.place c.point c.route c.of_instruction.reached c.carried undecided

  tos_here : targets_at c.point.instr ≡ tos
  tos_here = ap targets_at c.carried.is_instr

  abbrev numbers : List ℕ
  numbers = map (target_number c.w.form (blocks_in u c.w) (0 + g.place)) its.targets

  long : length numbers ≡ length tos
  long =
      length-map its.targets (target_number c.w.form (blocks_in u c.w) (0 + g.place))
      ∙ jump_targets_long f.place c.route 0 (targets_at c.point.instr)
      ∙ ap length tos_here

  alone_here : in_form c.w.form (its ∷ []) ≡ its ∷ []
  alone_here = by c.w.form refl where
    by : (form : Form) → c.w.form ≡ form → in_form c.w.form (its ∷ []) ≡ its ∷ []
    by short is = one_item u c.w f.place c.point c.route c.of_instruction.reached c.carried undecided is
    by wide is = alone_item u c.w f.place c.point c.route c.of_instruction.reached c.carried undecided is no_opposite

  point_there : slice_get (code_here u laws measure h c).points g.place
      ≡ Some (written_point s (own_here u laws measure h c).host u.constructor c.w.form (blocks_in u c.w) (0 + g.place) its)
  point_there =
      let zeroth : g.place ≡ g.place + 0 = omega arith in
      ap (slice_get (code_here u laws measure h c).points) zeroth
      ∙ jump_item_there u c.w f.place c.point c.route c.of_instruction.reached c.carried undecided (own_here u laws measure h c) (its ∷ []) alone_here 0 its refl
      ∙ ap (λ (n : ℕ). Some (written_point s (own_here u laws measure h c).host u.constructor c.w.form (blocks_in u c.w) (0 + n) its)) (sym zeroth)

  -- ---- by a key

  module _ (key : ℤ) (below : List Value) (on_top : f.stack ≡ Int key ∷ below) where
    enough : 1 ≤ length f.stack
    enough = let many = ap length on_top in omega (arith, many)

    real : AreReal (drop (length f.stack - 1) (stack_slots c.point before))
    real =
        real_operands c.point before 1 (length f.stack) (many_here u laws measure h c) (all_slots u laws measure h c) enough
        (λ number site low virtual.
        let top : number ≡ 0 = omega (arith, low) in
        no_object 0 site key (ap (λ (all : List Value). slice_get all 0) on_top)
        (ap (λ (n : ℕ). held before (operand c.point.typed n)) (sym top) ∙ virtual))

    abbrev to : ℕ
    to = switch_by tos key

    found : SameOf tos numbers (switch_by tos key) (switch_by numbers key)
    found = same numbers long key

    to_there : slice_get (targets_at c.point.instr) found.0 ≡ Some to
    to_there = ap (λ (all : List ℕ). slice_get all found.0) tos_here ∙ found.1

    -- the item to which the second jumps
    item_is : switch_by numbers key ≡ target_number c.w.form (blocks_in u c.w) (0 + g.place) (jump_target f.place c.route found.0 to)
    item_is =
        let zeroth : 0 + found.0 ≡ found.0 = omega arith in
        same_Some (switch_by numbers key) (target_number c.w.form (blocks_in u c.w) (0 + g.place) (jump_target f.place c.route (0 + found.0) to)) (sym found.2 ∙ slice_get-map (target_number c.w.form (blocks_in u c.w) (0 + g.place)) its.targets found.0
        ∙ ap (option_map (target_number c.w.form (blocks_in u c.w) (0 + g.place)))
        (jump_target_at f.place c.route 0 found.0 (targets_at c.point.instr) to to_there))
        ∙ ap (λ (n : ℕ). target_number c.w.form (blocks_in u c.w) (0 + g.place) (jump_target f.place c.route n to)) zeroth

    edge : EdgeThere s f.place c.point c.route (record { by = edges.Jump found.0; to = to; guard = (row_of_point s f.place c.point).jump })
    edge =
        jump_there u settle c.w h.g.at c.is_written (laws.rows_fit h.g.at c.w c.is_written) c.of_instruction.reached found.0 to to_there
        (ap (λ (row : PlanRow). is_open before row.jump) row_is)

    leaves : LeavesLocals s f.place c.point before (record { by = edges.Jump found.0; to = to; guard = (row_of_point s f.place c.point).jump }) 1 []
    leaves = record {
      enough = let many = many_here u laws measure h c in let few = enough in omega (arith, many, few);
      locals = ap (λ (row : PlanRow). edge_locals row (length c.point.typed.locals) (edges.Jump found.0)) row_is;
      stack = ap (λ (row : PlanRow). edge_stack row (edges.Jump found.0)) row_is;
      plain = refl;
      objects = ap (λ (row : PlanRow). edge_objects s before row (edges.Jump found.0)) row_is;
    }

    block : (block : EdgeBlock u c.w to edge.of_row.edge) × (switch_by numbers key ≡ first_item c.w.form (blocks_in u c.w) block.number)
    block =
        let at_block = jump_block_at u settle (then_at u laws measure h c 1 enough real to) (ap u.written c.at ∙ c.is_written) (edges.Jump found.0)
        c.of_instruction.reached edge.of_row.found edge.of_row.is.to edge.is_target found.0 (0 + g.place) refl edge.of_row.is.by undecided in
        (at_block.0, item_is ∙ ap (target_number c.w.form (blocks_in u c.w) (0 + g.place)) to_edge ∙ at_block.1) where
          to_edge : jump_target f.place c.route found.0 to ≡ to_or_pad edge.of_row.edge.made (to_point edge.of_row.edge.to) (to_jump_pad f.place found.0)
          to_edge = rw (edge.of_row.found) refl

    stepped : op_step P (counted one) f rest (point_here u laws measure h c).op ≡ with_top (counted one) rest (then_at u laws measure h c 1 enough real to)
    stepped =
        steps
        ∙ ap (switch_step (counted one) f rest target_of) on_top
        ∙ ap (λ (n : ℕ). with_top (counted one) rest (record f { place = n; stack = below }))
        (target_is key ∙ number_stays u.classes (own_here u laws measure h c).host c.w.flat to edge.target edge.is_target)
        ∙ ap (λ (all : List Value). with_top (counted one) rest (record f { place = to; stack = drop 1 all })) (sym on_top)

    -- the second has the same key
    key_also : (all : List Value) → h.g.stack ≡ all → SameValues h.names (Int key ∷ []) (take 1 all)
        → switched g (switch_by numbers) g.stack ≡ Some (record g { place = switch_by numbers key; stack = drop 1 g.stack })
    key_also [] is are = elim are [ ]
    key_also (_ ∷ more) is (and_value same_int rest) =
        ap (switched g (switch_by numbers)) is
        ∙ ap (λ (all : List Value). Some (record g { place = switch_by numbers key; stack = drop 1 all })) (sym is)

    moved_there : moves (code_here u laws measure h c) 1 g ≡ Some (record g { place = switch_by numbers key; stack = drop 1 g.stack })
    moved_there =
        ap (λ (found : Option RunPoint). option_and_then (moves (code_here u laws measure h c) 0) (moved_at g found)) point_there
        ∙ ap (option_and_then (moves (code_here u laws measure h c) 0)) (moved numbers long
        ∙ key_also h.g.stack refl (subst (λ (all : List Value). SameValues h.names (take 1 all) (take 1 h.g.stack)) on_top
        (have_here u laws measure h c 1 enough real).same))

    keyed_turn : KeepsTurn u measure one other
    keyed_turn = moves_edge u laws measure h c 1 enough real edge leaves (switch_by numbers key) block.0 block.1 stepped 0 moved_there

  pub switch_turn : KeepsTurn u measure one other
  switch_turn = by f.stack refl where
    stuck_so : (all : List Value) → f.stack ≡ all → switch_step (counted one) f rest target_of all ≡ ends_stuck (counted one) → KeepsTurn u measure one other
    stuck_so all is lacks =
        absurd (not_stuck_so u laws measure h c (ends_stuck (counted one)) (steps ∙ ap (switch_step (counted one) f rest target_of) is ∙ lacks) refl)

    by : (all : List Value) → f.stack ≡ all → KeepsTurn u measure one other
    by (Int key ∷ below) is = keyed_turn key below is
    by [] is = stuck_so [] is refl
    by (Long n ∷ below) is = stuck_so (Long n ∷ below) is refl
    by (Float n ∷ below) is = stuck_so (Float n ∷ below) is refl
    by (Double n ∷ below) is = stuck_so (Double n ∷ below) is refl
    by (Null ∷ below) is = stuck_so (Null ∷ below) is refl
    by (Ref n ∷ below) is = stuck_so (Ref n ∷ below) is refl

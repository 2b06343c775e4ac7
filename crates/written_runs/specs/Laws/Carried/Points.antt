-- What stands in both codes for an instruction that is written as it is and does not jump: the same operation.
use Rattle.std.proofs.Common.{◌≡◌, ◌+◌, ◌++◌, ℕ, suc, false, List, [], ◌∷◌, drop, length, map, slice_get, Option, Some, None, option_and_then, option_map, refl, sym, ap, ◌∙◌, arith}
use Rattle.std.proofs.lemmas.Option.{slice_get-map}
use Rattle.class_model.specs.Instructions.{targets}
use Rattle.class_model.specs.Pool.{Constants}
use Rattle.class_model.specs.declared.class_file.ClassFile.{ClassFile}
use Rattle.class_model.specs.declared.instr.Instr.{Instr}
use Rattle.class_model.specs.declared.instr.Instr.TheVariants.{Nop, Const, Ldc, Ldc2, Load, Store, Iinc, ArrayLoad, ArrayStore, Shuffle, Pure, Divide, FloatAsk, If, If2, IfSame, IfNull, Goto, Table, Lookup, Return, GetStatic, PutStatic, GetField, PutField, Invoke, Dynamic, New, NewArray, NewRefArray, NewMulti, Length, Throw, Cast, InstanceOf, Enter, Leave}
use Rattle.class_tree.specs.Headers.{Classes}
use Rattle.flow_code.specs.FlatCode.{FlatCode}
use Rattle.flow_code.specs.declared.point.FlatInstr.{FlatInstr}
use Rattle.flow_code.specs.declared.point.FlatInstr.TheVariants.{Of}
use Rattle.flow_code.specs.declared.point.Point.{Point}
use Rattle.machine_values.specs.Frames.{MethodState}
use Rattle.making_code.specs.Items.{WItem, carried}
use Rattle.member_link.specs.Machine.Codes.{instr_op, item_op, number_at, run_point}
use Rattle.member_link.specs.Machine.Programs.{Code, Links, code_at, point_at}
use Rattle.member_link.specs.Scope.{Scope, row_scope}
use Rattle.plan_flow.specs.Laws.WrittenBlocks.{block_finished, first_item, next_starts, own_number, own_of}
use Rattle.plan_flow.specs.PlanScope.{PlanScope, pool_of as written_pool}
use Rattle.plan_flow.specs.PlanTable.{targets_at}
use Rattle.plan_flow.specs.Written.Blocks.{Block, blocks_of, instruction_block, is_decided, leaves_to}
use Rattle.plan_flow.specs.Written.Finish.{End, Finished, end_items, end_of, finish, is_empty, no_end}
use Rattle.plan_flow.specs.Written.Routes.{Route}
use Rattle.plan_flow.specs.Written.Templates.{catches_at as written_catches, jump_targets}
use Rattle.making_code.specs.Opposites.{opposite_instr}
use Rattle.plan_flow.specs.Written.WrittenCode.{Form, block_items, in_form, jumping_to, short, target_number, wide, written_op, written_point}
use Rattle.plan_flow.specs.Written.WrittenPrograms.{WrittenMethod}
use Rattle.same_runs.specs.Flats.{flat_code, flat_item, flat_point, flat_points, host_scope, instr_scope, pool_of}
use Rattle.same_runs.specs.Laws.Numbered.{slice_numbered}
use Rattle.written_runs.specs.Inner.PlannedFrames.{IsCarried, IsReached, blocks_in, scope_in}
use Rattle.written_runs.specs.Inner.Setup.{Setup, first, second}
use Rattle.written_runs.specs.Inner.Waiting.{IsNoJump}
use Rattle.written_runs.specs.Laws.Carried.Standing.{AtOwn, item_there, own_finished}
use Rattle.written_runs.specs.Laws.Settling.{ends_plain}

-- ---- instructions that do not jump

-- what follows of it, and that its operation is the same wherever it stands
pub record StaysStraight (instr : Instr) : Type 0 where
  pub no_targets : targets instr ≡ []
  pub no_opposite : opposite_instr instr ≡ None
  pub undecided : (point : Point) (route : Route) (class : ℕ) → point.instr ≡ Of class instr → is_decided point route ≡ false
  pub same_op : (links : Links) (classes : Classes) (host : Scope) (flat : FlatCode) (number number_also : ℕ → ℕ) (pool : Constants)
      → instr_op links number (record (host_scope classes host flat) { pool = pool }) instr
      ≡ instr_op links number_also (record (row_scope host) { pool = pool }) (jumping_to [] instr)

straight : (instr : Instr)
    → targets instr ≡ []
    → opposite_instr instr ≡ None
    → ((point : Point) (route : Route) (class : ℕ) → point.instr ≡ Of class instr → is_decided point route ≡ false)
    → ((links : Links) (classes : Classes) (host : Scope) (flat : FlatCode) (number number_also : ℕ → ℕ) (pool : Constants)
    → instr_op links number (record (host_scope classes host flat) { pool = pool }) instr
    ≡ instr_op links number_also (record (row_scope host) { pool = pool }) (jumping_to [] instr))
    → StaysStraight instr
straight instr none no_opposite undecided same =
    record { no_targets = none; no_opposite = no_opposite; undecided = undecided; same_op = same }

pub stays_straight : (instr : Instr) → IsNoJump instr → StaysStraight instr
stays_straight (If opcode to) is = absurd is
stays_straight (If2 opcode to) is = absurd is
stays_straight (IfSame opcode to) is = absurd is
stays_straight (IfNull opcode to) is = absurd is
stays_straight (Goto to) is = absurd is
stays_straight (Table low other to) is = absurd is
stays_straight (Lookup other pairs) is = absurd is
stays_straight Nop is = straight Nop refl refl (λ point route class here. rw (here) refl) (λ links classes host flat number also pool. refl)
stays_straight (Const imm) is = straight (Const imm) refl refl (λ point route class here. rw (here) refl) (λ links classes host flat number also pool. refl)
stays_straight (Ldc index) is = straight (Ldc index) refl refl (λ point route class here. rw (here) refl) (λ links classes host flat number also pool. refl)
stays_straight (Ldc2 index) is = straight (Ldc2 index) refl refl (λ point route class here. rw (here) refl) (λ links classes host flat number also pool. refl)
stays_straight (Load kind local) is =
    straight (Load kind local) refl refl (λ point route class here. rw (here) refl) (λ links classes host flat number also pool. refl)
stays_straight (Store kind local) is =
    straight (Store kind local) refl refl (λ point route class here. rw (here) refl) (λ links classes host flat number also pool. refl)
stays_straight (Iinc local by) is =
    straight (Iinc local by) refl refl (λ point route class here. rw (here) refl) (λ links classes host flat number also pool. refl)
stays_straight (ArrayLoad opcode) is =
    straight (ArrayLoad opcode) refl refl (λ point route class here. rw (here) refl) (λ links classes host flat number also pool. refl)
stays_straight (ArrayStore opcode) is =
    straight (ArrayStore opcode) refl refl (λ point route class here. rw (here) refl) (λ links classes host flat number also pool. refl)
stays_straight (Shuffle opcode) is =
    straight (Shuffle opcode) refl refl (λ point route class here. rw (here) refl) (λ links classes host flat number also pool. refl)
stays_straight (Pure opcode) is = straight (Pure opcode) refl refl (λ point route class here. rw (here) refl) (λ links classes host flat number also pool. refl)
stays_straight (Divide opcode) is =
    straight (Divide opcode) refl refl (λ point route class here. rw (here) refl) (λ links classes host flat number also pool. refl)
stays_straight (FloatAsk opcode) is =
    straight (FloatAsk opcode) refl refl (λ point route class here. rw (here) refl) (λ links classes host flat number also pool. refl)
stays_straight (Return kind) is = straight (Return kind) refl refl (λ point route class here. rw (here) refl) (λ links classes host flat number also pool. refl)
stays_straight (GetStatic index) is =
    straight (GetStatic index) refl refl (λ point route class here. rw (here) refl) (λ links classes host flat number also pool. refl)
stays_straight (PutStatic index) is =
    straight (PutStatic index) refl refl (λ point route class here. rw (here) refl) (λ links classes host flat number also pool. refl)
stays_straight (GetField index) is =
    straight (GetField index) refl refl (λ point route class here. rw (here) refl) (λ links classes host flat number also pool. refl)
stays_straight (PutField index) is =
    straight (PutField index) refl refl (λ point route class here. rw (here) refl) (λ links classes host flat number also pool. refl)
stays_straight (Invoke opcode index count) is =
    straight (Invoke opcode index count) refl refl (λ point route class here. rw (here) refl) (λ links classes host flat number also pool. refl)
stays_straight (Dynamic index) is =
    straight (Dynamic index) refl refl (λ point route class here. rw (here) refl) (λ links classes host flat number also pool. refl)
stays_straight (New index) is = straight (New index) refl refl (λ point route class here. rw (here) refl) (λ links classes host flat number also pool. refl)
stays_straight (NewArray code) is =
    straight (NewArray code) refl refl (λ point route class here. rw (here) refl) (λ links classes host flat number also pool. refl)
stays_straight (NewRefArray index) is =
    straight (NewRefArray index) refl refl (λ point route class here. rw (here) refl) (λ links classes host flat number also pool. refl)
stays_straight (NewMulti index dimensions) is =
    straight (NewMulti index dimensions) refl refl (λ point route class here. rw (here) refl) (λ links classes host flat number also pool. refl)
stays_straight Length is = straight Length refl refl (λ point route class here. rw (here) refl) (λ links classes host flat number also pool. refl)
stays_straight Throw is = straight Throw refl refl (λ point route class here. rw (here) refl) (λ links classes host flat number also pool. refl)
stays_straight (Cast index) is = straight (Cast index) refl refl (λ point route class here. rw (here) refl) (λ links classes host flat number also pool. refl)
stays_straight (InstanceOf index) is =
    straight (InstanceOf index) refl refl (λ point route class here. rw (here) refl) (λ links classes host flat number also pool. refl)
stays_straight Enter is = straight Enter refl refl (λ point route class here. rw (here) refl) (λ links classes host flat number also pool. refl)
stays_straight Leave is = straight Leave refl refl (λ point route class here. rw (here) refl) (λ links classes host flat number also pool. refl)

-- a class's constants are the same, by either word
pub same_pool : (s : PlanScope) (class : ℕ) → pool_of s.classes class ≡ written_pool s class
same_pool s class = by (slice_get s.classes.folder class) refl where
  by : (file : Option ClassFile) → slice_get s.classes.folder class ≡ file → pool_of s.classes class ≡ written_pool s class
  by None is = rw (is) refl
  by (Some file) is = rw (is) refl

-- ---- the first program's point

pub first_point_is : (u : Setup) (w : WrittenMethod) (host : Scope) (f : MethodState) (point : Point)
    → code_at (first u) f.at ≡ Some (flat_code u.classes u.links host w.flat)
    → slice_get w.flat.points f.place ≡ Some point
    → point_at (first u) f.at f.place
    ≡ Some (run_point u.links (number_at (flat_points u.classes host w.flat)) (flat_point u.classes host w.flat (0 + f.place) point))
first_point_is u w host f point is_code is_point =
    ap (λ (code : Option Code). option_and_then (λ (c : Code). slice_get c.points f.place) code) is_code
    ∙ slice_get-map (run_point u.links (number_at (flat_points u.classes host w.flat))) (flat_points u.classes host w.flat) f.place
    ∙ ap (option_map (run_point u.links (number_at (flat_points u.classes host w.flat))))
    (slice_numbered (flat_point u.classes host w.flat) 0 w.flat.points f.place
    ∙ ap (option_map (flat_point u.classes host w.flat (0 + f.place))) is_point)

-- ---- the second's

-- the item of an instruction that is written as it is
abbrev pub carried_item : ℕ → Point → Route → ℕ → Instr → WItem
carried_item at point route class instr = record {
  instr = carried class instr;
  targets = jump_targets at route 0 (targets_at point.instr);
  catches = written_catches at point route;
}

alone_in_form : (form : Form) (one : WItem) (class : ℕ) (instr : Instr)
    → one.instr ≡ carried class instr
    → opposite_instr instr ≡ None
    → in_form form (one ∷ []) ≡ one ∷ []
alone_in_form short one class instr is none = refl
alone_in_form wide one class instr is none = rw (is, none) refl

module _ (u : Setup) (w : WrittenMethod) (at : ℕ) (point : Point) (route : Route) (reached : IsReached w at point route)
    (carried_so : IsCarried u w at point route) (no_jump : IsNoJump carried_so.instr) where
  abbrev block : Block
  block = instruction_block (scope_in u w) at point route

  abbrev its_item : WItem
  its_item = carried_item at point route carried_so.class carried_so.instr

  abbrev behind : List Finished
  behind = finish w.flat (drop (suc (own_number (scope_in u w) w.routes at route)) (blocks_of (scope_in u w) w.routes))

  block_items_are : block.items ≡ its_item ∷ []
  block_items_are = carried_so.items

  no_leaving : leaves_to point route ≡ None
  no_leaving =
      let undecided = (stays_straight carried_so.instr no_jump).undecided point route carried_so.class carried_so.is_instr in
      rw (undecided) refl

  ends : end_of w.flat block behind ≡ no_end
  ends = ends_plain w.flat block behind no_leaving (ap is_empty block_items_are)

  pub alone : block_items w.form (own_finished u w at point route) ≡ its_item ∷ []
  alone =
      ap (λ (end : End). in_form w.form (block.items ++ end_items end)) ends
      ∙ ap (λ (items : List WItem). in_form w.form (items ++ [])) block_items_are
      ∙ alone_in_form w.form its_item carried_so.class carried_so.instr refl (stays_straight carried_so.instr no_jump).no_opposite

  -- the block behind it starts at the next item
  pub next_place : first_item w.form (blocks_in u w) (suc (own_number (scope_in u w) w.routes at route))
      ≡ first_item w.form (blocks_in u w) (own_number (scope_in u w) w.routes at route) + 1
  next_place =
      next_starts w.form (blocks_in u w) (own_number (scope_in u w) w.routes at route) (own_finished u w at point route)
      (block_finished w.flat (blocks_of (scope_in u w) w.routes) (own_number (scope_in u w) w.routes at route) block
      (own_of (scope_in u w) w.routes at point route reached.is_point reached.is_route))
      ∙ ap (λ (items : List WItem). first_item w.form (blocks_in u w) (own_number (scope_in u w) w.routes at route) + length items) alone

  module _ {g : MethodState} (here : AtOwn u w at point route g) where
    pub second_point_is : point_at (second u) g.at g.place
        ≡ Some (written_point (scope_in u w) here.host u.constructor w.form (blocks_in u w) (0 + g.place) its_item)
    second_point_is =
        let zeroth : g.place ≡ g.place + 0 = omega arith in
        ap (point_at (second u) g.at) zeroth
        ∙ item_there here reached 0 its_item (ap (λ (items : List WItem). slice_get items 0) alone)
        ∙ ap (λ (n : ℕ). Some (written_point (scope_in u w) here.host u.constructor w.form (blocks_in u w) (0 + n) its_item)) (sym zeroth)

    -- the operation is that of the flat code
    pub same_operation : (number : ℕ → ℕ)
        → written_op (scope_in u w) here.host u.constructor (map (target_number w.form (blocks_in u w) (0 + g.place)) its_item.targets) its_item.instr
        ≡ item_op u.links number (instr_scope u.classes here.host w.flat point.instr) (flat_item point.instr)
    same_operation number =
        let straight_so = stays_straight carried_so.instr no_jump in
        ap (λ (all : List ℕ). written_op (scope_in u w) here.host u.constructor (map (target_number w.form (blocks_in u w) (0 + g.place))
        (jump_targets at route 0 all)) (carried carried_so.class carried_so.instr))
        (ap targets_at carried_so.is_instr ∙ straight_so.no_targets)
        ∙ ap (λ (pool : Constants). instr_op u.links (λ (n : ℕ). n) (record (row_scope here.host) { pool = pool }) (jumping_to [] carried_so.instr))
        (sym (same_pool (scope_in u w) carried_so.class))
        ∙ sym (straight_so.same_op u.links u.classes here.host w.flat number (λ (n : ℕ). n) (pool_of u.classes carried_so.class))
        ∙ ap (λ (instr : FlatInstr). item_op u.links number (instr_scope u.classes here.host w.flat instr) (flat_item instr)) (sym carried_so.is_instr)

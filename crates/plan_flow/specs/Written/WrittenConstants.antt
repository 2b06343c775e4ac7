-- The constants that written code adds to the pool of the host's class, and its items by their indices. It is this project's profile.
--
-- An instruction of the host's own class keeps its index. All other constants, those of make code and of catch types among them, are added by
-- what they mean, instruction by instruction, those of an instruction before those of its catch types.
use Rattle.std.specs.Prelude.{◌==◌, ℕ, zero, suc, Bool, true, false, List, [], ◌∷◌, ◌++◌, map, Option, Some, None, if◌then◌else◌}
use Rattle.std.specs.List.{flat_map}
use Rattle.class_model.specs.Pool.{Constants}
use Rattle.class_model.specs.declared.instr.Instr.{Instr}
use Rattle.class_model.specs.declared.instr.Instr.TheVariants.{Cast, Dynamic, GetField, GetStatic, InstanceOf, Invoke, Ldc, Ldc2, New, NewMulti, NewRefArray, PutField, PutStatic}
use Rattle.class_tree.specs.Headers.{Name}
use Rattle.making_code.specs.Constants.{Need, class_needs, grow, index_in, needs_at, needs_class}
use Rattle.making_code.specs.IndexedItems.{IndexedItem}
use Rattle.making_code.specs.IndexedMaking.{index_of_last, made_instr, making_needs}
use Rattle.making_code.specs.Items.{WCatch, WInstr, WItem, WTarget, ahead, carried, to_handler_pad, to_jump_pad, to_point}
use Rattle.member_link.specs.Machine.Replaced.{map_numbered}
use Rattle.plan_flow.specs.PlanScope.{PlanScope, pool_of}
use Rattle.plan_flow.specs.Written.Finish.{Finished}
use Rattle.plan_flow.specs.Written.WrittenCode.{Form, jumping_to, target_number, written_items}

-- ---- the index that an instruction names

abbrev pub named_index : Instr → Option ℕ
named_index (Ldc index) = Some index
named_index (Ldc2 index) = Some index
named_index (GetStatic index) = Some index
named_index (PutStatic index) = Some index
named_index (GetField index) = Some index
named_index (PutField index) = Some index
named_index (Invoke opcode index count) = Some index
named_index (Dynamic index) = Some index
named_index (New index) = Some index
named_index (NewRefArray index) = Some index
named_index (NewMulti index dimensions) = Some index
named_index (Cast index) = Some index
named_index (InstanceOf index) = Some index
named_index instr = None

-- the instruction with another index
abbrev pub with_index : ℕ → Instr → Instr
with_index index (Ldc old) = Ldc index
with_index index (Ldc2 old) = Ldc2 index
with_index index (GetStatic old) = GetStatic index
with_index index (PutStatic old) = PutStatic index
with_index index (GetField old) = GetField index
with_index index (PutField old) = PutField index
with_index index (Invoke opcode old count) = Invoke opcode index count
with_index index (Dynamic old) = Dynamic index
with_index index (New old) = New index
with_index index (NewRefArray old) = NewRefArray index
with_index index (NewMulti old dimensions) = NewMulti index dimensions
with_index index (Cast old) = Cast index
with_index index (InstanceOf old) = InstanceOf index
with_index index instr = instr

-- ---- needs

abbrev pub needs_of_index : Constants → Option ℕ → List Need
needs_of_index pool None = []
needs_of_index pool (Some index) = needs_at pool index

-- of an instruction of a class, in a host of a class
abbrev pub carried_needs : PlanScope → ℕ → Instr → List Need
carried_needs s class instr =
    if class == s.flat.host.class then []
    else needs_of_index (pool_of s class) (named_index instr)

abbrev pub instr_needs : PlanScope → (Name → List ℕ) → WInstr → List Need
instr_needs s constructor (carried class instr) = carried_needs s class instr
instr_needs s constructor instr = making_needs constructor instr

abbrev pub catch_needs : Option Name → List Need
catch_needs None = []
catch_needs (Some class) = class_needs class

abbrev pub item_needs : PlanScope → (Name → List ℕ) → WItem → List Need
item_needs s constructor one =
    instr_needs s constructor one.instr ++ flat_map (λ catch. catch_needs catch.class) one.catches

abbrev pub code_needs : PlanScope → (Name → List ℕ) → List WItem → List Need
code_needs s constructor items = flat_map (item_needs s constructor) items

-- the pool of the host's class with these constants, if its count stays within the limit for code
abbrev pub code_pool : PlanScope → (Name → List ℕ) → List WItem → Constants → Option Constants
code_pool s constructor items pool = grow 64535 pool (code_needs s constructor items)

-- ---- items by their indices

abbrev pub carried_instr : PlanScope → Constants → ℕ → Instr → Instr
carried_instr s pool class instr =
    if class == s.flat.host.class then instr
    else with_index (index_of_last pool (carried_needs s class instr)) instr

-- an instruction as it is written, but for its targets
abbrev pub indexed_instr : PlanScope → (Name → List ℕ) → Constants → WInstr → Instr
indexed_instr s constructor pool (carried class instr) = carried_instr s pool class instr
indexed_instr s constructor pool instr = made_instr s.flat constructor pool instr

abbrev pub catch_index : Constants → Option Name → ℕ
catch_index pool None = 0
catch_index pool (Some class) = index_in pool (needs_class class)

-- the jump inside a test for null
abbrev pub is_near : List WTarget → Bool
is_near (ahead count ∷ []) = count == 3
is_near targets = false

abbrev pub indexed_item :
    PlanScope → (Name → List ℕ) → Constants → Form → List Finished → ℕ → WItem → IndexedItem
indexed_item s constructor pool form blocks number one = record {
  instr = jumping_to (map (target_number form blocks number) one.targets)
      (indexed_instr s constructor pool one.instr);
  near = is_near one.targets;
  catches = map (λ catch.
      (target_number form blocks number catch.to, catch_index pool catch.class)) one.catches;
}

-- Written code in a pool that has its constants.
abbrev pub indexed_items :
    PlanScope → (Name → List ℕ) → Constants → Form → List Finished → List IndexedItem
indexed_items s constructor pool form blocks =
    map_numbered (indexed_item s constructor pool form blocks) zero (written_items form blocks)

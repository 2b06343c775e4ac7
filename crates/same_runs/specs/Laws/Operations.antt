-- Operations that work on their operands, and not on the frame alone: a step of such a one performs what it comes to. Those that are the
-- same take as many operands.
use Rattle.std.proofs.Common.{◌≡◌, ◌≤◌, nat_le, ℕ, zero, suc, true, List, [], ◌∷◌, ◌++◌, length, reverse, take, Some, refl, ap, sym, subst, ◌∙◌, arith}
use Rattle.std.proofs.lemmas.Bool.{le-leb, leb-true}
use Rattle.machine_values.specs.Frames.{MethodState}
use Rattle.machine_values.specs.declared.frame.RunFrame.{RunFrame}
use Rattle.machine_values.specs.declared.frame.RunFrame.TheVariants.{Method}
use Rattle.machine_values.specs.declared.value.Value.{Value}
use Rattle.member_link.specs.Machine.Ops.{Op, no_operation, meaningless, push_value, push_constant, load_local, store_local, increment_local, test_local, shuffle_stack, pure_arithmetic, division, float_arithmetic, jump_by_int, jump_by_ints, jump_by_references, jump_by_null, jump_to, table_switch, lookup_switch, return_nothing, return_value, throw_reference, get_static, put_static, get_field, put_field, call_static, call_virtual, call_interface, call_special, call_dynamic, new_object, new_array, new_arrays, load_element, store_element, array_length, check_cast, instance_of, enter_monitor, leave_monitor}
use Rattle.member_link.specs.Machine.Programs.{Point, Program, point_at}
use Rattle.member_link.specs.Machine.Runs.{Run}
use Rattle.member_link.specs.Machine.Stepping.{op_step, work_step}
use Rattle.member_link.specs.Machine.Work.{arity, work}
use Rattle.member_link.specs.Machine.Worlds.{World, going}
use Rattle.same_runs.specs.Renamings.{Names, SameValues, no_values, and_value}
use Rattle.same_runs.specs.SameMemories.{SameMemories}
use Rattle.same_runs.specs.SamePrograms.{SameOp, same_op, same_store, same_initialiser}
use Rattle.same_runs.specs.SameWorlds.{Comparison, Goes, SameSeen}
use Rattle.same_runs.specs.Laws.CaughtUp.{AtOperation, less, operands_of}
use Rattle.same_runs.specs.Laws.Moves.{same_reversed}

-- an operation that is more than one of the frame
abbrev pub WorksOnOperands : Op → Type 0
WorksOnOperands no_operation = ⊥
WorksOnOperands meaningless = ⊥
WorksOnOperands (load_local kind at) = ⊥
WorksOnOperands (store_local kind at) = ⊥
WorksOnOperands (increment_local at by) = ⊥
WorksOnOperands (test_local at) = ⊥
WorksOnOperands (shuffle_stack opcode) = ⊥
WorksOnOperands (jump_by_int opcode to) = ⊥
WorksOnOperands (jump_by_ints opcode to) = ⊥
WorksOnOperands (jump_by_references opcode to) = ⊥
WorksOnOperands (jump_by_null opcode to) = ⊥
WorksOnOperands (jump_to to) = ⊥
WorksOnOperands (table_switch low other targets) = ⊥
WorksOnOperands (lookup_switch other pairs) = ⊥
WorksOnOperands return_nothing = ⊥
WorksOnOperands (return_value type) = ⊥
WorksOnOperands op = Unit {0}

-- its step performs what it comes to
pub step_works : (R : Program) (f : MethodState) (rest : List RunFrame) (op : Op) → WorksOnOperands op
    → (w : World) → op_step R w f rest op ≡ work_step R w f rest op
step_works R f rest no_operation is w = absurd is
step_works R f rest meaningless is w = absurd is
step_works R f rest (load_local kind at) is w = absurd is
step_works R f rest (store_local kind at) is w = absurd is
step_works R f rest (increment_local at by) is w = absurd is
step_works R f rest (test_local at) is w = absurd is
step_works R f rest (shuffle_stack opcode) is w = absurd is
step_works R f rest (jump_by_int opcode to) is w = absurd is
step_works R f rest (jump_by_ints opcode to) is w = absurd is
step_works R f rest (jump_by_references opcode to) is w = absurd is
step_works R f rest (jump_by_null opcode to) is w = absurd is
step_works R f rest (jump_to to) is w = absurd is
step_works R f rest (table_switch low other targets) is w = absurd is
step_works R f rest (lookup_switch other pairs) is w = absurd is
step_works R f rest return_nothing is w = absurd is
step_works R f rest (return_value type) is w = absurd is
step_works R f rest (push_value value) is w = refl
step_works R f rest (push_constant constant) is w = refl
step_works R f rest (pure_arithmetic opcode) is w = refl
step_works R f rest (division opcode) is w = refl
step_works R f rest (float_arithmetic opcode) is w = refl
step_works R f rest throw_reference is w = refl
step_works R f rest (get_static field) is w = refl
step_works R f rest (put_static field initialises) is w = refl
step_works R f rest (get_field field) is w = refl
step_works R f rest (put_field field initialises) is w = refl
step_works R f rest (call_static method) is w = refl
step_works R f rest (call_virtual method) is w = refl
step_works R f rest (call_interface method) is w = refl
step_works R f rest (call_special method from) is w = refl
step_works R f rest (call_dynamic class bootstrap name desc) is w = refl
step_works R f rest (new_object class) is w = refl
step_works R f rest (new_array desc) is w = refl
step_works R f rest (new_arrays desc dimensions) is w = refl
step_works R f rest (load_element opcode) is w = refl
step_works R f rest (store_element opcode) is w = refl
step_works R f rest array_length is w = refl
step_works R f rest (check_cast name) is w = refl
step_works R f rest (instance_of name) is w = refl
step_works R f rest enter_monitor is w = refl
step_works R f rest leave_monitor is w = refl

-- the same operation works on operands in both
pub both_work : {P Q : Program} {op also : Op} → SameOp P Q op also → WorksOnOperands op → WorksOnOperands also
both_work (same_op in_both) is = is
both_work (same_store bar) is = tt
both_work (same_initialiser name there) is = tt

-- and takes as many
pub same_arity : {P Q : Program} {op also : Op} → SameOp P Q op also → arity also ≡ arity op
same_arity (same_op in_both) = refl
same_arity (same_store bar) = refl
same_arity (same_initialiser name there) = refl

-- ---- operands

-- the topmost entries of a stack, where the second may have others below
pub taken_same : {names : Names} {ones top : List Value} (count : ℕ) (under : List Value)
    → count ≤ length ones
    → SameValues names ones top
    → SameValues names (take count ones) (take count (top ++ under))
taken_same zero under enough are = no_values
taken_same (suc count) under enough no_values = absurd (omega (arith, enough))
taken_same (suc count) under enough (and_value one rest) = and_value one (taken_same count under (omega (arith, enough)) rest)

as_many : {names : Names} {ones top : List Value} (count : ℕ) (under : List Value)
    → count ≤ length ones
    → SameValues names ones top
    → count ≤ length (top ++ under)
as_many zero under enough are = omega arith
as_many (suc count) under enough no_values = absurd (omega (arith, enough))
as_many (suc count) under enough (and_value one rest) =
    let less = as_many count under (omega (arith, enough)) rest in
    omega (arith, less)

-- The same operation takes the same operands, where the second stack may have others below: there are enough of them in both.
pub operands_same : {P Q : Program} {names : Names} {op also : Op} {ones top : List Value} (under : List Value)
    → SameOp P Q op also
    → nat_le (arity op) (length ones) ≡ true
    → SameValues names ones top
    → (nat_le (arity also) (length (top ++ under)) ≡ true)
    × SameValues names (reverse (take (arity op) ones)) (reverse (take (arity also) (top ++ under)))
operands_same {names = names} {op = op} {also = also} {ones = ones} {top = top} under same enough are = (
  ap (λ (count : ℕ). nat_le count (length (top ++ under))) (same_arity same)
      ∙ le-leb (arity op) (length (top ++ under)) (as_many (arity op) under there are),
  subst (λ (count : ℕ). SameValues names (reverse (take (arity op) ones)) (reverse (take count (top ++ under)))) (sym (same_arity same))
      (same_reversed (taken_same (arity op) under there are)),
) where
  there : arity op ≤ length ones
  there = leb-true (arity op) (length ones) enough

-- Two runs at the same operation, where worlds are the same: what has to be shown of them.
pub at_operation :
    {P Q : Program} {c : Comparison} {names : Names} {one other : Run} {f g : MethodState} {rest others : List RunFrame}
    {point also : Point} (top under : List Value)
    → one.world.halt ≡ going
    → other.world.halt ≡ going
    → one.world.frames ≡ Method f ∷ rest
    → other.world.frames ≡ Method g ∷ others
    → point_at P f.at f.place ≡ Some point
    → point_at Q g.at g.place ≡ Some also
    → WorksOnOperands point.op
    → SameOp P Q point.op also.op
    → nat_le (arity point.op) (length f.stack) ≡ true
    → g.stack ≡ top ++ under
    → SameValues names f.stack top
    → SameMemories P c.allocated c.entered c.apart names [] one.world.memory other.world.memory
    → SameSeen c names one.world other.world
    → Goes P Q c names (work P one.world.memory point.op (operands_of (arity point.op) f)) f (less (arity point.op) f) g
    (less (arity also.op) g) rest others
    → AtOperation P Q c names one other f g rest others point also
at_operation {P = P} {Q = Q} {c = c} {names = names} {f = f} {g = g} {rest = rest} {others = others} {point = point} {also = also} top under
    goes goes_also stands stands_also is is_also works same enough stack are memories seen frames = record {
      goes = goes;
      goes_also = goes_also;
      stands = stands;
      stands_also = stands_also;
      is = is;
      is_also = is_also;
      works = step_works P f rest point.op works;
      works_also = step_works Q g others also.op (both_work same works);
      enough = enough;
      enough_also = ap (λ (now : List Value). nat_le (arity also.op) (length now)) stack ∙ taken.0;
      same = same;
      operands = subst (λ (now : List Value). SameValues names (operands_of (arity point.op) f) (reverse (take (arity also.op) now)))
          (sym stack) taken.1;
      memories = memories;
      seen = seen;
      frames = frames;
    } where
      taken : (nat_le (arity also.op) (length (top ++ under)) ≡ true)
          × SameValues names (reverse (take (arity point.op) f.stack)) (reverse (take (arity also.op) (top ++ under)))
      taken = operands_same under same enough are

-- The same operation, with the same operands and memories, comes to the same in both runs: or the second has to begin a class first that the
-- first has begun.
use Rattle.std.proofs.Common.{◌≡◌, ◌-◌, ℕ, List, [], Option, sym, ap, subst}
use Rattle.class_model.specs.declared.opcodes.TheConstants.{IALOAD, IASTORE}
use Rattle.class_tree.specs.Headers.{Name}
use Rattle.machine_values.specs.declared.value.Value.{Value}
use Rattle.member_link.specs.Machine.Arithmetic.{divide_meanings, meaning_in, pure_meanings}
use Rattle.member_link.specs.Machine.Completions.{Completion}
use Rattle.member_link.specs.Machine.FieldSteps.{get_field_work, get_static_work, put_field_work, put_static_work}
use Rattle.member_link.specs.Machine.Ops.{Op, no_operation, meaningless, push_value, push_constant, load_local, store_local, increment_local, test_local, shuffle_stack, pure_arithmetic, division, float_arithmetic, jump_by_int, jump_by_ints, jump_by_references, jump_by_null, jump_to, table_switch, lookup_switch, return_nothing, return_value, throw_reference, get_static, put_static, get_field, put_field, call_static, call_virtual, call_interface, call_special, call_dynamic, new_object, new_array, new_arrays, load_element, store_element, array_length, check_cast, instance_of, enter_monitor, leave_monitor}
use Rattle.member_link.specs.Machine.Programs.{Links, Program}
use Rattle.member_link.specs.Machine.Work.{work}
use Rattle.member_link.specs.Machine.Worlds.{Memory}
use Rattle.member_link.specs.References.{Reference}
use Rattle.member_link.specs.Rows.ArithmeticRows.{float_operations, operation_in}
use Rattle.same_runs.specs.Renamings.{Names, SameValues}
use Rattle.same_runs.specs.SameCompletions.{SameCompletions, both_end}
use Rattle.same_runs.specs.SameMemories.{Apart, IsComparison, SameMemories}
use Rattle.same_runs.specs.SamePrograms.{IsInBoth, SameBar, SameOp, same_initialiser, same_op, same_store, SamePrograms}
use Rattle.same_runs.specs.Laws.ArithmeticWork.{asks_same, computes, divides}
use Rattle.same_runs.specs.Laws.ArrayWork.{lengths, loads, makes_array, makes_arrays, stores}
use Rattle.same_runs.specs.Laws.CallWork.{calls_dynamic, calls_interface, calls_special, calls_static, calls_virtual}
use Rattle.same_runs.specs.Laws.FieldWork.{gets_field, gets_static, makes_object, puts_field, puts_static}
use Rattle.same_runs.specs.Laws.InitialiserStarts.{start_of_initialiser}
use Rattle.same_runs.specs.Laws.OperandWork.{casts, enters, gives_value, itself, leaves, pushes_constant, tests, throws_same}

module _ {P Q : Program} {Allocated Entered : ℕ → ℕ → Type 0} {apart : Apart} {names : Names} {one other : Memory}
    (same : SamePrograms P Q) (allocated : IsComparison Allocated) (entered : IsComparison Entered)
    (memories : SameMemories P Allocated Entered apart names [] one other) where
  abbrev Both : Completion → Completion → Type 0
  Both completion also = SameCompletions P Allocated Entered apart names one other completion also

  same_field : (r : Reference) → Q.links.field r ≡ P.links.field r
  same_field r = ap (λ (links : Links). links.field r) same.links

  stores_field : (r : Reference) (initialises initialises_also : Option Name) → SameBar P Q r initialises initialises_also
      → {ones others : List Value} → SameValues names ones others
      → Both (work P one (put_field r initialises) ones) (work Q other (put_field r initialises_also) others)
  stores_field r initialises initialises_also bar {ones = ones} {others = others} are =
      subst (λ (found : Option Reference). Both (put_field_work P one r.class (P.links.field r) initialises ones)
      (put_field_work Q other r.class found initialises_also others)) (sym (same_field r))
      (puts_field same memories r.class (P.links.field r) initialises initialises_also bar are)

  works : (op : Op) → IsInBoth P Q op → {ones others : List Value} → SameValues names ones others
      → Both (work P one op ones) (work Q other op others)
  works (push_value value) in_both are = gives_value same memories (itself names value in_both)
  works (push_constant constant) in_both are = pushes_constant same memories constant
  works (pure_arithmetic opcode) in_both are = computes same memories (meaning_in pure_meanings opcode) are
  works (division opcode) in_both are = divides same memories (meaning_in divide_meanings opcode) are
  works (float_arithmetic opcode) in_both are = asks_same same memories opcode (operation_in float_operations opcode) are
  works throw_reference in_both are = throws_same same memories are
  works (get_static r) in_both are =
      subst (λ (found : Option Reference). Both (get_static_work P one (P.links.field r)) (get_static_work Q other found))
      (sym (same_field r)) (gets_static same memories (P.links.field r))
  works (put_static r initialises) in_both {ones = ones} {others = others} are =
      subst (λ (found : Option Reference). Both (put_static_work P one (P.links.field r) initialises ones)
      (put_static_work Q other found initialises others)) (sym (same_field r))
      (puts_static same memories (P.links.field r) initialises in_both are)
  works (get_field r) in_both {ones = ones} {others = others} are =
      subst (λ (found : Option Reference). Both (get_field_work P one r.class (P.links.field r) ones)
      (get_field_work Q other r.class found others)) (sym (same_field r))
      (gets_field same memories r.class (P.links.field r) are)
  works (put_field r initialises) in_both are = stores_field r initialises initialises in_both are
  works (call_static r) in_both are = calls_static same memories r are
  works (call_virtual r) in_both are = calls_virtual same memories r are
  works (call_interface r) in_both are = calls_interface same memories r are
  works (call_special r from) in_both are = calls_special same memories r from in_both are
  works (call_dynamic class bootstrap name desc) in_both are = calls_dynamic same memories class bootstrap name desc are
  works (new_object class) in_both are = makes_object same memories allocated class
  works (new_array desc) in_both are = makes_array same memories allocated desc are
  works (new_arrays desc dimensions) in_both are = makes_arrays same memories allocated desc are
  works (load_element opcode) in_both are = loads same memories (opcode - IALOAD) are
  works (store_element opcode) in_both are = stores same memories (opcode - IASTORE) are
  works array_length in_both are = lengths same memories are
  works (check_cast name) in_both are = casts same memories name are
  works (instance_of name) in_both are = tests same memories name are
  works enter_monitor in_both are = enters same memories entered are
  works leave_monitor in_both are = leaves same memories are
  works no_operation in_both are = both_end
  works meaningless in_both are = both_end
  works (load_local kind at) in_both are = both_end
  works (store_local kind at) in_both are = both_end
  works (increment_local at by) in_both are = both_end
  works (test_local at) in_both are = both_end
  works (shuffle_stack opcode) in_both are = both_end
  works (jump_by_int opcode to) in_both are = both_end
  works (jump_by_ints opcode to) in_both are = both_end
  works (jump_by_references opcode to) in_both are = both_end
  works (jump_by_null opcode to) in_both are = both_end
  works (jump_to to) in_both are = both_end
  works (table_switch low default targets) in_both are = both_end
  works (lookup_switch default pairs) in_both are = both_end
  works return_nothing in_both are = both_end
  works (return_value type) in_both are = both_end

  pub work_same : {op also : Op} {ones others : List Value} → SameOp P Q op also → SameValues names ones others
      → Both (work P one op ones) (work Q other also others)
  work_same (same_op {op = op} in_both) are = works op in_both are
  work_same (same_store {r = r} {one = initialises} {other = initialises_also} bar) are = stores_field r initialises initialises_also bar are
  work_same {ones = ones} {others = others} (same_initialiser {r = r} {from = from} {other = start} is there) are =
      subst (Both (work P one (call_special r from) ones)) (sym (start_of_initialiser Q other r from start others is)) (calls_special same memories r from (λ name. there) are)

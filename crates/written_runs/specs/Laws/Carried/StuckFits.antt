-- Operations that are stuck on an object of the folder, so that their operands are plain: elements of arrays, and several arrays at once.
use Rattle.std.proofs.Common.{◌≡◌, ◌≤◌, ◌<◌, ◌+◌, ◌-◌, ◌&&◌, nat_le, ℕ, zero, suc, ℤ, pos, negsuc, Bool, true, false, List, [], ◌∷◌, length, reverse, slice_get, take, Option, Some, None, if◌then◌else◌, refl, sym, ap, ◌∙◌, arith}
use Rattle.std.proofs.lemmas.List.{length-reverse, length-take-le}
use Rattle.std.proofs.lemmas.Option.{none-some, same_Some}
use Rattle.class_model.specs.PoolChecks.{class_at}
use Rattle.class_model.specs.declared.instr.Instr.{Instr}
use Rattle.class_model.specs.declared.instr.Instr.TheVariants.{ArrayLoad, ArrayStore, NewMulti}
use Rattle.class_model.specs.declared.opcodes.TheConstants.{IALOAD, IASTORE, SALOAD, SASTORE}
use Rattle.class_tree.specs.Headers.{Name}
use Rattle.flow_code.specs.declared.point.Point.{Point}
use Rattle.machine_values.specs.declared.value.Value.{Value}
use Rattle.machine_values.specs.declared.value.Value.TheVariants.{Int, Long, Float, Double, Null, Ref}
use Rattle.member_link.specs.Machine.ArraySteps.{arrays_of_counts, counts_of, element_of, load_element_work, no_counts, put_element, store_element_work, stores_value}
use Rattle.member_link.specs.Machine.Codes.{instr_op, naming}
use Rattle.member_link.specs.Machine.Completions.{ends}
use Rattle.member_link.specs.Machine.Ops.{Op, load_element, meaningless, new_arrays, store_element}
use Rattle.member_link.specs.Machine.Programs.{Program}
use Rattle.member_link.specs.Machine.Work.{arity, work}
use Rattle.member_link.specs.Machine.Worlds.{Memory, stuck}
use Rattle.member_link.specs.RowScope.{RowScope}
use Rattle.plan_flow.specs.PlanRows.{PlanRow, plain_value}
use Rattle.plan_flow.specs.PlanScope.{PlanScope}
use Rattle.plan_flow.specs.PlanSlots.{held}
use Rattle.plan_flow.specs.PlanTable.{operand, positions, value_stored}
use Rattle.plan_flow.specs.ReadyForPlans.{place_types}
use Rattle.plan_flow.specs.Written.Blocks.{state_written}
use Rattle.plan_flow.specs.Written.Routes.{Route}
use Rattle.virtual_state.specs.States.{State}
use Rattle.virtual_state.specs.declared.slot.Slot.TheVariants.{Virt}
use Rattle.written_runs.specs.Inner.Waiting.{ThrowsThere}
use Rattle.written_runs.specs.Laws.Carried.OperandFits.{IsOfThree, is_first_of_three, is_second_of_three, is_third_of_three, of_three}
use Rattle.written_runs.specs.Laws.Carried.Rows.{IsFolderObject, MayThrow, PlainRow, asked_plain, fits_plainly, none_plain, reverse_get}
use Rattle.written_runs.specs.Laws.Carried.SimpleFits.{FitsHere, OpFits, asking_row, none_meant, row_is, throws_each, works_to}
use Rattle.written_runs.specs.Laws.Templates.Stacks.{drop_at, get_in_take}

-- an operation is stuck where one of so many operands is an object of the folder
abbrev pub GetsStuck : Program → Memory → Op → ℕ → ℕ → Type 0
GetsStuck P memory op count place =
    (operands : List Value) (value : Value)
    → length operands ≡ count
    → slice_get operands place ≡ Some value
    → IsFolderObject memory.heap value
    → work P memory op operands ≡ ends stuck

-- ---- at an instruction

module _ {P : Program} {s : PlanScope} {at : ℕ} {point : Point} {route : Route} {class : ℕ} {instr : Instr} {scope : RowScope} {memory : Memory}
    {stack : List Value} (here : FitsHere P s at point route class instr scope memory stack) where
  abbrev before : State
  before = state_written route

  abbrev Fits : Op → Type 0
  Fits op = OpFits P s at point route memory stack op

  -- an operand is not virtual, where the operation is stuck on it
  pub stuck_on : (op : Op) (number site : ℕ)
      → arity op ≤ length stack
      → (works_to P memory stack op ≡ ends stuck → ⊥)
      → number < arity op
      → GetsStuck P memory op (arity op) (arity op - (number + 1))
      → held before (operand point.typed number) ≡ Virt site
      → ⊥
  stuck_on op number site enough not_stuck low gets_stuck virtual =
      not_stuck (gets_stuck (reverse (take (arity op) stack)) there.0 (length-reverse (take (arity op) stack) ∙ many) at_place
      (here.folder number site there.0 there.1 virtual)) where
        there : (value : Value) × (slice_get stack number ≡ Some value)
        there = let low_so = low in let all = enough in let got = drop_at number stack (omega (arith, low_so, all)) in (got.0, got.1)

        many : length (take (arity op) stack) ≡ arity op
        many = length-take-le (arity op) stack enough

        at_place : slice_get (reverse (take (arity op) stack)) (arity op - (number + 1)) ≡ Some there.0
        at_place =
            ap (λ (n : ℕ). slice_get (reverse (take (arity op) stack)) (n - (number + 1))) (sym many)
            ∙ reverse_get (take (arity op) stack) number there.0 (get_in_take (arity op) stack number there.0 low there.1)

  -- an operation that is stuck on each, and gives a plain value
  pub stuck_on_each : (op : Op) (r : PlainRow s at point before (arity op) (plain_value ∷ []))
      → ((place : ℕ) → place < arity op → GetsStuck P memory op (arity op) place)
      → (MayThrow op (works_to P memory stack op) → ThrowsThere s at point route)
      → Fits op
  stuck_on_each op r gets_stuck throws works enough not_stuck =
      fits_plainly op stack (works_to P memory stack op) r here.many here.slots enough
      (λ number site low virtual.
      stuck_on op number site enough not_stuck low (gets_stuck (arity op - (number + 1)) (omega (arith, low))) virtual)
      (none_plain at (place_types point.typed)) throws

-- ---- elements

element_stuck : (memory : Memory) (number : ℕ) (index : ℤ) (value : Value) (folder : IsFolderObject memory.heap value)
    → load_element_work memory number (Ref folder.reference ∷ Int index ∷ []) ≡ ends stuck
element_stuck memory number index value folder = ap (element_of memory number index) folder.there ∙ rw (folder.shape) refl

load_first : (P : Program) (memory : Memory) (opcode : ℕ) (array index value : Value)
    → array ≡ value
    → IsFolderObject memory.heap value
    → work P memory (load_element opcode) (array ∷ index ∷ []) ≡ ends stuck
load_first P memory opcode array (Int index) value is folder =
    ap (λ (v : Value). load_element_work memory (opcode - IALOAD) (v ∷ Int index ∷ [])) (is ∙ folder.refers)
    ∙ element_stuck memory (opcode - IALOAD) index value folder
load_first P memory opcode array (Long n) value is folder = rw (is ∙ folder.refers) refl
load_first P memory opcode array (Float n) value is folder = rw (is ∙ folder.refers) refl
load_first P memory opcode array (Double n) value is folder = rw (is ∙ folder.refers) refl
load_first P memory opcode array Null value is folder = rw (is ∙ folder.refers) refl
load_first P memory opcode array (Ref n) value is folder = rw (is ∙ folder.refers) refl

load_second : (P : Program) (memory : Memory) (opcode : ℕ) (array index value : Value)
    → index ≡ value
    → IsFolderObject memory.heap value
    → work P memory (load_element opcode) (array ∷ index ∷ []) ≡ ends stuck
load_second P memory opcode (Ref n) index value is folder = rw (is ∙ folder.refers) refl
load_second P memory opcode Null index value is folder = rw (is ∙ folder.refers) refl
load_second P memory opcode (Int n) index value is folder = refl
load_second P memory opcode (Long n) index value is folder = refl
load_second P memory opcode (Float n) index value is folder = refl
load_second P memory opcode (Double n) index value is folder = refl

load_stuck : (P : Program) (memory : Memory) (opcode place : ℕ) → place < 2 → GetsStuck P memory (load_element opcode) 2 place
load_stuck P memory opcode zero low (array ∷ index ∷ []) value many is folder = load_first P memory opcode array index value (same_Some array value is) folder
load_stuck P memory opcode (suc zero) low (array ∷ index ∷ []) value many is folder =
    load_second P memory opcode array index value (same_Some index value is) folder
load_stuck P memory opcode (suc (suc place)) low (array ∷ index ∷ []) value many is folder = absurd (omega (arith, low))
load_stuck P memory opcode place low [] value many is folder = absurd (omega (arith, many))
load_stuck P memory opcode place low (array ∷ []) value many is folder = absurd (omega (arith, many))
load_stuck P memory opcode place low (array ∷ index ∷ other ∷ more) value many is folder = absurd (omega (arith, many))

store_index : (P : Program) (memory : Memory) (opcode : ℕ) → GetsStuck P memory (store_element opcode) 3 1
store_index P memory opcode (array ∷ index ∷ stored ∷ []) value many is folder =
    let refers : index ≡ Ref folder.reference = same_Some index value is ∙ folder.refers in
    ap (λ (v : Value). store_element_work P memory (opcode - IASTORE) (array ∷ v ∷ stored ∷ [])) refers
store_index P memory opcode [] value many is folder = absurd (omega (arith, many))
store_index P memory opcode (array ∷ []) value many is folder = absurd (omega (arith, many))
store_index P memory opcode (array ∷ index ∷ []) value many is folder = absurd (omega (arith, many))
store_index P memory opcode (array ∷ index ∷ stored ∷ other ∷ more) value many is folder = absurd (omega (arith, many))

into_folder : (P : Program) (memory : Memory) (number : ℕ) (index : ℤ) (stored value : Value) (folder : IsFolderObject memory.heap value)
    → store_element_work P memory number (Ref folder.reference ∷ Int index ∷ stored ∷ []) ≡ ends stuck
into_folder P memory number index stored value folder = by (stores_value number stored) refl where
  by : (stores : Bool) → stores_value number stored ≡ stores → store_element_work P memory number (Ref folder.reference ∷ Int index ∷ stored ∷ []) ≡ ends stuck
  by false is = rw (is) refl
  by true is = rw (is) (ap (put_element P memory number folder.reference index stored) folder.there ∙ rw (folder.shape) refl)

store_first : (P : Program) (memory : Memory) (opcode : ℕ) (index stored value : Value) (folder : IsFolderObject memory.heap value)
    → store_element_work P memory (opcode - IASTORE) (Ref folder.reference ∷ index ∷ stored ∷ []) ≡ ends stuck
store_first P memory opcode (Int index) stored value folder = into_folder P memory (opcode - IASTORE) index stored value folder
store_first P memory opcode (Long n) stored value folder = refl
store_first P memory opcode (Float n) stored value folder = refl
store_first P memory opcode (Double n) stored value folder = refl
store_first P memory opcode Null stored value folder = refl
store_first P memory opcode (Ref n) stored value folder = refl

store_array : (P : Program) (memory : Memory) (opcode : ℕ) → GetsStuck P memory (store_element opcode) 3 0
store_array P memory opcode (array ∷ index ∷ stored ∷ []) value many is folder =
    ap (λ (v : Value). store_element_work P memory (opcode - IASTORE) (v ∷ index ∷ stored ∷ [])) (same_Some array value is ∙ folder.refers)
    ∙ store_first P memory opcode index stored value folder
store_array P memory opcode [] value many is folder = absurd (omega (arith, many))
store_array P memory opcode (array ∷ []) value many is folder = absurd (omega (arith, many))
store_array P memory opcode (array ∷ index ∷ []) value many is folder = absurd (omega (arith, many))
store_array P memory opcode (array ∷ index ∷ stored ∷ other ∷ more) value many is folder = absurd (omega (arith, many))

-- ---- counts

reference_counts : (values : List Value) (place reference : ℕ) → slice_get values place ≡ Some (Ref reference) → counts_of values ≡ no_counts
reference_counts [] place reference is = absurd (none-some (Ref reference) is)
reference_counts (value ∷ values) zero reference is = ap (λ (v : Value). counts_of (v ∷ values)) (same_Some value (Ref reference) is)
reference_counts (Int (pos count) ∷ values) (suc place) reference is = rw (reference_counts values place reference is) refl
reference_counts (Int (negsuc n) ∷ values) (suc place) reference is = rw (reference_counts values place reference is) refl
reference_counts (Long n ∷ values) (suc place) reference is = refl
reference_counts (Float n ∷ values) (suc place) reference is = refl
reference_counts (Double n ∷ values) (suc place) reference is = refl
reference_counts (Null ∷ values) (suc place) reference is = refl
reference_counts (Ref n ∷ values) (suc place) reference is = refl

arrays_stuck : (P : Program) (memory : Memory) (name : Name) (dimensions place : ℕ) → GetsStuck P memory (new_arrays name dimensions) dimensions place
arrays_stuck P memory name dimensions place operands value many is folder =
    ap (arrays_of_counts memory name) (reference_counts operands place folder.reference (is ∙ ap Some folder.refers))

-- ---- by the instruction

module _ (P : Program) (s : PlanScope) (at : ℕ) (point : Point) (route : Route) (class : ℕ) (scope : RowScope) (memory : Memory) (stack : List Value)
    (number : ℕ → ℕ) where
  abbrev FitsInstr : Instr → Type 0
  FitsInstr instr =
      FitsHere P s at point route class instr scope memory stack
      → OpFits P s at point route memory stack (instr_op P.links number scope instr)

  pub fits_array_load : (opcode : ℕ) → FitsInstr (ArrayLoad opcode)
  fits_array_load opcode here = by (nat_le IALOAD opcode && nat_le opcode SALOAD) where
    by : (is : Bool) → OpFits P s at point route memory stack (if is then load_element opcode else meaningless)
    by false = none_meant here
    by true =
        stuck_on_each here (load_element opcode) (asking_row here 2 (plain_value ∷ []) [] refl refl refl) (load_stuck P memory opcode)
        (λ throwing_so. throws_each here 2 (plain_value ∷ []) [] refl)

  pub fits_array_store : (opcode : ℕ) → FitsInstr (ArrayStore opcode)
  fits_array_store opcode here = by (nat_le IASTORE opcode && nat_le opcode SASTORE) where
    by : (is : Bool) → OpFits P s at point route memory stack (if is then store_element opcode else meaningless)
    by false = none_meant here
    by true = storing where
      each_plain : arity (store_element opcode) ≤ length stack → (works_to P memory stack (store_element opcode) ≡ ends stuck → ⊥)
          → {place : ℕ} → IsOfThree place → (site : ℕ)
          → held (state_written route) (operand point.typed place) ≡ Virt site
          → ⊥
      each_plain enough not_stuck is_first_of_three site virtual =
          asked_plain 0 (operand point.typed 0) site here.must (ap (λ (row : PlanRow). slice_get (positions row) 0) (row_is here)) virtual
      each_plain enough not_stuck is_second_of_three site virtual =
          stuck_on here (store_element opcode) 1 site enough not_stuck (omega arith) (store_index P memory opcode) virtual
      each_plain enough not_stuck is_third_of_three site virtual =
          stuck_on here (store_element opcode) 2 site enough not_stuck (omega arith) (store_array P memory opcode) virtual

      storing : OpFits P s at point route memory stack (store_element opcode)
      storing works enough not_stuck =
          fits_plainly (store_element opcode) stack _ (asking_row here 3 [] (value_stored point.typed) refl refl refl) here.many here.slots enough
          (λ place site low virtual. each_plain enough not_stuck (of_three place low) site virtual)
          (λ place type source there kept. none-some source there)
          (λ throwing_so. throws_each here 3 [] (value_stored point.typed) refl)

  pub fits_new_multi : (index dimensions : ℕ) → FitsInstr (NewMulti index dimensions)
  fits_new_multi index dimensions here = by (class_at scope.pool index) where
    by : (name : Option Name) → OpFits P s at point route memory stack (naming name (λ one. new_arrays one dimensions))
    by None = none_meant here
    by (Some name) =
        stuck_on_each here (new_arrays name dimensions) (asking_row here dimensions (plain_value ∷ []) [] refl refl refl)
        (λ place low. arrays_stuck P memory name dimensions place) (λ throwing_so. throws_each here dimensions (plain_value ∷ []) [] refl)

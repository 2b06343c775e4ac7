-- Turns of the first run alone that begin classes with nothing to run: an operation begins its class, and a beginning that stands on top
-- of the first alone goes on with a class that comes first, or is over.
use Rattle.std.proofs.Common.{◌≡◌, ◌≢◌, ◌==◌, ◌<◌, ◌&&◌, nat_le, ℕ, zero, suc, Bool, true, false, List, [], ◌∷◌, is_some, length, slice_get, Option, Some, None, IsFalse, refl, sym, ap, ◌∙◌, arith}
use Rattle.std.specs.List.{list_any}
use Rattle.std.proofs.lemmas.Bool.{eq-eqb, false≢true}
use Rattle.std.proofs.lemmas.Option.{same_Some, slice_get_within}
use Rattle.class_model.specs.Descriptors.{parameters_of}
use Rattle.class_model.specs.Members.{STATIC}
use Rattle.class_model.specs.declared.class_file.MethodAt.{MethodAt}
use Rattle.machine_values.specs.Frames.{MethodState}
use Rattle.machine_values.specs.Values.{have_kinds}
use Rattle.machine_values.specs.declared.value.Value.{Value}
use Rattle.machine_values.specs.declared.frame.RunFrame.{RunFrame}
use Rattle.machine_values.specs.declared.frame.RunFrame.TheVariants.{Beginning, Method}
use Rattle.member_link.specs.Machine.Beginnings.{begun_memory, begun_on, come_first, first_unbegun}
use Rattle.member_link.specs.Machine.CallSteps.{as_asked, call_static_work, run_call}
use Rattle.member_link.specs.Machine.Completions.{Completion, begins, ends}
use Rattle.member_link.specs.Machine.FieldSteps.{begun_first}
use Rattle.member_link.specs.Machine.Performing.{perform}
use Rattle.member_link.specs.Machine.Programs.{Point, Program, RunClass, code_at, folder_number, has_flag, method_of, name_of_class, place_of_method, point_at}
use Rattle.member_link.specs.Machine.Runs.{Run, turn}
use Rattle.member_link.specs.Machine.Work.{arity, work}
use Rattle.member_link.specs.Machine.Worlds.{Memory, going, is_begun, stuck}
use Rattle.member_link.specs.References.{Reference}
use Rattle.same_runs.specs.Renamings.{Names}
use Rattle.same_runs.specs.SameMemories.{Apart, IsInert, SameMemories}
use Rattle.same_runs.specs.Laws.BegunAlone.{first_begins}
use Rattle.same_runs.specs.Laws.BegunClasses.{folder_class}
use Rattle.same_runs.specs.Laws.BothBegin.{counted, turned_next, turned_past}
use Rattle.same_runs.specs.Laws.CaughtUp.{less, operands_of, turned_by_work}
use Rattle.same_runs.specs.Laws.FirstBeginnings.{comes_first_inert, first_has_begun, first_is_over}
use Rattle.same_runs.specs.Laws.Operations.{WorksOnOperands, step_works}
use Rattle.same_runs.specs.Laws.QuietBeginnings.{BeginAlike, IsUnbegun, begins_itself, begins_more, one_fewer, unbegun, unbegun_is}

-- What the turn leads to: the memory of the second stands still.
pub data AloneTurn (P : Program) (Allocated Entered : ℕ → ℕ → Type 0) (apart : Apart) (names : Names) (now : List ℕ) (class : ℕ) (rest : List RunFrame)
    (one : Run) (other : Memory)
    : Type 0 where
  begins_deeper : (first : ℕ) (found : RunClass)
      → slice_get P.classes first ≡ Some found
      → IsInert P first
      → IsFalse (is_begun one.world.memory first)
      → turn P one ≡ record one { world = begun_on P first (counted one) (Beginning class ∷ rest) }
      → SameMemories P Allocated Entered apart names (first ∷ class ∷ now) (begun_memory P first one.world.memory) other
      → AloneTurn P Allocated Entered apart names now class rest one other
  is_over :
      turn P one ≡ record one { world = record (counted one) { frames = rest } }
      → SameMemories P Allocated Entered apart names now one.world.memory other
      → AloneTurn P Allocated Entered apart names now class rest one other

-- a turn of a beginning of the first alone, of a class of the folder with nothing to run
pub beginning_alone :
    {P Q : Program} {Allocated Entered : ℕ → ℕ → Type 0} {apart : Apart} {names : Names} {now : List ℕ} {one : Run} {other : Memory} (class : ℕ)
    (rest : List RunFrame) (found : RunClass)
    → BeginAlike P Q
    → one.world.halt ≡ going
    → one.world.frames ≡ Beginning class ∷ rest
    → slice_get P.classes class ≡ Some found
    → IsInert P class
    → SameMemories P Allocated Entered apart names (class ∷ now) one.world.memory other
    → AloneTurn P Allocated Entered apart names now class rest one other
beginning_alone {P = P} {Allocated = Allocated} {Entered = Entered} {apart = apart} {names = names} {now = now} {one = one} {other = other} class rest found
    alike goes stands is inert memories = by (first_unbegun P one.world.memory (come_first P found.header)) refl where
      by : (next : Option ℕ) → first_unbegun P one.world.memory (come_first P found.header) ≡ next
          → AloneTurn P Allocated Entered apart names now class rest one other
      by None none =
          is_over (turned_past P one class rest found None goes stands is none (inert class (alike.itself (name_of_class P class))))
          (first_is_over class (first_has_begun P one.world.memory class found is none) memories)
      by (Some first) next =
          begins_deeper first there.0 there.1 inert_first left.none (turned_next P one class rest found (Some first) goes stands is next)
          (first_begins first left.none inert_first memories) where
            left : IsUnbegun P one.world.memory (come_first P found.header) first
            left = unbegun_is P one.world.memory (come_first P found.header) first next

            there : (class_found : RunClass) × (slice_get P.classes first ≡ Some class_found)
            there = folder_class P left.name first left.is_number

            inert_first : IsInert P first
            inert_first = comes_first_inert class first found one.world.memory alike inert is next

-- ---- an operation that begins its class

-- an operation of the first alone, whose class has nothing to run
pub operation_begins_alone :
    {P : Program} {Allocated Entered : ℕ → ℕ → Type 0} {apart : Apart} {names : Names} {now : List ℕ} {other : Memory} {rest : List RunFrame}
    (one : Run) (f : MethodState) (point : Point) (class : ℕ)
    → one.world.halt ≡ going
    → one.world.frames ≡ Method f ∷ rest
    → point_at P f.at f.place ≡ Some point
    → WorksOnOperands point.op
    → nat_le (arity point.op) (length f.stack) ≡ true
    → work P one.world.memory point.op (operands_of (arity point.op) f) ≡ begins class
    → IsFalse (is_begun one.world.memory class)
    → IsInert P class
    → SameMemories P Allocated Entered apart names now one.world.memory other
    → (turn P one ≡ record one { world = begun_on P class (counted one) (Method f ∷ rest) })
    × SameMemories P Allocated Entered apart names (class ∷ now) (begun_memory P class one.world.memory) other
operation_begins_alone {P = P} {rest = rest} one f point class goes stands is works enough begins_it none inert memories = (
  turned_by_work P one f rest point goes stands is (step_works P f rest point.op works) enough
      ∙ ap (λ (completion : Completion). record one { world = perform P (counted one) f (less (arity point.op) f) rest completion })
      begins_it,
  first_begins class none inert memories,
)

-- the class that a completion begins
abbrev class_begun : Completion → Option ℕ
class_begun (begins class) = Some class
class_begun completion = None

-- a call that runs its method begins nothing
runs_it : (P : Program) (method : Reference) (values : List Value) → class_begun (run_call P method values) ≡ None
runs_it P method values = by (place_of_method P method) refl where
  by : (place : Option MethodAt) → place_of_method P method ≡ place → class_begun (run_call P method values) ≡ None
  by None is = rw (is) refl
  by (Some at) is = coded (is_some (code_at P at)) refl where
    coded : (b : Bool) → is_some (code_at P at) ≡ b → class_begun (run_call P method values) ≡ None
    coded true e = rw (is, e) refl
    coded false e = rw (is, e) refl

-- Where a static call begins a class first, that is the class of the method that is found, and it was not begun.
pub record StaticCallBegins (P : Program) (memory : Memory) (found : Option Reference) (class : ℕ) : Type 0 where
  pub method : Reference
  pub is : found ≡ Some method
  pub is_class : folder_number P method.class ≡ Some class
  pub none : IsFalse (is_begun memory class)

pub static_call_begins : (P : Program) (memory : Memory) (named : Reference) (found : Option Reference) (values : List Value) (class : ℕ)
    → call_static_work P memory named found values ≡ begins class
    → StaticCallBegins P memory found class
static_call_begins P memory named None values class is = absurd (cc is)
static_call_begins P memory named (Some method) values class is =
    by (has_flag (method_of P method) STATIC && have_kinds (parameters_of named.desc) values) refl where
      runs : Completion
      runs = run_call P (as_asked P named method) values

      not_run : runs ≡ begins class → StaticCallBegins P memory (Some method) class
      not_run run = absurd (cc (sym (runs_it P (as_asked P named method) values) ∙ ap class_begun run))

      first : (folder : Option ℕ) → folder_number P method.class ≡ folder → begun_first P memory method.class runs ≡ begins class
          → StaticCallBegins P memory (Some method) class
      first None e begun = not_run (sym (rw (e) refl) ∙ begun)
      first (Some number) e begun = at_number (is_begun memory number) refl where
        at_number : (b : Bool) → is_begun memory number ≡ b → StaticCallBegins P memory (Some method) class
        at_number true here = not_run (sym (rw (e, here) refl) ∙ begun)
        at_number false here =
            let begun_one : begins number ≡ begins class = sym (rw (e, here) refl) ∙ begun in
            let same_one : number ≡ class = same_Some number class (ap class_begun begun_one) in
            record {
              method = method;
              is = refl;
              is_class = e ∙ ap Some same_one;
              none = ap (is_begun memory) (sym same_one) ∙ here;
            }

      by : (b : Bool) → (has_flag (method_of P method) STATIC && have_kinds (parameters_of named.desc) values) ≡ b
          → StaticCallBegins P memory (Some method) class
      by false e =
          let stuck_one : ends stuck ≡ begins class = sym (rw (e) refl) ∙ is in
          absurd (cc stuck_one)
      by true e = first (folder_number P method.class) refl (sym (rw (e) refl) ∙ is)

-- ---- fewer are left

-- the numbers below one
abbrev pub numbers_below : ℕ → List ℕ
numbers_below zero = []
numbers_below (suc count) = count ∷ numbers_below count

is_below : (class count : ℕ) → class < count → list_any (λ (other : ℕ). other == class) (numbers_below count) ≡ true
is_below class zero low = absurd (omega (arith, low))
is_below class (suc count) low = by (count == class) refl (is_below class count) where
  by : (b : Bool) → (count == class) ≡ b
      → (class < count → list_any (λ (other : ℕ). other == class) (numbers_below count) ≡ true)
      → list_any (λ (other : ℕ). other == class) (numbers_below (suc count)) ≡ true
  by true e rest = rw (e) refl
  by false e rest = rw (e) (rest (omega (arith, low, differ))) where
    differ : count ≢ class
    differ same = false≢true (sym e ∙ eq-eqb count class same)

-- how many classes of the folder are not begun
abbrev pub unbegun_in : Program → Memory → ℕ
unbegun_in P memory = unbegun (numbers_below (length P.classes)) memory

-- one less where a class of the folder begins
pub begins_fewer : (P R : Program) (class : ℕ) (found : RunClass) (memory : Memory)
    → slice_get P.classes class ≡ Some found
    → IsFalse (is_begun memory class)
    → unbegun_in P (begun_memory R class memory) < unbegun_in P memory
begins_fewer P R class found memory is none =
    one_fewer (numbers_below (length P.classes)) memory (begun_memory R class memory) class (begins_more R class memory)
    (is_below class (length P.classes) (slice_get_within P.classes class found is)) none (begins_itself R class memory)

-- What the same operation comes to in two runs, with the same operands and memories.
use Rattle.std.specs.Prelude.{◌≡◌, ℕ, List, [], Option, Some, IsTrue, IsFalse}
use Rattle.class_model.specs.declared.class_file.MethodAt.{MethodAt}
use Rattle.class_tree.specs.Headers.{Name}
use Rattle.machine_values.specs.declared.value.Value.{Value}
use Rattle.member_link.specs.Machine.Completions.{Asked, Completion, asks, asks_call, asks_dynamic, asks_float, asks_get, asks_put, begins, calls, ends, gives, raises, throws}
use Rattle.member_link.specs.Machine.Programs.{Program}
use Rattle.member_link.specs.Machine.Worlds.{Halt, Memory, is_begun}
use Rattle.member_link.specs.References.{Reference}
use Rattle.same_runs.specs.Renamings.{Names, NamesMore, SameUnit, SameValue, SameValues}
use Rattle.same_runs.specs.SameMemories.{Apart, SameMemories}

-- the library is asked the same, of the same values
pub data SameAsked (names : Names) : Asked → Asked → Type 0 where
  same_call : {method : Reference} {ones others : List Value}
      → SameValues names ones others
      → SameAsked names (asks_call method ones) (asks_call method others)
  same_dynamic : {class : Name} {bootstrap : ℕ} {name desc : List ℕ} {ones others : List Value}
      → SameValues names ones others
      → SameAsked names (asks_dynamic class bootstrap name desc ones)
      (asks_dynamic class bootstrap name desc others)
  same_get : {field : Reference} {one other : Option Value}
      → SameUnit names one other
      → SameAsked names (asks_get field one) (asks_get field other)
  same_put : {field : Reference} {one other : Option Value} {value also : Value}
      → SameUnit names one other
      → SameValue names value also
      → SameAsked names (asks_put field one value) (asks_put field other also)
  same_compute : {opcode : ℕ} {ones others : List Value}
      → SameValues names ones others
      → SameAsked names (asks_float opcode ones) (asks_float opcode others)

-- Both come to the same, under names that are perhaps more; or the second has to begin a class first that the first has begun.
pub data SameCompletions (P : Program) (Allocated Entered : ℕ → ℕ → Type 0) (apart : Apart) (names : Names)
    (one other : Memory)
    : Completion → Completion → Type 0 where
  both_give : {memory also : Memory} {ones others : List Value} (more : Names)
      → NamesMore names more
      → SameMemories P Allocated Entered apart more [] memory also
      → SameValues more ones others
      → SameCompletions P Allocated Entered apart names one other (gives memory ones) (gives also others)
  both_raise : {class : Name}
      → SameCompletions P Allocated Entered apart names one other (raises class) (raises class)
  both_throw : {reference named : ℕ}
      → names reference ≡ Some named
      → SameCompletions P Allocated Entered apart names one other (throws reference) (throws named)
  both_begin : {class : ℕ}
      → IsFalse (is_begun one class)
      → SameCompletions P Allocated Entered apart names one other (begins class) (begins class)
  both_call : {at : MethodAt} {ones others : List Value}
      → SameValues names ones others
      → SameCompletions P Allocated Entered apart names one other (calls at ones) (calls at others)
  both_ask : {asked also : Asked}
      → SameAsked names asked also
      → SameCompletions P Allocated Entered apart names one other (asks asked) (asks also)
  both_end : {halt : Halt}
      → SameCompletions P Allocated Entered apart names one other (ends halt) (ends halt)
  begins_alone : {completion : Completion} {class : ℕ}
      → IsTrue (is_begun one class)
      → IsFalse (is_begun other class)
      → SameCompletions P Allocated Entered apart names one other completion (begins class)

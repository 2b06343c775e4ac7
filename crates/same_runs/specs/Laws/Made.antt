-- An object that is made in both runs.
use Rattle.std.proofs.Common.{◌≡◌, List, length, Some, refl}
use Rattle.machine_values.specs.Heaps.{Heap, Made, allocated}
use Rattle.machine_values.specs.declared.object.Shape.{Shape}
use Rattle.machine_values.specs.declared.value.Value.{Value}
use Rattle.same_runs.specs.Renamings.{Names, NamesMore, SameValues}
use Rattle.same_runs.specs.SameMemories.{Apart, SameHeaps}
use Rattle.same_runs.specs.Laws.Heaps.{both_allocate, new_unnamed}
use Rattle.same_runs.specs.Laws.Names.{named_here, named_too, named_too_more, values_more}

-- a new object of both, under names that are perhaps more, where no constant was made
pub record SameMade (apart : Apart) (names : Names) (one other : Heap) (made also : Made) : Type 0 where
  pub more : Names
  pub grows : NamesMore names more
  pub heaps : SameHeaps apart more made.heap also.heap
  pub is : more made.reference ≡ Some also.reference
  pub constants : made.heap.constants ≡ one.constants

pub made_both : {apart : Apart} {names : Names} {one other : Heap} → SameHeaps apart names one other → (shape : Shape) (ones others : List Value)
    → SameValues names ones others
    → SameMade apart names one other (allocated one shape ones) (allocated other shape others)
made_both {names = names} {one = one} {other = other} same shape ones others are =
    let grows = named_too_more names (length one.objects) (length other.objects) (new_unnamed same) in
    record {
      more = named_too names (length one.objects) (length other.objects);
      grows = grows;
      heaps = both_allocate same shape ones others (values_more grows are);
      is = named_here names (length one.objects) (length other.objects);
      constants = refl;
    }

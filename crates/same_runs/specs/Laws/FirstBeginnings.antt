-- Beginnings of the first run alone: what comes first begins alone as well, and where nothing is left that comes first, all of it is begun.
use Rattle.std.proofs.Common.{◌≡◌, ◌==◌, ℕ, zero, suc, Bool, true, false, List, [], ◌∷◌, bytes_eq, slice_get, Option, Some, None, option_map, IsTrue, if◌then◌else◌, refl, sym, ap, subst, ◌∙◌}
use Rattle.std.proofs.lemmas.Bool.{false≢true, eq-eqb, eqb-true}
use Rattle.std.proofs.lemmas.Option.{none-some, same_Some}
use Rattle.std.proofs.lemmas.Slice.Eq.{bytes_eq-Decides}
use Rattle.class_tree.specs.Headers.{Name}
use Rattle.member_link.specs.Machine.Beginnings.{come_first, first_unbegun}
use Rattle.member_link.specs.Machine.Programs.{Program, RunClass, folder_number, name_of_class, number_of_first}
use Rattle.member_link.specs.Machine.Worlds.{Memory, is_begun}
use Rattle.same_runs.specs.Renamings.{Names}
use Rattle.same_runs.specs.SameMemories.{Apart, HasFirstBegun, IsBegunAlone, IsInert, SameMemories}
use Rattle.same_runs.specs.Laws.QuietBeginnings.{BeginAlike, IsUnbegun, unbegun_is}

-- ---- none is left

module _ (P : Program) (memory : Memory) where
  -- where none of some classes is left to begin, each of them is begun
  pub none_left : (names : List Name) → first_unbegun P memory names ≡ None
      → (number : ℕ) (name : Name) (class : ℕ)
      → slice_get names number ≡ Some name
      → folder_number P name ≡ Some class
      → IsTrue (is_begun memory class)
  none_left [] none number name class is_name is_number = absurd (none-some name is_name)
  none_left (one ∷ names) none zero name class is_name is_number = begun (is_begun memory class) refl where
    same_one : folder_number P one ≡ Some class
    same_one = ap (folder_number P) (same_Some one name is_name) ∙ is_number

    begun : (b : Bool) → is_begun memory class ≡ b → is_begun memory class ≡ true
    begun true e = e
    begun false e = absurd (none-some class (sym none ∙ rw (same_one, e) refl))
  none_left (one ∷ names) none (suc number) name class is_name is_number =
      rest (folder_number P one) refl none (λ left. none_left names left number name class is_name is_number) where
        rest : (folder : Option ℕ) → folder_number P one ≡ folder
            → first_unbegun P memory (one ∷ names) ≡ None
            → (first_unbegun P memory names ≡ None → IsTrue (is_begun memory class))
            → IsTrue (is_begun memory class)
        rest None e left again = again (sym (rw (e) refl) ∙ left)
        rest (Some first) e left again = at_first (is_begun memory first) refl where
          at_first : (b : Bool) → is_begun memory first ≡ b → IsTrue (is_begun memory class)
          at_first true begun = again (sym (rw (e, begun) refl) ∙ left)
          at_first false unbegun = absurd (none-some first (sym left ∙ rw (e, unbegun) refl))

  -- none is left that comes first: those that come first are begun
  pub first_has_begun : (class : ℕ) (found : RunClass)
      → slice_get P.classes class ≡ Some found
      → first_unbegun P memory (come_first P found.header) ≡ None
      → HasFirstBegun P memory class
  first_has_begun class found is none also name number first is_also is_name is_number =
      none_left (come_first P found.header) none number name first here is_number where
        here : slice_get (come_first P found.header) number ≡ Some name
        here =
            ap (λ (class : RunClass). slice_get (come_first P class.header) number) (same_Some found also (sym is ∙ is_also)) ∙ is_name

-- ---- a beginning is over

-- A beginning of the first alone that is over: its class is none of those that are begun just now.
pub first_is_over : {P : Program} {Allocated Entered : ℕ → ℕ → Type 0} {apart : Apart} {names : Names} {now : List ℕ} {one other : Memory} (class : ℕ)
    → HasFirstBegun P one class
    → SameMemories P Allocated Entered apart names (class ∷ now) one other
    → SameMemories P Allocated Entered apart names now one other
first_is_over {P = P} {now = now} {one = one} class first memories = record {
  heaps = memories.heaps;
  statics = record {
    begun = memories.statics.begun;
    values = memories.statics.values;
    alone = λ at is none.
        let was = memories.statics.alone at is none in
        record { inert = was.inert; as_begun = was.as_begun; first = λ outside. by at was outside (class == at) refl };
    unwritten = memories.statics.unwritten;
    unwritten_also = memories.statics.unwritten_also;
  };
  allocations = memories.allocations;
  entries = memories.entries;
} where
  by : (at : ℕ) → IsBegunAlone P (class ∷ now) one at → ((number : ℕ) → slice_get now number ≡ Some at → ⊥)
      → (b : Bool) → (class == at) ≡ b
      → HasFirstBegun P one at
  by at was outside true e = subst (HasFirstBegun P one) (eqb-true class at e) first
  by at was outside false e = was.first not_now where
    not_now : (number : ℕ) → slice_get (class ∷ now) number ≡ Some at → ⊥
    not_now zero is = false≢true (sym e ∙ eq-eqb class at (same_Some class at is))
    not_now (suc number) is = outside number is

-- ---- what comes first

number_passes : (passes : RunClass → Bool) (xs : List RunClass) (number : ℕ) → number_of_first passes xs ≡ Some number
    → (x : RunClass) × (slice_get xs number ≡ Some x) × (passes x ≡ true)
number_passes passes [] number is = absurd (none-some number is)
number_passes passes (x ∷ xs) number is = by (passes x) (number_of_first passes xs) refl refl is (number_passes passes xs) where
  by : (b : Bool) (found : Option ℕ) → passes x ≡ b → number_of_first passes xs ≡ found
      → (if b then Some zero else option_map suc found) ≡ Some number
      → ((later : ℕ) → number_of_first passes xs ≡ Some later → (y : RunClass) × (slice_get xs later ≡ Some y) × (passes y ≡ true))
      → (y : RunClass) × (slice_get (x ∷ xs) number ≡ Some y) × (passes y ≡ true)
  by true found here e at rest = (x, ap (slice_get (x ∷ xs)) (sym (same_Some zero number at)), here)
  by false None here e at rest = absurd (none-some number at)
  by false (Some later) here e at rest =
      let one = rest later e in
      (one.0, ap (slice_get (x ∷ xs)) (sym (same_Some (suc later) number at)) ∙ one.1, one.2)

-- the class of a name has that name
pub folder_name : (P : Program) (name : Name) (number : ℕ) → folder_number P name ≡ Some number → name_of_class P number ≡ name
folder_name P name number is = rw (found.1) (sym ((bytes_eq-Decides name found.0.header.name).0 found.2)) where
  found : (x : RunClass) × (slice_get P.classes number ≡ Some x) × (bytes_eq name x.header.name ≡ true)
  found = number_passes (λ (class : RunClass). bytes_eq name class.header.name) P.classes number is

-- where nothing runs as a class begins, nothing runs as those begin that come first
pub comes_first_inert : {P Q : Program} (class first : ℕ) (found : RunClass) (memory : Memory)
    → BeginAlike P Q
    → IsInert P class
    → slice_get P.classes class ≡ Some found
    → first_unbegun P memory (come_first P found.header) ≡ Some first
    → IsInert P first
comes_first_inert {P = P} class first found memory alike inert is next above is_above = inert above
    (subst (λ (name : Name). IsTrue (P.links.below name (name_of_class P above))) (sym own)
    (alike.above class left.number found left.name (name_of_class P above) is left.is_name
    (subst (λ (name : Name). IsTrue (P.links.below name (name_of_class P above))) (folder_name P left.name first left.is_number)
    is_above))) where
      left : IsUnbegun P memory (come_first P found.header) first
      left = unbegun_is P memory (come_first P found.header) first next

      own : name_of_class P class ≡ found.header.name
      own = rw (is) refl

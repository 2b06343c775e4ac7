-- Beginnings of the second run alone: where the first has begun the class before and nothing runs, they go by without being seen.
use Rattle.std.proofs.Common.{◌≡◌, ◌≢◌, ◌==◌, ◌+◌, ◌<◌, ◌≤◌, ℕ, zero, suc, Bool, true, false, List, [], ◌∷◌, codes, length, nat_le, reverse, slice_get, take, bytes_eq, is_some, Option, Some, None, option_and_then, if◌then◌else◌, IsTrue, IsFalse, refl, sym, ap, subst, ◌∙◌, arith}
use Rattle.std.specs.List.{list_any}
use Rattle.std.proofs.lemmas.Bool.{eqb-true, false≢true}
use Rattle.std.proofs.lemmas.Option.{none-some, same_Some}
use Rattle.std.proofs.lemmas.Slice.Eq.{bytes_eq-Decides}
use Rattle.class_model.specs.Names.{clinit, init}
use Rattle.class_model.specs.declared.class_file.MethodAt.{MethodAt}
use Rattle.class_tree.specs.Headers.{Headers, Name}
use Rattle.class_tree.specs.Hierarchy.{IsHierarchy}
use Rattle.class_tree.specs.Subtype.{itself}
use Rattle.machine_values.specs.declared.event.End.TheVariants as ends
use Rattle.machine_values.specs.declared.frame.RunFrame.{RunFrame}
use Rattle.machine_values.specs.declared.frame.RunFrame.TheVariants.{Beginning, Method}
use Rattle.machine_values.specs.Frames.{MethodState}
use Rattle.member_link.specs.Machine.Completions.{begins}
use Rattle.machine_values.specs.declared.value.Value.{Value}
use Rattle.member_link.specs.Machine.Beginnings.{begun_memory, begun_on, come_first, first_unbegun, initialiser_of, starts_of}
use Rattle.member_link.specs.Machine.Links.{AreLinksOf}
use Rattle.member_link.specs.Machine.Programs.{Program, RunClass, code_at, folder_number, headers_in, name_of_class, place_of_method, Point, point_at}
use Rattle.member_link.specs.Machine.Runs.{Run, shown, turn, turn_by}
use Rattle.member_link.specs.Machine.Stepping.{is_library_turn, op_step, point_step, work_step}
use Rattle.member_link.specs.Machine.Work.{arity, work}
use Rattle.member_link.specs.Machine.Worlds.{Memory, World, going, is_begun}
use Rattle.member_link.specs.References.{Reference}
use Rattle.same_runs.specs.Renamings.{Names, NamesMore}
use Rattle.same_runs.specs.SameMemories.{Apart, BeginsQuietly, SameMemories}
use Rattle.same_runs.specs.SamePrograms.{SamePrograms}
use Rattle.same_runs.specs.SameWorlds.{Compares, Comparison, SameSeen}
use Rattle.same_runs.specs.Simulations.{Quietly, at_once, turn_first}
use Rattle.same_runs.specs.Laws.Begun.{marked, marked_itself, marked_still}
use Rattle.same_runs.specs.Laws.BegunAlone.{second_has_begun, starts_begun}
use Rattle.same_runs.specs.Laws.BegunClasses.{begun_is_there, folder_class}
use Rattle.same_runs.specs.Laws.ComeFirst.{same_come_first}
use Rattle.same_runs.specs.Laws.FirstAbove.{above_first}
use Rattle.same_runs.specs.Laws.Methods.{place_is, same_code, same_no_place, same_place}
use Rattle.same_runs.specs.Laws.Names.{more_and_more, names_themselves, references_more}
use Rattle.same_runs.specs.Laws.Programs.{SameAt, at_none, at_both, at_number, same_name, same_number}

-- ---- what is taken of both programs

-- Each class is below itself and below what is above the classes that come first, and the same classes come first in both programs: that of
-- a hierarchy, in which each superinterface is an interface.
pub record BeginAlike (P Q : Program) : Type 0 where
  pub itself : (name : Name) → IsTrue (P.links.below name name)
  pub first : (class : ℕ) (one also : RunClass)
      → slice_get P.classes class ≡ Some one
      → slice_get Q.classes class ≡ Some also
      → come_first Q also.header ≡ come_first P one.header
  pub above : (class number : ℕ) (one : RunClass) (name high : Name)
      → slice_get P.classes class ≡ Some one
      → slice_get (come_first P one.header) number ≡ Some name
      → IsTrue (P.links.below name high)
      → IsTrue (P.links.below one.header.name high)

-- a class is below itself where links are those of a hierarchy
pub below_itself : {headers : Headers} (P : Program) → AreLinksOf headers P.links → (name : Name) → IsTrue (P.links.below name name)
below_itself P links name = (links.below name name).1 (itself name)

-- what begins alike where the first is a hierarchy with its links
pub hierarchies_begin_alike : (P Q : Program) → SamePrograms P Q → IsHierarchy (headers_in P) → AreLinksOf (headers_in P) P.links
    → BeginAlike P Q
hierarchies_begin_alike P Q same tree links = record {
  itself = below_itself P links;
  first = same_come_first same tree;
  above = above_first P tree links;
}

-- a class that the first has begun alone begins quietly
pub alone_quietly :
    {P : Program} {Allocated Entered : ℕ → ℕ → Type 0} {apart : Apart} {names : Names} {one other : Memory} (class : ℕ) (found : RunClass)
    → slice_get P.classes class ≡ Some found
    → IsTrue (is_begun one class)
    → IsFalse (is_begun other class)
    → SameMemories P Allocated Entered apart names [] one other
    → BeginsQuietly P one class
alone_quietly class found is begun none memories =
    let alone = memories.statics.alone class begun none in
    record { found = found; is = is; inert = alone.inert; first = alone.first (λ number here. none-some class here) }

-- ---- class initialisers

clinit_no_init : clinit ≢ init
clinit_no_init same = false≢true (sym differ ∙ (bytes_eq-Decides clinit init).1 same) where
  differ : bytes_eq clinit init ≡ false
  differ = refl

module _ {P Q : Program} (same : SamePrograms P Q) where
  -- a class without an initialiser in the first has none in the second
  pub no_initialiser : (class : ℕ) → initialiser_of P class ≡ None → initialiser_of Q class ≡ None
  no_initialiser class none = ap of_name (same_name same class) ∙ by (place_of_method P (at_name (name_of_class P class))) refl where
    at_name : Name → Reference
    at_name name = record { class = name; name = clinit; desc = codes "()V" }

    if_code : MethodAt → Option MethodAt
    if_code at = if is_some (code_at Q at) then Some at else None

    of_name : Name → Option MethodAt
    of_name name = option_and_then if_code (place_of_method Q (at_name name))

    no_code : (at : MethodAt) → place_of_method P (at_name (name_of_class P class)) ≡ Some at → is_some (code_at P at) ≡ false
    no_code at is = of (is_some (code_at P at)) refl where
      of : (b : Bool) → is_some (code_at P at) ≡ b → is_some (code_at P at) ≡ false
      of false e = e
      of true e = let some : initialiser_of P class ≡ Some at = rw (is, e) refl in absurd (none-some at (sym none ∙ some))

    by : (place : Option MethodAt) → place_of_method P (at_name (name_of_class P class)) ≡ place → of_name (name_of_class P class) ≡ None
    by None is = rw (same_no_place same (at_name (name_of_class P class)) clinit_no_init is) refl
    by (Some at) is =
        let method = place_is P (at_name (name_of_class P class)) at is in
        rw (same_place same (at_name (name_of_class P class)) at is, same_code same at method.0 method.1, no_code at is) refl

-- ---- classes that are still to begin

abbrev pub unbegun : List ℕ → Memory → ℕ
unbegun [] memory = 0
unbegun (class ∷ classes) memory = (if is_begun memory class then 0 else 1) + unbegun classes memory

-- no more of them are left where more are begun
pub fewer : (classes : List ℕ) (before after : Memory) → ((at : ℕ) → IsTrue (is_begun before at) → IsTrue (is_begun after at))
    → unbegun classes after ≤ unbegun classes before
fewer [] before after more = let none : 0 ≤ 0 = omega arith in none
fewer (class ∷ classes) before after more = by (is_begun before class) (is_begun after class) refl refl
    (fewer classes before after more) where
      by : (b a : Bool) → is_begun before class ≡ b → is_begun after class ≡ a → unbegun classes after ≤ unbegun classes before
          → ((if a then 0 else 1) + unbegun classes after) ≤ ((if b then 0 else 1) + unbegun classes before)
      by true true is is_also rest = omega (arith, rest)
      by true false is is_also rest = absurd (false≢true (sym is_also ∙ more class is))
      by false true is is_also rest = omega (arith, rest)
      by false false is is_also rest = omega (arith, rest)

-- and fewer where one of them was begun
pub one_fewer : (classes : List ℕ) (before after : Memory) (class : ℕ)
    → ((at : ℕ) → IsTrue (is_begun before at) → IsTrue (is_begun after at))
    → list_any (λ (other : ℕ). other == class) classes ≡ true → IsFalse (is_begun before class) → IsTrue (is_begun after class)
    → unbegun classes after < unbegun classes before
one_fewer [] before after class more is none begun = absurd (false≢true is)
one_fewer (first ∷ classes) before after class more is none begun = here (first == class) refl
    (λ there. one_fewer classes before after class more there none begun) where
      here : (b : Bool) → (first == class) ≡ b → (list_any (λ (other : ℕ). other == class) classes ≡ true
          → unbegun classes after < unbegun classes before)
          → unbegun (first ∷ classes) after < unbegun (first ∷ classes) before
      here true e rest =
          let same_one = eqb-true first class e in
          let others = fewer classes before after more in
          let before_one : is_begun before first ≡ false = ap (is_begun before) same_one ∙ none in
          let after_one : is_begun after first ≡ true = ap (is_begun after) same_one ∙ begun in
          rw (before_one, after_one) (omega (arith, others))
      here false e rest = there (is_begun before first) (is_begun after first) refl refl (rest (sym (rw (e) refl) ∙ is)) where
        there : (b a : Bool) → is_begun before first ≡ b → is_begun after first ≡ a → unbegun classes after < unbegun classes before
            → unbegun (first ∷ classes) after < unbegun (first ∷ classes) before
        there true true here here_also later = rw (here, here_also) (omega (arith, later))
        there true false here here_also later = absurd (false≢true (sym here_also ∙ more first here))
        there false true here here_also later = rw (here, here_also) (omega (arith, later))
        there false false here here_also later = rw (here, here_also) (omega (arith, later))

-- a class that begins is begun, and so are those before it
pub begins_more : (R : Program) (class : ℕ) (memory : Memory) (at : ℕ) → IsTrue (is_begun memory at)
    → IsTrue (is_begun (begun_memory R class memory) at)
begins_more R class memory at is = starts_begun R class at (marked memory class) (starts_of R class) ∙ marked_still memory class at is

pub begins_itself : (R : Program) (class : ℕ) (memory : Memory) → IsTrue (is_begun (begun_memory R class memory) class)
begins_itself R class memory = starts_begun R class class (marked memory class) (starts_of R class) ∙ marked_itself memory class

-- the first class that is not begun is one of the names, by its number
pub record IsUnbegun (R : Program) (memory : Memory) (names : List Name) (class : ℕ) : Type 0 where
  pub number : ℕ
  pub name : Name
  pub is_name : slice_get names number ≡ Some name
  pub is_number : folder_number R name ≡ Some class
  pub none : IsFalse (is_begun memory class)

pub unbegun_is : (R : Program) (memory : Memory) (names : List Name) (class : ℕ) → first_unbegun R memory names ≡ Some class
    → IsUnbegun R memory names class
unbegun_is R memory [] class is = absurd (none-some class is)
unbegun_is R memory (name ∷ names) class is = by (folder_number R name) refl (unbegun_is R memory names class) where
  behind : IsUnbegun R memory names class → IsUnbegun R memory (name ∷ names) class
  behind later = record {
    number = suc later.number;
    name = later.name;
    is_name = later.is_name;
    is_number = later.is_number;
    none =
        later.none;
  }

  by : (found : Option ℕ) → folder_number R name ≡ found → (first_unbegun R memory names ≡ Some class → IsUnbegun R memory names class)
      → IsUnbegun R memory (name ∷ names) class
  by None here rest = behind (rest (sym (rw (here) refl) ∙ is))
  by (Some first) here rest = at_first (is_begun memory first) refl where
    at_first : (b : Bool) → is_begun memory first ≡ b → IsUnbegun R memory (name ∷ names) class
    at_first true begun = behind (rest (sym (rw (here, begun) refl) ∙ is))
    at_first false unbegun_one =
        let same_one : first ≡ class = same_Some first class (sym (rw (here, unbegun_one) refl) ∙ is) in
        record {
          number = 0;
          name = name;
          is_name = refl;
          is_number = here ∙ ap Some same_one;
          none = ap (is_begun memory) (sym same_one) ∙ unbegun_one;
        }

-- ---- turns

-- a run with these frames, this memory and so many steps
abbrev pub standing : Run → List RunFrame → Memory → ℕ → Run
standing r frames memory steps =
    record r { world = record r.world { frames = frames; memory = memory; steps = steps } }

pub quietly_then : {R : Program} {r middle later : Run} → Quietly R r middle → Quietly R middle later → Quietly R r later
quietly_then at_once more = more
quietly_then (turn_first same rest) more = turn_first same (quietly_then rest more)

-- a run that goes on shows its events alone
pub shows_running : (r : Run) (frames : List RunFrame) (memory : Memory) (steps : ℕ) → r.world.halt ≡ going → is_library_turn frames ≡ false
    → shown (standing r frames memory steps) ≡ record { events = r.world.events; end = ends.Running }
shows_running r frames memory steps goes none = rw (goes, none) refl

turn_begins :
    (R : Program) (r : Run) (class : ℕ) (rest : List RunFrame) (memory : Memory) (steps first : ℕ) (found : RunClass)
    → r.world.halt ≡ going
    → slice_get R.classes class ≡ Some found
    → first_unbegun R memory (come_first R found.header) ≡ Some first
    → turn R (standing r (Beginning class ∷ rest) memory steps)
    ≡ standing r (Beginning first ∷ Beginning class ∷ rest) (begun_memory R first memory) (steps + 1)
turn_begins R r class rest memory steps first found goes is unbegun_one = rw (goes, is, unbegun_one) refl

turn_ends :
    (R : Program) (r : Run) (class : ℕ) (rest : List RunFrame) (memory : Memory) (steps : ℕ) (found : RunClass)
    → r.world.halt ≡ going
    → slice_get R.classes class ≡ Some found
    → first_unbegun R memory (come_first R found.header) ≡ None
    → initialiser_of R class ≡ None
    → turn R (standing r (Beginning class ∷ rest) memory steps) ≡ standing r rest memory (steps + 1)
turn_ends R r class rest memory steps found goes is none no_code = rw (goes, is, none, no_code) refl

-- ---- beginnings that go by

-- From a run with a beginning on top to one without it, by turns that show nothing: more classes are begun, and memories are the same.
pub record GoesBy (P Q : Program) (Allocated Entered : ℕ → ℕ → Type 0) (apart : Apart) (names : Names) (one : Memory) (r from : Run) (rest : List RunFrame)
    (before : Memory)
    : Type 0 where
  pub after : Memory
  pub steps : ℕ
  pub quietly : Quietly Q from (standing r rest after steps)
  pub more : Names
  pub grows : NamesMore names more
  pub memories : SameMemories P Allocated Entered apart more [] one after
  pub begun : (at : ℕ) → IsTrue (is_begun before at) → IsTrue (is_begun after at)

-- a class of the first is one of the second
pub also_there : {P Q : Program} → SamePrograms P Q → (class : ℕ) (found : RunClass) → slice_get P.classes class ≡ Some found
    → (also : RunClass) × (slice_get Q.classes class ≡ Some also)
also_there {P = P} {Q = Q} same class found is = by (slice_get P.classes class) (slice_get Q.classes class) refl refl
    (at_number same class) where
      by : (one other : Option RunClass) → slice_get P.classes class ≡ one → slice_get Q.classes class ≡ other → SameAt P one other
          → (also : RunClass) × (slice_get Q.classes class ≡ Some also)
      by None None here here_also at_none = absurd (none-some found (sym here ∙ is))
      by None (Some other) here here_also impossible = elim impossible [ ]
      by (Some one) None here here_also impossible = elim impossible [ ]
      by (Some one) (Some other) here here_also (at_both alike) = (other, here_also)

module _ {P Q : Program} (Allocated Entered : ℕ → ℕ
    → Type 0) (apart : Apart) (same : SamePrograms P Q) (alike : BeginAlike P Q) (one : Memory) (r : Run) (goes : r.world.halt ≡ going) where
  abbrev AllGoBy : ℕ → Type 0
  AllGoBy left =
      (class : ℕ) (rest : List RunFrame) (memory : Memory) (steps : ℕ) (names : Names)
      → unbegun one.begun memory < left
      → is_library_turn rest ≡ false
      → BeginsQuietly P one class
      → SameMemories P Allocated Entered apart names [] one memory
      → GoesBy P Q Allocated Entered apart names one r (standing r (Beginning class ∷ rest) memory steps) rest memory

  -- nothing comes first: the beginning is over
  goes_at_once :
      (class : ℕ) (rest : List RunFrame) (memory : Memory) (steps : ℕ) (names : Names) (also : RunClass)
      → slice_get Q.classes class ≡ Some also
      → first_unbegun Q memory (come_first Q also.header) ≡ None
      → is_library_turn rest ≡ false
      → BeginsQuietly P one class
      → SameMemories P Allocated Entered apart names [] one memory
      → GoesBy P Q Allocated Entered apart names one r (standing r (Beginning class ∷ rest) memory steps) rest memory
  goes_at_once class rest memory steps names also is none no_turn quiet memories = record {
    after = memory;
    steps = steps + 1;
    quietly = turn_first
        (ap shown ends ∙ shows_running r rest memory (steps + 1) goes no_turn
        ∙ sym (shows_running r (Beginning class ∷ rest) memory steps goes refl))
        (subst (λ (later : Run). Quietly Q later (standing r rest memory (steps + 1))) (sym ends) at_once);
    more = names;
    grows = names_themselves names;
    memories = memories;
    begun = λ at before. before;
  } where
    no_code : initialiser_of Q class ≡ None
    no_code = no_initialiser same class (quiet.inert class (alike.itself (name_of_class P class)))

    ends : turn Q (standing r (Beginning class ∷ rest) memory steps) ≡ standing r rest memory (steps + 1)
    ends = turn_ends Q r class rest memory steps also goes is none no_code

  -- a class that comes first goes by, and then the beginning itself
  goes_behind :
      (left : ℕ) → AllGoBy left
      → (class : ℕ) (rest : List RunFrame) (memory : Memory) (steps : ℕ) (names : Names) (also : RunClass) (first : ℕ)
      → unbegun one.begun memory < suc left
      → slice_get Q.classes class ≡ Some also
      → first_unbegun Q memory (come_first Q also.header) ≡ Some first
      → is_library_turn rest ≡ false
      → BeginsQuietly P one class
      → SameMemories P Allocated Entered apart names [] one memory
      → GoesBy P Q Allocated Entered apart names one r (standing r (Beginning class ∷ rest) memory steps) rest memory
  goes_behind left again class rest memory steps names also first low is unbegun_one no_turn quiet memories = record {
    after = second.after;
    steps = second.steps;
    quietly = turn_first
        (ap shown begins ∙ shows_running r (Beginning first ∷ Beginning class ∷ rest) (begun_memory Q first memory) (steps + 1) goes refl
        ∙ sym (shows_running r (Beginning class ∷ rest) memory steps goes refl))
        (subst (λ (later : Run). Quietly Q later (standing r rest second.after second.steps)) (sym begins)
        (quietly_then before.quietly second.quietly));
    more = second.more;
    grows = more_and_more made.1 (more_and_more before.grows second.grows);
    memories = second.memories;
    begun = λ at was. second.begun at (before.begun at (begins_more Q first memory at was));
  } where
    begins : turn Q (standing r (Beginning class ∷ rest) memory steps)
        ≡ standing r (Beginning first ∷ Beginning class ∷ rest) (begun_memory Q first memory) (steps + 1)
    begins = turn_begins Q r class rest memory steps first also goes is unbegun_one

    found : IsUnbegun Q memory (come_first Q also.header) first
    found = unbegun_is Q memory (come_first Q also.header) first unbegun_one

    in_first : folder_number P found.name ≡ Some first
    in_first = sym (same_number same found.name) ∙ found.is_number

    has_begun : IsTrue (is_begun one first)
    has_begun = quiet.first quiet.found found.name found.number first quiet.is
        (ap (λ (all : List Name). slice_get all found.number) (sym (alike.first class quiet.found also quiet.is is)) ∙ found.is_name)
        in_first

    there : (x : RunClass) × (slice_get P.classes first ≡ Some x)
    there = folder_class P found.name first in_first

    quiet_first : BeginsQuietly P one first
    quiet_first = alone_quietly first there.0 there.1 has_begun found.none memories

    made : (more : Names) × NamesMore names more × SameMemories P Allocated Entered apart more [] one (begun_memory Q first memory)
    made = second_has_begun same first has_begun found.none memories

    fewer_left : unbegun one.begun (begun_memory Q first memory) < left
    fewer_left =
        let down = one_fewer one.begun memory (begun_memory Q first memory) first (begins_more Q first memory) has_begun found.none
        (begins_itself Q first memory) in
        omega (arith, down, low)

    before : GoesBy P Q Allocated Entered apart made.0 one r (standing r (Beginning first ∷ Beginning class ∷ rest)
        (begun_memory Q first memory) (steps + 1)) (Beginning class ∷ rest)
        (begun_memory Q first memory)
    before = again first (Beginning class ∷ rest) (begun_memory Q first memory) (steps + 1) made.0 fewer_left refl quiet_first made.2

    still_fewer : unbegun one.begun before.after < left
    still_fewer =
        let down = fewer one.begun (begun_memory Q first memory) before.after before.begun in
        omega (arith, down, fewer_left)

    second : GoesBy P Q Allocated Entered apart before.more one r (standing r
        (Beginning class ∷ rest) before.after before.steps) rest before.after
    second = again class rest before.after before.steps before.more still_fewer no_turn quiet before.memories

  all_go_by : (left : ℕ) → AllGoBy left
  all_go_by zero class rest memory steps names low no_turn quiet memories = absurd (omega (arith, low))
  all_go_by (suc left) class rest memory steps names low no_turn quiet memories =
      by (all_go_by left) (also_there same class quiet.found quiet.is) where
        by : AllGoBy left → ((also : RunClass) × (slice_get Q.classes class ≡ Some also))
            → GoesBy P Q Allocated Entered apart names one r (standing r (Beginning class ∷ rest) memory steps) rest memory
        by again also = at (first_unbegun Q memory (come_first Q also.0.header)) refl where
          at : (first : Option ℕ) → first_unbegun Q memory (come_first Q also.0.header) ≡ first
              → GoesBy P Q Allocated Entered apart names one r (standing r (Beginning class ∷ rest) memory steps) rest memory
          at None none = goes_at_once class rest memory steps names also.0 also.1 none no_turn quiet memories
          at (Some first) is = goes_behind left again class rest memory steps names also.0 first low also.1 is no_turn quiet memories

-- The beginning of a class that the first has begun goes by in the second, with those of the classes that come first.
pub beginning_goes_by :
    {P Q : Program} {Allocated Entered : ℕ → ℕ → Type 0} {apart : Apart} {names : Names} {one : Memory} {r : Run} (class : ℕ) (rest : List RunFrame)
    → SamePrograms P Q
    → BeginAlike P Q
    → r.world.halt ≡ going
    → r.world.frames ≡ Beginning class ∷ rest
    → is_library_turn rest ≡ false
    → BeginsQuietly P one class
    → SameMemories P Allocated Entered apart names [] one r.world.memory
    → GoesBy P Q Allocated Entered apart names one r r rest r.world.memory
beginning_goes_by {P = P} {Q = Q} {Allocated = Allocated} {Entered = Entered} {apart = apart} {names = names} {one = one} {r = r} class rest same alike
    goes stands no_turn quiet memories =
    subst (λ (frames : List RunFrame). GoesBy P Q Allocated Entered apart names one r
    (standing r frames r.world.memory r.world.steps) rest r.world.memory) (sym stands)
    (all_go_by Allocated Entered apart same alike one r goes (suc
    (unbegun one.begun r.world.memory)) class rest r.world.memory r.world.steps names
    (let less : unbegun one.begun r.world.memory < suc (unbegun one.begun r.world.memory) = omega arith in less) no_turn quiet memories)

-- Where the next turn of the second begins a class that the first has begun before, quiet turns lead back to the same frames, with that
-- class begun.
pub turn_goes_by :
    {P Q : Program} {Allocated Entered : ℕ → ℕ → Type 0} {apart : Apart} {names : Names} {one : Memory} {r : Run} (class : ℕ) (found : RunClass)
    → SamePrograms P Q
    → BeginAlike P Q
    → r.world.halt ≡ going
    → is_library_turn r.world.frames ≡ false
    → turn Q r ≡ record r { world = begun_on Q class (record r.world { steps = r.world.steps + 1 }) r.world.frames }
    → slice_get P.classes class ≡ Some found
    → IsTrue (is_begun one class)
    → IsFalse (is_begun r.world.memory class)
    → SameMemories P Allocated Entered apart names [] one r.world.memory
    → (by : GoesBy P Q Allocated Entered apart names one r r r.world.frames r.world.memory) × IsTrue (is_begun by.after class)
turn_goes_by {P = P} {Q = Q} {Allocated = Allocated} {Entered = Entered} {apart = apart} {names = names} {one = one} {r = r} class found same alike goes
    no_turn turned is begun none memories = (
      record {
        after = rest.after;
        steps = rest.steps;
        quietly = turn_first
            (ap shown turned ∙ shows_running r (Beginning class ∷ r.world.frames) (begun_memory Q class r.world.memory)
            (r.world.steps + 1) goes refl
            ∙ sym (shows_running r r.world.frames r.world.memory r.world.steps goes no_turn))
            (subst (λ (later : Run). Quietly Q later (standing r r.world.frames rest.after rest.steps)) (sym turned) rest.quietly);
        more = rest.more;
        grows = more_and_more made.1 rest.grows;
        memories = rest.memories;
        begun = λ at was. rest.begun at (begins_more Q class r.world.memory at was);
      },
      rest.begun class (begins_itself Q class r.world.memory),
    ) where
      made : (more : Names) × NamesMore names more × SameMemories P Allocated Entered apart more [] one (begun_memory Q class r.world.memory)
      made = second_has_begun same class begun none memories

      middle : Run
      middle = standing r (Beginning class ∷ r.world.frames) (begun_memory Q class r.world.memory) (r.world.steps + 1)

      rest : GoesBy P Q Allocated Entered apart made.0 one middle middle r.world.frames (begun_memory Q class r.world.memory)
      rest = beginning_goes_by class r.world.frames same alike goes refl no_turn (alone_quietly class found is begun none memories) made.2

-- a class of the second is one of the first
first_there : {P Q : Program} → SamePrograms P Q → (class : ℕ) (also : RunClass) → slice_get Q.classes class ≡ Some also
    → (found : RunClass) × (slice_get P.classes class ≡ Some found)
first_there {P = P} {Q = Q} same class also is = by (slice_get P.classes class) (slice_get Q.classes class) refl refl
    (at_number same class) where
      by : (one other : Option RunClass) → slice_get P.classes class ≡ one → slice_get Q.classes class ≡ other → SameAt P one other
          → (found : RunClass) × (slice_get P.classes class ≡ Some found)
      by None None here here_also at_none = absurd (none-some also (sym here_also ∙ is))
      by None (Some other) here here_also impossible = elim impossible [ ]
      by (Some one) None here here_also impossible = elim impossible [ ]
      by (Some one) (Some other) here here_also (at_both alike) = (one, here)

-- An operation of the second that begins a class first that the first has begun before: quiet turns lead back to it, with that class begun.
pub operation_goes_by :
    {P Q : Program} {Allocated Entered : ℕ → ℕ → Type 0} {apart : Apart} {names : Names} {one : Memory} {r : Run} (f : MethodState) (rest : List RunFrame)
    (point : Point) (class : ℕ)
    → SamePrograms P Q
    → BeginAlike P Q
    → r.world.halt ≡ going
    → r.world.frames ≡ Method f ∷ rest
    → point_at Q f.at f.place ≡ Some point
    → ((w : World) → op_step Q w f rest point.op ≡ work_step Q w f rest point.op)
    → nat_le (arity point.op) (length f.stack) ≡ true
    → work Q r.world.memory point.op (reverse (take (arity point.op) f.stack)) ≡ begins class
    → IsTrue (is_begun one class)
    → IsFalse (is_begun r.world.memory class)
    → SameMemories P Allocated Entered apart names [] one r.world.memory
    → (by : GoesBy P Q Allocated Entered apart names one r r r.world.frames r.world.memory) × IsTrue (is_begun by.after class)
operation_goes_by {P = P} {Q = Q} {r = r} f rest point class same alike goes stands is worked enough begins_it begun none memories =
    let also = begun_is_there Q r.world.memory point.op (reverse (take (arity point.op) f.stack)) class begins_it in
    let found = first_there same class also.0 also.1 in
    turn_goes_by class found.0 same alike goes no_turn turned found.1 begun none memories where
      operands : List Value
      operands = reverse (take (arity point.op) f.stack)

      no_turn : is_library_turn r.world.frames ≡ false
      no_turn = rw (stands) refl

      before : Run
      before = standing r (Method f ∷ rest) r.world.memory r.world.steps

      counted : World
      counted = (standing r (Method f ∷ rest) r.world.memory (r.world.steps + 1)).world

      begun_then : work_step Q counted f rest point.op ≡ begun_on Q class counted (Method f ∷ rest)
      begun_then = rw (enough, begins_it) refl

      turned_at : turn Q before ≡ record before { world = begun_on Q class counted (Method f ∷ rest) }
      turned_at =
          ap (turn_by Q before) goes
          ∙ ap (λ (found : Option Point). record before { world = point_step Q counted f rest found }) is
          ∙ ap (λ (after : World). record before { world = after }) (worked counted ∙ begun_then)

      turned : turn Q r ≡ record r { world = begun_on Q class (record r.world { steps = r.world.steps + 1 }) r.world.frames }
      turned = subst Turns (sym stands) turned_at where
        Turns : List RunFrame → Type 0
        Turns frames =
            turn Q (standing r frames r.world.memory r.world.steps)
            ≡ record r { world = begun_on Q class (record r.world { frames = frames; steps = r.world.steps + 1 }) frames }

-- ---- worlds

-- The second has caught up with the first: the beginning is gone, and worlds are the same.
pub record CaughtUp (P Q : Program) (c : Comparison) (names : Names) (one : World) (r : Run) (rest : List RunFrame) : Type 0 where
  pub by : GoesBy P Q c.allocated c.entered c.apart names one.memory r r rest r.world.memory
  pub frames : c.frames by.more one.frames rest
  pub seen : SameSeen c by.more one (standing r rest by.after by.steps).world

-- Where the second is still to go on with a beginning, quiet turns lead to the same worlds.
pub second_catches_up :
    {P Q : Program} {c : Comparison} {names : Names} {one : World} {r : Run} (class : ℕ) (rest : List RunFrame)
    → SamePrograms P Q
    → BeginAlike P Q
    → Compares c
    → r.world.halt ≡ going
    → r.world.frames ≡ Beginning class ∷ rest
    → is_library_turn rest ≡ false
    → BeginsQuietly P one.memory class
    → c.frames names one.frames rest
    → SameMemories P c.allocated c.entered c.apart names [] one.memory r.world.memory
    → SameSeen c names one r.world
    → CaughtUp P Q c names one r rest
second_catches_up {P = P} {Q = Q} {c = c} {names = names} {one = one} {r = r} class rest same alike compares goes stands no_turn quiet
    frames memories seen = record {
      by = by;
      frames = compares.frames names by.more one.frames rest by.grows frames;
      seen = record { known = references_more by.grows seen.known; events = seen.events };
    } where
      by : GoesBy P Q c.allocated c.entered c.apart names one.memory r r rest r.world.memory
      by = beginning_goes_by class rest same alike goes stands no_turn quiet memories

-- A turn of a beginning that stands on top of both runs: the next class begins in both, perhaps after classes that the second has still to
-- begin and the first has begun before; or the beginning is over in both, and the class initialiser takes its place, if there is one.
use Rattle.std.proofs.Common.{◌≡◌, ◌+◌, ◌<◌, ℕ, zero, suc, Bool, true, false, List, [], ◌∷◌, codes, is_some, slice_get, Option, Some, None, option_and_then, if◌then◌else◌, IsTrue, IsFalse, refl, sym, ap, subst, ◌∙◌, arith}
use Rattle.std.proofs.lemmas.Option.{none-some, same_Some}
use Rattle.class_model.specs.Names.{clinit}
use Rattle.class_model.specs.declared.class_file.MethodAt.{MethodAt}
use Rattle.class_tree.specs.Headers.{Name}
use Rattle.machine_values.specs.declared.frame.RunFrame.{RunFrame}
use Rattle.machine_values.specs.declared.frame.RunFrame.TheVariants.{Beginning, Method}
use Rattle.member_link.specs.Machine.Beginnings.{beginning_of, begun_memory, begun_next, begun_on, come_first, first_unbegun, frame_with, initialiser_of, past_beginning}
use Rattle.member_link.specs.Machine.Programs.{Program, RunClass, RunMethod, code_at, folder_number, name_of_class, place_of_method, run_method}
use Rattle.member_link.specs.Machine.Runs.{Run, turn}
use Rattle.member_link.specs.Machine.Stepping.{is_library_turn}
use Rattle.member_link.specs.Machine.Worlds.{Memory, World, going, is_begun, stuck}
use Rattle.member_link.specs.References.{Reference}
use Rattle.same_runs.specs.Renamings.{Names, NamesMore}
use Rattle.same_runs.specs.SameMemories.{SameMemories}
use Rattle.same_runs.specs.SamePrograms.{SamePrograms}
use Rattle.same_runs.specs.SameWorlds.{Comparison, both_go, both_over, SameSeen}
use Rattle.same_runs.specs.Simulations.{Quietly, at_once}
use Rattle.same_runs.specs.Laws.Begun.{begin_both}
use Rattle.same_runs.specs.Laws.BegunClasses.{folder_class}
use Rattle.same_runs.specs.Laws.CaughtUp.{BothTurn, after_fewer, turned_going}
use Rattle.same_runs.specs.Laws.Methods.{place_is, same_code, same_place}
use Rattle.same_runs.specs.Laws.Names.{more_and_more, names_themselves, references_more}
use Rattle.same_runs.specs.Laws.Programs.{SameAt, at_none, at_both, at_number, same_name, same_number}
use Rattle.same_runs.specs.Laws.QuietBeginnings.{BeginAlike, GoesBy, IsUnbegun, no_initialiser, one_fewer, quietly_then, standing, turn_goes_by, unbegun, unbegun_is}

-- ---- the next class that begins

-- the first that is left is that of the other run, unless the first run has begun it before
pub next_same : (P : Program) (one other : Memory) (class : ℕ) (names : List Name)
    → ((at : ℕ) → IsTrue (is_begun other at) → IsTrue (is_begun one at))
    → IsFalse (is_begun one class)
    → first_unbegun P other names ≡ Some class
    → first_unbegun P one names ≡ Some class
next_same P one other class [] more none is = absurd (none-some class is)
next_same P one other class (name ∷ names) more none is = by (folder_number P name) refl (next_same P one other class names more none) where
  by : (found : Option ℕ) → folder_number P name ≡ found
      → (first_unbegun P other names ≡ Some class → first_unbegun P one names ≡ Some class)
      → first_unbegun P one (name ∷ names) ≡ Some class
  by None here rest = rw (here) (rest (sym (rw (here) refl) ∙ is))
  by (Some first) here rest = at_first (is_begun other first) refl where
    at_first : (b : Bool) → is_begun other first ≡ b → first_unbegun P one (name ∷ names) ≡ Some class
    at_first true begun = rw (here, more first begun) (rest (sym (rw (here, begun) refl) ∙ is))
    at_first false unbegun_one =
        let same_one : first ≡ class = same_Some first class (sym (rw (here, unbegun_one) refl) ∙ is) in
        let still : is_begun one first ≡ false = ap (is_begun one) same_one ∙ none in
        rw (here, still) (ap Some same_one)

-- where none is left in the second, none is left in the first
pub none_left_same : (P : Program) (one other : Memory) (names : List Name)
    → ((at : ℕ) → IsTrue (is_begun other at) → IsTrue (is_begun one at))
    → first_unbegun P other names ≡ None
    → first_unbegun P one names ≡ None
none_left_same P one other [] more none = refl
none_left_same P one other (name ∷ names) more none = by (folder_number P name) refl (none_left_same P one other names more) where
  by : (found : Option ℕ) → folder_number P name ≡ found
      → (first_unbegun P other names ≡ None → first_unbegun P one names ≡ None)
      → first_unbegun P one (name ∷ names) ≡ None
  by None here rest = rw (here) (rest (sym (rw (here) refl) ∙ none))
  by (Some first) here rest = at_first (is_begun other first) refl where
    at_first : (b : Bool) → is_begun other first ≡ b → first_unbegun P one (name ∷ names) ≡ None
    at_first true begun = rw (here, more first begun) (rest (sym (rw (here, begun) refl) ∙ none))
    at_first false unbegun_one =
        let some : first_unbegun P other (name ∷ names) ≡ Some first = rw (here, unbegun_one) refl in
        absurd (none-some first (sym none ∙ some))

module _ {P Q : Program} (same : SamePrograms P Q) where
  -- the first that is left does not depend on the program
  pub unbegun_same : (memory : Memory) (names : List Name) → first_unbegun Q memory names ≡ first_unbegun P memory names
  unbegun_same memory [] = refl
  unbegun_same memory (name ∷ names) = rw (same_number same name, unbegun_same memory names) refl

  -- a class initialiser with code is that of both
  pub same_initialiser : (class : ℕ) (at : MethodAt) → initialiser_of P class ≡ Some at
      → (method : RunMethod) × (run_method P at ≡ Some method) × (initialiser_of Q class ≡ Some at)
  same_initialiser class at is = by (place_of_method P (at_name (name_of_class P class))) refl where
    at_name : Name → Reference
    at_name name = record { class = name; name = clinit; desc = codes "()V" }

    if_code : MethodAt → Option MethodAt
    if_code place = if is_some (code_at Q place) then Some place else None

    of_name : Name → Option MethodAt
    of_name name = option_and_then if_code (place_of_method Q (at_name name))

    by : (place : Option MethodAt) → place_of_method P (at_name (name_of_class P class)) ≡ place
        → (method : RunMethod) × (run_method P at ≡ Some method) × (initialiser_of Q class ≡ Some at)
    by None none = absurd (none-some at (sym (rw (none) refl) ∙ is))
    by (Some place) found = coded (is_some (code_at P place)) refl where
      coded : (b : Bool) → is_some (code_at P place) ≡ b
          → (method : RunMethod) × (run_method P at ≡ Some method) × (initialiser_of Q class ≡ Some at)
      coded false e = absurd (none-some at (sym (rw (found, e) refl) ∙ is))
      coded true e =
          let method = place_is P (at_name (name_of_class P class)) place found in
          let same_one : place ≡ at = same_Some place at (sym (rw (found, e) refl) ∙ is) in
          let there : of_name (name_of_class P class) ≡ Some place =
          rw (same_place same (at_name (name_of_class P class)) place found, same_code same place method.0 method.1, e) refl in
          (method.0, ap (run_method P) (sym same_one) ∙ method.1, ap of_name (same_name same class) ∙ there ∙ ap Some same_one)

-- ---- a turn of a beginning

-- a run with a beginning on top
pub turned_by_beginning : (R : Program) (r : Run) (class : ℕ) (rest : List RunFrame) (found : Option RunClass)
    → r.world.halt ≡ going
    → r.world.frames ≡ Beginning class ∷ rest
    → slice_get R.classes class ≡ found
    → turn R r ≡ record r { world = beginning_of R class (record r.world { steps = r.world.steps + 1 }) rest found }
turned_by_beginning R r class rest found goes stands is =
    turned_going R r (Beginning class ∷ rest) goes stands refl
    ∙ ap (λ (now : Option RunClass). record r { world = beginning_of R class (record r.world { steps = r.world.steps + 1 }) rest now }) is

-- and with a class that comes first, or none
pub turned_next : (R : Program) (r : Run) (class : ℕ) (rest : List RunFrame) (found : RunClass) (next : Option ℕ)
    → r.world.halt ≡ going
    → r.world.frames ≡ Beginning class ∷ rest
    → slice_get R.classes class ≡ Some found
    → first_unbegun R r.world.memory (come_first R found.header) ≡ next
    → turn R r ≡ record r { world = begun_next R class (record r.world { steps = r.world.steps + 1 }) rest next }
turned_next R r class rest found next goes stands is is_next =
    turned_by_beginning R r class rest (Some found) goes stands is
    ∙ ap (λ (now : Option ℕ). record r { world = begun_next R class (record r.world { steps = r.world.steps + 1 }) rest now }) is_next

-- where none comes first
pub turned_past : (R : Program) (r : Run) (class : ℕ) (rest : List RunFrame) (found : RunClass) (initialiser : Option MethodAt)
    → r.world.halt ≡ going
    → r.world.frames ≡ Beginning class ∷ rest
    → slice_get R.classes class ≡ Some found
    → first_unbegun R r.world.memory (come_first R found.header) ≡ None
    → initialiser_of R class ≡ initialiser
    → turn R r ≡ record r { world = past_beginning R (record r.world { steps = r.world.steps + 1 }) rest initialiser }
turned_past R r class rest found initialiser goes stands is is_next is_method =
    turned_next R r class rest found None goes stands is is_next
    ∙ ap (λ (now : Option MethodAt). record r { world = past_beginning R (record r.world { steps = r.world.steps + 1 }) rest now })
    is_method

-- ---- what a theorem says of frames with a beginning on top

-- What goes together behind each way in which a turn of a beginning of both may end.
pub record BeginsOn (P Q : Program) (c : Comparison) (names : Names) (class : ℕ) (rest rest_also : List RunFrame) : Type 0 where
  pub begins : (more : Names) (first : ℕ)
      → NamesMore names more
      → c.frames more (Beginning first ∷ Beginning class ∷ rest) (Beginning first ∷ Beginning class ∷ rest_also)
  pub is_over : (more : Names)
      → NamesMore names more
      → initialiser_of P class ≡ None
      → c.frames more rest rest_also
  pub initialises : (more : Names) (at : MethodAt) (method : RunMethod)
      → NamesMore names more
      → initialiser_of P class ≡ Some at
      → run_method P at ≡ Some method
      → c.frames more (Method (frame_with P at [] None) ∷ rest) (Method (frame_with Q at [] None) ∷ rest_also)

-- what goes together behind a beginning does so under more names
pub begins_on_more : {P Q : Program} {c : Comparison} {names more : Names} {class : ℕ} {rest rest_also : List RunFrame}
    → NamesMore names more
    → BeginsOn P Q c names class rest rest_also
    → BeginsOn P Q c more class rest rest_also
begins_on_more grows frames = record {
  begins = λ later first grows_later. frames.begins later first (more_and_more grows grows_later);
  is_over = λ later grows_later none. frames.is_over later (more_and_more grows grows_later) none;
  initialises = λ later at method grows_later is is_method.
      frames.initialises later at method (more_and_more grows grows_later) is is_method;
}

-- Two runs with the beginning of a class on top, where worlds are the same.
pub record AtBeginning (P Q : Program) (c : Comparison) (names : Names) (one other : Run) (class : ℕ) (rest others : List RunFrame)
    : Type 0 where
  pub goes : one.world.halt ≡ going
  pub goes_also : other.world.halt ≡ going
  pub stands : one.world.frames ≡ Beginning class ∷ rest
  pub stands_also : other.world.frames ≡ Beginning class ∷ others
  pub memories : SameMemories P c.allocated c.entered c.apart names [] one.world.memory other.world.memory
  pub seen : SameSeen c names one.world other.world
  pub frames : BeginsOn P Q c names class rest others

-- the world of a run, a step further
abbrev pub counted : Run → World
counted r = record r.world { steps = r.world.steps + 1 }

module _ {P Q : Program} {c : Comparison} (same : SamePrograms P Q) (alike : BeginAlike P Q) (class : ℕ) (rest others : List RunFrame)
    (one : Run) where
  -- there is no such class
  both_stuck :
      {names : Names} {other : Run}
      → AtBeginning P Q c names one other class rest others
      → slice_get P.classes class ≡ None
      → slice_get Q.classes class ≡ None
      → BothTurn P Q c names one other
  both_stuck {names = names} {other = other} at is is_also = record {
    waits = other;
    quietly = at_once;
    first = record (counted one) { halt = stuck };
    second = record (counted other) { halt = stuck };
    turned = turned_by_beginning P one class rest None at.goes at.stands is;
    turned_also = turned_by_beginning Q other class others None at.goes_also at.stands_also is_also;
    after = both_over names (record { known = at.seen.known; events = at.seen.events }) (λ impossible. cc impossible) refl;
  }

  -- the next class begins in both
  both_next :
      {names : Names} {other : Run} (found also : RunClass) (first : ℕ)
      → AtBeginning P Q c names one other class rest others
      → slice_get P.classes class ≡ Some found
      → slice_get Q.classes class ≡ Some also
      → first_unbegun P one.world.memory (come_first P found.header) ≡ Some first
      → first_unbegun Q other.world.memory (come_first Q also.header) ≡ Some first
      → IsFalse (is_begun one.world.memory first)
      → BothTurn P Q c names one other
  both_next {names = names} {other = other} found also first at is is_also next next_also none = record {
    waits = other;
    quietly = at_once;
    first = begun_on P first (counted one) (Beginning class ∷ rest);
    second = begun_on Q first (counted other) (Beginning class ∷ others);
    turned = turned_next P one class rest found (Some first) at.goes at.stands is next;
    turned_also = turned_next Q other class others also (Some first) at.goes_also at.stands_also is_also next_also;
    after = both_go begun.0 begun.1 (at.frames.begins begun.0 first begun.1) begun.2
        (record { known = references_more begun.1 at.seen.known; events = at.seen.events }) at.goes at.goes_also;
  } where
    begun : (more : Names) × NamesMore names more
        × SameMemories P c.allocated c.entered c.apart more [] (begun_memory P first one.world.memory) (begun_memory Q first other.world.memory)
    begun = begin_both same first none at.memories

  -- the beginning is over in both
  both_past :
      {names : Names} {other : Run} (found also : RunClass)
      → AtBeginning P Q c names one other class rest others
      → slice_get P.classes class ≡ Some found
      → slice_get Q.classes class ≡ Some also
      → first_unbegun P one.world.memory (come_first P found.header) ≡ None
      → first_unbegun Q other.world.memory (come_first Q also.header) ≡ None
      → BothTurn P Q c names one other
  both_past {names = names} {other = other} found also at is is_also next next_also = by (initialiser_of P class) refl where
    by : (initialiser : Option MethodAt) → initialiser_of P class ≡ initialiser → BothTurn P Q c names one other
    by None none = record {
      waits = other;
      quietly = at_once;
      first = record (counted one) { frames = rest };
      second = record (counted other) { frames = others };
      turned = turned_past P one class rest found None at.goes at.stands is next none;
      turned_also = turned_past Q other class others also None at.goes_also at.stands_also is_also next_also
          (no_initialiser same class none);
      after = both_go names (names_themselves names) (at.frames.is_over names (names_themselves names) none) at.memories
          (record { known = at.seen.known; events = at.seen.events }) at.goes at.goes_also;
    }
    by (Some method) some =
        let there = same_initialiser same class method some in
        record {
          waits = other;
          quietly = at_once;
          first = record (counted one) { frames = Method (frame_with P method [] None) ∷ rest };
          second = record (counted other) { frames = Method (frame_with Q method [] None) ∷ others };
          turned = turned_past P one class rest found (Some method) at.goes at.stands is next some;
          turned_also = turned_past Q other class others also (Some method) at.goes_also at.stands_also is_also next_also there.2;
          after = both_go names (names_themselves names)
              (at.frames.initialises names method there.0 (names_themselves names) some there.1) at.memories
              (record { known = at.seen.known; events = at.seen.events }) at.goes at.goes_also;
        }

  -- quiet turns of the second, and what both do then
  behind_quiet :
      {names : Names} {other : Run} (at : AtBeginning P Q c names one other class rest others)
      (by : GoesBy P Q c.allocated c.entered c.apart names one.world.memory other other other.world.frames other.world.memory)
      → (AtBeginning P Q c by.more one (standing other (Beginning class ∷ others) by.after by.steps) class rest others
      → BothTurn P Q c by.more one (standing other (Beginning class ∷ others) by.after by.steps))
      → BothTurn P Q c names one other
  behind_quiet {names = names} {other = other} at by grows_later = record {
    waits = later.waits;
    quietly = quietly_then
        (subst (λ (now : List RunFrame). Quietly Q other (standing other now by.after by.steps)) at.stands_also by.quietly) later.quietly;
    first = later.first;
    second = later.second;
    turned = later.turned;
    turned_also = later.turned_also;
    after = after_fewer by.grows later.after;
  } where
    later : BothTurn P Q c by.more one (standing other (Beginning class ∷ others) by.after by.steps)
    later = grows_later (record {
      goes = at.goes;
      goes_also = at.goes_also;
      stands = at.stands;
      stands_also = refl;
      memories = by.memories;
      seen = record { known = references_more by.grows at.seen.known; events = at.seen.events };
      frames = begins_on_more by.grows at.frames;
    })

  -- where the second goes on with a class that the first has begun, that goes by
  next_goes_by :
      {names : Names} {other : Run} (also : RunClass) (first : ℕ)
      → AtBeginning P Q c names one other class rest others
      → slice_get Q.classes class ≡ Some also
      → first_unbegun Q other.world.memory (come_first Q also.header) ≡ Some first
      → IsTrue (is_begun one.world.memory first)
      → IsFalse (is_begun other.world.memory first)
      → (by : GoesBy P Q c.allocated c.entered c.apart names one.world.memory other other other.world.frames other.world.memory)
      × IsTrue (is_begun by.after first)
  next_goes_by {names = names} {other = other} also first at is_also next_also begun none =
      turn_goes_by first there.0 same alike at.goes_also (ap is_library_turn at.stands_also) turned there.1 begun none at.memories where
        left : IsUnbegun Q other.world.memory (come_first Q also.header) first
        left = unbegun_is Q other.world.memory (come_first Q also.header) first next_also

        there : (found : RunClass) × (slice_get P.classes first ≡ Some found)
        there = folder_class P left.name first (sym (same_number same left.name) ∙ left.is_number)

        turned : turn Q other ≡ record other { world = begun_on Q first (counted other) other.world.frames }
        turned =
            turned_next Q other class others also (Some first) at.goes_also at.stands_also is_also next_also
            ∙ ap (λ (now : List RunFrame). record other { world = begun_on Q first (counted other) now }) (sym at.stands_also)

  all_begin : (left : ℕ) (names : Names) (other : Run) (found also : RunClass)
      → unbegun one.world.memory.begun other.world.memory < left
      → slice_get P.classes class ≡ Some found
      → slice_get Q.classes class ≡ Some also
      → AtBeginning P Q c names one other class rest others
      → BothTurn P Q c names one other
  all_begin zero names other found also low is is_also at = absurd (omega (arith, low))
  all_begin (suc left) names other found also low is is_also at = by (all_begin left)
      (first_unbegun Q other.world.memory (come_first Q also.header)) refl where
        in_first : (next : Option ℕ) → first_unbegun Q other.world.memory (come_first Q also.header) ≡ next
            → first_unbegun P other.world.memory (come_first P found.header) ≡ next
        in_first next e =
            ap (first_unbegun P other.world.memory) (sym (alike.first class found also is is_also))
            ∙ sym (unbegun_same same other.world.memory (come_first Q also.header))
            ∙ e

        by : ((more : Names) (later : Run) (one_class other_class : RunClass)
            → unbegun one.world.memory.begun later.world.memory < left
            → slice_get P.classes class ≡ Some one_class
            → slice_get Q.classes class ≡ Some other_class
            → AtBeginning P Q c more one later class rest others
            → BothTurn P Q c more one later)
            → (next : Option ℕ) → first_unbegun Q other.world.memory (come_first Q also.header) ≡ next
            → BothTurn P Q c names one other
        by again None e =
            both_past found also at is is_also
            (none_left_same P one.world.memory other.world.memory (come_first P found.header) at.memories.statics.begun (in_first None e)) e
        by again (Some first) e = at_first (is_begun one.world.memory first) refl where
          at_first : (b : Bool) → is_begun one.world.memory first ≡ b → BothTurn P Q c names one other
          at_first false none =
              both_next found also first at is is_also
              (next_same P one.world.memory other.world.memory first (come_first P found.header) at.memories.statics.begun none
              (in_first (Some first) e)) e none
          at_first true begun = behind_quiet at quiet.0
              (λ later. again quiet.0.more (standing other (Beginning class ∷ others) quiet.0.after quiet.0.steps) found also still_fewer is
              is_also later) where
                none : IsFalse (is_begun other.world.memory first)
                none = (unbegun_is Q other.world.memory (come_first Q also.header) first e).none

                quiet : (by : GoesBy P Q c.allocated c.entered c.apart names one.world.memory other other other.world.frames other.world.memory)
                    × IsTrue (is_begun by.after first)
                quiet = next_goes_by also first at is_also e begun none

                still_fewer : unbegun one.world.memory.begun quiet.0.after < left
                still_fewer =
                    let down = one_fewer one.world.memory.begun other.world.memory quiet.0.after first quiet.0.begun begun none quiet.1 in
                    omega (arith, down, low)

  -- A turn of a beginning of both: the second first begins the classes that the first has begun before, and then both take the same turn.
  pub beginning_kept :
      {names : Names} {other : Run}
      → AtBeginning P Q c names one other class rest others
      → BothTurn P Q c names one other
  beginning_kept {names = names} {other = other} at = by (slice_get P.classes class) (slice_get Q.classes class) refl refl
      (at_number same class) where
        by : (found also : Option RunClass) → slice_get P.classes class ≡ found → slice_get Q.classes class ≡ also → SameAt P found also
            → BothTurn P Q c names one other
        by None None is is_also at_none = both_stuck at is is_also
        by None (Some also) is is_also impossible = elim impossible [ ]
        by (Some found) None is is_also impossible = elim impossible [ ]
        by (Some found) (Some also) is is_also (at_both alike_classes) =
            all_begin (suc (unbegun one.world.memory.begun other.world.memory)) names other found also
            (let less : unbegun one.world.memory.begun other.world.memory < suc (unbegun one.world.memory.begun other.world.memory) =
            omega arith in less) is is_also at

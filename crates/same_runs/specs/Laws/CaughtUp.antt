-- An operation that is in both, where the second has perhaps still to begin classes that the first has begun before: it begins them by
-- turns that show nothing, and then both take the same turn.
use Rattle.std.proofs.Common.{◌≡◌, ◌+◌, ◌<◌, nat_le, ℕ, zero, suc, true, false, List, [], ◌∷◌, drop, length, reverse, take, Option, Some, IsTrue, refl, ap, sym, subst, ◌∙◌, arith, inl, inr, ◌⊎◌}
use Rattle.machine_values.specs.Frames.{MethodState}
use Rattle.machine_values.specs.declared.frame.RunFrame.{RunFrame}
use Rattle.machine_values.specs.declared.frame.RunFrame.TheVariants.{Method}
use Rattle.machine_values.specs.declared.value.Value.{Value}
use Rattle.member_link.specs.Machine.Completions.{Completion}
use Rattle.member_link.specs.Machine.Performing.{perform}
use Rattle.member_link.specs.Machine.Programs.{Point, Program, point_at}
use Rattle.member_link.specs.Machine.Runs.{Run, turn, turn_by}
use Rattle.member_link.specs.Machine.Stepping.{frames_step, is_library_turn, op_step, point_step, work_step}
use Rattle.member_link.specs.Machine.Work.{arity, work}
use Rattle.member_link.specs.Machine.Worlds.{World, going, is_begun}
use Rattle.same_runs.specs.Renamings.{Names, NamesMore, SameValues}
use Rattle.same_runs.specs.SameMemories.{SameMemories}
use Rattle.same_runs.specs.SamePrograms.{SameOp, SamePrograms}
use Rattle.same_runs.specs.SameWorlds.{Comparison, Compares, Goes, SameAfter, both_go, both_landed, second_begins, both_over, SameSeen}
use Rattle.same_runs.specs.Simulations.{Keeps, Quietly, at_once}
use Rattle.same_runs.specs.Laws.Names.{more_and_more, references_more, values_more}
use Rattle.same_runs.specs.Laws.Performed.{MustBegin, operation_performed}
use Rattle.same_runs.specs.Laws.QuietBeginnings.{BeginAlike, GoesBy, one_fewer, operation_goes_by, quietly_then, standing, unbegun}

-- ---- more names

-- what is the same after a step under more names is the same after it under fewer
pub after_fewer : {P : Program} {c : Comparison} {names more : Names} {one other : World} → NamesMore names more
    → SameAfter P c more one other → SameAfter P c names one other
after_fewer grows (both_go later grows_later frames memories seen goes goes_also) =
    both_go later (more_and_more grows grows_later) frames memories seen goes goes_also
after_fewer grows (both_landed later grows_later lands memories seen goes goes_also) =
    both_landed later (more_and_more grows grows_later) lands memories seen goes goes_also
after_fewer grows (second_begins later class rest grows_later is no_turn quiet frames memories seen goes goes_also) =
    second_begins later class rest (more_and_more grows grows_later) is no_turn quiet frames memories seen goes goes_also
after_fewer grows (both_over later seen halted same) = both_over later seen halted same

-- what goes together behind an operation does so under more names
pub goes_more : {P Q : Program} {c : Comparison} {names more : Names} {w : Completion} {before taken also taken_also : MethodState}
    {rest rest_also : List RunFrame}
    → NamesMore names more
    → Goes P Q c names w before taken also taken_also rest rest_also
    → Goes P Q c more w before taken also taken_also rest rest_also
goes_more grows frames = record {
  given = λ later memory ones others is then are. frames.given later memory ones others is (more_and_more grows then) are;
  begins = λ later class then. frames.begins later class (more_and_more grows then);
  asks = λ later waits then. frames.asks later waits (more_and_more grows then);
  called = λ later at method ones others held held_also waits then is are same_held.
      frames.called later at method ones others held held_also waits (more_and_more grows then) is are same_held;
  unwinds = λ later throwing then. frames.unwinds later throwing (more_and_more grows then);
}

-- ---- a turn of both

-- The second takes turns that show nothing, and then both take a turn, after which worlds are the same.
pub record BothTurn (P Q : Program) (c : Comparison) (names : Names) (one other : Run) : Type 0 where
  pub waits : Run
  pub quietly : Quietly Q other waits
  pub first : World
  pub second : World
  pub turned : turn P one ≡ record one { world = first }
  pub turned_also : turn Q waits ≡ record other { world = second }
  pub after : SameAfter P c names first second

-- A turn of both keeps a relation that holds of what it leads to.
pub turn_keeps : {P Q : Program} {c : Comparison} {names : Names} {Relates : ℕ → Run → Run → Type 0} {one other : Run}
    (measure later : ℕ) (both : BothTurn P Q c names one other)
    → Relates later (record one { world = both.first }) (record other { world = both.second })
    → Keeps P Q Relates measure one other
turn_keeps {P = P} {Q = Q} {Relates = Relates} {one = one} measure later both related = record {
  waits = both.waits;
  quietly = both.quietly;
  measure_then = later;
  goes_on = inr (subst (λ (first : Run). Relates later first (turn Q both.waits)) (sym both.turned)
      (subst (λ (second : Run). Relates later (record one { world = both.first }) second) (sym both.turned_also) related));
}

-- a run that goes on, where the library's frame is not on top
pub turned_going : (R : Program) (r : Run) (frames : List RunFrame)
    → r.world.halt ≡ going
    → r.world.frames ≡ frames
    → is_library_turn frames ≡ false
    → turn R r ≡ record r { world = frames_step R (record r.world { steps = r.world.steps + 1 }) frames }
turned_going R r frames goes stands no_turn =
    ap (turn_by R r) goes
    ∙ rw (none) (ap (λ (now : List RunFrame). record r { world = frames_step R (record r.world { steps = r.world.steps + 1 }) now })
    stands) where
      none : is_library_turn r.world.frames ≡ false
      none = ap is_library_turn stands ∙ no_turn

-- a frame less the operands of an operation
abbrev pub less : ℕ → MethodState → MethodState
less count f = record f { stack = drop count f.stack }

abbrev pub operands_of : ℕ → MethodState → List Value
operands_of count f = reverse (take count f.stack)

-- a run at an operation that works on its operands performs what it comes to
pub turned_by_work : (R : Program) (r : Run) (f : MethodState) (rest : List RunFrame) (point : Point)
    → r.world.halt ≡ going
    → r.world.frames ≡ Method f ∷ rest
    → point_at R f.at f.place ≡ Some point
    → ((w : World) → op_step R w f rest point.op ≡ work_step R w f rest point.op)
    → nat_le (arity point.op) (length f.stack) ≡ true
    → turn R r ≡ record r {
      world = perform R (record r.world { steps = r.world.steps + 1 }) f (less (arity point.op) f) rest
          (work R r.world.memory point.op (operands_of (arity point.op) f));
    }
turned_by_work R r f rest point goes stands is worked enough =
    turned_going R r (Method f ∷ rest) goes stands refl
    ∙ ap (λ (found : Option Point). record r { world = point_step R counted f rest found }) is
    ∙ ap (λ (after : World). record r { world = after }) (worked counted ∙ performed) where
      counted : World
      counted = record r.world { steps = r.world.steps + 1 }

      performed : work_step R counted f rest point.op
          ≡ perform R counted f (less (arity point.op) f) rest (work R r.world.memory point.op (operands_of (arity point.op) f))
      performed = rw (enough) refl

-- ---- an operation that is in both

-- Two runs at an operation that is in both and works on its operands, where worlds are the same.
pub record AtOperation (P Q : Program) (c : Comparison) (names : Names) (one other : Run) (f g : MethodState)
    (rest others : List RunFrame) (point also : Point)
    : Type 0 where
  pub goes : one.world.halt ≡ going
  pub goes_also : other.world.halt ≡ going
  pub stands : one.world.frames ≡ Method f ∷ rest
  pub stands_also : other.world.frames ≡ Method g ∷ others
  pub is : point_at P f.at f.place ≡ Some point
  pub is_also : point_at Q g.at g.place ≡ Some also
  pub works : (w : World) → op_step P w f rest point.op ≡ work_step P w f rest point.op
  pub works_also : (w : World) → op_step Q w g others also.op ≡ work_step Q w g others also.op
  pub enough : nat_le (arity point.op) (length f.stack) ≡ true
  pub enough_also : nat_le (arity also.op) (length g.stack) ≡ true
  pub same : SameOp P Q point.op also.op
  pub operands : SameValues names (operands_of (arity point.op) f) (operands_of (arity also.op) g)
  pub memories : SameMemories P c.allocated c.entered c.apart names [] one.world.memory other.world.memory
  pub seen : SameSeen c names one.world other.world
  pub frames : Goes P Q c names (work P one.world.memory point.op (operands_of (arity point.op) f)) f (less (arity point.op) f) g
      (less (arity also.op) g) rest others

module _ {P Q : Program} {c : Comparison} (same : SamePrograms P Q) (alike : BeginAlike P Q) (compares : Compares c) {f g : MethodState}
    {rest others : List RunFrame} {point also : Point} (one : Run) where
  -- both take a turn, or the second has to begin a class first
  performed :
      {names : Names} {other : Run}
      → AtOperation P Q c names one other f g rest others point also
      → MustBegin one.world.memory other.world.memory (work Q other.world.memory also.op (operands_of (arity also.op) g))
      ⊎ BothTurn P Q c names one other
  performed {names = names} {other = other} at = by
      (operation_performed {first = counted one} {second = counted other} {before = f} {taken = less (arity point.op) f} {also = g}
      {taken_also = less (arity also.op) g} {rest = rest} {rest_also = others} same compares at.memories
      (record { known = at.seen.known; events = at.seen.events }) at.goes at.goes_also at.frames refl at.same at.operands) where
        counted : Run → World
        counted r = record r.world { steps = r.world.steps + 1 }

        first : World
        first = perform P (counted one) f (less (arity point.op) f) rest
            (work P one.world.memory point.op (operands_of (arity point.op) f))

        second : World
        second = perform Q (counted other) g (less (arity also.op) g) others
            (work Q other.world.memory also.op (operands_of (arity also.op) g))

        by : MustBegin one.world.memory other.world.memory (work Q other.world.memory also.op (operands_of (arity also.op) g))
            ⊎ SameAfter P c names first second
            → MustBegin one.world.memory other.world.memory (work Q other.world.memory also.op (operands_of (arity also.op) g))
            ⊎ BothTurn P Q c names one other
        by (inl must) = inl must
        by (inr after) = inr (record {
          waits = other;
          quietly = at_once;
          first = first;
          second = second;
          turned = turned_by_work P one f rest point at.goes at.stands at.is at.works at.enough;
          turned_also = turned_by_work Q other g others also at.goes_also at.stands_also at.is_also at.works_also at.enough_also;
          after = after;
        })

  -- quiet turns of the second, and what both do then
  behind_quiet :
      {names : Names} {other : Run} (at : AtOperation P Q c names one other f g rest others point also)
      (by : GoesBy P Q c.allocated c.entered c.apart names one.world.memory other other other.world.frames other.world.memory)
      → (AtOperation P Q c by.more one (standing other (Method g ∷ others) by.after by.steps) f g rest others point also
      → BothTurn P Q c by.more one (standing other (Method g ∷ others) by.after by.steps))
      → BothTurn P Q c names one other
  behind_quiet {names = names} {other = other} at by then = record {
    waits = later.waits;
    quietly = quietly_then
        (subst (λ (now : List RunFrame). Quietly Q other (standing other now by.after by.steps)) at.stands_also by.quietly) later.quietly;
    first = later.first;
    second = later.second;
    turned = later.turned;
    turned_also = later.turned_also;
    after = after_fewer by.grows later.after;
  } where
    later : BothTurn P Q c by.more one (standing other (Method g ∷ others) by.after by.steps)
    later = then (record {
      goes = at.goes;
      goes_also = at.goes_also;
      stands = at.stands;
      stands_also = refl;
      is = at.is;
      is_also = at.is_also;
      works = at.works;
      works_also = at.works_also;
      enough = at.enough;
      enough_also = at.enough_also;
      same = at.same;
      operands = values_more by.grows at.operands;
      memories = by.memories;
      seen = record { known = references_more by.grows at.seen.known; events = at.seen.events };
      frames = goes_more by.grows at.frames;
    })

  all_kept : (left : ℕ) (names : Names) (other : Run)
      → unbegun one.world.memory.begun other.world.memory < left
      → AtOperation P Q c names one other f g rest others point also
      → BothTurn P Q c names one other
  all_kept zero names other low at = absurd (omega (arith, low))
  all_kept (suc left) names other low at = by (all_kept left) (performed at) where
    by : ((more : Names) (later : Run)
        → unbegun one.world.memory.begun later.world.memory < left
        → AtOperation P Q c more one later f g rest others point also
        → BothTurn P Q c more one later)
        → MustBegin one.world.memory other.world.memory (work Q other.world.memory also.op (operands_of (arity also.op) g))
        ⊎ BothTurn P Q c names one other
        → BothTurn P Q c names one other
    by again (inr turned) = turned
    by again (inl must) = behind_quiet at quiet.0
        (λ then. again quiet.0.more (standing other (Method g ∷ others) quiet.0.after quiet.0.steps) still_fewer then) where
          quiet : (by : GoesBy P Q c.allocated c.entered c.apart names one.world.memory other other other.world.frames other.world.memory)
              × IsTrue (is_begun by.after must.class)
          quiet = operation_goes_by g others also must.class same alike at.goes_also at.stands_also at.is_also at.works_also at.enough_also
              must.is must.begun must.begun_not at.memories

          still_fewer : unbegun one.world.memory.begun quiet.0.after < left
          still_fewer =
              let down = one_fewer one.world.memory.begun other.world.memory quiet.0.after must.class quiet.0.begun must.begun
              must.begun_not quiet.1 in
              omega (arith, down, low)

  -- An operation that is in both: the second first begins the classes that it needs and the first has begun, and then both take the same
  -- turn.
  pub operation_kept :
      {names : Names} {other : Run}
      → AtOperation P Q c names one other f g rest others point also
      → BothTurn P Q c names one other
  operation_kept {names = names} {other = other} at =
      all_kept (suc (unbegun one.world.memory.begun other.world.memory)) names other
      (let less : unbegun one.world.memory.begun other.world.memory < suc (unbegun one.world.memory.begun other.world.memory) =
      omega arith in less) at

-- A turn of both where a method that runs its own code in both is on top.
use Rattle.std.proofs.Common.{◌≡◌, ◌≢◌, ◌++◌, ℕ, false, List, [], ◌∷◌, map, reverse, slice_get, Some, None, IsTrue, refl, sym, ap, subst, ◌∙◌, arith, inr}
use Rattle.class_model.specs.declared.class_file.MethodAt.{MethodAt}
use Rattle.machine_values.specs.Frames.{MethodState}
use Rattle.machine_values.specs.declared.frame.RunFrame.{RunFrame}
use Rattle.machine_values.specs.declared.frame.RunFrame.TheVariants.{Beginning, Method}
use Rattle.machine_values.specs.declared.object.Shape.TheVariants.{Folder}
use Rattle.member_link.specs.Machine.Ops.{Op}
use Rattle.member_link.specs.Machine.Programs.{Point, Program, point_at}
use Rattle.member_link.specs.Machine.Runs.{Run, turn}
use Rattle.member_link.specs.Machine.Stepping.{is_library_turn, op_step, step}
use Rattle.member_link.specs.Machine.Work.{arity}
use Rattle.member_link.specs.Machine.Worlds.{World, going, is_begun, stuck}
use Rattle.same_runs.specs.Laws.BothBegin.{counted}
use Rattle.same_runs.specs.Laws.BothTurns.{BehindBoth, behind_both, both_are_over, both_go_on, own_turned}
use Rattle.same_runs.specs.Laws.CaughtUp.{BothTurn, turn_keeps}
use Rattle.same_runs.specs.Laws.Compared.{seen_as}
use Rattle.same_runs.specs.Laws.Operations.{WorksOnOperands}
use Rattle.same_runs.specs.Laws.QuietBeginnings.{BeginAlike}
use Rattle.same_runs.specs.Laws.Turns.{turn_is_step, turned_by_op}
use Rattle.same_runs.specs.Renamings.{Names}
use Rattle.same_runs.specs.SameMemories.{SameMemories}
use Rattle.same_runs.specs.SamePrograms.{SameOp}
use Rattle.same_runs.specs.SameWorlds.{Comparison, Compares, SameAfter, SameSeen}
use Rattle.typed_runs.specs.TypedFrames.{FramesConform, nothing_awaited}
use Rattle.typed_runs.specs.TypedWorlds.{StaysTyped, TypedWorld}
use Rattle.written_runs.specs.Laws.BothTurns.{compared}
use Rattle.written_runs.specs.Laws.FewerVirtuals.{GoesFewer, OwnedBelow, fewer_are_apart, memories_fewer, over_turn, over_turn_compares, owned_below, was_before}
use Rattle.written_runs.specs.Laws.OwnFrames.{FrameLaws, own_goes, own_moves, own_point, own_returns, point_on_top}
use Rattle.written_runs.specs.Inner.PlannedFrames.{Known}
use Rattle.written_runs.specs.Laws.Settling.{SettleLaws, settles as planned_settles}
use Rattle.written_runs.specs.Inner.Setup.{Setup, first, second}
use Rattle.written_runs.specs.Laws.StillThere.{MemoryStays, known_still}
use Rattle.written_runs.specs.Laws.Simulation.{KeepsTurn, quietly_related}
use Rattle.written_runs.specs.Inner.Standing.{InOwn, SameTop, Stands, apart, comparison, is_awaited}
use Rattle.written_runs.specs.Inner.Together.{Along, AreKnown, Related, Together, points_left, weight}
use Rattle.written_runs.specs.VirtualObjects.{AreApart, Virtual, Virtuals}

-- ---- what other parts of the proof give

pub record TurnLaws (u : Setup) : Type 0 where
  pub frames : FrameLaws u
  pub settle : SettleLaws u
  pub alike : BeginAlike (first u) (second u)
  pub steps_typed : (w : World) → TypedWorld (first u) u.typings w → StaysTyped (first u) u.typings w (step (first u) w)
  -- a step leaves objects what they are, and classes begun
  pub keeps : (w : World)
      → TypedWorld (first u) u.typings w
      → w.halt ≡ going
      → is_library_turn w.frames ≡ false
      → MemoryStays w.memory (step (first u) w).memory
  -- frames of rewritten methods that begin stand at their first points
  pub fresh_stands : (virtuals : Virtuals) (known : Known) (names : Names) (w : World) (others : List RunFrame)
      → TypedWorld (first u) u.typings w
      → SameTop u virtuals known names w.frames others
      → Stands u virtuals known false names w.frames others
  -- an operation on operands of a method that is not rewritten does the same in both
  pub own_ops : (at : MethodAt) (place : ℕ) (point : Point)
      → u.written at ≡ None
      → point_at (first u) at place ≡ Some point
      → WorksOnOperands point.op
      → SameOp (first u) (second u) point.op point.op

-- ---- behind a turn of both

-- what does not depend on which virtual objects are left behind
pub record StillThere (virtuals : Virtuals) (known : Known) (w : World) : Type 0 where
  pub are_apart : AreApart virtuals
  pub are_known : AreKnown w.memory.heap known
  pub begun : (number class : ℕ) (virtual : Virtual)
      → slice_get virtuals number ≡ Some virtual
      → virtual.object.shape ≡ Folder class
      → IsTrue (is_begun w.memory class)

module _ (u : Setup) (laws : TurnLaws u) where
  abbrev P : Program
  P = first u

  abbrev Q : Program
  Q = second u

  goes_on_together : {virtuals : Virtuals} {known : Known} {names : Names} (one other : Run)
      → StillThere virtuals known one.world
      → GoesFewer u virtuals known names one.world.frames other.world.frames
      → SameMemories P (comparison u virtuals known).allocated (comparison u virtuals known).entered (apart virtuals) names [] one.world.memory
      other.world.memory
      → SameSeen (over_turn u virtuals known) names one.world other.world
      → one.world.halt ≡ going
      → other.world.halt ≡ going
      → other.actions ≡ one.actions
      → other.used ≡ one.used
      → TypedWorld P u.typings one.world
      → (later : ℕ) × Related u later one other
  goes_on_together {virtuals = virtuals} {known = known} {names = names} one other there fewer memories seen goes goes_also actions used typed =
      let frames : Stands u fewer.left known false names one.world.frames other.world.frames =
      laws.fresh_stands fewer.left known names one.world other.world.frames typed fewer.top in
      let along : Along u one other = record {
        virtuals = fewer.left;
        are_apart = fewer_are_apart fewer.fewer there.are_apart;
        known = known;
        are_known = there.are_known;
        names = names;
        now = [];
        ones = one.world.frames;
        stands = refl;
        others = other.world.frames;
        stands_also = refl;
        frames = frames;
        owned = record {
          owner = λ number virtual is.
              let found = fewer.owned.owner number virtual is in (found.f, found.one, found.is_there, found.is_written);
          begun = λ number class virtual is shape.
              let was = was_before fewer.fewer number virtual is in there.begun was.number class virtual was.is_there shape;
        };
        alone = tt;
        no_turn = tt;
        memories = memories_fewer u known fewer.fewer memories;
        seen =
            seen_as {c = over_turn u virtuals known} {d = comparison u fewer.left known}
            (record { allocated = λ n m low. low; entered = λ n m low. low }) seen;
        goes = goes;
        goes_also = goes_also;
        actions = actions;
        used = used;
        typed = typed;
      } in (
        weight P one.world.memory [] (points_left frames),
        planned_settles u laws.settle (weight P one.world.memory [] (points_left frames)) one other along refl (omega arith),
      )

  pub after_turn : {virtuals : Virtuals} {known : Known} {names : Names} (one other : Run)
      → StillThere virtuals known one.world
      → SameAfter P (over_turn u virtuals known) names one.world other.world
      → TypedWorld P u.typings one.world
      → other.actions ≡ one.actions
      → other.used ≡ one.used
      → (later : ℕ) × Related u later one other
  after_turn {virtuals = virtuals} {known = known} {names = names} one other there then typed actions used =
      by (behind_both laws.frames.same laws.alike (over_turn_compares u (compared u) virtuals known) (λ more ones others is. is) then) where
        by : BehindBoth P Q (over_turn u virtuals known) one.world other → (later : ℕ) × Related u later one other
        by (both_go_on waits more quietly left taken frames memories seen goes goes_also) =
            quietly_related quietly (goes_on_together one waits there frames memories seen goes goes_also (left ∙ actions) (taken ∙ used) typed)
        by (both_are_over waits more quietly left taken seen over same) = (
          0,
          record {
            later = waits;
            quietly = quietly;
            state = inr (record {
              virtuals = virtuals;
              known = known;
              names = more;
              seen =
                  seen_as {c = over_turn u virtuals known} {d = comparison u virtuals known}
                  (record { allocated = λ n m low. low; entered = λ n m low. low }) seen;
              over = over;
              same = same;
              actions = left ∙ actions;
              used = taken ∙ used;
            });
          },
        )

  -- ---- the turn

  module _ (measure : ℕ) (one other : Run) (t : Together u measure one other) (none : t.along.now ≡ []) (f g : MethodState)
      (rest others : List RunFrame) (is : t.along.ones ≡ Method f ∷ rest) (is_also : t.along.others ≡ Method g ∷ others)
      (own : InOwn u t.along.names f g)
      (below : Stands u t.along.virtuals t.along.known (is_awaited u g.at) t.along.names rest others) where
    abbrev a : Along u one other
    a = t.along

    abbrev c : Comparison
    c = over_turn u a.virtuals a.known

    compares : Compares c
    compares = over_turn_compares u (compared u) a.virtuals a.known

    here : one.world.frames ≡ Method f ∷ rest
    here = a.stands ∙ ap (λ (now : List ℕ). map Beginning now ++ a.ones) none ∙ is

    here_also : other.world.frames ≡ Method g ∷ others
    here_also = a.stands_also ∙ is_also

    memories : SameMemories P c.allocated c.entered c.apart a.names [] one.world.memory other.world.memory
    memories =
        subst (λ (now : List ℕ). SameMemories P c.allocated c.entered c.apart a.names now one.world.memory other.world.memory) none a.memories

    seen : SameSeen c a.names one.world other.world
    seen =
        seen_as {c = comparison u a.virtuals a.known} {d = c} (record { allocated = λ n m low. low; entered = λ n m low. low }) a.seen

    typed : FramesConform P u.typings one.world.memory.heap nothing_awaited (Method f ∷ rest)
    typed = subst (FramesConform P u.typings one.world.memory.heap nothing_awaited) here a.typed.frames

    owned : OwnedBelow u a.virtuals rest
    owned = owned_below {x = Method f} (record {
      owner = λ number virtual there low.
          let was = a.owned.owner number virtual there in
          record {
            f = was.0;
            one = was.1;
            is_there = ap (λ (frames : List RunFrame). slice_get (reverse frames) virtual.frame) (sym is) ∙ was.2;
            is_written = was.3;
          };
    })

    no_turn : is_library_turn one.world.frames ≡ false
    no_turn = ap is_library_turn here

    point : (point : Point) × (point_at P f.at f.place ≡ Some point)
    point = point_on_top u typed

    abbrev op : Op
    op = point.0.op

    at_also : point_at Q g.at g.place ≡ Some point.0
    at_also = own_point u laws.frames point.0 own point.1

    -- what the first's turn leads to
    stepped : (w : World) → turn P one ≡ record one { world = w } → step P one.world ≡ w
    stepped w = turn_is_step P one w a.goes no_turn

    stays : StaysTyped P u.typings one.world (step P one.world)
    stays = laws.steps_typed one.world a.typed

    not_stuck : (op_step P (counted one) f rest op).halt ≢ stuck
    not_stuck is_stuck =
        stays.not_stuck (λ is_stuck_before. absurd (cc (sym a.goes ∙ is_stuck_before)))
        (ap (λ (w : World). w.halt) (stepped (op_step P (counted one) f rest op) (turned_by_op P one f rest point.0 a.goes here point.1)) ∙ is_stuck)

    still_there : StillThere a.virtuals a.known (step P one.world)
    still_there =
        let kept = laws.keeps one.world a.typed a.goes no_turn in
        record {
          are_apart = a.are_apart;
          are_known = known_still kept.shapes a.are_known;
          begun = λ number class virtual there shape. kept.begun class (a.owned.begun number class virtual there shape);
        }

    keeps : BothTurn P Q c a.names one other → KeepsTurn u measure one other
    keeps both =
        let led = stepped both.first both.turned in
        let then = after_turn (record one { world = both.first }) (record other { world = both.second })
        (subst (StillThere a.virtuals a.known) led still_there) both.after (subst (TypedWorld P u.typings) led stays.typed) a.actions a.used in
        turn_keeps measure then.0 both then.1

    pub own_turn : KeepsTurn u measure one other
    own_turn =
        keeps (own_turned
        (record { stands = here; stands_also = here_also; memories = memories; seen = seen; goes = a.goes; goes_also = a.goes_also }) point.1
        laws.frames.same laws.alike compares not_stuck at_also (laws.own_ops f.at f.place point.0 own.not_written point.1) own.stack
        (own_goes u laws.frames a.virtuals a.known own below owned typed (arity op))
        (own_moves u laws.frames a.virtuals a.known own below owned typed) (own_returns u laws.frames a.virtuals a.known own below owned typed))

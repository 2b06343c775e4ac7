-- The second run on its way to where the instruction of the topmost planned frame is next in both: it makes objects and jumps.
use Rattle.std.proofs.Common.{◌≡◌, ◌==◌, ◌+◌, ℕ, Bool, true, false, List, [], ◌∷◌, length, slice_get, Some, IsTrue, refl, sym, ap, subst, ◌∙◌, arith}
use Rattle.std.proofs.lemmas.Bool.{eq-eqb, false≢true}
use Rattle.machine_values.specs.Frames.{MethodState}
use Rattle.machine_values.specs.declared.frame.RunFrame.{RunFrame}
use Rattle.machine_values.specs.declared.frame.RunFrame.TheVariants.{Method}
use Rattle.making_code.specs.MakeCode.{make_code}
use Rattle.making_code.specs.MakeOrder.{IsMakeOrder}
use Rattle.member_link.specs.Machine.Ops.{jump_to}
use Rattle.member_link.specs.Machine.Programs.{Code, Point as RunPoint, code_at}
use Rattle.member_link.specs.Machine.Runs.{Run}
use Rattle.member_link.specs.Machine.Worlds.{going}
use Rattle.flow_code.specs.declared.point.Point.{Point}
use Rattle.plan_flow.specs.Plans.{IsMadeIn}
use Rattle.plan_flow.specs.Written.WrittenPrograms.{WrittenMethod}
use Rattle.same_runs.specs.Laws.Compared.{seen_as}
use Rattle.same_runs.specs.Laws.Names.{held_more, references_more}
use Rattle.same_runs.specs.Laws.QuietBeginnings.{quietly_then, standing}
use Rattle.same_runs.specs.Laws.QuietMoves.{moves_quietly}
use Rattle.same_runs.specs.QuietMoves.{moves}
use Rattle.same_runs.specs.Renamings.{Names, SameHeld}
use Rattle.same_runs.specs.SameMemories.{SameMemories}
use Rattle.same_runs.specs.SameWorlds.{SameSeen}
use Rattle.same_runs.specs.Simulations.{Quietly}
use Rattle.typed_runs.specs.TypedWorlds.{TypedWorld}
use Rattle.virtual_state.specs.Laws.Removals.{present_behind}
use Rattle.virtual_state.specs.Sites.{has}
use Rattle.virtual_state.specs.States.{IsState, State, is_present}
use Rattle.virtual_state.specs.Without.{without}
use Rattle.written_runs.specs.Laws.LessVirtual.{is_left, left_of_other, still_apart, was_in, was_virtual, WasIn}
use Rattle.written_runs.specs.Inner.MadeObjects.{BehindMaking, CanBeKept, CanBeSaved, MakesObjects, StandAt, left_of}
use Rattle.written_runs.specs.Inner.PlannedFrames.{Keeps, Known, scope_in}
use Rattle.written_runs.specs.Inner.Setup.{Setup, first, second}
use Rattle.written_runs.specs.Inner.Standing.{Stands, apart, comparison, is_awaited}
use Rattle.written_runs.specs.Laws.StandingMore.{KnowsMore, SameBelow, stands_more}
use Rattle.written_runs.specs.Inner.Together.{AreKnown, AreOwned}
use Rattle.written_runs.specs.VirtualObjects.{AreApart, Tells, Virtual, Virtuals}

-- The two runs with a planned frame on top, by a state of the point at which the first frame stands; the second frame is at the item of a number.
pub record Halfway (u : Setup) (one other : Run) (f : MethodState) (rest : List RunFrame) (w : WrittenMethod) (known : Known) (point : Point)
    (state : State) (place : ℕ)
    : Type 0 where
  pub virtuals : Virtuals
  pub are_apart : AreApart virtuals
  pub are_known : AreKnown one.world.memory.heap known
  pub names : Names
  pub g : MethodState
  pub rest_also : List RunFrame
  pub stands : one.world.frames ≡ Method f ∷ rest
  pub stands_also : other.world.frames ≡ Method g ∷ rest_also
  pub is_written : u.written g.at ≡ Some w
  pub at : f.at ≡ g.at
  pub held : SameHeld names f.held g.held
  pub place_also : g.place ≡ place
  pub tells : Tells (first u) (scope_in u w) virtuals (length rest) point state f
  pub keeps : Keeps w.flat names virtuals (length rest) [] point state f g
  pub own : (number : ℕ) (virtual : Virtual)
      → slice_get virtuals number ≡ Some virtual
      → virtual.frame ≡ length rest
      → IsTrue (is_present state.objects virtual.site)
  pub below : Stands u virtuals known (is_awaited u g.at) names rest rest_also
  pub owned : AreOwned u virtuals one.world.memory (Method f ∷ rest)
  pub memories : SameMemories (first u) (comparison u virtuals known).allocated (comparison u virtuals known).entered (apart virtuals)
      names [] one.world.memory other.world.memory
  pub seen : SameSeen (comparison u virtuals known) names one.world other.world
  pub goes : one.world.halt ≡ going
  pub goes_also : other.world.halt ≡ going
  pub actions : other.actions ≡ one.actions
  pub used : other.used ≡ one.used
  pub typed : TypedWorld (first u) u.typings one.world

-- the second run goes on quietly to where it stands so
pub record GoesOn (u : Setup) (one other : Run) (f : MethodState) (rest : List RunFrame) (w : WrittenMethod) (known : Known) (point : Point)
    (state : State) (place : ℕ)
    : Type 0 where
  pub later : Run
  pub quietly : Quietly (second u) other later
  pub there : Halfway u one later f rest w known point state place

-- ---- make code

-- what make code asks for, beside what the runs are
pub record CanMake (u : Setup) (f : MethodState) (w : WrittenMethod) (point : Point) (state : State) (made order : List ℕ) (place : ℕ)
    : Type 0 where
  pub is_point : slice_get w.flat.points f.place ≡ Some point
  pub is_state : IsState state
  pub is_made : IsMadeIn state made
  pub is_order : IsMakeOrder state.objects made order
  pub items : StandAt u w place (make_code w.flat f.place state made order)
  pub savable : CanBeSaved w f.place point state made f

knows_itself : (known : Known) → KnowsMore known known
knows_itself known = record { keeps = λ reference class is. is }

-- frames below are of others than the one whose objects are made
same_below : (frame : ℕ) (made : List ℕ) (virtuals : Virtuals) → SameBelow virtuals (left_of frame made virtuals) frame
same_below frame made virtuals other low = record {
  forth = λ site virtual there. left_of_other frame other site made virtuals virtual (λ same. absurd (omega (arith, low, same))) there;
  back = λ site virtual there. was_virtual frame other site made virtuals virtual there;
}

module _ {u : Setup} (making : MakesObjects u) {one other : Run} {f : MethodState} {rest : List RunFrame} {w : WrittenMethod} {known : Known}
    {point : Point} {state : State} {place : ℕ} (made order : List ℕ)
    (h : Halfway u one other f rest w known point state place) (can : CanMake u f w point state made order place)
    (kept : CanBeKept w h.virtuals (length rest) point state f) where
  behind : BehindMaking u h.virtuals h.names (length rest) w f.place point state made order f h.g h.rest_also one.world.memory other
  behind =
      making h.virtuals h.names (length rest) w f.place point state made order f h.g h.rest_also one.world.memory other (record {
        is_written = h.is_written;
        is_point = can.is_point;
        is_state = can.is_state;
        is_made = can.is_made;
        is_order = can.is_order;
        items = subst (λ (n : ℕ). StandAt u w n (make_code w.flat f.place state made order)) (sym h.place_also) can.items;
        stands_also = h.stands_also;
        goes_also = h.goes_also;
        are_apart = h.are_apart;
        begun = h.owned.begun;
        savable = can.savable;
        kept = kept;
        tells = h.tells;
        keeps = h.keeps;
        memories = h.memories;
      })

  abbrev left : Virtuals
  left = left_of (length rest) made h.virtuals

  was : (number : ℕ) (virtual : Virtual) → slice_get left number ≡ Some virtual → WasIn (is_left (length rest) made) h.virtuals virtual
  was number virtual is = was_in (is_left (length rest) made) h.virtuals number virtual is

  -- an object that is left of this frame is one of a site that is not made
  unmade : (virtual : Virtual) → is_left (length rest) made virtual ≡ true → virtual.frame ≡ length rest → has made virtual.site ≡ false
  unmade virtual passes of_frame = by (has made virtual.site) refl where
    by : (is : Bool) → has made virtual.site ≡ is → has made virtual.site ≡ false
    by true is = absurd (false≢true (sym (rw (ap (λ (n : ℕ). n == length rest) of_frame ∙ eq-eqb (length rest) (length rest) refl, is) refl) ∙ passes))
    by false is = is

  pub makes_on : GoesOn u one other f rest w known point (without state (has made)) (place + length (make_code w.flat f.place state made order))
  makes_on = record {
    later = standing other (Method behind.then_frame ∷ h.rest_also) behind.then_memory behind.steps;
    quietly = behind.quietly;
    there = record {
      virtuals = left;
      are_apart = still_apart (is_left (length rest) made) h.virtuals h.are_apart;
      are_known = h.are_known;
      names = behind.more;
      g = behind.then_frame;
      rest_also = h.rest_also;
      stands = h.stands;
      stands_also = refl;
      is_written = ap u.written behind.method ∙ h.is_written;
      at = h.at ∙ sym behind.method;
      held = subst (SameHeld behind.more f.held) (sym behind.held) (held_more behind.names_more h.held);
      place_also = behind.place ∙ ap (λ (n : ℕ). n + length (make_code w.flat f.place state made order)) h.place_also;
      tells = behind.tells;
      keeps = behind.keeps;
      own = λ number virtual is of_frame.
          let there = was number virtual is in
          present_behind (has made) state.objects virtual.site
          (h.own there.number virtual there.is_there of_frame) (unmade virtual there.passes of_frame);
      below =
          subst (λ (waiting : Bool). Stands u left known waiting behind.more rest h.rest_also) (ap (is_awaited u) (sym behind.method))
          (stands_more (same_below (length rest) made h.virtuals) (knows_itself known) behind.names_more h.below);
      owned = record {
        owner = λ number virtual is. let there = was number virtual is in h.owned.owner there.number virtual there.is_there;
        begun = λ number class virtual is shape.
            let there = was number virtual is in h.owned.begun there.number class virtual there.is_there shape;
      };
      memories = behind.memories;
      seen = record {
        known = references_more behind.names_more h.seen.known;
        events = (seen_as {c = comparison u h.virtuals known} {d = comparison u left known} (record {
          allocated = λ n m less. less;
          entered = λ n m less. less;
        }) h.seen).events;
      };
      goes = h.goes;
      goes_also = h.goes_also;
      actions = h.actions;
      used = h.used;
      typed = h.typed;
    };
  }

-- ---- a jump

module _ {u : Setup} {one other : Run} {f : MethodState} {rest : List RunFrame} {w : WrittenMethod} {known : Known}
    {point : Point} {state : State} {place : ℕ} (h : Halfway u one other f rest w known point state place) (code : Code) (item : RunPoint)
    (to : ℕ) where
  abbrev jumped : MethodState
  jumped = record h.g { place = to }

  stands_at_item : standing other (Method h.g ∷ h.rest_also) other.world.memory other.world.steps ≡ other
  stands_at_item = λ i. record other { world = record other.world { frames = sym h.stands_also i } }

  pub jumps_on : code_at (second u) h.g.at ≡ Some code
      → slice_get code.points place ≡ Some item
      → item.op ≡ jump_to to
      → GoesOn u one other f rest w known point state to
  jumps_on is_code is_item jumps = record {
    later = standing other (Method jumped ∷ h.rest_also) other.world.memory quiet.0;
    quietly = subst (λ (r : Run). Quietly (second u) r (standing other (Method jumped ∷ h.rest_also) other.world.memory quiet.0)) stands_at_item quiet.1;
    there = record {
      virtuals = h.virtuals;
      are_apart = h.are_apart;
      are_known = h.are_known;
      names = h.names;
      g = jumped;
      rest_also = h.rest_also;
      stands = h.stands;
      stands_also = refl;
      is_written = h.is_written;
      at = h.at;
      held = h.held;
      place_also = refl;
      tells = h.tells;
      keeps = record {
        locals = λ unit value is here. let kept = h.keeps.locals unit value is here in record { also = kept.also; is = kept.is; same = kept.same };
        stack = h.keeps.stack;
        fields = λ site number told virtual value is there plain here.
            let kept = h.keeps.fields site number told virtual value is there plain here in
            record { also = kept.also; is = kept.is; same = kept.same };
        made = λ site done. absurd (false≢true done);
        room = h.keeps.room;
      };
      own = h.own;
      below = h.below;
      owned = h.owned;
      memories = h.memories;
      seen = record { known = h.seen.known; events = h.seen.events };
      goes = h.goes;
      goes_also = h.goes_also;
      actions = h.actions;
      used = h.used;
      typed = h.typed;
    };
  } where
    moved : moves code 1 h.g ≡ Some jumped
    moved = rw (h.place_also, is_item, jumps) refl

    quiet : (later : ℕ) × Quietly (second u) (standing other (Method h.g ∷ h.rest_also) other.world.memory other.world.steps)
        (standing other (Method jumped ∷ h.rest_also) other.world.memory later)
    quiet = moves_quietly other code 1 h.g jumped other.world.memory other.world.steps h.goes_also is_code moved

-- two ways one after the other
pub goes_then : {u : Setup} {one other : Run} {f : MethodState} {rest : List RunFrame} {w : WrittenMethod} {known : Known} {point : Point}
    {state later_state : State} {place later_place : ℕ}
    (on : GoesOn u one other f rest w known point state place)
    → GoesOn u one on.later f rest w known point later_state later_place
    → GoesOn u one other f rest w known point later_state later_place
goes_then on more = record { later = more.later; quietly = quietly_then on.quietly more.quietly; there = more.there }

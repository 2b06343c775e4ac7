-- Each turn of the folder's program keeps runs related: so the program whose hosts run flat code runs equally.
use Rattle.std.proofs.Common.{◌≡◌, ◌⊎◌, ◌≤◌, ◌++◌, ℕ, Bool, false, List, [], ◌∷◌, length, map, slice_get, Option, Some, None, refl, sym, ap, subst, ◌∙◌, arith, inl, inr}
use Rattle.class_model.specs.declared.class_file.MethodAt.{MethodAt}
use Rattle.class_model.specs.declared.descriptor.Kind.{Kind}
use Rattle.class_model.specs.declared.frame.Frame.{Frame}
use Rattle.class_model.specs.declared.instr.Instr.TheVariants.{Return}
use Rattle.class_model.specs.declared.instr.Placed.{Placed}
use Rattle.expanded_code.specs.Expanded.{arguments}
use Rattle.expanded_code.specs.Expansions.{Coded, Expansion}
use Rattle.expanded_code.specs.Sites.{HasFrames, IsReplaced}
use Rattle.expanded_runs.proofs.Runs.CalleeReturns.{Caller, ReturnsAlone, caller_of, return_turn}
use Rattle.expanded_runs.proofs.Runs.CalleeTurns.{call_turn}
use Rattle.expanded_runs.proofs.Runs.EntryLaws.{units_of_arguments}
use Rattle.expanded_runs.proofs.Runs.FlatFacts.{FlatFacts}
use Rattle.expanded_runs.proofs.Runs.FlatOps.{AtPlace, at_call, at_op, at_return, own_result}
use Rattle.expanded_runs.proofs.Runs.FlatTurns.{flat_turn}
use Rattle.expanded_runs.proofs.Runs.LibraryTurns.{LibraryParts, beginning_turn, library_turn}
use Rattle.expanded_runs.proofs.Runs.OpTurns.{AtMethod, does_of}
use Rattle.expanded_runs.proofs.Runs.OwnTurns.{OwnParts, own_turn}
use Rattle.expanded_runs.proofs.Runs.Positions.{IsReplacedAt, block_of, inner_standing, instrs_of}
use Rattle.expanded_runs.proofs.Runs.ReplacedCalls.{IsPlainMethod, ReplacedCall}
use Rattle.expanded_runs.proofs.Runs.SameStanding.{Holds, InFlat, SameStanding, comparison, beginnings_stand, flat_stands, libraries_stand, none_stand, own_stand, is_awaited}
use Rattle.expanded_runs.proofs.Runs.Setup.{Setup, after, before}
use Rattle.expanded_runs.proofs.Runs.StandingCodes.{standing_of}
use Rattle.expanded_runs.proofs.Runs.Standings.{Stands}
use Rattle.expanded_runs.proofs.Runs.Together.{Basis, Over, Related, Together, beginning_keeps, depth, over_keeps, weight}
use Rattle.machine_values.specs.Frames.{MethodState}
use Rattle.machine_values.specs.declared.action.Action.{Action}
use Rattle.machine_values.specs.declared.frame.RunFrame.{RunFrame}
use Rattle.machine_values.specs.declared.frame.RunFrame.TheVariants.{Beginning, Method}
use Rattle.member_link.specs.Machine.Codes.{return_op}
use Rattle.member_link.specs.Machine.Programs.{Point, Program, point_at}
use Rattle.member_link.specs.Machine.Runs.{Run, begins_with, shown}
use Rattle.member_link.specs.Machine.Stepping.{is_library_turn}
use Rattle.member_link.specs.Machine.Worlds.{World, start}
use Rattle.same_runs.specs.EqualRuns.{EqualRuns}
use Rattle.same_runs.specs.Laws.AloneRuns.{same_turn_below}
use Rattle.same_runs.specs.Laws.QuietCalls.{quiet_keeps}
use Rattle.same_runs.specs.Laws.Simulated.{ends_over_same, ends_same, events_equal, memories_at_start, none_named, shows_equal, simulated_equally}
use Rattle.same_runs.specs.Laws.Turns.{quietly_shows}
use Rattle.same_runs.specs.Renamings.{Names, no_references, none_held as no_held}
use Rattle.same_runs.specs.SameMemories.{SameMemories}
use Rattle.same_runs.specs.SameWorlds.{no_events}
use Rattle.same_runs.specs.Simulations.{Keeps, at_once}
use Rattle.typed_runs.specs.TypedFrames.{FramesConform, nothing_awaited}
use Rattle.typed_runs.specs.TypedWorlds.{TypedWorld}

-- what the parts of the proof give together
pub record Parts (u : Setup) : Type 0 where
  pub basis : Basis u
  pub facts : FlatFacts u
  pub own : OwnParts u
  pub library : LibraryParts u
  pub place : (names : Names) (f g : MethodState) (waiting : List MethodState) (point : Point) (in_flat : InFlat u names f waiting g)
      → point_at (before u) f.at f.place ≡ Some point
      → (placed : Placed) × (slice_get (instrs_of in_flat.p) f.place ≡ Some placed)
      × AtPlace u in_flat.expanded.host in_flat.chain in_flat.p f.place placed point
  pub call : (names : Names) (w : World) (f g : MethodState) (waiting : List MethodState) (rest : List RunFrame) (point : Point)
      (placed : Placed) (h : Coded) (in_flat : InFlat u names f waiting g)
      → TypedWorld (before u) u.typings w
      → w.frames ≡ Method f ∷ rest
      → point_at (before u) f.at f.place ≡ Some point
      → slice_get (instrs_of in_flat.p) f.place ≡ Some placed
      → IsReplaced u.classes u.typed in_flat.expanded.host.at in_flat.chain in_flat.p.setting.coded.at placed.at h.at
      → HasFrames u.classes u.typed h.at h.scope h.frames
      → ReplacedCall u w.memory f point h
  pub inner : (names : Names) (f g : MethodState) (waiting : List MethodState) (placed : Placed) (frame : Frame) (h : Coded)
      (expansion : Expansion) (in_flat : InFlat u names f waiting g)
      → IsReplacedAt in_flat.p f.place placed frame h expansion
      → Stands u.classes u.typed in_flat.expanded.host in_flat.expanded.expansion (h.at ∷ in_flat.chain)
      (inner_standing in_flat.p f.place placed frame h expansion)
  pub few : (h : Coded) (unit : ℕ)
      → HasFrames u.classes u.typed h.at h.scope h.frames
      → units_of_arguments (arguments h.scope unit) ≤ h.scope.part.max_locals
  pub alone : (names : Names) (w : World) (f g : MethodState) (waiting : List MethodState) (rest : List RunFrame) (point : Point)
      (placed : Placed) (kind : Option Kind) (callee : MethodAt) (more : List MethodAt) (in_flat : InFlat u names f waiting g)
      → TypedWorld (before u) u.typings w
      → w.frames ≡ Method f ∷ rest
      → point_at (before u) f.at f.place ≡ Some point
      → slice_get (instrs_of in_flat.p) f.place ≡ Some placed
      → in_flat.chain ≡ callee ∷ more
      → placed.instr ≡ Return kind
      → point.op ≡ return_op (own_result in_flat.p) kind
      → ReturnsAlone (own_result in_flat.p) f.stack
  pub starts : TypedWorld (before u) u.typings start

module _ (u : Setup) (parts : Parts u) where
  abbrev P : Program
  P = before u

  abbrev Q : Program
  Q = after u

  -- the host is the method that has the flat code
  own_host : {names : Names} {f g : MethodState} {waiting : List MethodState} (in_flat : InFlat u names f waiting g)
      → in_flat.expanded.host.at ≡ g.at
  own_host in_flat = in_flat.expanded.own

  none_held : {names : Names} {f g : MethodState} {waiting : List MethodState} (callee : MethodAt) (more : List MethodAt)
      (in_flat : InFlat u names f waiting g)
      → in_flat.chain ≡ callee ∷ more
      → f.held ≡ None
  none_held {names = names} {f = f} {g = g} callee more in_flat is =
      subst (λ (chain : List MethodAt). Holds names chain f.held g.held) is in_flat.in_place.held

  plain_callee : {names : Names} (f g : MethodState) (waiting : List MethodState) (in_flat : InFlat u names f waiting g)
      (caller : Caller u names in_flat.expanded.host in_flat.expanded.expansion g.held g.locals in_flat.chain in_flat.p waiting in_flat.below)
      → IsPlainMethod u caller.g
  plain_callee f g waiting in_flat caller =
      parts.facts.callee g.at in_flat.flat caller.chain_below caller.q caller.caller.place caller.placed caller.frame caller.g caller.inner
      in_flat.is_flat in_flat.expanded (standing_of caller.outer) caller.here

  -- ---- one turn

  module _ {measure : ℕ} {one other : Run} (t : Together u measure one other) (none : t.now ≡ []) where
    memories : SameMemories P (λ n m. n ≡ m) (λ n m. n ≡ m) [] t.names [] one.world.memory other.world.memory
    memories = subst (λ (now : List ℕ). SameMemories P (λ n m. n ≡ m) (λ n m. n ≡ m) [] t.names now one.world.memory other.world.memory) none t.memories

    stands : one.world.frames ≡ t.ones
    stands = t.stands ∙ ap (λ (now : List ℕ). map Beginning now ++ t.ones) none

    at_method : (f g : MethodState) (rest others : List RunFrame) → t.ones ≡ Method f ∷ rest → t.others ≡ Method g ∷ others
        → AtMethod u t.names one other f g rest others
    at_method f g rest others is is_also = record {
      both = record {
        stands = stands ∙ is;
        stands_also = t.stands_also ∙ is_also;
        memories = memories;
        seen = t.seen;
        goes = t.goes;
        goes_also = t.goes_also;
      };
      actions = t.actions;
      used = t.used;
      typed = t.typed;
    }

    -- of flat code
    flat : (f g : MethodState) (waiting : List MethodState) (ones others : List RunFrame) (point : Point)
        (in_flat : InFlat u t.names f waiting g)
        → t.ones ≡ Method f ∷ map Method waiting ++ ones
        → t.others ≡ Method g ∷ others
        → SameStanding u (is_awaited u g.at) t.names ones others
        → weight P one.world.memory [] (length in_flat.chain) ≤ measure
        → point_at P f.at f.place ≡ Some point
        → Keeps P Q (Related u) measure one other
    flat f g waiting ones others point in_flat is is_also below low is_point =
        by (parts.place t.names f g waiting point in_flat is_point) where
          here : AtMethod u t.names one other f g (map Method waiting ++ ones) others
          here = at_method f g (map Method waiting ++ ones) others is is_also

          by : (placed : Placed) × (slice_get (instrs_of in_flat.p) f.place ≡ Some placed)
              × AtPlace u in_flat.expanded.host in_flat.chain in_flat.p f.place placed point
              → Keeps P Q (Related u) measure one other
          by (placed, is_placed, at_op stands_here ends) =
              flat_turn u parts.basis parts.facts measure here is_point in_flat below stands_here ends (own_host in_flat)
          by (placed, is_placed, at_return {callee = callee} {more = more} kind chain instr op stands_here) =
              return_turn u parts.basis measure here is_point in_flat below (own_host in_flat) kind caller
              (none_held callee more in_flat chain) (plain_callee f g waiting in_flat caller) op stands_here
              (parts.alone t.names one.world f g waiting (map Method waiting ++ ones) point placed kind callee more in_flat t.typed
              (stands ∙ is) is_point is_placed chain instr op) where
                caller : Caller u t.names in_flat.expanded.host in_flat.expanded.expansion g.held g.locals in_flat.chain in_flat.p waiting in_flat.below
                caller = caller_of callee more in_flat.inside chain
          by (placed, is_placed, at_call frame h inner replaced_here replaced frames entry) =
              call_turn u parts.basis parts.facts measure here is_point in_flat below low (own_host in_flat) replaced_here entry
              (parts.call t.names one.world f g waiting (map Method waiting ++ ones) point placed h in_flat t.typed (stands ∙ is) is_point
              is_placed replaced frames)
              replaced.follows.short (parts.inner t.names f g waiting placed frame h inner in_flat replaced_here)
              (parts.few h (block_of in_flat.p f.place) frames)

    both_frames : (ones others : List RunFrame) (frames : SameStanding u false t.names ones others)
        → t.ones ≡ ones
        → t.others ≡ others
        → weight P one.world.memory [] (depth frames) ≤ measure
        → Keeps P Q (Related u) measure one other
    both_frames ones others none_stand is is_also low = absurd (no_frames (subst (FramesConform P u.typings one.world.memory.heap nothing_awaited) (stands ∙ is) t.typed.frames)) where
      no_frames : FramesConform P u.typings one.world.memory.heap nothing_awaited [] → ⊥
      no_frames impossible = elim impossible [ ]
    both_frames ones others (libraries_stand {made = made} {made_also = made_also} {ones = rest} {others = rest_also} held below) is is_also low =
        library_turn u parts.basis parts.facts parts.library t none made made_also rest rest_also (stands ∙ is) (t.stands_also ∙ is_also)
        held below
    both_frames ones others (beginnings_stand {class = class} {ones = rest} {others = rest_also} below) is is_also low =
        beginning_turn u parts.basis parts.facts parts.library t none class rest rest_also (stands ∙ is) (t.stands_also ∙ is_also) below
    both_frames ones others (own_stand {f = f} {g = g} {ones = rest} {others = rest_also} in_own below) is is_also low =
        let does = does_of u one.world f rest t.typed (stands ∙ is) in
        own_turn u parts.basis parts.facts parts.own measure (at_method f g rest rest_also is is_also) does.stands.is_point in_own below
    both_frames ones others (flat_stands {f = f} {g = g} {waiting = waiting} {ones = rest} {others = rest_also} in_flat waits below) is is_also low =
        let does = does_of u one.world f (map Method waiting ++ rest) t.typed (stands ∙ is) in
        flat f g waiting rest rest_also does.stands.point in_flat is is_also below low does.stands.is_point

  together_keeps : (measure : ℕ) (one other : Run) → Together u measure one other → Keeps P Q (Related u) measure one other
  together_keeps measure one other t = by t.now refl where
    by : (now : List ℕ) → t.now ≡ now → Keeps P Q (Related u) measure one other
    by [] none =
        both_frames t none t.ones t.others t.frames refl refl
        (subst (λ (now : List ℕ). weight P one.world.memory now (depth t.frames) ≤ measure) none t.low)
    by (class ∷ now) some = beginning_keeps u parts.basis t class now some

  keeps : (measure : ℕ) (one other : Run) → Related u measure one other → Keeps P Q (Related u) measure one other
  keeps measure one other related = by related.state where
    by : Together u measure one related.waits ⊎ Over u one related.waits → Keeps P Q (Related u) measure one other
    by (inl t) = quiet_keeps related.quietly (together_keeps measure one related.waits t)
    by (inr over) = quiet_keeps related.quietly (over_keeps u parts.basis measure one related.waits over)

  -- ---- what is shown

  -- it is the library's turn in both or in none
  same_turn : {waits : Bool} {names : Names} {ones others : List RunFrame} → SameStanding u waits names ones others
      → is_library_turn others ≡ is_library_turn ones
  same_turn none_stand = refl
  same_turn (libraries_stand held below) = refl
  same_turn (beginnings_stand below) = refl
  same_turn (own_stand in_own below) = refl
  same_turn (flat_stands in_flat waits below) = refl

  together_shows : (measure : ℕ) (one other : Run) → Together u measure one other → shown one ≡ shown other
  together_shows measure one other t =
      shows_equal one other (events_equal {c = comparison u} (λ n m is. is) (λ n m is. is) t.seen.events)
      (ends_same one other (t.goes_also ∙ sym t.goes)
      (same_turn_below t.now t.ones t.others one.world other.world t.stands t.stands_also t.no_turn (same_turn t.frames)) t.actions t.used)

  over_shows : (one other : Run) → Over u one other → shown one ≡ shown other
  over_shows one other over =
      shows_equal one other (events_equal {c = comparison u} (λ n m is. is) (λ n m is. is) over.seen.events)
      (ends_over_same one other over.over over.same over.used)

  shows : (measure : ℕ) (one other : Run) → Related u measure one other → shown one ≡ shown other
  shows measure one other related = by related.state ∙ quietly_shows related.quietly where
    by : Together u measure one related.waits ⊎ Over u one related.waits → shown one ≡ shown related.waits
    by (inl t) = together_shows measure one related.waits t
    by (inr over) = over_shows one related.waits over

  -- ---- both runs from the start

  starts_together : (actions : List Action) → (measure : ℕ) × Related u measure (begins_with actions) (begins_with actions)
  starts_together actions = (
    weight P start.memory [] 0,
    record {
      waits = begins_with actions;
      quietly = at_once;
      state = inl (record {
        names = none_named;
        now = [];
        ones = start.frames;
        stands = refl;
        others = start.frames;
        stands_also = refl;
        frames = libraries_stand no_held none_stand;
        alone = tt;
        no_turn = tt;
        memories = memories_at_start P refl refl;
        seen = record { known = no_references; events = no_events };
        goes = refl;
        goes_also = refl;
        actions = refl;
        used = refl;
        typed = parts.starts;
        low = omega arith;
      });
    },
  )

  -- The program whose hosts run flat code runs equally.
  pub runs_equally : EqualRuns P Q
  runs_equally = simulated_equally (record { shows = shows; keeps = keeps }) starts_together

-- A turn of both where the library's frame is on top of both.
use Rattle.std.proofs.Common.{◌≡◌, ◌⊎◌, ◌++◌, ℕ, Bool, true, List, [], ◌∷◌, map, reverse, slice_get, Option, refl, sym, ap, subst, ◌∙◌, inl, inr}
use Rattle.machine_values.specs.Heaps.{Heap}
use Rattle.machine_values.specs.declared.action.Action.{Action}
use Rattle.machine_values.specs.declared.frame.RunFrame.TheVariants.{Beginning, Library}
use Rattle.machine_values.specs.declared.frame.RunFrame.{RunFrame}
use Rattle.member_link.specs.Machine.Acting.{act}
use Rattle.member_link.specs.Machine.Programs.{Program}
use Rattle.member_link.specs.Machine.Runs.{Run}
use Rattle.member_link.specs.Machine.Stepping.{is_library_turn}
use Rattle.same_runs.specs.Laws.BothTurns.{LibraryTurn, library_turned, takes_action, waits_for_action}
use Rattle.same_runs.specs.Laws.Compared.{seen_as}
use Rattle.same_runs.specs.Laws.Turns.{turns_keep}
use Rattle.same_runs.specs.Renamings.{Names, SameHeld}
use Rattle.same_runs.specs.SameMemories.{SameMemories}
use Rattle.same_runs.specs.SameWorlds.{AtLibrary, Comparison, SameSeen}
use Rattle.same_runs.specs.Simulations.{at_once}
use Rattle.typed_runs.specs.TypedFrames.{FramesConform, asked_library, lowest, nothing_awaited, upon}
use Rattle.typed_runs.specs.TypedWorlds.{TypedWorld}
use Rattle.written_runs.specs.Laws.BothTurns.{compared}
use Rattle.written_runs.specs.Laws.FewerVirtuals.{OwnedBelow, over_turn, over_turn_compares, owned_below}
use Rattle.written_runs.specs.Laws.LibraryFrames.{LibraryLaws, at_library}
use Rattle.written_runs.specs.Laws.OwnTurns.{StillThere, after_turn}
use Rattle.written_runs.specs.Inner.PlannedFrames.{Known}
use Rattle.written_runs.specs.Inner.Setup.{Setup, first, second}
use Rattle.written_runs.specs.Laws.StillThere.{known_still}
use Rattle.written_runs.specs.Laws.Simulation.{KeepsTurn}
use Rattle.written_runs.specs.Inner.Standing.{Stands, beginnings_stand, comparison, libraries_stand, none_stand, own_stand, planned_stand}
use Rattle.written_runs.specs.Inner.Together.{Along, Together}
use Rattle.written_runs.specs.VirtualObjects.{Virtuals}

-- the lowest frame of the library has none below it
typed_rest : (u : Setup) {heap : Heap} {made : Option ℕ} {rest : List RunFrame}
    → FramesConform (first u) u.typings heap nothing_awaited (Library made ∷ rest)
    → FramesConform (first u) u.typings heap asked_library rest ⊎ (rest ≡ [])
typed_rest u (lowest known) = inr refl
typed_rest u (upon conforms rest) = inl rest

none_also : {u : Setup} {virtuals : Virtuals} {known : Known} {waiting : Bool} {names : Names} {ones others : List RunFrame}
    → Stands u virtuals known waiting names ones others
    → ones ≡ []
    → others ≡ []
none_also none_stand none = refl
none_also (libraries_stand held below) none = absurd (cc none)
none_also (beginnings_stand below) none = absurd (cc none)
none_also (own_stand own below) none = absurd (cc none)
none_also (planned_stand in_planned waits below) none = absurd (cc none)

-- ---- the turn

module _ (u : Setup) (laws : LibraryLaws u) (measure : ℕ) (one other : Run) (t : Together u measure one other) (none : t.along.now ≡ [])
    (made made_also : Option ℕ) (rest others : List RunFrame) (is : t.along.ones ≡ Library made ∷ rest) (is_also : t.along.others ≡ Library made_also ∷ others)
    (held : SameHeld t.along.names made made_also) (below : Stands u t.along.virtuals t.along.known true t.along.names rest others) where
  abbrev P : Program
  P = first u

  abbrev Q : Program
  Q = second u

  abbrev a : Along u one other
  a = t.along

  abbrev c : Comparison
  c = over_turn u a.virtuals a.known

  here : one.world.frames ≡ Library made ∷ rest
  here = a.stands ∙ ap (λ (now : List ℕ). map Beginning now ++ a.ones) none ∙ is

  here_also : other.world.frames ≡ Library made_also ∷ others
  here_also = a.stands_also ∙ is_also

  library_on_top : is_library_turn one.world.frames ≡ true
  library_on_top = ap is_library_turn here

  memories : SameMemories P c.allocated c.entered c.apart a.names [] one.world.memory other.world.memory
  memories =
      subst (λ (now : List ℕ). SameMemories P c.allocated c.entered c.apart a.names now one.world.memory other.world.memory) none a.memories

  seen : SameSeen c a.names one.world other.world
  seen =
      seen_as {c = comparison u a.virtuals a.known} {d = c} (record { allocated = λ n m low. low; entered = λ n m low. low }) a.seen

  owned : OwnedBelow u a.virtuals rest
  owned = owned_below {x = Library made} (record {
    owner = λ number virtual there low.
        let was = a.owned.owner number virtual there in
        record {
          f = was.0;
          one = was.1;
          is_there = ap (λ (frames : List RunFrame). slice_get (reverse frames) virtual.frame) (sym is) ∙ was.2;
          is_written = was.3;
        };
  })

  at : AtLibrary P Q c a.names made made_also rest others
  at =
      at_library u laws a.virtuals a.known {heap = one.world.memory.heap} held below owned (none_also below)
      (typed_rest u (subst (FramesConform P u.typings one.world.memory.heap nothing_awaited) here a.typed.frames))

  there : (action : Action) → StillThere a.virtuals a.known (act P action one.world)
  there action =
      let stays = laws.keeps one.world action a.typed a.goes library_on_top in
      record {
        are_apart = a.are_apart;
        are_known = known_still stays.shapes a.are_known;
        begun = λ number class virtual stands_there shape. stays.begun class (a.owned.begun number class virtual stands_there shape);
      }

  pub library_turn : KeepsTurn u measure one other
  library_turn =
      by (library_turned laws.turns.frames.same (over_turn_compares u (compared u) a.virtuals a.known) here here_also memories seen a.goes a.goes_also
      a.actions a.used at) where
        by : LibraryTurn P Q c a.names one other → KeepsTurn u measure one other
        by (waits_for_action stays stays_also) = turns_keep measure measure stays stays_also (record { later = other; quietly = at_once; state = inl t })
        by (takes_action action ones ones_also led led_also is_act left taken then) =
            let related = after_turn u laws.turns ones ones_also (subst (StillThere a.virtuals a.known) (sym is_act) (there action)) then
            (subst (TypedWorld P u.typings) (sym is_act) (laws.acts_typed one.world action a.typed library_on_top).typed) left taken in
            turns_keep measure related.0 led led_also related.1

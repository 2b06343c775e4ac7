-- What runs that are over show stays, so programs that run the same show the same in equally many steps.
use Rattle.std.proofs.Common.{◌≡◌, ◌≢◌, ◌⊎◌, inl, inr, ℕ, zero, suc, ◌+◌, ◌≤◌, ◌-◌, Bool, true, false, List, [], ◌∷◌, ◌++◌, length, refl, sym, ap, ◌∙◌, subst, arith}
use Rattle.std.proofs.lemmas.List.{append-nil, length-append}
use Rattle.machine_laws.specs.Growth.{IsOver, IsPrefix, WorldGrows, has_ended, has_no_action}
use Rattle.machine_values.specs.declared.action.Action.{Action}
use Rattle.machine_values.specs.declared.event.Event.{Event}
use Rattle.machine_values.specs.declared.event.Shown.{Shown}
use Rattle.machine_values.specs.declared.event.End.TheVariants as ends
use Rattle.member_link.specs.Machine.Programs.{Program}
use Rattle.member_link.specs.Machine.Runs.{Run, begins_with, turn, turns, end_of, end_of_going, shown, shown_after}
use Rattle.member_link.specs.Machine.SameRuns.{AreSameEvents, IsSameShown, SameRuns}
use Rattle.member_link.specs.Machine.Stepping.{is_library_turn}
use Rattle.member_link.specs.Machine.Worlds.{Halt}
use Rattle.member_link.specs.Machine.Worlds as halts

-- what machine_laws says of runs
pub record RunLaws : Type 0 where
  pub stays : (P : Program) (r : Run) → IsOver r → turn P r ≡ r
  pub add : (P : Program) (first then : ℕ) (r : Run) → turns P (first + then) r ≡ turns P then (turns P first r)
  pub keeps : (P : Program) (count : ℕ) (r : Run) → WorldGrows r.world (turns P count r).world

-- a run whose end is told is over
no_actions : (r : Run) (actions : List Action) → r.actions ≡ actions → end_of_going r ≢ ends.Running → is_library_turn r.world.frames ≡ true → IsOver r
no_actions r [] is ended turn = has_no_action (rw turn refl) is
no_actions r (action ∷ actions) is ended turn = absurd (ended (rw (turn, is) refl))

going_over : (r : Run) (turn : Bool) → is_library_turn r.world.frames ≡ turn → end_of_going r ≢ ends.Running → IsOver r
going_over r true is ended = no_actions r r.actions refl ended is
going_over r false is ended = absurd (ended (rw is refl))

over_by : (r : Run) (halt : Halt) → r.world.halt ≡ halt → end_of r ≢ ends.Running → IsOver r
over_by r halts.going is ended = going_over r (is_library_turn r.world.frames) refl (rw is at ended)
over_by r halts.stopped is ended = has_ended (λ other. cc)
over_by r halts.faulted is ended = has_ended (λ other. cc)
over_by r halts.init_threw is ended = has_ended (λ other. cc)
over_by r halts.array_too_long is ended = has_ended (λ other. cc)
over_by r halts.stuck is ended = has_ended (λ other. cc)

less_or_more : (one other : ℕ) → (one ≤ other) ⊎ (other ≤ one)
less_or_more zero other = inl (omega arith)
less_or_more (suc one) zero = inr (omega arith)
less_or_more (suc one) (suc other) = next (less_or_more one other)
  where
    next : (one ≤ other) ⊎ (other ≤ one) → (suc one ≤ suc other) ⊎ (suc other ≤ suc one)
    next (inl less) = inl (omega (arith, less))
    next (inr more) = inr (omega (arith, more))

module _ (laws : RunLaws) where
  turns_stay : (P : Program) (count : ℕ) (r : Run) → IsOver r → turns P count r ≡ r
  turns_stay P zero r over = refl
  turns_stay P (suc count) r over = ap (turns P count) (laws.stays P r over) ∙ turns_stay P count r over

  shown_later : (P : Program) (actions : List Action) (few many : ℕ) → few ≤ many → (shown_after P actions few).end ≢ ends.Running → shown_after P actions many ≡ shown_after P actions few
  shown_later P actions few many less ended =
      let r = turns P few (begins_with actions) in
      let all : few + (many - few) ≡ many = omega (arith, less) in
      let later : turns P many (begins_with actions) ≡ r = ap (λ count. turns P count (begins_with actions)) (sym all) ∙ laws.add P few (many - few) (begins_with actions) ∙ turns_stay P (many - few) r (over_by r r.world.halt refl ended) in
      ap shown later

  shown_once : (P : Program) (actions : List Action) (one other : ℕ) → (shown_after P actions one).end ≢ ends.Running → (shown_after P actions other).end ≢ ends.Running → shown_after P actions one ≡ shown_after P actions other
  shown_once P actions one other one_ended other_ended = by (less_or_more one other)
    where
      by : (one ≤ other) ⊎ (other ≤ one) → shown_after P actions one ≡ shown_after P actions other
      by (inl less) = sym (shown_later P actions one other less one_ended)
      by (inr more) = shown_later P actions other one more other_ended

  pub same_shown : (P Q : Program) → SameRuns P Q → (actions : List Action) (count : ℕ) → (shown_after P actions count).end ≢ ends.Running → (shown_after Q actions count).end ≢ ends.Running
      → IsSameShown (shown_after P actions count) (shown_after Q actions count)
  same_shown P Q same actions count first_ended second_ended =
      let forth = (same actions).forth count in
      let ended : (shown_after Q actions forth.0).end ≢ ends.Running = λ running. first_ended (sym forth.1.end ∙ running) in
      subst (λ (after : Shown). IsSameShown (shown_after P actions count) after) (shown_once Q actions forth.0 count ended second_ended) forth.1

  -- the same of what was found
  pub both_same : (P Q : Program) → SameRuns P Q → (actions : List Action) (count : ℕ) (before after : Shown) → before ≡ shown_after P actions count → after ≡ shown_after Q actions count → before.end ≢ ends.Running → after.end ≢ ends.Running
      → IsSameShown before after
  both_same P Q same actions count before after before_is after_is first_ended second_ended =
      let first : (shown_after P actions count).end ≢ ends.Running = λ running. first_ended (ap (λ (s : Shown). s.end) before_is ∙ running) in
      let second : (shown_after Q actions count).end ≢ ends.Running = λ running. second_ended (ap (λ (s : Shown). s.end) after_is ∙ running) in
      let shown_same = same_shown P Q same actions count first second in
      subst (λ (one : Shown). IsSameShown one after) (sym before_is) (subst (λ (other : Shown). IsSameShown (shown_after P actions count) other) (sym after_is) shown_same)

-- ---- runs of which the one shows events of the other

same_count : (ones others : List Event) → AreSameEvents ones others → length ones ≡ length others
same_count [] [] same = refl
same_count (one ∷ ones) [] same = absurd same
same_count [] (other ∷ others) same = absurd same
same_count (one ∷ ones) (other ∷ others) same = ap suc (same_count ones others same.1)

none_added : (one other more : List Event) → other ≡ one ++ more → length one ≡ length other → one ≡ other
none_added one other more is same = by more is
  where
    by : (more : List Event) → other ≡ one ++ more → one ≡ other
    by [] is = sym (is ∙ append-nil one)
    by (event ∷ events) is = absurd (omega (arith, same, ap length is ∙ length-append one (event ∷ events)))

module _ (laws : RunLaws) where
  shown_more : (P : Program) (actions : List Action) (few many : ℕ) → few ≤ many → IsPrefix (shown_after P actions few).events (shown_after P actions many).events
  shown_more P actions few many less =
      let r = turns P few (begins_with actions) in
      let all : few + (many - few) ≡ many = omega (arith, less) in
      let later : turns P (many - few) r ≡ turns P many (begins_with actions) = sym (laws.add P few (many - few) (begins_with actions)) ∙ ap (λ count. turns P count (begins_with actions)) all in
      subst (λ (after : Run). IsPrefix r.world.events after.world.events) later (laws.keeps P (many - few) r).events

  one_events : (P : Program) (actions : List Action) (one other : ℕ) → length (shown_after P actions one).events ≡ length (shown_after P actions other).events → (shown_after P actions one).events ≡ (shown_after P actions other).events
  one_events P actions one other same = by (less_or_more one other)
    where
      by : (one ≤ other) ⊎ (other ≤ one) → (shown_after P actions one).events ≡ (shown_after P actions other).events
      by (inl less) = (let prefix = shown_more P actions one other less in none_added _ _ prefix.more prefix.all same)
      by (inr more) = (let prefix = shown_more P actions other one more in sym (none_added _ _ prefix.more prefix.all (sym same)))

  -- where both show as many events and the same end, all is the same
  pub counted_same : (P Q : Program) → SameRuns P Q → (actions : List Action) (count : ℕ) (before after : Shown) → before ≡ shown_after P actions count → after ≡ shown_after Q actions count
      → length before.events ≡ length after.events → after.end ≡ before.end → IsSameShown before after
  counted_same P Q same actions count before after before_is after_is as_many same_end =
      let forth = (same actions).forth count in
      let events = subst (λ (one : List Event). AreSameEvents one (shown_after Q actions forth.0).events) (sym (ap (λ (s : Shown). s.events) before_is)) forth.1.events in
      let counts : length (shown_after Q actions forth.0).events ≡ length (shown_after Q actions count).events =
      sym (same_count before.events (shown_after Q actions forth.0).events events) ∙ as_many ∙ ap (λ (s : Shown). length s.events) after_is
      in
      let shown_events = one_events Q actions forth.0 count counts ∙ sym (ap (λ (s : Shown). s.events) after_is) in
      record { events = subst (AreSameEvents before.events) shown_events events; end = same_end }

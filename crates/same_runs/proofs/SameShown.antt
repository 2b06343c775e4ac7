-- Programs that show quite the same, and the same.
use Rattle.std.proofs.Common.{◌≡◌, List, [], ◌∷◌, refl, sym, subst, arith}
use Rattle.machine_values.specs.declared.event.Event.{Event}
use Rattle.machine_values.specs.declared.event.Shown.{Shown}
use Rattle.member_link.specs.Machine.Programs.{Program}
use Rattle.member_link.specs.Machine.Runs.{shown_after}
use Rattle.member_link.specs.Machine.SameRuns.{AreSameEvents, IsSameShown, SameRuns}
use Rattle.same_runs.specs.EqualRuns.{EqualRuns}

events_themselves : (events : List Event) → AreSameEvents events events
events_themselves [] = tt
events_themselves (event ∷ events) =
    (record { kind = refl; monitors = refl; allocations = omega arith; entries = omega arith }, events_themselves events)

shown_itself : (s : Shown) → IsSameShown s s
shown_itself s = record { events = events_themselves s.events; end = refl }

shown_equal : (one other : Shown) → one ≡ other → IsSameShown one other
shown_equal one other same = subst (IsSameShown one) same (shown_itself one)

pub equal_programs : (P Q : Program) → P ≡ Q → EqualRuns P Q
equal_programs P Q same = subst (EqualRuns P) same (λ actions. record {
  forth = λ count. (count, refl);
  back = λ other. (other, refl);
})

pub equally_forth : (P Q : Program) → EqualRuns P Q → SameRuns P Q
equally_forth P Q equal = λ actions.
    let runs = equal actions in
    record {
      forth = λ count. let also = runs.forth count in (also.0, shown_equal (shown_after P actions count) (shown_after Q actions also.0) also.1);
      back = λ other. let also = runs.back other in (also.0, shown_equal (shown_after P actions also.0) (shown_after Q actions other) also.1);
    }

pub equally_back : (P Q : Program) → EqualRuns P Q → SameRuns Q P
equally_back P Q equal = λ actions.
    let runs = equal actions in
    record {
      forth = λ count. let also = runs.back count in (also.0, shown_equal (shown_after Q actions count) (shown_after P actions also.0) (sym also.1));
      back = λ other. let also = runs.forth other in (also.0, shown_equal (shown_after Q actions also.0) (shown_after P actions other) (sym also.1));
    }

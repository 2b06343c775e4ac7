use Rattle.std.specs.Prelude.{◌≡◌, ◌≢◌, ◌+◌, refl, IsTrue, ℕ, zero, suc, List, [], ◌∷◌}
use Rattle.std.proofs.Common.{arith, ◌∙◌}
use Rattle.machine_values.specs.declared.event.Event.{Event}
use Rattle.machine_values.specs.declared.event.Shown.{Shown}
use Rattle.machine_laws.specs.Growth.{IsOver, has_ended, has_no_action}
use Rattle.member_link.specs.Machine.Programs.{Program}
use Rattle.member_link.specs.Machine.Runs.{Run, turn_by, turn, turns}
use Rattle.member_link.specs.Machine.SameRuns.{IsSameEvent, AreSameEvents, IsSameShown, SameRuns}
use Rattle.member_link.specs.Machine.Stepping.{is_library_turn}
use Rattle.member_link.specs.Machine.Worlds.{Halt}
use Rattle.member_link.specs.Machine.Worlds as halts

-- n + m turns are n turns and then m
pub turns_add : (P : Program) (n m : ℕ) (r : Run) → turns P (n + m) r ≡ turns P m (turns P n r)
turns_add P zero m r = let e : zero + m ≡ m = omega arith in rw e refl
turns_add P (suc n) m r = let e : suc n + m ≡ suc (n + m) = omega arith in rw e (turns_add P n m (turn P r))

-- ---- a run that is over stays

pub ended_stays : (P : Program) (r : Run) (h : Halt) → h ≢ halts.going → turn_by P r h ≡ r
ended_stays P r halts.going n = absurd (n refl)
ended_stays P r halts.stopped n = refl
ended_stays P r halts.faulted n = refl
ended_stays P r halts.init_threw n = refl
ended_stays P r halts.array_too_long n = refl
ended_stays P r halts.stuck n = refl

pub waiting_stays : (P : Program) (r : Run) (h : Halt) → IsTrue (is_library_turn r.world.frames) → r.actions ≡ [] → turn_by P r h ≡ r
waiting_stays P r halts.going t e = grind (arith, t, e)
waiting_stays P r halts.stopped t e = refl
waiting_stays P r halts.faulted t e = refl
waiting_stays P r halts.init_threw t e = refl
waiting_stays P r halts.array_too_long t e = refl
waiting_stays P r halts.stuck t e = refl

pub over_stays : (P : Program) (r : Run) → IsOver r → turn P r ≡ r
over_stays P r (has_ended n) = ended_stays P r r.world.halt n
over_stays P r (has_no_action t e) = waiting_stays P r r.world.halt t e

-- ---- running the same

pub event_same : (e : Event) → IsSameEvent e e
event_same e = record { kind = refl; monitors = refl; allocations = omega arith; entries = omega arith }

pub events_same : (es : List Event) → AreSameEvents es es
events_same [] = tt
events_same (e ∷ es) = (event_same e, events_same es)

pub event_through : {a b c : Event} → IsSameEvent a b → IsSameEvent b c → IsSameEvent a c
event_through p q = record {
  kind = q.kind ∙ p.kind;
  monitors = q.monitors ∙ p.monitors;
  allocations = omega (arith, p.allocations, q.allocations);
  entries = omega (arith, p.entries, q.entries);
}

pub events_through : (a b c : List Event) → AreSameEvents a b → AreSameEvents b c → AreSameEvents a c
events_through [] [] [] p q = tt
events_through (a ∷ as') (b ∷ bs) (c ∷ cs) p q = (event_through p.0 q.0, events_through as' bs cs p.1 q.1)
events_through [] [] (c ∷ cs) p q = absurd q
events_through [] (b ∷ bs) c p q = absurd p
events_through (a ∷ as') [] c p q = absurd p
events_through (a ∷ as') (b ∷ bs) [] p q = absurd q

pub shown_through : {a b c : Shown} → IsSameShown a b → IsSameShown b c → IsSameShown a c
shown_through p q = record { events = events_through _ _ _ p.events q.events; end = q.end ∙ p.end }

pub same_itself : (P : Program) → SameRuns P P
same_itself P actions = record {
  forth = λ n. (n, record { events = events_same _; end = refl });
  back = λ n. (n, record { events = events_same _; end = refl });
}

pub same_through : (P Q R : Program) → SameRuns P Q → SameRuns Q R → SameRuns P R
same_through P Q R p q actions = record {
  forth = λ n. let m = (p actions).forth n in let k = (q actions).forth m.0 in (k.0, shown_through m.1 k.1);
  back = λ n. let m = (q actions).back n in let k = (p actions).back m.0 in (k.0, shown_through k.1 m.1);
}

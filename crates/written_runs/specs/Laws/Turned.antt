-- A turn of the first run at a planned frame, beside which the second run makes moves, jumps and pushes in its own frame alone: quietly, and the last
-- one as the turn of both; or none, where the first goes on to a later point.
use Rattle.std.proofs.Common.{◌≡◌, ◌≤◌, ◌<◌, ◌+◌, ℕ, zero, suc, List, [], ◌∷◌, Some, None, Option, slice_get, option_and_then, refl, sym, ap, subst, ◌∙◌, inl, inr}
use Rattle.std.proofs.lemmas.Option.{none-some, same_Some}
use Rattle.machine_values.specs.Frames.{MethodState}
use Rattle.machine_values.specs.declared.frame.RunFrame.{RunFrame}
use Rattle.machine_values.specs.declared.frame.RunFrame.TheVariants.{Method}
use Rattle.member_link.specs.Machine.Programs.{Code, Point, code_at}
use Rattle.member_link.specs.Machine.Runs.{Run, turn}
use Rattle.member_link.specs.Machine.Worlds.{going}
use Rattle.same_runs.specs.Laws.QuietBeginnings.{standing}
use Rattle.same_runs.specs.Laws.QuietMoves.{moved_turn, moves_in_method, moves_quietly}
use Rattle.same_runs.specs.QuietMoves.{moved_at, moved_by, moves}
use Rattle.same_runs.specs.Simulations.{Quietly, at_once}
use Rattle.written_runs.specs.Laws.Settling.{SettleLaws, settles}
use Rattle.written_runs.specs.Inner.Setup.{Setup, first, second}
use Rattle.written_runs.specs.Laws.Simulation.{KeepsTurn}
use Rattle.written_runs.specs.Inner.Together.{Along, Related, points_left, weight}

-- moves one after the other: all but the last, and the last
pub record LastMove (code : Code) (count : ℕ) (g after : MethodState) : Type 0 where
  pub middle : MethodState
  pub moved : moves code count g ≡ Some middle
  pub point : Point
  pub is_point : slice_get code.points middle.place ≡ Some point
  pub last : moved_by middle point.op ≡ Some after

pub last_move : (code : Code) (count : ℕ) (g after : MethodState) → moves code (suc count) g ≡ Some after → LastMove code count g after
last_move code zero g after moved = by (slice_get code.points g.place) refl where
  by : (point : Option Point) → slice_get code.points g.place ≡ point → LastMove code zero g after
  by None is = absurd (none-some after (sym (ap (λ (p : Option Point). option_and_then (moves code zero) (moved_at g p)) is) ∙ moved))
  by (Some point) is = of_move (moved_by g point.op) refl where
    of_move : (next : Option MethodState) → moved_by g point.op ≡ next → LastMove code zero g after
    of_move None none =
        absurd (none-some after (sym (ap (λ (p : Option Point). option_and_then (moves code zero) (moved_at g p)) is
        ∙ ap (option_and_then (moves code zero)) none) ∙ moved))
    of_move (Some next) some = record {
      middle = g;
      moved = refl;
      point = point;
      is_point = is;
      last =
          some
          ∙ sym (ap (λ (p : Option Point). option_and_then (moves code zero) (moved_at g p)) is ∙ ap (option_and_then (moves code zero)) some)
          ∙ moved;
    }
last_move code (suc count) g after moved = by (slice_get code.points g.place) refl (λ next rest. last_move code count next after rest) where
  by : (point : Option Point)
      → slice_get code.points g.place ≡ point
      → ((next : MethodState) → moves code (suc count) next ≡ Some after → LastMove code count next after)
      → LastMove code (suc count) g after
  by None is below =
      absurd (none-some after (sym (ap (λ (p : Option Point). option_and_then (moves code (suc count)) (moved_at g p)) is) ∙ moved))
  by (Some point) is below = of_move (moved_by g point.op) refl where
    of_move : (next : Option MethodState) → moved_by g point.op ≡ next → LastMove code (suc count) g after
    of_move None none =
        absurd (none-some after (sym (ap (λ (p : Option Point). option_and_then (moves code (suc count)) (moved_at g p)) is
        ∙ ap (option_and_then (moves code (suc count))) none) ∙ moved))
    of_move (Some next) some =
        let rest = below next
        (sym (ap (λ (p : Option Point). option_and_then (moves code (suc count)) (moved_at g p)) is
        ∙ ap (option_and_then (moves code (suc count))) some) ∙ moved) in record {
          middle = rest.middle;
          moved =
              ap (λ (p : Option Point). option_and_then (moves code count) (moved_at g p)) is
              ∙ ap (option_and_then (moves code count)) some ∙ rest.moved;
          point = rest.point;
          is_point = rest.is_point;
          last = rest.last;
        }

-- What stands behind the turn of the first and so many moves of the second.
pub record BehindMoves (u : Setup) (measure : ℕ) (one other : Run) : Type 0 where
  pub g : MethodState
  pub rest_also : List RunFrame
  pub stands_also : other.world.frames ≡ Method g ∷ rest_also
  pub goes_also : other.world.halt ≡ going
  pub code : Code
  pub is_code : code_at (second u) g.at ≡ Some code
  pub count : ℕ
  pub after : MethodState
  pub moved : moves code count g ≡ Some after
  -- however many steps the second has taken then
  pub along : (steps : ℕ) → Along u (turn (first u) one) (standing other (Method after ∷ rest_also) other.world.memory steps)
  pub none_now : (steps : ℕ) → (along steps).now ≡ []
  pub measure_then : ℕ
  pub low : (steps : ℕ) → weight (first u) (turn (first u) one).world.memory [] (points_left (along steps).frames) ≤ measure_then
  pub falls : count ≡ 0 → measure_then < measure

pub turns_by_moves : (u : Setup) → SettleLaws u → (measure : ℕ) (one other : Run) → BehindMoves u measure one other → KeepsTurn u measure one other
turns_by_moves u laws measure one other b = by b.count refl where
  same : standing other (Method b.g ∷ b.rest_also) other.world.memory other.world.steps ≡ other
  same = λ i. record other { world = record other.world { frames = sym b.stands_also i } }

  settled : (steps : ℕ) → Related u b.measure_then (turn (first u) one) (standing other (Method b.after ∷ b.rest_also) other.world.memory steps)
  settled steps = settles u laws b.measure_then (turn (first u) one) _ (b.along steps) (b.none_now steps) (b.low steps)

  by : (count : ℕ) → b.count ≡ count → KeepsTurn u measure one other
  by zero none = record {
    waits = other;
    quietly = at_once;
    measure_then = b.measure_then;
    goes_on = inl (b.falls none, subst (Related u b.measure_then (turn (first u) one)) here (settled other.world.steps));
  } where
    still : b.g ≡ b.after
    still = same_Some b.g b.after (sym (ap (λ (n : ℕ). moves b.code n b.g) none) ∙ b.moved)

    here : standing other (Method b.after ∷ b.rest_also) other.world.memory other.world.steps ≡ other
    here = ap (λ (g : MethodState). standing other (Method g ∷ b.rest_also) other.world.memory other.world.steps) (sym still) ∙ same
  by (suc count) some = record {
    waits = standing other (Method last.middle ∷ b.rest_also) other.world.memory quiet.0;
    quietly =
        subst (λ (r : Run). Quietly (second u) r (standing other (Method last.middle ∷ b.rest_also) other.world.memory quiet.0)) same quiet.1;
    measure_then = b.measure_then;
    goes_on = inr (subst (Related u b.measure_then (turn (first u) one)) (sym turned) (settled (quiet.0 + 1)));
  } where
    last : LastMove b.code count b.g b.after
    last = last_move b.code count b.g b.after (sym (ap (λ (n : ℕ). moves b.code n b.g) some) ∙ b.moved)

    quiet : (later : ℕ) × Quietly (second u) (standing other (Method b.g ∷ b.rest_also) other.world.memory other.world.steps)
        (standing other (Method last.middle ∷ b.rest_also) other.world.memory later)
    quiet = moves_quietly other b.code count b.g last.middle other.world.memory other.world.steps b.goes_also b.is_code last.moved

    in_method : code_at (second u) last.middle.at ≡ Some b.code
    in_method = ap (code_at (second u)) (moves_in_method (second u) b.code count b.g last.middle last.moved).0 ∙ b.is_code

    turned : turn (second u) (standing other (Method last.middle ∷ b.rest_also) other.world.memory quiet.0)
        ≡ standing other (Method b.after ∷ b.rest_also) other.world.memory (quiet.0 + 1)
    turned =
        moved_turn (second u) b.rest_also other b.code last.middle b.after other.world.memory quiet.0 last.point b.goes_also in_method last.is_point last.last

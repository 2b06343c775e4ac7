-- Frames that go together do so with other places, stacks and units, where what lies outside of the method's units stays.
use Rattle.std.proofs.Common.{◌≡◌, ◌≤◌, ◌+◌, ◌++◌, ℕ, zero, suc, false, List, ◌∷◌, map, Option, refl, arith, inl}
use Rattle.class_model.specs.declared.class_file.MethodAt.{MethodAt}
use Rattle.expanded_code.specs.Expanded.{units_in}
use Rattle.expanded_code.specs.Expansions.{Coded, Expansion, no_more, replaced, site, stays}
use Rattle.expanded_runs.proofs.Runs.FlatFacts.{FlatFacts}
use Rattle.expanded_runs.proofs.Runs.Positions.{Standing, block_from, scope_of, start_of}
use Rattle.expanded_runs.proofs.Runs.SameStanding.{InFlat, InOwn, Inside, SameStanding, comparison, flat_stands, in_callee, in_host, own_stand, settled, is_awaited}
use Rattle.expanded_runs.proofs.Runs.Setup.{Setup, after, before}
use Rattle.expanded_runs.proofs.Runs.StandingCodes.{AtPoints}
use Rattle.expanded_runs.proofs.Runs.StandingMore.{standing_more}
use Rattle.expanded_runs.proofs.Runs.StandingUnwinds.{stands_unwind}
use Rattle.machine_values.specs.Frames.{MethodState}
use Rattle.machine_values.specs.declared.frame.RunFrame.{RunFrame}
use Rattle.machine_values.specs.declared.frame.RunFrame.TheVariants.{Method}
use Rattle.machine_values.specs.declared.value.Value.{Value}
use Rattle.same_runs.specs.Laws.Moves.{same_width}
use Rattle.same_runs.specs.Renamings.{Names, SameValues}
use Rattle.same_runs.specs.SameMoves.{KeepsOutside, Moves, MovesAlike, ShiftedUnits}
use Rattle.same_runs.specs.SamePrograms.{SamePrograms}

-- ---- units of callers

-- the blocks of callees ascend
pub block_up : (unit : ℕ) (expansion : Expansion) (k : ℕ) → unit ≤ block_from unit expansion k
block_up unit expansion zero = omega arith
block_up unit (stays more) (suc k) = block_up unit more k
block_up unit (site class more) (suc k) = block_up unit more k
block_up unit (replaced g inner more) (suc k) =
    let up = block_up (unit + g.scope.part.max_locals + units_in inner) more k in omega (arith, up)
block_up unit no_more (suc k) = omega arith

-- a method's units lie before those of its callees
pub own_before : {names : Names} {host : Coded} {expansion : Expansion} {held : Option ℕ} {locals : List (Option Value)}
    {chain : List MethodAt} {p : Standing} {waiting : List MethodState} {below : List Value}
    → Inside names host expansion held locals chain p waiting below
    → p.setting.unit + (scope_of p).part.max_locals ≤ p.block
own_before in_host = omega arith
own_before (in_callee f top placed frame g inner outer in_place is) = omega arith

-- units that lie before others are still held where those change
pub kept_before : {names : Names} {base size from most : ℕ} {ones others after : List (Option Value)}
    → ShiftedUnits names from most ones others
    → from + most ≤ base
    → KeepsOutside base size others after
    → ShiftedUnits names from most ones after
kept_before {base = base} {from = from} {most = most} units low outside = record {
  holds = λ at value is fits.
      let found = units.holds at value is fits in
      let width = same_width found.2 in
      (found.0, outside.stays (from + at) found.0 (inl (omega (arith, fits, width, low))) found.1, found.2);
  count = units.count;
  room = let room = units.room in let counts = outside.count in omega (arith, room, counts);
}

-- callers still stand where units from those of the innermost on change
pub inside_with : {names : Names} {host : Coded} {expansion : Expansion} {held : Option ℕ} {locals after : List (Option Value)}
    {base size : ℕ} {chain : List MethodAt} {p : Standing} {waiting : List MethodState} {below : List Value}
    → KeepsOutside base size locals after
    → p.setting.unit ≤ base
    → Inside names host expansion held locals chain p waiting below
    → Inside names host expansion held after chain p waiting below
inside_with outside low in_host = in_host
inside_with {base = base} {p = p} outside low (in_callee {p = q} f top placed frame g inner outer in_place is) =
    in_callee f top placed frame g inner (inside_with outside lower outer)
    (record { at = in_place.at; units = kept_before in_place.units own outside; same = in_place.same; held = in_place.held }) is where
      own : q.setting.unit + (scope_of q).part.max_locals ≤ base
      own = let before = own_before outer in let up = block_up q.block q.expansion f.place in let less = low in omega (arith, before, up, less)

      lower : q.setting.unit ≤ base
      lower = let all = own in omega (arith, all)

-- ---- a frame of flat code

-- with another place, stack and units
abbrev pub flat_changed : {u : Setup} {names : Names} {f g : MethodState} {waiting : List MethodState}
    (i : InFlat u names f waiting g) (place place_also : ℕ) (ones stack others : List Value) (units units_also : List (Option Value))
    → place_also ≡ start_of i.p place
    → stack ≡ others ++ i.below
    → SameValues names ones others
    → ShiftedUnits names i.p.setting.unit (scope_of i.p).part.max_locals units units_also
    → KeepsOutside i.p.setting.unit (scope_of i.p).part.max_locals g.locals units_also
    → InFlat u names (record f { place = place; stack = ones; locals = units }) waiting
    (record g { place = place_also; stack = stack; locals = units_also })
flat_changed i place place_also ones stack others units units_also is_place is_stack same shifted outside = record {
  flat = i.flat;
  is_flat = i.is_flat;
  expanded = i.expanded;
  chain = i.chain;
  p = i.p;
  below = i.below;
  inside = inside_with outside (omega arith) i.inside;
  top = others;
  in_place = record { at = i.in_place.at; units = shifted; same = same; held = i.in_place.held };
  place = is_place;
  stack = is_stack;
  room = let room = i.room in let counts = outside.count in omega (arith, room, counts);
}

abbrev pub flat_with : {u : Setup} {names : Names} {f g : MethodState} {waiting : List MethodState}
    (i : InFlat u names f waiting g) (place : ℕ) (ones others : List Value) (units units_also : List (Option Value))
    → SameValues names ones others
    → ShiftedUnits names i.p.setting.unit (scope_of i.p).part.max_locals units units_also
    → KeepsOutside i.p.setting.unit (scope_of i.p).part.max_locals g.locals units_also
    → InFlat u names (record f { place = place; stack = ones; locals = units }) waiting
    (record g { place = start_of i.p place; stack = others ++ i.below; locals = units_also })
flat_with i place ones others units units_also same shifted outside =
    flat_changed i place (start_of i.p place) ones (others ++ i.below) others units units_also refl refl same shifted outside

module _ {u : Setup} (facts : FlatFacts u) (same : SamePrograms (before u) (after u)) where
  -- what goes together behind an operation of the frame alone, where what is behind it stands at the next number
  pub flat_moves : {names : Names} {f g : MethodState} {waiting : List MethodState} {ones others : List RunFrame}
      (i : InFlat u names f waiting g)
      → start_of i.p (f.place + 1) ≡ start_of i.p f.place + 1
      → AtPoints u (Method f ∷ map Method waiting ++ ones)
      → SameStanding u (is_awaited u g.at) names ones others
      → Moves (before u) (after u) (comparison u) names i.p.setting.unit (scope_of i.p).part.max_locals (start_of i.p) i.below f g
      (map Method waiting ++ ones) others
  flat_moves i next at rest = record {
    place = i.place;
    next = next;
    top = i.top;
    stack = i.stack;
    same = i.in_place.same;
    units = i.in_place.units;
    goes = λ place ones others units units_also are shifted outside.
        settled (flat_stands (flat_with i place ones others units units_also are shifted outside) (λ impossible. cc impossible) rest);
    unwinds = λ more grows.
        stands_unwind facts same (standing_more grows (flat_stands {waits = false} i (λ impossible. cc impossible) rest)) at;
  }

  pub own_moves : {names : Names} {f g : MethodState} {rest others : List RunFrame}
      → InOwn u names f g
      → AtPoints u (Method f ∷ rest)
      → SameStanding u (is_awaited u g.at) names rest others
      → MovesAlike (before u) (after u) (comparison u) names f g rest others
  own_moves own at rest = record {
    place = own.place;
    same = own.stack;
    units = own.locals;
    goes = λ place ones others units units_also are shifted.
        settled (own_stand (record {
          no_flat = own.no_flat;
          at = own.at;
          place = refl;
          locals = shifted;
          stack = are;
          held = own.held;
        }) rest);
    unwinds = λ more grows. stands_unwind facts same (standing_more grows (own_stand {waits = false} own rest)) at;
  }

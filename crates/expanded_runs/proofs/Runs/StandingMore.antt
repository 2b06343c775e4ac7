-- Frames that go together do so under more names, and the counts of both runs may rise together.
use Rattle.std.proofs.Common.{◌+◌, ℕ, Bool, true, false, List, [], ◌∷◌, Option, ap}
use Rattle.std.proofs.lemmas.Bool.{false≢true}
use Rattle.class_model.specs.declared.class_file.MethodAt.{MethodAt}
use Rattle.expanded_code.specs.Expansions.{Coded, Expansion}
use Rattle.expanded_runs.proofs.Runs.Positions.{Standing}
use Rattle.expanded_runs.proofs.Runs.SameStanding.{Holds, InFlat, InOwn, InPlace, Inside, IsFresh, SameStanding, SameTop, begins_class, begins_fresh, beginnings_stand, comparison, flat_stands, in_callee, in_host, libraries_stand, none_stand, own_stand, settled}
use Rattle.expanded_runs.proofs.Runs.Setup.{Setup}
use Rattle.machine_values.specs.Frames.{MethodState}
use Rattle.machine_values.specs.declared.frame.RunFrame.{RunFrame}
use Rattle.machine_values.specs.declared.value.Value.{Value}
use Rattle.same_runs.specs.Laws.Names.{held_more, units_more, values_more}
use Rattle.same_runs.specs.Laws.ShiftedUnits.{shifted_more}
use Rattle.same_runs.specs.Renamings.{Names, NamesMore}
use Rattle.same_runs.specs.SameWorlds.{Compares}

-- ---- one frame

holds_more : {names more : Names} (chain : List MethodAt) (held also : Option ℕ) → NamesMore names more
    → Holds names chain held also
    → Holds more chain held also
holds_more [] held also grows holds = held_more grows holds
holds_more (callee ∷ chain) held also grows holds = holds

pub in_place_more : {names more : Names} {chain : List MethodAt} {p : Standing} {f : MethodState} {held : Option ℕ}
    {locals : List (Option Value)} {top : List Value}
    → NamesMore names more
    → InPlace names chain p f held locals top
    → InPlace more chain p f held locals top
in_place_more {chain = chain} grows in_place = record {
  at = in_place.at;
  units = shifted_more in_place.units grows;
  same = values_more grows in_place.same;
  held = holds_more chain _ _ grows in_place.held;
}

pub inside_more : {names more : Names} {host : Coded} {expansion : Expansion} {held : Option ℕ} {locals : List (Option Value)}
    {chain : List MethodAt} {p : Standing} {waiting : List MethodState} {below : List Value}
    → NamesMore names more
    → Inside names host expansion held locals chain p waiting below
    → Inside more host expansion held locals chain p waiting below
inside_more grows in_host = in_host
inside_more grows (in_callee f top placed frame g inner outer in_place is) =
    in_callee f top placed frame g inner (inside_more grows outer) (in_place_more grows in_place) is

abbrev pub in_flat_more : {u : Setup} {names more : Names} {f g : MethodState} {waiting : List MethodState}
    → NamesMore names more
    → InFlat u names f waiting g
    → InFlat u more f waiting g
in_flat_more grows in_flat = record {
  flat = in_flat.flat;
  is_flat = in_flat.is_flat;
  expanded = in_flat.expanded;
  chain = in_flat.chain;
  p = in_flat.p;
  below = in_flat.below;
  inside = inside_more grows in_flat.inside;
  top = in_flat.top;
  in_place = in_place_more grows in_flat.in_place;
  place = in_flat.place;
  stack = in_flat.stack;
  room = in_flat.room;
}

pub in_own_more : {u : Setup} {names more : Names} {f g : MethodState} → NamesMore names more → InOwn u names f g → InOwn u more f g
in_own_more grows own = record {
  no_flat = own.no_flat;
  at = own.at;
  place = own.place;
  locals = units_more grows own.locals;
  stack = values_more grows own.stack;
  held = held_more grows own.held;
}

-- ---- all frames

pub standing_more : {u : Setup} {waits : Bool} {names more : Names} {ones others : List RunFrame}
    → NamesMore names more
    → SameStanding u waits names ones others
    → SameStanding u waits more ones others
standing_more grows none_stand = none_stand
standing_more grows (libraries_stand held rest) = libraries_stand (held_more grows held) (standing_more grows rest)
standing_more grows (beginnings_stand rest) = beginnings_stand (standing_more grows rest)
standing_more grows (own_stand own rest) = own_stand (in_own_more grows own) (standing_more grows rest)
standing_more grows (flat_stands in_flat waits rest) = flat_stands (in_flat_more grows in_flat) waits (standing_more grows rest)

-- nothing is asked of the top frame
pub standing_free : {u : Setup} {waits : Bool} {names : Names} {ones others : List RunFrame}
    → SameStanding u waits names ones others
    → SameStanding u false names ones others
standing_free none_stand = none_stand
standing_free (libraries_stand held rest) = libraries_stand held rest
standing_free (beginnings_stand rest) = beginnings_stand rest
standing_free (own_stand own rest) = own_stand own rest
standing_free (flat_stands in_flat waits rest) = flat_stands in_flat (λ impossible. absurd (false≢true impossible)) rest

-- Frames that wait may stand where nothing is asked of them.
pub standing_any : {u : Setup} (waits : Bool) {names : Names} {ones others : List RunFrame}
    → SameStanding u true names ones others
    → SameStanding u waits names ones others
standing_any true stand = stand
standing_any false stand = standing_free stand

pub fresh_more : {u : Setup} {names more : Names} {f g : MethodState} → NamesMore names more → IsFresh u names f g → IsFresh u more f g
fresh_more grows fresh = record {
  at = fresh.at;
  flat = fresh.flat;
  is_flat = fresh.is_flat;
  units = fresh.units;
  units_also = fresh.units_also;
  same = units_more grows fresh.same;
  held = held_more grows fresh.held;
  is = fresh.is;
  is_also = fresh.is_also;
}

pub top_more : {u : Setup} {names more : Names} {ones others : List RunFrame}
    → NamesMore names more
    → SameTop u names ones others
    → SameTop u more ones others
top_more grows (settled stand) = settled (standing_more grows stand)
top_more grows (begins_fresh fresh rest) = begins_fresh (fresh_more grows fresh) (standing_more grows rest)
top_more grows (begins_class top) = begins_class (top_more grows top)

-- how runs are compared
pub compares : (u : Setup) → Compares (comparison u)
compares u = record {
  allocated = λ one other more same. ap (λ (n : ℕ). n + more) same;
  entered = λ one other more same. ap (λ (n : ℕ). n + more) same;
  shows_allocated = λ one other same. same;
  shows_entered = λ one other same. same;
  frames = λ names more ones others grows same. top_more grows same;
}

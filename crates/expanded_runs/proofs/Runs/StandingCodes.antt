-- The codes and points of methods that stand in flat code, and of methods that run their own.
use Rattle.std.proofs.Common.{◌≡◌, ℕ, zero, suc, List, [], ◌∷◌, map, slice_get, Option, Some, refl, sym, ap, ◌∙◌}
use Rattle.std.proofs.lemmas.Option.{none-some, same_Some}
use Rattle.class_model.specs.Pool.{Constants}
use Rattle.class_model.specs.declared.class_file.Handler.{Handler}
use Rattle.class_model.specs.declared.class_file.MethodAt.{MethodAt}
use Rattle.class_model.specs.declared.instr.Placed.{Placed}
use Rattle.expanded_code.specs.ExpandAnswers.{IsExpanded}
use Rattle.expanded_code.specs.Expansions.{Coded, Expansion}
use Rattle.expanded_runs.proofs.Runs.FlatFacts.{FlatFacts}
use Rattle.expanded_runs.proofs.Runs.Positions.{Standing, instrs_of, scope_of}
use Rattle.expanded_runs.proofs.Runs.SameStanding.{InOwn, Inside, in_callee, in_host}
use Rattle.expanded_runs.proofs.Runs.Setup.{Setup, after, before}
use Rattle.expanded_runs.proofs.Runs.Standings.{IsStanding, callee_stands, host_stands}
use Rattle.flow_code.specs.FlatCode.{FlatCode}
use Rattle.machine_values.specs.Frames.{MethodState}
use Rattle.machine_values.specs.declared.frame.RunFrame.{RunFrame}
use Rattle.machine_values.specs.declared.frame.RunFrame.TheVariants.{Beginning, Library, Method}
use Rattle.machine_values.specs.declared.value.Value.{Value}
use Rattle.member_link.specs.Machine.Codes as codes
use Rattle.member_link.specs.Machine.Codes.{code_points, method_code}
use Rattle.member_link.specs.Machine.Programs.{Links, Point, code_at, point_at}
use Rattle.member_link.specs.Scope.{Scope, instructions}
use Rattle.same_runs.specs.Laws.MethodPoints.{point_in_code}
use Rattle.same_runs.specs.Renamings.{Names}
use Rattle.same_runs.specs.SameFrames.{catches_at}

-- ---- lists

-- an item of a list that a map makes is that of one that was there
mapped_at : {A B : Type 0} (f : A → B) (items : List A) (k : ℕ) (made : B)
    → slice_get (map f items) k ≡ Some made
    → (item : A) × (slice_get items k ≡ Some item) × (made ≡ f item)
mapped_at f [] k made is = absurd (none-some made is)
mapped_at f (item ∷ items) zero made is = (item, refl, sym (same_Some (f item) made is))
mapped_at f (item ∷ items) (suc k) made is = mapped_at f items k made is

maps_at : {A B : Type 0} (f : A → B) (items : List A) (k : ℕ) (item : A) → slice_get items k ≡ Some item
    → slice_get (map f items) k ≡ Some (f item)
maps_at f [] k item is = absurd (none-some item is)
maps_at f (first ∷ items) zero item is = ap (λ (i : _). Some (f i)) (same_Some first item is)
maps_at f (first ∷ items) (suc k) item is = maps_at f items k item is

-- ---- points

-- without handlers nothing is caught
catch_none : (pool : Constants) (handlers : List Handler) (at : ℕ) → handlers ≡ [] → codes.catches_at pool handlers at ≡ []
catch_none pool handlers at none = rw (none) refl

-- a point of a method's code is that of an instruction, and an instruction has one
pub instr_of_point : (links : Links) (s : Scope) (k : ℕ) (point : Point) → slice_get (method_code links s).points k ≡ Some point
    → (placed : Placed) × (slice_get (instructions s) k ≡ Some placed) × (s.part.handlers ≡ [] → point.catches ≡ [])
instr_of_point links s k point is =
    let made = mapped_at _ (code_points s) k point is in
    let from = mapped_at _ (instructions s) k made.0 made.1 in
    (from.0, from.1, λ none. let nothing = catch_none s.class.pool s.part.handlers from.0.at none in rw (made.2, from.2, nothing) refl)

pub point_of_instr : (links : Links) (s : Scope) (k : ℕ) (placed : Placed) → slice_get (instructions s) k ≡ Some placed
    → (point : Point) × (slice_get (method_code links s).points k ≡ Some point)
point_of_instr links s k placed is = (_, maps_at _ (code_points s) k _ (maps_at _ (instructions s) k placed is))

-- ---- frames at points

-- a frame stands at a point of its method
pub record AtPoint (u : Setup) (f : MethodState) : Type 0 where
  pub point : Point
  pub is : point_at (before u) f.at f.place ≡ Some point

-- each frame of a method does
abbrev pub AtPoints : Setup → List RunFrame → Type 0
AtPoints u [] = Unit {0}
AtPoints u (Library made ∷ frames) = AtPoints u frames
AtPoints u (Beginning class ∷ frames) = AtPoints u frames
AtPoints u (Method f ∷ frames) = AtPoint u f × AtPoints u frames

-- ---- methods that stand in flat code

pub standing_of : {names : Names} {host : Coded} {expansion : Expansion} {held : Option ℕ} {locals : List (Option Value)}
    {chain : List MethodAt} {p : Standing} {waiting : List MethodState} {below : List Value}
    → Inside names host expansion held locals chain p waiting below
    → IsStanding host expansion chain p
standing_of in_host = host_stands
standing_of (in_callee f top placed frame g inner outer in_place is) =
    callee_stands f.place placed frame g inner (standing_of outer) is

module _ {u : Setup} (facts : FlatFacts u) where
  -- each runs its own code in the first program
  pub standing_code : (at : MethodAt) (flat : FlatCode) → u.flats at ≡ Some flat → (e : IsExpanded u.classes u.typed at flat)
      → (chain : List MethodAt) (p : Standing)
      → IsStanding e.host e.expansion chain p
      → code_at (before u) p.setting.coded.at ≡ Some (method_code u.links (scope_of p))
  standing_code at flat is_flat e chain p host_stands = facts.host_code at flat is_flat e
  standing_code at flat is_flat e chain p (callee_stands k placed frame g inner outer is) =
      let plain = facts.callee at flat _ _ k placed frame g inner is_flat e outer is in
      rw (plain.is) plain.code

  -- where it has a point it has an instruction
  pub standing_instr : (at : MethodAt) (flat : FlatCode) → u.flats at ≡ Some flat → (e : IsExpanded u.classes u.typed at flat)
      → (chain : List MethodAt) (p : Standing)
      → IsStanding e.host e.expansion chain p
      → (k : ℕ) (point : Point)
      → point_at (before u) p.setting.coded.at k ≡ Some point
      → (placed : Placed) × (slice_get (instrs_of p) k ≡ Some placed)
  standing_instr at flat is_flat e chain p stands k point is =
      let code = standing_code at flat is_flat e chain p stands in
      let found = instr_of_point u.links (scope_of p) k point (sym (point_in_code (before u) p.setting.coded.at k _ code) ∙ is) in
      (found.0, found.1)

  -- ---- methods that run their own code in both

  pub own_point : {names : Names} {f g : MethodState} → InOwn u names f g
      → point_at (after u) g.at g.place ≡ point_at (before u) f.at f.place
  own_point {f = f} own = rw (own.at, own.place, facts.own_code f.at own.no_flat) refl

-- Where types of uninitialised objects of candidate sites come from along the edges of a point.
use Rattle.std.proofs.Common.{◌≡◌, ◌≢◌, ◌+◌, ◌-◌, ◌<◌, ℕ, zero, suc, Bool, true, false, List, [], ◌∷◌, ◌++◌, length, slice_get, Option, Some, None, IsTrue, refl, sym, ap, subst, ◌∙◌, arith, inl, inr}
use Rattle.std.specs.Prelude.{◌==◌, is_some, slice_set}
use Rattle.std.specs.List.{AllByRecursion}
use Rattle.std.proofs.lemmas.List.{length-append}
use Rattle.std.proofs.lemmas.Option.{slice_get_within}
use Rattle.class_model.specs.declared.frame.Frame.{Frame}
use Rattle.class_model.specs.declared.frame.VType.{VType}
use Rattle.class_model.specs.declared.frame.VType.TheVariants as types
use Rattle.expanded_code.specs.Expanded.{Setting, set_type}
use Rattle.expanded_runs.proofs.Ready.StoredBack.{stored_back}
use Rattle.expanded_runs.proofs.Runs.PositionLaws.{slice_left, slice_right}
use Rattle.expanded_runs.proofs.Types.Units.{get_back}
use Rattle.flow_code.specs.FlatCode.{FlatCode, point_at}
use Rattle.flow_code.specs.ReadTypes.{class_of_site, is_site_object}
use Rattle.flow_code.specs.declared.handlers.FlatHandler.{FlatHandler}
use Rattle.flow_code.specs.declared.point.Point.{Point}
use Rattle.flow_code.specs.declared.point.Site.{Site}
use Rattle.member_link.specs.Machine.Programs.{number_of_first}
use Rattle.member_link.specs.Rows.LocalRows.{stored}
use Rattle.member_link.specs.Rows.Operands.{IsUninitialised}
use Rattle.plan_flow.specs.Must.{row_of_point}
use Rattle.plan_flow.specs.PlanRows.{Guard, PlanRow, Source, from_place}
use Rattle.plan_flow.specs.PlanScope.{PlanScope, local_types, stack_types}
use Rattle.plan_flow.specs.PlanTable.{edges_of, falls_on, handler_edges, held_from, held_locals, jump_edges, next_edges, operand, store_row, targets_at, thrown_edges}
use Rattle.plan_flow.specs.ReadyForPlans.{KeepsAlong, KeepsType, KeepsTypes, from_its_type, place_types}
use Rattle.same_runs.specs.Laws.ComeFirst.{all_appended}
use Rattle.same_runs.specs.Laws.Objects.{set_other}
use Rattle.same_runs.specs.Laws.Stored.{set_in}

-- ---- types of uninitialised objects

pub site_object : (flat : FlatCode) (type : VType) → IsTrue (is_site_object flat type) → (n : ℕ) × (type ≡ types.Uninit n)
site_object flat (types.Uninit n) is = (n, refl)
site_object flat types.Top is = absurd cc
site_object flat types.Int is = absurd cc
site_object flat types.Float is = absurd cc
site_object flat types.Long is = absurd cc
site_object flat types.Double is = absurd cc
site_object flat types.Null is = absurd cc
site_object flat types.UninitThis is = absurd cc
site_object flat (types.Object name) is = absurd cc

pub site_new : (flat : FlatCode) (type : VType) → IsTrue (is_site_object flat type) → IsUninitialised type
site_new flat type is = let found = site_object flat type is in subst IsUninitialised (sym found.1) tt

pub top_no_site : (flat : FlatCode) (type : VType) → type ≡ types.Top → ¬ IsTrue (is_site_object flat type)
top_no_site flat type top is = let no = subst (λ (t : VType). IsTrue (is_site_object flat t)) top is in absurd cc

-- in its place a type is one only if it is that of an uninitialised object
pub set_site : (flat : FlatCode) (t : Setting) (type : VType) → IsTrue (is_site_object flat (set_type t type)) → IsUninitialised type
set_site flat t (types.Uninit at) is = tt
set_site flat t types.UninitThis is = tt
set_site flat t types.Top is = absurd cc
set_site flat t types.Int is = absurd cc
set_site flat t types.Float is = absurd cc
set_site flat t types.Long is = absurd cc
set_site flat t types.Double is = absurd cc
set_site flat t types.Null is = absurd cc
set_site flat t (types.Object name) is = absurd cc

-- a site at a point has a number
pub site_numbered : (sites : List Site) (at : ℕ) → is_some (class_of_site sites at) ≡ true
    → (number : ℕ) × (number_of_first (λ (one : Site). one.at == at) sites ≡ Some number)
site_numbered [] at is = absurd cc
site_numbered (one ∷ others) at is = by (one.at == at) refl (site_numbered others at) where
  by : (here : Bool) → (one.at == at) ≡ here
      → (is_some (class_of_site others at) ≡ true → (number : ℕ) × (number_of_first (λ (o : Site). o.at == at) others ≡ Some number))
      → (number : ℕ) × (number_of_first (λ (o : Site). o.at == at) (one ∷ others) ≡ Some number)
  by true e later = (zero, rw (e) refl)
  by false e later =
      let rest = later (rw (e) at is) in
      (suc rest.0, rw (e, rest.1) refl)

-- ---- sources

pub held_long : (first count : ℕ) → length (held_from first count) ≡ count
held_long first zero = refl
held_long first (suc count) = ap suc (held_long (first + 1) count)

pub get_held : (first count n : ℕ) → n < count → slice_get (held_from first count) n ≡ Some (from_place (first + n))
get_held first zero n within = absurd (omega (arith, within))
get_held first (suc count) zero within = ap (λ (m : ℕ). Some (from_place m)) (omega arith)
get_held first (suc count) (suc n) within =
    get_held (first + 1) count n (omega (arith, within)) ∙ ap (λ (m : ℕ). Some (from_place m)) (omega arith)

-- a type comes from a place of it, or is that of the point's new
pub record Comes (number : ℕ) (before : List VType) (sources : List Source) (n : ℕ) (type : VType) : Type 0 where
  pub source : Source
  pub there : slice_get sources n ≡ Some source
  pub kept : KeepsType number before type source

pub local_comes : (number : ℕ) (f : Frame) (count n : ℕ) (type : VType) → n < count → slice_get f.locals n ≡ Some type
    → Comes number (place_types f) (held_from 0 count) n type
local_comes number f count n type within is = record {
  source = from_place (0 + n);
  there = get_held 0 count n within;
  kept = from_its_type (0 + n)
      (subst (λ (m : ℕ). slice_get (place_types f) m ≡ Some type) (omega arith) (slice_left f.locals f.stack n type is));
}

pub stack_comes : (number : ℕ) (f : Frame) (count : ℕ) (more : List Source) (n : ℕ) (type : VType) → n < count → slice_get f.stack n ≡ Some type
    → Comes number (place_types f) (held_from (length f.locals) count ++ more) n type
stack_comes number f count more n type within is = record {
  source = from_place (length f.locals + n);
  there = slice_left (held_from (length f.locals) count) more n _ (get_held (length f.locals) count n within);
  kept = from_its_type (length f.locals + n) (slice_right f.locals f.stack n type is);
}

pub set_source : (f : Frame) (at : ℕ) (source : Source) → at < length f.locals
    → slice_get (slice_set (held_locals f) at source) at ≡ Some source
set_source f at source within = set_in (held_locals f) at source (omega (arith, within, held_long 0 (length f.locals)))

pub other_source : (f : Frame) (at n : ℕ) (source : Source) → at ≢ n → n < length f.locals
    → slice_get (slice_set (held_locals f) at source) n ≡ Some (from_place n)
other_source f at n source other within =
    set_other (held_locals f) at n source other
    ∙ get_held 0 (length f.locals) n within
    ∙ ap (λ (m : ℕ). Some (from_place m)) (omega arith)

-- ---- what an edge keeps

-- a frame is that of the point of a number
pub record FrameThere (flat : FlatCode) (number : ℕ) (frame : Frame) : Type 0 where
  pub point : Point
  pub is : point_at flat number ≡ Some point
  pub typed : point.typed ≡ frame

pub locals_there : (flat : FlatCode) (number : ℕ) (frame : Frame) → FrameThere flat number frame → local_types flat number ≡ frame.locals
locals_there flat number frame there = rw (there.is) (ap (λ (f : Frame). f.locals) there.typed)

pub stack_there : (flat : FlatCode) (number : ℕ) (frame : Frame) → FrameThere flat number frame → stack_types flat number ≡ frame.stack
stack_there flat number frame there = rw (there.is) (ap (λ (f : Frame). f.stack) there.typed)

-- what goes by a row to a frame
pub record KeepsTo (flat : FlatCode) (number : ℕ) (f : Frame) (row : PlanRow) (to : Frame) : Type 0 where
  pub locals : (n : ℕ) (type : VType) → slice_get to.locals n ≡ Some type → IsTrue (is_site_object flat type)
      → Comes number (place_types f) row.locals n type
  pub stack : (n : ℕ) (type : VType) → slice_get to.stack n ≡ Some type → IsTrue (is_site_object flat type)
      → Comes number (place_types f) row.stack n type

-- each type of an object of a site in a frame is in another at the same place
pub record SameSites (flat : FlatCode) (from to : Frame) : Type 0 where
  pub locals : (n : ℕ) (type : VType) → slice_get to.locals n ≡ Some type → IsTrue (is_site_object flat type) → slice_get from.locals n ≡ Some type
  pub stack : (n : ℕ) (type : VType) → slice_get to.stack n ≡ Some type → IsTrue (is_site_object flat type) → slice_get from.stack n ≡ Some type

pub same_frame : (flat : FlatCode) (frame : Frame) → SameSites flat frame frame
same_frame flat frame = record { locals = λ n type is site. is; stack = λ n type is site. is }

pub keeps_more : {flat : FlatCode} {number : ℕ} {f : Frame} {row : PlanRow} {mid to : Frame} → KeepsTo flat number f row mid → SameSites flat mid to
    → KeepsTo flat number f row to
keeps_more keeps same = record {
  locals = λ n type is site. keeps.locals n type (same.locals n type is site) site;
  stack = λ n type is site. keeps.stack n type (same.stack n type is site) site;
}

-- a frame goes to the point of a number
pub record Reaches (flat : FlatCode) (frame : Frame) (number : ℕ) : Type 0 where
  pub to : Frame
  pub there : FrameThere flat number to
  pub same : SameSites flat frame to

-- where the locals are held, and so many entries
pub moving_to : (flat : FlatCode) (number : ℕ) (f : Frame) (row : PlanRow) (to : Frame) (count : ℕ) (more : List Source)
    → row.locals ≡ held_locals f
    → row.stack ≡ held_from (length f.locals) count ++ more
    → ((n : ℕ) (type : VType) → slice_get to.locals n ≡ Some type → IsTrue (is_site_object flat type) → slice_get f.locals n ≡ Some type)
    → ((n : ℕ) (type : VType) → slice_get to.stack n ≡ Some type → IsTrue (is_site_object flat type)
    → (n < count) × (slice_get f.stack n ≡ Some type))
    → KeepsTo flat number f row to
moving_to flat number f row to count more locals stack own_locals own_stack = record {
  locals = λ n type is site.
      let own = own_locals n type is site in
      subst (λ (sources : List Source). Comes number (place_types f) sources n type) (sym locals)
      (local_comes number f (length f.locals) n type (slice_get_within f.locals n type own) own);
  stack = λ n type is site.
      let own = own_stack n type is site in
      subst (λ (sources : List Source). Comes number (place_types f) sources n type) (sym stack) (stack_comes number f count more n type own.0 own.1);
}

-- a value is stored
pub store_to : (flat : FlatCode) (number : ℕ) (locals below : List VType) (value : VType) (unit : ℕ) → unit < length locals
    → KeepsTo flat number (record { locals = locals; stack = below ++ value ∷ [] })
    (store_row (record { locals = locals; stack = below ++ value ∷ [] }) unit) (record { locals = stored unit value locals; stack = below })
store_to flat number locals below value unit room = record {
  locals = λ n type is site. elim (stored_back unit value locals n type (site_new flat type site) is) [
    | inl here ↦ record {
      source = from_place (operand f 0);
      there = subst (λ (m : ℕ). slice_get (store_row f unit).locals m ≡ Some (from_place (operand f 0))) (sym here.0)
          (set_source f unit (from_place (operand f 0)) room);
      kept = from_its_type (operand f 0)
          (subst (λ (m : ℕ). slice_get (place_types f) m ≡ Some type) (omega (arith, length-append below (value ∷ [])))
          (slice_right f.locals f.stack (length below + 0) type (get_back below (value ∷ []) 0 ∙ ap Some here.1)));
    }
    | inr other ↦ record {
      source = from_place n;
      there = other_source f unit n (from_place (operand f 0)) (λ same. other.0 (sym same)) (slice_get_within locals n type other.1);
      kept = from_its_type n (slice_left f.locals f.stack n type other.1);
    }
  ];
  stack = λ n type is site.
      stack_comes number f (length f.stack - 1) [] n type
      (omega (arith, slice_get_within below n type is, length-append below (value ∷ []))) (slice_left below (value ∷ []) n type is);
} where
  f : Frame
  f = record { locals = locals; stack = below ++ value ∷ [] }

-- and to the frame of the point of a number
pub record GoesKept (flat : FlatCode) (number : ℕ) (f : Frame) (row : PlanRow) (target : ℕ) : Type 0 where
  pub to : Frame
  pub there : FrameThere flat target to
  pub keeps : KeepsTo flat number f row to

-- these locals are those of a handler's point where that has objects of sites, and it has none on its stack
pub record CatchKept (flat : FlatCode) (locals : List VType) (target : ℕ) : Type 0 where
  pub to : Frame
  pub there : FrameThere flat target to
  pub kept : (n : ℕ) (type : VType) → slice_get to.locals n ≡ Some type → IsTrue (is_site_object flat type)
      → slice_get locals n ≡ Some type
  pub none : (n : ℕ) (type : VType) → slice_get to.stack n ≡ Some type → ¬ IsTrue (is_site_object flat type)

module _ (s : PlanScope) (number : ℕ) (point : Point) where
  types_kept : (target : ℕ) (goes : GoesKept s.flat number point.typed (row_of_point s number point) target)
      → KeepsTypes s number (place_types point.typed) (row_of_point s number point).locals (local_types s.flat target)
  types_kept target goes n type is site =
      let comes = goes.keeps.locals n type
      (subst (λ (list : List VType). slice_get list n ≡ Some type) (locals_there s.flat target goes.to goes.there) is) site in
      (comes.source, comes.there, comes.kept)

  entries_kept : (target : ℕ) (goes : GoesKept s.flat number point.typed (row_of_point s number point) target)
      → KeepsTypes s number (place_types point.typed) (row_of_point s number point).stack (stack_types s.flat target)
  entries_kept target goes n type is site =
      let comes = goes.keeps.stack n type
      (subst (λ (list : List VType). slice_get list n ≡ Some type) (stack_there s.flat target goes.to goes.there) is) site in
      (comes.source, comes.there, comes.kept)

  next_kept : (falls : Bool) → (falls ≡ true → GoesKept s.flat number point.typed (row_of_point s number point) (number + 1))
      → AllByRecursion (KeepsAlong s number point) (next_edges number (row_of_point s number point) falls)
  next_kept true goes = (record { locals = types_kept (number + 1) (goes refl); stack = entries_kept (number + 1) (goes refl) }, tt)
  next_kept false goes = tt

  jumps_kept : (k : ℕ) (targets : List ℕ) → AllByRecursion (GoesKept s.flat number point.typed (row_of_point s number point)) targets
      → AllByRecursion (KeepsAlong s number point) (jump_edges (row_of_point s number point) k targets)
  jumps_kept k [] go = tt
  jumps_kept k (target ∷ targets) go =
      (record { locals = types_kept target go.0; stack = entries_kept target go.0 }, jumps_kept (k + 1) targets go.1)

  caught_kept : (guard : Guard) (k : ℕ) (handlers : List FlatHandler)
      → AllByRecursion (λ (handler : FlatHandler). CatchKept s.flat point.typed.locals handler.to) handlers
      → AllByRecursion (KeepsAlong s number point) (handler_edges guard k handlers)
  caught_kept guard k [] go = tt
  caught_kept guard k (handler ∷ handlers) go =
      let catch = go.0 in (
        record {
          locals = λ n type is site.
              let own = catch.kept n type
              (subst (λ (list : List VType). slice_get list n ≡ Some type) (locals_there s.flat handler.to catch.to catch.there) is) site in
              let comes = local_comes number point.typed (length point.typed.locals) n type (slice_get_within point.typed.locals n type own) own in
              (comes.source, comes.there, comes.kept);
          stack = λ n type is site.
              absurd (catch.none n type
              (subst (λ (list : List VType). slice_get list n ≡ Some type) (stack_there s.flat handler.to catch.to catch.there) is) site);
        },
        caught_kept guard (k + 1) handlers go.1,
      )

  thrown_kept : (throws : Option Guard)
      → AllByRecursion (λ (handler : FlatHandler). CatchKept s.flat point.typed.locals handler.to) point.handlers
      → AllByRecursion (KeepsAlong s number point) (thrown_edges throws point.handlers)
  thrown_kept None go = tt
  thrown_kept (Some guard) go = caught_kept guard 0 point.handlers go

  -- Each edge of a point.
  pub edges_kept : (falls_on point.instr ≡ true → GoesKept s.flat number point.typed (row_of_point s number point) (number + 1))
      → AllByRecursion (GoesKept s.flat number point.typed (row_of_point s number point)) (targets_at point.instr)
      → AllByRecursion (λ (handler : FlatHandler). CatchKept s.flat point.typed.locals handler.to) point.handlers
      → AllByRecursion (KeepsAlong s number point) (edges_of number point (row_of_point s number point))
  edges_kept next targets handlers =
      all_appended (KeepsAlong s number point) _ _
      (all_appended (KeepsAlong s number point) _ _ (next_kept (falls_on point.instr) next) (jumps_kept 0 (targets_at point.instr) targets))
      (thrown_kept (row_of_point s number point).throws handlers)

-- What still holds where objects keep their references and their shapes, and more classes are begun: which classes are known, whose virtual objects
-- are, and where the topmost planned frame stands.
use Rattle.std.proofs.Common.{◌≡◌, ◌++◌, ℕ, Bool, List, [], ◌∷◌, length, reverse, slice_get, Option, Some, None, IsTrue, refl, sym, ap, ◌∙◌}
use Rattle.std.proofs.lemmas.List.{length-reverse, reverse-append}
use Rattle.std.proofs.lemmas.Option.{same_Some}
use Rattle.machine_values.specs.Frames.{MethodState}
use Rattle.machine_values.specs.Heaps.{Heap, constant_made, kept_in, object_at}
use Rattle.machine_values.specs.declared.frame.RunFrame.{RunFrame}
use Rattle.machine_values.specs.declared.frame.RunFrame.TheVariants.{Beginning, Method}
use Rattle.machine_values.specs.declared.object.Constant.{Constant}
use Rattle.machine_values.specs.declared.object.Constant.TheVariants.{Str}
use Rattle.machine_values.specs.declared.object.Object.{Object}
use Rattle.machine_values.specs.declared.value.Value.{Value}
use Rattle.member_link.specs.Machine.Beginnings.{begun_memory, starts_of, with_start, with_starts}
use Rattle.member_link.specs.Machine.Programs.{Program, StartValue, StaticStart, start_string, start_value}
use Rattle.member_link.specs.Machine.Worlds.{Memory, is_begun}
use Rattle.plan_flow.specs.MetPlans.{MeetsState, RefersToSite}
use Rattle.plan_flow.specs.PlanScope.{PlanScope}
use Rattle.flow_code.specs.declared.point.Point.{Point}
use Rattle.same_runs.specs.Laws.Begun.{marked}
use Rattle.same_runs.specs.Laws.Numbered.{get_left}
use Rattle.same_runs.specs.Laws.Objects.{get_before, get_new, get_old}
use Rattle.same_runs.specs.Laws.QuietBeginnings.{begins_more}
use Rattle.same_runs.specs.Renamings.{Names}
use Rattle.virtual_state.specs.States.{State}
use Rattle.written_runs.specs.Inner.PlannedFrames.{Known}
use Rattle.written_runs.specs.Inner.Setup.{Setup}
use Rattle.written_runs.specs.Inner.Standing.{HasNone, Stands, beginnings_stand, libraries_stand, none_stand, own_stand, planned_stand}
use Rattle.written_runs.specs.Inner.Together.{AreKnown, AreOwned, TopIsSettled}
use Rattle.written_runs.specs.VirtualObjects.{Virtuals}

-- ---- memories

-- each object is there still, and of the shape that it had
pub record ShapesStay (before after : Heap) : Type 0 where
  pub stays : (reference : ℕ) (object : Object)
      → object_at before reference ≡ Some object
      → (also : Object) × (object_at after reference ≡ Some also) × (also.shape ≡ object.shape)

-- so is each class that was begun
pub record MemoryStays (before after : Memory) : Type 0 where
  pub shapes : ShapesStay before.heap after.heap
  pub begun : (class : ℕ) → IsTrue (is_begun before class) → IsTrue (is_begun after class)

shapes_themselves : (heap : Heap) → ShapesStay heap heap
shapes_themselves heap = record { stays = λ reference object is. (object, is, refl) }

pub memory_itself : (memory : Memory) → MemoryStays memory memory
memory_itself memory = record { shapes = shapes_themselves memory.heap; begun = λ class is. is }

shapes_through : {one other more : Heap} → ShapesStay one other → ShapesStay other more → ShapesStay one more
shapes_through first second = record {
  stays = λ reference object is.
      let middle = first.stays reference object is in
      let last = second.stays reference middle.0 middle.1 in
      (last.0, last.1, last.2 ∙ middle.2);
}

-- ---- a class that begins

made_stays : (heap : Heap) (constant : Constant) → ShapesStay heap (constant_made heap constant).heap
made_stays heap constant = by (kept_in heap.constants constant) refl where
  by : (found : Option ℕ) → kept_in heap.constants constant ≡ found → ShapesStay heap (constant_made heap constant).heap
  by None none = rw (none) (record { stays = λ reference object is. (object, get_old heap.objects _ reference object is, refl) })
  by (Some reference) some = rw (some) (shapes_themselves heap)

start_stays : (P : Program) (class : ℕ) (memory : Memory) (start : StaticStart) → ShapesStay memory.heap (with_start P class memory start).heap
start_stays P class memory start = by start.value refl where
  by : (value : StartValue) → start.value ≡ value → ShapesStay memory.heap (with_start P class memory start).heap
  by (start_value value) is = rw (is) (shapes_themselves memory.heap)
  by (start_string text) is = rw (is) (made_stays memory.heap (Str text))

starts_stay : (P : Program) (class : ℕ) (memory : Memory) (starts : List StaticStart) → ShapesStay memory.heap (with_starts P class memory starts).heap
starts_stay P class memory [] = shapes_themselves memory.heap
starts_stay P class memory (start ∷ starts) =
    shapes_through (start_stays P class memory start) (starts_stay P class (with_start P class memory start) starts)

pub begun_stays : (P : Program) (class : ℕ) (memory : Memory) → MemoryStays memory (begun_memory P class memory)
begun_stays P class memory = record {
  shapes = starts_stay P class (marked memory class) (starts_of P class);
  begun = begins_more P class memory;
}

-- ---- known classes, and where a planned frame stands

pub known_still : {before after : Heap} {known : Known} → ShapesStay before after → AreKnown before known → AreKnown after known
known_still stay are = record {
  each = λ reference class is.
      let was = are.each reference class is in
      let now = stay.stays reference was.0 was.1 in
      (now.0, now.1, now.2 ∙ was.2);
}

refers_still : {P : Program} {s : PlanScope} {before after : Heap} {number : ℕ} {value : Value}
    → ShapesStay before after
    → RefersToSite P s before number value
    → RefersToSite P s after number value
refers_still stay refers =
    let now = stay.stays refers.reference refers.object refers.there in record {
      site = refers.site;
      is_site = refers.is_site;
      class = refers.class;
      of_folder = refers.of_folder;
      reference = refers.reference;
      refers = refers.refers;
      object = now.0;
      there = now.1;
      of_class = now.2 ∙ refers.of_class;
    }

meets_still : {P : Program} {s : PlanScope} {point : Point} {state : State} {before after : Heap} {f : MethodState}
    → ShapesStay before after
    → MeetsState P s point state before f
    → MeetsState P s point state after f
meets_still stay meets = record {
  locals = λ unit site is. let found = meets.locals unit site is in (found.0, found.1, refers_still stay found.2);
  stack = λ place site is. let found = meets.stack place site is in (found.0, found.1, refers_still stay found.2);
}

pub settled_still : {u : Setup} {virtuals : Virtuals} {known : Known} {waiting : Bool} {names : Names} {ones others : List RunFrame}
    (before after : Memory) (frames : Stands u virtuals known waiting names ones others)
    → ShapesStay before.heap after.heap
    → TopIsSettled before frames
    → TopIsSettled after frames
settled_still before after none_stand stay settled = tt
settled_still before after (libraries_stand held below) stay settled = tt
settled_still before after (beginnings_stand below) stay settled = tt
settled_still before after (own_stand in_own below) stay settled = tt
settled_still before after (planned_stand in_planned waiting below) stay settled = record {
  point = settled.point;
  route = settled.route;
  here = settled.here;
  of_instruction = settled.of_instruction;
  met = meets_still stay settled.met;
}

-- ---- whose virtual objects are

pub owned_still : {u : Setup} {virtuals : Virtuals} {before after : Memory} {ones : List RunFrame}
    → MemoryStays before after
    → AreOwned u virtuals before ones
    → AreOwned u virtuals after ones
owned_still stay owned = record {
  owner = owned.owner;
  begun = λ number class virtual is shape. stay.begun class (owned.begun number class virtual is shape);
}

module _ {u : Setup} {virtuals : Virtuals} {before : Memory} (class : ℕ) (rest : List RunFrame)
    (owned : AreOwned u virtuals before (Beginning class ∷ rest)) where
  on_top : reverse (Beginning class ∷ rest) ≡ reverse rest ++ Beginning class ∷ []
  on_top = reverse-append (Beginning class ∷ []) rest

  no_frame : (f : MethodState) → slice_get (reverse rest ++ Beginning class ∷ []) (length (reverse rest)) ≡ Some (Method f) → ⊥
  no_frame f is = cc (same_Some (Beginning class) (Method f) (sym (get_new (reverse rest) (Beginning class)) ∙ is))

  -- a frame of a method is below the beginning
  stands_below : (f : MethodState) (at : ℕ)
      → slice_get (reverse (Beginning class ∷ rest)) at ≡ Some (Method f)
      → slice_get (reverse rest) at ≡ Some (Method f)
  stands_below f at is =
      let here = ap (λ (frames : List RunFrame). slice_get frames at) (sym on_top) ∙ is in
      get_before (reverse rest) (Beginning class) at (Method f)
      (λ same. no_frame f (ap (slice_get (reverse rest ++ Beginning class ∷ [])) (sym same) ∙ here)) here

  -- other frames take the place of the beginning
  pub owned_above : {after : Memory} (above : List RunFrame) → MemoryStays before after → AreOwned u virtuals after (above ++ rest)
  owned_above above stay = record {
    owner = λ number virtual is.
        let was = owned.owner number virtual is in (
          was.0,
          was.1,
          ap (λ (frames : List RunFrame). slice_get frames virtual.frame) (reverse-append above rest)
              ∙ get_left (reverse rest) (reverse above) virtual.frame (Method was.0) (stands_below was.0 virtual.frame was.2),
          was.3,
        );
    begun = λ number of_class virtual is shape. stay.begun of_class (owned.begun number of_class virtual is shape);
  }

  -- no virtual object is of the frame that takes it
  pub none_owned : HasNone virtuals (length rest)
  none_owned = record {
    none = λ number virtual is of_frame.
        let was = owned.owner number virtual is in
        no_frame was.0 (ap (slice_get (reverse rest ++ Beginning class ∷ [])) (length-reverse rest ∙ sym of_frame)
        ∙ ap (λ (frames : List RunFrame). slice_get frames virtual.frame) (sym on_top) ∙ was.2);
  }

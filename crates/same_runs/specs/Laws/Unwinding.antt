-- An object that is thrown in both runs ends at the same place.
use Rattle.std.proofs.Common.{◌≡◌, ℕ, Bool, true, false, List, [], ◌∷◌, Option, Some, None, if◌then◌else◌, IsFalse, refl, ap, ◌∙◌, inl, inr, ◌⊎◌}
use Rattle.machine_values.specs.Frames.{MethodState}
use Rattle.machine_values.specs.Heaps.{Heap, left, object_at}
use Rattle.machine_values.specs.declared.frame.RunFrame.{RunFrame}
use Rattle.machine_values.specs.declared.frame.RunFrame.TheVariants.{Method}
use Rattle.machine_values.specs.declared.object.Object.{Object}
use Rattle.machine_values.specs.declared.object.Shape.{Shape}
use Rattle.member_link.specs.Machine.Performing.{handler_at, handler_for, is_initialiser, leaves_initialiser, unlocked, unwind}
use Rattle.member_link.specs.Machine.Programs.{Catch, Point, Program, point_at}
use Rattle.member_link.specs.Machine.Shapes.{is_instance}
use Rattle.member_link.specs.Machine.Worlds.{Memory}
use Rattle.same_runs.specs.Renamings.{Names, SameHeld, none_held, one_held, SameObject}
use Rattle.same_runs.specs.SameFrames.{SameCatches, no_catches, and_catch, SameLanding, both_catch, both_leave, both_nowhere, both_reach_library, Unwinds, in_beginnings, in_both, in_first, in_library, in_none, catches_at, caught}
use Rattle.same_runs.specs.SameMemories.{Apart, SameMemories}
use Rattle.same_runs.specs.SamePrograms.{SamePrograms}
use Rattle.same_runs.specs.Laws.Heaps.{left_constants}
use Rattle.same_runs.specs.Laws.Heaps as heaps
use Rattle.same_runs.specs.Laws.Names.{names_themselves}
use Rattle.same_runs.specs.Laws.Shapes.{same_instance}
use Rattle.same_runs.specs.Laws.Statics.{keeps_all, memories_still}

handler_by : (P : Program) (heap : Heap) (f : MethodState) (reference : ℕ)
    → handler_at P heap (point_at P f.at f.place) reference ≡ handler_for P heap (catches_at P f) reference
handler_by P heap f reference = by (point_at P f.at f.place) refl where
  by : (found : Option Point) → point_at P f.at f.place ≡ found
      → handler_at P heap (point_at P f.at f.place) reference ≡ handler_for P heap (catches_at P f) reference
  by None is = rw (is) refl
  by (Some point) is = rw (is) refl

-- a monitor that both hold is left
pub unlocked_same :
    {P : Program} {Allocated Entered : ℕ → ℕ → Type 0} {apart : Apart} {names : Names} {one other : Memory} {held also : Option ℕ}
    → SameMemories P Allocated Entered apart names [] one other
    → SameHeld names held also
    → SameMemories P Allocated Entered apart names [] (unlocked one held) (unlocked other also)
unlocked_same memories none_held = memories
unlocked_same {names = names} {one = one} memories (one_held {reference = reference} {named = named} is) =
    memories_still (names_themselves names) (keeps_all one.heap (left one.heap reference) (left_constants one.heap reference))
    (heaps.both_leave memories.heaps reference named is) memories

module _ {P Q : Program} {Allocated Entered : ℕ → ℕ → Type 0} {apart : Apart} {Lands : Names → List RunFrame → List RunFrame
    → Type 0} {names : Names} (same : SamePrograms P Q) where
  -- the handlers of both catch an object, or neither's do
  handlers_same :
      {one other : Memory} {f g : MethodState} {ones others : List RunFrame} {catches also : List Catch} (reference named : ℕ)
      → SameMemories P Allocated Entered apart names [] one other
      → names reference ≡ Some named
      → SameCatches Lands names f g ones others catches also
      → ((handler_for P one.heap catches reference ≡ None) × (handler_for Q other.heap also named ≡ None))
      ⊎ ((to to_also : ℕ) × (handler_for P one.heap catches reference ≡ Some to) × (handler_for Q other.heap also named ≡ Some to_also)
      × Lands names (Method (caught f to reference) ∷ ones) (Method (caught g to_also named) ∷ others))
  handlers_same reference named memories is no_catches = inl (refl, refl)
  handlers_same reference named memories is (and_catch {class = None} {to = to} {to_also = to_also} lands rest) =
      inr (to, to_also, refl, refl, lands names reference named (names_themselves names) is)
  handlers_same {one = one} {other = other} {f = f} {g = g} {ones = ones} {others = others} reference named memories is
      (and_catch {class = Some name} {to = to} {to_also = to_also} {catches = catches} {also = also} lands rest) =
      let old = memories.heaps.objects reference named is in
      by old.0 old.1 old.2 old.3 old.4 (handlers_same reference named memories is rest) (is_instance P old.0.shape name) refl where
        by : (object object_also : Object) → object_at one.heap reference ≡ Some object → object_at other.heap named ≡ Some object_also
            → SameObject names object object_also
            → (((handler_for P one.heap catches reference ≡ None) × (handler_for Q other.heap also named ≡ None))
            ⊎ ((to to_also : ℕ) × (handler_for P one.heap catches reference ≡ Some to)
            × (handler_for Q other.heap also named ≡ Some to_also)
            × Lands names (Method (caught f to reference) ∷ ones) (Method (caught g to_also named) ∷ others)))
            → (b : Bool) → is_instance P object.shape name ≡ b
            → ((handler_for P one.heap (record { to = to; class = Some name } ∷ catches) reference ≡ None)
            × (handler_for Q other.heap (record { to = to_also; class = Some name } ∷ also) named ≡ None))
            ⊎ ((to_one to_two : ℕ) × (handler_for P one.heap (record { to = to; class = Some name } ∷ catches) reference ≡ Some to_one)
            × (handler_for Q other.heap (record { to = to_also; class = Some name } ∷ also) named ≡ Some to_two)
            × Lands names (Method (caught f to_one reference) ∷ ones) (Method (caught g to_two named) ∷ others))
        by object object_also there there_also alike more true e =
            let e_also = ap (λ (s : Shape). is_instance Q s name) alike.shape ∙ same_instance same object.shape name ∙ e in
            inr (to, to_also, rw (there, e) refl, rw (there_also, e_also) refl, lands names reference named (names_themselves names) is)
        by object object_also there there_also alike more false e =
            let e_also = ap (λ (s : Shape). is_instance Q s name) alike.shape ∙ same_instance same object.shape name ∙ e in
            elim more [
              | inl none ↦ inl (rw (there, e) none.0, rw (there_also, e_also) none.1)
              | inr found ↦ inr (found.0, found.1, rw (there, e) found.2, rw (there_also, e_also) found.3, found.4)
            ]

  pub unwind_same :
      {SameFrames : Names → List RunFrame → List RunFrame → Type 0} {ones others : List RunFrame} (reference named : ℕ) (one other : Memory)
      → Unwinds P Q SameFrames Lands names ones others
      → SameMemories P Allocated Entered apart names [] one other
      → names reference ≡ Some named
      → SameLanding P Allocated Entered apart SameFrames Lands names (unwind P reference ones one) (unwind Q named others other)
  unwind_same reference named one other (in_library frames) memories is = both_reach_library memories frames
  unwind_same reference named one other in_beginnings memories is = both_nowhere
  unwind_same reference named one other in_none memories is = both_nowhere
  unwind_same reference named one other (in_first {f = f} {ones = ones} {others = others} passes rest) memories is =
      rw (handler_by P one.heap f reference, passes.catches_none, passes.is, passes.no_initialiser, passes.holds_none)
      (unwind_same reference named one other rest memories is)
  unwind_same {SameFrames = SameFrames} reference named one other
      (in_both {f = f} {g = g} {ones = ones} {others = others} ends held catches frames rest) memories is =
      elim (handlers_same reference named memories is catches) [
        | inr found ↦ rw (handler_by P one.heap f reference, handler_by Q other.heap g named, found.2, found.3) (both_catch memories found.4)
        | inl none ↦ rw (handler_by P one.heap f reference, handler_by Q other.heap g named, none.0, none.1, ends.is, ends.is_also, ends.same)
            (past (is_initialiser ends.method) refl
            (λ no. unwind_same reference named (unlocked one f.held) (unlocked other g.held) (rest no) (unlocked_same memories held) is))
      ] where
        past : (b : Bool) → is_initialiser ends.method ≡ b
            → (IsFalse (is_initialiser ends.method)
            → SameLanding P Allocated Entered apart SameFrames Lands names (unwind P reference ones (unlocked one f.held))
            (unwind Q named others (unlocked other g.held)))
            → SameLanding P Allocated Entered apart SameFrames Lands names
            (if b then leaves_initialiser one ones else unwind P reference ones (unlocked one f.held))
            (if b then leaves_initialiser other others else unwind Q named others (unlocked other g.held))
        past true e more = both_leave memories
        past false e more = more e

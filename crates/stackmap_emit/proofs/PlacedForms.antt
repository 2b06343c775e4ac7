-- The frames of the items of the form that is chosen.
use Rattle.std.proofs.Common.{◌≡◌, ◌+◌, ◌*◌, ◌<◌, ◌≤◌, ◌^◌, ℕ, Bool, true, false, List, [], ◌∷◌, length, Option, Some, None, sym, ap, subst, ◌∙◌, arith, length-append, if◌then◌else◌}
use Rattle.class_model.specs.Header.{header_of}
use Rattle.class_model.specs.Pool.{Constants}
use Rattle.class_model.specs.declared.frame.Frame.{Frame}
use Rattle.class_model.specs.declared.frame.PlacedFrame.{PlacedFrame}
use Rattle.class_model.specs.declared.instr.Instr.{Instr}
use Rattle.class_tree.specs.Headers.{Name}
use Rattle.code_layout.specs.ChosenForm.{chosen_items, is_short}
use Rattle.code_layout.specs.PlainItems.{plain_items}
use Rattle.code_layout.specs.WideForm.{closing, jump_over, nop_behind, wide_from, wide_item, wide_numbers, widened, width}
use Rattle.code_layout.specs.declared.emitted.EmitItem.{EmitItem}
use Rattle.flow_code.specs.FlatCode.{FlatCode}
use Rattle.member_link.specs.Scope.{Scope}
use Rattle.plan_flow.specs.PlanScope.{PlanScope}
use Rattle.plan_flow.specs.Written.Finish.{Finished}
use Rattle.plan_flow.specs.Written.Routes.{Routes}
use Rattle.plan_flow.specs.Written.WrittenCode.{Form, short, wide, written_items}
use Rattle.plan_flow.specs.Written.WrittenConstants.{indexed_items}
use Rattle.stackmap_emit.proofs.WidePlaces.{are_as_wide, items_many, short_starts, wide_starts}
use Rattle.stackmap_emit.specs.FramedItems.{AreEmitted, ArePlacedBy, entry_with, finished_by, form_of}
use Rattle.stackmap_emit.specs.Inner.BlockTables.{AreStarts, form_number}
use Rattle.written_frames.specs.declared.starts.BlockStart.{BlockStart}

-- ---- how many items there are in the wide form

wide_few : (renumber : ℕ → ℕ) (number : ℕ) (item : EmitItem) (jump : Option Instr) → length (wide_item renumber number item jump) ≤ 2
wide_few renumber number item None = omega arith
wide_few renumber number item (Some instr) = omega arith

from_few : (renumber : ℕ → ℕ) (number : ℕ) (items : List EmitItem) → length (wide_from renumber number items) ≤ 2 * length items
from_few renumber number [] = omega arith
from_few renumber number (item ∷ items) =
    let jump = jump_over item in
    let first = wide_few renumber number item jump in
    let rest = from_few renumber (number + width jump) items in
    let all = length-append (wide_item renumber number item jump) (wide_from renumber (number + width jump) items) in
    let more : length (item ∷ items) ≡ length items + 1 = omega arith in
    omega (arith, first, rest, all, more)

closing_few : (items : List EmitItem) → length (closing items) ≤ 1
closing_few [] = omega arith
closing_few (item ∷ []) = by (jump_over item) where
  by : (jump : Option Instr) → length (nop_behind jump) ≤ 1
  by None = omega arith
  by (Some instr) = omega arith
closing_few (item ∷ next ∷ items) = closing_few (next ∷ items)

pub few_wide : (items : List EmitItem) (numbers : ℕ → ℕ) → length items ≤ 65535
    → length (wide_from numbers 0 items) + length (closing items) < 2 ^ 32
few_wide items numbers few =
    let from = from_few numbers 0 items in
    let last = closing_few items in
    omega (arith, few, from, last)

-- ---- what is promised of items

module _ (flat : FlatCode) (own : Name) (entry : Frame) (pool : Constants) (starts : List BlockStart) (offsets : List ℕ)
    (placed : List PlacedFrame) (max_stack : ℕ) where
  -- of those of a form
  abbrev pub OfItems : Option (List ℕ) → List EmitItem → Type 0
  OfItems numbers items =
      (host : Scope) (form : Form) (blocks : List Finished)
      → (header_of host.class).name ≡ own
      → entry ≡ entry_with host flat
      → length items ≡ length (written_items form blocks)
      → AreStarts form (form_number numbers (length items)) starts blocks
      → ArePlacedBy host flat form blocks pool items offsets placed max_stack

  -- of emitted ones
  abbrev pub OfEmitted : List EmitItem → Type 0
  OfEmitted emitted =
      (s : PlanScope) (host : Scope) (constructor : Name → List ℕ) (routes : Routes)
      → s.flat ≡ flat
      → (header_of host.class).name ≡ own
      → entry ≡ entry_with host s.flat
      → AreEmitted s constructor routes pool emitted starts
      → ArePlacedBy host s.flat (form_of emitted) (finished_by s routes) pool (chosen_items emitted) offsets placed max_stack

  of_form : (emitted items : List EmitItem) (form : Form) (numbers : Option (List ℕ))
      → form_of emitted ≡ form
      → chosen_items emitted ≡ items
      → ((s : PlanScope) (constructor : Name → List ℕ) (routes : Routes) → AreEmitted s constructor routes pool emitted starts
      → length items ≡ length (written_items form (finished_by s routes))
      → AreStarts form (form_number numbers (length items)) starts (finished_by s routes))
      → OfItems numbers items
      → OfEmitted emitted
  of_form emitted items form numbers form_is items_is are of_items = λ s host constructor routes flat_is own_is begins written.
      let blocks = finished_by s routes in
      let all : plain_items items ≡ indexed_items s constructor pool form blocks =
      subst (λ (found : List EmitItem). plain_items found ≡ indexed_items s constructor pool form blocks) items_is
      (subst (λ (found : Form). plain_items (chosen_items emitted) ≡ indexed_items s constructor pool found blocks) form_is written.items) in
      let many = items_many s constructor pool form blocks items all in
      let of_these : ArePlacedBy host flat form blocks pool items offsets placed max_stack =
      of_items host form blocks own_is (subst (λ (found : FlatCode). entry ≡ entry_with host found) flat_is begins) many
      (are s constructor routes written many) in
      subst (λ (found : FlatCode). ArePlacedBy host found (form_of emitted) blocks pool (chosen_items emitted) offsets placed max_stack) (sym flat_is)
      (subst (λ (found : Form). ArePlacedBy host flat found blocks pool (chosen_items emitted) offsets placed max_stack) (sym form_is)
      (subst (λ (found : List EmitItem). ArePlacedBy host flat form blocks pool found offsets placed max_stack) (sym items_is) of_these))

  pub of_short : (emitted items : List EmitItem) → is_short emitted ≡ true → items ≡ emitted → OfItems None items → OfEmitted emitted
  of_short emitted items told same of_items =
      of_form emitted items short None
      (ap (λ (b : Bool). if b then short else wide) told)
      (ap (λ (b : Bool). if b then emitted else widened emitted) told ∙ sym same)
      (λ s constructor routes written many. short_starts (length items) starts (finished_by s routes) written.are_starts) of_items

  pub of_wide : (emitted items : List EmitItem) (numbers : List ℕ)
      → is_short emitted ≡ false
      → items ≡ widened emitted
      → numbers ≡ wide_numbers emitted
      → OfItems (Some numbers) items
      → OfEmitted emitted
  of_wide emitted items numbers told same numbers_is of_items =
      of_form emitted items wide (Some numbers)
      (ap (λ (b : Bool). if b then short else wide) told)
      (ap (λ (b : Bool). if b then emitted else widened emitted) told ∙ sym same)
      (λ s constructor routes written many.
      subst (λ (found : List ℕ). AreStarts wide (form_number (Some found) (length items)) starts (finished_by s routes)) (sym numbers_is)
      (wide_starts (length items) emitted starts (finished_by s routes)
      (are_as_wide s constructor pool short (finished_by s routes) 0 emitted (written_items short (finished_by s routes)) written.short_items
      written.widths) written.are_starts many)) of_items

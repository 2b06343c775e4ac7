-- Each frame that types a method with code has as many local units as the code.
use Rattle.std.proofs.Common.{◌≡◌, ℕ, zero, suc, List, [], ◌∷◌, ◌++◌, length, map, slice_get, Bool, true, false, Option, Some, None, if◌then◌else◌, refl, sym, subst, ◌∙◌}
use Rattle.std.proofs.lemmas.Option.{none-some, same_Some}
use Rattle.class_model.specs.Checks.{AllHold}
use Rattle.class_model.specs.Laws.Checks.{first_holds, others_hold}
use Rattle.class_model.specs.Methods.{home_of}
use Rattle.class_model.specs.PoolChecks.{text_or_empty, utf8_at}
use Rattle.class_model.specs.Descriptors.{parameters_of}
use Rattle.class_model.specs.declared.frame.Frame.{Frame}
use Rattle.class_model.specs.declared.instr.Placed.{Placed}
use Rattle.expanded_code.specs.Laws.EntryUnits.{entry_frame_long}
use Rattle.expanded_code.specs.Laws.RowUnits.{row_keeps_units}
use Rattle.expanded_code.specs.Laws.StatedUnits.{stated_units}
use Rattle.inline_expand.specs.Inner.Steps.{HaveItsUnits, IsCallable}
use Rattle.member_link.specs.Bodies.{falls_through, flows_on, frame_behind, item_targets, point_row}
use Rattle.member_link.specs.Rows.Table.{row_of}
use Rattle.member_link.specs.Scope.{Scope, instructions, row_scope}
use Rattle.type_rules.specs.Checks.{IsTypedAt, frame_before, handler_checks, target_checks}
use Rattle.type_rules.specs.MethodBodies.{body_of, point_of}
use Rattle.type_rules.specs.Rule.{row_checks}
use Rattle.type_rules.specs.Stated.{entry, stated_at}
use Rattle.type_rules.specs.Typed.{AreTyped, Typed}

-- the frame behind an instruction that falls through
frame_on : (falls on : Bool) (frame flows : Frame) → (if falls then (if on then Some frame else None) else None) ≡ Some flows → frame ≡ flows
frame_on true true frame flows is = same_Some frame flows is
frame_on true false frame flows is = absurd (none-some flows is)
frame_on false on frame flows is = absurd (none-some flows is)

module _ (s : Scope) where
  abbrev IsLong : Frame → Type 0
  IsLong frame = length frame.locals ≡ s.part.max_locals

  entry_long : IsCallable s → IsLong (entry s)
  entry_long callable =
      entry_frame_long s.method.flags (text_or_empty (utf8_at s.class.pool s.method.name)) (home_of s.class).name
      (parameters_of (text_or_empty (utf8_at s.class.pool s.method.desc))) s.part.max_locals callable.fits

  -- the frame before an instruction
  before_long : (flows : Option Frame) → ((frame : Frame) → flows ≡ Some frame → IsLong frame)
      → (place : ℕ) (stated : Option Frame) → stated_at s place ≡ stated
      → (frame : Frame) → frame_before flows stated ≡ Some frame
      → IsLong frame
  before_long flows long place (Some stated) is frame before =
      subst IsLong (same_Some stated frame before) (stated_units (home_of s.class) s.method s.part place stated s.part.attrs is).long
  before_long flows long place None is frame before = long frame before

  module _ (placed : Placed) (flows : Option Frame) (frame : Frame) (typed : IsTypedAt (body_of s) flows (point_of s placed) frame) where
    rows_hold : AllHold (row_checks (row_scope s) frame (point_row (point_of s placed) frame))
    rows_hold =
        let point = point_of s placed in
        let rows = row_checks (row_scope s) frame (point_row point frame) in
        let targets = target_checks (body_of s) (frame_behind point frame) (item_targets point.item) in
        let handlers = handler_checks (body_of s) frame point.catches in
        others_hold handlers rows (first_holds (handlers ++ rows) targets typed.holds.1)

    behind_long : IsLong frame → (after : Frame) → flows_on (point_of s placed) frame ≡ Some after → IsLong after
    behind_long long after is =
        let keeps = row_keeps_units (row_scope s) frame placed.at placed.instr rows_hold.1.0 rows_hold.0 in
        let same = frame_on (falls_through placed.instr) (row_of (row_scope s) frame placed.at placed.instr).goes_on _ after is in
        subst IsLong same (keeps.long ∙ long)

  each_long : (instrs : List Placed) (frames : List Frame) (flows : Option Frame)
      → ((frame : Frame) → flows ≡ Some frame → IsLong frame)
      → AreTyped (body_of s) flows (map (point_of s) instrs) frames
      → HaveItsUnits s frames
  each_long [] [] flows long typed number frame is = absurd (none-some frame is)
  each_long [] (own ∷ frames) flows long typed number frame is = absurd typed
  each_long (placed ∷ instrs) [] flows long typed number frame is = absurd typed
  each_long (placed ∷ instrs) (own ∷ frames) flows long typed zero frame is =
      subst IsLong (same_Some own frame is) (before_long flows long placed.at (stated_at s placed.at) refl own typed.0.before_is)
  each_long (placed ∷ instrs) (own ∷ frames) flows long typed (suc number) frame is =
      let own_long = before_long flows long placed.at (stated_at s placed.at) refl own typed.0.before_is in
      each_long instrs frames (flows_on (point_of s placed) own)
      (λ after goes. behind_long placed flows own typed.0 own_long after goes) typed.1 number frame is

  -- Each frame has the units of the code.
  pub have_its_units : IsCallable s → (frames : List Frame) → Typed s frames → HaveItsUnits s frames
  have_its_units callable frames typed =
      each_long (instructions s) frames (Some (entry s))
      (λ frame is. subst IsLong (same_Some (entry s) frame is) (entry_long callable)) typed.instrs

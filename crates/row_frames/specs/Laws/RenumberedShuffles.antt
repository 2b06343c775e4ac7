-- Moves of stack entries, behind frames whose uninitialised objects have other numbers.
use Rattle.std.proofs.Common.{◌≡◌, ℕ, Bool, List, [], ◌∷◌, length, map, slice_get, Option, Some, None, if◌then◌else◌, refl, sym, ap, subst, ◌∙◌}
use Rattle.std.proofs.lemmas.Option.{slice_get-map}
use Rattle.class_model.specs.declared.frame.Frame.{Frame}
use Rattle.class_model.specs.declared.frame.VType.{VType}
use Rattle.row_frames.specs.Laws.NumberedFrames.{numbered_type, numbered_frame}
use Rattle.row_frames.specs.Laws.RenumberedRows.{Moves, no_row_moves, plain_moves}
use Rattle.row_frames.specs.Laws.RenumberedTypes.{numbered_need, single_same, topmost_same, wide_same}
use Rattle.member_link.specs.Rows.Operands.{Need, topmost}
use Rattle.member_link.specs.Rows.ShuffleRows.{Form, Width, one, two, form_in, form_row, forms_of, has_width, have_widths, need_of, picked, shuffle_row}

module _ (number : ℕ → ℕ) where
  width_same : (width : Width) (type : VType) → has_width width (numbered_type number type) ≡ has_width width type
  width_same one type = single_same number type
  width_same two type = wide_same number type

  widths_same : (widths : List Width) (entries : List VType)
      → have_widths widths (map (numbered_type number) entries) ≡ have_widths widths entries
  widths_same [] [] = refl
  widths_same [] (entry ∷ entries) = refl
  widths_same (width ∷ widths) [] = refl
  widths_same (width ∷ widths) (entry ∷ entries) = rw (width_same width entry, widths_same widths entries) refl

  form_same : (forms : List Form) (stack : List VType) → form_in forms (map (numbered_type number) stack) ≡ form_in forms stack
  form_same [] stack = refl
  form_same (first ∷ others) stack =
      ap (λ (entries : List VType). if have_widths first.takes entries then Some first else form_in others
      (map (numbered_type number) stack)) (topmost_same number (length first.takes) stack)
      ∙ ap (λ (have : Bool). if have then Some first else form_in others (map (numbered_type number) stack))
      (widths_same first.takes (topmost (length first.takes) stack))
      ∙ ap (λ (found : Option Form). if have_widths first.takes (topmost (length first.takes) stack) then Some first else found)
      (form_same others stack)

  picked_same : (operands : List VType) (numbers : List ℕ)
      → picked (map (numbered_type number) operands) numbers ≡ map (numbered_type number) (picked operands numbers)
  picked_same operands [] = refl
  picked_same operands (at ∷ numbers) = by (slice_get operands at) refl (picked_same operands numbers) where
    by : (found : Option VType) → slice_get operands at ≡ found
        → picked (map (numbered_type number) operands) numbers ≡ map (numbered_type number) (picked operands numbers)
        → picked (map (numbered_type number) operands) (at ∷ numbers) ≡ map (numbered_type number) (picked operands (at ∷ numbers))
    by None is others = rw (slice_get-map (numbered_type number) operands at, is) others
    by (Some type) is others =
        rw (slice_get-map (numbered_type number) operands at, is)
        (ap (λ (entries : List VType). numbered_type number type ∷ entries) others)

  needs_same : (widths : List Width) → map need_of widths ≡ map (numbered_need number) (map need_of widths)
  needs_same [] = refl
  needs_same (one ∷ widths) = ap (λ (needs : List Need). need_of one ∷ needs) (needs_same widths)
  needs_same (two ∷ widths) = ap (λ (needs : List Need). need_of two ∷ needs) (needs_same widths)

  form_moves : (f : Frame) (form : Option Form) → Moves number (form_row f form) (form_row (numbered_frame number f) form)
  form_moves f None = no_row_moves number f
  form_moves f (Some form) = plain_moves number f _ _ _ _ (needs_same form.takes)
      (ap (λ (entries : List VType). picked entries form.gives) (topmost_same number (length form.takes) f.stack)
      ∙ picked_same (topmost (length form.takes) f.stack) form.gives)

  pub shuffle_moves : (f : Frame) (opcode : ℕ) → Moves number (shuffle_row f opcode) (shuffle_row (numbered_frame number f) opcode)
  shuffle_moves f opcode =
      subst (λ (form : Option Form). Moves number (shuffle_row f opcode) (form_row (numbered_frame number f) form))
      (sym (form_same (forms_of opcode) f.stack)) (form_moves f (form_in (forms_of opcode) f.stack))

-- Moves of stack entries in their place in flat code: over more entries of callers, the form is the same.
use Rattle.std.proofs.Common.{◌≡◌, ◌+◌, ◌-◌, ◌≤◌, ℕ, suc, Bool, true, false, List, [], ◌∷◌, ◌++◌, length, map, drop, slice_get, Option, Some, None, if◌then◌else◌, refl, sym, ap, subst, ◌∙◌, inl, inr, arith}
use Rattle.std.specs.Prelude.{◌==◌, ◌&&◌, ◌⊎◌}
use Rattle.std.specs.List.{AllByRecursion}
use Rattle.std.proofs.lemmas.List.{drop-drop, length-append, length-drop, length-map}
use Rattle.std.proofs.lemmas.Option.{slice_get-map}
use Rattle.class_model.specs.Frames.{is_wide}
use Rattle.class_model.specs.declared.frame.Frame.{Frame}
use Rattle.class_model.specs.declared.frame.VType.{VType}
use Rattle.class_model.specs.declared.frame.VType.TheVariants as types
use Rattle.class_model.specs.declared.opcodes.TheConstants.{POP, POP2, DUP, DUP_X1, DUP_X2, DUP2, DUP2_X1, DUP2_X2, SWAP}
use Rattle.expanded_runs.proofs.Types.PlacedRows.{HasOperands, Moves, has_enough, plain_moves}
use Rattle.expanded_runs.proofs.Types.PlacedTypes.{IsKept, Place, placed_frame, placed_stack, placed_type, single_same, topmost_same, wide_same}
use Rattle.member_link.specs.Rows.Operands.{AllFit, is_single, nothing, topmost}
use Rattle.member_link.specs.Rows.ShuffleRows.{Form, Width, one, two, form_in, form_row, forms_of, has_width, have_widths, need_of, picked, shuffle_row}

-- ---- no two forms fit one stack

-- the topmost entries have these widths
abbrev pub fit_form : List Width → List VType → Bool
fit_form widths stack = have_widths widths (topmost (length widths) stack)

-- counted from the top, they differ at an entry
pub record Differ (widths others : List Width) : Type 0 where
  pub under : List Width
  pub others_under : List Width
  pub above : List Width
  pub is : (widths ≡ under ++ one ∷ above) × (others ≡ others_under ++ two ∷ above)

abbrev Clash : List Width → List Width → Type 0
Clash widths others = Differ widths others ⊎ Differ others widths

both_by : (a b : Bool) → (a && b) ≡ true → (a ≡ true) × (b ≡ true)
both_by true b is = (refl, is)
both_by false b is = absurd cc

both_true : {a b : Bool} → (a && b) ≡ true → (a ≡ true) × (b ≡ true)
both_true {a} {b} is = both_by a b is

widths_many : (widths : List Width) (entries : List VType) → have_widths widths entries ≡ true → length entries ≡ length widths
widths_many [] [] is = refl
widths_many [] (entry ∷ entries) is = absurd cc
widths_many (width ∷ widths) [] is = absurd cc
widths_many (width ∷ widths) (entry ∷ entries) is = ap suc (widths_many widths entries (both_true is).1)

widths_above : (under above : List Width) (entries : List VType) → have_widths (under ++ above) entries ≡ true
    → have_widths above (drop (length under) entries) ≡ true
widths_above [] above entries is = is
widths_above (width ∷ under) above [] is = absurd cc
widths_above (width ∷ under) above (entry ∷ entries) is = widths_above under above entries (both_true is).1

pub form_many : (widths : List Width) (stack : List VType) → fit_form widths stack ≡ true → length widths ≤ length stack
form_many widths stack is =
    omega (arith, widths_many widths (topmost (length widths) stack) is, length-drop (length stack - length widths) stack)

form_above : (under above : List Width) (stack : List VType) → fit_form (under ++ above) stack ≡ true → fit_form above stack ≡ true
form_above under above stack is =
    let many : length (under ++ above) ≤ length stack = form_many (under ++ above) stack is in
    let at : (length stack - length (under ++ above)) + length under ≡ length stack - length above =
    omega (arith, many, length-append under above) in
    ap (λ (entries : List VType). have_widths above entries)
    (ap (λ (n : ℕ). drop n stack) (sym at) ∙ sym (drop-drop (length under) (length stack - length (under ++ above)) stack))
    ∙ widths_above under above (topmost (length (under ++ above)) stack) is

no_width : (type : VType) → is_single type ≡ true → is_wide type ≡ true → ⊥
no_width types.Long single wide = absurd cc
no_width types.Double single wide = absurd cc
no_width other single wide = absurd cc

no_entries : (above : List Width) (entries : List VType) → have_widths (one ∷ above) entries ≡ true
    → have_widths (two ∷ above) entries ≡ true → ⊥
no_entries above [] single wide = absurd cc
no_entries above (entry ∷ entries) single wide = no_width entry (both_true single).0 (both_true wide).0

differ_apart : (widths others : List Width) (stack : List VType) → Differ widths others → fit_form widths stack ≡ true
    → fit_form others stack ≡ true → ⊥
differ_apart widths others stack differ is also =
    no_entries differ.above (topmost (suc (length differ.above)) stack)
    (form_above differ.under (one ∷ differ.above) stack (subst (λ (all : List Width). fit_form all stack ≡ true) differ.is.0 is))
    (form_above differ.others_under (two ∷ differ.above) stack (subst (λ (all : List Width). fit_form all stack ≡ true) differ.is.1 also))

clash_apart : (widths others : List Width) (stack : List VType) → Clash widths others → fit_form widths stack ≡ true
    → fit_form others stack ≡ true → ⊥
clash_apart widths others stack (inl differ) is also = differ_apart widths others stack differ is also
clash_apart widths others stack (inr differ) is also = differ_apart others widths stack differ also is

-- each form differs from those behind it
abbrev AreApart : List Form → Type 0
AreApart [] = Unit {0}
AreApart (first ∷ others) = AllByRecursion (λ form. Clash first.takes form.takes) others × AreApart others

either_apart : (test : Bool) (forms others : List Form) → AreApart forms → AreApart others → AreApart (if test then forms else others)
either_apart true forms others are also = are
either_apart false forms others are also = also

-- one value where the other form has a value of two units, behind these above
low : (under others_under above : List Width) → Clash (under ++ one ∷ above) (others_under ++ two ∷ above)
low under others_under above = inl (record { under = under; others_under = others_under; above = above; is = (refl, refl) })

high : (under others_under above : List Width) → Clash (others_under ++ two ∷ above) (under ++ one ∷ above)
high under others_under above = inr (record { under = under; others_under = others_under; above = above; is = (refl, refl) })

forms_apart : (opcode : ℕ) → AreApart (forms_of opcode)
forms_apart opcode =
    either_apart (opcode == POP) _ _ (tt, tt)
    (either_apart (opcode == POP2) _ _ ((low (one ∷ []) [] [], tt), (tt, tt))
    (either_apart (opcode == DUP) _ _ (tt, tt)
    (either_apart (opcode == DUP_X1) _ _ (tt, tt)
    (either_apart (opcode == DUP_X2) _ _ ((low (one ∷ []) [] (one ∷ []), tt), (tt, tt))
    (either_apart (opcode == DUP2) _ _ ((low (one ∷ []) [] [], tt), (tt, tt))
    (either_apart (opcode == DUP2_X1) _ _ ((low (one ∷ one ∷ []) (one ∷ []) [], tt), (tt, tt))
    (either_apart (opcode == DUP2_X2) _ _ (
      (low (one ∷ one ∷ one ∷ []) (one ∷ one ∷ []) [], (low (one ∷ []) [] (one ∷ one ∷ []), (low (one ∷ one ∷ one ∷ []) (two ∷ []) [], tt))),
      (
        (high (two ∷ one ∷ []) (one ∷ one ∷ []) [], (low (one ∷ []) [] (two ∷ []), tt)),
        ((low (two ∷ one ∷ []) (two ∷ []) [], tt), (tt, tt)),
      ),
    )
    (either_apart (opcode == SWAP) _ _ (tt, tt) tt))))))))

-- ---- what fits one stack fits another

-- Where each form that fits a stack fits another too, the form of an opcode is the same over both.
module _ (stack over : List VType) (kept : (widths : List Width) → fit_form widths stack ≡ true → fit_form widths over ≡ true) where
  record IsFound (first : List Width) (form : Form) : Type 0 where
    clash : Clash first form.takes
    fits : fit_form form.takes stack ≡ true

  found_among : (first : List Width) (others : List Form) (form : Form)
      → AllByRecursion (λ other. Clash first other.takes) others → form_in others stack ≡ Some form → IsFound first form
  found_among first [] form clash is = absurd cc
  found_among first (other ∷ others) form clash is =
      by (fit_form other.takes stack) refl is (found_among first others form clash.1) where
        by : (fits : Bool) → fit_form other.takes stack ≡ fits → (if fits then Some other else form_in others stack) ≡ Some form
            → (form_in others stack ≡ Some form → IsFound first form)
            → IsFound first form
        by true fits found below =
            let same : other ≡ form = cc in
            subst (IsFound first) same (record { clash = clash.0; fits = fits })
        by false fits found below = below found

  form_over : (forms : List Form) (form : Form) → AreApart forms → form_in forms stack ≡ Some form → form_in forms over ≡ Some form
  form_over [] form apart is = absurd cc
  form_over (first ∷ others) form apart is =
      by (fit_form first.takes stack) refl is (form_over others form apart.1) where
        other : (fits : Bool) → fit_form first.takes over ≡ fits → form_in others stack ≡ Some form
            → form_in others over ≡ Some form
            → (if fits then Some first else form_in others over) ≡ Some form
        other true fits found also =
            let of : IsFound first.takes form = found_among first.takes others form apart.0 found in
            absurd (clash_apart first.takes form.takes over of.clash fits (kept form.takes of.fits))
        other false fits found also = also

        by : (fits : Bool) → fit_form first.takes stack ≡ fits → (if fits then Some first else form_in others stack) ≡ Some form
            → (form_in others stack ≡ Some form → form_in others over ≡ Some form)
            → form_in (first ∷ others) over ≡ Some form
        by true fits found below = rw (kept first.takes fits) found
        by false fits found below = other (fit_form first.takes over) refl found (below found)

  pub form_over_both : (opcode : ℕ) (form : Form) → form_in (forms_of opcode) stack ≡ Some form → form_in (forms_of opcode) over ≡ Some form
  form_over_both opcode form is = form_over (forms_of opcode) form (forms_apart opcode) is

module _ (p : Place) (f : Frame) where
  -- ---- forms

  width_same : (width : Width) (type : VType) → has_width width (placed_type p type) ≡ has_width width type
  width_same one type = single_same p type
  width_same two type = wide_same p type

  widths_same : (widths : List Width) (entries : List VType)
      → have_widths widths (map (placed_type p) entries) ≡ have_widths widths entries
  widths_same [] [] = refl
  widths_same [] (entry ∷ entries) = refl
  widths_same (width ∷ widths) [] = refl
  widths_same (width ∷ widths) (entry ∷ entries) = rw (width_same width entry, widths_same widths entries) refl

  -- what fits does so over more entries
  form_kept : (widths : List Width) (stack : List VType) → fit_form widths stack ≡ true → fit_form widths (placed_stack p stack) ≡ true
  form_kept widths stack is =
      ap (λ (entries : List VType). have_widths widths entries) (topmost_same p (length widths) stack (form_many widths stack is))
      ∙ widths_same widths (topmost (length widths) stack)
      ∙ is

  -- ---- the row

  picked_same : (operands : List VType) (numbers : List ℕ)
      → picked (map (placed_type p) operands) numbers ≡ map (placed_type p) (picked operands numbers)
  picked_same operands [] = refl
  picked_same operands (at ∷ numbers) = by (slice_get operands at) refl (picked_same operands numbers) where
    by : (found : Option VType) → slice_get operands at ≡ found
        → picked (map (placed_type p) operands) numbers ≡ map (placed_type p) (picked operands numbers)
        → picked (map (placed_type p) operands) (at ∷ numbers) ≡ map (placed_type p) (picked operands (at ∷ numbers))
    by None is others = rw (slice_get-map (placed_type p) operands at, is) others
    by (Some type) is others =
        rw (slice_get-map (placed_type p) operands at, is)
        (ap (λ (entries : List VType). placed_type p type ∷ entries) others)

  needs_kept : (widths : List Width) → AllByRecursion (IsKept p) (map need_of widths)
  needs_kept [] = tt
  needs_kept (one ∷ widths) = (tt, needs_kept widths)
  needs_kept (two ∷ widths) = (tt, needs_kept widths)

  form_moves : (form : Form) → HasOperands p f (form_row f (Some form))
      → Moves p f (form_row f (Some form)) (form_row (placed_frame p f) (Some form))
  form_moves form fit = plain_moves p f _ _ _ (needs_kept form.takes)
      (ap (λ (entries : List VType). picked entries form.gives) (topmost_same p (length form.takes) f.stack enough)
      ∙ picked_same (topmost (length form.takes) f.stack) form.gives) fit where
        enough : length form.takes ≤ length f.stack
        enough = omega (arith, has_enough p.scope (map need_of form.takes) f.stack fit, length-map form.takes need_of)

  pub shuffle_moves : (opcode : ℕ) → HasOperands p f (shuffle_row f opcode)
      → Moves p f (shuffle_row f opcode) (shuffle_row (placed_frame p f) opcode)
  shuffle_moves opcode fit = by (form_in (forms_of opcode) f.stack) refl fit where
    by : (found : Option Form) → form_in (forms_of opcode) f.stack ≡ found → HasOperands p f (form_row f found)
        → Moves p f (form_row f (form_in (forms_of opcode) f.stack)) (shuffle_row (placed_frame p f) opcode)
    by None is held = absurd (no_operands held)
      where
        no_operands : HasOperands p f (form_row f None) → ⊥
        no_operands held = of (topmost 1 f.stack) held where
          of : (entries : List VType) → AllFit p.scope (nothing ∷ []) entries → ⊥
          of [] none = none
          of (entry ∷ entries) none = none.0
    by (Some form) is held = rw (is, form_over_both f.stack (placed_stack p f.stack) (λ widths. form_kept widths f.stack) opcode form is) (form_moves form held)

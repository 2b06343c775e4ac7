-- The local units behind an edge, one by one.
use Rattle.std.proofs.Common.{◌≡◌, ◌≢◌, ◌+◌, ◌-◌, ◌<◌, ◌≤◌, ℕ, zero, suc, List, [], ◌∷◌, ◌++◌, length, take, drop, replicate, get_or, slice_get, Option, Some, None, refl, sym, ap, ◌∙◌, arith}
use Rattle.std.proofs.lemmas.List.{get_or-set_other, get_or-set_same, length-set}
use Rattle.std.proofs.lemmas.Option.{slice_get-get_or, slice_get_past}
use Rattle.class_model.specs.declared.frame.Frame.{Frame}
use Rattle.class_model.specs.declared.frame.VType.{VType}
use Rattle.plan_flow.specs.Inner.Fitting.{local_of}
use Rattle.plan_flow.specs.Inner.Fronts.{held_slots, locals_held}
use Rattle.plan_flow.specs.Inner.RowViews.{change_of, plan_row, stored_by, stored_slots}
use Rattle.plan_flow.specs.PlanRows.{Change}
use Rattle.plan_flow.specs.PlanScope.{PlanScope}
use Rattle.plan_flow.specs.PlanSlots.{edge_locals, fit_locals, held, slots_from}
use Rattle.plan_flow.specs.PlanTable.{held_from, operand}
use Rattle.plan_flow.specs.declared.edge.EdgeKind.{EdgeKind}
use Rattle.plan_flow.specs.declared.rows.Row.{Row}
use Rattle.plan_flow.proofs.Fitting.{locals_more}
use Rattle.plan_flow.proofs.Gathering.{locals_by, stored_is}
use Rattle.virtual_state.specs.States.{State}
use Rattle.virtual_state.specs.declared.slot.Slot.{Slot}
use Rattle.virtual_state.specs.declared.slot.Slot.TheVariants.{Plain, Unusable}

-- ---- what the local units hold

held_slots_are : (s : PlanScope) (state : State) (by : Change) (first count : ℕ) → held_slots state first count ≡ slots_from s state by (held_from first count)
held_slots_are s state by first zero = refl
held_slots_are s state by first (suc count) = ap (λ (list : List Slot). held state first ∷ list) (held_slots_are s state by (first + 1) count)

pub locals_held_are : (s : PlanScope) (state : State) (f : Frame) (row : Row) (by : EdgeKind) → locals_held state f (stored_by row.stored by) ≡ slots_from s state (change_of row.change) (edge_locals (plan_row f row) (length f.locals) by)
locals_held_are s state f row by =
    let change = change_of row.change in
    ap (stored_slots state f (stored_by row.stored by)) (held_slots_are s state change 0 (length f.locals))
    ∙ stored_is s state change f (stored_by row.stored by)
    ∙ ap (slots_from s state change) (locals_by f row by)

held_len : (state : State) (first count : ℕ) → length (held_slots state first count) ≡ count
held_len state first zero = refl
held_len state first (suc count) = ap suc (held_len state (first + 1) count)

held_got : (state : State) (first count at : ℕ) → at < count → get_or (held_slots state first count) at Plain ≡ held state (first + at)
held_got state first zero at low = absurd (omega arith)
held_got state first (suc count) zero low = let same : first ≡ first + 0 = omega arith in ap (held state) same
held_got state first (suc count) (suc at) low =
    let same : first + 1 + at ≡ first + suc at = omega arith in
    held_got state (first + 1) count at (omega arith) ∙ ap (held state) same

stored_len : (state : State) (f : Frame) (stored : Option ℕ) → length (locals_held state f stored) ≡ length f.locals
stored_len state f None = held_len state 0 (length f.locals)
stored_len state f (Some local) = length-set (held_slots state 0 (length f.locals)) local (held state (operand f 0)) ∙ held_len state 0 (length f.locals)

pub past_held : (state : State) (f : Frame) (stored : Option ℕ) (at : ℕ) → length f.locals ≤ at → slice_get (locals_held state f stored) at ≡ None
past_held state f stored at past = slice_get_past (locals_held state f stored) at (let len = stored_len state f stored in omega (arith, len, past))

pub held_there : (state : State) (f : Frame) (at : ℕ) → at < length f.locals → slice_get (locals_held state f None) at ≡ Some (held state at)
held_there state f at low =
    let same : 0 + at ≡ at = omega arith in
    slice_get-get_or (locals_held state f None) at Plain (let len = stored_len state f None in omega (arith, len, low))
    ∙ ap (λ (slot : Slot). Some slot) (held_got state 0 (length f.locals) at low ∙ ap (held state) same)

pub stored_there : (state : State) (f : Frame) (local at : ℕ) → at < length f.locals → local ≡ at → slice_get (locals_held state f (Some local)) at ≡ Some (held state (operand f 0))
stored_there state f local at low same =
    slice_get-get_or (locals_held state f (Some local)) at Plain (let len = stored_len state f (Some local) in omega (arith, len, low))
    ∙ ap (λ (slot : Slot). Some slot) (ap (λ (number : ℕ). get_or (locals_held state f (Some number)) at Plain) same ∙ get_or-set_same (held_slots state 0 (length f.locals)) at (held state (operand f 0)) Plain (let len = held_len state 0 (length f.locals) in omega (arith, len, low)))

pub other_there : (state : State) (f : Frame) (local at : ℕ) → at < length f.locals → local ≢ at → slice_get (locals_held state f (Some local)) at ≡ Some (held state at)
other_there state f local at low differ =
    let same : 0 + at ≡ at = omega arith in
    slice_get-get_or (locals_held state f (Some local)) at Plain (let len = stored_len state f (Some local) in omega (arith, len, low))
    ∙ ap (λ (slot : Slot). Some slot)
    (get_or-set_other (held_slots state 0 (length f.locals)) local at (held state (operand f 0)) Plain (λ also. differ (sym also))
    ∙ held_got state 0 (length f.locals) at low
    ∙ ap (held state) same)

-- ---- local units one by one

pub fits_more :
    (types : List VType) (locals slots more : List Slot) (at next : ℕ) (slot : Slot)
    → slots ≡ fit_locals (take at types) locals
    → at < length types
    → next ≡ suc at
    → slot ≡ local_of (slice_get types at) (slice_get locals at)
    → more ≡ slots ++ slot ∷ []
    → more ≡ fit_locals (take next types) locals
fits_more types locals slots more at next slot has low is same pushed =
    pushed
    ∙ (λ i. has i ++ same i ∷ [])
    ∙ sym (locals_more types locals at low)
    ∙ ap (λ (number : ℕ). fit_locals (take number types) locals) (sym is)

-- ---- those that are Top to the end

all_top : (count : ℕ) (locals : List Slot) → fit_locals (replicate count VType.Top) locals ≡ replicate count Unusable
all_top zero locals = refl
all_top (suc count) [] = ap (λ (list : List Slot). Unusable ∷ list) (all_top count [])
all_top (suc count) (slot ∷ locals) = ap (λ (list : List Slot). Unusable ∷ list) (all_top count locals)

pub top_behind :
    (listed : ℕ) (types : List VType) (locals : List Slot) (count : ℕ)
    → drop listed types ≡ replicate count VType.Top
    → fit_locals types locals ≡ fit_locals (take listed types) locals ++ replicate count Unusable
top_behind zero types locals count tops = ap (λ (list : List VType). fit_locals list locals) tops ∙ all_top count locals
top_behind (suc listed) [] locals zero tops = refl
top_behind (suc listed) [] locals (suc count) tops = absurd cc
top_behind (suc listed) (type ∷ types) [] count tops = λ i. local_of (Some type) None ∷ top_behind listed types [] count tops i
top_behind (suc listed) (type ∷ types) (slot ∷ locals) count tops = λ i. local_of (Some type) (Some slot) ∷ top_behind listed types locals count tops i

-- ---- lists of local units

fits_len : (types : List VType) (locals : List Slot) → length (fit_locals types locals) ≡ length types
fits_len [] locals = refl
fits_len (type ∷ types) [] = ap suc (fits_len types [])
fits_len (type ∷ types) (slot ∷ locals) = ap suc (fits_len types locals)

took_len : (count : ℕ) (types : List VType) → count ≤ length types → length (take count types) ≡ count
took_len zero types low = refl
took_len (suc count) [] low = absurd (omega (arith, low))
took_len (suc count) (type ∷ types) low = ap suc (took_len count types (omega (arith, low)))

pub fit_len : (count : ℕ) (types : List VType) (locals : List Slot) → count ≤ length types → length (fit_locals (take count types) locals) ≡ count
fit_len count types locals low = fits_len (take count types) locals ∙ took_len count types low

pub kept_front :
    (types : List VType) (locals front listed : List Slot) (count : ℕ)
    → front ≡ listed ++ replicate (length front - length listed) Unusable
    → listed ≡ fit_locals (take (length listed) types) locals
    → length front ≡ length types
    → length listed ≡ count
    → drop count types ≡ replicate (length types - count) VType.Top
    → front ≡ fit_locals types locals
kept_front types locals front listed count is kept same_len same_count tops =
    is
    ∙ (λ i. kept i ++ replicate (same_len i - same_count i) Unusable)
    ∙ ap (λ (number : ℕ). fit_locals (take number types) locals ++ replicate (length types - count) Unusable) same_count
    ∙ sym (top_behind count types locals (length types - count) tops)

-- A frame before an instruction that is written as it is, and what comes behind it where the instruction moves values and gives others.
use Rattle.std.proofs.Common.{◌≡◌, ◌≢◌, ◌+◌, ◌-◌, ◌≤◌, ◌<◌, ℕ, zero, suc, Bool, true, List, [], ◌∷◌, ◌++◌, length, map, slice_get, Option, Some, None, refl, sym, ap, subst, ◌∙◌, arith}
use Rattle.std.specs.List.{AllByRecursion}
use Rattle.std.proofs.lemmas.List.{length-drop, length-map, length-take-le, map-append, take-append-drop}
use Rattle.class_model.specs.declared.frame.Frame.{Frame}
use Rattle.class_model.specs.declared.frame.VType.{VType}
use Rattle.class_model.specs.declared.frame.VType.TheVariants as types
use Rattle.flow_code.specs.ReadTypes.{read_frame, read_type}
use Rattle.member_link.specs.RowScope.{RowScope}
use Rattle.member_link.specs.Rows.Operands.{AllFit, Need, topmost, under}
use Rattle.member_link.specs.Rows.Row.{Row, access_aside, plain, stack_behind}
use Rattle.plan_flow.specs.PlanRows.{Change, PlanRow, Source, from_place, no_change}
use Rattle.plan_flow.specs.PlanSlots.{changed, held, slot_from, slots_from}
use Rattle.plan_flow.specs.PlanTable.{held_from, held_locals, operand}
use Rattle.virtual_state.specs.States.{State}
use Rattle.virtual_state.specs.declared.slot.Slot.{Slot}
use Rattle.virtual_state.specs.declared.slot.Slot.TheVariants.{Plain, Virt, Unusable}
use Rattle.written_types.proofs.AgreeLists.{agree_joined, apart}
use Rattle.written_types.proofs.NeedsKept.{AreSteady, all_agreeing}
use Rattle.written_types.proofs.Standing.{Standing, fit_long}
use Rattle.written_types.proofs.WrittenTypes.{ArePlain, IsSteady, by_item, entry_types, own_types, written_joined, written_plain}
use Rattle.written_types.specs.HeldRows.{RowFits}
use Rattle.written_types.specs.Inner.CarriedFrames.{AgreeIn}
use Rattle.written_types.specs.Writing.{Writing, scope_in}

-- ---- what places hold

pub held_many : (w : Writing) (before : State) (does : Change) (first count : ℕ)
    → length (slots_from w.s before does (held_from first count)) ≡ count
held_many w before does first zero = refl
held_many w before does first (suc count) = ap suc (held_many w before does (first + 1) count)

-- the change of objects does not matter
pub held_same : (w : Writing) (before : State) (does other : Change) (first count : ℕ)
    → slots_from w.s before does (held_from first count) ≡ slots_from w.s before other (held_from first count)
held_same w before does other first zero = refl
held_same w before does other first (suc count) =
    ap (λ (rest : List Slot). held before first ∷ rest) (held_same w before does other (first + 1) count)

pub held_apart : (first count more : ℕ) → held_from first (count + more) ≡ held_from first count ++ held_from (first + count) more
held_apart first zero more =
    let none : 0 + more ≡ more = omega arith in
    let here : first ≡ first + 0 = omega arith in
    ap (held_from first) none ∙ ap (λ (n : ℕ). held_from n more) here
held_apart first (suc count) more =
    let one : suc count + more ≡ suc (count + more) = omega arith in
    let next : first + 1 + count ≡ first + suc count = omega arith in
    ap (held_from first) one
    ∙ ap (λ (rest : List Source). from_place first ∷ rest) (held_apart (first + 1) count more)
    ∙ ap (λ (n : ℕ). from_place first ∷ held_from (first + 1) count ++ held_from n more) next

held_plainly : (w : Writing) (before : State) (does : Change) (first count : ℕ)
    → ((k : ℕ) → k < count → held before (first + k) ≡ Plain)
    → ArePlain (slots_from w.s before does (held_from first count))
held_plainly w before does first zero plain = tt
held_plainly w before does first (suc count) plain = (
  ap (held before) (omega arith) ∙ plain 0 (omega arith),
  held_plainly w before does (first + 1) count (λ k less. ap (held before) (omega arith) ∙ plain (suc k) (omega (arith, less))),
)

-- a place that holds no virtual object is plain
pub held_plain : (before : State) (place : ℕ) → ((site : ℕ) → held before place ≡ Virt site → ⊥) → held before place ≡ Plain
held_plain before place none = by (slice_get before.slots place) refl where
  by : (found : Option Slot) → slice_get before.slots place ≡ found → held before place ≡ Plain
  by None is = rw is refl
  by (Some Plain) is = rw is refl
  by (Some Unusable) is = rw is refl
  by (Some (Virt site)) is = absurd (none site (rw is refl))

-- ---- before and behind

-- The frame before an instruction agrees with the typed one as it is written, where places hold what they hold; and units behind those of the
-- flat code are these.
pub record Stands (w : Writing) (reached : ℕ → Bool) (f : Frame) (before : State) (rest : List VType) (g : Frame) : Type 0 where
  pub standing : Standing w.s reached f before
  pub locals : AgreeIn g.locals
      (own_types w (read_frame w.s.flat f).locals (slots_from w.s before no_change (held_locals f)) ++ rest)
  pub stack : AgreeIn g.stack
      (entry_types w (read_frame w.s.flat f).stack (slots_from w.s before no_change (held_from (length f.locals) (length f.stack))))
  pub no_this : AllByRecursion (λ type. type ≢ types.UninitThis) g.locals
  pub steady : AllByRecursion IsSteady rest

-- The frame behind, by the row of the plan.
pub record Follows (w : Writing) (before : State) (rest : List VType) (p : PlanRow) (left behind : Frame) : Type 0 where
  pub locals : AgreeIn behind.locals (own_types w left.locals (slots_from w.s before p.change p.locals) ++ rest)
  pub stack : AgreeIn behind.stack (entry_types w left.stack (slots_from w.s before p.change p.stack))
  pub no_this : AllByRecursion (λ type. type ≢ types.UninitThis) behind.locals

abbrev pub left_by_row : Frame → Row → Frame
left_by_row f row = record { locals = row.locals; stack = stack_behind f row }

-- The row of an instruction as it is written holds of the frame before it, its operands agree with those of the flat code, and the frame behind
-- agrees with what the flat code's row leaves.
pub record RowFollows (w : Writing) (before : State) (rest : List VType) (f g : Frame) (p : PlanRow) (row written : Row) : Type 0 where
  pub fits : RowFits (scope_in w) g (access_aside written)
  pub operands : AgreeIn (topmost (length row.takes) g.stack) (map (by_item w) (topmost (length row.takes) (read_frame w.s.flat f).stack))
  pub goes : written.goes_on ≡ row.goes_on
  pub unchanged : changed w.s before p.change ≡ []
  pub follows : row.goes_on ≡ true → Follows w before rest p (left_by_row (read_frame w.s.flat f) row) (left_by_row g written)

-- ---- operands

-- The topmost entries, which are plain, and those under them.
pub record Cut (w : Writing) (f : Frame) (before : State) (g : Frame) (count : ℕ) : Type 0 where
  pub fewer : count ≤ length f.stack
  pub top : AgreeIn (topmost count g.stack) (map (by_item w) (topmost count (read_frame w.s.flat f).stack))
  pub lower : AgreeIn (under count g.stack)
      (entry_types w (under count (read_frame w.s.flat f).stack)
      (slots_from w.s before no_change (held_from (length f.locals) (length f.stack - count))))

module _ (w : Writing) (reached : ℕ → Bool) (f : Frame) (before : State) (rest : List VType) (g : Frame) (st : Stands w reached f before rest g) where
  abbrev rf : Frame
  rf = read_frame w.s.flat f

  stack_long : length rf.stack ≡ length f.stack
  stack_long = length-map f.stack (read_type w.s.flat)

  -- as many as a row takes are there
  pub fit_fewer : (sc : RowScope) (needs : List Need) → AllFit sc needs (topmost (length needs) rf.stack) → length needs ≤ length f.stack
  fit_fewer sc needs fit =
      let long = fit_long sc needs (topmost (length needs) rf.stack) fit in
      let dropped = length-drop (length rf.stack - length needs) rf.stack in
      omega (arith, long, dropped, stack_long)

  pub cut : (count : ℕ) → count ≤ length f.stack → ((k : ℕ) → k < count → held before (operand f k) ≡ Plain) → Cut w f before g count
  cut count fewer plain =
      let parts = apart g.stack lower upper (subst (AgreeIn g.stack) whole st.stack) in
      record {
        fewer = fewer;
        top = subst (λ (n : ℕ). AgreeIn (topmost n g.stack) upper) upper_long parts.top;
        lower = subst (λ (n : ℕ). AgreeIn (under n g.stack) lower) upper_long parts.under;
      } where
        low : ℕ
        low = length f.stack - count

        lower_slots : List Slot
        lower_slots = slots_from w.s before no_change (held_from (length f.locals) (length f.stack - count))

        upper_slots : List Slot
        upper_slots = slots_from w.s before no_change (held_from (length f.locals + (length f.stack - count)) count)

        lower : List VType
        lower = entry_types w (under count rf.stack) lower_slots

        upper : List VType
        upper = map (by_item w) (topmost count rf.stack)

        under_long : length (under count rf.stack) ≡ length f.stack - count
        under_long = length-take-le (length rf.stack - count) rf.stack (omega arith) ∙ omega (arith, stack_long)

        top_long : length (topmost count rf.stack) ≡ count
        top_long = length-drop (length rf.stack - count) rf.stack ∙ omega (arith, stack_long, fewer)

        upper_long : length upper ≡ count
        upper_long = length-map (topmost count rf.stack) (by_item w) ∙ top_long

        upper_plain : ArePlain upper_slots
        upper_plain =
            held_plainly w before no_change (length f.locals + (length f.stack - count)) count
            (λ k less.
            let place : length f.locals + (length f.stack - count) + k ≡ operand f (count - (k + 1)) = omega (arith, less, fewer) in
            ap (held before) place ∙ plain (count - (k + 1)) (omega (arith, less)))

        slots_apart : slots_from w.s before no_change (held_from (length f.locals) (length f.stack)) ≡ lower_slots ++ upper_slots
        slots_apart =
            let both : length f.stack ≡ length f.stack - count + count = omega (arith, fewer) in
            ap (λ (n : ℕ). slots_from w.s before no_change (held_from (length f.locals) n)) both
            ∙ ap (slots_from w.s before no_change) (held_apart (length f.locals) (length f.stack - count) count)
            ∙ map-append (slot_from w.s before no_change) (held_from (length f.locals) (length f.stack - count))
            (held_from (length f.locals + (length f.stack - count)) count)

        whole : entry_types w rf.stack (slots_from w.s before no_change (held_from (length f.locals) (length f.stack))) ≡ lower ++ upper
        whole =
            ap (entry_types w rf.stack) slots_apart
            ∙ ap (λ (all : List VType). entry_types w all (lower_slots ++ upper_slots)) (sym (take-append-drop (length rf.stack - count) rf.stack))
            ∙ written_joined w (under count rf.stack) (topmost count rf.stack) lower_slots upper_slots
            (under_long ∙ sym (held_many w before no_change (length f.locals) (length f.stack - count)))
            ∙ ap (λ (all : List VType). lower ++ all)
            (written_plain w (topmost count rf.stack) upper_slots
            (top_long ∙ sym (held_many w before no_change (length f.locals + (length f.stack - count)) count)) upper_plain)

  -- what is asked of operands
  pub operands_fit : (sc : RowScope) → (scope_in w).headers ≡ sc.headers → (needs : List Need) → AreSteady needs
      → AllFit sc needs (topmost (length needs) rf.stack)
      → Cut w f before g (length needs)
      → AllFit (scope_in w) needs (topmost (length needs) g.stack)
  operands_fit sc same needs steady fit c =
      all_agreeing w sc (scope_in w) same needs (topmost (length needs) rf.stack) (topmost (length needs) g.stack) steady fit c.top

  -- ---- what is left

  pub moved : (p : PlanRow) (count : ℕ) (sources : List Source) (gives given : List VType)
      → p.locals ≡ held_locals f
      → p.stack ≡ held_from (length f.locals) (length f.stack - count) ++ sources
      → Cut w f before g count
      → AgreeIn given (entry_types w gives (slots_from w.s before p.change sources))
      → Follows w before rest p (record { locals = rf.locals; stack = under count rf.stack ++ gives })
      (record { locals = g.locals; stack = under count g.stack ++ given })
  moved p count sources gives given locals_are is c agree = record {
    locals =
        subst (λ (slots : List Slot). AgreeIn g.locals (own_types w rf.locals slots ++ rest))
        (held_same w before no_change p.change 0 (length f.locals) ∙ ap (slots_from w.s before p.change) (sym locals_are)) st.locals;
    stack = subst (AgreeIn (under count g.stack ++ given)) (sym whole) (agree_joined (under count g.stack) _ given _ c.lower agree);
    no_this = st.no_this;
  } where
    lower_slots : List Slot
    lower_slots = slots_from w.s before no_change (held_from (length f.locals) (length f.stack - count))

    under_long : length (under count rf.stack) ≡ length lower_slots
    under_long =
        length-take-le (length rf.stack - count) rf.stack (omega arith)
        ∙ ap (λ (n : ℕ). n - count) stack_long
        ∙ sym (held_many w before no_change (length f.locals) (length f.stack - count))

    slots_are : slots_from w.s before p.change p.stack ≡ lower_slots ++ slots_from w.s before p.change sources
    slots_are =
        ap (slots_from w.s before p.change) is
        ∙ map-append (slot_from w.s before p.change) (held_from (length f.locals) (length f.stack - count)) sources
        ∙ ap (λ (slots : List Slot). slots ++ slots_from w.s before p.change sources)
        (held_same w before p.change no_change (length f.locals) (length f.stack - count))

    whole : entry_types w (under count rf.stack ++ gives) (slots_from w.s before p.change p.stack)
        ≡ entry_types w (under count rf.stack) lower_slots ++ entry_types w gives (slots_from w.s before p.change sources)
    whole =
        ap (entry_types w (under count rf.stack ++ gives)) slots_are
        ∙ written_joined w (under count rf.stack) gives lower_slots (slots_from w.s before p.change sources) under_long

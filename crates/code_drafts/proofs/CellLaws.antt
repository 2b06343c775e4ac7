-- Entries of the operand stack from the topmost on.
use Rattle.std.proofs.Common.{◌≡◌, ◌==◌, ◌+◌, ◌-◌, ◌<◌, ◌≤◌, ℕ, zero, suc, min, Bool, false, cond, List, [], ◌∷◌, ◌++◌, length, drop, take, get_or, reverse, slice_get, Some, None, refl, sym, ap, subst, ◌∙◌, arith}
use Rattle.std.specs.List.{flat_map}
use Rattle.std.proofs.lemmas.Bool.{ne_eqb}
use Rattle.std.proofs.lemmas.List.{get_or-reverse, length-reverse}
use Rattle.std.proofs.lemmas.Option.{get_or_from_slice_get, none-some, same_Some, slice_get_past, slice_get_read}
use Rattle.class_model.specs.Frames.{depth}
use Rattle.class_model.specs.Laws.Lists.{drop_item, none_behind}
use Rattle.class_model.specs.declared.frame.Frame.{Frame}
use Rattle.class_model.specs.declared.frame.VType.{VType}
use Rattle.making_code.specs.Items.{WInstr}
use Rattle.plan_flow.specs.Written.Templates.{Cell, below_units, cells, cells_from, plain_among, plain_units, pops}
use Rattle.virtual_state.specs.States.{State}
use Rattle.virtual_state.specs.declared.slot.Slot.{Slot}

abbrev pub cell_of : VType → Slot → Cell
cell_of type slot = record { units = depth (type ∷ []); slot = slot }

cells_at : (types : List VType) (slots : List Slot) (at : ℕ) (type : VType) (slot : Slot)
    → slice_get types at ≡ Some type
    → slice_get slots at ≡ Some slot
    → slice_get (cells_from types slots) at ≡ Some (cell_of type slot)
cells_at [] slots at type slot is held = absurd (none-some type is)
cells_at (first ∷ types) [] at type slot is held = absurd (none-some slot held)
cells_at (first ∷ types) (one ∷ slots) zero type slot is held =
    ap (λ (t : VType). Some (cell_of t one)) (same_Some first type is) ∙ ap (λ (s : Slot). Some (cell_of type s)) (same_Some one slot held)
cells_at (first ∷ types) (one ∷ slots) (suc at) type slot is held = cells_at types slots at type slot is held

pub min_suc : (a b : ℕ) → min (suc a) (suc b) ≡ suc (min a b)
min_suc a b = grind arith

pub min_zero : (a : ℕ) → 0 ≡ min a 0
min_zero a = grind arith

cells_len : (types : List VType) (slots : List Slot) → length (cells_from types slots) ≡ min (length types) (length slots)
cells_len [] slots = grind arith
cells_len (type ∷ types) [] = min_zero (length (type ∷ types))
cells_len (type ∷ types) (slot ∷ slots) = ap suc (cells_len types slots) ∙ sym (min_suc (length types) (length slots))

behind : (slots : List Slot) (locals place : ℕ) → slice_get (drop locals slots) place ≡ slice_get slots (locals + place)
behind slots zero place = let same : place ≡ 0 + place = omega arith in ap (slice_get slots) same
behind [] (suc locals) place = refl
behind (slot ∷ slots) (suc locals) place = behind slots locals place ∙ ap (slice_get (slot ∷ slots)) {x = suc (locals + place)} (omega arith)

behind_len : (slots : List Slot) (locals : ℕ) → length (drop locals slots) ≡ length slots - locals
behind_len slots zero = omega arith
behind_len [] (suc locals) = let none : 0 ≡ 0 - suc locals = omega arith in none
behind_len (slot ∷ slots) (suc locals) = behind_len slots locals ∙ (let e : length slots - locals ≡ suc (length slots) - suc locals = omega arith in e)

-- how many entries there are
pub count_is : (f : Frame) (state : State) → length (cells f state) ≡ min (length f.stack) (length state.slots - length f.locals)
count_is f state =
    length-reverse (cells_from f.stack (drop (length f.locals) state.slots))
    ∙ cells_len f.stack (drop (length f.locals) state.slots)
    ∙ ap (min (length f.stack)) (behind_len state.slots (length f.locals))

pub min_below : (a b : ℕ) → (min a b ≤ a) × (min a b ≤ b)
min_below a b = (grind arith, grind arith)

-- the entry of a number from the topmost on
pub cell_there : (f : Frame) (state : State) (number at : ℕ) (type : VType) (slot : Slot)
    → number < length (cells f state)
    → at ≡ length (cells f state) - number - 1
    → slice_get f.stack at ≡ Some type
    → slice_get state.slots (length f.locals + at) ≡ Some slot
    → slice_get (cells f state) number ≡ Some (cell_of type slot)
cell_there f state number at type slot less is of_type held =
    let upwards = cells_from f.stack (drop (length f.locals) state.slots) in
    let cell = cell_of type slot in
    let long : length (reverse upwards) ≡ length upwards = length-reverse upwards in
    let low : number < length upwards = omega (arith, less, long) in
    let place : at ≡ length upwards - 1 - number = omega (arith, is, long, low) in
    let there : slice_get upwards at ≡ Some cell = cells_at f.stack (drop (length f.locals) state.slots) at type slot of_type (behind state.slots (length f.locals) at ∙ held) in
    let found : get_or upwards (length upwards - 1 - number) cell ≡ cell =
    subst (λ (n : ℕ). get_or upwards n cell ≡ cell) place (get_or_from_slice_get upwards at cell cell there) in
    slice_get_read (reverse upwards) (length upwards) number cell (sym long) low (sym (get_or-reverse upwards number cell low ∙ found))

pub cell_past : (f : Frame) (state : State) (number : ℕ) → length (cells f state) ≤ number → slice_get (cells f state) number ≡ None
cell_past f state number past = slice_get_past (cells f state) number past

-- ---- units

-- what is counted, and what is left, make all
pub record Counts (stack : List Cell) (units first plain left next : ℕ) : Type 0 where
  pub sum_is : plain + plain_among left (drop next stack) ≡ plain_among units (drop first stack)
  pub below_is : below_units left (drop next stack) ≡ below_units units (drop first stack)
  pub few : plain + (left + left) ≤ units + units

pub counts_first : (stack : List Cell) (units first : ℕ) → Counts stack units first 0 units first
counts_first stack units first = record { sum_is = omega arith; below_is = refl; few = omega arith }

not_zero : (units : ℕ) → 0 < units → (units == 0) ≡ false
not_zero units some = ne_eqb units 0 (λ none. absurd (omega (arith, some, none)))

among_more : (units : ℕ) (cell : Cell) (others : List Cell) → 0 < units → plain_among units (cell ∷ others) ≡ plain_units cell + plain_among (units - cell.units) others
among_more units cell others some = ap (λ (none : Bool). cond none 0 (plain_units cell + plain_among (units - cell.units) others)) (not_zero units some)

below_more : (units : ℕ) (cell : Cell) (others : List Cell) → 0 < units → below_units units (cell ∷ others) ≡ below_units (units - cell.units) others
below_more units cell others some = ap (λ (none : Bool). cond none (cell ∷ others) (below_units (units - cell.units) others)) (not_zero units some)

pub plain_few : (cell : Cell) → plain_units cell ≤ cell.units
plain_few cell = grind arith

pub counts_next : (stack : List Cell) (units first plain left next more : ℕ) (cell : Cell)
    → Counts stack units first plain left next
    → slice_get stack next ≡ Some cell
    → 0 < left
    → more ≡ plain_units cell
    → 1 ≤ cell.units
    → cell.units ≤ 2
    → Counts stack units first (plain + more) (left - cell.units) (next + 1)
counts_next stack units first plain left next more cell so_far is some same wide narrow =
    let split = drop_item stack next cell is in
    let few = so_far.few in
    let short = plain_few cell in
    record {
      sum_is =
          let step : plain_among left (drop next stack) ≡ more + plain_among (left - cell.units) (drop (next + 1) stack) =
          ap (plain_among left) split ∙ among_more left cell (drop (next + 1) stack) some ∙ ap (λ (n : ℕ). n + plain_among (left - cell.units) (drop (next + 1) stack)) (sym same) in
          let sum = so_far.sum_is in
          omega (arith, step, sum);
      below_is = sym (below_more left cell (drop (next + 1) stack) some) ∙ ap (below_units left) (sym split) ∙ so_far.below_is;
      few = omega (arith, few, short, same, wide, narrow, some);
    }

-- there is no entry below
pub counts_past : (stack : List Cell) (units first plain left next : ℕ)
    → Counts stack units first plain left next
    → slice_get stack next ≡ None
    → (plain ≡ plain_among units (drop first stack)) × (drop next stack ≡ below_units units (drop first stack))
counts_past stack units first plain left next so_far is =
    let none : drop next stack ≡ [] = drop_none stack next is in (
      let sum = so_far.sum_is in
          let zero_left : plain_among left (drop next stack) ≡ 0 = ap (plain_among left) none in
          omega (arith, sum, zero_left),
      none ∙ ap (below_units left) (sym none) ∙ so_far.below_is,
    ) where
      drop_none : (list : List Cell) (at : ℕ) → slice_get list at ≡ None → drop at list ≡ []
      drop_none [] zero gone = refl
      drop_none [] (suc at) gone = refl
      drop_none (one ∷ list) zero gone = absurd (none-some one (sym gone))
      drop_none (one ∷ list) (suc at) gone = drop_none list at gone

-- nothing is left
none_among : (stack : List Cell) → plain_among 0 stack ≡ 0
none_among [] = refl
none_among (cell ∷ others) = refl

none_below : (stack : List Cell) → below_units 0 stack ≡ stack
none_below [] = refl
none_below (cell ∷ others) = refl

pub counts_all : (stack : List Cell) (units first plain left next : ℕ)
    → Counts stack units first plain left next
    → left ≡ 0
    → (plain ≡ plain_among units (drop first stack)) × (drop next stack ≡ below_units units (drop first stack))
counts_all stack units first plain left next so_far none = (
  let sum = so_far.sum_is in
      let zero_left : plain_among left (drop next stack) ≡ 0 = ap (λ (n : ℕ). plain_among n (drop next stack)) none ∙ none_among (drop next stack) in
      omega (arith, sum, zero_left),
  sym (none_below (drop next stack)) ∙ ap (λ (n : ℕ). below_units n (drop next stack)) (sym none) ∙ so_far.below_is,
)

-- ---- what the code finds

pub count_found : (f : Frame) (state : State) (stack : List VType) (first slots rest count : ℕ)
    → stack ≡ f.stack
    → first ≡ length f.locals
    → slots ≡ length state.slots
    → rest ≡ slots - first
    → count ≡ min (length stack) rest
    → length (cells f state) ≡ count
count_found f state stack first slots rest count same locals places behind_them is =
    let left : length state.slots - length f.locals ≡ rest = omega (arith, locals, places, behind_them) in
    count_is f state
    ∙ ap (λ (list : List VType). min (length list) (length state.slots - length f.locals)) (sym same)
    ∙ ap (min (length stack)) left
    ∙ sym is

-- there is a type and a slot of each entry
no_entry : {A : Type 0} (list : List A) (at : ℕ) → at < length list → slice_get list at ≡ None → ⊥
no_entry list at less none = let past = none_behind list at none in omega (arith, less, past)

pub no_type : (f : Frame) (state : State) (stack : List VType) (number at count : ℕ)
    → stack ≡ f.stack
    → length (cells f state) ≡ count
    → number < count
    → at ≡ count - number - 1
    → slice_get stack at ≡ None
    → None ≡ slice_get (cells f state) number
no_type f state stack number at count same is less place none =
    let few = (min_below (length f.stack) (length state.slots - length f.locals)).0 in
    let all = count_is f state in
    let long : length stack ≡ length f.stack = ap length same in
    absurd (no_entry stack at (omega (arith, few, all, is, less, place, long)) none)

pub no_slot : (f : Frame) (state : State) (number at first count : ℕ)
    → first ≡ length f.locals
    → length (cells f state) ≡ count
    → number < count
    → at ≡ first + (count - number - 1)
    → slice_get state.slots at ≡ None
    → None ≡ slice_get (cells f state) number
no_slot f state number at first count locals is less place none =
    let few = (min_below (length f.stack) (length state.slots - length f.locals)).1 in
    let all = count_is f state in
    absurd (no_entry state.slots at (omega (arith, few, all, is, less, place, locals)) none)

pub entry_there : (f : Frame) (state : State) (stack : List VType) (number at first place count width : ℕ) (type : VType) (slot : Slot)
    → stack ≡ f.stack
    → first ≡ length f.locals
    → length (cells f state) ≡ count
    → number < count
    → at ≡ count - number - 1
    → place ≡ first + at
    → slice_get stack at ≡ Some type
    → slice_get state.slots place ≡ Some slot
    → width ≡ depth (type ∷ [])
    → Some (record { units = width; slot = slot }) ≡ slice_get (cells f state) number
entry_there f state stack number at first place count width type slot same locals is less low here of_type held units =
    let inside : number < length (cells f state) = omega (arith, is, less) in
    let lowest : at ≡ length (cells f state) - number - 1 = omega (arith, is, low) in
    let there : slice_get f.stack at ≡ Some type = ap (λ (list : List VType). slice_get list at) (sym same) ∙ of_type in
    let behind_locals : length f.locals + at ≡ place = omega (arith, locals, here) in
    sym
    (cell_there f state number at type slot inside lowest there (ap (slice_get state.slots) behind_locals ∙ held)
    ∙ ap (λ (n : ℕ). Some (record { units = n; slot = slot })) (sym units))

-- ---- entries that are popped

take_get : {A : Type 0} (list : List A) (count number : ℕ) → number < count → slice_get (take count list) number ≡ slice_get list number
take_get list zero number less = absurd (omega (arith, less))
take_get [] (suc count) number less = refl
take_get (one ∷ list) (suc count) zero less = refl
take_get (one ∷ list) (suc count) (suc number) less = take_get list count number (omega (arith, less))

drop_take_past : {A : Type 0} (list : List A) (count number : ℕ) → slice_get list number ≡ None → drop number (take count list) ≡ []
drop_take_past [] zero zero none = refl
drop_take_past [] zero (suc number) none = refl
drop_take_past [] (suc count) zero none = refl
drop_take_past [] (suc count) (suc number) none = refl
drop_take_past (one ∷ list) zero zero none = refl
drop_take_past (one ∷ list) zero (suc number) none = refl
drop_take_past (one ∷ list) (suc count) zero none = absurd (none-some one (sym none))
drop_take_past (one ∷ list) (suc count) (suc number) none = drop_take_past list count number none

drop_take_end : {A : Type 0} (list : List A) (count number : ℕ) → count ≤ number → drop number (take count list) ≡ []
drop_take_end list zero zero past = refl
drop_take_end list zero (suc number) past = refl
drop_take_end list (suc count) zero past = absurd (omega (arith, past))
drop_take_end [] (suc count) (suc number) past = refl
drop_take_end (one ∷ list) (suc count) (suc number) past = drop_take_end list count number (omega (arith, past))

abbrev pub popped_from : List Cell → ℕ → ℕ → List WInstr
popped_from stack count number = flat_map (λ (cell : Cell). pops (plain_units cell)) (drop number (take count stack))

pub pops_more : (stack : List Cell) (count number : ℕ) (cell : Cell) → slice_get stack number ≡ Some cell → number < count
    → popped_from stack count number ≡ pops (plain_units cell) ++ popped_from stack count (number + 1)
pops_more stack count number cell is less =
    ap (flat_map (λ (one : Cell). pops (plain_units one))) (drop_item (take count stack) number cell (take_get stack count number less ∙ is))

pub pops_past : (stack : List Cell) (count number : ℕ) → slice_get stack number ≡ None → popped_from stack count number ≡ []
pops_past stack count number none = ap (flat_map (λ (one : Cell). pops (plain_units one))) (drop_take_past stack count number none)

pub pops_end : (stack : List Cell) (count number : ℕ) → count ≤ number → popped_from stack count number ≡ []
pops_end stack count number past = ap (flat_map (λ (one : Cell). pops (plain_units one))) (drop_take_end stack count number past)

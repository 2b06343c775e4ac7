-- What a row of a plan says of where types come from is what the row of the instruction says of them.
use Rattle.std.proofs.Common.{◌≡◌, ◌+◌, ◌-◌, ◌≤◌, ◌<◌, ◌⊎◌, ℕ, Bool, true, false, List, ◌++◌, length, map, slice_get, Some, None, option_map, IsTrue, if◌then◌else◌, refl, sym, ap, subst, ◌∙◌, arith, inl, inr}
use Rattle.std.specs.List.{AllByRecursion}
use Rattle.std.proofs.lemmas.List.{length-append, length-map, length-take-le}
use Rattle.std.proofs.lemmas.Option.{none-some, same_Some, slice_get-map, slice_get_within}
use Rattle.class_model.specs.Laws.Lists.{at_index}
use Rattle.class_model.specs.declared.frame.Frame.{Frame}
use Rattle.class_model.specs.declared.frame.VType.{VType}
use Rattle.expanded_code.specs.Expanded.{Setting, set_frame, set_type}
use Rattle.expanded_runs.proofs.Ready.Comes.{Comes, KeepsTo, local_comes, set_site, stack_comes}
use Rattle.expanded_runs.proofs.Runs.PositionLaws.{slice_left}
use Rattle.expanded_runs.proofs.Types.Edges.{set_unit}
use Rattle.expanded_runs.proofs.Types.FlatParts.{slice_either}
use Rattle.expanded_runs.proofs.Types.Units.{as_long, block_long, each_assignable, get_back, get_inside, get_outside, get_take, inside, item_there, outside, where_is}
use Rattle.flow_code.specs.FlatCode.{FlatCode}
use Rattle.flow_code.specs.ReadTypes.{is_site_object}
use Rattle.class_tree.specs.Headers.{Headers}
use Rattle.member_link.specs.Assignability.{IsAssignable, from_null, of_names, to_same, to_top}
use Rattle.member_link.specs.Rows.FrameAssignability.{AreAssignable, IsFrameAssignable}
use Rattle.member_link.specs.Rows.Operands.{IsUninitialised, under}
use Rattle.member_link.specs.Rows.Row.{Row, row_frame, stack_behind}
use Rattle.plan_flow.specs.PlanRows.{PlanRow, Source}
use Rattle.plan_flow.specs.PlanTable.{held_from, held_locals}
use Rattle.plan_flow.specs.ReadyForPlans.{place_types}

abbrev pub NotNew : VType → Type 0
NotNew type = IsUninitialised type → ⊥

-- ---- what is assignable to an uninitialised object

pub new_only : {headers : Headers} {from to : VType} → IsAssignable headers from to → IsUninitialised to → from ≡ to
new_only (to_same type) new = refl
new_only (to_top type) new = absurd new
new_only (from_null name) new = absurd new
new_only (of_names low high named) new = absurd new

pub new_before : (headers : Headers) (ones others : List VType) → AreAssignable headers ones others → (m : ℕ) (type : VType) → IsUninitialised type
    → slice_get others m ≡ Some type
    → slice_get ones m ≡ Some type
new_before headers ones others are m type new is =
    let long = as_long headers ones others are in
    let within = slice_get_within others m type is in
    let own = item_there ones m (omega (arith, long, within)) in
    own.1 ∙ ap Some (new_only (each_assignable headers ones others are m own.0 type own.1 is) new)

-- ---- where control goes on

pub went : (row : Row) (f after : Frame) → row_frame f row ≡ Some after → (after.locals ≡ row.locals) × (after.stack ≡ stack_behind f row)
went row f after is = by row.goes_on is where
  by : (on : Bool) → (if on then Some (record { locals = row.locals; stack = stack_behind f row }) else None) ≡ Some after
      → (after.locals ≡ row.locals) × (after.stack ≡ stack_behind f row)
  by true is =
      let same : record { locals = row.locals; stack = stack_behind f row } ≡ after =
      same_Some (record { locals = row.locals; stack = stack_behind f row }) after is in
      (sym (ap (λ (x : Frame). x.locals) same), sym (ap (λ (x : Frame). x.stack) same))
  by false is = absurd (none-some after is)

-- ---- a frame in its place

module _ (t : Setting) (f : Frame) (fits : t.unit + length f.locals ≤ length t.below.locals) where
  fits_set : t.unit + length (map (set_type t) f.locals) ≤ length t.below.locals
  fits_set = omega (arith, fits, length-map f.locals (set_type t))

  pub local_set : (m : ℕ) (type : VType) → slice_get f.locals m ≡ Some type
      → slice_get (set_frame t f).locals (t.unit + m) ≡ Some (set_type t type)
  local_set m type is =
      let within = slice_get_within f.locals m type is in
      get_inside t.unit (map (set_type t) f.locals) t.below.locals fits_set m (omega (arith, within, length-map f.locals (set_type t)))
      ∙ slice_get-map (set_type t) f.locals m
      ∙ ap (option_map (set_type t)) is

  pub local_outside : (n : ℕ) → (n < t.unit) ⊎ (t.unit + length f.locals ≤ n) → slice_get (set_frame t f).locals n ≡ slice_get t.below.locals n
  local_outside n out =
      get_outside t.unit (map (set_type t) f.locals) t.below.locals fits_set n
      (subst (λ (size : ℕ). (n < t.unit) ⊎ (t.unit + size ≤ n)) (sym (length-map f.locals (set_type t))) out)

  pub locals_long : length (set_frame t f).locals ≡ length t.below.locals
  locals_long = block_long t.unit (map (set_type t) f.locals) t.below.locals fits_set

pub entry_set : (t : Setting) (f : Frame) (m : ℕ) (type : VType) → slice_get f.stack m ≡ Some type
    → slice_get (set_frame t f).stack (length t.below.stack + m) ≡ Some (set_type t type)
entry_set t f m type is =
    get_back t.below.stack (map (set_type t) f.stack) m
    ∙ slice_get-map (set_type t) f.stack m
    ∙ ap (option_map (set_type t)) is

pub stack_long : (t : Setting) (f : Frame) → length (set_frame t f).stack ≡ length t.below.stack + length f.stack
stack_long t f = omega (arith, length-append t.below.stack (map (set_type t) f.stack), length-map f.stack (set_type t))

-- ---- what a row keeps

module _ (flat : FlatCode) (t : Setting) (number : ℕ) (f : Frame) where
  -- each type of an uninitialised object of a site behind the instruction of a method comes, in its place, from the same type; so do those
  -- of callers
  pub record RowKeeps (row : Row) (plan : PlanRow) : Type 0 where
    pub own_locals : (m : ℕ) (type : VType) → IsUninitialised type → IsTrue (is_site_object flat (set_type t type))
        → slice_get row.locals m ≡ Some type
        → Comes number (place_types (set_frame t f)) plan.locals (t.unit + m) (set_type t type)
    pub own_stack : (m : ℕ) (type : VType) → IsUninitialised type → IsTrue (is_site_object flat (set_type t type))
        → slice_get (stack_behind f row) m ≡ Some type
        → Comes number (place_types (set_frame t f)) plan.stack (length t.below.stack + m) (set_type t type)
    pub below_locals : (n : ℕ) (type : VType) → (n < t.unit) ⊎ (t.unit + length f.locals ≤ n)
        → slice_get (set_frame t f).locals n ≡ Some type
        → Comes number (place_types (set_frame t f)) plan.locals n type
    pub below_stack : (n : ℕ) (type : VType) → slice_get t.below.stack n ≡ Some type
        → Comes number (place_types (set_frame t f)) plan.stack n type

  module _ (fits : t.unit + length f.locals ≤ length t.below.locals) where
    -- ---- to the next frame

    module _ (row : Row) (plan : PlanRow) (keeps : RowKeeps row plan) (headers : Headers) (own to : Frame)
        (locals_are : own.locals ≡ row.locals) (stack_is : own.stack ≡ stack_behind f row) (long : length own.locals ≡ length f.locals)
        (assignable : IsFrameAssignable headers own to) where
      long_to : length to.locals ≡ length f.locals
      long_to = sym (as_long headers own.locals to.locals assignable.locals) ∙ long

      fits_to : t.unit + length to.locals ≤ length t.below.locals
      fits_to = omega (arith, long_to, fits)

      one_local : (n : ℕ) (type : VType) → slice_get (set_frame t to).locals n ≡ Some type → IsTrue (is_site_object flat type)
          → Comes number (place_types (set_frame t f)) plan.locals n type
      one_local n type is site = elim (where_is t.unit (length to.locals) n) [
        | outside out ↦
            let there = sym (local_outside t to fits_to n out) ∙ is in
            let out_too : (n < t.unit) ⊎ (t.unit + length f.locals ≤ n) =
            subst (λ (size : ℕ). (n < t.unit) ⊎ (t.unit + size ≤ n)) long_to out in
            keeps.below_locals n type out_too (local_outside t f fits n out_too ∙ there)
        | inside m place within ↦
            let inner = get_inside t.unit (map (set_type t) to.locals) t.below.locals (omega (arith, fits_to, length-map to.locals (set_type t))) m
            (omega (arith, within, length-map to.locals (set_type t))) in
            let one = set_unit flat t to.locals m type (sym inner ∙ ap (slice_get (set_frame t to).locals) (sym place) ∙ is) in
            let site_own = subst (λ (x : VType). IsTrue (is_site_object flat x)) one.2 site in
            let new = set_site flat t one.0 site_own in
            let before = new_before headers own.locals to.locals assignable.locals m one.0 new one.1 in
            let comes = keeps.own_locals m one.0 new site_own (ap (λ (l : List VType). slice_get l m) (sym locals_are) ∙ before) in
            subst (λ (x : VType). Comes number (place_types (set_frame t f)) plan.locals n x) (sym one.2)
            (subst (λ (k : ℕ). Comes number (place_types (set_frame t f)) plan.locals k (set_type t one.0)) (sym place) comes)
      ]

      one_entry : (n : ℕ) (type : VType) → slice_get (set_frame t to).stack n ≡ Some type → IsTrue (is_site_object flat type)
          → Comes number (place_types (set_frame t f)) plan.stack n type
      one_entry n type is site = elim (slice_either t.below.stack (map (set_type t) to.stack) n type is) [
        | inl front ↦ keeps.below_stack n type front
        | inr back ↦
            let one = set_unit flat t to.stack back.behind type back.there in
            let site_own = subst (λ (x : VType). IsTrue (is_site_object flat x)) one.2 site in
            let new = set_site flat t one.0 site_own in
            let before = new_before headers own.stack to.stack assignable.stack back.behind one.0 new one.1 in
            let comes = keeps.own_stack back.behind one.0 new site_own (ap (λ (l : List VType). slice_get l back.behind) (sym stack_is) ∙ before) in
            subst (λ (x : VType). Comes number (place_types (set_frame t f)) plan.stack n x) (sym one.2)
            (subst (λ (k : ℕ). Comes number (place_types (set_frame t f)) plan.stack k (set_type t one.0)) (sym back.number_is) comes)
      ]

      pub goes_kept : KeepsTo flat number (set_frame t f) plan (set_frame t to)
      goes_kept = record { locals = one_local; stack = one_entry }

    -- ---- rows that hold what they don't take

    -- the locals are held, and the stack under so many entries
    pub record Moving (plan : PlanRow) (takes : ℕ) : Type 0 where
      pub more : List Source
      pub stack : plan.stack ≡ held_from (length (set_frame t f).locals) (length (set_frame t f).stack - takes) ++ more

    pub record HoldsLocals (row : Row) (plan : PlanRow) : Type 0 where
      pub plan_locals : plan.locals ≡ held_locals (set_frame t f)
      pub back : (m : ℕ) (type : VType) → IsUninitialised type → slice_get row.locals m ≡ Some type → slice_get f.locals m ≡ Some type

    -- what a row leaves under what it gives was there
    pub record LeavesEntries (row : Row) : Type 0 where
      pub back : (entries : List VType) (m : ℕ) (type : VType) → IsUninitialised type → slice_get (row.becomes entries) m ≡ Some type
          → slice_get entries m ≡ Some type
      pub long : (entries : List VType) → length (row.becomes entries) ≡ length entries

    -- the locals of a row and of its plan
    pub record LocalsKept (row : Row) (plan : PlanRow) : Type 0 where
      pub own : (m : ℕ) (type : VType) → IsUninitialised type → IsTrue (is_site_object flat (set_type t type))
          → slice_get row.locals m ≡ Some type
          → Comes number (place_types (set_frame t f)) plan.locals (t.unit + m) (set_type t type)
      pub below : (n : ℕ) (type : VType) → (n < t.unit) ⊎ (t.unit + length f.locals ≤ n)
          → slice_get (set_frame t f).locals n ≡ Some type
          → Comes number (place_types (set_frame t f)) plan.locals n type

    pub held_kept : (row : Row) (plan : PlanRow) → HoldsLocals row plan → LocalsKept row plan
    held_kept row plan held = record {
      own = λ m type new site is. all (t.unit + m) (set_type t type) (local_set t f fits m type (held.back m type new is));
      below = λ n type out is. all n type is;
    } where
      all : (n : ℕ) (type : VType) → slice_get (set_frame t f).locals n ≡ Some type
          → Comes number (place_types (set_frame t f)) plan.locals n type
      all n type is =
          subst (λ (sources : List Source). Comes number (place_types (set_frame t f)) sources n type) (sym held.plan_locals)
          (local_comes number (set_frame t f) (length (set_frame t f).locals) n type (slice_get_within (set_frame t f).locals n type is) is)

    left_long : (count : ℕ) → length (under count f.stack) ≡ length f.stack - count
    left_long count = length-take-le (length f.stack - count) f.stack (omega arith)

    -- what is under the operands was there
    pub left_back : (row : Row) → LeavesEntries row → (m : ℕ) (type : VType) → IsUninitialised type
        → slice_get (row.becomes (under (length row.takes) f.stack)) m ≡ Some type
        → (m < length f.stack - length row.takes) × (slice_get f.stack m ≡ Some type)
    left_back row leaves m type new is =
        let left = under (length row.takes) f.stack in
        let there = leaves.back left m type new is in
        let within = slice_get_within left m type there in
        let less : m < length f.stack - length row.takes = omega (arith, within, left_long (length row.takes)) in
        (less, sym (get_take (length f.stack - length row.takes) f.stack m less) ∙ there)

    pub stack_back : (row : Row) → LeavesEntries row → AllByRecursion NotNew row.gives → (m : ℕ) (type : VType) → IsUninitialised type
        → slice_get (stack_behind f row) m ≡ Some type
        → (m < length f.stack - length row.takes) × (slice_get f.stack m ≡ Some type)
    stack_back row leaves none m type new is = elim (slice_either (row.becomes (under (length row.takes) f.stack)) row.gives m type is) [
      | inl front ↦ left_back row leaves m type new front
      | inr back ↦ absurd (at_index NotNew row.gives back.behind type none back.there new)
    ]

    module _ (row : Row) (plan : PlanRow) (takes : ℕ) (moving : Moving plan takes) (fewer : takes ≤ length row.takes)
        (enough : length row.takes ≤ length f.stack) (leaves : LeavesEntries row) where
      -- an entry that is not taken
      entry_held : (m : ℕ) (type : VType) → m < length f.stack - length row.takes → slice_get f.stack m ≡ Some type
          → Comes number (place_types (set_frame t f)) plan.stack (length t.below.stack + m) (set_type t type)
      entry_held m type within is =
          subst (λ (sources : List Source). Comes number (place_types (set_frame t f)) sources (length t.below.stack + m) (set_type t type))
          (sym moving.stack)
          (stack_comes number (set_frame t f) (length (set_frame t f).stack - takes) moving.more (length t.below.stack + m) (set_type t type)
          (omega (arith, within, fewer, stack_long t f)) (entry_set t f m type is))

      pub keeps_by : LocalsKept row plan
          → ((j : ℕ) (type : VType) → IsUninitialised type → IsTrue (is_site_object flat (set_type t type)) → slice_get row.gives j ≡ Some type
          → Comes number (place_types (set_frame t f)) plan.stack (length t.below.stack + (length f.stack - length row.takes + j)) (set_type t type))
          → RowKeeps row plan
      keeps_by locals gives = record {
        own_locals = locals.own;
        own_stack = λ m type new site is. elim (slice_either (row.becomes (under (length row.takes) f.stack)) row.gives m type is) [
          | inl front ↦ let there = left_back row leaves m type new front in entry_held m type there.0 there.1
          | inr back ↦
              let long = leaves.long (under (length row.takes) f.stack) in
              let place : length t.below.stack + (length f.stack - length row.takes + back.behind) ≡ length t.below.stack + m =
              omega (arith, back.number_is, long, left_long (length row.takes)) in
              subst (λ (n : ℕ). Comes number (place_types (set_frame t f)) plan.stack n (set_type t type)) place
              (gives back.behind type new site back.there)
        ];
        below_locals = locals.below;
        below_stack = λ n type is.
            let within = slice_get_within t.below.stack n type is in
            subst (λ (sources : List Source). Comes number (place_types (set_frame t f)) sources n type) (sym moving.stack)
            (stack_comes number (set_frame t f) (length (set_frame t f).stack - takes) moving.more n type
            (omega (arith, within, fewer, enough, stack_long t f)) (slice_left t.below.stack (map (set_type t) f.stack) n type is));
      }

      -- nothing uninitialised is given
      pub keeps_plain : HoldsLocals row plan → AllByRecursion NotNew row.gives → RowKeeps row plan
      keeps_plain held none =
          keeps_by (held_kept row plan held) (λ j type new site is. absurd (at_index NotNew row.gives j type none is new))

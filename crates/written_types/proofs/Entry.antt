-- The frame that the code begins with fits its first block.
use Rattle.std.proofs.Common.{◌≡◌, ◌+◌, ◌-◌, ℕ, zero, suc, Bool, true, false, List, [], ◌∷◌, ◌++◌, drop, length, map, replicate, Option, Some, None, slice_get, refl, sym, ap, subst, ◌∙◌, if◌then◌else◌, arith}
use Rattle.std.specs.List.{AllByRecursion}
use Rattle.std.proofs.lemmas.Bool.{false≢true}
use Rattle.std.proofs.lemmas.List.{append_assoc, length-append, length-replicate}
use Rattle.std.proofs.lemmas.Option.{none-some, same_Some}
use Rattle.class_model.specs.Descriptors.{parameter_units}
use Rattle.class_model.specs.Frames.{filled, is_top, units_of_entries}
use Rattle.class_model.specs.Methods.{entry_of, home_of}
use Rattle.class_model.specs.declared.frame.Frame.{Frame}
use Rattle.class_model.specs.declared.frame.VType.{VType}
use Rattle.class_model.specs.declared.frame.VType.TheVariants as types
use Rattle.class_tree.specs.Headers.{Headers}
use Rattle.flow_code.specs.FlatCode.{FlatCode, point_at}
use Rattle.flow_code.specs.ReadTypes.{read_frame, read_type}
use Rattle.flow_code.specs.WrittenUnits.{field_units, greatest_depth, written_units}
use Rattle.flow_code.specs.declared.point.Point.{Point}
use Rattle.flow_code.specs.declared.point.Site.{Site}
use Rattle.making_code.specs.StateFrames.{entry_types_from, frame_in, local_types_from, site_types_from, type_of_slot}
use Rattle.member_link.specs.Assignability.{IsAssignable, from_null, of_names, to_same, to_top}
use Rattle.member_link.specs.Rows.FrameAssignability.{AreAssignable, IsFrameAssignable}
use Rattle.plan_flow.specs.Laws.RoutedPlans.{HasRoute, route_at}
use Rattle.plan_flow.specs.Laws.WrittenBlocks.{block_finished, first_block, first_of}
use Rattle.plan_flow.specs.PlanScope.{PlanScope, local_types, stack_types}
use Rattle.plan_flow.specs.PlanSlots.{fit_locals, fit_stack}
use Rattle.plan_flow.specs.Plans.{state_without_sites}
use Rattle.plan_flow.specs.Written.Blocks.{blocks_of}
use Rattle.plan_flow.specs.Written.Finish.{Finished, end_of, finish}
use Rattle.plan_flow.specs.Written.FramedCode.{type_by_item}
use Rattle.plan_flow.specs.Written.WrittenCode.{Form}
use Rattle.same_runs.specs.FlatBodies.{flat_entry}
use Rattle.virtual_state.specs.declared.slot.Slot.{Slot}
use Rattle.virtual_state.specs.declared.slot.Slot.TheVariants.{Plain, Unusable}
use Rattle.written_types.proofs.AgreeingFrames.{keeps_no_this}
use Rattle.written_types.proofs.Arrivals.{types_there}
use Rattle.written_types.proofs.BlockKinds.{first_at, first_state}
use Rattle.written_types.proofs.CarriedBlocks.{Begins}
use Rattle.written_types.proofs.EdgeFrames.{joined_assignable, tops_assignable}
use Rattle.written_types.proofs.Given.{FitsState, Given}
use Rattle.written_types.proofs.NoThis.{NotThis}
use Rattle.written_types.proofs.Placing.{fits_before}
use Rattle.written_types.proofs.Standing.{all_at, all_joined}
use Rattle.written_types.proofs.Starts.{host_new}
use Rattle.written_types.proofs.Ways.{no_initialiser}
use Rattle.written_types.specs.FitsTypes.{HasItsNew}
use Rattle.written_types.specs.Writing.{Writing, entry_in}

-- ---- Tops

pub both_tops : (one other : ℕ) → replicate one types.Top ++ replicate other types.Top ≡ replicate (one + other) types.Top
both_tops zero other = ap (λ (n : ℕ). replicate n types.Top) (the_same other (0 + other) (omega arith)) where
  the_same : (a b : ℕ) → a ≡ b → a ≡ b
  the_same a b e = e
both_tops (suc one) other =
    ap (λ (rest : List VType). types.Top ∷ rest) (both_tops one other)
    ∙ ap (λ (n : ℕ). replicate n types.Top) (the_same (suc (one + other)) (suc one + other) (omega arith)) where
      the_same : (a b : ℕ) → a ≡ b → a ≡ b
      the_same a b e = e

-- units of fields without an object
no_sites : (slots : List Slot) (number : ℕ) (sites : List Site)
    → site_types_from (record { slots = slots; objects = [] }) number sites ≡ replicate (field_units sites) types.Top
no_sites slots number [] = refl
no_sites slots number (site ∷ sites) =
    ap (λ (rest : List VType). replicate (parameter_units site.fields) types.Top ++ rest) (no_sites slots (suc number) sites)
    ∙ both_tops (parameter_units site.fields) (field_units sites)

-- ---- types that are assigned

locals_begin : (flat : FlatCode) (headers : Headers) (lows highs : List VType) (rest : List Slot)
    → AreAssignable headers lows (map (read_type flat) highs)
    → AreAssignable headers lows (local_types_from flat highs (fit_locals highs [] ++ rest))
locals_begin flat headers lows [] rest are = are
locals_begin flat headers [] (high ∷ highs) rest are = absurd are
locals_begin flat headers (low ∷ lows) (high ∷ highs) rest are = (by (is_top high), locals_begin flat headers lows highs rest are.1) where
  by : (top : Bool) → IsAssignable headers low (type_of_slot flat high (if top then Unusable else Plain))
  by true = to_top low
  by false = are.0

-- no uninitialised object is there
abbrev NoNew : PlanScope → VType → Type 0
NoNew s type = HasItsNew s (λ at. false) type

item_assigned : (s : PlanScope) (form : Form) (blocks : List Finished) {headers : Headers} {low high : VType}
    → NoNew s low
    → IsAssignable headers low high
    → IsAssignable headers low (type_by_item form blocks high)
item_assigned s form blocks none (to_top type) = to_top type
item_assigned s form blocks none (from_null name) = from_null name
item_assigned s form blocks none (of_names low high names) = of_names low high names
item_assigned s form blocks {headers = headers} none (to_same type) = by type none where
  by : (type : VType) → NoNew s type → IsAssignable headers type (type_by_item form blocks type)
  by (types.Uninit at) new = absurd (false≢true new.is_reached)
  by types.UninitThis new = absurd new
  by (types.Object name) new = to_same (types.Object name)
  by types.Top new = to_same types.Top
  by types.Int new = to_same types.Int
  by types.Float new = to_same types.Float
  by types.Long new = to_same types.Long
  by types.Double new = to_same types.Double
  by types.Null new = to_same types.Null

items_assigned : (s : PlanScope) (form : Form) (blocks : List Finished) (headers : Headers) (lows highs : List VType)
    → AllByRecursion (NoNew s) lows
    → AreAssignable headers lows highs
    → AreAssignable headers lows (map (type_by_item form blocks) highs)
items_assigned s form blocks headers [] [] none are = tt
items_assigned s form blocks headers [] (high ∷ highs) none are = absurd are
items_assigned s form blocks headers (low ∷ lows) [] none are = absurd are
items_assigned s form blocks headers (low ∷ lows) (high ∷ highs) none are =
    (item_assigned s form blocks none.0 are.0, items_assigned s form blocks headers lows highs none.1 are.1)

no_new_not_this : (s : PlanScope) (all : List VType) → AllByRecursion (NoNew s) all → AllByRecursion NotThis all
no_new_not_this s [] none = tt
no_new_not_this s (type ∷ all) none = (by type none.0, no_new_not_this s all none.1) where
  by : (type : VType) → NoNew s type → NotThis type
  by types.UninitThis new = absurd new
  by (types.Uninit at) new = λ e. absurd cc
  by (types.Object name) new = λ e. absurd cc
  by types.Top new = λ e. absurd cc
  by types.Int new = λ e. absurd cc
  by types.Float new = λ e. absurd cc
  by types.Long new = λ e. absurd cc
  by types.Double new = λ e. absurd cc
  by types.Null new = λ e. absurd cc

assigned_long : (headers : Headers) (lows highs : List VType) → AreAssignable headers lows highs → length lows ≡ length highs
assigned_long headers [] [] are = refl
assigned_long headers [] (high ∷ highs) are = absurd are
assigned_long headers (low ∷ lows) [] are = absurd are
assigned_long headers (low ∷ lows) (high ∷ highs) are = ap suc (assigned_long headers lows highs are.1)

mapped_long : (change : VType → VType) (all : List VType) → length (map change all) ≡ length all
mapped_long change [] = refl
mapped_long change (type ∷ all) = ap suc (mapped_long change all)

-- more units are Tops
more_units : (few more : ℕ) (entries : List VType) → length (filled few entries) ≡ few
    → filled (few + more) entries ≡ filled few entries ++ replicate more types.Top
more_units few more entries long =
    let counted = length-append (units_of_entries entries) (replicate (few - length (units_of_entries entries)) types.Top) in
    let tops = length-replicate (few - length (units_of_entries entries)) types.Top in
    let room : (few + more) - length (units_of_entries entries) ≡ (few - length (units_of_entries entries)) + more = omega (arith, long, counted, tops) in
    ap (λ (n : ℕ). units_of_entries entries ++ replicate n types.Top) room
    ∙ ap (λ (rest : List VType). units_of_entries entries ++ rest) (sym (both_tops (few - length (units_of_entries entries)) more))
    ∙ sym (append_assoc (units_of_entries entries) (replicate (few - length (units_of_entries entries)) types.Top) (replicate more types.Top))

module _ (w : Writing) (given : Given w) where
  abbrev flat : FlatCode
  flat = w.s.flat

  -- the entry of the flat code, and units behind it
  abbrev more : ℕ
  more = field_units flat.sites + length flat.sites + greatest_depth flat.points

  abbrev low : Frame
  low = flat_entry w.host flat

  low_none : AllByRecursion (NoNew w.s) low.locals
  low_none =
      host_new w.s (λ at. false) w.host
      (no_initialiser w.s.classes w.s.links w.host w.s.flat given.setting.plan given.hierarchy given.setting.tree.holds given.setting.links
      given.setting.ready given.setting.sites given.setting.valid)

  tops_none : (count : ℕ) → AllByRecursion (NoNew w.s) (replicate count types.Top)
  tops_none zero = tt
  tops_none (suc count) = (tt, tops_none count)

  entry_fits : (point : Point) → point_at flat 0 ≡ Some point → IsFrameAssignable w.host.headers low (read_frame flat point.typed)
      → FitsState w (entry_in w) 0 (state_without_sites w.s 0)
  entry_fits point there goes = record {
    assignable = subst (IsFrameAssignable w.host.headers (entry_in w)) (sym (ap by_item whole)) (record {
      locals = subst (λ (all : List VType). AreAssignable w.host.headers all (map (type_by_item w.form w.blocks) own.locals)) (sym entry_is)
          (items_assigned w.s w.form w.blocks w.host.headers _ _ none
          (joined_assignable w.host.headers low.locals _ (replicate more types.Top) _
          (locals_begin flat w.host.headers low.locals point.typed.locals (fit_stack point.typed.stack []) goes.locals)
          (tops_assignable w.host.headers (replicate more types.Top) more (length-replicate more types.Top))));
      stack = no_stack point.typed.stack goes.stack;
      keeps_this = keeps_no_this (entry_in w).locals _ not_this;
    });
    no_this = not_this;
  } where
    by_item : Frame → Frame
    by_item f = record { locals = map (type_by_item w.form w.blocks) f.locals; stack = map (type_by_item w.form w.blocks) f.stack }

    slots : List Slot
    slots = fit_locals point.typed.locals [] ++ fit_stack point.typed.stack []

    own : Frame
    own = record {
      locals = local_types_from flat point.typed.locals slots ++ replicate more types.Top;
      stack = entry_types_from flat point.typed.stack (drop (length point.typed.locals) slots);
    }

    types_are : (local_types flat 0 ≡ point.typed.locals) × (stack_types flat 0 ≡ point.typed.stack)
    types_are = types_there w.s 0 point there

    tops_are : (site_types_from (record { slots = slots; objects = [] }) 0 flat.sites ++ replicate (length flat.sites) types.Top)
        ++ replicate (greatest_depth flat.points) types.Top ≡ replicate more types.Top
    tops_are =
        ap (λ (rest : List VType). (rest ++ replicate (length flat.sites) types.Top) ++ replicate (greatest_depth flat.points) types.Top)
        (no_sites slots 0 flat.sites)
        ∙ ap (λ (rest : List VType). rest ++ replicate (greatest_depth flat.points) types.Top)
        (both_tops (field_units flat.sites) (length flat.sites))
        ∙ both_tops (field_units flat.sites + length flat.sites) (greatest_depth flat.points)

    whole : frame_in flat (point_at flat 0) (state_without_sites w.s 0) ≡ own
    whole =
        ap (λ (found : Option Point). frame_in flat found (state_without_sites w.s 0)) there
        ∙ (λ i. frame_in flat (Some point) (record { slots = fit_locals (types_are.0 i) [] ++ fit_stack (types_are.1 i) []; objects = [] }))
        ∙ ap (λ (locals : List VType). record { locals = locals; stack = own.stack })
        (ap (λ (rest : List VType). rest ++ replicate (greatest_depth flat.points) types.Top)
        (append_assoc (local_types_from flat point.typed.locals slots)
        (site_types_from (record { slots = slots; objects = [] }) 0 flat.sites) (replicate (length flat.sites) types.Top))
        ∙ append_assoc (local_types_from flat point.typed.locals slots)
        (site_types_from (record { slots = slots; objects = [] }) 0 flat.sites ++ replicate (length flat.sites) types.Top)
        (replicate (greatest_depth flat.points) types.Top)
        ∙ ap (λ (rest : List VType). local_types_from flat point.typed.locals slots ++ rest) tops_are)

    long : length low.locals ≡ flat.locals
    long =
        assigned_long w.host.headers low.locals _ goes.locals
        ∙ mapped_long (read_type flat) point.typed.locals
        ∙ all_at (λ (p : Point). length p.typed.locals ≡ flat.locals) flat.points 0 point given.setting.for_plans.widths there

    entry_is : (entry_in w).locals ≡ low.locals ++ replicate more types.Top
    entry_is =
        ap (λ (n : ℕ). (entry_of (home_of w.host.class) w.host.method (record w.host.part { max_locals = n })).locals)
        (the_same (written_units flat) (flat.locals + more) (omega arith))
        ∙ more_units flat.locals more _ long
      where
        the_same : (a b : ℕ) → a ≡ b → a ≡ b
        the_same a b e = e

    none : AllByRecursion (NoNew w.s) (low.locals ++ replicate more types.Top)
    none = all_joined (NoNew w.s) low.locals (replicate more types.Top) low_none (tops_none more)

    not_this : AllByRecursion NotThis (entry_in w).locals
    not_this = no_new_not_this w.s (entry_in w).locals (subst (AllByRecursion (NoNew w.s)) (sym entry_is) none)

    no_stack : (highs : List VType) → AreAssignable w.host.headers [] (map (read_type flat) highs)
        → AreAssignable w.host.headers [] (map (type_by_item w.form w.blocks)
        (entry_types_from flat highs (drop (length point.typed.locals) (fit_locals point.typed.locals [] ++ fit_stack highs []))))
    no_stack [] are = tt
    no_stack (high ∷ highs) are = absurd are

  first_item : {A : Type 0} (items : List A) (item : A) → slice_get items 0 ≡ Some item → (others : List A) × (items ≡ item ∷ others)
  first_item [] item is = absurd (none-some item is)
  first_item {A} (first ∷ items) item is = (items, ap (λ (one : A). one ∷ items) (same_Some first item is))

  -- The code begins with a block whose frame its own fits.
  pub begins : Begins w
  begins = by (point_at flat 0) refl where
    start : HasRoute w.s given.setting.routes 0 (0 + 0) given.setting.valid.start
    start = route_at w.s 0 given.setting.plan given.setting.routes 0 given.setting.valid.start given.setting.routed given.setting.valid.is_start

    state_is : start.route.state ≡ state_without_sites w.s 0
    state_is = start.is.state ∙ given.setting.valid.no_site

    of_point : (point : Point) → point_at flat 0 ≡ Some point → FitsState w (entry_in w) 0 (state_without_sites w.s 0) → Begins w
    of_point point there fits =
        let first = first_of w.s given.setting.routes 0 point start.route there start.is_route in
        let block = first_block w.s 0 point start.route start.route.made in
        let one : Finished = record { block = block; end = end_of flat block (finish flat (drop 1 (blocks_of w.s given.setting.routes))) } in
        let found : slice_get w.blocks 0 ≡ Some one =
        ap (λ (all : List Finished). slice_get all 0) given.setting.blocks
        ∙ block_finished flat (blocks_of w.s given.setting.routes) 0 block first.is_there in
        let split = first_item w.blocks one found in
        record {
          first = one;
          others = split.0;
          is = split.1;
          fits = fits_before w (entry_in w) one 0 (state_without_sites w.s 0) fits (record {
            is_at = first_at w.s 0 point start.route start.route.made;
            is_state = first_state w.s 0 point start.route start.route.made refl ∙ state_is;
          });
        }

    by : (found : Option Point) → point_at flat 0 ≡ found → Begins w
    by None none = absurd (rw none at given.setting.ready.typed.entry)
    by (Some point) there = of_point point there (entry_fits point there (rw there at given.setting.ready.typed.entry))

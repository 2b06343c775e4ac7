-- What stands on the stack before an item comes from the last block before it with a stated frame, or from items between.
use Rattle.std.proofs.Common.{◌≡◌, ◌≢◌, ◌==◌, ◌+◌, ◌≤◌, ◌<◌, ℕ, zero, suc, Bool, true, false, List, [], ◌∷◌, slice_get, Option, Some, None, if◌then◌else◌, refl, sym, ap, subst, ◌∙◌, arith}
use Rattle.std.specs.List.{AllByRecursion}
use Rattle.std.proofs.lemmas.Bool.{eq-eqb, eqb-true, false≢true}
use Rattle.std.proofs.lemmas.Option.{none-some, same_Some}
use Rattle.class_model.specs.declared.frame.Frame.{Frame}
use Rattle.class_model.specs.declared.frame.VType.{VType}
use Rattle.class_model.specs.declared.frame.VType.TheVariants as types
use Rattle.flow_code.specs.WrittenUnits.{written_units}
use Rattle.making_code.specs.IndexedItems.{IndexedItem}
use Rattle.member_link.specs.Bodies.{BodyPoint, flows_on, item_falls_through, point_row, frame_behind}
use Rattle.member_link.specs.Machine.Replaced.{map_numbered}
use Rattle.member_link.specs.Rows.Row.{stack_behind}
use Rattle.member_link.specs.Rows.Table.{row_of}
use Rattle.plan_flow.specs.PlanScope.{PlanScope}
use Rattle.plan_flow.specs.Written.FramedCode.{frame_had, frame_of_item, is_led_to, item_body, stands, stated_by}
use Rattle.written_types.proofs.Given.{Given}
use Rattle.written_types.proofs.OtherRows.{Other, leaves_other}
use Rattle.written_types.proofs.Starts.{host_new}
use Rattle.written_types.proofs.Ways.{no_initialiser}
use Rattle.written_types.specs.FitsTypes.{HasItsNew}
use Rattle.written_types.specs.Inner.CarriedFrames.{comes, flows_from, had_in, stated_in}
use Rattle.written_types.specs.Writing.{Writing, entry_in, items_in, points_in, scope_in}

-- ---- a frame without an object of an item

pub record HasNo (place : ℕ) (frame : Frame) : Type 0 where
  pub locals : AllByRecursion (Other place) frame.locals
  pub stack : AllByRecursion (Other place) frame.stack

-- ---- a point of a body

-- one of a numbered list
numbered_at : {A B : Type 0} (change : ℕ → A → B) (from number : ℕ) (items : List A) (one : B)
    → slice_get (map_numbered change from items) number ≡ Some one
    → (item : A) × (one ≡ change (from + number) item)
numbered_at change from number [] one is = absurd (none-some one is)
numbered_at {B = B} change from zero (item ∷ items) one is =
    (item, sym (same_Some (change from item) one is) ∙ ap (λ (n : ℕ). change n item) (let same : from ≡ from + 0 = omega arith in same))
numbered_at {B = B} change from (suc number) (item ∷ items) one is =
    let rest = numbered_at change (suc from) number items one is in
    (rest.0, rest.1 ∙ ap (λ (n : ℕ). change n rest.0) (let same : suc from + number ≡ from + suc number = omega arith in same))

behind_frame : (goes_on : Bool) (locals stack : List VType) (frame : Frame)
    → (if goes_on then Some (let f : Frame = record { locals = locals; stack = stack } in f) else None) ≡ Some frame
    → (locals ≡ frame.locals) × (stack ≡ frame.stack)
behind_frame true locals stack frame is =
    let same : (let f : Frame = record { locals = locals; stack = stack } in f) ≡ frame = same_Some _ frame is in
    (ap (λ (f : Frame). f.locals) same, ap (λ (f : Frame). f.stack) same)
behind_frame false locals stack frame is = absurd (none-some frame is)

falling : (falls : Bool) (behind : Option Frame) (frame : Frame) → (if falls then behind else None) ≡ Some frame → behind ≡ Some frame
falling true behind frame is = is
falling false behind frame is = absurd (none-some frame is)

-- an item flows on with no object of another item that the frame before has not
module _ (w : Writing) (place : ℕ) where
  flows_without : (number : ℕ) (item : IndexedItem) (before frame : Frame) → number ≢ place → HasNo place before
      → flows_on (item_body w.pool (scope_in w) number item) before ≡ Some frame
      → HasNo place frame
  flows_without number item before frame apart has is =
      let row = row_of (scope_in w) before number item.instr in
      let leaves = leaves_other place before has.locals has.stack (scope_in w) number apart item.instr in
      let body = item_body w.pool (scope_in w) number item in
      let behind = falling (item_falls_through body.item) (frame_behind body before) frame is in
      let parts = behind_frame (point_row body before).goes_on (point_row body before).locals (stack_behind before (point_row body before)) frame behind in
      record {
        locals = subst (AllByRecursion (Other place)) parts.0 leaves.locals;
        stack = subst (AllByRecursion (Other place)) parts.1 leaves.stack;
      }

-- ---- the entry

never_other : (s : PlanScope) (place : ℕ) (all : List VType) → AllByRecursion (HasItsNew s (λ at. false)) all → AllByRecursion (Other place) all
never_other s place [] news = tt
never_other s place (type ∷ all) news = (by type news.0, never_other s place all news.1) where
  by : (type : VType) → HasItsNew s (λ at. false) type → Other place type
  by (types.Uninit at) new = absurd (false≢true new.is_reached)
  by other new = tt

module _ (w : Writing) (given : Given w) (place : ℕ) where
  -- the flat code with as many local units as are written
  abbrev wider : PlanScope
  wider = record (w.s) { flat = record (w.s.flat) { locals = written_units w.s.flat } }

  entry_has_no : HasNo place (entry_in w)
  entry_has_no = record {
    locals =
        never_other wider place (entry_in w).locals (host_new wider (λ at. false) w.host
        (no_initialiser w.s.classes w.s.links w.host w.s.flat given.setting.plan given.hierarchy given.setting.tree.holds given.setting.links
        given.setting.ready given.setting.sites given.setting.valid));
    stack = tt;
  }

  -- ---- down from an item

  -- nothing leads to a block that begins with an item
  abbrev pub Quiet : ℕ → Type 0
  Quiet number = (frame : Frame) → frame_of_item w.s.flat w.form w.blocks number ≡ Some frame → is_led_to (items_in w) number ≡ false

  -- what is stated for an item is the frame of the block that begins with it
  stated_is : (number : ℕ) (flow : Option Frame) (frame : Frame) → stated_in w number flow ≡ Some frame
      → frame_of_item w.s.flat w.form w.blocks number ≡ Some frame
  stated_is number flow frame is = by (frame_of_item w.s.flat w.form w.blocks number) is where
    tested : (b : Bool) (own : Frame) → (if b then Some own else None) ≡ Some frame → Some own ≡ Some frame
    tested true own same = same
    tested false own same = absurd (none-some frame same)

    by : (found : Option Frame) → stated_by (is_led_to (items_in w) number) flow found ≡ Some frame → found ≡ Some frame
    by None none = absurd (none-some frame none)
    by (Some own) some = tested (stands (is_led_to (items_in w) number) flow own) own some

  -- and where none is stated, nothing leads to it
  unstated : (number : ℕ) (flow : Option Frame) → stated_in w number flow ≡ None → Quiet number
  unstated number flow none frame there = by (is_led_to (items_in w) number) none where
    by : (led : Bool) → stated_by led flow (frame_of_item w.s.flat w.form w.blocks number) ≡ None → led ≡ false
    by false same = refl
    by true same = absurd (none-some frame (sym same ∙ ap (stated_by true flow) there))

  abbrev pub AllQuiet : ℕ → ℕ → Type 0
  AllQuiet low high = (number : ℕ) → low < number → number ≤ high → Quiet number

  quiet_from : (low high : ℕ) → Quiet (suc low) → AllQuiet (suc low) high → AllQuiet low high
  quiet_from low high first rest number more few = by (suc low == number) refl where
    by : (b : Bool) → (suc low == number) ≡ b → Quiet number
    by true same = subst Quiet (eqb-true (suc low) number same) first
    by false other = rest number (let apart : suc low ≢ number = λ same. false≢true (sym other ∙ eq-eqb (suc low) number same) in omega (arith, more, apart)) few

  -- Where a frame is stated from which control only falls on to an item up to the place, that frame has no object of the place: then neither has that of
  -- the item.
  pub descends : ((number : ℕ) (frame : Frame) → number ≤ place → AllQuiet number place
      → frame_of_item w.s.flat w.form w.blocks number ≡ Some frame
      → HasNo place frame)
      → (number : ℕ) (frame : Frame)
      → number ≤ place
      → AllQuiet number place
      → had_in w number (comes w number) ≡ Some frame
      → HasNo place frame
  descends stated zero frame few quiet is = by (stated_in w zero (comes w zero)) refl is where
    by : (found : Option Frame) → stated_in w zero (comes w zero) ≡ found → frame_had found (comes w zero) ≡ Some frame → HasNo place frame
    by (Some own) some had = stated zero frame few quiet (stated_is zero (comes w zero) frame (some ∙ had))
    by None none had = subst (HasNo place) (same_Some (entry_in w) frame had) entry_has_no
  descends stated (suc before) frame few quiet is =
      by (stated_in w (suc before) (comes w (suc before))) refl is
      (λ prior all had. descends stated before prior (omega (arith, few)) all had) where
        of_point : (point : Option BodyPoint) → slice_get (points_in w) before ≡ point
            → (had : Option Frame) → had_in w before (comes w before) ≡ had
            → flows_from point had ≡ Some frame
            → ((prior : Frame) → had_in w before (comes w before) ≡ Some prior → HasNo place prior)
            → HasNo place frame
        of_point None there had had_is flows rest = absurd (none-some frame flows)
        of_point (Some point) there None had_is flows rest = absurd (none-some frame flows)
        of_point (Some point) there (Some prior) had_is flows rest =
            let found = numbered_at (item_body w.pool (scope_in w)) zero before (items_in w) point there in
            flows_without w place before found.0 prior frame (λ same. absurd (omega (arith, few, same))) (rest prior had_is)
            (subst (λ (one : BodyPoint). flows_on one prior ≡ Some frame) (found.1 ∙ ap (λ (n : ℕ). item_body w.pool (scope_in w) n found.0)
            (let same : zero + before ≡ before = omega arith in same)) flows)

        by : (found : Option Frame) → stated_in w (suc before) (comes w (suc before)) ≡ found → frame_had found (comes w (suc before)) ≡ Some frame
            → ((prior : Frame) → AllQuiet before place → had_in w before (comes w before) ≡ Some prior → HasNo place prior)
            → HasNo place frame
        by (Some own) some had rest = stated (suc before) frame few quiet (stated_is (suc before) (comes w (suc before)) frame (some ∙ had))
        by None none had rest =
            of_point (slice_get (points_in w) before) refl (had_in w before (comes w before)) refl had
            (λ prior. rest prior (quiet_from before place (unstated (suc before) (comes w (suc before)) none) quiet))

-- Frames of written code type it, and there are such frames, where all its items hold.
use Rattle.std.proofs.Common.{◌≡◌, ◌≢◌, ◌+◌, ◌==◌, ℕ, zero, suc, Bool, true, false, List, [], ◌∷◌, ◌++◌, length, slice_get, Option, Some, None, IsSome, refl, sym, ap, subst, ◌∙◌, arith}
use Rattle.std.specs.List.{list_any}
use Rattle.std.proofs.lemmas.Bool.{eq-eqb, eqb-true, false≢true}
use Rattle.std.proofs.lemmas.Option.{none-some, same_Some}
use Rattle.std.proofs.lemmas.List.{append-nil, append_assoc, length-append}
use Rattle.class_model.specs.declared.frame.Frame.{Frame}
use Rattle.making_code.specs.IndexedItems.{IndexedItem}
use Rattle.making_code.specs.Items.{WItem}
use Rattle.member_link.specs.Bodies.{BodyPoint}
use Rattle.member_link.specs.BodyTyping.{FlowsInto, MayGoTo, Reaches, frame_among, frame_at}
use Rattle.member_link.specs.Machine.Replaced.{map_numbered}
use Rattle.plan_flow.specs.Written.Finish.{Finished, is_empty}
use Rattle.plan_flow.specs.Written.FramedCode.{IsFramed, flow_into, frame_had, frame_of_item, is_led_to, item_body, leads_to}
use Rattle.plan_flow.specs.Written.WrittenCode.{block_items, written_items}
use Rattle.plan_flow.specs.Written.WrittenConstants.{indexed_item}
use Rattle.written_types.proofs.CarriedBlocks.{AllCarry, GoesOn, HoldFrom, PointHolds, ReachesFrame, block_starts, fits_next}
use Rattle.written_types.proofs.ItemPlaces.{StandsAt, numbered_apart, numbered_long, point_stands, written_apart}
use Rattle.written_types.specs.Inner.CarriedFrames.{FitsBefore, LeadsIn, comes, frame_in, had_in, stated_in}
use Rattle.written_types.specs.Writing.{body_in, Writing, items_in, point_in, points_in, scope_in}

-- ---- the frames are those that items have

pub record AreHad (w : Writing) (frames : List Frame) : Type 0 where
  pub many : length frames ≡ length (points_in w)
  pub had : (number : ℕ) (frame : Frame) → slice_get frames number ≡ Some frame → had_in w number (comes w number) ≡ Some frame

some_where : {A B : Type 0} (ones : List A) (others : List B) (number : ℕ) (other : B) → length ones ≡ length others
    → slice_get others number ≡ Some other
    → (one : A) × (slice_get ones number ≡ Some one)
some_where [] [] number other long is = absurd (none-some other is)
some_where [] (first ∷ others) number other long is = absurd cc
some_where (one ∷ ones) [] number other long is = absurd cc
some_where (one ∷ ones) (first ∷ others) zero other long is = (one, refl)
some_where (one ∷ ones) (first ∷ others) (suc number) other long is =
    some_where ones others number other (let e : length ones ≡ length others = cc in e) is

pub same_flow : (w : Writing) (state : ℕ → Option Frame) (frames : List Frame)
    → AreHad w frames
    → (number : ℕ)
    → flow_into (body_in w state) frames number ≡ comes w number
same_flow w state frames had zero = refl
same_flow w state frames had (suc number) = by (slice_get (points_in w) number) refl where
  by : (x : Option BodyPoint) → slice_get (points_in w) number ≡ x → flow_into (body_in w state) frames (suc number) ≡ comes w (suc number)
  by None is = rw (is) refl
  by (Some point) is =
      let there = some_where frames (points_in w) number point had.many is in
      rw (is, there.1, had.had number there.0 there.1) refl

-- frames of written code are those
record HadAt (w : Writing) (state : ℕ → Option Frame) (frames : List Frame) (number : ℕ) : Type 0 where
  flow : flow_into (body_in w state) frames number ≡ comes w number
  had : (frame : Frame) → slice_get frames number ≡ Some frame → had_in w number (comes w number) ≡ Some frame

had_by : (w : Writing) (state : ℕ → Option Frame) (frames : List Frame) (number : ℕ)
    → IsFramed w.s.flat w.form w.blocks (items_in w) (body_in w state) frames
    → flow_into (body_in w state) frames number ≡ comes w number
    → HadAt w state frames number
had_by w state frames number framed flow = record {
  flow = flow;
  had = λ frame is.
      subst (λ (from : Option Frame). had_in w number from ≡ Some frame) flow
      (subst (λ (stated : Option Frame). frame_had stated (flow_into (body_in w state) frames number) ≡ Some frame) (framed.stated number)
      (framed.had number frame is));
}

points_many : (w : Writing) → length (points_in w) ≡ length (items_in w)
points_many w = numbered_long (item_body w.pool (scope_in w)) zero (items_in w)

had_each : (w : Writing) (state : ℕ → Option Frame) (frames : List Frame)
    → IsFramed w.s.flat w.form w.blocks (items_in w) (body_in w state) frames
    → (number : ℕ)
    → HadAt w state frames number
had_each w state frames framed zero = had_by w state frames zero framed refl
had_each w state frames framed (suc number) =
    had_by w state frames (suc number) framed (by (slice_get (points_in w) number) refl (had_each w state frames framed number)) where
      by : (x : Option BodyPoint) → slice_get (points_in w) number ≡ x
          → HadAt w state frames number
          → flow_into (body_in w state) frames (suc number) ≡ comes w (suc number)
      by None is before = rw (is) refl
      by (Some point) is before =
          let there = some_where frames (points_in w) number point (framed.many ∙ sym (points_many w)) is in
          rw (is, there.1, before.had there.0 there.1) refl

pub are_had : (w : Writing) (state : ℕ → Option Frame) (frames : List Frame)
    → IsFramed w.s.flat w.form w.blocks (items_in w) (body_in w state) frames
    → AreHad w frames
are_had w state frames framed = record {
  many = framed.many ∙ sym (points_many w);
  had = λ number. (had_each w state frames framed number).had;
}

-- ---- frames by place

pub frame_placed : (w : Writing) (from number : ℕ) (items : List IndexedItem) (frames : List Frame)
    → length frames ≡ length items
    → frame_among (map_numbered (item_body w.pool (scope_in w)) from items) frames (from + number) ≡ slice_get frames number
frame_placed w from number [] [] long = refl
frame_placed w from number [] (frame ∷ frames) long = absurd cc
frame_placed w from number (item ∷ items) [] long = absurd cc
frame_placed w from zero (item ∷ items) (frame ∷ frames) long = rw (eq-eqb from (from + 0) (omega arith)) refl
frame_placed w from (suc number) (item ∷ items) (frame ∷ frames) long =
    let apart : (from == (from + suc number)) ≡ false = not_same from (from + suc number) (λ same. omega (arith, same)) in
    let tails : length frames ≡ length items = cc in
    rw (apart)
    (ap (frame_among (map_numbered (item_body w.pool (scope_in w)) (suc from) items) frames)
    (the_same (from + suc number) (suc from + number) (omega arith))
    ∙ frame_placed w (suc from) number items frames tails)
  where
    the_same : (a b : ℕ) → a ≡ b → a ≡ b
    the_same a b is = is

    not_same : (a b : ℕ) → a ≢ b → (a == b) ≡ false
    not_same a b apart = by (a == b) refl where
      by : (x : Bool) → (a == b) ≡ x → (a == b) ≡ false
      by true is = absurd (apart (eqb-true a b is))
      by false is = is

pub frame_at_number : (w : Writing) (state : ℕ → Option Frame) (frames : List Frame) (number : ℕ)
    → AreHad w frames
    → frame_at (body_in w state) frames number ≡ slice_get frames number
frame_at_number w state frames number had =
    ap (frame_among (points_in w) frames) (the_same number (0 + number) (omega arith))
    ∙ frame_placed w 0 number (items_in w) frames (had.many ∙ numbered_long (item_body w.pool (scope_in w)) zero (items_in w))
  where
    the_same : (a b : ℕ) → a ≡ b → a ≡ b
    the_same a b is = is

-- ---- jumps lead to frames that are stated

any_behind : {A : Type 0} (test : A → Bool) (left right : List A) (item : A) → test item ≡ true → list_any test (left ++ (item ∷ right)) ≡ true
any_behind test [] right item is = rw (is) refl
any_behind test (first ∷ left) right item is = by (test first) refl (any_behind test left right item is) where
  by : (b : Bool) → test first ≡ b → list_any test (left ++ (item ∷ right)) ≡ true → list_any test ((first ∷ left) ++ (item ∷ right)) ≡ true
  by true e rest = rw (e) refl
  by false e rest = rw (e) rest

pub leads_to_item : (w : Writing) (number to : ℕ) (one : WItem)
    → StandsAt w number one
    → leads_to to (indexed_item w.s w.constructor w.pool w.form w.blocks number one) ≡ true
    → is_led_to (items_in w) to ≡ true
leads_to_item w number to one at leads =
    let change = indexed_item w.s w.constructor w.pool w.form w.blocks in
    ap (list_any (leads_to to)) (ap (map_numbered change zero) at.is ∙ numbered_apart change zero at.left at.right one)
    ∙ any_behind (leads_to to) (map_numbered change zero at.left) (map_numbered change (suc (zero + length at.left)) at.right)
    (change (zero + length at.left) one)
    (subst (λ (n : ℕ). leads_to to (change n one) ≡ true)
    (let is = at.number_is in the_same number (zero + length at.left) (omega (arith, is))) leads)
  where
    the_same : (a b : ℕ) → a ≡ b → a ≡ b
    the_same a b is = is

pub resolved : (w : Writing) (all : AllCarry w) (flow : Option Frame) (frame : Frame) (to : ℕ) (behind front : List Finished) (one : Finished)
    → w.blocks ≡ front ++ (one ∷ behind)
    → to ≡ length (written_items w.form front)
    → FitsBefore w frame one
    → is_led_to (items_in w) to ≡ true
    → MayGoTo (scope_in w) (Some frame) (stated_in w to flow)
resolved w all flow frame to [] front one is starts fits led = by (is_empty (block_items w.form one)) refl where
  by : (b : Bool) → is_empty (block_items w.form one) ≡ b → MayGoTo (scope_in w) (Some frame) (stated_in w to flow)
  by true none = absurd (no_next (all.empties front [] one is none)) where
    no_next : GoesOn w one [] → ⊥
    no_next goes = let e = goes.is in absurd cc
  by false some =
      let here : stated_in w to flow ≡ Some (frame_in w one) =
      rw (led, ap (frame_of_item w.s.flat w.form w.blocks) starts ∙ block_starts w front [] one is some) refl in
      subst (MayGoTo (scope_in w) (Some frame)) (sym here) fits.assignable
resolved w all flow frame to (next ∷ behind) front one is starts fits led =
    by (is_empty (block_items w.form one)) refl (resolved w all flow frame to behind (front ++ (one ∷ [])) next) where
      by : (b : Bool) → is_empty (block_items w.form one) ≡ b
          → (w.blocks ≡ (front ++ (one ∷ [])) ++ (next ∷ behind)
          → to ≡ length (written_items w.form (front ++ (one ∷ [])))
          → FitsBefore w frame next
          → is_led_to (items_in w) to ≡ true
          → MayGoTo (scope_in w) (Some frame) (stated_in w to flow))
          → MayGoTo (scope_in w) (Some frame) (stated_in w to flow)
      by true none rest =
          let goes = all.empties front (next ∷ behind) one is none in
          let same : goes.next ≡ next = let e = goes.is in cc in
          let apart = ap length (written_apart w.form front (one ∷ []))
          ∙ length-append (written_items w.form front) (written_items w.form (one ∷ [])) in
          let alone = length-append (block_items w.form one) [] in
          let count = nothing (block_items w.form one) none in
          rest (is ∙ sym (append_assoc front (one ∷ []) (next ∷ behind))) (omega (arith, starts, apart, alone, count))
          (subst (FitsBefore w frame) same (fits_next w frame one (next ∷ behind) goes fits)) led
        where
          nothing : (items : List WItem) → is_empty items ≡ true → length items ≡ 0
          nothing [] e = refl
          nothing (first ∷ items) e = absurd (false≢true e)
      by false some rest =
          let here : stated_in w to flow ≡ Some (frame_in w one) =
          rw (led, ap (frame_of_item w.s.flat w.form w.blocks) starts ∙ block_starts w front (next ∷ behind) one is some) refl in
          subst (MayGoTo (scope_in w) (Some frame)) (sym here) fits.assignable

pub leads_stated : (w : Writing) (all : AllCarry w) (flow frame : Option Frame) (to : ℕ)
    → LeadsIn w frame to
    → is_led_to (items_in w) to ≡ true
    → MayGoTo (scope_in w) frame (stated_in w to flow)
leads_stated w all flow frame to leads led =
    subst (λ (from : Option Frame). MayGoTo (scope_in w) from (stated_in w to flow)) (sym leads.is_frame)
    (resolved w all flow leads.goes to leads.placed.behind leads.placed.front leads.block leads.placed.is leads.placed.starts leads.fits led)

-- ---- each point fits

-- the items of a code, some before one, and these from it on
pub record From (w : Writing) (number : ℕ) (left right : List WItem) : Type 0 where
  pub is : written_items w.form w.blocks ≡ left ++ right
  pub number_is : number ≡ length left

pub stands_from : (w : Writing) (number : ℕ) (left right : List WItem) (one : WItem) → From w number left (one ∷ right) → StandsAt w number one
stands_from w number left right one from = record { left = left; right = right; is = from.is; number_is = from.number_is }

pub next_from : (w : Writing) (number : ℕ) (left right : List WItem) (one : WItem)
    → From w number left (one ∷ right)
    → From w (suc number) (left ++ (one ∷ [])) right
next_from w number left right one from = record {
  is = from.is ∙ sym (append_assoc left (one ∷ []) right);
  number_is = let long = length-append left (one ∷ []) in let is = from.number_is in omega (arith, long, is);
}

-- what is known of the frames and of what is stated
pub record Known (w : Writing) (state : ℕ → Option Frame) (frames : List Frame) : Type 0 where
  pub all : AllCarry w
  pub had : AreHad w frames
  pub stated : (number : ℕ) → state number ≡ stated_in w number (comes w number)

pub known_of : (w : Writing) (state : ℕ → Option Frame) (frames : List Frame)
    → AllCarry w
    → IsFramed w.s.flat w.form w.blocks (items_in w) (body_in w state) frames
    → Known w state frames
known_of w state frames all framed =
    let had = are_had w state frames framed in
    record {
      all = all;
      had = had;
      stated = λ number. framed.stated number ∙ ap (stated_in w number) (same_flow w state frames had number);
    }

-- the frame of an item that holds is the one there
pub frame_there : (w : Writing) (state : ℕ → Option Frame) (frames : List Frame) (number : ℕ) (one : WItem)
    → Known w state frames
    → StandsAt w number one
    → (holds : PointHolds w number one)
    → frame_at (body_in w state) frames number ≡ Some holds.frame
frame_there w state frames number one known at holds =
    let there = some_where frames (points_in w) number (point_in w number one) known.had.many (point_stands w number one at) in
    let same : there.0 ≡ holds.frame = same_Some there.0 holds.frame (sym (known.had.had number there.0 there.1) ∙ holds.is_frame) in
    frame_at_number w state frames number known.had ∙ there.1 ∙ ap Some same

pub reaches_there : (w : Writing) (state : ℕ → Option Frame) (frames : List Frame) (number : ℕ) (one : WItem) (flow : Option Frame)
    → Known w state frames
    → StandsAt w number one
    → PointHolds w number one
    → comes w number ≡ flow
    → FlowsInto (body_in w state) frames number flow
reaches_there w state frames number one None known at holds is = λ frame there.
    let stated : state number ≡ Some holds.frame =
    known.stated number ∙ subst (λ (from : Option Frame). ReachesFrame w from holds.frame (stated_in w number (comes w number))) is holds.reaches in
    subst IsSome (sym stated) refl
reaches_there w state frames number one (Some flow) known at holds is = (
  holds.frame,
  frame_there w state frames number one known at holds,
  subst (Reaches (scope_in w) flow holds.frame) (sym (known.stated number))
      (subst (λ (from : Option Frame). ReachesFrame w from holds.frame (stated_in w number (comes w number))) is holds.reaches),
)

-- what flows into the items from one on
pub flows_from_there : (w : Writing) (state : ℕ → Option Frame) (frames : List Frame) (number : ℕ) (left right : List WItem) (flow : Option Frame)
    → Known w state frames
    → From w number left right
    → HoldFrom w number right
    → comes w number ≡ flow
    → FlowsInto (body_in w state) frames number flow
flows_from_there w state frames number left (one ∷ right) flow known from holds is =
    reaches_there w state frames number one flow known (stands_from w number left right one from) holds.0 is
flows_from_there w state frames number left [] (Some flow) known from holds is = absurd (none-some flow (sym holds ∙ is))
flows_from_there w state frames number left [] None known from holds is = λ frame there.
    let many = known.had.many ∙ points_many w
    ∙ numbered_long (indexed_item w.s w.constructor w.pool w.form w.blocks) zero (written_items w.form w.blocks)
    ∙ ap length (from.is ∙ append-nil left) in
    absurd (none-some frame (sym (behind_all frames number (many ∙ sym from.number_is))
    ∙ sym (frame_at_number w state frames number known.had) ∙ there))
  where
    behind_all : (frames : List Frame) (number : ℕ) → length frames ≡ number → slice_get frames number ≡ None
    behind_all [] zero is = refl
    behind_all [] (suc number) is = refl
    behind_all (frame ∷ frames) zero is = absurd cc
    behind_all (frame ∷ frames) (suc number) is = behind_all frames number (let e : length frames ≡ number = cc in e)

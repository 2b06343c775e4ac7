-- Where the items of each block carry each frame with which the block can begin, all items hold, one block after the other.
use Rattle.std.proofs.Common.{◌≡◌, ◌≢◌, ◌+◌, ◌<◌, ℕ, suc, Bool, true, false, List, [], ◌∷◌, ◌++◌, length, Option, Some, None, option_map, refl, sym, ap, subst, ◌∙◌, inl, inr, arith}
use Rattle.std.specs.List.{AllByRecursion}
use Rattle.std.proofs.lemmas.Bool.{false≢true, true≢false}
use Rattle.std.proofs.lemmas.List.{append_assoc, length-append}
use Rattle.class_model.specs.declared.frame.Frame.{Frame}
use Rattle.class_model.specs.declared.frame.VType.TheVariants.{UninitThis}
use Rattle.making_code.specs.Items.{WItem}
use Rattle.making_code.specs.StateFrames.{differ}
use Rattle.member_link.specs.Bodies.{flows_on}
use Rattle.member_link.specs.BodyTyping.{Reaches}
use Rattle.plan_flow.specs.Written.Finish.{Finished, is_empty}
use Rattle.plan_flow.specs.Written.FramedCode.{block_from, frame_by_item, frame_of_item, is_led_to, stands, type_by_item}
use Rattle.plan_flow.specs.Written.WrittenCode.{block_items, written_items}
use Rattle.plan_flow.specs.Written.WrittenFrames.{written_frame}
use Rattle.written_types.proofs.AgreeingFrames.{agrees_with_itself, keeps_no_this, no_differs, none_differ_agree, none_differ_assignable}
use Rattle.written_types.proofs.ItemPlaces.{StandsAt, block_at, none_inside, point_stands, written_apart}
use Rattle.written_types.specs.Inner.CarriedFrames.{Agrees, BlockCarries, Carries, FitsBefore, GoesBehind, IsFresh, ItemHolds, carries_away, carries_none, carries_on, comes, flows_from, frame_in, had_in, stated_in}
use Rattle.written_types.specs.Writing.{Writing, entry_in, items_in, point_in, scope_in}

-- ---- what is proved of blocks, apart from each other

-- behind a block without items stands one from whose frame its own does not differ
pub record GoesOn (w : Writing) (one : Finished) (behind : List Finished) : Type 0 where
  pub next : Finished
  pub others : List Finished
  pub is : behind ≡ next ∷ others
  pub same : differ (written_frame w.s.flat one.block) (written_frame w.s.flat next.block) ≡ false
  pub locals : length (written_frame w.s.flat one.block).locals ≡ length (written_frame w.s.flat next.block).locals
  pub stack : length (written_frame w.s.flat one.block).stack ≡ length (written_frame w.s.flat next.block).stack

-- the code begins with a block whose frame that of the code fits
pub record Begins (w : Writing) : Type 0 where
  pub first : Finished
  pub others : List Finished
  pub is : w.blocks ≡ first ∷ others
  pub fits : FitsBefore w (entry_in w) first

pub record AllCarry (w : Writing) : Type 0 where
  pub begins : Begins w
  pub no_this : (front behind : List Finished) (one : Finished)
      → w.blocks ≡ front ++ (one ∷ behind)
      → AllByRecursion (λ type. type ≢ UninitThis) (frame_in w one).locals
  pub fresh : (front behind : List Finished) (one : Finished) (frame : Frame)
      → w.blocks ≡ front ++ (one ∷ behind)
      → had_in w (length (written_items w.form front)) (comes w (length (written_items w.form front))) ≡ Some frame
      → IsFresh w (length (written_items w.form front)) one frame
  pub empties : (front behind : List Finished) (one : Finished)
      → w.blocks ≡ front ++ (one ∷ behind)
      → is_empty (block_items w.form one) ≡ true
      → GoesOn w one behind
  pub carries : (front behind : List Finished) (one : Finished) (frame : Frame)
      → w.blocks ≡ front ++ (one ∷ behind)
      → Agrees frame (frame_in w one)
      → IsFresh w (length (written_items w.form front)) one frame
      → BlockCarries w (length (written_items w.form front)) one behind frame

-- ---- what is said of an item

-- what flows into an item reaches the frame that it has
abbrev pub ReachesFrame : Writing → Option Frame → Frame → Option Frame → Type 0
ReachesFrame w None frame stated = stated ≡ Some frame
ReachesFrame w (Some flow) frame stated = Reaches (scope_in w) flow frame stated

pub record PointHolds (w : Writing) (number : ℕ) (one : WItem) : Type 0 where
  pub frame : Frame
  pub is_frame : had_in w number (comes w number) ≡ Some frame
  pub reaches : ReachesFrame w (comes w number) frame (stated_in w number (comes w number))
  pub holds : ItemHolds w number one frame

-- items from a number on hold, and control does not go on behind them
abbrev pub HoldFrom : Writing → ℕ → List WItem → Type 0
HoldFrom w number [] = comes w number ≡ None
HoldFrom w number (one ∷ others) = PointHolds w number one × HoldFrom w (suc number) others

-- ---- over blocks without items

pub fits_next : (w : Writing) (frame : Frame) (one : Finished) (behind : List Finished) (goes : GoesOn w one behind)
    → FitsBefore w frame one
    → FitsBefore w frame goes.next
fits_next w frame one behind goes fits =
    let none = no_differs (written_frame w.s.flat one.block) (written_frame w.s.flat goes.next.block) goes.same in
    record {
      assignable = record {
        locals = none_differ_assignable (scope_in w).headers (type_by_item w.form w.blocks) frame.locals _ _ refl goes.locals fits.assignable.locals
            none.locals;
        stack = none_differ_assignable (scope_in w).headers (type_by_item w.form w.blocks) frame.stack _ _ refl goes.stack fits.assignable.stack
            none.stack;
        keeps_this = keeps_no_this frame.locals _ fits.no_this;
      };
      no_this = fits.no_this;
    }

-- ---- the first item of a block

abbrev pub Arrives : Writing → Option Frame → Finished → Type 0
Arrives w None one = Unit {0}
Arrives w (Some flow) one = FitsBefore w flow one

-- the frame that a block begins with agrees with its own
pub record BeginsWith (w : Writing) (number : ℕ) (one : Finished) (flow : Option Frame) : Type 0 where
  pub frame : Frame
  pub is_frame : had_in w number flow ≡ Some frame
  pub reaches : ReachesFrame w flow frame (stated_in w number flow)
  pub agrees : Agrees frame (frame_in w one)

-- a frame that is stated, or that does not differ
pub begins_with : (w : Writing) (number : ℕ) (one : Finished) (flow : Option Frame) (led : Bool)
    → is_led_to (items_in w) number ≡ led
    → frame_of_item w.s.flat w.form w.blocks number ≡ Some (frame_in w one)
    → AllByRecursion (λ type. type ≢ UninitThis) (frame_in w one).locals
    → Arrives w flow one
    → BeginsWith w number one flow
begins_with w number one None led is_led stated no_this arrives = by led is_led where
  agrees : Agrees (frame_in w one) (frame_in w one)
  agrees = record { locals = agrees_with_itself _; stack = agrees_with_itself _; no_this = no_this }

  by : (led : Bool) → is_led_to (items_in w) number ≡ led → BeginsWith w number one None
  by true is = record { frame = frame_in w one; is_frame = rw (is, stated) refl; reaches = rw (is, stated) refl; agrees = agrees }
  by false is = record { frame = frame_in w one; is_frame = rw (is, stated) refl; reaches = rw (is, stated) refl; agrees = agrees }
begins_with w number one (Some flow) led is_led stated no_this arrives = by (stands led (Some flow) (frame_in w one)) refl where
  by : (b : Bool) → stands led (Some flow) (frame_in w one) ≡ b → BeginsWith w number one (Some flow)
  by true is =
      let here : stated_in w number (Some flow) ≡ Some (frame_in w one) = rw (is_led, stated, is) refl in
      record {
        frame = frame_in w one;
        is_frame = rw (here) refl;
        reaches = subst (Reaches (scope_in w) flow (frame_in w one)) (sym here) arrives.assignable;
        agrees = record { locals = agrees_with_itself _; stack = agrees_with_itself _; no_this = no_this };
      }
  by false is =
      let here : stated_in w number (Some flow) ≡ None = rw (is_led, stated, is) refl in
      let same = not_led led is in
      let none = no_differs flow (frame_in w one) same in
      record {
        frame = flow;
        is_frame = rw (here) refl;
        reaches = subst (Reaches (scope_in w) flow flow) (sym here) refl;
        agrees = record {
          locals = none_differ_agree (scope_in w).headers flow.locals _ arrives.assignable.locals none.locals;
          stack = none_differ_agree (scope_in w).headers flow.stack _ arrives.assignable.stack none.stack;
          no_this = arrives.no_this;
        };
      }
    where
      not_led : (led : Bool) → stands led (Some flow) (frame_in w one) ≡ false → differ flow (frame_in w one) ≡ false
      not_led true e = absurd (true≢false e)
      not_led false e = e

-- ---- inside of a block

-- the items of a block are some, and these behind them from the item of a number on
pub record Inside (w : Writing) (front behind : List Finished) (one : Finished) (number : ℕ) (left right : List WItem) : Type 0 where
  pub is : w.blocks ≡ front ++ (one ∷ behind)
  pub items : block_items w.form one ≡ left ++ right
  pub number_is : number ≡ length (written_items w.form front) + length left

pub stands_inside : (w : Writing) (front behind : List Finished) (one : Finished) (number : ℕ) (left right : List WItem) (item : WItem)
    → Inside w front behind one number left (item ∷ right)
    → StandsAt w number item
stands_inside w front behind one number left right item inside = record {
  left = written_items w.form front ++ left;
  right = right ++ written_items w.form behind;
  is =
      ap (written_items w.form) inside.is
      ∙ written_apart w.form front (one ∷ behind)
      ∙ ap (λ (xs : List WItem). written_items w.form front ++ (xs ++ written_items w.form behind)) inside.items
      ∙ ap (λ (xs : List WItem). written_items w.form front ++ xs) (append_assoc left (item ∷ right) (written_items w.form behind))
      ∙ sym (append_assoc (written_items w.form front) left (item ∷ right ++ written_items w.form behind));
  number_is = inside.number_is ∙ sym (length-append (written_items w.form front) left);
}

pub next_inside : (w : Writing) (front behind : List Finished) (one : Finished) (number : ℕ) (left right : List WItem) (item : WItem)
    → Inside w front behind one number left (item ∷ right)
    → Inside w front behind one (suc number) (left ++ (item ∷ [])) right
next_inside w front behind one number left right item inside = record {
  is = inside.is;
  items = inside.items ∙ sym (append_assoc left (item ∷ []) right);
  number_is =
      let long = length-append left (item ∷ []) in
      let before = inside.number_is in
      omega (arith, long, before);
}

not_stated : (w : Writing) (front behind : List Finished) (one : Finished) (number : ℕ) (left right : List WItem) (item : WItem)
    → Inside w front behind one number left (item ∷ right)
    → 0 < length left
    → block_from w.form number 0 w.blocks ≡ None
not_stated w front behind one number left right item inside some =
    let long = ap length inside.items ∙ length-append left (item ∷ right) in
    let before = inside.number_is in
    ap (block_from w.form number 0) inside.is
    ∙ ap (λ (n : ℕ). block_from w.form n 0 (front ++ (one ∷ behind)))
    (is_number number (0 + length (written_items w.form front) + length left) (omega (arith, before)))
    ∙ none_inside w.form 0 (length left) front behind one some (omega (arith, long))
  where
    is_number : (a b : ℕ) → a ≡ b → a ≡ b
    is_number a b is = is

-- the frame behind an item flows into the next one
pub flows_next : (w : Writing) (number : ℕ) (item : WItem) (frame : Frame)
    → StandsAt w number item
    → had_in w number (comes w number) ≡ Some frame
    → comes w (suc number) ≡ flows_on (point_in w number item) frame
flows_next w number item frame at is =
    ap (λ point. flows_from point (had_in w number (comes w number))) (point_stands w number item at)
    ∙ ap (flows_from (Some (point_in w number item))) is

-- what holds of the items behind a block
abbrev pub HoldsBehind : Writing → ℕ → Option Frame → List WItem → Type 0
HoldsBehind w end last rest = (number : ℕ) → number ≡ end → comes w number ≡ last → HoldFrom w number rest

-- items inside of a block, behind its first
pub hold_inside : (w : Writing) (front behind : List Finished) (one : Finished) (end number : ℕ) (left right rest : List WItem)
    (frame : Frame) (last : Option Frame)
    → Inside w front behind one number left right
    → 0 < length left
    → end ≡ length (written_items w.form front) + length (block_items w.form one)
    → comes w number ≡ Some frame
    → Carries w number right frame last
    → HoldsBehind w end last rest
    → HoldFrom w number (right ++ rest)
hold_inside w front behind one end number left [] rest frame last inside some end_is flow (carries_none other others) more =
    let long = ap length inside.items ∙ length-append left [] in
    let before = inside.number_is in
    more number (omega (arith, long, before, end_is)) flow
hold_inside w front behind one end number left (item ∷ right) rest frame last inside some end_is flow
    (carries_on other item_too others frame_too next last_too holds flows carried) more =
    let none = not_stated w front behind one number left right item inside some in
    let stated : frame_of_item w.s.flat w.form w.blocks number ≡ None =
    ap (λ found. option_map (λ one. frame_by_item w.form w.blocks (written_frame w.s.flat one.block)) found) none in
    let nothing : stated_in w number (comes w number) ≡ None = rw (stated) refl in
    let is_frame : had_in w number (comes w number) ≡ Some frame = rw (nothing) flow in (
      record {
        frame = frame;
        is_frame = is_frame;
        reaches = subst (λ (from : Option Frame). ReachesFrame w from frame (stated_in w number (comes w number))) (sym flow)
            (subst (Reaches (scope_in w) frame frame) (sym nothing) refl);
        holds = holds;
      },
      hold_inside w front behind one end (suc number) (left ++ (item ∷ [])) right rest next last
          (next_inside w front behind one number left right item inside)
          (let long = length-append left (item ∷ []) in omega (arith, long)) end_is
          (flows_next w number item frame (stands_inside w front behind one number left right item inside) is_frame ∙ flows) carried more,
    )
hold_inside w front behind one end number left (item ∷ []) rest frame last inside some end_is flow
    (carries_away other item_too frame_too holds flows) more =
    let none = not_stated w front behind one number left [] item inside some in
    let stated : frame_of_item w.s.flat w.form w.blocks number ≡ None =
    ap (λ found. option_map (λ one. frame_by_item w.form w.blocks (written_frame w.s.flat one.block)) found) none in
    let nothing : stated_in w number (comes w number) ≡ None = rw (stated) refl in
    let is_frame : had_in w number (comes w number) ≡ Some frame = rw (nothing) flow in
    let long = ap length inside.items ∙ length-append left (item ∷ []) in
    let before = inside.number_is in (
      record {
        frame = frame;
        is_frame = is_frame;
        reaches = subst (λ (from : Option Frame). ReachesFrame w from frame (stated_in w number (comes w number))) (sym flow)
            (subst (Reaches (scope_in w) frame frame) (sym nothing) refl);
        holds = holds;
      },
      more (suc number) (omega (arith, long, before, end_is))
          (flows_next w number item frame (stands_inside w front behind one number left [] item inside) is_frame ∙ flows),
    )

-- the items of a block with items
pub hold_block : (w : Writing) (front behind : List Finished) (one : Finished) (end number : ℕ) (items rest : List WItem) (last : Option Frame)
    (begins : BeginsWith w number one (comes w number))
    → Inside w front behind one number [] items
    → is_empty items ≡ false
    → end ≡ length (written_items w.form front) + length (block_items w.form one)
    → Carries w number items begins.frame last
    → HoldsBehind w end last rest
    → HoldFrom w number (items ++ rest)
hold_block w front behind one end number [] rest last begins inside some end_is carried more = absurd (true≢false some)
hold_block w front behind one end number (item ∷ right) rest last begins inside some end_is
    (carries_on other item_too others frame_too next last_too holds flows carried) more = (
      record { frame = begins.frame; is_frame = begins.is_frame; reaches = begins.reaches; holds = holds },
      hold_inside w front behind one end (suc number) (item ∷ []) right rest next last
          (next_inside w front behind one number [] right item inside) (omega arith) end_is
          (flows_next w number item begins.frame (stands_inside w front behind one number [] right item inside) begins.is_frame ∙ flows) carried more,
    )
hold_block w front behind one end number (item ∷ []) rest last begins inside some end_is
    (carries_away other item_too frame_too holds flows) more =
    let long = ap length inside.items in
    let before = inside.number_is in (
      record { frame = begins.frame; is_frame = begins.is_frame; reaches = begins.reaches; holds = holds },
      more (suc number) (omega (arith, long, before, end_is))
          (flows_next w number item begins.frame (stands_inside w front behind one number [] [] item inside) begins.is_frame ∙ flows),
    )

-- ---- all blocks

arrives_next : (w : Writing) (flow : Option Frame) (one : Finished) (behind : List Finished)
    → GoesOn w one behind
    → GoesBehind w flow (one ∷ behind)
    → GoesBehind w flow behind
arrives_next w None one behind goes arrives = tt
arrives_next w (Some flow) one behind goes (inl fits) =
    subst (GoesBehind w (Some flow)) (sym goes.is) (inl (fits_next w flow one behind goes fits))
arrives_next w (Some flow) one behind goes (inr more) = more.1

arrives_at_one : (w : Writing) (flow : Option Frame) (one : Finished) (behind : List Finished)
    → is_empty (block_items w.form one) ≡ false
    → GoesBehind w flow (one ∷ behind)
    → Arrives w flow one
arrives_at_one w None one behind some arrives = tt
arrives_at_one w (Some flow) one behind some (inl fits) = fits
arrives_at_one w (Some flow) one behind some (inr more) = absurd (false≢true (sym some ∙ more.0))

nothing_comes : (w : Writing) (flow : Option Frame) → GoesBehind w flow [] → flow ≡ None
nothing_comes w None arrives = refl
nothing_comes w (Some flow) arrives = absurd arrives

pub block_starts : (w : Writing) (front behind : List Finished) (one : Finished)
    → w.blocks ≡ front ++ (one ∷ behind)
    → is_empty (block_items w.form one) ≡ false
    → frame_of_item w.s.flat w.form w.blocks (length (written_items w.form front)) ≡ Some (frame_in w one)
block_starts w front behind one is some =
    ap (λ found. option_map (λ one. frame_by_item w.form w.blocks (written_frame w.s.flat one.block)) found)
    (ap (block_from w.form (length (written_items w.form front)) 0) is
    ∙ ap (λ (n : ℕ). block_from w.form n 0 (front ++ (one ∷ behind)))
    (is_number (length (written_items w.form front)) (0 + length (written_items w.form front)) (omega arith))
    ∙ block_at w.form 0 front behind one some)
  where
    is_number : (a b : ℕ) → a ≡ b → a ≡ b
    is_number a b is = is

pub hold_all : (w : Writing) (all : AllCarry w) (behind front : List Finished)
    → w.blocks ≡ front ++ behind
    → GoesBehind w (comes w (length (written_items w.form front))) behind
    → HoldFrom w (length (written_items w.form front)) (written_items w.form behind)
hold_all w all [] front is arrives = nothing_comes w _ arrives
hold_all w all (one ∷ behind) front is arrives =
    by (is_empty (block_items w.form one)) refl (hold_all w all behind (front ++ (one ∷ [])) (is ∙ sym (append_assoc front (one ∷ []) behind)))
  where
    long : length (written_items w.form (front ++ (one ∷ []))) ≡ length (written_items w.form front) + length (block_items w.form one)
    long =
        let apart = ap length (written_apart w.form front (one ∷ []))
        ∙ length-append (written_items w.form front) (written_items w.form (one ∷ [])) in
        let alone = length-append (block_items w.form one) [] in
        omega (arith, apart, alone)

    by : (b : Bool) → is_empty (block_items w.form one) ≡ b
        → (GoesBehind w (comes w (length (written_items w.form (front ++ (one ∷ []))))) behind
        → HoldFrom w (length (written_items w.form (front ++ (one ∷ [])))) (written_items w.form behind))
        → HoldFrom w (length (written_items w.form front)) (written_items w.form (one ∷ behind))
    by true none rest =
        let items = no_items_of (block_items w.form one) none in
        let count = ap length items in
        let same : length (written_items w.form (front ++ (one ∷ []))) ≡ length (written_items w.form front) = omega (arith, long, count) in
        subst (HoldFrom w (length (written_items w.form front))) (ap (λ (xs : List WItem). xs ++ written_items w.form behind) (sym items))
        (subst (λ (n : ℕ). HoldFrom w n (written_items w.form behind)) same
        (rest (subst (λ (n : ℕ). GoesBehind w (comes w n) behind) (sym same)
        (arrives_next w _ one behind (all.empties front behind one is none) arrives))))
      where
        no_items_of : (items : List WItem) → is_empty items ≡ true → items ≡ []
        no_items_of [] e = refl
        no_items_of (first ∷ items) e = absurd (false≢true e)
    by false some rest =
        let number = length (written_items w.form front) in
        let begins = begins_with w number one (comes w number) (is_led_to (items_in w) number) refl (block_starts w front behind one is some)
        (all.no_this front behind one is) (arrives_at_one w _ one behind some arrives) in
        let carried = all.carries front behind one begins.frame is begins.agrees (all.fresh front behind one begins.frame is begins.is_frame) in
        hold_block w front behind one (length (written_items w.form (front ++ (one ∷ [])))) number (block_items w.form one)
        (written_items w.form behind) carried.last begins
        (record { is = is; items = refl; number_is = omega arith }) some long carried.carries
        (λ next same flow. subst (λ (n : ℕ). HoldFrom w n (written_items w.form behind)) (sym same)
        (rest (subst (λ (from : Option Frame). GoesBehind w from behind)
        (sym (sym (ap (comes w) same) ∙ flow)) carried.goes)))

-- all items of the code
pub all_hold : (w : Writing) → AllCarry w → HoldFrom w 0 (written_items w.form w.blocks)
all_hold w all =
    hold_all w all w.blocks [] refl (subst (GoesBehind w (Some (entry_in w))) (sym all.begins.is) (inl all.begins.fits))

-- Which block begins with an item, and where the first block of a point stands.
use Rattle.std.proofs.Common.{◌≡◌, ◌⊎◌, ◌==◌, ◌+◌, ◌<◌, ◌≤◌, ℕ, zero, suc, Bool, true, false, List, [], ◌∷◌, drop, length, slice_get, take, Option, Some, None, option_map, if◌then◌else◌, refl, sym, ap, subst, ◌∙◌, inl, inr, arith}
use Rattle.std.specs.List.{AllByRecursion}
use Rattle.std.proofs.lemmas.Bool.{eqb-true, false≢true}
use Rattle.std.proofs.lemmas.List.{length-append}
use Rattle.std.proofs.lemmas.Option.{none-some, same_Some}
use Rattle.class_model.specs.declared.frame.Frame.{Frame}
use Rattle.making_code.specs.Items.{WItem}
use Rattle.plan_flow.specs.Laws.WrittenBlocks.{IsFirstOf, block_finished, blocks_left, first_begins, first_block, first_item, first_of, next_starts, split_at, starts_at}
use Rattle.plan_flow.specs.Laws.WrittenPads.{none_finished}
use Rattle.plan_flow.specs.Written.Blocks.{Block, BlockOf, before_point, blocks_of, handler_pad, jump_pad, of_point, on_next_edge}
use Rattle.plan_flow.specs.Written.Finish.{Finished, begins_point, end_of, finish, is_empty}
use Rattle.plan_flow.specs.Written.FramedCode.{block_from, frame_by_item, frame_of_item}
use Rattle.plan_flow.specs.Written.Routes.{Route}
use Rattle.plan_flow.specs.Written.WrittenCode.{Form, block_items, start_of, written_items}
use Rattle.plan_flow.specs.Written.WrittenFrames.{written_frame}
use Rattle.written_types.proofs.BlockOrder.{is_pad, rank, three}
use Rattle.written_types.proofs.CarriedBlocks.{block_starts}
use Rattle.written_types.proofs.Given.{Given}
use Rattle.written_types.proofs.NewItems.{below, compare}
use Rattle.written_types.specs.FitsTypes.{FitsTypes, is_reached}
use Rattle.written_types.specs.Inner.CarriedFrames.{frame_in}
use Rattle.written_types.specs.Writing.{Writing}

-- ---- items of blocks

pub no_items : (items : List WItem) → is_empty items ≡ true → length items ≡ 0
no_items [] e = refl
no_items (first ∷ items) e = absurd (false≢true e)

pub some_items : (items : List WItem) → is_empty items ≡ false → 0 < length items
some_items [] e = absurd (false≢true (sym e))
some_items (first ∷ items) e = omega arith

-- the block that begins with an item
pub record BeginsWith (form : Form) (blocks : List Finished) (number : ℕ) (one : Finished) : Type 0 where
  pub index : ℕ
  pub is : slice_get blocks index ≡ Some one
  pub some : is_empty (block_items form one) ≡ false
  pub starts : number ≡ first_item form blocks index

found_from : (form : Form) (wanted from : ℕ) (blocks : List Finished) (one : Finished) → block_from form wanted from blocks ≡ Some one
    → (index : ℕ) × (slice_get blocks index ≡ Some one) × (is_empty (block_items form one) ≡ false) × (wanted ≡ from + first_item form blocks index)
found_from form wanted from [] one is = absurd (none-some one is)
found_from form wanted from (first ∷ others) one is =
    by (is_empty (block_items form first)) refl is (found_from form wanted from others one)
    (found_from form wanted (from + length (block_items form first)) others one) where
      Found : ℕ → List Finished → Type 0
      Found start blocks =
          (index : ℕ) × (slice_get blocks index ≡ Some one) × (is_empty (block_items form one) ≡ false) × (wanted ≡ start + first_item form blocks index)

      tested : (same : Bool) → (from == wanted) ≡ same → is_empty (block_items form first) ≡ false
          → (if same then Some first else block_from form wanted (from + length (block_items form first)) others) ≡ Some one
          → (block_from form wanted (from + length (block_items form first)) others ≡ Some one
          → (index : ℕ) × (slice_get others index ≡ Some one) × (is_empty (block_items form one) ≡ false)
          × (wanted ≡ (from + length (block_items form first)) + first_item form others index))
          → (index : ℕ) × (slice_get (first ∷ others) index ≡ Some one) × (is_empty (block_items form one) ≡ false)
          × (wanted ≡ from + first_item form (first ∷ others) index)
      tested true same some found rest =
          let one_is = same_Some first one found in (
            0,
            ap (λ (f : Finished). Some f) one_is,
            ap (λ (f : Finished). is_empty (block_items form f)) (sym one_is) ∙ some,
            sym (eqb-true from wanted same) ∙ (let e : from ≡ from + 0 = omega arith in e),
          )
      tested false other some found rest =
          let more = rest found in
          let head = length-append (block_items form first) (written_items form (take more.0 others)) in
          let place = more.3 in
          (suc more.0, more.1, more.2, omega (arith, head, place))

      by : (empty : Bool) → is_empty (block_items form first) ≡ empty
          → (if empty then block_from form wanted from others
          else if from == wanted then Some first else block_from form wanted (from + length (block_items form first)) others) ≡ Some one
          → (block_from form wanted from others ≡ Some one
          → (index : ℕ) × (slice_get others index ≡ Some one) × (is_empty (block_items form one) ≡ false)
          × (wanted ≡ from + first_item form others index))
          → (block_from form wanted (from + length (block_items form first)) others ≡ Some one
          → (index : ℕ) × (slice_get others index ≡ Some one) × (is_empty (block_items form one) ≡ false)
          × (wanted ≡ (from + length (block_items form first)) + first_item form others index))
          → (index : ℕ) × (slice_get (first ∷ others) index ≡ Some one) × (is_empty (block_items form one) ≡ false)
          × (wanted ≡ from + first_item form (first ∷ others) index)
      by true empty found same_start later =
          let more = same_start found in
          let head = length-append (block_items form first) (written_items form (take more.0 others)) in
          let place = more.3 in
          let none = no_items (block_items form first) empty in
          (suc more.0, more.1, more.2, omega (arith, head, place, none))
      by false some found same_start later = tested (from == wanted) refl some found later

-- what has a frame by its item is such a block, and has its frame
pub record HasBlock (w : Writing) (number : ℕ) (frame : Frame) : Type 0 where
  pub one : Finished
  pub begins : BeginsWith w.form w.blocks number one
  pub is_frame : frame ≡ frame_in w one

pub has_block : (w : Writing) (number : ℕ) (frame : Frame) → frame_of_item w.s.flat w.form w.blocks number ≡ Some frame → HasBlock w number frame
has_block w number frame is = by (block_from w.form number 0 w.blocks) refl is where
  by : (found : Option Finished) → block_from w.form number 0 w.blocks ≡ found
      → option_map (λ one. frame_by_item w.form w.blocks (written_frame w.s.flat one.block)) found ≡ Some frame
      → HasBlock w number frame
  by None none there = absurd (none-some frame there)
  by (Some one) some there =
      let found = found_from w.form number 0 w.blocks one some in
      record {
        one = one;
        begins = record {
          index = found.0;
          is = found.1;
          some = found.2;
          starts = let place = found.3 in omega (arith, place);
        };
        is_frame = sym (same_Some _ frame there);
      }

-- ---- blocks that begin with the same item

lower_there : {A : Type 0} (items : List A) (number later : ℕ) (one : A) → slice_get items later ≡ Some one → number ≤ later
    → (other : A) × (slice_get items number ≡ Some other)
lower_there [] number later one is less = absurd (none-some one is)
lower_there (first ∷ items) zero later one is less = (first, refl)
lower_there (first ∷ items) (suc number) zero one is less = absurd (omega (arith, less))
lower_there (first ∷ items) (suc number) (suc later) one is less = lower_there items number later one is (omega (arith, less))

-- from a block on, up to one with items, there is a first one with items, which begins with the same item
pub first_with_items : (form : Form) (blocks : List Finished) (count number later : ℕ) (one : Finished) → later ≡ number + count
    → slice_get blocks later ≡ Some one
    → is_empty (block_items form one) ≡ false
    → (other : Finished) × BeginsWith form blocks (first_item form blocks number) other
first_with_items form blocks zero number later one far is some =
    let same : later ≡ number = omega (arith, far) in (
      one,
      record { index = later; is = is; some = some; starts = ap (first_item form blocks) (sym same) },
    )
first_with_items form blocks (suc count) number later one far is some =
    let here = lower_there blocks number later one is (omega (arith, far)) in
    by here.0 here.1 (is_empty (block_items form here.0)) refl
    (first_with_items form blocks count (suc number) later one (omega (arith, far)) is some) where
      by : (block : Finished) → slice_get blocks number ≡ Some block → (empty : Bool) → is_empty (block_items form block) ≡ empty
          → (other : Finished) × BeginsWith form blocks (first_item form blocks (suc number)) other
          → (other : Finished) × BeginsWith form blocks (first_item form blocks number) other
      by block there false has rest = (block, record { index = number; is = there; some = has; starts = refl })
      by block there true none rest =
          let next = next_starts form blocks number block there in
          let count = no_items (block_items form block) none in
          let same : first_item form blocks (suc number) ≡ first_item form blocks number = omega (arith, next, count) in
          (rest.0, subst (λ (n : ℕ). BeginsWith form blocks n rest.0) same rest.1)

-- such a block's frame is found by its item
pub frame_found : (w : Writing) (number : ℕ) (one : Finished) → BeginsWith w.form w.blocks number one
    → frame_of_item w.s.flat w.form w.blocks number ≡ Some (frame_in w one)
frame_found w number one b =
    ap (frame_of_item w.s.flat w.form w.blocks) b.starts
    ∙ block_starts w (take b.index w.blocks) (drop (suc b.index) w.blocks) one (split_at w.blocks b.index one b.is) b.some

-- later blocks do not begin before
pub not_before : (form : Form) (blocks : List Finished) (number later : ℕ) (one : Finished) → slice_get blocks number ≡ Some one → number ≤ later
    → first_item form blocks number ≤ first_item form blocks later
not_before form blocks number later one is less = by (compare number later) where
  by : (number ≡ later) ⊎ ((number < later) ⊎ (later < number)) → first_item form blocks number ≤ first_item form blocks later
  by (inl same) = let e = ap (first_item form blocks) same in omega (arith, e)
  by (inr (inl lower)) = let more = below form blocks number later one is lower in omega (arith, more)
  by (inr (inr higher)) = absurd (omega (arith, less, higher))

-- ---- the first block of a point

-- its rank
pub record BeginsAtRank (to : ℕ) (of : BlockOf) : Type 0 where
  pub no_pad : is_pad of ≡ false
  pub from : three to ≤ rank of
  pub until : rank of ≤ suc (three to)

pub begins_at_rank : (to : ℕ) (of : BlockOf) → begins_point to of ≡ true → BeginsAtRank to of
begins_at_rank to (before_point at) is =
    let same : three at ≡ three to = ap three (eqb-true at to is) in
    record { no_pad = refl; from = omega (arith, same); until = omega (arith, same) }
begins_at_rank to (of_point at) is =
    let same : three at ≡ three to = ap three (eqb-true at to is) in
    record { no_pad = refl; from = omega (arith, same); until = omega (arith, same) }
begins_at_rank to (on_next_edge at) is = absurd (false≢true is)
begins_at_rank to (jump_pad at number) is = absurd (false≢true is)
begins_at_rank to (handler_pad at number) is = absurd (false≢true is)

pub record FirstAt (w : Writing) (to : ℕ) : Type 0 where
  pub index : ℕ
  pub one : Finished
  pub is : slice_get w.blocks index ≡ Some one
  pub begins : begins_point to one.block.of ≡ true
  pub starts : start_of w.form w.blocks (begins_point to) ≡ first_item w.form w.blocks index

pub first_at_point : (w : Writing) (given : Given w) (to : ℕ) (route : Route) → slice_get given.setting.routes to ≡ Some (Some route) → FirstAt w to
first_at_point w given to route is_route = record {
  index = number;
  one = one;
  is = found;
  begins = first_begins w.s to fits.point route route.made;
  starts =
      starts_at w.form (begins_point to) w.blocks 0 number one found (first_begins w.s to fits.point route route.made)
      (subst (λ (all : List Finished). AllByRecursion (λ (other : Finished). begins_point to other.block.of ≡ false) (take number all))
      (sym given.setting.blocks) (none_finished w.s.flat (begins_point to) blocks number first.none_before))
      ∙ (let same : 0 + first_item w.form w.blocks number ≡ first_item w.form w.blocks number = omega arith in same);
} where
  fits : FitsTypes w.s (is_reached given.setting.routes) to route.state
  fits = given.fits.before to route is_route

  blocks : List Block
  blocks = blocks_of w.s given.setting.routes

  number : ℕ
  number = length (blocks_left w.s given.setting.routes to)

  first : IsFirstOf w.s given.setting.routes to fits.point route number
  first = first_of w.s given.setting.routes to fits.point route fits.there is_route

  block : Block
  block = first_block w.s to fits.point route route.made

  one : Finished
  one = record { block = block; end = end_of w.s.flat block (finish w.s.flat (drop (suc number) blocks)) }

  found : slice_get w.blocks number ≡ Some one
  found = ap (λ (all : List Finished). slice_get all number) given.setting.blocks ∙ block_finished w.s.flat blocks number block first.is_there

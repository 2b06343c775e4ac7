-- News that are written as they are: they stand at items apart, which make objects of the same classes.
use Rattle.std.proofs.Common.{◌≡◌, ◌⊎◌, ◌+◌, ◌<◌, ◌++◌, ℕ, zero, suc, List, [], ◌∷◌, drop, length, slice_get, take, Option, Some, None, IsTrue, is_some, refl, sym, ap, subst, ◌∙◌, inl, inr, arith}
use Rattle.std.specs.Option.{option_flatten}
use Rattle.std.proofs.lemmas.Bool.{eq-eqb, false≢true, true≢false}
use Rattle.std.proofs.lemmas.Option.{same_Some}
use Rattle.class_model.specs.PoolChecks.{class_at}
use Rattle.class_model.specs.declared.instr.Instr.{Instr}
use Rattle.class_model.specs.declared.instr.Instr.TheVariants.{New}
use Rattle.class_tree.specs.Headers.{Name}
use Rattle.flow_code.specs.FlatCode.{point_at}
use Rattle.flow_code.specs.declared.point.FlatInstr.TheVariants.{Of}
use Rattle.flow_code.specs.declared.point.Point.{Point}
use Rattle.making_code.specs.IndexedItems.{IndexedItem}
use Rattle.making_code.specs.Items.{WItem, carried}
use Rattle.member_link.specs.Machine.Replaced.{map_numbered}
use Rattle.plan_flow.specs.Laws.WrittenBlocks.{first_item, split_at}
use Rattle.plan_flow.specs.Written.Blocks.{Block, of_point}
use Rattle.plan_flow.specs.Written.Finish.{Finished, end_items}
use Rattle.plan_flow.specs.Written.Routes.{Route, Routes}
use Rattle.plan_flow.specs.Written.WrittenCode.{Form, block_items, short, written_items}
use Rattle.plan_flow.specs.Written.WrittenConstants.{indexed_item}
use Rattle.same_runs.specs.Flats.{class_of_flat_new, pool_of as flat_pool}
use Rattle.same_runs.specs.ReadyCode.{IsReadyInstr, IsReadyItem}
use Rattle.written_types.proofs.ChangedTypes.{IsOwnNew, NewsStand, new_item}
use Rattle.written_types.proofs.Given.{Given}
use Rattle.written_types.proofs.IndexedPoints.{Indexed, indexed}
use Rattle.written_types.proofs.ItemPlaces.{numbered_behind, written_apart}
use Rattle.written_types.proofs.NewItems.{NewBlock, OwnBlock, below, compare, new_block, new_of}
use Rattle.written_types.proofs.Standing.{all_at}
use Rattle.written_types.proofs.WrittenPool.{PoolLaws}
use Rattle.written_types.specs.FitsTypes.{is_reached}
use Rattle.written_types.specs.StatedFrames.{IsNewItem}
use Rattle.written_types.specs.Writing.{Writing, items_in, scope_in}

-- ---- where an item stands

-- the items of a form before one and behind it
pub record ItemIn (w : Writing) (form : Form) (one : WItem) (number : ℕ) : Type 0 where
  pub left : List WItem
  pub right : List WItem
  pub is : written_items form w.blocks ≡ left ++ (one ∷ right)
  pub number_is : number ≡ length left

pub first_of_block : (w : Writing) (form : Form) (number : ℕ) (block : Finished) (one : WItem) (more : List WItem)
    → slice_get w.blocks number ≡ Some block
    → block_items form block ≡ one ∷ more
    → ItemIn w form one (first_item form w.blocks number)
first_of_block w form number block one more is items = record {
  left = written_items form (take number w.blocks);
  right = more ++ written_items form (drop (suc number) w.blocks);
  is =
      ap (written_items form) (split_at w.blocks number block is)
      ∙ written_apart form (take number w.blocks) (block ∷ drop (suc number) w.blocks)
      ∙ ap (λ (first : List WItem). written_items form (take number w.blocks) ++ (first ++ written_items form (drop (suc number) w.blocks))) items;
  number_is = refl;
}

module _ (w : Writing) (given : Given w) (laws : PoolLaws) where
  abbrev routes : Routes
  routes = given.setting.routes

  -- ---- ready instructions

  pub ready_at : (at : ℕ) (point : Point) (class : ℕ) (instr : Instr) → point_at w.s.flat at ≡ Some point → point.instr ≡ Of class instr
      → IsReadyInstr w.s.classes w.s.flat.locals class instr
  ready_at at point class instr there is =
      subst (IsReadyItem w.s.classes w.s.flat.locals) is
      (all_at (λ (p : Point). IsReadyItem w.s.classes w.s.flat.locals p.instr) w.s.flat.points at point given.setting.ready.points there)

  -- the index that an instruction has, which is the first item of its block in the short form
  pub indexed_at : (at : ℕ) (point : Point) (route : Route) (class : ℕ) (instr : Instr) (own : OwnBlock w at point route) (one : WItem)
      → point_at w.s.flat at ≡ Some point
      → point.instr ≡ Of class instr
      → own.one.block.items ≡ one ∷ []
      → one.instr ≡ carried class instr
      → Indexed w class instr
  indexed_at at point route class instr own one there is items of_item =
      indexed w given laws stands.left stands.right one class instr stands.is of_item (ready_at at point class instr there is)
      (λ other. given.setting.carried at point class instr there is (λ same. true≢false (sym (eq-eqb class w.s.flat.host.class same) ∙ other))) where
        stands : ItemIn w short one (first_item short w.blocks own.number)
        stands =
            first_of_block w short own.number own.one one (end_items own.one.end) own.is
            (ap (λ (xs : List WItem). xs ++ end_items own.one.end) items)

  -- ---- news

  route_of : (at : ℕ) → IsTrue (is_reached routes at) → (route : Route) × (slice_get routes at ≡ Some (Some route))
  route_of at reached = by (slice_get routes at) refl reached where
    by : (found : Option (Option Route)) → slice_get routes at ≡ found → IsTrue (is_some (option_flatten found))
        → (route : Route) × (slice_get routes at ≡ Some (Some route))
    by None none told = absurd (false≢true told)
    by (Some None) none told = absurd (false≢true told)
    by (Some (Some route)) some told = (route, some)

  record OwnOf (at : ℕ) (own : IsOwnNew w.s (is_reached routes) at) : Type 0 where
    route : Route
    block : NewBlock w at own.new.point route own.new.class own.new.index

  own_of : (at : ℕ) (own : IsOwnNew w.s (is_reached routes) at) → OwnOf at own
  own_of at own =
      let route = route_of at own.new.is_reached in
      record {
        route = route.0;
        block = new_block w given at own.new.point route.0 own.new.class own.new.index own.new.there route.1 own.new.is_new own.no_site;
      }

  some_items : (items : List WItem) (one : WItem) (more : List WItem) → items ≡ one ∷ more → 0 < length items
  some_items items one more is = let long = ap length is in omega (arith, long)

  same_point : (one other : ℕ) → of_point one ≡ of_point other → one ≡ other
  same_point one other is = cc

  apart : (one other : ℕ) → IsOwnNew w.s (is_reached routes) one → IsOwnNew w.s (is_reached routes) other → new_item w one ≡ new_item w other
      → one ≡ other
  apart one other own also same = by (compare first.block.own.number second.block.own.number) where
    first : OwnOf one own
    first = own_of one own

    second : OwnOf other also
    second = own_of other also

    starts : first_item w.form w.blocks first.block.own.number ≡ first_item w.form w.blocks second.block.own.number
    starts = sym first.block.own.starts ∙ same ∙ second.block.own.starts

    by : (first.block.own.number ≡ second.block.own.number)
        ⊎ ((first.block.own.number < second.block.own.number) ⊎ (second.block.own.number < first.block.own.number))
        → one ≡ other
    by (inl equal) =
        let block : first.block.own.one ≡ second.block.own.one =
        same_Some first.block.own.one second.block.own.one (sym first.block.own.is ∙ ap (slice_get w.blocks) equal ∙ second.block.own.is) in
        same_point one other
        (sym (ap (λ (b : Block). b.of) first.block.own.is_block)
        ∙ ap (λ (f : Finished). f.block.of) block
        ∙ ap (λ (b : Block). b.of) second.block.own.is_block)
    by (inr (inl less)) =
        let behind = below w.form w.blocks first.block.own.number second.block.own.number first.block.own.one first.block.own.is less in
        let some = some_items (block_items w.form first.block.own.one) _ _ first.block.items in
        absurd (omega (arith, starts, behind, some))
    by (inr (inr more)) =
        let behind = below w.form w.blocks second.block.own.number first.block.own.number second.block.own.one second.block.own.is more in
        let some = some_items (block_items w.form second.block.own.one) _ _ second.block.items in
        absurd (omega (arith, starts, behind, some))

  -- the item at which one stands
  record NewThere (at : ℕ) (own : IsOwnNew w.s (is_reached routes) at) : Type 0 where
    item : IndexedItem
    there : slice_get (items_in w) (new_item w at) ≡ Some item
    index : Indexed w own.new.class (New own.new.index)
    is_new : item.instr ≡ New index.new

  new_placed : (at : ℕ) (own : IsOwnNew w.s (is_reached routes) at) → NewThere at own
  new_placed at own = record {
    item = indexed_item w.s w.constructor w.pool w.form w.blocks (0 + length stands.left)
        (new_of at own.new.point of.route own.new.class own.new.index);
    there = ap (slice_get (items_in w)) of.block.own.starts ∙ item_there;
    index = index;
    is_new = rw index.is refl;
  } where
    of : OwnOf at own
    of = own_of at own

    index : Indexed w own.new.class (New own.new.index)
    index =
        indexed_at at own.new.point of.route own.new.class (New own.new.index) of.block.own (new_of at own.new.point of.route own.new.class own.new.index)
        own.new.there own.new.is_new of.block.short_items refl

    stands : ItemIn w w.form (new_of at own.new.point of.route own.new.class own.new.index) (first_item w.form w.blocks of.block.own.number)
    stands =
        first_of_block w w.form of.block.own.number of.block.own.one (new_of at own.new.point of.route own.new.class own.new.index) of.block.more
        of.block.own.is of.block.items

    item_there : slice_get (items_in w) (first_item w.form w.blocks of.block.own.number)
        ≡ Some (indexed_item w.s w.constructor w.pool w.form w.blocks (0 + length stands.left)
        (new_of at own.new.point of.route own.new.class own.new.index))
    item_there =
        ap (λ (items : List WItem). slice_get (map_numbered (indexed_item w.s w.constructor w.pool w.form w.blocks) zero items)
        (first_item w.form w.blocks of.block.own.number)) stands.is
        ∙ ap (slice_get (map_numbered (indexed_item w.s w.constructor w.pool w.form w.blocks) zero
        (stands.left ++ (new_of at own.new.point of.route own.new.class own.new.index ∷ stands.right)))) stands.number_is
        ∙ numbered_behind (indexed_item w.s w.constructor w.pool w.form w.blocks) zero stands.left stands.right
        (new_of at own.new.point of.route own.new.class own.new.index)

  -- it is a new
  pub new_there : (at : ℕ) → IsOwnNew w.s (is_reached routes) at → IsNewItem (items_in w) (new_item w at)
  new_there at own =
      let placed = new_placed at own in
      record { item = placed.item; there = placed.there; index = placed.index.new; is_new = placed.is_new }

  classes : (at : ℕ) (name : Name) → IsOwnNew w.s (is_reached routes) at → class_of_flat_new w.s.classes w.s.flat at ≡ Some name
      → (scope_in w).new_class (new_item w at) ≡ Some name
  classes at name own is =
      let placed = new_placed at own in
      let item_there = placed.there in
      let item_new = placed.is_new in
      rw (item_there, item_new) (placed.index.meant.class name named) where
        named : class_at (flat_pool w.s.classes own.new.class) own.new.index ≡ Some name
        named =
            let there = own.new.there in
            let is_new = own.new.is_new in
            rw (there, is_new) at is

  pub news_stand : NewsStand w (is_reached routes)
  news_stand = record { apart = apart; classes = classes }

-- Where a frame is stated from which control only falls on to a new, its typed point has no object of the new.
use Rattle.std.proofs.Common.{◌≡◌, ◌⊎◌, ◌-◌, ◌<◌, ◌≤◌, ℕ, zero, suc, Bool, true, false, List, [], ◌∷◌, length, map, slice_get, Option, Some, None, IsTrue, is_some, refl, sym, ap, subst, ◌∙◌, inl, inr, arith}
use Rattle.std.specs.List.{AllByRecursion}
use Rattle.std.specs.Option.{option_flatten}
use Rattle.std.proofs.lemmas.Bool.{false≢true}
use Rattle.std.proofs.lemmas.Option.{none-some, same_Some}
use Rattle.flow_code.specs.ReadTypes.{read_type}
use Rattle.flow_code.specs.declared.point.Point.{Point}
use Rattle.plan_flow.specs.Laws.RoutedPlans.{route_at}
use Rattle.plan_flow.specs.Laws.WrittenBlocks.{first_item}
use Rattle.plan_flow.specs.Plans.{AllLead, MadeEdge, Plan, PlannedPoint, planned}
use Rattle.plan_flow.specs.Written.Blocks.{Block, BlockOf, of_point}
use Rattle.plan_flow.specs.Written.Finish.{Finished, begins_point, is_empty}
use Rattle.plan_flow.specs.Written.FramedCode.{is_led_to}
use Rattle.plan_flow.specs.Written.Routes.{Route}
use Rattle.plan_flow.specs.Written.WrittenCode.{block_items, start_of}
use Rattle.plan_flow.specs.declared.edge.Edge.{Edge}
use Rattle.written_types.proofs.BlockOrder.{Ahead, AheadBy, in_order, is_pad, rank, three}
use Rattle.written_types.proofs.BlockPlaces.{BeginsAtRank, BeginsWith, FirstAt, begins_at_rank, first_at_point, first_with_items, frame_found, not_before, some_items}
use Rattle.written_types.proofs.ChangedTypes.{IsOwnNew, new_item}
use Rattle.written_types.proofs.EdgesWritten.{EdgeWritten, EdgesWritten, goes_next, is_led, over_empties}
use Rattle.written_types.proofs.FirstWays.{ComesOver, FirstWay, leads_over, way_has_none}
use Rattle.written_types.proofs.FreshItems.{AllQuiet}
use Rattle.written_types.proofs.Given.{Given}
use Rattle.written_types.proofs.LowBlocks.{LowBlock}
use Rattle.written_types.proofs.NewItems.{NewBlock, below, compare, new_block}
use Rattle.written_types.proofs.OtherRows.{Other}
use Rattle.written_types.proofs.RouteEdges.{planned_route}
use Rattle.written_types.specs.FitsTypes.{is_reached}
use Rattle.written_types.specs.Inner.CarriedFrames.{frame_in}
use Rattle.written_types.specs.Writing.{Writing, items_in}

-- ---- edges of plans

leads_at : (plan : Plan) (effect : List Edge) (made : List MadeEdge) (number : ℕ) (edge : MadeEdge) → AllLead plan effect made
    → slice_get made number ≡ Some edge
    → (target : PlannedPoint) × (planned plan edge.to ≡ Some target)
leads_at plan [] [] number edge lead is = absurd (none-some edge is)
leads_at plan [] (first ∷ made) number edge lead is = absurd lead
leads_at plan (one ∷ effect) [] number edge lead is = absurd lead
leads_at plan (one ∷ effect) (first ∷ made) zero edge lead is = (
  lead.0.target,
  ap (planned plan) (ap (λ (e : MadeEdge). e.to) (sym (same_Some first edge is)) ∙ lead.0.same_to) ∙ lead.0.reached,
)
leads_at plan (one ∷ effect) (first ∷ made) (suc number) edge lead is = leads_at plan effect made number edge lead.1 is

-- ---- the block and the new

module _ (w : Writing) (given : Given w) (edges : EdgesWritten w given) where
  abbrev plan : Plan
  plan = given.setting.plan

  abbrev reached : ℕ → Bool
  reached = is_reached given.setting.routes

  route_of : (at : ℕ) → IsTrue (reached at) → (route : Route) × (slice_get given.setting.routes at ≡ Some (Some route))
  route_of at told = by (slice_get given.setting.routes at) refl told where
    by : (found : Option (Option Route)) → slice_get given.setting.routes at ≡ found → IsTrue (is_some (option_flatten found))
        → (route : Route) × (slice_get given.setting.routes at ≡ Some (Some route))
    by None none told = absurd (false≢true told)
    by (Some None) none told = absurd (false≢true told)
    by (Some (Some route)) some told = (route, some)

  -- of two blocks of points the first one has the lower rank
  ranks : (one other : BlockOf) → is_pad one ≡ false → is_pad other ≡ false → Ahead one other → rank one < rank other
  ranks one other first second ahead =
      subst (λ (pad : Bool). AheadBy false pad (rank one) (rank other)) second
      (subst (λ (pad : Bool). AheadBy pad (is_pad other) (rank one) (rank other)) first ahead)

  same_rank : (index other : ℕ) (one two : Finished) → index ≡ other → slice_get w.blocks index ≡ Some one → slice_get w.blocks other ≡ Some two
      → rank one.block.of ≡ rank two.block.of
  same_rank index other one two same is also =
      ap (λ (f : Finished). rank f.block.of) (same_Some one two (sym is ∙ ap (slice_get w.blocks) same ∙ also))

  -- ---- of the new whose item is the place

  module _ (place number : ℕ) (one : Finished) (b : BeginsWith w.form w.blocks number one) (low : LowBlock w given one) (few : number ≤ place)
      (quiet : AllQuiet w given place number place) (p : ℕ) (new : IsOwnNew w.s reached p) (same : new_item w p ≡ place) where
    route : (route : Route) × (slice_get given.setting.routes p ≡ Some (Some route))
    route = route_of p new.new.is_reached

    block : NewBlock w p new.new.point route.0 new.new.class new.new.index
    block = new_block w given p new.new.point route.0 new.new.class new.new.index new.new.there route.1 new.new.is_new new.no_site

    abbrev own : Finished
    own = block.own.one

    abbrev own_index : ℕ
    own_index = block.own.number

    place_is : place ≡ first_item w.form w.blocks own_index
    place_is = sym same ∙ block.own.starts

    own_some : is_empty (block_items w.form own) ≡ false
    own_some = ap is_empty block.items

    own_of : own.block.of ≡ of_point p
    own_of = ap (λ (x : Block). x.of) block.own.is_block

    own_rank : rank own.block.of ≡ suc (three p)
    own_rank = ap rank own_of

    own_no_pad : is_pad own.block.of ≡ false
    own_no_pad = ap is_pad own_of

    low_some : 0 < length (block_items w.form one)
    low_some = some_items (block_items w.form one) b.some

    -- the block stands before that of the new, or is that
    record LowFacts : Type 0 where
      no_pad_low : is_pad one.block.of ≡ false
      low_rank : rank one.block.of ≤ suc (three p)

    low_facts : LowFacts
    low_facts = by (compare b.index own_index) where
      ahead : (pad : Bool) → is_pad one.block.of ≡ pad → Ahead one.block.of own.block.of → LowFacts
      ahead true is before =
          absurd (subst (λ (second : Bool). AheadBy true second (rank one.block.of) (rank own.block.of)) own_no_pad
          (subst (λ (first : Bool). AheadBy first (is_pad own.block.of) (rank one.block.of) (rank own.block.of)) is before))
      ahead false is before =
          record {
            no_pad_low = is;
            low_rank = let less = ranks one.block.of own.block.of is own_no_pad before in omega (arith, less, own_rank);
          }

      by : (b.index ≡ own_index) ⊎ ((b.index < own_index) ⊎ (own_index < b.index)) → LowFacts
      by (inl equal) =
          let is : one ≡ own = same_Some one own (sym b.is ∙ ap (slice_get w.blocks) equal ∙ block.own.is) in
          record {
            no_pad_low = ap (λ (f : Finished). is_pad f.block.of) is ∙ own_no_pad;
            low_rank = let e = ap (λ (f : Finished). rank f.block.of) is in omega (arith, e, own_rank);
          }
      by (inr (inl less)) = ahead (is_pad one.block.of) refl (in_order w given b.index own_index one own b.is block.own.is less)
      by (inr (inr more)) =
          let behind = below w.form w.blocks own_index b.index own block.own.is more in
          let some = some_items (block_items w.form own) own_some in
          let starts = b.starts in
          absurd (omega (arith, behind, some, starts, few, place_is))

    low_from : three low.at ≤ suc (rank one.block.of)
    low_from = low.from low_facts.no_pad_low

    low_until : rank one.block.of ≤ suc (three low.at)
    low_until = low.until low_facts.no_pad_low

    above : low.at ≤ p
    above = let first = low_from in let last = low_facts.low_rank in omega (arith, first, last)

    -- the first block of a point between stands between
    behind_low : (to index : ℕ) (other : Finished) → slice_get w.blocks index ≡ Some other → begins_point to other.block.of ≡ true → low.at < to
        → b.index < index
    behind_low to index other is begins more = by (compare b.index index) where
      r : BeginsAtRank to other.block.of
      r = begins_at_rank to other.block.of begins

      by : (b.index ≡ index) ⊎ ((b.index < index) ⊎ (index < b.index)) → b.index < index
      by (inl equal) =
          let e = same_rank b.index index one other equal b.is is in
          let first = r.from in
          let last = low_until in
          absurd (omega (arith, e, first, last, more))
      by (inr (inl less)) = less
      by (inr (inr greater)) =
          let before = ranks other.block.of one.block.of r.no_pad low_facts.no_pad_low (in_order w given index b.index other one is b.is greater) in
          let first = r.from in
          let last = low_until in
          absurd (omega (arith, before, first, last, more))

    before_own : (to index : ℕ) (other : Finished) → slice_get w.blocks index ≡ Some other → begins_point to other.block.of ≡ true → to ≤ p
        → index ≤ own_index
    before_own to index other is begins upto = by (compare index own_index) where
      r : BeginsAtRank to other.block.of
      r = begins_at_rank to other.block.of begins

      by : (index ≡ own_index) ⊎ ((index < own_index) ⊎ (own_index < index)) → index ≤ own_index
      by (inl equal) = omega (arith, equal)
      by (inr (inl less)) = omega (arith, less)
      by (inr (inr greater)) =
          let before = ranks own.block.of other.block.of own_no_pad r.no_pad (in_order w given own_index index own other block.own.is is greater) in
          let last = r.until in
          absurd (omega (arith, before, last, upto, own_rank))

    -- nothing leads there
    not_led : (to : ℕ) → FirstAt w to → low.at < to → to ≤ p → is_led_to (items_in w) (start_of w.form w.blocks (begins_point to)) ≡ true → ⊥
    not_led to first more upto led =
        let behind = below w.form w.blocks b.index first.index one b.is (behind_low to first.index first.one first.is first.begins more) in
        let few_index = before_own to first.index first.one first.is first.begins upto in
        let before = not_before w.form w.blocks first.index own_index first.one first.is few_index in
        let some = low_some in
        let starts = b.starts in
        let there = first_with_items w.form w.blocks (own_index - first.index) first.index own_index own (omega (arith, few_index)) block.own.is own_some in
        let none = quiet (first_item w.form w.blocks first.index) (omega (arith, behind, some, starts)) (omega (arith, before, place_is)) (frame_in w there.0)
        (frame_found w (first_item w.form w.blocks first.index) there.0 there.1) in
        false≢true (sym none ∙ ap (is_led_to (items_in w)) (sym first.starts) ∙ led)

    comes_back : (from to : ℕ) → EdgeWritten w from to → FirstAt w to → low.at < to → to ≤ p → low.at ≤ from × (from < to)
    comes_back from to (goes_next is) first more upto = (omega (arith, is, more), omega (arith, is))
    comes_back from to (is_led led) first more upto = absurd (not_led to first more upto led)
    comes_back from to (over_empties index later here other is of also begins less empties) first more upto = (
      by (compare low.at from),
      let until = r.until in omega (arith, onward, until),
    ) where
      r : BeginsAtRank to other.block.of
      r = begins_at_rank to other.block.of begins

      here_no_pad : is_pad here.block.of ≡ false
      here_no_pad = ap is_pad of

      here_rank : rank here.block.of ≡ suc (three from)
      here_rank = ap rank of

      onward : suc (three from) < rank other.block.of
      onward =
          let before = ranks here.block.of other.block.of here_no_pad r.no_pad (in_order w given index later here other is also less) in
          omega (arith, before, here_rank)

      -- the block would stand between
      between : from < low.at → index < b.index
      between lower = at_order (compare index b.index) where
        at_order : (index ≡ b.index) ⊎ ((index < b.index) ⊎ (b.index < index)) → index < b.index
        at_order (inl equal) =
            let e = same_rank index b.index here one equal is b.is in
            let first_rank = low_from in
            absurd (omega (arith, e, first_rank, here_rank, lower))
        at_order (inr (inl fewer)) = fewer
        at_order (inr (inr greater)) =
            let before = ranks one.block.of here.block.of low_facts.no_pad_low here_no_pad (in_order w given b.index index one here b.is is greater) in
            let first_rank = low_from in
            absurd (omega (arith, before, first_rank, here_rank, lower))

      by : (low.at ≡ from) ⊎ ((low.at < from) ⊎ (from < low.at)) → low.at ≤ from
      by (inl equal) = omega (arith, equal)
      by (inr (inl fewer)) = omega (arith, fewer)
      by (inr (inr lower)) =
          absurd (false≢true (sym b.some ∙ empties b.index one (between lower) (behind_low to later other also begins more) b.is))

    over : ComesOver plan low.at p
    over = record {
      back = λ from count point edge is_point is_edge more upto.
          let target = leads_at plan (given.setting.valid.each from point is_point).edges point.edges count edge
          (given.setting.valid.each from point is_point).lead is_edge in
          let to_route = route_at w.s 0 plan given.setting.routes edge.to target.0 given.setting.routed target.1 in
          comes_back from edge.to (edges.each from count point edge is_point is_edge) (first_at_point w given edge.to to_route.route to_route.is_route)
          more upto;
    }

    led_way : FirstWay plan p low.at
    led_way =
        let there = planned_route w given p route.0 route.1 in
        leads_over plan low.at p over above (given.setting.valid.each p there.point there.reached).led_to

    pub record LowNone : Type 0 where
      pub locals : AllByRecursion (Other p) (map (read_type w.s.flat) low.fits.point.typed.locals)
      pub stack : AllByRecursion (Other p) (map (read_type w.s.flat) low.fits.point.typed.stack)

    pub low_none : LowNone
    low_none =
        let has = way_has_none w.s.classes w.s.links w.host w.s.flat plan given.hierarchy given.setting.tree.holds given.setting.links given.setting.ready
        given.setting.sites given.setting.valid p low.at led_way low.target low.is_planned in
        let is : has.point ≡ low.fits.point = same_Some has.point low.fits.point (sym has.there ∙ low.fits.there) in
        record {
          locals = subst (λ (point : Point). AllByRecursion (Other p) (map (read_type w.s.flat) point.typed.locals)) is has.locals;
          stack = subst (λ (point : Point). AllByRecursion (Other p) (map (read_type w.s.flat) point.typed.stack)) is has.stack;
        }

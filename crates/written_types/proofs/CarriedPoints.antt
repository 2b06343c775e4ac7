-- The block of an instruction that is written as it is carries each frame with which it can begin to the block behind it.
use Rattle.std.proofs.Common.{◌≡◌, ◌≢◌, ◌+◌, ◌<◌, ◌++◌, ℕ, suc, Bool, true, false, List, [], ◌∷◌, length, slice_get, take, Option, Some, None, refl, sym, ap, subst, ◌∙◌, arith}
use Rattle.std.specs.List.{AllByRecursion}
use Rattle.std.proofs.lemmas.Bool.{true≢false}
use Rattle.std.proofs.lemmas.List.{append_assoc, length-append}
use Rattle.class_model.specs.declared.frame.Frame.{Frame}
use Rattle.class_model.specs.declared.frame.VType.TheVariants as types
use Rattle.class_model.specs.declared.instr.Instr.{Instr}
use Rattle.flow_code.specs.FlatCode.{FlatCode, point_at}
use Rattle.flow_code.specs.declared.point.FlatInstr.{FlatInstr}
use Rattle.flow_code.specs.declared.point.FlatInstr.TheVariants.{Of}
use Rattle.flow_code.specs.declared.point.Point.{Point}
use Rattle.making_code.specs.Items.{WItem, carried}
use Rattle.making_code.specs.Opposites.{opposite_instr}
use Rattle.making_code.specs.StateFrames.{state_frame}
use Rattle.member_link.specs.Bodies.{falls_through}
use Rattle.plan_flow.specs.Laws.WrittenBlocks.{before_blocks, behind_own, blocks_left, first_item, own_number, pads_of, split_own, take_left}
use Rattle.plan_flow.specs.Written.Blocks.{Block, blocks_of, instruction_block, next_block, state_written}
use Rattle.plan_flow.specs.Written.Finish.{End, Finished, end_items, finish, is_empty, no_end}
use Rattle.plan_flow.specs.Written.FramedCode.{frame_by_item}
use Rattle.plan_flow.specs.Written.Routes.{Route, RouteEdge, edge_by}
use Rattle.plan_flow.specs.Written.Templates.{template}
use Rattle.plan_flow.specs.Written.WrittenCode.{Form, block_items, in_form, short, wide, written_items}
use Rattle.plan_flow.specs.declared.edge.EdgeKind.TheVariants as edges
use Rattle.written_types.proofs.BlockKinds.{blocks_after}
use Rattle.written_types.proofs.CarriedForms.{carries_one, carries_over, ends_one, fits_behind, goto, next, over}
use Rattle.written_types.proofs.CarriedHolds.{carried_item}
use Rattle.written_types.proofs.CarriedWays.{not_decided}
use Rattle.written_types.proofs.ChangedTypes.{new_item}
use Rattle.written_types.proofs.EdgeFrames.{before_is}
use Rattle.written_types.proofs.Ends.{ends_away, ends_carry}
use Rattle.written_types.proofs.FinishedBlocks.{finished_at}
use Rattle.written_types.proofs.Given.{AtInstruction, ComesNext, EdgesFit, FitsState, Given, TargetsStand, written_before}
use Rattle.written_types.proofs.ItemPlaces.{written_apart}
use Rattle.written_types.proofs.NewItems.{own_block, own_place}
use Rattle.written_types.proofs.OppositeRows.{opposite_falls, opposite_one}
use Rattle.written_types.proofs.Placing.{block_carries, fits_before, goes_behind, items_and_end}
use Rattle.written_types.proofs.ReadyPoints.{FindsOne}
use Rattle.written_types.proofs.WrittenPool.{PoolLaws}
use Rattle.written_types.specs.Inner.CarriedFrames.{Agrees, BlockCarries, Carries, IsFresh, LeadsIn, frame_in}
use Rattle.written_types.specs.Writing.{Writing}

-- ---- the number of its block

finish_long : (flat : FlatCode) (blocks : List Block) → length (finish flat blocks) ≡ length blocks
finish_long flat [] = refl
finish_long flat (block ∷ blocks) = ap suc (finish_long flat blocks)

-- what stands behind it
abbrev pub Behind : (w : Writing) → Given w → ℕ → Route → List Finished → Type 0
Behind w given at route behind =
    behind ≡ finish w.s.flat ((next_block w.s at (edge_by route edges.Next) ++ blocks_after w.s given.setting.routes at) ++ pads_of w.s given.setting.routes)

module _ (w : Writing) (given : Given w) (at : ℕ) (point : Point) (route : Route) (there : point_at w.s.flat at ≡ Some point)
    (is_route : slice_get given.setting.routes at ≡ Some (Some route)) where
  place_is : (front behind : List Finished) (one : Finished) → w.blocks ≡ front ++ (one ∷ behind) → Behind w given at route behind
      → own_number w.s given.setting.routes at route ≡ length front
  place_is front behind one is last =
      omega (arith, whole, split, front_long, behind_long, assoc) where
        whole : length w.blocks ≡ length (blocks_of w.s given.setting.routes)
        whole = ap length given.setting.blocks ∙ finish_long w.s.flat (blocks_of w.s given.setting.routes)

        split : length (blocks_of w.s given.setting.routes)
            ≡ own_number w.s given.setting.routes at route + suc (length (behind_own w.s given.setting.routes at route))
        split =
            ap length (split_own w.s given.setting.routes at point route there is_route)
            ∙ length-append (blocks_left w.s given.setting.routes at ++ before_blocks w.s at route)
            (instruction_block w.s at point route ∷ behind_own w.s given.setting.routes at route)

        front_long : length w.blocks ≡ length front + suc (length behind)
        front_long = ap length is ∙ length-append front (one ∷ behind)

        behind_long : length behind
            ≡ length ((next_block w.s at (edge_by route edges.Next) ++ blocks_after w.s given.setting.routes at) ++ pads_of w.s given.setting.routes)
        behind_long = ap length last ∙ finish_long w.s.flat _

        assoc : length ((next_block w.s at (edge_by route edges.Next) ++ blocks_after w.s given.setting.routes at) ++ pads_of w.s given.setting.routes)
            ≡ length (behind_own w.s given.setting.routes at route)
        assoc =
            ap length (append_assoc (next_block w.s at (edge_by route edges.Next)) (blocks_after w.s given.setting.routes at)
            (pads_of w.s given.setting.routes))

  -- a new of the point is named by the first item of the block
  pub named_here : (front behind : List Finished) (one : Finished) → w.blocks ≡ front ++ (one ∷ behind) → Behind w given at route behind
      → new_item w at ≡ length (written_items w.form front)
  named_here front behind one is last =
      (own_block w given at point route there is_route).starts
      ∙ ap (first_item w.form w.blocks) (own_place w given at point route there is_route ∙ place_is front behind one is last)
      ∙ ap (λ (blocks : List Finished). length (written_items w.form blocks))
      (ap (take (length front)) is ∙ take_left front (one ∷ behind))

-- ---- forms of its item

one_item : (form : Form) (item : WItem) (class : ℕ) (instr : Instr) → item.instr ≡ carried class instr → opposite_instr instr ≡ None
    → in_form form (item ∷ []) ≡ item ∷ []
one_item short item class instr is none = refl
one_item wide item class instr is none = rw (is, none) refl

some_in_form : (form : Form) (item : WItem) (behind : List WItem) (class : ℕ) (instr : Instr) → item.instr ≡ carried class instr
    → 0 < length (in_form form (item ∷ behind))
some_in_form short item behind class instr is = omega arith
some_in_form wide item behind class instr is = by (opposite_instr instr) refl where
  by : (found : Option Instr) → opposite_instr instr ≡ found → 0 < length (in_form wide (item ∷ behind))
  by None none = rw (is, none) (omega arith)
  by (Some other) some = rw (is, some) (omega arith)

falls_by : (b : Bool) (instr : Instr) → falls_through instr ≡ b → b ≡ false → opposite_instr instr ≡ None
falls_by b instr is ends = by (opposite_instr instr) refl where
  by : (found : Option Instr) → opposite_instr instr ≡ found → opposite_instr instr ≡ None
  by None none = none
  by (Some other) some = absurd (true≢false (sym (opposite_falls instr other some) ∙ is ∙ ends))

-- ---- the block

module _ (w : Writing) (given : Given w) (laws : PoolLaws) (finds : FindsOne) (fit : EdgesFit w given) (stand : TargetsStand w given)
    (front behind : List Finished) (one : Finished) (at : ℕ) (base : Point) (route : Route) (class : ℕ) (instr : Instr) (frame : Frame)
    (is : w.blocks ≡ front ++ (one ∷ behind)) (here : AtInstruction w given at (record base { instr = Of class instr }) route one behind)
    (last : Behind w given at route behind) (none : template w.s at base.typed (state_written route) route class instr ≡ None)
    (agree : Agrees frame (frame_in w one)) (fresh : IsFresh w (length (written_items w.form front)) one frame) where
  abbrev point : Point
  point = record base { instr = Of class instr }

  abbrev number : ℕ
  number = length (written_items w.form front)

  abbrev item : WItem
  item = carried_item at point route class instr

  items_are : one.block.items ≡ item ∷ []
  items_are = ap (λ (block : Block). block.items) here.is_block ∙ rw none refl

  leaves_none : one.block.leaves ≡ None
  leaves_none =
      ap (λ (block : Block). block.leaves) here.is_block
      ∙ rw (not_decided w.s at point route class instr refl none) refl

  not_empty : is_empty one.block.items ≡ false
  not_empty = ap is_empty items_are

  before_agrees : Agrees frame (frame_by_item w.form w.blocks (written_before w point (state_written route)))
  before_agrees =
      subst (λ (found : Frame). Agrees frame (frame_by_item w.form w.blocks found))
      (ap (λ (block : Block). state_frame w.s.flat block.at block.state) here.is_block ∙ before_is w at point (state_written route) here.there) agree

  named : new_item w at ≡ number
  named = named_here w given at point route here.there here.is_route front behind one is last

  some_items : 0 < length (block_items w.form one)
  some_items =
      subst (λ (items : List WItem). 0 < length (in_form w.form (items ++ end_items one.end))) (sym items_are)
      (some_in_form w.form item (end_items one.end) class instr refl)

  none_here : AllByRecursion (λ type. type ≢ types.Uninit number) frame.stack
  none_here = fresh number (omega arith) (let some = some_items in omega (arith, some))

  abbrev after : Frame
  after = next w given laws finds fit stand at base route class instr here.there here.is_route none number frame before_agrees named none_here

  in_items : (items : List WItem) → in_form w.form (item ∷ []) ≡ items → in_form w.form one.block.items ≡ items
  in_items items form = ap (in_form w.form) items_are ∙ form

  -- control does not go on
  ends : falls_through instr ≡ false → BlockCarries w number one behind frame
  ends falls =
      ends_away w given fit stand front behind one number frame is leaves_none not_empty
      (subst (λ (items : List WItem). Carries w number items frame None)
      (sym (in_items (item ∷ []) (one_item w.form item class instr refl (falls_by false instr falls refl))))
      (ends_one w given laws finds fit stand at base route class instr here.there here.is_route none number frame before_agrees named none_here falls))

  comes : (falls : falls_through instr ≡ true) → (edge : RouteEdge) × ComesNext behind edge.to edge.state × FitsState w after edge.to edge.state
  comes falls =
      let found = fits_behind w given laws finds fit stand at base route class instr here.there here.is_route none number frame before_agrees named
      none_here falls in
      (found.0, here.next found.0 found.1, found.2)

  -- by one item
  goes : falls_through instr ≡ true → in_form w.form (item ∷ []) ≡ item ∷ [] → BlockCarries w number one behind frame
  goes falls form =
      let found = comes falls in
      block_carries w number one behind frame after
      (subst (λ (items : List WItem). Carries w number items frame (Some after)) (sym (in_items (item ∷ []) form))
      (carries_one w given laws finds fit stand at base route class instr here.there here.is_route none number frame before_agrees named none_here falls))
      ((ends_carry w given fit stand).staying front behind one (number + length (in_form w.form one.block.items)) after is leaves_none
      (goes_behind w after behind found.0.to found.0.state found.2 found.1))

  -- over a goto
  no_end_there : one.end ≡ no_end
  no_end_there =
      (finished_at w.s.flat (blocks_of w.s given.setting.routes) front behind one (sym given.setting.blocks ∙ is)).end_is
      ∙ rw (leaves_none, not_empty) refl

  over_goto : (other : Instr) → opposite_instr instr ≡ Some other → w.form ≡ wide → BlockCarries w number one behind frame
  over_goto other opposite form =
      ends_away w given fit stand front behind one number frame is leaves_none not_empty
      (subst (λ (items : List WItem). Carries w number items frame None) (sym (in_items two two_is))
      (carries_over w given laws finds fit stand at base route class instr here.there here.is_route none number frame before_agrees named none_here other
      opposite (opposite_one instr other opposite) leads)) where
        two : List WItem
        two =
            over w given laws finds fit stand at base route class instr here.there here.is_route none number frame before_agrees named none_here other
            opposite
            ∷ goto w given laws finds fit stand at base route class instr here.there here.is_route none number frame before_agrees named none_here other
            opposite
            ∷ []

        two_is : in_form w.form (item ∷ []) ≡ two
        two_is = ap (λ (f : Form). in_form f (item ∷ [])) form ∙ rw opposite refl

        found : (edge : RouteEdge) × ComesNext behind edge.to edge.state × FitsState w after edge.to edge.state
        found = comes (opposite_falls instr other opposite)

        long : length (block_items w.form one) ≡ 2
        long =
            ap length (items_and_end w.form one) ∙ length-append (in_form w.form one.block.items) (end_items one.end)
            ∙ ap (λ (end : End). length (in_form w.form one.block.items) + length (end_items end)) no_end_there
            ∙ ap (λ (items : List WItem). length items + 0) (in_items two two_is)

        leads : LeadsIn w (Some after) (number + 2)
        leads = record {
          goes = after;
          is_frame = refl;
          block = found.1.next;
          placed = record {
            front = front ++ (one ∷ []);
            behind = found.1.others;
            is = is ∙ ap (λ (blocks : List Finished). front ++ (one ∷ blocks)) found.1.is ∙ sym (append_assoc front (one ∷ []) (found.1.next ∷ found.1.others));
            starts =
                let apart = ap length (written_apart w.form front (one ∷ []))
                ∙ length-append (written_items w.form front) (written_items w.form (one ∷ [])) in
                let alone = length-append (block_items w.form one) [] in
                let two_long = long in
                omega (arith, apart, alone, two_long);
          };
          fits = fits_before w after found.1.next found.0.to found.0.state found.2 found.1.begins;
        }

  by_form : (falls : falls_through instr ≡ true) (form : Form) → w.form ≡ form → (found : Option Instr) → opposite_instr instr ≡ found
      → BlockCarries w number one behind frame
  by_form falls short form found opposite = goes falls (ap (λ (f : Form). in_form f (item ∷ [])) form)
  by_form falls wide form None opposite = goes falls (one_item w.form item class instr refl opposite)
  by_form falls wide form (Some other) opposite = over_goto other opposite form

  pub carries_there : BlockCarries w number one behind frame
  carries_there = by (falls_through instr) refl where
    by : (b : Bool) → falls_through instr ≡ b → BlockCarries w number one behind frame
    by true falls = by_form falls w.form refl (opposite_instr instr) refl
    by false falls = ends falls

-- The block of an instruction without a template.
pub carried_carries : (w : Writing) (given : Given w) (laws : PoolLaws) (finds : FindsOne) (fit : EdgesFit w given) (stand : TargetsStand w given)
    (front behind : List Finished) (one : Finished) (at : ℕ) (point : Point) (route : Route) (class : ℕ) (instr : Instr) (frame : Frame)
    → w.blocks ≡ front ++ (one ∷ behind)
    → AtInstruction w given at point route one behind
    → Behind w given at route behind
    → point.instr ≡ Of class instr
    → template w.s at point.typed (state_written route) route class instr ≡ None
    → Agrees frame (frame_in w one)
    → IsFresh w (length (written_items w.form front)) one frame
    → BlockCarries w (length (written_items w.form front)) one behind frame
carried_carries w given laws finds fit stand front behind one at point route class instr frame is here last instr_is none agree fresh =
    carries_there w given laws finds fit stand front behind one at point route class instr frame is
    (subst (λ (i : FlatInstr). AtInstruction w given at (record point { instr = i }) route one behind) instr_is here) last none agree fresh

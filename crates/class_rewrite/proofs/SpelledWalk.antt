-- The frames of written code name texts that a Class constant may have: those that are stated do, and what flows from a frame that does.
use Rattle.std.proofs.Common.{◌≡◌, ◌≢◌, ◌+◌, ◌≤◌, ◌==◌, ◌++◌, ◌∙◌, ℕ, zero, suc, Bool, true, false, List, [], ◌∷◌, length, slice_get, Option, Some, None, option_map, if◌then◌else◌, refl, sym, ap, subst, arith}
use Rattle.std.proofs.lemmas.Bool.{eq-eqb, eqb-true}
use Rattle.std.proofs.lemmas.Option.{none-some, same_Some}
use Rattle.class_model.specs.Laws.Lists.{at_index}
use Rattle.class_model.specs.Pool.{Constants, constant_at}
use Rattle.class_model.specs.declared.frame.Frame.{Frame}
use Rattle.class_model.specs.declared.frame.VType.{VType}
use Rattle.class_rewrite.proofs.FirstEntries.{file_starts, first_is_none}
use Rattle.class_rewrite.proofs.NamedItems.{items_named, types_spelled}
use Rattle.class_rewrite.proofs.StackRoom.{framed_roomy, greatest_roomy}
use Rattle.class_rewrite.specs.Inner.SpelledFrames.{AreSpelledFrames}
use Rattle.class_tree.specs.Headers.{IsClassFile, headers_of}
use Rattle.expanded_runs.specs.Laws.KeptNames.{load_fits, row_keeps}
use Rattle.expanded_runs.specs.Laws.SpelledNames.{spelled_kept}
use Rattle.expanded_runs.specs.NamedFrames.{FrameHas, HasFramedNames, IsFramedName, IsSpelledName, PoolHas, TypesHave}
use Rattle.flow_code.specs.WrittenUnits.{written_units}
use Rattle.flow_code.specs.declared.point.Site.{Site}
use Rattle.making_code.specs.IndexedItems.{IndexedItem}
use Rattle.making_code.specs.Laws.AddedConstants.{Compares}
use Rattle.making_code.specs.Laws.GrownPools.{Begins, begins_through, grow_begins}
use Rattle.member_link.specs.Bodies.{BodyPoint, flows_on, frame_behind, item_falls_through}
use Rattle.member_link.specs.BodyTyping.{HasFrames, PointFits, frame_among}
use Rattle.member_link.specs.Laws.Scopes.{scope_is_at}
use Rattle.member_link.specs.Machine.Replaced.{map_numbered}
use Rattle.member_link.specs.RowScope.{RowScope}
use Rattle.member_link.specs.Rows.Operands.{AllFit, topmost}
use Rattle.member_link.specs.Rows.Row.{Row, row_frame, stack_behind, stack_left}
use Rattle.member_link.specs.Rows.Table.{row_of}
use Rattle.member_link.specs.Signatures.{result_of}
use Rattle.plan_flow.specs.Written.FramedCode.{IsFramed, flow_into, frame_had, greatest_of, item_body}
use Rattle.same_runs.specs.Laws.Numbered.{from_zero}
use Rattle.written_types.specs.Setting.{Setting}
use Rattle.written_types.specs.Writing.{Writing, body_in, entry_in, items_in, points_in, scope_in}

-- ---- frames by place

frame_placed : (pool : Constants) (scope : RowScope) (from number : ℕ) (items : List IndexedItem) (frames : List Frame)
    → length frames ≡ length items
    → frame_among (map_numbered (item_body pool scope) from items) frames (from + number) ≡ slice_get frames number
frame_placed pool scope from number [] [] long = refl
frame_placed pool scope from number [] (frame ∷ frames) long = absurd cc
frame_placed pool scope from number (item ∷ items) [] long = absurd cc
frame_placed pool scope from zero (item ∷ items) (frame ∷ frames) long = rw (eq-eqb from (from + 0) (omega arith)) refl
frame_placed pool scope from (suc number) (item ∷ items) (frame ∷ frames) long =
    let apart : (from == (from + suc number)) ≡ false = not_same from (from + suc number) (λ same. omega (arith, same)) in
    let tails : length frames ≡ length items = cc in
    rw (apart)
    (ap (frame_among (map_numbered (item_body pool scope) (suc from) items) frames)
    (the_same (from + suc number) (suc from + number) (omega arith))
    ∙ frame_placed pool scope (suc from) number items frames tails)
  where
    the_same : (a b : ℕ) → a ≡ b → a ≡ b
    the_same a b is = is

    not_same : (a b : ℕ) → a ≢ b → (a == b) ≡ false
    not_same a b other = by (a == b) refl where
      by : (x : Bool) → (a == b) ≡ x → (a == b) ≡ false
      by true is = absurd (other (eqb-true a b is))
      by false is = is

placed_at : (pool : Constants) (scope : RowScope) (number : ℕ) (items : List IndexedItem) (frames : List Frame) → length frames ≡ length items
    → frame_among (map_numbered (item_body pool scope) zero items) frames number ≡ slice_get frames number
placed_at pool scope number items frames long =
    ap (frame_among (map_numbered (item_body pool scope) zero items) frames) (from_none number) ∙ frame_placed pool scope zero number items frames long where
      from_none : (n : ℕ) → n ≡ zero + n
      from_none n = omega arith

-- ---- a row

behind_all : (below gives : List VType) → TypesHave IsSpelledName (below ++ gives) → TypesHave IsSpelledName gives
behind_all [] gives all = all
behind_all (type ∷ below) gives all = behind_all below gives all.1

-- the frame behind a row
behind_named : (f : Frame) (row : Row) → TypesHave IsSpelledName row.locals → TypesHave IsSpelledName (stack_behind f row)
    → (frame : Frame) → row_frame f row ≡ Some frame
    → FrameHas IsSpelledName frame
behind_named f row locals stack frame is = by row.goes_on is where
  made : Frame
  made = record { locals = row.locals; stack = stack_behind f row }

  by : (goes : Bool) → (if goes then Some made else None) ≡ Some frame → FrameHas IsSpelledName frame
  by true is = subst (FrameHas IsSpelledName) (same_Some made frame is) (record { locals = locals; stack = stack })
  by false is = absurd (none-some frame is)

-- ---- laws of the crates below

pub record SpelledLaws : Type 0 where
  pub compares : Compares
  pub types : (w : Writing) (state : ℕ → Option Frame) (frames : List Frame) → Setting w
      → IsFramed w.s.flat w.form w.blocks (items_in w) (body_in w state) frames
      → greatest_of (points_in w) frames ≤ w.max_stack
      → HasFrames (body_in w state) frames
  pub stated : (w : Writing) (state : ℕ → Option Frame) (frames : List Frame) → Setting w
      → HasFramedNames w.s.classes w.host w.s.flat
      → IsFramed w.s.flat w.form w.blocks (items_in w) (body_in w state) frames
      → (number : ℕ) (frame : Frame) → state number ≡ Some frame
      → FrameHas (IsFramedName (headers_of w.s.classes)) frame
  pub no_results : (w : Writing) (number : ℕ) (site : Site) → Setting w → slice_get w.s.flat.sites number ≡ Some site
      → result_of (w.constructor site.class) ≡ None

-- the same, with other room on the stack
pub with_room : (w : Writing) (room : ℕ) → Setting w → Setting (record w { max_stack = room })
with_room w room setting = record {
  plan = setting.plan;
  routes = setting.routes;
  tree = setting.tree;
  links = setting.links;
  ready = setting.ready;
  sites = setting.sites;
  for_plans = setting.for_plans;
  carried = setting.carried;
  valid = setting.valid;
  routed = setting.routed;
  blocks = setting.blocks;
  constructors = setting.constructors;
  before = setting.before;
  begins_before = setting.begins_before;
  grown = setting.grown;
  grows = setting.grows;
  begins = setting.begins;
}

module _ (laws : SpelledLaws) (w : Writing) (state : ℕ → Option Frame) (frames : List Frame) (setting : Setting w)
    (named : HasFramedNames w.s.classes w.host w.s.flat)
    (framed : IsFramed w.s.flat w.form w.blocks (items_in w) (body_in w state) frames) where
  abbrev items : List IndexedItem
  items = items_in w

  abbrev with : ℕ → Writing
  with room = record w { max_stack = room }

  -- the room that they need
  abbrev most : ℕ
  most = greatest_of (points_in w) frames

  framed_with : (room : ℕ) → IsFramed w.s.flat w.form w.blocks (items_in w) (body_in (with room) state) frames
  framed_with room = framed_roomy w.host w.s.flat w.pool (items_in w) state w.max_stack room w.form w.blocks frames framed

  begins_host : Begins w.host.class.pool w.pool
  begins_host =
      begins_through w.host.class.pool setting.before w.pool setting.begins_before
      (begins_through setting.before setting.grown w.pool (grow_begins _ _ _ _ setting.grows) setting.begins)

  first : constant_at w.pool 0 ≡ None
  first =
      first_is_none w.host.class.pool w.pool
      (file_starts w.host.class
      (at_index IsClassFile w.s.classes.folder w.s.flat.host.class w.host.class setting.tree.folder
      (scope_is_at w.s.classes w.s.flat.host w.host setting.ready.host).of_folder)) begins_host

  item_named : (number : ℕ) (item : IndexedItem) → slice_get items number ≡ Some item → PoolHas IsSpelledName (scope_in (with 0)) item.instr
  item_named =
      items_named (with 0) (with_room w 0 setting) named laws.compares first (λ number site is. laws.no_results w number site setting is)

  stated_named : (number : ℕ) (frame : Frame) → state number ≡ Some frame → FrameHas IsSpelledName frame
  stated_named number frame is =
      let known = laws.stated w state frames setting named framed number frame is in
      record {
        locals = types_spelled (headers_of w.s.classes) frame.locals known.locals;
        stack = types_spelled (headers_of w.s.classes) frame.stack known.stack;
      }

  module _ (enough : greatest_of (points_in (with most)) frames ≤ most) where
    typed : HasFrames (body_in (with most) state) frames
    typed = laws.types (with most) state frames (with_room w most setting) (framed_with most) enough

    abbrev RowKeeps : ℕ → IndexedItem → Frame → Type 0
    RowKeeps number item f =
        TypesHave IsSpelledName (row_of (scope_in (with 0)) f number item.instr).locals
        × TypesHave IsSpelledName (stack_behind f (row_of (scope_in (with 0)) f number item.instr))

    kept : (number : ℕ) (item : IndexedItem) (f : Frame) → slice_get items number ≡ Some item → slice_get frames number ≡ Some f
        → FrameHas IsSpelledName f
        → RowKeeps number item f
    kept number item f there has spelled =
        row_keeps IsSpelledName spelled_kept (scope_in (with 0)) (scope_in (with most)) f named.own.spelled spelled number item.instr
        (item_named number item there) (load_fits (scope_in (with most)) f number item.instr operands) where
          point : BodyPoint
          point = item_body w.pool (scope_in (with most)) number item

          fits : PointFits (body_in (with most) state) frames point
          fits =
              at_index (PointFits (body_in (with most) state) frames) (points_in (with most)) number point typed.points
              (from_zero (item_body w.pool (scope_in (with most))) items number
              ∙ ap (option_map (item_body w.pool (scope_in (with most)) number)) there)

          same : fits.frame ≡ f
          same =
              same_Some fits.frame f
              (sym fits.is_at ∙ placed_at w.pool (scope_in (with most)) number items frames framed.many ∙ has)

          Operands : Frame → Type 0
          Operands g =
              AllFit (scope_in (with most)) (row_of (scope_in (with most)) g number item.instr).takes
              (topmost (length (row_of (scope_in (with most)) g number item.instr).takes) g.stack)

          operands : Operands f
          operands = subst Operands same fits.row.operands

    named_at : (number : ℕ) (frame : Frame) → slice_get frames number ≡ Some frame → FrameHas IsSpelledName frame
    named_at zero frame has = by (state zero) refl (framed.had zero frame has) where
      by : (stated : Option Frame) → state zero ≡ stated → frame_had (state zero) (flow_into (body_in w state) frames zero) ≡ Some frame
          → FrameHas IsSpelledName frame
      by (Some stated) is had = stated_named zero frame (is ∙ (rw is at had))
      by None is had =
          let entry : Some (entry_in w) ≡ Some frame = rw is at had in
          let known = named.entry (written_units w.s.flat) in
          subst (FrameHas IsSpelledName) (same_Some (entry_in w) frame entry)
          (record {
            locals = types_spelled (headers_of w.s.classes) (entry_in w).locals known.locals;
            stack = types_spelled (headers_of w.s.classes) (entry_in w).stack known.stack;
          })
    named_at (suc number) frame has =
        by (named_at number) (state (suc number)) refl ((framed_with 0).had (suc number) frame has) where
          flows : (item : Option IndexedItem) → slice_get items number ≡ item → (before : Option Frame) → slice_get frames number ≡ before
              → ((f : Frame) → slice_get frames number ≡ Some f → FrameHas IsSpelledName f)
              → flow_into (body_in (with 0) state) frames (suc number) ≡ Some frame
              → FrameHas IsSpelledName frame
          flows None there before is before_named flow =
              let none : slice_get (points_in (with 0)) number ≡ None =
              from_zero (item_body w.pool (scope_in (with 0))) items number
              ∙ ap (option_map (item_body w.pool (scope_in (with 0)) number)) there in
              absurd (none-some frame (rw none at flow))
          flows (Some item) there None is before_named flow =
              let one : slice_get (points_in (with 0)) number ≡ Some (item_body w.pool (scope_in (with 0)) number item) =
              from_zero (item_body w.pool (scope_in (with 0))) items number
              ∙ ap (option_map (item_body w.pool (scope_in (with 0)) number)) there in
              absurd (none-some frame (rw (one, is) at flow))
          flows (Some item) there (Some f) is before_named flow =
              let one : slice_get (points_in (with 0)) number ≡ Some (item_body w.pool (scope_in (with 0)) number item) =
              from_zero (item_body w.pool (scope_in (with 0))) items number
              ∙ ap (option_map (item_body w.pool (scope_in (with 0)) number)) there in
              let goes : flows_on (item_body w.pool (scope_in (with 0)) number item) f ≡ Some frame = rw (one, is) at flow in
              let rows = kept number item f there is (before_named f is) in
              on (item_falls_through (item_body w.pool (scope_in (with 0)) number item).item) goes rows where
                on : (falls : Bool)
                    → (if falls then frame_behind (item_body w.pool (scope_in (with 0)) number item) f else None) ≡ Some frame
                    → RowKeeps number item f
                    → FrameHas IsSpelledName frame
                on true goes rows = behind_named f (row_of (scope_in (with 0)) f number item.instr) rows.0 rows.1 frame goes
                on false goes rows = absurd (none-some frame goes)

          by : ((f : Frame) → slice_get frames number ≡ Some f → FrameHas IsSpelledName f)
              → (stated : Option Frame) → state (suc number) ≡ stated
              → frame_had (state (suc number)) (flow_into (body_in (with 0) state) frames (suc number)) ≡ Some frame
              → FrameHas IsSpelledName frame
          by before (Some stated) is had = stated_named (suc number) frame (is ∙ (rw is at had))
          by before None is had =
              flows (slice_get items number) refl (slice_get frames number) refl before (rw is at had)

    pub spelled : AreSpelledFrames w frames
    spelled = record {
      each = named_at;
      given = λ number item frame there has.
          behind_all (stack_left frame (row_of (scope_in (with 0)) frame number item.instr))
          (row_of (scope_in (with 0)) frame number item.instr).gives (kept number item frame there has (named_at number frame has)).1;
    }

  -- Their names are such texts.
  pub spelled_frames : AreSpelledFrames w frames
  spelled_frames =
      spelled (omega (arith, greatest_roomy w.host w.s.flat w.pool (items_in w) state w.max_stack most frames))

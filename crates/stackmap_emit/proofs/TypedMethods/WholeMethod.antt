-- The whole method is typed by offsets where its items are by numbers.
use Rattle.std.proofs.Common.{◌≡◌, ◌≢◌, ◌↔◌, ◌==◌, ◌≤◌, ◌<◌, ◌+◌, ◌∙◌, max, ℕ, zero, suc, Bool, true, false, List, [], ◌∷◌, length, map, slice_get, slice_index_or, Option, Some, None, Result, Ok, refl, sym, ap, subst, arith}
use Rattle.std.specs.List.{AllByRecursion}
use Rattle.std.proofs.lemmas.Bool.{eq-eqb}
use Rattle.std.proofs.Math.Nat.{le-max_left, le-max_right}
use Rattle.std.proofs.lemmas.List.{length-map}
use Rattle.std.proofs.lemmas.Option.{none-some, same_Some}
use Rattle.class_model.specs.Code.{inner_is_named, stack_map_table}
use Rattle.class_model.specs.Frames.{Setting, depth, stack_map_table_at}
use Rattle.class_model.specs.Header.{header_of, method_member}
use Rattle.class_model.specs.Instructions.{decoded}
use Rattle.class_model.specs.Laws.Lists.{none_behind}
use Rattle.class_model.specs.Members.{is_text}
use Rattle.class_model.specs.Methods.{entry_of, home_of}
use Rattle.class_model.specs.Names.{clinit, init}
use Rattle.class_model.specs.Pool.{Constants}
use Rattle.class_model.specs.PoolChecks.{text_or_empty, utf8_at}
use Rattle.class_model.specs.Stated.{frame_for, read_or_none, stated_frames as frames_of, stated_in}
use Rattle.class_model.specs.declared.class_file.ClassFile.{ClassFile}
use Rattle.class_model.specs.declared.class_file.CodePart.{CodePart}
use Rattle.class_model.specs.declared.class_file.Handler.{Handler}
use Rattle.class_model.specs.declared.class_file.InnerAttr.{InnerAttr}
use Rattle.class_model.specs.declared.class_file.Method.{Method}
use Rattle.class_model.specs.declared.descriptor.FieldType.{FieldType}
use Rattle.class_model.specs.declared.frame.Frame.{Frame}
use Rattle.class_model.specs.declared.frame.PlacedFrame.{PlacedFrame}
use Rattle.class_model.specs.declared.instr.Placed.{Placed}
use Rattle.class_tree.specs.Headers.{Name, Headers, IsClassFile}
use Rattle.code_layout.specs.Layout.{Spelled, placed_from, placed_items, ranges_from, start_in, starts_from}
use Rattle.code_layout.specs.PlainItems.{plain_item}
use Rattle.flow_code.specs.WrittenUnits.{written_units}
use Rattle.making_code.specs.Constants.{text_index}
use Rattle.making_code.specs.IndexedItems.{IndexedItem}
use Rattle.making_code.specs.Laws.AddedConstants.{Compares}
use Rattle.making_code.specs.Laws.GrownPools.{Begins, begins_through, grow_begins}
use Rattle.map_frames.specs.Writing.{HasFrames as CanState}
use Rattle.member_link.specs.Bodies.{Body, BodyPoint, CodeItem, asked_access, frame_behind, item_row}
use Rattle.member_link.specs.BodyTyping.{AreConsecutivePoints, AreInOrder, BeginAt, HasFrames, IsThrowable, RowHolds, frame_among, frame_at as frame_in}
use Rattle.member_link.specs.Declarations.{Site, site_of}
use Rattle.member_link.specs.Machine.Replaced.{map_numbered}
use Rattle.member_link.specs.RowScope.{RowScope}
use Rattle.member_link.specs.Rows.FrameAssignability.{IsFrameAssignable}
use Rattle.member_link.specs.Rows.Row.{row_frame}
use Rattle.member_link.specs.Scope.{Scope, instructions, is_clinit, is_init, own_descriptor}
use Rattle.member_link.specs.Signatures.{result_of}
use Rattle.plan_flow.specs.Written.FramedCode.{depth_in, greatest_of, item_body, items_scope, new_class_in}
use Rattle.row_frames.specs.Laws.NumberedFrames.{numbered_frame}
use Rattle.row_frames.specs.Laws.RenumberedEntry.{entry_same}
use Rattle.stackmap_emit.proofs.TypedMethods.ItemPoints.{From, Known, table_throws, typed_from}
use Rattle.stackmap_emit.proofs.TypedMethods.ItemRows.{StandsIn}
use Rattle.row_frames.specs.Laws.MorePools.{text_more}
use Rattle.stackmap_emit.proofs.TypedMethods.NamedClasses.{HasTable, table_had}
use Rattle.stackmap_emit.proofs.TypedMethods.Offsets.{TakeBytes, ends_there, offset, take_bytes}
use Rattle.stackmap_emit.proofs.TypedMethods.PlacedStates.{frames_read, stated_at_item}
use Rattle.stackmap_emit.specs.FrameConstants.{stated_frames, table_needs}
use Rattle.stackmap_emit.specs.FramesAttribute.{IsFramesAttribute, IsNamed, no_attribute, one_attribute, placed_needs}
use Rattle.stackmap_emit.specs.PlacedFrames.{frame_at, placed_frames, spelled_in}
use Rattle.stackmap_emit.specs.TypedMethods.{AreWhole, HasLaidCode, IsGrownMethod, IsWhole, LaidCode, PassAccess, frames_by_offset, indexed, laid_body, offset_in, stated_by_items}
use Rattle.type_rules.specs.Grown.{AreGrownHeaders, IsGrownClass, IsGrownHeader, IsGrownScope}
use Rattle.type_rules.specs.Handlers.{catches_at, caught_in}
use Rattle.type_rules.specs.MethodBodies.{body_of, point_of}
use Rattle.type_rules.specs.Stated.{stated}
use Rattle.type_rules.specs.Typed.{AreTyped, CaughtIsThrowable, Typed, TypesBody}

-- what the laws of other crates say
pub record Laws : Type 0 where
  pub compares : Compares
  pub entry : (old new : ClassFile) (number : ℕ) (method : Method) (part : CodePart) → IsClassFile old → IsGrownClass old new
      → slice_get old.methods number ≡ Some method
      → entry_of (home_of new) method part ≡ entry_of (home_of old) method part
  pub site : (old new : ClassFile) (number : ℕ) (method : Method) → IsClassFile old → IsGrownClass old new
      → slice_get old.methods number ≡ Some method
      → site_of (header_of new) (method_member new.pool method) ≡ site_of (header_of old) (method_member old.pool method)
  pub header : (old new : ClassFile) → IsClassFile old → IsGrownClass old new → IsGrownHeader (header_of old) (header_of new)
  pub held : (old new : RowScope) (before : Frame) (place : ℕ) (item : CodeItem) (asks : Bool) → IsGrownScope old new
      → RowHolds old before (asked_access asks (item_row old before place item))
      → RowHolds new before (asked_access asks (item_row new before place item))
  pub left : (old new : RowScope) (before : Frame) (place : ℕ) (item : CodeItem) → IsGrownScope old new
      → row_frame before (item_row new before place item) ≡ row_frame before (item_row old before place item)
  pub frames : (old new : Headers) (from to : Frame) → AreGrownHeaders old new → IsFrameAssignable old from to ↔ IsFrameAssignable new from to
  pub throwables : (old new : Headers) (caught : Option Name) → AreGrownHeaders old new → IsThrowable old caught ↔ IsThrowable new caught
  pub consecutive : (s : Scope) (instrs : List Placed) → decoded s.part.code ≡ Ok instrs
      → AreConsecutivePoints 0 (body_of s).points (body_of s).end
  pub types : (b : Body) (frames : List Frame) → AreInOrder b.points → HasFrames b frames → TypesBody b frames

-- ---- items as points

module _ (pool : Constants) (scope : RowScope) where
  begins_next : (n : ℕ) (items : List IndexedItem) → BeginAt (n + 1) (map_numbered (item_body pool scope) (suc n) items)
  begins_next n [] = tt
  begins_next n (item ∷ items) = omega arith

  in_order : (n : ℕ) (items : List IndexedItem) → AreInOrder (map_numbered (item_body pool scope) n items)
  in_order n [] = tt
  in_order n (item ∷ items) = (omega arith, begins_next n items, in_order (suc n) items)

  many : (n : ℕ) (items : List IndexedItem) → length (map_numbered (item_body pool scope) n items) ≡ length items
  many n [] = refl
  many n (item ∷ items) = ap suc (many (suc n) items)

  unlike : (m n : ℕ) → m < n → (m == n) ≡ false
  unlike m n less = grind (arith)

  frame_there : (from gap n : ℕ) (items : List IndexedItem) (frames : List Frame) → n ≡ from + gap → length frames ≡ length items
      → frame_among (map_numbered (item_body pool scope) from items) frames n ≡ slice_get frames gap
  frame_there from gap n [] [] is long = refl
  frame_there from gap n [] (frame ∷ frames) is long = absurd cc
  frame_there from gap n (item ∷ items) [] is long = absurd cc
  frame_there from zero n (item ∷ items) (frame ∷ frames) is long = rw (eq-eqb from n (omega (arith, is))) refl
  frame_there from (suc gap) n (item ∷ items) (frame ∷ frames) is long =
      let tails : length frames ≡ length items = cc in
      rw (unlike from n (omega (arith, is))) (frame_there (suc from) gap n items frames (omega (arith, is)) tails)

no_deeper : (points : List BodyPoint) (frames : List Frame) (n : ℕ) (frame : Frame) → length frames ≡ length points
    → slice_get frames n ≡ Some frame
    → depth frame.stack ≤ greatest_of points frames
no_deeper [] [] n frame long is = absurd (none-some frame is)
no_deeper [] (first ∷ frames) n frame long is = absurd cc
no_deeper (point ∷ points) [] n frame long is = absurd cc
no_deeper (point ∷ points) (first ∷ frames) zero frame long is =
    let same : first ≡ frame = same_Some first frame is in
    let here = le-max_left (depth first.stack) (depth_in (frame_behind point first)) in
    let all = le-max_left (max (depth first.stack) (depth_in (frame_behind point first))) (greatest_of points frames) in
    subst (λ (f : Frame). depth f.stack ≤ greatest_of (point ∷ points) (first ∷ frames)) same (omega (arith, here, all))
no_deeper (point ∷ points) (first ∷ frames) (suc n) frame long is =
    let tails : length frames ≡ length points = cc in
    let rest = no_deeper points frames n frame tails is in
    let all = le-max_right (max (depth first.stack) (depth_in (frame_behind point first))) (greatest_of points frames) in
    omega (arith, rest, all)

-- ---- names

init_by_text : (o : Option (List ℕ)) → is_text init o ≡ is_text init (Some (text_or_empty o))
init_by_text None = refl
init_by_text (Some text) = refl

clinit_by_text : (o : Option (List ℕ)) → is_text clinit o ≡ is_text clinit (Some (text_or_empty o))
clinit_by_text None = refl
clinit_by_text (Some text) = refl

none_placed : (place : ℕ → ℕ) (k : ℕ) (frames : List (Option Frame)) → stated_frames frames ≡ [] → placed_frames place k frames ≡ []
none_placed place k [] none = refl
none_placed place k (None ∷ frames) none = none_placed place (suc k) frames none
none_placed place k (Some frame ∷ frames) none = absurd cc

-- ---- the method

module _ (laws : Laws) (w : LaidCode) (s : Scope) (grown : IsGrownMethod w.host s) (code : HasLaidCode w s)
    (types : HasFrames (laid_body w s.part.max_stack) w.frames) (whole : AreWhole w) where
  abbrev spelled : Spelled
  spelled = spelled_in w.form

  abbrev place : ℕ → ℕ
  place = start_in (starts_from spelled 0 w.items)

  abbrev number : ℕ → ℕ
  number = offset spelled 0 w.items

  abbrev fa : Frame → Frame
  fa = numbered_frame number

  abbrev body : Body
  body = laid_body w s.part.max_stack

  decodes : decoded s.part.code ≡ Ok (placed_items spelled w.items)
  decodes = ap decoded code.code ∙ code.laid.decodes.covers

  placed : instructions s ≡ placed_from spelled place 0 w.items
  placed = rw (decodes) refl

  stand : AreConsecutivePoints 0 (map (point_of s) (placed_from spelled place 0 w.items)) (length s.part.code)
  stand =
      subst (λ (instrs : List Placed). AreConsecutivePoints 0 (map (point_of s) instrs) (length s.part.code)) placed
      (laws.consecutive s (placed_items spelled w.items) decodes)

  take : TakeBytes spelled 0 w.items
  take = take_bytes spelled s place 0 w.items (length s.part.code) stand

  offsets_are : offset_in w.laid ≡ number
  offsets_are =
      let by_starts : List ℕ → ℕ → ℕ = λ starts n. slice_index_or starts n (length w.laid.code) in
      let by_end : ℕ → ℕ → ℕ = λ end n. slice_index_or (starts_from spelled 0 w.items) n end in
      ap by_starts code.laid.starts
      ∙ ap by_end
      (ap (λ (bytes : List ℕ). length bytes) (sym code.code) ∙ sym (ends_there spelled s place 0 w.items (length s.part.code) stand))

  -- ---- the class

  pools : Begins w.pool s.class.pool
  pools =
      begins_through w.pool code.pool s.class.pool (grow_begins 64535 (table_needs (stated_by_items w)) w.pool code.pool code.grows)
      (record { more = code.more; is = code.has })

  major_same : s.class.major ≡ w.host.class.major
  major_same = ap (λ (c : ClassFile). c.major) grown.class.rest

  site_same : site_of (header_of s.class) (method_member s.class.pool w.host.method)
      ≡ site_of (header_of w.host.class) (method_member w.host.class.pool w.host.method)
  site_same = laws.site w.host.class s.class grown.number w.host.method grown.is_class_file grown.class grown.there

  name_text : text_or_empty (utf8_at s.class.pool s.method.name) ≡ text_or_empty (utf8_at w.host.class.pool w.host.method.name)
  name_text =
      ap (λ (m : Method). text_or_empty (utf8_at s.class.pool m.name)) grown.method.rest
      ∙ ap (λ (site : Site). site.member.name) site_same

  desc_text : text_or_empty (utf8_at s.class.pool s.method.desc) ≡ text_or_empty (utf8_at w.host.class.pool w.host.method.desc)
  desc_text =
      ap (λ (m : Method). text_or_empty (utf8_at s.class.pool m.desc)) grown.method.rest
      ∙ ap (λ (site : Site). site.member.desc) site_same

  init_same : is_init s ≡ is_init w.host
  init_same =
      init_by_text (utf8_at s.class.pool s.method.name) ∙ ap (λ (text : List ℕ). is_text init (Some text)) name_text
      ∙ sym (init_by_text (utf8_at w.host.class.pool w.host.method.name))

  clinit_same : is_clinit s ≡ is_clinit w.host
  clinit_same =
      clinit_by_text (utf8_at s.class.pool s.method.name) ∙ ap (λ (text : List ℕ). is_text clinit (Some text)) name_text
      ∙ sym (clinit_by_text (utf8_at w.host.class.pool w.host.method.name))

  abbrev host_items : RowScope
  host_items = record (items_scope w.host w.pool s.part.max_stack (indexed w)) {
    pool = s.class.pool;
    new_class = new_class_in s.class.pool (indexed w);
  }

  abbrev own_items : RowScope
  own_items = items_scope s s.class.pool s.part.max_stack (indexed w)

  abbrev by_parts : ℕ → Bool → Bool → Option FieldType → RowScope
  by_parts major first other result =
      record own_items { major = major; is_init = first; is_clinit = other; result = result }

  scope_grown : IsGrownScope host_items own_items
  scope_grown = record {
    headers = grown.headers;
    own = laws.header w.host.class s.class grown.is_class_file grown.class;
    rest =
        ap (λ (major : ℕ). by_parts major (is_init s) (is_clinit s) (result_of (own_descriptor s))) major_same
        ∙ ap (λ (first : Bool). by_parts w.host.class.major first (is_clinit s) (result_of (own_descriptor s))) init_same
        ∙ ap (λ (other : Bool). by_parts w.host.class.major (is_init w.host) other (result_of (own_descriptor s))) clinit_same
        ∙ ap (λ (desc : List ℕ). by_parts w.host.class.major (is_init w.host) (is_clinit w.host) (result_of desc)) desc_text;
  }

  in_class : StandsIn w.host s w.pool spelled w.items
  in_class = record {
    more = pools.more;
    has = pools.is;
    take = take;
    placed = placed;
    keeps = record {
      held = λ before at item. laws.held host_items own_items before at item false scope_grown;
      left = λ before at item. laws.left host_items own_items before at item scope_grown;
    };
  }

  -- ---- the frames that it states

  abbrev entry_by : ClassFile → Method → ℕ → Frame
  entry_by class method locals = entry_of (home_of class) method (record w.host.part { max_locals = locals })

  entries_same : entry_of (home_of s.class) s.method s.part ≡ body.entry
  entries_same =
      ap (λ (m : Method). entry_of (home_of s.class) m s.part) grown.method.rest
      ∙ laws.entry w.host.class s.class grown.number w.host.method s.part grown.is_class_file grown.class grown.there
      ∙ ap (entry_by w.host.class w.host.method) code.max_locals

  items_many : length (indexed w) ≡ length w.items
  items_many = length-map w.items plain_item

  frames_many : length w.frames ≡ length w.items
  frames_many = types.one_each ∙ many w.pool body.scope 0 (indexed w) ∙ items_many

  record Stands (n : ℕ) : Type 0 where
    frame : Frame
    is : slice_get w.frames n ≡ Some frame

  stands : (n : ℕ) → n < length w.items → Stands n
  stands n within = by (slice_get w.frames n) refl where
    by : (o : Option Frame) → slice_get w.frames n ≡ o → Stands n
    by None e =
        let long = none_behind w.frames n e in
        let counted = frames_many in
        absurd (omega (arith, within, long, counted))
    by (Some frame) e = record { frame = frame; is = e }

  deep : (n : ℕ) (frame : Frame) → n < length w.items → w.state n ≡ Some frame → depth frame.stack ≤ s.part.max_stack
  deep n frame within is =
      let there = stands n within in
      let at : frame_in body w.frames n ≡ Some there.frame =
      frame_there w.pool body.scope 0 n n (indexed w) w.frames (omega arith) (frames_many ∙ sym items_many) ∙ there.is in
      let same : there.frame ≡ frame = types.stated n there.frame frame at is in
      let scope : RowScope = (laid_body w 0).scope in
      let low = no_deeper (laid_body w 0).points w.frames n there.frame
      (frames_many ∙ sym items_many ∙ sym (many w.pool scope 0 (indexed w))) there.is in
      subst (λ (f : Frame). depth f.stack ≤ s.part.max_stack) same
      (subst (λ (most : ℕ). depth there.frame.stack ≤ most) (sym code.max_stack) low)

  abbrev frames_there : List PlacedFrame
  frames_there = placed_frames place 0 (stated_by_items w)

  table : HasTable code.pool (stated_by_items w)
  table = table_had laws.compares 64535 w.pool code.pool (stated_by_items w) code.grows

  name_there : frames_there ≢ [] → is_text stack_map_table (utf8_at s.class.pool (text_index code.pool stack_map_table)) ≡ true
  name_there some = by (stated_frames (stated_by_items w)) refl where
    by : (frames : List Frame) → stated_frames (stated_by_items w) ≡ frames
        → is_text stack_map_table (utf8_at s.class.pool (text_index code.pool stack_map_table)) ≡ true
    by [] none = absurd (some (none_placed place 0 (stated_by_items w) none))
    by (frame ∷ frames) is =
        let index = text_index code.pool stack_map_table in
        let text : utf8_at s.class.pool index ≡ Some stack_map_table =
        ap (λ (all : Constants). utf8_at all index) code.has
        ∙ text_more code.pool code.more index stack_map_table
        (table.name frame frames is) in
        ap (is_text stack_map_table) text

  abbrev setting : Setting
  setting = record {
    pool = s.class.pool;
    max_locals = s.part.max_locals;
    max_stack = s.part.max_stack;
    code = placed_items spelled w.items;
  }

  whole_here : (n : ℕ) (frame : Frame) → n < length w.items → w.state n ≡ Some frame
      → IsWhole s.part.max_locals w.items frame
  whole_here n frame within is =
      subst (λ (units : ℕ). IsWhole units w.items frame) (sym code.max_locals) (whole n frame within is)

  read_there : (entry : Frame) (frames : List PlacedFrame) (attrs : List InnerAttr) → IsFramesAttribute code.pool entry frames attrs
      → frames ≡ frames_there
      → entry ≡ entry_of (home_of s.class) s.method s.part
      → stated_in (home_of s.class) s.method s.part attrs ≡ frames
  read_there entry frames _ (no_attribute none) same entry_is = sym none
  read_there entry frames _ (one_attribute {names = names} {bytes = bytes} some named is_table read) same entry_is =
      let attr : InnerAttr = record { name = text_index code.pool stack_map_table; bytes = bytes } in
      let is_named : inner_is_named s.class.pool stack_map_table attr ≡ true =
      name_there (λ none. some (same ∙ none)) in
      let can : CanState setting names frames_there =
      subst (λ (all : Constants). CanState (record setting { pool = all }) names frames_there) (sym code.has)
      (frames_read spelled w.items take w.state code.pool code.more names named.0 s.part.max_locals s.part.max_stack 0 w.items
      (omega arith) whole_here deep table.classes (subst (λ (list : List PlacedFrame). AllByRecursion (IsNamed names) (placed_needs list)) same named.1)) in
      let given : stack_map_table_at setting entry bytes ≡ Ok frames =
      read setting (subst (CanState setting names) (sym same) can) in
      let here : frames_of (home_of s.class) s.method s.part (decoded s.part.code) attr ≡ Ok frames =
      ap (λ (instrs : Result (List Placed) _). frames_of (home_of s.class) s.method s.part instrs attr) decodes
      ∙ ap (λ (first : Frame). stack_map_table_at setting first bytes) (sym entry_is)
      ∙ given in
      rw (is_named) (ap read_or_none here)

  -- They are the placed frames of the items.
  pub stated_is : stated s ≡ placed_frames (start_in (starts_from (spelled_in w.form) 0 w.items)) 0 (stated_by_items w)
  stated_is =
      let starts : placed_frames (start_in w.laid.starts) 0 (stated_by_items w) ≡ frames_there =
      ap (λ (list : List ℕ). placed_frames (start_in list) 0 (stated_by_items w)) code.laid.starts in
      read_there (laid_body w 0).entry (placed_frames (start_in w.laid.starts) 0 (stated_by_items w)) s.part.attrs code.attrs starts (sym entries_same)
      ∙ starts

  module _ (access : PassAccess w s) where
    known : Known w s
    known = record {
      in_class = in_class;
      emitted = code.emitted;
      access = access;
      stated = λ n within.
          ap (λ (list : List PlacedFrame). frame_for list (number n)) stated_is
          ∙ stated_at_item spelled w.items take w.state (written_units w.flat) n within (λ frame is. whole n frame within is);
      assign = λ from to is. (laws.frames w.host.headers s.headers from to grown.headers).0 is;
      throws = λ caught is. (laws.throwables w.host.headers s.headers caught grown.headers).0 is;
    }

    -- ---- the whole

    body_typed : TypesBody body w.frames
    body_typed = laws.types body w.frames (in_order w.pool body.scope 0 (indexed w)) types

    ranges_are : s.part.handlers ≡ ranges_from spelled place 0 w.items
    ranges_are = code.handlers ∙ code.laid.handlers

    none_more : (gap : ℕ) → gap ≡ 0 + gap
    none_more gap = omega arith

    all_from : From w s known 0 0 w.items w.frames
    all_from = record {
      items = λ gap. ap (slice_get w.items) (none_more gap);
      frames = λ gap. ap (slice_get w.frames) (none_more gap);
      offsets = λ gap. ap number (sym (none_more gap));
      handlers = λ behind least. ap (catches_at s behind) ranges_are;
    }

    entry_there : fa body.entry ≡ (body_of s).entry
    entry_there =
        entry_same number (home_of w.host.class) w.host.method (record w.host.part { max_locals = written_units w.flat })
        ∙ sym entries_same

    instrs_typed : AreTyped (body_of s) (Some (body_of s).entry) (body_of s).points (map fa w.frames)
    instrs_typed =
        subst (λ (first : Frame). AreTyped (body_of s) (Some first) (body_of s).points (map fa w.frames)) entry_there
        (subst (λ (instrs : List Placed). AreTyped (body_of s) (Some (fa body.entry)) (map (point_of s) instrs) (map fa w.frames)) (sym placed)
        (typed_from w s known 0 0 w.items w.frames (Some body.entry) all_from take body_typed.catch_types body_typed.instrs))

    pub typed_by_offset : Typed s (frames_by_offset w)
    typed_by_offset =
        subst (λ (offsets : ℕ → ℕ). Typed s (map (frame_at offsets) w.frames)) (sym offsets_are) (record {
          catch_types =
              subst (λ (table : List Handler). AllByRecursion (CaughtIsThrowable s.headers) (map (caught_in s) table)) (sym ranges_are)
              (table_throws w s known 0 0 w.items body_typed.catch_types);
          instrs = instrs_typed;
        })

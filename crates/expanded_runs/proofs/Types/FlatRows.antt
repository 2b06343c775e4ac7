-- The row of each instruction of a method that stays in flat code, as it is read there: it holds, and the frame behind it may stand for
-- what the frame of the method may stand for.
use Rattle.flow_code.specs.ReadTypes.{class_of_site, is_site_object, read_frame, read_type}
use Rattle.member_link.specs.Rows.Readings.{Reading, reads_itself, reads_pop, row_by}
use Rattle.same_runs.specs.TypedFlats.{read_row, reading_of, reading_of_call, reading_of_new}
use Rattle.std.proofs.Common.{◌≡◌, ◌≢◌, ◌+◌, ◌-◌, ◌≤◌, ℕ, zero, suc, Bool, true, false, List, [], ◌∷◌, ◌++◌, length, map, take, drop, Option, Some, None, is_some, if◌then◌else◌, refl, sym, ap, subst, ◌∙◌, inl, inr, arith}
use Rattle.std.specs.Prelude.{◌==◌, ◌&&◌, ◌⊎◌, bytes_eq}
use Rattle.std.proofs.lemmas.Bool.{eqb-true}
use Rattle.std.proofs.lemmas.List.{drop-map, length-append, length-map}
use Rattle.std.proofs.lemmas.Option.{none-some, same_Some}
use Rattle.std.proofs.Math.Seq.{drop-append-add}
use Rattle.class_model.specs.Descriptors.{parameters_of}
use Rattle.class_model.specs.Names.{init}
use Rattle.class_model.specs.Pool.{Constants, constant_at}
use Rattle.class_model.specs.declared.frame.Frame.{Frame}
use Rattle.class_model.specs.declared.frame.VType.{VType}
use Rattle.class_model.specs.declared.frame.VType.TheVariants as types
use Rattle.class_model.specs.declared.instr.Instr.{Instr}
use Rattle.class_model.specs.declared.instr.Instr.TheVariants.{Invoke, New, Return}
use Rattle.class_model.specs.declared.opcodes.TheConstants.{INVOKESPECIAL}
use Rattle.class_tree.specs.Headers.{Name, Classes, Headers}
use Rattle.class_tree.specs.Names.{object}
use Rattle.expanded_code.specs.Expanded.{Setting, class_of, point_in, set_frame, set_instr, set_type}
use Rattle.expanded_runs.proofs.Types.FlatPlaces.{HasDepth, HasUnits, IsHostSetting, IsSiteSetting, StandsInFlat, ThisIs, all_read, frame_read, host_this, no_new_read, no_this_there, place_block, place_keeps, place_of, place_room, place_this, same_method, scope_same, site_this, this_read}
use Rattle.expanded_runs.proofs.Types.PlacedMembers.{IsNoSite, IsWithout, no_this, with_receiver}
use Rattle.expanded_runs.proofs.Types.PlacedReads.{GoesBehind, Reads, itself_reads, object_reads, pop_reads}
use Rattle.expanded_runs.proofs.Types.PlacedRows.{has_enough}
use Rattle.expanded_runs.proofs.Types.PlacedTable.{CallStays, Stays, placed_instr, row_moves}
use Rattle.expanded_runs.proofs.Types.PlacedThis.{IsWithoutThis, frame_without, none_behind}
use Rattle.expanded_runs.proofs.Types.PlacedTypes.{Place, flat_scope, placed_frame, this_type}
use Rattle.flow_code.specs.FlatCode.{FlatCode}
use Rattle.flow_code.specs.declared.point.FlatInstr.TheVariants.{Of}
use Rattle.member_link.specs.BodyTyping.{MayGoTo, RowHolds}
use Rattle.member_link.specs.Machine.CallSteps.{is_object_init}
use Rattle.member_link.specs.References.{Reference}
use Rattle.member_link.specs.RowScope.{RowScope}
use Rattle.member_link.specs.Rows.FrameAssignability.{IsFrameAssignable}
use Rattle.member_link.specs.Rows.MemberRows.{NoUninitThis, argument_needs, call_row, init_row, receiver}
use Rattle.member_link.specs.Rows.Operands.{lowest_of, topmost, under, uninitialised}
use Rattle.member_link.specs.Rows.Row.{Row, access_aside, row_frame}
use Rattle.member_link.specs.Rows.Table.{row_of, without_older}
use Rattle.member_link.specs.Scope.{Scope, row_scope}
use Rattle.member_link.specs.Signatures.{reference_of, result_of}
use Rattle.same_runs.specs.Flats.{host_scope, instr_scope}

-- ---- what is asked of an instruction that stays

-- A special call that stays. An initialiser is called on the object of no candidate site, but that of java/lang/Object on the object of an
-- initialiser that is a callee, and has no result; another method is called by the host alone.
pub record SpecialStays (s : Scope) (flat : FlatCode) (t : Setting) (frame : Frame) (r : Reference) : Type 0 where
  pub on_new : bytes_eq r.name init ≡ true
      → (new : ℕ) → receiver frame r.desc ≡ types.Uninit new
      → class_of_site flat.sites (t.number new) ≡ None
  pub on_this : bytes_eq r.name init ≡ true
      → receiver frame r.desc ≡ types.UninitThis
      → is_site_object flat t.this ≡ true
      → is_object_init r ≡ true
  pub no_result : bytes_eq r.name init ≡ true → result_of r.desc ≡ None
  pub other : bytes_eq r.name init ≡ false → IsHostSetting s t

-- A new: no other offset has its number, and where no site stands there callers have no object of this number.
pub record NewStaysAt (flat : FlatCode) (t : Setting) (at : ℕ) : Type 0 where
  pub apart : (other : ℕ) → (t.number other == t.number at) ≡ (other == at)
  pub below : class_of_site flat.sites (t.number at) ≡ None
      → IsWithout (types.Uninit (t.number at)) t.below.locals × IsWithout (types.Uninit (t.number at)) t.below.stack

-- the method that a constant of the method's class names
abbrev pub named_by : Setting → ℕ → Option Reference
named_by t index = reference_of t.coded.scope.class.pool (constant_at t.coded.scope.class.pool index)

abbrev pub StaysInFlat : Scope → FlatCode → Setting → Frame → ℕ → Instr → Type 0
StaysInFlat s flat t frame at (Return kind) = IsHostSetting s t
StaysInFlat s flat t frame at (Invoke opcode index count) =
    (opcode == INVOKESPECIAL) ≡ true → (r : Reference) → named_by t index ≡ Some r → SpecialStays s flat t frame r
StaysInFlat s flat t frame at (New index) = NewStaysAt flat t at
StaysInFlat s flat t frame at instr = Unit {0}

-- ---- what is proved of it

-- the row in the method, and the frame and the row in the flat code
abbrev pub own_row : Setting → Frame → ℕ → Instr → Row
own_row t frame at instr = row_of (row_scope t.coded.scope) frame at instr

abbrev pub flat_frame : FlatCode → Setting → Frame → Frame
flat_frame flat t frame = read_frame flat (set_frame t frame)

abbrev pub flat_row : Classes → Scope → FlatCode → Setting → Frame → ℕ → Instr → Row
flat_row classes s flat t frame at instr =
    read_row classes s flat (t.number at) (point_in t at (set_frame t frame) (set_instr t instr))

-- what the frame behind it in the method is in the flat code
pub record FlatBehind (s : Scope) (flat : FlatCode) (t : Setting) (g : Frame) (found : Option Frame) : Type 0 where
  pub frame : Frame
  pub is : found ≡ Some frame
  pub goes : (to : Frame) → IsFrameAssignable t.coded.scope.headers g to → IsFrameAssignable s.headers frame (flat_frame flat t to)

pub record FlatRow (classes : Classes) (s : Scope) (flat : FlatCode) (t : Setting) (frame : Frame) (at : ℕ) (instr : Instr)
    : Type 0 where
  pub holds : RowHolds (instr_scope classes s flat (Of (class_of t) (set_instr t instr))) (flat_frame flat t frame)
      (flat_row classes s flat t frame at instr)
  pub behind : (g : Frame)
      → row_frame frame (own_row t frame at instr) ≡ Some g
      → FlatBehind s flat t g (row_frame (flat_frame flat t frame) (flat_row classes s flat t frame at instr))
  pub stops : row_frame frame (own_row t frame at instr) ≡ None
      → row_frame (flat_frame flat t frame) (flat_row classes s flat t frame at instr) ≡ None

-- ---- lists

both_by : (a b : Bool) → (a && b) ≡ true → (a ≡ true) × (b ≡ true)
both_by true b is = (refl, is)
both_by false b is = absurd cc

joined_without : (ones others : List VType) → NoUninitThis ones → NoUninitThis others → NoUninitThis (ones ++ others)
joined_without [] others none also = also
joined_without (one ∷ ones) others none also = (none.0, joined_without ones others none.1 also)

taken_without : (count : ℕ) (entries : List VType) → NoUninitThis entries → NoUninitThis (take count entries)
taken_without zero entries none = tt
taken_without (suc count) [] none = tt
taken_without (suc count) (entry ∷ entries) none = (none.0, taken_without count entries none.1)

older_without : (at : ℕ) (entries : List VType) → NoUninitThis entries → NoUninitThis (map (without_older at) entries)
older_without at [] none = tt
older_without at (entry ∷ entries) none = (kept entry none.0, older_without at entries none.1) where
  kept : (type : VType) → type ≢ types.UninitThis → without_older at type ≢ types.UninitThis
  kept (types.Uninit other) not = by (other == at) where
    by : (b : Bool) → (if b then types.Top else types.Uninit other) ≢ types.UninitThis
    by true = λ e. absurd cc
    by false = λ e. absurd cc
  kept type not = not

-- the lowest of so many entries of a method, in its place
pub set_lowest : (t : Setting) (stack : List VType) (count : ℕ) → count ≤ length stack
    → lowest_of count (t.below.stack ++ map (set_type t) stack) ≡ set_type t (lowest_of count stack)
set_lowest t stack count enough = by (topmost count stack) refl where
  behind : length (t.below.stack ++ map (set_type t) stack) - count ≡ length t.below.stack + (length stack - count)
  behind = omega (arith, enough, length-append t.below.stack (map (set_type t) stack), length-map stack (set_type t))

  same : topmost count (t.below.stack ++ map (set_type t) stack) ≡ map (set_type t) (topmost count stack)
  same =
      ap (λ (n : ℕ). drop n (t.below.stack ++ map (set_type t) stack)) behind
      ∙ drop-append-add t.below.stack (map (set_type t) stack) (length stack - count)
      ∙ drop-map (set_type t) (length stack - count) stack

  by : (entries : List VType) → topmost count stack ≡ entries
      → lowest_of count (t.below.stack ++ map (set_type t) stack) ≡ set_type t (lowest_of count stack)
  by [] are = rw (same, are) refl
  by (entry ∷ entries) are = rw (same, are) refl

-- a special call of an initialiser
pub call_is_init : (sc : RowScope) (f : Frame) (opcode : ℕ) (found : Option Reference) (r : Reference) → (opcode == INVOKESPECIAL) ≡ true
    → found ≡ Some r → bytes_eq r.name init ≡ true → call_row sc f opcode found ≡ init_row sc f r
call_is_init sc f opcode found r special is is_init =
    ap (call_row sc f opcode) is
    ∙ subst (λ (o : ℕ). call_row sc f o (Some r) ≡ init_row sc f r) (sym (eqb-true opcode INVOKESPECIAL special)) (rw is_init refl)

module _ (classes : Classes) (s : Scope) (flat : FlatCode) (t : Setting) (stands : StandsInFlat classes s flat t) (frame : Frame)
    (at : ℕ) (this : Option Name) (this_is : ThisIs s flat t frame this) (units : HasUnits t frame) where
  abbrev p : Place
  p = place_of classes s flat t this

  abbrev row : Instr → Row
  row instr = own_row t frame at instr

  -- the row in the place, by how the instruction is read
  abbrev placed_row : Instr → Reading → Row
  placed_row instr reading =
      row_by reading (placed_frame p frame)
      (row_of (flat_scope p) (placed_frame p frame) (t.number at) (placed_instr p instr))

  -- how an instruction is read
  abbrev read_as : Instr → Reading
  read_as instr = reading_of classes flat (t.number at) (set_frame t frame) (Of (class_of t) (set_instr t instr))

  pub record ReadsAs (instr : Instr) (reading : Reading) : Type 0 where
    pub reads : Reads p frame (row instr) (placed_row instr reading)
    pub without : IsWithoutThis frame → this ≡ None → (g : Frame) → row_frame frame (row instr) ≡ Some g → IsWithoutThis g

  abbrev Held : Instr → Type 0
  Held instr = RowHolds (row_scope t.coded.scope) frame (access_aside (row instr))

  itself : (instr : Instr) → Stays p frame at instr → Held instr → HasDepth flat t frame (row instr) → ReadsAs instr reads_itself
  itself instr stays held depth = record {
    reads = itself_reads p frame (row instr) _
        (row_moves p frame (place_block classes s flat t this frame units) (place_this classes s flat t frame this this_is)
        (place_keeps classes s flat t this stands) at instr stays held.local held.further held.operands)
        held (place_room classes s flat t this frame (row instr) depth);
    without = λ none no_site g is. none_behind p frame none no_site (place_block classes s flat t this frame units)
        (place_keeps classes s flat t this stands) at instr stays held g is;
  }

  -- ---- a new

  new_reads : (index : ℕ) (site : Option Name) → class_of_site flat.sites (t.number at) ≡ site → NewStaysAt flat t at
      → Held (New index) → HasDepth flat t frame (row (New index)) → ReadsAs (New index) (reading_of_new site)
  new_reads index None is stays held depth = itself (New index) (record {
    no_site = is;
    apart = stays.apart;
    below_locals = all_read flat _ (no_new_read flat (t.number at)) t.below.locals (stays.below is).0;
    below_stack = all_read flat _ (no_new_read flat (t.number at)) t.below.stack (stays.below is).1;
  }) held depth
  new_reads index (Some name) is stays held depth = record {
    reads = object_reads p frame at name is held (place_room classes s flat t this frame (row (New index)) depth);
    without = λ none no_site g same.
        subst IsWithoutThis (same_Some _ g same) (
          older_without at frame.locals none.0,
          joined_without (under 0 frame.stack) (types.Uninit at ∷ []) (taken_without _ frame.stack none.1) (λ e. absurd cc, tt),
        );
  }

  -- ---- a call

  module _ (opcode index count : ℕ) (special : (opcode == INVOKESPECIAL) ≡ true) (r : Reference) (named : named_by t index ≡ Some r)
      (stays : SpecialStays s flat t frame r) (held : Held (Invoke opcode index count)) where
    abbrev call : Instr
    call = Invoke opcode index count

    row_is : bytes_eq r.name init ≡ true → row call ≡ init_row (row_scope t.coded.scope) frame r
    row_is is_init = call_is_init (row_scope t.coded.scope) frame opcode (named_by t index) r special named is_init

    init_held : bytes_eq r.name init ≡ true → RowHolds (row_scope t.coded.scope) frame (access_aside (init_row (row_scope t.coded.scope) frame r))
    init_held is_init = subst (λ (own : Row). RowHolds (row_scope t.coded.scope) frame (access_aside own)) (row_is is_init) held

    receiver_set : bytes_eq r.name init ≡ true → receiver (set_frame t frame) r.desc ≡ set_type t (receiver frame r.desc)
    receiver_set is_init =
        set_lowest t frame.stack (length (parameters_of r.desc) + 1)
        (omega (
          arith,
          has_enough (row_scope t.coded.scope) (uninitialised ∷ argument_needs r.desc) frame.stack (init_held is_init).operands,
          with_receiver p frame r.desc,
        ))

    abbrev on_site : Bool
    on_site = is_site_object flat (receiver (set_frame t frame) r.desc)

    -- the object of a site that is the method's own
    on_site_this : (name : Name) → IsSiteSetting flat t name → is_site_object flat t.this ≡ true
    on_site_this name is = ap (is_site_object flat) is.this ∙ ap is_some is.site

    this_no_site : ThisIs s flat t frame this → bytes_eq r.name init ≡ true → receiver frame r.desc ≡ types.UninitThis
        → (is_object_init r ≡ true → on_site ≡ true → ⊥) → this ≡ None
    this_no_site (host_this host none) is_init on_this apart = none
    this_no_site (site_this name is this_is) is_init on_this apart =
        let there : is_site_object flat t.this ≡ true = on_site_this name is in
        absurd (apart (stays.on_this is_init on_this there)
        (ap (is_site_object flat) (receiver_set is_init ∙ ap (set_type t) on_this) ∙ there))
    this_no_site (no_this_there without none) is_init on_this apart = none

    no_site_object : bytes_eq r.name init ≡ true → (is_object_init r ≡ true → on_site ≡ true → ⊥) → (type : VType)
        → receiver frame r.desc ≡ type → IsNoSite p type
    no_site_object is_init apart (types.Uninit new) is = stays.on_new is_init new is
    no_site_object is_init apart types.UninitThis is = this_no_site this_is is_init is apart
    no_site_object is_init apart other is = tt

    -- the call is read as it is
    itself_stays : (is_object_init r ≡ true → on_site ≡ true → ⊥) → CallStays p frame (named_by t index)
    itself_stays apart = record {
      initialiser = λ one is is_init.
          let same : one ≡ r = same_Some one r (sym is ∙ named) in
          subst (λ (q : Reference). IsNoSite p (receiver frame q.desc)) (sym same)
          (no_site_object (subst (λ (q : Reference). bytes_eq q.name init ≡ true) same is_init) apart (receiver frame r.desc) refl);
      special = λ one is not.
          let same : one ≡ r = same_Some one r (sym is ∙ named) in
          same_method classes s flat t this (stays.other (subst (λ (q : Reference). bytes_eq q.name init ≡ false) same not));
    }

    -- or as pop
    pop_this : bytes_eq r.name init ≡ true → on_site ≡ true → receiver frame r.desc ≡ types.UninitThis
    pop_this is_init site =
        of_object (receiver frame r.desc) refl (sym (ap (is_site_object flat) (receiver_set is_init)) ∙ site) where
          of_object : (type : VType) → receiver frame r.desc ≡ type → is_site_object flat (set_type t type) ≡ true
              → receiver frame r.desc ≡ types.UninitThis
          of_object (types.Uninit new) is there =
              let none : is_some (class_of_site flat.sites (t.number new)) ≡ false = ap is_some (stays.on_new is_init new is) in
              absurd cc
          of_object types.UninitThis is there = is
          of_object other is there = absurd cc

    module _ (depth : HasDepth flat t frame (row call)) (is_init : bytes_eq r.name init ≡ true) (site : on_site ≡ true) where
      is_this : receiver frame r.desc ≡ types.UninitThis
      is_this = pop_this is_init site

      site_of_this : is_site_object flat t.this ≡ true
      site_of_this = sym (ap (is_site_object flat) (receiver_set is_init ∙ ap (set_type t) is_this)) ∙ site

      pop : ThisIs s flat t frame this → ReadsAs call (reads_pop r.desc)
      pop (host_this host none) =
          let no : is_site_object flat t.this ≡ false = ap (is_site_object flat) host.this in
          let yes = site_of_this in
          absurd cc
      pop (no_this_there none no_site) = absurd (no_this p frame (length (parameters_of r.desc) + 1) none.1 is_this)
      pop (site_this name is name_is) = record {
        reads = subst (λ (own : Row). Reads p frame own (placed_row call (reads_pop r.desc))) (sym (row_is is_init))
            (pop_reads p frame r is_this (stays.no_result is_init) name name_is is.at_or_below is.no_array is.no_array_above
            (init_held is_init)
            (place_room classes s flat t this frame (init_row (row_scope t.coded.scope) frame r)
            (subst (λ (own : Row). HasDepth flat t frame own) (row_is is_init) depth)));
        without = λ none no_site g same. absurd (none-some name (sym no_site ∙ name_is));
      }

    pub special_reads : HasDepth flat t frame (row call) → (pops : Bool) → (is_object_init r && on_site) ≡ pops
        → ReadsAs call (if pops then reads_pop r.desc else reads_itself)
    special_reads depth true is =
        let both = both_by (is_object_init r) on_site is in
        let is_init : bytes_eq r.name init ≡ true = (both_by (bytes_eq r.class object) (bytes_eq r.name init) both.0).1 in
        pop depth is_init both.1 this_is
    special_reads depth false is = itself call
        (λ also. itself_stays (λ one two. let both : (is_object_init r && on_site) ≡ true = rw (one, two) refl in absurd cc)) held depth

  other_stays : (opcode index count : ℕ) → (opcode == INVOKESPECIAL) ≡ false → Stays p frame at (Invoke opcode index count)
  other_stays opcode index count other = λ special. absurd cc

  none_stays : (opcode index count : ℕ) → named_by t index ≡ None → Stays p frame at (Invoke opcode index count)
  none_stays opcode index count none = λ special. record {
    initialiser = λ r is is_init. absurd (none-some r (sym none ∙ is));
    special = λ r is not. absurd (none-some r (sym none ∙ is));
  }

  call_reads : (opcode index count : ℕ) → StaysInFlat s flat t frame at (Invoke opcode index count) → Held (Invoke opcode index count)
      → HasDepth flat t frame (row (Invoke opcode index count))
      → (special : Bool) → (opcode == INVOKESPECIAL) ≡ special → (found : Option Reference) → named_by t index ≡ found
      → ReadsAs (Invoke opcode index count) (reading_of_call flat (set_frame t frame) opcode found)
  call_reads opcode index count stays held depth special is None named =
      itself (Invoke opcode index count) (none_stays opcode index count named) held depth
  call_reads opcode index count stays held depth false is (Some r) named =
      rw (is) (itself (Invoke opcode index count) (other_stays opcode index count is) held depth)
  call_reads opcode index count stays held depth true is (Some r) named =
      rw (is) (special_reads opcode index count is r named (stays is r named) held depth
      (is_object_init r && is_site_object flat (receiver (set_frame t frame) r.desc)) refl)

  -- ---- any instruction

  reads_all : (instr : Instr) → StaysInFlat s flat t frame at instr → Held instr → HasDepth flat t frame (row instr)
      → ReadsAs instr (read_as instr)
  reads_all (New index) stays held depth = new_reads index (class_of_site flat.sites (t.number at)) refl stays held depth
  reads_all (Invoke opcode index count) stays held depth =
      subst (λ (pool : Constants). ReadsAs (Invoke opcode index count)
      (reading_of_call flat (set_frame t frame) opcode (reference_of pool (constant_at pool index)))) (sym stands.pool)
      (call_reads opcode index count stays held depth (opcode == INVOKESPECIAL) refl (named_by t index) refl)
  reads_all (Return kind) stays held depth = itself (Return kind) (same_method classes s flat t this stays) held depth
  reads_all instr stays held depth = itself instr tt held depth

  module _ (instr : Instr) (stays : StaysInFlat s flat t frame at instr) (held : Held instr) (depth : HasDepth flat t frame (row instr)) where
    does : ReadsAs instr (read_as instr)
    does = reads_all instr stays held depth

    here_read : (read_type flat t.this ≡ this_type this) ⊎ (IsWithoutThis frame × (this ≡ None))
    here_read = this_read classes s flat t frame this this_is

    frame_is : flat_frame flat t frame ≡ placed_frame p frame
    frame_is = of here_read where
      of : (read_type flat t.this ≡ this_type this) ⊎ (IsWithoutThis frame × (this ≡ None))
          → flat_frame flat t frame ≡ placed_frame p frame
      of (inl same) = frame_read classes s flat t this frame (inl same)
      of (inr none) = frame_read classes s flat t this frame (inr none.0)

    abbrev row_in : RowScope → Frame → Row
    row_in sc h = row_by (read_as instr) h (row_of sc h (t.number at) (placed_instr p instr))

    abbrev sc : RowScope
    sc = instr_scope classes s flat (Of (class_of t) (set_instr t instr))

    scope_is : sc ≡ flat_scope p
    scope_is = scope_same classes s flat t this stands (set_instr t instr)

    -- a frame that what is behind it may stand for is read as it is in the place
    to_is : (g to : Frame) → row_frame frame (row instr) ≡ Some g → IsFrameAssignable t.coded.scope.headers g to
        → flat_frame flat t to ≡ placed_frame p to
    to_is g to is assignable = of here_read where
      of : (read_type flat t.this ≡ this_type this) ⊎ (IsWithoutThis frame × (this ≡ None)) → flat_frame flat t to ≡ placed_frame p to
      of (inl same) = frame_read classes s flat t this to (inl same)
      of (inr none) =
          frame_read classes s flat t this to
          (inr (frame_without t.coded.scope.headers g to assignable (does.without none.0 none.1 g is)))

    found_is : row_frame (flat_frame flat t frame) (flat_row classes s flat t frame at instr) ≡ row_frame (placed_frame p frame)
        (row_in (flat_scope p) (placed_frame p frame))
    found_is =
        ap (λ (x : RowScope). row_frame (flat_frame flat t frame) (row_in x (flat_frame flat t frame))) scope_is
        ∙ ap (λ (h : Frame). row_frame h (row_in (flat_scope p) h)) frame_is

    goes_in : (g : Frame) → row_frame frame (row instr) ≡ Some g
        → GoesBehind p g (row_frame (placed_frame p frame) (row_in (flat_scope p) (placed_frame p frame)))
        → FlatBehind s flat t g (row_frame (flat_frame flat t frame) (flat_row classes s flat t frame at instr))
    goes_in g is behind = record {
      frame = behind.frame;
      is = found_is ∙ behind.is;
      goes = λ to assignable.
          subst (λ (headers : Headers). IsFrameAssignable headers behind.frame (flat_frame flat t to)) stands.headers
          (subst (λ (h : Frame). IsFrameAssignable t.coded.scope.headers behind.frame h) (sym (to_is g to is assignable))
          (behind.goes to assignable));
    }

    -- The row of an instruction that stays holds in flat code.
    pub flat_row_holds : FlatRow classes s flat t frame at instr
    flat_row_holds = record {
      holds =
          subst (λ (x : RowScope). RowHolds x (flat_frame flat t frame) (row_in x (flat_frame flat t frame))) (sym scope_is)
          (subst (λ (h : Frame). RowHolds (flat_scope p) h (row_in (flat_scope p) h)) (sym frame_is) does.reads.holds);
      behind = λ g is. goes_in g is (does.reads.behind g is);
      stops = λ none. found_is ∙ does.reads.stops none;
    }

-- ---- in the form of edges

-- The frame behind an instruction goes to the frame of a place, in its place, where it goes there in the method.
pub goes_in_flat : (classes : Classes) (s : Scope) (flat : FlatCode) (t : Setting) (frame : Frame) (at : ℕ) (instr : Instr)
    → FlatRow classes s flat t frame at instr
    → (to : Frame)
    → MayGoTo (row_scope t.coded.scope) (row_frame frame (own_row t frame at instr)) (Some to)
    → MayGoTo (host_scope classes s flat) (row_frame (flat_frame flat t frame) (flat_row classes s flat t frame at instr))
    (Some (flat_frame flat t to))
goes_in_flat classes s flat t frame at instr row to goes =
    by (row_frame frame (own_row t frame at instr)) refl goes where
      by : (found : Option Frame) → row_frame frame (own_row t frame at instr) ≡ found
          → MayGoTo (row_scope t.coded.scope) found (Some to)
          → MayGoTo (host_scope classes s flat) (row_frame (flat_frame flat t frame) (flat_row classes s flat t frame at instr))
          (Some (flat_frame flat t to))
      by None is none = absurd none
      by (Some g) is assignable =
          let behind = row.behind g is in
          subst (λ (found : Option Frame). MayGoTo (host_scope classes s flat) found (Some (flat_frame flat t to))) (sym behind.is)
          (behind.goes to assignable)

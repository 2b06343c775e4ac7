-- Where the block of a method begins in flat code, no value of two units of its callers stands across.
use Rattle.std.proofs.Common.{◌≡◌, ◌≢◌, ◌+◌, ◌≤◌, ◌⊎◌, ℕ, zero, suc, false, List, [], ◌∷◌, length, map, slice_get, Option, Some, None, option_map, refl, sym, ap, ◌∙◌, arith, inl, inr}
use Rattle.std.proofs.lemmas.List.{length-map}
use Rattle.std.proofs.lemmas.Option.{none-some, same_Some, slice_get-map, slice_get_within}
use Rattle.class_model.specs.Frames.{is_wide}
use Rattle.class_model.specs.declared.class_file.MethodAt.{MethodAt}
use Rattle.class_model.specs.declared.frame.Frame.{Frame}
use Rattle.class_model.specs.declared.frame.VType.{VType}
use Rattle.class_model.specs.declared.frame.VType.TheVariants as types
use Rattle.class_tree.specs.Headers.{Classes}
use Rattle.expanded_code.specs.Expanded.{Setting, set_frame, set_type}
use Rattle.expanded_code.specs.Expansions.{Coded, Expansion}
use Rattle.expanded_code.specs.Sites.{HasFrames}
use Rattle.expanded_runs.proofs.Runs.PositionLaws.{block_least}
use Rattle.expanded_runs.proofs.Runs.Positions.{Standing, block_of, frames_of, scope_of}
use Rattle.expanded_runs.proofs.Runs.Standings.{IsStanding, Stands, callee_stands, host_stands}
use Rattle.expanded_runs.proofs.Types.FlatPlaces.{HasUnits}
use Rattle.expanded_runs.proofs.Types.FrameFacts.{FrameFacts, HasRoom, frame_fits, has_room}
use Rattle.expanded_runs.proofs.Types.OwnPoints.{TypingLaws, typed_method}
use Rattle.expanded_code.specs.Laws.RowUnits.{ArePaired, NarrowBefore, narrow_end}
use Rattle.expanded_runs.proofs.Types.TypedUnits.{typed_units}
use Rattle.expanded_runs.proofs.Types.Units.{Where, get_inside, get_outside, inside, outside, where_is}
use Rattle.flow_code.specs.TypedFrames.{FolderFrames}
use Rattle.member_link.specs.Rows.MemberRows.{NoUninitThis}
use Rattle.member_link.specs.Scope.{Scope, instructions}
use Rattle.type_rules.specs.MethodBodies.{point_of}
use Rattle.type_rules.specs.Stated.{entry}
use Rattle.type_rules.specs.Verified.{TypesFolder}

-- ---- of each method of a folder

-- its typed frames have their units in pairs
pub folder_paired : TypingLaws → {classes : Classes} {typed : FolderFrames} → TypesFolder classes typed
    → (at : MethodAt) (s : Scope) (frames : List Frame) → HasFrames classes typed at s frames
    → (k : ℕ) (frame : Frame) → slice_get frames k ≡ Some frame
    → ArePaired frame.locals
folder_paired laws folder at s frames has k frame is =
    let method = typed_method laws folder has in
    (typed_units s frames method (method.has.one_each ∙ length-map (instructions s) (point_of s)) k frame is).paired

-- and those of its code, if the frame that it begins with has these
pub folder_long : TypingLaws → {classes : Classes} {typed : FolderFrames} → TypesFolder classes typed
    → (at : MethodAt) (s : Scope) (frames : List Frame) → HasFrames classes typed at s frames
    → length (entry s).locals ≡ s.part.max_locals
    → (k : ℕ) (frame : Frame) → slice_get frames k ≡ Some frame
    → length frame.locals ≡ s.part.max_locals
folder_long laws folder at s frames has entered k frame is =
    let method = typed_method laws folder has in
    (typed_units s frames method (method.has.one_each ∙ length-map (instructions s) (point_of s)) k frame is).long entered

-- ---- types in their place

-- an uninitialised this is not taken for a value of two units
abbrev pub HasNarrowThis : Setting → Frame → Type 0
HasNarrowThis t frame = (is_wide t.this ≡ false) ⊎ NoUninitThis frame.locals

no_this_at : (locals : List VType) (n : ℕ) → NoUninitThis locals → slice_get locals n ≢ Some types.UninitThis
no_this_at [] n none = λ is. absurd cc
no_this_at (type ∷ locals) zero none = λ is. none.0 (same_Some type types.UninitThis is)
no_this_at (type ∷ locals) (suc n) none = no_this_at locals n none.1

narrow_set : (t : Setting) (frame : Frame) → HasNarrowThis t frame → (n : ℕ) (type : VType) → slice_get frame.locals n ≡ Some type
    → is_wide type ≡ false → is_wide (set_type t type) ≡ false
narrow_set t frame (inl this) n types.UninitThis there narrow = this
narrow_set t frame (inr none) n types.UninitThis there narrow = absurd (no_this_at frame.locals n none there)
narrow_set t frame this n (types.Uninit at) there narrow = refl
narrow_set t frame this n type there narrow = narrow

module _ {classes : Classes} {typed : FolderFrames} (facts : FrameFacts classes typed)
    (paired : (at : MethodAt) (s : Scope) (frames : List Frame) → HasFrames classes typed at s frames
    → (k : ℕ) (frame : Frame) → slice_get frames k ≡ Some frame → ArePaired frame.locals)
    (host : Coded) (e : Expansion)
    (stands : (chain : List MethodAt) (p : Standing) → IsStanding host e chain p → Stands classes typed host e chain p)
    (this_narrow : (chain : List MethodAt) (p : Standing) → IsStanding host e chain p → (k : ℕ) (frame : Frame)
    → slice_get (frames_of p) k ≡ Some frame → HasNarrowThis p.setting frame) where
  -- a unit of a frame in its place that ends where a callee's block begins
  module _ {chain : List MethodAt} {p : Standing} (below : IsStanding host e chain p) (k : ℕ) (frame : Frame)
      (has : slice_get (frames_of p) k ≡ Some frame) (earlier : NarrowBefore p.setting.unit p.setting.below.locals)
      (before : ℕ) (type : VType) (is : block_of p k ≡ suc before)
      (found : slice_get (set_frame p.setting frame).locals before ≡ Some type) where
    abbrev t : Setting
    t = p.setting

    fits : t.unit + length (map (set_type t) frame.locals) ≤ length t.below.locals
    fits = omega (arith, frame_fits facts host e stands below k frame has, length-map frame.locals (set_type t))

    long : length frame.locals ≡ (scope_of p).part.max_locals
    long = facts.long t.coded.at (scope_of p) (frames_of p) (stands chain p below).has k frame has

    least : t.unit + length frame.locals ≤ suc before
    least =
        let own = (stands chain p below).own_units in
        let block = block_least p.block p.expansion k in
        omega (arith, own, block, is, long)

    room : HasRoom facts host e stands p
    room = has_room facts host e stands below

    by : Where t.unit (length (map (set_type t) frame.locals)) before → is_wide type ≡ false
    by (outside (inl less)) =
        let many = length-map frame.locals (set_type t) in
        let none : t.unit ≡ suc before = omega (arith, least, less) in
        earlier before type none
        (sym (get_outside t.unit (map (set_type t) frame.locals) t.below.locals fits before (inl less)) ∙ found)
    by (outside (inr behind)) =
        let under = get_outside t.unit (map (set_type t) frame.locals) t.below.locals fits before (inr behind) in
        let there : slice_get t.below.locals before ≡ Some type = sym under ∙ found in
        let top = room.tops.each before (omega (arith, behind)) (slice_get_within t.below.locals before type there) in
        ap is_wide (sym (same_Some types.Top type (sym top ∙ there)))
    by (inside m place within) =
        let many = length-map frame.locals (set_type t) in
        let there : slice_get (map (set_type t) frame.locals) m ≡ Some type =
        sym (get_inside t.unit (map (set_type t) frame.locals) t.below.locals fits m within)
        ∙ ap (slice_get (set_frame t frame).locals) (sym place) ∙ found in
        let last : length frame.locals ≡ suc m = omega (arith, least, place, within, many) in
        of_own m last (slice_get frame.locals m) refl (sym (slice_get-map (set_type t) frame.locals m) ∙ there)
      where
        of_own : (m : ℕ) → length frame.locals ≡ suc m → (own : Option VType) → slice_get frame.locals m ≡ own
            → option_map (set_type t) own ≡ Some type → is_wide type ≡ false
        of_own m last None there same = absurd (none-some type same)
        of_own m last (Some own) there same =
            let narrow = narrow_end frame.locals
            (paired t.coded.at (scope_of p) (frames_of p) (stands chain p below).has k frame has) m own last there in
            ap is_wide (sym (same_Some (set_type t own) type same))
            ∙ narrow_set t frame (this_narrow chain p below k frame has) m own there narrow

    pub narrow_there : is_wide type ≡ false
    narrow_there = by (where_is t.unit (length (map (set_type t) frame.locals)) before)

  -- Where the block of a method begins.
  pub narrow_block : {chain : List MethodAt} {p : Standing} → IsStanding host e chain p
      → NarrowBefore p.setting.unit p.setting.below.locals
  narrow_block host_stands before type is found = absurd (omega (arith, is))
  narrow_block (callee_stands {p = p} k placed frame g inner below at) before type is found =
      narrow_there below k frame at.has_frame (narrow_block below) before type is found

  -- the local units of an instruction's frame in flat code
  pub has_units : {chain : List MethodAt} {p : Standing} → IsStanding host e chain p → (k : ℕ) (frame : Frame)
      → slice_get (frames_of p) k ≡ Some frame
      → HasUnits p.setting frame
  has_units standing k frame has = record {
    within = frame_fits facts host e stands standing k frame has;
    narrow = narrow_block standing;
  }

-- What is known of the frames of each typed method, and what follows for its frames in flat code: how many units they have, and which are Top.
use Rattle.std.proofs.Common.{◌≡◌, ◌+◌, ◌≤◌, ℕ, true, List, [], length, map, replicate, slice_get, Some, refl, ap, ◌∙◌, arith, inr}
use Rattle.std.proofs.lemmas.List.{length-map, length-replicate}
use Rattle.class_model.specs.Descriptors.{parameters_of}
use Rattle.class_model.specs.Members.{STATIC, has}
use Rattle.class_model.specs.declared.class_file.MethodAt.{MethodAt}
use Rattle.class_model.specs.declared.frame.Frame.{Frame}
use Rattle.class_model.specs.declared.frame.VType.{VType}
use Rattle.class_model.specs.declared.frame.VType.TheVariants as types
use Rattle.class_tree.specs.Headers.{Classes, Headers}
use Rattle.expanded_code.specs.Expanded.{Setting, expanded, set_frame, set_type}
use Rattle.expanded_code.specs.Expansions.{Coded, Expansion}
use Rattle.expanded_code.specs.Sites.{HasFrames}
use Rattle.expanded_runs.proofs.Runs.PositionLaws.{block_least}
use Rattle.expanded_runs.proofs.Runs.Positions.{Standing, block_of, frames_of, scope_of}
use Rattle.expanded_runs.proofs.Runs.Standings.{IsStanding, Stands, callee_stands, host_stands}
use Rattle.expanded_runs.proofs.Types.ThroughClass.{IsKnown}
use Rattle.expanded_runs.proofs.Types.Units.{TopsFrom, as_long, block_long, each_assignable, get_outside, get_replicate, item_there}
use Rattle.flow_code.specs.TypedFrames.{FolderFrames}
use Rattle.member_link.specs.Assignability.{IsAssignable, from_null, of_names, to_same, to_top}
use Rattle.member_link.specs.Rows.FrameAssignability.{AreAssignable, IsFrameAssignable}
use Rattle.member_link.specs.Scope.{Scope, own_descriptor}
use Rattle.type_rules.specs.Stated.{entry}

-- ---- frames of a method by itself

-- Each frame of a typed method has the units of its code, the frame that it begins with may stand for its first, and the types on a stack name
-- classes that are there.
pub record FrameFacts (classes : Classes) (typed : FolderFrames) : Type 0 where
  pub long : (at : MethodAt) (s : Scope) (frames : List Frame) → HasFrames classes typed at s frames
      → (k : ℕ) (frame : Frame) → slice_get frames k ≡ Some frame
      → length frame.locals ≡ s.part.max_locals
  pub entered : (at : MethodAt) (s : Scope) (frames : List Frame) → HasFrames classes typed at s frames
      → (first : Frame) → slice_get frames 0 ≡ Some first
      → IsFrameAssignable s.headers (entry s) first
  pub known : (at : MethodAt) (s : Scope) (frames : List Frame) → HasFrames classes typed at s frames
      → (k : ℕ) (frame : Frame) → slice_get frames k ≡ Some frame
      → (n : ℕ) (type : VType) → slice_get frame.stack n ≡ Some type
      → IsKnown s.headers type

-- only Top is assignable from Top
pub top_only : {headers : Headers} {from to : VType} → IsAssignable headers from to → from ≡ types.Top → to ≡ types.Top
top_only (to_same type) is = is
top_only (to_top type) is = refl
top_only (from_null name) is = absurd cc
top_only (of_names low high named) is = absurd cc

pub tops_reached : (headers : Headers) (from : ℕ) (ones others : List VType) → AreAssignable headers ones others → TopsFrom from ones
    → TopsFrom from others
tops_reached headers from ones others are tops = record {
  each = λ n least within.
      let long = as_long headers ones others are in
      let there = item_there others n within in
      there.1
      ∙ ap Some (top_only (each_assignable headers ones others are n types.Top there.0
      (tops.each n least (omega (arith, within, long))) there.1) refl);
}

pub tops_replicate : (count : ℕ) → TopsFrom 0 (replicate count types.Top)
tops_replicate count = record { each = λ n least within. get_replicate count types.Top n (omega (arith, within, length-replicate count types.Top)) }

-- a static method without parameters begins with nothing
pub nothing_entered : (s : Scope) → has s.method.flags STATIC ≡ true → parameters_of (own_descriptor s) ≡ []
    → TopsFrom 0 (entry s).locals
nothing_entered s static none = rw (static, none) (tops_replicate _)

-- ---- in flat code

-- the units of a frame in its place
pub set_long : (t : Setting) (frame : Frame) → t.unit + length frame.locals ≤ length t.below.locals
    → length (set_frame t frame).locals ≡ length t.below.locals
set_long t frame fits =
    block_long t.unit (map (set_type t) frame.locals) t.below.locals (omega (arith, fits, length-map frame.locals (set_type t)))

pub set_tops : (t : Setting) (frame : Frame) → t.unit + length frame.locals ≤ length t.below.locals → (from : ℕ)
    → t.unit + length frame.locals ≤ from
    → TopsFrom t.unit t.below.locals
    → TopsFrom from (set_frame t frame).locals
set_tops t frame fits from least tops = record {
  each = λ n behind within.
      let own = map (set_type t) frame.locals in
      let long = length-map frame.locals (set_type t) in
      get_outside t.unit own t.below.locals (omega (arith, fits, long)) n (inr (omega (arith, least, behind, long)))
      ∙ tops.each n (omega (arith, least, behind)) (omega (arith, within, set_long t frame fits));
}

module _ {classes : Classes} {typed : FolderFrames} (facts : FrameFacts classes typed) (host : Coded) (e : Expansion)
    (stands : (chain : List MethodAt) (p : Standing) → IsStanding host e chain p → Stands classes typed host e chain p) where
  -- what a method's callers have has all units of the flat code, and is Top from its own first unit on
  pub record HasRoom (p : Standing) : Type 0 where
    pub all : length p.setting.below.locals ≡ (expanded host e).locals
    pub tops : TopsFrom p.setting.unit p.setting.below.locals

  pub own_long : {chain : List MethodAt} {p : Standing} → IsStanding host e chain p → (k : ℕ) (frame : Frame)
      → slice_get (frames_of p) k ≡ Some frame
      → length frame.locals ≡ (scope_of p).part.max_locals
  own_long {p = p} standing k frame is = facts.long p.setting.coded.at (scope_of p) (frames_of p) (stands _ p standing).has k frame is

  fits_room : {chain : List MethodAt} {p : Standing} → IsStanding host e chain p → HasRoom p → (k : ℕ) (frame : Frame)
      → slice_get (frames_of p) k ≡ Some frame
      → p.setting.unit + length frame.locals ≤ length p.setting.below.locals
  fits_room {p = p} standing room k frame is =
      let s = stands _ p standing in
      let own = own_long standing k frame is in
      let all = room.all in
      omega (arith, own, all, s.own_units, s.all_units)

  pub has_room : {chain : List MethodAt} {p : Standing} → IsStanding host e chain p → HasRoom p
  has_room host_stands = record {
    all = length-replicate _ _;
    tops = tops_replicate _;
  }
  has_room (callee_stands {p = p} k placed frame g inner below at) =
      let room = has_room below in
      let fits = fits_room below room k frame at.has_frame in
      let s = stands _ p below in
      let least = block_least p.block p.expansion k in
      let own = own_long below k frame at.has_frame in
      record {
        all = set_long p.setting frame fits ∙ room.all;
        tops = set_tops p.setting frame fits (block_of p k) (omega (arith, least, own, s.own_units)) room.tops;
      }

  pub frame_fits : {chain : List MethodAt} {p : Standing} → IsStanding host e chain p → (k : ℕ) (frame : Frame)
      → slice_get (frames_of p) k ≡ Some frame
      → p.setting.unit + length frame.locals ≤ length p.setting.below.locals
  frame_fits standing k frame is = fits_room standing (has_room standing) k frame is

  -- a frame in its place has all units, and is Top behind its own
  pub whole : {chain : List MethodAt} {p : Standing} → IsStanding host e chain p → (k : ℕ) (frame : Frame)
      → slice_get (frames_of p) k ≡ Some frame
      → length (set_frame p.setting frame).locals ≡ (expanded host e).locals
  whole {p = p} standing k frame is = set_long p.setting frame (frame_fits standing k frame is) ∙ (has_room standing).all

  pub tops_behind : {chain : List MethodAt} {p : Standing} → IsStanding host e chain p → (k : ℕ) (frame : Frame)
      → slice_get (frames_of p) k ≡ Some frame
      → TopsFrom (p.setting.unit + (scope_of p).part.max_locals) (set_frame p.setting frame).locals
  tops_behind {p = p} standing k frame is =
      set_tops p.setting frame (frame_fits standing k frame is) (p.setting.unit + (scope_of p).part.max_locals)
      (omega (arith, own_long standing k frame is)) (has_room standing).tops

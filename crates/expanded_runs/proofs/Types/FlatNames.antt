-- What is known of the names in the typed frames of methods is known of those at the points of expanded code.
use Rattle.std.proofs.Common.{◌≡◌, ◌+◌, ℕ, Bool, true, false, List, [], ◌∷◌, ◌++◌, drop, length, map, replicate, reverse, take, slice_get, Option, Some, None, refl}
use Rattle.std.specs.List.{AllByRecursion}
use Rattle.class_model.specs.declared.class_file.MethodAt.{MethodAt}
use Rattle.class_model.specs.declared.descriptor.FieldType.{FieldType}
use Rattle.class_model.specs.declared.descriptor.FieldType.TheVariants as field_types
use Rattle.class_model.specs.declared.frame.Frame.{Frame}
use Rattle.class_model.specs.declared.frame.VType.{VType}
use Rattle.class_model.specs.declared.frame.VType.TheVariants as types
use Rattle.class_model.specs.declared.instr.Instr.{Instr}
use Rattle.class_model.specs.declared.instr.Instr.TheVariants.{Return}
use Rattle.class_model.specs.declared.instr.Placed.{Placed}
use Rattle.class_tree.specs.Headers.{Classes, Name}
use Rattle.expanded_code.specs.Expanded.{Argument, Narrowing, Setting, arguments, callee_of, callee_setting, expanded, frame_behind_stores, frame_stored, host_setting, instr_points, narrowing, overlaid, own_narrowing, own_points, point_in, points_before, points_from, points_of_callee, points_of_entry, set_frame, set_type, store_points, test_points, tests_receiver, units_in}
use Rattle.expanded_code.specs.Expansions.{Coded, Expands, Expansion, expands_none, expands_replaced, expands_site, expands_stays}
use Rattle.expanded_code.specs.Sites.{HasFrames}
use Rattle.expanded_runs.specs.Laws.KeptNames.{lowest_named, named_append, named_drop, named_take, stored_named}
use Rattle.expanded_runs.specs.NamedFrames.{FrameHas, TypeHas, TypesHave}
use Rattle.flow_code.specs.TypedFrames.{FolderFrames}
use Rattle.flow_code.specs.declared.point.Point.{Point}
use Rattle.member_link.specs.Rows.Operands.{lowest_of, under}
use Rattle.member_link.specs.Scope.{Scope, instructions, own_descriptor}
use Rattle.member_link.specs.Signatures.{result_of}

module _ (Has : Name → Type 0) where
  abbrev pub PointHas : Point → Type 0
  PointHas point = FrameHas Has point.typed

  abbrev AllHave : List Point → Type 0
  AllHave points = AllByRecursion PointHas points

  both : (ones others : List Point) → AllHave ones → AllHave others → AllHave (ones ++ others)
  both [] others one other = other
  both (point ∷ ones) others one other = (one.0, both ones others one.1 other)

  -- ---- frames in their place

  record SettingHas (t : Setting) : Type 0 where
    below : FrameHas Has t.below
    this : TypeHas Has t.this

  type_has : (t : Setting) → TypeHas Has t.this → (type : VType) → TypeHas Has type → TypeHas Has (set_type t type)
  type_has t this (types.Uninit at) has = tt
  type_has t this types.UninitThis has = this
  type_has t this types.Top has = tt
  type_has t this types.Int has = tt
  type_has t this types.Float has = tt
  type_has t this types.Long has = tt
  type_has t this types.Double has = tt
  type_has t this types.Null has = tt
  type_has t this (types.Object name) has = has

  types_have : (t : Setting) → TypeHas Has t.this → (all : List VType) → TypesHave Has all → TypesHave Has (map (set_type t) all)
  types_have t this [] have = tt
  types_have t this (type ∷ all) have = (type_has t this type have.0, types_have t this all have.1)

  overlaid_has : (unit : ℕ) (own units : List VType) → TypesHave Has own → TypesHave Has units → TypesHave Has (overlaid unit own units)
  overlaid_has unit own units own_has units_have =
      named_append Has (take unit units ++ own) (drop (unit + length own) units)
      (named_append Has (take unit units) own (named_take Has unit units units_have) own_has)
      (named_drop Has (unit + length own) units units_have)

  frame_has : (t : Setting) → SettingHas t → (frame : Frame) → FrameHas Has frame → FrameHas Has (set_frame t frame)
  frame_has t setting frame has = record {
    locals = overlaid_has t.unit (map (set_type t) frame.locals) t.below.locals (types_have t setting.this frame.locals has.locals) setting.below.locals;
    stack = named_append Has t.below.stack (map (set_type t) frame.stack) setting.below.stack (types_have t setting.this frame.stack has.stack);
  }

  -- ---- an instruction

  narrowing_has : (result : Option FieldType) → AllByRecursion (λ (one : Narrowing). TypesHave Has one.above) (narrowing result)
  narrowing_has None = tt
  narrowing_has (Some field_types.Byte) = (tt, tt)
  narrowing_has (Some field_types.Short) = (tt, tt)
  narrowing_has (Some field_types.Char) = (tt, tt)
  narrowing_has (Some field_types.Bool) = (tt, ((tt, tt), tt))
  narrowing_has (Some other) = tt

  narrowings_have : (t : Setting) (at : ℕ) (typed : Frame) → FrameHas Has typed → (list : List Narrowing)
      → AllByRecursion (λ (one : Narrowing). TypesHave Has one.above) list
      → AllHave (map (λ (one : Narrowing). point_in t at (record typed { stack = typed.stack ++ one.above }) one.instr) list)
  narrowings_have t at typed has [] above = tt
  narrowings_have t at typed has (one ∷ list) above = (
    record { locals = has.locals; stack = named_append Has typed.stack one.above has.stack above.0 },
    narrowings_have t at typed has list above.1,
  )

  own_has : (t : Setting) (placed : Placed) (frame : Frame) → FrameHas Has (set_frame t frame) → AllHave (instr_points t placed frame)
  own_has t placed frame has = by t.behind refl placed.instr refl where
    by : (behind : Option ℕ) → t.behind ≡ behind → (instr : Instr) → placed.instr ≡ instr → AllHave (instr_points t placed frame)
    by None e instr is = rw (e) (has, tt)
    by (Some behind) e (Return kind) is =
        rw (e, is) (both _ _
        (narrowings_have t placed.at (set_frame t frame) has (own_narrowing t.coded.scope) (narrowing_has (result_of (own_descriptor t.coded.scope))))
        (has, tt))
    by (Some behind) e instr is = rw (e, is) (has, tt)

  -- ---- the entry of a callee

  stores_have : (t : Setting) (at : ℕ) (frame : Frame) (args : List Argument) → FrameHas Has frame
      → AllHave (store_points t at frame args) × FrameHas Has (frame_behind_stores frame args)
  stores_have t at frame [] has = (tt, has)
  stores_have t at frame (argument ∷ args) has =
      let rest = stores_have t at (frame_stored frame argument) args (record {
        locals = stored_named Has argument.unit (lowest_of 1 frame.stack) frame.locals (lowest_named Has 1 frame.stack has.stack) has.locals;
        stack = under_has 1 frame.stack has.stack;
      }) in
      ((has, rest.0), rest.1)
    where
      under_has : (count : ℕ) (stack : List VType) → TypesHave Has stack → TypesHave Has (under count stack)
      under_has count stack have = named_take Has _ stack have

  tests_have : (t : Setting) (at : ℕ) (frame : Frame) (callee : Scope) (unit : ℕ) → FrameHas Has frame → AllHave (test_points t at frame callee unit)
  tests_have t at frame callee unit has = by (tests_receiver callee) refl where
    by : (tests : Bool) → tests_receiver callee ≡ tests → AllHave (test_points t at frame callee unit)
    by true is = rw (is) (has, tt)
    by false is = rw (is) tt

  entry_have : (t : Setting) (at : ℕ) (frame : Frame) (callee : Scope) (unit : ℕ) → FrameHas Has frame → AllHave (points_of_entry t at frame callee unit)
  entry_have t at frame callee unit has =
      let stores = stores_have t at frame (reverse (arguments callee unit)) has in
      both _ _ stores.0 (tests_have t at (frame_behind_stores frame (reverse (arguments callee unit))) callee unit stores.1)

  -- ---- all

  tops_have : (count : ℕ) → TypesHave Has (replicate count types.Top)
  tops_have ℕ.zero = tt
  tops_have (ℕ.suc count) = (tt, tops_have count)

  abbrev FramesHave : List Frame → Type 0
  FramesHave frames = AllByRecursion (FrameHas Has) frames

  pub frames_have : (frames : List Frame) → ((k : ℕ) (frame : Frame) → slice_get frames k ≡ Some frame → FrameHas Has frame) → FramesHave frames
  frames_have [] each = tt
  frames_have (frame ∷ frames) each = (each 0 frame refl, frames_have frames (λ k other is. each (ℕ.suc k) other is))

  module _ {classes : Classes} {typed : FolderFrames} {host : MethodAt}
      (each : (at : MethodAt) (s : Scope) (frames : List Frame) → HasFrames classes typed at s frames → FramesHave frames) where
    points_have : {chain : List MethodAt} {from : MethodAt} {instrs : List Placed} {e : Expansion} → Expands classes typed host chain from instrs e
        → (frames : List Frame) → FramesHave frames → (t : Setting) → SettingHas t
        → (number unit : ℕ)
        → AllHave (points_from t number unit instrs frames e)
    points_have (expands_none chain from) frames have t setting number unit = tt
    points_have (expands_stays chain from placed instrs more no_callee no_site rest) [] have t setting number unit = tt
    points_have (expands_stays chain from placed instrs more no_callee no_site rest) (frame ∷ frames) have t setting number unit =
        both _ _ (own_has t placed frame (frame_has t setting frame have.0))
        (points_have rest frames have.1 t setting (number + own_points (callee_of t) placed.instr) unit)
    points_have (expands_site chain from placed instrs class more site rest) [] have t setting number unit = tt
    points_have (expands_site chain from placed instrs class more site rest) (frame ∷ frames) have t setting number unit =
        both _ _ (own_has t placed frame (frame_has t setting frame have.0))
        (points_have rest frames have.1 t setting (number + own_points (callee_of t) placed.instr) unit)
    points_have (expands_replaced chain from placed instrs g inner more replaces has within rest) [] have t setting number unit = tt
    points_have (expands_replaced chain from placed instrs g inner more replaces has within rest) (frame ∷ frames) have t setting number unit =
        let here = frame_has t setting frame have.0 in
        let q = callee_setting t placed.at (set_frame t frame) number unit g inner in
        let q_has : SettingHas q = record {
          below = record {
            locals = here.locals;
            stack = named_take Has _ (set_frame t frame).stack here.stack;
          };
          this = lowest_named Has (length (arguments g.scope unit)) (set_frame t frame).stack here.stack;
        } in
        both _ _
        (both _ _ (entry_have t placed.at (set_frame t frame) g.scope unit here)
        (points_have within g.frames (each g.at g.scope g.frames has) q q_has (number + points_before g.scope) (unit + g.scope.part.max_locals)))
        (points_have rest frames have.1 t setting (number + points_of_callee g inner) (unit + g.scope.part.max_locals + units_in inner))

    -- Each point of the flat code of a host.
    pub expanded_has : {at : MethodAt} (coded : Coded) (e : Expansion) → Expands classes typed host [] at (instructions coded.scope) e
        → HasFrames classes typed at coded.scope coded.frames
        → AllByRecursion PointHas (expanded coded e).points
    expanded_has {at} coded e expands has =
        points_have expands coded.frames (each at coded.scope coded.frames has) (host_setting coded e) (record {
          below = record { locals = tops_have _; stack = tt };
          this = tt;
        }) 0 coded.scope.part.max_locals

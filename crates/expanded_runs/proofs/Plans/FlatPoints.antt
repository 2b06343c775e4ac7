-- Each point of flat code has the types of all local units, and few targets and handlers.
use Rattle.std.proofs.Common.{◌≡◌, ◌+◌, ◌≤◌, ℕ, zero, suc, Bool, true, false, List, [], ◌∷◌, ◌++◌, length, map, reverse, Option, Some, None, if◌then◌else◌, refl, ap, ◌∙◌, arith}
use Rattle.std.specs.Prelude.{◌==◌, slice_get, slice_set}
use Rattle.std.specs.List.{AllByRecursion, flat_map}
use Rattle.std.proofs.lemmas.List.{length-append, length-map, length-set}
use Rattle.class_model.specs.Frames.{is_wide, units}
use Rattle.class_model.specs.Instructions.{targets}
use Rattle.class_model.specs.PoolChecks.{class_at}
use Rattle.class_model.specs.declared.class_file.Handler.{Handler}
use Rattle.class_model.specs.declared.class_file.MethodAt.{MethodAt}
use Rattle.class_model.specs.declared.descriptor.FieldType.{FieldType}
use Rattle.class_model.specs.declared.descriptor.FieldType.TheVariants as field_types
use Rattle.class_model.specs.declared.frame.Frame.{Frame}
use Rattle.class_model.specs.declared.frame.VType.{VType}
use Rattle.class_model.specs.declared.frame.VType.TheVariants as types
use Rattle.class_model.specs.declared.instr.Instr.{Instr}
use Rattle.class_model.specs.declared.instr.Instr.TheVariants.{Return}
use Rattle.class_model.specs.declared.instr.Placed.{Placed}
use Rattle.class_tree.specs.Headers.{Classes}
use Rattle.expanded_code.specs.Alone.{alone_points, handler_by, handlers_by, number_at}
use Rattle.expanded_code.specs.Expanded.{Argument, Narrowing, Setting, arguments, callee_of, callee_setting, frame_behind_stores, frame_stored, instr_points, narrowing, own_narrowing, own_points, point_in, points_before, points_from, points_of_callee, points_of_entry, set_frame, set_instr, store_points, test_points, tests_receiver, units_in}
use Rattle.expanded_code.specs.Expansions.{Expands, Expansion, expands_none, expands_replaced, expands_site, expands_stays}
use Rattle.expanded_code.specs.Sites.{HasFrames}
use Rattle.row_frames.specs.Laws.RenumberedTargets.{targets_numbered}
use Rattle.expanded_runs.proofs.Types.FrameFacts.{set_long}
use Rattle.expanded_runs.proofs.Types.OwnPoints.{targets_set}
use Rattle.flow_code.specs.TypedFrames.{FolderFrames}
use Rattle.flow_code.specs.declared.point.Point.{Point}
use Rattle.member_link.specs.Machine.Codes.{covers}
use Rattle.member_link.specs.Rows.LocalRows.{cut_before, stored, with_units}
use Rattle.member_link.specs.Rows.Operands.{lowest_of}
use Rattle.member_link.specs.Scope.{Scope, instructions, own_descriptor}
use Rattle.member_link.specs.Signatures.{result_of}
use Rattle.plan_flow.specs.PlanTable.{targets_at}

-- ---- lists

all_append : {A : Type 0} (P : A → Type 0) (ones others : List A) → AllByRecursion P ones → AllByRecursion P others → AllByRecursion P (ones ++ others)
all_append P [] others first second = second
all_append P (one ∷ ones) others first second = (first.0, all_append P ones others first.1 second)

-- ---- locals that are stored

written_long : (at : ℕ) (written locals : List VType) → length (with_units at written locals) ≡ length locals
written_long at [] locals = refl
written_long at (type ∷ written) locals = written_long (at + 1) written (slice_set locals at type) ∙ length-set locals at type

cut_long : (at : ℕ) (locals : List VType) → length (cut_before at locals) ≡ length locals
cut_long zero locals = refl
cut_long (suc at) locals = by (slice_get locals at) refl where
  wide : (w : Bool) → length (if w then slice_set locals at types.Top else locals) ≡ length locals
  wide true = length-set locals at types.Top
  wide false = refl

  by : (found : Option VType) → slice_get locals at ≡ found → length (cut_before (suc at) locals) ≡ length locals
  by None is = rw (is) refl
  by (Some type) is = rw (is) (wide (is_wide type))

stored_long : (at : ℕ) (type : VType) (locals : List VType) → length (stored at type locals) ≡ length locals
stored_long at type locals = written_long at (units type) (cut_before at locals) ∙ cut_long at locals

-- ---- handlers

handler_few : (s : Scope) (number : ℕ → ℕ) (handler : Handler) → length (handler_by s number handler) ≤ 1
handler_few s number handler = by (handler.catch_type == 0) (class_at s.class.pool handler.catch_type) refl refl where
  by : (all : Bool) (found : Option (List ℕ)) → (handler.catch_type == 0) ≡ all → class_at s.class.pool handler.catch_type ≡ found
      → length (handler_by s number handler) ≤ 1
  by true found is e = rw (is) (omega arith)
  by false None is e = rw (is, e) (omega arith)
  by false (Some name) is e = rw (is, e) (omega arith)

-- at most as many as the method has
pub handlers_few : (s : Scope) (number : ℕ → ℕ) (at : ℕ) → length (handlers_by s number at) ≤ length s.part.handlers
handlers_few s number at = all s.part.handlers where
  one : (handler : Handler) (here : Bool) → length (if here then handler_by s number handler else []) ≤ 1
  one handler true = handler_few s number handler
  one handler false = omega arith

  all : (handlers : List Handler)
      → length (flat_map (λ (handler : Handler). if covers handler at then handler_by s number handler else []) handlers) ≤ length handlers
  all [] = omega arith
  all (handler ∷ handlers) =
      let first = if covers handler at then handler_by s number handler else [] in
      let few = one handler (covers handler at) in
      let rest = all handlers in
      let both = length-append first (flat_map (λ (h : Handler). if covers h at then handler_by s number h else []) handlers) in
      omega (arith, few, rest, both)

-- ---- points

-- the local units of a point, and how many targets and handlers it may have
pub record IsNarrowAt (locals : ℕ) (point : Point) : Type 0 where
  pub locals_are : length point.typed.locals ≡ locals
  pub targets : length (targets_at point.instr) ≤ 65536
  pub handlers : length point.handlers ≤ 65535

abbrev pub AreNarrow : ℕ → List Point → Type 0
AreNarrow locals points = AllByRecursion (IsNarrowAt locals) points

abbrev pub HasFewHandlers : Setting → Type 0
HasFewHandlers t = (at : ℕ) → length (t.handlers at) ≤ 65535

abbrev pub HaveFewTargets : List Placed → Type 0
HaveFewTargets instrs = AllByRecursion (λ (placed : Placed). length (targets placed.instr) ≤ 65536) instrs

abbrev pub AreLong : ℕ → List Frame → Type 0
AreLong locals frames = AllByRecursion (λ (frame : Frame). length frame.locals ≡ locals) frames

module _ (n : ℕ) where
  point_narrow : (t : Setting) (at : ℕ) (typed : Frame) (instr : Instr) → HasFewHandlers t → length typed.locals ≡ n → length (targets instr) ≤ 65536
      → IsNarrowAt n (point_in t at typed instr)
  point_narrow t at typed instr few long aims = record { locals_are = long; targets = aims; handlers = few at }

  -- ---- returns

  narrowing_aims : (result : Option FieldType) → AllByRecursion (λ (one : Narrowing). length (targets one.instr) ≤ 65536) (narrowing result)
  narrowing_aims None = tt
  narrowing_aims (Some field_types.Byte) = (omega arith, tt)
  narrowing_aims (Some field_types.Short) = (omega arith, tt)
  narrowing_aims (Some field_types.Char) = (omega arith, tt)
  narrowing_aims (Some field_types.Bool) = (omega arith, (omega arith, tt))
  narrowing_aims (Some other) = tt

  narrowings_narrow : (t : Setting) (at : ℕ) (typed : Frame) → HasFewHandlers t → length typed.locals ≡ n → (list : List Narrowing)
      → AllByRecursion (λ (one : Narrowing). length (targets one.instr) ≤ 65536) list
      → AreNarrow n (map (λ (one : Narrowing). point_in t at (record typed { stack = typed.stack ++ one.above }) one.instr) list)
  narrowings_narrow t at typed few long [] aims = tt
  narrowings_narrow t at typed few long (one ∷ list) aims =
      (point_narrow t at (record typed { stack = typed.stack ++ one.above }) one.instr few long aims.0, narrowings_narrow t at typed few long list aims.1)

  -- ---- an instruction

  own_narrow : (t : Setting) (placed : Placed) (frame : Frame) → HasFewHandlers t → length (set_frame t frame).locals ≡ n
      → length (targets placed.instr) ≤ 65536
      → AreNarrow n (instr_points t placed frame)
  own_narrow t placed frame few long aims = by t.behind refl placed.instr refl where
    set_aims : (instr : Instr) → placed.instr ≡ instr → length (targets (set_instr t instr)) ≤ 65536
    set_aims instr is =
        let same = ap (λ (list : List ℕ). length list) (targets_set t instr) ∙ length-map (targets instr) t.number in
        let own = ap (λ (i : Instr). length (targets i)) is in
        omega (arith, same, own, aims)

    by : (behind : Option ℕ) → t.behind ≡ behind → (instr : Instr) → placed.instr ≡ instr → AreNarrow n (instr_points t placed frame)
    by None e instr is =
        rw (e) (point_narrow t placed.at (set_frame t frame) _ few long (set_aims placed.instr refl), tt)
    by (Some behind) e (Return kind) is =
        rw (e, is) (all_append (IsNarrowAt n) _ _
        (narrowings_narrow t placed.at (set_frame t frame) few long (own_narrowing t.coded.scope) (narrowing_aims (result_of (own_descriptor t.coded.scope))))
        (point_narrow t placed.at (set_frame t frame) _ few long (omega arith), tt))
    by (Some behind) e instr is =
        rw (e, is) (point_narrow t placed.at (set_frame t frame) _ few long (set_aims instr is), tt)

  -- ---- the entry of a callee

  stores_narrow : (t : Setting) (at : ℕ) (frame : Frame) (args : List Argument) → HasFewHandlers t → length frame.locals ≡ n
      → AreNarrow n (store_points t at frame args) × (length (frame_behind_stores frame args).locals ≡ n)
  stores_narrow t at frame [] few long = (tt, long)
  stores_narrow t at frame (argument ∷ args) few long =
      let rest = stores_narrow t at (frame_stored frame argument) args few
      (stored_long argument.unit (lowest_of 1 frame.stack) frame.locals ∙ long) in
      ((point_narrow t at frame _ few long (omega arith), rest.0), rest.1)

  tests_narrow : (t : Setting) (at : ℕ) (frame : Frame) (callee : Scope) (unit : ℕ) → HasFewHandlers t → length frame.locals ≡ n
      → AreNarrow n (test_points t at frame callee unit)
  tests_narrow t at frame callee unit few long = by (tests_receiver callee) refl where
    by : (tests : Bool) → tests_receiver callee ≡ tests → AreNarrow n (test_points t at frame callee unit)
    by true is = rw (is) (record { locals_are = long; targets = omega arith; handlers = few at }, tt)
    by false is = rw (is) tt

  entry_narrow : (t : Setting) (at : ℕ) (frame : Frame) (callee : Scope) (unit : ℕ) → HasFewHandlers t → length frame.locals ≡ n
      → AreNarrow n (points_of_entry t at frame callee unit)
  entry_narrow t at frame callee unit few long =
      let stores = stores_narrow t at frame (reverse (arguments callee unit)) few long in
      all_append (IsNarrowAt n) _ _ stores.0
      (tests_narrow t at (frame_behind_stores frame (reverse (arguments callee unit))) callee unit few stores.1)

-- ---- a method by itself

pub alone_narrow : (s : Scope) (class : ℕ) (instrs : List Placed) (frames : List Frame) → length s.part.handlers ≤ 65535
    → HaveFewTargets instrs
    → AreLong s.part.max_locals frames
    → AreNarrow s.part.max_locals (alone_points s class instrs frames)
alone_narrow s class [] frames few aims long = tt
alone_narrow s class (placed ∷ instrs) [] few aims long = tt
alone_narrow s class (placed ∷ instrs) (frame ∷ frames) few aims long =
    let same = ap (λ (list : List ℕ). length list) (targets_numbered (number_at s) placed.instr)
    ∙ length-map (targets placed.instr) (number_at s) in
    let most = handlers_few s (number_at s) placed.at in (
      record {
        locals_are = length-map frame.locals _ ∙ long.0;
        targets = omega (arith, same, aims.0);
        handlers = omega (arith, most, few);
      },
      alone_narrow s class instrs frames few aims.1 long.1,
    )

-- ---- a method in its place

-- what is known of each method
pub record IsNarrowCode (s : Scope) (frames : List Frame) : Type 0 where
  pub long : AreLong s.part.max_locals frames
  pub targets : HaveFewTargets (instructions s)

-- the units of all methods are there, and its own among them
pub record HasRoomFor (n : ℕ) (t : Setting) : Type 0 where
  pub all : length t.below.locals ≡ n
  pub own : t.unit + t.coded.scope.part.max_locals ≤ n
  pub handlers : HasFewHandlers t

set_all : (n : ℕ) (t : Setting) → HasRoomFor n t → (frame : Frame) → length frame.locals ≡ t.coded.scope.part.max_locals
    → length (set_frame t frame).locals ≡ n
set_all n t room frame long = set_long t frame (omega (arith, long, room.all, room.own)) ∙ room.all

module _ {classes : Classes} {typed : FolderFrames} {host : MethodAt} (n : ℕ)
    (each : (at : MethodAt) (s : Scope) (frames : List Frame) → HasFrames classes typed at s frames → IsNarrowCode s frames) where
  pub expanded_narrow : {chain : List MethodAt} {from : MethodAt} {instrs : List Placed} {e : Expansion} → Expands classes typed host chain from instrs e
      → (frames : List Frame) → HaveFewTargets instrs
      → (t : Setting) → AreLong t.coded.scope.part.max_locals frames → HasRoomFor n t
      → (number unit : ℕ) → unit + units_in e ≤ n
      → AreNarrow n (points_from t number unit instrs frames e)
  expanded_narrow (expands_none chain from) frames aims t long room number unit fits = tt
  expanded_narrow (expands_stays chain from placed instrs more no_callee no_site rest) [] aims t long room number unit fits = tt
  expanded_narrow (expands_stays chain from placed instrs more no_callee no_site rest) (frame ∷ frames) aims t long room number unit fits =
      all_append (IsNarrowAt n) _ _ (own_narrow n t placed frame room.handlers (set_all n t room frame long.0) aims.0)
      (expanded_narrow rest frames aims.1 t long.1 room (number + own_points (callee_of t) placed.instr) unit fits)
  expanded_narrow (expands_site chain from placed instrs class more site rest) [] aims t long room number unit fits = tt
  expanded_narrow (expands_site chain from placed instrs class more site rest) (frame ∷ frames) aims t long room number unit fits =
      all_append (IsNarrowAt n) _ _ (own_narrow n t placed frame room.handlers (set_all n t room frame long.0) aims.0)
      (expanded_narrow rest frames aims.1 t long.1 room (number + own_points (callee_of t) placed.instr) unit fits)
  expanded_narrow (expands_replaced chain from placed instrs g inner more replaces has within rest) [] aims t long room number unit fits = tt
  expanded_narrow (expands_replaced chain from placed instrs g inner more replaces has within rest) (frame ∷ frames) aims t long room number unit fits =
      let own = each g.at g.scope g.frames has in
      let all = set_all n t room frame long.0 in
      let q = callee_setting t placed.at (set_frame t frame) number unit g inner in
      let q_room : HasRoomFor n q = record {
        all = all;
        own = omega (arith, fits);
        handlers = λ at. room.handlers placed.at;
      } in
      all_append (IsNarrowAt n) _ _
      (all_append (IsNarrowAt n) _ _ (entry_narrow n t placed.at (set_frame t frame) g.scope unit room.handlers all)
      (expanded_narrow within g.frames own.targets q own.long q_room (number + points_before g.scope) (unit + g.scope.part.max_locals) (omega (arith, fits))))
      (expanded_narrow rest frames aims.1 t long.1 room (number + points_of_callee g inner) (unit + g.scope.part.max_locals + units_in inner)
      (omega (arith, fits)))

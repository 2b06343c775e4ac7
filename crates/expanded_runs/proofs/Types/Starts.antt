-- Where what stands for an instruction begins in flat code, the typed frame is that before the instruction, in its place.
use Rattle.std.proofs.Common.{◌≡◌, ◌+◌, ◌-◌, ℕ, zero, suc, Bool, true, false, List, [], ◌∷◌, ◌++◌, length, map, reverse, slice_get, Option, Some, None, option_map, refl, sym, ap, subst, ◌∙◌, arith, append-nil}
use Rattle.std.proofs.lemmas.List.{length-map, length-reverse, take_all}
use Rattle.std.proofs.lemmas.Option.{same_Some, slice_get-map, slice_get_within}
use Rattle.class_model.specs.Descriptors.{parameters_of}
use Rattle.class_model.specs.Members.{STATIC, has}
use Rattle.class_model.specs.declared.class_file.MethodAt.{MethodAt}
use Rattle.class_model.specs.declared.descriptor.FieldType.{FieldType}
use Rattle.class_model.specs.declared.descriptor.FieldType.TheVariants as field_types
use Rattle.class_model.specs.declared.frame.Frame.{Frame}
use Rattle.class_model.specs.declared.frame.VType.{VType}
use Rattle.class_model.specs.declared.instr.Instr.{Instr}
use Rattle.class_model.specs.declared.instr.Instr.TheVariants.{Goto, Return}
use Rattle.class_model.specs.declared.instr.Placed.{Placed}
use Rattle.class_tree.specs.Headers.{Classes}
use Rattle.expanded_code.specs.Expanded.{Argument, Narrowing, Setting, arguments, arguments_from, expanded, frame_behind_stores, instr_points, narrowing, own_narrowing, point_in, points_from, points_of_entry, return_points, set_frame, set_instr, set_type, store_points, test_points, tests_receiver}
use Rattle.expanded_code.specs.Expansions.{Coded, Expansion}
use Rattle.expanded_runs.proofs.Runs.PositionLaws.{Fits, fits_none, fits_replaced, fits_site, fits_stays, length_fits, part_stands, points_at, slice_left}
use Rattle.expanded_runs.proofs.Runs.Positions.{Becomes, IsReplacedAt, Standing, becomes, block_of, frames_of, inner_setting, inner_standing, instrs_of, is_replaced, start_of}
use Rattle.expanded_runs.proofs.Runs.StandingLaws.{BecomesAs, becomes_as, it_is_replaced, it_makes_site, it_remains}
use Rattle.expanded_runs.proofs.Runs.Standings.{IsStanding, Stands, callee_stands}
use Rattle.expanded_runs.proofs.Types.FlatParts.{IsTail, replaced_there, whole_tail}
use Rattle.expanded_runs.proofs.Types.FrameFacts.{FrameFacts, frame_fits, has_room, nothing_entered, tops_reached}
use Rattle.expanded_runs.proofs.Types.Units.{TopsFrom, item_there, tops_over}
use Rattle.flow_code.specs.TypedFrames.{FolderFrames}
use Rattle.flow_code.specs.declared.point.Point.{Point}
use Rattle.member_link.specs.Rows.FrameAssignability.{AreAssignable}
use Rattle.member_link.specs.Rows.Operands.{under}
use Rattle.member_link.specs.Scope.{Scope, instructions, own_descriptor}

-- ---- the first of some points

-- points begin with one before which this frame is
pub record TypedFirst (points : List Point) (frame : Frame) : Type 0 where
  pub point : Point
  pub is : slice_get points 0 ≡ Some point
  pub typed : point.typed ≡ frame

as_typed : {points : List Point} {frame other : Frame} → TypedFirst points frame → frame ≡ other → TypedFirst points other
as_typed first same = record { point = first.point; is = first.is; typed = first.typed ∙ same }

first_left : {frame : Frame} (ones others : List Point) → TypedFirst ones frame → TypedFirst (ones ++ others) frame
first_left ones others first = record { point = first.point; is = slice_left ones others 0 first.point first.is; typed = first.typed }

-- ---- of an instruction

-- nothing is above the result where it is narrowed first
abbrev NoneAbove : List Narrowing → Type 0
NoneAbove [] = Unit {0}
NoneAbove (n ∷ others) = n.above ≡ []

none_above : (result : Option FieldType) → NoneAbove (narrowing result)
none_above None = tt
none_above (Some field_types.Byte) = refl
none_above (Some field_types.Short) = refl
none_above (Some field_types.Char) = refl
none_above (Some field_types.Bool) = refl
none_above (Some field_types.Int) = tt
none_above (Some field_types.Long) = tt
none_above (Some field_types.Float) = tt
none_above (Some field_types.Double) = tt
none_above (Some (field_types.Named name)) = tt

return_first : (t : Setting) (at : ℕ) (typed : Frame) (behind : ℕ) → TypedFirst (return_points t at typed behind) typed
return_first t at typed behind = by (own_narrowing t.coded.scope) refl (none_above _) where
  by : (all : List Narrowing) → own_narrowing t.coded.scope ≡ all → NoneAbove (own_narrowing t.coded.scope)
      → TypedFirst (return_points t at typed behind) typed
  by [] is none = record { point = point_in t at typed (Goto behind); is = rw (is) refl; typed = refl }
  by (n ∷ all) is none =
      let above : n.above ≡ [] = subst NoneAbove is none in
      record {
        point = point_in t at (record typed { stack = typed.stack ++ n.above }) n.instr;
        is = rw (is) refl;
        typed = ap (λ (more : List VType). record typed { stack = typed.stack ++ more }) above
            ∙ ap (λ (stack : List VType). record typed { stack = stack }) (append-nil typed.stack);
      }

pub instr_first : (t : Setting) (placed : Placed) (frame : Frame) → TypedFirst (instr_points t placed frame) (set_frame t frame)
instr_first t placed frame = by t.behind refl placed.instr refl where
  itself : instr_points t placed frame ≡ point_in t placed.at (set_frame t frame) (set_instr t placed.instr) ∷ []
      → TypedFirst (instr_points t placed frame) (set_frame t frame)
  itself is = record {
    point = point_in t placed.at (set_frame t frame) (set_instr t placed.instr);
    is = ap (λ (all : List Point). slice_get all 0) is;
    typed = refl;
  }

  by : (behind : Option ℕ) → t.behind ≡ behind → (instr : Instr) → placed.instr ≡ instr
      → TypedFirst (instr_points t placed frame) (set_frame t frame)
  by None b instr i = itself (rw (b) refl)
  by (Some behind) b (Return kind) i = rw (b, i) (return_first t placed.at (set_frame t frame) behind)
  by (Some behind) b instr i = itself (rw (b, i) refl)

-- ---- of the entry of a callee

-- nothing stands before the instructions of a static method without parameters
record IsBare (callee : Scope) : Type 0 where
  static : has callee.method.flags STATIC ≡ true
  no_parameters : parameters_of (own_descriptor callee) ≡ []

data Entry (callee : Scope) (frame : Frame) (points : List Point) : Type 0 where
  no_entry : points ≡ [] → IsBare callee → Entry callee frame points
  some_entry : TypedFirst points frame → Entry callee frame points

no_arguments : (unit : ℕ) (params : List FieldType) → arguments_from unit params ≡ [] → params ≡ []
no_arguments unit [] none = refl
no_arguments unit (type ∷ params) none = absurd cc

bare : (s : Scope) (unit : ℕ) → arguments s unit ≡ [] → IsBare s
bare s unit none = by (has s.method.flags STATIC) refl where
  by : (static : Bool) → has s.method.flags STATIC ≡ static → IsBare s
  by true is =
      let params : arguments_from unit (parameters_of (own_descriptor s)) ≡ [] = rw (is) at none in
      record { static = is; no_parameters = no_arguments unit (parameters_of (own_descriptor s)) params }
  by false is =
      let some : (_ ∷ arguments_from (unit + 1) (parameters_of (own_descriptor s))) ≡ [] = rw (is) at none in
      absurd cc

none_reversed : {A : Type 0} (items : List A) → reverse items ≡ [] → items ≡ []
none_reversed [] is = refl
none_reversed (item ∷ items) is = absurd (omega (arith, length-reverse (item ∷ items), ap length is))

entry_of : (t : Setting) (at : ℕ) (frame : Frame) (callee : Scope) (unit : ℕ) → Entry callee frame (points_of_entry t at frame callee unit)
entry_of t at frame callee unit = stored (reverse (arguments callee unit)) refl where
  stored : (all : List Argument) → reverse (arguments callee unit) ≡ all
      → Entry callee frame (store_points t at frame all ++ test_points t at (frame_behind_stores frame all) callee unit)
  stored (argument ∷ others) is = some_entry (record { point = _; is = refl; typed = refl })
  stored [] is = by (tests_receiver callee) refl where
    by : (tests : Bool) → tests_receiver callee ≡ tests → Entry callee frame (test_points t at frame callee unit)
    by true tests = rw (tests) (some_entry (record { point = _; is = refl; typed = refl }))
    by false tests = no_entry (rw (tests) refl) (bare callee unit (none_reversed (arguments callee unit) is))

joined : {callee : Scope} {frame : Frame} (entry body : List Point) → Entry callee frame entry
    → (IsBare callee → TypedFirst body frame)
    → TypedFirst (entry ++ body) frame
joined {frame = frame} entry body (no_entry is none) first_of = subst (λ (points : List Point). TypedFirst (points ++ body) frame) (sym is) (first_of none)
joined entry body (some_entry first) first_of = first_left entry body first

-- ---- of each

-- a callee has a first instruction
pub callee_starts : {instrs : List Placed} {frames : List Frame} {e inner : Expansion} {g : Coded} → Fits instrs frames e → (k : ℕ)
    → becomes e k ≡ is_replaced g inner
    → (start : Placed) × (slice_get (instructions g.scope) 0 ≡ Some start)
callee_starts fits_none k is = absurd cc
callee_starts (fits_stays placed frame fits) zero is = absurd cc
callee_starts (fits_site placed frame class fits) zero is = absurd cc
callee_starts {g = g} (fits_replaced placed frame h start starts within fits) zero is =
    let same : h ≡ g = cc in
    (start, subst (λ (c : Coded). slice_get (instructions c.scope) 0 ≡ Some start) same starts)
callee_starts (fits_stays placed frame fits) (suc k) is = callee_starts fits k is
callee_starts (fits_site placed frame class fits) (suc k) is = callee_starts fits k is
callee_starts (fits_replaced placed frame h start starts within fits) (suc k) is = callee_starts fits k is

module _ {classes : Classes} {typed : FolderFrames} (facts : FrameFacts classes typed) (host : Coded) (e : Expansion)
    (stands : (chain : List MethodAt) (p : Standing) → IsStanding host e chain p → Stands classes typed host e chain p) where
  -- the frame that a callee without arguments begins with is that at its call
  bare_begins : {chain : List MethodAt} (p : Standing) (k : ℕ) (placed : Placed) (frame : Frame) (g : Coded) (inner : Expansion)
      → IsStanding host e (g.at ∷ chain) (inner_standing p k placed frame g inner)
      → IsBare g.scope
      → (first : Frame) → slice_get g.frames 0 ≡ Some first
      → set_frame (inner_setting p k placed frame g inner) first ≡ set_frame p.setting frame
  bare_begins p k placed frame g inner standing none first is =
      let t = inner_setting p k placed frame g inner in
      let caller = set_frame p.setting frame in
      let s = stands _ _ standing in
      let entered = facts.entered g.at g.scope g.frames s.has first is in
      let tops : TopsFrom 0 first.locals =
      tops_reached g.scope.headers 0 _ first.locals entered.locals (nothing_entered g.scope none.static none.no_parameters) in
      let own = map (set_type t) first.locals in
      let long = length-map first.locals (set_type t) in
      let fits = frame_fits facts host e stands standing 0 first is in
      let own_tops : TopsFrom 0 own = mapped first.locals tops in
      let locals : (set_frame t first).locals ≡ caller.locals =
      tops_over t.unit own caller.locals (omega (arith, fits, long)) own_tops (has_room facts host e stands standing).tops in
      let stack_none : first.stack ≡ [] = no_stack first.stack entered.stack in
      let count : length (arguments g.scope (block_of p k)) ≡ 0 = no_count in
      let below : under (length (arguments g.scope (block_of p k))) caller.stack ≡ caller.stack =
      ap (λ (n : ℕ). under n caller.stack) count ∙ take_all (length caller.stack - 0) caller.stack (omega arith) in
      let stack : (set_frame t first).stack ≡ caller.stack =
      ap (λ (entries : List VType). t.below.stack ++ map (set_type t) entries) stack_none ∙ append-nil t.below.stack ∙ below in
      λ i. record { locals = locals i; stack = stack i } where
        mapped : (units : List VType) → TopsFrom 0 units → TopsFrom 0 (map (set_type (inner_setting p k placed frame g inner)) units)
        mapped units tops = record {
          each = λ n least within.
              let t = inner_setting p k placed frame g inner in
              slice_get-map (set_type t) units n
              ∙ ap (option_map (set_type t)) (tops.each n least (omega (arith, within, length-map units (set_type t))));
        }

        no_stack : (stack : List VType) → AreAssignable g.scope.headers [] stack → stack ≡ []
        no_stack [] are = refl
        no_stack (entry ∷ stack) are = absurd are

        no_count : length (arguments g.scope (block_of p k)) ≡ 0
        no_count = rw (none.static, none.no_parameters) refl

  pub first_typed : (chain : List MethodAt) (p : Standing) → IsStanding host e chain p → {instrs : List Placed} {frames : List Frame} {x : Expansion}
      → Fits instrs frames x
      → IsTail p 0 instrs frames x
      → (first : Frame) → slice_get frames 0 ≡ Some first
      → TypedFirst (points_from p.setting (start_of p 0) (block_of p 0) instrs frames x) (set_frame p.setting first)
  first_typed chain p standing fits_none tail first is = absurd cc
  first_typed chain p standing (fits_stays placed frame fits) tail first is =
      as_typed (first_left _ _ (instr_first p.setting placed frame)) (ap (set_frame p.setting) (same_Some frame first is))
  first_typed chain p standing (fits_site placed frame class fits) tail first is =
      as_typed (first_left _ _ (instr_first p.setting placed frame)) (ap (set_frame p.setting) (same_Some frame first is))
  first_typed chain p standing (fits_replaced {instrs = instrs} {frames = frames} {inner = inner} {more = more} placed frame g start starts within fits) tail first
      is
      =
      let here : IsReplacedAt p 0 placed frame g inner = replaced_there p 0 placed frame instrs frames g inner more tail in
      let inside = callee_stands 0 placed frame g inner standing here in
      let entry = points_of_entry p.setting placed.at (set_frame p.setting frame) g.scope (block_of p 0) in
      let own = first_of_callee (g.at ∷ chain) (inner_standing p 0 placed frame g inner) within starts
      (first_typed (g.at ∷ chain) (inner_standing p 0 placed frame g inner) inside within (whole_tail (inner_standing p 0 placed frame g inner))) in
      as_typed (first_left _ _ (joined entry _ (entry_of p.setting placed.at (set_frame p.setting frame) g.scope (block_of p 0))
      (λ none. as_typed own.2 (bare_begins p 0 placed frame g inner inside none own.0 own.1))))
      (ap (set_frame p.setting) (same_Some frame first is))
    where
      first_of_callee : (chain : List MethodAt) (p : Standing) {instrs : List Placed} {frames : List Frame} {x : Expansion} {start : Placed}
          → Fits instrs frames x
          → slice_get instrs 0 ≡ Some start
          → ((first : Frame) → slice_get frames 0 ≡ Some first
          → TypedFirst (points_from p.setting (start_of p 0) (block_of p 0) instrs frames x) (set_frame p.setting first))
          → (first : Frame) × (slice_get frames 0 ≡ Some first)
          × TypedFirst (points_from p.setting (start_of p 0) (block_of p 0) instrs frames x) (set_frame p.setting first)
      first_of_callee chain p {instrs} {frames} fits starts first =
          let found = item_there frames 0 (omega (arith, length_fits fits, slice_get_within instrs 0 _ starts)) in
          (found.0, found.1, first found.0 found.1)

  first_there : (g : Coded) (inner : Expansion) → Fits (instructions g.scope) g.frames inner
      → (start : Placed) → slice_get (instructions g.scope) 0 ≡ Some start
      → (first : Frame) × (slice_get g.frames 0 ≡ Some first)
  first_there g inner fits start starts =
      item_there g.frames 0 (omega (arith, length_fits fits, slice_get_within (instructions g.scope) 0 start starts))

  first_of_points : {chain : List MethodAt} {p : Standing} → IsStanding host e chain p → (k : ℕ) (placed : Placed) (frame : Frame)
      → slice_get (instrs_of p) k ≡ Some placed
      → slice_get (frames_of p) k ≡ Some frame
      → (b : Becomes) → becomes p.expansion k ≡ b
      → BecomesAs classes typed host.at chain p.setting.coded.at placed.at b
      → TypedFirst (points_at p.setting (start_of p k) (block_of p k) placed frame b) (set_frame p.setting frame)
  first_of_points {p = p} standing k placed frame is typed b there (it_remains no_call no_site) = instr_first p.setting placed frame
  first_of_points {p = p} standing k placed frame is typed b there (it_makes_site makes) = instr_first p.setting placed frame
  first_of_points {p = p} standing k placed frame is typed b there (it_is_replaced {g = g} {inner = inner} call own expands) =
      let here : IsReplacedAt p k placed frame g inner = record { is = is; has_frame = typed; becomes = there } in
      let inside = callee_stands k placed frame g inner standing here in
      let fits = (stands _ _ inside).fits in
      joined _ _ (entry_of p.setting placed.at (set_frame p.setting frame) g.scope (block_of p k)) (λ none.
      let start = callee_starts (stands _ p standing).fits k there in
      let found = first_there g inner fits start.0 start.1 in
      as_typed (first_typed _ (inner_standing p k placed frame g inner) inside fits (whole_tail (inner_standing p k placed frame g inner)) found.0 found.1) (bare_begins p k placed frame g inner inside none found.0 found.1))

  -- The typed frame there.
  pub start_typed : {chain : List MethodAt} {p : Standing} → IsStanding host e chain p → (k : ℕ) (placed : Placed) (frame : Frame)
      → slice_get (instrs_of p) k ≡ Some placed
      → slice_get (frames_of p) k ≡ Some frame
      → (point : Point) × (slice_get (expanded host e).points (start_of p k) ≡ Some point) × (point.typed ≡ set_frame p.setting frame)
  start_typed {chain} {p} standing k placed frame is has =
      let s = stands chain p standing in
      let part = part_stands (expanded host e).points p.setting p.first p.block s.fits k placed frame is has s.points in
      let known = becomes_as chain p.setting.coded.at (instrs_of p) p.expansion s.expands k placed is in
      let first = first_of_points standing k placed frame is has (becomes p.expansion k) refl known in
      let here : start_of p k + 0 ≡ start_of p k = omega arith in (
        first.point,
        subst (λ (n : ℕ). slice_get (expanded host e).points n ≡ Some first.point) here (part 0 first.point first.is),
        first.typed,
      )

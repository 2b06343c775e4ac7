-- Expanded code is well formed: its targets, handlers and sites are points, and its locals are units that it has.
use Rattle.std.proofs.Common.{◌≡◌, ◌==◌, ◌||◌, ◌+◌, ◌<◌, ◌≤◌, not, ℕ, Bool, true, false, List, [], ◌∷◌, ◌++◌, bytes_eq, length, map, reverse, Option, Some, None, option_map, if◌then◌else◌, refl, sym, ap, subst, ◌∙◌, arith}
use Rattle.std.proofs.lemmas.Bool.{eq-eqb, eqb-true}
use Rattle.std.proofs.lemmas.Option.{none-some, same_Some}
use Rattle.std.proofs.lemmas.List.{reverse-append}
use Rattle.std.specs.List.{AllByRecursion, flat_map}
use Rattle.class_model.specs.Code.{FitsLocal}
use Rattle.class_model.specs.Descriptors.{kind_of, parameter_units, parameters_of, units_of}
use Rattle.class_model.specs.Instructions.{targets}
use Rattle.class_model.specs.Laws.Lists.{AllByRecursion-weaker}
use Rattle.class_model.specs.Members.{STATIC, has}
use Rattle.class_model.specs.Names.{init}
use Rattle.class_model.specs.Pool.{constant_at}
use Rattle.class_model.specs.PoolChecks.{class_at}
use Rattle.class_model.specs.declared.class_file.Handler.{Handler}
use Rattle.class_model.specs.declared.class_file.MethodAt.{MethodAt}
use Rattle.class_model.specs.declared.descriptor.FieldType.{FieldType}
use Rattle.class_model.specs.declared.descriptor.FieldType.TheVariants.{Byte, Short, Char, Int, Long, Float, Double, Named, Bool as Boolean}
use Rattle.class_model.specs.declared.descriptor.Kind.{Kind}
use Rattle.class_model.specs.declared.descriptor.Kind.TheVariants as kinds
use Rattle.class_model.specs.declared.frame.Frame.{Frame}
use Rattle.class_model.specs.declared.instr.Instr.{Instr}
use Rattle.class_model.specs.declared.instr.Instr.TheVariants.{Goto, Iinc, Invoke, Load, Return, Store}
use Rattle.class_model.specs.declared.instr.Placed.{Placed}
use Rattle.class_model.specs.declared.opcodes.TheConstants.{INVOKESPECIAL, INVOKESTATIC}
use Rattle.class_tree.specs.Headers.{Classes, Name}
use Rattle.expanded_code.specs.Alone.{handler_by, handlers_by}
use Rattle.expanded_code.specs.Callees.{IsCallee, instr_at, is_callee}
use Rattle.expanded_code.specs.Expanded.{Argument, Narrowing, Setting, arguments, arguments_from, callee_of, callee_setting, expanded, frame_behind_stores, frame_stored, host_setting, instr_points, narrowing, own_points, point_in, points_before, points_from, points_of, points_of_callee, points_of_entry, set_frame, set_instr, store_points, test_points, tests_receiver, units_in, with_unit}
use Rattle.expanded_code.specs.Expansions.{Coded, Expands, Expansion, expands_none, expands_replaced, expands_site, expands_stays}
use Rattle.expanded_code.specs.Sites.{HasFrames}
use Rattle.flow_code.specs.FlatCode.{HasLocal, IsFlat, IsPoint, NamesPoint}
use Rattle.flow_code.specs.TypedFrames.{FolderFrames}
use Rattle.flow_code.specs.declared.handlers.FlatHandler.{FlatHandler}
use Rattle.flow_code.specs.declared.point.FlatInstr.TheVariants.{NullTest}
use Rattle.inline_expand.proofs.AloneFlat.{all-append, all-mapped, local-kept, targets-to}
use Rattle.inline_expand.proofs.ExpandedPoints.{number-inside, points-length, sites-inside, some-points}
use Rattle.inline_expand.proofs.ShapeParts.{units-cons}
use Rattle.inline_expand.specs.Inner.Steps.{IsCallable}
use Rattle.inline_expand.specs.Inner.TypedMethods.{GoesWithin, IsTypedMethod}
use Rattle.member_link.specs.Bodies.{BodyCatch, flows_on}
use Rattle.member_link.specs.BodyTyping.{AreInOrder, IsPlaceOf}
use Rattle.member_link.specs.CodedMethods.{placed_at}
use Rattle.member_link.specs.Machine.Codes.{covers}
use Rattle.member_link.specs.References.{Reference}
use Rattle.member_link.specs.RowScope.{RowScope}
use Rattle.member_link.specs.Rows.MemberRows.{PassesMethod, call_row, init_row, instance_row, receiver, special_row, static_row}
use Rattle.member_link.specs.Rows.Row.{Row, either, row_frame}
use Rattle.member_link.specs.Scope.{Scope, instructions, is_init, own_descriptor, row_scope}
use Rattle.member_link.specs.Signatures.{reference_of, result_of}
use Rattle.type_rules.specs.Handlers.{catch_of, catches_at}
use Rattle.type_rules.specs.Laws.InstructionOrder.{Ascend, ascend}
use Rattle.type_rules.specs.MethodBodies.{body_of, point_of}
use Rattle.type_rules.specs.Typed.{AreTyped}

-- ---- instructions by their offsets

one-there : (here : Bool) (placed : Placed) (found : Option Placed) (at : ℕ) → placed.at == at ≡ here → (if here then Some placed else found) ≡ (if placed.at == at then Some placed else found)
one-there here placed found at is = rw is refl

abbrev IsThereIn : List Placed → Placed → Type 0
IsThereIn instrs placed = placed_at instrs placed.at ≡ Some placed

there-behind : (first : Placed) (instrs some : List Placed) → AllByRecursion (λ (placed : Placed). first.at < placed.at) some → AllByRecursion (IsThereIn instrs) some → AllByRecursion (IsThereIn (first ∷ instrs)) some
there-behind first instrs [] later all = tt
there-behind first instrs (placed ∷ some) later all = (by (first.at == placed.at) refl, there-behind first instrs some later.1 all.1) where
  by : (here : Bool) → first.at == placed.at ≡ here → IsThereIn (first ∷ instrs) placed
  by true is = absurd (omega (arith, later.0, eqb-true first.at placed.at is))
  by false is = rw is all.0

each-ascends : (instrs : List Placed) → Ascend instrs → AllByRecursion (IsThereIn instrs) instrs
each-ascends [] order = tt
each-ascends (placed ∷ instrs) order = (rw (eq-eqb placed.at placed.at refl) refl, there-behind placed instrs instrs order.0 (each-ascends instrs order.1))

-- each instruction is the one at its offset
each-there : (s : Scope) (instrs : List Placed) → AreInOrder (map (point_of s) instrs) → AllByRecursion (IsThereIn instrs) instrs
each-there s instrs order = each-ascends instrs (ascend s instrs order)

-- ---- a call is not the last instruction

either-goes : (test : Bool) (one other : Row) → one.goes_on ≡ true → other.goes_on ≡ true → (either test one other).goes_on ≡ true
either-goes true one other goes also = goes
either-goes false one other goes also = also

call-goes : (s : RowScope) (frame : Frame) (opcode : ℕ) (reference : Option Reference) → (call_row s frame opcode reference).goes_on ≡ true
call-goes s frame opcode None = refl
call-goes s frame opcode (Some reference) =
    let of_init = either (bytes_eq reference.name init) (init_row s frame reference) (special_row s frame reference) in
    let of_object = instance_row frame reference (Unit {0}) (PassesMethod s reference (receiver frame reference.desc)) in
    either-goes (opcode == INVOKESTATIC) (static_row frame reference) (either (opcode == INVOKESPECIAL) of_init of_object) refl
    (either-goes (opcode == INVOKESPECIAL) of_init of_object (either-goes (bytes_eq reference.name init) (init_row s frame reference) (special_row s frame reference) refl refl) refl)

-- a frame flows on behind a call
call-flows : (s : Scope) (placed : Placed) (frame : Frame) (opcode index count : ℕ) → placed.instr ≡ Invoke opcode index count → flows_on (point_of s placed) frame ≡ None → ⊥
call-flows s placed frame opcode index count is none =
    let row = call_row (row_scope s) frame opcode (reference_of s.class.pool (constant_at s.class.pool index)) in
    let on : flows_on (point_of s placed) frame ≡ row_frame frame row = rw is refl in
    goes-on frame row (call-goes (row_scope s) frame opcode (reference_of s.class.pool (constant_at s.class.pool index))) (sym on ∙ none)
  where
    goes-on : (frame : Frame) (row : Row) → row.goes_on ≡ true → row_frame frame row ≡ None → ⊥
    goes-on frame row goes none = let e : Some _ ≡ None = rw goes at none in absurd cc

module _ (classes : Classes) (typed : FolderFrames) (host : ℕ) where
  -- what is a callee's call is a call
  callee-call : (from : MethodAt) (at : ℕ) (callee : MethodAt) → IsCallee classes typed host from at callee → (s : Scope) (frames : List Frame) → HasFrames classes typed from s frames
      → (opcode : ℕ) × (index : ℕ) × (count : ℕ) × (instr_at s at ≡ Some (Invoke opcode index count))
  callee-call _ _ _ (is_callee from at callee host_class caller scope before own inner of_host of_caller of_before of_scope of_own calls stands result called) s frames is =
      let same : caller ≡ s = same_Some caller s (sym of_caller ∙ is.is_scope) in
      let call = calls.is_call in
      (calls.opcode, call.index, call.count, subst (λ (x : Scope). instr_at x at ≡ Some (Invoke calls.opcode call.index call.count)) same call.is)

-- some instruction is behind it
call-goes-on : (s : Scope) (placed : Placed) (frame : Frame) (instrs : List Placed) (frames : List Frame) (opcode index count : ℕ) → placed.instr ≡ Invoke opcode index count
    → AreTyped (body_of s) (flows_on (point_of s placed) frame) (map (point_of s) instrs) frames → 0 < length instrs
call-goes-on s placed frame [] [] opcode index count is none = absurd (call-flows s placed frame opcode index count is none)
call-goes-on s placed frame [] (other ∷ frames) opcode index count is are = elim are [ ]
call-goes-on s placed frame (next ∷ instrs) frames opcode index count is are = omega arith

-- ---- local units

fits-kind : (locals unit : ℕ) (kind : Kind) → unit + units_of kind ≤ locals → FitsLocal locals kind unit
fits-kind locals unit kinds.Int fits = fits
fits-kind locals unit kinds.Long fits = fits
fits-kind locals unit kinds.Float fits = fits
fits-kind locals unit kinds.Double fits = fits
fits-kind locals unit kinds.Ref fits = fits

abbrev FitsArgument : ℕ → Argument → Type 0
FitsArgument locals argument = FitsLocal locals argument.kind argument.unit

from-fit : (locals unit : ℕ) (types : List FieldType) → unit + parameter_units types ≤ locals → AllByRecursion (FitsArgument locals) (arguments_from unit types)
from-fit locals unit [] fits = tt
from-fit locals unit (type ∷ types) fits =
    let own = units-cons type types in
    (fits-kind locals unit (kind_of type) (omega (arith, own, fits)), from-fit locals (unit + units_of (kind_of type)) types (omega (arith, own, fits)))

arguments-fit : (locals unit : ℕ) (s : Scope) → IsCallable s → unit + s.part.max_locals ≤ locals → AllByRecursion (FitsArgument locals) (arguments s unit)
arguments-fit locals unit s callable fits = by (has s.method.flags STATIC) callable.fits where
  types : List FieldType
  types = parameters_of (own_descriptor s)

  by : (static : Bool) → parameter_units types + (if static then 0 else 1) ≤ s.part.max_locals
      → AllByRecursion (FitsArgument locals) (if static then arguments_from unit types else record { kind = kinds.Ref; unit = unit } ∷ arguments_from (unit + 1) types)
  by true units = from-fit locals unit types (omega (arith, units, fits))
  by false units = (omega (arith, units, fits), from-fit locals (unit + 1) types (omega (arith, units, fits)))

all-reversed : {A : Type 0} (P : A → Type 0) (items : List A) → AllByRecursion P items → AllByRecursion P (reverse items)
all-reversed P [] all = tt
all-reversed P (item ∷ items) all = subst (AllByRecursion P) (sym (reverse-append (item ∷ []) items)) (all-append P (reverse items) (item ∷ []) (all-reversed P items all.1) (all.0, tt))

-- a receiver that is tested has a unit
receiver-fits : (locals unit : ℕ) (s : Scope) → IsCallable s → unit + s.part.max_locals ≤ locals → tests_receiver s ≡ true → unit < locals
receiver-fits locals unit s callable fits tests = by (has s.method.flags STATIC) callable.fits tests where
  by : (static : Bool) → parameter_units (parameters_of (own_descriptor s)) + (if static then 0 else 1) ≤ s.part.max_locals → not (static || is_init s) ≡ true → unit < locals
  by true units tested = absurd cc
  by false units tested = omega (arith, units, fits)

with-unit-targets : (unit : ℕ) (instr : Instr) → targets (with_unit unit instr) ≡ targets instr
with-unit-targets unit (Load kind local) = refl
with-unit-targets unit (Store kind local) = refl
with-unit-targets unit (Iinc local by) = refl
with-unit-targets unit instr = refl

moved-fits : (most locals unit local : ℕ) (kind : Kind) → unit + most ≤ locals → FitsLocal most kind local → FitsLocal locals kind (unit + local)
moved-fits most locals unit local kinds.Int within fits = omega (arith, within, fits)
moved-fits most locals unit local kinds.Long within fits = omega (arith, within, fits)
moved-fits most locals unit local kinds.Float within fits = omega (arith, within, fits)
moved-fits most locals unit local kinds.Double within fits = omega (arith, within, fits)
moved-fits most locals unit local kinds.Ref within fits = omega (arith, within, fits)

with-unit-local : (most locals unit : ℕ) (instr : Instr) → unit + most ≤ locals → HasLocal most instr → HasLocal locals (with_unit unit instr)
with-unit-local most locals unit (Load kind local) within fits = moved-fits most locals unit local kind within fits
with-unit-local most locals unit (Store kind local) within fits = moved-fits most locals unit local kind within fits
with-unit-local most locals unit (Iinc local by) within fits = moved-fits most locals unit local kinds.Int within fits
with-unit-local most locals unit instr within fits = fits

-- ---- points

module _ (end locals : ℕ) where
  abbrev BeginsWithin : FlatHandler → Type 0
  BeginsWithin handler = NamesPoint end handler.to

  -- an instruction of a method, which is the one at its offset, and its handlers
  pub record StandsWithin (t : Setting) (s : Scope) (placed : Placed) : Type 0 where
    pub there : placed_at (instructions s) placed.at ≡ Some placed
    pub targets : AllByRecursion (IsPlaceOf (body_of s).points) (targets placed.instr)
    pub local : HasLocal s.part.max_locals placed.instr
    pub handlers : AllByRecursion BeginsWithin (t.handlers placed.at)

  -- its offsets are points, its units are among all, and the point behind its call is one
  pub record IsWithin (t : Setting) (s : Scope) : Type 0 where
    pub numbers : (at : ℕ) → IsPlaceOf (body_of s).points at → t.number at < end
    pub behind : (number : ℕ) → t.behind ≡ Some number → number < end
    pub units : t.unit + s.part.max_locals ≤ locals

  point-within : (t : Setting) (at : ℕ) (frame : Frame) (instr : Instr) → AllByRecursion (NamesPoint end) (targets instr) → HasLocal locals instr → AllByRecursion BeginsWithin (t.handlers at) → IsPoint end locals (point_in t at frame instr)
  point-within t at frame instr targets-are local handlers = record { instr = (targets-are, local); handlers = handlers }

  narrows-within : (t : Setting) (at : ℕ) (frame : Narrowing → Frame) (type : Option FieldType) → AllByRecursion BeginsWithin (t.handlers at)
      → AllByRecursion (IsPoint end locals) (map (λ (n : Narrowing). point_in t at (frame n) n.instr) (narrowing type))
  narrows-within t at frame None handlers = tt
  narrows-within t at frame (Some Byte) handlers = (point-within t at _ _ tt tt handlers, tt)
  narrows-within t at frame (Some Short) handlers = (point-within t at _ _ tt tt handlers, tt)
  narrows-within t at frame (Some Char) handlers = (point-within t at _ _ tt tt handlers, tt)
  narrows-within t at frame (Some Boolean) handlers = (point-within t at _ _ tt tt handlers, (point-within t at _ _ tt tt handlers, tt))
  narrows-within t at frame (Some Int) handlers = tt
  narrows-within t at frame (Some Long) handlers = tt
  narrows-within t at frame (Some Float) handlers = tt
  narrows-within t at frame (Some Double) handlers = tt
  narrows-within t at frame (Some (Named name)) handlers = tt

  -- an instruction that stays
  own-within : (t : Setting) (s : Scope) (placed : Placed) (frame : Frame) → IsWithin t s → StandsWithin t s placed → AllByRecursion (IsPoint end locals) (instr_points t placed frame)
  own-within t s placed frame within stands = by t.behind refl placed.instr refl where
    set : Frame
    set = set_frame t frame

    stays-within : AllByRecursion (IsPoint end locals) (point_in t placed.at set (set_instr t placed.instr) ∷ [])
    stays-within =
        let moved = with_unit t.unit placed.instr in
        let jumps : AllByRecursion (NamesPoint end) (map t.number (targets placed.instr)) =
        all-mapped (NamesPoint end) t.number (targets placed.instr) (AllByRecursion-weaker (IsPlaceOf (body_of s).points) (λ (at : ℕ). t.number at < end) within.numbers (targets placed.instr) stands.targets) in
        let same : targets (set_instr t placed.instr) ≡ map t.number (targets placed.instr) = targets-to t.number moved ∙ ap (map t.number) (with-unit-targets t.unit placed.instr) in (
          point-within t placed.at set (set_instr t placed.instr) (subst (AllByRecursion (NamesPoint end)) (sym same) jumps)
              (local-kept t.number locals moved (with-unit-local s.part.max_locals locals t.unit placed.instr within.units stands.local)) stands.handlers,
          tt,
        )

    by : (behind : Option ℕ) → t.behind ≡ behind → (instr : Instr) → placed.instr ≡ instr → AllByRecursion (IsPoint end locals) (instr_points t placed frame)
    by None none instr is = rw none stays-within
    by (Some behind) some (Return kind) is =
        rw (some, is) (all-append (IsPoint end locals) _ (point_in t placed.at set (Goto behind) ∷ [])
        (narrows-within t placed.at (λ (n : Narrowing). record set { stack = set.stack ++ n.above }) (result_of (own_descriptor t.coded.scope)) stands.handlers)
        (point-within t placed.at set (Goto behind) (within.behind behind some, tt) tt stands.handlers, tt))
    by (Some behind) some instr is =
        rw (some, is) (subst (λ (own : Instr). AllByRecursion (IsPoint end locals) (point_in t placed.at set (set_instr t own) ∷ [])) is stays-within)

  stores-within : (t : Setting) (at : ℕ) (frame : Frame) (all : List Argument) → AllByRecursion BeginsWithin (t.handlers at) → AllByRecursion (FitsArgument locals) all → AllByRecursion (IsPoint end locals) (store_points t at frame all)
  stores-within t at frame [] handlers fit = tt
  stores-within t at frame (argument ∷ others) handlers fit =
      (point-within t at frame (Store argument.kind argument.unit) tt fit.0 handlers, stores-within t at (frame_stored frame argument) others handlers fit.1)

  test-within : (t : Setting) (at : ℕ) (frame : Frame) (s : Scope) (unit : ℕ) → AllByRecursion BeginsWithin (t.handlers at) → IsCallable s → unit + s.part.max_locals ≤ locals → AllByRecursion (IsPoint end locals) (test_points t at frame s unit)
  test-within t at frame s unit handlers callable fits = by (tests_receiver s) refl where
    by : (tests : Bool) → tests_receiver s ≡ tests → AllByRecursion (IsPoint end locals) (if tests then record { instr = NullTest unit; typed = frame; handlers = t.handlers at } ∷ [] else [])
    by true is = (record { instr = receiver-fits locals unit s callable fits is; handlers = handlers }, tt)
    by false is = tt

  entry-within : (t : Setting) (at : ℕ) (frame : Frame) (s : Scope) (unit : ℕ) → AllByRecursion BeginsWithin (t.handlers at) → IsCallable s → unit + s.part.max_locals ≤ locals → AllByRecursion (IsPoint end locals) (points_of_entry t at frame s unit)
  entry-within t at frame s unit handlers callable fits =
      let stores = reverse (arguments s unit) in
      all-append (IsPoint end locals) (store_points t at frame stores) (test_points t at (frame_behind_stores frame stores) s unit)
      (stores-within t at frame stores handlers (all-reversed (FitsArgument locals) (arguments s unit) (arguments-fit locals unit s callable fits)))
      (test-within t at (frame_behind_stores frame stores) s unit handlers callable fits)

  -- ---- a method

  stand-in-callee : (t : Setting) (s : Scope) (some : List Placed) → AllByRecursion (IsThereIn (instructions s)) some → AllByRecursion (GoesWithin s) some → AllByRecursion (λ (placed : Placed). HasLocal s.part.max_locals placed.instr) some
      → ((at : ℕ) → AllByRecursion BeginsWithin (t.handlers at)) → AllByRecursion (StandsWithin t s) some
  stand-in-callee t s [] there goes units handlers = tt
  stand-in-callee t s (placed ∷ some) there goes units handlers =
      (record { there = there.0; targets = goes.0.targets; local = units.0; handlers = handlers placed.at }, stand-in-callee t s some there.1 goes.1 units.1 handlers)

module _ (classes : Classes) (typed : FolderFrames) (host : MethodAt) (each : (at : MethodAt) (s : Scope) (frames : List Frame) → HasFrames classes typed at s frames → IsTypedMethod s frames) (end locals : ℕ) where
  points-within : (chain : List MethodAt) (from : MethodAt) (instrs : List Placed) (expansion : Expansion) → Expands classes typed host chain from instrs expansion
      → (t : Setting) (s : Scope) (all : List Frame) → HasFrames classes typed from s all → IsWithin end locals t s → AllByRecursion (StandsWithin end locals t s) instrs
      → (number unit : ℕ) (frames : List Frame) (flows : Option Frame) → AreTyped (body_of s) flows (map (point_of s) instrs) frames
      → number + points_of (callee_of t) instrs expansion ≤ end → unit + units_in expansion ≤ locals
      → AllByRecursion (IsPoint end locals) (points_from t number unit instrs frames expansion)
  points-within _ _ _ _ (expands_none chain from) t s all has within stand number unit [] flows are points units = tt
  points-within _ _ _ _ (expands_none chain from) t s all has within stand number unit (frame ∷ frames) flows are points units = elim are [ ]
  points-within _ _ _ _ (expands_stays chain from placed instrs more not none next) t s all has within stand number unit [] flows are points units = elim are [ ]
  points-within _ _ _ _ (expands_stays chain from placed instrs more not none next) t s all has within stand number unit (frame ∷ frames) flows are points units =
      let later = number + own_points (callee_of t) placed.instr in
      all-append (IsPoint end locals) (instr_points t placed frame) (points_from t later unit instrs frames more)
      (own-within end locals t s placed frame within stand.0)
      (points-within chain from instrs more next t s all has within stand.1 later unit frames (flows_on (point_of s placed) frame) are.1 (omega (arith, points)) units)
  points-within _ _ _ _ (expands_site chain from placed instrs class more is next) t s all has within stand number unit [] flows are points units = elim are [ ]
  points-within _ _ _ _ (expands_site chain from placed instrs class more is next) t s all has within stand number unit (frame ∷ frames) flows are points units =
      let later = number + own_points (callee_of t) placed.instr in
      all-append (IsPoint end locals) (instr_points t placed frame) (points_from t later unit instrs frames more)
      (own-within end locals t s placed frame within stand.0)
      (points-within chain from instrs more next t s all has within stand.1 later unit frames (flows_on (point_of s placed) frame) are.1 (omega (arith, points)) units)
  points-within _ _ _ _ (expands_replaced chain from placed instrs g inner more is of inside next) t s all has within stand number unit [] flows are points units = elim are [ ]
  points-within _ _ _ _ (expands_replaced chain from placed instrs g inner more is of inside next) t s all has within stand number unit (frame ∷ frames) flows are points units =
      let set = set_frame t frame in
      let most = g.scope.part.max_locals in
      let method = each g.at g.scope g.frames of in
      let place = callee_setting t placed.at set number unit g inner in
      let entry = points_of_entry t placed.at set g.scope unit in
      let own = points_from place (number + points_before g.scope) (unit + most) (instructions g.scope) g.frames inner in
      let others = points_from t (number + points_of_callee g inner) (unit + most + units_in inner) instrs frames more in
      let call = callee-call classes typed host.class from placed.at g.at is.is_callee s all has in
      let invokes : placed.instr ≡ Invoke call.0 call.1 call.2 =
      same_Some placed.instr (Invoke call.0 call.1 call.2) (sym (ap (option_map (λ (p : Placed). p.instr)) stand.0.there) ∙ call.3) in
      let some : 0 < points_of (callee_of t) instrs more =
      some-points classes typed host each chain from instrs more next (callee_of t) (call-goes-on s placed frame instrs frames call.0 call.1 call.2 invokes are.1) in
      let inside-all : IsWithin end locals place g.scope = record {
        numbers = λ at is. omega (arith, points, some, number-inside classes typed host each g.scope (g.at ∷ chain) g.at (instructions g.scope) inner inside (Some g.scope) (number + points_before g.scope) at is);
        behind = λ at same. let here : number + points_of_callee g inner ≡ at = same_Some (number + points_of_callee g inner) at same in omega (arith, points, some, here);
        units = omega (arith, units);
      } in
      all-append (IsPoint end locals) (entry ++ own) others
      (all-append (IsPoint end locals) entry own
      (entry-within end locals t placed.at set g.scope unit stand.0.handlers method.callable (omega (arith, units)))
      (points-within (g.at ∷ chain) g.at (instructions g.scope) inner inside place g.scope g.frames of inside-all
      (stand-in-callee end locals place g.scope (instructions g.scope) (each-there g.scope (instructions g.scope) method.order) method.goes method.units (λ at. stand.0.handlers))
      (number + points_before g.scope) (unit + most) g.frames (Some (body_of g.scope).entry) method.typed.instrs (omega (arith, points)) (omega (arith, units))))
      (points-within chain from instrs more next t s all has within stand.1 (number + points_of_callee g inner) (unit + most + units_in inner) frames (flows_on (point_of s placed) frame) are.1 (omega (arith, points)) (omega (arith, units)))

-- ---- the host

module _ (s : Scope) (end : ℕ) (number : ℕ → ℕ) (numbers : (at : ℕ) → IsPlaceOf (body_of s).points at → number at < end) where
  handler-within : (handler : Handler) → number handler.at < end → AllByRecursion (λ (h : FlatHandler). NamesPoint end h.to) (handler_by s number handler)
  handler-within handler less = of-type (handler.catch_type == 0) refl (class_at s.class.pool handler.catch_type) refl where
    of-type : (any : Bool) → (handler.catch_type == 0) ≡ any → (class : Option Name) → class_at s.class.pool handler.catch_type ≡ class → AllByRecursion (λ (h : FlatHandler). NamesPoint end h.to) (handler_by s number handler)
    of-type true any class is = rw any (less, tt)
    of-type false any None is = rw (any, is) tt
    of-type false any (Some class) is = rw (any, is) (less, tt)

  around-within : (at : ℕ) (handlers : List Handler) → AllByRecursion (λ (catch : BodyCatch). IsPlaceOf (body_of s).points catch.to) (catches_at s at handlers)
      → AllByRecursion (λ (h : FlatHandler). NamesPoint end h.to) (flat_map (λ (handler : Handler). if covers handler at then handler_by s number handler else []) handlers)
  around-within at [] all = tt
  around-within at (handler ∷ handlers) all = of-range (covers handler at) all (around-within at handlers) where
    rest : List FlatHandler
    rest = flat_map (λ (handler : Handler). if covers handler at then handler_by s number handler else []) handlers

    of-range : (around : Bool)
        → AllByRecursion (λ (catch : BodyCatch). IsPlaceOf (body_of s).points catch.to) (if around then catch_of s handler ∷ catches_at s at handlers else catches_at s at handlers)
        → (AllByRecursion (λ (catch : BodyCatch). IsPlaceOf (body_of s).points catch.to) (catches_at s at handlers) → AllByRecursion (λ (h : FlatHandler). NamesPoint end h.to) rest)
        → AllByRecursion (λ (h : FlatHandler). NamesPoint end h.to) ((if around then handler_by s number handler else []) ++ rest)
    of-range true all others = all-append (λ (h : FlatHandler). NamesPoint end h.to) (handler_by s number handler) rest (handler-within handler (numbers handler.at all.0)) (others all.1)
    of-range false all others = others all

  host-stands : (locals : ℕ) (t : Setting) → t.handlers ≡ handlers_by s number → (some : List Placed) → AllByRecursion (IsThereIn (instructions s)) some → AllByRecursion (GoesWithin s) some
      → AllByRecursion (λ (placed : Placed). HasLocal s.part.max_locals placed.instr) some → AllByRecursion (StandsWithin end locals t s) some
  host-stands locals t are [] there goes units = tt
  host-stands locals t are (placed ∷ some) there goes units = (
    record {
      there = there.0;
      targets = goes.0.targets;
      local = units.0;
      handlers = subst (λ (of : ℕ → List FlatHandler). AllByRecursion (λ (h : FlatHandler). NamesPoint end h.to) (of placed.at)) (sym are) (around-within placed.at s.part.handlers goes.0.handlers);
    },
    host-stands locals t are some there.1 goes.1 units.1,
  )

pub expanded-is-flat : (classes : Classes) (typed : FolderFrames) (each : (at : MethodAt) (s : Scope) (frames : List Frame) → HasFrames classes typed at s frames → IsTypedMethod s frames)
    → (host : Coded) (expansion : Expansion) → HasFrames classes typed host.at host.scope host.frames → Expands classes typed host.at [] host.at (instructions host.scope) expansion
    → IsFlat (expanded host expansion)
expanded-is-flat classes typed each host expansion has expands =
    let s = host.scope in
    let instrs = instructions s in
    let method = each host.at s host.frames has in
    let t = host_setting host expansion in
    let locals = s.part.max_locals + units_in expansion in
    let end = points_of None instrs expansion in
    let long : length (expanded host expansion).points ≡ end = points-length classes typed host.at each [] host.at instrs expansion expands t 0 s.part.max_locals host.frames method.one_each in
    let numbers : (at : ℕ) → IsPlaceOf (body_of s).points at → t.number at < end = λ at is. omega (arith, number-inside classes typed host.at each s [] host.at instrs expansion expands None 0 at is) in
    let within : IsWithin end locals t s = record { numbers = numbers; behind = λ number none. absurd (none-some number none); units = omega arith } in
    let points : AllByRecursion (IsPoint end locals) (expanded host expansion).points =
    points-within classes typed host.at each end locals [] host.at instrs expansion expands t s host.frames has within
    (host-stands s end t.number numbers locals t refl instrs (each-there s instrs method.order) method.goes method.units)
    0 s.part.max_locals host.frames (Some (body_of s).entry) method.typed.instrs (omega arith) (omega arith) in
    record {
      points = subst (λ (n : ℕ). AllByRecursion (IsPoint n locals) (expanded host expansion).points) (sym long) points;
      sites = sites-inside s.headers None 0 instrs expansion (length (expanded host expansion).points) (omega (arith, long));
    }

-- The object for which java/lang/Object's constructor is called is there, since its type is uninitialised.
use Rattle.std.proofs.Common.{◌≡◌, ◌-◌, ◌&&◌, ℕ, suc, Bool, true, false, List, [], ◌∷◌, bytes_eq, drop, length, reverse, slice_get, Option, Some, None, refl, sym, ap, subst, ◌∙◌, arith}
use Rattle.std.proofs.lemmas.Bool.{false≢true}
use Rattle.std.proofs.lemmas.List.{length-reverse}
use Rattle.std.proofs.lemmas.Option.{none-some, same_Some}
use Rattle.class_model.specs.Descriptors.{parameters_of}
use Rattle.class_model.specs.Names.{init}
use Rattle.class_model.specs.Pool.{Constants, constant_at}
use Rattle.class_model.specs.declared.frame.Frame.{Frame}
use Rattle.class_model.specs.declared.frame.VType.{VType}
use Rattle.class_model.specs.declared.instr.Instr.TheVariants.{Invoke}
use Rattle.class_model.specs.declared.opcodes.TheConstants.{INVOKESPECIAL}
use Rattle.class_tree.specs.Names.{object}
use Rattle.flow_code.specs.FlatCode.{FlatCode}
use Rattle.flow_code.specs.ReadTypes.{is_site_object, read_frame}
use Rattle.flow_code.specs.declared.point.FlatInstr.TheVariants.{Of}
use Rattle.machine_values.specs.Heaps.{Heap}
use Rattle.machine_values.specs.declared.value.Value.{Value}
use Rattle.machine_values.specs.declared.value.Value.TheVariants.{Ref}
use Rattle.member_link.specs.Machine.CallSteps.{is_object_init}
use Rattle.member_link.specs.Machine.Programs.{Program}
use Rattle.member_link.specs.Machine.Runs.{Run}
use Rattle.member_link.specs.References.{Reference}
use Rattle.member_link.specs.RowScope.{RowScope}
use Rattle.member_link.specs.Rows.MemberRows.{call_row, receiver}
use Rattle.member_link.specs.Rows.Operands.{AllFit, IsUninitialised, Need, topmost, uninitialised}
use Rattle.member_link.specs.Rows.Readings.{row_by}
use Rattle.member_link.specs.Signatures.{reference_of}
use Rattle.plan_flow.specs.PlanScope.{PlanScope, member_of}
use Rattle.same_runs.specs.Flats.{instr_scope, pool_of}
use Rattle.same_runs.specs.TypedFlats.{reading_of_call}
use Rattle.typed_runs.specs.Conforming.{AllConform, Conforms, a_double, a_float, a_long, an_int, an_object, and_value, no_values, null_object, of_new, of_this, only_null, to_top}
use Rattle.written_runs.specs.Inner.PlannedFrames.{scope_in}
use Rattle.written_runs.specs.Inner.Setup.{Setup}
use Rattle.written_runs.specs.Laws.Carried.CarriedOps.{ready_there, typed_row}
use Rattle.written_runs.specs.Laws.Carried.Knowing.{CarriedLaws}
use Rattle.written_runs.specs.Laws.Carried.Planned.{knowing_here}
use Rattle.written_runs.specs.Laws.Carried.Points.{same_pool}
use Rattle.written_runs.specs.Laws.Carried.Rows.{reverse_get}
use Rattle.written_runs.specs.Laws.PlannedTurns.{AtPlanned, written_at}

-- ---- values of uninitialised types

uninit_refers : {P : Program} {s : RowScope} {heap : Heap} {type : VType} {value : Value} → Conforms P s heap type value → IsUninitialised type
    → (reference : ℕ) × (value ≡ Ref reference)
uninit_refers (of_new {reference = reference} new there shape) is = (reference, refl)
uninit_refers (of_this {reference = reference} there below) is = (reference, refl)
uninit_refers (to_top there) is = absurd is
uninit_refers an_int is = absurd is
uninit_refers a_long is = absurd is
uninit_refers a_float is = absurd is
uninit_refers a_double is = absurd is
uninit_refers only_null is = absurd is
uninit_refers null_object is = absurd is
uninit_refers (an_object there shape) is = absurd is

-- the topmost entry of a stack
last_refers : {P : Program} {s : RowScope} {heap : Heap} (all : List VType) (values : List Value) → AllConform P s heap all values
    → (scope : RowScope)
    → AllFit scope (uninitialised ∷ []) (drop (length all - 1) all)
    → (value : Value)
    → slice_get values (length values - 1) ≡ Some value
    → (reference : ℕ) × (value ≡ Ref reference)
last_refers [] [] no_values scope fits value is = absurd (none-some value is)
last_refers (type ∷ []) (one ∷ []) (and_value here no_values) scope fits value is =
    let found = uninit_refers here fits.0 in (found.0, sym (same_Some one value is) ∙ found.1)
last_refers (type ∷ next ∷ all) (one ∷ other ∷ values) (and_value here (and_value there rest)) scope fits value is =
    let types_left : length (type ∷ next ∷ all) - 1 ≡ suc (length (next ∷ all) - 1) = omega arith in
    let values_left : length (one ∷ other ∷ values) - 1 ≡ suc (length (other ∷ values) - 1) = omega arith in
    last_refers (next ∷ all) (other ∷ values) (and_value there rest) scope
    (subst (λ (n : ℕ). AllFit scope (uninitialised ∷ []) (drop n (type ∷ next ∷ all))) types_left fits) value
    (ap (slice_get (one ∷ other ∷ values)) (sym values_left) ∙ is)
last_refers [] (one ∷ values) conform scope fits value is = elim conform [ ]
last_refers (type ∷ []) [] conform scope fits value is = elim conform [ ]
last_refers (type ∷ []) (one ∷ other ∷ values) (and_value here rest) scope fits value is = elim rest [ ]
last_refers (type ∷ next ∷ all) [] conform scope fits value is = elim conform [ ]
last_refers (type ∷ next ∷ all) (one ∷ []) (and_value here rest) scope fits value is = elim rest [ ]

-- ---- the row

both_parts : (one other : Bool) → (one && other) ≡ true → (one ≡ true) × (other ≡ true)
both_parts true other is = (refl, is)
both_parts false other is = absurd (false≢true is)

takes_special : (flat : FlatCode) (typed frame : Frame) (scope : RowScope) (r : Reference)
    → bytes_eq r.class object ≡ true
    → bytes_eq r.name init ≡ true
    → is_site_object flat (receiver typed r.desc) ≡ false
    → parameters_of r.desc ≡ []
    → (row_by (reading_of_call flat typed INVOKESPECIAL (Some r)) frame (call_row scope frame INVOKESPECIAL (Some r))).takes ≡ uninitialised ∷ []
takes_special flat typed frame scope r of_object named not_site none = rw (of_object, named, not_site, none) refl

takes_init : (flat : FlatCode) (typed frame : Frame) (scope : RowScope) (opcode : ℕ) (found : Option Reference) (r : Reference)
    → found ≡ Some r
    → opcode ≡ INVOKESPECIAL
    → is_object_init r ≡ true
    → is_site_object flat (receiver typed r.desc) ≡ false
    → parameters_of r.desc ≡ []
    → (row_by (reading_of_call flat typed opcode found) frame (call_row scope frame opcode found)).takes ≡ uninitialised ∷ []
takes_init flat typed frame scope opcode found r is special init_is not_site none =
    let parts = both_parts (bytes_eq r.class object) (bytes_eq r.name init) init_is in
    ap (λ (o : ℕ). (row_by (reading_of_call flat typed o found) frame (call_row scope frame o found)).takes) special
    ∙ ap (λ (one : Option Reference). (row_by (reading_of_call flat typed INVOKESPECIAL one) frame (call_row scope frame INVOKESPECIAL one)).takes) is
    ∙ takes_special flat typed frame scope r parts.0 parts.1 not_site none

-- ---- at an instruction

module _ (u : Setup) (laws : CarriedLaws u) {measure : ℕ} {one other : Run} (a : AtPlanned u measure one other) (class opcode index count : ℕ)
    (is : a.settled.point.instr ≡ Of class (Invoke opcode index count)) (none : written_at a class (Invoke opcode index count) ≡ None) where
  abbrev s : PlanScope
  s = scope_in u a.in_planned.one

  abbrev frame : Frame
  frame = read_frame a.in_planned.one.flat a.settled.point.typed

  abbrev scope : RowScope
  scope =
      instr_scope u.classes (ready_there u laws a class (Invoke opcode index count) is none).scope a.in_planned.one.flat
      (Of class (Invoke opcode index count))

  pub init_refers_there : (r : Reference)
      → member_of s class index ≡ Some r
      → is_object_init r ≡ true
      → opcode ≡ INVOKESPECIAL
      → parameters_of r.desc ≡ []
      → is_site_object a.in_planned.one.flat (receiver a.settled.point.typed r.desc) ≡ false
      → (value : Value)
      → slice_get a.f.stack 0 ≡ Some value
      → (reference : ℕ) × (value ≡ Ref reference)
  init_refers_there r member init_is special no_parameters not_site value top =
      last_refers frame.stack (reverse a.f.stack)
      (laws.conforms one.world a.f a.ones a.in_planned.one a.settled.point (knowing_here u laws.turns.settle a).typed
      (knowing_here u laws.turns.settle a).stands written a.settled.of_instruction.reached.is_point).stack scope fits
      value
      (ap (λ (n : ℕ). slice_get (reverse a.f.stack) (n - 1)) (length-reverse a.f.stack) ∙ reverse_get a.f.stack 0 value top) where
        written : u.written a.f.at ≡ Some a.in_planned.one
        written = ap u.written (knowing_here u laws.turns.settle a).at ∙ (knowing_here u laws.turns.settle a).is_written

        found : reference_of (pool_of u.classes class) (constant_at (pool_of u.classes class) index) ≡ Some r
        found = ap (λ (pool : Constants). reference_of pool (constant_at pool index)) (same_pool s class) ∙ member

        fits : AllFit scope (uninitialised ∷ []) (drop (length frame.stack - 1) frame.stack)
        fits =
            subst (λ (needs : List Need). AllFit scope needs (topmost (length needs) frame.stack))
            (takes_init a.in_planned.one.flat a.settled.point.typed frame scope opcode
            (reference_of (pool_of u.classes class) (constant_at (pool_of u.classes class) index)) r found special init_is not_site
            no_parameters)
            (typed_row u laws a class (Invoke opcode index count) is none).operands

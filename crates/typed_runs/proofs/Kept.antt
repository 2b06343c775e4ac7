use Rattle.std.specs.Prelude.{◌≡◌, refl, ℕ, List, [], ◌∷◌, Option, Some, None, IfSome, IsSome}
use Rattle.std.specs.List.{AllByRecursion}
use Rattle.std.proofs.Common.{subst}
use Rattle.class_model.specs.Laws.Lists.{AllByRecursion-weaker}
use Rattle.class_model.specs.declared.descriptor.FieldType.{FieldType}
use Rattle.class_model.specs.declared.descriptor.FieldType.TheVariants as field_types
use Rattle.class_model.specs.Descriptors.{type_of}
use Rattle.class_model.specs.declared.frame.VType.{VType}
use Rattle.class_tree.specs.Headers.{Name}
use Rattle.machine_values.specs.Frames.{MethodState}
use Rattle.machine_values.specs.Heaps.{Heap, Kept, object_at}
use Rattle.machine_values.specs.Values.{component_text}
use Rattle.machine_values.specs.declared.frame.RunFrame.{RunFrame}
use Rattle.machine_values.specs.declared.frame.RunFrame.TheVariants as frames
use Rattle.machine_values.specs.declared.object.Object.{Object}
use Rattle.machine_values.specs.declared.object.Shape.{Shape}
use Rattle.machine_values.specs.declared.object.Shape.TheVariants as shapes
use Rattle.machine_values.specs.declared.value.Value.{Value}
use Rattle.machine_values.specs.declared.value.Value.TheVariants as values
use Rattle.member_link.specs.Machine.Ops.{Op}
use Rattle.member_link.specs.Machine.Programs.{Program}
use Rattle.member_link.specs.References.{Reference}
use Rattle.member_link.specs.RowScope.{RowScope}
use Rattle.typed_runs.specs.Conforming.{IsInHeap, IsValueInHeap, HasShape, Conforms, to_top, an_int, a_long, a_float, a_double, only_null, null_object, an_object, of_new, of_this, AllConform, no_values, and_value, UnitConforms, no_value, has_value, UnitsConform, no_units, and_unit, RefersTo, to_none, to_one, FieldConforms, FitsDescriptor, FitSlots, HoldsShape, IsConstantObject}
use Rattle.typed_runs.specs.TypedFrames.{Above, nothing_awaited, called_method, asked_library, StandsAt, Does, Waits, MethodConforms, FrameConforms, FramesConform, lowest, upon}
use Rattle.typed_runs.specs.TypedPrograms.{Typings}

-- each object is still there, and is what it was
pub record Keeps (before after : Heap) : Type 0 where
  pub keeps : (r : ℕ) (o : Object) → object_at before r ≡ Some o → HasShape after r o.shape

pub keeps_same : (h : Heap) → Keeps h h
keeps_same h = record { keeps = λ r o is. record { object = o; is_there = is; same = refl } }

pub shape_kept : {h k : Heap} {r : ℕ} {s : Shape} → Keeps h k → HasShape h r s → HasShape k r s
shape_kept {k = k} {r = r} keep has = subst (λ s. HasShape k r s) has.same (keep.keeps r has.object has.is_there)

pub keeps_through : {a b c : Heap} → Keeps a b → Keeps b c → Keeps a c
keeps_through one other = record { keeps = λ r o is. shape_kept other (one.keeps r o is) }

-- ---- references

pub in_heap : (h : Heap) (r : ℕ) → IsInHeap h r → (o : Object) × (object_at h r ≡ Some o)
in_heap h r there = by (object_at h r) refl there where
  by : (o : Option Object) → object_at h r ≡ o → IsSome o → (o : Object) × (object_at h r ≡ Some o)
  by None is there = cc
  by (Some o) is there = (o, is)

pub there : {h : Heap} {r : ℕ} {s : Shape} → HasShape h r s → IsInHeap h r
there has = rw has.is_there refl

pub in_heap_kept : {h k : Heap} → Keeps h k → (r : ℕ) → IsInHeap h r → IsInHeap k r
in_heap_kept {h = h} keep r is = let o = in_heap h r is in there (keep.keeps r o.0 o.1)

pub value_kept : {h k : Heap} → Keeps h k → (v : Value) → IsValueInHeap h v → IsValueInHeap k v
value_kept keep (values.Ref r) is = in_heap_kept keep r is
value_kept keep (values.Int n) is = tt
value_kept keep (values.Long n) is = tt
value_kept keep (values.Float n) is = tt
value_kept keep (values.Double n) is = tt
value_kept keep values.Null is = tt

-- ---- conforming

pub conforms_kept : {P : Program} {s : RowScope} {h k : Heap} {t : VType} {v : Value} → Keeps h k → Conforms P s h t v → Conforms P s k t v
conforms_kept keep (to_top {value = v} is) = to_top (value_kept keep v is)
conforms_kept keep an_int = an_int
conforms_kept keep a_long = a_long
conforms_kept keep a_float = a_float
conforms_kept keep a_double = a_double
conforms_kept keep only_null = only_null
conforms_kept keep null_object = null_object
conforms_kept keep (an_object shape is) = an_object (shape_kept keep shape) is
conforms_kept keep (of_new new shape class) = of_new new (shape_kept keep shape) class
conforms_kept keep (of_this shape below) = of_this (shape_kept keep shape) below

pub all_kept : {P : Program} {s : RowScope} {h k : Heap} {ts : List VType} {vs : List Value} → Keeps h k → AllConform P s h ts vs → AllConform P s k ts vs
all_kept keep no_values = no_values
all_kept keep (and_value one others) = and_value (conforms_kept keep one) (all_kept keep others)

pub unit_kept : {P : Program} {s : RowScope} {h k : Heap} {t : VType} {u : Option Value} → Keeps h k → UnitConforms P s h t u → UnitConforms P s k t u
unit_kept keep no_value = no_value
unit_kept keep (has_value is) = has_value (conforms_kept keep is)

pub units_kept : {P : Program} {s : RowScope} {h k : Heap} {ts : List VType} {us : List (Option Value)} → Keeps h k → UnitsConform P s h ts us → UnitsConform P s k ts us
units_kept keep no_units = no_units
units_kept keep (and_unit one others) = and_unit (unit_kept keep one) (units_kept keep others)

-- ---- memory

pub refers_kept : {P : Program} {h k : Heap} {name : Name} {v : Value} → Keeps h k → RefersTo P h name v → RefersTo P k name v
refers_kept keep to_none = to_none
refers_kept keep (to_one shape is) = to_one (shape_kept keep shape) is

pub field_kept : (P : Program) {h k : Heap} → Keeps h k → (t : FieldType) (v : Value) → FieldConforms P h t v → FieldConforms P k t v
field_kept P keep (field_types.Named name) v is = refers_kept keep is
field_kept P keep field_types.Byte v is = is
field_kept P keep field_types.Char v is = is
field_kept P keep field_types.Short v is = is
field_kept P keep field_types.Bool v is = is
field_kept P keep field_types.Int v is = is
field_kept P keep field_types.Long v is = is
field_kept P keep field_types.Float v is = is
field_kept P keep field_types.Double v is = is

pub slots_kept : (P : Program) {h k : Heap} → Keeps h k → (slots : List Reference) (vs : List Value) → FitSlots P h slots vs → FitSlots P k slots vs
slots_kept P keep [] [] fit = tt
slots_kept P keep [] (v ∷ vs) fit = absurd fit
slots_kept P keep (s ∷ ss) [] fit = absurd fit
slots_kept P keep (s ∷ ss) (v ∷ vs) fit = (field_kept P keep (type_of s.desc) v fit.0, slots_kept P keep ss vs fit.1)

pub holds_kept : (P : Program) {h k : Heap} → Keeps h k → (s : Shape) (vs : List Value) → HoldsShape P h s vs → HoldsShape P k s vs
holds_kept P keep (shapes.Folder class) vs holds = record { found = holds.found; is_class = holds.is_class; fields = slots_kept P keep _ vs holds.fields }
holds_kept P {h = h} {k = k} keep (shapes.Array desc len) vs holds = record {
  is_array = holds.is_array;
  of_element = holds.of_element;
  as_long = holds.as_long;
  elements = AllByRecursion-weaker (FitsDescriptor P h (component_text desc)) (FitsDescriptor P k (component_text desc)) (λ v is. field_kept P keep (type_of (component_text desc)) v is) vs holds.elements;
}
holds_kept P keep (shapes.External class also) vs holds = holds

pub constants_kept : {h k : Heap} → Keeps h k → (cs : List Kept) → AllByRecursion (IsConstantObject h) cs → AllByRecursion (IsConstantObject k) cs
constants_kept {h = h} {k = k} keep cs all = AllByRecursion-weaker (IsConstantObject h) (IsConstantObject k) (λ c is. shape_kept keep is) cs all

pub known_kept : {h k : Heap} → Keeps h k → (rs : List ℕ) → AllByRecursion (IsInHeap h) rs → AllByRecursion (IsInHeap k) rs
known_kept {h = h} {k = k} keep rs all = AllByRecursion-weaker (IsInHeap h) (IsInHeap k) (λ r is. in_heap_kept keep r is) rs all

pub option_kept : {h k : Heap} → Keeps h k → (r : Option ℕ) → IfSome r (IsInHeap h) → IfSome r (IsInHeap k)
option_kept keep None is = tt
option_kept keep (Some r) is = in_heap_kept keep r is

-- ---- frames

abbrev pub stands_kept : {P : Program} {T : Typings} {h k : Heap} {f : MethodState} → Keeps h k → StandsAt P T h f → StandsAt P T k f
stands_kept {f = f} keep s = record { point = s.point; is_point = s.is_point; fits = s.fits; paired = s.paired; held = option_kept keep f.held s.held }

pub does_kept : {P : Program} {T : Typings} {h k : Heap} {f : MethodState} → Keeps h k → Does P T h f → Does P T k f
does_kept keep d = record { stands = stands_kept keep d.stands; locals = units_kept keep d.locals; stack = all_kept keep d.stack }

pub waits_kept : {P : Program} {T : Typings} {h k : Heap} {f : MethodState} {W : Op → Type 0} → Keeps h k → Waits P T h f W → Waits P T k f W
waits_kept keep w = record {
  stands = stands_kept keep w.stands;
  before = units_kept keep w.before;
  locals = units_kept keep w.locals;
  stack = all_kept keep w.stack;
  waited = w.waited;
}

pub method_kept : (P : Program) (T : Typings) {h k : Heap} → Keeps h k → (f : MethodState) (a : Above) → MethodConforms P T h f a → MethodConforms P T k f a
method_kept P T keep f nothing_awaited is = does_kept keep is
method_kept P T keep f (called_method m) is = waits_kept keep is
method_kept P T keep f asked_library is = waits_kept keep is

pub frame_kept : (P : Program) (T : Typings) {h k : Heap} → Keeps h k → (a : Above) (frame : RunFrame) → FrameConforms P T h a frame → FrameConforms P T k a frame
frame_kept P T keep a (frames.Library made) is = option_kept keep made is
frame_kept P T keep a (frames.Beginning class) is = is
frame_kept P T keep a (frames.Method f) is = method_kept P T keep f a is

pub frames_kept : {P : Program} {T : Typings} {h k : Heap} {a : Above} {fs : List RunFrame} → Keeps h k → FramesConform P T h a fs → FramesConform P T k a fs
frames_kept keep (lowest {made = made} is) = lowest (option_kept keep made is)
frames_kept {P = P} {T = T} keep (upon {above = a} {frame = frame} is rest) = upon (frame_kept P T keep a frame is) (frames_kept keep rest)

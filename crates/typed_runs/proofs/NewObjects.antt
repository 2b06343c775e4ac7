use Rattle.std.specs.Prelude.{◌≡◌, ◌≢◌, ◌==◌, ◌+◌, refl, ℕ, Bool, true, false, List, [], ◌∷◌, ◌++◌, map, reverse, slice_get, bytes_eq, is_some, Option, Some, None, if◌then◌else◌}
use Rattle.std.specs.List.{AllByRecursion, flat_map}
use Rattle.std.proofs.Common.{arith, ap, sym, subst}
use Rattle.std.proofs.lemmas.List.{map-append}
use Rattle.std.proofs.lemmas.Slice.Eq.{bytes_eq-Decides}
use Rattle.class_model.specs.declared.frame.Frame.{Frame}
use Rattle.class_model.specs.declared.frame.VType.{VType}
use Rattle.class_model.specs.declared.frame.VType.TheVariants as types
use Rattle.class_model.specs.declared.header.Member.{Member}
use Rattle.class_tree.specs.Headers.{Name}
use Rattle.class_tree.specs.Layouts.{superclasses, own_fields, instance_fields}
use Rattle.machine_values.specs.Frames.{MethodState}
use Rattle.machine_values.specs.Heaps.{Heap, Made}
use Rattle.machine_values.specs.Values.{blank_value, blank_values}
use Rattle.machine_values.specs.declared.frame.RunFrame.{RunFrame}
use Rattle.machine_values.specs.declared.object.Shape.{Shape}
use Rattle.machine_values.specs.declared.object.Shape.TheVariants as shapes
use Rattle.machine_values.specs.declared.value.Value.{Value}
use Rattle.machine_values.specs.declared.value.Value.TheVariants as values
use Rattle.member_link.specs.Forms.{IsInstantiable}
use Rattle.member_link.specs.Machine.Codes.{naming}
use Rattle.member_link.specs.Machine.Completions.{gives}
use Rattle.member_link.specs.Machine.Layouts.{own_slots, slots_of}
use Rattle.member_link.specs.Machine.ObjectSteps.{blank_object, object_of}
use Rattle.member_link.specs.Machine.Ops.{new_object}
use Rattle.member_link.specs.Machine.Programs.{Program, RunClass, headers_in, folder_number, name_of_class}
use Rattle.member_link.specs.Machine.Shapes.{class_of_shape}
use Rattle.member_link.specs.Machine.Stepping.{op_step}
use Rattle.member_link.specs.Machine.Worlds.{World, Memory, with_heap}
use Rattle.member_link.specs.References.{Reference}
use Rattle.member_link.specs.RowScope.{RowScope}
use Rattle.member_link.specs.Rows.Row.{access_aside, plain}
use Rattle.member_link.specs.Rows.Table.{without_older, new_row}
use Rattle.typed_runs.proofs.Assigned.{conforms_in_heap}
use Rattle.typed_runs.proofs.BeginningSteps.{first_found}
use Rattle.typed_runs.proofs.BegunFirst.{begun_first_goes}
use Rattle.typed_runs.proofs.BlankValues.{blank_fits}
use Rattle.typed_runs.proofs.Here.{Here, operands_here, worked, gives_goes}
use Rattle.typed_runs.proofs.InstanceCalls.{own_class}
use Rattle.typed_runs.proofs.Kept.{Keeps, units_kept, all_kept}
use Rattle.typed_runs.proofs.Memories.{made_keeps, made_shape, made_typed}
use Rattle.typed_runs.proofs.NewArrays.{allocations_typed}
use Rattle.typed_runs.specs.Conforming.{HasShape, ShapeConforms, Conforms, to_top, an_object, of_new, no_values, and_value, UnitConforms, no_value, has_value, UnitsConform, no_units, and_unit, FitSlots, IsTypedMemory}
use Rattle.typed_runs.specs.TypedFrames.{Does}
use Rattle.typed_runs.specs.TypedPrograms.{Typings}
use Rattle.typed_runs.specs.TypedWorlds.{StaysTyped}

-- ---- the fields of a new object

pub append_fits : (P : Program) (h : Heap) (slots more : List Reference) (vs others : List Value) → FitSlots P h slots vs
    → FitSlots P h more others → FitSlots P h (slots ++ more) (vs ++ others)
append_fits P h [] more [] others fit also = also
append_fits P h [] more (v ∷ vs) others fit also = absurd fit
append_fits P h (slot ∷ slots) more [] others fit also = absurd fit
append_fits P h (slot ∷ slots) more (v ∷ vs) others fit also = (fit.0, append_fits P h slots more vs others fit.1 also)

pub own_blank : (P : Program) (h : Heap) (name : Name) (fields : List Member)
    → FitSlots P h (map (λ (field : Member). record { class = name; name = field.name; desc = field.desc }) fields) (blank_values fields)
own_blank P h name [] = tt
own_blank P h name (field ∷ fields) = (blank_fits P h field.desc, own_blank P h name fields)

pub all_blank : (P : Program) (h : Heap) (names : List Name)
    → FitSlots P h (flat_map (own_slots P) names) (blank_values (flat_map (own_fields (headers_in P)) names))
all_blank P h [] = tt
all_blank P h (name ∷ names) =
    let fields : List Member = own_fields (headers_in P) name in
    let others : List Member = flat_map (own_fields (headers_in P)) names in
    subst (λ vs. FitSlots P h (own_slots P name ++ flat_map (own_slots P) names) vs)
    (sym (map-append (λ (field : Member). blank_value field.desc) fields others))
    (append_fits P h (own_slots P name) (flat_map (own_slots P) names) (blank_values fields) (blank_values others)
    (own_blank P h name fields) (all_blank P h names))

pub blank_slots : (P : Program) (h : Heap) (name : Name)
    → FitSlots P h (slots_of P name) (blank_values (instance_fields (headers_in P) name))
blank_slots P h name = all_blank P h (reverse (superclasses (headers_in P) name))

-- ---- a new object

pub record ObjectMade (P : Program) (m : Memory) (name : Name) (made : Made) : Type 0 where
  pub keep : Keeps m.heap made.heap
  pub typed : IsTypedMemory P (with_heap m made.heap)
  pub shape : Shape
  pub has_shape : HasShape made.heap made.reference shape
  pub of_class : class_of_shape P shape ≡ name

-- of a class of the folder, or of the library
pub object_made : (P : Program) (m : Memory) (name : Name) → IsTypedMemory P m → IsInstantiable (headers_in P) name
    → ObjectMade P m name (object_of P m.heap name)
object_made P m name typed is = by (folder_number P name) refl where
  by : (n : Option ℕ) → folder_number P name ≡ n → ObjectMade P m name (object_of P m.heap name)
  by None outside = rw outside (record {
    keep = made_keeps m.heap (shapes.External name []) [];
    typed = made_typed P m (shapes.External name []) [] typed
        (record { is_there = ap is_some is.found; of_library = outside; interfaces = tt });
    shape = shapes.External name [];
    has_shape = made_shape m.heap (shapes.External name []) [];
    of_class = refl;
  })
  by (Some class) inside =
      let found = first_found (λ (c : RunClass). bytes_eq name c.header.name) P.classes class inside in
      let there : slice_get P.classes class ≡ Some found.item = found.is_there in
      let same : name ≡ found.item.header.name = (bytes_eq-Decides name found.item.header.name).0 found.passed in
      let fields : List Value = blank_values (instance_fields (headers_in P) (name_of_class P class)) in
      rw inside (record {
        keep = made_keeps m.heap (shapes.Folder class) fields;
        typed = made_typed P m (shapes.Folder class) fields typed
            (record {
              found = found.item;
              is_class = there;
              fields = blank_slots P (blank_object P m.heap class).heap (name_of_class P class);
            });
        shape = shapes.Folder class;
        has_shape = made_shape m.heap (shapes.Folder class) fields;
        of_class = rw there (sym same);
      })

-- ---- older objects of the same new

pub older_conforms : {P : Program} {s : RowScope} {h : Heap} (at : ℕ) (t : VType) {v : Value} → Conforms P s h t v
    → Conforms P s h (without_older at t) v
older_conforms {P = P} {s = s} {h = h} at (types.Uninit other) {v = v} is = by (other == at) where
  by : (b : Bool) → Conforms P s h (if b then types.Top else types.Uninit other) v
  by true = to_top (conforms_in_heap is)
  by false = is
older_conforms at t is = is

pub older_unit : {P : Program} {s : RowScope} {h : Heap} (at : ℕ) {t : VType} {unit : Option Value} → UnitConforms P s h t unit
    → UnitConforms P s h (without_older at t) unit
older_unit at no_value = no_value
older_unit at (has_value {type = t} is) = has_value (older_conforms at t is)

pub older_units : {P : Program} {s : RowScope} {h : Heap} (at : ℕ) {ts : List VType} {units : List (Option Value)}
    → UnitsConform P s h ts units → UnitsConform P s h (map (without_older at) ts) units
older_units at no_units = no_units
older_units at (and_unit one others) = and_unit (older_unit at one) (older_units at others)

-- ---- new

module _ {P : Program} {T : Typings} {w : World} {f : MethodState} {rest : List RunFrame} {s : RowScope} {frame : Frame} {place : ℕ}
    {numbered : ℕ → ℕ} where
  -- an object is made, and given as of a type to which it conforms
  made_goes : (name : Name) (locals : List VType) (given : VType) (Further : Type 0)
      → Here P T w f rest s frame place numbered (record (plain frame [] (given ∷ [])) { further = Further; locals = locals }) (new_object name) true []
      → Does P T w.memory.heap f
      → UnitsConform P (T f.at).scope w.memory.heap locals f.locals
      → ((heap : Heap) (reference : ℕ) (shape : Shape) → HasShape heap reference shape → class_of_shape P shape ≡ name
      → Conforms P (T f.at).scope heap given (values.Ref reference))
      → StaysTyped P T w (op_step P w f rest (new_object name))
  made_goes name locals given Further h does units conforms =
      let o = operands_here h in
      let made = object_made P w.memory name h.typed.memory h.linked.0 in
      let new : Made = object_of P w.memory.heap name in
      let after : Memory = record w.memory { heap = new.heap; allocations = w.memory.allocations + 1 } in
      let typed = allocations_typed P (with_heap w.memory new.heap) (w.memory.allocations + 1) made.typed in
      worked h 0 refl (omega arith)
      (begun_first_goes h does f name (gives after (values.Ref new.reference ∷ []))
      (gives_goes h 0 after made.keep typed (values.Ref new.reference ∷ []) h.next (units_kept made.keep units)
      (all_kept made.keep o.rest) (and_value (conforms new.heap new.reference made.shape made.has_shape made.of_class) no_values)))

  pub new_object_stays : (name : Name)
      → Here P T w f rest s frame place numbered (access_aside (new_row frame place)) (new_object name) true [] → Does P T w.memory.heap f
      → StaysTyped P T w (op_step P w f rest (new_object name))
  new_object_stays name h does =
      made_goes name (map (without_older place) frame.locals) (types.Uninit place) (AllByRecursion (λ type. type ≢ types.Uninit place) frame.stack) h does
      (older_units place h.locals) (λ heap reference shape has class. of_new h.linked.1 has class)

  -- one that counts as initialised
  pub initialised_object_stays : (name : Name)
      → Here P T w f rest s frame place numbered (plain frame [] (types.Object name ∷ [])) (new_object name) true [] → Does P T w.memory.heap f
      → StaysTyped P T w (op_step P w f rest (new_object name))
  initialised_object_stays name h does =
      made_goes name frame.locals (types.Object name) (Unit {0}) h does h.locals
      (λ heap reference shape has class. an_object has (subst (ShapeConforms P shape) class (own_class P T h.typed.program shape)))

  pub named_object_stays : (name : Option Name)
      → Here P T w f rest s frame place numbered (access_aside (new_row frame place)) (naming name new_object) true []
      → Does P T w.memory.heap f
      → StaysTyped P T w (op_step P w f rest (naming name new_object))
  named_object_stays None h does = absurd h.linked
  named_object_stays (Some name) h does = new_object_stays name h does

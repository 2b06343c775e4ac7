-- What make code asks of typing, from the typing of the first run by the typed points of flat codes.
use Rattle.std.proofs.Common.{◌≡◌, ◌≢◌, ℕ, zero, suc, true, false, List, [], ◌∷◌, ◌++◌, get_or, length, map, reverse, slice_get, Option, Some, None, option_map, IsTrue, refl, sym, ap, subst, ◌∙◌}
use Rattle.std.specs.List.{flat_map}
use Rattle.std.proofs.lemmas.Bool.{false≢true}
use Rattle.std.proofs.lemmas.List.{length-map, length-reverse, map-append}
use Rattle.std.proofs.lemmas.Option.{none-some, same_Some, slice_get-get_or, slice_get-map}
use Rattle.class_model.specs.Descriptors.{kind_of, type_of}
use Rattle.class_model.specs.Frames.{is_wide}
use Rattle.class_model.specs.declared.descriptor.FieldType.{FieldType}
use Rattle.class_model.specs.declared.descriptor.FieldType.TheVariants as descs
use Rattle.class_model.specs.declared.descriptor.Kind.{Kind}
use Rattle.class_model.specs.declared.descriptor.Kind.TheVariants as kinds
use Rattle.class_model.specs.declared.frame.Frame.{Frame}
use Rattle.class_model.specs.declared.frame.VType.{VType}
use Rattle.class_model.specs.declared.frame.VType.TheVariants.{Top, Int, Float, Long, Double, Null, UninitThis, Object, Uninit}
use Rattle.class_model.specs.declared.header.Header.{Header}
use Rattle.class_model.specs.declared.header.Member.{Member}
use Rattle.class_tree.specs.Headers.{Name, Headers, headers_of}
use Rattle.class_tree.specs.Layouts.{own_fields, superclasses}
use Rattle.flow_code.specs.FlatCode.{FlatCode}
use Rattle.flow_code.specs.ReadTypes.{class_of_site, read_frame, read_type}
use Rattle.flow_code.specs.declared.point.Point.{Point}
use Rattle.machine_values.specs.Frames.{MethodState}
use Rattle.machine_values.specs.Heaps.{Heap, object_at}
use Rattle.machine_values.specs.Values.{has_kind, have_kinds, is_wide_value}
use Rattle.machine_values.specs.declared.frame.RunFrame.{RunFrame}
use Rattle.machine_values.specs.declared.frame.RunFrame.TheVariants.{Method}
use Rattle.machine_values.specs.declared.object.Object.{Object as RunObject}
use Rattle.machine_values.specs.declared.object.Shape.{Shape}
use Rattle.machine_values.specs.declared.object.Shape.TheVariants.{Folder}
use Rattle.machine_values.specs.declared.value.Value.{Value}
use Rattle.making_code.specs.MakeCode.{kind_of_type}
use Rattle.member_link.specs.FieldConstructors.{field_types}
use Rattle.member_link.specs.Laws.ProgramHeaders.{folder_headers}
use Rattle.member_link.specs.Machine.Classes.{program_of}
use Rattle.member_link.specs.Machine.Layouts.{own_slots_in, slots_in, slots_of}
use Rattle.member_link.specs.Machine.Programs.{Program, folder_number, headers_in, name_of_class}
use Rattle.member_link.specs.Machine.Worlds.{World}
use Rattle.member_link.specs.References.{Reference}
use Rattle.member_link.specs.RowScope.{RowScope}
use Rattle.plan_flow.specs.Written.WrittenPrograms.{WrittenMethod}
use Rattle.same_runs.specs.Laws.FirstBeginnings.{folder_name}
use Rattle.same_runs.specs.Laws.Layouts.{same_slots}
use Rattle.same_runs.specs.Laws.ReplacedPrograms.{replaced_same}
use Rattle.class_tree.specs.Hierarchy.{IsHierarchy}
use Rattle.typed_runs.specs.Conforming.{AllConform, Conforms, FieldConforms, FitSlots, HoldsShape, IsFolderObject, RefersTo, UnitConforms, UnitsConform, a_double, a_long, an_int, a_float, an_object, and_unit, and_value, has_value, no_units, no_value, no_values, null_object, of_new, of_this, only_null, to_none, to_one, to_top}
use Rattle.typed_runs.specs.FolderTypings.{HasFlatTypings}
use Rattle.typed_runs.specs.TypedFrames.{ArePaired, BeginsEmpty, Does, FramesConform, nothing_awaited, upon}
use Rattle.typed_runs.specs.TypedPrograms.{Typings}
use Rattle.typed_runs.specs.TypedWorlds.{TypedWorld}
use Rattle.written_runs.specs.Inner.Setup.{IsSetup, Setup, first}
use Rattle.written_runs.specs.Laws.AddedConstructors.{AddsToCandidates, first_alike}
use Rattle.written_runs.specs.Laws.TypedKept.{TypesEntries}
use Rattle.written_runs.specs.Laws.WideLocals.{HasWideRoom}

-- ---- a frame at a point

-- its values are of the types of the point, read
pub record IsTypedFrame (P : Program) (T : Typings) (heap : Heap) (types : Frame) (f : MethodState) : Type 0 where
  pub locals : UnitsConform P (T f.at).scope heap types.locals f.locals
  pub stack : AllConform P (T f.at).scope heap types.stack (reverse f.stack)
  pub paired : ArePaired f.locals

pub typed_frame : (u : Setup) → IsSetup u → HasFlatTypings u.flats u.typings
    → (one : World) (f : MethodState) (rest : List RunFrame) (w : WrittenMethod) (point : Point)
    → TypedWorld (first u) u.typings one
    → one.frames ≡ Method f ∷ rest
    → u.written f.at ≡ Some w
    → slice_get w.flat.points f.place ≡ Some point
    → IsTypedFrame (first u) u.typings one.memory.heap (read_frame w.flat point.typed) f
typed_frame u setup has one f rest w point typed stands written is_point =
    by (subst (FramesConform (first u) u.typings one.memory.heap nothing_awaited) stands typed.frames) where
      of_frame : Does (first u) u.typings one.memory.heap f
          → IsTypedFrame (first u) u.typings one.memory.heap (read_frame w.flat point.typed) f
      of_frame d =
          subst (λ (types : Frame). IsTypedFrame (first u) u.typings one.memory.heap types f) same
          (record { locals = d.locals; stack = d.stack; paired = d.stands.paired }) where
            of_point : Point → Frame
            of_point p = read_frame w.flat p.typed

            here : slice_get (u.typings f.at).frames f.place ≡ Some (read_frame w.flat point.typed)
            here =
                ap (λ (all : List Frame). slice_get all f.place)
                (has f.at w.flat (setup.flats.each f.at ∙ ap (option_map (λ (other : WrittenMethod). other.flat)) written))
                ∙ slice_get-map of_point w.flat.points f.place ∙ ap (option_map of_point) is_point

            same : d.stands.fits.frame ≡ read_frame w.flat point.typed
            same = same_Some d.stands.fits.frame (read_frame w.flat point.typed) (sym d.stands.fits.is_frame ∙ here)

      by : FramesConform (first u) u.typings one.memory.heap nothing_awaited (Method f ∷ rest)
          → IsTypedFrame (first u) u.typings one.memory.heap (read_frame w.flat point.typed) f
      by (upon d below) = of_frame d

-- ---- types that are read

read_top : (flat : FlatCode) (type : VType) → read_type flat type ≡ Top → type ≡ Top
read_top flat Top is = refl
read_top flat Int is = absurd cc
read_top flat Float is = absurd cc
read_top flat Long is = absurd cc
read_top flat Double is = absurd cc
read_top flat Null is = absurd cc
read_top flat UninitThis is = absurd cc
read_top flat (Object name) is = absurd cc
read_top flat (Uninit at) is = by (class_of_site flat.sites at) refl where
  by : (found : Option (List ℕ)) → class_of_site flat.sites at ≡ found → Uninit at ≡ Top
  by None none = let same : Uninit at ≡ Top = sym (rw (none) refl) ∙ is in absurd cc
  by (Some class) some = let same : Object class ≡ Top = sym (rw (some) refl) ∙ is in absurd cc

read_wide : (flat : FlatCode) (type : VType) → is_wide (read_type flat type) ≡ true → is_wide type ≡ true
read_wide flat Top is = is
read_wide flat Int is = is
read_wide flat Float is = is
read_wide flat Long is = is
read_wide flat Double is = is
read_wide flat Null is = is
read_wide flat UninitThis is = is
read_wide flat (Object name) is = is
read_wide flat (Uninit at) is = by (class_of_site flat.sites at) refl where
  by : (found : Option (List ℕ)) → class_of_site flat.sites at ≡ found → is_wide (Uninit at) ≡ true
  by None none = sym (rw (none) refl) ∙ is
  by (Some class) some = let none : false ≡ true = sym (rw (some) refl) ∙ is in absurd (false≢true none)

read_kind : (flat : FlatCode) (type : VType) → kind_of_type (read_type flat type) ≡ kind_of_type type
read_kind flat Top = refl
read_kind flat Int = refl
read_kind flat Float = refl
read_kind flat Long = refl
read_kind flat Double = refl
read_kind flat Null = refl
read_kind flat UninitThis = refl
read_kind flat (Object name) = refl
read_kind flat (Uninit at) = by (class_of_site flat.sites at) refl where
  by : (found : Option (List ℕ)) → class_of_site flat.sites at ≡ found → kind_of_type (read_type flat (Uninit at)) ≡ kinds.Ref
  by None none = rw (none) refl
  by (Some class) some = rw (some) refl

-- ---- values by types

module _ {P : Program} {s : RowScope} {heap : Heap} where
  wide_type : {type : VType} {value : Value} → Conforms P s heap type value → type ≢ Top → is_wide_value value ≡ true → is_wide type ≡ true
  wide_type (to_top is) differs wide = absurd (differs refl)
  wide_type an_int differs wide = absurd (false≢true wide)
  wide_type a_long differs wide = refl
  wide_type a_float differs wide = absurd (false≢true wide)
  wide_type a_double differs wide = refl
  wide_type only_null differs wide = absurd (false≢true wide)
  wide_type null_object differs wide = absurd (false≢true wide)
  wide_type (an_object shape is) differs wide = absurd (false≢true wide)
  wide_type (of_new news shape is) differs wide = absurd (false≢true wide)
  wide_type (of_this shape below) differs wide = absurd (false≢true wide)

  kind_by_type : {type : VType} {value : Value} → Conforms P s heap type value → type ≢ Top → IsTrue (has_kind (kind_of_type type) value)
  kind_by_type (to_top is) differs = absurd (differs refl)
  kind_by_type an_int differs = refl
  kind_by_type a_long differs = refl
  kind_by_type a_float differs = refl
  kind_by_type a_double differs = refl
  kind_by_type only_null differs = refl
  kind_by_type null_object differs = refl
  kind_by_type (an_object shape is) differs = refl
  kind_by_type (of_new news shape is) differs = refl
  kind_by_type (of_this shape below) differs = refl

  pub as_many : {types : List VType} {values : List Value} → AllConform P s heap types values → length values ≡ length types
  as_many no_values = refl
  as_many (and_value conforms rest) = ap suc (as_many rest)

  pub unit_at : {types : List VType} {units : List (Option Value)} → UnitsConform P s heap types units
      → (number : ℕ) (type : VType)
      → slice_get types number ≡ Some type
      → (unit : Option Value) × (slice_get units number ≡ Some unit) × UnitConforms P s heap type unit
  unit_at no_units number type is = absurd (none-some type is)
  unit_at (and_unit {type = here} {unit = unit} conforms rest) zero type is =
      (unit, refl, subst (λ (t : VType). UnitConforms P s heap t unit) (same_Some here type is) conforms)
  unit_at (and_unit conforms rest) (suc number) type is = unit_at rest number type is

  pub value_at : {types : List VType} {values : List Value} → AllConform P s heap types values
      → (number : ℕ) (type : VType)
      → slice_get types number ≡ Some type
      → (value : Value) × (slice_get values number ≡ Some value) × Conforms P s heap type value
  value_at no_values number type is = absurd (none-some type is)
  value_at (and_value {type = here} {value = value} conforms rest) zero type is =
      (value, refl, subst (λ (t : VType). Conforms P s heap t value) (same_Some here type is) conforms)
  value_at (and_value conforms rest) (suc number) type is = value_at rest number type is

  no_value_top : {type : VType} {unit : Option Value} → UnitConforms P s heap type unit → unit ≡ None → type ≡ Top
  no_value_top no_value is = refl
  no_value_top (has_value {value = value} conforms) is = absurd (none-some value (sym is))

  of_unit : {type : VType} {unit : Option Value} → UnitConforms P s heap type unit → (value : Value) → unit ≡ Some value
      → Conforms P s heap type value
  of_unit no_value value is = absurd (none-some value is)
  of_unit {type = type} (has_value {value = here} conforms) value is =
      subst (Conforms P s heap type) (same_Some here value is) conforms

next_empty : (units : List (Option Value)) (number : ℕ) (value : Value) (next : Option Value)
    → ArePaired units
    → slice_get units number ≡ Some (Some value)
    → IsTrue (is_wide_value value)
    → slice_get units (suc number) ≡ Some next
    → next ≡ None
next_empty [] number value next paired is wide after = absurd (none-some (Some value) is)
next_empty (None ∷ units) zero value next paired is wide after = absurd (none-some value (same_Some None (Some value) is))
next_empty (None ∷ units) (suc number) value next paired is wide after = next_empty units number value next paired is wide after
next_empty (Some here ∷ units) (suc number) value next paired is wide after = next_empty units number value next paired.1 is wide after
next_empty (Some here ∷ units) zero value next paired is wide after =
    empty units (paired.0 (subst (λ (v : Value). IsTrue (is_wide_value v)) (sym (same_Some here value (same_Some (Some here) (Some value) is))) wide))
    after where
      empty : (others : List (Option Value)) → BeginsEmpty others → slice_get others 0 ≡ Some next → next ≡ None
      empty [] begins is_next = absurd (none-some next is_next)
      empty (None ∷ others) begins is_next = sym (same_Some None next is_next)
      empty (Some other ∷ others) begins is_next = absurd begins

-- ---- values of fields

kind_of_value : (P : Program) (heap : Heap) (type : FieldType) (value : Value)
    → FieldConforms P heap type value
    → IsTrue (has_kind (kind_of type) value)
kind_of_value P heap descs.Byte value fits = fits
kind_of_value P heap descs.Char value fits = fits
kind_of_value P heap descs.Short value fits = fits
kind_of_value P heap descs.Bool value fits = fits
kind_of_value P heap descs.Int value fits = fits
kind_of_value P heap descs.Long value fits = fits
kind_of_value P heap descs.Float value fits = fits
kind_of_value P heap descs.Double value fits = fits
kind_of_value P heap (descs.Named name) value fits = referred fits where
  referred : {one : Value} → RefersTo P heap name one → IsTrue (has_kind kinds.Ref one)
  referred to_none = refl
  referred (to_one shape is) = refl

kinds_of_slots : (P : Program) (heap : Heap) (slots : List Reference) (values : List Value)
    → FitSlots P heap slots values
    → IsTrue (have_kinds (map (λ (slot : Reference). type_of slot.desc) slots) values)
kinds_of_slots P heap [] [] fits = refl
kinds_of_slots P heap [] (value ∷ values) fits = absurd fits
kinds_of_slots P heap (slot ∷ slots) [] fits = absurd fits
kinds_of_slots P heap (slot ∷ slots) (value ∷ values) fits =
    rw (kind_of_value P heap (type_of slot.desc) value fits.0) (kinds_of_slots P heap slots values fits.1)

-- the fields of an object by their slots
own_types : (name : Name) (fields : List Member)
    → map (λ (slot : Reference). type_of slot.desc)
    (map (λ (field : Member). let one : Reference = record { class = name; name = field.name; desc = field.desc } in one) fields)
    ≡ map (λ (field : Member). type_of field.desc) fields
own_types name [] = refl
own_types name (field ∷ fields) = ap (λ (types : List FieldType). type_of field.desc ∷ types) (own_types name fields)

types_through : (headers : Headers) (names : List Name)
    → map (λ (slot : Reference). type_of slot.desc) (flat_map (own_slots_in headers) names)
    ≡ map (λ (field : Member). type_of field.desc) (flat_map (own_fields headers) names)
types_through headers [] = refl
types_through headers (name ∷ names) =
    map-append (λ (slot : Reference). type_of slot.desc) (own_slots_in headers name) (flat_map (own_slots_in headers) names)
    ∙ ap (λ (types : List FieldType). types ++ map (λ (slot : Reference). type_of slot.desc) (flat_map (own_slots_in headers) names))
    (own_types name (own_fields headers name))
    ∙ ap (λ (types : List FieldType). map (λ (field : Member). type_of field.desc) (own_fields headers name) ++ types)
    (types_through headers names)
    ∙ sym (map-append (λ (field : Member). type_of field.desc) (own_fields headers name) (flat_map (own_fields headers) names))

-- ---- the whole

module _ (u : Setup) (setup : IsSetup u) (hierarchy : IsHierarchy (headers_of u.classes)) (adds : AddsToCandidates u)
    (has : HasFlatTypings u.flats u.typings) where
  stacks : (one : World) (f : MethodState) (rest : List RunFrame) (w : WrittenMethod) (point : Point)
      → TypedWorld (first u) u.typings one
      → one.frames ≡ Method f ∷ rest
      → u.written f.at ≡ Some w
      → slice_get w.flat.points f.place ≡ Some point
      → length f.stack ≡ length point.typed.stack
  stacks one f rest w point typed stands written is_point =
      sym (length-reverse f.stack)
      ∙ as_many (typed_frame u setup has one f rest w point typed stands written is_point).stack
      ∙ length-map point.typed.stack (read_type w.flat)

  kinds_of : (one : World) (f : MethodState) (rest : List RunFrame) (w : WrittenMethod) (point : Point)
      → TypedWorld (first u) u.typings one
      → one.frames ≡ Method f ∷ rest
      → u.written f.at ≡ Some w
      → slice_get w.flat.points f.place ≡ Some point
      → (place : ℕ) (type : VType) (value : Value)
      → slice_get point.typed.stack place ≡ Some type
      → type ≢ Top
      → slice_get (reverse f.stack) place ≡ Some value
      → IsTrue (has_kind (kind_of_type type) value)
  kinds_of one f rest w point typed stands written is_point place type value is_type differs is_value =
      subst (λ (kind : Kind). IsTrue (has_kind kind value)) (read_kind w.flat type)
      (kind_by_type (subst (Conforms (first u) (u.typings f.at).scope one.memory.heap (read_type w.flat type))
      (same_Some found.0 value (sym found.1 ∙ is_value)) found.2) (λ top. differs (read_top w.flat type top))) where
        found : (it : Value) × (slice_get (reverse f.stack) place ≡ Some it)
            × Conforms (first u) (u.typings f.at).scope one.memory.heap (read_type w.flat type) it
        found =
            value_at (typed_frame u setup has one f rest w point typed stands written is_point).stack place (read_type w.flat type)
            (slice_get-map (read_type w.flat) point.typed.stack place ∙ ap (option_map (read_type w.flat)) is_type)

  wide : (one : World) (f : MethodState) (rest : List RunFrame) (w : WrittenMethod) (point : Point)
      → TypedWorld (first u) u.typings one
      → one.frames ≡ Method f ∷ rest
      → u.written f.at ≡ Some w
      → slice_get w.flat.points f.place ≡ Some point
      → HasWideRoom point.typed.locals
      → (unit : ℕ) (type : VType) (value : Value)
      → slice_get point.typed.locals unit ≡ Some type
      → type ≢ Top
      → slice_get f.locals unit ≡ Some (Some value)
      → IsTrue (is_wide_value value)
      → slice_get point.typed.locals (suc unit) ≡ Some Top
  wide one f rest w point typed stands written is_point room unit type value is_type differs is_value is_wide_one =
      by (slice_get point.typed.locals (suc unit)) refl where
        t : IsTypedFrame (first u) u.typings one.memory.heap (read_frame w.flat point.typed) f
        t = typed_frame u setup has one f rest w point typed stands written is_point

        read_at : (number : ℕ) (read : VType) → slice_get point.typed.locals number ≡ Some read
            → slice_get (read_frame w.flat point.typed).locals number ≡ Some (read_type w.flat read)
        read_at number read is = slice_get-map (read_type w.flat) point.typed.locals number ∙ ap (option_map (read_type w.flat)) is

        conforms : Conforms (first u) (u.typings f.at).scope one.memory.heap (read_type w.flat type) value
        conforms =
            let found = unit_at t.locals unit (read_type w.flat type) (read_at unit type is_type) in
            of_unit found.2 value (same_Some found.0 (Some value) (sym found.1 ∙ is_value))

        type_is_wide : is_wide type ≡ true
        type_is_wide =
            read_wide w.flat type (wide_type conforms (λ top. differs (read_top w.flat type top)) is_wide_one)

        by : (next : Option VType) → slice_get point.typed.locals (suc unit) ≡ next → slice_get point.typed.locals (suc unit) ≡ Some Top
        by None none =
            absurd (none-some (get_or point.typed.locals (suc unit) Top) (sym none
            ∙ slice_get-get_or point.typed.locals (suc unit) Top
            (room.each unit type is_type type_is_wide)))
        by (Some next) some =
            let found = unit_at t.locals (suc unit) (read_type w.flat next) (read_at (suc unit) next some) in
            some ∙ ap Some (read_top w.flat next (no_value_top found.2
            (next_empty f.locals unit value found.0 t.paired is_value is_wide_one found.1)))

  values : (one : World) (reference class : ℕ) (object : RunObject) (name : Name)
      → TypedWorld (first u) u.typings one
      → object_at one.memory.heap reference ≡ Some object
      → object.shape ≡ Folder class
      → folder_number (first u) name ≡ Some class
      → IsTrue (have_kinds (field_types (headers_of u.classes) name) object.values)
  values one reference class object name typed is shape number =
      subst (λ (types : List FieldType). IsTrue (have_kinds types object.values)) same_types
      (kinds_of_slots (first u) one.memory.heap (slots_of (first u) (name_of_class (first u) class)) object.values folder.fields) where
        folder : IsFolderObject (first u) one.memory.heap class object.values
        folder =
            subst (λ (s : Shape). HoldsShape (first u) one.memory.heap s object.values) shape
            (typed.memory.objects reference object is)

        type_of_slot : Reference → FieldType
        type_of_slot slot = type_of slot.desc

        own_headers : headers_in (program_of u.classes u.links) ≡ headers_of u.classes
        own_headers =
            ap (λ (folder : List Header). let all : Headers = record { folder = folder; library = u.classes.library } in all)
            (folder_headers u.links (headers_of u.classes) u.classes.folder)

        same_types : map type_of_slot (slots_of (first u) (name_of_class (first u) class)) ≡ field_types (headers_of u.classes) name
        same_types =
            ap (λ (n : Name). map type_of_slot (slots_of (first u) n)) (folder_name (first u) name class number)
            ∙ ap (map type_of_slot) (same_slots (replaced_same (first_alike u setup)) name)
            ∙ ap (λ (headers : Headers). map type_of_slot (slots_in headers name)) own_headers
            ∙ types_through (headers_of u.classes) (reverse (superclasses (headers_of u.classes) name))

  pub types_entries : TypesEntries u
  types_entries = record { stacks = stacks; kinds = kinds_of; wide = wide; values = values }

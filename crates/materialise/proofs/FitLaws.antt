-- The units of make code have numbers of 16 bits, so that the code keeps them as they are.
use Rattle.std.proofs.Common.{◌≡◌, ◌==◌, ◌+◌, ◌<◌, ◌≤◌, ℕ, zero, suc, Bool, true, false, cond, List, [], ◌∷◌, ◌++◌, length, map, take, slice_get, Option, Some, None, IsTrue, refl, sym, ap, subst, ◌∙◌, arith}
use Rattle.std.specs.List.{AllByRecursion, flat_map}
use Rattle.std.proofs.lemmas.Bool.{eq-eqb, or_left, or_right}
use Rattle.std.proofs.lemmas.List.Sums.{sum_by-take-le}
use Rattle.std.proofs.lemmas.Option.{none-some, same_Some}
use Rattle.class_model.specs.Descriptors.{kind_of, parameter_units, units_of}
use Rattle.class_model.specs.Pool.{Constants}
use Rattle.class_model.specs.declared.descriptor.FieldType.{FieldType}
use Rattle.class_model.specs.declared.descriptor.Kind.TheVariants as kinds
use Rattle.class_model.specs.declared.instr.Instr.{Instr}
use Rattle.class_model.specs.declared.instr.Instr.TheVariants.{Load, Store}
use Rattle.class_tree.specs.Headers.{Name}
use Rattle.flow_code.specs.FlatCode.{FlatCode, point_at}
use Rattle.flow_code.specs.WrittenUnits.{field_units, greatest_depth, written_units}
use Rattle.flow_code.specs.declared.point.Point.{Point}
use Rattle.flow_code.specs.declared.point.Site.{Site}
use Rattle.making_code.specs.IndexedMaking.{made_instr}
use Rattle.making_code.specs.Items.{WInstr, carried, constructs, load, makes, plain, store}
use Rattle.making_code.specs.MakeCode.{Entry, copy_field, copy_fields_from, copy_local, copy_locals_from, copy_object, enters, entries_at, from_lowest, load_entry, load_fields_from, local_slots_in, make_code, make_object, make_one, save, saved}
use Rattle.making_code.specs.Units.{field_unit, fields_at, first_field_unit, object_unit, own, scratch, unit_number}
use Rattle.materialise.proofs.CopyLaws.{few_taken}
use Rattle.materialise.proofs.EntryLaws.{IsLow, above_low, saved_low}
use Rattle.materialise.proofs.ObjectCode.{made_one, no_object, no_site}
use Rattle.materialise.proofs.UnitLaws.{few_min, fewer_fields, sites_fields}
use Rattle.materialise.specs.Inner.CodeWords.{kept_instr}
use Rattle.materialise.specs.MadeCode.{CanMake}
use Rattle.virtual_state.specs.Laws.Objects.{found_site, present_found}
use Rattle.virtual_state.specs.Sites.{has}
use Rattle.virtual_state.specs.States.{IsState, State, is_present, is_virtual, names, object_of}
use Rattle.virtual_state.specs.declared.slot.Slot.{Slot}
use Rattle.virtual_state.specs.declared.slot.Slot.TheVariants.{Plain, Virt, Unusable}
use Rattle.virtual_state.specs.declared.slot.VObject.{VObject}

-- ---- instructions whose units fit

abbrev pub FitsUnit : FlatCode → WInstr → Type 0
FitsUnit flat (carried class instr) = Unit {0}
FitsUnit flat (plain instr) = Unit {0}
FitsUnit flat (load kind unit) = unit_number flat unit ≤ 65535
FitsUnit flat (store kind unit) = unit_number flat unit ≤ 65535
FitsUnit flat (makes name) = Unit {0}
FitsUnit flat (constructs name) = Unit {0}

abbrev pub FitUnits : FlatCode → List WInstr → Type 0
FitUnits flat instrs = AllByRecursion (FitsUnit flat) instrs

one_same : (flat : FlatCode) (constructor : Name → List ℕ) (pool : Constants) (instr : WInstr)
    → FitsUnit flat instr
    → kept_instr flat constructor pool instr ≡ made_instr flat constructor pool instr
one_same flat constructor pool (carried class instr) fits = refl
one_same flat constructor pool (plain instr) fits = refl
one_same flat constructor pool (load kind unit) fits = ap (λ (n : ℕ). Load kind n) (few_min (unit_number flat unit) fits)
one_same flat constructor pool (store kind unit) fits = ap (λ (n : ℕ). Store kind n) (few_min (unit_number flat unit) fits)
one_same flat constructor pool (makes name) fits = refl
one_same flat constructor pool (constructs name) fits = refl

pub all_same : (flat : FlatCode) (constructor : Name → List ℕ) (pool : Constants) (instrs : List WInstr)
    → FitUnits flat instrs
    → map (kept_instr flat constructor pool) instrs ≡ map (made_instr flat constructor pool) instrs
all_same flat constructor pool [] fit = refl
all_same flat constructor pool (instr ∷ instrs) fit =
    ap (λ (one : Instr). one ∷ map (kept_instr flat constructor pool) instrs) (one_same flat constructor pool instr fit.0)
    ∙ ap (λ (rest : List Instr). made_instr flat constructor pool instr ∷ rest) (all_same flat constructor pool instrs fit.1)

-- ---- lists

both_fit : (flat : FlatCode) (front back : List WInstr) → FitUnits flat front → FitUnits flat back → FitUnits flat (front ++ back)
both_fit flat [] back one other = other
both_fit flat (instr ∷ front) back one other = (one.0, both_fit flat front back one.1 other)

each_fits : {A : Type 0} (flat : FlatCode) (P : A → Type 0) (of : A → List WInstr) (items : List A)
    → AllByRecursion P items
    → ((item : A) → P item → FitUnits flat (of item))
    → FitUnits flat (flat_map of items)
each_fits flat P of [] all each = tt
each_fits flat P of (item ∷ items) all each = both_fit flat (of item) (flat_map of items) (each item all.0) (each_fits flat P of items all.1 each)

-- ---- numbers of units

module _ (flat : FlatCode) (few : written_units flat ≤ 65535) where
  pub scratch_fits : (below : ℕ) → below ≤ greatest_depth flat.points → unit_number flat (scratch below) ≤ 65535
  scratch_fits below less = omega (arith, few, less)

  object_fits : (site : ℕ) → site < length flat.sites → unit_number flat (object_unit site) ≤ 65535
  object_fits site less = omega (arith, few, less)

  parts_few : (fields : List FieldType) (number : ℕ) → parameter_units (take number fields) ≤ parameter_units fields
  parts_few fields number = sum_by-take-le (λ (type : FieldType). units_of (kind_of type)) fields number

  within : (sites : List Site) (site number : ℕ) (one : Site) → slice_get sites site ≡ Some one
      → field_units (take site sites) + parameter_units (take number one.fields) ≤ field_units sites
  within [] site number one is = absurd (none-some one is)
  within (first ∷ sites) zero number one is =
      subst (λ (s : Site). 0 + parameter_units (take number s.fields) ≤ parameter_units first.fields + field_units sites) (same_Some first one is)
      (let part = parts_few first.fields number in omega arith)
  within (first ∷ sites) (suc site) number one is = let rest = within sites site number one is in omega arith

  fields_none : (site : ℕ) → slice_get flat.sites site ≡ None → fields_at flat site ≡ []
  fields_none site is = rw is refl

  field_fits : (site number : ℕ) → unit_number flat (field_unit site number) ≤ 65535
  field_fits site number = by (slice_get flat.sites site) refl where
    by : (found : Option Site) → slice_get flat.sites site ≡ found → unit_number flat (field_unit site number) ≤ 65535
    by None is =
        subst (λ (fields : List FieldType). first_field_unit flat site + parameter_units (take number fields) ≤ 65535) (sym (fields_none site is))
        (let low = fewer_fields flat.sites site in let part = parts_few [] number in omega (arith, few, low, part))
    by (Some one) is =
        subst (λ (fields : List FieldType). first_field_unit flat site + parameter_units (take number fields) ≤ 65535) (sym (sites_fields flat site one is))
        (let part = within flat.sites site number one is in omega (arith, few, part))

-- ---- slots that name a site

named_slot : (slots : List Slot) (site : ℕ) (at : ℕ) → slice_get slots at ≡ Some (Virt site) → IsTrue (names slots site)
named_slot [] site at is = absurd (none-some (Virt site) is)
named_slot (slot ∷ slots) site zero is =
    or_left (is_virtual site slot) (names slots site) (subst (λ (s : Slot). is_virtual site s ≡ true) (sym (same_Some slot (Virt site) is)) (eq-eqb site site refl))
named_slot (slot ∷ slots) site (suc at) is = or_right (is_virtual site slot) (names slots site) (named_slot slots site at is)

-- ---- the parts of make code

module _ (flat : FlatCode) (at : ℕ) (state : State) (sites : List ℕ) (can : CanMake flat at state sites) (is_state : IsState state) where
  present_fits : (site : ℕ) → IsTrue (is_present state.objects site) → unit_number flat (object_unit site) ≤ 65535
  present_fits site present = object_fits flat can.few_units site (can.of_sites site present)

  set_fits : (site : ℕ) → has sites site ≡ true → unit_number flat (object_unit site) ≤ 65535
  set_fits site there = present_fits site (can.present site there)

  -- entries of the stack

  saves_low : (entries : List Entry) → AllByRecursion (IsLow flat) entries → FitUnits flat (map save entries)
  saves_low [] all = tt
  saves_low (entry ∷ entries) all = (scratch_fits flat can.few_units entry.below all.0, saves_low entries all.1)

  saves_fit : FitUnits flat (map save (saved sites (entries_at flat at state)))
  saves_fit = saves_low (saved sites (entries_at flat at state)) (saved_low flat at state sites)

  entry_fits : (entry : Entry) → IsLow flat entry → FitUnits flat (load_entry sites entry)
  entry_fits entry low = by entry.slot where
    by : (slot : Slot) → FitUnits flat (load_entry sites (record entry { slot = slot }))
    by Plain = (scratch_fits flat can.few_units entry.below low, tt)
    by (Virt site) = of_test (has sites site) refl where
      of_test : (test : Bool) → has sites site ≡ test → FitUnits flat (cond test (load kinds.Ref (object_unit site) ∷ []) [])
      of_test true there = (set_fits site there, tt)
      of_test false there = tt
    by Unusable = tt

  loads_fit : FitUnits flat (flat_map (load_entry sites) (from_lowest sites (entries_at flat at state)))
  loads_fit = each_fits flat (IsLow flat) (load_entry sites) (from_lowest sites (entries_at flat at state)) (above_low flat at state sites) entry_fits

  -- one object

  -- what each slot names is present
  abbrev IsHeld : Slot → Type 0
  IsHeld Plain = Unit {0}
  IsHeld (Virt site) = IsTrue (is_present state.objects site)
  IsHeld Unusable = Unit {0}

  held_from : (all slots : List Slot)
      → ((site : ℕ) → IsTrue (names slots site) → IsTrue (is_present state.objects site))
      → AllByRecursion IsHeld slots
  held_from all [] each = tt
  held_from all (Plain ∷ slots) each = (tt, held_from all slots each)
  held_from all (Virt site ∷ slots) each = (each site (or_left (site == site) (names slots site) (eq-eqb site site refl)), held_from all slots (λ one named. each one (or_right (site == one) (names slots one) named)))
  held_from all (Unusable ∷ slots) each = (tt, held_from all slots each)

  fields_held : (site : ℕ) (object : VObject) → object_of state.objects site ≡ Some object → AllByRecursion IsHeld object.fields
  fields_held site object is =
      held_from [] object.fields (λ to named. is_state.fields site to (record { object = object; there = is; named = named }))

  fields_fit : (site number : ℕ) (types : List FieldType) (slots : List Slot) → AllByRecursion IsHeld slots → FitUnits flat (load_fields_from site number types slots)
  fields_fit site number [] slots held = tt
  fields_fit site number (type ∷ types) [] held = tt
  fields_fit site number (type ∷ types) (Plain ∷ slots) held = (field_fits flat can.few_units site number, fields_fit site (suc number) types slots held.1)
  fields_fit site number (type ∷ types) (Virt named ∷ slots) held = (present_fits named held.0, fields_fit site (suc number) types slots held.1)
  fields_fit site number (type ∷ types) (Unusable ∷ slots) held = (field_fits flat can.few_units site number, fields_fit site (suc number) types slots held.1)

  enters_fit : (site times : ℕ) → unit_number flat (object_unit site) ≤ 65535 → FitUnits flat (enters site times)
  enters_fit site zero fits = tt
  enters_fit site (suc times) fits = (fits, (tt, enters_fit site times fits))

  object_code_fits : (site : ℕ) (object : VObject) (one : Site) → object_of state.objects site ≡ Some object → FitUnits flat (make_object flat object one)
  object_code_fits site object one is =
      let own_site = found_site state.objects site object is in
      let fits : unit_number flat (object_unit object.site) ≤ 65535 =
      subst (λ (n : ℕ). unit_number flat (object_unit n) ≤ 65535) (sym own_site) (present_fits site (present_found state.objects site object is)) in (
        tt,
        (
          tt,
          both_fit flat (load_fields_from object.site 0 one.fields object.fields) _
              (fields_fit object.site 0 one.fields object.fields (fields_held site object is))
              (tt, (tt, (fits, enters_fit object.site object.depth fits))),
        ),
      )

  made_fits : (site : ℕ) → FitUnits flat (make_one flat state site)
  made_fits site = by (object_of state.objects site) refl (slice_get flat.sites site) refl where
    by : (found : Option VObject) → object_of state.objects site ≡ found → (there : Option Site) → slice_get flat.sites site ≡ there → FitUnits flat (make_one flat state site)
    by None is there same = subst (FitUnits flat) (sym (no_object flat state site is)) tt
    by (Some object) is None same = subst (FitUnits flat) (sym (no_site flat state site object is same)) tt
    by (Some object) is (Some one) same = subst (FitUnits flat) (sym (made_one flat state site object one is same)) (object_code_fits site object one is)

  all_made_fit : (order : List ℕ) → FitUnits flat (flat_map (make_one flat state) order)
  all_made_fit [] = tt
  all_made_fit (site ∷ order) = both_fit flat (make_one flat state site) (flat_map (make_one flat state) order) (made_fits site) (all_made_fit order)

  -- copies

  local_fits : (unit : ℕ) (slot : Slot) → unit ≤ 65535 → FitUnits flat (copy_local sites unit slot)
  local_fits unit Plain low = tt
  local_fits unit (Virt site) low = by (has sites site) refl where
    by : (test : Bool) → has sites site ≡ test → FitUnits flat (cond test (load kinds.Ref (object_unit site) ∷ store kinds.Ref (own unit) ∷ []) [])
    by true there = (set_fits site there, (low, tt))
    by false there = tt
  local_fits unit Unusable low = tt

  locals_fit : (unit : ℕ) (slots : List Slot) → unit + length slots ≤ 65536 → FitUnits flat (copy_locals_from sites unit slots)
  locals_fit unit [] few = tt
  locals_fit unit (slot ∷ slots) few =
      both_fit flat (copy_local sites unit slot) (copy_locals_from sites (suc unit) slots)
      (local_fits unit slot (omega (arith, few))) (locals_fit (suc unit) slots (omega (arith, few)))

  at_locals_fit : FitUnits flat (copy_locals_from sites 0 (local_slots_in (point_at flat at) state))
  at_locals_fit = by (point_at flat at) refl where
    by : (found : Option Point) → point_at flat at ≡ found → FitUnits flat (copy_locals_from sites 0 (local_slots_in found state))
    by None is = tt
    by (Some point) is =
        let few = few_taken state.slots (length point.typed.locals) in
        let most = can.few_locals point is in
        locals_fit 0 (take (length point.typed.locals) state.slots) (omega (arith, few, most))

  field_code_fits : (of number : ℕ) (slot : Slot) → FitUnits flat (copy_field sites of number slot)
  field_code_fits of number Plain = tt
  field_code_fits of number (Virt site) = by (has sites site) refl where
    by : (test : Bool) → has sites site ≡ test → FitUnits flat (cond test (load kinds.Ref (object_unit site) ∷ store kinds.Ref (field_unit of number) ∷ []) [])
    by true there = (set_fits site there, (field_fits flat can.few_units of number, tt))
    by false there = tt
  field_code_fits of number Unusable = tt

  fields_code_fit : (of number : ℕ) (slots : List Slot) → FitUnits flat (copy_fields_from sites of number slots)
  fields_code_fit of number [] = tt
  fields_code_fit of number (slot ∷ slots) =
      both_fit flat (copy_field sites of number slot) (copy_fields_from sites of (suc number) slots)
      (field_code_fits of number slot) (fields_code_fit of (suc number) slots)

  object_copy_fits : (object : VObject) → FitUnits flat (copy_object sites object)
  object_copy_fits object = by (has sites object.site) where
    by : (test : Bool) → FitUnits flat (cond test [] (copy_fields_from sites object.site 0 object.fields))
    by true = tt
    by false = fields_code_fit object.site 0 object.fields

  objects_copy_fit : (objects : List VObject) → FitUnits flat (flat_map (copy_object sites) objects)
  objects_copy_fit [] = tt
  objects_copy_fit (object ∷ objects) =
      both_fit flat (copy_object sites object) (flat_map (copy_object sites) objects) (object_copy_fits object) (objects_copy_fit objects)

  -- the whole

  pub code_fits : (order : List ℕ) → FitUnits flat (make_code flat at state sites order)
  code_fits order =
      both_fit flat
      (map save (saved sites (entries_at flat at state))
      ++ flat_map (make_one flat state) order
      ++ copy_locals_from sites 0 (local_slots_in (point_at flat at) state)
      ++ flat_map (copy_object sites) state.objects)
      (flat_map (load_entry sites) (from_lowest sites (entries_at flat at state)))
      (both_fit flat
      (map save (saved sites (entries_at flat at state))
      ++ flat_map (make_one flat state) order
      ++ copy_locals_from sites 0 (local_slots_in (point_at flat at) state))
      (flat_map (copy_object sites) state.objects)
      (both_fit flat
      (map save (saved sites (entries_at flat at state))
      ++ flat_map (make_one flat state) order)
      (copy_locals_from sites 0 (local_slots_in (point_at flat at) state))
      (both_fit flat (map save (saved sites (entries_at flat at state))) (flat_map (make_one flat state) order)
      saves_fit (all_made_fit order))
      at_locals_fit)
      (objects_copy_fit state.objects))
      loads_fit

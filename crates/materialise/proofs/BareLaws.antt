-- Which instructions of make code need constants: those that make an object, and no others.
use Rattle.std.proofs.Common.{◌≡◌, ℕ, zero, suc, Bool, true, false, cond, List, [], ◌∷◌, ◌++◌, map, refl, ap, ◌∙◌, append-nil}
use Rattle.std.specs.List.{AllByRecursion, flat_map}
use Rattle.std.proofs.lemmas.Grind.{flat_map-append}
use Rattle.class_model.specs.declared.descriptor.FieldType.{FieldType}
use Rattle.class_model.specs.declared.descriptor.Kind.TheVariants as kinds
use Rattle.class_model.specs.declared.instr.Imm.TheVariants as imms
use Rattle.class_model.specs.declared.instr.Instr.TheVariants.{Const}
use Rattle.class_tree.specs.Headers.{Name}
use Rattle.flow_code.specs.FlatCode.{FlatCode}
use Rattle.flow_code.specs.declared.point.Site.{Site}
use Rattle.making_code.specs.Constants.{Need, class_needs, constructor_needs}
use Rattle.making_code.specs.IndexedMaking.{all_making_needs, making_needs}
use Rattle.making_code.specs.Items.{WInstr, carried, constructs, load, makes, plain, store}
use Rattle.making_code.specs.MakeCode.{Entry, copy_field, copy_fields_from, copy_local, copy_locals_from, copy_object, enters, load_entry, load_fields_from, make_object, save}
use Rattle.making_code.specs.Units.{field_unit, object_unit, own}
use Rattle.materialise.specs.Inner.ConstantWords.{made_needs}
use Rattle.virtual_state.specs.Sites.{has}
use Rattle.virtual_state.specs.declared.slot.Slot.{Slot}
use Rattle.virtual_state.specs.declared.slot.Slot.TheVariants.{Plain, Virt, Unusable}
use Rattle.virtual_state.specs.declared.slot.VObject.{VObject}

abbrev IsBare : WInstr → Type 0
IsBare (makes name) = ⊥
IsBare (constructs name) = ⊥
IsBare instr = Unit {0}

abbrev AreBare : List WInstr → Type 0
AreBare instrs = AllByRecursion IsBare instrs

both_bare : (front back : List WInstr) → AreBare front → AreBare back → AreBare (front ++ back)
both_bare [] back one other = other
both_bare (instr ∷ front) back one other = (one.0, both_bare front back one.1 other)

bare_needs : (constructor : Name → List ℕ) (instrs : List WInstr) → AreBare instrs → all_making_needs constructor instrs ≡ []
bare_needs constructor [] bare = refl
bare_needs constructor (carried class instr ∷ instrs) bare = bare_needs constructor instrs bare.1
bare_needs constructor (plain instr ∷ instrs) bare = bare_needs constructor instrs bare.1
bare_needs constructor (load kind unit ∷ instrs) bare = bare_needs constructor instrs bare.1
bare_needs constructor (store kind unit ∷ instrs) bare = bare_needs constructor instrs bare.1
bare_needs constructor (makes name ∷ instrs) bare = absurd bare.0
bare_needs constructor (constructs name ∷ instrs) bare = absurd bare.0

-- ---- the parts

pub saves_bare : (entries : List Entry) → AreBare (map save entries)
saves_bare [] = tt
saves_bare (entry ∷ entries) = (tt, saves_bare entries)

entry_bare : (sites : List ℕ) (entry : Entry) (slot : Slot) → entry.slot ≡ slot → AreBare (load_entry sites entry)
entry_bare sites entry Plain is = rw is (tt, tt)
entry_bare sites entry (Virt site) is = rw is (by (has sites site)) where
  by : (test : Bool) → AreBare (cond test (load kinds.Ref (object_unit site) ∷ []) [])
  by true = (tt, tt)
  by false = tt
entry_bare sites entry Unusable is = rw is tt

pub loads_bare : (sites : List ℕ) (entries : List Entry) → AreBare (flat_map (load_entry sites) entries)
loads_bare sites [] = tt
loads_bare sites (entry ∷ entries) = both_bare (load_entry sites entry) (flat_map (load_entry sites) entries) (entry_bare sites entry entry.slot refl) (loads_bare sites entries)

local_bare : (sites : List ℕ) (unit : ℕ) (slot : Slot) → AreBare (copy_local sites unit slot)
local_bare sites unit Plain = tt
local_bare sites unit (Virt site) = by (has sites site) where
  by : (test : Bool) → AreBare (cond test (load kinds.Ref (object_unit site) ∷ store kinds.Ref (own unit) ∷ []) [])
  by true = (tt, (tt, tt))
  by false = tt
local_bare sites unit Unusable = tt

pub locals_bare : (sites : List ℕ) (unit : ℕ) (slots : List Slot) → AreBare (copy_locals_from sites unit slots)
locals_bare sites unit [] = tt
locals_bare sites unit (slot ∷ slots) = both_bare (copy_local sites unit slot) (copy_locals_from sites (suc unit) slots) (local_bare sites unit slot) (locals_bare sites (suc unit) slots)

field_bare : (sites : List ℕ) (of number : ℕ) (slot : Slot) → AreBare (copy_field sites of number slot)
field_bare sites of number Plain = tt
field_bare sites of number (Virt site) = by (has sites site) where
  by : (test : Bool) → AreBare (cond test (load kinds.Ref (object_unit site) ∷ store kinds.Ref (field_unit of number) ∷ []) [])
  by true = (tt, (tt, tt))
  by false = tt
field_bare sites of number Unusable = tt

fields_bare : (sites : List ℕ) (of number : ℕ) (slots : List Slot) → AreBare (copy_fields_from sites of number slots)
fields_bare sites of number [] = tt
fields_bare sites of number (slot ∷ slots) = both_bare (copy_field sites of number slot) (copy_fields_from sites of (suc number) slots) (field_bare sites of number slot) (fields_bare sites of (suc number) slots)

object_bare : (sites : List ℕ) (object : VObject) → AreBare (copy_object sites object)
object_bare sites object = by (has sites object.site) where
  by : (test : Bool) → AreBare (cond test [] (copy_fields_from sites object.site 0 object.fields))
  by true = tt
  by false = fields_bare sites object.site 0 object.fields

pub objects_bare : (sites : List ℕ) (objects : List VObject) → AreBare (flat_map (copy_object sites) objects)
objects_bare sites [] = tt
objects_bare sites (object ∷ objects) = both_bare (copy_object sites object) (flat_map (copy_object sites) objects) (object_bare sites object) (objects_bare sites objects)

-- ---- one object

loaded_bare : (site number : ℕ) (types : List FieldType) (slots : List Slot) → AreBare (load_fields_from site number types slots)
loaded_bare site number [] slots = tt
loaded_bare site number (type ∷ types) [] = tt
loaded_bare site number (type ∷ types) (Plain ∷ slots) = (tt, loaded_bare site (suc number) types slots)
loaded_bare site number (type ∷ types) (Virt named ∷ slots) = (tt, loaded_bare site (suc number) types slots)
loaded_bare site number (type ∷ types) (Unusable ∷ slots) = (tt, loaded_bare site (suc number) types slots)

enters_bare : (site depth : ℕ) → AreBare (enters site depth)
enters_bare site zero = tt
enters_bare site (suc depth) = (tt, (tt, enters_bare site depth))

pub object_needs : (constructor : Name → List ℕ) (flat : FlatCode) (object : VObject) (one : Site)
    → all_making_needs constructor (make_object flat object one) ≡ made_needs one.class (constructor one.class)
object_needs constructor flat object one =
    let loads = load_fields_from object.site 0 one.fields object.fields in
    let behind = plain (Const imms.Null) ∷ constructs one.class ∷ store kinds.Ref (object_unit object.site) ∷ enters object.site object.depth in
    let needs = constructor_needs one.class (constructor one.class) in
    ap (λ (rest : List Need). class_needs one.class ++ rest)
    (flat_map-append (making_needs constructor) loads behind
    ∙ ap (λ (front : List Need). front ++ all_making_needs constructor behind) (bare_needs constructor loads (loaded_bare object.site 0 one.fields object.fields))
    ∙ ap (λ (rest : List Need). needs ++ rest) (bare_needs constructor (enters object.site object.depth) (enters_bare object.site object.depth))
    ∙ append-nil needs)

-- ---- the whole

pub only_objects : (constructor : Name → List ℕ) (front made back : List WInstr)
    → AreBare front
    → AreBare back
    → all_making_needs constructor (front ++ made ++ back) ≡ all_making_needs constructor made
only_objects constructor front made back one other =
    flat_map-append (making_needs constructor) (front ++ made) back
    ∙ ap (λ (rest : List Need). all_making_needs constructor (front ++ made) ++ rest) (bare_needs constructor back other)
    ∙ append-nil (all_making_needs constructor (front ++ made))
    ∙ flat_map-append (making_needs constructor) front made
    ∙ ap (λ (rest : List Need). rest ++ all_making_needs constructor made) (bare_needs constructor front one)

pub bare_behind : (locals objects loads : List WInstr) → AreBare locals → AreBare objects → AreBare loads → AreBare (locals ++ objects ++ loads)
bare_behind locals objects loads one two three = both_bare (locals ++ objects) loads (both_bare locals objects one two) three

-- Make code: the instructions that make the objects of a closed set of sites, which were kept in locals. It is this project's profile, after
-- Stadler, Würthinger and Mössenböck, "Partial Escape Analysis and Scalar Replacement for Java", CGO 2014 (materialisation).
--
-- The state and the set are those of a typed point, or of an edge to it. Without a site there is no make code.
use Rattle.std.specs.Prelude.{ℕ, zero, suc, ◌+◌, Bool, List, [], ◌∷◌, ◌++◌, map, reverse, drop, length, take, Option, Some, None, if◌then◌else◌}
use Rattle.std.specs.List.{filter, flat_map, slice_get}
use Rattle.class_model.specs.Descriptors.{kind_of}
use Rattle.class_model.specs.Frames.{depth}
use Rattle.class_model.specs.declared.descriptor.FieldType.{FieldType}
use Rattle.class_model.specs.declared.descriptor.Kind.{Kind}
use Rattle.class_model.specs.declared.descriptor.Kind.TheVariants as kinds
use Rattle.class_model.specs.declared.frame.VType.{VType}
use Rattle.class_model.specs.declared.frame.VType.TheVariants.{Int, Long, Float, Double}
use Rattle.class_model.specs.declared.instr.Imm.TheVariants as imms
use Rattle.class_model.specs.declared.instr.Instr.TheVariants.{Const, Enter, Shuffle}
use Rattle.class_model.specs.declared.opcodes.TheConstants.{DUP}
use Rattle.flow_code.specs.FlatCode.{FlatCode, point_at}
use Rattle.flow_code.specs.declared.point.Point.{Point}
use Rattle.flow_code.specs.declared.point.Site.{Site}
use Rattle.making_code.specs.Items.{WInstr, constructs, load, makes, plain, store}
use Rattle.making_code.specs.Units.{WUnit, field_unit, object_unit, own, scratch}
use Rattle.virtual_state.specs.Sites.{has}
use Rattle.virtual_state.specs.States.{State, object_of}
use Rattle.virtual_state.specs.declared.slot.Slot.{Slot}
use Rattle.virtual_state.specs.declared.slot.Slot.TheVariants.{Plain, Virt, Unusable}
use Rattle.virtual_state.specs.declared.slot.VObject.{VObject}

-- ---- kinds

-- the kind of what has a verification type
abbrev pub kind_of_type : VType → Kind
kind_of_type Int = kinds.Int
kind_of_type Long = kinds.Long
kind_of_type Float = kinds.Float
kind_of_type Double = kinds.Double
kind_of_type other = kinds.Ref

-- ---- the operand stack

-- An entry of the stack at a typed point: its place among the entries, the lowest being 0, the units of those below it, its kind, and its
-- slot.
pub record Entry : Type 0 where
  pub place : ℕ
  pub below : ℕ
  pub kind : Kind
  pub slot : Slot

-- the entries of these types and slots, from one on
abbrev pub entries_from : ℕ → ℕ → List VType → List Slot → List Entry
entries_from place below [] slots = []
entries_from place below (type ∷ types) [] = []
entries_from place below (type ∷ types) (slot ∷ slots) =
    record { place = place; below = below; kind = kind_of_type type; slot = slot }
    ∷ entries_from (suc place) (below + depth (type ∷ [])) types slots

-- the entries at a point, whose slots are those behind the local units
abbrev pub entries_in : Option Point → State → List Entry
entries_in None state = []
entries_in (Some point) state =
    entries_from 0 0 point.typed.stack (drop (length point.typed.locals) state.slots)

abbrev pub entries_at : FlatCode → ℕ → State → List Entry
entries_at flat at state = entries_in (point_at flat at) state

-- a slot names a site of a set; and one holds a value or a reference to an object that was made
abbrev pub names_in : List ℕ → Slot → Bool
names_in sites Plain = Bool.false
names_in sites (Virt site) = has sites site
names_in sites Unusable = Bool.false

abbrev pub is_plain : Slot → Bool
is_plain Plain = Bool.true
is_plain (Virt site) = Bool.false
is_plain Unusable = Bool.false

-- the entries from the lowest on that names a site of a set
abbrev pub from_lowest : List ℕ → List Entry → List Entry
from_lowest sites [] = []
from_lowest sites (entry ∷ entries) =
    if names_in sites entry.slot then entry ∷ entries else from_lowest sites entries

-- the plain entries above it, the topmost first
abbrev pub saved : List ℕ → List Entry → List Entry
saved sites entries =
    reverse (filter (λ entry. is_plain entry.slot) (from_lowest sites entries))

-- each is stored to a scratch unit
abbrev pub save : Entry → WInstr
save entry = store entry.kind (scratch entry.below)

-- an entry is loaded again, and one of the set from its object's unit
abbrev pub load_entry : List ℕ → Entry → List WInstr
load_entry sites entry = of_slot entry.slot where
  of_slot : Slot → List WInstr
  of_slot Plain = load entry.kind (scratch entry.below) ∷ []
  of_slot (Virt site) =
      if has sites site then load kinds.Ref (object_unit site) ∷ [] else []
  of_slot Unusable = []

-- ---- one object

-- a field is loaded, and what a virtual object is in, from that one's unit
abbrev pub load_field : ℕ → ℕ → FieldType → Slot → WInstr
load_field site number type (Virt named) = load kinds.Ref (object_unit named)
load_field site number type other = load (kind_of type) (field_unit site number)

abbrev pub load_fields_from : ℕ → ℕ → List FieldType → List Slot → List WInstr
load_fields_from site number [] slots = []
load_fields_from site number (type ∷ types) [] = []
load_fields_from site number (type ∷ types) (slot ∷ slots) =
    load_field site number type slot ∷ load_fields_from site (suc number) types slots

-- the monitor is entered so often
abbrev pub enters : ℕ → ℕ → List WInstr
enters site zero = []
enters site (suc depth) =
    load kinds.Ref (object_unit site) ∷ plain Enter ∷ enters site depth

-- the object of a site is made, of this class, and goes to its unit
abbrev pub make_object : FlatCode → VObject → Site → List WInstr
make_object flat object site =
    makes site.class
    ∷ plain (Shuffle DUP)
    ∷ load_fields_from object.site 0 site.fields object.fields
    ++ (plain (Const imms.Null)
    ∷ constructs site.class
    ∷ store kinds.Ref (object_unit object.site)
    ∷ enters object.site object.depth)

abbrev pub make_one : FlatCode → State → ℕ → List WInstr
make_one flat state site = of_parts (object_of state.objects site) (slice_get flat.sites site) where
  of_parts : Option VObject → Option Site → List WInstr
  of_parts (Some object) (Some one) = make_object flat object one
  of_parts object one = []

-- ---- copies

-- the object goes to each local unit that names a site of the set
abbrev pub copy_local : List ℕ → ℕ → Slot → List WInstr
copy_local sites unit Plain = []
copy_local sites unit (Virt site) =
    if has sites site
    then load kinds.Ref (object_unit site) ∷ store kinds.Ref (own unit) ∷ []
    else []
copy_local sites unit Unusable = []

abbrev pub copy_locals_from : List ℕ → ℕ → List Slot → List WInstr
copy_locals_from sites unit [] = []
copy_locals_from sites unit (slot ∷ slots) =
    copy_local sites unit slot ++ copy_locals_from sites (suc unit) slots

-- and to the unit of each field of an object that stays virtual
abbrev pub copy_field : List ℕ → ℕ → ℕ → Slot → List WInstr
copy_field sites of number Plain = []
copy_field sites of number (Virt site) =
    if has sites site
    then load kinds.Ref (object_unit site) ∷ store kinds.Ref (field_unit of number) ∷ []
    else []
copy_field sites of number Unusable = []

abbrev pub copy_fields_from : List ℕ → ℕ → ℕ → List Slot → List WInstr
copy_fields_from sites of number [] = []
copy_fields_from sites of number (slot ∷ slots) =
    copy_field sites of number slot ++ copy_fields_from sites of (suc number) slots

abbrev pub copy_object : List ℕ → VObject → List WInstr
copy_object sites object =
    if has sites object.site then [] else copy_fields_from sites object.site 0 object.fields

-- ---- the whole

-- the slots of the local units at a point
abbrev pub local_slots_in : Option Point → State → List Slot
local_slots_in None state = []
local_slots_in (Some point) state = take (length point.typed.locals) state.slots

-- Plain entries above the lowest of the set are saved, the topmost first; the objects are made in order; they go to the locals that name
-- them, by unit, and to the fields of objects that stay virtual, by site and field; then the stack is loaded again, upwards.
abbrev pub make_code : FlatCode → ℕ → State → List ℕ → List ℕ → List WInstr
make_code flat at state sites order =
    map save (saved sites (entries_at flat at state))
    ++ flat_map (make_one flat state) order
    ++ copy_locals_from sites 0 (local_slots_in (point_at flat at) state)
    ++ flat_map (copy_object sites) state.objects
    ++ flat_map (load_entry sites) (from_lowest sites (entries_at flat at state))

-- ---- what is saved

-- a stack place, and the scratch unit in which its value is saved
pub record SavedPlace : Type 0 where
  pub place : ℕ
  pub unit : WUnit

abbrev pub restack : FlatCode → ℕ → State → List ℕ → List SavedPlace
restack flat at state sites =
    map (λ entry. record { place = entry.place; unit = scratch entry.below })
    (saved sites (entries_at flat at state))

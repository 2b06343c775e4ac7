-- Make code as the code writes it: instructions by local units of 16 bits, and by the indices of classes and of their field constructors.
use Rattle.std.specs.Prelude.{◌≡◌, ◌++◌, ℕ, List, [], ◌∷◌, map, if◌then◌else◌}
use Rattle.class_model.specs.declared.descriptor.Kind.TheVariants as kinds
use Rattle.class_model.specs.declared.instr.Instr.{Instr}
use Rattle.class_model.specs.declared.instr.Instr.TheVariants.{Invoke, Load, New, Store}
use Rattle.class_model.specs.declared.opcodes.TheConstants.{INVOKESPECIAL}
use Rattle.class_model.specs.Pool.{Constants}
use Rattle.class_tree.specs.Headers.{Name}
use Rattle.flow_code.specs.FlatCode.{FlatCode}
use Rattle.flow_code.specs.declared.point.Site.{Site}
use Rattle.making_code.specs.Constants.{constructor_needs, index_in, needs_class}
use Rattle.making_code.specs.IndexedMaking.{all_making_needs, index_of_last}
use Rattle.making_code.specs.Items.{WInstr, carried, constructs, load, makes, plain, store}
use Rattle.making_code.specs.Units.{WUnit, object_unit}
use Rattle.making_code.specs.MakeCode.{make_object}
use Rattle.materialise.specs.Growing.{Grows}
use Rattle.materialise.specs.Inner.UnitWords.{kept_unit}
use Rattle.pool_edit.specs.Edits.{Edit, grown}
use Rattle.virtual_state.specs.Sites.{has}
use Rattle.virtual_state.specs.declared.slot.Slot.{Slot}
use Rattle.virtual_state.specs.declared.slot.Slot.TheVariants.{Plain, Virt, Unusable}
use Rattle.virtual_state.specs.declared.slot.VObject.{VObject}

abbrev pub coded : FlatCode → (Name → ℕ) → (Name → ℕ) → WInstr → Instr
coded flat class_of constructor_of (carried number instr) = instr
coded flat class_of constructor_of (plain instr) = instr
coded flat class_of constructor_of (load kind unit) = Load kind (kept_unit flat unit)
coded flat class_of constructor_of (store kind unit) = Store kind (kept_unit flat unit)
coded flat class_of constructor_of (makes name) = New (class_of name)
coded flat class_of constructor_of (constructs name) =
    Invoke INVOKESPECIAL (constructor_of name) 0

-- instructions that make no object, behind others
pub record Writes (flat : FlatCode) (before : List Instr) (instrs : List WInstr) (after : List Instr)
    : Type 0 where
  pub writes : (class_of constructor_of : Name → ℕ)
      → after ≡ before ++ map (coded flat class_of constructor_of) instrs

-- all of them, once the rest is behind what is there
pub record WritesRest (flat : FlatCode) (before : List Instr) (all : List WInstr) (now : List Instr)
    (rest : List WInstr)
    : Type 0 where
  pub goes_on : (class_of constructor_of : Name → ℕ)
      → now ++ map (coded flat class_of constructor_of) rest
      ≡ before ++ map (coded flat class_of constructor_of) all

-- an object's instructions, by the indices of its class and of the field constructor
pub record WritesObject (flat : FlatCode) (before : List Instr) (object : VObject) (one : Site)
    (class constructor : ℕ) (after : List Instr)
    : Type 0 where
  pub writes : (class_of constructor_of : Name → ℕ)
      → class_of one.class ≡ class
      → constructor_of one.class ≡ constructor
      → after ≡ before ++ map (coded flat class_of constructor_of) (make_object flat object one)

-- an instruction in a pool that has what it needs
abbrev pub kept_instr : FlatCode → (Name → List ℕ) → Constants → WInstr → Instr
kept_instr flat constructor pool =
    coded flat (λ name. index_in pool (needs_class name))
    (λ name. index_of_last pool (constructor_needs name (constructor name)))

-- instructions behind others, and what they need in the pool
pub record Makes (flat : FlatCode) (constructor : Name → List ℕ) (old : Edit) (before : List Instr)
    (instrs : List WInstr) (new : Edit) (after : List Instr)
    : Type 0 where
  pub grows : Grows old (all_making_needs constructor instrs) new
  pub writes : (more : Constants)
      → after ≡ before ++ map (kept_instr flat constructor (grown new ++ more)) instrs

-- a slot that names a site of a set: the object goes to a unit
abbrev pub copied : List ℕ → Slot → WUnit → List WInstr
copied sites Plain unit = []
copied sites (Virt site) unit =
    if has sites site then load kinds.Ref (object_unit site) ∷ store kinds.Ref unit ∷ [] else []
copied sites Unusable unit = []

-- Make code as code of a class file has it: by local units and by indices of constants. It is this project's profile.
use Rattle.std.specs.Prelude.{ℕ, List, [], Option, Some, None}
use Rattle.std.specs.List.{flat_map}
use Rattle.class_model.specs.Pool.{Constants}
use Rattle.class_model.specs.declared.instr.Instr.{Instr}
use Rattle.class_model.specs.declared.instr.Instr.TheVariants.{Invoke, Load, New, Store}
use Rattle.class_model.specs.declared.opcodes.TheConstants.{INVOKESPECIAL}
use Rattle.class_tree.specs.Headers.{Name}
use Rattle.flow_code.specs.FlatCode.{FlatCode}
use Rattle.making_code.specs.Constants.{Need, class_needs, constructor_needs, index_in, last_need, needs_class}
use Rattle.making_code.specs.Items.{WInstr, carried, constructs, load, makes, plain, store}
use Rattle.making_code.specs.Units.{unit_number}

-- what an instruction needs that is none of a class of the folder, by the descriptors of the classes' field constructors
abbrev pub making_needs : (Name → List ℕ) → WInstr → List Need
making_needs constructor (carried class instr) = []
making_needs constructor (plain instr) = []
making_needs constructor (load kind unit) = []
making_needs constructor (store kind unit) = []
making_needs constructor (makes class) = class_needs class
making_needs constructor (constructs class) = constructor_needs class (constructor class)

abbrev pub all_making_needs : (Name → List ℕ) → List WInstr → List Need
all_making_needs constructor instrs = flat_map (making_needs constructor) instrs

-- the index of the last of what is needed, which is what an instruction names
abbrev pub index_of_last : Constants → List Need → ℕ
index_of_last pool needs = of_need (last_need needs) where
  of_need : Option Need → ℕ
  of_need None = 0
  of_need (Some need) = index_in pool need

-- the instruction in a pool that has what it needs
abbrev pub made_instr : FlatCode → (Name → List ℕ) → Constants → WInstr → Instr
made_instr flat constructor pool (carried class instr) = instr
made_instr flat constructor pool (plain instr) = instr
made_instr flat constructor pool (load kind unit) = Load kind (unit_number flat unit)
made_instr flat constructor pool (store kind unit) = Store kind (unit_number flat unit)
made_instr flat constructor pool (makes class) = New (index_in pool (needs_class class))
made_instr flat constructor pool (constructs class) =
    Invoke INVOKESPECIAL
    (index_of_last pool (constructor_needs class (constructor class))) 0

-- What an instruction is written as, as the code keeps it.
use Rattle.std.specs.Prelude.{◌≡◌, ℕ, pos, Bool, true, false, List, [], ◌∷◌, ◌++◌, take, Option, Some, None, if◌then◌else◌}
use Rattle.std.specs.List.{flat_map, slice_get}
use Rattle.class_model.specs.declared.frame.Frame.{Frame}
use Rattle.class_model.specs.declared.instr.Imm.TheVariants as imms
use Rattle.class_model.specs.declared.instr.Instr.TheVariants.{Const, Shuffle}
use Rattle.class_model.specs.declared.opcodes.TheConstants.{POP}
use Rattle.code_drafts.specs.declared.template.Template.{Template}
use Rattle.code_drafts.specs.declared.template.Template.TheVariants as variants
use Rattle.flow_code.specs.FlatCode.{FlatCode}
use Rattle.making_code.specs.Items.{WInstr, plain}
use Rattle.making_code.specs.Units.{fields_at}
use Rattle.member_link.specs.References.{Reference}
use Rattle.plan_flow.specs.PlanScope.{PlanScope, field_number}
use Rattle.plan_flow.specs.Written.Routes.{Route}
use Rattle.plan_flow.specs.Written.Templates.{cells, cleared_fields, load_of_field, made_on_jump, plain_units, pops, shuffles, store_of_field}
use Rattle.virtual_state.specs.States.{State}
use Rattle.virtual_state.specs.declared.slot.Slot.{Slot}
use Rattle.virtual_state.specs.declared.slot.Slot.TheVariants.{Plain, Virt, Unusable}

-- one unit is popped, or nothing is
abbrev pub pop_if : Bool → List WInstr
pop_if true = plain (Shuffle POP) ∷ []
pop_if false = []

abbrev pub answer_of : Bool → List WInstr
answer_of holds = plain (Const (imms.Int (pos (if holds then 1 else 0)))) ∷ []

-- what is written of a template but make code: nothing, where the instruction is written as it is
abbrev pub left_of : FlatCode → Frame → State → Template → List WInstr
left_of flat f state variants.AsItIs = []
left_of flat f state variants.Nothing = []
left_of flat f state (variants.Clear site) = cleared_fields site 0 (fields_at flat site)
left_of flat f state (variants.Load site number) =
    load_of_field site number (slice_get (fields_at flat site) number)
left_of flat f state (variants.Store site number) =
    store_of_field site number (slice_get (fields_at flat site) number)
left_of flat f state (variants.Answer holds) = answer_of holds
left_of flat f state (variants.Pop count) =
    flat_map (λ cell. pops (plain_units cell)) (take count (cells f state))
left_of flat f state (variants.Move opcode) = shuffles opcode (cells f state)
left_of flat f state (variants.Jump pops) = pop_if pops

-- what is written, or None where that is the instruction as it is
abbrev pub template_meant : PlanScope → Frame → State → Route → Template → Option (List WInstr)
template_meant s f state route variants.AsItIs = None
template_meant s f state route variants.Nothing = Some []
template_meant s f state route (variants.Clear site) =
    Some (left_of s.flat f state (variants.Clear site))
template_meant s f state route (variants.Load site number) =
    Some (left_of s.flat f state (variants.Load site number))
template_meant s f state route (variants.Store site number) =
    Some (left_of s.flat f state (variants.Store site number))
template_meant s f state route (variants.Answer holds) = Some (answer_of holds)
template_meant s f state route (variants.Pop count) =
    Some (left_of s.flat f state (variants.Pop count))
template_meant s f state route (variants.Move opcode) =
    Some (left_of s.flat f state (variants.Move opcode))
template_meant s f state route (variants.Jump pops) =
    Some (pop_if pops ++ made_on_jump s route)

-- of a test of two references, of which one is not virtual
abbrev pub half_jump : Slot → Bool → Template
half_jump (Virt site) pops = variants.Jump pops
half_jump Plain pops = variants.AsItIs
half_jump Unusable pops = variants.AsItIs

-- the other one is popped
abbrev pub half_plain : Slot → Bool
half_plain Plain = true
half_plain (Virt site) = false
half_plain Unusable = false

-- The number of a field among those of a site's object, if the object has a field of that number.
pub record IsFieldAt (s : PlanScope) (site : ℕ) (field : Reference) (found : Option ℕ) : Type 0 where
  pub some : (number : ℕ) → found ≡ Some number → field_number s site field ≡ Some number
  pub none : (number : ℕ)
      → found ≡ None
      → field_number s site field ≡ Some number
      → slice_get (fields_at s.flat site) number ≡ None

-- Small programs and what they show: where a value keeps the low bits of a byte, short, char or
-- boolean, and that an argument
-- does not.
use Rattle.std.specs.Prelude.{ℕ, ℤ, pos, negsuc, List, [], ◌∷◌, codes, Some, None}
use Rattle.class_model.specs.declared.descriptor.FieldType.{FieldType}
use Rattle.class_model.specs.declared.descriptor.FieldType.TheVariants as types
use Rattle.class_model.specs.declared.descriptor.Kind.TheVariants as kinds
use Rattle.class_model.specs.declared.header.Member.{Member}
use Rattle.class_model.specs.declared.opcodes.TheConstants.{DUP}
use Rattle.class_tree.specs.Names.{object}
use Rattle.machine_values.specs.declared.action.Action.TheVariants as actions
use Rattle.machine_values.specs.declared.action.Given.TheVariants as given
use Rattle.machine_values.specs.declared.event.End.TheVariants as ends
use Rattle.machine_values.specs.declared.event.EventKind.TheVariants as events
use Rattle.machine_values.specs.declared.event.Seen.TheVariants as seen
use Rattle.machine_laws.specs.TestPrograms.{asking_number, reference, member, program, with_code, class, init_of, super_init, T_fields, shows, event, result_int, call_T, result_nothing}
use Rattle.member_link.specs.Machine.Ops as ops
use Rattle.member_link.specs.Machine.Programs.{Program, RunMethod}
use Rattle.member_link.specs.References.{Reference}

abbrev pub of_N : List ℕ → List ℕ → Reference
of_N name desc = reference (codes "N") name desc

-- static int NAME(int a) { N n = new N(); n.NAME = a; return n.NAME; }, without a conversion
abbrev pub through_field : List ℕ → List ℕ → RunMethod
through_field name desc = with_code 9 name (codes "(I)I") 2 (
    ops.new_object (codes "N")
    ∷ ops.shuffle_stack DUP
    ∷ ops.call_special (init_of (codes "N")) (codes "N")
    ∷ ops.store_local kinds.Ref 1
    ∷ ops.load_local kinds.Ref 1
    ∷ ops.load_local kinds.Int 0
    ∷ ops.put_field (of_N name desc) None
    ∷ ops.load_local kinds.Ref 1
    ∷ ops.get_field (of_N name desc)
    ∷ ops.return_value types.Int
    ∷ []
    )

-- static int k(int a) { N.k = a; return N.k; }
abbrev pub through_static : RunMethod
through_static = with_code 9 (codes "k") (codes "(I)I") 1 (
    ops.load_local kinds.Int 0
    ∷ ops.put_static (of_N (codes "k") (codes "B")) None
    ∷ ops.get_static (of_N (codes "k") (codes "B"))
    ∷ ops.return_value types.Int
    ∷ []
    )

-- a method that returns its argument at a narrower type
abbrev pub returning : List ℕ → List ℕ → FieldType → RunMethod
returning name desc type =
    with_code 9 name desc 1 (ops.load_local kinds.Int 0 ∷ ops.return_value type ∷ [])

-- static int pass(int a) { return take(a); } static int take(byte b) { return b; }
abbrev pub passing : RunMethod
passing = with_code 9 (codes "pass") (codes "(I)I") 1 (
    ops.load_local kinds.Int 0
    ∷ ops.call_static (reference (codes "T") (codes "take") (codes "(B)I"))
    ∷ ops.return_value types.Int
    ∷ []
    )

abbrev pub z_of_L : Reference
z_of_L = reference (codes "L") (codes "z") (codes "Z")

abbrev pub reading_flag : RunMethod
reading_flag = with_code 9 (codes "flag") (codes "()I") 0
    (ops.get_static z_of_L ∷ ops.return_value types.Int ∷ [])

abbrev pub writing_flag : RunMethod
writing_flag = with_code 9 (codes "set_flag") (codes "(I)V") 1 (
    ops.load_local kinds.Int 0
    ∷ ops.put_static z_of_L None
    ∷ ops.return_nothing
    ∷ []
    )

abbrev pub fields_of_N : List Member
fields_of_N =
    member 0 (codes "b") (codes "B")
    ∷ member 0 (codes "s") (codes "S")
    ∷ member 0 (codes "c") (codes "C")
    ∷ member 0 (codes "z") (codes "Z")
    ∷ member 8 (codes "k") (codes "B")
    ∷ []

abbrev pub narrowing_program : Program
narrowing_program = program (
    class 33 (codes "N") fields_of_N (super_init object ∷ [])
    ∷ T_fields [] (
    through_field (codes "b") (codes "B")
    ∷ through_field (codes "s") (codes "S")
    ∷ through_field (codes "c") (codes "C")
    ∷ through_field (codes "z") (codes "Z")
    ∷ through_static
    ∷ returning (codes "short") (codes "(I)S") types.Short
    ∷ returning (codes "char") (codes "(I)C") types.Char
    ∷ returning (codes "boolean") (codes "(I)Z") types.Bool
    ∷ returning (codes "take") (codes "(B)I") types.Int
    ∷ passing
    ∷ asking_number
    ∷ reading_flag
    ∷ writing_flag
    ∷ []
    )
    ∷ []
    )

-- a method gives this for that
abbrev pub narrows : List ℕ → List ℕ → ℤ → ℤ → ℕ → Type 0
narrows name desc number answer allocations =
    shows narrowing_program (call_T name desc (given.Int number ∷ []) ∷ actions.Stop ∷ [])
    (result_int answer allocations 0 [] ∷ []) ends.Stopped

pub record RunNarrowing : Type 0 where
  pub byte_field : narrows (codes "b") (codes "(I)I") (pos 200) (negsuc 55) 1
  pub short_field : narrows (codes "s") (codes "(I)I") (pos 40000) (negsuc 25535) 1
  pub char_field : narrows (codes "c") (codes "(I)I") (negsuc 0) (pos 65535) 1
  pub even_boolean_field : narrows (codes "z") (codes "(I)I") (pos 2) (pos 0) 1
  pub odd_boolean_field : narrows (codes "z") (codes "(I)I") (pos 3) (pos 1) 1
  pub static_field : narrows (codes "k") (codes "(I)I") (pos 300) (pos 44) 0
  pub short_result : narrows (codes "short") (codes "(I)S") (pos 40000) (negsuc 25535) 0
  pub char_result : narrows (codes "char") (codes "(I)C") (negsuc 0) (pos 65535) 0
  pub boolean_result : narrows (codes "boolean") (codes "(I)Z") (pos 2) (pos 0) 0
  pub argument : narrows (codes "pass") (codes "(I)I") (pos 300) (pos 300) 0
  pub argument_of_library : narrows (codes "take") (codes "(B)I") (pos 300) (pos 300) 0
  -- what the library returns is narrowed to the declared type, and it sees a narrowed value
  pub returned_byte : shows narrowing_program (
      call_T (codes "number") (codes "()I") []
      ∷ actions.Return (Some (given.Int (pos 300)))
      ∷ actions.Stop
      ∷ []
      ) (
      event (events.Call (codes "L") (codes "number") (codes "()B") []) 0 0 []
      ∷ result_int (pos 44) 0 0 []
      ∷ []
      ) ends.Stopped
  pub returned_field : shows narrowing_program (
      call_T (codes "flag") (codes "()I") []
      ∷ actions.Return (Some (given.Int (pos 3)))
      ∷ actions.Stop
      ∷ []
      ) (
      event (events.Get (codes "L") (codes "z") (codes "Z") None) 0 0 []
      ∷ result_int (pos 1) 0 0 []
      ∷ []
      ) ends.Stopped
  pub put_field : shows narrowing_program (
      call_T (codes "set_flag") (codes "(I)V") (given.Int (pos 2) ∷ [])
      ∷ actions.Return None
      ∷ actions.Stop
      ∷ []
      ) (
      event (events.Put (codes "L") (codes "z") (codes "Z") None (seen.Int (pos 0))) 0 0 []
      ∷ result_nothing 0 0 []
      ∷ []
      ) ends.Stopped

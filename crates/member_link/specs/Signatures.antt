-- What constants and descriptors say of a member (JVM Specification SE 8, 4.3 and 4.4.2).
use Rattle.std.specs.Prelude.{◌+◌, ◌==◌, not, ℕ, Bool, false, List, [], ◌∷◌, length, drop, bytes_eq, codes, Option, Some, None, if◌then◌else◌}
use Rattle.std.specs.List.{flat_map}
use Rattle.class_model.specs.Characters.{right_parenthesis}
use Rattle.class_model.specs.Code.{verification_type}
use Rattle.class_model.specs.Descriptors.{field_type_text, parameters_of, type_of}
use Rattle.class_model.specs.Pool.{Constants}
use Rattle.class_model.specs.declared.descriptor.FieldType.{FieldType}
use Rattle.class_model.specs.declared.frame.VType.{VType}
use Rattle.class_model.specs.declared.pool.Const.{Const}
use Rattle.class_model.specs.declared.pool.Const.TheVariants as consts
use Rattle.member_link.specs.References.{Reference, reference_at}

-- the member that a constant refers to
abbrev pub reference_of : Constants → Option Const → Option Reference
reference_of pool (Some (consts.Fieldref class member)) = reference_at pool class member
reference_of pool (Some (consts.Methodref class member)) = reference_at pool class member
reference_of pool (Some (consts.InterfaceMethodref class member)) = reference_at pool class member
reference_of pool constant = None

-- the type of a field
abbrev pub field_type : List ℕ → VType
field_type desc = verification_type (type_of desc)

-- a parameter is at the front of the text of a method descriptor, before its closing parenthesis
abbrev pub begins_type : List ℕ → Bool
begins_type [] = false
begins_type (first ∷ rest) = not (first == right_parenthesis)

-- the result of a method descriptor: what stands behind its parameters, which is V for none
abbrev pub result_of : List ℕ → Option FieldType
result_of desc =
    of_text (drop (length (flat_map field_type_text (parameters_of desc)) + 2) desc) where
      of_text : List ℕ → Option FieldType
      of_text text = if bytes_eq text (codes "V") then None else Some (type_of text)

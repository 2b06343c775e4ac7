-- Arithmetic, conversions and comparisons (JVM Specification SE 8, 6.5): an opcode takes values and gives one.
use Rattle.std.specs.Prelude.{◌==◌, ℕ, List, [], ◌∷◌, map, Option, Some, None, if◌then◌else◌}
use Rattle.std.specs.List.{list_any}
use Rattle.class_model.specs.declared.descriptor.Kind.{Kind}
use Rattle.class_model.specs.declared.descriptor.Kind.TheVariants.{Int, Long, Float, Double, Ref}
use Rattle.class_model.specs.declared.frame.Frame.{Frame}
use Rattle.class_model.specs.declared.frame.VType.{VType}
use Rattle.class_model.specs.declared.frame.VType.TheVariants as types
use Rattle.class_model.specs.declared.opcodes.TheConstants.{IADD, ISUB, IMUL, ISHL, ISHR, IUSHR, IAND, IOR, IXOR, LADD, LSUB, LMUL, LAND, LOR, LXOR, LSHL, LSHR, LUSHR, INEG, I2B, I2C, I2S, LNEG, I2L, L2I, LCMP, IDIV, IREM, LDIV, LREM, FADD, FSUB, FMUL, FDIV, FREM, DADD, DSUB, DMUL, DDIV, DREM, FNEG, DNEG, I2F, I2D, L2F, L2D, F2I, F2L, F2D, D2I, D2L, D2F, FCMPL, FCMPG, DCMPL, DCMPG}
use Rattle.member_link.specs.Rows.Operands.{of_kind}
use Rattle.member_link.specs.Rows.Row.{Row, plain, no_row}

pub record Operation : Type 0 where
  pub opcodes : List ℕ
  pub takes : List Kind
  pub gives : Kind

abbrev operation : List ℕ → List Kind → Kind → Operation
operation opcodes takes gives = record { opcodes = opcodes; takes = takes; gives = gives }

-- Of int and long, which raise nothing.
abbrev pub pure_operations : List Operation
pure_operations =
    operation (IADD ∷ ISUB ∷ IMUL ∷ ISHL ∷ ISHR ∷ IUSHR ∷ IAND ∷ IOR ∷ IXOR ∷ [])
    (Int ∷ Int ∷ []) Int
    ∷ operation (LADD ∷ LSUB ∷ LMUL ∷ LAND ∷ LOR ∷ LXOR ∷ []) (Long ∷ Long ∷ []) Long
    ∷ operation (LSHL ∷ LSHR ∷ LUSHR ∷ []) (Long ∷ Int ∷ []) Long
    ∷ operation (INEG ∷ I2B ∷ I2C ∷ I2S ∷ []) (Int ∷ []) Int
    ∷ operation (LNEG ∷ []) (Long ∷ []) Long
    ∷ operation (I2L ∷ []) (Int ∷ []) Long
    ∷ operation (L2I ∷ []) (Long ∷ []) Int
    ∷ operation (LCMP ∷ []) (Long ∷ Long ∷ []) Int
    ∷ []

-- Divisions and remainders of int and long.
abbrev pub divide_operations : List Operation
divide_operations =
    operation (IDIV ∷ IREM ∷ []) (Int ∷ Int ∷ []) Int
    ∷ operation (LDIV ∷ LREM ∷ []) (Long ∷ Long ∷ []) Long
    ∷ []

-- Of float and double.
abbrev pub float_operations : List Operation
float_operations =
    operation (FADD ∷ FSUB ∷ FMUL ∷ FDIV ∷ FREM ∷ []) (Float ∷ Float ∷ []) Float
    ∷ operation (DADD ∷ DSUB ∷ DMUL ∷ DDIV ∷ DREM ∷ []) (Double ∷ Double ∷ []) Double
    ∷ operation (FNEG ∷ []) (Float ∷ []) Float
    ∷ operation (DNEG ∷ []) (Double ∷ []) Double
    ∷ operation (I2F ∷ []) (Int ∷ []) Float
    ∷ operation (I2D ∷ []) (Int ∷ []) Double
    ∷ operation (L2F ∷ []) (Long ∷ []) Float
    ∷ operation (L2D ∷ []) (Long ∷ []) Double
    ∷ operation (F2I ∷ []) (Float ∷ []) Int
    ∷ operation (F2L ∷ []) (Float ∷ []) Long
    ∷ operation (F2D ∷ []) (Float ∷ []) Double
    ∷ operation (D2I ∷ []) (Double ∷ []) Int
    ∷ operation (D2L ∷ []) (Double ∷ []) Long
    ∷ operation (D2F ∷ []) (Double ∷ []) Float
    ∷ operation (FCMPL ∷ FCMPG ∷ []) (Float ∷ Float ∷ []) Int
    ∷ operation (DCMPL ∷ DCMPG ∷ []) (Double ∷ Double ∷ []) Int
    ∷ []

-- the operation of an opcode
abbrev pub operation_in : List Operation → ℕ → Option Operation
operation_in [] opcode = None
operation_in (first ∷ others) opcode =
    if list_any (λ o. o == opcode) first.opcodes then Some first else operation_in others opcode

-- the type of a value of a kind that is no reference
abbrev pub type_of_kind : Kind → VType
type_of_kind Int = types.Int
type_of_kind Long = types.Long
type_of_kind Float = types.Float
type_of_kind Double = types.Double
type_of_kind Ref = types.Top

abbrev pub operation_row : Frame → Option Operation → Row
operation_row f None = no_row f
operation_row f (Some o) = plain f (map of_kind o.takes) (type_of_kind o.gives ∷ [])

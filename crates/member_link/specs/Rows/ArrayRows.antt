-- Instructions on arrays (JVM Specification SE 8, 6.5).
use Rattle.std.specs.Prelude.{◌==◌, ◌-◌, nat_lt, ℕ, List, [], ◌∷◌, replicate, codes, Option, Some, None, if◌then◌else◌}
use Rattle.class_model.specs.ArrayTypes.{component_of}
use Rattle.class_model.specs.Characters.{left_bracket}
use Rattle.class_model.specs.Descriptors.{named_text}
use Rattle.class_model.specs.PoolChecks.{class_at}
use Rattle.class_model.specs.declared.array_codes.TheConstants.{T_BOOLEAN, T_CHAR, T_FLOAT, T_DOUBLE, T_BYTE, T_SHORT, T_INT, T_LONG}
use Rattle.class_model.specs.declared.descriptor.Kind.TheVariants.{Int, Long, Float, Double}
use Rattle.class_model.specs.declared.frame.Frame.{Frame}
use Rattle.class_model.specs.declared.frame.VType.{VType}
use Rattle.class_model.specs.declared.frame.VType.TheVariants as types
use Rattle.class_model.specs.declared.opcodes.TheConstants.{AALOAD, IALOAD, AASTORE, IASTORE}
use Rattle.class_tree.specs.Headers.{Name}
use Rattle.member_link.specs.RowScope.{RowScope}
use Rattle.member_link.specs.Rows.Operands.{Need, of_kind, initialised, array_among, array_of_references, some_array, lowest_of}
use Rattle.member_link.specs.Rows.Row.{Row, plain, no_row, either}

-- ---- elements

-- the arrays that a load or store takes, and the type of their elements on the stack
pub record Elements : Type 0 where
  pub arrays : List Name
  pub type : VType

abbrev elements : List Name → VType → Option Elements
elements arrays type = Some (record { arrays = arrays; type = type })

-- by the opcode counted from iaload or iastore; the fifth is of references
abbrev pub elements_of : ℕ → Option Elements
elements_of number =
    if number == 0 then elements (codes "[I" ∷ []) types.Int
    else (if number == 1 then elements (codes "[J" ∷ []) types.Long
    else (if number == 2 then elements (codes "[F" ∷ []) types.Float
    else (if number == 3 then elements (codes "[D" ∷ []) types.Double
    else (if number == 5 then elements (codes "[B" ∷ codes "[Z" ∷ []) types.Int
    else (if number == 6 then elements (codes "[C" ∷ []) types.Int
    else (if number == 7 then elements (codes "[S" ∷ []) types.Int
    else None))))))

-- of null, null
abbrev pub component_type : VType → VType
component_type (types.Object name) = types.Object (component_of name)
component_type other = types.Null

-- of an opcode, counted from the first of its form
abbrev pub elements_from : ℕ → ℕ → Option Elements
elements_from first opcode = if nat_lt opcode first then None else elements_of (opcode - first)

abbrev pub elements_load_row : Frame → Option Elements → Row
elements_load_row f None = no_row f
elements_load_row f (Some e) = plain f (array_among e.arrays ∷ of_kind Int ∷ []) (e.type ∷ [])

abbrev pub array_load_row : Frame → ℕ → Row
array_load_row f opcode =
    either (opcode == AALOAD)
    (plain f (array_of_references ∷ of_kind Int ∷ []) (component_type (lowest_of 2 f.stack) ∷ []))
    (elements_load_row f (elements_from IALOAD opcode))

-- what is asked of a value of this type
abbrev pub need_of_value : VType → Need
need_of_value types.Long = of_kind Long
need_of_value types.Float = of_kind Float
need_of_value types.Double = of_kind Double
need_of_value other = of_kind Int

abbrev pub elements_store_row : Frame → Option Elements → Row
elements_store_row f None = no_row f
elements_store_row f (Some e) =
    plain f (array_among e.arrays ∷ of_kind Int ∷ need_of_value e.type ∷ []) []

-- any array of references takes any reference that is initialised
abbrev pub array_store_row : Frame → ℕ → Row
array_store_row f opcode =
    either (opcode == AASTORE)
    (plain f (array_of_references ∷ of_kind Int ∷ initialised ∷ []) [])
    (elements_store_row f (elements_from IASTORE opcode))

-- ---- arrays that are made

-- the arrays of newarray by their codes, from boolean on
abbrev pub primitive_array : ℕ → Option Name
primitive_array code =
    if code == T_BOOLEAN then Some (codes "[Z")
    else (if code == T_CHAR then Some (codes "[C")
    else (if code == T_FLOAT then Some (codes "[F")
    else (if code == T_DOUBLE then Some (codes "[D")
    else (if code == T_BYTE then Some (codes "[B")
    else (if code == T_SHORT then Some (codes "[S")
    else (if code == T_INT then Some (codes "[I")
    else (if code == T_LONG then Some (codes "[J")
    else None)))))))

-- an array of this name is made of so many counts
abbrev pub made_row : Frame → ℕ → Option Name → Row
made_row f counts None = no_row f
made_row f counts (Some name) = plain f (replicate counts (of_kind Int)) (types.Object name ∷ [])

abbrev pub new_array_row : Frame → ℕ → Row
new_array_row f code = made_row f 1 (primitive_array code)

-- the array of a class or array
abbrev pub array_of : Option Name → Option Name
array_of None = None
array_of (Some name) = Some (left_bracket ∷ named_text name)

abbrev pub new_ref_array_row : RowScope → Frame → ℕ → Row
new_ref_array_row s f index = made_row f 1 (array_of (class_at s.pool index))

abbrev pub new_multi_row : RowScope → Frame → ℕ → ℕ → Row
new_multi_row s f index dimensions = made_row f dimensions (class_at s.pool index)

abbrev pub length_row : Frame → Row
length_row f = plain f (some_array ∷ []) (types.Int ∷ [])

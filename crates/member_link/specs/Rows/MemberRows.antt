-- Fields, calls and returns (JVM Specification SE 8, 4.10.1.8, 4.10.1.9 and 6.5).
use Rattle.std.specs.Prelude.{◌≡◌, ◌≢◌, ◌⊎◌, ◌==◌, ◌+◌, ℕ, List, [], ◌∷◌, length, map, bytes_eq, codes, Option, Some, None, IsTrue, if◌then◌else◌}
use Rattle.std.specs.List.{list_any, AllByRecursion}
use Rattle.class_model.specs.Code.{verification_type}
use Rattle.class_model.specs.Descriptors.{kind_of, parameters_of}
use Rattle.class_model.specs.Members.{has, PROTECTED}
use Rattle.class_model.specs.Names.{init}
use Rattle.class_model.specs.PoolChecks.{descriptor_at}
use Rattle.class_model.specs.declared.descriptor.FieldType.{FieldType}
use Rattle.class_model.specs.declared.descriptor.Kind.{Kind}
use Rattle.class_model.specs.declared.descriptor.Kind.TheVariants as kinds
use Rattle.class_model.specs.declared.frame.Frame.{Frame}
use Rattle.class_model.specs.declared.frame.VType.{VType}
use Rattle.class_model.specs.declared.frame.VType.TheVariants as types
use Rattle.class_model.specs.declared.opcodes.TheConstants.{INVOKESTATIC, INVOKESPECIAL}
use Rattle.class_model.specs.declared.pool.Const.{Const}
use Rattle.class_model.specs.declared.pool.Const.TheVariants as consts
use Rattle.class_tree.specs.Headers.{Name}
use Rattle.class_tree.specs.Names.{is_member}
use Rattle.class_tree.specs.Subtype.{IsArray, IsChain}
use Rattle.member_link.specs.Access.{IsAtOrBelow}
use Rattle.member_link.specs.DeclaredMembers.{Declared}
use Rattle.member_link.specs.Fields.{FindsField}
use Rattle.member_link.specs.Methods.{FindsMethod}
use Rattle.member_link.specs.Overriding.{package_of}
use Rattle.member_link.specs.References.{Reference}
use Rattle.member_link.specs.RowScope.{RowScope}
use Rattle.member_link.specs.Rows.Assigning.{IsAssignableIn}
use Rattle.member_link.specs.Rows.Operands.{Need, of_kind, uninitialised, assignable_to, assignable_or_this, lowest_of}
use Rattle.member_link.specs.Rows.Row.{Row, plain, conditional, ending, no_row, either}
use Rattle.member_link.specs.Signatures.{field_type, result_of}

-- ---- arguments and results

-- what is asked of the arguments
abbrev pub argument_needs : List ℕ → List Need
argument_needs desc = map (λ param. assignable_to (verification_type param)) (parameters_of desc)

abbrev pub result_types : Option FieldType → List VType
result_types None = []
result_types (Some type) = verification_type type ∷ []

-- ---- protected members (4.10.1.8)

-- An object of another class does not lend the current class its protected members of another package, but for the clone
-- of an array.
abbrev pub PassesProtected : RowScope → Reference → (Option Declared → Type 0) → VType → Type 0
PassesProtected s reference Finds receiver =
    (member : Declared)
    → Finds (Some member)
    → IsTrue (has member.member.flags PROTECTED)
    → package_of member.class ≢ package_of s.own.name
    → IsAtOrBelow s.headers s.own.name reference.class
    → IsAssignableIn s.headers s.major receiver (types.Object s.own.name)
    ⊎ IsCloneOfArray receiver where
      IsCloneOfArray : VType → Type 0
      IsCloneOfArray (types.Object name) = IsArray name × (reference.name ≡ codes "clone")
      IsCloneOfArray other = ⊥

abbrev pub PassesField : RowScope → Reference → VType → Type 0
PassesField s reference receiver =
    PassesProtected s reference
    (FindsField s.headers reference.class reference.name reference.desc) receiver

abbrev pub PassesMethod : RowScope → Reference → VType → Type 0
PassesMethod s reference receiver =
    PassesProtected s reference
    (FindsMethod s.headers reference.class reference.name reference.desc) receiver

-- ---- fields

abbrev pub get_static_row : Frame → Option Reference → Row
get_static_row f None = no_row f
get_static_row f (Some reference) = plain f [] (field_type reference.desc ∷ [])

abbrev pub put_static_row : Frame → Option Reference → Row
put_static_row f None = no_row f
put_static_row f (Some reference) = plain f (assignable_to (field_type reference.desc) ∷ []) []

abbrev pub get_field_row : RowScope → Frame → Option Reference → Row
get_field_row s f None = no_row f
get_field_row s f (Some reference) =
    conditional f (assignable_to (types.Object reference.class) ∷ [])
    (field_type reference.desc ∷ []) (Unit {0}) (PassesField s reference (lowest_of 1 f.stack))

-- the field is one of the current class, and named there
abbrev pub IsOwnField : RowScope → Reference → Type 0
IsOwnField s reference =
    (reference.class ≡ s.own.name)
    × IsTrue (list_any (is_member reference.name reference.desc) s.own.fields)

-- an uninitialised this has its own fields written
abbrev pub MayPut : RowScope → Reference → VType → Type 0
MayPut s reference types.UninitThis = IsOwnField s reference
MayPut s reference receiver = Unit {0}

-- another object may lend its protected fields
abbrev pub PassesPut : RowScope → Reference → VType → Type 0
PassesPut s reference types.UninitThis = Unit {0}
PassesPut s reference receiver = PassesField s reference receiver

abbrev pub put_field_row : RowScope → Frame → Option Reference → Row
put_field_row s f None = no_row f
put_field_row s f (Some reference) =
    conditional f (assignable_or_this (types.Object reference.class) ∷ assignable_to
    (field_type reference.desc)
    ∷ []) [] (MayPut s reference (lowest_of 2 f.stack))
    (PassesPut s reference (lowest_of 2 f.stack))

-- ---- calls

-- the receiver of a call with these arguments
abbrev pub receiver : Frame → List ℕ → VType
receiver f desc = lowest_of (length (parameters_of desc) + 1) f.stack

abbrev pub static_row : Frame → Reference → Row
static_row f reference =
    plain f (argument_needs reference.desc) (result_types (result_of reference.desc))

-- a call on an object of the named class, with a further condition and one of access
abbrev pub instance_row : Frame → Reference → Type 0 → Type 0 → Row
instance_row f reference Further Access =
    conditional f (assignable_to
    (types.Object reference.class)
    ∷ argument_needs reference.desc) (result_types (result_of reference.desc)) Further Access

-- the current class, a superclass of it, or in version 52 a direct superinterface
abbrev pub IsSpecialTarget : RowScope → Name → Type 0
IsSpecialTarget s name =
    ((names : List Name)
    × IsChain s.headers s.own.name names
    × IsTrue (list_any (bytes_eq name) names))
    ⊎ ((s.major ≡ 52) × IsTrue (list_any (bytes_eq name) s.own.interfaces))

abbrev pub special_row : RowScope → Frame → Reference → Row
special_row s f reference =
    instance_row f reference
    (IsSpecialTarget s reference.class × IsAssignableIn s.headers s.major
    (receiver f reference.desc) (types.Object s.own.name)) (Unit {0})

-- ---- instance initialisers

-- The initialiser of an object is one of its class, that of this one of the current class or its superclass.
abbrev pub MayInitialise : RowScope → Reference → VType → Type 0
MayInitialise s reference (types.Uninit at) = s.new_class at ≡ Some reference.class
MayInitialise s reference types.UninitThis =
    (reference.class ≡ s.own.name) ⊎ (s.own.super_name ≡ Some reference.class)
MayInitialise s reference other = ⊥

-- A protected initialiser of another package is for this alone.
abbrev pub PassesInitialiser : RowScope → Reference → VType → Type 0
PassesInitialiser s reference (types.Uninit at) =
    (member : Declared)
    → FindsMethod s.headers reference.class reference.name reference.desc (Some member)
    → IsTrue (has member.member.flags PROTECTED)
    → package_of member.class ≡ package_of s.own.name
PassesInitialiser s reference other = Unit {0}

-- a copy of the receiver is initialised, and another type stays
abbrev pub initialised_type : RowScope → Reference → VType → VType → VType
initialised_type s reference (types.Uninit at) type = of_object type where
  of_object : VType → VType
  of_object (types.Uninit other) =
      if other == at then types.Object reference.class else types.Uninit other
  of_object other = other
initialised_type s reference types.UninitThis type = of_this type where
  of_this : VType → VType
  of_this types.UninitThis = types.Object s.own.name
  of_this other = other
initialised_type s reference other type = type

abbrev pub init_row : RowScope → Frame → Reference → Row
init_row s f reference =
    let object = receiver f reference.desc in
    record (conditional f (uninitialised ∷ argument_needs reference.desc)
    (result_types (result_of reference.desc)) (MayInitialise s reference object)
    (PassesInitialiser s reference object)) {
      locals = map (initialised_type s reference object) f.locals;
      becomes = λ entries. map (initialised_type s reference object) entries;
    }

-- A call by its opcode: what is neither invokestatic nor invokespecial calls a method that the receiver chooses.
abbrev pub call_row : RowScope → Frame → ℕ → Option Reference → Row
call_row s f opcode None = no_row f
call_row s f opcode (Some reference) =
    either (opcode == INVOKESTATIC) (static_row f reference)
    (either (opcode == INVOKESPECIAL)
    (either (bytes_eq reference.name init) (init_row s f reference) (special_row s f reference))
    (instance_row f reference (Unit {0}) (PassesMethod s reference (receiver f reference.desc))))

abbrev pub dynamic_row : RowScope → Frame → Option Const → Row
dynamic_row s f (Some (consts.InvokeDynamic bootstrap member)) =
    of_descriptor (descriptor_at s.pool member) where
      of_descriptor : Option (List ℕ) → Row
      of_descriptor None = no_row f
      of_descriptor (Some desc) = plain f (argument_needs desc) (result_types (result_of desc))
dynamic_row s f constant = no_row f

-- ---- returns

abbrev pub NoUninitThis : List VType → Type 0
NoUninitThis entries = AllByRecursion (λ type. type ≢ types.UninitThis) entries

-- a method without a result returns none, and an instance initialiser when its this is initialised
pub record MayReturn (s : RowScope) (f : Frame) : Type 0 where
  pub no_result : s.result ≡ None
  pub initialised : IsTrue s.is_init → NoUninitThis f.locals × NoUninitThis f.stack

-- a method returns a value of the kind of its result, and a reference that is assignable to it
pub record MayReturnValue (s : RowScope) (kind : Kind) (value : VType) : Type 0 where
  pub type : FieldType
  pub is_result : s.result ≡ Some type
  pub same_kind : kind_of type ≡ kind
  pub assignable : kind ≡ kinds.Ref
      → IsAssignableIn s.headers s.major value (verification_type type)

abbrev pub return_row : RowScope → Frame → Option Kind → Row
return_row s f None = ending f [] (MayReturn s f)
return_row s f (Some kind) =
    ending f (of_kind kind ∷ []) (MayReturnValue s kind (lowest_of 1 f.stack))

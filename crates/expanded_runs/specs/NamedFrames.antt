-- What frames name (JVM Specification SE 8, 4.4.1 and 4.7.4): classes and arrays by texts that a Class constant may have, and that are there. It is this
-- project's profile.
use Rattle.std.specs.Prelude.{◌≡◌, ℕ, List, [], ◌∷◌, slice_get, Some}
use Rattle.std.specs.List.{AllByRecursion}
use Rattle.class_model.specs.ArrayTypes.{component_of}
use Rattle.class_model.specs.Code.{verification_type}
use Rattle.class_model.specs.Descriptors.{IsReferenceName}
use Rattle.class_model.specs.Header.{header_of}
use Rattle.class_model.specs.Methods.{entry_of, home_of}
use Rattle.class_model.specs.ModifiedUtf8.{IsText}
use Rattle.class_model.specs.Pool.{Constants, constant_at}
use Rattle.class_model.specs.PoolChecks.{class_at, descriptor_at}
use Rattle.class_model.specs.declared.frame.Frame.{Frame}
use Rattle.class_model.specs.declared.frame.VType.{VType}
use Rattle.class_model.specs.declared.frame.VType.TheVariants.{Object}
use Rattle.class_model.specs.declared.instr.Instr.{Instr}
use Rattle.class_model.specs.declared.instr.Instr.TheVariants.{Cast, Dynamic, GetField, GetStatic, Invoke, Ldc, Ldc2, NewMulti, NewRefArray}
use Rattle.class_model.specs.declared.pool.Const.TheVariants.{InvokeDynamic}
use Rattle.class_tree.specs.Headers.{Classes, Headers, Name, headers_of}
use Rattle.class_tree.specs.Subtype.{IsReferenceComponent}
use Rattle.flow_code.specs.FlatCode.{FlatCode, point_at}
use Rattle.flow_code.specs.declared.point.FlatInstr.TheVariants.{Of}
use Rattle.flow_code.specs.declared.point.Point.{Point}
use Rattle.flow_code.specs.declared.point.Site.{Site}
use Rattle.member_link.specs.References.{IsNamedThere, Reference}
use Rattle.member_link.specs.RowScope.{RowScope}
use Rattle.member_link.specs.Rows.ArrayRows.{array_of, primitive_array}
use Rattle.member_link.specs.Rows.LocalRows.{const_row}
use Rattle.member_link.specs.Rows.MemberRows.{dynamic_row, result_types}
use Rattle.member_link.specs.Scope.{Scope}
use Rattle.member_link.specs.Signatures.{field_type, reference_of, result_of}
use Rattle.same_runs.specs.Flats.{pool_of}

-- ---- what is known of the names of types

abbrev pub TypeHas : (Name → Type 0) → VType → Type 0
TypeHas Has (Object name) = Has name
TypeHas Has other = Unit {0}

abbrev pub TypesHave : (Name → Type 0) → List VType → Type 0
TypesHave Has types = AllByRecursion (TypeHas Has) types

pub record FrameHas (Has : Name → Type 0) (frame : Frame) : Type 0 where
  pub locals : TypesHave Has frame.locals
  pub stack : TypesHave Has frame.stack

-- ---- what is known of the names that instructions bring

-- What is known of the names that the constants of an instruction give.
abbrev pub PoolHas : (Name → Type 0) → RowScope → Instr → Type 0
PoolHas Has s (Ldc index) = (f : Frame) → TypesHave Has (const_row f (constant_at s.pool index)).gives
PoolHas Has s (Ldc2 index) = (f : Frame) → TypesHave Has (const_row f (constant_at s.pool index)).gives
PoolHas Has s (GetStatic index) =
    (r : Reference) → reference_of s.pool (constant_at s.pool index) ≡ Some r → TypesHave Has (field_type r.desc ∷ [])
PoolHas Has s (GetField index) =
    (r : Reference) → reference_of s.pool (constant_at s.pool index) ≡ Some r → TypesHave Has (field_type r.desc ∷ [])
PoolHas Has s (Invoke opcode index count) =
    (r : Reference) → reference_of s.pool (constant_at s.pool index) ≡ Some r
    → Has r.class × TypesHave Has (result_types (result_of r.desc))
PoolHas Has s (Dynamic index) = (f : Frame) → TypesHave Has (dynamic_row s f (constant_at s.pool index)).gives
PoolHas Has s (NewRefArray index) = (name : Name) → array_of (class_at s.pool index) ≡ Some name → Has name
PoolHas Has s (NewMulti index dimensions) = (name : Name) → class_at s.pool index ≡ Some name → Has name
PoolHas Has s (Cast index) = (name : Name) → class_at s.pool index ≡ Some name → Has name
PoolHas Has s other = Unit {0}

-- The constants that an instruction names are there.
abbrev pub FindsNames : Constants → Instr → Type 0
FindsNames pool (GetStatic index) =
    (r : Reference) × (reference_of pool (constant_at pool index) ≡ Some r)
FindsNames pool (GetField index) =
    (r : Reference) × (reference_of pool (constant_at pool index) ≡ Some r)
FindsNames pool (Invoke opcode index count) =
    (r : Reference) × (reference_of pool (constant_at pool index) ≡ Some r)
FindsNames pool (Dynamic index) =
    (bootstrap member : ℕ) × (desc : List ℕ)
    × (constant_at pool index ≡ Some (InvokeDynamic bootstrap member))
    × (descriptor_at pool member ≡ Some desc)
FindsNames pool (NewRefArray index) = (name : Name) × (class_at pool index ≡ Some name)
FindsNames pool (NewMulti index dimensions) = (name : Name) × (class_at pool index ≡ Some name)
FindsNames pool (Cast index) = (name : Name) × (class_at pool index ≡ Some name)
FindsNames pool other = Unit {0}

-- It is known of the component of an array of references, and of each array of a primitive type.
pub record IsKeptName (Has : Name → Type 0) : Type 0 where
  pub component : (name component : Name) → IsReferenceComponent name component → Has name → Has (component_of name)
  pub primitive : (code : ℕ) (name : Name) → primitive_array code ≡ Some name → Has name

-- ---- names

-- a Class constant may have this name
pub record IsSpelledName (name : Name) : Type 0 where
  pub text : IsText name
  pub is_name : IsReferenceName name

-- and the class that it names is there, or that of the elements of an array
pub record IsFramedName (headers : Headers) (name : Name) : Type 0 where
  pub there : IsNamedThere headers name
  pub spelled : IsSpelledName name

-- ---- flat code

pub record IsFramedSite (headers : Headers) (site : Site) : Type 0 where
  pub class : IsFramedName headers site.class
  pub fields : AllByRecursion (λ type. TypeHas (IsFramedName headers) (verification_type type)) site.fields

-- The class of its host, the frame that the host's code begins with, the typed frames of a flat code, its sites, and the constants of its
-- instructions have such names, and these are found.
pub record HasFramedNames (classes : Classes) (host : Scope) (flat : FlatCode) : Type 0 where
  pub own : IsFramedName (headers_of classes) (header_of host.class).name
  pub entry : (locals : ℕ)
      → FrameHas (IsFramedName (headers_of classes))
      (entry_of (home_of host.class) host.method (record host.part { max_locals = locals }))
  pub points : (number : ℕ) (point : Point)
      → point_at flat number ≡ Some point
      → FrameHas (IsFramedName (headers_of classes)) point.typed
  pub sites : (number : ℕ) (site : Site)
      → slice_get flat.sites number ≡ Some site
      → IsFramedSite (headers_of classes) site
  pub instrs : (number : ℕ) (point : Point) (class : ℕ) (instr : Instr) (scope : RowScope)
      → point_at flat number ≡ Some point
      → point.instr ≡ Of class instr
      → scope.pool ≡ pool_of classes class
      → PoolHas (IsFramedName (headers_of classes)) scope instr
      × FindsNames scope.pool instr

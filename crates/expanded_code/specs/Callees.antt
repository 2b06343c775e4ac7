-- Calls in whose place the called method's code may stand, by the class of the method that is rewritten: the host. It is this project's
-- profile.
use Rattle.std.specs.Prelude.{◌≡◌, ◌≢◌, ◌⊎◌, ◌≤◌, ◌-◌, ◌||◌, ℕ, suc, List, [], ◌∷◌, codes, drop, length, slice_get, Option, Some, None, option_map, IsTrue, IsFalse}
use Rattle.std.specs.List.{AllByRecursion}
use Rattle.class_model.specs.Code.{verification_type}
use Rattle.class_model.specs.Descriptors.{kind_of, parameters_of, units_of}
use Rattle.class_model.specs.Header.{header_of}
use Rattle.class_model.specs.Members.{has, PRIVATE, PROTECTED, PUBLIC, STATIC}
use Rattle.class_model.specs.Methods.{this_units}
use Rattle.class_model.specs.Names.{init}
use Rattle.class_model.specs.Pool.{constant_at}
use Rattle.class_model.specs.PoolChecks.{class_at}
use Rattle.class_model.specs.declared.class_file.ClassFile.{ClassFile}
use Rattle.class_model.specs.declared.class_file.MethodAt.{MethodAt}
use Rattle.class_model.specs.declared.descriptor.FieldType.{FieldType}
use Rattle.class_model.specs.declared.frame.Frame.{Frame}
use Rattle.class_model.specs.declared.frame.VType.{VType}
use Rattle.class_model.specs.declared.frame.VType.TheVariants.{Object, Top, UninitThis}
use Rattle.class_model.specs.declared.header.Header.{Header}
use Rattle.class_model.specs.declared.instr.Instr.{Instr}
use Rattle.class_model.specs.declared.instr.Instr.TheVariants.{Ldc, FloatAsk, Return, GetStatic, PutStatic, GetField, PutField, Invoke, Dynamic, New, NewRefArray, NewMulti, Cast, InstanceOf}
use Rattle.class_model.specs.declared.instr.Placed.{Placed}
use Rattle.class_model.specs.declared.opcodes.TheConstants.{INVOKESPECIAL, INVOKESTATIC, INVOKEVIRTUAL}
use Rattle.class_model.specs.declared.pool.Const.{Const}
use Rattle.class_model.specs.declared.pool.Const.TheVariants as consts
use Rattle.class_tree.specs.Headers.{Name, Classes, Headers, class_named, headers_of}
use Rattle.class_tree.specs.Names.{is_interface, object}
use Rattle.class_tree.specs.Subtype.{IsArray}
use Rattle.class_tree.specs.declared.place.Place.TheVariants.{Folder}
use Rattle.expanded_code.specs.Alone.{number_at}
use Rattle.expanded_code.specs.Quiet.{IsOfFolder, IsQuiet}
use Rattle.flow_code.specs.TypedFrames.{FolderFrames, typed_frames_at}
use Rattle.member_link.specs.Access.{IsClassAccessible}
use Rattle.member_link.specs.CodedMethods.{placed_at}
use Rattle.member_link.specs.Declarations.{IsFolderMethod}
use Rattle.member_link.specs.DeclaredMembers.{Declared, is_package_access}
use Rattle.member_link.specs.Fields.{FindsField}
use Rattle.member_link.specs.Found.{IsMethodFound}
use Rattle.member_link.specs.Machine.Performing.{SYNCHRONIZED}
use Rattle.member_link.specs.Methods.{FindsMethod, IsPolymorphic}
use Rattle.member_link.specs.Overriding.{Overrides, package_of}
use Rattle.member_link.specs.References.{NamesElementClass, Reference}
use Rattle.member_link.specs.Rows.MemberRows.{NoUninitThis, receiver}
use Rattle.member_link.specs.Rows.Operands.{lowest_of}
use Rattle.member_link.specs.Scope.{Scope, instructions, is_init, own_descriptor, scope_at}
use Rattle.member_link.specs.Selection.{Selects, chosen_method}
use Rattle.member_link.specs.Signatures.{reference_of, result_of}
use Rattle.member_link.specs.SpecialStart.{StartsSpecial}
use Rattle.member_link.specs.declared.selection.CallForm.TheVariants.{Special}

-- ---- instructions and their frames

-- the class of a method
abbrev pub own_name : Scope → Name
own_name s = (header_of s.class).name

-- the instruction at an offset, in bytes
abbrev pub instr_at : Scope → ℕ → Option Instr
instr_at s at = option_map (λ placed. placed.instr) (placed_at (instructions s) at)

-- the frame before the instruction at an offset, and the one before the next instruction
abbrev pub frame_before : Scope → List Frame → ℕ → Option Frame
frame_before s frames at = slice_get frames (number_at s at)

abbrev pub frame_behind : Scope → List Frame → ℕ → Option Frame
frame_behind s frames at = slice_get frames (suc (number_at s at))

-- a call stands at an offset, of this opcode and of the method of this reference
pub record IsCall (s : Scope) (at opcode : ℕ) (reference : Reference) : Type 0 where
  pub index : ℕ
  pub count : ℕ
  pub is : instr_at s at ≡ Some (Invoke opcode index count)
  pub names : reference_of s.class.pool (constant_at s.class.pool index) ≡ Some reference

-- ---- the method that a call runs

-- a class that is no interface
pub record IsClass (headers : Headers) (name : Name) : Type 0 where
  pub header : Header
  pub found : class_named headers name ≡ Some header
  pub no_interface : IsFalse (is_interface header)

-- no method of the folder overrides it
abbrev pub IsOverriddenByNone : Headers → Declared → Type 0
IsOverriddenByNone headers method =
    (low : Declared) → IsFolderMethod headers low → ¬ Overrides headers low method

abbrev pub Finds : Headers → Reference → Declared → Type 0
Finds headers reference method =
    FindsMethod headers reference.class reference.name reference.desc (Some method)

-- The method that a call by this reference in a class runs, whatever its receiver is: a static one by look-up, a special one by selection,
-- and a virtual one where nothing overrides it. Where a method is found under every descriptor nothing is selected.
pub data Runs (headers : Headers) (own : Name) (reference : Reference) : ℕ → Declared
    → Type 0 where
  runs_static : (method : Declared)
      → Finds headers reference method
      → Runs headers own reference INVOKESTATIC method
  runs_special : (found method : Declared) (start : Name)
      → IsClass headers own ⊎ (reference.name ≡ init)
      → ¬ IsPolymorphic headers reference.class reference.name
      → Finds headers reference found
      → IsFalse (has found.member.flags STATIC)
      → StartsSpecial headers own reference.class start
      → Selects headers start found Special (chosen_method method)
      → Runs headers own reference INVOKESPECIAL method
  runs_virtual : (method : Declared)
      → Finds headers reference method
      → IsClass headers method.class
      → IsOverriddenByNone headers method
      → Runs headers own reference INVOKEVIRTUAL method

-- the method of these numbers is the first of its name and descriptor in its class
abbrev pub StandsAt : Classes → MethodAt → Declared → Type 0
StandsAt classes at method =
    IsMethodFound (headers_of classes)
    (record { place = Folder at.class; member = at.method; flags = method.member.flags }) method

-- the call at an offset runs a method of the folder
pub record Calls (classes : Classes) (s : Scope) (at : ℕ) (callee : MethodAt) : Type 0 where
  pub opcode : ℕ
  pub reference : Reference
  pub is_call : IsCall s at opcode reference
  pub method : Declared
  pub runs : Runs (headers_of classes) (own_name s) reference opcode method
  pub stands : StandsAt classes callee method

-- ---- what the callee's code has

-- no method handle and no method type
abbrev pub IsNoHandle : Option Const → Type 0
IsNoHandle (Some (consts.MethodHandle kind reference)) = ⊥
IsNoHandle (Some (consts.MethodType descriptor)) = ⊥
IsNoHandle constant = Unit {0}

abbrev pub IsPlain : Scope → Instr → Type 0
IsPlain s (FloatAsk opcode) = ⊥
IsPlain s (Dynamic index) = ⊥
IsPlain s (Ldc index) = IsNoHandle (constant_at s.class.pool index)
IsPlain s other = Unit {0}

-- an invokespecial names an instance initialiser
abbrev pub NamesInitialiser : Scope → Instr → Type 0
NamesInitialiser s (Invoke opcode index count) =
    opcode ≡ INVOKESPECIAL
    → (reference : Reference)
    → reference_of s.class.pool (constant_at s.class.pool index) ≡ Some reference
    → reference.name ≡ init
NamesInitialiser s other = Unit {0}

-- the stack has the result alone before a return
abbrev pub LeavesResult : Instr → Frame → Type 0
LeavesResult (Return None) frame = frame.stack ≡ []
LeavesResult (Return (Some kind)) frame = length frame.stack ≡ 1
LeavesResult other frame = Unit {0}

-- no entry of a frame is an uninitialised this
abbrev pub IsWithoutThis : Frame → Type 0
IsWithoutThis frame = NoUninitThis frame.locals × NoUninitThis frame.stack

-- ---- types of arguments and results

-- A frame says of a value no more than its declared type, or a class: what is assignable to the declared type is assignable to that.
abbrev pub SaysAtMost : Headers → FieldType → VType → Type 0
SaysAtMost headers type said =
    (said ≡ verification_type type)
    ⊎ ((said ≡ Top) ⊎ ((name : Name) × (said ≡ Object name) × IsClass headers name))

-- the units of the parameters, from the first on
abbrev pub SayAtMost : Headers → List FieldType → List VType → Type 0
SayAtMost headers [] units = Unit {0}
SayAtMost headers (type ∷ types) [] = ⊥
SayAtMost headers (type ∷ types) (said ∷ units) =
    SaysAtMost headers type said
    × SayAtMost headers types (drop (units_of (kind_of type) - 1) units)

-- of a result, if there is one
abbrev pub ResultSaysAtMost : Headers → Option FieldType → Frame → Type 0
ResultSaysAtMost headers None frame = Unit {0}
ResultSaysAtMost headers (Some type) frame = SaysAtMost headers type (lowest_of 1 frame.stack)

-- ---- access from the host's class

-- It is public and not protected, or of package access or protected in the same package; the clone of an array counts as public. (The flags
-- of a library's member are not checked: it may be public and protected. In another package the check of protected members would refuse an
-- instruction of the host that names it.)
pub data IsOpenMethod (host named : Name) (method : Declared) : Type 0 where
  public_method : IsTrue (has method.member.flags PUBLIC)
      → IsFalse (has method.member.flags PROTECTED)
      → IsOpenMethod host named method
  package_method : IsTrue (is_package_access method.member || has method.member.flags PROTECTED)
      → package_of host ≡ package_of method.class
      → IsOpenMethod host named method
  clone_of_array : IsArray named
      → method.member.name ≡ codes "clone"
      → IsOpenMethod host named method

-- The same; and a private instance field of a class of the folder in the same package will be opened.
pub data IsOpenField (headers : Headers) (host : Name) (field : Declared) : Type 0 where
  public_field : IsTrue (has field.member.flags PUBLIC)
      → IsFalse (has field.member.flags PROTECTED)
      → IsOpenField headers host field
  package_field : IsTrue (is_package_access field.member || has field.member.flags PROTECTED)
      → package_of host ≡ package_of field.class
      → IsOpenField headers host field
  opened_field : IsTrue (has field.member.flags PRIVATE)
      → IsFalse (has field.member.flags STATIC)
      → IsOfFolder headers field.class
      → package_of host ≡ package_of field.class
      → IsOpenField headers host field

-- the class that is named, or that of an array's elements
abbrev pub IsOpenClass : Headers → Name → Name → Type 0
IsOpenClass headers host name = NamesElementClass (IsClassAccessible headers host) name

abbrev pub IsOpenClassAt : Scope → Name → ℕ → Type 0
IsOpenClassAt s host index =
    (name : Name) → class_at s.class.pool index ≡ Some name → IsOpenClass s.headers host name

-- a reference to a field, and one to a method
pub record IsOpenFieldReference (headers : Headers) (host : Name) (reference : Reference)
    : Type 0 where
  pub class : IsOpenClass headers host reference.class
  pub member : (field : Declared)
      → FindsField headers reference.class reference.name reference.desc (Some field)
      → IsOpenField headers host field

pub record IsOpenMethodReference (headers : Headers) (host : Name) (reference : Reference)
    : Type 0 where
  pub class : IsOpenClass headers host reference.class
  pub member : (method : Declared)
      → Finds headers reference method
      → IsOpenMethod host reference.class method

abbrev pub IsOpenReferenceAt : (Reference → Type 0) → Scope → ℕ → Type 0
IsOpenReferenceAt IsOpen s index =
    (reference : Reference)
    → reference_of s.class.pool (constant_at s.class.pool index) ≡ Some reference
    → IsOpen reference

abbrev pub IsOpenFieldAt : Scope → Name → ℕ → Type 0
IsOpenFieldAt s host index = IsOpenReferenceAt (IsOpenFieldReference s.headers host) s index

abbrev pub IsOpenMethodAt : Scope → Name → ℕ → Type 0
IsOpenMethodAt s host index = IsOpenReferenceAt (IsOpenMethodReference s.headers host) s index

-- a constant that is loaded
abbrev pub IsOpenConstant : Scope → Name → ℕ → Option Const → Type 0
IsOpenConstant s host index (Some (consts.Class name)) = IsOpenClassAt s host index
IsOpenConstant s host index constant = Unit {0}

-- each class, field and method that an instruction names is accessible from the host's class
abbrev pub NamesOpen : Scope → Name → Instr → Type 0
NamesOpen s host (Ldc index) = IsOpenConstant s host index (constant_at s.class.pool index)
NamesOpen s host (GetStatic index) = IsOpenFieldAt s host index
NamesOpen s host (PutStatic index) = IsOpenFieldAt s host index
NamesOpen s host (GetField index) = IsOpenFieldAt s host index
NamesOpen s host (PutField index) = IsOpenFieldAt s host index
NamesOpen s host (Invoke opcode index count) = IsOpenMethodAt s host index
NamesOpen s host (New index) = IsOpenClassAt s host index
NamesOpen s host (NewRefArray index) = IsOpenClassAt s host index
NamesOpen s host (NewMulti index dimensions) = IsOpenClassAt s host index
NamesOpen s host (Cast index) = IsOpenClassAt s host index
NamesOpen s host (InstanceOf index) = IsOpenClassAt s host index
NamesOpen s host other = Unit {0}

-- ---- callees

-- The code of a method may stand in the code of a host of this class file.
pub record MayStandIn (classes : Classes) (host : ClassFile) (scope : Scope) (frames : List Frame)
    : Type 0 where
  pub version : scope.class.major ≡ host.major
  pub quiet : IsTrue (has scope.method.flags STATIC)
      → IsQuiet (headers_of classes) (own_name scope)
  pub short : length scope.part.code ≤ 64
  pub no_handlers : scope.part.handlers ≡ []
  pub plain : AllByRecursion (λ placed. IsPlain scope placed.instr) (instructions scope)
  pub no_monitor : IsFalse (has scope.method.flags SYNCHRONIZED)
  pub returns : (number : ℕ) (placed : Placed) (frame : Frame)
      → slice_get (instructions scope) number ≡ Some placed
      → slice_get frames number ≡ Some frame
      → LeavesResult placed.instr frame
  pub parameters : (first : Frame)
      → slice_get frames 0 ≡ Some first
      → SayAtMost (headers_of classes) (parameters_of (own_descriptor scope))
      (drop (this_units scope.method.flags) first.locals)
  pub special : AllByRecursion (λ placed. NamesInitialiser scope placed.instr) (instructions scope)
  -- Outside instance initialisers only code that nothing reaches may state an uninitialised this. In the host's code it would be taken for
  -- what the caller has.
  pub without_this : IsFalse (is_init scope) → AllByRecursion IsWithoutThis frames
  pub access : AllByRecursion
      (λ placed. NamesOpen scope (header_of host).name placed.instr)
      (instructions scope)

-- a call at an offset of an instance initialiser on an object of this type
pub record InitialisesAt (s : Scope) (frames : List Frame) (at : ℕ) (object : VType)
    (reference : Reference)
    : Type 0 where
  pub is_call : IsCall s at INVOKESPECIAL reference
  pub of_init : reference.name ≡ init
  pub frame : Frame
  pub before : frame_before s frames at ≡ Some frame
  pub on : receiver frame reference.desc ≡ object

-- The call at an offset of a method may be replaced by the callee's code, in a host of the class of this number. If the callee is an
-- instance initialiser, its calls of initialisers on its own uninitialised object may be replaced too, or are of java/lang/Object. It is
-- the least such relation. (No frame of another method has such an object: nothing is asked of its calls.)
pub data IsCallee (classes : Classes) (typed : FolderFrames) (host : ℕ) : MethodAt → ℕ → MethodAt
    → Type 0 where
  is_callee : (from : MethodAt) (at : ℕ) (callee : MethodAt)
      (host_class : ClassFile) (caller scope : Scope) (before frames : List Frame)
      (inner : ℕ → MethodAt)
      → slice_get classes.folder host ≡ Some host_class
      → scope_at classes from ≡ Some caller
      → typed_frames_at typed from ≡ Some before
      → scope_at classes callee ≡ Some scope
      → typed_frames_at typed callee ≡ Some frames
      → Calls classes caller at callee
      → MayStandIn classes host_class scope frames
      → ((behind : Frame)
      → frame_behind caller before at ≡ Some behind
      → ResultSaysAtMost (headers_of classes) (result_of (own_descriptor scope)) behind)
      → ((within : ℕ) (reference : Reference)
      → IsTrue (is_init scope)
      → InitialisesAt scope frames within UninitThis reference
      → reference.class ≢ object
      → IsCallee classes typed host callee within (inner within))
      → IsCallee classes typed host from at callee

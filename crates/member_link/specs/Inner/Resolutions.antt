-- What the constants of a class file resolve to (JVM Specification SE 8, 5.4.3 and 5.4.4), each by itself and whatever
-- instruction names it.
use Rattle.std.specs.Prelude.{◌≡◌, ◌↔◌, ℕ, List, slice_get, Option, Some, None, IsTrue}
use Rattle.class_model.specs.Names.{init}
use Rattle.class_model.specs.Pool.{constant_at}
use Rattle.class_model.specs.PoolChecks.{utf8_at, descriptor_at}
use Rattle.class_model.specs.declared.pool.Const.{Const}
use Rattle.class_model.specs.declared.pool.Const.TheVariants.{Class, Fieldref, Methodref, InterfaceMethodref, MethodType, InvokeDynamic}
use Rattle.class_tree.specs.Headers.{Name, Headers, IsThere}
use Rattle.class_tree.specs.declared.fault.LinkRule.{LinkRule}
use Rattle.class_tree.specs.declared.fault.LinkRule.TheVariants as rules
use Rattle.member_link.specs.Access.{IsClassAccessible, IsAccessible}
use Rattle.member_link.specs.DeclaredMembers.{Declared}
use Rattle.member_link.specs.Fields.{FindsField}
use Rattle.member_link.specs.Forms.{FitsKind, IsInstantiable}
use Rattle.member_link.specs.Methods.{FindsMethod}
use Rattle.member_link.specs.References.{Reference, reference_at, FieldTypeNames, DescriptorNames, IsNamedThere, IsNamedAccessible}
use Rattle.member_link.specs.Inner.Resolving.{Resolved}
use Rattle.member_link.specs.declared.resolution.Callee.{Callee}
use Rattle.member_link.specs.declared.resolution.Referent.{Referent}
use Rattle.member_link.specs.declared.resolution.Resolution.{Resolution}
use Rattle.member_link.specs.declared.resolution.Resolution.TheVariants as resolutions

-- the first of these that does not hold breaks this rule: the classes that are named are there, the class is accessible,
-- the member is found
abbrev pub FirstBroken : (AreThere IsOpen Finds : Type 0) → LinkRule → Type 0
FirstBroken AreThere IsOpen Finds rules.Missing = ¬ AreThere
FirstBroken AreThere IsOpen Finds rules.NoAccess = AreThere × (¬ IsOpen)
FirstBroken AreThere IsOpen Finds rules.NoMember = AreThere × IsOpen × (¬ Finds)
FirstBroken AreThere IsOpen Finds rule = ⊥

-- ---- classes

abbrev pub ClassResolves : Headers → Name → Name → Resolution → Type 0
ClassResolves headers from name (resolutions.Broken rule) =
    FirstBroken (IsNamedThere headers name) (IsNamedAccessible headers from name) (Unit {0}) rule
ClassResolves headers from name (resolutions.Class is_instantiable) =
    IsNamedThere headers name
    × IsNamedAccessible headers from name
    × (IsTrue is_instantiable ↔ IsInstantiable headers name)
ClassResolves headers from name other = ⊥

-- the classes that a descriptor names
abbrev pub TypesResolve : (AreThere AreOpen : Type 0) → Resolution → Type 0
TypesResolve AreThere AreOpen (resolutions.Broken rule) =
    FirstBroken AreThere AreOpen (Unit {0}) rule
TypesResolve AreThere AreOpen resolutions.Settled = AreThere × AreOpen
TypesResolve AreThere AreOpen other = ⊥

-- ---- members

-- what is kept of the one member that a look-up finds
pub record IsReferent (headers : Headers) (from : Name) (named : Name)
    (Finds : Option Declared → Type 0) (referent : Referent) : Type 0 where
  pub member : Declared
  pub finds : Finds (Some member)
  pub only : (other : Declared) → Finds (Some other) → other ≡ member
  pub flags : referent.flags ≡ member.member.flags
  pub accessible : IsTrue referent.is_accessible ↔ IsAccessible headers from named member

-- what is kept of a reference that calls name
pub record IsCallee (headers : Headers) (constant : Option Const) (reference : Reference)
    (callee : Callee) : Type 0 where
  pub kind : IsTrue callee.fits_kind ↔ FitsKind headers constant reference.class
  pub initialiser : IsTrue callee.is_initialiser ↔ (reference.name ≡ init)

abbrev pub FieldResolves : Headers → Name → Reference → Resolution → Type 0
FieldResolves headers from reference (resolutions.Broken rule) =
    FirstBroken
    (IsNamedThere headers reference.class × FieldTypeNames (IsThere headers) reference.desc)
    (IsNamedAccessible headers from reference.class)
    ((member : Declared)
    × FindsField headers reference.class reference.name reference.desc (Some member)) rule
FieldResolves headers from reference (resolutions.Field referent) =
    (IsNamedThere headers reference.class × FieldTypeNames (IsThere headers) reference.desc)
    × IsNamedAccessible headers from reference.class
    × IsReferent headers from reference.class
    (FindsField headers reference.class reference.name reference.desc) referent
FieldResolves headers from reference other = ⊥

abbrev pub MethodResolves : Headers → Name → Option Const → Reference → Resolution → Type 0
MethodResolves headers from constant reference (resolutions.Broken rule) =
    FirstBroken
    (IsNamedThere headers reference.class × DescriptorNames (IsThere headers) reference.desc)
    (IsNamedAccessible headers from reference.class)
    ((member : Declared)
    × FindsMethod headers reference.class reference.name reference.desc (Some member)) rule
MethodResolves headers from constant reference (resolutions.Method referent callee) =
    (IsNamedThere headers reference.class × DescriptorNames (IsThere headers) reference.desc)
    × IsNamedAccessible headers from reference.class
    × IsReferent headers from reference.class
    (FindsMethod headers reference.class reference.name reference.desc) referent
    × IsCallee headers constant reference callee
MethodResolves headers from constant reference other = ⊥

-- ---- constants

abbrev pub IsSettled : Resolution → Type 0
IsSettled resolutions.Settled = Unit {0}
IsSettled other = ⊥

-- nothing is asked of what could not be had
abbrev pub IfHad : {X : Type 0} → (X → Resolution → Type 0) → Option X → Resolution → Type 0
IfHad Resolves None = IsSettled
IfHad Resolves (Some x) = Resolves x

abbrev pub ConstantResolves : Resolved → Option Const → Resolution → Type 0
ConstantResolves class (Some (Class name)) =
    IfHad (ClassResolves class.headers class.from) (utf8_at class.pool name)
ConstantResolves class (Some (Fieldref named member)) =
    IfHad (FieldResolves class.headers class.from) (reference_at class.pool named member)
ConstantResolves class (Some (Methodref named member)) =
    IfHad (MethodResolves class.headers class.from (Some (Methodref named member)))
    (reference_at class.pool named member)
ConstantResolves class (Some (InterfaceMethodref named member)) =
    IfHad (MethodResolves class.headers class.from (Some (InterfaceMethodref named member)))
    (reference_at class.pool named member)
ConstantResolves class (Some (MethodType desc)) =
    IfHad (λ text. TypesResolve (DescriptorNames (IsThere class.headers) text)
    (DescriptorNames (IsClassAccessible class.headers class.from) text)) (utf8_at class.pool desc)
ConstantResolves class (Some (InvokeDynamic bootstrap member)) =
    IfHad (λ text. TypesResolve (DescriptorNames (IsThere class.headers) text) (Unit {0}))
    (descriptor_at class.pool member)
ConstantResolves class constant = IsSettled

-- a constant that refers to a method, of a class or of an interface
abbrev pub IsCalleeConstant : Option Const → Type 0
IsCalleeConstant (Some (Methodref named member)) = Unit {0}
IsCalleeConstant (Some (InterfaceMethodref named member)) = Unit {0}
IsCalleeConstant constant = ⊥

-- what the constant at an index resolves to
abbrev pub Resolves : Resolved → ℕ → Resolution → Type 0
Resolves class index = ConstantResolves class (constant_at class.pool index)

-- each entry of a table, as far as it is filled, is what the constant at its index resolves to
abbrev pub IfFilled : (Resolution → Type 0) → Option (Option Resolution) → Type 0
IfFilled Resolves (Some (Some resolution)) = Resolves resolution
IfFilled Resolves other = Unit {0}

abbrev pub AreResolutions : Resolved → List (Option Resolution) → Type 0
AreResolutions class entries =
    (index : ℕ) → IfFilled (Resolves class index) (slice_get entries index)

-- The folder that is written: the constant pools as methods leave them, the methods, the field constructors and the flags of fields. It is this
-- project's profile.
use Rattle.std.specs.Prelude.{◌≡◌, ◌≢◌, ℕ, zero, suc, List, [], ◌∷◌, ◌++◌, bytes_eq, length, slice_get, Some, IsTrue}
use Rattle.std.specs.List.{list_any}
use Rattle.class_model.specs.Header.{header_of}
use Rattle.class_model.specs.Pool.{Constants}
use Rattle.class_model.specs.declared.class_file.Attr.{Attr}
use Rattle.class_model.specs.declared.class_file.Attr.TheVariants as attrs
use Rattle.class_model.specs.declared.class_file.ClassFile.{ClassFile}
use Rattle.class_model.specs.declared.class_file.CodePart.{CodePart}
use Rattle.class_model.specs.declared.class_file.Field.{Field}
use Rattle.class_model.specs.declared.class_file.Method.{Method}
use Rattle.class_model.specs.declared.class_file.MethodAt.{MethodAt}
use Rattle.class_rewrite.specs.Rewriting.Methods.{HasReasonIn, IsRewritten, Rewriting, Rewritten}
use Rattle.class_tree.specs.Headers.{Name, headers_of}
use Rattle.class_tree.specs.Layouts.{chain}
use Rattle.flow_code.specs.declared.reason.Reason.{Reason}
use Rattle.flow_code.specs.declared.reason.Reason.TheVariants as reasons
use Rattle.making_code.specs.Constants.{grow}
use Rattle.making_code.specs.ConstructorCode.{IsConstructorMethod}
use Rattle.making_code.specs.FieldConstructor.{constructor_method_needs}
use Rattle.member_link.specs.Machine.Replaced.{Replacement, map_numbered, without_flags}
use Rattle.plan_flow.specs.Written.WrittenPrograms.{GivesConstructors, MakesClass, ReplacesByWritten, WrittenMethod, WrittenMethods}

-- ---- the pool before each method

-- The methods of a class are decided in the order of the file: one that is kept leaves the pool as it was.
pub data IsPoolBefore (r : Rewriting) (class : ℕ) (file : ClassFile) : ℕ → Constants → Type 0 where
  at_first : IsPoolBefore r class file zero file.pool
  behind_kept : {number : ℕ} {pool : Constants} {reason : Reason}
      → IsPoolBefore r class file number pool
      → HasReasonIn r (record { class = class; method = number }) pool reason
      → reason ≢ reasons.Rewritten
      → IsPoolBefore r class file (suc number) pool
  behind_rewritten : {number : ℕ} {pool : Constants} {w : Rewritten}
      → IsPoolBefore r class file number pool
      → IsRewritten r (record { class = class; method = number }) pool w
      → IsPoolBefore r class file (suc number) w.pool

-- the method is rewritten so
pub record IsRewrittenAt (r : Rewriting) (at : MethodAt) (w : Rewritten) : Type 0 where
  pub file : ClassFile
  pub is_file : slice_get r.classes.folder at.class ≡ Some file
  pub pool : Constants
  pub before : IsPoolBefore r at.class file at.method pool
  pub is : IsRewritten r at pool w

-- the reason of a method
pub record HasReasonAt (r : Rewriting) (at : MethodAt) (reason : Reason) : Type 0 where
  pub file : ClassFile
  pub is_file : slice_get r.classes.folder at.class ≡ Some file
  pub pool : Constants
  pub before : IsPoolBefore r at.class file at.method pool
  pub has : HasReasonIn r at pool reason

-- the methods that are rewritten, and no others
pub record AreRewritten (r : Rewriting) (written : WrittenMethods) : Type 0 where
  pub each : (at : MethodAt) (one : WrittenMethod)
      → written at ≡ Some one
      → (w : Rewritten) × IsRewrittenAt r at w × (w.one ≡ one)
  pub all : (at : MethodAt) (w : Rewritten)
      → IsRewrittenAt r at w
      → written at ≡ Some w.one

-- ---- methods

-- the Code attribute has another content, and stands in its place
abbrev pub with_part : CodePart → List Attr → List Attr
with_part part [] = []
with_part part (attrs.Raw name bytes ∷ others) = attrs.Raw name bytes ∷ with_part part others
with_part part (attrs.Code name old ∷ others) = attrs.Code name part ∷ with_part part others

pub data IsMethodWritten (r : Rewriting) (at : MethodAt) (method : Method) : Method → Type 0 where
  is_kept : {reason : Reason}
      → HasReasonAt r at reason
      → reason ≢ reasons.Rewritten
      → IsMethodWritten r at method method
  is_rewritten : {w : Rewritten}
      → IsRewrittenAt r at w
      → IsMethodWritten r at method (record method { attrs = with_part w.part method.attrs })

abbrev pub AreMethodsWritten : Rewriting → ℕ → ℕ → List Method → List Method → Type 0
AreMethodsWritten r class number [] [] = Unit {0}
AreMethodsWritten r class number (method ∷ methods) (written ∷ others) =
    IsMethodWritten r (record { class = class; method = number }) method written
    × AreMethodsWritten r class (suc number) methods others
AreMethodsWritten r class number methods written = ⊥

-- ---- field constructors

-- written code makes a class whose chain has this one
pub record IsMade (r : Rewriting) (written : WrittenMethods) (name : Name) : Type 0 where
  pub class : Name
  pub makes : MakesClass r.classes r.links written class
  pub of_chain : IsTrue (list_any (bytes_eq name) (chain (headers_of r.classes) class))

-- the class has its field constructor as its last method, or none
pub data AddsMethods (r : Rewriting) (written : WrittenMethods) (file : ClassFile) (pool : Constants)
    : Constants → List Method → Type 0 where
  adds_none : ¬ IsMade r written (header_of file).name
      → AddsMethods r written file pool pool []
  adds_one : {grown : Constants} {method : Method}
      → IsMade r written (header_of file).name
      → grow 65535 pool (constructor_method_needs (headers_of r.classes) r.constructor (header_of file).name) ≡ Some grown
      → IsConstructorMethod (headers_of r.classes) r.constructor (header_of file).name grown method
      → AddsMethods r written file pool grown (method ∷ [])

-- ---- classes

-- flags of private and final are cleared of fields, and no others
abbrev pub field_written : Replacement → ℕ → ℕ → Field → Field
field_written s class number field =
    record field { flags = without_flags field.flags (s.cleared class number) }

-- What is written of a class.
pub record IsClassWritten (r : Rewriting) (written : WrittenMethods) (s : Replacement) (class : ℕ)
    (file also : ClassFile)
    : Type 0 where
  pub methods : List Method
  pub are_methods : AreMethodsWritten r class zero file.methods methods
  pub code_pool : Constants
  pub before_constructors : IsPoolBefore r class file (length file.methods) code_pool
  pub pool : Constants
  pub added : List Method
  pub adds : AddsMethods r written file code_pool pool added
  pub is : also ≡ record file {
    pool = pool;
    fields = map_numbered (field_written s class) zero file.fields;
    methods = methods ++ added;
  }

abbrev pub AreClassesWritten :
    Rewriting → WrittenMethods → Replacement → ℕ → List ClassFile → List ClassFile → Type 0
AreClassesWritten r written s number [] [] = Unit {0}
AreClassesWritten r written s number (file ∷ files) (also ∷ others) =
    IsClassWritten r written s number file also
    × AreClassesWritten r written s (suc number) files others
AreClassesWritten r written s number files others = ⊥

-- The written folder. Field constructors stand in the classes of chains of what is made, and in no others.
pub record IsFolderWritten (r : Rewriting) (files : List ClassFile) : Type 0 where
  pub constructors : GivesConstructors r.classes r.constructor
  pub written : WrittenMethods
  pub rewritten : AreRewritten r written
  pub s : Replacement
  pub replaces : ReplacesByWritten r.classes r.links r.constructor written s
  pub no_more : (number : ℕ) (file : ClassFile)
      → slice_get r.classes.folder number ≡ Some file
      → ¬ IsMade r written (header_of file).name
      → s.added number ≡ []
  pub classes : AreClassesWritten r written s zero r.classes.folder files

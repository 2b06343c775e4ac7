-- What is asked of a class that is written of a class file so that it is a class file too (JVM Specification SE 8, 4.1 to 4.9): its pool has grown,
-- flags of private and final may be cleared of its fields, methods may have other code, and methods may be added. It is this project's profile.
use Rattle.std.specs.Prelude.{◌≡◌, ◌≤◌, ◌++◌, ℕ, List, [], ◌∷◌, length, map}
use Rattle.std.specs.List.{AllByRecursion}
use Rattle.class_model.specs.Checks.{AllHold}
use Rattle.class_model.specs.ClassOf.{methods_checks}
use Rattle.class_model.specs.Methods.{Home, home_of, method_signature, part_checks}
use Rattle.class_model.specs.Pool.{Constants, IsPool}
use Rattle.class_model.specs.Values.{IsValue, MethodIsParted, TagsStand}
use Rattle.class_model.specs.declared.class_file.Attr.{Attr}
use Rattle.class_model.specs.declared.class_file.Attr.TheVariants.{Raw, Code}
use Rattle.class_model.specs.declared.class_file.ClassFile.{ClassFile}
use Rattle.class_model.specs.declared.class_file.CodePart.{CodePart}
use Rattle.class_model.specs.declared.class_file.Method.{Method}
use Rattle.class_bytes.specs.Counts.{FitsCounts, FitsMethod, FitsPart}
use Rattle.class_bytes.specs.Numbers.{FitsNumbers, MethodNumbers, PartNumbers}
use Rattle.pool_bytes.specs.Items.{PoolFits}
use Rattle.type_rules.specs.Grown.{AreGrownFields}
use Rattle.written_files.specs.GrownPools.{AddsChecked}

-- A class file value whose lists and numbers fit their items, with its Code as parts, and whose checks hold: each that is read is one.
pub record IsFitting (class : ClassFile) : Type 0 where
  pub counts : FitsCounts class
  pub numbers : FitsNumbers class
  pub value : IsValue class

-- ---- methods

-- the Code attribute has another content, and stands in its place
abbrev pub with_code : CodePart → List Attr → List Attr
with_code part [] = []
with_code part (Raw name bytes ∷ others) = Raw name bytes ∷ with_code part others
with_code part (Code name old ∷ others) = Code name part ∷ with_code part others

-- The parts of a Code fit their items, and pass what is asked of those of the method, wherever they stand.
pub record IsCodeFor (home : Home) (method : Method) (part : CodePart) : Type 0 where
  pub fits : FitsPart part
  pub numbers : PartNumbers part
  pub passes : (at : ℕ) → AllHold (part_checks home method at part)

-- a method as it was, or with other code
pub data IsKeptMethod (home : Home) (old : Method) : Method → Type 0 where
  kept_as_it_was : IsKeptMethod home old old
  kept_with_code : (part : CodePart)
      → IsCodeFor home old part
      → IsKeptMethod home old (record old { attrs = with_code part old.attrs })

abbrev pub AreKeptMethods : Home → List Method → List Method → Type 0
AreKeptMethods home [] [] = Unit {0}
AreKeptMethods home (old ∷ olds) (new ∷ news) =
    IsKeptMethod home old new × AreKeptMethods home olds news
AreKeptMethods home olds news = ⊥

-- Methods that are added behind methods of these names and descriptors.
pub record AreAddedMethods (home : Home) (before : List Method) (added : List Method)
    : Type 0 where
  pub fits : AllByRecursion FitsMethod added
  pub numbers : AllByRecursion MethodNumbers added
  pub parted : AllByRecursion (MethodIsParted home.pool) added
  pub pass : (at : ℕ) → AllHold (methods_checks home (map method_signature before) at added)

-- ---- the whole

-- the constants that a pool grows by
pub record AreAddedConstants (major : ℕ) (pool grown : Constants) : Type 0 where
  pub checked : AddsChecked major pool grown
  pub fits : PoolFits checked.added
  pub tags : TagsStand major checked.added
  pub is_pool : IsPool grown

pub record IsWrittenClass (file also : ClassFile) : Type 0 where
  pub pool : AreAddedConstants file.major file.pool also.pool
  pub fields : AreGrownFields file.fields also.fields
  pub kept : List Method
  pub are_kept : AreKeptMethods (home_of also) file.methods kept
  pub added : List Method
  pub are_added : AreAddedMethods (home_of also) file.methods added
  pub methods : also.methods ≡ kept ++ added
  pub few : length also.methods ≤ 65535
  pub rest : also
      ≡ record file { pool = also.pool; fields = also.fields; methods = also.methods }

-- What is asked of the sites of a flat code so that their objects may be kept in locals. It is this project's profile.
use Rattle.std.specs.Prelude.{◌≡◌, ◌<◌, ℕ, List, bytes_eq, slice_get, Some, IsTrue, ◌+◌}
use Rattle.std.specs.List.{AllByRecursion, list_any}
use Rattle.class_model.specs.Members.{FINAL, has}
use Rattle.class_model.specs.Pool.{constant_at}
use Rattle.class_model.specs.PoolChecks.{class_at}
use Rattle.class_model.specs.declared.class_file.ClassFile.{ClassFile}
use Rattle.class_model.specs.declared.instr.Instr.TheVariants.{New, PutField}
use Rattle.class_tree.specs.Headers.{Classes, headers_of}
use Rattle.class_tree.specs.Layouts.{chain}
use Rattle.expanded_code.specs.Candidates.{IsCandidate}
use Rattle.expanded_code.specs.ExpandAnswers.{IsNoHost}
use Rattle.flow_code.specs.FlatCode.{FlatCode, point_at}
use Rattle.flow_code.specs.declared.point.FlatInstr.TheVariants.{Of}
use Rattle.flow_code.specs.declared.point.Point.{Point}
use Rattle.flow_code.specs.declared.point.Site.{Site}
use Rattle.member_link.specs.DeclaredMembers.{Declared}
use Rattle.member_link.specs.FieldConstructors.{field_types}
use Rattle.member_link.specs.Fields.{FindsField}
use Rattle.member_link.specs.References.{Reference}
use Rattle.member_link.specs.Signatures.{reference_of}

-- a site is a new of its class, which is a candidate, and its fields are those of the class's chain
pub record IsSite (classes : Classes) (flat : FlatCode) (site : Site) : Type 0 where
  pub point : Point
  pub there : point_at flat site.at ≡ Some point
  pub class : ℕ
  pub index : ℕ
  pub is_new : point.instr ≡ Of class (New index)
  pub file : ClassFile
  pub of_class : slice_get classes.folder class ≡ Some file
  pub named : class_at file.pool index ≡ Some site.class
  pub candidate : IsCandidate classes site.class
  pub fields : site.fields ≡ field_types (headers_of classes) site.class

-- a point stores into a final field of the chain of a candidate class
pub record StoresFinal (classes : Classes) (flat : FlatCode) (field : Declared) : Type 0 where
  pub number : ℕ
  pub point : Point
  pub there : point_at flat number ≡ Some point
  pub class : ℕ
  pub index : ℕ
  pub is_put : point.instr ≡ Of class (PutField index)
  pub file : ClassFile
  pub of_class : slice_get classes.folder class ≡ Some file
  pub reference : Reference
  pub names : reference_of file.pool (constant_at file.pool index) ≡ Some reference
  pub finds : FindsField (headers_of classes) reference.class reference.name reference.desc
      (Some field)
  pub final : IsTrue (has field.member.flags FINAL)

-- The host may be rewritten, and sites increase by point. Where the code stores into a final field of a candidate's chain, it has a site of a
-- class whose chain has the field's class: so the field's flag is cleared for flat code and written code alike.
pub record HasCandidateSites (classes : Classes) (flat : FlatCode) : Type 0 where
  pub host : ¬ IsNoHost classes flat.host
  pub sites : AllByRecursion (IsSite classes flat) flat.sites
  pub increase : (number : ℕ) (one next : Site)
      → slice_get flat.sites number ≡ Some one
      → slice_get flat.sites (number + 1) ≡ Some next
      → one.at < next.at
  pub finals : (field : Declared) (candidate : List ℕ)
      → StoresFinal classes flat field
      → IsCandidate classes candidate
      → IsTrue (list_any (bytes_eq field.class) (chain (headers_of classes) candidate))
      → (of : ℕ) × (site : Site)
      × (slice_get flat.sites of ≡ Some site)
      × IsTrue (list_any (bytes_eq field.class) (chain (headers_of classes) site.class))

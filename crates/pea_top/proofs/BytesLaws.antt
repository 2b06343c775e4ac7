-- What the laws of class files and headers say of bytes that are refused.
use Rattle.std.proofs.Common.{◌≡◌, ℕ, List, Result, Ok, ap}
use Rattle.class_model.specs.Checks.{Fault}
use Rattle.class_model.specs.ClassOf.{ClassOf, FirstFault, IsOtherVersion}
use Rattle.class_model.specs.Cutting.{Rest, Version}
use Rattle.class_model.specs.Header.{FirstHeaderFault, HeaderOf, IsNoLibraryVersion}
use Rattle.class_model.specs.declared.class_file.ClassFile.{ClassFile}
use Rattle.class_model.specs.declared.header.Header.{Header}
use Rattle.host_tree.specs.Host.{Bytes}
use Rattle.pea_top.specs.Answer.{Refusal, broken, other_version, IsRefusedClass, IsRefusedHeader}
use Rattle.pea_top.proofs.FirstRefused.{IsOneRefusal}
use Rattle.pea_top.proofs.FolderValues.{IsOneOf}

-- what class_model says of class files
pub record ClassLaws : Type 0 where
  pub one_class : (bytes : List ℕ) (one other : ClassFile) → ClassOf bytes one → ClassOf bytes other → one ≡ other
  pub one_fault : (bytes : List ℕ) (one other : Fault) → FirstFault bytes one → FirstFault bytes other → one ≡ other
  pub no_fault : (bytes : List ℕ) (class : ClassFile) (f : Fault) → ClassOf bytes class → ¬ FirstFault bytes f
  pub no_other : (bytes : List ℕ) (version : Version) → IsOtherVersion bytes version → ((class : ClassFile) → ¬ ClassOf bytes class) × ((f : Fault) → ¬ FirstFault bytes f)

-- what class_bytes says of headers
pub record HeaderLaws : Type 0 where
  pub one_header : (bytes : List ℕ) (one other : Header) → HeaderOf bytes one → HeaderOf bytes other → one ≡ other
  pub one_fault : (bytes : List ℕ) (one other : Fault) → FirstHeaderFault bytes one → FirstHeaderFault bytes other → one ≡ other
  pub one_version : (bytes : List ℕ) (one other : Version) → IsNoLibraryVersion bytes one → IsNoLibraryVersion bytes other → one ≡ other
  pub no_fault : (bytes : List ℕ) (header : Header) (f : Fault) → HeaderOf bytes header → ¬ FirstHeaderFault bytes f
  pub no_other : (bytes : List ℕ) (header : Header) (v : Version) → HeaderOf bytes header → ¬ IsNoLibraryVersion bytes v
  pub other_no_fault : (bytes : List ℕ) (v : Version) (f : Fault) → IsNoLibraryVersion bytes v → ¬ FirstHeaderFault bytes f

-- a head gives one version
same_version : (head : Result (Version × Rest) Fault) (v w : Version) (after other_after : Rest) → head ≡ Ok (v, after) → head ≡ Ok (w, other_after) → v ≡ w
same_version head v w after other_after h i =
    let both : (v, after) ≡ (w, other_after) = cc (h, i) in
    ap (λ (pair : Version × Rest). pair.0) both

module _ (laws : ClassLaws) where
  pub one_class : IsOneOf ClassOf
  one_class = record { one = laws.one_class }

  by_refusal : (bytes : Bytes) (why other : Refusal) → IsRefusedClass bytes why → IsRefusedClass bytes other → why ≡ other
  by_refusal bytes (broken f) (broken g) h i = ap broken (laws.one_fault bytes f g h i)
  by_refusal bytes (broken f) (other_version w) h i = absurd ((laws.no_other bytes w i).1 f h)
  by_refusal bytes (other_version v) (broken g) h i = absurd ((laws.no_other bytes v h).1 g i)
  by_refusal bytes (other_version v) (other_version w) h i = ap other_version (same_version _ v w h.rest i.rest h.head i.head)

  pub one_class_refusal : IsOneRefusal IsRefusedClass
  one_class_refusal = record { one = by_refusal }

  pub class_not_refused : (bytes : Bytes) (class : ClassFile) (why : Refusal) → ClassOf bytes class → ¬ IsRefusedClass bytes why
  class_not_refused bytes class (broken f) read refused = laws.no_fault bytes class f read refused
  class_not_refused bytes class (other_version v) read refused = (laws.no_other bytes v refused).0 class read

module _ (laws : HeaderLaws) where
  pub one_header : IsOneOf HeaderOf
  one_header = record { one = laws.one_header }

  by_header_refusal : (bytes : Bytes) (why other : Refusal) → IsRefusedHeader bytes why → IsRefusedHeader bytes other → why ≡ other
  by_header_refusal bytes (broken f) (broken g) h i = ap broken (laws.one_fault bytes f g h i)
  by_header_refusal bytes (broken f) (other_version w) h i = absurd (laws.other_no_fault bytes w f i h)
  by_header_refusal bytes (other_version v) (broken g) h i = absurd (laws.other_no_fault bytes v g h i)
  by_header_refusal bytes (other_version v) (other_version w) h i = ap other_version (laws.one_version bytes v w h i)

  pub one_header_refusal : IsOneRefusal IsRefusedHeader
  one_header_refusal = record { one = by_header_refusal }

  pub header_not_refused : (bytes : Bytes) (header : Header) (why : Refusal) → HeaderOf bytes header → ¬ IsRefusedHeader bytes why
  header_not_refused bytes header (broken f) read refused = laws.no_fault bytes header f read refused
  header_not_refused bytes header (other_version v) read refused = laws.no_other bytes header v read refused

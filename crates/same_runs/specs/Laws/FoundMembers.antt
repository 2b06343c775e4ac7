-- Members that look-ups find, in a program's classes: an instance initialiser is declared by the class that is named, a field stands where it is declared,
-- and a field that programs that are the same both find is static in both or in none.
use Rattle.std.proofs.Common.{◌≡◌, ◌⊎◌, ℕ, true, List, [], ◌∷◌, bytes_eq, codes, Option, Some, None, option_map, IsSome, refl, sym, ap, ◌∙◌, inl, inr}
use Rattle.std.specs.Prelude.{option_and_then}
use Rattle.std.proofs.lemmas.Option.{none-some, same_Some}
use Rattle.std.proofs.lemmas.Slice.Eq.{bytes_eq-Decides}
use Rattle.class_model.specs.Members.{STATIC, has}
use Rattle.class_model.specs.Names.{init}
use Rattle.class_model.specs.declared.header.Header.{Header}
use Rattle.class_model.specs.declared.header.Member.{Member}
use Rattle.class_tree.specs.Headers.{Headers, Name, class_named}
use Rattle.class_tree.specs.Hierarchy.{IsHierarchy}
use Rattle.member_link.specs.DeclaredMembers.{Declared, declared, own_method}
use Rattle.member_link.specs.Fields.{FindsField}
use Rattle.member_link.specs.FoundAbove.{IsFieldAbove}
use Rattle.member_link.specs.Laws.OwnMembers.{own_of_declared}
use Rattle.member_link.specs.Machine.Links.{AreLinksOf, reference_to}
use Rattle.member_link.specs.Machine.Programs.{Links, Program, field_of, first_member, has_flag, headers_in, method_of}
use Rattle.member_link.specs.Methods.{FindsMethod, initialiser, of_array, of_class, polymorphic}
use Rattle.member_link.specs.References.{Reference}
use Rattle.same_runs.specs.SamePrograms.{SamePrograms}
use Rattle.same_runs.specs.Laws.Programs.{same_static_field}

-- ---- what the laws of fields say

pub record FieldLaws : Type 0 where
  pub above : (headers : Headers) (class : Name) (name desc : List ℕ) (field : Declared)
      → IsHierarchy headers
      → FindsField headers class name desc (Some field)
      → IsFieldAbove headers class name desc field
  pub one : (headers : Headers) (class : Name) (name desc : List ℕ) (one other : Option Declared)
      → FindsField headers class name desc one
      → FindsField headers class name desc other
      → one ≡ other

-- ---- instance initialisers

-- one that is found is declared by the class that is named
own_found : {h : Headers} {class : Name} {name desc : List ℕ} {found : Option Declared} → FindsMethod h class name desc found
    → name ≡ init → found ≡ own_method h class name desc
own_found (initialiser is) same = refl
own_found {name = name} (polymorphic p) same = absurd (by p.1) where
  by : (name ≡ codes "invoke") ⊎ (name ≡ codes "invokeExact") → ⊥
  by (inl e) = let no : bytes_eq init (codes "invoke") ≡ true = (bytes_eq-Decides init (codes "invoke")).1 (sym same ∙ e) in cc
  by (inr e) = let no : bytes_eq init (codes "invokeExact") ≡ true = (bytes_eq-Decides init (codes "invokeExact")).1 (sym same ∙ e) in cc
own_found (of_array found other is finds) same = absurd (other same)
own_found (of_class found other flat single finds) same = absurd (other same)

declared_first : (r : Reference) (members : List Member) → declared r.name r.desc members ≡ first_member r members
declared_first r [] = refl
declared_first r (member ∷ members) = rw (declared_first r members) refl

pub initialiser_there : (P : Program) (r : Reference) (method : Declared)
    → r.name ≡ init
    → FindsMethod (headers_in P) r.class r.name r.desc (Some method)
    → IsSome (method_of P r)
initialiser_there P r method name finds = by (class_named (headers_in P) r.class) refl where
  own : own_method (headers_in P) r.class r.name r.desc ≡ Some method
  own = sym (own_found finds name)

  of_member : (header : Header) → class_named (headers_in P) r.class ≡ Some header
      → (found : Option Member) → declared r.name r.desc header.methods ≡ found
      → IsSome (method_of P r)
  of_member header e None d =
      let no : None ≡ Some method = rw (d) at (rw (e) at own) in
      absurd (none-some method no)
  of_member header e (Some member) d =
      let first : first_member r header.methods ≡ Some member = sym (declared_first r header.methods) ∙ d in
      rw (e, first) refl

  by : (header : Option Header) → class_named (headers_in P) r.class ≡ header → IsSome (method_of P r)
  by None e = let no : None ≡ Some method = rw (e) at own in absurd (none-some method no)
  by (Some header) e = of_member header e (declared r.name r.desc header.methods) refl

-- ---- fields

module _ (laws : FieldLaws) (P : Program) (hierarchy : IsHierarchy (headers_in P)) where
  -- a field that is found is that of the reference to it
  pub field_there : (reference : Reference) (found : Declared)
      → FindsField (headers_in P) reference.class reference.name reference.desc (Some found)
      → field_of P (reference_to found) ≡ Some found.member
  field_there reference found finds =
      let above = laws.above (headers_in P) reference.class reference.name reference.desc found hierarchy finds in
      let named = own_of_declared reference.name reference.desc above.header.fields found.member above.declares in
      let own : first_member (reference_to found) above.header.fields ≡ Some found.member =
      sym (declared_first (reference_to found) above.header.fields)
      ∙ ap (λ (name : List ℕ). declared name found.member.desc above.header.fields) named.3
      ∙ ap (λ (desc : List ℕ). declared reference.name desc above.header.fields) named.4
      ∙ above.declares in
      ap (option_and_then (λ (header : Header). first_member (reference_to found) header.fields)) above.found ∙ own

  -- and the one that is linked
  pub field_linked : AreLinksOf (headers_in P) P.links → (reference : Reference) (found : Declared)
      → FindsField (headers_in P) reference.class reference.name reference.desc (Some found)
      → P.links.field reference ≡ Some (reference_to found)
  field_linked linked reference found finds =
      let link = linked.field reference in
      link.same
      ∙ ap (option_map reference_to)
      (laws.one (headers_in P) reference.class reference.name reference.desc link.found (Some found) link.finds finds)

-- Programs that are the same find fields that are static in both, or in none.
pub static_in_both : (laws : FieldLaws) {P Q : Program} → SamePrograms P Q
    → IsHierarchy (headers_in P)
    → AreLinksOf (headers_in P) P.links
    → IsHierarchy (headers_in Q)
    → AreLinksOf (headers_in Q) Q.links
    → (reference : Reference) (one other : Declared)
    → FindsField (headers_in P) reference.class reference.name reference.desc (Some one)
    → FindsField (headers_in Q) reference.class reference.name reference.desc (Some other)
    → has other.member.flags STATIC ≡ has one.member.flags STATIC
static_in_both laws {P = P} {Q = Q} same hierarchy links hierarchy_also links_also reference one other finds finds_also =
    sym (ap (λ (member : Option Member). has_flag member STATIC) (field_there laws Q hierarchy_also reference other finds_also))
    ∙ ap (λ (r : Reference). has_flag (field_of Q r) STATIC) (sym one_reference)
    ∙ same_static_field same (reference_to one)
    ∙ ap (λ (member : Option Member). has_flag member STATIC) (field_there laws P hierarchy reference one finds) where
      one_reference : reference_to one ≡ reference_to other
      one_reference =
          same_Some (reference_to one) (reference_to other)
          (sym (field_linked laws P hierarchy links reference one finds)
          ∙ ap (λ (l : Links). l.field reference) (sym same.links)
          ∙ field_linked laws Q hierarchy_also links_also reference other finds_also)

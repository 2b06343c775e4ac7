-- What the declarations of a folder's classes are asked to be linked (JVM Specification SE 8, 5.3.5 and 5.4.5): class by
-- class, the class itself and then member by member.
use Rattle.std.specs.Prelude.{◌≡◌, List, [], ◌∷◌, ◌++◌, Some, IsTrue}
use Rattle.std.specs.List.{AllByRecursion}
use Rattle.class_model.specs.Checks.{Check, asked_each}
use Rattle.class_model.specs.Members.{has, FINAL}
use Rattle.class_model.specs.declared.header.Header.{Header}
use Rattle.class_model.specs.declared.header.Member.{Member}
use Rattle.class_tree.specs.Headers.{Name, Headers, named, IsThere}
use Rattle.class_tree.specs.Problems.{check, Problem}
use Rattle.class_tree.specs.Steps.{supers}
use Rattle.class_tree.specs.declared.fault.LinkRule.{LinkRule}
use Rattle.class_tree.specs.declared.fault.LinkRule.TheVariants as rules
use Rattle.member_link.specs.Access.{IsClassAccessible}
use Rattle.member_link.specs.DeclaredMembers.{Declared, declared_by, declared}
use Rattle.member_link.specs.Overriding.{Overrides}
use Rattle.member_link.specs.References.{FieldTypeNames, DescriptorNames}

-- where a check is asked: a member of a class
pub record Site : Type 0 where
  pub class : Name
  pub member : Member

-- what is asked of a member
abbrev pub asked : Site → LinkRule → Type 0 → Check Problem
asked site rule holds = record {
  fault = record { class = site.class; member = site.member; rule = rule };
  holds = holds;
}

-- the method is one of a class of the folder
pub record IsFolderMethod (headers : Headers) (method : Declared) : Type 0 where
  pub header : Header
  pub found : named method.class headers.folder ≡ Some header
  pub declares : declared method.member.name method.member.desc header.methods ≡ Some method.member

abbrev pub OverridesNoFinal : Headers → Declared → Type 0
OverridesNoFinal headers method =
    (high : Declared)
    → IsFolderMethod headers high
    → IsTrue (has high.member.flags FINAL)
    → ¬ Overrides headers method high

abbrev pub site_of : Header → Member → Site
site_of header member = record { class = header.name; member = member }

abbrev pub declared_field_checks : Headers → Header → Member → List (Check Problem)
declared_field_checks headers header field =
    asked (site_of header field) rules.Missing (FieldTypeNames (IsThere headers) field.desc) ∷ []

abbrev pub declared_method_checks : Headers → Header → Member → List (Check Problem)
declared_method_checks headers header method =
    asked (site_of header method) rules.Missing (DescriptorNames (IsThere headers) method.desc)
    ∷ asked (site_of header method) rules.FinalOverridden
    (OverridesNoFinal headers (declared_by header.name method))
    ∷ []

-- the superclass and the interfaces are accessible; the classes that descriptors name are there; no final method of the
-- folder is overridden
abbrev pub declaration_checks : Headers → Header → List (Check Problem)
declaration_checks headers header =
    check header.name rules.NoAccess
    (AllByRecursion (IsClassAccessible headers header.name) (supers header))
    ∷ asked_each (declared_field_checks headers header) header.fields
    ++ asked_each (declared_method_checks headers header) header.methods

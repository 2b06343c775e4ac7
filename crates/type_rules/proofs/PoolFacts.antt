-- What the checks of a class file say of the descriptors that its constants name.
use Rattle.std.proofs.Common.{◌≡◌, ◌+◌, ℕ, zero, suc, List, [], ◌∷◌, length, Option, Some, None, IfSome, option_and_then, option_map, refl, sym, ap, subst}
use Rattle.class_model.specs.Checks.{AllHold}
use Rattle.class_model.specs.Laws.Checks.{first_holds, others_hold}
use Rattle.class_model.specs.Laws.ClassFiles.{parts_hold}
use Rattle.class_model.specs.Pool.{Constants, constant_at}
use Rattle.class_model.specs.PoolChecks.{IsMethodDescriptor, class_at, constant_checks, descriptor_at, entries_checks, methodref_checks, name_and_type_of, name_at, utf8_at}
use Rattle.class_model.specs.Spelling.{constant_bytes}
use Rattle.class_model.specs.declared.class_file.ClassFile.{ClassFile}
use Rattle.class_model.specs.declared.pool.Const.{Const}
use Rattle.class_model.specs.declared.pool.Const.TheVariants as consts
use Rattle.class_tree.specs.Headers.{IsClassFile}
use Rattle.member_link.specs.References.{Reference, reference_at}
use Rattle.member_link.specs.Signatures.{reference_of}
use Rattle.type_rules.specs.Inner.Signatures.{IsCallable, IsMemberDescriptor}

-- ---- each constant is asked

abbrev pub IsAsked : ℕ → Constants → Const → Type 0
IsAsked major pool constant = (at : ℕ) × AllHold (constant_checks major pool at constant)

pub asked : (major : ℕ) (pool : Constants) (at : ℕ) (entries : Constants) (index : ℕ) (constant : Const) → AllHold (entries_checks major pool at entries) → constant_at entries index ≡ Some constant → IsAsked major pool constant
asked major pool at [] index constant hold e = absurd cc
asked major pool at (None ∷ entries) zero constant hold e = absurd cc
asked major pool at (None ∷ entries) (suc index) constant hold e = asked major pool at entries index constant hold e
asked major pool at (Some own ∷ entries) zero constant hold e =
    let same : own ≡ constant = cc in
    (at, subst (λ (c : Const). AllHold (constant_checks major pool at c)) same (first_holds (constant_checks major pool at own) (entries_checks major pool (at + length (constant_bytes own)) entries) hold))
asked major pool at (Some own ∷ entries) (suc index) constant hold e =
    asked major pool (at + length (constant_bytes own)) entries index constant (others_hold (constant_checks major pool at own) (entries_checks major pool (at + length (constant_bytes own)) entries) hold) e

constant_asked : (class : ClassFile) (index : ℕ) (constant : Const) → IsClassFile class → constant_at class.pool index ≡ Some constant → (major : ℕ) × IsAsked major class.pool constant
constant_asked class index constant is e =
    let pool : Constants = is.cut.pool in
    let same : class.pool ≡ pool = ap (λ (c : ClassFile). c.pool) is.is in
    let there : constant_at pool index ≡ Some constant = subst (λ (p : Constants). constant_at p index ≡ Some constant) same e in
    (is.cut.major, subst (λ (p : Constants). IsAsked is.cut.major p constant) (sym same) (asked is.cut.major pool 10 pool index constant (parts_hold is.cut is.holds).pool there))

-- ---- references

module _ (pool : Constants) where
  parts_described : (at member : ℕ) (reference : Reference) (name_of text desc : Option (List ℕ)) → class_at pool at ≡ name_of → name_at pool member ≡ text → descriptor_at pool member ≡ desc → reference_at pool at member ≡ Some reference
      → desc ≡ Some reference.desc
  parts_described at member reference (Some name_of) (Some text) (Some desc) is_name is_text is_desc e =
      let h : Some (record { class = name_of; name = text; desc = desc }) ≡ Some reference = rw (is_name, is_text, is_desc) at e in
      ap (λ (o : Option Reference). option_map (λ (r : Reference). r.desc) o) h
  parts_described at member reference None text desc is_name is_text is_desc e = absurd (cc (rw is_name at e))
  parts_described at member reference (Some name_of) None desc is_name is_text is_desc e = absurd (cc (rw (is_name, is_text) at e))
  parts_described at member reference (Some name_of) (Some text) None is_name is_text is_desc e = absurd (cc (rw (is_name, is_text, is_desc) at e))

  pub described : (at member : ℕ) (reference : Reference) → reference_at pool at member ≡ Some reference → descriptor_at pool member ≡ Some reference.desc
  described at member reference e = parts_described at member reference (class_at pool at) (name_at pool member) (descriptor_at pool member) refl refl refl e

-- ---- descriptors

some_text : (Holds : List ℕ → Type 0) (found : Option (List ℕ)) (text : List ℕ) → IfSome found Holds → found ≡ Some text → Holds text
some_text Holds found text holds e = subst (λ (t : Option (List ℕ)). IfSome t Holds) e holds

module _ (class : ClassFile) (is : IsClassFile class) where
  beside_a_name : (member : ℕ) (text : List ℕ) (constant : Option Const) → constant_at class.pool member ≡ constant → option_and_then (λ n. utf8_at class.pool n.1) (option_and_then name_and_type_of constant) ≡ Some text → IsMemberDescriptor text
  beside_a_name member text (Some (consts.NameAndType name desc)) at e =
      let asked = constant_asked class member (consts.NameAndType name desc) is at in
      some_text IsMemberDescriptor (utf8_at class.pool desc) text asked.1.1.1.1.0 e
  beside_a_name member text other at e = absurd cc

  pub member_descriptor : (member : ℕ) (text : List ℕ) → descriptor_at class.pool member ≡ Some text → IsMemberDescriptor text
  member_descriptor member text e = beside_a_name member text (constant_at class.pool member) refl e

  of_constant : (reference : Reference) (constant : Option Const) → reference_of class.pool constant ≡ Some reference → IsMemberDescriptor reference.desc
  of_constant reference (Some (consts.Fieldref at member)) e = member_descriptor member reference.desc (described class.pool at member reference e)
  of_constant reference (Some (consts.Methodref at member)) e = member_descriptor member reference.desc (described class.pool at member reference e)
  of_constant reference (Some (consts.InterfaceMethodref at member)) e = member_descriptor member reference.desc (described class.pool at member reference e)
  of_constant reference other e = absurd cc

  pub reference_descriptor : (index : ℕ) (reference : Reference) → Some reference ≡ reference_of class.pool (constant_at class.pool index) → IsMemberDescriptor reference.desc
  reference_descriptor index reference e = of_constant reference (constant_at class.pool index) (sym e)

  -- a method's descriptor
  of_method : (at member : ℕ) (reference : Reference) (index : ℕ) (constant : Const) → constant_at class.pool index ≡ Some constant → ((major place : ℕ) → constant_checks major class.pool place constant ≡ methodref_checks place class.pool at member)
      → reference_at class.pool at member ≡ Some reference → IsMethodDescriptor reference.desc
  of_method at member reference index constant there is_method e =
      let asked = constant_asked class index constant is there in
      let hold = subst AllHold (is_method asked.0 asked.1.0) asked.1.1 in
      some_text IsMethodDescriptor (descriptor_at class.pool member) reference.desc hold.1.1.0 (described class.pool at member reference e)

  of_callable : (reference : Reference) (index : ℕ) (constant : Option Const) → constant_at class.pool index ≡ constant → IsCallable constant → reference_of class.pool constant ≡ Some reference → IsMethodDescriptor reference.desc
  of_callable reference index (Some (consts.Methodref at member)) there callable e = of_method at member reference index (consts.Methodref at member) there (λ major place. refl) e
  of_callable reference index (Some (consts.InterfaceMethodref at member)) there callable e = of_method at member reference index (consts.InterfaceMethodref at member) there (λ major place. refl) e
  of_callable reference index other there callable e = absurd callable

  pub method_descriptor : (index : ℕ) (reference : Reference) → IsCallable (constant_at class.pool index) → Some reference ≡ reference_of class.pool (constant_at class.pool index) → IsMethodDescriptor reference.desc
  method_descriptor index reference callable e = of_callable reference index (constant_at class.pool index) refl callable (sym e)

  -- a call site's
  pub site_descriptor : (index bootstrap member : ℕ) (text : List ℕ) → constant_at class.pool index ≡ Some (consts.InvokeDynamic bootstrap member) → descriptor_at class.pool member ≡ Some text → IsMethodDescriptor text
  site_descriptor index bootstrap member text there e =
      let asked = constant_asked class index (consts.InvokeDynamic bootstrap member) is there in
      some_text IsMethodDescriptor (descriptor_at class.pool member) text asked.1.1.1.1.0 e

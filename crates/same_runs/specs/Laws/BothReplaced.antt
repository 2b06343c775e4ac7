-- Two programs that are made of one: in both some methods run other code and flags of fields are cleared, and in the second instance
-- initialisers are added. The second is the same as the first but for these.
use Rattle.std.proofs.Common.{◌≡◌, ◌+◌, ℕ, zero, suc, List, [], ◌∷◌, ◌++◌, map, slice_get, Some, refl, sym, ap, subst, ◌∙◌, arith}
use Rattle.std.specs.List.{AllByRecursion}
use Rattle.std.proofs.lemmas.List.{append-nil, map-append}
use Rattle.class_model.specs.Laws.Lists.{AllByRecursion-weaker}
use Rattle.class_model.specs.Names.{init}
use Rattle.class_model.specs.declared.header.Member.{Member}
use Rattle.member_link.specs.Machine.Programs.{Program, RunClass, RunMethod}
use Rattle.member_link.specs.Machine.Replaced.{Replacement, field_cleared, map_numbered, method_replaced, replaced, replaced_class}
use Rattle.same_runs.specs.SamePrograms.{IsAdded, SameClass, SameClasses, SameFields, SameMethods, SamePrograms}
use Rattle.same_runs.specs.Laws.Handled.{same_handled}
use Rattle.same_runs.specs.Laws.ReplacedPrograms.{ReplacesAlike, body_code, body_member, members_same, replaced_same, static_stays}

module _ (r s : Replacement) where
  both_fields : (class number : ℕ) (fields : List Member)
      → SameFields (map_numbered (field_cleared r class) number fields) (map_numbered (field_cleared s class) number fields)
  both_fields class number [] = tt
  both_fields class number (field ∷ fields) = (
    refl,
    refl,
    static_stays field.flags (s.cleared class number) ∙ sym (static_stays field.flags (r.cleared class number)),
    both_fields class (suc number) fields,
  )

  both_methods : (class number : ℕ) (methods : List RunMethod)
      → SameMethods (map_numbered (method_replaced r class) number methods) (map_numbered (method_replaced s class) number methods)
  both_methods class number [] = tt
  both_methods class number (method ∷ methods) =
      let one = r.body (record { class = class; method = number }) in
      let other = s.body (record { class = class; method = number }) in (
        body_member method other ∙ sym (body_member method one),
        body_code method other ∙ sym (body_code method one),
        both_methods class (suc number) methods,
      )

  -- an initialiser that no method of a class has is none of the class with other codes
  new_still : (class number : ℕ) (method : RunMethod) (methods : List RunMethod)
      → AllByRecursion (λ (other : RunMethod). other.member.name ≡ init → other.member.desc ≡ method.member.desc → ⊥) methods
      → AllByRecursion (λ (other : RunMethod). other.member.name ≡ init → other.member.desc ≡ method.member.desc → ⊥)
      (map_numbered (method_replaced r class) number methods)
  new_still class number method [] all = tt
  new_still class number method (other ∷ methods) all =
      let same = body_member other (r.body (record { class = class; method = number })) in (
        λ is_init is_desc.
            all.0 (ap (λ (m : Member). m.name) (sym same) ∙ is_init) (ap (λ (m : Member). m.desc) (sym same) ∙ is_desc),
        new_still class (suc number) method methods all.1,
      )

module _ {P : Program} {r s : Replacement} (alike : ReplacesAlike P r) (alike_also : ReplacesAlike P s)
    (adds_none : (number : ℕ) → r.added number ≡ []) where
  -- what is added to a class is added to the class with other codes
  still_added : (number : ℕ) (class : RunClass) (method : RunMethod) → IsAdded P class method
      → IsAdded (replaced P r) (replaced_class r number class) method
  still_added number class method added = record {
    is_init = added.is_init;
    is_new =
        subst (λ (more : List RunMethod). AllByRecursion
        (λ (other : RunMethod). other.member.name ≡ init → other.member.desc ≡ method.member.desc → ⊥)
        (map_numbered (method_replaced r number) zero class.methods ++ more)) (sym (adds_none number))
        (subst (AllByRecursion (λ (other : RunMethod). other.member.name ≡ init → other.member.desc ≡ method.member.desc → ⊥))
        (sym (append-nil (map_numbered (method_replaced r number) zero class.methods)))
        (new_still r s number zero method class.methods added.is_new));
    unhandled = same_handled (replaced_same alike) class.header.name method.member.desc ∙ added.unhandled;
  }

  class_both : (number : ℕ) (class : RunClass) → slice_get P.classes number ≡ Some class
      → SameClass (replaced P r) (replaced_class r number class) (replaced_class s number class)
  class_both number class is = record {
    name = refl;
    flags = refl;
    superclass = refl;
    interfaces = refl;
    fields = both_fields r s number zero class.header.fields;
    starts = refl;
    plain_starts = alike.plain_starts number class is;
    handles = refl;
    members = members_of r alike;
    same = map_numbered (method_replaced s number) zero class.methods;
    added = s.added number;
    methods = refl;
    header_methods = sym (members_of s alike_also);
    are_same =
        subst (λ (more : List RunMethod). SameMethods (map_numbered (method_replaced r number) zero class.methods ++ more)
        (map_numbered (method_replaced s number) zero class.methods)) (sym (adds_none number))
        (subst (λ (methods : List RunMethod). SameMethods methods (map_numbered (method_replaced s number) zero class.methods))
        (sym (append-nil (map_numbered (method_replaced r number) zero class.methods)))
        (both_methods r s number zero class.methods));
    are_added =
        AllByRecursion-weaker (IsAdded P class) (IsAdded (replaced P r) (replaced_class r number class))
        (still_added number class) (s.added number) (alike_also.are_added number class is);
    of_interface = alike_also.of_interface number class is;
  } where
    members_of : (q : Replacement) → ReplacesAlike P q
        → map (λ (method : RunMethod). method.member) (map_numbered (method_replaced q number) zero class.methods ++ q.added number)
        ≡ class.header.methods ++ map (λ (method : RunMethod). method.member) (q.added number)
    members_of q alike_q =
        map-append (λ (method : RunMethod). method.member) (map_numbered (method_replaced q number) zero class.methods) (q.added number)
        ∙ ap (λ (members : List Member). members ++ map (λ (method : RunMethod). method.member) (q.added number))
        (members_same q number zero class.methods ∙ alike_q.members number class is)

  classes_both : (number : ℕ) (classes : List RunClass)
      → ((later : ℕ) (class : RunClass)
      → slice_get classes later ≡ Some class
      → SameClass (replaced P r) (replaced_class r (number + later) class) (replaced_class s (number + later) class))
      → SameClasses (replaced P r) (map_numbered (replaced_class r) number classes) (map_numbered (replaced_class s) number classes)
  classes_both number [] each = tt
  classes_both number (class ∷ classes) each = (
    subst (λ (n : ℕ). SameClass (replaced P r) (replaced_class r n class) (replaced_class s n class)) (omega arith) (each zero class refl),
    classes_both (suc number) classes (λ later found is.
        subst (λ (n : ℕ). SameClass (replaced P r) (replaced_class r n found) (replaced_class s n found)) (omega arith)
        (each (suc later) found is)),
  )

  -- The one replacement adds nothing: then what the other makes is the same as what it makes.
  pub both_replaced_same : SamePrograms (replaced P r) (replaced P s)
  both_replaced_same = record {
    classes =
        classes_both zero P.classes (λ later class is.
        subst (λ (n : ℕ). SameClass (replaced P r) (replaced_class r n class) (replaced_class s n class)) (omega arith)
        (class_both later class is));
    library = refl;
    links = refl;
    no_init = alike.no_init;
  }

-- The classes of a program in which flags of fields are cleared and instance initialisers are added have grown.
use Rattle.std.proofs.Common.{◌≡◌, ℕ, zero, suc, List, [], ◌∷◌, map, refl, sym, subst}
use Rattle.std.specs.List.{AllByRecursion}
use Rattle.class_model.specs.Names.{init}
use Rattle.class_model.specs.declared.header.Header.{Header}
use Rattle.class_model.specs.declared.header.Member.{Member}
use Rattle.class_tree.specs.Alike.{AreFieldsAlike}
use Rattle.member_link.specs.Machine.Programs.{Program, RunClass, RunMethod, headers_in}
use Rattle.member_link.specs.Machine.Replaced.{Replacement, field_cleared, map_numbered, replaced, replaced_class}
use Rattle.type_rules.specs.Grown.{AddsNewInitialisers, AreAllGrown, AreGrownHeaders, AreOpened, IsGrownHeader, IsNewInitialiser}

module _ (r : Replacement) where
  fields_alike : (class number : ℕ) (fields : List Member) → AreFieldsAlike fields (map_numbered (field_cleared r class) number fields)
  fields_alike class number [] = tt
  fields_alike class number (field ∷ fields) = (record { same_name = refl; same_desc = refl }, fields_alike class (suc number) fields)

  fields_opened : (class number : ℕ) (fields : List Member) → AreOpened fields (map_numbered (field_cleared r class) number fields)
  fields_opened class number [] = tt
  fields_opened class number (field ∷ fields) = (record { cleared = r.cleared class number; flags = refl }, fields_opened class (suc number) fields)

  are_init : (header : Header) (added : List RunMethod) → AllByRecursion (λ method. IsNewInitialiser header method.member) added
      → AllByRecursion (λ (member : Member). member.name ≡ init) (map (λ (method : RunMethod). method.member) added)
  are_init header [] new = tt
  are_init header (method ∷ added) new = (new.0.is_init, are_init header added new.1)

  are_new : (header : Header) (added : List RunMethod) → AllByRecursion (λ method. IsNewInitialiser header method.member) added
      → AllByRecursion (IsNewInitialiser header) (map (λ (method : RunMethod). method.member) added)
  are_new header [] new = tt
  are_new header (method ∷ added) new = (new.0, are_new header added new.1)

  class_grown : (number : ℕ) (class : RunClass) → AllByRecursion (λ method. IsNewInitialiser class.header method.member) (r.added number)
      → IsGrownHeader class.header (replaced_class r number class).header
  class_grown number class new = record {
    alike = record {
      same_name = refl;
      same_flags = refl;
      same_super = refl;
      same_interfaces = refl;
      fields = fields_alike number zero class.header.fields;
      added = map (λ (method : RunMethod). method.member) (r.added number);
      methods = refl;
      initialisers = are_init class.header (r.added number) new;
    };
    opened = fields_opened number zero class.header.fields;
    initialisers = are_new class.header (r.added number) new;
  }

  classes_grown : (number : ℕ) (classes : List RunClass) → AddsNewInitialisers r number classes
      → AreAllGrown (map (λ (class : RunClass). class.header) classes) (map (λ (class : RunClass). class.header) (map_numbered (replaced_class r) number classes))
  classes_grown number [] new = tt
  classes_grown number (class ∷ classes) new = (class_grown number class new.0, classes_grown (suc number) classes new.1)

  -- where none is added
  adds_none : ((class : ℕ) → r.added class ≡ []) → (number : ℕ) (classes : List RunClass) → AddsNewInitialisers r number classes
  adds_none none number [] = tt
  adds_none none number (class ∷ classes) =
      (subst (AllByRecursion (λ (method : RunMethod). IsNewInitialiser class.header method.member)) (sym (none number)) tt, adds_none none (suc number) classes)

  pub replaced_grown : (P : Program) → AddsNewInitialisers r zero P.classes → AreGrownHeaders (headers_in P) (headers_in (replaced P r))
  replaced_grown P new = record { folder = classes_grown zero P.classes new; library = refl }

  pub cleared_grown : (P : Program) → ((class : ℕ) → r.added class ≡ []) → AreGrownHeaders (headers_in P) (headers_in (replaced P r))
  cleared_grown P none = replaced_grown P (adds_none none zero P.classes)

-- A program in which nothing is replaced is itself.
use Rattle.std.specs.Prelude.{◌≡◌, ◌+◌, ℕ, zero, suc, List, [], ◌∷◌, ◌++◌, map, bit_and}
use Rattle.std.proofs.Common.{refl, ap, ◌∙◌, arith}
use Rattle.std.proofs.lemmas.List.{append-nil}
use Rattle.std.specs.Int.Bits.{and_zero_r}
use Rattle.class_model.specs.Members.{PRIVATE, FINAL}
use Rattle.class_model.specs.declared.header.Member.{Member}
use Rattle.machine_laws.specs.Replacing.{ReplacesNothing}
use Rattle.member_link.specs.Machine.Programs.{Program, RunClass, RunMethod}
use Rattle.member_link.specs.Machine.Replaced.{Replacement, without_flags, map_numbered, field_cleared, with_body, method_replaced, replaced_class, replaced}

same_items : {A : Type 0} (change : ℕ → A → A) → ((number : ℕ) (item : A) → change number item ≡ item) → (number : ℕ) (items : List A) → map_numbered change number items ≡ items
same_items change same number [] = refl
same_items change same number (item ∷ items) = λ i. same number item i ∷ same_items change same (suc number) items i

nothing_cleared : (flags : ℕ) → without_flags flags 0 ≡ flags
nothing_cleared flags = let e : bit_and flags (bit_and 0 (PRIVATE + FINAL)) ≡ 0 = and_zero_r flags in rw e (omega arith)

module _ (r : Replacement) (none : ReplacesNothing r) where
  same_field : (class field : ℕ) (member : Member) → field_cleared r class field member ≡ member
  same_field class field member = ap (λ flags. record member { flags = flags }) (ap (without_flags member.flags) (none.cleared class field) ∙ nothing_cleared member.flags)

  same_method : (class number : ℕ) (method : RunMethod) → method_replaced r class number method ≡ method
  same_method class number method = ap (with_body method) (none.bodies (record { class = class; method = number }))

  same_class : (number : ℕ) (class : RunClass) → replaced_class r number class ≡ class
  same_class number class = λ i. record class {
    header = record class.header {
      fields = same_items (field_cleared r number) (same_field number) zero class.header.fields i;
      methods = (ap (λ added. class.header.methods ++ map (λ (method : RunMethod). method.member) added) (none.added number) ∙ append-nil class.header.methods) i;
    };
    methods = (ap (λ added. map_numbered (method_replaced r number) zero class.methods ++ added) (none.added number) ∙ (append-nil (map_numbered (method_replaced r number) zero class.methods) ∙ same_items (method_replaced r number) (same_method number) zero class.methods)) i;
  }

  pub nothing_replaced : (P : Program) → replaced P r ≡ P
  nothing_replaced P = ap (λ classes. record P { classes = classes }) (same_items (replaced_class r) same_class zero P.classes)

-- No more stores into fields are refused in classes that have grown.
use Rattle.std.proofs.Common.{◌≡◌, ◌∙◌, ◌&&◌, not, ℕ, Bool, true, false, cond, List, [], ◌∷◌, bytes_eq, Option, Some, None, refl, sym, ap}
use Rattle.std.specs.Prelude.{option_and_then}
use Rattle.std.proofs.lemmas.Bool.{false≢true}
use Rattle.class_model.specs.Members.{FINAL, has}
use Rattle.class_model.specs.declared.header.Header.{Header}
use Rattle.class_model.specs.declared.header.Member.{Member}
use Rattle.class_tree.specs.Headers.{Name}
use Rattle.member_link.specs.DeclaredMembers.{declared}
use Rattle.member_link.specs.Machine.FieldSteps.{is_barred}
use Rattle.member_link.specs.Machine.Programs.{Program, field_of, first_member, has_flag, headers_in, member_of}
use Rattle.member_link.specs.References.{Reference}
use Rattle.type_rules.proofs.Grown.Flags.{was_final}
use Rattle.type_rules.proofs.Grown.Headers.{Both, no_pair, a_pair, IsSameField, class_pair, header_fields}
use Rattle.type_rules.specs.Grown.{AreGrownHeaders, IsGrownHeader}

first_is : (r : Reference) (members : List Member) → first_member r members ≡ declared r.name r.desc members
first_is r [] = refl
first_is r (member ∷ members) = ap (λ (rest : Option Member). cond (member_of r member) (Some member) rest) (first_is r members)

final_was : {o p : Option Member} → Both IsSameField o p → has_flag p FINAL ≡ true → has_flag o FINAL ≡ true
final_was no_pair is = is
final_was (a_pair one other same) is = was_final one.flags same.opened.cleared (sym (ap (λ (flags : ℕ). has flags FINAL) same.opened.flags) ∙ is)

field_final : (r : Reference) {o p : Option Header} → Both IsGrownHeader o p → has_flag (option_and_then (λ (h : Header). first_member r h.fields) p) FINAL ≡ true
    → has_flag (option_and_then (λ (h : Header). first_member r h.fields) o) FINAL ≡ true
field_final r no_pair is = is
field_final r (a_pair old new grows) is =
    ap (λ (m : Option Member). has_flag m FINAL) (first_is r old.fields)
    ∙ final_was (header_fields old new grows r.name r.desc) (sym (ap (λ (m : Option Member). has_flag m FINAL) (first_is r new.fields)) ∙ is)

both_still : (one other inside : Bool) → (one ≡ true → other ≡ true) → (one && inside) ≡ true → (other && inside) ≡ true
both_still true other inside to is = ap (λ b. b && inside) (to refl) ∙ is
both_still false other inside to is = absurd (false≢true is)

pub bars_no_more : (P Q : Program) (field : Reference) (initialises : Option Name) → AreGrownHeaders (headers_in P) (headers_in Q)
    → is_barred Q field initialises ≡ true → is_barred P field initialises ≡ true
bars_no_more P Q field None grown is =
    both_still (has_flag (field_of Q field) FINAL) (has_flag (field_of P field) FINAL) true (field_final field (class_pair (headers_in P) (headers_in Q) grown field.class)) is
bars_no_more P Q field (Some class) grown is =
    both_still (has_flag (field_of Q field) FINAL) (has_flag (field_of P field) FINAL) (not (bytes_eq class field.class)) (field_final field (class_pair (headers_in P) (headers_in Q) grown field.class)) is

-- What the header at the place of a found member says of it.
use Rattle.std.proofs.Common.{◌≡◌, Some, slice_get, sym, ap, subst, ◌∙◌, inl, inr}
use Rattle.std.proofs.lemmas.Option.{same_Some}
use Rattle.class_model.specs.declared.header.Header.{Header}
use Rattle.class_tree.specs.Headers.{Name, Headers}
use Rattle.class_tree.specs.Order.{header_at}
use Rattle.class_tree.specs.Subtype.{IsArray}
use Rattle.member_link.specs.DeclaredMembers.{Declared}
use Rattle.member_link.specs.Found.{IsMemberFound}
use Rattle.member_link.specs.declared.found.Found.{Found}

pub record IsSeen (named : Name) (found : Found) (header : Header) (declared : Declared) : Type 0 where
  pub own_class : declared.class ≡ header.name
  pub own_flags : declared.member.flags ≡ found.flags
  pub of_array : IsArray named → slice_get header.methods found.member ≡ Some declared.member

pub seen : (headers : Headers) (named : Name) (found : Found) (declared : Declared) (header : Header) → IsMemberFound headers named found declared → header_at headers found.place ≡ Some header → IsSeen named found header declared
seen headers named found declared header (inl method) at =
    let same = same_Some method.header header (sym method.at ∙ at) in
    record {
      own_class = sym method.own_class ∙ ap (λ (h : Header). h.name) same;
      own_flags = sym method.same_flags;
      of_array = λ is. subst (λ (h : Header). slice_get h.methods found.member ≡ Some declared.member) same method.stands;
    }
seen headers named found declared header (inr field) at =
    let same = same_Some field.1.header header (sym field.1.at ∙ at) in
    record {
      own_class = sym field.1.own_class ∙ ap (λ (h : Header). h.name) same;
      own_flags = sym field.1.same_flags;
      of_array = λ is. absurd (field.0 is);
    }

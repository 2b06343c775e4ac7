-- What it means that a member that a class declares itself is found: a place is that of one member.
use Rattle.std.proofs.Common.{◌≡◌, ℕ, List, slice_get, Option, Some, None, option_map, refl, sym, ap, subst, ◌∙◌}
use Rattle.std.proofs.lemmas.Option.{same_Some}
use Rattle.class_model.specs.declared.header.Header.{Header}
use Rattle.class_model.specs.declared.header.Member.{Member}
use Rattle.class_tree.specs.Headers.{Headers}
use Rattle.class_tree.specs.Order.{header_at, member_place}
use Rattle.class_tree.specs.declared.place.Place.{Place}
use Rattle.member_link.specs.DeclaredMembers.{declared_by, declared}
use Rattle.member_link.specs.Found.{AreSame, IsFoundIn}
use Rattle.member_link.specs.Laws.OwnMembers.{none_own, own_at}

-- ---- what the look-up of a class's own member answers

pub own_found : (members_of : Header → List Member) (headers : Headers) (place : Place) (header : Header) (name desc : List ℕ) (number : ℕ) (member : Member) → header_at headers place ≡ Some header → member_place name desc (members_of header) ≡ Some number → slice_get (members_of header) number ≡ Some member → AreSame (IsFoundIn members_of headers) (Some (record { place = place; member = number; flags = member.flags })) (option_map (declared_by header.name) (declared name desc (members_of header)))
own_found members_of headers place header name desc number member at is stands =
    let own = own_at name desc (members_of header) number is in
    let same = same_Some own.member member (sym own.stands ∙ stands) in
    subst (λ (o : Option Member). AreSame (IsFoundIn members_of headers) (Some (record { place = place; member = number; flags = member.flags })) (option_map (declared_by header.name) o)) (sym (own.is ∙ ap Some same)) (record {
      header = header;
      at = at;
      own_class = refl;
      stands = stands;
      first =
          ap (λ n. member_place n member.desc (members_of header)) (ap (λ (m : Member). m.name) (sym same) ∙ own.own_name)
          ∙ ap (λ d. member_place name d (members_of header)) (ap (λ (m : Member). m.desc) (sym same) ∙ own.own_desc) ∙ is;
      same_flags = refl;
    })

pub own_missing : (members_of : Header → List Member) (headers : Headers) (header : Header) (name desc : List ℕ) → member_place name desc (members_of header) ≡ None → AreSame (IsFoundIn members_of headers) None (option_map (declared_by header.name) (declared name desc (members_of header)))
own_missing members_of headers header name desc none =
    subst (λ (o : Option Member). AreSame (IsFoundIn members_of headers) None (option_map (declared_by header.name) o)) (sym (none_own name desc (members_of header) none)) tt

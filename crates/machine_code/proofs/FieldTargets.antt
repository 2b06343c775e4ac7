-- Fields that are found, in a tree and in its program.
use Rattle.member_link.specs.Laws.OwnMembers.{first_declared}
use Rattle.std.proofs.Common.{◌≡◌, ◌&&◌, not, false, ℕ, List, bytes_eq, slice_get, Option, Some, None, IfSome, option_map, option_and_then, refl, sym, ap, subst, ◌∙◌}
use Rattle.class_model.specs.Members.{has, FINAL, STATIC}
use Rattle.class_model.specs.declared.header.Header.{Header}
use Rattle.class_model.specs.declared.header.Member.{Member}
use Rattle.class_tree.specs.Headers.{Name, Classes, Headers, class_named, headers_of}
use Rattle.class_tree.specs.Hierarchy.{IsHierarchy}
use Rattle.class_tree.specs.Order.{header_at, member_place, place_of}
use Rattle.class_tree.specs.declared.place.Place.{Place}
use Rattle.class_tree.specs.declared.place.Place.TheVariants.{Folder, Library}
use Rattle.member_link.specs.DeclaredMembers.{Declared, declared}
use Rattle.member_link.specs.Fields.{FindsField}
use Rattle.member_link.specs.Found.{AreSame, IsField, IsFieldFound}
use Rattle.member_link.specs.Machine.FieldSteps.{is_barred, static_number}
use Rattle.member_link.specs.Machine.Links.{reference_to}
use Rattle.member_link.specs.Machine.Programs.{Program, field_of, folder_number, has_flag}
use Rattle.member_link.specs.References.{Reference}
use Rattle.member_link.specs.declared.found.Found.{Found}
use Rattle.machine_code.specs.Inner.QuestionWords.{is_class_of}
use Rattle.machine_code.specs.Inner.Resolved.{IsTargetOf, home_of}
use Rattle.member_link.specs.RunOps.{IsFieldFound as IsResolvedField, IsFieldTarget, IsNumberAt, IsSeenSlot, IsStoredAs, home_class}
use Rattle.member_link.specs.TreePrograms.{IsProgram}
use Rattle.member_link.specs.declared.run_op.FieldHome.{FieldHome}
use Rattle.member_link.specs.declared.run_op.FieldOp.{FieldOp}
use Rattle.member_link.specs.declared.run_op.FieldTarget.{FieldTarget}
use Rattle.member_link.specs.declared.run_op.SeenSlot.{SeenSlot}
use Rattle.member_link.specs.Laws.ProgramHeaders.{links_are, number_by_place}
use Rattle.member_link.specs.Laws.ProgramMembers.{field_is, static_is}

-- a look-up finds one field
pub record OneField : Type 0 where
  pub one :
      (headers : Headers) (class : Name) (name desc : List ℕ) (one other : Option Declared)
      → FindsField headers class name desc one
      → FindsField headers class name desc other
      → one ≡ other

module _ (classes : Classes) (P : Program) (is : IsProgram classes P) (hierarchy : IsHierarchy (headers_of classes)) where
  module _ (field : Declared) (found : Found) (at : IsFieldFound (headers_of classes) found field) where
    class_is : class_named (headers_of classes) field.class ≡ Some at.header
    class_is =
        ap (class_named (headers_of classes)) (sym at.own_class)
        ∙ (hierarchy.of_place found.place at.header at.at).found

    placed : place_of (headers_of classes) field.class ≡ Some found.place
    placed =
        ap (place_of (headers_of classes)) (sym at.own_class)
        ∙ (hierarchy.of_place found.place at.header at.at).is_place

    -- it is the member of its class
    pub member_is : field_of P (reference_to field) ≡ Some field.member
    member_is =
        sym (field_is classes P is (reference_to field))
        ∙ ap (option_and_then (λ (header : Header). declared field.member.name field.member.desc header.fields)) class_is
        ∙ first_declared field.member.name field.member.desc at.header.fields
        ∙ ap (option_and_then (slice_get at.header.fields)) at.first
        ∙ at.stands

    barred_is :
        (initialises : Option Name)
        → (has field.member.flags FINAL && not (is_class_of initialises field.class))
        ≡ is_barred P (reference_to field) initialises
    barred_is None = ap (λ (member : Option Member). has_flag member FINAL && not false) (sym member_is)
    barred_is (Some own) = ap (λ (member : Option Member). has_flag member FINAL && not (bytes_eq own field.class)) (sym member_is)

    home_is : folder_number P field.class ≡ home_class (home_of found)
    home_is = by found.place refl
      where
        by : (place : Place) → found.place ≡ place → folder_number P field.class ≡ home_class (home_of found)
        by (Folder class) same = rw same (sym (number_by_place classes P is field.class (Some (Folder class)) (placed ∙ ap Some same)))
        by (Library class) same = rw same (sym (number_by_place classes P is field.class (Some (Library class)) (placed ∙ ap Some same)))

    number_at_home : IsNumberAt P (reference_to field) (home_of found)
    number_at_home = by found.place refl
      where
        by : (place : Place) → found.place ≡ place → IsNumberAt P (reference_to field) (home_of found)
        by (Library class) same = rw same tt
        by (Folder class) same =
            let there : slice_get (headers_of classes).folder class ≡ Some at.header = ap (header_at (headers_of classes)) (sym same) ∙ at.at in
            rw same
            (sym (static_is classes P is class (reference_to field))
            ∙ ap (option_and_then (λ (header : Header). member_place field.member.name field.member.desc header.fields)) there
            ∙ at.first)

    pub target_is :
        (op : FieldOp) (target : FieldTarget)
        → P.links.field op.named ≡ Some (reference_to field)
        → IsTargetOf field found op.initialises target
        → IsFieldTarget P op target
    target_is op target link kept = record {
      link = link ∙ ap Some (sym kept.same);
      static =
          kept.static
          ∙ ap (λ (member : Option Member). has_flag member STATIC) (sym member_is)
          ∙ ap (λ (r : Reference). has_flag (field_of P r) STATIC) (sym kept.same);
      barred = kept.barred ∙ barred_is op.initialises ∙ ap (λ (r : Reference). is_barred P r op.initialises) (sym kept.same);
      desc = subst (λ (r : Reference). IsStoredAs target.desc r.desc) (sym kept.same) kept.stored;
      home = ap (λ (r : Reference). folder_number P r.class) kept.same ∙ home_is ∙ ap home_class (sym kept.home);
      number =
          subst (λ (home : FieldHome). IsNumberAt P target.field home) (sym kept.home)
          (subst (λ (r : Reference). IsNumberAt P r (home_of found)) (sym kept.same) number_at_home);
      seen = subst (λ (seen : Option SeenSlot). IfSome seen (IsSeenSlot P op.named.class target.field)) (sym kept.unseen) tt;
    }

  -- ---- the link of a reference

  module _ (law : OneField) (r : Reference) where
    link_is :
        (result : Option Found)
        → (field : IsField (headers_of classes) r.class r.name r.desc result)
        → P.links.field r ≡ option_map reference_to field.field
    link_is result field =
        let link = (links_are classes P is).field r in
        link.same ∙ ap (option_map reference_to) (law.one (headers_of classes) r.class r.name r.desc link.found field.field link.finds field.finds)

    pub no_link : IsField (headers_of classes) r.class r.name r.desc None → P.links.field r ≡ None
    no_link field = by field.field field.same (link_is None field)
      where
        by :
            (declared : Option Declared)
            → AreSame (IsFieldFound (headers_of classes)) None declared
            → P.links.field r ≡ option_map reference_to declared
            → P.links.field r ≡ None
        by None same link = link
        by (Some declared) same link = absurd same

    pub one_link :
        (found : Found)
        → IsField (headers_of classes) r.class r.name r.desc (Some found)
        → (field : Declared)
        × IsFieldFound (headers_of classes) found field
        × (P.links.field r ≡ Some (reference_to field))
    one_link found field = by field.field field.same (link_is (Some found) field)
      where
        by :
            (declared : Option Declared)
            → AreSame (IsFieldFound (headers_of classes)) (Some found) declared
            → P.links.field r ≡ option_map reference_to declared
            → (field : Declared)
            × IsFieldFound (headers_of classes) found field
            × (P.links.field r ≡ Some (reference_to field))
        by None same link = absurd same
        by (Some declared) same link = (declared, same, link)

    pub resolved :
        (op : FieldOp) (found : Found) (target : FieldTarget)
        → op.named ≡ r
        → IsField (headers_of classes) r.class r.name r.desc (Some found)
        → ((field : Declared) → IsFieldFound (headers_of classes) found field → IsTargetOf field found op.initialises target)
        → IsFieldTarget P op target
    resolved op found target named field kept =
        let one = one_link found field in
        target_is one.0 found one.1 op target (ap P.links.field named ∙ one.2) (kept one.0 one.1)

use Rattle.std.proofs.Common.{◌≡◌, Some, None, refl, sym, ap, ◌∙◌}
use Rattle.class_tree.specs.Headers.{headers_of}
use Rattle.class_tree.specs.Order.{place_of}
use Rattle.class_tree.specs.declared.place.Place.TheVariants.{Folder, Library}
use Rattle.member_link.specs.Machine.Programs.{folder_number}
use Rattle.machine_code.proofs.NewObjects.{blanks_are, external_is}
use Rattle.member_link.specs.Laws.ProgramHeaders.{number_by_place}
use Rattle.machine_code.proofs.resolving.objects.resolve_new.Goals as goal

pub returns-in_ok-blank_fields-in-Some-Folder-clause-resolved :
    goal.returns-in_ok-blank_fields-in-Some-Folder-clause-resolved
returns-in_ok-blank_fields-in-Some-Folder-clause-resolved c = λ P is.
    let class = c.args.class.now in
    let number = c.in-Some-Folder.number in
    let at : place_of (headers_of c.args.tree.now) class ≡ Some (Folder number) = sym c.in-Some-Folder.ensures ∙ ap Some c.in-Some-Folder.field-0-is in
    record {
      home = ap (folder_number P) c.in_ok-copy-in-Some-Folder.ensures ∙ sym (number_by_place c.args.tree.now P is class (Some (Folder number)) at);
      blanks = c.into_vec.ensures ∙ c.in_ok-blank_fields-in-Some-Folder.ensures ∙ blanks_are c.args.tree.now c.a_tree_is_a_hierarchy.ensures class number at P is;
    }

pub returns-in-Some-Library-clause-resolved : goal.returns-in-Some-Library-clause-resolved
returns-in-Some-Library-clause-resolved c =
    external_is c.args.tree.now c.args.class.now (Some (Library c.in-Some-Library.field-0-0)) c.new_external.result
    (sym c.in-Some-Library.ensures ∙ ap Some c.in-Some-Library.field-0-is) refl c.new_external.ensures.resolved

pub returns-in-None-clause-resolved : goal.returns-in-None-clause-resolved
returns-in-None-clause-resolved c =
    external_is c.args.tree.now c.args.class.now None c.new_external-in-None.result (sym c.in-None.ensures) refl c.new_external-in-None.ensures.resolved

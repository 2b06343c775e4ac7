use Rattle.std.proofs.Common.{◌≡◌, Some, None, sym, subst, ◌∙◌}
use Rattle.std.specs.Option.{option_copied}
use Rattle.class_tree.specs.Headers.{headers_of}
use Rattle.class_tree.specs.Order.{header_at, place_of}
use Rattle.class_tree.specs.declared.place.Place.{Place}
use Rattle.class_tree.specs.declared.place.Place.TheVariants.{Folder, Library}
use Rattle.inline_expand.proofs.FolderNames.{in_folder_at}
use Rattle.inline_expand.proofs.quiet.folder_class.Goals as goal

pub returns-in_default : goal.returns-in_default
returns-in_default c =
    sym (in_folder_at (headers_of c.args.tree.now) c.args.class.now None (sym c.place.ensures ∙ c.in_default.is))

pub returns-in-Folder : goal.returns-in-Folder
returns-in-Folder c =
    let headers = headers_of c.args.tree.now in
    let placed : place_of headers c.args.class.now ≡ Some c.in-Some.place = sym c.place.ensures ∙ c.in-Some.is in
    let there : place_of headers c.args.class.now ≡ Some (Folder c.in-Folder.field-0) = subst (λ (p : Place). place_of headers c.args.class.now ≡ Some p) c.in-Folder.is placed in
    let family : Place → Type 0 = λ p. option_copied c.header.result ≡ header_at headers p in
    subst family c.in-Folder.is c.header.ensures ∙ sym (in_folder_at headers c.args.class.now (Some (Folder c.in-Folder.field-0)) there)

pub returns-in-Library : goal.returns-in-Library
returns-in-Library c =
    let headers = headers_of c.args.tree.now in
    let placed : place_of headers c.args.class.now ≡ Some c.in-Some.place = sym c.place.ensures ∙ c.in-Some.is in
    let there : place_of headers c.args.class.now ≡ Some (Library c.in-Library.field-0) = subst (λ (p : Place). place_of headers c.args.class.now ≡ Some p) c.in-Library.is placed in
    sym (in_folder_at headers c.args.class.now (Some (Library c.in-Library.field-0)) there)

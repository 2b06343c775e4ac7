use Rattle.std.proofs.Common.{◌≡◌, ℕ, List, ◌++◌, refl, sym, ap, ◌∙◌, subst}
use Rattle.class_bytes.specs.Counts.{FitsCounts}
use Rattle.class_model.specs.Spelling.{class_bytes}
use Rattle.pea_top.proofs.WritingFiles.{final_at, written_of}
use Rattle.pea_top.proofs.optimising.written_file.Goals as goal

pub push_class-requires : goal.push_class-requires
push_class-requires c =
    let number : c.in-Some-Folder.number ≡ c.requires.number = cc (c.in-Some-Folder.is, c.in-Some-Folder.field-0-is, c.in-Some-Folder.number-is, c.place.ensures, c.requires.is_place) in
    let same = final_at c.args.written.now c.as_slice.result.now c.in-Some-Folder.number c.requires.number c.index-as_slice-number.result c.requires.final c.as_slice.ensures number c.requires.is_written c.index-as_slice-number.is in
    subst FitsCounts (sym same) c.requires.fits

pub returns : goal.returns
returns c =
    let number : c.in-Some-Folder.number ≡ c.requires.number = cc (c.in-Some-Folder.is, c.in-Some-Folder.field-0-is, c.in-Some-Folder.number-is, c.place.ensures, c.requires.is_place) in
    let same = final_at c.args.written.now c.as_slice.result.now c.in-Some-Folder.number c.requires.number c.index-as_slice-number.result c.requires.final c.as_slice.ensures number c.requires.is_written c.index-as_slice-number.is in
    let bytes : c.from_vec.result ≡ class_bytes c.requires.final =
    c.from_vec.ensures
    ∙ c.in_ok-push_class.ensures.ok
    ∙ ap (λ (list : List ℕ). list ++ class_bytes c.index-as_slice-number.result) c.clear.ensures.items
    ∙ ap class_bytes same
    in
    written_of c.args.tree.now c.args.written.now c.args.name.now c.args.file (record { name = c.args.file.name; bytes = c.from_vec.result }) c.requires refl bytes

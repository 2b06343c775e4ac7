use Rattle.std.proofs.Common.{Ok, Err, ◌∙◌}
use Rattle.std.proofs.lemmas.Result.{err_from_is_err_and}
use Rattle.host_tree.specs.Host.{Bytes}
use Rattle.pea_top.proofs.FileReads.{IsReadOrWhy-same}
use Rattle.pea_top.proofs.HeaderReads.{IsLibraryOrWhy-same}
use Rattle.pea_top.proofs.InputReads.{why_from_input, why_from_library}
use Rattle.pea_top.proofs.reading.read_input.Goals as goal

pub returns-in_err-files-clause-found : goal.returns-in_err-files-clause-found
returns-in_err-files-clause-found g c = λ told.
    let same = λ (name : Bytes). c.list_names-2.ensures.files told c.args.folder.now name ∙ c.list_names.ensures.files told c.args.folder.now name in
    let why = IsReadOrWhy-same same (Err c.in_err-files.field-0.0) (c.in_err-files.ensures.found told) in
    let p = err_from_is_err_and c.from_residual-in_err-files.result c.from_residual-in_err-files.ensures.1 in
    rw (p.1, p.2) (why_from_input _ _ _ why)

pub returns-in_err-headers-clause-found : goal.returns-in_err-headers-clause-found
returns-in_err-headers-clause-found g c = λ told.
    let same = λ (name : Bytes). c.list_names-2.ensures.files told c.args.folder.now name ∙ c.list_names.ensures.files told c.args.folder.now name in
    let good = IsReadOrWhy-same same (Ok (c.in_ok-files.files, c.in_ok-files.classes)) (c.in_ok-files.ensures.found told) in
    let unchanged = λ (name : Bytes). c.read_files.ensures.files told c.args.library.now name ∙ (c.list_names-2.ensures.files told c.args.library.now name ∙ c.list_names.ensures.files told c.args.library.now name) in
    let why = IsLibraryOrWhy-same unchanged (Err c.in_err-headers.field-0.0) (c.in_err-headers.ensures.found told) in
    let p = err_from_is_err_and c.from_residual-in_err-headers.result c.from_residual-in_err-headers.ensures.1 in
    rw (p.1, p.2) (why_from_library _ _ good.none_refused _ why)

pub returns-clause-found : goal.returns-clause-found
returns-clause-found g c = λ told.
    let same = λ (name : Bytes). c.list_names-2.ensures.files told c.args.folder.now name ∙ c.list_names.ensures.files told c.args.folder.now name in
    let unchanged = λ (name : Bytes). c.read_files.ensures.files told c.args.library.now name ∙ (c.list_names-2.ensures.files told c.args.library.now name ∙ c.list_names.ensures.files told c.args.library.now name) in (
      IsReadOrWhy-same same (Ok (c.in_ok-files.files, c.in_ok-files.classes)) (c.in_ok-files.ensures.found told),
      IsLibraryOrWhy-same unchanged (Ok c.in_ok-headers.headers) (c.in_ok-headers.ensures.found told),
    )

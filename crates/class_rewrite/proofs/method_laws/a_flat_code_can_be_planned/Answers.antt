use Rattle.class_rewrite.proofs.ReadyMethods.{folder_some}
use Rattle.class_rewrite.proofs.method_laws.a_flat_code_can_be_planned.Goals as goal

pub returns : goal.returns
returns c = λ classes typed links at flat is are_links.
    let expanded = is.is.1 in
    let program = c.a_verified_folder_is_a_typed_program.ensures classes typed links is.folder.tree is.folder.linked is.folder.types are_links
    (folder_some classes at expanded.host.scope expanded.is_host.is_scope) in
    c.an_expanded_flat_code_is_ready.ensures.plans classes typed links program.0 at flat is.folder.tree is.folder.linked is.folder.types are_links program.1
    program.2 expanded is.is.0.host is.is.4

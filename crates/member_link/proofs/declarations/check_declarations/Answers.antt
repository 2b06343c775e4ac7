use Rattle.std.proofs.Common.{◌+◌, ◌<◌, ◌≤◌, length, drop, sym, ap, subst, ◌∙◌}
use Rattle.std.proofs.lemmas.List.{length-map, drop_all}
use Rattle.std.proofs.lemmas.Result.{err_from_is_err_and}
use Rattle.class_model.specs.Checks.{AllHold, asked_each}
use Rattle.class_model.specs.Header.{header_of}
use Rattle.class_model.specs.Laws.Checks.{asked_at, remain}
use Rattle.class_tree.specs.Headers.{headers_of}
use Rattle.class_tree.specs.Laws.Links.{refused}
use Rattle.member_link.specs.Declarations.{declaration_checks}
use Rattle.member_link.proofs.FolderMethods.{item_at}
use Rattle.member_link.proofs.declarations.check_declarations.Goals as goal

pub returns-in_err-check_class : goal.returns-in_err-check_class
returns-in_err-check_class c =
    let headers = headers_of c.args.tree.now in
    let within = subst (λ len. c.loop-index.index < len) (c.len-index-end.ensures ∙ ap length c.folder.ensures.same ∙ sym (length-map c.args.tree.now.folder header_of)) c.loop-index-test.true in
    let class = item_at headers.folder c.loop-index.index within in
    let p = err_from_is_err_and c.from_residual-in_err-check_class.result c.from_residual-in_err-check_class.ensures.1 in
    rw (p.1, p.2) (refused (declaration_checks headers class.0) (asked_each (declaration_checks headers) (drop (c.loop-index.index + 1) headers.folder)) _ (asked_at (declaration_checks headers) headers.folder c.loop-index.index class.0 within class.2 c.loop-index.invariant) (c.in_err-check_class.ensures class.0 class.1))

pub loop-index-preserved : goal.loop-index-preserved
loop-index-preserved c =
    let headers = headers_of c.args.tree.now in
    let within = subst (λ len. c.loop-index.index < len) (c.len-index-end.ensures ∙ ap length c.folder.ensures.same ∙ sym (length-map c.args.tree.now.folder header_of)) c.loop-index-test.true in
    let class = item_at headers.folder c.loop-index.index within in
    remain (declaration_checks headers class.0) (asked_each (declaration_checks headers) (drop (c.loop-index.index + 1) headers.folder)) (asked_at (declaration_checks headers) headers.folder c.loop-index.index class.0 within class.2 c.loop-index.invariant) (c.in_ok-check_class.ensures class.0 class.1)

pub returns : goal.returns
returns c =
    let checks = declaration_checks (headers_of c.args.tree.now) in
    let folder = (headers_of c.args.tree.now).folder in
    let past = subst (λ len. len ≤ c.loop-index.index) (c.len-index-end.ensures ∙ ap length c.folder.ensures.same ∙ sym (length-map c.args.tree.now.folder header_of)) c.loop-index-test.false in
    c.loop-index.invariant.hold (subst (λ left. AllHold (asked_each checks left)) (sym (drop_all c.loop-index.index folder past)) tt)

-- The name, the length and the content of a Code attribute.
use Rattle.std.proofs.Common.{◌++◌, sym, ap, subst, ◌∙◌}
use Rattle.std.proofs.lemmas.Result.{on_ok_weaker, on_err_weaker}
use Rattle.class_model.specs.Spelling.{u4, attr_bytes}
use Rattle.class_bytes.specs.Counts.{FitsAttr}
use Rattle.class_bytes.proofs.Pushing.{both, behind, unchanged, on_err}
use Rattle.class_bytes.proofs.attr_writing.push_attr.Goals as goal

pub returns-in_err-push_u2-in-Code-clause-err : goal.returns-in_err-push_u2-in-Code-clause-err
returns-in_err-push_u2-in-Code-clause-err c = on_err _ (unchanged _ _ c.in_err-push_u2-in-Code.ensures.err)

pub part_len-requires : goal.part_len-requires
part_len-requires c = subst FitsAttr c.in-Code.is c.requires

pub push_code_part-requires : goal.push_code_part-requires
push_code_part-requires c = subst FitsAttr c.in-Code.is c.requires

pub returns-in_ok-push_u4-in-Code-clause-ok : goal.returns-in_ok-push_u4-in-Code-clause-ok
returns-in_ok-push_u4-in-Code-clause-ok c =
    let before = c.args.out.now.items in
    let named = c.push_u2.new.out.items in
    let length = c.in_ok-push_u4-in-Code.ensures.ok ∙ ap (λ n. named ++ u4 n) c.part_len.ensures in
    on_ok_weaker c.push_code_part.result (λ content. both before named _ _ _ c.in_ok-push_u2-in-Code.ensures.ok (both named c.push_u4.new.out.items _ _ _ length content) ∙ ap (λ attr. before ++ attr_bytes attr) (sym c.in-Code.is)) c.push_code_part.ensures.ok

pub returns-in_ok-push_u4-in-Code-clause-err : goal.returns-in_ok-push_u4-in-Code-clause-err
returns-in_ok-push_u4-in-Code-clause-err c =
    on_err_weaker c.push_code_part.result (λ grown. behind c.args.out.now.items _ _ _ c.in_ok-push_u2-in-Code.ensures.ok (behind c.push_u2.new.out.items _ _ _ c.in_ok-push_u4-in-Code.ensures.ok grown)) c.push_code_part.ensures.err

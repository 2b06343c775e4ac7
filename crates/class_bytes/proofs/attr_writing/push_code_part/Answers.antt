-- The bounds, the code, the handlers and the attributes, one behind the other.
use Rattle.std.proofs.Common.{◌≡◌, ◌++◌, length, ap, ◌∙◌}
use Rattle.std.proofs.lemmas.Result.{on_ok_weaker, on_err_weaker}
use Rattle.class_model.specs.Spelling.{u2, u4}
use Rattle.class_bytes.proofs.Pushing.{both, behind, unchanged, on_err}
use Rattle.class_bytes.proofs.attr_writing.push_code_part.Goals as goal
use Rattle.class_bytes.proofs.attr_writing.push_code_part.Goals.{In_ok-extend_from_slice}

with_code : (c : In_ok-extend_from_slice) → c.extend_from_slice.new.self.items ≡ c.args.out.now.items ++ (u2 c.args.part.now.max_stack ++ u2 c.args.part.now.max_locals ++ (u4 (length c.args.part.now.code) ++ c.args.part.now.code))
with_code c =
    let before = c.args.out.now.items in
    let bounded = c.push_u2-2.new.out.items in
    let bounds = both before c.push_u2.new.out.items _ _ _ c.in_ok-push_u2.ensures.ok c.in_ok-push_u2-2.ensures.ok in
    let length = c.in_ok-push_u4.ensures.ok ∙ ap (λ n. bounded ++ u4 n) c.len.ensures in
    let code = c.in_ok-extend_from_slice.ensures.items ∙ ap (λ code. c.push_u4.new.out.items ++ code) c.as_slice.ensures in
    both before bounded _ _ _ bounds (both bounded c.push_u4.new.out.items _ _ _ length code)

pub returns-in_err-push_u2-clause-err : goal.returns-in_err-push_u2-clause-err
returns-in_err-push_u2-clause-err c = on_err _ (unchanged _ _ c.in_err-push_u2.ensures.err)

pub returns-in_err-push_u4-clause-err : goal.returns-in_err-push_u4-clause-err
returns-in_err-push_u4-clause-err c =
    on_err _ (behind c.args.out.now.items _ _ _ c.in_ok-push_u2.ensures.ok (behind c.push_u2.new.out.items _ _ _ c.in_ok-push_u2-2.ensures.ok (unchanged _ _ c.in_err-push_u4.ensures.err)))

pub returns-in_err-extend_from_slice-clause-err : goal.returns-in_err-extend_from_slice-clause-err
returns-in_err-extend_from_slice-clause-err c = on_err _ (behind c.args.out.now.items _ _ _ c.in_ok-push_u2.ensures.ok (behind c.push_u2.new.out.items _ _ _ c.in_ok-push_u2-2.ensures.ok (behind c.push_u2-2.new.out.items _ _ _ c.in_ok-push_u4.ensures.ok (unchanged _ _ c.in_err-extend_from_slice.ensures.items))))

pub returns-in_err-push_handlers-clause-err : goal.returns-in_err-push_handlers-clause-err
returns-in_err-push_handlers-clause-err c =
    let before = (goal.at.returns-in_err-push_handlers-clause-err c).In_ok-extend_from_slice in
    on_err _ (behind c.args.out.now.items _ _ _ (with_code before) c.in_err-push_handlers.ensures.err)

pub returns-clause-ok : goal.returns-clause-ok
returns-clause-ok c =
    let before = c.args.out.now.items in
    let coded = c.extend_from_slice.new.self.items in
    let handled = both before coded _ _ _ (with_code (goal.at.returns-clause-ok c).In_ok-extend_from_slice) c.in_ok-push_handlers.ensures.ok in
    on_ok_weaker c.push_inner_attrs.result (λ attrs. both before c.push_handlers.new.out.items _ _ _ handled attrs) c.push_inner_attrs.ensures.ok

pub returns-clause-err : goal.returns-clause-err
returns-clause-err c =
    let coded = with_code (goal.at.returns-clause-err c).In_ok-extend_from_slice in
    on_err_weaker c.push_inner_attrs.result (λ grown. behind c.args.out.now.items _ _ _ coded (behind c.extend_from_slice.new.self.items _ _ _ c.in_ok-push_handlers.ensures.ok grown)) c.push_inner_attrs.ensures.err

use Rattle.std.proofs.Common.{◌≡◌, ◌∷◌, [], ◌++◌, codes, ap, ◌∙◌}
use Rattle.std.proofs.lemmas.Result.{on_ok_weaker}
use Rattle.class_tree.specs.Names.{cloneable, method_handle, method_type, object, serializable, throwable}
use Rattle.work_gen.specs.BaseLibrary.{final, interface, keeper_header, plain, root_header, thrown_header}
use Rattle.work_gen.proofs.Appended.{appended_more}
use Rattle.work_gen.proofs.headers.push_named_headers.Goals as goal

pub returns : goal.returns
returns c =
    let old = c.args.headers.now in
    on_ok_weaker c.push-3.result (λ last.
    let one : c.push.new.self ≡ old ++ root_header ∷ [] = c.in_ok-push.ensures.ok ∙ ap (λ header. old ++ header ∷ []) c.in_ok-root_header.ensures in
    let some = root_header ∷ [] in
    let two = appended_more old some (interface cloneable) c.in_ok-push_memberless.ensures one in
    let some = some ++ interface cloneable ∷ [] in
    let three = appended_more old some (interface serializable) c.in_ok-push_memberless-2.ensures two in
    let some = some ++ interface serializable ∷ [] in
    let four = appended_more old some (final (codes "java/lang/String")) c.in_ok-push_memberless-3.ensures three in
    let some = some ++ final (codes "java/lang/String") ∷ [] in
    let five = appended_more old some (final (codes "java/lang/Class")) c.in_ok-push_memberless-4.ensures four in
    let some = some ++ final (codes "java/lang/Class") ∷ [] in
    let six = appended_more old some (plain method_handle) c.in_ok-push_memberless-5.ensures five in
    let some = some ++ plain method_handle ∷ [] in
    let seven = appended_more old some (plain method_type) c.in_ok-push_memberless-6.ensures six in
    let some = some ++ plain method_type ∷ [] in
    let eight = appended_more old some keeper_header (c.in_ok-push-2.ensures.ok ∙ ap (λ header. c.push_memberless-6.new.headers ++ header ∷ []) c.in_ok-keeper_header.ensures) seven in
    appended_more old (some ++ keeper_header ∷ []) (thrown_header object throwable) (last ∙ ap (λ header. c.push-2.new.self ++ header ∷ []) c.in_ok-thrown_header.ensures) eight)
    c.push-3.ensures.ok

use Rattle.std.proofs.Common.{◌≡◌, ◌∷◌, [], ◌++◌, codes, refl, ap, ◌∙◌}
use Rattle.std.proofs.lemmas.Result.{on_ok_weaker}
use Rattle.work_gen.proofs.base.push_named.Goals as goal
use Rattle.class_model.specs.Laws.Texts.{plain_text}
use Rattle.class_tree.specs.Names.{cloneable, method_handle, method_type, object, serializable, throwable}
use Rattle.work_gen.specs.Values.{keeper, memberless, root, thrown}
use Rattle.work_gen.proofs.Appended.{appended_more}

pub push_memberless-requires : goal.push_memberless-requires
push_memberless-requires c = plain_text _ refl

pub push_memberless-requires-2 : goal.push_memberless-requires-2
push_memberless-requires-2 c = plain_text _ refl

pub push_memberless-requires-3 : goal.push_memberless-requires-3
push_memberless-requires-3 c = plain_text _ refl

pub push_memberless-requires-4 : goal.push_memberless-requires-4
push_memberless-requires-4 c = plain_text _ refl

pub push_memberless-requires-5 : goal.push_memberless-requires-5
push_memberless-requires-5 c = plain_text _ refl

pub push_memberless-requires-6 : goal.push_memberless-requires-6
push_memberless-requires-6 c = plain_text _ refl

pub throwable-requires-clause-super_name : goal.throwable-requires-clause-super_name
throwable-requires-clause-super_name c = plain_text _ refl

pub throwable-requires-clause-name : goal.throwable-requires-clause-name
throwable-requires-clause-name c = plain_text _ refl

pub returns : goal.returns
returns c =
    let old = c.args.classes.now in
    on_ok_weaker c.push-3.result (λ last.
    let one : c.push.new.self ≡ old ++ root ∷ [] = c.in_ok-push.ensures.ok ∙ ap (λ class. old ++ class ∷ []) c.in_ok-object.ensures in
    let some = root ∷ [] in
    let two = appended_more old some (memberless 0x0601 cloneable) c.in_ok-push_memberless.ensures one in
    let some = some ++ memberless 0x0601 cloneable ∷ [] in
    let three = appended_more old some (memberless 0x0601 serializable) c.in_ok-push_memberless-2.ensures two in
    let some = some ++ memberless 0x0601 serializable ∷ [] in
    let four = appended_more old some (memberless 0x0031 (codes "java/lang/String")) c.in_ok-push_memberless-3.ensures three in
    let some = some ++ memberless 0x0031 (codes "java/lang/String") ∷ [] in
    let five = appended_more old some (memberless 0x0031 (codes "java/lang/Class")) c.in_ok-push_memberless-4.ensures four in
    let some = some ++ memberless 0x0031 (codes "java/lang/Class") ∷ [] in
    let six = appended_more old some (memberless 0x0021 method_handle) c.in_ok-push_memberless-5.ensures five in
    let some = some ++ memberless 0x0021 method_handle ∷ [] in
    let seven = appended_more old some (memberless 0x0021 method_type) c.in_ok-push_memberless-6.ensures six in
    let some = some ++ memberless 0x0021 method_type ∷ [] in
    let eight = appended_more old some keeper (c.in_ok-push-2.ensures.ok ∙ ap (λ class. c.push_memberless-6.new.classes ++ class ∷ []) c.in_ok-keeper.ensures) seven in
    appended_more old (some ++ keeper ∷ []) (thrown object throwable) (last ∙ ap (λ class. c.push-2.new.self ++ class ∷ []) c.in_ok-throwable.ensures) eight)
    c.push-3.ensures.ok

use Rattle.std.proofs.Common.{◌≡◌, ℕ, List, [], take, sym, ap, ◌∙◌, arith}
use Rattle.class_tree.specs.Headers.{Name, headers_of}
use Rattle.field_constructors.proofs.FieldTextLaws.{chain_superclasses, descends_all, descs_down}
use Rattle.field_constructors.proofs.object_fields.field_texts.Goals as goal

pub returns : goal.returns
returns c =
    let headers = headers_of c.args.tree.now in
    let names = c.in_ok-upwards.upwards in
    let done : c.loop-left.left ≡ 0 = let test = c.loop-left-test.false in omega (arith, test) in
    let none : take c.loop-left.left names ≡ [] = ap (λ (count : ℕ). take count names) done in
    descends_all headers (descs_down headers names) c.loop-left.fields.items (take c.loop-left.left names) none c.loop-left.invariant.0
    ∙ ap (λ (list : List Name). descs_down headers list) (sym (chain_superclasses headers c.a_tree_is_a_hierarchy.ensures c.in_ok-upwards.ensures))

use Rattle.std.proofs.Common.{◌≡◌, ◌∙◌, ◌+◌, ◌<◌, ℕ, List, ◌∷◌, length, drop, get_or, None, sym, ap, subst}
use Rattle.std.proofs.lemmas.List.{drop_more, drop_all}
use Rattle.class_tree.specs.Headers.{Name, headers_of}
use Rattle.member_link.specs.Fields.{FindsFirst, in_no_class}
use Rattle.member_link.specs.Found.{IsFieldFound}
use Rattle.member_link.proofs.FieldWalks.{some_in_front, none_in_front}
use Rattle.member_link.proofs.FoundOr.{some_same, none_same}
use Rattle.member_link.proofs.fields.find_in_interfaces.Goals as goal

next_name : (names : List Name) (index : ℕ) (name : Name) → index < length names → name ≡ get_or names index name → name ∷ drop (index + 1) names ≡ drop index names
next_name names index name within is = ap (λ (n : Name). n ∷ drop (index + 1) names) is ∙ sym (drop_more names index name within)

pub returns-in-Some : goal.returns-in-Some
returns-in-Some c =
    let headers = headers_of c.args.tree.now in
    let here = c.in-Some.ensures in
    let some = some_same (IsFieldFound headers) c.in-Some.found here.field here.same in
    let left = next_name c.args.interfaces.now c.loop-interface.interface-index c.interface-item.result c.loop-interface-test.true c.interface-item.is in
    let rest = drop (c.loop-interface.interface-index + 1) c.args.interfaces.now in
    let finds = some_in_front headers c.args.name.now c.args.desc.now here.finds some.0 some.1 rest in (
      here.field,
      c.loop-interface.invariant here.field (subst (λ (names : List Name). FindsFirst headers c.args.name.now c.args.desc.now names here.field) left finds),
      here.same,
    )

pub loop-interface-preserved : goal.loop-interface-preserved
loop-interface-preserved c = λ field more.
    let headers = headers_of c.args.tree.now in
    let here = c.in_default.ensures in
    let none = none_same (IsFieldFound headers) here.field here.same in
    let left = next_name c.args.interfaces.now c.loop-interface.interface-index c.interface-item.result c.loop-interface-test.true c.interface-item.is in
    let rest = drop (c.loop-interface.interface-index + 1) c.args.interfaces.now in
    let finds = none_in_front headers c.args.name.now c.args.desc.now here.finds none rest field more in
    c.loop-interface.invariant field (subst (λ (names : List Name). FindsFirst headers c.args.name.now c.args.desc.now names field) left finds)

pub returns : goal.returns
returns c =
    let headers = headers_of c.args.tree.now in
    let nothing = drop_all c.loop-interface.interface-index c.args.interfaces.now c.loop-interface-test.false in
    (None, c.loop-interface.invariant None (subst (λ (names : List Name). FindsFirst headers c.args.name.now c.args.desc.now names None) (sym nothing) in_no_class), tt)

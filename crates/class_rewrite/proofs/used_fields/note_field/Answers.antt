use Rattle.std.proofs.Common.{sym, subst}
use Rattle.class_tree.specs.Headers.{Classes}
use Rattle.class_rewrite.proofs.UsedFound.{finals_added, ok_then, privates_added}
use Rattle.class_rewrite.proofs.UsedLists.{adds_none}
use Rattle.class_rewrite.specs.Inner.UsedFields.{IsFieldThere, NamesFieldAt}
use Rattle.class_rewrite.proofs.used_fields.note_field.Goals as goal

pub returns-in_ok-note_private-in-Some-clause-finals : goal.returns-in_ok-note_private-in-Some-clause-finals
returns-in_ok-note_private-in-Some-clause-finals c =
    let there = subst (λ (t : Classes). IsFieldThere t c.args.pool.now c.args.index c.in-Some.field) c.tree.ensures c.in-Some.ensures in
    ok_then c.note_final.result
    (finals_added c.args.setting.now.classes c.args.setting.now.flat c.args.pool.now c.args.index c.args.used.now.finals c.note_final.new.finals
    c.in-Some.field there c.args.stored) c.note_final.ensures

pub returns-in_ok-note_private-in-Some-clause-privates : goal.returns-in_ok-note_private-in-Some-clause-privates
returns-in_ok-note_private-in-Some-clause-privates c =
    let there = subst (λ (t : Classes). IsFieldThere t c.args.pool.now c.args.index c.in-Some.field) c.tree.ensures c.in-Some.ensures in
    let adds = privates_added c.args.setting.now.classes c.args.setting.now.flat c.args.pool.now c.args.index c.args.used.now.privates c.note_private.new.privates
    c.in-Some.field there c.in_ok-note_private-in-Some.ensures in
    ok_then c.note_final.result (λ _. adds) c.note_final.ensures

pub returns-in-None-clause-finals : goal.returns-in-None-clause-finals
returns-in-None-clause-finals c =
    adds_none _ c.args.used.now.finals (λ class number is.
    c.in-None.ensures class number is.1.member
    (subst (λ (t : Classes). NamesFieldAt t c.args.pool.now c.args.index class number is.1.member) (sym c.tree.ensures) is.1.names))

pub returns-in-None-clause-privates : goal.returns-in-None-clause-privates
returns-in-None-clause-privates c =
    adds_none _ c.args.used.now.privates (λ class number is.
    c.in-None.ensures class number is.member
    (subst (λ (t : Classes). NamesFieldAt t c.args.pool.now c.args.index class number is.member) (sym c.tree.ensures) is.names))

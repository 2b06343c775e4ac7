use Rattle.std.proofs.Common.{Vec, Global, subst}
use Rattle.std.proofs.lemmas.Result.{IfOk-weaker}
use Rattle.std.specs.Option.{option_map}
use Rattle.class_model.specs.declared.class_file.MethodAt.{MethodAt}
use Rattle.inline_expand.proofs.OwnCallees.{has_needs}
use Rattle.inline_expand.specs.Inner.Coded.{IsShortCoded}
use Rattle.inline_expand.proofs.ready.needs.Goals as goal

pub may_stand_in-requires : goal.may_stand_in-requires
may_stand_in-requires c =
    let short = subst (IsShortCoded c.args.host.tree.now c.args.host.typed.now c.args.at) c.in-Some.is c.in_ok-method.ensures in
    record {
      read = c.a_method_of_a_tree_was_read.ensures c.in-Some.method.at c.in-Some.method.host short.1.is_scope;
      known = short.1.are_frames;
    }

pub returns : goal.returns
returns c =
    let short = subst (IsShortCoded c.args.host.tree.now c.args.host.typed.now c.args.at) c.in-Some.is c.in_ok-method.ensures in
    IfOk-weaker c.own_callees-needs.result _ _
    (λ callees calls. has_needs c.args.host.tree.now c.args.host.typed.now c.args.host.number c.args.host.class.now c.args.at c.in-Some.method c.requires.is short.0 short.1
    (c.in-Ok-true.ensures.0 c.in-Ok-true.field-0-test)
    (option_map (λ (list : Vec MethodAt Global). list.items) callees) calls)
    c.own_callees-needs.ensures

use Rattle.std.proofs.Common.{List, ◌++◌, ◌∷◌, [], ◌∙◌, ap}
use Rattle.class_model.specs.declared.class_file.MethodAt.{MethodAt}
use Rattle.inline_expand.proofs.MethodLists.{adds_last, come_among, stay_among}
use Rattle.inline_expand.proofs.method_set.MethodSet.add.Goals as goal

pub invariant_of-self-in_err-judge : goal.invariant_of-self-in_err-judge
invariant_of-self-in_err-judge c =
    stay_among c.self.inside.seen c.judge.new.self c.self.inside.list.items c.push.new.self.items c.args.at c.self.invariant c.in_ok-push.ensures.items c.in_err-judge.ensures.err

pub invariant_of-self-2 : goal.invariant_of-self-2
invariant_of-self-2 c =
    come_among c.self.inside.seen c.judge.new.self c.self.inside.list.items c.push.new.self.items c.args.at c.self.invariant c.in_ok-push.ensures.items c.in_ok-judge.ensures.ok

pub returns : goal.returns
returns c =
    adds_last c.args.self.now c.push.new.self.items c.args.at
    (c.in_ok-push.ensures.items ∙ ap (λ (list : List MethodAt). list ++ c.args.at ∷ []) c.self.view_is)

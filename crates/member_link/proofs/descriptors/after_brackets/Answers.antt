use Rattle.std.proofs.Common.{◌==◌, drop, ap, ◌∙◌, rules, tests}
use Rattle.std.proofs.lemmas.Iterator.{YieldsList-from_slice}
use Rattle.std.proofs.lemmas.Iterator.Consumers.{count_from_yields_List}
use Rattle.std.proofs.lemmas.Iterator.Search.{YieldsList-from_take_while}
use Rattle.std.proofs.lemmas.List.{take_rest}
use Rattle.member_link.proofs.descriptors.after_brackets.Goals as goal

pub returns : goal.returns
returns c =
    let bytes = c.args.bytes.now in
    let counted = count_from_yields_List c.take_while.result _ c.count-brackets.ensures.ran (YieldsList-from_take_while _ (λ byte. byte == 91) (YieldsList-from_slice bytes cc) c.take_while.ensures.closure c.take_while.ensures.done (λ x b q k. search (rules, tests))) in
    take_rest bytes c.count-brackets.result ∙ ap (λ n. drop n bytes) counted

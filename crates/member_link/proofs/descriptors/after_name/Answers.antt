use Rattle.std.proofs.Common.{◌==◌, ◌+◌, ℕ, List, not, drop, sym, ap, ◌∙◌, rules, tests}
use Rattle.std.proofs.lemmas.Iterator.{YieldsList-from_slice}
use Rattle.std.proofs.lemmas.Iterator.Consumers.{count_from_yields_List}
use Rattle.std.proofs.lemmas.Iterator.Search.{YieldsList-from_take_while}
use Rattle.std.proofs.lemmas.List.{take_rest}
use Rattle.member_link.specs.Laws.Parameters.{drop_more}
use Rattle.member_link.proofs.descriptors.after_name.Goals as goal

pub returns : goal.returns
returns c =
    let bytes = c.args.bytes.now in
    let counted = count_from_yields_List c.take_while.result _ c.count-len.ensures.ran (YieldsList-from_take_while _ (λ byte. not (byte == 59)) (YieldsList-from_slice bytes cc) c.take_while.ensures.closure c.take_while.ensures.done (λ x b q k. search (rules, tests))) in
    c.after_first.ensures ∙ ap (drop 1) (take_rest bytes c.count-len.result) ∙ drop_more c.count-len.result 1 bytes ∙ ap (λ (n : ℕ). drop (n + 1) bytes) counted

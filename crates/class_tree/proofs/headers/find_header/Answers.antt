use Rattle.std.proofs.Common.{rules, ◌∙◌}
use Rattle.std.proofs.lemmas.Fn.{always_returns_same}
use Rattle.class_tree.proofs.Searches.{compared, searched}
use Rattle.class_tree.proofs.headers.find_header.Goals as goal

pub returns : goal.returns
returns c =
    c.ok.ensures.value ∙ searched c.args.headers.now c.args.name.now c.requires.in_order (c.requires.once c.args.name.now) c.binary_search_by.result c.binary_search_by.ensures.bound
    (c.binary_search_by.ensures.position (compared c.args.name.now) (always_returns_same _ _ _ (λ a r f' k. search rules)))

use Rattle.std.proofs.Common.{sym, arith}
use Rattle.std.proofs.lemmas.List.{length-take-le, take_all}
use Rattle.inline_expand.proofs.folder_methods.front.Goals as goal

pub slice_bounds-result-end : goal.slice_bounds-result-end
slice_bounds-result-end c = sym (length-take-le 1024 c.args.desc.now (omega (arith, c.if-desc-gt-MOST_KEYED.true)))

pub returns-else-desc-gt-MOST_KEYED : goal.returns-else-desc-gt-MOST_KEYED
returns-else-desc-gt-MOST_KEYED c = sym (take_all 1024 c.args.desc.now (omega (arith, c.if-desc-gt-MOST_KEYED.false)))

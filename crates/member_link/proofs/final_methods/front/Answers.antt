use Rattle.std.proofs.Common.{sym, arith}
use Rattle.std.proofs.lemmas.List.{length-take-le, take_all}
use Rattle.member_link.proofs.final_methods.front.Goals as goal

pub slice_bounds-result-end : goal.slice_bounds-result-end
slice_bounds-result-end c = sym (length-take-le 1024 c.args.text.now (omega (arith, c.if-text-gt-MOST_KEYED.true)))

pub returns-else-text-gt-MOST_KEYED : goal.returns-else-text-gt-MOST_KEYED
returns-else-text-gt-MOST_KEYED c = sym (take_all 1024 c.args.text.now (omega (arith, c.if-text-gt-MOST_KEYED.false)))

use Rattle.std.proofs.Common.{rules}
use Rattle.std.specs.Prelude.{int_lt}
use Rattle.std.proofs.lemmas.List.Sorted.{answers_always}
use Rattle.code_bytes.proofs.Keys.{keys_are_told}
use Rattle.code_bytes.proofs.switches.keys_increase.Goals as goal

pub returns : goal.returns
returns c = keys_are_told c.args.pairs.now _ (c.is_sorted_by.ensures.cases (λ pair next. int_lt pair.key next.key) (answers_always _ _ _ (λ f a r g h. search rules)))

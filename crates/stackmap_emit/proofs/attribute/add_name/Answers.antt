use Rattle.std.proofs.Common.{ℕ, IfOk, List, subst}
use Rattle.materialise.specs.Indices.{IsIndex, need_of_text}
use Rattle.stackmap_emit.proofs.attribute.add_name.Goals as goal

pub returns-clause-index : goal.returns-clause-index
returns-clause-index c =
    subst (λ (name : List ℕ). IfOk c.add_text.result (IsIndex c.add_text.new.pool (need_of_text name))) c.in_ok-text.ensures c.add_text.ensures.index

use Rattle.std.proofs.Common.{ℕ, map, replicate, ap, ◌∙◌}
use Rattle.class_model.specs.declared.descriptor.Kind.TheVariants as kinds
use Rattle.member_link.specs.Rows.Operands.{of_kind}
use Rattle.type_rules.proofs.PushedElements.{map_replicate}
use Rattle.type_rules.proofs.arrays.counts.Goals as goal
use Rattle.type_rules.specs.Inner.Meanings.{need_meant}
use Rattle.type_rules.specs.declared.need.Need.TheVariants.{OfKind}

pub returns : goal.returns
returns c =
    ap (map need_meant) (c.in_ok-vec.ensures.items_if_clones_equal (λ y is. is))
    ∙ map_replicate need_meant c.from.result (OfKind kinds.Int) ∙ ap (λ (n : ℕ). replicate n (of_kind kinds.Int)) c.from.ensures

use Rattle.class_rewrite.proofs.laws.a_rewriting_has_one_answer.Goals as goal

pub returns : goal.returns
returns c = λ r tree. record {
  expanded = λ at first other is is_also.
      c.a_method_has_one_expanded_flat_code.ensures r.classes r.typed at first other (c.classes_of_a_tree_are_a_hierarchy.ensures r.classes tree) is is_also;
  least = c.flat_code_has_one_least_plan.ensures.one;
  effect = c.effect_grows.ensures.one;
}

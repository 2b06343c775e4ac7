use Rattle.std.proofs.Common.{List, ℕ, subst}
use Rattle.class_model.specs.Names.{init}
use Rattle.materialise.specs.Laws.GrownEdits.{continues_both, index_later}
use Rattle.constructor_methods.proofs.constructor_method.add_names.Goals as goal
use Rattle.materialise.specs.Indices.{IsIndex, need_of_text}

pub returns-clause-indices : goal.returns-clause-indices
returns-clause-indices c =
    let one = c.add_text.new.pool in
    let two = c.add_text-2.new.pool in
    let last = c.add_text-3.new.pool in
    record {
      name =
          index_later one last (need_of_text init) c.in_ok-name.name
          (subst (λ (text : List ℕ). IsIndex c.add_text.new.pool (need_of_text text) c.in_ok-name.name) c.in_ok-init.ensures c.in_ok-name.ensures.index)
          (continues_both one two last c.add_text-2.ensures.more c.add_text-3.ensures.more);
      desc_is = index_later two last (need_of_text c.args.desc.now) c.in_ok-desc.desc c.in_ok-desc.ensures.index c.add_text-3.ensures.more;
      code = subst (λ (text : List ℕ). IsIndex c.add_text-3.new.pool (need_of_text text) c.in_ok-code.code) c.in_ok-text.ensures c.in_ok-code.ensures.index;
    }

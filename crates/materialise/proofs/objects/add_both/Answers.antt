use Rattle.std.proofs.Common.{rules, List, ℕ, subst}
use Rattle.std.specs.Result.{IsErrOf}
use Rattle.flow_code.specs.declared.reason.KeptFault.TheVariants.{Kept}
use Rattle.making_code.specs.Constants.{class_needs, constructor_needs, member_needs, needs_class, needs_member, of_method}
use Rattle.materialise.specs.Laws.GrownEdits.{full_then, grows_both, index_later}
use Rattle.materialise.proofs.objects.add_both.Goals as goal
use Rattle.materialise.specs.Growing.{Grows, IsFull}
use Rattle.materialise.specs.Indices.{IsIndex}

pub returns-in_err-constructor-clause-full : goal.returns-in_err-constructor-clause-full
returns-in_err-constructor-clause-full c = λ reason is.
    let class = c.args.class.now in
    let desc = c.args.desc.now in
    let fails : IsErrOf c.add_member.result (Kept reason) = search rules in
    full_then c.args.pool.now c.add_class.new.pool (class_needs class) (constructor_needs class desc) reason c.in_ok-class_index.ensures.ok
    (subst (λ (name : List ℕ). IsFull c.add_class.new.pool (member_needs of_method class name desc) reason) c.requires (c.add_member.ensures.full reason fails))

pub returns-clause-ok : goal.returns-clause-ok
returns-clause-ok c =
    let class = c.args.class.now in
    let desc = c.args.desc.now in
    grows_both c.args.pool.now c.add_class.new.pool c.add_member.new.pool (class_needs class) (constructor_needs class desc) c.in_ok-class_index.ensures.ok
    (subst (λ (name : List ℕ). Grows c.add_class.new.pool (member_needs of_method class name desc) c.add_member.new.pool) c.requires c.in_ok-constructor.ensures.ok)

pub returns-clause-indices : goal.returns-clause-indices
returns-clause-indices c =
    let class = c.args.class.now in
    let desc = c.args.desc.now in
    record {
      class_is = index_later c.add_class.new.pool c.add_member.new.pool (needs_class class) c.in_ok-class_index.class_index c.in_ok-class_index.ensures.index c.add_member.ensures.more;
      constructor_is = subst (λ (name : List ℕ). IsIndex c.add_member.new.pool (needs_member of_method class name desc) c.in_ok-constructor.constructor) c.requires c.in_ok-constructor.ensures.index;
    }

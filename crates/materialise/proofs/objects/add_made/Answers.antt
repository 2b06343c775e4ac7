use Rattle.std.proofs.Common.{ℕ, List, sym, subst}
use Rattle.std.proofs.lemmas.Result.{on_ok_weaker}
use Rattle.materialise.proofs.ConstantLaws.{if_ok}
use Rattle.materialise.proofs.objects.add_made.Goals as goal
use Rattle.field_constructors.specs.Constructors.{IsConstructor}
use Rattle.materialise.specs.Growing.{Grows, IsFull}
use Rattle.materialise.specs.Inner.ConstantWords.{AreIndices, made_needs}

pub returns-clause-ok : goal.returns-clause-ok
returns-clause-ok c =
    let class = c.args.class.now in
    let is = subst (IsConstructor c.args.constructors.now class) c.in-Some.is (c.in_ok-desc.ensures c.requires.number c.requires.of_folder) in
    on_ok_weaker c.add_both.result (λ grows constructor described. subst (λ (desc : List ℕ). Grows c.args.pool.now (made_needs class desc) c.add_both.new.pool) (sym (described class c.in-Some.desc is)) grows) c.add_both.ensures.ok

pub returns-clause-indices : goal.returns-clause-indices
returns-clause-indices c =
    let class = c.args.class.now in
    let is = subst (IsConstructor c.args.constructors.now class) c.in-Some.is (c.in_ok-desc.ensures c.requires.number c.requires.of_folder) in
    if_ok c.add_both.result (λ made indices constructor described. subst (λ (desc : List ℕ). AreIndices c.add_both.new.pool class desc made.class made.constructor) (sym (described class c.in-Some.desc is)) indices) c.add_both.ensures.indices

pub returns-clause-full : goal.returns-clause-full
returns-clause-full c = λ reason constructor fails described.
    let class = c.args.class.now in
    let is = subst (IsConstructor c.args.constructors.now class) c.in-Some.is (c.in_ok-desc.ensures c.requires.number c.requires.of_folder) in
    subst (λ (desc : List ℕ). IsFull c.args.pool.now (made_needs class desc) reason) (sym (described class c.in-Some.desc is)) (c.add_both.ensures.full reason fails)

use Rattle.std.proofs.Common.{Some, None, refl, sym, subst, ◌∙◌}
use Rattle.std.proofs.lemmas.Bool.{false≢true}
use Rattle.std.proofs.lemmas.Option.{none-some, same_Some}
use Rattle.class_tree.specs.Headers.{headers_of}
use Rattle.class_tree.specs.Laws.Headers.{header_there}
use Rattle.member_link.specs.Inner.Counting.{Counts}
use Rattle.member_link.specs.DeclaredMembers.{declared_by, declared}
use Rattle.member_link.specs.Found.{IsMethodFound}
use Rattle.member_link.specs.Upwards.{IsPassedOver}
use Rattle.member_link.proofs.Climbed.{IsClimbed, climbed_more, climbed_here}
use Rattle.member_link.proofs.OwnAnswers.{answers_some, answers_none}
use Rattle.member_link.proofs.upwards.first_upwards.Goals as goal
use Rattle.member_link.proofs.upwards.first_upwards.Goals.{in-Some-own_method+else-counts, in_default-own_method}

pub counts-requires-clause-found : goal.counts-requires-clause-found
counts-requires-clause-found c =
    let headers = headers_of c.args.tree.now in
    let climbed = subst (IsClimbed headers (Counts headers c.args.counted) c.args.name.now c.args.desc.now c.args.start) c.in-Some.is c.loop-next.invariant in
    let class = header_there headers c.in-Some.place climbed.there in
    let own = declared c.args.name.now c.args.desc.now class.0.methods in
    let is = answers_some (IsMethodFound headers) class.0.name c.own_method.result own (c.own_method.ensures class.0 class.1) c.in-Some-own_method.found c.in-Some-own_method.is in
    (declared_by class.0.name is.0, is.2)

pub returns-then-counts : goal.returns-then-counts
returns-then-counts c = λ header at.
    let headers = headers_of c.args.tree.now in
    let climbed = subst (IsClimbed headers (Counts headers c.args.counted) c.args.name.now c.args.desc.now c.args.start) c.in-Some.is c.loop-next.invariant in
    let class = header_there headers c.in-Some.place climbed.there in
    let own = declared c.args.name.now c.args.desc.now class.0.methods in
    let is = answers_some (IsMethodFound headers) class.0.name c.own_method.result own (c.own_method.ensures class.0 class.1) c.in-Some-own_method.found c.in-Some-own_method.is in
    let counts = (c.counts.ensures (declared_by class.0.name is.0) is.2).0 c.if-counts.true in
    (Some (declared_by class.0.name is.0), climbed_here headers c.a_tree_is_a_hierarchy.ensures (Counts headers c.args.counted) c.args.name.now c.args.desc.now c.args.start c.in-Some.place class.0 class.1 is.0 is.1 counts climbed header at, is.2)

pub loop-next-preserved : goal.loop-next-preserved
loop-next-preserved c =
    let headers = headers_of c.args.tree.now in
    let climbed = subst (IsClimbed headers (Counts headers c.args.counted) c.args.name.now c.args.desc.now c.args.start) c.in-Some.is c.loop-next.invariant in
    let class = header_there headers c.in-Some.place climbed.there in
    let own = declared c.args.name.now c.args.desc.now class.0.methods in
    let answer = c.own_method.ensures class.0 class.1 in
    let passed : IsPassedOver (Counts headers c.args.counted) c.args.name.now c.args.desc.now class.0.name class.0 = elim c.match-own_method.branch [
      | in-Some-own_method+else-counts w ↦ λ member declares counts.
          let is = answers_some (IsMethodFound headers) class.0.name c.own_method.result own answer w.in-Some-own_method.found w.in-Some-own_method.is in
          let same = same_Some member is.0 (sym declares ∙ is.1) in
          absurd (false≢true (sym w.if-counts.false ∙ (w.counts.ensures (declared_by class.0.name is.0) is.2).1 (subst (λ m. Counts headers c.args.counted (declared_by class.0.name m)) same counts)))
      | in_default-own_method w ↦ λ member declares counts.
          absurd (none-some member (sym (answers_none (IsMethodFound headers) class.0.name c.own_method.result own answer w.in_default-own_method.is) ∙ declares))
    ] in
    subst (IsClimbed headers (Counts headers c.args.counted) c.args.name.now c.args.desc.now c.args.start) (sym c.superclass-next.ensures) (climbed_more headers c.a_tree_is_a_hierarchy.ensures (Counts headers c.args.counted) c.args.name.now c.args.desc.now c.args.start c.in-Some.place class.0 class.1 passed climbed)

pub returns : goal.returns
returns c = λ header at.
    let headers = headers_of c.args.tree.now in
    let climbed = subst (IsClimbed headers (Counts headers c.args.counted) c.args.name.now c.args.desc.now c.args.start) c.in_default.is c.loop-next.invariant in
    (None, climbed.onwards None refl header at, tt)

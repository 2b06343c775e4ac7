use Rattle.std.proofs.Common.{◌≡◌, Some, sym, subst, ◌∙◌}
use Rattle.std.specs.Option.{option_copied}
use Rattle.class_tree.proofs.Duplicates.{AreLeft, IsTaken, none_left, stands_twice, none_twice_before, another_left, same_last, other_last}
use Rattle.class_tree.proofs.arrange.first_duplicate.Goals as goal

pub returns-then-eq-clause-twice : goal.returns-then-eq-clause-twice
returns-then-eq-clause-twice c =
    let split = c.in-Some.ensures in
    let name = c.in-Some.header.now.name in
    let taken : IsTaken c.loop-header.rest name c.in-Some.others = record { folder = split.folder; library = split.library; counts = split.counts; first = split.first } in
    let last : option_copied c.loop-header.last ≡ Some name = same_last c.loop-header.last _ (sym c.eq.ensures ∙ c.if-eq.true) in
    stands_twice c.args.headers.now c.loop-header.rest name c.in-Some.others (subst (AreLeft c.args.headers.now c.loop-header.rest) last c.loop-header.invariant) taken

pub returns-then-eq-clause-first : goal.returns-then-eq-clause-first
returns-then-eq-clause-first c =
    let split = c.in-Some.ensures in
    let name = c.in-Some.header.now.name in
    let taken : IsTaken c.loop-header.rest name c.in-Some.others = record { folder = split.folder; library = split.library; counts = split.counts; first = split.first } in
    let last : option_copied c.loop-header.last ≡ Some name = same_last c.loop-header.last _ (sym c.eq.ensures ∙ c.if-eq.true) in
    none_twice_before c.args.headers.now c.loop-header.rest name c.in-Some.others (subst (AreLeft c.args.headers.now c.loop-header.rest) last c.loop-header.invariant) taken

pub loop-header-preserved : goal.loop-header-preserved
loop-header-preserved c =
    let split = c.in-Some.ensures in
    let name = c.in-Some.header.now.name in
    let taken : IsTaken c.loop-header.rest name c.in-Some.others = record { folder = split.folder; library = split.library; counts = split.counts; first = split.first } in
    another_left c.args.headers.now c.loop-header.rest (option_copied c.loop-header.last) name c.in-Some.others c.loop-header.invariant taken (other_last c.loop-header.last _ (sym c.eq.ensures ∙ c.if-eq.false))

pub returns-clause-none : goal.returns-clause-none
returns-clause-none c = none_left c.args.headers.now c.loop-header.rest (option_copied c.loop-header.last) c.loop-header.invariant c.in_default.ensures.none

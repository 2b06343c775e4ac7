use Rattle.std.proofs.Common.{◌≡◌, List, [], length, inl, inr, arith, sym, ap, subst, ◌∙◌}
use Rattle.std.proofs.lemmas.Bool.{cases_eq, false≢true}
use Rattle.std.proofs.lemmas.List.{nil_from_length}
use Rattle.class_tree.specs.Headers.{Name, Classes, IsThere, class_named, headers_of}
use Rattle.inline_expand.proofs.JudgedChains.{all_judged, last_left, one_less, super_judged, there_in_chain}
use Rattle.inline_expand.specs.Inner.CandidateWords.{IsJudged, IsLeft}
use Rattle.inline_expand.proofs.candidates.Candidates.fields_of.Goals as goal

pub judge-requires-clause-there : goal.judge-requires-clause-there
judge-requires-clause-there c =
    let left = subst (λ (l : List Name). IsLeft c.args.self.now c.args.class.now l c.loop-name.fields) c.in-Some.ensures.items c.loop-name.invariant.1 in
    subst (λ (k : Classes). IsThere (headers_of k) c.in-Some.name) (sym c.loop-name.invariant.0)
    (there_in_chain (last_left c.args.self.now c.args.class.now c.pop.new.self.items c.in-Some.name c.loop-name.fields left))

pub judge-requires-clause-above : goal.judge-requires-clause-above
judge-requires-clause-above c = λ header super is differ some.
    let left = subst (λ (l : List Name). IsLeft c.args.self.now c.args.class.now l c.loop-name.fields) c.in-Some.ensures.items c.loop-name.invariant.1 in
    let found = ap (λ (k : Classes). class_named (headers_of k) c.in-Some.name) (sym c.loop-name.invariant.0) ∙ is in
    subst (λ (k : Classes). IsJudged k super c.loop-name.fields) (sym c.loop-name.invariant.0)
    (super_judged c.args.self.now c.args.class.now c.pop.new.self.items c.in-Some.name c.loop-name.fields left header super found some)

pub loop-name-preserved : goal.loop-name-preserved
loop-name-preserved c =
    let left = subst (λ (l : List Name). IsLeft c.args.self.now c.args.class.now l c.loop-name.fields) c.in-Some.ensures.items c.loop-name.invariant.1 in
    let judged = subst (λ (k : Classes). IsJudged k c.in-Some.name c.in_ok-fields.fields) c.loop-name.invariant.0 c.in_ok-fields.ensures in
    (c.keep.ensures ∙ c.loop-name.invariant.0, one_less c.args.self.now c.args.class.now c.pop.new.self.items c.in-Some.name c.loop-name.fields c.in_ok-fields.fields left judged)

pub returns-clause-judged : goal.returns-clause-judged
returns-clause-judged c =
    let none : c.loop-name.names.items ≡ [] = nil_from_length c.loop-name.names.items (elim (cases_eq (length c.loop-name.names.items) 0) [
      | inl nothing ↦ nothing
      | inr some ↦ absurd (false≢true (c.in_default.ensures.variant.1 (omega (arith, some, c.loop-name.names.ok.0))))
    ]) in
    let left = subst (λ (l : List Name). IsLeft c.args.self.now c.args.class.now l c.loop-name.fields) none c.loop-name.invariant.1 in
    all_judged c.args.self.now c.args.class.now c.loop-name.fields left

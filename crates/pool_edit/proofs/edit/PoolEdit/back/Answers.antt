use Rattle.std.proofs.Common.{ℕ, List, sym, subst}
use Rattle.std.specs.Map.{keys_of}
use Rattle.class_model.specs.declared.pool.Const.{Const}
use Rattle.pool_edit.specs.Edits.{Edit, IsBoundary, TakesBack}
use Rattle.pool_edit.specs.Inner.Kept.{IsKept}
use Rattle.pool_edit.proofs.Keeps.{kept-take, takes-back}
use Rattle.pool_edit.proofs.edit.PoolEdit.back.Goals as goal

pub invariant_of-self : goal.invariant_of-self
invariant_of-self c =
    let i = c.self.inside in
    let cut = c.kept_below-kept in
    let bound = subst (λ (edit : Edit). IsBoundary edit c.args.count) (sym c.self.view_is) c.requires in
    subst (λ (all : List (Const × ℕ)). IsKept i.base i.known all c.args.count) (sym c.truncate.ensures.entries)
    (kept-take i.base i.known i.added.entries i.count c.self.invariant cut.result c.args.count cut.ensures.kept cut.ensures.taken bound.least bound.most bound.no_second)

pub returns : goal.returns
returns c =
    let i = c.self.inside in
    let cut = c.kept_below-kept in
    let bound = subst (λ (edit : Edit). IsBoundary edit c.args.count) (sym c.self.view_is) c.requires in
    let after : Edit → List (Const × ℕ) → Edit = λ old all. record { base = i.base; limit = i.limit; added = keys_of all } in
    subst (λ (old : Edit). TakesBack old c.args.count (after old c.truncate.new.self.entries)) c.self.view_is
    (subst (λ (all : List (Const × ℕ)). TakesBack (record { base = i.base; limit = i.limit; added = keys_of i.added.entries }) c.args.count (after c.args.self.now all)) (sym c.truncate.ensures.entries)
    (takes-back i.base i.known i.added.entries i.count c.self.invariant cut.result c.args.count cut.ensures.kept cut.ensures.taken bound.least bound.most bound.no_second i.limit))

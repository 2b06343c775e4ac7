use Rattle.std.proofs.Common.{Vec, Global, ◌≡◌, ◌++◌, ◌+◌, ◌<◌, List, drop, get_or, length, refl, ap, ◌∙◌, arith}
use Rattle.std.proofs.lemmas.Option.{slice_get_read}
use Rattle.class_model.specs.Laws.Lists.{drop_item}
use Rattle.expanded_code.specs.Expanded.{sites_from}
use Rattle.inline_expand.proofs.CalleeParts.{length-layouts}
use Rattle.inline_expand.proofs.MethodParts.{number-there}
use Rattle.inline_expand.proofs.SiteParts.{callee-done, item-at, numbered-next, room-callee, sites-callee, sites-own}
use Rattle.inline_expand.proofs.expanded.sites.+push_sites.Goals as goal
use Rattle.inline_expand.proofs.expanded.sites.+push_sites.Goals.{in-None+in_ok-push_site-in-None, in-Some+in_ok-push_sites-in-Some}
use Rattle.inline_expand.specs.Inner.CalleePlaces.{callee_in}
use Rattle.inline_expand.specs.Inner.SiteNumbers.{method_at, sites_by}
use Rattle.inline_expand.specs.Inner.Steps.{callees_of, expansion_by}
use Rattle.inline_expand.specs.declared.expanded.sites.NewAt.{NewAt}
use Rattle.inline_expand.specs.declared.expansions.Step.{Step}
use Rattle.member_link.specs.Scope.{instructions}

pub bounds-method-number : goal.bounds-method-number
bounds-method-number t c =
    let m = c.args.method.now in
    let at = c.loop-number.number in
    number-there (callees_of c.args.bodies.now) (method_at m) m.starts.now at (drop at (instructions m.body.now.host)) (drop at c.as_slice-steps.result.now) c.loop-number.invariant.numbered.numbers

pub find-requires : goal.find-requires
find-requires t c = length-layouts c.args.bodies.now c.args.layouts.now c.requires.ready.laid

pub numbered_at-inner-requires-clause-points : goal.numbered_at-inner-requires-clause-points
numbered_at-inner-requires-clause-points t c =
    let m = c.args.method.now in
    let callees = callees_of c.args.bodies.now in
    let instrs = instructions m.body.now.host in
    let steps = c.as_slice-steps.result.now in
    let at = c.loop-number.number in
    let step = c.index-steps-number.result in
    let inside : at < length steps = omega (arith, c.loop-number-test.true) in
    let as-many : length steps ≡ length instrs = ap (λ (all : List Step). length all) c.as_slice-steps.ensures ∙ c.requires.numbers.steps in
    let steps_are = drop_item steps at step (slice_get_read steps (length steps) at step refl inside c.index-steps-number.is) in
    let one = item-at instrs at (omega arith) in
    room-callee (method_at m) m.starts.now m.base callees instrs steps at c.loop-number.invariant.numbered one.0 step one.1 steps_are (callee_in c.in-Some.found) c.in-Some.ensures.some.is

pub loop-number-preserved : goal.loop-number-preserved
loop-number-preserved t c =
    let m = c.args.method.now in
    let callees = callees_of c.args.bodies.now in
    let instrs = instructions m.body.now.host in
    let steps = c.as_slice-steps.result.now in
    let at = c.loop-number.number in
    let step = c.index-steps-number.result in
    let inside : at < length steps = omega (arith, c.loop-number-test.true) in
    let as-many : length steps ≡ length instrs = ap (λ (all : List Step). length all) c.as_slice-steps.ensures ∙ c.requires.numbers.steps in
    let steps_are = drop_item steps at step (slice_get_read steps (length steps) at step refl inside c.index-steps-number.is) in
    let one = item-at instrs at (omega arith) in
    let numbered = c.loop-number.invariant.numbered in
    record {
      numbered = numbered-next (method_at m) m.starts.now m.base callees instrs steps at numbered one.0 step one.1 steps_are;
      done = λ headers.
          let whole = sites_by headers c.args.sites.now.items ++ sites_from headers (method_at m) m.base instrs (expansion_by callees steps) in
          let before = sites_by headers c.loop-number.sites.items in
          let has = c.loop-number.invariant.done headers in
          elim c.match-find.branch [
            | in-None+in_ok-push_site-in-None w ↦
                sites-own (method_at m) m.starts.now m.base callees instrs steps at numbered one.0 step one.1 steps_are headers whole before has (sites_by headers c.match-find.sites.items) w.in-None.ensures.none
                (ap (λ (v : Vec NewAt Global). sites_by headers v.items) w.sites-is ∙ w.in_ok-push_site-in-None.ensures headers)
            | in-Some+in_ok-push_sites-in-Some w ↦
                sites-callee (method_at m) m.starts.now m.base callees instrs steps at numbered one.0 step one.1 steps_are headers whole before has (callee_in w.in-Some.found) (sites_by headers c.match-find.sites.items) w.in-Some.ensures.some.is
                (ap (λ (v : Vec NewAt Global). sites_by headers v.items) w.sites-is
                ∙ callee-done headers w.in-Some.found (m.base + get_or m.starts.now at 0) w.numbered_at-inner.result before (sites_by headers w.push_sites.new.sites.items) w.numbered_at-inner.ensures.behind (w.in_ok-push_sites-in-Some.ensures headers))
          ];
    }

use Rattle.std.proofs.Common.{◌≡◌, ◌+◌, ◌-◌, ◌++◌, ℕ, List, None, length, replicate, ap, ◌∙◌, arith}
use mathlib.Core.Path.{fun_ext}
use Rattle.class_model.specs.declared.frame.VType.{VType}
use Rattle.class_model.specs.declared.frame.VType.TheVariants.{Top, UninitThis}
use Rattle.expanded_code.specs.Alone.{handlers_by, number_at}
use Rattle.expanded_code.specs.Expanded.{number_from, units_in}
use Rattle.inline_expand.proofs.LayoutParts.{as-long}
use Rattle.inline_expand.proofs.PlaceParts.{few-starts, number-placed}
use Rattle.inline_expand.proofs.expanded.hosts.setting_by.Goals as goal
use Rattle.inline_expand.specs.Inner.Measures.{host_expansion}
use Rattle.inline_expand.specs.Inner.Numbers.{placed_by}
use Rattle.inline_expand.specs.Inner.Steps.{callees_of, coded_of}
use Rattle.member_link.specs.Scope.{Scope, instructions}

pub returns-clause-place : goal.returns-clause-place
returns-clause-place c =
    let host = c.args.host.now in
    let expansion = host_expansion c.args.bodies.now host in
    record {
      body = c.requires.host;
      narrows = tt;
      starts = c.as_slice.ensures.value ∙ c.requires.measure.starts ∙ few-starts None 0 (instructions host.host) expansion (omega (arith, c.requires.small.points));
      points = omega (arith, c.requires.small.points);
      units = omega (arith, c.requires.small.units);
    }

pub returns-clause-setting : goal.returns-clause-setting
returns-clause-setting c =
    let host = c.args.host.now in
    let s : Scope = host.host in
    let expansion = host_expansion c.args.bodies.now host in
    let starts = c.as_slice.ensures.value ∙ c.requires.measure.starts ∙ few-starts None 0 (instructions s) expansion (omega (arith, c.requires.small.points)) in
    let number : (λ (at : ℕ). placed_by c.as_slice.result.now 0 (number_at s at)) ≡ number_from None 0 (instructions s) expansion =
    fun_ext (λ at. ap (λ (all : List ℕ). placed_by all 0 (number_at s at)) starts
    ∙ number-placed None 0 (instructions s) expansion at (as-long (callees_of c.args.bodies.now) (instructions s) host.steps c.requires.host.steps)) in
    let units : c.from.result ≡ s.part.max_locals + units_in expansion = omega (arith, c.from.ensures, c.max_locals.ensures, c.requires.measure.units, c.requires.small.units) in
    let count : c.from.result - length c.new-locals.result ≡ s.part.max_locals + units_in expansion = omega (arith, units, ap (λ (all : List VType). length all) c.new-locals.ensures) in
    let locals : c.fill.new.self ≡ replicate (s.part.max_locals + units_in expansion) Top =
    c.fill.ensures
    ∙ ap (λ (all : List VType). all ++ replicate (c.from.result - length c.new-locals.result) Top) c.new-locals.ensures
    ∙ ap (λ (n : ℕ). replicate n Top) count in
    λ i. record {
      coded = coded_of host;
      number = number i;
      unit = 0;
      below = record { locals = locals i; stack = c.new.ensures i };
      this = UninitThis;
      handlers = handlers_by s (number i);
      behind = None;
    }

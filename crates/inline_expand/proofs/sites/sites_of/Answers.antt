use Rattle.std.proofs.Common.{◌≡◌, ◌<◌, ℕ, List, length, slice_get, refl, sym, ap, ◌∙◌, subst, arith}
use Rattle.std.proofs.lemmas.Option.{slice_get_read}
use Rattle.class_model.specs.declared.instr.Placed.{Placed}
use Rattle.class_tree.specs.Headers.{Classes}
use Rattle.inline_expand.proofs.SiteLaws.{sites_begin, sites_more}
use Rattle.inline_expand.specs.Inner.Places.{chain_of, host_of}
use Rattle.inline_expand.specs.Inner.SiteTables.{AreCandidates, AreSites, SpoilsAt}
use Rattle.member_link.specs.Scope.{instructions}
use Rattle.inline_expand.proofs.sites.sites_of.Goals as goal

pub loop-number-init : goal.loop-number-init
loop-number-init c = record {
  sites = sites_begin c.args.place.class.tree.now c.args.place.class.typed.now (host_of c.args.place.line.now) (chain_of c.args.place.line.now) c.args.method.now c.requires.method
      (length (instructions c.args.method.now.host)) c.in_ok-sites.sites.items refl
      (subst (λ (classes : Classes). AreCandidates classes c.args.method.now.host (length (instructions c.args.method.now.host)) c.in_ok-sites.sites.items) c.requires.classes c.in_ok-sites.ensures.found);
  right = c.requires.right;
}

pub loop-number-preserved : goal.loop-number-preserved
loop-number-preserved c =
    let instrs = c.instrs-instrs.result.now in
    let number = c.loop-number.number in
    let placed = c.index-instrs-number.result in
    let within : number < length instrs = omega (arith, c.loop-number-test.true) in
    let placed_is = slice_get_read instrs (length instrs) number placed refl within c.index-instrs-number.is in
    record {
      sites = sites_more c.args.place.class.tree.now c.args.place.class.typed.now (host_of c.args.place.line.now) (chain_of c.args.place.line.now) c.args.method.now c.requires.method
          number c.loop-number.sites.items c.spoil.new.sites.items placed
          (ap (λ (list : List Placed). slice_get list number) (sym c.instrs-instrs.ensures) ∙ placed_is) c.loop-number.invariant.sites
          (subst (λ (p : Placed). SpoilsAt c.args.place.class.tree.now c.args.place.class.typed.now (host_of c.args.place.line.now) (chain_of c.args.place.line.now) c.args.method.now p.at c.loop-number.sites.items c.spoil.new.sites.items) (sym c.index-instrs-number.is) c.in_ok-spoil.ensures.sites);
      right = c.in_ok-spoil.ensures.right;
    }

pub returns-clause-sites : goal.returns-clause-sites
returns-clause-sites c =
    let all : c.loop-number.number ≡ length c.instrs-instrs.result.now = omega (arith, c.loop-number-test.false, c.loop-number.auto.number-end) in
    subst (λ (n : ℕ). AreSites c.args.place.class.tree.now c.args.place.class.typed.now (host_of c.args.place.line.now) (chain_of c.args.place.line.now) c.args.method.now n c.loop-number.sites.items)
    (all ∙ ap (λ (list : List Placed). length list) c.instrs-instrs.ensures) c.loop-number.invariant.sites

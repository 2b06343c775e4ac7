use Rattle.std.proofs.Common.{◌≡◌, ◌<◌, ℕ, List, length, slice_get, refl, sym, ap, ◌∙◌, subst, arith}
use Rattle.std.proofs.lemmas.Option.{slice_get_read}
use Rattle.class_model.specs.declared.instr.Placed.{Placed}
use Rattle.class_tree.specs.Headers.{Classes}
use Rattle.inline_expand.proofs.SiteLaws.{no_candidates, one_more_candidate}
use Rattle.inline_expand.specs.Inner.SiteTables.{AreCandidates, IsCandidateOf, class_made}
use Rattle.inline_expand.proofs.sites.candidates_of.Goals as goal

pub loop-number-init : goal.loop-number-init
loop-number-init c = let h = c.in_ok-classes.ensures in record { found = no_candidates c.args.candidates.now c.args.method.now.host c.in_ok-classes.classes.items h.items; classes = refl }

pub loop-number-preserved : goal.loop-number-preserved
loop-number-preserved c =
    let instrs = c.instrs-instrs.result.now in
    let number = c.loop-number.number in
    let placed = c.index-instrs-number.result in
    let within : number < length instrs = omega (arith, c.loop-number-test.true) in
    let placed_is = slice_get_read instrs (length instrs) number placed refl within c.index-instrs-number.is in
    let far = c.loop-number.invariant in
    record {
      found = one_more_candidate c.args.candidates.now c.args.method.now.host number c.loop-number.classes.items c.push.new.self.items placed c.in_ok-candidate_of.field-0
          (ap (λ (list : List Placed). slice_get list number) (sym c.instrs-instrs.ensures) ∙ placed_is) far.found
          (subst (λ (classes : Classes). IsCandidateOf classes (class_made c.args.method.now.host placed.instr) c.in_ok-candidate_of.field-0) far.classes
          (subst (λ (p : Placed). IsCandidateOf c.loop-number.candidates (class_made c.args.method.now.host p.instr) c.in_ok-candidate_of.field-0) (sym c.index-instrs-number.is) c.in_ok-candidate_of.ensures.found)) c.in_ok-push.ensures.items;
      classes = c.in_ok-candidate_of.ensures.classes ∙ far.classes;
    }

pub returns-clause-found : goal.returns-clause-found
returns-clause-found c =
    let all : c.loop-number.number ≡ length c.instrs-instrs.result.now = omega (arith, c.loop-number-test.false, c.loop-number.auto.number-end) in
    subst (λ (n : ℕ). AreCandidates c.args.candidates.now c.args.method.now.host n c.loop-number.classes.items)
    (all ∙ ap (λ (list : List Placed). length list) c.instrs-instrs.ensures) c.loop-number.invariant.found

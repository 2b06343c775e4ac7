use Rattle.std.proofs.Common.{◌≡◌, Some, sym, subst, arith}
use Rattle.class_tree.specs.Headers.{Name, Classes, headers_of}
use Rattle.class_tree.specs.Order.{place_of}
use Rattle.class_tree.specs.declared.place.Place.TheVariants.{Folder}
use Rattle.inline_expand.proofs.JudgedClasses.{kept_more}
use Rattle.inline_expand.specs.Inner.CandidateWords.{IsKept}
use Rattle.inline_expand.proofs.candidates.Candidates.put.Goals as goal

pub invariant_of-self : goal.invariant_of-self
invariant_of-self c = (
  c.self.invariant.0,
  kept_more c.self.inside.tree.now c.self.inside.judged.items c.args.number c.args.judged (omega (arith, c.if-number-len.true, c.len.ensures, c.self.inside.judged.ok.0)) c.self.invariant.1
      (subst (λ (k : Classes). (name : Name) → place_of (headers_of k) name ≡ Some (Folder c.args.number) → IsKept k name c.args.judged) (sym c.self.view_is) c.requires),
  c.self.invariant.2,
)

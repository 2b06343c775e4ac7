use Rattle.std.proofs.Common.{rules, ◌≡◌, List, slice_get, Some, subst, arith}
use Rattle.std.proofs.lemmas.Grind.{common_steps}
use Rattle.std.proofs.lemmas.Result.{on_ok_weaker}
use Rattle.code_drafts.proofs.CarriedLaws.{host_needs}
use Rattle.code_drafts.proofs.carried.index_in_host.Goals as goal
use Rattle.code_drafts.specs.Writable.{scope}
use Rattle.making_code.specs.Constants.{Need}
use Rattle.materialise.specs.Growing.{Grows}

pub returns-in-Some-get-clause-ok : goal.returns-in-Some-get-clause-ok
returns-in-Some-get-clause-ok c =
    let there : slice_get c.args.setting.now.classes.folder c.args.class ≡ Some c.in-Some-get.file.now = first_of (search rules, grind (arith, common_steps)) in
    on_ok_weaker c.add_meant.result
    (λ grows links. subst (λ (needs : List Need). Grows c.args.pool.now needs c.add_meant.new.pool)
    (host_needs (scope c.args.setting.now links) c.args.class c.in-Some.index c.args.named c.in-Some-get.file.now there c.in-Some.is) grows)
    c.add_meant.ensures.ok

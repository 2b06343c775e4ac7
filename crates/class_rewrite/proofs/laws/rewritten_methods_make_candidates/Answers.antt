use Rattle.std.proofs.Common.{subst}
use Rattle.class_rewrite.proofs.SomeClasses.{some_class}
use Rattle.class_rewrite.proofs.WrittenFolders.{site_of}
use Rattle.class_rewrite.proofs.WrittenInstrs.{IsSiteClass, MakesSite, made_of_sites}
use Rattle.class_rewrite.proofs.laws.rewritten_methods_make_candidates.Goals as goal
use Rattle.expanded_code.specs.Candidates.{IsCandidate}
use Rattle.expanded_code.specs.CandidateSites.{IsSite}
use Rattle.plan_flow.specs.Written.WrittenPrograms.{plan_scope}

pub returns : goal.returns
returns c = λ r at w class tree linked types are is makes.
    let planned = is.is.coded.planned in
    let some = some_class r.classes at is.is.host is.is.is_host in
    let program = c.a_verified_folder_is_a_typed_program.ensures r.classes r.typed r.links tree linked types are some in
    let sites =
    c.an_expanded_flat_code_is_ready.ensures.sites r.classes r.typed r.links program.0 at w.one.flat tree types are program.1 program.2 planned.flat.1
    planned.flat.0.host in
    let one : IsSiteClass w.one.flat class =
    subst (MakesSite w.one.flat) makes.makes_it
    (made_of_sites (plan_scope r.classes r.links w.one) w.one.form w.one.routes makes.number makes.item makes.is_item) in
    subst (IsCandidate r.classes) one.named
    (site_of (IsSite r.classes w.one.flat) w.one.flat.sites one.number one.site sites.sites one.is_site).candidate

use Rattle.std.proofs.Common.{◌≡◌, true, refl, sym, ap, subst, ◌∙◌}
use Rattle.std.specs.List.{list_all}
use Rattle.std.proofs.lemmas.Result.{err_from_is_err_and}
use Rattle.class_model.specs.ModifiedUtf8.{is_plain_text}
use Rattle.class_model.specs.Checks.{asked_each}
use Rattle.class_model.specs.Laws.Checks.{Remain, all_remain, asked_all, passes}
use Rattle.class_model.specs.Laws.Lists.{passes_at}
use Rattle.class_tree.specs.Laws.Links.{fails}
use Rattle.class_tree.specs.Names.{base_names}
use Rattle.class_tree.proofs.BaseChecks.{library_check, asked_each-map, asked_name}
use Rattle.class_tree.proofs.base.check_names.Goals as goal

pub loop-name-init : goal.loop-name-init
loop-name-init c =
    subst (Remain (asked_each (library_check c.args.headers.now) base_names))
    (ap (asked_each (library_check c.args.headers.now)) (sym c.base_names-name-items.ensures) ∙ asked_each-map (library_check c.args.headers.now) (λ name. name.now) c.base_names-name-items.result.now)
    (all_remain (asked_each (library_check c.args.headers.now) base_names))

pub ask_named-requires : goal.ask_named-requires
ask_named-requires c =
    let plain : list_all is_plain_text base_names ≡ true = refl in
    passes_at is_plain_text (λ name. name.now) c.base_names-name-items.result.now c.loop-name.name-index _ (ap (list_all is_plain_text) c.base_names-name-items.ensures ∙ plain) c.loop-name-test.true

pub returns-in_err-ask_named : goal.returns-in_err-ask_named
returns-in_err-ask_named c =
    let p = err_from_is_err_and c.from_residual.result c.from_residual.ensures.1 in
    rw (p.1, p.2) (fails _ _ (asked_name (λ name. library_check c.args.headers.now name.now) c.base_names-name-items.result.now c.loop-name.name-index _ c.loop-name-test.true c.loop-name.invariant) c.is_in_library.ensures c.in_err-ask_named.ensures)

pub loop-name-preserved : goal.loop-name-preserved
loop-name-preserved c =
    passes (asked_name (λ name. library_check c.args.headers.now name.now) c.base_names-name-items.result.now c.loop-name.name-index _ c.loop-name-test.true c.loop-name.invariant) (c.is_in_library.ensures.0 c.in_ok-ask_named.ensures.0)

pub returns : goal.returns
returns c =
    asked_all (λ name. library_check c.args.headers.now name.now) c.base_names-name-items.result.now c.loop-name.name-index c.loop-name-test.false c.loop-name.invariant

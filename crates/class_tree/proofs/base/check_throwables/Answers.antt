use Rattle.std.proofs.Common.{◌≡◌, true, refl, sym, ap, subst, ◌∙◌}
use Rattle.std.specs.List.{list_all}
use Rattle.std.specs.Option.{is_some}
use Rattle.std.proofs.lemmas.Bool.{false≢true}
use Rattle.std.proofs.lemmas.Result.{err_from_is_err_and}
use Rattle.class_model.specs.ModifiedUtf8.{is_plain_text}
use Rattle.class_model.specs.Checks.{asked_each}
use Rattle.class_model.specs.Laws.Checks.{Remain, all_remain, asked_all, passes}
use Rattle.class_model.specs.Laws.Lists.{passes_at}
use Rattle.class_tree.specs.Laws.Links.{fails}
use Rattle.class_tree.specs.Names.{throwable, machine_throwables}
use Rattle.class_tree.proofs.BaseChecks.{throwable_check, asked_each-map, asked_name}
use Rattle.class_tree.proofs.Places.{class_of_no_number}
use Rattle.class_tree.proofs.base.check_throwables.Goals as goal

pub unreachable-requires : goal.unreachable-requires
unreachable-requires c =
    false≢true (sym (ap is_some (class_of_no_number c.args.headers.now throwable (sym c.in_default.ensures))) ∙ c.requires.there)

pub loop-name-init : goal.loop-name-init
loop-name-init c =
    subst (Remain (asked_each (throwable_check c.args.headers.now) machine_throwables))
    (ap (asked_each (throwable_check c.args.headers.now)) (sym c.machine_throwables-name-items.ensures) ∙ asked_each-map (throwable_check c.args.headers.now) (λ name. name.now) c.machine_throwables-name-items.result.now)
    (all_remain (asked_each (throwable_check c.args.headers.now) machine_throwables))

pub ask_named-requires : goal.ask_named-requires
ask_named-requires c =
    let plain : list_all is_plain_text machine_throwables ≡ true = refl in
    passes_at is_plain_text (λ name. name.now) c.machine_throwables-name-items.result.now c.loop-name.name-index _ (ap (list_all is_plain_text) c.machine_throwables-name-items.ensures ∙ plain) c.loop-name-test.true

pub returns-in_err-ask_named : goal.returns-in_err-ask_named
returns-in_err-ask_named c =
    let p = err_from_is_err_and c.from_residual-in_err-ask_named.result c.from_residual-in_err-ask_named.ensures.1 in
    rw (p.1, p.2) (fails _ _ (asked_name (λ name. throwable_check c.args.headers.now name.now) c.machine_throwables-name-items.result.now c.loop-name.name-index _ c.loop-name-test.true c.loop-name.invariant) (c.in_ok-is_throwable.ensures throwable (sym c.in-Some.ensures)) c.in_err-ask_named.ensures)

pub loop-name-preserved : goal.loop-name-preserved
loop-name-preserved c =
    passes (asked_name (λ name. throwable_check c.args.headers.now name.now) c.machine_throwables-name-items.result.now c.loop-name.name-index _ c.loop-name-test.true c.loop-name.invariant) ((c.in_ok-is_throwable.ensures throwable (sym c.in-Some.ensures)).0 c.in_ok-ask_named.ensures.0)

pub returns : goal.returns
returns c =
    asked_all (λ name. throwable_check c.args.headers.now name.now) c.machine_throwables-name-items.result.now c.loop-name.name-index c.loop-name-test.false c.loop-name.invariant

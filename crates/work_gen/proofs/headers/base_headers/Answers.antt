use Rattle.std.proofs.Common.{◌≡◌, ◌++◌, [], ◌∷◌, true, map, take, Bor, refl, ap, ◌∙◌}
use Rattle.std.specs.List.{list_all}
use Rattle.class_model.specs.ModifiedUtf8.{is_plain_text}
use Rattle.class_model.specs.Laws.Lists.{passes_at}
use Rattle.class_model.specs.declared.header.Header.{Header}
use Rattle.class_tree.specs.Headers.{Name}
use Rattle.class_tree.specs.Names.{throwable, machine_throwables}
use Rattle.work_gen.specs.BaseLibrary.{named_headers, thrown_header}
use Rattle.work_gen.proofs.Appended.{one_appended, all_appended}
use Rattle.work_gen.proofs.headers.base_headers.Goals as goal

pub thrown_header-requires-clause-name : goal.thrown_header-requires-clause-name
thrown_header-requires-clause-name c =
    let plain : list_all is_plain_text machine_throwables ≡ true = refl in
    passes_at is_plain_text (λ name. name.now) c.machine_throwables-name-items.result.now c.loop-name.name-index _ (ap (list_all is_plain_text) c.machine_throwables-name-items.ensures ∙ plain) c.loop-name-test.true

pub loop-name-preserved : goal.loop-name-preserved
loop-name-preserved c =
    let thrown_of : Bor Name → Header = λ name. thrown_header throwable name.now in
    let before = named_headers ++ map thrown_of (take c.loop-name.name-index c.machine_throwables-name-items.result.now) in
    c.in_ok-push.ensures.ok
    ∙ ap (λ headers. headers ++ c.in_ok-thrown_header.field-0 ∷ []) c.loop-name.invariant
    ∙ ap (λ header. before ++ header ∷ []) c.in_ok-thrown_header.ensures
    ∙ one_appended thrown_of named_headers c.machine_throwables-name-items.result.now c.loop-name.name-index _ c.loop-name-test.true

pub returns : goal.returns
returns c =
    let all = all_appended (thrown_header throwable) (λ name. name.now) named_headers c.machine_throwables-name-items.result.now c.loop-name.name-index c.loop-name-test.false in
    c.loop-name.invariant ∙ all ∙ ap (λ names. named_headers ++ map (thrown_header throwable) names) c.machine_throwables-name-items.ensures

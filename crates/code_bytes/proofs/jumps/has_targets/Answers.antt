-- The default is a start, and then the others are asked.
use Rattle.std.proofs.Common.{◌≡◌, sym, ◌∙◌, rules, tests}
use Rattle.std.specs.List.{list_all}
use Rattle.std.proofs.lemmas.Iterator.{YieldsList-from_slice}
use Rattle.std.proofs.lemmas.Iterator.Search.{all_from_yields_List}
use Rattle.std.proofs.lemmas.List.Folds.{list_all-map}
use Rattle.class_model.specs.declared.instr.Pair.{Pair}
use Rattle.class_model.specs.Instructions.{is_start}
use Rattle.code_bytes.proofs.jumps.has_targets.Goals as goal

pub returns-then-has_start : goal.returns-then-has_start
returns-then-has_start c =
    let test = is_start c.args.code.now in
    let all : c.all.result ≡ list_all test c.as_slice.result.now = all_from_yields_List test _ _ _ c.all.ensures.ran (YieldsList-from_slice c.as_slice.result.now cc) (λ x b q k. search (rules, tests)) in
    rw (c.in-Table.is, ← c.if-has_start.ensures, ← c.as_slice.ensures) all

pub returns-then-has_start-2 : goal.returns-then-has_start-2
returns-then-has_start-2 c =
    let test = is_start c.args.code.now in
    let all : c.all-then-has_start-2.result ≡ list_all (λ (pair : Pair). test pair.to) c.as_slice-then-has_start-2.result.now =
    all_from_yields_List (λ pair. test pair.to) _ _ _ c.all-then-has_start-2.ensures.ran (YieldsList-from_slice c.as_slice-then-has_start-2.result.now cc) (λ x b q k. search (rules, tests)) in
    rw (c.in-Lookup.is, ← c.if-has_start-2.ensures, ← c.as_slice-then-has_start-2.ensures) (all ∙ sym (list_all-map test (λ (pair : Pair). pair.to) c.as_slice-then-has_start-2.result.now))

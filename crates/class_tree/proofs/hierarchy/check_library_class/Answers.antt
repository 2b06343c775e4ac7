use Rattle.std.proofs.Common.{◌≡◌, ◌↔◌, true, map, Some}
use Rattle.std.specs.List.{AllByRecursion}
use Rattle.std.proofs.lemmas.Result.{err_from_is_err_and}
use Rattle.class_model.specs.Laws.Checks.{all_remain, passes, not_so}
use Rattle.class_tree.specs.Headers.{IsThere}
use Rattle.class_tree.specs.Laws.Links.{fails, ends}
use Rattle.class_tree.specs.Inner.Nodes.{number_of}
use Rattle.class_tree.specs.Steps.{supers, library_checks, IsOutside}
use Rattle.class_tree.proofs.SuperNumbers.{there_decides, numbers_of_all, are_outside}
use Rattle.class_tree.proofs.hierarchy.check_library_class.Goals as goal
use Rattle.class_tree.proofs.hierarchy.check_library_class.Goals.{After-are_there, After-are_outside}

are_there : (c : After-are_there) → (c.are_there.result ≡ true) ↔ AllByRecursion (IsThere c.args.headers.now) (supers c.args.header.now)
are_there c = there_decides c.args.headers.now (supers c.args.header.now) c.args.above.now c.are_there.result c.requires.above c.are_there.ensures

numbers : (c : After-are_outside) → map (number_of c.args.headers.now) (supers c.args.header.now) ≡ map Some c.args.above.now
numbers c =
    let there = there_decides c.args.headers.now (supers c.args.header.now) c.args.above.now c.are_there.result c.requires.above c.are_there.ensures in
    numbers_of_all c.args.headers.now (supers c.args.header.now) c.args.above.now c.requires.above (there.0 c.in_ok-ask.ensures.0)

are_outside_all : (c : After-are_outside) → (c.are_outside.result ≡ true) ↔ AllByRecursion (IsOutside c.args.headers.now) (supers c.args.header.now)
are_outside_all c = rw c.are_outside.ensures (are_outside c.args.headers.now (supers c.args.header.now) c.args.above.now (numbers c))

pub returns-in_err-ask : goal.returns-in_err-ask
returns-in_err-ask c =
    let p = err_from_is_err_and c.from_residual.result c.from_residual.ensures.1 in
    let left = all_remain (library_checks c.args.headers.now c.args.header.now) in
    rw (p.1, p.2) (fails c.are_there.result _ left (are_there (goal.at.returns-in_err-ask c).After-are_there) c.in_err-ask.ensures)

pub returns-in_err-ask-2 : goal.returns-in_err-ask-2
returns-in_err-ask-2 c =
    let p = err_from_is_err_and c.from_residual-in_err-ask-2.result c.from_residual-in_err-ask-2.ensures.1 in
    let there = (are_there (goal.at.returns-in_err-ask-2 c).After-are_there).0 c.in_ok-ask.ensures.0 in
    let left = passes (all_remain (library_checks c.args.headers.now c.args.header.now)) there in
    rw (p.1, p.2) (fails c.are_outside.result _ left (are_outside_all (goal.at.returns-in_err-ask-2 c).After-are_outside) c.in_err-ask-2.ensures)

pub returns-in_err-ask-3 : goal.returns-in_err-ask-3
returns-in_err-ask-3 c =
    let p = err_from_is_err_and c.from_residual-in_err-ask-3.result c.from_residual-in_err-ask-3.ensures.1 in
    let there = (are_there (goal.at.returns-in_err-ask-3 c).After-are_there).0 c.in_ok-ask.ensures.0 in
    let outside = (are_outside_all (goal.at.returns-in_err-ask-3 c).After-are_outside).0 c.in_ok-ask-2.ensures.0 in
    let left = passes (passes (all_remain (library_checks c.args.headers.now c.args.header.now)) there) outside in
    rw (p.1, p.2) (fails _ _ left (not_so c.requires.circle) c.in_err-ask-3.ensures)

pub fits_kinds-requires : goal.fits_kinds-requires
fits_kinds-requires c = numbers (goal.at.fits_kinds-requires c).After-are_outside

pub returns : goal.returns
returns c =
    let there = (are_there (goal.at.returns c).After-are_there).0 c.in_ok-ask.ensures.0 in
    let outside = (are_outside_all (goal.at.returns c).After-are_outside).0 c.in_ok-ask-2.ensures.0 in
    let left = passes (passes (all_remain (library_checks c.args.headers.now c.args.header.now)) there) outside in
    ends _ _ (passes left ((not_so c.requires.circle).0 c.in_ok-ask-3.ensures.0)) c.fits_kinds.ensures c.ask-4.ensures

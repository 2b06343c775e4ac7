use Rattle.std.proofs.Common.{Some, subst}
use Rattle.class_tree.specs.Headers.{headers_of}
use Rattle.member_link.specs.Inner.Counting.{Counts}
use Rattle.member_link.specs.Found.{AreSame, IsMethodFound}
use Rattle.member_link.specs.Selection.{first_upwards, by_default}
use Rattle.member_link.specs.Inner.SelectionSteps.{CountsFrom, choice_by}
use Rattle.member_link.specs.Upwards.{FirstUpwards}
use Rattle.member_link.proofs.FoundOr.{some_same, none_same}
use Rattle.member_link.proofs.UpwardsOnce.{upwards_as}
use Rattle.member_link.proofs.selection.choose.Goals as goal

pub returns-in-Some : goal.returns-in-Some
returns-in-Some c = λ header found at is.
    let headers = headers_of c.args.tree.now in
    let method = c.args.method.now in
    let Other = CountsFrom headers header.name found c.args.form in
    let up = c.in-Some.ensures header at in
    let same = some_same (IsMethodFound headers) c.in-Some.found up.0 up.2 in
    let first = upwards_as headers (Counts headers c.counted_for-counted.result) method.name method.desc Other (λ other. c.counted_for-counted.ensures.same header found other at is) up.1 in (
      choice_by c.args.form same.0,
      first_upwards same.0 (subst (FirstUpwards headers Other method.name method.desc header.name) same.1 first),
      c.chosen_by.ensures headers same.0 (subst (AreSame (IsMethodFound headers) (Some c.in-Some.found)) same.1 up.2),
    )

pub returns-in-None : goal.returns-in-None
returns-in-None c = λ header found at is.
    let headers = headers_of c.args.tree.now in
    let method = c.args.method.now in
    let Other = CountsFrom headers header.name found c.args.form in
    let up = c.in-None.ensures header at in
    let none = none_same (IsMethodFound headers) up.0 up.2 in
    let first = upwards_as headers (Counts headers c.counted_for-counted.result) method.name method.desc Other (λ other. c.counted_for-counted.ensures.same header found other at is) up.1 in
    let chosen = c.by_default.ensures header at in
    (chosen.0, by_default chosen.0 (subst (FirstUpwards headers Other method.name method.desc header.name) none first) chosen.1, chosen.2)

use Rattle.std.proofs.Common.{◌≡◌, ◌+◌, ℕ, length, slice_get, Some, None, refl, sym, ap, subst, ◌∙◌, arith}
use Rattle.std.proofs.lemmas.Bool.{false≢true}
use Rattle.std.proofs.lemmas.Option.{slice_get_read}
use Rattle.class_model.specs.Descriptors.{kind_of, units_of}
use Rattle.class_tree.specs.Headers.{headers_of}
use Rattle.inline_expand.proofs.StandingParts.{IsSaidOfRest, few_units, said_more, said_of_none, said_too_much}
use Rattle.inline_expand.proofs.standing.say_at_most.Goals as goal

pub returns-in_default : goal.returns-in_default
returns-in_default c =
    let headers = headers_of c.args.tree.now in
    let types = c.args.types.now in
    let locals = c.args.locals.now in
    let index = c.loop-type_.type_-index in
    let unit = c.loop-type_.unit in
    let at = slice_get_read types (length types) index c.type_-item.result refl c.loop-type_-test.true c.type_-item.is in
    let none : slice_get locals unit ≡ None = sym c.in_default.ensures in (
      λ yes. absurd (false≢true yes),
      λ all. absurd (said_of_none headers types locals c.args.from index unit c.loop-type_.invariant.0 c.type_-item.result at none all),
    )

pub returns-then-not-says_at_most : goal.returns-then-not-says_at_most
returns-then-not-says_at_most c =
    let headers = headers_of c.args.tree.now in
    let types = c.args.types.now in
    let locals = c.args.locals.now in
    let index = c.loop-type_.type_-index in
    let unit = c.loop-type_.unit in
    let at = slice_get_read types (length types) index c.type_-item.result refl c.loop-type_-test.true c.type_-item.is in
    let held : slice_get locals unit ≡ Some c.in-Some.said.now = sym c.in-Some.ensures in (
      λ yes. absurd (false≢true yes),
      λ all. absurd (said_too_much headers types locals c.args.from index unit c.loop-type_.invariant.0 c.type_-item.result at c.in-Some.said.now held
          (λ says. false≢true (sym c.if-not-says_at_most.true ∙ c.says_at_most.ensures.1 says)) all),
    )

pub loop-type_-preserved : goal.loop-type_-preserved
loop-type_-preserved c =
    let headers = headers_of c.args.tree.now in
    let types = c.args.types.now in
    let locals = c.args.locals.now in
    let index = c.loop-type_.type_-index in
    let unit = c.loop-type_.unit in
    let type = c.type_-item.result in
    let at = slice_get_read types (length types) index type refl c.loop-type_-test.true c.type_-item.is in
    let held : slice_get locals unit ≡ Some c.in-Some.said.now = sym c.in-Some.ensures in
    let more = said_more headers types locals c.args.from index unit c.loop-type_.invariant.0 type at c.in-Some.said.now held (c.says_at_most.ensures.0 c.if-not-says_at_most.false) in
    let wide : units_of (kind_of type) ≡ c.from-unit.result = sym (c.from-unit.ensures ∙ c.units.ensures ∙ ap units_of c.kind.ensures) in
    let few = few_units type in (
      subst (λ (n : ℕ). IsSaidOfRest headers types locals c.args.from (index + 1) (unit + n)) wide more,
      omega (arith, c.loop-type_.invariant.1, few, wide),
    )

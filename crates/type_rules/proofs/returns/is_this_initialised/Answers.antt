use Rattle.std.proofs.Common.{sym, subst, ◌∙◌}
use Rattle.std.proofs.lemmas.Bool.{false≢true, false_from_ne_true}
use Rattle.member_link.specs.Rows.MemberRows.{NoUninitThis}
use Rattle.type_rules.proofs.UninitThis.{none_found, none_there}
use Rattle.type_rules.proofs.returns.is_this_initialised.Goals as goal

pub returns-then-not-has_uninit_this : goal.returns-then-not-has_uninit_this
returns-then-not-has_uninit_this c =
    let none = none_found c.args.frame.now.locals (false_from_ne_true _ (λ found. false≢true (sym c.if-not-has_uninit_this.true ∙ c.has_uninit_this.ensures.1 found))) in
    (λ told. (none, subst NoUninitThis c.as_slice.ensures (c.has_no_uninit_this.ensures.0 told)), λ both. c.has_no_uninit_this.ensures.1 (subst NoUninitThis (sym c.as_slice.ensures) both.1))

pub returns-else-not-has_uninit_this : goal.returns-else-not-has_uninit_this
returns-else-not-has_uninit_this c =
    let found = c.if-not-has_uninit_this.false in
    (λ same. absurd (false≢true (rw found at same)), λ both. absurd (false≢true (sym (none_there c.args.frame.now.locals both.0) ∙ c.has_uninit_this.ensures.0 found)))

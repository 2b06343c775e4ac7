use Rattle.std.proofs.Common.{◌↔◌, IsTrue, sym, subst}
use Rattle.member_link.specs.Inner.NeededForms.{IsMethodForm}
use Rattle.member_link.proofs.forms.fits_method.Goals as goal

pub returns-in-Call : goal.returns-in-Call
returns-in-Call c = λ headers constant reference declared callee flags.
    subst (λ form. IsTrue c.fits_call.result ↔ IsMethodForm headers form constant reference declared) (sym c.in-Call.is) (c.fits_call.ensures headers constant reference declared callee flags)

-- An entry of the table.
use Rattle.std.proofs.Common.{subst}
use Rattle.std.specs.Prelude.{IfSome}
use Rattle.class_bytes.specs.Inner.TextNumbers.{Numbers, IsNumberAt}
use Rattle.class_bytes.proofs.Numbering.{known_number}
use Rattle.class_bytes.proofs.text_numbers.TextNumbers.known.Goals as goal

pub returns : goal.returns
returns c =
    let found = c.in_ok-get.ensures.lookup in
    subst (λ (all : Numbers). IfSome c.in_ok-get.field-0.now (IsNumberAt all c.args.index)) c.self.view_is
    (known_number _ c.self.inside.known.items c.deref.result.now _ _ _ c.self.invariant c.deref.ensures.value c.from.ensures found.3.0 found.1)

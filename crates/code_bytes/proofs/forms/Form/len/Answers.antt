use Rattle.std.proofs.Common.{length, ap, arith}
use Rattle.code_bytes.proofs.FormLengths.{table_length, lookup_length}
use Rattle.code_bytes.specs.Inner.FormBytes.{form_bytes}
use Rattle.code_bytes.proofs.forms.Form.len.Goals as goal

pub returns-in-Table-clause-len : goal.returns-in-Table-clause-len
returns-in-Table-clause-len c =
    let form = c.in-Table in
    omega (arith, ap (λ f. length (form_bytes f)) form.is, table_length form.at form.field-1 form.field-2 form.targets.now)

pub returns-in-Lookup-clause-len : goal.returns-in-Lookup-clause-len
returns-in-Lookup-clause-len c =
    let form = c.in-Lookup in
    omega (arith, ap (λ f. length (form_bytes f)) form.is, lookup_length form.at form.field-1 form.pairs.now)

use Rattle.std.proofs.Common.{◌≡◌, ◌+◌, ℕ, List, subst, sym, ap, ◌∙◌, arith}
use Rattle.class_model.specs.Descriptors.{kind_of, units_of}
use Rattle.class_model.specs.declared.descriptor.FieldType.{FieldType}
use Rattle.class_model.proofs.DescriptorGrammar.{shorter}
use Rattle.class_model.proofs.Parameters.{Read, read_none, read_more, no_first, too_many, all_read}
use Rattle.class_model.proofs.Variants.{passed_on}
use Rattle.class_model.proofs.descriptor.parameters_at.Goals as goal

pub loop-after-init : goal.loop-after-init
loop-after-init c = subst (λ (t : List FieldType). Read c.args.bytes.now t 0 c.args.bytes.now) (sym c.new-params.ensures) (read_none _)

pub returns-in-Some-clause-read : goal.returns-in-Some-clause-read
returns-in-Some-clause-read c = all_read _ _ _ _ _ c.loop-after.invariant c.in-Some.ensures.some

pub returns-in_err-param-clause-bad_name : goal.returns-in_err-param-clause-bad_name
returns-in_err-param-clause-bad_name c = λ bad. no_first _ _ _ _ c.loop-after.invariant c.in_default.ensures.none (c.in_err-param.ensures.bad_name (passed_on _ _ _ c.from_residual.ensures.1 bad))

pub returns-then-units-gt-MAX_UNITS-clause-bad_name : goal.returns-then-units-gt-MAX_UNITS-clause-bad_name
returns-then-units-gt-MAX_UNITS-clause-bad_name c = λ bad.
    let units : c.units-units.result ≡ units_of (kind_of c.in_ok-param.param) = c.units-units.ensures ∙ ap units_of c.kind.ensures in
    too_many _ _ _ _ c.loop-after.invariant c.in_default.ensures.none _ _ c.in_ok-param.ensures.read (omega (arith, units))

pub loop-after-smaller : goal.loop-after-smaller
loop-after-smaller c = shorter _ _ _ c.in_ok-param.ensures.read

pub loop-after-preserved : goal.loop-after-preserved
loop-after-preserved c =
    let units : c.units-units.result ≡ units_of (kind_of c.in_ok-param.param) = c.units-units.ensures ∙ ap units_of c.kind.ensures in
    let next = c.loop-after.units + c.units-units.result in
    let now = read_more _ _ _ _ c.loop-after.invariant c.in_default.ensures.none _ _ c.in_ok-param.ensures.read next (ap (λ (n : ℕ). c.loop-after.units + n) units) (omega arith) in
    subst (λ (t : List FieldType). Read c.args.bytes.now t next c.in_ok-param.after.now) (sym c.in_ok-push.ensures.ok) now

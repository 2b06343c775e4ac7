use Rattle.std.proofs.Common.{◌≡◌, length, arith, rules}
use Rattle.std.specs.Prelude.{min}
use Rattle.class_tree.specs.Headers.{headers_of}
use Rattle.type_rules.proofs.ChangedLocals.{changed_assignable}
use Rattle.type_rules.proofs.assignability.are_changed_locals_assignable.Goals as goal

pub returns : goal.returns
returns c = λ yes before stack same might.
    let locals = c.args.locals.now in
    let stop : c.min-at-end.result ≡ min c.args.end (length locals) = search rules in
    changed_assignable (headers_of c.args.tree.now) locals c.args.to.now c.args.from c.args.end c.min-at-end.result stop
    (λ at low below. c.loop-at.invariant at low (omega (arith, below, c.loop-at-test.false))) before stack same might

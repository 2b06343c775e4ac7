use Rattle.std.proofs.Common.{◌≡◌, true, false, sym, rules}
use Rattle.member_link.specs.Machine.Worlds.{is_begun}
use Rattle.machine_run.proofs.ComesFirst.{one_named}
use Rattle.machine_run.proofs.coming_first.unbegun_named.Goals as goal

pub returns-then-contains-clause-first : goal.returns-then-contains-clause-first
returns-then-contains-clause-first c = λ P is.
    let begun : is_begun c.args.memory.now c.in-Some.class ≡ true = search rules in
    sym (one_named P c.args.memory.now c.args.name.now c.in-Some.class true (sym (c.in-Some.ensures P is)) begun)

pub returns-else-contains-clause-first : goal.returns-else-contains-clause-first
returns-else-contains-clause-first c = λ P is.
    let begun : is_begun c.args.memory.now c.in-Some.class ≡ false = search rules in
    sym (one_named P c.args.memory.now c.args.name.now c.in-Some.class false (sym (c.in-Some.ensures P is)) begun)

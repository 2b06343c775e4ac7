use Rattle.std.proofs.Common.{arith}
use Rattle.class_model.specs.Laws.Lists.{at_index}
use Rattle.constructor_methods.proofs.ConstructLaws.{item_there}
use Rattle.constructor_methods.proofs.constructor_bytes.bytes_of.Goals as goal
use Rattle.constructor_methods.specs.Inner.ConstructorWords.{IsShortForm}

pub encode_into-requires : goal.encode_into-requires
encode_into-requires c =
    let at = c.loop-instr.instr-index in
    let there = item_there c.args.instrs.now at c.instr-item.result c.loop-instr-test.true c.instr-item.is in
    let short = at_index IsShortForm c.args.instrs.now at c.instr-item.result c.requires.short there in
    let bytes = c.loop-instr.invariant.1 in
    let test = c.loop-instr-test.true in
    let few = c.requires.few in
    let len = c.len-at.ensures in
    record { place = omega (arith, bytes, test, few, len); targets = short.no_targets; form = short.form c.len-at.result }

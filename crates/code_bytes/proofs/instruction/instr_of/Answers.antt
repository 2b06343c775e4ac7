-- The opcode's layout finds its row.
use Rattle.std.proofs.Common.{◌<◌, Some, None, get_or, sym, subst, rules}
use Rattle.class_model.specs.Answers.{Gives}
use Rattle.class_model.specs.Instructions.{Read, instr_at}
use Rattle.code_bytes.proofs.Rows.{at_layout}
use Rattle.code_bytes.proofs.Sizes.{given_fits}
use Rattle.code_bytes.proofs.instruction.instr_of.Goals as goal
use Rattle.code_bytes.proofs.instruction.instr_of.Goals.{After-with_layout}

read : (c : After-with_layout) → Gives (instr_at c.args.source.now.at c.args.source.now.bytes.now) c.with_layout.result
read c =
    let s = c.args.source.now in
    let below : get_or s.bytes.now 0 0 < 256 = search rules in
    subst (λ (form : Read). Gives form c.with_layout.result) (sym (at_layout s.at s.bytes.now (Some c.in-Some.layout) c.requires below c.in-Some.ensures)) c.with_layout.ensures

pub returns-in-Some : goal.returns-in-Some
returns-in-Some c = record { read = read c; size = given_fits c.args.source.now.at c.args.source.now.bytes.now c.with_layout.result c.requires (read c) }

pub returns-in-None-clause-read : goal.returns-in-None-clause-read
returns-in-None-clause-read c =
    let s = c.args.source.now in
    let below : get_or s.bytes.now 0 0 < 256 = search rules in
    let none = at_layout s.at s.bytes.now None c.requires below c.in-None.ensures in
    search (rules, none)

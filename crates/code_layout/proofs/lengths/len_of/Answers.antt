use Rattle.code_layout.proofs.Spellings.{HasNoTarget, jump-len, lookup-len, plain-spelling, table-len}
use Rattle.code_layout.proofs.lengths.len_of.Goals as goal

pub code_len-requires : goal.code_len-requires
code_len-requires c =
    let d = c.in_default in
    let none : HasNoTarget c.args.instr.now =
    record { no_if = d.not-If; no_if2 = d.not-If2; no_same = d.not-IfSame; no_null = d.not-IfNull; no_goto = d.not-Goto; no_table = d.not-Table; no_lookup = d.not-Lookup } in
    plain-spelling c.args.at c.args.instr.now c.requires.place c.requires.form none

pub returns-in-Table : goal.returns-in-Table
returns-in-Table c = table-len c.args.form c.args.at _ c.args.instr.now _ _ _ c.in-Table.is c.len.ensures

pub returns-in-Lookup : goal.returns-in-Lookup
returns-in-Lookup c = lookup-len c.args.form c.args.at _ c.args.instr.now _ _ c.in-Lookup.is c.len-in-Lookup.ensures

pub returns-in-If : goal.returns-in-If
returns-in-If c = jump-len c.args.form c.args.at c.args.instr.now c.in-If.is

pub returns-in-If-2 : goal.returns-in-If-2
returns-in-If-2 c = jump-len c.args.form c.args.at c.args.instr.now c.in-If.is

pub returns-in-If-3 : goal.returns-in-If-3
returns-in-If-3 c = jump-len c.args.form c.args.at c.args.instr.now c.in-If.is

pub returns-in-If-4 : goal.returns-in-If-4
returns-in-If-4 c = jump-len c.args.form c.args.at c.args.instr.now c.in-If.is

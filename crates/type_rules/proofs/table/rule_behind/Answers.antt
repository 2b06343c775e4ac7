use Rattle.type_rules.proofs.table.rule_behind.Goals as goal

pub returns-in-Load : goal.returns-in-Load
returns-in-Load c = rw c.in-Load.is c.load.ensures

pub returns-in-Iinc : goal.returns-in-Iinc
returns-in-Iinc c = rw c.in-Iinc.is c.increment.ensures

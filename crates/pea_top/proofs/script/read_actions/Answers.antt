use Rattle.pea_top.proofs.script.read_actions.Goals as goal

pub returns-clause-found : goal.returns-clause-found
returns-clause-found g c = λ tells. c.actions_of.ensures.found _ _ (c.in_ok-bytes.ensures.bytes tells)

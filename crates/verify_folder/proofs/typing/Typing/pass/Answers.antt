use Rattle.verify_folder.proofs.typing.Typing.pass.Goals as goal

pub hands_on-requires-clause-in_force : goal.hands_on-requires-clause-in_force
hands_on-requires-clause-in_force c = c.come_to.ensures.kept c.args.self.now c.requires.in_force

pub step-requires-clause-in_force : goal.step-requires-clause-in_force
step-requires-clause-in_force c = c.come_to.ensures.kept c.args.self.now c.requires.in_force

pub returns-then-hands_on-clause-in_force : goal.returns-then-hands_on-clause-in_force
returns-then-hands_on-clause-in_force c = c.come_to.ensures.kept c.args.self.now c.requires.in_force

pub step-requires-clause-known : goal.step-requires-clause-known
step-requires-clause-known c = c.come_to.ensures.known c.args.flows c.requires.known

pub returns-then-hands_on-clause-known : goal.returns-then-hands_on-clause-known
returns-then-hands_on-clause-known c = c.come_to.ensures.known c.args.flows c.requires.known

use Rattle.verify_folder.proofs.typing.Typing.meet.Goals as goal

pub returns-then-is_some-clause-kept : goal.returns-then-is_some-clause-kept
returns-then-is_some-clause-kept c = c.forget.ensures.kept c.args.self.now

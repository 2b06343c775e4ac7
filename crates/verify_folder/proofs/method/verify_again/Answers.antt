use Rattle.verify_folder.proofs.method.verify_again.Goals as goal

pub returns : goal.returns
returns c = (c.in_ok-verify_method.field-0, c.in_ok-verify_method.ensures)

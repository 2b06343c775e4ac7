use Rattle.std.proofs.Common.{◌==◌, ◌||◌, ℕ, List, sym, ap, ◌∙◌}
use Rattle.virtual_state.specs.Sites.{has}
use Rattle.plan_flow.proofs.Adding.{reaches_is}
use Rattle.plan_flow.proofs.asked.reaches.Goals as goal

pub returns : goal.returns
returns c =
    let law = reaches_is c.args.state.now.objects c.add.new.self c.in_ok-reached.reached c.args.from c.args.to
    (λ one. c.in_ok-add.ensures.ok one ∙ ap (λ (list : List ℕ). has list one || c.args.from == one) c.new-sites.ensures)
    c.in_ok-reached.ensures in (
      λ yes. law.0 (sym c.has.ensures ∙ yes),
      λ either. c.has.ensures ∙ law.1 either,
    )

-- One choice more is made, and fewer are left.
use Rattle.std.proofs.Common.{◌≡◌, ◌++◌, ◌∷◌, [], ◌-◌, ◌+◌, sym, ap, ◌∙◌, append_assoc, arith}
use Rattle.work_gen.specs.Generated.{choices}
use Rattle.work_gen.proofs.MadeChoices.{next_choices, no_choices}
use Rattle.work_gen.proofs.choices.choices_of.Goals as goal

pub loop-preserved : goal.loop-preserved
loop-preserved c =
    let left = choices c.behind-state.result (c.args.size - (c.loop.counter + 1)) in
    let next : c.choice_at.result ∷ left ≡ choices c.loop.state (c.args.size - c.loop.counter) = rw (c.choice_at.ensures, c.behind-state.ensures.is, c.behind.ensures.is) (sym (next_choices c.loop.state c.args.size c.loop.counter c.loop-test.true)) in
    record {
      small = c.behind-state.ensures.small;
      all =
          ap (λ chosen. chosen ++ left) c.in_ok-push.ensures.items
          ∙ append_assoc c.loop.chosen.items (c.choice_at.result ∷ []) left
          ∙ ap (λ rest. c.loop.chosen.items ++ rest) next
          ∙ c.loop.invariant.all;
    }

pub returns : goal.returns
returns c = sym (no_choices c.loop.chosen.items c.loop.state c.args.size c.loop.counter (omega (arith, c.loop-test.false))) ∙ c.loop.invariant.all

use Rattle.std.proofs.Common.{◌≡◌, sym, ap, ◌∙◌, rules}
use Rattle.std.specs.Option.{option_copied}
use Rattle.plan_flow.proofs.LeastStarts.{blank_head, blank_inside, point_of_start, start_with}
use Rattle.plan_flow.proofs.least.start.Goals.{in-Some+in_ok-state, in_default}
use Rattle.plan_flow.proofs.least.start.Goals as goal

pub put-requires-clause-inside : goal.put-requires-clause-inside
put-requires-clause-inside c =
    blank_inside c.args.flat.now c.in_ok-heads.heads.items c.in_ok-states.states c.requires.flows c.in_ok-heads.ensures c.in_ok-states.ensures

pub put-requires-clause-head : goal.put-requires-clause-head
put-requires-clause-head c =
    blank_head c.args.flat.now c.in_ok-heads.heads.items c.in_ok-states.states c.in_ok-heads.ensures c.in_ok-states.ensures

pub returns : goal.returns
returns c = λ classes.
    elim c.match-typed.branch [
      | in-Some+in_ok-state w ↦
          let is_states : c.match-typed.states ≡ w.put.new.self = search rules in
          start_with classes c.args.flat.now c.in_ok-heads.heads.items c.in_ok-states.states c.match-typed.states w.in-Some.types.now
          w.in_ok-state.state c.requires.flows c.in_ok-heads.ensures (sym c.typed.ensures ∙ ap option_copied w.in-Some.is) w.in_ok-state.ensures
          c.in_ok-states.ensures (is_states ∙ w.put.ensures)
      | in_default w ↦
          let none = ap option_copied w.in_default.is in
          absurd (point_of_start c.args.flat.now (option_copied c.typed.result) c.requires.flows c.typed.ensures none)
    ]

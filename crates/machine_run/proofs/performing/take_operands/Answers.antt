use Rattle.std.proofs.Common.{◌≡◌, ◌∷◌, List, length, reverse, sym, ap, ◌∙◌}
use Rattle.machine_values.specs.Frames.{MethodState}
use Rattle.machine_values.specs.contracts.frame.RunFrameList.{the_view}
use Rattle.machine_values.specs.declared.frame.RunFrame.{RunFrame as Frame}
use Rattle.machine_values.specs.declared.frame.RunFrame.TheVariants.{Library, Method}
use Rattle.machine_values.specs.declared.value.Value.{Value}
use Rattle.machine_run.specs.Inner.Performed.{without_operands}
use Rattle.machine_run.proofs.Tops.{top_read, top_set}
use Rattle.machine_run.proofs.performing.take_operands.Goals as goal
use Rattle.machine_run.proofs.performing.take_operands.Goals.{in-Method, in-Library, in-Beginning}

pub returns : goal.returns
returns c = λ f rest is.
    let items = c.frames.inside.frames.items in
    let many : c.len-top.result ≡ length items = c.len-top.ensures ∙ c.frames.inside.frames.ok.0 in
    let before : reverse items ≡ Method f ∷ rest = c.frames.view_is ∙ is in
    let top : c.index_mut.result.now ≡ Method f =
    top_read items (Method f) rest c.len-top.result c.index_mut.result.now before many c.index_mut.ensures.value
    in
    elim c.match-index_mut.branch [
      | in-Method w ↦
          (let frame : w.in-Method.frame ≡ f = (let both : Method w.in-Method.frame ≡ Method f = sym w.in-Method.is ∙ top in cc) in
          let with_stack : List Value → MethodState = λ stack. record w.in-Method.frame { stack = stack } in
          let inside = w.frame.inside in
          let as_given : List Value → Frame = λ stack. Method (record { at = inside.at; place = inside.place; locals = inside.locals; stack = stack; held = inside.held }) in
          ap the_view w.frames-inside-is
          ∙ top_set items (Method f) (as_given (reverse w.drop_top.new.stack)) rest c.len-top.result before many
          ∙ ap (λ (stack : List Value). as_given stack ∷ rest) w.drop_top.ensures
          ∙ ap (λ (g : MethodState). Method (without_operands c.args.count g) ∷ rest) (w.frame.view_is ∙ frame))
      | in-Library w ↦ (let both : Library w.in-Library.made ≡ Method f = sym w.in-Library.is ∙ top in absurd cc)
      | in-Beginning w ↦ (let both = sym w.in-Beginning.is ∙ top in absurd cc)
    ]

use Rattle.std.proofs.Common.{◌≡◌, ◌∷◌, ℕ, List, Option, Result, OnOk, length, sym, ap, subst, ◌∙◌}
use Rattle.std.proofs.lemmas.Result.{on_ok_weaker}
use Rattle.class_model.specs.declared.memory.NoMemory.{NoMemory}
use Rattle.machine_values.specs.Frames.{MethodState}
use Rattle.machine_values.specs.contracts.frame.RunFrameList.{the_view}
use Rattle.machine_values.specs.declared.frame.RunFrame.{RunFrame as Frame}
use Rattle.machine_values.specs.declared.frame.RunFrame.TheVariants.{Library, Method}
use Rattle.machine_values.specs.declared.value.Value.{Value}
use Rattle.member_link.specs.Machine.Performing.{resumed}
use Rattle.machine_step.specs.Completing.{values_of}
use Rattle.machine_run.specs.Inner.Performed.{without_operands}
use Rattle.machine_run.proofs.Tops.{top_read, top_set}
use Rattle.machine_run.proofs.performing.resume.Goals as goal
use Rattle.machine_run.proofs.performing.resume.Goals.{in-Method, in-Library, in-Beginning}

abbrev Resumes : List Frame → ℕ → Option Value → List Frame → Type 0
Resumes before count value after =
    (f : MethodState) (rest : List Frame)
    → before ≡ Method f ∷ rest
    → after ≡ Method (resumed (without_operands count f) (values_of value)) ∷ rest

pub returns : goal.returns
returns c =
    let items = c.frames.inside.frames.items in
    let many : c.len-top.result ≡ length items = c.len-top.ensures ∙ c.frames.inside.frames.ok.0 in
    let top : (f : MethodState) (rest : List Frame) → c.args.frames.now ≡ Method f ∷ rest → c.index_mut.result.now ≡ Method f =
    λ f rest is. top_read items (Method f) rest c.len-top.result c.index_mut.result.now (c.frames.view_is ∙ is) many c.index_mut.ensures.value
    in
    let none : (top : Frame) → ((f : MethodState) → top ≡ Method f → ⊥) → c.index_mut.result.now ≡ top → ⊥ =
    λ other differs is. differs c.requires.top (sym is ∙ top c.requires.top c.requires.rest c.requires.same)
    in
    elim c.match-index_mut.branch [
      | in-Method w ↦
          (let shown : w.resume_frame.new.frame ≡ resumed (without_operands c.args.count w.in-Method.frame) (values_of c.args.value) → Resumes c.args.frames.now c.args.count c.args.value (the_view c.match-index_mut.frames-inside) =
          λ resumes f rest is.
          let frame : w.in-Method.frame ≡ f = (let both : Method w.in-Method.frame ≡ Method f = sym w.in-Method.is ∙ top f rest is in cc) in
          ap the_view w.frames-inside-is
          ∙ top_set items (Method f) (Method w.resume_frame.new.frame) rest c.len-top.result (c.frames.view_is ∙ is) many
          ∙ ap (λ (g : MethodState). Method g ∷ rest)
          (resumes ∙ ap (λ (g : MethodState). resumed (without_operands c.args.count g) (values_of c.args.value)) frame)
          in
          subst (λ (r : Result (Unit {0}) NoMemory). OnOk r (Resumes c.args.frames.now c.args.count c.args.value (the_view c.match-index_mut.frames-inside)))
          (sym w.result-is)
          (on_ok_weaker w.resume_frame.result shown w.resume_frame.ensures))
      | in-Library w ↦ absurd (none (Library w.in-Library.made) (λ f e. cc) w.in-Library.is)
      | in-Beginning w ↦ absurd (none _ (λ f e. cc) w.in-Beginning.is)
    ]

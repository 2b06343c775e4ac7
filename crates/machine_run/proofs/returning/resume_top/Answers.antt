use Rattle.std.proofs.Common.{◌≡◌, ◌∷◌, List, length, sym, ap, ◌∙◌}
use Rattle.machine_values.specs.Frames.{MethodState}
use Rattle.machine_values.specs.declared.frame.RunFrame.{RunFrame as Frame}
use Rattle.machine_values.specs.declared.frame.RunFrame.TheVariants.{Method}
use Rattle.member_link.specs.Machine.Performing.{resumed}
use Rattle.machine_step.specs.Completing.{values_of}
use Rattle.machine_run.proofs.TopFrames.{method_went, on_ok_always, top_there}
use Rattle.machine_run.proofs.Tops.{top_read}
use Rattle.machine_run.proofs.returning.resume_top.Goals as goal
use Rattle.machine_run.proofs.returning.resume_top.Goals.{in-Method, in-Library, in-Beginning}

pub returns : goal.returns
returns c =
    let items = c.frames.inside.frames.items in
    let many : c.len-len.result ≡ length items = c.len-len.ensures ∙ c.frames.inside.frames.ok.0 in
    let top : (f : MethodState) (rest : List Frame) → c.args.frames.now ≡ Method f ∷ rest → c.index_mut.result.now ≡ Method f =
    λ f rest is. top_read items (Method f) rest c.len-len.result c.index_mut.result.now (c.frames.view_is ∙ is) many c.index_mut.ensures.value
    in
    let goes : MethodState → MethodState = λ f. resumed f (values_of c.args.value) in
    elim c.match-index_mut.branch [
      | in-Method w ↦
          (let frame : (f : MethodState) (rest : List Frame) → c.args.frames.now ≡ Method f ∷ rest → w.in-Method.frame ≡ f =
          λ f rest is. let both = sym w.in-Method.is ∙ top f rest is in cc in
          rw (w.result-is, w.frames-inside-is)
          (method_went w.resume_frame.result goes items c.args.frames.now c.len-len.result w.in-Method.frame w.resume_frame.new.frame
          frame c.frames.view_is many w.resume_frame.ensures))
      | in-Library w ↦ on_ok_always c.match-index_mut.result (λ f rest is. let both = sym w.in-Library.is ∙ top f rest is in absurd cc)
      | in-Beginning w ↦ on_ok_always c.match-index_mut.result (λ f rest is. let both = sym w.in-Beginning.is ∙ top f rest is in absurd cc)
    ]

pub resume_frame-requires : goal.resume_frame-requires
resume_frame-requires c =
    let vec = c.frames.inside.frames in
    let there = top_there vec.items c.args.frames.now c.len-len.result c.index_mut.result.now c.frames.view_is (c.len-len.ensures ∙ vec.ok.0)
    c.if-len-eq0.false c.index_mut.ensures.value
    in
    c.requires c.in-Method.frame there.0 (there.1 ∙ ap (λ (top : Frame). top ∷ there.0) c.in-Method.is)

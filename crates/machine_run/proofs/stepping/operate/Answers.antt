use Rattle.std.proofs.Common.{◌≡◌, ◌∷◌, ℕ, List, Result, IfOk, length, refl, sym, ap, subst, ◌∙◌}
use Rattle.std.proofs.lemmas.Result.{IfOk-weaker}
use Rattle.class_model.specs.declared.memory.NoMemory.{NoMemory}
use Rattle.class_tree.specs.Headers.{Classes}
use Rattle.machine_values.specs.Frames.{MethodState}
use Rattle.machine_values.specs.contracts.frame.RunFrameList.{the_view}
use Rattle.machine_values.specs.declared.frame.RunFrame.{RunFrame as Frame}
use Rattle.machine_values.specs.declared.frame.RunFrame.TheVariants.{Library, Method}
use Rattle.member_link.specs.Machine.Programs.{Program}
use Rattle.member_link.specs.Machine.Worlds.{Memory, World}
use Rattle.machine_step.specs.Bounded.{CanGoOn}
use Rattle.member_link.specs.TreePrograms.{IsProgram}
use Rattle.machine_run.specs.Inner.Performed.{CanFinish, CanFinishFrame, world_operated}
use Rattle.machine_run.specs.Inner.StepWords.{HasOperated, Leads, Runs, behind}
use Rattle.machine_run.specs.declared.stepping.Operations.{Operations}
use Rattle.machine_run.proofs.OperatedWorlds.{can_finish_is}
use Rattle.machine_run.proofs.Tops.{top_read, top_set}
use Rattle.machine_run.proofs.stepping.operate.Goals as goal
use Rattle.machine_run.proofs.stepping.operate.Goals.{in-Method, in-Library, in-Beginning}

pub operate_in-requires-clause-prepared : goal.operate_in-requires-clause-prepared
operate_in-requires-clause-prepared c = λ P program.
    let items = c.frames.inside.frames.items in
    let many : c.len-top.result ≡ length items = c.len-top.ensures ∙ c.frames.inside.frames.ok.0 in
    let f = c.requires.running.frame in
    let rest = c.requires.running.rest in
    let top : c.index_mut.result.now ≡ Method f =
    top_read items (Method f) rest c.len-top.result c.index_mut.result.now (c.frames.view_is ∙ c.requires.running.top) many c.index_mut.ensures.value
    in
    c.requires.prepared P c.in-Method.frame rest program
    (c.requires.running.top ∙ ap (λ (frame : Frame). frame ∷ rest) (sym top ∙ c.in-Method.is))

-- what is said of the frames and the memory behind operations
abbrev Operates : Classes → Memory → ℕ → List Frame → List Frame → Memory → Operations → Type 0
Operates classes old left before after new done =
    (P : Program) (w : World) (f : MethodState) (rest : List Frame)
    → IsProgram classes P
    → before ≡ Method f ∷ rest
    → Runs w rest f old left
    → HasOperated P w rest after new done.count done.last

pub returns-clause-operated : goal.returns-clause-operated
returns-clause-operated c =
    let items = c.frames.inside.frames.items in
    let many : c.len-top.result ≡ length items = c.len-top.ensures ∙ c.frames.inside.frames.ok.0 in
    let classes = c.args.tree.now in
    let old = c.args.memory.now in
    let left = c.args.left in
    let before = c.args.frames.now in
    let after = the_view c.match-index_mut.frames-inside in
    let new = c.match-index_mut.memory in
    let is_top : (f : MethodState) (rest : List Frame) → before ≡ Method f ∷ rest → c.index_mut.result.now ≡ Method f =
    λ f rest is. top_read items (Method f) rest c.len-top.result c.index_mut.result.now (c.frames.view_is ∙ is) many c.index_mut.ensures.value
    in
    let none : (other : Frame) → ((f : MethodState) → other ≡ Method f → ⊥) → c.index_mut.result.now ≡ other → ⊥ =
    λ other differs is. differs c.requires.running.frame (sym is ∙ is_top c.requires.running.frame c.requires.running.rest c.requires.running.top)
    in
    elim c.match-index_mut.branch [
      | in-Method w ↦
          (let frame = w.in-Method.frame in
          let now = w.operate_in.new.frame in
          let made = w.operate_in.new.memory in
          let shown : (done : Operations)
          → ((P : Program) (v : World) (rest : List Frame) → IsProgram classes P → Runs v rest frame old left
          → Leads P done.count v (world_operated P (behind v rest now made done.count) now rest done.last))
          → Operates classes old left before after new done =
          λ done leads P v f rest program top runs.
          let same : frame ≡ f = (let both : Method frame ≡ Method f = sym w.in-Method.is ∙ is_top f rest top in cc) in
          let behind_is : after ≡ Method now ∷ rest =
          ap the_view w.frames-inside-is ∙ top_set items (Method f) (Method now) rest c.len-top.result (c.frames.view_is ∙ top) many
          in
          subst (λ (m : Memory). HasOperated P v rest after m done.count done.last) (sym w.memory-is)
          (record {
            frame = now;
            top = behind_is;
            leads = leads P v rest program (subst (λ (g : MethodState). Runs v rest g old left) (sym same) runs);
          })
          in
          subst (λ (r : Result Operations NoMemory). IfOk r (Operates classes old left before after new)) (sym w.result-is)
          (IfOk-weaker w.operate_in.result _ (Operates classes old left before after new) shown w.operate_in.ensures.operated))
      | in-Library w ↦ absurd (none (Library w.in-Library.made) (λ f e. cc) w.in-Library.is)
      | in-Beginning w ↦ absurd (none c.index_mut.result.now (λ f e. (let other = sym w.in-Beginning.is ∙ e in absurd cc)) refl)
    ]

pub returns-clause-can : goal.returns-clause-can
returns-clause-can c =
    let items = c.frames.inside.frames.items in
    let many : c.len-top.result ≡ length items = c.len-top.ensures ∙ c.frames.inside.frames.ok.0 in
    let f = c.requires.running.frame in
    let rest = c.requires.running.rest in
    let after = the_view c.match-index_mut.frames-inside in
    let new = c.match-index_mut.memory in
    let top : c.index_mut.result.now ≡ Method f =
    top_read items (Method f) rest c.len-top.result c.index_mut.result.now (c.frames.view_is ∙ c.requires.running.top) many c.index_mut.ensures.value
    in
    let none : (other : Frame) → ((g : MethodState) → other ≡ Method g → ⊥) → c.index_mut.result.now ≡ other → ⊥ =
    λ other differs is. differs f (sym is ∙ top)
    in
    elim c.match-index_mut.branch [
      | in-Method w ↦
          (let now = w.operate_in.new.frame in
          let made = w.operate_in.new.memory in
          let shown : (done : Operations) → CanFinishFrame now made done.last → CanFinish new after done.last =
          λ done can.
          let behind_is : after ≡ Method now ∷ rest =
          ap the_view w.frames-inside-is ∙ top_set items (Method f) (Method now) rest c.len-top.result (c.frames.view_is ∙ c.requires.running.top) many
          in
          subst (λ (m : Memory). CanFinish m after done.last) (sym w.memory-is)
          (can_finish_is now rest made after done.last can
          (subst CanGoOn c.requires.running.runs.top c.requires.running.runs.bounded.places) behind_is)
          in
          subst (λ (r : Result Operations NoMemory). IfOk r (λ done. CanFinish new after done.last)) (sym w.result-is)
          (IfOk-weaker w.operate_in.result _ (λ done. CanFinish new after done.last) shown w.operate_in.ensures.can))
      | in-Library w ↦ absurd (none (Library w.in-Library.made) (λ g e. cc) w.in-Library.is)
      | in-Beginning w ↦ absurd (none c.index_mut.result.now (λ g e. (let other = sym w.in-Beginning.is ∙ e in absurd cc)) refl)
    ]

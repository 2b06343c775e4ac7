use Rattle.std.proofs.Common.{◌≡◌, ◌∷◌, None, length, reverse, sym, ap, ◌∙◌}
use Rattle.machine_values.specs.contracts.frame.RunFrameList.{the_view}
use Rattle.machine_values.specs.declared.frame.RunFrame.TheVariants.{Library}
use Rattle.machine_run.proofs.Tops.{top_read, top_set}
use Rattle.machine_run.proofs.ending.clear_made.Goals as goal
use Rattle.machine_run.proofs.ending.clear_made.Goals.{in-Library, in-Beginning, in-Method}

pub returns : goal.returns
returns c = λ made rest is.
    let items = c.frames.inside.frames.items in
    let many : c.len-len.result ≡ length items = c.len-len.ensures ∙ c.frames.inside.frames.ok.0 in
    let before : reverse items ≡ Library made ∷ rest = c.frames.view_is ∙ is in
    let top : c.index_mut.result.now ≡ Library made =
    top_read items (Library made) rest c.len-len.result c.index_mut.result.now before many c.index_mut.ensures.value
    in
    elim c.match-index_mut.branch [
      | in-Library w ↦ ap the_view w.frames-inside-is ∙ top_set items (Library made) (Library None) rest c.len-len.result before many
      | in-Beginning w ↦ (let both = sym w.in-Beginning.is ∙ top in absurd cc)
      | in-Method w ↦ (let both = sym w.in-Method.is ∙ top in absurd cc)
    ]

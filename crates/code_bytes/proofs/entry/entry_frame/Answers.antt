use Rattle.std.proofs.Common.{◌++◌, ℕ, List, map, Option, ap, ◌∙◌}
use Rattle.class_model.specs.Code.{verification_type}
use Rattle.class_model.specs.Frames.{units_of_entries}
use Rattle.class_model.specs.Methods.{home_of}
use Rattle.class_model.specs.PoolChecks.{utf8_at}
use Rattle.class_model.specs.declared.frame.Frame.{Frame}
use Rattle.class_model.specs.declared.frame.VType.{VType}
use Rattle.code_bytes.specs.Entry.{this_entries}
use Rattle.code_bytes.specs.Laws.EntryFrames.{frame_of, with_tops, entry_with}
use Rattle.code_bytes.proofs.entry.entry_frame.Goals as goal

pub returns : goal.returns
returns c =
    let class = c.args.class.now in
    let method = c.args.method.now in
    let params : List VType = units_of_entries (map verification_type c.args.params.now) in
    let with_stack : List VType → Frame = λ stack. record { locals = c.fill.new.self; stack = stack } in
    ap with_stack c.new.ensures
    ∙ ap frame_of c.fill.ensures
    ∙ ap (λ (count : ℕ). frame_of (with_tops count c.in_ok-locals.locals)) c.from.ensures
    ∙ entry_with (home_of class) method c.args.part.now c.in_ok-locals.locals c.args.params.now c.requires
    (c.in_ok-locals.ensures ∙ ap (λ (name : Option (List ℕ)). this_entries method.flags (utf8_at class.pool method.name) name ++ params) c.class_name-this.ensures)

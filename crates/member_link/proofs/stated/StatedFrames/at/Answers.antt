use Rattle.std.proofs.Common.{None, Some, ap, ◌∙◌}
use Rattle.std.specs.Option.{option_copied}
use Rattle.class_model.specs.OffsetIndexes.{number_in}
use Rattle.class_model.specs.Stated.{frame_for}
use Rattle.member_link.proofs.FirstAt.{no_frame, frame_found}
use Rattle.member_link.proofs.stated.StatedFrames.at.Goals as goal

pub returns-in_err-find : goal.returns-in_err-find
returns-in_err-find c =
    let own = c.self.inside in
    ap option_copied c.from_residual.ensures ∙ no_frame c.args.offset own.frames own.index c.self.invariant (c.in_err-find.ensures ∙ ap (number_in own.index) c.from.ensures) ∙ ap (λ frames. frame_for frames c.args.offset) c.self.view_is

pub returns-in_err-placed : goal.returns-in_err-placed
returns-in_err-placed c =
    let own = c.self.inside in
    ap option_copied c.from_residual-in_err-placed.ensures ∙ frame_found c.args.offset own.frames own.index c.self.invariant c.in_ok-find.field-0 None (c.in_ok-find.ensures ∙ ap (number_in own.index) c.from.ensures) c.in_err-placed.ensures
    ∙ ap (λ frames. frame_for frames c.args.offset) c.self.view_is

pub returns : goal.returns
returns c =
    let own = c.self.inside in
    frame_found c.args.offset own.frames own.index c.self.invariant c.in_ok-find.field-0 (Some c.in_ok-placed.placed.now) (c.in_ok-find.ensures ∙ ap (number_in own.index) c.from.ensures) c.in_ok-placed.ensures
    ∙ ap (λ frames. frame_for frames c.args.offset) c.self.view_is

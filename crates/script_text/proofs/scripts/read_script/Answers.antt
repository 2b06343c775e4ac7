-- One line more, or a line outside the grammar.
use Rattle.std.proofs.Common.{◌+◌, ◌∙◌, ap, subst, length, List, ℕ, Option}
use Rattle.std.specs.Borrow.{Bor}
use Rattle.std.specs.Option.{option_copied}
use Rattle.script_text.specs.Scripts.{lines_of}
use Rattle.script_text.specs.Faults.{IsFaultOf}
use Rattle.script_text.specs.Inner.Reading.{pieces_left, length_left}
use Rattle.script_text.proofs.ScriptLines.{LinesSoFar, line_read, lines_read, fault_of, errs_by, room_more}
use Rattle.script_text.proofs.scripts.read_script.Goals as goal

pub returns-in_err-add_line-clause-fault : goal.returns-in_err-add_line-clause-fault
returns-in_err-add_line-clause-fault c =
    let is = ap (λ (o : Option (Bor (List ℕ))). pieces_left 10 (option_copied o)) c.in-Some.is ∙ c.cut_at.ensures.cut in
    errs_by (IsFaultOf c.args.bytes.now) c.from_residual.result _ c.from_residual.ensures.1
    (fault_of c.args.bytes.now _ _ _ _ _ c.in_err-add_line.field-0.0 c.loop-left.invariant.so_far is c.in_err-add_line.ensures.fault)

pub loop-left-preserved : goal.loop-left-preserved
loop-left-preserved c =
    let is = ap (λ (o : Option (Bor (List ℕ))). pieces_left 10 (option_copied o)) c.in-Some.is ∙ c.cut_at.ensures.cut in
    record {
      so_far = line_read (lines_of c.args.bytes.now) _ _ _ _ _ _ c.loop-left.invariant.so_far is c.in_ok-add_line.ensures.added;
      room = room_more c.loop-left.number _ _ (length c.args.bytes.now + 1) (length c.in-Some.rest.now) c.loop-left.invariant.room c.cut_at.ensures.shorter (ap (λ (o : Option (Bor (List ℕ))). length_left (option_copied o)) c.in-Some.is);
    }

pub returns-clause-read : goal.returns-clause-read
returns-clause-read c =
    lines_read (lines_of c.args.bytes.now) c.loop-left.actions c.loop-left.number
    (subst (λ (o : Option (Bor (List ℕ))). LinesSoFar (lines_of c.args.bytes.now) c.loop-left.actions c.loop-left.number (pieces_left 10 (option_copied o))) c.in_default.is c.loop-left.invariant.so_far)

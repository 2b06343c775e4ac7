use Rattle.std.proofs.Common.{rules, ◌≡◌, ◌≤◌, ◌<◌, ◌^◌, ◌∙◌, ℕ, min, ap, subst, arith, IfErr}
use Rattle.std.specs.Result.{IsErrOf}
use Rattle.class_model.specs.declared.class_file.ClassFile.{ClassFile}
use Rattle.class_rewrite.proofs.RewrittenParts.{long_reason}
use Rattle.class_rewrite.proofs.WrittenParts.{written_can, written_deep, written_full, written_huge, written_is}
use Rattle.class_rewrite.proofs.written_part.written_part.Goals as goal
use Rattle.class_rewrite.specs.Inner.Meanings.{IsFullFor, IsReasonOf, StatesFrames}
use Rattle.code_layout.specs.ChosenForm.{KeepsLong}
use Rattle.flow_code.specs.WrittenUnits.{written_units}
use Rattle.flow_code.specs.declared.reason.KeptFault.TheVariants.{Kept}
use Rattle.flow_code.specs.declared.reason.Reason.TheVariants as reasons
use Rattle.stackmap_emit.specs.FrameConstants.{table_needs}
use Rattle.stackmap_emit.specs.FramesAttribute.{all_stated}

few : {bytes said : ℕ} → said ≡ min bytes 18446744073709551615 → said ≤ 4294967295 → bytes < 2 ^ 32
few is low = omega (arith, is, low)

many : {bytes said : ℕ} → said ≡ min bytes 18446744073709551615 → 4294967295 < said → 2 ^ 32 ≤ bytes
many is high = omega (arith, is, high)

pub returns-in_err-laid-clause-kept : goal.returns-in_err-laid-clause-kept
returns-in_err-laid-clause-kept c = λ reason m before is meant edit is_code.
    let fails : IsErrOf c.layout.result (Kept reason) = search rules in
    let keeps : KeepsLong c.args.code.now.emitted (Kept reason) =
    subst (λ result. IfErr result (KeepsLong c.args.code.now.emitted)) fails c.layout.ensures.kept in
    long_reason c.what_is_written_is_laid_out.ensures c.what_is_meant_can_be_written.ensures c.args.setting.now m before c.args.pool.now c.args.code.now meant
    edit is_code reason keeps

pub frames_of-requires : goal.frames_of-requires
frames_of-requires c = c.what_is_written_fits.ensures c.args.setting.now c.args.pool.now c.args.code.now c.args.home.now c.args.grown.now c.requires

pub attributes_of-requires : goal.attributes_of-requires
attributes_of-requires c =
    written_can c.what_is_written_is_laid_out.ensures c.what_is_meant_can_be_written.ensures c.written_frames_are_sound.ensures c.args.setting.now
    c.args.pool.now c.args.code.now c.args.home.now c.args.grown.now c.requires c.in_ok-entry.entry c.local_units-locals.result c.in_ok-entry.ensures
    (c.local_units-locals.ensures ∙ ap written_units c.units.ensures) c.in_ok-laid.laid c.in_ok-laid.ensures.laid c.in_ok-laid.ensures.within
    c.in_ok-frames.frames.placed c.in_ok-frames.frames.max_stack c.in_ok-frames.ensures

pub returns-in_err-attrs-clause-kept : goal.returns-in_err-attrs-clause-kept
returns-in_err-attrs-clause-kept c = λ reason m before is meant edit is_code.
    let fails : IsErrOf c.attributes_of.result (Kept reason) = search rules in
    written_full c.what_is_written_is_laid_out.ensures c.what_is_meant_can_be_written.ensures c.written_frames_are_sound.ensures c.args.setting.now
    c.args.pool.now c.args.code.now c.args.home.now c.args.grown.now c.requires c.in_ok-entry.entry c.local_units-locals.result c.in_ok-entry.ensures
    (c.local_units-locals.ensures ∙ ap written_units c.units.ensures) c.in_ok-laid.laid c.in_ok-laid.ensures.laid c.in_ok-laid.ensures.within
    c.in_ok-frames.frames.placed c.in_ok-frames.frames.max_stack c.in_ok-frames.ensures m before meant edit is_code
    c.if-max_stack.false reason
    (subst (λ (class : ClassFile). IsFullFor class.major c.args.pool.now (table_needs (all_stated c.in_ok-frames.frames.placed)) reason) c.class.ensures
    (c.attributes_of.ensures.full reason fails))

pub returns-clause-ok : goal.returns-clause-ok
returns-clause-ok c = λ m before meant edit is_code.
    written_is c.what_is_written_is_laid_out.ensures c.what_is_meant_can_be_written.ensures c.written_frames_are_sound.ensures c.args.setting.now
    c.args.pool.now c.args.code.now c.args.home.now c.args.grown.now c.requires c.in_ok-entry.entry c.local_units-locals.result c.in_ok-entry.ensures
    (c.local_units-locals.ensures ∙ ap written_units c.units.ensures) c.in_ok-laid.laid c.in_ok-laid.ensures.laid c.in_ok-laid.ensures.within
    c.in_ok-frames.frames.placed c.in_ok-frames.frames.max_stack c.in_ok-frames.ensures m before meant edit is_code
    c.if-max_stack.false c.attributes_of.new.pool
    c.in_ok-attrs.attrs
    (subst (λ (class : ClassFile). StatesFrames class.major c.args.pool.now c.attributes_of.new.pool c.in_ok-entry.entry c.in_ok-frames.frames.placed
    c.in_ok-attrs.attrs) c.class.ensures c.in_ok-attrs.ensures.ok)
    (few c.part_len.ensures c.if-part_len-gt-MOST_BYTES.false)

pub returns-then-part_len-gt-MOST_BYTES-clause-kept : goal.returns-then-part_len-gt-MOST_BYTES-clause-kept
returns-then-part_len-gt-MOST_BYTES-clause-kept c = λ reason m before is meant edit is_code.
    let same : reasons.Long ≡ reason = cc is in
    subst (IsReasonOf c.args.setting.now m before) same
    (written_huge c.what_is_written_is_laid_out.ensures c.what_is_meant_can_be_written.ensures c.written_frames_are_sound.ensures c.args.setting.now
    c.args.pool.now c.args.code.now c.args.home.now c.args.grown.now c.requires c.in_ok-entry.entry c.local_units-locals.result c.in_ok-entry.ensures
    (c.local_units-locals.ensures ∙ ap written_units c.units.ensures) c.in_ok-laid.laid c.in_ok-laid.ensures.laid c.in_ok-laid.ensures.within
    c.in_ok-frames.frames.placed c.in_ok-frames.frames.max_stack c.in_ok-frames.ensures m before meant edit is_code
    c.if-max_stack.false c.attributes_of.new.pool
    c.in_ok-attrs.attrs
    (subst (λ (class : ClassFile). StatesFrames class.major c.args.pool.now c.attributes_of.new.pool c.in_ok-entry.entry c.in_ok-frames.frames.placed
    c.in_ok-attrs.attrs) c.class.ensures c.in_ok-attrs.ensures.ok)
    (many c.part_len.ensures c.if-part_len-gt-MOST_BYTES.true))

pub returns-then-max_stack-clause-kept : goal.returns-then-max_stack-clause-kept
returns-then-max_stack-clause-kept c = λ reason m before is meant edit is_code.
    let same : reasons.Long ≡ reason = cc is in
    subst (IsReasonOf c.args.setting.now m before) same
    (written_deep c.what_is_written_is_laid_out.ensures c.what_is_meant_can_be_written.ensures c.written_frames_are_sound.ensures c.args.setting.now
    c.args.pool.now c.args.code.now c.args.home.now c.args.grown.now c.requires c.in_ok-entry.entry c.local_units-locals.result c.in_ok-entry.ensures
    (c.local_units-locals.ensures ∙ ap written_units c.units.ensures) c.in_ok-laid.laid c.in_ok-laid.ensures.laid c.in_ok-laid.ensures.within
    c.in_ok-frames.frames.placed c.in_ok-frames.frames.max_stack c.in_ok-frames.ensures m before meant edit is_code
    c.if-max_stack.true)

pub returns-clause-few : goal.returns-clause-few
returns-clause-few c = c.in_ok-laid.ensures.laid.is.decodes.few

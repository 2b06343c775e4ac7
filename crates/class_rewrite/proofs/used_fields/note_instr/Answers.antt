use Rattle.std.proofs.Common.{inl, inr}
use Rattle.class_rewrite.proofs.UsedFound.{get_finals, ok_then, put_finals, uses_privates}
use Rattle.class_rewrite.proofs.UsedLists.{adds_none}
use Rattle.class_rewrite.proofs.used_fields.note_instr.Goals as goal

pub returns-in-PutField-clause-finals : goal.returns-in-PutField-clause-finals
returns-in-PutField-clause-finals c =
    ok_then c.note_field.result
    (put_finals c.args.setting.now.classes c.args.setting.now.flat c.args.pool.now c.in-PutField.index c.args.used.now.finals c.note_field.new.used.finals
    c.args.instr.now c.in-PutField.is) c.note_field.ensures.finals

pub returns-in-PutField-clause-privates : goal.returns-in-PutField-clause-privates
returns-in-PutField-clause-privates c =
    ok_then c.note_field.result
    (uses_privates c.args.setting.now.classes c.args.setting.now.flat c.args.pool.now c.in-PutField.index c.args.used.now.privates c.note_field.new.used.privates
    c.args.instr.now (inl c.in-PutField.is)) c.note_field.ensures.privates

pub returns-in-GetField-clause-finals : goal.returns-in-GetField-clause-finals
returns-in-GetField-clause-finals c =
    ok_then c.note_field-in-GetField.result
    (get_finals c.args.setting.now.classes c.args.setting.now.flat c.args.pool.now c.in-GetField.index c.args.used.now.finals c.note_field-in-GetField.new.used.finals
    c.args.instr.now c.in-GetField.is) c.note_field-in-GetField.ensures.finals

pub returns-in-GetField-clause-privates : goal.returns-in-GetField-clause-privates
returns-in-GetField-clause-privates c =
    ok_then c.note_field-in-GetField.result
    (uses_privates c.args.setting.now.classes c.args.setting.now.flat c.args.pool.now c.in-GetField.index c.args.used.now.privates c.note_field-in-GetField.new.used.privates
    c.args.instr.now (inr c.in-GetField.is)) c.note_field-in-GetField.ensures.privates

pub returns-in_default : goal.returns-in_default
returns-in_default c = record {
  finals = adds_none _ c.args.used.now.finals (λ class number is. c.in_default.not-PutField is.index is.is);
  privates = adds_none _ c.args.used.now.privates (λ class number is. elim is.is [
    | inl put ↦ c.in_default.not-PutField is.index put
    | inr get ↦ c.in_default.not-GetField is.index get
  ]);
}

use Rattle.std.proofs.Common.{◌++◌, sym, ap, ◌∙◌, subst}
use Rattle.code_bytes.specs.Encoding.{IsChosen}
use Rattle.code_bytes.specs.Forms.{instr_bytes}
use Rattle.code_bytes.proofs.encoding.encode_one.Goals as goal

pub returns-clause-written : goal.returns-clause-written
returns-clause-written c =
    c.from_vec.ensures ∙ c.in_ok-encode_into.ensures.written ∙ ap (λ front. front ++ instr_bytes c.args.at c.args.instr.now) c.new-bytes.ensures.items

pub returns-clause-chosen : goal.returns-clause-chosen
returns-clause-chosen c =
    subst (IsChosen c.args.at c.args.instr.now) (sym (returns-clause-written c)) c.in_ok-encode_into.ensures.chosen

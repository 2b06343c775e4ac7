use Rattle.std.proofs.Common.{◌≡◌, ◌||◌, ℕ, List, Some, None, sym, ap, subst, ◌∙◌}
use Rattle.std.specs.List.{list_any}
use Rattle.std.specs.Option.{option_copied}
use Rattle.class_model.specs.Checks.{AllHold}
use Rattle.class_model.specs.Instructions.{decoded}
use Rattle.class_model.specs.MethodCode.{code_of}
use Rattle.class_model.specs.declared.instr.Placed.{Placed}
use Rattle.code_bytes.specs.Decoding.{decoding_checks}
use Rattle.inline_expand.proofs.Marks.{or_no, same_marks}
use Rattle.inline_expand.proofs.MethodInstrs.{code_checks, instrs_are, no_instrs}
use Rattle.inline_expand.specs.Inner.StoreWords.{is_store, method_instrs}
use Rattle.inline_expand.proofs.final_stores.mark_code.Goals as goal

pub instructions_of-requires : goal.instructions_of-requires
instructions_of-requires c =
    let is : code_of c.args.method.now.attrs ≡ Some c.in-Some.part.now = ap code_of (sym c.as_slice.ensures) ∙ sym c.code_of.ensures ∙ ap option_copied c.in-Some.is in
    subst (λ (code : List ℕ). AllHold (decoding_checks code)) (sym c.as_slice-2.ensures) (code_checks c.args.method.now.attrs c.in-Some.part.now c.requires is)

pub returns-in_default : goal.returns-in_default
returns-in_default c = λ count test are.
    let none : code_of c.args.method.now.attrs ≡ None = ap code_of (sym c.as_slice.ensures) ∙ sym c.code_of.ensures ∙ ap option_copied c.in_default.is in
    same_marks c.args.marks.now count test (λ index. test index || list_any (is_store index) (method_instrs c.args.method.now))
    (λ number. sym (or_no (test number)) ∙ ap (λ (l : List Placed). test number || list_any (is_store number) l) (sym (no_instrs c.args.method.now none))) are

pub returns : goal.returns
returns c = λ count test are.
    let is : code_of c.args.method.now.attrs ≡ Some c.in-Some.part.now = ap code_of (sym c.as_slice.ensures) ∙ sym c.code_of.ensures ∙ ap option_copied c.in-Some.is in
    let made = ap decoded (sym c.as_slice-2.ensures) ∙ c.in_ok-instrs.ensures in
    let same = c.as_slice-3.ensures ∙ sym (instrs_are c.args.method.now c.in-Some.part.now c.in_ok-instrs.instrs is made) in
    same_marks c.mark_stores.new.marks count _ (λ index. test index || list_any (is_store index) (method_instrs c.args.method.now))
    (λ number. ap (λ (l : List Placed). test number || list_any (is_store number) l) same) (c.mark_stores.ensures count test are)

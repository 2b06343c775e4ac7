use Rattle.std.proofs.Common.{◌≡◌, ◌||◌, ◌&&◌, ℕ, Bool, true, false, sym, ap, subst, ◌∙◌, OnOk}
use Rattle.std.specs.List.{list_any}
use Rattle.inline_expand.proofs.Marks.{or_no, same_marks}
use Rattle.inline_expand.specs.Inner.StoreWords.{AreMarks, is_store, is_wanted, method_instrs, stores_into}
use Rattle.inline_expand.proofs.final_stores.mark_method.Goals as goal

pub returns : goal.returns
returns c =
    let wanted : is_wanted c.args.class.now c.args.of_initialisers c.args.method.now ≡ true = sym c.is_wanted.ensures ∙ c.if-not-is_wanted.false in
    subst (λ (b : Bool). OnOk c.mark_code.result ((count : ℕ) (test : ℕ → Bool) → AreMarks c.args.marks.now count test
    → AreMarks c.mark_code.new.marks count (λ index. test index || (b && list_any (is_store index) (method_instrs c.args.method.now)))))
    (sym wanted) c.mark_code.ensures

pub returns-then-not-is_wanted : goal.returns-then-not-is_wanted
returns-then-not-is_wanted c = λ count test are.
    let wanted : is_wanted c.args.class.now c.args.of_initialisers c.args.method.now ≡ false = sym c.is_wanted.ensures ∙ c.if-not-is_wanted.true in
    same_marks c.args.marks.now count test (λ index. test index || stores_into c.args.class.now c.args.of_initialisers index c.args.method.now)
    (λ number. sym (or_no (test number)) ∙ ap (λ (b : Bool). test number || (b && list_any (is_store number) (method_instrs c.args.method.now))) (sym wanted)) are

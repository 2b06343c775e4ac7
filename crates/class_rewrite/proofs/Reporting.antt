-- The lines of methods one after the other.
use Rattle.std.proofs.Common.{◌≡◌, ◌<◌, ◌+◌, ℕ, zero, suc, List, [], ◌∷◌, ◌++◌, length, take, slice_get, Some, refl, sym, ap, ◌∙◌, append_assoc, arith}
use Rattle.std.proofs.lemmas.List.{append-nil}
use Rattle.class_model.specs.declared.class_file.ClassFile.{ClassFile}
use Rattle.class_model.specs.declared.class_file.Method.{Method}
use Rattle.class_model.specs.declared.class_file.MethodAt.{MethodAt}
use Rattle.class_rewrite.specs.Reports.{AreLines, class_methods_from, methods_from}
use Rattle.class_rewrite.specs.Rewriting.Methods.{Rewriting}
use Rattle.class_rewrite.specs.declared.report.Line.{Line}

-- the methods of a class one by one
pub methods_one_more : (class number count : ℕ) (methods : List Method) → count < length methods → methods_from class number (take (count + 1) methods) ≡ methods_from class number (take count methods) ++ record { class = class; method = number + count } ∷ []
methods_one_more class number count [] within = absurd (omega arith)
methods_one_more class number zero (method ∷ methods) within =
    let same : number + 0 ≡ number = omega arith in
    rw same refl
methods_one_more class number (suc count) (method ∷ methods) within =
    let same : number + suc count ≡ suc number + count = omega arith in
    let next : suc count + 1 ≡ suc (count + 1) = omega arith in
    rw (same, next) (ap (λ (rest : List MethodAt). record { class = class; method = number } ∷ rest) (methods_one_more class (suc number) count methods (omega (arith, within))))

pub classes_one_more : (number count : ℕ) (classes : List ClassFile) (class : ClassFile) → slice_get classes count ≡ Some class → class_methods_from number (take (count + 1) classes) ≡ class_methods_from number (take count classes) ++ methods_from (number + count) zero class.methods
classes_one_more number count [] class is = absurd cc
classes_one_more number zero (first ∷ classes) class is =
    let one : first ≡ class = cc is in
    let same : number + 0 ≡ number = omega arith in
    rw (same, one) (append-nil _)
classes_one_more number (suc count) (first ∷ classes) class is =
    let same : number + suc count ≡ suc number + count = omega arith in
    let next : suc count + 1 ≡ suc (count + 1) = omega arith in
    rw (same, next) (ap (λ (rest : List MethodAt). methods_from number zero first.methods ++ rest) (classes_one_more (suc number) count classes class is)
    ∙ sym (append_assoc (methods_from number zero first.methods) (class_methods_from (suc number) (take count classes)) (methods_from (suc number + count) zero class.methods)))

-- lines behind lines
pub lines_append : (r : Rewriting) (ats others : List MethodAt) (lines more : List Line) → AreLines r ats lines → AreLines r others more → AreLines r (ats ++ others) (lines ++ more)
lines_append r [] others [] more are then = then
lines_append r [] others (line ∷ lines) more are then = absurd are
lines_append r (at ∷ ats) others [] more are then = absurd are
lines_append r (at ∷ ats) others (line ∷ lines) more are then = (are.0, lines_append r ats others lines more are.1 then)

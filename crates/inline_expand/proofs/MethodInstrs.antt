-- The instructions of a method.
use Rattle.std.proofs.Common.{◌≡◌, List, [], ◌∷◌, Some, None, Ok, refl, subst}
use Rattle.std.specs.List.{AllByRecursion}
use Rattle.std.proofs.lemmas.Option.{same_Some}
use Rattle.class_model.specs.Checks.{AllHold}
use Rattle.class_model.specs.Instructions.{decoded}
use Rattle.class_model.specs.MethodCode.{code_of}
use Rattle.class_model.specs.declared.class_file.Attr.{Attr}
use Rattle.class_model.specs.declared.class_file.Attr.TheVariants.{Raw, Code}
use Rattle.class_model.specs.declared.class_file.CodePart.{CodePart}
use Rattle.class_model.specs.declared.class_file.Method.{Method}
use Rattle.class_model.specs.declared.instr.Placed.{Placed}
use Rattle.code_bytes.specs.Codes.{HasInstrs}
use Rattle.code_bytes.specs.Decoding.{decoding_checks}
use Rattle.inline_expand.specs.Inner.StoreWords.{method_instrs}

pub code_checks : (attrs : List Attr) (part : CodePart) → AllByRecursion HasInstrs attrs → code_of attrs ≡ Some part → AllHold (decoding_checks part.code)
code_checks [] part all is = absurd cc
code_checks (Code name other ∷ attrs) part all is = subst (λ (p : CodePart). AllHold (decoding_checks p.code)) (same_Some other part is) all.0
code_checks (Raw name bytes ∷ attrs) part all is = code_checks attrs part all.1 is

pub no_instrs : (method : Method) → code_of method.attrs ≡ None → method_instrs method ≡ []
no_instrs method none = rw none refl

pub instrs_are : (method : Method) (part : CodePart) (instrs : List Placed) → code_of method.attrs ≡ Some part → decoded part.code ≡ Ok instrs → method_instrs method ≡ instrs
instrs_are method part instrs is made = rw (is, made) refl

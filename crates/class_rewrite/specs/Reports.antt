-- The report of a rewriting: a line for each method of the folder.
use Rattle.std.specs.Prelude.{ℕ, zero, suc, Bool, true, false, List, [], ◌∷◌, ◌++◌, count_by}
use Rattle.class_model.specs.declared.class_file.ClassFile.{ClassFile}
use Rattle.class_model.specs.declared.class_file.Method.{Method}
use Rattle.class_model.specs.declared.class_file.MethodAt.{MethodAt}
use Rattle.class_rewrite.specs.Rewriting.Lines.{IsLineOf}
use Rattle.class_rewrite.specs.Rewriting.Methods.{Rewriting}
use Rattle.class_rewrite.specs.declared.report.Line.{Line}
use Rattle.class_tree.specs.Headers.{Classes}
use Rattle.flow_code.specs.declared.reason.Reason.{Reason}
use Rattle.flow_code.specs.declared.reason.Reason.TheVariants.{Rewritten}

-- ---- the methods of a folder

-- those of a class, from the number of the first on
abbrev pub methods_from : ℕ → ℕ → List Method → List MethodAt
methods_from class number [] = []
methods_from class number (method ∷ methods) =
    record { class = class; method = number } ∷ methods_from class (suc number) methods

-- those of classes, from the number of the first on
abbrev pub class_methods_from : ℕ → List ClassFile → List MethodAt
class_methods_from number [] = []
class_methods_from number (class ∷ classes) =
    methods_from number zero class.methods ++ class_methods_from (suc number) classes

-- by the numbers of their classes, and then by their own
abbrev pub all_methods : Classes → List MethodAt
all_methods classes = class_methods_from zero classes.folder

-- ---- lines

-- a line for each of some methods, in order
abbrev pub AreLines : Rewriting → List MethodAt → List Line → Type 0
AreLines r [] [] = Unit {0}
AreLines r (at ∷ ats) (line ∷ lines) = IsLineOf r at line × AreLines r ats lines
AreLines r ats lines = ⊥

-- the report of a folder
abbrev pub IsReport : Rewriting → List Line → Type 0
IsReport r report = AreLines r (all_methods r.classes) report

-- ---- counts

abbrev pub is_rewritten : Reason → Bool
is_rewritten Rewritten = true
is_rewritten reason = false

-- how many methods are rewritten
abbrev pub rewritten_count : List Line → ℕ
rewritten_count report = count_by (λ line. is_rewritten line.reason) report

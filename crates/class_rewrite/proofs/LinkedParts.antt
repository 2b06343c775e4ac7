-- A method that is rewritten is linked where its instructions, its handlers and its frames are.
use Rattle.std.proofs.Common.{◌++◌, List, [], ◌∷◌}
use Rattle.class_model.specs.Checks.{AllHold, Check, asked_each}
use Rattle.class_model.specs.Instructions.{decoded}
use Rattle.class_model.specs.Laws.Checks.{both_hold}
use Rattle.class_model.specs.Methods.{Home}
use Rattle.class_model.specs.Stated.{stated_in}
use Rattle.class_model.specs.declared.class_file.Attr.{Attr}
use Rattle.class_model.specs.declared.class_file.Attr.TheVariants.{Code, Raw}
use Rattle.class_model.specs.declared.class_file.CodePart.{CodePart}
use Rattle.class_model.specs.declared.class_file.Method.{Method}
use Rattle.class_rewrite.specs.Rewriting.Folders.{with_part}
use Rattle.class_tree.specs.Problems.{Problem}
use Rattle.member_link.specs.Uses.{UseScope, attr_checks, code_use_checks, frame_checks, handler_use_checks, instrs_checks}

module _ (uses : UseScope) (home : Home) (method : Method) (part : CodePart)
    (instrs : AllHold (instrs_checks uses (decoded part.code)))
    (handlers : AllHold (asked_each (handler_use_checks uses) part.handlers))
    (stated : AllHold (asked_each (frame_checks uses) (stated_in home method part part.attrs))) where
  abbrev first : List (Check Problem)
  first = instrs_checks uses (decoded part.code) ++ asked_each (handler_use_checks uses) part.handlers

  code_linked : AllHold (code_use_checks uses home method part)
  code_linked =
      both_hold first (asked_each (frame_checks uses) (stated_in home method part part.attrs))
      (both_hold (instrs_checks uses (decoded part.code)) (asked_each (handler_use_checks uses) part.handlers) instrs handlers) stated

  pub parts_linked : (attrs : List Attr) → AllHold (asked_each (attr_checks uses home method) (with_part part attrs))
  parts_linked [] = tt
  parts_linked (Raw name bytes ∷ attrs) = parts_linked attrs
  parts_linked (Code name old ∷ attrs) =
      both_hold (code_use_checks uses home method part) (asked_each (attr_checks uses home method) (with_part part attrs)) code_linked (parts_linked attrs)

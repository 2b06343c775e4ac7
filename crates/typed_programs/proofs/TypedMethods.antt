use Rattle.std.specs.Prelude.{◌≡◌, refl, ℕ, List, slice_get, Option, Some}
use Rattle.std.proofs.Common.{ap, sym, ◌∙◌, subst}
use Rattle.class_model.specs.Code.{entry_frame}
use Rattle.class_model.specs.Descriptors.{parameters_of}
use Rattle.class_model.specs.Header.{header_of, method_member}
use Rattle.class_model.specs.PoolChecks.{utf8_at, class_at, text_or_empty}
use Rattle.class_model.specs.declared.class_file.ClassFile.{ClassFile}
use Rattle.class_model.specs.declared.class_file.CodePart.{CodePart}
use Rattle.class_model.specs.declared.class_file.Method.{Method}
use Rattle.class_model.specs.declared.class_file.MethodAt.{MethodAt}
use Rattle.class_model.specs.declared.frame.Frame.{Frame}
use Rattle.class_model.specs.declared.instr.Placed.{Placed}
use Rattle.class_tree.specs.Headers.{Name, Classes, headers_of}
use Rattle.member_link.specs.Machine.Classes.{program_of, run_class_of}
use Rattle.member_link.specs.Machine.Codes.{method_code}
use Rattle.member_link.specs.Machine.Programs.{Program, Links, name_of_class}
use Rattle.member_link.specs.Scope.{Scope, instructions, row_scope}
use Rattle.typed_programs.proofs.ProgramHeaders.{headers_are}
use Rattle.typed_programs.proofs.TypedCode.{IsTypedCode, IsLinkedInstr, point_typed, entry_lead, as_many_points}
use Rattle.type_rules.specs.MethodBodies.{body_of}
use Rattle.typed_runs.specs.TypedPoints.{LeadsTo}
use Rattle.typed_runs.specs.TypedPrograms.{IsTypedMethod, entry}

abbrev pub scope_with : Classes → ClassFile → Method → CodePart → Scope
scope_with classes file m part = record { headers = headers_of classes; class = file; method = m; part = part }

module _ (classes : Classes) (links : Links) (at : MethodAt) (file : ClassFile) (m : Method) (part : CodePart) (frames : List Frame) where
  abbrev program : Program
  program = program_of classes links

  abbrev scope : Scope
  scope = scope_with classes file m part

  pub method_typed : IsTypedCode (scope_with classes file m part) frames
      → slice_get (program_of classes links).classes at.class ≡ Some (run_class_of links (headers_of classes) file)
      → (name : Name) → class_at file.pool file.this_class ≡ Some name
      → ((number : ℕ) (placed : Placed) → slice_get (instructions (scope_with classes file m part)) number ≡ Some placed
      → (t : IsTypedCode (scope_with classes file m part) frames) → IsLinkedInstr (scope_with classes file m part) frames t
      (program_of classes links) links placed)
      → IsTypedMethod (program_of classes links) at (method_member file.pool m) (method_code links (scope_with classes file m part))
      (record { scope = row_scope (scope_with classes file m part); frames = frames })
  method_typed typed here name named linked = record {
    headers = sym (headers_are classes links);
    own = own;
    result = refl;
    one_each = as_many_points scope frames typed links;
    entry_leads = subst (LeadsTo (record { scope = row_scope scope; frames = frames }) 0) begins (entry_lead scope frames typed);
    points = λ number point there. point_typed scope frames typed program number point there (λ placed is. linked number placed is typed);
  } where
    own : (header_of file).name ≡ name_of_class program at.class
    own = sym (rw here refl)

    begins : (body_of scope).entry ≡ entry program at (method_member file.pool m) (method_code links scope)
    begins =
        ap (λ (n : Option Name). entry_frame m.flags (text_or_empty (utf8_at file.pool m.name)) n
        (parameters_of (text_or_empty (utf8_at file.pool m.desc))) part.max_locals)
        (named ∙ ap Some (sym (ap text_or_empty named) ∙ own))

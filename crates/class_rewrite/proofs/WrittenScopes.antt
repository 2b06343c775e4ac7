-- The scope of a method that is rewritten, in its class of the folder and in the one that is written of it, and that of a field constructor.
use Rattle.std.proofs.Common.{◌≡◌, ℕ, List, slice_get, Option, Some, None, refl, sym, ◌∙◌}
use Rattle.std.proofs.lemmas.Option.{none-some}
use Rattle.class_model.specs.Header.{header_of}
use Rattle.class_model.specs.MethodCode.{code_of}
use Rattle.class_model.specs.declared.class_file.ClassFile.{ClassFile}
use Rattle.class_model.specs.declared.class_file.CodePart.{CodePart}
use Rattle.class_model.specs.declared.class_file.Method.{Method}
use Rattle.class_model.specs.declared.class_file.MethodAt.{MethodAt}
use Rattle.class_rewrite.proofs.FolderPairs.{IsPair}
use Rattle.class_rewrite.proofs.WrittenMethods.{code_given}
use Rattle.class_rewrite.specs.Optimised.{with_folder}
use Rattle.class_rewrite.specs.Rewriting.Folders.{IsFolderWritten, IsMade, IsRewrittenAt, with_part}
use Rattle.class_rewrite.specs.Rewriting.Methods.{Rewriting, Rewritten}
use Rattle.class_rewrite.specs.Rewriting.Verifying.{IsAddedIn, IsWrittenIn}
use Rattle.class_tree.specs.Headers.{Headers, headers_of}
use Rattle.making_code.specs.ConstructorCode.{IsConstructorMethod}
use Rattle.member_link.specs.Scope.{Scope, scope_at, scope_of}

module _ (r : Rewriting) (files : List ClassFile) (w : IsFolderWritten r files) (class : ℕ) (file also : ClassFile) (pair : IsPair r files w class file also) where
  abbrev before : Headers
  before = headers_of r.classes

  abbrev after : Headers
  after = headers_of (with_folder r.classes files)

  abbrev pub numbered : ℕ → MethodAt
  numbered number = record { class = class; method = number }

  abbrev pub host_scope : Method → CodePart → Scope
  host_scope method part = record { headers = before; class = file; method = method; part = part }

  -- with the code that is written in place of its own
  abbrev pub now_scope : Method → CodePart → Scope
  now_scope method part = record {
    headers = after;
    class = also;
    method = record method { attrs = with_part part method.attrs };
    part = part;
  }

  -- what is known of it
  pub record IsHosted (number : ℕ) (method : Method) (v : Rewritten) : Type 0 where
    pub part : CodePart
    pub has_code : code_of method.attrs ≡ Some part
    pub is : IsWrittenIn r files w (numbered number) v (host_scope method part) (now_scope method v.part)
    pub scope : scope_of after also (record method { attrs = with_part v.part method.attrs }) ≡ Some (now_scope method v.part)

  pub hosted : (number : ℕ) (method : Method) (v : Rewritten) → slice_get file.methods number ≡ Some method → IsRewrittenAt r (numbered number) v
      → IsHosted number method v
  hosted number method v got is_at = by (code_of method.attrs) refl where
    at : scope_at r.classes (numbered number) ≡ scope_of before file method
    at = rw (pair.there, got) refl

    by : (part : Option CodePart) → code_of method.attrs ≡ part → IsHosted number method v
    by None none =
        let nowhere : scope_of before file method ≡ None = rw (none) refl in
        absurd (none-some is_at.is.host (sym nowhere ∙ sym at ∙ is_at.is.is_host))
    by (Some part) some =
        let there : scope_of before file method ≡ Some (host_scope method part) = rw (some) refl in
        let now : code_of (with_part v.part method.attrs) ≡ Some v.part = code_given v.part part method.attrs some in
        record {
          part = part;
          has_code = some;
          is = record {
            is = is_at;
            is_host = at ∙ there;
            of_folder = pair.there;
            of_method = got;
            class = pair.now;
            written = pair.is;
            headers = refl;
            method = refl;
            part = refl;
          };
          scope = rw (now) refl;
        }

  -- a field constructor that is added
  abbrev pub added_scope : (method : Method) → IsConstructorMethod before r.constructor (header_of file).name also.pool method → Scope
  added_scope method is = record { headers = after; class = also; method = method; part = is.part }

  pub added_in : (method : Method) (is : IsConstructorMethod before r.constructor (header_of file).name also.pool method)
      → IsMade r w.written (header_of file).name
      → IsAddedIn r files w class file (added_scope method is)
  added_in method is made = record {
    of_folder = pair.there;
    of_written = pair.now;
    written = pair.is;
    headers = refl;
    made = made;
    method = is;
    part = refl;
  }

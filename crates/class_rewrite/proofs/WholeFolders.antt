-- What typing, laying out and linking say of a written folder, put together.
use Rattle.std.proofs.Common.{◌≡◌, ℕ, zero, suc, List, [], ◌∷◌, length, slice_get, Some, ap, subst, ◌∙◌}
use Rattle.std.specs.List.{AllByRecursion}
use Rattle.std.proofs.lemmas.Option.{none-some, same_Some}
use Rattle.class_model.specs.Code.{OperandFits}
use Rattle.class_model.specs.Header.{header_of}
use Rattle.class_model.specs.Methods.{IsHandle}
use Rattle.class_model.specs.Pool.{Constants}
use Rattle.class_model.specs.declared.class_file.ClassFile.{ClassFile}
use Rattle.class_model.specs.declared.class_file.Method.{Method}
use Rattle.class_model.specs.declared.class_file.MethodAt.{MethodAt}
use Rattle.class_model.specs.declared.instr.Instr.{Instr}
use Rattle.making_code.specs.Laws.AddedConstants.{Compares}
use Rattle.class_rewrite.proofs.AddedConstants.{class_adds}
use Rattle.class_rewrite.proofs.WrittenClasses.{IsKnown}
use Rattle.class_rewrite.proofs.WrittenFolders.{IsRewrittenHost, rewritten_host}
use Rattle.class_rewrite.proofs.WrittenSorts.{sorts_are}
use Rattle.class_rewrite.specs.Inner.ReadyFolders.{IsReadyFolder}
use Rattle.class_rewrite.specs.Optimised.{with_folder}
use Rattle.class_rewrite.specs.Rewriting.Folders.{IsClassWritten, IsFolderWritten, IsMade, IsPoolBefore, IsRewrittenAt}
use Rattle.class_rewrite.specs.Rewriting.Methods.{Rewriting, Rewritten}
use Rattle.class_rewrite.specs.Rewriting.WellWritten.{IsWellWritten}
use Rattle.class_tree.specs.Headers.{Headers, IsClassFile, headers_of}
use Rattle.class_tree.specs.Trees.{IsTree}
use Rattle.code_layout.specs.EmittedCode.{HasCodeOf}
use Rattle.code_layout.specs.Emitting.{IsEmitted}
use Rattle.code_layout.specs.Layout.{IsLaid, Spelled}
use Rattle.code_layout.specs.declared.emitted.EmitItem.{EmitItem}
use Rattle.code_layout.specs.declared.laid.Laid.{Laid}
use Rattle.flow_code.specs.FlatCode.{FlatCode}
use Rattle.making_code.specs.Constants.{grow}
use Rattle.making_code.specs.ConstructorCode.{IsConstructorMethod}
use Rattle.making_code.specs.FieldConstructor.{constructor_method_needs}
use Rattle.member_link.specs.Machine.Classes.{handles_in, run_method_of, starts_from}
use Rattle.member_link.specs.Machine.Codes.{call_op, instr_op}
use Rattle.member_link.specs.Machine.Programs.{Links}
use Rattle.member_link.specs.References.{Reference}
use Rattle.member_link.specs.RowScope.{RowScope}
use Rattle.plan_flow.specs.Written.WrittenPrograms.{constructor_method, plan_scope}
use Rattle.stackmap_emit.specs.PlacedFrames.{spelled_in}
use Rattle.type_rules.specs.Grown.{AreGrownHeaders, IsGrownClass, IsGrownHeader, IsGrownOver}

-- ---- laws of the crates below

pub record HaveLaws : Type 0 where
  pub compares : Compares
  pub header : (old new : ClassFile) → IsClassFile old → IsGrownClass old new → IsGrownHeader (header_of old) (header_of new)
  pub method : (before after : Headers) (old new : ClassFile) (number : ℕ) (method : Method) (links : Links) → AreGrownHeaders before after
      → IsClassFile old
      → IsGrownClass old new
      → slice_get old.methods number ≡ Some method
      → run_method_of links after new method ≡ run_method_of links before old method
  pub runs : (scope now : RowScope) (old new : ClassFile) (max_locals : ℕ) (instr : Instr) (links : Links) (number : ℕ → ℕ) → IsClassFile old
      → IsGrownClass old new
      → OperandFits old.pool old.major max_locals instr
      → IsGrownOver scope now old.pool new.pool
      → instr_op links number now instr ≡ instr_op links number scope instr
  pub calls : (scope now : RowScope) (links : Links) (opcode : ℕ) (reference : Reference) → AreGrownHeaders scope.headers now.headers
      → IsGrownHeader scope.own now.own
      → call_op links now opcode reference ≡ call_op links scope opcode reference
  pub starts : (old new : ClassFile) → IsClassFile old → IsGrownClass old new → starts_from new.pool 0 new.fields ≡ starts_from old.pool 0 old.fields
  pub handles : (old new : ClassFile) (grown : IsGrownClass old new) → IsClassFile old
      → AllByRecursion (λ entry. ¬ IsHandle entry) grown.more
      → handles_in new.pool new.pool ≡ handles_in old.pool old.pool
  pub means : (spelled : Spelled) (items : List EmitItem) (laid : Laid) → IsEmitted items → IsLaid spelled items laid → HasCodeOf items laid

each_file : (folder : List ClassFile) (class : ℕ) (file : ClassFile) → AllByRecursion IsClassFile folder → slice_get folder class ≡ Some file → IsClassFile file
each_file [] class file all is = absurd (none-some file is)
each_file (first ∷ folder) zero file all is = subst IsClassFile (same_Some first file is) all.0
each_file (first ∷ folder) (suc class) file all is = each_file folder class file all.1 is

module _ (laws : HaveLaws) (r : Rewriting) (files : List ClassFile) (w : IsFolderWritten r files) (tree : IsTree r.classes) (ready : IsReadyFolder r files w)
  where
    -- ---- method handles

    class_handles : (class : ℕ) (file also : ClassFile) → slice_get r.classes.folder class ≡ Some file → IsClassWritten r w.written w.s class file also
        → handles_in also.pool also.pool ≡ handles_in file.pool file.pool
    class_handles class file also there is =
        let adds = class_adds r w.written w.s class file also is in
        laws.handles file also (record (ready.grown class file also there is) { more = adds.more; pool = adds.is })
        (each_file r.classes.folder class file tree.folder there) adds.none

    -- ---- the whole

    module _ (constructs : (class : ℕ) (file also : ClassFile) (method : Method) (pool : Constants) → slice_get r.classes.folder class ≡ Some file
        → IsClassWritten r w.written w.s class file also
        → IsMade r w.written (header_of file).name
        → IsPoolBefore r class file (length file.methods) pool
        → grow 65535 pool (constructor_method_needs (headers_of r.classes) r.constructor (header_of file).name) ≡ Some also.pool
        → IsConstructorMethod (headers_of r.classes) r.constructor (header_of file).name also.pool method
        → run_method_of r.links (headers_of (with_folder r.classes files)) also method ≡ constructor_method r.classes r.links r.constructor file)
        (well : IsWellWritten r files w) where
      pub folder_known : IsKnown r files w
      folder_known = record {
        same = laws.compares;
        one = ready.one;
        in_order = tree.in_order;
        folder = λ class file there. each_file r.classes.folder class file tree.folder there;
        headers = ready.headers;
        grown = ready.grown;
        own = laws.header;
        method = λ file also number method is grows got.
            laws.method (headers_of r.classes) (headers_of (with_folder r.classes files)) file also number method r.links ready.headers is grows got;
        calls = λ scope now opcode reference headers own. laws.calls scope now r.links opcode reference headers own;
        runs = λ file also is grows scope now locals instr fits over. laws.runs scope now file also locals instr r.links (λ to. to) is grows fits over;
        starts = laws.starts;
        handles = class_handles;
        host = λ at v is. let found = hosted at v is in ap (λ (f : FlatCode). f.host) found.expanded.is ∙ found.expanded.own;
        emitted = well.emitted;
        means = λ at v is. laws.means (spelled_in v.one.form) v.items v.laid (well.emitted at v is) is.is.framed.laid;
        sorts = λ at v is.
            let known = ready.ready at v.one (w.rewritten.all at v is) in
            sorts_are (plan_scope r.classes r.links v.one) known.scope known.code (ready.carries at v.one.flat (hosted at v is).expanded) v.one.form v.one.routes;
        constructor = constructs;
      } where
        hosted : (at : MethodAt) (v : Rewritten) → IsRewrittenAt r at v → IsRewrittenHost r at v.one
        hosted at v is = rewritten_host r files w at v.one (w.rewritten.all at v is)

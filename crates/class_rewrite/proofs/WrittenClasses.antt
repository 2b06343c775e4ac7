-- The program of a written folder is that of the folder in which its written codes, constructors and cleared flags have taken their places.
use Rattle.std.proofs.Common.{◌≡◌, ◌≢◌, ◌+◌, ◌++◌, ◌<◌, ℕ, zero, suc, List, [], ◌∷◌, length, map, slice_get, Option, Some, None, option_map, option_and_then, refl, sym, ap, subst, ◌∙◌, arith}
use Rattle.std.specs.List.{AllByRecursion}
use Rattle.std.proofs.lemmas.List.{map-append}
use Rattle.std.proofs.lemmas.Option.{none-some, same_Some}
use Rattle.class_model.specs.Code.{OperandFits}
use Rattle.class_model.specs.Header.{field_member, header_of, method_member}
use Rattle.class_model.specs.MethodCode.{code_of}
use Rattle.class_model.specs.Pool.{Constants, constant_at}
use Rattle.class_model.specs.declared.class_file.ClassFile.{ClassFile}
use Rattle.class_model.specs.declared.class_file.CodePart.{CodePart}
use Rattle.class_model.specs.declared.class_file.Field.{Field}
use Rattle.class_model.specs.declared.class_file.Method.{Method}
use Rattle.class_model.specs.declared.class_file.MethodAt.{MethodAt}
use Rattle.class_model.specs.declared.header.Header.{Header}
use Rattle.class_model.specs.declared.header.Member.{Member}
use Rattle.class_model.specs.declared.instr.Instr.{Instr}
use Rattle.making_code.specs.Laws.AddedConstants.{Compares}
use Rattle.class_rewrite.proofs.FirstEntries.{file_starts, first_is_none}
use Rattle.class_rewrite.proofs.WrittenMethods.{IsGiven, code_given, code_is_written, host_before, host_now}
use Rattle.class_rewrite.proofs.WrittenPoints.{Sort}
use Rattle.class_rewrite.specs.Laws.GrownPools.{pool_begins, rewritten_begins, written_begins}
use Rattle.class_rewrite.specs.Laws.MadeConstructors.{made_is_added}
use Rattle.class_rewrite.specs.Laws.OneFolder.{kept_or_rewritten}
use Rattle.class_rewrite.specs.Laws.OneWriting.{HaveOne}
use Rattle.class_rewrite.specs.Laws.WrittenGrown.{added_begins}
use Rattle.class_rewrite.specs.Optimised.{with_folder}
use Rattle.class_rewrite.specs.Rewriting.Folders.{AddsMethods, AreClassesWritten, AreMethodsWritten, IsClassWritten, IsFolderWritten, IsMade, IsMethodWritten, IsPoolBefore, IsRewrittenAt, adds_none, adds_one, field_written, is_kept, is_rewritten, with_part}
use Rattle.class_rewrite.specs.Rewriting.Methods.{Rewriting, Rewritten}
use Rattle.class_tree.specs.Alike.{AreFieldsAlike}
use Rattle.class_tree.specs.Headers.{Headers, IsClassFile, headers_of}
use Rattle.class_tree.specs.Trees.{IsInOrder}
use Rattle.code_layout.specs.EmittedCode.{HasCodeOf}
use Rattle.code_layout.specs.Emitting.{IsEmitted}
use Rattle.making_code.specs.Constants.{grow}
use Rattle.making_code.specs.ConstructorCode.{IsConstructorMethod}
use Rattle.making_code.specs.FieldConstructor.{constructor_method_needs}
use Rattle.making_code.specs.Items.{WItem}
use Rattle.making_code.specs.Laws.GrownPools.{Begins, begins_itself, begins_through}
use Rattle.member_link.specs.Machine.Classes.{handles_in, program_of, run_class_of, run_method_of, starts_from}
use Rattle.member_link.specs.Machine.Codes.{call_op, instr_op, method_code}
use Rattle.member_link.specs.Machine.Programs.{Code as RunCode, Links, RunClass, RunMethod}
use Rattle.member_link.specs.Machine.Replaced.{Replacement, field_cleared, map_numbered, method_replaced, replaced, replaced_class, with_body, without_flags}
use Rattle.member_link.specs.References.{Reference}
use Rattle.member_link.specs.RowScope.{RowScope}
use Rattle.member_link.specs.Scope.{Scope, scope_at, scope_of}
use Rattle.plan_flow.specs.PlanScope.{PlanScope, pool_of}
use Rattle.plan_flow.specs.Written.WrittenCode.{written_code, written_items}
use Rattle.plan_flow.specs.Written.WrittenPrograms.{WrittenMethod, WrittenMethods, constructor_method, finished_of, plan_scope, written_body}
use Rattle.type_rules.specs.Grown.{AreGrownHeaders, IsGrownClass, IsGrownHeader, IsGrownOver}

-- ---- fields

pub fields_cleared : (s : Replacement) (class number : ℕ) (one other : Constants) (fields : List Field)
    → AreFieldsAlike (map (field_member one) fields) (map (field_member other) (map_numbered (field_written s class) number fields))
    → map (field_member other) (map_numbered (field_written s class) number fields)
    ≡ map_numbered (field_cleared s class) number (map (field_member one) fields)
fields_cleared s class number one other [] alike = refl
fields_cleared s class number one other (field ∷ fields) alike =
    let flags : ℕ = without_flags field.flags (s.cleared class number) in
    let more : List Member = map (field_member other) (map_numbered (field_written s class) (suc number) fields) in
    ap (λ (name : List ℕ). record { flags = flags; name = name; desc = (field_member other field).desc } ∷ more) alike.0.same_name
    ∙ ap (λ (desc : List ℕ). record { flags = flags; name = (field_member one field).name; desc = desc } ∷ more) alike.0.same_desc
    ∙ ap (λ (rest : List Member). field_cleared s class number (field_member one field) ∷ rest)
    (fields_cleared s class (suc number) one other fields alike.1)

-- ---- members of methods

members_replaced : (s : Replacement) (class number : ℕ) (methods : List RunMethod)
    → map (λ (method : RunMethod). method.member) (map_numbered (method_replaced s class) number methods)
    ≡ map (λ (method : RunMethod). method.member) methods
members_replaced s class number [] = refl
members_replaced s class number (method ∷ methods) =
    ap (λ (member : Member). member ∷ map (λ (one : RunMethod). one.member) (map_numbered (method_replaced s class) (suc number) methods))
    (by (s.body (record { class = class; method = number })))
    ∙ ap (λ (rest : List Member). method.member ∷ rest) (members_replaced s class (suc number) methods) where
      by : (body : Option RunCode) → (with_body method body).member ≡ method.member
      by None = refl
      by (Some code) = refl

members_of : (links : Links) (headers : Headers) (file : ClassFile) (methods : List Method)
    → map (λ (method : RunMethod). method.member) (map (run_method_of links headers file) methods) ≡ map (method_member file.pool) methods
members_of links headers file [] = refl
members_of links headers file (method ∷ methods) =
    ap (λ (rest : List Member). method_member file.pool method ∷ rest) (members_of links headers file methods)

-- ---- what is known of the written folder

-- What typing, laying out and planning say of the methods that are rewritten, and of the field constructors.
pub record IsKnown (r : Rewriting) (files : List ClassFile) (w : IsFolderWritten r files) : Type 0 where
  pub same : Compares
  pub one : HaveOne r
  pub in_order : IsInOrder (headers_of r.classes)
  pub folder : (class : ℕ) (file : ClassFile) → slice_get r.classes.folder class ≡ Some file → IsClassFile file
  -- the classes have grown
  pub headers : AreGrownHeaders (headers_of r.classes) (headers_of (with_folder r.classes files))
  pub grown : (class : ℕ) (file also : ClassFile) → slice_get r.classes.folder class ≡ Some file
      → IsClassWritten r w.written w.s class file also
      → IsGrownClass file also
  pub own : (file also : ClassFile) → IsClassFile file → IsGrownClass file also → IsGrownHeader (header_of file) (header_of also)
  pub method : (file also : ClassFile) (number : ℕ) (method : Method) → IsClassFile file → IsGrownClass file also
      → slice_get file.methods number ≡ Some method
      → run_method_of r.links (headers_of (with_folder r.classes files)) also method ≡ run_method_of r.links (headers_of r.classes) file method
  pub calls : (scope now : RowScope) (opcode : ℕ) (reference : Reference) → AreGrownHeaders scope.headers now.headers
      → IsGrownHeader scope.own now.own
      → call_op r.links now opcode reference ≡ call_op r.links scope opcode reference
  pub runs : (file also : ClassFile) → IsClassFile file → IsGrownClass file also
      → (scope now : RowScope) (locals : ℕ) (instr : Instr)
      → OperandFits file.pool file.major locals instr
      → IsGrownOver scope now file.pool also.pool
      → instr_op r.links (λ to. to) now instr ≡ instr_op r.links (λ to. to) scope instr
  pub starts : (file also : ClassFile) → IsClassFile file → IsGrownClass file also
      → starts_from also.pool 0 also.fields ≡ starts_from file.pool 0 file.fields
  pub handles : (class : ℕ) (file also : ClassFile) → slice_get r.classes.folder class ≡ Some file
      → IsClassWritten r w.written w.s class file also
      → handles_in also.pool also.pool ≡ handles_in file.pool file.pool
  -- methods that are rewritten
  pub host : (at : MethodAt) (v : Rewritten) → IsRewrittenAt r at v → v.one.flat.host ≡ at
  pub emitted : (at : MethodAt) (v : Rewritten) → IsRewrittenAt r at v → IsEmitted v.items
  pub means : (at : MethodAt) (v : Rewritten) → IsRewrittenAt r at v → HasCodeOf v.items v.laid
  pub sorts : (at : MethodAt) (v : Rewritten) → IsRewrittenAt r at v
      → AllByRecursion (λ (one : WItem). Sort (plan_scope r.classes r.links v.one) one.instr)
      (written_items v.one.form (finished_of r.classes r.links v.one))
  -- field constructors
  pub constructor : (class : ℕ) (file also : ClassFile) (method : Method) (pool : Constants) → slice_get r.classes.folder class ≡ Some file
      → IsClassWritten r w.written w.s class file also
      → IsMade r w.written (header_of file).name
      → IsPoolBefore r class file (length file.methods) pool
      → grow 65535 pool (constructor_method_needs (headers_of r.classes) r.constructor (header_of file).name) ≡ Some also.pool
      → IsConstructorMethod (headers_of r.classes) r.constructor (header_of file).name also.pool method
      → run_method_of r.links (headers_of (with_folder r.classes files)) also method ≡ constructor_method r.classes r.links r.constructor file

module _ {r : Rewriting} {files : List ClassFile} {w : IsFolderWritten r files} (known : IsKnown r files w) where
  abbrev before : Headers
  before = headers_of r.classes

  abbrev after : Headers
  after = headers_of (with_folder r.classes files)

  -- ---- a class

  module _ (class : ℕ) (file also : ClassFile) (there : slice_get r.classes.folder class ≡ Some file)
      (is : IsClassWritten r w.written w.s class file also) where
    is_file : IsClassFile file
    is_file = known.folder class file there

    grows : IsGrownClass file also
    grows = known.grown class file also there is

    own : IsGrownHeader (header_of file) (header_of also)
    own = known.own file also is_file grows

    pool_is : also.pool ≡ is.pool
    pool_is = ap (λ (c : ClassFile). c.pool) is.is

    abbrev numbered : ℕ → MethodAt
    numbered number = record { class = class; method = number }

    -- the pool that a method leaves is the beginning of the class's
    begins_from : (number : ℕ) (v : Rewritten) → number < length file.methods → (is_at : IsRewrittenAt r (numbered number) v) → Begins v.code_pool also.pool
    begins_from number v less is_at =
        let files_same : is_at.file ≡ file = same_Some is_at.file file (sym is_at.is_file ∙ there) in
        let before_it : IsPoolBefore r class file number is_at.pool =
        subst (λ (f : ClassFile). IsPoolBefore r class f number is_at.pool) files_same is_at.before in
        let gap : (n : ℕ) × (length file.methods ≡ suc (number + n)) = behind number (length file.methods) less in
        let last : IsPoolBefore r class file (suc (number + gap.0)) is.code_pool =
        subst (λ (n : ℕ). IsPoolBefore r class file n is.code_pool) gap.1 is.before_constructors in
        let through = written_begins r known.one class file number is_at.pool v before_it is_at.is gap.0 (number + gap.0) is.code_pool refl last in
        subst (Begins v.code_pool) (sym pool_is)
        (begins_through v.code_pool v.pool is.pool (rewritten_begins r (numbered number) is_at.pool v is_at.is).1
        (begins_through v.pool is.code_pool is.pool through (added_begins r w.written file is.code_pool is.pool is.added is.adds))) where
          behind : (n count : ℕ) → n < count → (gap : ℕ) × (count ≡ suc (n + gap))
          behind n zero less = absurd (omega (arith, less))
          behind zero (suc count) less = (count, omega arith)
          behind (suc n) (suc count) less =
              let rest = behind n count (omega (arith, less)) in
              let same = rest.1 in
              (rest.0, omega (arith, same))

    -- ---- a method

    abbrev ran : Method → RunMethod
    ran method = run_method_of r.links before file method

    abbrev runs_now : Method → RunMethod
    runs_now method = run_method_of r.links after also method

    kept_body : (number : ℕ) → ((v : Rewritten) → IsRewrittenAt r (numbered number) v → ⊥) → w.s.body (numbered number) ≡ None
    kept_body number never = w.replaces.bodies (numbered number) ∙ by (w.written (numbered number)) refl where
      by : (found : Option WrittenMethod) → w.written (numbered number) ≡ found
          → written_body r.classes r.links r.constructor w.written (numbered number) ≡ None
      by None none = rw (none) refl
      by (Some one) some = let found = w.rewritten.each (numbered number) one some in absurd (never found.0 found.1)

    rewritten_body : (number : ℕ) (v : Rewritten) (host : Scope) → IsRewrittenAt r (numbered number) v → scope_at r.classes (numbered number) ≡ Some host
        → w.s.body (numbered number)
        ≡ Some (written_code (plan_scope r.classes r.links v.one) host r.constructor v.one.form (finished_of r.classes r.links v.one))
    rewritten_body number v host is_at is_host =
        let found : w.written (numbered number) ≡ Some v.one = w.rewritten.all (numbered number) v is_at in
        w.replaces.bodies (numbered number) ∙ rw (found, is_host) refl

    method_written : (number : ℕ) (method now : Method) → slice_get file.methods number ≡ Some method → number < length file.methods
        → IsMethodWritten r (numbered number) method now
        → runs_now now ≡ method_replaced w.s class number (ran method)
    method_written number method _ got less (is_kept {reason = reason} has kept) =
        let body = kept_body number (λ v is_at. kept_or_rewritten r known.one (numbered number) reason v has kept is_at) in
        known.method file also number method is_file grows got ∙ ap (with_body (ran method)) (sym body)
    method_written number method _ got less (is_rewritten {w = v} is_at) =
        let scope : scope_at r.classes (numbered number) ≡ scope_of before file method = rw (there, got) refl in
        by (code_of method.attrs) refl (sym scope ∙ is_at.is.is_host) where
          s : PlanScope
          s = plan_scope r.classes r.links v.one

          by : (part : Option CodePart) → code_of method.attrs ≡ part → scope_of before file method ≡ Some is_at.is.host
              → runs_now (record method { attrs = with_part v.part method.attrs }) ≡ method_replaced w.s class number (ran method)
          by None none host_is = absurd (none-some is_at.is.host (sym (rw (none) refl) ∙ host_is))
          by (Some part) some host_is =
              let host : Scope = record { headers = before; class = file; method = method; part = part } in
              let there_host : scope_at r.classes (numbered number) ≡ Some host = rw (there, got, some) refl in
              let member : method_member also.pool method ≡ method_member file.pool method =
              ap (λ (m : RunMethod). m.member) (known.method file also number method is_file grows got) in
              let code_pool = is_at.is.coded.grows in
              let host_class : v.one.flat.host ≡ numbered number = known.host (numbered number) v is_at in
              let given : IsGiven r.classes r.links s r.constructor v.one.form (finished_of r.classes r.links v.one) file also method after v.part
              is_at.pool v.code_pool v.items v.laid = record {
                grows = is_at.is.coded.grows;
                begins = begins_from number v less is_at;
                items_are = is_at.is.coded.items;
                emitted = known.emitted (numbered number) v is_at;
                means = known.means (numbered number) v is_at;
                code = is_at.is.code;
                handlers = is_at.is.handlers;
                max_locals = is_at.is.max_locals;
                links_are = refl;
                own_file = ap (λ (at : MethodAt). slice_get r.classes.folder at.class) host_class ∙ there;
                headers = known.headers;
                own = own;
                member = member;
                first = first_is_none file.pool also.pool (file_starts file is_file) (record { more = grows.more; is = grows.pool });
                sorts = known.sorts (numbered number) v is_at;
              } in
              let attrs = with_part v.part method.attrs in
              let code : method_code r.links (host_now known.same given attrs part known.calls (known.runs file also is_file grows))
              ≡ written_code s host r.constructor v.one.form (finished_of r.classes r.links v.one) =
              code_is_written known.same given attrs part known.calls (known.runs file also is_file grows) in
              let body = rewritten_body number v host is_at there_host in
              rw (code_given v.part part method.attrs some, body, some)
              (ap (λ (m : Member). record { member = m; code = Some (method_code r.links (record { headers = after; class = also; method = record method { attrs = attrs }; part = v.part })) }) member
              ∙ ap (λ (c : RunCode). record { member = method_member file.pool method; code = Some c }) code)

    methods_written : (front : ℕ) (methods news : List Method) → AreMethodsWritten r class front methods news
        → ((number : ℕ) (method : Method) → slice_get methods number ≡ Some method → slice_get file.methods (front + number) ≡ Some method)
        → (length file.methods ≡ front + length methods)
        → map runs_now news ≡ map_numbered (method_replaced w.s class) front (map ran methods)
    methods_written front [] [] all got count = refl
    methods_written front [] (now ∷ news) all got count = absurd all
    methods_written front (method ∷ methods) [] all got count = absurd all
    methods_written front (method ∷ methods) (now ∷ news) all got count =
        let here : slice_get file.methods front ≡ Some method =
        subst (λ (n : ℕ). slice_get file.methods n ≡ Some method) (omega arith) (got zero method refl) in
        ap (λ (m : RunMethod). m ∷ map runs_now news) (method_written front method now here (omega (arith, count)) all.0)
        ∙ ap (λ (rest : List RunMethod). method_replaced w.s class front (ran method) ∷ rest)
        (methods_written (suc front) methods news all.1
        (λ number one is_one. subst (λ (n : ℕ). slice_get file.methods n ≡ Some one) (omega arith) (got (suc number) one is_one)) (omega (arith, count)))

    -- ---- what is added

    added_written : {pool last : Constants} (added : List Method) → IsPoolBefore r class file (length file.methods) pool
        → AddsMethods r w.written file pool last added
        → last ≡ also.pool
        → map runs_now added ≡ w.s.added class
    added_written _ first (adds_none none) same = sym (w.no_more class file there none)
    added_written {pool = pool} _ first (adds_one {method = method} made grown_is is_method) same =
        ap (λ (m : RunMethod). m ∷ []) (known.constructor class file also method pool there is made first (grown_is ∙ ap Some same)
        (subst (λ (p : Constants). IsConstructorMethod before r.constructor (header_of file).name p method) same is_method))
        ∙ sym (made_is_added r files w known.in_order class file there made)

    -- ---- the whole class

    all_methods : map runs_now also.methods ≡ map_numbered (method_replaced w.s class) zero (map ran file.methods) ++ w.s.added class
    all_methods =
        ap (λ (c : ClassFile). map runs_now c.methods) is.is
        ∙ map-append runs_now is.methods is.added
        ∙ ap (λ (front : List RunMethod). front ++ map runs_now is.added)
        (methods_written zero file.methods is.methods is.are_methods
        (λ number method got. subst (λ (n : ℕ). slice_get file.methods n ≡ Some method) (omega arith) got) (omega arith))
        ∙ ap (λ (back : List RunMethod). map_numbered (method_replaced w.s class) zero (map ran file.methods) ++ back)
        (added_written is.added is.before_constructors is.adds (sym pool_is))

    header_fields : (header_of also).fields ≡ map_numbered (field_cleared w.s class) zero (header_of file).fields
    header_fields =
        let same : also.fields ≡ map_numbered (field_written w.s class) zero file.fields = ap (λ (c : ClassFile). c.fields) is.is in
        ap (map (field_member also.pool)) same
        ∙ fields_cleared w.s class zero file.pool also.pool file.fields
        (subst (λ (fields : List Field). AreFieldsAlike (map (field_member file.pool) file.fields) (map (field_member also.pool) fields)) same own.alike.fields)

    header_methods : (header_of also).methods ≡ (header_of file).methods ++ map (λ (method : RunMethod). method.member) (w.s.added class)
    header_methods =
        sym (members_of r.links after also also.methods)
        ∙ ap (map (λ (method : RunMethod). method.member)) all_methods
        ∙ map-append (λ (method : RunMethod). method.member) (map_numbered (method_replaced w.s class) zero (map ran file.methods)) (w.s.added class)
        ∙ ap (λ (front : List Member). front ++ map (λ (method : RunMethod). method.member) (w.s.added class))
        (members_replaced w.s class zero (map ran file.methods) ∙ members_of r.links before file file.methods)

    header_is : header_of also ≡ record (header_of file) {
      fields = map_numbered (field_cleared w.s class) zero (header_of file).fields;
      methods = (header_of file).methods ++ map (λ (method : RunMethod). method.member) (w.s.added class);
    }
    header_is =
        let h : Header = header_of also in
        let o : Header = header_of file in
        ap (λ (x : _). record h { name = x }) own.alike.same_name
        ∙ ap (λ (x : _). record h { name = o.name; flags = x }) own.alike.same_flags
        ∙ ap (λ (x : _). record h { name = o.name; flags = o.flags; super_name = x }) own.alike.same_super
        ∙ ap (λ (x : _). record h { name = o.name; flags = o.flags; super_name = o.super_name; interfaces = x }) own.alike.same_interfaces
        ∙ ap (λ (x : List Member). record o { fields = x; methods = h.methods }) header_fields
        ∙ ap (λ (x : List Member). record o { fields = map_numbered (field_cleared w.s class) zero o.fields; methods = x }) header_methods

    pub class_written : run_class_of r.links after also ≡ replaced_class w.s class (run_class_of r.links before file)
    class_written =
        let to : Header → List RunMethod → RunClass = λ header methods. record {
          header = header;
          methods = methods;
          starts = starts_from also.pool zero also.fields;
          handles = handles_in also.pool also.pool;
        } in
        let header : Header = record (header_of file) {
          fields = map_numbered (field_cleared w.s class) zero (header_of file).fields;
          methods = (header_of file).methods ++ map (λ (method : RunMethod). method.member) (w.s.added class);
        } in
        let methods : List RunMethod = map_numbered (method_replaced w.s class) zero (map ran file.methods) ++ w.s.added class in
        ap (λ (h : Header). to h (map runs_now also.methods)) header_is
        ∙ ap (to header) all_methods
        ∙ ap (λ (x : _). record (to header methods) { starts = x }) (known.starts file also is_file grows)
        ∙ ap (λ (x : _). record (to header methods) { starts = starts_from file.pool zero file.fields; handles = x }) (known.handles class file also there is)

  -- ---- all classes

  classes_written : (front : ℕ) (olds news : List ClassFile) → AreClassesWritten r w.written w.s front olds news
      → ((number : ℕ) (file : ClassFile) → slice_get olds number ≡ Some file → slice_get r.classes.folder (front + number) ≡ Some file)
      → map (run_class_of r.links after) news ≡ map_numbered (replaced_class w.s) front (map (run_class_of r.links before) olds)
  classes_written front [] [] all got = refl
  classes_written front [] (also ∷ news) all got = absurd all
  classes_written front (file ∷ olds) [] all got = absurd all
  classes_written front (file ∷ olds) (also ∷ news) all got =
      let here : slice_get r.classes.folder front ≡ Some file =
      subst (λ (n : ℕ). slice_get r.classes.folder n ≡ Some file) (omega arith) (got zero file refl) in
      ap (λ (c : RunClass). c ∷ map (run_class_of r.links after) news) (class_written front file also here all.0)
      ∙ ap (λ (rest : List RunClass). replaced_class w.s front (run_class_of r.links before file) ∷ rest)
      (classes_written (suc front) olds news all.1
      (λ number one is_one. subst (λ (n : ℕ). slice_get r.classes.folder n ≡ Some one) (omega arith) (got (suc number) one is_one)))

  -- The written folder's program.
  pub program_written : program_of (with_folder r.classes files) r.links ≡ replaced (program_of r.classes r.links) w.s
  program_written =
      ap (λ (classes : List RunClass). record { classes = classes; library = r.classes.library; links = r.links })
      (classes_written zero r.classes.folder files w.classes
      (λ number file got. subst (λ (n : ℕ). slice_get r.classes.folder n ≡ Some file) (omega arith) got))

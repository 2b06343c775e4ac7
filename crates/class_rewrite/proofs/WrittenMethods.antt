-- The code of a method that is rewritten, in the class that has it, is its written code.
use Rattle.std.proofs.Common.{◌≡◌, ◌≢◌, ◌==◌, ◌<◌, ◌&&◌, ℕ, zero, suc, Bool, true, false, List, [], ◌∷◌, bytes_eq, length, map, slice_get, Option, Some, None, option_map, option_and_then, if◌then◌else◌, refl, sym, ap, subst, ◌∙◌, arith}
use Rattle.std.specs.List.{AllByRecursion}
use Rattle.std.proofs.lemmas.Option.{none-some, same_Some}
use Rattle.class_model.specs.Code.{OperandFits}
use Rattle.class_model.specs.Header.{header_of, method_member}
use Rattle.class_model.specs.Instructions.{targets}
use Rattle.class_model.specs.MethodCode.{code_of}
use Rattle.class_model.specs.Names.{clinit, init}
use Rattle.class_model.specs.Members.{is_text}
use Rattle.class_model.specs.Pool.{Constants, constant_at}
use Rattle.class_model.specs.PoolChecks.{text_or_empty, utf8_at}
use Rattle.class_model.specs.declared.class_file.Attr.{Attr}
use Rattle.class_model.specs.declared.class_file.Attr.TheVariants.{Code, Raw}
use Rattle.class_model.specs.declared.class_file.ClassFile.{ClassFile}
use Rattle.class_model.specs.declared.class_file.CodePart.{CodePart}
use Rattle.class_model.specs.declared.class_file.Method.{Method}
use Rattle.class_model.specs.declared.descriptor.FieldType.{FieldType}
use Rattle.class_model.specs.declared.header.Member.{Member}
use Rattle.class_model.specs.declared.instr.Instr.{Instr}
use Rattle.class_model.specs.declared.instr.Instr.TheVariants.{Nop, Const, Ldc, Ldc2, Load, Store, Iinc, ArrayLoad, ArrayStore, Shuffle, Pure, Divide, FloatAsk, If, If2, IfSame, IfNull, Goto, Table, Lookup, Return, GetStatic, PutStatic, GetField, PutField, Invoke, Dynamic, New, NewArray, NewRefArray, NewMulti, Length, Throw, Cast, InstanceOf, Enter, Leave}
use Rattle.making_code.specs.Laws.AddedConstants.{Compares}
use Rattle.class_rewrite.proofs.NeededConstants.{ItemMeant, written_meant}
use Rattle.class_rewrite.proofs.StayingIndices.{items_stay}
use Rattle.class_rewrite.proofs.WrittenOps.{IsWrittenScope}
use Rattle.class_rewrite.proofs.WrittenPoints.{IsInside, Sort, number_in, points_written}
use Rattle.class_rewrite.specs.Rewriting.Folders.{with_part}
use Rattle.class_tree.specs.Headers.{Classes, Headers, Name, headers_of}
use Rattle.code_layout.specs.EmittedCode.{HasCodeOf, item_points, items_code, items_scope}
use Rattle.code_layout.specs.Emitting.{IsEmitted, IsItem, NamesItem}
use Rattle.code_layout.specs.PlainItems.{plain_items}
use Rattle.code_layout.specs.declared.emitted.Catch.{Catch as EmittedCatch}
use Rattle.code_layout.specs.declared.emitted.EmitItem.{EmitItem}
use Rattle.code_layout.specs.declared.laid.Laid.{Laid}
use Rattle.flow_code.specs.WrittenUnits.{written_units}
use Rattle.making_code.specs.Items.{WItem, carried}
use Rattle.making_code.specs.Laws.GrownPools.{Begins}
use Rattle.member_link.specs.Machine.Codes.{call_op, instr_op, method_code, number_at, run_point}
use Rattle.member_link.specs.Machine.Programs.{Links, Point as RunPoint}
use Rattle.member_link.specs.Machine.Ops.{Op}
use Rattle.member_link.specs.References.{Reference}
use Rattle.member_link.specs.RowScope.{RowScope}
use Rattle.member_link.specs.Scope.{Scope, is_clinit, is_init, own_descriptor, row_scope, scope_of}
use Rattle.member_link.specs.Signatures.{result_of}
use Rattle.plan_flow.specs.PlanScope.{PlanScope, pool_of}
use Rattle.plan_flow.specs.Written.Finish.{Finished}
use Rattle.plan_flow.specs.Written.WrittenCode.{Form, short, written_code, written_items}
use Rattle.plan_flow.specs.Written.WrittenConstants.{code_needs, code_pool, indexed_items}
use Rattle.type_rules.specs.Grown.{AreGrownHeaders, IsGrownClass, IsGrownHeader, IsGrownOver}

-- ---- attributes

-- the Code attribute has the content that is given
pub code_given : (part old : CodePart) (attrs : List Attr) → code_of attrs ≡ Some old → code_of (with_part part attrs) ≡ Some part
code_given part old [] is = absurd (none-some old is)
code_given part old (Raw name bytes ∷ attrs) is = code_given part old attrs is
code_given part old (Code name also ∷ attrs) is = refl

-- ---- texts

init_told : (text : Option (List ℕ)) → is_text init text ≡ bytes_eq init (text_or_empty text)
init_told None = refl
init_told (Some text) = refl

clinit_told : (text : Option (List ℕ)) → is_text clinit text ≡ bytes_eq clinit (text_or_empty text)
clinit_told None = refl
clinit_told (Some text) = refl

-- ---- what an operation reads of a scope

reads_alike : (links : Links) (a b : RowScope) (instr : Instr) → b ≡ record a { major = b.major; is_init = b.is_init; is_clinit = b.is_clinit; result = b.result; max_stack = b.max_stack; new_class = b.new_class }
    → b.is_init ≡ a.is_init
    → b.is_clinit ≡ a.is_clinit
    → b.result ≡ a.result
    → instr_op links (λ to. to) b instr ≡ instr_op links (λ to. to) a instr
reads_alike links a b instr rest same_init same_clinit same_result = ap (λ (s : RowScope). instr_op links (λ to. to) s instr) rest ∙ by instr where
  by : (i : Instr) → instr_op links (λ to. to) (record a { major = b.major; is_init = b.is_init; is_clinit = b.is_clinit; result = b.result; max_stack = b.max_stack; new_class = b.new_class }) i ≡ instr_op links (λ to. to) a i
  by Nop = refl
  by (Const imm) = refl
  by (Ldc index) = refl
  by (Ldc2 index) = refl
  by (Load kind local) = refl
  by (Store kind local) = refl
  by (Iinc local amount) = refl
  by (ArrayLoad opcode) = refl
  by (ArrayStore opcode) = refl
  by (Shuffle opcode) = refl
  by (Pure opcode) = refl
  by (Divide opcode) = refl
  by (FloatAsk opcode) = refl
  by (If opcode to) = refl
  by (If2 opcode to) = refl
  by (IfSame opcode to) = refl
  by (IfNull opcode to) = refl
  by (Goto to) = refl
  by (Table low default to) = refl
  by (Lookup default pairs) = refl
  by (GetStatic index) = refl
  by (GetField index) = refl
  by (Invoke opcode index count) = refl
  by (Dynamic index) = refl
  by (New index) = refl
  by (NewArray code) = refl
  by (NewRefArray index) = refl
  by (NewMulti index dimensions) = refl
  by Length = refl
  by Throw = refl
  by (Cast index) = refl
  by (InstanceOf index) = refl
  by Enter = refl
  by Leave = refl
  by (Return kind) = rw (same_result) refl
  by (PutStatic index) = rw (same_clinit) refl
  by (PutField index) = rw (same_init) refl

-- ---- items inside

within : (count : ℕ) (items : List EmitItem) → ((at : ℕ) (item : EmitItem) → slice_get items at ≡ Some item → IsInside count item) → AllByRecursion (IsInside count) items
within count [] each = tt
within count (item ∷ items) each = (each zero item refl, within count items (λ at one is. each (suc at) one is))

inside : (items : List EmitItem) → IsEmitted items → AllByRecursion (IsInside (length items)) items
inside items emitted = within (length items) items (λ at item is.
    let one : IsItem items at item = emitted.each at item is in
    record { targets = one.targets; catches = one.catches })

-- ---- the method

-- a method of the folder, what is written of it, and the class that has it then
pub record IsGiven (classes : Classes) (links : Links) (s : PlanScope) (constructor : Name → List ℕ) (form : Form) (blocks : List Finished)
    (file also : ClassFile) (method : Method) (after : Headers) (part : CodePart) (old grown : Constants) (items : List EmitItem) (laid : Laid)
    : Type 0 where
  pub grows : code_pool s constructor (written_items short blocks) old ≡ Some grown
  pub begins : Begins grown also.pool
  pub items_are : plain_items items ≡ indexed_items s constructor grown form blocks
  pub emitted : IsEmitted items
  pub means : HasCodeOf items laid
  pub code : part.code ≡ laid.code
  pub handlers : part.handlers ≡ laid.handlers
  pub max_locals : part.max_locals ≡ written_units s.flat
  pub links_are : s.links ≡ links
  pub own_file : slice_get s.classes.folder s.flat.host.class ≡ Some file
  pub headers : AreGrownHeaders (headers_of classes) after
  pub own : IsGrownHeader (header_of file) (header_of also)
  pub member : method_member also.pool method ≡ method_member file.pool method
  pub first : constant_at also.pool 0 ≡ None
  pub sorts : AllByRecursion (λ (one : WItem). Sort s one.instr) (written_items form blocks)

module _ (same : Compares) {classes : Classes} {links : Links} {s : PlanScope} {constructor : Name → List ℕ} {form : Form} {blocks : List Finished}
    {file also : ClassFile} {method : Method} {after : Headers} {part : CodePart} {old grown : Constants} {items : List EmitItem} {laid : Laid}
    (given : IsGiven classes links s constructor form blocks file also method after part old grown items laid)
    (attrs : List Attr) (before : CodePart)
    (calls : (scope now : RowScope) (opcode : ℕ) (r : Reference) → AreGrownHeaders scope.headers now.headers → IsGrownHeader scope.own now.own
    → call_op links now opcode r ≡ call_op links scope opcode r)
    (runs : (scope now : RowScope) (locals : ℕ) (instr : Instr) → OperandFits file.pool file.major locals instr
    → IsGrownOver scope now file.pool also.pool
    → instr_op links (λ to. to) now instr ≡ instr_op links (λ to. to) scope instr) where
  -- the method as it was, and as it is written
  abbrev pub host_before : Scope
  host_before = record { headers = headers_of classes; class = file; method = method; part = before }

  abbrev pub host_now : Scope
  host_now = record { headers = after; class = also; method = record method { attrs = attrs }; part = part }

  abbrev rows_now : RowScope
  rows_now = items_scope host_now items

  text_same : (bytes_of : List ℕ → Bool) → bytes_of (text_or_empty (utf8_at also.pool method.name)) ≡ bytes_of (text_or_empty (utf8_at file.pool method.name))
  text_same bytes_of = ap (λ (m : Member). bytes_of m.name) given.member

  init_same : is_init host_now ≡ is_init host_before
  init_same = init_told (utf8_at also.pool method.name) ∙ text_same (bytes_eq init) ∙ sym (init_told (utf8_at file.pool method.name))

  clinit_same : is_clinit host_now ≡ is_clinit host_before
  clinit_same = clinit_told (utf8_at also.pool method.name) ∙ text_same (bytes_eq clinit) ∙ sym (clinit_told (utf8_at file.pool method.name))

  desc_same : own_descriptor host_now ≡ own_descriptor host_before
  desc_same = ap (λ (m : Member). m.desc) given.member

  like : IsWrittenScope (row_scope host_before) rows_now
  like = record {
    headers = given.headers;
    own = given.own;
    result = ap result_of desc_same;
    is_init = init_same;
    is_clinit = clinit_same;
  }

  own_pool : pool_of s s.flat.host.class ≡ file.pool
  own_pool = rw (given.own_file) refl

  own_runs : (found : ClassFile) (instr : Instr) (locals : ℕ) → slice_get s.classes.folder s.flat.host.class ≡ Some found
      → OperandFits found.pool found.major locals instr
      → instr_op s.links (λ number. number) rows_now instr
      ≡ instr_op s.links (λ number. number) (record (row_scope host_before) { pool = pool_of s s.flat.host.class }) instr
  own_runs found instr locals is fits =
      let scope : RowScope = record rows_now { headers = headers_of classes; own = header_of file; pool = file.pool } in
      let there : OperandFits file.pool file.major locals instr =
      subst (λ (f : ClassFile). OperandFits f.pool f.major locals instr) (same_Some found file (sym is ∙ given.own_file)) fits in
      ap (λ (l : Links). instr_op l (λ to. to) rows_now instr) given.links_are
      ∙ runs scope rows_now locals instr there (record { headers = given.headers; own = given.own; of_pool = refl; rest = refl })
      ∙ reads_alike links (record (row_scope host_before) { pool = file.pool }) scope instr refl init_same clinit_same (ap result_of desc_same)
      ∙ ap (λ (l : Links). instr_op l (λ to. to) (record (row_scope host_before) { pool = file.pool }) instr) (sym given.links_are)
      ∙ ap (λ (p : Constants). instr_op s.links (λ to. to) (record (row_scope host_before) { pool = p }) instr) (sym own_pool)

  calls_here : (opcode : ℕ) (r : Reference) → call_op s.links rows_now opcode r ≡ call_op s.links (row_scope host_before) opcode r
  calls_here opcode r =
      ap (λ (l : Links). call_op l rows_now opcode r) given.links_are
      ∙ calls (row_scope host_before) rows_now opcode r given.headers given.own
      ∙ ap (λ (l : Links). call_op l (row_scope host_before) opcode r) (sym given.links_are)

  -- It has the code that the definition of written code gives the host.
  pub code_is_written : method_code links host_now ≡ written_code s host_before constructor form blocks
  code_is_written =
      let number : ℕ → ℕ = number_at (item_points rows_now items) in
      let in_class : plain_items items ≡ indexed_items s constructor also.pool form blocks =
      given.items_are ∙ sym (items_stay same s constructor 64535 grown also.pool given.begins old form blocks given.grows) in
      let meant = written_meant s constructor also.pool same 64535 grown given.begins old form blocks given.grows in
      given.means links host_now given.code given.handlers
      ∙ ap (λ (l : Links). items_code l host_now items) (sym given.links_are)
      ∙ ap (λ (n : ℕ). record { locals = n; points = map (run_point s.links number) (item_points rows_now items) }) given.max_locals
      ∙ ap (λ (points : List RunPoint). record { locals = written_units s.flat; points = points })
      (points_written s constructor host_before rows_now like given.first calls_here own_runs form blocks number (length items)
      (λ to less. number_in rows_now items to less) zero items (written_items form blocks) in_class (inside items given.emitted) given.sorts meant)

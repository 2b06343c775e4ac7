-- What the code of a method means to the machine is the same in a class file that has grown.
use Rattle.std.proofs.Common.{◌≡◌, ◌++◌, ◌∙◌, ◌==◌, ◌&&◌, not, ℕ, zero, suc, Bool, true, false, List, [], ◌∷◌, map, length, bytes_eq, Option, Some, None, if◌then◌else◌, refl, sym, ap, inl, inr}
use Rattle.std.specs.Prelude.{option_map}
use Rattle.std.specs.List.{AllByRecursion}
use mathlib.Core.Path.{fun_ext}
use Rattle.class_model.specs.Checks.{AllHold}
use Rattle.class_model.specs.Code.{IsDynamicConstant, IsLoadable, IsLoadable2, OperandFits}
use Rattle.class_model.specs.Header.{header_of}
use Rattle.class_model.specs.Members.{has, INTERFACE}
use Rattle.class_model.specs.Pool.{Constants, constant_at}
use Rattle.class_model.specs.PoolChecks.{entries_checks}
use Rattle.class_model.specs.declared.class_file.ClassFile.{ClassFile}
use Rattle.class_model.specs.declared.class_file.CodePart.{CodePart}
use Rattle.class_model.specs.declared.class_file.Field.{Field}
use Rattle.class_model.specs.declared.class_file.Handler.{Handler}
use Rattle.class_model.specs.declared.class_file.Method.{Method}
use Rattle.class_model.specs.declared.header.Header.{Header}
use Rattle.class_model.specs.declared.instr.Instr.{Instr}
use Rattle.class_model.specs.declared.instr.Instr.TheVariants.{Ldc, Ldc2, GetStatic, PutStatic, GetField, PutField, Invoke, Dynamic, New, NewRefArray, NewMulti, Cast, InstanceOf}
use Rattle.class_model.specs.declared.instr.Placed.{Placed}
use Rattle.class_model.specs.declared.pool.Const.{Const as PoolConst}
use Rattle.class_model.specs.declared.pool.Const.TheVariants as consts
use Rattle.class_tree.specs.Headers.{Name, Headers, class_named}
use Rattle.class_tree.specs.Names.{is_interface}
use Rattle.machine_values.specs.declared.object.Constant.TheVariants as objects
use Rattle.member_link.specs.Machine.Codes.{call_op, catch_in, catches_at, code_point, constant_op, covers, dynamic_op, instr_op, method_code, number_at, or_meaningless, referring, renumbered, run_point, special_start}
use Rattle.member_link.specs.Machine.Ops.{Op, put_field, put_static, push_constant}
use Rattle.member_link.specs.Machine.Programs.{Catch, Code, Links, Point, number_of_first}
use Rattle.member_link.specs.References.{Reference}
use Rattle.member_link.specs.RowScope.{RowScope}
use Rattle.member_link.specs.Scope.{Scope, instructions, row_scope}
use Rattle.member_link.specs.Signatures.{reference_of}
use Rattle.type_rules.proofs.Grown.Codes.{IsAskedClass, IsAskedCode, IsAskedHandler, IsAskedNames, grown_file, now_scope, operands_fit, scope_same, then_scope, FramesKept}
use Rattle.type_rules.proofs.Grown.Headers.{Both, no_pair, a_pair, class_pair}
use Rattle.type_rules.proofs.Grown.Methods.{FindAlike}
use Rattle.type_rules.proofs.Grown.Pools.{called_reads, class_same, class_text, constant_same, desc_same, described_call, field_reads, handle_reads, method_type_text, name_same, string_text}
use Rattle.type_rules.proofs.Grown.Table.{IsSameReference}
use Rattle.type_rules.specs.Grown.{AreGrownHeaders, IsGrownHeader}

-- ---- options

mapped_same : {A B : Type 0} (f g : A → B) → ((x : A) → f x ≡ g x) → (o : Option A) → option_map f o ≡ option_map g o
mapped_same f g same None = refl
mapped_same f g same (Some x) = ap Some (same x)

-- ---- where special calls start

abbrev super_or : Name → Option Name → Name
super_or named None = named
super_or named (Some name) = name

abbrev by_test : Name → Option Name → Bool → Name
by_test named super true = super_or named super
by_test named super false = named

abbrev started : Links → Name → Option Name → Name → Option Header → Name
started links own super named None = named
started links own super named (Some header) =
    by_test named super (not (is_interface header) && (links.below own named && not (bytes_eq own named)))

started_is : (links : Links) (s : RowScope) (named : Name) → special_start links s named ≡ started links s.own.name s.own.super_name named (class_named s.headers named)
started_is links s named = by (class_named s.headers named) refl where
  of_test : (header : Header) → class_named s.headers named ≡ Some header → (b : Bool) → (not (is_interface header) && (links.below s.own.name named && not (bytes_eq s.own.name named))) ≡ b
      → special_start links s named ≡ started links s.own.name s.own.super_name named (Some header)
  of_test header e true f = rw (e, f) refl
  of_test header e false f = rw (e, f) refl

  by : (o : Option Header) → class_named s.headers named ≡ o → special_start links s named ≡ started links s.own.name s.own.super_name named o
  by None e = rw e refl
  by (Some header) e = of_test header e (not (is_interface header) && (links.below s.own.name named && not (bytes_eq s.own.name named))) refl

started_same : (links : Links) (own : Name) (super : Option Name) (named : Name) {o p : Option Header} → Both IsGrownHeader o p
    → started links own super named p ≡ started links own super named o
started_same links own super named no_pair = refl
started_same links own super named (a_pair old new grows) =
    ap (λ (flags : ℕ). by_test named super (not (has flags INTERFACE) && (links.below own named && not (bytes_eq own named)))) grows.alike.same_flags

start_grown : (links : Links) (old new : RowScope) → AreGrownHeaders old.headers new.headers → IsGrownHeader old.own new.own → (named : Name)
    → special_start links new named ≡ special_start links old named
start_grown links old new headers grows named =
    started_is links new named
    ∙ ap (λ (n : Name). started links n new.own.super_name named (class_named new.headers named)) grows.alike.same_name
    ∙ ap (λ (super : Option Name). started links old.own.name super named (class_named new.headers named)) grows.alike.same_super
    ∙ started_same links old.own.name old.own.super_name named (class_pair old.headers new.headers headers named)
    ∙ sym (started_is links old named)

-- A call of the same member is the same operation where the current class and those around it have grown.
pub call_grown : (links : Links) (old new : RowScope) → AreGrownHeaders old.headers new.headers → IsGrownHeader old.own new.own
    → (opcode : ℕ) (r : Reference)
    → call_op links new opcode r ≡ call_op links old opcode r
call_grown links old new headers grows opcode r = rw (start_grown links old new headers grows r.class) refl

-- ---- operations

module _ (major : ℕ) (pool more : Constants) (place : ℕ) (hold : AllHold (entries_checks major pool place pool)) where
  abbrev later : Constants
  later = pool ++ more

  loaded_same : (index : ℕ) (o : Option PoolConst) → constant_at pool index ≡ o → constant_op later o ≡ constant_op pool o
  loaded_same index (Some (consts.String text)) e =
      ap (λ (t : Option (List ℕ)). or_meaningless (option_map (λ t. push_constant (objects.Str t)) t)) (string_text major pool more place hold index text e)
  loaded_same index (Some (consts.Class text)) e =
      ap (λ (t : Option (List ℕ)). or_meaningless (option_map (λ t. push_constant (objects.Class t)) t)) (class_text major pool more place hold index text e)
  loaded_same index (Some (consts.MethodType text)) e =
      ap (λ (t : Option (List ℕ)). or_meaningless (option_map (λ t. push_constant (objects.MethodType t)) t)) (method_type_text major pool more place hold index text e)
  loaded_same index (Some (consts.MethodHandle kind reference)) e =
      ap (λ (r : Option Reference). or_meaningless (option_map push_constant (option_map (λ r. objects.Handle kind r.class r.name r.desc) r))) (handle_reads major pool more place hold index kind reference e)
  loaded_same index o e = refl

  -- the constant at an index that names one of a sort
  load_same : (P : Option PoolConst → Type 0) (index : ℕ) → ¬ P None → P (constant_at pool index) → constant_op later (constant_at later index) ≡ constant_op pool (constant_at pool index)
  load_same P index none h =
      ap (constant_op later) (constant_same major pool more place hold P index none h) ∙ loaded_same index (constant_at pool index) refl

  module _ (links : Links) (number : ℕ → ℕ) (s : RowScope) (headers : Headers) (own : Header) (grown_headers : AreGrownHeaders s.headers headers) (grows : IsGrownHeader s.own own) where
    abbrev before : RowScope
    before = record s { pool = pool }

    abbrev after : RowScope
    after = record s { headers = headers; own = own; pool = later }

    call_same : (opcode : ℕ) (r : Reference) → call_op links after opcode r ≡ call_op links before opcode r
    call_same = call_grown links before after grown_headers grows

    refers : (index : ℕ) (op also : Reference → Op) → ((r : Reference) → also r ≡ op r) → IsSameReference pool later index → referring after index also ≡ referring before index op
    refers index op also each e =
        ap (λ (r : Option Reference). or_meaningless (option_map also r)) e
        ∙ ap (λ (o : Option Op). or_meaningless o) (mapped_same also op each (reference_of pool (constant_at pool index)))

    dynamic_same : (index : ℕ) (o : Option PoolConst) → constant_at pool index ≡ o → dynamic_op after o ≡ dynamic_op before o
    dynamic_same index (Some (consts.InvokeDynamic bootstrap member)) e =
        let there = described_call major pool more place hold index bootstrap member e in
        rw (name_same major pool more place hold member there, desc_same major pool more place hold member there, grows.alike.same_name) refl
    dynamic_same index o e = refl

    pub op_same : (max_locals : ℕ) (instr : Instr) → OperandFits pool major max_locals instr → instr_op links number after instr ≡ instr_op links number before instr
    op_same max_locals (Ldc index) h = load_same IsLoadable index (λ h. h) h
    op_same max_locals (Ldc2 index) h = load_same IsLoadable2 index (λ h. h) h
    op_same max_locals (GetStatic index) h = refers index _ _ (λ r. refl) (field_reads major pool more place hold index h)
    op_same max_locals (PutStatic index) h =
        refers index _ _ (λ r. ap (λ (n : Name). put_static r (if s.is_clinit then Some n else None)) grows.alike.same_name) (field_reads major pool more place hold index h)
    op_same max_locals (GetField index) h = refers index _ _ (λ r. refl) (field_reads major pool more place hold index h)
    op_same max_locals (PutField index) h =
        refers index _ _ (λ r. ap (λ (n : Name). put_field r (if s.is_init then Some n else None)) grows.alike.same_name) (field_reads major pool more place hold index h)
    op_same max_locals (Invoke opcode index count) h =
        refers index _ _ (call_same opcode) (called_reads major pool more place hold major opcode index count h)
    op_same max_locals (Dynamic index) h =
        ap (dynamic_op after) (constant_same major pool more place hold IsDynamicConstant index (λ h. h) h) ∙ dynamic_same index (constant_at pool index) refl
    op_same max_locals (New index) h = rw (class_same major pool more place hold index h) refl
    op_same max_locals (NewRefArray index) h = rw (class_same major pool more place hold index h.0) refl
    op_same max_locals (NewMulti index dimensions) h = rw (class_same major pool more place hold index h.0) refl
    op_same max_locals (Cast index) h = rw (class_same major pool more place hold index h) refl
    op_same max_locals (InstanceOf index) h = rw (class_same major pool more place hold index h) refl
    op_same max_locals instr h = refl

-- ---- the code of a method

-- the number of a point at a place, by the places alone
abbrev numbered : ℕ → Option ℕ → ℕ
numbered count None = count
numbered count (Some number) = number

abbrev first_at : ℕ → List Placed → Option ℕ
first_at place [] = None
first_at place (placed ∷ instrs) = if placed.at == place then Some zero else option_map suc (first_at place instrs)

numbers_by : (s : Scope) (place : ℕ) (instrs : List Placed) → number_of_first (λ point. point.place == place) (map (code_point s) instrs) ≡ first_at place instrs
numbers_by s place [] = refl
numbers_by s place (placed ∷ instrs) = ap (λ (o : Option ℕ). if placed.at == place then Some zero else option_map suc o) (numbers_by s place instrs)

lengths_by : (s : Scope) (instrs : List Placed) → length (map (code_point s) instrs) ≡ length instrs
lengths_by s [] = refl
lengths_by s (placed ∷ instrs) = ap suc (lengths_by s instrs)

number_is : (s : Scope) (place : ℕ) (instrs : List Placed) → number_at (map (code_point s) instrs) place ≡ numbered (length instrs) (first_at place instrs)
number_is s place instrs = by (number_of_first (λ point. point.place == place) (map (code_point s) instrs)) refl where
  by : (o : Option ℕ) → number_of_first (λ point. point.place == place) (map (code_point s) instrs) ≡ o → number_at (map (code_point s) instrs) place ≡ numbered (length instrs) (first_at place instrs)
  by None e = rw (e, sym (numbers_by s place instrs) ∙ e) (lengths_by s instrs)
  by (Some number) e = rw (e, sym (numbers_by s place instrs) ∙ e) refl

module _ (old : ClassFile) (more : Constants) (fields : List Field) (methods : List Method) (asked : IsAskedClass old) (method : Method)
    (names : IsAskedNames old.pool method) (links : Links) where
  abbrev new : ClassFile
  new = grown_file old more fields methods asked

  module _ (part : CodePart) (code : IsAskedCode old method part) (find : FindAlike) (frames_kept : FramesKept) (before after : Headers)
      (grown_headers : AreGrownHeaders before after) (grows : IsGrownHeader (header_of old) (header_of new)) where
    abbrev then_ : Scope
    then_ = then_scope old more fields methods asked method names part code find frames_kept before after

    abbrev now : Scope
    now = now_scope old more fields methods asked method names part code find frames_kept before after

    catch_same : (handler : Handler) → IsAskedHandler old.pool handler → catch_in new.pool handler ≡ catch_in old.pool handler
    catch_same handler (inl zero_is) = rw zero_is refl
    catch_same handler (inr there) = rw (class_same old.major old.pool more 10 asked.constants handler.catch_type there) refl

    catches_same : (at : ℕ) (handlers : List Handler) → AllByRecursion (IsAskedHandler old.pool) handlers → catches_at new.pool handlers at ≡ catches_at old.pool handlers at
    catches_same at [] are = refl
    catches_same at (handler ∷ handlers) are =
        ap (λ (cs : List Catch). (if covers handler at then cs else []) ++ catches_at new.pool handlers at) (catch_same handler are.0)
        ∙ ap (λ (cs : List Catch). (if covers handler at then catch_in old.pool handler else []) ++ cs) (catches_same at handlers are.1)

    points_same : (number : ℕ → ℕ) (instrs : List Placed) → AllByRecursion (λ placed. OperandFits old.pool old.major part.max_locals placed.instr) instrs
        → map (run_point links number) (map (code_point now) instrs) ≡ map (run_point links number) (map (code_point then_) instrs)
    points_same number [] fit = refl
    points_same number (placed ∷ instrs) fit =
        let then_rows = row_scope then_ in
        let op : instr_op links number (row_scope now) placed.instr ≡ instr_op links number then_rows placed.instr =
        ap (λ (s : RowScope). instr_op links number s placed.instr) (scope_same old more fields methods asked method names part code find frames_kept before after)
        ∙ op_same old.major old.pool more 10 asked.constants links number then_rows after (header_of new) grown_headers grows part.max_locals placed.instr fit.0 in
        ap (λ (op : Op). record { op = op; catches = map (renumbered number) (catches_at new.pool part.handlers placed.at) } ∷ map (run_point links number) (map (code_point now) instrs)) op
        ∙ ap (λ (cs : List Catch). record { op = instr_op links number then_rows placed.instr; catches = map (renumbered number) cs } ∷ map (run_point links number) (map (code_point now) instrs)) (catches_same placed.at part.handlers code.handlers)
        ∙ ap (λ (points : List Point). run_point links number (code_point then_ placed) ∷ points) (points_same number instrs fit.1)

    pub code_same : method_code links now ≡ method_code links then_
    code_same =
        let instrs = instructions then_ in
        let numbers : number_at (map (code_point now) instrs) ≡ number_at (map (code_point then_) instrs) = fun_ext (λ place. number_is now place instrs ∙ sym (number_is then_ place instrs)) in
        let coded : List Point → Code = λ points. record { locals = part.max_locals; points = points } in
        ap (λ (number : ℕ → ℕ). coded (map (run_point links number) (map (code_point now) instrs))) numbers
        ∙ ap coded (points_same (number_at (map (code_point then_) instrs)) instrs (operands_fit old more fields methods asked method names part code find frames_kept before after))

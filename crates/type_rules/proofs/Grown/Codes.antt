-- The code of a method of a class file whose pool has grown: its scope, its frames and its typing.
use Rattle.std.proofs.Common.{◌≡◌, ◌⊎◌, ◌++◌, ◌∙◌, ◌==◌, ℕ, Bool, true, false, List, [], ◌∷◌, map, Option, Some, None, Result, Ok, Err, IsTrue, if◌then◌else◌, refl, sym, ap, subst, inl, inr}
use Rattle.std.specs.Prelude.{IsSome}
use Rattle.std.specs.List.{AllByRecursion}
use Rattle.std.proofs.lemmas.Bool.{false≢true}
use mathlib.Core.Path.{fun_ext}
use Rattle.class_model.specs.Checks.{AllHold, Fault}
use Rattle.class_model.specs.Code.{OperandFits, entry_frame, inner_is_named, stack_map_table}
use Rattle.class_model.specs.Descriptors.{parameters_of}
use Rattle.class_model.specs.Frames.{Setting, stack_map_table_at}
use Rattle.class_model.specs.Header.{header_of, method_member}
use Rattle.class_model.specs.Instructions.{decoded}
use Rattle.class_model.specs.Members.{is_text}
use Rattle.class_model.specs.Methods.{entry_of, home_of}
use Rattle.class_model.specs.Names.{clinit, init}
use Rattle.class_model.specs.Pool.{Constants}
use Rattle.class_model.specs.PoolChecks.{IsClassAt, class_at, entries_checks, text_or_empty, utf8_at}
use Rattle.class_model.specs.Stated.{frame_for, read_or_none, stated_frames, stated_in}
use Rattle.class_model.specs.declared.class_file.Attr.{Attr}
use Rattle.class_model.specs.declared.class_file.Attr.TheVariants.{Raw, Code}
use Rattle.class_model.specs.declared.class_file.ClassFile.{ClassFile}
use Rattle.class_model.specs.declared.class_file.CodePart.{CodePart}
use Rattle.class_model.specs.declared.class_file.Field.{Field}
use Rattle.class_model.specs.declared.class_file.Handler.{Handler}
use Rattle.class_model.specs.declared.class_file.InnerAttr.{InnerAttr}
use Rattle.class_model.specs.declared.class_file.Method.{Method}
use Rattle.class_model.specs.declared.frame.Frame.{Frame}
use Rattle.class_model.specs.declared.frame.PlacedFrame.{PlacedFrame}
use Rattle.class_model.specs.declared.instr.Instr.{Instr}
use Rattle.class_model.specs.declared.instr.Instr.TheVariants.{New}
use Rattle.class_model.specs.declared.instr.Placed.{Placed}
use Rattle.class_tree.specs.Headers.{Name, Headers}
use Rattle.class_tree.specs.Laws.Alike.{alike_shapes}
use Rattle.class_tree.specs.Names.{throwable}
use Rattle.code_bytes.specs.Codes.{HaveOperands}
use Rattle.member_link.specs.Bodies.{BodyCatch, BodyCaught}
use Rattle.member_link.specs.RowScope.{RowScope}
use Rattle.member_link.specs.Rows.Table.{row_of}
use Rattle.member_link.specs.Scope.{Scope, class_of_new, instructions, row_scope}
use Rattle.member_link.specs.Signatures.{result_of}
use Rattle.type_rules.proofs.Grown.Bodies.{KeepPoints, KeepsBody, body_typed}
use Rattle.type_rules.proofs.Grown.Headers.{grown_alike}
use Rattle.type_rules.proofs.Grown.Methods.{FindAlike, looks_up}
use Rattle.type_rules.proofs.Grown.Pools.{class_same, operands_read, text_same}
use Rattle.type_rules.proofs.Grown.Rows.{KeepsRow}
use Rattle.type_rules.proofs.Grown.Table.{row_kept}
use Rattle.type_rules.specs.Grown.{AreGrownHeaders, IsGrownHeader}
use Rattle.type_rules.specs.Handlers.{catch_of, catches_at, caught, caught_in, covers}
use Rattle.type_rules.specs.MethodBodies.{body_of, point_of}
use Rattle.type_rules.specs.Typed.{Typed}

-- ---- what reading a class file asked of the code of a method

-- the name of an attribute of the code is a text, and a StackMapTable can be read
pub record IsAskedInner (class : ClassFile) (method : Method) (part : CodePart) (attr : InnerAttr) : Type 0 where
  pub name : IsSome (utf8_at class.pool attr.name)
  pub frames : IsTrue (inner_is_named class.pool stack_map_table attr)
      → (frames : List PlacedFrame) × (stated_frames (home_of class) method part (decoded part.code) attr ≡ Ok frames)

abbrev pub IsAskedHandler : Constants → Handler → Type 0
IsAskedHandler pool handler = (handler.catch_type ≡ 0) ⊎ IsClassAt pool handler.catch_type

pub record IsAskedClass (class : ClassFile) : Type 0 where
  pub constants : AllHold (entries_checks class.major class.pool 10 class.pool)
  pub this_class : IsClassAt class.pool class.this_class

pub record IsAskedNames (pool : Constants) (method : Method) : Type 0 where
  pub name : IsSome (utf8_at pool method.name)
  pub desc : IsSome (utf8_at pool method.desc)

pub record IsAskedCode (class : ClassFile) (method : Method) (part : CodePart) : Type 0 where
  pub operands : HaveOperands class.pool class.major part.max_locals (decoded part.code)
  pub handlers : AllByRecursion (IsAskedHandler class.pool) part.handlers
  pub attrs : AllByRecursion (IsAskedInner class method part) part.attrs

abbrev pub IsAskedAttr : ClassFile → Method → Attr → Type 0
IsAskedAttr class method (Code name part) = IsAskedCode class method part
IsAskedAttr class method (Raw name bytes) = Unit {0}

-- what the law of grown pools says of frames
abbrev pub FramesKept : Type 0
FramesKept =
    (s : Setting) (more : Constants) (major at : ℕ) (entry : Frame) (content : List ℕ) (frames : List PlacedFrame)
    → AllHold (entries_checks major s.pool at s.pool)
    → stack_map_table_at s entry content ≡ Ok frames
    → stack_map_table_at (record s { pool = s.pool ++ more }) entry content ≡ Ok frames

-- the operands of a code's instructions, which are none where it can't be read
operands_of : (pool : Constants) (major max_locals : ℕ) (s : Scope) (read : Result (List Placed) Fault) → decoded s.part.code ≡ read
    → HaveOperands pool major max_locals read → AllByRecursion (λ placed. OperandFits pool major max_locals placed.instr) (instructions s)
operands_of pool major max_locals s (Ok instrs) is fit = rw is fit
operands_of pool major max_locals s (Err fault) is fit = rw is tt

-- the class of the new at an offset
abbrev made : Constants → Instr → Option Name
made pool (New index) = class_at pool index
made pool other = None

abbrev new_among : Constants → ℕ → List Placed → Option Name
new_among pool at [] = None
new_among pool at (placed ∷ others) = if placed.at == at then made pool placed.instr else new_among pool at others

-- ---- a class file that has grown

module _ (old : ClassFile) (more : Constants) (fields : List Field) (methods : List Method) (asked : IsAskedClass old) where
  abbrev pub grown_file : ClassFile
  grown_file = record old { pool = old.pool ++ more; fields = fields; methods = methods }

  abbrev pool : Constants
  pool = old.pool ++ more

  module _ (method : Method) (names : IsAskedNames old.pool method) where
    name_is : utf8_at pool method.name ≡ utf8_at old.pool method.name
    name_is = text_same old.major old.pool more 10 asked.constants method.name names.name

    desc_is : utf8_at pool method.desc ≡ utf8_at old.pool method.desc
    desc_is = text_same old.major old.pool more 10 asked.constants method.desc names.desc

    pub member_same : method_member pool method ≡ method_member old.pool method
    member_same = rw (name_is, desc_is) refl

    pub entry_same : (part : CodePart) → entry_of (home_of grown_file) method part ≡ entry_of (home_of old) method part
    entry_same part =
        let begins : Option (List ℕ) → Option (List ℕ) → Option (List ℕ) → Frame = λ name class desc.
        entry_frame method.flags (text_or_empty name) class (parameters_of (text_or_empty desc)) part.max_locals in
        ap (λ (name : Option (List ℕ)). begins name (class_at pool old.this_class) (utf8_at pool method.desc)) name_is
        ∙ ap (λ (class : Option (List ℕ)). begins (utf8_at old.pool method.name) class (utf8_at pool method.desc))
        (class_same old.major old.pool more 10 asked.constants old.this_class asked.this_class)
        ∙ ap (begins (utf8_at old.pool method.name) (class_at old.pool old.this_class)) desc_is

    module _ (part : CodePart) (code : IsAskedCode old method part) (find : FindAlike) (frames_kept : FramesKept) where
      -- ---- stated frames

      frames_still : (read : Result (List Placed) Fault) (attr : InnerAttr) (frames : List PlacedFrame)
          → stated_frames (home_of old) method part read attr ≡ Ok frames → stated_frames (home_of grown_file) method part read attr ≡ Ok frames
      frames_still (Err fault) attr frames e = e
      frames_still (Ok instrs) attr frames e =
          let setting : Setting = record { pool = old.pool; max_locals = part.max_locals; max_stack = part.max_stack; code = instrs } in
          ap (λ (entry : Frame). stack_map_table_at (record setting { pool = pool }) entry attr.bytes) (entry_same part)
          ∙ frames_kept setting more old.major 10 (entry_of (home_of old) method part) attr.bytes frames asked.constants e

      pub stated_same : (attrs : List InnerAttr) → AllByRecursion (IsAskedInner old method part) attrs
          → stated_in (home_of grown_file) method part attrs ≡ stated_in (home_of old) method part attrs
      stated_same [] are = refl
      stated_same (attr ∷ attrs) are =
          ap (λ (b : Bool). if b then read_or_none (stated_frames (home_of grown_file) method part (decoded part.code) attr) else stated_in (home_of grown_file) method part attrs) named
          ∙ by (inner_is_named old.pool stack_map_table attr) refl (stated_same attrs are.1)
        where
          named : inner_is_named pool stack_map_table attr ≡ inner_is_named old.pool stack_map_table attr
          named = ap (is_text stack_map_table) (text_same old.major old.pool more 10 asked.constants attr.name are.0.name)

          by : (b : Bool) → inner_is_named old.pool stack_map_table attr ≡ b
              → stated_in (home_of grown_file) method part attrs ≡ stated_in (home_of old) method part attrs
              → (if b then read_or_none (stated_frames (home_of grown_file) method part (decoded part.code) attr) else stated_in (home_of grown_file) method part attrs)
              ≡ (if b then read_or_none (stated_frames (home_of old) method part (decoded part.code) attr) else stated_in (home_of old) method part attrs)
          by true e rest =
              let read = are.0.frames e in
              ap read_or_none (frames_still (decoded part.code) attr read.0 read.1 ∙ sym read.1)
          by false e rest = rest

      -- ---- the scope

      module _ (before after : Headers) where
        abbrev pub then_scope : Scope
        then_scope = record { headers = before; class = old; method = method; part = part }

        abbrev pub now_scope : Scope
        now_scope = record { headers = after; class = grown_file; method = method; part = part }

        pub operands_fit : AllByRecursion (λ placed. OperandFits old.pool old.major part.max_locals placed.instr) (instructions then_scope)
        operands_fit = operands_of old.pool old.major part.max_locals then_scope (decoded part.code) refl code.operands

        made_same : (instr : Instr) → OperandFits old.pool old.major part.max_locals instr → made pool instr ≡ made old.pool instr
        made_same (New index) fits = class_same old.major old.pool more 10 asked.constants index fits
        made_same instr fits = refl

        news_same : (at : ℕ) (instrs : List Placed) → AllByRecursion (λ placed. OperandFits old.pool old.major part.max_locals placed.instr) instrs
            → new_among pool at instrs ≡ new_among old.pool at instrs
        news_same at [] fit = refl
        news_same at (placed ∷ instrs) fit =
            ap (λ (name : Option Name). if placed.at == at then name else new_among pool at instrs) (made_same placed.instr fit.0)
            ∙ ap (λ (name : Option Name). if placed.at == at then made old.pool placed.instr else name) (news_same at instrs fit.1)

        abbrev scope_by : Option (List ℕ) → Option (List ℕ) → (ℕ → Option Name) → RowScope
        scope_by name desc news = record {
          headers = after;
          pool = pool;
          major = old.major;
          own = header_of grown_file;
          is_init = is_text init name;
          is_clinit = is_text clinit name;
          result = result_of (text_or_empty desc);
          max_stack = part.max_stack;
          new_class = news;
        }

        pub scope_same : row_scope now_scope ≡ record (row_scope then_scope) { headers = after; own = header_of grown_file; pool = pool }
        scope_same =
            let news : class_of_new now_scope ≡ class_of_new then_scope = fun_ext (λ at. news_same at (instructions then_scope) operands_fit) in
            ap (λ name. scope_by name (utf8_at pool method.desc) (class_of_new now_scope)) name_is
            ∙ ap (λ desc. scope_by (utf8_at old.pool method.name) desc (class_of_new now_scope)) desc_is
            ∙ ap (scope_by (utf8_at old.pool method.name) (utf8_at old.pool method.desc)) news

        -- ---- handlers

        caught_same : (handler : Handler) → IsAskedHandler old.pool handler → caught now_scope handler ≡ caught then_scope handler
        caught_same handler is = by (handler.catch_type == 0) refl is where
          by : (b : Bool) → (handler.catch_type == 0) ≡ b → IsAskedHandler old.pool handler
              → (if b then Some throwable else class_at pool handler.catch_type) ≡ (if b then Some throwable else class_at old.pool handler.catch_type)
          by true e is = refl
          by false e (inl zero_is) = absurd (false≢true (sym e ∙ ap (λ (n : ℕ). n == 0) zero_is))
          by false e (inr there) = class_same old.major old.pool more 10 asked.constants handler.catch_type there

        catches_same : (at : ℕ) (handlers : List Handler) → AllByRecursion (IsAskedHandler old.pool) handlers → catches_at now_scope at handlers ≡ catches_at then_scope at handlers
        catches_same at [] are = refl
        catches_same at (handler ∷ handlers) are =
            let head = ap (λ (class : Option Name). if covers handler at then record { to = handler.at; class = class } ∷ catches_at now_scope at handlers else catches_at now_scope at handlers) (caught_same handler are.0) in
            head ∙ ap (λ (rest : List BodyCatch). if covers handler at then catch_of then_scope handler ∷ rest else rest) (catches_same at handlers are.1)

        table_same : (handlers : List Handler) → AllByRecursion (IsAskedHandler old.pool) handlers → map (caught_in now_scope) handlers ≡ map (caught_in then_scope) handlers
        table_same [] are = refl
        table_same (handler ∷ handlers) are =
            ap (λ (class : Option Name). record { start = handler.start; class = class } ∷ map (caught_in now_scope) handlers) (caught_same handler are.0)
            ∙ ap (λ (rest : List BodyCaught). caught_in then_scope handler ∷ rest) (table_same handlers are.1)

        -- ---- the body

        module _ (grown : AreGrownHeaders before after) (grows : IsGrownHeader (header_of old) (header_of grown_file)) where
          points_kept : (instrs : List Placed) → AllByRecursion (λ placed. OperandFits old.pool old.major part.max_locals placed.instr) instrs
              → KeepPoints (map (point_of then_scope) instrs) (map (point_of now_scope) instrs)
          points_kept [] fit = tt
          points_kept (placed ∷ instrs) fit =
              let catches = catches_same placed.at part.handlers code.handlers in
              let then_rows = row_scope then_scope in
              let kept : (f : Frame) → KeepsRow (row_of then_rows f placed.at placed.instr) (row_of (row_scope now_scope) f placed.at placed.instr) = λ f.
              subst (λ (s : RowScope). KeepsRow (row_of then_rows f placed.at placed.instr) (row_of s f placed.at placed.instr)) (sym scope_same)
              (row_kept then_rows after (header_of grown_file) pool grown grows (looks_up find before after grown) f placed.at placed.instr
              (operands_read old.major old.pool more 10 asked.constants old.major part.max_locals placed.instr fit.0)) in (
                (
                  record { shape = alike_shapes before after (grown_alike before after grown); room = refl; row = kept },
                  ap (λ (cs : List BodyCatch). record (point_of now_scope placed) { catches = cs }) catches,
                ),
                points_kept instrs fit.1,
              )

          body_kept : KeepsBody (body_of then_scope) (body_of now_scope)
          body_kept = record {
            shape = alike_shapes before after (grown_alike before after grown);
            entry = entry_same part;
            points = points_kept (instructions then_scope) operands_fit;
            stated = λ place. ap (λ (frames : List PlacedFrame). frame_for frames place) (stated_same part.attrs code.attrs);
            table = table_same part.handlers code.handlers;
          }

          pub code_typed : (frames : List Frame) → Typed then_scope frames → Typed now_scope frames
          code_typed frames types = body_typed (body_of then_scope) (body_of now_scope) body_kept frames types

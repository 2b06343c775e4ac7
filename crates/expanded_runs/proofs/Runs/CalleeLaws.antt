-- What is known of the instructions of methods that stand in flat code, and of their operations in the folder's program.
use Rattle.std.proofs.Common.{◌≡◌, ◌==◌, ◌<◌, ℕ, zero, suc, true, false, List, [], ◌∷◌, slice_get, Option, Some, None, option_map, IsSome, refl, sym, ap, subst, ◌∙◌, arith, if◌then◌else◌}
use Rattle.std.specs.Prelude.{option_and_then}
use Rattle.std.proofs.lemmas.Option.{none-some, same_Some}
use Rattle.std.specs.List.{AllByRecursion}
use Rattle.std.specs.Prelude.{Result, Ok, Err}
use Rattle.class_model.specs.Checks.{Fault}
use Rattle.class_model.specs.ClassOf.{ClassOf}
use Rattle.class_model.specs.Code.{OperandFits}
use Rattle.class_model.specs.Instructions.{decoded}
use Rattle.class_model.specs.Laws.Codes.{code_has}
use Rattle.class_model.specs.Laws.Lists.{at_index}
use Rattle.class_model.specs.Names.{init}
use Rattle.class_model.specs.Pool.{Constants, constant_at}
use Rattle.class_model.specs.PoolChecks.{class_at}
use Rattle.class_model.specs.Spelling.{class_bytes}
use Rattle.class_model.specs.declared.class_file.ClassFile.{ClassFile}
use Rattle.class_model.specs.declared.class_file.CodePart.{CodePart}
use Rattle.class_model.specs.declared.class_file.Method.{Method}
use Rattle.class_model.specs.declared.class_file.MethodAt.{MethodAt}
use Rattle.class_model.specs.declared.frame.Frame.{Frame}
use Rattle.class_model.specs.declared.instr.Instr.{Instr}
use Rattle.class_model.specs.declared.instr.Instr.TheVariants.{Invoke, New}
use Rattle.class_model.specs.declared.instr.Placed.{Placed}
use Rattle.class_model.specs.declared.opcodes.TheConstants.{INVOKESPECIAL}
use Rattle.class_tree.specs.Headers.{IsClassFile, Name, headers_of}
use Rattle.code_bytes.specs.Codes.{HasOperands, HasReadOperands, HaveOperands}
use Rattle.expanded_code.specs.Alone.{number_in}
use Rattle.expanded_code.specs.Callees.{IsCallee, MayStandIn, is_callee}
use Rattle.expanded_code.specs.Expansions.{Coded}
use Rattle.expanded_code.specs.Sites.{HasFrames, IsReplaced, IsSite}
use Rattle.expanded_runs.proofs.Runs.FlatCodes.{code_before, own_point, point_before}
use Rattle.expanded_runs.proofs.Runs.Setup.{IsSetup, Setup, before}
use Rattle.member_link.specs.BodyTyping.{AreInOrder}
use Rattle.member_link.specs.Machine.Classes.{run_method_of}
use Rattle.member_link.specs.Machine.Codes.{call_op, instr_op, method_code, or_meaningless, special_start}
use Rattle.member_link.specs.Machine.Ops.{call_special}
use Rattle.member_link.specs.Machine.Programs.{Code, Point, code_run, method_of, point_at}
use Rattle.member_link.specs.References.{Reference}
use Rattle.member_link.specs.Scope.{Scope, class_of_new, instructions, row_scope, scope_at}
use Rattle.member_link.specs.Signatures.{reference_of}
use Rattle.same_runs.specs.Laws.FoundMembers.{initialiser_there}
use Rattle.member_link.specs.Laws.Scopes.{scope_is_at}
use Rattle.same_runs.specs.Laws.Scopes.{own_run}
use Rattle.type_rules.specs.Laws.InstructionOrder.{Ascend, ascend}
use Rattle.type_rules.specs.MethodBodies.{body_of}
use Rattle.typed_runs.specs.TypedPoints.{IsLinkedOp, TypedPoint}

-- ---- laws of other crates

-- of code_bytes' `a_class_file_has_read_methods`, and of type_rules' `a_method_stands_in_order`
pub record CodeLaws : Type 0 where
  pub operands : (bytes : List ℕ) (class : ClassFile) → ClassOf bytes class → HasReadOperands class
  pub order : (s : Scope) → AreInOrder (body_of s).points

-- ---- operands

operands_at : (pool : Constants) (major size : ℕ) (read : Result (List Placed) Fault) → HaveOperands pool major size read
    → (instrs : List Placed) → read ≡ Ok instrs → AllByRecursion (λ (placed : Placed). OperandFits pool major size placed.instr) instrs
operands_at pool major size (Ok own) have instrs is =
    let same : own ≡ instrs = cc in
    subst (AllByRecursion (λ (placed : Placed). OperandFits pool major size placed.instr)) same have
operands_at pool major size (Err fault) have instrs is = absurd cc

module _ (laws : CodeLaws) (u : Setup) (is_setup : IsSetup u) where
  -- the constants and locals that an instruction names are of the kinds that it may name
  pub operand_fits : (at : MethodAt) (s : Scope) → scope_at u.classes at ≡ Some s
      → (k : ℕ) (placed : Placed)
      → slice_get (instructions s) k ≡ Some placed
      → OperandFits s.class.pool s.class.major s.part.max_locals placed.instr
  operand_fits at s is k placed there =
      by (decoded s.part.code) refl there where
        own : ClassOf (class_bytes s.class) s.class
        own = at_index IsClassFile u.classes.folder at.class s.class is_setup.tree.folder (scope_is_at u.classes at s is).of_folder

        have : HaveOperands s.class.pool s.class.major s.part.max_locals (decoded s.part.code)
        have =
            code_has (HasOperands s.class.pool s.class.major)
            (λ (p : CodePart). HaveOperands s.class.pool s.class.major p.max_locals (decoded p.code)) (λ name p x. x) s.method.attrs s.part
            (at_index (λ (x : Method). AllByRecursion (HasOperands s.class.pool s.class.major) x.attrs) s.class.methods at.method s.method
            (laws.operands (class_bytes s.class) s.class own) (scope_is_at u.classes at s is).of_class)
            (scope_is_at u.classes at s is).has_code

        by : (read : Result (List Placed) Fault) → decoded s.part.code ≡ read → slice_get (instructions s) k ≡ Some placed
            → OperandFits s.class.pool s.class.major s.part.max_locals placed.instr
        by (Err fault) e there = let no : None ≡ Some placed = rw (e) at there in cc
        by (Ok instrs) e there =
            at_index (λ (p : Placed). OperandFits s.class.pool s.class.major s.part.max_locals p.instr) instrs k placed
            (subst (HaveOperands s.class.pool s.class.major s.part.max_locals) e have) (rw (e) at there)

-- ---- an instruction that makes an object is a new

abbrev new_named : Constants → Instr → Option Name
new_named pool (New index) = class_at pool index
new_named pool other = None

abbrev new_among : Constants → ℕ → List Placed → Option Name
new_among pool at [] = None
new_among pool at (placed ∷ others) = if placed.at == at then new_named pool placed.instr else new_among pool at others

same_place : (n : ℕ) → (n == n) ≡ true
same_place n = grind (arith)

other_place : (a b : ℕ) → a < b → (a == b) ≡ false
other_place a b is = grind (arith)

new_found : (pool : Constants) (ps : List Placed) → Ascend ps → (n : ℕ) (p : Placed) → slice_get ps n ≡ Some p
    → new_among pool p.at ps ≡ new_named pool p.instr
new_found pool [] order n p is = absurd cc
new_found pool (q ∷ ps) order zero p is =
    let same : q ≡ p = same_Some q p is in
    subst (λ (x : Placed). new_among pool x.at (q ∷ ps) ≡ new_named pool x.instr) same (rw (same_place q.at) refl)
new_found pool (q ∷ ps) order (suc n) p is =
    rw (other_place q.at p.at (at_index (λ (x : Placed). q.at < x.at) ps n p order.0 is)) (new_found pool ps order.1 n p is)

-- a new, by the class that it names
pub record IsNew (instr : Instr) : Type 0 where
  pub index : ℕ
  pub is : instr ≡ New index

is_new : (pool : Constants) (instr : Instr) (class : Name) → new_named pool instr ≡ Some class → IsNew instr
is_new pool (New index) class e = record { index = index; is = refl }
is_new pool instr class e = absurd cc

pub site_is_new : CodeLaws → (s : Scope) (k : ℕ) (placed : Placed) (class : Name)
    → slice_get (instructions s) k ≡ Some placed
    → class_of_new s placed.at ≡ Some class
    → IsNew placed.instr
site_is_new laws s k placed class there makes =
    is_new s.class.pool placed.instr class
    (sym (new_found s.class.pool (instructions s) (ascend s (instructions s) (laws.order s)) k placed there) ∙ makes)

-- ---- typed points of methods

module _ (u : Setup) (is_setup : IsSetup u) (at : MethodAt) (s : Scope) (is : scope_at u.classes at ≡ Some s) where
  -- what stands at a point of the folder's program
  pub record StandsHere (k : ℕ) (point : Point) : Type 0 where
    pub placed : Placed
    pub there : slice_get (instructions s) k ≡ Some placed
    pub point_is : point ≡ own_point u.links s placed

  pub stands_here : (k : ℕ) (point : Point) → point_at (before u) at k ≡ Some point → StandsHere k point
  stands_here k point point_is = by (slice_get (instructions s) k) refl (sym (point_before u is_setup at s is k) ∙ point_is) where
    by : (found : Option Placed) → slice_get (instructions s) k ≡ found → option_map (own_point u.links s) found ≡ Some point
        → StandsHere k point
    by None e m = absurd (none-some point m)
    by (Some placed) e m = record { placed = placed; there = e; point_is = sym (same_Some (own_point u.links s placed) point m) }

  pub typed_here : (k : ℕ) (point : Point) → point_at (before u) at k ≡ Some point → TypedPoint (before u) (u.typings at) k point
  typed_here k point point_is =
      let own = run_method_of u.links (headers_of u.classes) s.class s.method in
      let code = code_before u is_setup at s is in
      let runs : code_run own ≡ Some (method_code u.links s) =
      ap (option_and_then code_run) (sym (own_run u.classes u.links at s (scope_is_at u.classes at s is))) ∙ code in
      let there : slice_get (method_code u.links s).points k ≡ Some point =
      ap (option_and_then (λ (code : Code). slice_get code.points k)) (sym code) ∙ point_is in
      (is_setup.program.methods at own (method_code u.links s) (own_run u.classes u.links at s (scope_is_at u.classes at s is)) runs).points k point there

  -- an instance initialiser that an instruction calls is declared
  pub initialiser_called : (k : ℕ) (placed : Placed)
      → slice_get (instructions s) k ≡ Some placed
      → (opcode index count : ℕ) → placed.instr ≡ Invoke opcode index count
      → opcode ≡ INVOKESPECIAL
      → (r : Reference) → reference_of s.class.pool (constant_at s.class.pool index) ≡ Some r
      → r.name ≡ init
      → IsSome (method_of (before u) r)
  initialiser_called k placed there opcode index count instr special r reference name =
      let point = own_point u.links s placed in
      let here : point_at (before u) at k ≡ Some point =
      point_before u is_setup at s is k ∙ ap (option_map (own_point u.links s)) there in
      let typed = typed_here k point here in
      let called : point.op ≡ call_op u.links (row_scope s) opcode r =
      ap (instr_op u.links (number_in (instructions s)) (row_scope s)) instr
      ∙ ap (λ (found : Option Reference). or_meaningless (option_map (call_op u.links (row_scope s) opcode) found)) reference in
      let op : point.op ≡ call_special r (special_start u.links (row_scope s) r.class) =
      called ∙ ap (λ (n : ℕ). call_op u.links (row_scope s) n r) special in
      let has = subst (IsLinkedOp (before u) (u.typings at).scope typed.place) op typed.linked in
      initialiser_there (before u) r has.method name has.finds

-- ---- a callee may stand in the code of its host

pub record Callee (u : Setup) (g : Coded) : Type 0 where
  pub host_class : ClassFile
  pub may : MayStandIn u.classes host_class g.scope g.frames

callee_may : (u : Setup) (g : Coded) (host : ℕ) (from : MethodAt) (at : ℕ) → HasFrames u.classes u.typed g.at g.scope g.frames
    → IsCallee u.classes u.typed host from at g.at
    → Callee u g
callee_may u g host from at has (is_callee _ _ _ host_class caller scope before frames inner is_host is_caller are_before is_scope are_frames calls may results others) =
    let same_scope : scope ≡ g.scope = same_Some scope g.scope (sym is_scope ∙ has.is_scope) in
    let same_frames : frames ≡ g.frames = same_Some frames g.frames (sym are_frames ∙ has.are_frames) in
    record {
      host_class = host_class;
      may = subst (λ (s : Scope). MayStandIn u.classes host_class s g.frames) same_scope
          (subst (λ (fs : List Frame). MayStandIn u.classes host_class scope fs) same_frames may);
    }

-- a call that is replaced has such a callee
pub replaced_callee : (u : Setup) (g : Coded) {host from : MethodAt} {chain : List MethodAt} {at : ℕ}
    → HasFrames u.classes u.typed g.at g.scope g.frames
    → IsReplaced u.classes u.typed host chain from at g.at
    → Callee u g
replaced_callee u g {host} {from} {chain} {at} has call = callee_may u g host.class from at has call.is_callee

-- the class of a scope in which a new is a candidate site
pub site_makes : (u : Setup) {host from : MethodAt} {chain : List MethodAt} {at : ℕ} {class : Name} (s : Scope)
    → scope_at u.classes from ≡ Some s
    → IsSite u.classes u.typed host chain from at class
    → class_of_new s at ≡ Some class
site_makes u {at = at} {class = class} s is site =
    subst (λ (t : Scope). class_of_new t at ≡ Some class) (same_Some site.scope s (sym site.is.is_scope ∙ is)) site.makes

-- The items of a method's written code, in the class that has it, are the points of the written code.
use Rattle.std.proofs.Common.{◌≡◌, ◌≢◌, ◌==◌, ◌+◌, ◌<◌, ◌++◌, ℕ, zero, suc, Bool, true, false, List, [], ◌∷◌, flat_map, length, map, slice_get, Option, Some, None, option_map, if◌then◌else◌, refl, sym, ap, subst, ◌∙◌, arith}
use Rattle.std.specs.List.{AllByRecursion}
use Rattle.std.proofs.lemmas.Bool.{false≢true}
use Rattle.std.proofs.lemmas.Bool.Decides.{Decides-eqb}
use Rattle.std.proofs.lemmas.Option.{none-some, same_Some}
use Rattle.class_model.specs.Code.{OperandFits}
use Rattle.class_model.specs.Instructions.{targets}
use Rattle.class_model.specs.Names.{init}
use Rattle.class_model.specs.Pool.{Constants, constant_at}
use Rattle.class_model.specs.PoolChecks.{class_at}
use Rattle.class_model.specs.declared.class_file.ClassFile.{ClassFile}
use Rattle.class_model.specs.declared.instr.Instr.{Instr}
use Rattle.class_model.specs.declared.instr.Instr.TheVariants.{Nop, Const, Ldc, Ldc2, Load, Store, Iinc, ArrayLoad, ArrayStore, Shuffle, Pure, Divide, FloatAsk, If, If2, IfSame, IfNull, Goto, Table, Lookup, Return, GetStatic, PutStatic, GetField, PutField, Invoke, Dynamic, New, NewArray, NewRefArray, NewMulti, Length, Throw, Cast, InstanceOf, Enter, Leave}
use Rattle.class_model.specs.declared.instr.Pair.{Pair}
use Rattle.class_model.specs.declared.opcodes.TheConstants.{INVOKESPECIAL}
use Rattle.class_rewrite.proofs.MeantOps.{referred}
use Rattle.class_rewrite.proofs.NeededConstants.{CatchMeant, InstrMeant, ItemMeant}
use Rattle.expanded_runs.specs.CarriedConstants.{IsCarriable}
use Rattle.class_rewrite.proofs.WrittenOps.{IsWrittenScope, NamesNone, carried_meant, jumps_fit, jumps_nowhere, jumps_name_none, none_named}
use Rattle.class_tree.specs.Headers.{Name}
use Rattle.code_layout.specs.EmittedCode.{catch_of, item_point, item_points}
use Rattle.code_layout.specs.Emitting.{NamesItem}
use Rattle.code_layout.specs.PlainItems.{plain_item, plain_items}
use Rattle.code_layout.specs.declared.emitted.Catch.{Catch as EmittedCatch}
use Rattle.code_layout.specs.declared.emitted.EmitItem.{EmitItem}
use Rattle.making_code.specs.Constants.{constructor_needs, index_in, needs_class, of_method}
use Rattle.making_code.specs.IndexedItems.{IndexedItem}
use Rattle.making_code.specs.IndexedMaking.{index_of_last}
use Rattle.making_code.specs.Items.{WCatch, WInstr, WItem, carried, constructs, load, makes, plain, store}
use Rattle.member_link.specs.Machine.Codes.{CodePoint, call_op, catch_by, instr_op, naming, number_at, or_meaningless, renumbered, run_point}
use Rattle.member_link.specs.Machine.Ops.{Op, new_object}
use Rattle.member_link.specs.Machine.Programs.{Catch, Links, Point, number_of_first}
use Rattle.member_link.specs.Machine.Replaced.{map_numbered}
use Rattle.member_link.specs.References.{Reference}
use Rattle.member_link.specs.RowScope.{RowScope}
use Rattle.member_link.specs.Scope.{Scope, row_scope}
use Rattle.plan_flow.specs.PlanScope.{PlanScope, pool_of}
use Rattle.plan_flow.specs.Written.Finish.{Finished}
use Rattle.plan_flow.specs.Written.WrittenCode.{Form, jumping_to, target_number, written_catch, written_op, written_point}
use Rattle.plan_flow.specs.Written.WrittenConstants.{carried_needs, catch_index, indexed_instr, indexed_item, named_index, needs_of_index, with_index}

-- ---- numbers of items

differ : (m n : ℕ) → m < n → (m == n) ≡ false
differ m n less = grind (arith)

number_from : (scope : RowScope) (base k : ℕ) (items : List EmitItem) → k < length items
    → number_of_first (λ (point : CodePoint). point.place == base + k) (map_numbered (item_point scope) base items) ≡ Some k
number_from scope base k [] within = absurd (omega (arith, within))
number_from scope base zero (item ∷ items) within =
    let here : (base == base + 0) ≡ true = (Decides-eqb base (base + 0)).1 (omega arith) in rw (here) refl
number_from scope base (suc k) (item ∷ items) within =
    let away : (base == base + suc k) ≡ false = differ base (base + suc k) (omega arith) in
    let same : base + suc k ≡ suc base + k = omega arith in
    let rest : number_of_first (λ (point : CodePoint). point.place == base + suc k) (map_numbered (item_point scope) (suc base) items) ≡ Some k =
    subst (λ (n : ℕ). number_of_first (λ (point : CodePoint). point.place == n) (map_numbered (item_point scope) (suc base) items) ≡ Some k) (sym same)
    (number_from scope (suc base) k items (omega (arith, within))) in
    rw (away, rest) refl

pub number_in : (scope : RowScope) (items : List EmitItem) (to : ℕ) → to < length items → number_at (item_points scope items) to ≡ to
number_in scope items to within =
    let zeroth : 0 + to ≡ to = omega arith in
    let found : number_of_first (λ (point : CodePoint). point.place == to) (map_numbered (item_point scope) 0 items) ≡ Some to =
    subst (λ (n : ℕ). number_of_first (λ (point : CodePoint). point.place == n) (map_numbered (item_point scope) 0 items) ≡ Some to) zeroth
    (number_from scope 0 to items within) in
    rw (found) refl

-- ---- an instruction whose targets keep their numbers

kept_list : (number : ℕ → ℕ) (all : List ℕ) → AllByRecursion (λ (to : ℕ). number to ≡ to) all → map number all ≡ map (λ (to : ℕ). to) all
kept_list number [] keeps = refl
kept_list number (to ∷ all) keeps = ap (λ (first : ℕ). first ∷ map number all) keeps.0 ∙ ap (λ (rest : List ℕ). to ∷ rest) (kept_list number all keeps.1)

kept_pairs : (number : ℕ → ℕ) (pairs : List Pair) → AllByRecursion (λ (to : ℕ). number to ≡ to) (map (λ (pair : Pair). pair.to) pairs)
    → map {B = Pair} (λ (pair : Pair). record { key = pair.key; to = number pair.to }) pairs
    ≡ map {B = Pair} (λ (pair : Pair). record { key = pair.key; to = pair.to }) pairs
kept_pairs number [] keeps = refl
kept_pairs number (pair ∷ pairs) keeps =
    ap (λ (to : ℕ). record { key = pair.key; to = to } ∷ map {B = Pair} (λ (one : Pair). record { key = one.key; to = number one.to }) pairs) keeps.0
    ∙ ap (λ (rest : List Pair). record { key = pair.key; to = pair.to } ∷ rest) (kept_pairs number pairs keeps.1)

-- its operation depends on the numbers of its targets alone
kept_op : (links : Links) (number : ℕ → ℕ) (s : RowScope) (instr : Instr) → AllByRecursion (λ (to : ℕ). number to ≡ to) (targets instr)
    → instr_op links number s instr ≡ instr_op links (λ to. to) s instr
kept_op links number s (If opcode to) keeps = rw (keeps.0) refl
kept_op links number s (If2 opcode to) keeps = rw (keeps.0) refl
kept_op links number s (IfSame opcode to) keeps = rw (keeps.0) refl
kept_op links number s (IfNull opcode to) keeps = rw (keeps.0) refl
kept_op links number s (Goto to) keeps = rw (keeps.0) refl
kept_op links number s (Table low default to) keeps = rw (keeps.0, kept_list number to keeps.1) refl
kept_op links number s (Lookup default pairs) keeps = rw (keeps.0, kept_pairs number pairs keeps.1) refl
kept_op links number s Nop keeps = refl
kept_op links number s (Const imm) keeps = refl
kept_op links number s (Load kind local) keeps = refl
kept_op links number s (Store kind local) keeps = refl
kept_op links number s (Iinc local amount) keeps = refl
kept_op links number s (ArrayLoad opcode) keeps = refl
kept_op links number s (ArrayStore opcode) keeps = refl
kept_op links number s (Shuffle opcode) keeps = refl
kept_op links number s (Pure opcode) keeps = refl
kept_op links number s (Divide opcode) keeps = refl
kept_op links number s (FloatAsk opcode) keeps = refl
kept_op links number s (Return kind) keeps = refl
kept_op links number s (NewArray code) keeps = refl
kept_op links number s Length keeps = refl
kept_op links number s Throw keeps = refl
kept_op links number s Enter keeps = refl
kept_op links number s Leave keeps = refl
kept_op links number s (Ldc index) keeps = refl
kept_op links number s (Ldc2 index) keeps = refl
kept_op links number s (GetStatic index) keeps = refl
kept_op links number s (PutStatic index) keeps = refl
kept_op links number s (GetField index) keeps = refl
kept_op links number s (PutField index) keeps = refl
kept_op links number s (Invoke opcode index count) keeps = refl
kept_op links number s (Dynamic index) keeps = refl
kept_op links number s (New index) keeps = refl
kept_op links number s (NewRefArray index) keeps = refl
kept_op links number s (NewMulti index dimensions) keeps = refl
kept_op links number s (Cast index) keeps = refl
kept_op links number s (InstanceOf index) keeps = refl

-- ---- handlers

-- a class that handlers catch has its index in a pool whose first entry is none
module _ (pool : Constants) (first : constant_at pool 0 ≡ None) where
  behind_zero : (index : ℕ) → (suc index == 0) ≡ false
  behind_zero index = grind (arith)

  named_not_zero : (index : ℕ) (name : Name) → class_at pool index ≡ Some name → (index == 0) ≡ false
  named_not_zero zero name is = absurd (none-some name (sym (rw (first) refl) ∙ is))
  named_not_zero (suc index) name is = behind_zero index

  caught : (to : ℕ) (class : Option Name) (index : ℕ) → index ≡ catch_index pool class
      → (meant : (name : Name) → class ≡ Some name → class_at pool (catch_index pool class) ≡ Some name)
      → catch_by pool to index ≡ record { to = to; class = class } ∷ []
  caught to None index is meant = rw (is) refl
  caught to (Some name) index is meant =
      let there = meant name refl in
      rw (is, named_not_zero (catch_index pool (Some name)) name there, there) refl

-- ---- items

-- an item leads to items of a number below a count
pub record IsInside (count : ℕ) (item : EmitItem) : Type 0 where
  pub targets : AllByRecursion (λ (to : ℕ). to < count) (targets item.instr)
  pub catches : AllByRecursion (λ (catch : EmittedCatch). catch.to < count) item.catches

-- ---- operations

-- what is known of an instruction of written code: of one that is carried, that its operands fit its class and it may be carried; of another
-- one, that it names no constant by itself
pub record IsCarriedWell (s : PlanScope) (class : ℕ) (instr : Instr) : Type 0 where
  pub file : ClassFile
  pub there : slice_get s.classes.folder class ≡ Some file
  pub locals : ℕ
  pub fits : OperandFits file.pool file.major locals instr
  pub carriable : class ≢ s.flat.host.class → IsCarriable file.pool instr

abbrev pub Sort : PlanScope → WInstr → Type 0
Sort s (carried class instr) = IsCarriedWell s class instr
Sort s (plain instr) = NamesNone instr
Sort s (load kind unit) = Unit {0}
Sort s (store kind unit) = Unit {0}
Sort s (makes class) = Unit {0}
Sort s (constructs class) = Unit {0}

module _ (s : PlanScope) (constructor : Name → List ℕ) (host : Scope) (now : RowScope) (like : IsWrittenScope (row_scope host) now)
    (first : constant_at now.pool 0 ≡ None)
    (calls : (opcode : ℕ) (r : Reference) → call_op s.links now opcode r ≡ call_op s.links (row_scope host) opcode r)
    (own_runs : (file : ClassFile) (instr : Instr) (locals : ℕ) → slice_get s.classes.folder s.flat.host.class ≡ Some file
    → OperandFits file.pool file.major locals instr
    → instr_op s.links (λ number. number) now instr
    ≡ instr_op s.links (λ number. number) (record (row_scope host) { pool = pool_of s s.flat.host.class }) instr) where
  abbrev At : List ℕ → WInstr → Type 0
  At numbers instr =
      instr_op s.links (λ number. number) now (jumping_to numbers (indexed_instr s constructor now.pool instr))
      ≡ written_op s host constructor numbers instr

  carried_at : (numbers : List ℕ) (class : ℕ) (instr : Instr) → Sort s (carried class instr) → InstrMeant s constructor now.pool (carried class instr)
      → At numbers (carried class instr)
  carried_at numbers class instr sort meant = by (class == s.flat.host.class) refl where
    in_class : pool_of s class ≡ sort.file.pool
    in_class = rw (sort.there) refl

    by : (own : Bool) → (class == s.flat.host.class) ≡ own → At numbers (carried class instr)
    by true own =
        let same : class ≡ s.flat.host.class = (Decides-eqb class s.flat.host.class).0 own in
        let there : slice_get s.classes.folder s.flat.host.class ≡ Some sort.file =
        subst (λ (n : ℕ). slice_get s.classes.folder n ≡ Some sort.file) same sort.there in
        rw (own)
        (own_runs sort.file (jumping_to numbers instr) sort.locals there (jumps_fit sort.file.pool sort.file.major sort.locals numbers instr sort.fits)
        ∙ ap (λ (n : ℕ). instr_op s.links (λ number. number) (record (row_scope host) { pool = pool_of s n }) (jumping_to numbers instr)) (sym same))
    by false own =
        let foreign : class ≢ s.flat.host.class = λ same. false≢true (sym own ∙ (Decides-eqb class s.flat.host.class).1 same) in
        let fits : OperandFits (pool_of s class) sort.file.major sort.locals instr =
        subst (λ (p : Constants). OperandFits p sort.file.major sort.locals instr) (sym in_class) sort.fits in
        let carriable : IsCarriable (pool_of s class) instr = subst (λ (p : Constants). IsCarriable p instr) (sym in_class) (sort.carriable foreign) in
        rw (own)
        (carried_meant s.links (row_scope host) now like calls (pool_of s class) first sort.file.major sort.locals numbers instr fits carriable
        (λ index is. meant foreign index is))

  pub op_written : (numbers : List ℕ) (instr : WInstr) → Sort s instr → InstrMeant s constructor now.pool instr → At numbers instr
  op_written numbers (carried class instr) sort meant = carried_at numbers class instr sort meant
  op_written numbers (plain instr) sort meant =
      none_named s.links (row_scope host) now like calls (row_scope host).pool (jumping_to numbers instr) (jumps_name_none numbers instr sort)
  op_written [] (load kind unit) sort meant = refl
  op_written (number ∷ numbers) (load kind unit) sort meant = refl
  op_written [] (store kind unit) sort meant = refl
  op_written (number ∷ numbers) (store kind unit) sort meant = refl
  op_written numbers (makes class) sort meant =
      rw (jumps_nowhere numbers (New (index_in now.pool (needs_class class))) tt)
      (ap (λ (n : Option Name). naming n new_object) meant)
  op_written numbers (constructs class) sort meant =
      let index : ℕ = index_of_last now.pool (constructor_needs class (constructor class)) in
      rw (jumps_nowhere numbers (Invoke INVOKESPECIAL index 0) tt)
      (ap (λ (r : Option Reference). or_meaningless (option_map (call_op s.links now INVOKESPECIAL) r)) (referred now.pool index of_method class init (constructor class) meant)
      ∙ calls INVOKESPECIAL (record { class = class; name = init; desc = constructor class }))

  -- ---- points

  module _ (form : Form) (blocks : List Finished) (number : ℕ → ℕ) (count : ℕ) (numbers_are : (to : ℕ) → to < count → number to ≡ to) where
    kept_targets : (all : List ℕ) → AllByRecursion (λ (to : ℕ). to < count) all → AllByRecursion (λ (to : ℕ). number to ≡ to) all
    kept_targets [] within = tt
    kept_targets (to ∷ all) within = (numbers_are to within.0, kept_targets all within.1)

    catches_at : (place : ℕ) (given : List EmittedCatch) (wanted : List WCatch)
        → map {B = ℕ × ℕ} (λ (catch : EmittedCatch). (catch.to, catch.catch_type)) given
        ≡ map {B = ℕ × ℕ} (λ (catch : WCatch). (target_number form blocks place catch.to, catch_index now.pool catch.class)) wanted
        → AllByRecursion (λ (catch : EmittedCatch). catch.to < count) given
        → AllByRecursion (λ (catch : WCatch). CatchMeant s constructor now.pool catch.class) wanted
        → map (renumbered number) (flat_map (catch_of now.pool) given) ≡ map (written_catch form blocks place) wanted
    catches_at place [] [] same within meant = refl
    catches_at place [] (want ∷ wanted) same within meant = absurd (nothing same) where
      nothing : {A : Type 0} {x : A} {xs : List A} → [] ≡ x ∷ xs → ⊥
      nothing e = cc e
    catches_at place (one ∷ given) [] same within meant = absurd (nothing (sym same)) where
      nothing : {A : Type 0} {x : A} {xs : List A} → [] ≡ x ∷ xs → ⊥
      nothing e = cc e
    catches_at place (one ∷ given) (want ∷ wanted) same within meant =
        let heads : (one.to, one.catch_type) ≡ (target_number form blocks place want.to, catch_index now.pool want.class) = head_is same in
        let to : one.to ≡ target_number form blocks place want.to = ap (λ (p : ℕ × ℕ). p.0) heads in
        let index : one.catch_type ≡ catch_index now.pool want.class = ap (λ (p : ℕ × ℕ). p.1) heads in
        let rest = catches_at place given wanted (tail_is same) within.1 meant.1 in
        let here : catch_of now.pool one ≡ record { to = one.to; class = want.class } ∷ [] =
        caught now.pool first one.to want.class one.catch_type index (named want.class meant.0) in
        rw (here)
        (ap (λ (n : ℕ). record { to = n; class = want.class } ∷ map (renumbered number) (flat_map (catch_of now.pool) given)) (numbers_are one.to within.0 ∙ to)
        ∙ ap (λ (more : List Catch). written_catch form blocks place want ∷ more) rest) where
          head_is : {A : Type 0} {x y : A} {xs ys : List A} → x ∷ xs ≡ y ∷ ys → x ≡ y
          head_is e = cc e

          tail_is : {A : Type 0} {x y : A} {xs ys : List A} → x ∷ xs ≡ y ∷ ys → xs ≡ ys
          tail_is e = cc e

          named : (class : Option Name) → CatchMeant s constructor now.pool class
              → (name : Name)
              → class ≡ Some name
              → class_at now.pool (catch_index now.pool class) ≡ Some name
          named None is name e = absurd (none-some name e)
          named (Some class) is name e = is ∙ e

    pub points_written : (place : ℕ) (items : List EmitItem) (ones : List WItem)
        → plain_items items ≡ map_numbered (indexed_item s constructor now.pool form blocks) place ones
        → AllByRecursion (IsInside count) items
        → AllByRecursion (λ (one : WItem). Sort s one.instr) ones
        → AllByRecursion (ItemMeant s constructor now.pool) ones
        → map (run_point s.links number) (map_numbered (item_point now) place items)
        ≡ map_numbered (written_point s host constructor form blocks) place ones
    points_written place [] [] same inside sorts meant = refl
    points_written place [] (one ∷ ones) same inside sorts meant = absurd (nothing same) where
      nothing : {A : Type 0} {x : A} {xs : List A} → [] ≡ x ∷ xs → ⊥
      nothing e = cc e
    points_written place (item ∷ items) [] same inside sorts meant = absurd (nothing (sym same)) where
      nothing : {A : Type 0} {x : A} {xs : List A} → [] ≡ x ∷ xs → ⊥
      nothing e = cc e
    points_written place (item ∷ items) (one ∷ ones) same inside sorts meant =
        let head : plain_item item ≡ indexed_item s constructor now.pool form blocks place one = head_is same in
        let numbers : List ℕ = map (target_number form blocks place) one.targets in
        let instr : item.instr ≡ jumping_to numbers (indexed_instr s constructor now.pool one.instr) = ap (λ (i : IndexedItem). i.instr) head in
        let op : instr_op s.links number now item.instr ≡ written_op s host constructor numbers one.instr =
        kept_op s.links number now item.instr (kept_targets (targets item.instr) inside.0.targets)
        ∙ ap (instr_op s.links (λ to. to) now) instr
        ∙ op_written numbers one.instr sorts.0 meant.0.instr in
        let catches = catches_at place item.catches one.catches (ap (λ (i : IndexedItem). i.catches) head) inside.0.catches meant.0.catches in
        let rest = points_written (suc place) items ones (tail_is same) inside.1 sorts.1 meant.1 in
        ap (λ (o : Op). record { op = o; catches = map (renumbered number) (flat_map (catch_of now.pool) item.catches) }
        ∷ map (run_point s.links number) (map_numbered (item_point now) (suc place) items)) op
        ∙ ap (λ (c : List Catch). record { op = written_op s host constructor numbers one.instr; catches = c }
        ∷ map (run_point s.links number) (map_numbered (item_point now) (suc place) items)) catches
        ∙ ap (λ (more : List Point). written_point s host constructor form blocks place one ∷ more) rest where
          head_is : {A : Type 0} {x y : A} {xs ys : List A} → x ∷ xs ≡ y ∷ ys → x ≡ y
          head_is e = cc e

          tail_is : {A : Type 0} {x y : A} {xs ys : List A} → x ∷ xs ≡ y ∷ ys → xs ≡ ys
          tail_is e = cc e

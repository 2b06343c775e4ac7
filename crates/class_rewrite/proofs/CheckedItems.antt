-- The operands of each item of a method that is rewritten fit in the class that is written, and its catch types are classes there.
use Rattle.std.proofs.Common.{◌≡◌, ◌≢◌, ◌⊎◌, ◌==◌, ◌≤◌, ◌∙◌, inl, inr, ℕ, zero, suc, Bool, true, false, List, [], ◌∷◌, map, slice_get, Option, Some, None, IsSome, option_and_then, refl, sym, ap, subst}
use Rattle.std.specs.List.{AllByRecursion}
use Rattle.std.proofs.lemmas.Bool.{false≢true}
use Rattle.std.proofs.lemmas.Bool.Decides.{Decides-eqb}
use Rattle.std.proofs.lemmas.Option.{none-some, same_Some}
use Rattle.class_model.specs.Checks.{AllHold}
use Rattle.class_model.specs.Code.{OperandFits}
use Rattle.class_model.specs.Pool.{Constants, constant_at}
use Rattle.class_model.specs.PoolChecks.{IsClassAt, IsMethodConstant, class_at, class_name_of, entries_checks, utf8_at}
use Rattle.class_model.specs.declared.class_file.ClassFile.{ClassFile}
use Rattle.class_model.specs.declared.instr.Instr.{Instr}
use Rattle.class_model.specs.declared.instr.Instr.TheVariants.{Nop, Const, Ldc, Ldc2, Load, Store, Iinc, ArrayLoad, ArrayStore, Shuffle, Pure, Divide, FloatAsk, If, If2, IfSame, IfNull, Goto, Table, Lookup, Return, GetStatic, PutStatic, GetField, PutField, Invoke, Dynamic, New, NewArray, NewRefArray, NewMulti, Length, Throw, Cast, InstanceOf, Enter, Leave}
use Rattle.class_rewrite.proofs.CheckedCodes.{IsCheckedItem}
use Rattle.class_rewrite.proofs.ForeignOperands.{call_fits, class_fits, field_fits, loads2_fit, loads_fit, more_locals}
use Rattle.class_rewrite.proofs.NeededConstants.{CatchMeant, InstrMeant, ItemMeant}
use Rattle.class_rewrite.proofs.WrittenInstrs.{HoldsOfWritten, each_written}
use Rattle.class_rewrite.proofs.WrittenOps.{jumps_fit}
use Rattle.class_rewrite.specs.Inner.FittingFolders.{UnitFits}
use Rattle.code_layout.specs.PlainItems.{plain_item, plain_items}
use Rattle.code_layout.specs.declared.emitted.Catch.{Catch}
use Rattle.code_layout.specs.declared.emitted.EmitItem.{EmitItem}
use Rattle.expanded_runs.specs.CarriedConstants.{CarriesConstants, IsCarriable}
use Rattle.flow_code.specs.declared.point.FlatInstr.TheVariants.{Of}
use Rattle.flow_code.specs.declared.point.Point.{Point}
use Rattle.making_code.specs.Constants.{needs_at}
use Rattle.making_code.specs.IndexedItems.{IndexedItem}
use Rattle.making_code.specs.IndexedMaking.{index_of_last}
use Rattle.making_code.specs.Items.{WCatch, WInstr, WItem, carried, constructs, load, makes, plain, store}
use Rattle.making_code.specs.Laws.MeantConstants.{Means}
use Rattle.making_code.specs.Opposites.{opposite_instr}
use Rattle.class_tree.specs.Headers.{Name}
use Rattle.member_link.specs.Machine.Replaced.{map_numbered}
use Rattle.member_link.specs.Scope.{Scope}
use Rattle.plan_flow.specs.PlanScope.{PlanScope, pool_of}
use Rattle.plan_flow.specs.Written.Blocks.{blocks_of}
use Rattle.plan_flow.specs.Written.Finish.{Finished, finish}
use Rattle.plan_flow.specs.Written.Routes.{Routes}
use Rattle.plan_flow.specs.Written.WrittenCode.{Form, jumping_to, target_number, written_items}
use Rattle.plan_flow.specs.Written.WrittenConstants.{catch_index, indexed_instr, indexed_item, named_index, needs_of_index, with_index}
use Rattle.same_runs.specs.ReadyCode.{IsReadyCode, IsReadyInstr, IsReadyItem}

-- ---- an instruction of another class

module _ (old_major : ℕ) (old : Constants) (checked : AllHold (entries_checks old_major old 10 old)) (pool : Constants) (major few many : ℕ)
    (same : old_major ≡ major) (less : few ≤ many) where
  abbrev index : ℕ → ℕ
  index of = index_of_last pool (needs_at old of)

  abbrev MeansThere : Instr → Type 0
  MeansThere instr = (of : ℕ) → named_index instr ≡ Some of → Means old of pool (index of)

  abbrev There : Instr → Type 0
  There instr = OperandFits pool major many (with_index (index_of_last pool (needs_of_index old (named_index instr))) instr)

  foreign_fits : (instr : Instr) → OperandFits old old_major few instr → IsCarriable old instr → MeansThere instr → There instr
  foreign_fits (Ldc of) fits carriable means = loads_fit old_major old checked of pool (index of) (means of refl) fits carriable
  foreign_fits (Ldc2 of) fits carriable means = loads2_fit old_major old checked of pool (index of) (means of refl) fits
  foreign_fits (GetStatic of) fits carriable means = field_fits old_major old checked of pool (index of) (means of refl) fits
  foreign_fits (PutStatic of) fits carriable means = field_fits old_major old checked of pool (index of) (means of refl) fits
  foreign_fits (GetField of) fits carriable means = field_fits old_major old checked of pool (index of) (means of refl) fits
  foreign_fits (PutField of) fits carriable means = field_fits old_major old checked of pool (index of) (means of refl) fits
  foreign_fits (Invoke opcode of count) fits carriable means =
      subst (λ (version : ℕ). OperandFits pool version many (Invoke opcode (index of) count)) same
      (call_fits old_major old checked of pool (index of) (means of refl) old_major opcode count fits)
  foreign_fits (Dynamic of) fits carriable means = absurd carriable
  foreign_fits (New of) fits carriable means = (class_fits old_major old checked of pool (index of) (means of refl) fits).0
  foreign_fits (Cast of) fits carriable means = (class_fits old_major old checked of pool (index of) (means of refl) fits).0
  foreign_fits (InstanceOf of) fits carriable means = (class_fits old_major old checked of pool (index of) (means of refl) fits).0
  foreign_fits (NewRefArray of) fits carriable means =
      let class = class_fits old_major old checked of pool (index of) (means of refl) fits.0 in
      (class.0, rw (class.1) fits.1)
  foreign_fits (NewMulti of dimensions) fits carriable means =
      let class = class_fits old_major old checked of pool (index of) (means of refl) fits.0 in
      (class.0, rw (class.1) fits.1)
  foreign_fits (Load kind local) fits carriable means = more_locals pool major few many (Load kind local) less fits
  foreign_fits (Store kind local) fits carriable means = more_locals pool major few many (Store kind local) less fits
  foreign_fits (Iinc local amount) fits carriable means = more_locals pool major few many (Iinc local amount) less fits
  foreign_fits Nop fits carriable means = tt
  foreign_fits (Const imm) fits carriable means = tt
  foreign_fits (ArrayLoad opcode) fits carriable means = tt
  foreign_fits (ArrayStore opcode) fits carriable means = tt
  foreign_fits (Shuffle opcode) fits carriable means = tt
  foreign_fits (Pure opcode) fits carriable means = tt
  foreign_fits (Divide opcode) fits carriable means = tt
  foreign_fits (FloatAsk opcode) fits carriable means = tt
  foreign_fits (If opcode to) fits carriable means = tt
  foreign_fits (If2 opcode to) fits carriable means = tt
  foreign_fits (IfSame opcode to) fits carriable means = tt
  foreign_fits (IfNull opcode to) fits carriable means = tt
  foreign_fits (Goto to) fits carriable means = tt
  foreign_fits (Table low default to) fits carriable means = tt
  foreign_fits (Lookup default pairs) fits carriable means = tt
  foreign_fits (Return kind) fits carriable means = tt
  foreign_fits (NewArray code) fits carriable means = tt
  foreign_fits Length fits carriable means = tt
  foreign_fits Throw fits carriable means = tt
  foreign_fits Enter fits carriable means = tt
  foreign_fits Leave fits carriable means = tt

-- ---- what is known of each instruction of written code

-- of one that is carried: its operands fit its class, whose pool was checked, and it may be carried into a class of this version
pub record IsCarriedFit (s : PlanScope) (major class : ℕ) (instr : Instr) : Type 0 where
  pub file : ClassFile
  pub there : slice_get s.classes.folder class ≡ Some file
  pub fits : OperandFits file.pool file.major s.flat.locals instr
  pub checked : AllHold (entries_checks file.major file.pool 10 file.pool)
  pub carriable : class ≢ s.flat.host.class → IsCarriable file.pool instr
  pub version : class ≢ s.flat.host.class → file.major ≡ major

abbrev pub FitSort : PlanScope → ℕ → WInstr → Type 0
FitSort s major (carried class instr) = IsCarriedFit s major class instr
FitSort s major (plain instr) = (pool : Constants) (version locals : ℕ) → OperandFits pool version locals instr
FitSort s major (load kind unit) = Unit {0}
FitSort s major (store kind unit) = Unit {0}
FitSort s major (makes class) = Unit {0}
FitSort s major (constructs class) = Unit {0}

-- an instruction that names no constant and no local unit
abbrev IsFree : Instr → Type 0
IsFree instr = ((pool : Constants) (major locals : ℕ) → OperandFits pool major locals instr) × ((pool : Constants) → IsCarriable pool instr)

-- the opposite of a conditional jump
opposite_free : (instr other : Instr) → opposite_instr instr ≡ Some other → IsFree other
opposite_free (If opcode to) other is = subst IsFree (same_Some _ other is) ((λ pool major locals. tt), (λ pool. tt))
opposite_free (If2 opcode to) other is = subst IsFree (same_Some _ other is) ((λ pool major locals. tt), (λ pool. tt))
opposite_free (IfSame opcode to) other is = subst IsFree (same_Some _ other is) ((λ pool major locals. tt), (λ pool. tt))
opposite_free (IfNull opcode to) other is = subst IsFree (same_Some _ other is) ((λ pool major locals. tt), (λ pool. tt))
opposite_free Nop other is = absurd (none-some other is)
opposite_free (Const imm) other is = absurd (none-some other is)
opposite_free (Ldc index) other is = absurd (none-some other is)
opposite_free (Ldc2 index) other is = absurd (none-some other is)
opposite_free (Load kind local) other is = absurd (none-some other is)
opposite_free (Store kind local) other is = absurd (none-some other is)
opposite_free (Iinc local amount) other is = absurd (none-some other is)
opposite_free (ArrayLoad opcode) other is = absurd (none-some other is)
opposite_free (ArrayStore opcode) other is = absurd (none-some other is)
opposite_free (Shuffle opcode) other is = absurd (none-some other is)
opposite_free (Pure opcode) other is = absurd (none-some other is)
opposite_free (Divide opcode) other is = absurd (none-some other is)
opposite_free (FloatAsk opcode) other is = absurd (none-some other is)
opposite_free (Goto to) other is = absurd (none-some other is)
opposite_free (Table low default to) other is = absurd (none-some other is)
opposite_free (Lookup default pairs) other is = absurd (none-some other is)
opposite_free (Return kind) other is = absurd (none-some other is)
opposite_free (GetStatic index) other is = absurd (none-some other is)
opposite_free (PutStatic index) other is = absurd (none-some other is)
opposite_free (GetField index) other is = absurd (none-some other is)
opposite_free (PutField index) other is = absurd (none-some other is)
opposite_free (Invoke opcode index count) other is = absurd (none-some other is)
opposite_free (Dynamic index) other is = absurd (none-some other is)
opposite_free (New index) other is = absurd (none-some other is)
opposite_free (NewArray code) other is = absurd (none-some other is)
opposite_free (NewRefArray index) other is = absurd (none-some other is)
opposite_free (NewMulti index dimensions) other is = absurd (none-some other is)
opposite_free Length other is = absurd (none-some other is)
opposite_free Throw other is = absurd (none-some other is)
opposite_free (Cast index) other is = absurd (none-some other is)
opposite_free (InstanceOf index) other is = absurd (none-some other is)
opposite_free Enter other is = absurd (none-some other is)
opposite_free Leave other is = absurd (none-some other is)

module _ (s : PlanScope) (host : Scope) (ready : IsReadyCode s.classes host s.flat) (carries : CarriesConstants s.classes s.flat) (major : ℕ)
    (checked : (class : ℕ) (file : ClassFile) → slice_get s.classes.folder class ≡ Some file → AllHold (entries_checks file.major file.pool 10 file.pool))
    (version : (at : ℕ) (point : Point) (class : ℕ) (instr : Instr) (file : ClassFile) → slice_get s.flat.points at ≡ Some point
    → point.instr ≡ Of class instr
    → slice_get s.classes.folder class ≡ Some file
    → class ≢ s.flat.host.class
    → file.major ≡ major) where
  item_ready : (points : List Point) (at : ℕ) (point : Point) → AllByRecursion (λ (one : Point). IsReadyItem s.classes s.flat.locals one.instr) points
      → slice_get points at ≡ Some point
      → IsReadyItem s.classes s.flat.locals point.instr
  item_ready [] at point all is = absurd (none-some point is)
  item_ready (first ∷ points) zero point all is = subst (λ (one : Point). IsReadyItem s.classes s.flat.locals one.instr) (same_Some first point is) all.0
  item_ready (first ∷ points) (suc at) point all is = item_ready points at point all.1 is

  holds : HoldsOfWritten s (FitSort s major)
  holds = record {
    simple = record {
      loads = λ kind unit. tt;
      stores = λ kind unit. tt;
      consts = λ value form. λ pool version locals. tt;
      pures = λ opcode form. λ pool version locals. tt;
      shuffles = λ opcode form. λ pool version locals. tt;
    };
    enter = λ pool version locals. tt;
    made = λ number site is. tt;
    constructed = λ number site is. tt;
    carries = λ at point class instr there is.
        let one : IsReadyInstr s.classes s.flat.locals class instr = subst (IsReadyItem s.classes s.flat.locals) is (item_ready s.flat.points at point ready.points there) in
        record {
          file = one.file;
          there = one.there;
          fits = one.operand;
          checked = checked class one.file one.there;
          carriable = λ foreign. carries at point class instr one.file there is one.there foreign;
          version = λ foreign. version at point class instr one.file there is one.there foreign;
        };
    opposite = λ class instr other well is. record {
      file = well.file;
      there = well.there;
      fits = (opposite_free instr other is).0 well.file.pool well.file.major s.flat.locals;
      checked = well.checked;
      carriable = λ foreign. (opposite_free instr other is).1 well.file.pool;
      version = well.version;
    };
    goto = λ pool version locals. tt;
    nop = λ pool version locals. tt;
    null_jump = λ pool version locals. tt;
    throw = λ pool version locals. tt;
  }

  pub fit_sorts : (form : Form) (routes : Routes) → AllByRecursion (λ (one : WItem). FitSort s major one.instr) (written_items form (finish s.flat (blocks_of s routes)))
  fit_sorts form routes = each_written s (FitSort s major) holds form routes

-- ---- in the class that is written

module _ (s : PlanScope) (constructor : Name → List ℕ) (form : Form) (blocks : List Finished) (file also : ClassFile) (locals : ℕ)
    (less : s.flat.locals ≤ locals)
    (own_file : slice_get s.classes.folder s.flat.host.class ≡ Some file)
    (grown : (few : ℕ) (instr : Instr) → OperandFits file.pool file.major few instr → OperandFits also.pool also.major few instr) where
  some_class : (class : ℕ) (name : Name) → class_at also.pool class ≡ Some name → IsClassAt also.pool class
  some_class class name is = by (option_and_then class_name_of (constant_at also.pool class)) refl where
    by : (o : Option ℕ) → option_and_then class_name_of (constant_at also.pool class) ≡ o → IsClassAt also.pool class
    by None none = absurd (none-some name (sym (ap (option_and_then (utf8_at also.pool)) none) ∙ is))
    by (Some text) some = subst IsSome (sym some) refl

  carried_fits : (class : ℕ) (instr : Instr) → IsCarriedFit s also.major class instr → InstrMeant s constructor also.pool (carried class instr)
      → OperandFits also.pool also.major locals (indexed_instr s constructor also.pool (carried class instr))
  carried_fits class instr sort meant = by (class == s.flat.host.class) refl where
    in_class : pool_of s class ≡ sort.file.pool
    in_class = rw (sort.there) refl

    by : (own : Bool) → (class == s.flat.host.class) ≡ own → OperandFits also.pool also.major locals (indexed_instr s constructor also.pool (carried class instr))
    by true own =
        let same : class ≡ s.flat.host.class = (Decides-eqb class s.flat.host.class).0 own in
        let is_file : sort.file ≡ file =
        same_Some sort.file file (sym (subst (λ (n : ℕ). slice_get s.classes.folder n ≡ Some sort.file) same sort.there) ∙ own_file) in
        let fits = subst (λ (f : ClassFile). OperandFits f.pool f.major s.flat.locals instr) is_file sort.fits in
        rw (own) (more_locals also.pool also.major s.flat.locals locals instr less (grown s.flat.locals instr fits))
    by false own =
        let foreign : class ≢ s.flat.host.class = λ same. false≢true (sym own ∙ (Decides-eqb class s.flat.host.class).1 same) in
        let there = foreign_fits sort.file.major sort.file.pool sort.checked also.pool also.major s.flat.locals locals (sort.version foreign) less instr sort.fits
        (sort.carriable foreign)
        (λ of named. subst (λ (p : Constants). Means p of also.pool (index_of_last also.pool (needs_at p of))) in_class (meant foreign of named)) in
        rw (own)
        (subst (λ (p : Constants). OperandFits also.pool also.major locals (with_index (index_of_last also.pool (needs_of_index p (named_index instr))) instr))
        (sym in_class) there)

  item_fits : (numbers : List ℕ) (instr : WInstr) (item : Instr) → item ≡ jumping_to numbers (indexed_instr s constructor also.pool instr)
      → FitSort s also.major instr
      → InstrMeant s constructor also.pool instr
      → UnitFits locals item
      → OperandFits also.pool also.major locals item
  item_fits numbers (carried class instr) item is sort meant units =
      subst (OperandFits also.pool also.major locals) (sym is) (jumps_fit also.pool also.major locals numbers _ (carried_fits class instr sort meant))
  item_fits numbers (plain instr) item is sort meant units =
      subst (OperandFits also.pool also.major locals) (sym is) (jumps_fit also.pool also.major locals numbers instr (sort also.pool also.major locals))
  item_fits [] (load kind unit) item is sort meant units = subst (OperandFits also.pool also.major locals) (sym is) (subst (UnitFits locals) is units)
  item_fits (number ∷ numbers) (load kind unit) item is sort meant units = subst (OperandFits also.pool also.major locals) (sym is) (subst (UnitFits locals) is units)
  item_fits [] (store kind unit) item is sort meant units = subst (OperandFits also.pool also.major locals) (sym is) (subst (UnitFits locals) is units)
  item_fits (number ∷ numbers) (store kind unit) item is sort meant units = subst (OperandFits also.pool also.major locals) (sym is) (subst (UnitFits locals) is units)
  item_fits numbers (makes class) item is sort meant units =
      subst (OperandFits also.pool also.major locals) (sym is)
      (jumps_fit also.pool also.major locals numbers (indexed_instr s constructor also.pool (makes class)) (some_class _ class meant))
  item_fits numbers (constructs class) item is sort meant units =
      subst (OperandFits also.pool also.major locals) (sym is)
      (jumps_fit also.pool also.major locals numbers (indexed_instr s constructor also.pool (constructs class))
      (inr (inr (inl refl, inl (subst IsMethodConstant (sym meant.is) tt)))))

  -- the catch types
  abbrev IsCaught : ℕ → Type 0
  IsCaught index = (index ≡ 0) ⊎ IsClassAt also.pool index

  abbrev pair : Catch → ℕ × ℕ
  pair catch = (catch.to, catch.catch_type)

  caught_one : (class : Option Name) (index : ℕ) → index ≡ catch_index also.pool class → CatchMeant s constructor also.pool class → IsCaught index
  caught_one None index is meant = inl is
  caught_one (Some class) index is meant = inr (subst (IsClassAt also.pool) (sym is) (some_class (catch_index also.pool (Some class)) class meant))

  caught_all : (to : WCatch → ℕ) (catches : List Catch) (ones : List WCatch)
      → map pair catches ≡ map (λ (catch : WCatch). (to catch, catch_index also.pool catch.class)) ones
      → AllByRecursion (λ (catch : WCatch). CatchMeant s constructor also.pool catch.class) ones
      → AllByRecursion (λ (catch : Catch). IsCaught catch.catch_type) catches
  caught_all to [] [] is meant = tt
  caught_all to [] (one ∷ ones) is meant = tt
  caught_all to (catch ∷ catches) [] is meant = absurd cc
  caught_all to (catch ∷ catches) (one ∷ ones) is meant =
      let first : pair catch ≡ (to one, catch_index also.pool one.class) = cc in
      let rest : map pair catches ≡ map (λ (catch : WCatch). (to catch, catch_index also.pool catch.class)) ones = cc in
      (caught_one one.class catch.catch_type (ap (λ (p : ℕ × ℕ). p.1) first) meant.0, caught_all to catches ones rest meant.1)

  -- each item
  pub items_checked : (number : ℕ) (items : List EmitItem) (ones : List WItem)
      → plain_items items ≡ map_numbered (indexed_item s constructor also.pool form blocks) number ones
      → AllByRecursion (λ (one : WItem). FitSort s also.major one.instr) ones
      → AllByRecursion (ItemMeant s constructor also.pool) ones
      → AllByRecursion (λ (item : EmitItem). UnitFits locals item.instr) items
      → AllByRecursion (IsCheckedItem also.pool also.major locals) items
  items_checked number [] ones is sorts meant units = tt
  items_checked number (item ∷ items) [] is sorts meant units = absurd cc
  items_checked number (item ∷ items) (one ∷ ones) is sorts meant units =
      let first : plain_item item ≡ indexed_item s constructor also.pool form blocks number one = cc in
      let rest : plain_items items ≡ map_numbered (indexed_item s constructor also.pool form blocks) (suc number) ones = cc in (
        record {
          operand = item_fits (map (target_number form blocks number) one.targets) one.instr item.instr (ap (λ (i : IndexedItem). i.instr) first) sorts.0 meant.0.instr units.0;
          catches = caught_all (λ (catch : WCatch). target_number form blocks number catch.to) item.catches one.catches (ap (λ (i : IndexedItem). i.catches) first) meant.0.catches;
        },
        items_checked (suc number) items ones rest sorts.1 meant.1 units.1,
      )

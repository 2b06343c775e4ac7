-- The constants that the methods of a class that are rewritten and its field constructor add to its pool pass the checks and fit.
use Rattle.std.proofs.Common.{◌≡◌, ℕ, zero, suc, nat_le, Bool, true, false, List, [], ◌∷◌, length, slice_get, Option, Some, None, if◌then◌else◌, refl, sym, ap, subst, arith}
use Rattle.std.specs.List.{AllByRecursion}
use Rattle.std.proofs.lemmas.Option.{same_Some}
use Rattle.class_model.specs.Checks.{AllHold}
use Rattle.class_model.specs.Header.{header_of}
use Rattle.class_model.specs.Laws.ClassFiles.{parts_hold}
use Rattle.class_model.specs.Laws.Lists.{at_index}
use Rattle.class_model.specs.Pool.{Constants}
use Rattle.class_model.specs.PoolChecks.{entries_checks}
use Rattle.class_model.specs.declared.class_file.ClassFile.{ClassFile}
use Rattle.class_model.specs.declared.class_file.Method.{Method}
use Rattle.class_model.specs.declared.class_file.MethodAt.{MethodAt}
use Rattle.class_rewrite.proofs.FileLaws.{FileLaws}
use Rattle.class_rewrite.specs.Inner.FittingFolders.{CatchesSound, HasSoundMaking, HasSoundNeeds, IsFittedFolder}
use Rattle.class_rewrite.specs.Rewriting.Folders.{AddsMethods, IsClassWritten, IsFolderWritten, IsPoolBefore, IsRewrittenAt, adds_none, adds_one, at_first, behind_kept, behind_rewritten}
use Rattle.class_rewrite.specs.Rewriting.Methods.{IsRewritten, Rewriting, Rewritten, short_items}
use Rattle.class_tree.specs.Headers.{IsClassFile, headers_of}
use Rattle.making_code.specs.Constants.{grow}
use Rattle.making_code.specs.FieldConstructor.{constructor_method_needs}
use Rattle.making_code.specs.Items.{WCatch, WInstr, WItem, carried, constructs, load, makes, plain, store}
use Rattle.plan_flow.specs.PlanScope.{PlanScope, pool_of}
use Rattle.plan_flow.specs.Written.WrittenConstants.{code_needs}
use Rattle.plan_flow.specs.Written.WrittenPrograms.{WrittenMethod, plan_scope}
use Rattle.pool_bytes.specs.Items.{PoolFits}
use Rattle.stackmap_emit.specs.FrameConstants.{table_needs}
use Rattle.written_files.specs.ShortNeeds.{IsFittingPool, IsShortCatch, IsShortInstr, IsShortItem}
use Rattle.written_files.specs.SoundCode.{IsSoundCatch, IsSoundInstr, IsSoundItem}
use Rattle.written_files.specs.WrittenClasses.{AreAddedConstants, IsFitting}

pub pool_fits : (file : ClassFile) → IsFitting file → IsFittingPool file.major file.pool
pool_fits file fits = record { is_pool = fits.numbers.pool; fits = fits.numbers.constants; tags = fits.value.tags }

-- the pool of a class file was checked
pub entries_hold : (file : ClassFile) → IsFitting file → AllHold (entries_checks file.major file.pool 10 file.pool)
entries_hold file fits = (parts_hold file fits.value.checks).pool

module _ (laws : FileLaws) (r : Rewriting) (folder : AllByRecursion IsClassFile r.classes.folder) where
  -- ---- written code

  module _ (one : WrittenMethod) where
    abbrev s : PlanScope
    s = plan_scope r.classes r.links one

    -- the pool of a class by its number, which is empty where there is none
    record IsKnownPool (class : ℕ) : Type 0 where
      major : ℕ
      holds : AllHold (entries_checks major (pool_of s class) 10 (pool_of s class))
      fits : PoolFits (pool_of s class)

    pool_known : (class : ℕ) → IsKnownPool class
    pool_known class = by (slice_get r.classes.folder class) refl where
      by : (found : Option ClassFile) → slice_get r.classes.folder class ≡ found → IsKnownPool class
      by None e =
          let same : pool_of s class ≡ [] = rw (e) refl in
          record { major = 0; holds = subst (λ (p : Constants). AllHold (entries_checks 0 p 10 p)) (sym same) tt; fits = subst PoolFits (sym same) tt }
      by (Some file) e =
          let known = laws.fits file (at_index IsClassFile r.classes.folder class file folder e) in
          let same : pool_of s class ≡ file.pool = rw (e) refl in
          record {
            major = file.major;
            holds = subst (λ (p : Constants). AllHold (entries_checks file.major p 10 p)) (sym same) (entries_hold file known);
            fits = subst PoolFits (sym same) known.numbers.constants;
          }

    instr_known : (instr : WInstr) → HasSoundMaking r.constructor instr → IsSoundInstr s r.constructor instr × IsShortInstr s r.constructor instr
    instr_known (carried class instr) making = let known = pool_known class in ((known.major, known.holds), known.fits)
    instr_known (plain instr) making = (tt, tt)
    instr_known (load kind unit) making = (tt, tt)
    instr_known (store kind unit) making = (tt, tt)
    instr_known (makes class) making = (making.0, making.1)
    instr_known (constructs class) making = (making.0, (making.1, making.2))

    catches_known : (catches : List WCatch) → AllByRecursion CatchesSound catches
        → AllByRecursion (λ (catch : WCatch). IsSoundCatch catch.class) catches × AllByRecursion (λ (catch : WCatch). IsShortCatch catch.class) catches
    catches_known [] all = (tt, tt)
    catches_known (catch ∷ catches) all = let rest = catches_known catches all.1 in ((all.0.0, rest.0), (all.0.1, rest.1))

    items_known : (items : List WItem)
        → AllByRecursion (λ (one : WItem). HasSoundMaking r.constructor one.instr) items
        → AllByRecursion (λ (one : WItem). AllByRecursion CatchesSound one.catches) items
        → AllByRecursion (IsSoundItem s r.constructor) items × AllByRecursion (IsShortItem s r.constructor) items
    items_known [] making catches = (tt, tt)
    items_known (item ∷ items) making catches =
        let rest = items_known items making.1 catches.1 in
        let own = instr_known item.instr making.0 in
        let caught = catches_known item.catches catches.0 in
        ((record { instr = own.0; catches = caught.0 }, rest.0), (record { instr = own.1; catches = caught.1 }, rest.1))

  -- ---- the pool that a method leaves

  module _ (major : ℕ) where
    method_adds : (at : MethodAt) (pool : Constants) (v : Rewritten) → IsRewritten r at pool v → HasSoundNeeds r v → IsFittingPool major pool
        → AreAddedConstants major pool v.pool
    method_adds at pool v is needs fits =
        let known = items_known v.one (short_items r v.one) needs.making needs.catches in
        let s = plan_scope r.classes r.links v.one in
        let code =
        laws.added major 64535 pool v.code_pool (code_needs s r.constructor (short_items r v.one)) (omega arith)
        (laws.code_sound s r.constructor (short_items r v.one) known.0) (laws.code_fits s r.constructor (short_items r v.one) known.1) fits is.coded.grows in
        let next = laws.pool major pool v.code_pool fits code in
        laws.both major pool v.code_pool v.pool fits code (by next (nat_le 50 is.host.class.major) is.grows) where
          by : IsFittingPool major v.code_pool → (b : Bool) → (if b then grow 64535 v.code_pool (table_needs v.stated) else Some v.code_pool) ≡ Some v.pool
              → AreAddedConstants major v.code_pool v.pool
          by next true e = laws.added major 64535 v.code_pool v.pool (table_needs v.stated) (omega arith) needs.tables.frames needs.tables.short_frames next e
          by next false e =
              subst (AreAddedConstants major v.code_pool) (same_Some v.code_pool v.pool e) (laws.none major v.code_pool next)

  -- ---- the pool of a class

  module _ (files : List ClassFile) (w : IsFolderWritten r files) (fitting : IsFittedFolder r files w) (class : ℕ) (file : ClassFile)
      (there : slice_get r.classes.folder class ≡ Some file) where
    is_file : IsClassFile file
    is_file = at_index IsClassFile r.classes.folder class file folder there

    begun : IsFittingPool file.major file.pool
    begun = pool_fits file (laws.fits file is_file)

    pub methods_add : (number : ℕ) (pool : Constants) → IsPoolBefore r class file number pool → AreAddedConstants file.major file.pool pool
    methods_add zero pool at_first = laws.none file.major file.pool begun
    methods_add (suc number) pool (behind_kept before has kept) = methods_add number pool before
    methods_add (suc number) _ (behind_rewritten {pool = pool} {w = v} before is) =
        let rest = methods_add number pool before in
        let at : MethodAt = record { class = class; method = number } in
        let is_at : IsRewrittenAt r at v = record { file = file; is_file = there; pool = pool; before = before; is = is } in
        let fits = laws.pool file.major file.pool pool begun rest in
        laws.both file.major file.pool pool v.pool begun rest (method_adds file.major at pool v is (fitting.needs at v is_at) fits)

    pub constructor_adds : (pool last : Constants) (added : List Method) → IsFittingPool file.major pool → AddsMethods r w.written file pool last added
        → AreAddedConstants file.major pool last
    constructor_adds pool _ _ fits (adds_none none) = laws.none file.major pool fits
    constructor_adds pool last _ fits (adds_one made grows is_method) =
        let known = fitting.constructors class file there made in
        laws.added file.major 65535 pool last (constructor_method_needs (headers_of r.classes) r.constructor (header_of file).name) (omega arith)
        (laws.constructor_sound (headers_of r.classes) r.constructor file known.texts)
        (laws.constructor_fits (headers_of r.classes) r.constructor (header_of file).name known.short) fits grows

    -- What a class that is written has more than its class in the folder passes the checks and fits.
    pub class_adds : (also : ClassFile) → IsClassWritten r w.written w.s class file also → AreAddedConstants file.major file.pool also.pool
    class_adds also is =
        let before = methods_add (length file.methods) is.code_pool is.before_constructors in
        subst (AreAddedConstants file.major file.pool) (sym (ap (λ (c : ClassFile). c.pool) is.is))
        (laws.both file.major file.pool is.code_pool is.pool begun before
        (constructor_adds is.code_pool is.pool is.added (laws.pool file.major file.pool is.code_pool begun before) is.adds))

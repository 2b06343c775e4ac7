-- The classes that handlers catch are named in the pool of written code, at an index that is not 0.
use Rattle.std.proofs.Common.{◌≡◌, ◌++◌, ◌==◌, ℕ, Bool, true, false, cond, List, [], ◌∷◌, length, slice_get, Option, Some, None, Ok, Err, if◌then◌else◌, refl, sym, ap, subst, ◌∙◌}
use Rattle.std.specs.List.{AllByRecursion}
use Rattle.std.proofs.lemmas.Bool.{eqb-true}
use Rattle.std.proofs.lemmas.Option.{none-some}
use Rattle.std.proofs.lemmas.List.{append_assoc}
use Rattle.class_model.specs.Checks.{Fault, fault}
use Rattle.class_model.specs.Cutting.{Rest, Version, attr_at, class_file_at, counted_at, entries_at, field_at, method_at, pool_at, u2_at}
use Rattle.class_model.specs.Laws.Cuts.{bind_ok, same_done}
use Rattle.class_model.specs.Pool.{Constants}
use Rattle.class_model.specs.PoolChecks.{class_at}
use Rattle.class_model.specs.declared.class_file.ClassFile.{ClassFile}
use Rattle.class_model.specs.declared.fault.FileRule.TheVariants as rules
use Rattle.class_tree.specs.Headers.{IsClassFile, Name}
use Rattle.making_code.specs.Constants.{index_in, needs_class}
use Rattle.making_code.specs.Items.{WCatch, WItem}
use Rattle.plan_flow.specs.PlanScope.{pool_of}
use Rattle.plan_flow.specs.Written.FramedCode.{caught_name}
use Rattle.plan_flow.specs.Written.WrittenCode.{short, written_items}
use Rattle.plan_flow.specs.Written.WrittenConstants.{catch_index}
use Rattle.same_runs.specs.FlatBodies.{caught_class}
use Rattle.written_types.proofs.Given.{Given}
use Rattle.written_types.proofs.Standing.{all_at}
use Rattle.written_types.proofs.WrittenPool.{PoolLaws, caught_item, host_file, own_begins}
use Rattle.written_types.specs.Writing.{Writing}

-- ---- index 0 names no constant

same_behind : {Y : Type 0} (test : Bool) (d : Fault) (x y : Y) → cond test (Ok x) (Err d) ≡ Ok y → x ≡ y
same_behind true d x y e = cc
same_behind false d x y e = absurd cc

pool_begins : (major : ℕ) (rest : Rest) (cut : Constants × Rest) → pool_at major rest ≡ Ok cut → slice_get cut.0 0 ≡ Some None
pool_begins major rest cut is =
    let count = bind_ok (u2_at rest) _ cut is in
    let some = bind_ok (if count.0.0 == 0 then Err (fault rest.at rules.Tag) else Ok count.0.1) _ cut count.2 in
    let entries = bind_ok (entries_at count.0.0 major 1 count.0.0 some.0) _ cut some.2 in
    subst (λ (y : Constants × Rest). slice_get y.0 0 ≡ Some None) (same_done (None ∷ entries.0.0, entries.0.1) cut entries.2) refl

class_begins : (version : Version) (rest : Rest) (class : ClassFile) → class_file_at version rest ≡ Ok class → slice_get class.pool 0 ≡ Some None
class_begins version rest class e =
    let pool = bind_ok (pool_at version.major rest) _ class e in
    let flags = bind_ok (u2_at pool.0.1) _ class pool.2 in
    let this = bind_ok (u2_at flags.0.1) _ class flags.2 in
    let super = bind_ok (u2_at this.0.1) _ class this.2 in
    let interfaces = bind_ok (counted_at u2_at super.0.1) _ class super.2 in
    let fields = bind_ok (counted_at field_at interfaces.0.1) _ class interfaces.2 in
    let methods = bind_ok (counted_at method_at fields.0.1) _ class fields.2 in
    let attrs = bind_ok (counted_at attr_at methods.0.1) _ class methods.2 in
    subst (λ (c : ClassFile). slice_get c.pool 0 ≡ Some None) (same_behind (length attrs.0.1.bytes == 0) (fault attrs.0.1.at rules.Extra) (record {
      major = version.major;
      minor = version.minor;
      pool = pool.0.0;
      flags = flags.0.0;
      this_class = this.0.0;
      super_class = super.0.0;
      interfaces = interfaces.0.0;
      fields = fields.0.0;
      methods = methods.0.0;
      attrs = attrs.0.0;
    }) class attrs.2) (pool_begins version.major rest pool.0 pool.1)

read_begins : (file : ClassFile) → IsClassFile file → slice_get file.pool 0 ≡ Some None
read_begins file read = subst (λ (c : ClassFile). slice_get c.pool 0 ≡ Some None) (sym read.is) (class_begins read.version read.rest read.cut read.is_cut)

first_stays : (pool more : Constants) → slice_get pool 0 ≡ Some None → slice_get (pool ++ more) 0 ≡ Some None
first_stays [] more is = absurd (none-some None is)
first_stays (first ∷ pool) more is = is

-- ---- classes that are caught

-- each of a list, with those before it and behind it
pub all_split : {A : Type 0} (P : A → Type 0) (all front back : List A) → all ≡ front ++ back
    → ((before behind : List A) (item : A) → all ≡ before ++ (item ∷ behind) → P item)
    → AllByRecursion P back
all_split P all front [] is each = tt
all_split {A} P all front (item ∷ back) is each = (
  each front back item is,
  all_split P all (front ++ (item ∷ [])) back (is ∙ sym (append_assoc front (item ∷ []) back)) each,
)

module _ (w : Writing) (given : Given w) (laws : PoolLaws) where
  no_first : class_at w.pool 0 ≡ None
  no_first =
      let of = host_file w given laws in
      let begins = own_begins w given laws in
      let own : slice_get (pool_of w.s w.s.flat.host.class) 0 ≡ Some None =
      ap (λ (pool : Constants). slice_get pool 0) of.2
      ∙ read_begins of.0 (all_at IsClassFile w.s.classes.folder w.s.flat.host.class of.0 given.setting.tree.folder of.1) in
      let whole : slice_get w.pool 0 ≡ Some None =
      ap (λ (pool : Constants). slice_get pool 0) begins.is ∙ first_stays (pool_of w.s w.s.flat.host.class) begins.more own in
      rw whole refl

  -- the class that a handler of an item catches
  abbrev pub IsCaught : WCatch → Type 0
  IsCaught catch = caught_name w.pool (catch_index w.pool catch.class) ≡ caught_class catch.class

  class_caught : (catch : WCatch) → ((class : Name) → catch.class ≡ Some class → class_at w.pool (index_in w.pool (needs_class class)) ≡ Some class)
      → IsCaught catch
  class_caught catch named = by catch.class refl where
    not_zero : (class : Name) (b : Bool) → (index_in w.pool (needs_class class) == 0) ≡ b
        → class_at w.pool (index_in w.pool (needs_class class)) ≡ Some class
        → caught_name w.pool (index_in w.pool (needs_class class)) ≡ Some class
    not_zero class true zeroth there =
        absurd (none-some class (sym no_first ∙ ap (class_at w.pool) (sym (eqb-true (index_in w.pool (needs_class class)) 0 zeroth)) ∙ there))
    not_zero class false other there = rw other there

    by : (found : Option Name) → catch.class ≡ found → IsCaught catch
    by None is = rw is refl
    by (Some class) is = rw is (not_zero class (index_in w.pool (needs_class class) == 0) refl (named class is))

  pub caught_same : (left right : List WItem) (one : WItem) → written_items short w.blocks ≡ left ++ (one ∷ right) → AllByRecursion IsCaught one.catches
  caught_same left right one is =
      all_split IsCaught one.catches [] one.catches refl
      (λ before behind catch there.
      class_caught catch (λ class named. caught_item w given laws left right one before behind catch class is there named))

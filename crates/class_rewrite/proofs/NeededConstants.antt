-- What the constants of written code mean in a pool that has grown by them: those of each item, and of each class that an item's handlers catch.
use Rattle.std.proofs.Common.{◌≡◌, ◌≢◌, ◌==◌, ◌++◌, ℕ, Bool, true, false, List, [], ◌∷◌, flat_map, Option, Some, None, if◌then◌else◌, refl, sym, ap, subst, ◌∙◌}
use Rattle.std.specs.List.{AllByRecursion}
use Rattle.std.proofs.lemmas.Bool.Decides.{Decides-eqb}
use Rattle.std.proofs.lemmas.Option.{none-some, same_Some}
use Rattle.class_model.specs.Code.{OperandFits}
use Rattle.class_model.specs.Names.{init}
use Rattle.class_model.specs.Pool.{Constants}
use Rattle.class_model.specs.PoolChecks.{class_at}
use Rattle.class_model.specs.declared.instr.Instr.{Instr}
use Rattle.class_model.specs.declared.instr.Instr.TheVariants.{Nop, Const, Ldc, Ldc2, Load, Store, Iinc, ArrayLoad, ArrayStore, Shuffle, Pure, Divide, FloatAsk, If, If2, IfSame, IfNull, Goto, Table, Lookup, Return, GetStatic, PutStatic, GetField, PutField, Invoke, Dynamic, New, NewArray, NewRefArray, NewMulti, Length, Throw, Cast, InstanceOf, Enter, Leave}
use Rattle.making_code.specs.Laws.AddedConstants.{Compares, grow_split}
use Rattle.making_code.specs.Laws.MeantConstants.{Means, NamesMember, class_later, class_read, grown_class, grown_member, member_later, member_read, needed_means}
use Rattle.class_tree.specs.Headers.{Name}
use Rattle.making_code.specs.Constants.{Need, class_needs, constructor_needs, grow, index_in, needs_at, needs_class, needs_member, of_method}
use Rattle.making_code.specs.IndexedMaking.{index_of_last}
use Rattle.making_code.specs.Items.{WCatch, WInstr, WItem, carried, constructs, load, makes, plain, store}
use Rattle.making_code.specs.Laws.GrownPools.{Begins, begins_itself, begins_through, grow_begins}
use Rattle.making_code.specs.Opposites.{opposite_instr}
use Rattle.plan_flow.specs.PlanScope.{PlanScope, pool_of}
use Rattle.plan_flow.specs.Written.Finish.{Finished, finished_items}
use Rattle.plan_flow.specs.Written.WrittenCode.{Form, block_items, in_form, short, wide, widened, written_items}
use Rattle.plan_flow.specs.Written.WrittenConstants.{carried_needs, catch_index, catch_needs, code_needs, instr_needs, item_needs, named_index}
use Rattle.plan_flow.specs.Laws.WrittenBlocks.{holds_of_both}

-- ---- growth, item by item

-- at some time the pool grew by these, and then perhaps by more
pub record HasGrown (limit : ℕ) (needs : List Need) (grown : Constants) : Type 0 where
  pub before : Constants
  pub behind : Constants
  pub grows : grow limit before needs ≡ Some behind
  pub begins : Begins behind grown

pub grown_first : (limit : ℕ) (front back : List Need) (grown : Constants) → HasGrown limit (front ++ back) grown → HasGrown limit front grown
grown_first limit front back grown has =
    let parts = grow_split limit has.before front back has.behind has.grows in
    record {
      before = has.before;
      behind = parts.0;
      grows = parts.1;
      begins = begins_through parts.0 has.behind grown (grow_begins limit back parts.0 has.behind parts.2) has.begins;
    }

pub grown_rest : (limit : ℕ) (front back : List Need) (grown : Constants) → HasGrown limit (front ++ back) grown → HasGrown limit back grown
grown_rest limit front back grown has =
    let parts = grow_split limit has.before front back has.behind has.grows in
    record { before = parts.0; behind = has.behind; grows = parts.2; begins = has.begins }

pub each_grown : {A : Type 0} (needs : A → List Need) (items : List A) (limit : ℕ) (grown : Constants) → HasGrown limit (flat_map needs items) grown
    → AllByRecursion (λ one. HasGrown limit (needs one) grown) items
each_grown needs [] limit grown has = tt
each_grown needs (one ∷ items) limit grown has = (
  grown_first limit (needs one) (flat_map needs items) grown has,
  each_grown needs items limit grown (grown_rest limit (needs one) (flat_map needs items) grown has),
)

pub mapped : {A : Type 0} (P Q : A → Type 0) (items : List A) → ((one : A) → P one → Q one) → AllByRecursion P items → AllByRecursion Q items
mapped P Q [] f all = tt
mapped P Q (one ∷ items) f all = (f one all.0, mapped P Q items f all.1)

-- ---- the wide form

-- What holds of the items of the short form, and of those that an item is in the wide one, holds of the items of either form.
module _ (Q : WItem → Type 0) (over : (one : WItem) → Q one → AllByRecursion Q (widened one)) where
  form_all : (form : Form) (items : List WItem) → AllByRecursion Q items → AllByRecursion Q (in_form form items)
  form_all short items all = all
  form_all wide [] all = tt
  form_all wide (one ∷ items) all = holds_of_both Q (widened one) (flat_map widened items) (over one all.0) (form_all wide items all.1)

  split_first : (left right : List WItem) → AllByRecursion Q (left ++ right) → AllByRecursion Q left
  split_first [] right all = tt
  split_first (one ∷ left) right all = (all.0, split_first left right all.1)

  split_rest : (left right : List WItem) → AllByRecursion Q (left ++ right) → AllByRecursion Q right
  split_rest [] right all = all
  split_rest (one ∷ left) right all = split_rest left right all.1

  pub each_in_form : (form : Form) (blocks : List Finished) → AllByRecursion Q (written_items short blocks) → AllByRecursion Q (written_items form blocks)
  each_in_form form [] all = tt
  each_in_form form (one ∷ blocks) all =
      holds_of_both Q (block_items form one) (written_items form blocks)
      (form_all form (finished_items one) (split_first (finished_items one) (written_items short blocks) all))
      (each_in_form form blocks (split_rest (finished_items one) (written_items short blocks) all))

-- ---- what is meant

module _ (s : PlanScope) (constructor : Name → List ℕ) (pool : Constants) where
  -- an instruction's constants mean in the pool what they mean where it comes from
  abbrev pub InstrMeant : WInstr → Type 0
  InstrMeant (carried class instr) =
      class ≢ s.flat.host.class
      → (index : ℕ)
      → named_index instr ≡ Some index
      → Means (pool_of s class) index pool (index_of_last pool (needs_at (pool_of s class) index))
  InstrMeant (plain instr) = Unit {0}
  InstrMeant (load kind unit) = Unit {0}
  InstrMeant (store kind unit) = Unit {0}
  InstrMeant (makes class) = class_at pool (index_in pool (needs_class class)) ≡ Some class
  InstrMeant (constructs class) =
      NamesMember pool (index_of_last pool (constructor_needs class (constructor class))) of_method class init (constructor class)

  abbrev pub CatchMeant : Option Name → Type 0
  CatchMeant None = Unit {0}
  CatchMeant (Some class) = class_at pool (catch_index pool (Some class)) ≡ Some class

  pub record ItemMeant (one : WItem) : Type 0 where
    pub instr : InstrMeant one.instr
    pub catches : AllByRecursion (λ (catch : WCatch). CatchMeant catch.class) one.catches

  module _ (same : Compares) (limit : ℕ) (grown : Constants) (begins : Begins grown pool) where
    class_meant : (class : Name) → HasGrown limit (class_needs class) grown → class_at pool (index_in pool (needs_class class)) ≡ Some class
    class_meant class has =
        class_read same pool class
        (class_later has.behind pool class (begins_through has.behind grown pool has.begins begins) (grown_class same limit has.before has.behind class has.grows))

    instr_meant : (instr : WInstr) → HasGrown limit (instr_needs s constructor instr) grown → InstrMeant instr
    instr_meant (carried class instr) has = by (class == s.flat.host.class) refl where
      by : (own : Bool) → (class == s.flat.host.class) ≡ own → InstrMeant (carried class instr)
      by true own = λ other. absurd (other ((Decides-eqb class s.flat.host.class).0 own))
      by false own = λ other index is.
          needed_means same limit (pool_of s class) has.before has.behind pool index
          (sym (rw (own, is) refl) ∙ has.grows)
          (begins_through has.behind grown pool has.begins begins)
    instr_meant (plain instr) has = tt
    instr_meant (load kind unit) has = tt
    instr_meant (store kind unit) has = tt
    instr_meant (makes class) has = class_meant class has
    instr_meant (constructs class) has =
        member_read same pool of_method class init (constructor class)
        (member_later has.behind pool of_method class init (constructor class) (begins_through has.behind grown pool has.begins begins)
        (grown_member same limit has.before has.behind of_method class init (constructor class) has.grows))

    catch_meant : (class : Option Name) → HasGrown limit (catch_needs class) grown → CatchMeant class
    catch_meant None has = tt
    catch_meant (Some class) has = class_meant class has

    item_meant : (one : WItem) → HasGrown limit (item_needs s constructor one) grown → ItemMeant one
    item_meant one has = record {
      instr = instr_meant one.instr (grown_first limit (instr_needs s constructor one.instr) (flat_map (λ (catch : WCatch). catch_needs catch.class) one.catches) grown has);
      catches =
          mapped (λ (catch : WCatch). HasGrown limit (catch_needs catch.class) grown) (λ (catch : WCatch). CatchMeant catch.class) one.catches
          (λ catch h. catch_meant catch.class h)
          (each_grown (λ (catch : WCatch). catch_needs catch.class) one.catches limit grown
          (grown_rest limit (instr_needs s constructor one.instr) (flat_map (λ (catch : WCatch). catch_needs catch.class) one.catches) grown has));
    }

    items_meant : (old : Constants) (items : List WItem) → grow limit old (code_needs s constructor items) ≡ Some grown
        → AllByRecursion ItemMeant items
    items_meant old items grows =
        mapped (λ (one : WItem). HasGrown limit (item_needs s constructor one) grown) ItemMeant items item_meant
        (each_grown (item_needs s constructor) items limit grown (record { before = old; behind = grown; grows = grows; begins = begins_itself grown }))

    -- ---- the wide form, which needs no more

    opposite_meant : (class : ℕ) (instr other : Instr) → opposite_instr instr ≡ Some other → InstrMeant (carried class other)
    opposite_meant class (If opcode to) other is = λ foreign index named. absurd (none-some index (ap named_index (same_Some _ other is) ∙ named))
    opposite_meant class (If2 opcode to) other is = λ foreign index named. absurd (none-some index (ap named_index (same_Some _ other is) ∙ named))
    opposite_meant class (IfSame opcode to) other is = λ foreign index named. absurd (none-some index (ap named_index (same_Some _ other is) ∙ named))
    opposite_meant class (IfNull opcode to) other is = λ foreign index named. absurd (none-some index (ap named_index (same_Some _ other is) ∙ named))
    opposite_meant class Nop other is = absurd (none-some other is)
    opposite_meant class (Const imm) other is = absurd (none-some other is)
    opposite_meant class (Ldc index) other is = absurd (none-some other is)
    opposite_meant class (Ldc2 index) other is = absurd (none-some other is)
    opposite_meant class (Load kind local) other is = absurd (none-some other is)
    opposite_meant class (Store kind local) other is = absurd (none-some other is)
    opposite_meant class (Iinc local amount) other is = absurd (none-some other is)
    opposite_meant class (ArrayLoad opcode) other is = absurd (none-some other is)
    opposite_meant class (ArrayStore opcode) other is = absurd (none-some other is)
    opposite_meant class (Shuffle opcode) other is = absurd (none-some other is)
    opposite_meant class (Pure opcode) other is = absurd (none-some other is)
    opposite_meant class (Divide opcode) other is = absurd (none-some other is)
    opposite_meant class (FloatAsk opcode) other is = absurd (none-some other is)
    opposite_meant class (Goto to) other is = absurd (none-some other is)
    opposite_meant class (Table low default to) other is = absurd (none-some other is)
    opposite_meant class (Lookup default pairs) other is = absurd (none-some other is)
    opposite_meant class (Return kind) other is = absurd (none-some other is)
    opposite_meant class (GetStatic index) other is = absurd (none-some other is)
    opposite_meant class (PutStatic index) other is = absurd (none-some other is)
    opposite_meant class (GetField index) other is = absurd (none-some other is)
    opposite_meant class (PutField index) other is = absurd (none-some other is)
    opposite_meant class (Invoke opcode index count) other is = absurd (none-some other is)
    opposite_meant class (Dynamic index) other is = absurd (none-some other is)
    opposite_meant class (New index) other is = absurd (none-some other is)
    opposite_meant class (NewArray code) other is = absurd (none-some other is)
    opposite_meant class (NewRefArray index) other is = absurd (none-some other is)
    opposite_meant class (NewMulti index dimensions) other is = absurd (none-some other is)
    opposite_meant class Length other is = absurd (none-some other is)
    opposite_meant class Throw other is = absurd (none-some other is)
    opposite_meant class (Cast index) other is = absurd (none-some other is)
    opposite_meant class (InstanceOf index) other is = absurd (none-some other is)
    opposite_meant class Enter other is = absurd (none-some other is)
    opposite_meant class Leave other is = absurd (none-some other is)

    widened_meant : (one : WItem) → ItemMeant one → AllByRecursion ItemMeant (widened one)
    widened_meant one meant = by one.instr refl where
      alone : widened one ≡ one ∷ [] → AllByRecursion ItemMeant (widened one)
      alone is = subst (AllByRecursion ItemMeant) (sym is) (meant, tt)

      by : (instr : WInstr) → one.instr ≡ instr → AllByRecursion ItemMeant (widened one)
      by (carried class instr) is = over (opposite_instr instr) refl where
        over : (other : Option Instr) → opposite_instr instr ≡ other → AllByRecursion ItemMeant (widened one)
        over None none = alone (rw (is, none) refl)
        over (Some other) some =
            rw (is, some) (record { instr = opposite_meant class instr other some; catches = tt }, (record { instr = tt; catches = tt }, tt))
      by (plain instr) is = alone (rw (is) refl)
      by (load kind unit) is = alone (rw (is) refl)
      by (store kind unit) is = alone (rw (is) refl)
      by (makes class) is = alone (rw (is) refl)
      by (constructs class) is = alone (rw (is) refl)

    -- In a pool that begins with the one that has grown by what the short form needs, the constants of either form mean what they are to mean.
    pub written_meant : (old : Constants) (form : Form) (blocks : List Finished)
        → grow limit old (code_needs s constructor (written_items short blocks)) ≡ Some grown
        → AllByRecursion ItemMeant (written_items form blocks)
    written_meant old form blocks grows = each_in_form ItemMeant widened_meant form blocks (items_meant old (written_items short blocks) grows)

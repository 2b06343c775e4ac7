-- Written items by the indices of their constants make the objects and enter the monitors that they mean.
use Rattle.std.proofs.Common.{if◌then◌else◌, ◌≡◌, ◌==◌, ◌++◌, ℕ, zero, suc, Bool, true, false, List, [], ◌∷◌, map, slice_get, flat_map, Option, Some, None, IsSome, refl, sym, ap, subst, ◌∙◌}
use Rattle.std.specs.List.{AllByRecursion}
use Rattle.std.proofs.lemmas.Bool.{eqb-true}
use Rattle.std.proofs.lemmas.Option.{none-some, same_Some}
use Rattle.class_model.specs.Pool.{Constants}
use Rattle.class_model.specs.PoolChecks.{class_at}
use Rattle.class_model.specs.declared.instr.Instr.{Instr}
use Rattle.class_model.specs.declared.instr.Instr.TheVariants.{Nop, Const, Ldc, Ldc2, Load, Store, Iinc, ArrayLoad, ArrayStore, Shuffle, Pure, Divide, FloatAsk, If, If2, IfSame, IfNull, Goto, Table, Lookup, Return, GetStatic, PutStatic, GetField, PutField, Invoke, Dynamic, New, NewArray, NewRefArray, NewMulti, Length, Throw, Cast, InstanceOf, Enter, Leave}
use Rattle.class_tree.specs.Headers.{Name}
use Rattle.code_drafts.specs.ItemPlaces.{NameNews, NamesNew, item_places, new_of, places_in}
use Rattle.code_drafts.specs.Laws.CarriedItems.{IsOfFlat, IsOfPoint, written_of_flat}
use Rattle.making_code.specs.Laws.AddedConstants.{ClassNamed, Compares, IsNamed, class_named, class_stays, grow_split, grown_names}
use Rattle.code_drafts.specs.Laws.PlacedBlocks.{written_places}
use Rattle.code_drafts.specs.Laws.ReachedStarts.{finished}
use Rattle.code_drafts.specs.Laws.WrittenPlaces.{carried_places, named_by, winstr_places, witem_places}
use Rattle.flow_code.specs.declared.point.Point.{Point}
use Rattle.making_code.specs.Constants.{Need, class_needs, grow, index_in, needs_at, needs_class, needs_of_constant}
use Rattle.making_code.specs.IndexedMaking.{index_of_last}
use Rattle.making_code.specs.Items.{WCatch, WInstr, WItem, carried, constructs, load, makes, plain, store}
use Rattle.making_code.specs.Laws.GrownPools.{Begins, begins_through, grow_begins}
use Rattle.member_link.specs.Machine.Replaced.{map_numbered}
use Rattle.plan_flow.specs.PlanScope.{PlanScope, pool_of}
use Rattle.plan_flow.specs.Plans.{Plan}
use Rattle.plan_flow.specs.Written.Finish.{Finished}
use Rattle.plan_flow.specs.Written.Places.{Place, makes_object, places_of}
use Rattle.plan_flow.specs.Written.Routes.{IsRouted, Routes}
use Rattle.plan_flow.specs.Written.WrittenCode.{Form, jumping_to, short, target_number, written_items}
use Rattle.plan_flow.specs.Written.WrittenConstants.{carried_instr, carried_needs, catch_needs, code_needs, indexed_instr, indexed_item, indexed_items, instr_needs, item_needs, with_index}

-- ---- targets do not matter

jumping_places : (pool : Constants) (numbers : List ℕ) (instr : Instr) → places_in pool (jumping_to numbers instr) ≡ places_in pool instr
jumping_places pool [] instr = refl
jumping_places pool (number ∷ numbers) Nop = refl
jumping_places pool (number ∷ numbers) (Const imm) = refl
jumping_places pool (number ∷ numbers) (Ldc index) = refl
jumping_places pool (number ∷ numbers) (Ldc2 index) = refl
jumping_places pool (number ∷ numbers) (Load kind local) = refl
jumping_places pool (number ∷ numbers) (Store kind local) = refl
jumping_places pool (number ∷ numbers) (Iinc local by) = refl
jumping_places pool (number ∷ numbers) (ArrayLoad opcode) = refl
jumping_places pool (number ∷ numbers) (ArrayStore opcode) = refl
jumping_places pool (number ∷ numbers) (Shuffle opcode) = refl
jumping_places pool (number ∷ numbers) (Pure opcode) = refl
jumping_places pool (number ∷ numbers) (Divide opcode) = refl
jumping_places pool (number ∷ numbers) (FloatAsk opcode) = refl
jumping_places pool (number ∷ numbers) (If opcode to) = refl
jumping_places pool (number ∷ numbers) (If2 opcode to) = refl
jumping_places pool (number ∷ numbers) (IfSame opcode to) = refl
jumping_places pool (number ∷ numbers) (IfNull opcode to) = refl
jumping_places pool (number ∷ numbers) (Goto to) = refl
jumping_places pool (number ∷ numbers) (Table low other to) = refl
jumping_places pool (number ∷ numbers) (Lookup other pairs) = refl
jumping_places pool (number ∷ numbers) (Return kind) = refl
jumping_places pool (number ∷ numbers) (GetStatic index) = refl
jumping_places pool (number ∷ numbers) (PutStatic index) = refl
jumping_places pool (number ∷ numbers) (GetField index) = refl
jumping_places pool (number ∷ numbers) (PutField index) = refl
jumping_places pool (number ∷ numbers) (Invoke opcode index count) = refl
jumping_places pool (number ∷ numbers) (Dynamic index) = refl
jumping_places pool (number ∷ numbers) (New index) = refl
jumping_places pool (number ∷ numbers) (NewArray code) = refl
jumping_places pool (number ∷ numbers) (NewRefArray index) = refl
jumping_places pool (number ∷ numbers) (NewMulti index dimensions) = refl
jumping_places pool (number ∷ numbers) Length = refl
jumping_places pool (number ∷ numbers) Throw = refl
jumping_places pool (number ∷ numbers) (Cast index) = refl
jumping_places pool (number ∷ numbers) (InstanceOf index) = refl
jumping_places pool (number ∷ numbers) Enter = refl
jumping_places pool (number ∷ numbers) Leave = refl

-- ---- classes that are named

some_of : (found : Option Name) → IsSome found → (name : Name) × (found ≡ Some name)
some_of None some = absurd cc
some_of (Some name) some = (name, refl)

-- a constant of a class needs the class and its name
needs_there : (s : PlanScope) (class index : ℕ) (name : Name) → class_at (pool_of s class) index ≡ Some name
    → needs_at (pool_of s class) index ≡ class_needs name
needs_there s class index name is =
    let named : ClassNamed (pool_of s class) index name = class_named (pool_of s class) index name is in
    ap (needs_of_constant (pool_of s class)) named.is_class ∙ rw (named.is_text) refl

last_is : (pool : Constants) (name : Name) (needs : List Need)
    → needs ≡ class_needs name
    → index_of_last pool needs ≡ index_in pool (needs_class name)
last_is pool name needs is = ap (index_of_last pool) is

-- ---- an instruction

-- the class that it names is named by its index
abbrev IsNamedIn : PlanScope → Constants → WInstr → Type 0
IsNamedIn s pool (makes class) = IsNamed pool class
IsNamedIn s pool (carried class (New index)) =
    (name : Name)
    → class_at (pool_of s class) index ≡ Some name
    → (class == s.flat.host.class) ≡ false
    → IsNamed pool name
IsNamedIn s pool instr = Unit {0}

module _ (s : PlanScope) (constructor : Name → List ℕ) (pool : Constants) (host : Begins (pool_of s s.flat.host.class) pool) (news : NameNews s) where
  named_at : (points : List Point) (number : ℕ) (point : Point) → AllByRecursion (λ (one : Point). NamesNew s one.instr) points
      → slice_get points number ≡ Some point
      → NamesNew s point.instr
  named_at [] number point all got = absurd (none-some point got)
  named_at (first ∷ points) zero point all got = subst (λ (one : Point). NamesNew s one.instr) (same_Some first point got) all.0
  named_at (first ∷ points) (suc number) point all got = named_at points number point all.1 got

  new_places_same : (class index : ℕ) → IsOfPoint s class (New index) → IsNamedIn s pool (carried class (New index))
      → places_in pool (carried_instr s pool class (New index)) ≡ carried_places (named_by s) class (New index)
  new_places_same class index of_point in_pool = by (class == s.flat.host.class) refl where
    some : (name : Name) × (class_at (pool_of s class) index ≡ Some name)
    some =
        some_of (class_at (pool_of s class) index)
        (subst (NamesNew s) of_point.is (named_at s.flat.points of_point.number of_point.point news of_point.is_point))

    meant : carried_places (named_by s) class (New index) ≡ makes_object some.0 ∷ []
    meant = ap new_of some.1

    by : (own : Bool) → (class == s.flat.host.class) ≡ own
        → places_in pool (carried_instr s pool class (New index)) ≡ carried_places (named_by s) class (New index)
    by true own = rw (own) (ap new_of same ∙ sym meant) where
      here : class_at (pool_of s s.flat.host.class) index ≡ Some some.0
      here = ap (λ (n : ℕ). class_at (pool_of s n) index) (sym (eqb-true class s.flat.host.class own)) ∙ some.1

      same : class_at pool index ≡ Some some.0
      same = ap (λ (all : Constants). class_at all index) host.is ∙ class_stays (pool_of s s.flat.host.class) host.more index some.0 here
    by false own = ap (places_in pool) written ∙ ap new_of named ∙ sym meant where
      needs : carried_needs s class (New index) ≡ class_needs some.0
      needs = rw (own) (needs_there s class index some.0 some.1)

      written : carried_instr s pool class (New index) ≡ New (index_of_last pool (carried_needs s class (New index)))
      written = ap (λ (b : Bool). if b then New index else with_index (index_of_last pool (carried_needs s class (New index))) (New index)) own

      named : class_at pool (index_of_last pool (carried_needs s class (New index))) ≡ Some some.0
      named = ap (class_at pool) (last_is pool some.0 (carried_needs s class (New index)) needs) ∙ in_pool some.0 some.1 own

  other_places_same : (class : ℕ) (instr : Instr) → ((new : ℕ) → places_in pool (with_index new instr) ≡ carried_places (named_by s) class instr)
      → places_in pool instr ≡ carried_places (named_by s) class instr
      → places_in pool (carried_instr s pool class instr) ≡ carried_places (named_by s) class instr
  other_places_same class instr with_new own = by (class == s.flat.host.class) refl where
    by : (same : Bool)
        → (class == s.flat.host.class) ≡ same
        → places_in pool (carried_instr s pool class instr) ≡ carried_places (named_by s) class instr
    by true is = ap (λ (b : Bool). places_in pool (if b then instr else with_index (index_of_last pool (carried_needs s class instr)) instr)) is ∙ own
    by false is =
        ap (λ (b : Bool). places_in pool (if b then instr else with_index (index_of_last pool (carried_needs s class instr)) instr)) is
        ∙ with_new (index_of_last pool (carried_needs s class instr))

  carried_same : (class : ℕ) (instr : Instr) → IsOfPoint s class instr → IsNamedIn s pool (carried class instr)
      → places_in pool (carried_instr s pool class instr) ≡ carried_places (named_by s) class instr
  carried_same class Nop of_point in_pool = other_places_same class Nop (λ new. refl) refl
  carried_same class (Const imm) of_point in_pool = other_places_same class (Const imm) (λ new. refl) refl
  carried_same class (Ldc index) of_point in_pool = other_places_same class (Ldc index) (λ new. refl) refl
  carried_same class (Ldc2 index) of_point in_pool = other_places_same class (Ldc2 index) (λ new. refl) refl
  carried_same class (Load kind local) of_point in_pool = other_places_same class (Load kind local) (λ new. refl) refl
  carried_same class (Store kind local) of_point in_pool = other_places_same class (Store kind local) (λ new. refl) refl
  carried_same class (Iinc local by) of_point in_pool = other_places_same class (Iinc local by) (λ new. refl) refl
  carried_same class (ArrayLoad opcode) of_point in_pool = other_places_same class (ArrayLoad opcode) (λ new. refl) refl
  carried_same class (ArrayStore opcode) of_point in_pool = other_places_same class (ArrayStore opcode) (λ new. refl) refl
  carried_same class (Shuffle opcode) of_point in_pool = other_places_same class (Shuffle opcode) (λ new. refl) refl
  carried_same class (Pure opcode) of_point in_pool = other_places_same class (Pure opcode) (λ new. refl) refl
  carried_same class (Divide opcode) of_point in_pool = other_places_same class (Divide opcode) (λ new. refl) refl
  carried_same class (FloatAsk opcode) of_point in_pool = other_places_same class (FloatAsk opcode) (λ new. refl) refl
  carried_same class (If opcode to) of_point in_pool = other_places_same class (If opcode to) (λ new. refl) refl
  carried_same class (If2 opcode to) of_point in_pool = other_places_same class (If2 opcode to) (λ new. refl) refl
  carried_same class (IfSame opcode to) of_point in_pool = other_places_same class (IfSame opcode to) (λ new. refl) refl
  carried_same class (IfNull opcode to) of_point in_pool = other_places_same class (IfNull opcode to) (λ new. refl) refl
  carried_same class (Goto to) of_point in_pool = other_places_same class (Goto to) (λ new. refl) refl
  carried_same class (Table low other to) of_point in_pool = other_places_same class (Table low other to) (λ new. refl) refl
  carried_same class (Lookup other pairs) of_point in_pool = other_places_same class (Lookup other pairs) (λ new. refl) refl
  carried_same class (Return kind) of_point in_pool = other_places_same class (Return kind) (λ new. refl) refl
  carried_same class (GetStatic index) of_point in_pool = other_places_same class (GetStatic index) (λ new. refl) refl
  carried_same class (PutStatic index) of_point in_pool = other_places_same class (PutStatic index) (λ new. refl) refl
  carried_same class (GetField index) of_point in_pool = other_places_same class (GetField index) (λ new. refl) refl
  carried_same class (PutField index) of_point in_pool = other_places_same class (PutField index) (λ new. refl) refl
  carried_same class (Invoke opcode index count) of_point in_pool = other_places_same class (Invoke opcode index count) (λ new. refl) refl
  carried_same class (Dynamic index) of_point in_pool = other_places_same class (Dynamic index) (λ new. refl) refl
  carried_same class (New index) of_point in_pool = new_places_same class index of_point in_pool
  carried_same class (NewArray code) of_point in_pool = other_places_same class (NewArray code) (λ new. refl) refl
  carried_same class (NewRefArray index) of_point in_pool = other_places_same class (NewRefArray index) (λ new. refl) refl
  carried_same class (NewMulti index dimensions) of_point in_pool = other_places_same class (NewMulti index dimensions) (λ new. refl) refl
  carried_same class Length of_point in_pool = other_places_same class Length (λ new. refl) refl
  carried_same class Throw of_point in_pool = other_places_same class Throw (λ new. refl) refl
  carried_same class (Cast index) of_point in_pool = other_places_same class (Cast index) (λ new. refl) refl
  carried_same class (InstanceOf index) of_point in_pool = other_places_same class (InstanceOf index) (λ new. refl) refl
  carried_same class Enter of_point in_pool = other_places_same class Enter (λ new. refl) refl
  carried_same class Leave of_point in_pool = other_places_same class Leave (λ new. refl) refl

  instr_same : (instr : WInstr) → IsOfFlat s instr → IsNamedIn s pool instr
      → places_in pool (indexed_instr s constructor pool instr) ≡ winstr_places (named_by s) instr
  instr_same (carried class instr) of_flat in_pool = carried_same class instr of_flat in_pool
  instr_same (plain instr) of_flat in_pool = of_flat pool
  instr_same (load kind unit) of_flat in_pool = refl
  instr_same (store kind unit) of_flat in_pool = refl
  instr_same (makes class) of_flat in_pool = ap new_of in_pool
  instr_same (constructs class) of_flat in_pool = refl

  -- ---- the items

  items_same : (form : Form) (blocks : List Finished) (number : ℕ) (items : List WItem)
      → AllByRecursion (λ (one : WItem). IsOfFlat s one.instr) items
      → AllByRecursion (λ (one : WItem). IsNamedIn s pool one.instr) items
      → item_places pool (map_numbered (indexed_item s constructor pool form blocks) number items) ≡ witem_places (named_by s) items
  items_same form blocks number [] of_flat in_pool = refl
  items_same form blocks number (one ∷ items) of_flat in_pool =
      ap (λ (first : List Place). first ++ item_places pool (map_numbered (indexed_item s constructor pool form blocks) (suc number) items))
      (jumping_places pool (map (target_number form blocks number) one.targets) (indexed_instr s constructor pool one.instr)
      ∙ instr_same one.instr of_flat.0 in_pool.0)
      ∙ ap (λ (rest : List Place). winstr_places (named_by s) one.instr ++ rest) (items_same form blocks (suc number) items of_flat.1 in_pool.1)

-- ---- the pool has grown by what they need

named_carried : (s : PlanScope) (limit : ℕ) (old middle pool : Constants) → Compares
    → (class : ℕ) (instr : Instr)
    → grow limit old (carried_needs s class instr) ≡ Some middle
    → Begins middle pool
    → IsNamedIn s pool (carried class instr)
named_carried s limit old middle pool same class Nop is begins = tt
named_carried s limit old middle pool same class (Const imm) is begins = tt
named_carried s limit old middle pool same class (Ldc index) is begins = tt
named_carried s limit old middle pool same class (Ldc2 index) is begins = tt
named_carried s limit old middle pool same class (Load kind local) is begins = tt
named_carried s limit old middle pool same class (Store kind local) is begins = tt
named_carried s limit old middle pool same class (Iinc local by) is begins = tt
named_carried s limit old middle pool same class (ArrayLoad opcode) is begins = tt
named_carried s limit old middle pool same class (ArrayStore opcode) is begins = tt
named_carried s limit old middle pool same class (Shuffle opcode) is begins = tt
named_carried s limit old middle pool same class (Pure opcode) is begins = tt
named_carried s limit old middle pool same class (Divide opcode) is begins = tt
named_carried s limit old middle pool same class (FloatAsk opcode) is begins = tt
named_carried s limit old middle pool same class (If opcode to) is begins = tt
named_carried s limit old middle pool same class (If2 opcode to) is begins = tt
named_carried s limit old middle pool same class (IfSame opcode to) is begins = tt
named_carried s limit old middle pool same class (IfNull opcode to) is begins = tt
named_carried s limit old middle pool same class (Goto to) is begins = tt
named_carried s limit old middle pool same class (Table low other to) is begins = tt
named_carried s limit old middle pool same class (Lookup other pairs) is begins = tt
named_carried s limit old middle pool same class (Return kind) is begins = tt
named_carried s limit old middle pool same class (GetStatic index) is begins = tt
named_carried s limit old middle pool same class (PutStatic index) is begins = tt
named_carried s limit old middle pool same class (GetField index) is begins = tt
named_carried s limit old middle pool same class (PutField index) is begins = tt
named_carried s limit old middle pool same class (Invoke opcode index count) is begins = tt
named_carried s limit old middle pool same class (Dynamic index) is begins = tt
named_carried s limit old middle pool same class (New index) is begins = λ name named apart.
    let needs : carried_needs s class (New index) ≡ class_needs name = rw (apart) (needs_there s class index name named) in
    grown_names same limit old middle pool name (sym (ap (grow limit old) needs) ∙ is) begins
named_carried s limit old middle pool same class (NewArray code) is begins = tt
named_carried s limit old middle pool same class (NewRefArray index) is begins = tt
named_carried s limit old middle pool same class (NewMulti index dimensions) is begins = tt
named_carried s limit old middle pool same class Length is begins = tt
named_carried s limit old middle pool same class Throw is begins = tt
named_carried s limit old middle pool same class (Cast index) is begins = tt
named_carried s limit old middle pool same class (InstanceOf index) is begins = tt
named_carried s limit old middle pool same class Enter is begins = tt
named_carried s limit old middle pool same class Leave is begins = tt

named_instr : (s : PlanScope) (constructor : Name → List ℕ) (limit : ℕ) (old middle pool : Constants) → Compares
    → (instr : WInstr)
    → grow limit old (instr_needs s constructor instr) ≡ Some middle
    → Begins middle pool
    → IsNamedIn s pool instr
named_instr s constructor limit old middle pool same (carried class instr) is begins =
    named_carried s limit old middle pool same class instr is begins
named_instr s constructor limit old middle pool same (makes class) is begins = grown_names same limit old middle pool class is begins
named_instr s constructor limit old middle pool same (plain instr) is begins = tt
named_instr s constructor limit old middle pool same (load kind unit) is begins = tt
named_instr s constructor limit old middle pool same (store kind unit) is begins = tt
named_instr s constructor limit old middle pool same (constructs class) is begins = tt

all_named : (s : PlanScope) (constructor : Name → List ℕ) (limit : ℕ) (old new pool : Constants) → Compares
    → (items : List WItem)
    → grow limit old (code_needs s constructor items) ≡ Some new
    → Begins new pool
    → AllByRecursion (λ (one : WItem). IsNamedIn s pool one.instr) items
all_named s constructor limit old new pool same [] is begins = tt
all_named s constructor limit old new pool same (one ∷ items) is begins =
    let parts = grow_split limit old (item_needs s constructor one) (code_needs s constructor items) new is in
    let both = grow_split limit old (instr_needs s constructor one.instr)
    (flat_map (λ (catch : WCatch). catch_needs catch.class) one.catches) parts.0 parts.1 in
    let rest = grow_begins limit (code_needs s constructor items) parts.0 new parts.2 in
    let caught = grow_begins limit (flat_map (λ (catch : WCatch). catch_needs catch.class) one.catches) both.0 parts.0 both.2 in (
      named_instr s constructor limit old both.0 pool same one.instr both.1
          (begins_through both.0 parts.0 pool caught (begins_through parts.0 new pool rest begins)),
      all_named s constructor limit parts.0 new pool same items parts.2 begins,
    )

-- The items of a plan's code, in a pool that has grown by what they need, make the objects and enter the monitors of the plan's routes.
pub indexed_places : Compares → (s : PlanScope) (constructor : Name → List ℕ) (plan : Plan) (routes : Routes) (limit : ℕ) (old new pool : Constants)
    → NameNews s
    → IsRouted s plan routes
    → Begins (pool_of s s.flat.host.class) old
    → grow limit old (code_needs s constructor (written_items short (finished s routes))) ≡ Some new
    → Begins new pool
    → item_places pool (indexed_items s constructor pool short (finished s routes)) ≡ places_of s routes
indexed_places same s constructor plan routes limit old new pool news routed host is begins =
    items_same s constructor pool
    (begins_through (pool_of s s.flat.host.class) old pool host
    (begins_through old new pool (grow_begins limit (code_needs s constructor (written_items short (finished s routes))) old new is) begins)) news
    short
    (finished s routes) 0 (written_items short (finished s routes)) (written_of_flat s routes)
    (all_named s constructor limit old new pool same (written_items short (finished s routes)) is begins)
    ∙ written_places s plan routes routed

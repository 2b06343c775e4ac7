-- The names of types that written items bring, and so of the frames that they have, are texts that a Class constant may have.
use Rattle.std.proofs.Common.{◌≡◌, ◌≢◌, ◌⊎◌, inl, inr, map, ◌==◌, ℕ, zero, suc, Bool, true, false, List, [], ◌∷◌, slice_get, Some, None, refl, sym, ap, subst, ◌∙◌}
use Rattle.std.specs.List.{AllByRecursion}
use Rattle.std.proofs.lemmas.Bool.{false≢true}
use Rattle.std.proofs.lemmas.Bool.Decides.{Decides-eqb}
use Rattle.std.proofs.lemmas.Option.{none-some, same_Some}
use Rattle.class_model.specs.declared.class_file.ClassFile.{ClassFile}
use Rattle.class_model.specs.Code.{IsCalled, OperandFits}
use Rattle.class_model.specs.Names.{init}
use Rattle.class_model.specs.Pool.{Constants, constant_at}
use Rattle.class_model.specs.PoolChecks.{IsInterfaceConstant, IsMethodConstant, class_at, descriptor_at}
use Rattle.class_model.specs.declared.frame.Frame.{Frame}
use Rattle.class_model.specs.declared.frame.VType.{VType}
use Rattle.class_model.specs.declared.frame.VType.TheVariants as types
use Rattle.class_model.specs.declared.instr.Instr.{Instr}
use Rattle.class_model.specs.declared.instr.Instr.TheVariants.{Nop, Const, Ldc, Ldc2, Load, Store, Iinc, ArrayLoad, ArrayStore, Shuffle, Pure, Divide, FloatAsk, If, If2, IfSame, IfNull, Goto, Table, Lookup, Return, GetStatic, PutStatic, GetField, PutField, Invoke, Dynamic, New, NewArray, NewRefArray, NewMulti, Length, Throw, Cast, InstanceOf, Enter, Leave}
use Rattle.class_model.specs.declared.pool.Const.TheVariants as consts
use Rattle.class_rewrite.proofs.MeantOps.{class_meant, field_meant, method_meant, referred}
use Rattle.class_rewrite.proofs.NeededConstants.{InstrMeant, ItemMeant, written_meant}
use Rattle.class_rewrite.proofs.StayingIndices.{opposite_names_none}
use Rattle.class_rewrite.proofs.WrittenInstrs.{HoldsOfWritten, each_written}
use Rattle.class_tree.specs.Headers.{Headers, Name, headers_of}
use Rattle.expanded_runs.specs.CarriedConstants.{IsCarriable}
use Rattle.expanded_runs.specs.Laws.SpelledNames.{constants_spelled}
use Rattle.expanded_runs.specs.NamedFrames.{FindsNames, HasFramedNames, IsFramedName, IsSpelledName, PoolHas, TypeHas, TypesHave}
use Rattle.flow_code.specs.FlatCode.{point_at}
use Rattle.flow_code.specs.declared.point.FlatInstr.TheVariants.{Of}
use Rattle.flow_code.specs.declared.point.Point.{Point}
use Rattle.flow_code.specs.declared.point.Site.{Site}
use Rattle.making_code.specs.Constants.{needs_at, of_method}
use Rattle.making_code.specs.Laws.MeantConstants.{Means}
use Rattle.making_code.specs.IndexedItems.{IndexedItem}
use Rattle.making_code.specs.Items.{WInstr, WItem, carried, constructs}
use Rattle.making_code.specs.Laws.AddedConstants.{Compares}
use Rattle.making_code.specs.Laws.GrownPools.{Begins, begins_through, grow_begins}
use Rattle.making_code.specs.Opposites.{opposite_instr}
use Rattle.member_link.specs.References.{Reference}
use Rattle.member_link.specs.RowScope.{RowScope}
use Rattle.member_link.specs.Laws.Scopes.{scope_is_at}
use Rattle.member_link.specs.Rows.ArrayRows.{array_of}
use Rattle.member_link.specs.Rows.MemberRows.{dynamic_row, result_types}
use Rattle.member_link.specs.Signatures.{field_type, reference_of, result_of}
use Rattle.plan_flow.specs.PlanScope.{pool_of}
use Rattle.plan_flow.specs.Written.Finish.{Finished}
use Rattle.plan_flow.specs.Written.WrittenCode.{jumping_to, target_number, written_items}
use Rattle.plan_flow.specs.Written.WrittenConstants.{carried_instr, indexed_instr, indexed_item, named_index, needs_of_index, with_index}
use Rattle.row_frames.specs.Laws.MorePools.{class_more, constant_more, descriptor_more, reference_more}
use Rattle.same_runs.specs.Flats.{pool_of as flat_pool}
use Rattle.same_runs.specs.ReadyCode.{IsReadyInstr, IsReadyItem}
use Rattle.class_model.specs.Laws.Lists.{at_index}
use Rattle.making_code.specs.IndexedMaking.{index_of_last}
use Rattle.written_types.specs.Setting.{Setting}
use Rattle.member_link.specs.Machine.Replaced.{map_numbered}
use Rattle.written_types.specs.Writing.{Writing, items_in, scope_in}

module _ (headers : Headers) where
  abbrev Framed : Name → Type 0
  Framed name = IsFramedName headers name

  type_spelled : (type : VType) → TypeHas Framed type → TypeHas IsSpelledName type
  type_spelled (types.Object name) framed = framed.spelled
  type_spelled types.Top framed = tt
  type_spelled types.Int framed = tt
  type_spelled types.Float framed = tt
  type_spelled types.Long framed = tt
  type_spelled types.Double framed = tt
  type_spelled types.Null framed = tt
  type_spelled types.UninitThis framed = tt
  type_spelled (types.Uninit at) framed = tt

  pub types_spelled : (all : List VType) → TypesHave Framed all → TypesHave IsSpelledName all
  types_spelled [] framed = tt
  types_spelled (type ∷ all) framed = (type_spelled type framed.0, types_spelled all framed.1)

-- ---- with other targets

pub jumping_has : (s : RowScope) (numbers : List ℕ) (instr : Instr) → PoolHas IsSpelledName s instr → PoolHas IsSpelledName s (jumping_to numbers instr)
jumping_has s [] instr has = has
jumping_has s (number ∷ numbers) Nop has = tt
jumping_has s (number ∷ numbers) (Const imm) has = tt
jumping_has s (number ∷ numbers) (Ldc index) has = has
jumping_has s (number ∷ numbers) (Ldc2 index) has = has
jumping_has s (number ∷ numbers) (Load kind local) has = tt
jumping_has s (number ∷ numbers) (Store kind local) has = tt
jumping_has s (number ∷ numbers) (Iinc local amount) has = tt
jumping_has s (number ∷ numbers) (ArrayLoad opcode) has = tt
jumping_has s (number ∷ numbers) (ArrayStore opcode) has = tt
jumping_has s (number ∷ numbers) (Shuffle opcode) has = tt
jumping_has s (number ∷ numbers) (Pure opcode) has = tt
jumping_has s (number ∷ numbers) (Divide opcode) has = tt
jumping_has s (number ∷ numbers) (FloatAsk opcode) has = tt
jumping_has s (number ∷ numbers) (If opcode to) has = tt
jumping_has s (number ∷ numbers) (If2 opcode to) has = tt
jumping_has s (number ∷ numbers) (IfSame opcode to) has = tt
jumping_has s (number ∷ numbers) (IfNull opcode to) has = tt
jumping_has s (number ∷ numbers) (Goto to) has = tt
jumping_has s (number ∷ numbers) (Table low default to) has = tt
jumping_has s (number ∷ numbers) (Lookup default pairs) has = tt
jumping_has s (number ∷ numbers) (Return kind) has = tt
jumping_has s (number ∷ numbers) (GetStatic index) has = has
jumping_has s (number ∷ numbers) (PutStatic index) has = tt
jumping_has s (number ∷ numbers) (GetField index) has = has
jumping_has s (number ∷ numbers) (PutField index) has = tt
jumping_has s (number ∷ numbers) (Invoke opcode index count) has = has
jumping_has s (number ∷ numbers) (Dynamic index) has = has
jumping_has s (number ∷ numbers) (New index) has = tt
jumping_has s (number ∷ numbers) (NewArray code) has = tt
jumping_has s (number ∷ numbers) (NewRefArray index) has = has
jumping_has s (number ∷ numbers) (NewMulti index dimensions) has = has
jumping_has s (number ∷ numbers) Length has = tt
jumping_has s (number ∷ numbers) Throw has = tt
jumping_has s (number ∷ numbers) (Cast index) has = has
jumping_has s (number ∷ numbers) (InstanceOf index) has = tt
jumping_has s (number ∷ numbers) Enter has = tt
jumping_has s (number ∷ numbers) Leave has = tt

-- what names no constant brings no name
none_has : (s : RowScope) (n : ℕ) (instr : Instr) → named_index instr ≡ None → PoolHas IsSpelledName s instr × PoolHas IsSpelledName s (with_index n instr)
none_has s n Nop none = (tt, tt)
none_has s n (Const imm) none = (tt, tt)
none_has s n (Ldc index) none = absurd (none-some index (sym none))
none_has s n (Ldc2 index) none = absurd (none-some index (sym none))
none_has s n (Load kind local) none = (tt, tt)
none_has s n (Store kind local) none = (tt, tt)
none_has s n (Iinc local amount) none = (tt, tt)
none_has s n (ArrayLoad opcode) none = (tt, tt)
none_has s n (ArrayStore opcode) none = (tt, tt)
none_has s n (Shuffle opcode) none = (tt, tt)
none_has s n (Pure opcode) none = (tt, tt)
none_has s n (Divide opcode) none = (tt, tt)
none_has s n (FloatAsk opcode) none = (tt, tt)
none_has s n (If opcode to) none = (tt, tt)
none_has s n (If2 opcode to) none = (tt, tt)
none_has s n (IfSame opcode to) none = (tt, tt)
none_has s n (IfNull opcode to) none = (tt, tt)
none_has s n (Goto to) none = (tt, tt)
none_has s n (Table low default to) none = (tt, tt)
none_has s n (Lookup default pairs) none = (tt, tt)
none_has s n (Return kind) none = (tt, tt)
none_has s n (GetStatic index) none = absurd (none-some index (sym none))
none_has s n (PutStatic index) none = (tt, tt)
none_has s n (GetField index) none = absurd (none-some index (sym none))
none_has s n (PutField index) none = (tt, tt)
none_has s n (Invoke opcode index count) none = absurd (none-some index (sym none))
none_has s n (Dynamic index) none = absurd (none-some index (sym none))
none_has s n (New index) none = (tt, tt)
none_has s n (NewArray code) none = (tt, tt)
none_has s n (NewRefArray index) none = absurd (none-some index (sym none))
none_has s n (NewMulti index dimensions) none = absurd (none-some index (sym none))
none_has s n Length none = (tt, tt)
none_has s n Throw none = (tt, tt)
none_has s n (Cast index) none = absurd (none-some index (sym none))
none_has s n (InstanceOf index) none = (tt, tt)
none_has s n Enter none = (tt, tt)
none_has s n Leave none = (tt, tt)

-- ---- constants of two pools

module _ (headers : Headers) (pool : Constants) (scope : RowScope) (in_pool : scope.pool ≡ pool) where
  abbrev In : RowScope
  In = record scope { pool = pool }

  module _ (old : Constants) where
    abbrev Old : RowScope
    Old = record scope { pool = old }

    field_has : (index other : ℕ)
        → ((r : Reference) → reference_of old (constant_at old index) ≡ Some r → TypesHave (λ name. IsFramedName headers name) (field_type r.desc ∷ []))
        → reference_of pool (constant_at pool other) ≡ reference_of old (constant_at old index)
        → (r : Reference) → reference_of pool (constant_at pool other) ≡ Some r
        → TypesHave IsSpelledName (field_type r.desc ∷ [])
    field_has index other framed same r is = types_spelled headers (field_type r.desc ∷ []) (framed r (sym same ∙ is))

    method_has : (index other : ℕ)
        → ((r : Reference) → reference_of old (constant_at old index) ≡ Some r
        → IsFramedName headers r.class × TypesHave (λ name. IsFramedName headers name) (result_types (result_of r.desc)))
        → reference_of pool (constant_at pool other) ≡ reference_of old (constant_at old index)
        → (r : Reference) → reference_of pool (constant_at pool other) ≡ Some r
        → IsSpelledName r.class × TypesHave IsSpelledName (result_types (result_of r.desc))
    method_has index other framed same r is =
        let known = framed r (sym same ∙ is) in
        (known.0.spelled, types_spelled headers (result_types (result_of r.desc)) known.1)

    class_has : (index other : ℕ)
        → ((name : Name) → class_at old index ≡ Some name → IsFramedName headers name)
        → class_at pool other ≡ class_at old index
        → (name : Name) → class_at pool other ≡ Some name
        → IsSpelledName name
    class_has index other framed same name is = (framed name (sym same ∙ is)).spelled

    array_has : (index other : ℕ)
        → ((name : Name) → array_of (class_at old index) ≡ Some name → IsFramedName headers name)
        → class_at pool other ≡ class_at old index
        → (name : Name) → array_of (class_at pool other) ≡ Some name
        → IsSpelledName name
    array_has index other framed same name is = (framed name (ap array_of (sym same) ∙ is)).spelled

    -- ---- in a pool that begins with the old one

    module _ (begins : Begins old pool) where
      member_more : (index : ℕ) (r : Reference) → reference_of old (constant_at old index) ≡ Some r
          → reference_of pool (constant_at pool index) ≡ reference_of old (constant_at old index)
      member_more index r is =
          ap (λ (p : Constants). reference_of p (constant_at p index)) begins.is ∙ reference_more old begins.more index r is ∙ sym is

      named_more : (index : ℕ) (name : Name) → class_at old index ≡ Some name → class_at pool index ≡ class_at old index
      named_more index name is = ap (λ (p : Constants). class_at p index) begins.is ∙ class_more old begins.more index name is ∙ sym is

      dynamic_has : (index : ℕ)
          → ((f : Frame) → TypesHave (λ name. IsFramedName headers name) (dynamic_row Old f (constant_at old index)).gives)
          → FindsNames old (Dynamic index)
          → (f : Frame) → TypesHave IsSpelledName (dynamic_row In f (constant_at pool index)).gives
      dynamic_has index framed finds f =
          let is = finds.3 in
          let desc_is = finds.4 in
          let there : constant_at pool index ≡ Some (consts.InvokeDynamic finds.0 finds.1) =
          ap (λ (p : Constants). constant_at p index) begins.is
          ∙ constant_more old begins.more index (consts.InvokeDynamic finds.0 finds.1) is in
          let desc : descriptor_at pool finds.1 ≡ Some finds.2 =
          ap (λ (p : Constants). descriptor_at p finds.1) begins.is ∙ descriptor_more old begins.more finds.1 finds.2 desc_is in
          let known : TypesHave (λ name. IsFramedName headers name) (result_types (result_of finds.2)) = rw (is, desc_is) at (framed f) in
          rw (there, desc) (types_spelled headers (result_types (result_of finds.2)) known)

      pub own_has : (instr : Instr) → PoolHas (λ name. IsFramedName headers name) Old instr → FindsNames old instr → PoolHas IsSpelledName In instr
      own_has (Ldc index) framed finds = λ f. constants_spelled f (constant_at pool index)
      own_has (Ldc2 index) framed finds = λ f. constants_spelled f (constant_at pool index)
      own_has (GetStatic index) framed finds = field_has index index framed (member_more index finds.0 finds.1)
      own_has (GetField index) framed finds = field_has index index framed (member_more index finds.0 finds.1)
      own_has (Invoke opcode index count) framed finds = method_has index index framed (member_more index finds.0 finds.1)
      own_has (Dynamic index) framed finds = dynamic_has index framed finds
      own_has (NewRefArray index) framed finds = array_has index index framed (named_more index finds.0 finds.1)
      own_has (NewMulti index dimensions) framed finds = class_has index index framed (named_more index finds.0 finds.1)
      own_has (Cast index) framed finds = class_has index index framed (named_more index finds.0 finds.1)
      own_has Nop framed finds = tt
      own_has (Const imm) framed finds = tt
      own_has (Load kind local) framed finds = tt
      own_has (Store kind local) framed finds = tt
      own_has (Iinc local amount) framed finds = tt
      own_has (ArrayLoad opcode) framed finds = tt
      own_has (ArrayStore opcode) framed finds = tt
      own_has (Shuffle opcode) framed finds = tt
      own_has (Pure opcode) framed finds = tt
      own_has (Divide opcode) framed finds = tt
      own_has (FloatAsk opcode) framed finds = tt
      own_has (If opcode to) framed finds = tt
      own_has (If2 opcode to) framed finds = tt
      own_has (IfSame opcode to) framed finds = tt
      own_has (IfNull opcode to) framed finds = tt
      own_has (Goto to) framed finds = tt
      own_has (Table low default to) framed finds = tt
      own_has (Lookup default pairs) framed finds = tt
      own_has (Return kind) framed finds = tt
      own_has (PutStatic index) framed finds = tt
      own_has (PutField index) framed finds = tt
      own_has (New index) framed finds = tt
      own_has (NewArray code) framed finds = tt
      own_has Length framed finds = tt
      own_has Throw framed finds = tt
      own_has (InstanceOf index) framed finds = tt
      own_has Enter framed finds = tt
      own_has Leave framed finds = tt

    -- ---- in one that has grown by what the old one's mean

    called : (major opcode index count : ℕ) → IsCalled old major opcode index count
        → IsMethodConstant (constant_at old index) ⊎ IsInterfaceConstant (constant_at old index)
    called major opcode index count (inl is) = inl is.1
    called major opcode index count (inr (inl is)) = inr is.1
    called major opcode index count (inr (inr is)) = by is.1 where
      by : IsMethodConstant (constant_at old index) ⊎ ((major ≡ 52) × IsInterfaceConstant (constant_at old index))
          → IsMethodConstant (constant_at old index) ⊎ IsInterfaceConstant (constant_at old index)
      by (inl is) = inl is
      by (inr is) = inr is.1

    module _ (first : constant_at pool 0 ≡ None) where
      abbrev MeansHere : Instr → Type 0
      MeansHere instr =
          (index : ℕ) → named_index instr ≡ Some index → Means old index pool (index_of_last pool (needs_at old index))

      pub other_has : (major locals : ℕ) (instr : Instr) → PoolHas (λ name. IsFramedName headers name) Old instr → OperandFits old major locals instr
          → IsCarriable old instr
          → MeansHere instr
          → PoolHas IsSpelledName In (with_index (index_of_last pool (needs_of_index old (named_index instr))) instr)
      other_has major locals (Ldc index) framed fits may means = λ f. constants_spelled f (constant_at pool (index_of_last pool (needs_at old index)))
      other_has major locals (Ldc2 index) framed fits may means = λ f. constants_spelled f (constant_at pool (index_of_last pool (needs_at old index)))
      other_has major locals (GetStatic index) framed fits may means =
          field_has index (index_of_last pool (needs_at old index)) framed (field_meant old index pool (means index refl) first fits)
      other_has major locals (GetField index) framed fits may means =
          field_has index (index_of_last pool (needs_at old index)) framed (field_meant old index pool (means index refl) first fits)
      other_has major locals (Invoke opcode index count) framed fits may means =
          method_has index (index_of_last pool (needs_at old index)) framed
          (method_meant old index pool (means index refl) first (called major opcode index count fits))
      other_has major locals (Dynamic index) framed fits may means = absurd may
      other_has major locals (NewRefArray index) framed fits may means =
          array_has index (index_of_last pool (needs_at old index)) framed (class_meant old index pool (means index refl) first fits.0)
      other_has major locals (NewMulti index dimensions) framed fits may means =
          class_has index (index_of_last pool (needs_at old index)) framed (class_meant old index pool (means index refl) first fits.0)
      other_has major locals (Cast index) framed fits may means =
          class_has index (index_of_last pool (needs_at old index)) framed (class_meant old index pool (means index refl) first fits)
      other_has major locals Nop framed fits may means = tt
      other_has major locals (Const imm) framed fits may means = tt
      other_has major locals (Load kind local) framed fits may means = tt
      other_has major locals (Store kind local) framed fits may means = tt
      other_has major locals (Iinc local amount) framed fits may means = tt
      other_has major locals (ArrayLoad opcode) framed fits may means = tt
      other_has major locals (ArrayStore opcode) framed fits may means = tt
      other_has major locals (Shuffle opcode) framed fits may means = tt
      other_has major locals (Pure opcode) framed fits may means = tt
      other_has major locals (Divide opcode) framed fits may means = tt
      other_has major locals (FloatAsk opcode) framed fits may means = tt
      other_has major locals (If opcode to) framed fits may means = tt
      other_has major locals (If2 opcode to) framed fits may means = tt
      other_has major locals (IfSame opcode to) framed fits may means = tt
      other_has major locals (IfNull opcode to) framed fits may means = tt
      other_has major locals (Goto to) framed fits may means = tt
      other_has major locals (Table low default to) framed fits may means = tt
      other_has major locals (Lookup default pairs) framed fits may means = tt
      other_has major locals (Return kind) framed fits may means = tt
      other_has major locals (PutStatic index) framed fits may means = tt
      other_has major locals (PutField index) framed fits may means = tt
      other_has major locals (New index) framed fits may means = tt
      other_has major locals (NewArray code) framed fits may means = tt
      other_has major locals Length framed fits may means = tt
      other_has major locals Throw framed fits may means = tt
      other_has major locals (InstanceOf index) framed fits may means = tt
      other_has major locals Enter framed fits may means = tt
      other_has major locals Leave framed fits may means = tt

-- ---- the items of written code

module _ (w : Writing) (setting : Setting w) (named : HasFramedNames w.s.classes w.host w.s.flat) (same : Compares) (first : constant_at w.pool 0 ≡ None)
    (no_results : (number : ℕ) (site : Site) → slice_get w.s.flat.sites number ≡ Some site → result_of (w.constructor site.class) ≡ None) where
  abbrev scope : RowScope
  scope = scope_in w

  -- what has to be shown, of an instruction whose constants mean in the pool what they mean where it comes from
  abbrev Named : WInstr → Type 0
  Named instr = InstrMeant w.s w.constructor w.pool instr → PoolHas IsSpelledName (scope_in w) (indexed_instr w.s w.constructor w.pool instr)

  ready_at : (at : ℕ) (point : Point) (class : ℕ) (instr : Instr) → point_at w.s.flat at ≡ Some point → point.instr ≡ Of class instr
      → IsReadyInstr w.s.classes w.s.flat.locals class instr
  ready_at at point class instr there is =
      subst (IsReadyItem w.s.classes w.s.flat.locals) is
      (at_index (λ (p : Point). IsReadyItem w.s.classes w.s.flat.locals p.instr) w.s.flat.points at point setting.ready.points there)

  begins_host : Begins w.host.class.pool w.pool
  begins_host =
      begins_through w.host.class.pool setting.before w.pool setting.begins_before
      (begins_through setting.before setting.grown w.pool (grow_begins _ _ _ _ setting.grows) setting.begins)

  carries_named : (at : ℕ) (point : Point) (class : ℕ) (instr : Instr) → point_at w.s.flat at ≡ Some point → point.instr ≡ Of class instr
      → Named (carried class instr)
  carries_named at point class instr there is meant = by (class == w.s.flat.host.class) refl where
    ready : IsReadyInstr w.s.classes w.s.flat.locals class instr
    ready = ready_at at point class instr there is

    file_pool : flat_pool w.s.classes class ≡ ready.file.pool
    file_pool = let there_file = ready.there in rw there_file refl

    plan_pool : pool_of w.s class ≡ ready.file.pool
    plan_pool = let there_file = ready.there in rw there_file refl

    framed : PoolHas (IsFramedName (headers_of w.s.classes)) (record (scope_in w) { pool = ready.file.pool }) instr × FindsNames ready.file.pool instr
    framed = named.instrs at point class instr (record (scope_in w) { pool = ready.file.pool }) there is (sym file_pool)

    own : class ≡ w.s.flat.host.class → PoolHas IsSpelledName (scope_in w) instr
    own here =
        own_has (headers_of w.s.classes) w.pool (scope_in w) refl ready.file.pool (subst (λ (p : Constants). Begins p w.pool) host_pool begins_host) instr
        framed.0 framed.1 where
          host_there : slice_get w.s.classes.folder w.s.flat.host.class ≡ Some w.host.class
          host_there = (scope_is_at w.s.classes w.s.flat.host w.host setting.ready.host).of_folder

          host_pool : w.host.class.pool ≡ ready.file.pool
          host_pool =
              ap (λ (c : ClassFile). c.pool)
              (same_Some w.host.class ready.file (sym host_there ∙ ap (slice_get w.s.classes.folder) (sym here) ∙ ready.there))

    other : (class ≢ w.s.flat.host.class)
        → PoolHas IsSpelledName (scope_in w) (with_index (index_of_last w.pool (needs_of_index (pool_of w.s class) (named_index instr))) instr)
    other foreign =
        subst (λ (p : Constants). PoolHas IsSpelledName (scope_in w) (with_index (index_of_last w.pool (needs_of_index p (named_index instr))) instr))
        (sym plan_pool)
        (other_has (headers_of w.s.classes) w.pool (scope_in w) refl ready.file.pool first ready.file.major w.s.flat.locals instr framed.0 ready.operand
        (subst (λ (p : Constants). IsCarriable p instr) plan_pool (setting.carried at point class instr there is foreign))
        (λ index is_index. subst (λ (p : Constants). Means p index w.pool (index_of_last w.pool (needs_at p index))) plan_pool (meant foreign index is_index)))

    by : (here : Bool) → (class == w.s.flat.host.class) ≡ here → PoolHas IsSpelledName (scope_in w) (carried_instr w.s w.pool class instr)
    by true e = rw e (own ((Decides-eqb class w.s.flat.host.class).0 e))
    by false e = rw e (other (λ same_class. false≢true (sym e ∙ (Decides-eqb class w.s.flat.host.class).1 same_class)))

  opposite_named : (class : ℕ) (instr other : Instr) → opposite_instr instr ≡ Some other → Named (carried class other)
  opposite_named class instr other is meant = by (class == w.s.flat.host.class) refl where
    none : named_index other ≡ None
    none = opposite_names_none instr other is

    by : (here : Bool) → (class == w.s.flat.host.class) ≡ here → PoolHas IsSpelledName (scope_in w) (carried_instr w.s w.pool class other)
    by true e = rw e ((none_has (scope_in w) 0 other none).0)
    by false e = rw e ((none_has (scope_in w) _ other none).1)

  constructed_named : (number : ℕ) (site : Site) → slice_get w.s.flat.sites number ≡ Some site → Named (constructs site.class)
  constructed_named number site is meant r names =
      let made : Reference = record { class = site.class; name = init; desc = w.constructor site.class } in
      let one : made ≡ r =
      same_Some made r (sym (referred w.pool _ of_method site.class init (w.constructor site.class) meant) ∙ names) in
      let none = no_results number site is in
      subst (λ (x : Reference). IsSpelledName x.class × TypesHave IsSpelledName (result_types (result_of x.desc))) one
      ((named.sites number site is).class.spelled, rw none tt)

  holds : HoldsOfWritten w.s Named
  holds = record {
    simple = record {
      loads = λ kind unit meant. tt;
      stores = λ kind unit meant. tt;
      consts = λ value form meant. tt;
      pures = λ opcode form meant. tt;
      shuffles = λ opcode form meant. tt;
    };
    enter = λ meant. tt;
    made = λ number site is meant. tt;
    constructed = constructed_named;
    carries = carries_named;
    opposite = λ class instr other well is. opposite_named class instr other is;
    goto = λ meant. tt;
    nop = λ meant. tt;
    null_jump = λ meant. tt;
    throw = λ meant. tt;
  }

  all_named : AllByRecursion (λ (one : WItem). Named one.instr) (written_items w.form w.blocks)
  all_named =
      subst (λ (blocks : List Finished). AllByRecursion (λ (one : WItem). Named one.instr) (written_items w.form blocks)) (sym setting.blocks)
      (each_written w.s Named holds w.form setting.routes)

  all_meant : AllByRecursion (ItemMeant w.s w.constructor w.pool) (written_items w.form w.blocks)
  all_meant = written_meant w.s w.constructor w.pool same _ setting.grown setting.begins setting.before w.form w.blocks setting.grows

  -- Each item.
  pub items_named : (number : ℕ) (item : IndexedItem) → slice_get (items_in w) number ≡ Some item → PoolHas IsSpelledName (scope_in w) item.instr
  items_named = numbered zero (written_items w.form w.blocks) all_named all_meant where
    numbered : (from : ℕ) (items : List WItem) → AllByRecursion (λ (one : WItem). Named one.instr) items
        → AllByRecursion (ItemMeant w.s w.constructor w.pool) items
        → (number : ℕ) (item : IndexedItem)
        → slice_get (map_numbered (indexed_item w.s w.constructor w.pool w.form w.blocks) from items) number ≡ Some item
        → PoolHas IsSpelledName (scope_in w) item.instr
    numbered from [] names means number item is = absurd (none-some item is)
    numbered from (one ∷ items) names means zero item is =
        subst (λ (x : IndexedItem). PoolHas IsSpelledName (scope_in w) x.instr) (same_Some _ item is)
        (jumping_has (scope_in w) (map (target_number w.form w.blocks from) one.targets) (indexed_instr w.s w.constructor w.pool one.instr)
        (names.0 means.0.instr))
    numbered from (one ∷ items) names means (suc number) item is = numbered (suc from) items names.1 means.1 number item is

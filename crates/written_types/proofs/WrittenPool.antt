-- What the constants of an instruction that is written as it is mean in the pool of written code.
use Rattle.std.proofs.Common.{◌≡◌, ◌++◌, ℕ, false, List, [], ◌∷◌, slice_get, Option, Some, None, option_and_then, option_map, refl, sym, ap, subst, ◌∙◌}
use Rattle.std.specs.Prelude.{◌==◌}
use Rattle.std.specs.List.{flat_map}
use Rattle.std.proofs.lemmas.List.{append_assoc}
use Rattle.std.proofs.lemmas.Option.{none-some, same_Some}
use Rattle.class_model.specs.Pool.{Constants, constant_at}
use Rattle.class_model.specs.Names.{init}
use Rattle.class_model.specs.PoolChecks.{class_at}
use Rattle.class_model.specs.declared.pool.Const.TheVariants.{Class, Methodref, NameAndType, Utf8}
use Rattle.class_model.specs.declared.class_file.ClassFile.{ClassFile}
use Rattle.class_model.specs.MethodCode.{code_of}
use Rattle.class_model.specs.declared.class_file.CodePart.{CodePart}
use Rattle.class_model.specs.declared.class_file.Method.{Method}
use Rattle.class_model.specs.declared.class_file.MethodAt.{MethodAt}
use Rattle.class_model.specs.declared.instr.Instr.{Instr}
use Rattle.class_tree.specs.Headers.{Classes, Headers, Name, headers_of}
use Rattle.making_code.specs.Constants.{Need, class_needs, constructor_needs, grow, index_in, needs_at, needs_class}
use Rattle.making_code.specs.IndexedMaking.{index_of_last}
use Rattle.making_code.specs.Items.{WCatch, WItem, carried}
use Rattle.making_code.specs.Laws.GrownPools.{Begins, begins_through, grow_begins, grow_both}
use Rattle.member_link.specs.Signatures.{reference_of}
use Rattle.member_link.specs.Scope.{Scope, scope_of}
use Rattle.plan_flow.specs.PlanScope.{PlanScope, pool_of}
use Rattle.plan_flow.specs.Written.WrittenCode.{short, written_items}
use Rattle.plan_flow.specs.Written.WrittenConstants.{carried_needs, catch_needs, code_needs, instr_needs, item_needs, named_index, needs_of_index}
use Rattle.written_types.proofs.Given.{Given}
use Rattle.making_code.specs.Laws.MeantConstants.{Means}
use Rattle.written_types.proofs.NamedConstants.{meant_named}
use Rattle.written_types.specs.Writing.{Writing}

-- what is proved of pools that grow
pub record PoolLaws : Type 0 where
  pub needed : (limit : ℕ) (old start grown pool : Constants) (index : ℕ)
      → grow limit start (needs_at old index) ≡ Some grown
      → Begins grown pool
      → Means old index pool (index_of_last pool (needs_at old index))

-- a class, and the constructor of one, by pools that have no more
pub class_grown : PoolLaws → (limit : ℕ) (start grown pool : Constants) (name : Name) → grow limit start (class_needs name) ≡ Some grown
    → Begins grown pool
    → class_at pool (index_in pool (needs_class name)) ≡ Some name
class_grown laws limit start grown pool name grows begins =
    (laws.needed limit (Some (Class 1) ∷ Some (Utf8 name) ∷ []) start grown pool 0 grows begins).class name refl

pub constructor_grown : PoolLaws → (limit : ℕ) (start grown pool : Constants) (class : Name) (desc : List ℕ)
    → grow limit start (constructor_needs class desc) ≡ Some grown
    → Begins grown pool
    → reference_of pool (constant_at pool (index_of_last pool (constructor_needs class desc))) ≡ Some (record { class = class; name = init; desc = desc })
constructor_grown laws limit start grown pool class desc grows begins =
    (meant_named old 0 pool (index_of_last pool (constructor_needs class desc)) (laws.needed limit old start grown pool 0 grows begins)).member
    (record { class = class; name = init; desc = desc }) refl where
      old : Constants
      old =
          Some (Methodref 1 2) ∷ Some (Class 3) ∷ Some (NameAndType 4 5) ∷ Some (Utf8 class) ∷ Some (Utf8 init) ∷ Some (Utf8 desc) ∷ []

-- ---- growth by a part of what is needed

pub record GrownBy (limit : ℕ) (needs : List Need) (grown : Constants) : Type 0 where
  pub start : Constants
  pub middle : Constants
  pub grows : grow limit start needs ≡ Some middle
  pub begins : Begins middle grown

record Halves (limit : ℕ) (pool : Constants) (front back : List Need) (grown : Constants) : Type 0 where
  middle : Constants
  first : grow limit pool front ≡ Some middle
  rest : grow limit middle back ≡ Some grown

halves : (limit : ℕ) (pool : Constants) (front back : List Need) (grown : Constants) → grow limit pool (front ++ back) ≡ Some grown
    → Halves limit pool front back grown
halves limit pool front back grown is = by (grow limit pool front) refl (sym (grow_both limit pool front back) ∙ is) where
  by : (found : Option Constants) → grow limit pool front ≡ found → option_and_then (λ (more : Constants). grow limit more back) found ≡ Some grown
      → Halves limit pool front back grown
  by None none told = absurd (none-some grown told)
  by (Some middle) some told = record { middle = middle; first = some; rest = told }

pub grown_by : (limit : ℕ) (pool : Constants) (front needs back : List Need) (grown : Constants) → grow limit pool (front ++ (needs ++ back)) ≡ Some grown
    → GrownBy limit needs grown
grown_by limit pool front needs back grown is =
    let one = halves limit pool front (needs ++ back) grown is in
    let other = halves limit one.middle needs back grown one.rest in
    record { start = one.middle; middle = other.middle; grows = other.first; begins = grow_begins limit back other.middle grown other.rest }

within : (limit : ℕ) (needs : List Need) (grown last : Constants) → Begins grown last → GrownBy limit needs grown → GrownBy limit needs last
within limit needs grown last begins by =
    record { start = by.start; middle = by.middle; grows = by.grows; begins = begins_through by.middle grown last by.begins begins }

-- of a part of a part
pub part_of : (limit : ℕ) (front needs back : List Need) (grown : Constants) → GrownBy limit (front ++ (needs ++ back)) grown → GrownBy limit needs grown
part_of limit front needs back grown by =
    within limit needs by.middle grown by.begins (grown_by limit by.start front needs back by.middle by.grows)

needs_apart : (s : PlanScope) (constructor : Name → List ℕ) (left right : List WItem)
    → code_needs s constructor (left ++ right) ≡ code_needs s constructor left ++ code_needs s constructor right
needs_apart s constructor [] right = refl
needs_apart s constructor (one ∷ left) right =
    ap (λ (rest : List Need). item_needs s constructor one ++ rest) (needs_apart s constructor left right)
    ∙ sym (append_assoc (item_needs s constructor one) (code_needs s constructor left) (code_needs s constructor right))

nothing_behind : {A : Type 0} (items : List A) → items ≡ items ++ []
nothing_behind [] = refl
nothing_behind {A = A} (one ∷ items) = ap (λ (rest : List A). one ∷ rest) (nothing_behind items)

abbrev caught_needs : List WCatch → List Need
caught_needs all = flat_map (λ (one : WCatch). catch_needs one.class) all

caught_apart : (ones others : List WCatch) → caught_needs (ones ++ others) ≡ caught_needs ones ++ caught_needs others
caught_apart [] others = refl
caught_apart (first ∷ ones) others =
    ap (λ (rest : List Need). catch_needs first.class ++ rest) (caught_apart ones others)
    ∙ sym (append_assoc (catch_needs first.class) (caught_needs ones) (caught_needs others))

-- ---- the class of a scope

of_scope : (headers : Headers) (file : ClassFile) (method : Method) (s : Scope) (found : Option CodePart)
    → option_map (λ part. record { headers = headers; class = file; method = method; part = part }) found ≡ Some s
    → file ≡ s.class
of_scope headers file method s None is = absurd (none-some s is)
of_scope headers file method s (Some part) is =
    ap (λ (x : Scope). x.class) (same_Some (record { headers = headers; class = file; method = method; part = part }) s is)

of_method : (headers : Headers) (file : ClassFile) (s : Scope) (found : Option Method) → option_and_then (scope_of headers file) found ≡ Some s
    → file ≡ s.class
of_method headers file s None is = absurd (none-some s is)
of_method headers file s (Some method) is = of_scope headers file method s (code_of method.attrs) is

of_file : (classes : Classes) (at : MethodAt) (s : Scope) (found : Option ClassFile)
    → option_and_then (λ (file : ClassFile). option_and_then (scope_of (headers_of classes) file) (slice_get file.methods at.method)) found ≡ Some s
    → (file : ClassFile) × (found ≡ Some file) × (file ≡ s.class)
of_file classes at s None is = absurd (none-some s is)
of_file classes at s (Some file) is = (file, refl, of_method (headers_of classes) file s (slice_get file.methods at.method) is)

-- ---- of written items

module _ (w : Writing) (given : Given w) (laws : PoolLaws) where
  -- by what an item needs
  pub grown_item : (left right : List WItem) (one : WItem) → written_items short w.blocks ≡ left ++ (one ∷ right)
      → GrownBy 64535 (item_needs w.s w.constructor one) w.pool
  grown_item left right one is =
      within 64535 (item_needs w.s w.constructor one) given.setting.grown w.pool given.setting.begins
      (grown_by 64535 given.setting.before (code_needs w.s w.constructor left) (item_needs w.s w.constructor one) (code_needs w.s w.constructor right)
      given.setting.grown
      (ap (grow 64535 given.setting.before)
      (sym (ap (code_needs w.s w.constructor) is ∙ needs_apart w.s w.constructor left (one ∷ right))) ∙ given.setting.grows))

  -- what it needs of a class of another file
  pub meant_item : (left right : List WItem) (one : WItem) (class index : ℕ) (instr : Instr) → written_items short w.blocks ≡ left ++ (one ∷ right)
      → one.instr ≡ carried class instr
      → (class == w.s.flat.host.class) ≡ false
      → named_index instr ≡ Some index
      → Means (pool_of w.s class) index w.pool (index_of_last w.pool (carried_needs w.s class instr))
  meant_item left right one class index instr is of_item other named =
      subst (λ (needs : List Need). Means (pool_of w.s class) index w.pool (index_of_last w.pool needs)) (sym needs_are)
      (laws.needed 64535 (pool_of w.s class) here.start here.middle w.pool index
      (subst (λ (needs : List Need). grow 64535 here.start needs ≡ Some here.middle) needs_are here.grows) here.begins) where
        needs_are : carried_needs w.s class instr ≡ needs_at (pool_of w.s class) index
        needs_are = rw other (ap (needs_of_index (pool_of w.s class)) named)

        catches : List Need
        catches = flat_map (λ (catch : WCatch). catch_needs catch.class) one.catches

        whole : GrownBy 64535 (instr_needs w.s w.constructor one.instr ++ catches) w.pool
        whole = grown_item left right one is

        here : GrownBy 64535 (carried_needs w.s class instr) w.pool
        here =
            part_of 64535 [] (carried_needs w.s class instr) catches w.pool
            (subst (λ (needs : List Need). GrownBy 64535 (needs ++ catches) w.pool) (ap (instr_needs w.s w.constructor) of_item) whole)

  -- what it needs of a class that it catches
  pub caught_item : (left right : List WItem) (one : WItem) (before behind : List WCatch) (catch : WCatch) (class : Name)
      → written_items short w.blocks ≡ left ++ (one ∷ right)
      → one.catches ≡ before ++ (catch ∷ behind)
      → catch.class ≡ Some class
      → class_at w.pool (index_in w.pool (needs_class class)) ≡ Some class
  caught_item left right one before behind catch class is of_item named =
      class_grown laws 64535 here.start here.middle w.pool class here.grows here.begins where
        all_are : caught_needs one.catches ≡ caught_needs before ++ (class_needs class ++ caught_needs behind)
        all_are =
            ap caught_needs of_item ∙ caught_apart before (catch ∷ behind)
            ∙ ap (λ (c : Option Name). caught_needs before ++ (catch_needs c ++ caught_needs behind)) named

        whole : GrownBy 64535 (instr_needs w.s w.constructor one.instr ++ (caught_needs one.catches ++ [])) w.pool
        whole =
            subst (λ (needs : List Need). GrownBy 64535 (instr_needs w.s w.constructor one.instr ++ needs) w.pool) (nothing_behind (caught_needs one.catches))
            (grown_item left right one is)

        catches : GrownBy 64535 (caught_needs one.catches) w.pool
        catches = part_of 64535 (instr_needs w.s w.constructor one.instr) (caught_needs one.catches) [] w.pool whole

        here : GrownBy 64535 (class_needs class) w.pool
        here =
            part_of 64535 (caught_needs before) (class_needs class) (caught_needs behind) w.pool
            (subst (λ (needs : List Need). GrownBy 64535 needs w.pool) all_are catches)

  -- what it needs where it is none of a class of the folder
  pub making_item : (left right : List WItem) (one : WItem) → written_items short w.blocks ≡ left ++ (one ∷ right)
      → GrownBy 64535 (instr_needs w.s w.constructor one.instr) w.pool
  making_item left right one is =
      part_of 64535 [] (instr_needs w.s w.constructor one.instr) (caught_needs one.catches) w.pool (grown_item left right one is)

  -- ---- the host's own constants

  pub host_file : (file : ClassFile) × (slice_get w.s.classes.folder w.s.flat.host.class ≡ Some file) × (pool_of w.s w.s.flat.host.class ≡ file.pool)
  host_file =
      let of = of_file w.s.classes w.s.flat.host w.host (slice_get w.s.classes.folder w.s.flat.host.class) given.setting.ready.host in
      (of.0, of.1, of_folder (slice_get w.s.classes.folder w.s.flat.host.class) refl of.0 of.1) where
        of_folder : (found : Option ClassFile) → slice_get w.s.classes.folder w.s.flat.host.class ≡ found → (file : ClassFile) → found ≡ Some file
            → pool_of w.s w.s.flat.host.class ≡ file.pool
        of_folder None at file is = absurd (none-some file is)
        of_folder (Some one) at file is = rw at (ap (λ (c : ClassFile). c.pool) (same_Some one file is))

  pub host_class : slice_get w.s.classes.folder w.s.flat.host.class ≡ Some w.host.class
  host_class =
      let of = of_file w.s.classes w.s.flat.host w.host (slice_get w.s.classes.folder w.s.flat.host.class) given.setting.ready.host in
      of.1 ∙ ap (λ (file : ClassFile). Some file) of.2

  pub own_pool : pool_of w.s w.s.flat.host.class ≡ w.host.class.pool
  own_pool =
      let of = of_file w.s.classes w.s.flat.host w.host (slice_get w.s.classes.folder w.s.flat.host.class) given.setting.ready.host in
      rw (of.1) (ap (λ (file : ClassFile). file.pool) of.2)

  pub own_begins : Begins (pool_of w.s w.s.flat.host.class) w.pool
  own_begins =
      subst (λ (pool : Constants). Begins pool w.pool) (sym own_pool)
      (begins_through w.host.class.pool given.setting.before w.pool given.setting.begins_before
      (begins_through given.setting.before given.setting.grown w.pool
      (grow_begins 64535 (code_needs w.s w.constructor (written_items short w.blocks)) given.setting.before given.setting.grown given.setting.grows)
      given.setting.begins))

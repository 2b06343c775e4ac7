use Rattle.member_link.specs.FieldConstructors.{handled}
use Rattle.std.proofs.Common.{◌≡◌, ◌++◌, ◌<◌, ℕ, length, get_or, take, slice_get, Option, Some, None, refl, ap, ◌∙◌, arith}
use Rattle.std.proofs.lemmas.Option.{slice_get-get_or}
use Rattle.std.specs.List.{flat_map}
use Rattle.std.specs.Option.{option_copied}
use Rattle.class_model.specs.Pool.{Constants, constant_at}
use Rattle.class_model.specs.declared.pool.Const.{Const}
use Rattle.class_tree.specs.Headers.{headers_of}
use Rattle.field_constructors.proofs.HandledLists.{flat_all, flat_more, flat_none, handled_same}
use Rattle.field_constructors.proofs.handles.add_pool.Goals as goal
use Rattle.field_constructors.specs.Inner.ConstructorWords.{handled_in}

-- the entry at an index
entry_at : (pool : Constants) (index : ℕ) → index < length pool → (entry : Option Const) × (slice_get pool index ≡ Some entry) × (constant_at pool index ≡ entry)
entry_at pool index within = let at = slice_get-get_or pool index None within in (get_or pool index None, at, rw at refl)

pub loop-index-init : goal.loop-index-init
loop-index-init c = λ of are. flat_none (headers_of c.args.tree.now) (λ class constant. handled_in class (handled c.args.pool.now constant)) of c.args.pool.now c.args.lists.now.items are

pub loop-index-preserved : goal.loop-index-preserved
loop-index-preserved c = λ of are.
    let pool = c.args.pool.now in
    let index = c.loop-index.index in
    let headers = headers_of c.args.tree.now in
    let found = entry_at pool index (omega (arith, c.loop-index-test.true, c.count-index-end.ensures.count)) in
    let same : option_copied c.get.result ≡ found.0 = c.get.ensures ∙ found.2 in
    flat_more headers (λ class constant. handled_in class (handled pool constant)) of pool c.add_constant.new.lists.items index found.0 found.1
    (handled_same headers c.add_constant.new.lists.items _ (λ class. (of class ++ flat_map (λ constant. handled_in class (handled pool constant)) (take index pool)) ++ handled_in class (handled pool found.0))
    (λ class. ap (λ (o : Option Const). (of class ++ flat_map (λ constant. handled_in class (handled pool constant)) (take index pool)) ++ handled_in class (handled pool o)) same)
    (c.in_ok-add_constant.ensures _ (c.loop-index.invariant of are)))

pub returns : goal.returns
returns c = λ of are.
    flat_all (headers_of c.args.tree.now) (λ class constant. handled_in class (handled c.args.pool.now constant)) of c.args.pool.now c.loop-index.lists.items c.loop-index.index
    (omega (arith, c.loop-index-test.false, c.count-index-end.ensures.count)) (c.loop-index.invariant of are)

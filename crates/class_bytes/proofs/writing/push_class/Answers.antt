-- The parts of a class file, one behind the other.
use Rattle.std.proofs.Common.{◌≡◌, ℕ, List, ◌++◌, rules}
use Rattle.class_model.specs.Spelling.{u2, u4, magic, pool_bytes}
use Rattle.class_model.specs.declared.class_file.ClassFile.{ClassFile}
use Rattle.class_bytes.specs.Numbers.{BodyNumbers}
use Rattle.class_bytes.proofs.MadeValues.{made_class}
use Rattle.class_bytes.proofs.Pushing.{both, behind, unchanged, on_err}
use Rattle.class_bytes.proofs.writing.push_class.Goals as goal
use Rattle.class_bytes.proofs.writing.push_class.Goals.{In_ok-push_pool, In_ok-push_u2-5}

pub returns-clause-read : goal.returns-clause-read
returns-clause-read c is =
    let class = c.args.class.now in
    let body : BodyNumbers class = record {
      flags = search rules;
      this_class = search rules;
      super_class = search rules;
      interfaces = c.in_ok-push_interfaces.ensures.numbers;
      fields = c.in_ok-push_fields.ensures.numbers;
      methods = c.in_ok-push_methods.ensures.numbers;
      attrs = c.in_ok-push_attrs.ensures.numbers;
    } in
    made_class class c.requires (search rules) (search rules) (c.in_ok-push_pool.ensures.read_in class.major is.tags) body is

-- ---- what is written part by part

with_pool : (c : In_ok-push_pool) → c.push_pool.new.out.items ≡ c.args.out.now.items ++ (u4 magic ++ u2 c.args.class.now.minor ++ u2 c.args.class.now.major ++ pool_bytes c.args.class.now.pool)
with_pool c =
    let before = c.args.out.now.items in
    let with_minor = both before c.push_u4.new.out.items _ _ _ c.in_ok-push_u4.ensures.ok c.in_ok-push_u2.ensures.ok in
    let with_major = both before c.push_u2.new.out.items _ _ _ with_minor c.in_ok-push_u2-2.ensures.ok in
    both before c.push_u2-2.new.out.items _ _ _ with_major c.in_ok-push_pool.ensures.same

abbrev head : ClassFile → List ℕ
head class = u4 magic ++ u2 class.minor ++ u2 class.major ++ pool_bytes class.pool ++ u2 class.flags ++ u2 class.this_class ++ u2 class.super_class

with_head : (c : In_ok-push_u2-5) → c.push_u2-5.new.out.items ≡ c.args.out.now.items ++ head c.args.class.now
with_head c =
    let before = c.args.out.now.items in
    let with_minor = both before c.push_u4.new.out.items _ _ _ c.in_ok-push_u4.ensures.ok c.in_ok-push_u2.ensures.ok in
    let with_major = both before c.push_u2.new.out.items _ _ _ with_minor c.in_ok-push_u2-2.ensures.ok in
    let with_pool = both before c.push_u2-2.new.out.items _ _ _ with_major c.in_ok-push_pool.ensures.same in
    let with_flags = both before c.push_pool.new.out.items _ _ _ with_pool c.in_ok-push_u2-3.ensures.ok in
    let with_class = both before c.push_u2-3.new.out.items _ _ _ with_flags c.in_ok-push_u2-4.ensures.ok in
    both before c.push_u2-4.new.out.items _ _ _ with_class c.in_ok-push_u2-5.ensures.ok

pub returns-clause-ok : goal.returns-clause-ok
returns-clause-ok c =
    let before = c.args.out.now.items in
    let headed = with_head (goal.at.returns-clause-ok c).In_ok-push_u2-5 in
    let with_interfaces = both before c.push_u2-5.new.out.items _ _ _ headed c.in_ok-push_interfaces.ensures.ok in
    let with_fields = both before c.push_interfaces.new.out.items _ _ _ with_interfaces c.in_ok-push_fields.ensures.ok in
    let with_methods = both before c.push_fields.new.out.items _ _ _ with_fields c.in_ok-push_methods.ensures.ok in
    both before c.push_methods.new.out.items _ _ _ with_methods c.in_ok-push_attrs.ensures.ok

-- ---- what is there where memory ran out

pub returns-in_err-push_u2-clause-err : goal.returns-in_err-push_u2-clause-err
returns-in_err-push_u2-clause-err c =
    on_err _ (behind c.args.out.now.items _ _ _ c.in_ok-push_u4.ensures.ok (unchanged _ _ c.in_err-push_u2.ensures.err))

pub returns-in_err-push_u2-2-clause-err : goal.returns-in_err-push_u2-2-clause-err
returns-in_err-push_u2-2-clause-err c =
    on_err _ (behind c.args.out.now.items _ _ _ c.in_ok-push_u4.ensures.ok (behind c.push_u4.new.out.items _ _ _ c.in_ok-push_u2.ensures.ok (unchanged _ _ c.in_err-push_u2-2.ensures.err)))

pub returns-in_err-push_pool-clause-err : goal.returns-in_err-push_pool-clause-err
returns-in_err-push_pool-clause-err c =
    on_err _ (behind c.args.out.now.items _ _ _ c.in_ok-push_u4.ensures.ok (behind c.push_u4.new.out.items _ _ _ c.in_ok-push_u2.ensures.ok (behind c.push_u2.new.out.items _ _ _ c.in_ok-push_u2-2.ensures.ok c.in_err-push_pool.ensures.err)))

pub returns-in_err-push_u2-3-clause-err : goal.returns-in_err-push_u2-3-clause-err
returns-in_err-push_u2-3-clause-err c =
    let pooled = with_pool (goal.at.returns-in_err-push_u2-3-clause-err c).In_ok-push_pool in
    on_err _ (behind c.args.out.now.items _ _ _ pooled (unchanged _ _ c.in_err-push_u2-3.ensures.err))

pub returns-in_err-push_u2-4-clause-err : goal.returns-in_err-push_u2-4-clause-err
returns-in_err-push_u2-4-clause-err c =
    let pooled = with_pool (goal.at.returns-in_err-push_u2-4-clause-err c).In_ok-push_pool in
    on_err _ (behind c.args.out.now.items _ _ _ pooled (behind c.push_pool.new.out.items _ _ _ c.in_ok-push_u2-3.ensures.ok (unchanged _ _ c.in_err-push_u2-4.ensures.err)))

pub returns-in_err-push_u2-5-clause-err : goal.returns-in_err-push_u2-5-clause-err
returns-in_err-push_u2-5-clause-err c =
    let pooled = with_pool (goal.at.returns-in_err-push_u2-5-clause-err c).In_ok-push_pool in
    on_err _ (behind c.args.out.now.items _ _ _ pooled (behind c.push_pool.new.out.items _ _ _ c.in_ok-push_u2-3.ensures.ok (behind c.push_u2-3.new.out.items _ _ _ c.in_ok-push_u2-4.ensures.ok (unchanged _ _ c.in_err-push_u2-5.ensures.err))))

pub returns-in_err-push_interfaces-clause-err : goal.returns-in_err-push_interfaces-clause-err
returns-in_err-push_interfaces-clause-err c =
    let headed = with_head (goal.at.returns-in_err-push_interfaces-clause-err c).In_ok-push_u2-5 in
    on_err _ (behind c.args.out.now.items _ _ _ headed c.in_err-push_interfaces.ensures.err)

pub returns-in_err-push_fields-clause-err : goal.returns-in_err-push_fields-clause-err
returns-in_err-push_fields-clause-err c =
    let headed = with_head (goal.at.returns-in_err-push_fields-clause-err c).In_ok-push_u2-5 in
    on_err _ (behind c.args.out.now.items _ _ _ headed (behind c.push_u2-5.new.out.items _ _ _ c.in_ok-push_interfaces.ensures.ok c.in_err-push_fields.ensures.err))

pub returns-in_err-push_methods-clause-err : goal.returns-in_err-push_methods-clause-err
returns-in_err-push_methods-clause-err c =
    let headed = with_head (goal.at.returns-in_err-push_methods-clause-err c).In_ok-push_u2-5 in
    on_err _ (behind c.args.out.now.items _ _ _ headed (behind c.push_u2-5.new.out.items _ _ _ c.in_ok-push_interfaces.ensures.ok (behind c.push_interfaces.new.out.items _ _ _ c.in_ok-push_fields.ensures.ok c.in_err-push_methods.ensures.err)))

pub returns-in_err-push_attrs-clause-err : goal.returns-in_err-push_attrs-clause-err
returns-in_err-push_attrs-clause-err c =
    let headed = with_head (goal.at.returns-in_err-push_attrs-clause-err c).In_ok-push_u2-5 in
    on_err _ (behind c.args.out.now.items _ _ _ headed (behind c.push_u2-5.new.out.items _ _ _ c.in_ok-push_interfaces.ensures.ok (behind c.push_interfaces.new.out.items _ _ _ c.in_ok-push_fields.ensures.ok (behind c.push_fields.new.out.items _ _ _ c.in_ok-push_methods.ensures.ok c.in_err-push_attrs.ensures.err))))

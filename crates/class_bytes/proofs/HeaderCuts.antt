-- A reader of headers cuts a class file as a whole reader does, and keeps less.
use Rattle.std.proofs.Common.{◌≡◌, ◌==◌, ℕ, zero, suc, Bool, true, false, cond, length, map, Result, Ok, Err, refl, sym, ap, ◌∙◌}
use Rattle.class_model.specs.Checks.{Fault, fault, ◌>>=◌}
use Rattle.class_model.specs.Cutting.{Rest, Version, Cut, u2_at, many_at, counted_at, attr_at, field_at, method_at, body_at}
use Rattle.class_model.specs.Laws.Cuts.{bind_ok, guard_true}
use Rattle.class_model.specs.Pool.{Constants}
use Rattle.class_model.specs.declared.class_file.ClassFile.{ClassFile}
use Rattle.class_model.specs.declared.fault.FileRule.TheVariants as rules
use Rattle.class_bytes.specs.Inner.Cut.{result_seen}
use Rattle.class_bytes.specs.Inner.HeaderParts.{cut_seen, member_head_at, cut_header_at, field_head, method_head, cut_header}
use Rattle.class_bytes.specs.declared.header_cutting.CutHeader.{CutHeader}

-- ---- one step after the other

same_step : {A B C : Type 0} (r : Result A Fault) (f : A → Result B Fault) (g : B → C) (k : A → Result C Fault) → ((x : A) → k x ≡ result_seen g (f x)) → (r >>= k) ≡ result_seen g (r >>= f)
same_step (Ok x) f g k same = same x
same_step (Err e) f g k same = refl

-- a step whose value is seen as another
seen_step : {A S B C : Type 0} (r : Result A Fault) (s : A → S) (f : A → Result B Fault) (g : B → C) (k : S → Result C Fault) → ((x : A) → k (s x) ≡ result_seen g (f x)) → (result_seen s r >>= k) ≡ result_seen g (r >>= f)
seen_step (Ok x) s f g k same = same x
seen_step (Err e) s f g k same = refl

-- a test at the end
seen_test : {B C : Type 0} (b : Bool) (x : B) (g : B → C) (e : Fault) → cond b (Ok (g x)) (Err e) ≡ result_seen g (cond b (Ok x) (Err e))
seen_test true x g e = refl
seen_test false x g e = refl

-- ---- lists

module _ {X Y : Type 0} (part : Rest → Cut X) (other : Rest → Cut Y) (f : X → Y) (same : (rest : Rest) → other rest ≡ cut_seen f (part rest)) where
  many_seen : (count : ℕ) (rest : Rest) → many_at other count rest ≡ cut_seen (map f) (many_at part count rest)
  unfolding many_at
  many_seen zero rest = refl
  many_seen (suc count) rest =
      rw (same rest)
      (seen_step (part rest) _ _ _ _ (λ first. rw (many_seen count first.1) (seen_step (many_at part count first.1) _ _ _ _ (λ others. refl))))

  counted_seen : (rest : Rest) → counted_at other rest ≡ cut_seen (map f) (counted_at part rest)
  counted_seen rest = same_step (u2_at rest) _ _ _ (λ count. many_seen count.0 count.1)

-- ---- members

field_seen : (rest : Rest) → member_head_at rest ≡ cut_seen field_head (field_at rest)
field_seen rest =
    same_step (u2_at rest) _ _ _ (λ flags. same_step (u2_at flags.1) _ _ _ (λ name. same_step (u2_at name.1) _ _ _ (λ desc. seen_step (counted_at attr_at desc.1) _ _ _ _ (λ attrs. refl))))

method_seen : (rest : Rest) → member_head_at rest ≡ cut_seen method_head (method_at rest)
method_seen rest =
    same_step (u2_at rest) _ _ _ (λ flags. same_step (u2_at flags.1) _ _ _ (λ name. same_step (u2_at name.1) _ _ _ (λ desc. seen_step (counted_at attr_at desc.1) _ _ _ _ (λ attrs. refl))))

-- ---- the whole

header_seen : (version : Version) (pool : Constants) (rest : Rest) → cut_header_at rest ≡ result_seen cut_header (body_at version pool rest)
header_seen version pool rest =
    same_step (u2_at rest) _ _ _ (λ flags. same_step (u2_at flags.1) _ _ _ (λ this. same_step (u2_at this.1) _ _ _ (λ super. same_step (counted_at u2_at super.1) _ _ _ (λ interfaces.
    rw (counted_seen field_at member_head_at field_head field_seen interfaces.1)
    (seen_step (counted_at field_at interfaces.1) _ _ _ _ (λ fields.
    rw (counted_seen method_at member_head_at method_head method_seen fields.1)
    (seen_step (counted_at method_at fields.1) _ _ _ _ (λ methods. seen_step (counted_at attr_at methods.1) _ _ _ _ (λ attrs. seen_test (length attrs.1.bytes == 0) _ _ _)))))))))

-- ---- answers

seen_fault : {X Y : Type 0} (g : X → Y) (r : Result X Fault) (f : Fault) → result_seen g r ≡ Err f → r ≡ Err f
seen_fault g (Ok x) f e = absurd cc
seen_fault g (Err d) f e = cc

seen_value : {X Y : Type 0} (g : X → Y) (r : Result X Fault) (y : Y) → result_seen g r ≡ Ok y → (x : X) × (r ≡ Ok x) × (y ≡ g x)
seen_value g (Ok x) y e = (x, refl, cc)
seen_value g (Err d) y e = absurd cc

-- what is no header is no class file
pub no_body : (version : Version) (pool : Constants) (rest : Rest) (f : Fault) → cut_header_at rest ≡ Err f → body_at version pool rest ≡ Err f
no_body version pool rest f cut = seen_fault cut_header (body_at version pool rest) f (sym (header_seen version pool rest) ∙ cut)

-- the pool of what was cut
pub pool_kept : (version : Version) (pool : Constants) (rest : Rest) (c : ClassFile) → body_at version pool rest ≡ Ok c → c.pool ≡ pool
pool_kept version pool rest c e =
    let flags = bind_ok (u2_at rest) _ c e in
    let this = bind_ok (u2_at flags.0.1) _ c flags.2 in
    let super = bind_ok (u2_at this.0.1) _ c this.2 in
    let interfaces = bind_ok (counted_at u2_at super.0.1) _ c super.2 in
    let fields = bind_ok (counted_at field_at interfaces.0.1) _ c interfaces.2 in
    let methods = bind_ok (counted_at method_at fields.0.1) _ c fields.2 in
    let attrs = bind_ok (counted_at attr_at methods.0.1) _ c methods.2 in
    let end = guard_true (length attrs.0.1.bytes == 0) (fault attrs.0.1.at rules.Extra) _ c attrs.2 in
    ap (λ (made : ClassFile). made.pool) (sym end.1)

-- A class file has this pool and header.
pub record Whole (version : Version) (pool : Constants) (rest : Rest) (head : CutHeader) : Type 0 where
  pub class : ClassFile
  pub cut : body_at version pool rest ≡ Ok class
  pub pool_is : class.pool ≡ pool
  pub head_is : head ≡ cut_header class

pub whole : (version : Version) (pool : Constants) (rest : Rest) (head : CutHeader) → cut_header_at rest ≡ Ok head → Whole version pool rest head
whole version pool rest head cut =
    let c = seen_value cut_header (body_at version pool rest) head (sym (header_seen version pool rest) ∙ cut) in
    record { class = c.0; cut = c.1; pool_is = pool_kept version pool rest c.0 c.1; head_is = c.2 }

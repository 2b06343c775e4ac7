use Rattle.std.proofs.Common.{◌≡◌, ◌==◌, ◌≤◌, ℕ, ◌+◌, ◌-◌, Bool, true, false, cond, List, [], ◌∷◌, ◌++◌, length, take, get_or, Option, Some, sym, ap, ◌∙◌, append_assoc, arith}
use Rattle.std.proofs.lemmas.List.{take_more}
use Rattle.std.proofs.Math.Seq.{take-length}
use Rattle.std.specs.Cmp.Lexicographic.{pointwise}
use Rattle.map_frames.specs.Inner.Indices.{AreShort}
use Rattle.map_frames.specs.Writing.{index_of, or_zero}
use Rattle.map_frames.specs.declared.writing.NamedIndex.{NamedIndex}
use Rattle.map_frames.proofs.class_indices.index_by_name.Goals as goal

-- a list is what is before its last item, and that
last_item : {X : Type 0} (items : List X) (x : X) → 1 ≤ length items → x ≡ get_or items (length items - 1) x → items ≡ take (length items - 1) items ++ x ∷ []
last_item items x some is =
    let count : (length items - 1) + 1 ≡ length items = omega arith in
    sym (take-length items) ∙ ap (λ (n : ℕ). take n items) (sym count) ∙ take_more items (length items - 1) x (omega arith)
    ∙ ap (λ (last : _). take (length items - 1) items ++ last ∷ []) (sym is)

one_more : {X : Type 0} (all before done : List X) (x : X) → all ≡ before ++ done → 1 ≤ length before → x ≡ get_or before (length before - 1) x → all ≡ take (length before - 1) before ++ (x ∷ done)
one_more all before done x whole some is =
    whole ∙ ap (λ items. items ++ done) (last_item before x some is) ∙ append_assoc (take (length before - 1) before) (x ∷ []) done

put_first : (class : NamedIndex) (done : List NamedIndex) (old new : List ℕ → Option ℕ) (key : List ℕ) → key ≡ class.class → ((q : List ℕ) → old q ≡ index_of done q)
    → ((q : List ℕ) → new q ≡ cond (pointwise ◌==◌ key q) (Some class.index) (old q)) → (q : List ℕ) → new q ≡ index_of (class ∷ done) q
put_first class done old new key same found step q = rw (step q, same, found q)

either : (same : Bool) (index : ℕ) (others : Option ℕ) → index ≤ 65535 → or_zero others ≤ 65535 → or_zero (cond same (Some index) others) ≤ 65535
either true index others fits fits_others = fits
either false index others fits fits_others = fits_others

short_first : (class : NamedIndex) (done : List NamedIndex) → class.index ≤ 65535 → AreShort done → AreShort (class ∷ done)
short_first class done fits others = record { short = λ name. either (pointwise ◌==◌ class.class name) class.index (index_of done name) fits (others.short name) }

pub loop-before-preserved : goal.loop-before-preserved
loop-before-preserved c =
    let class = c.class-item.result in
    let done = c.loop-before.invariant.0 in
    let by_name = c.loop-before.invariant.2 in (
      class ∷ done,
      one_more c.args.classes.now c.loop-before.before.now done class c.loop-before.invariant.1 (omega arith) c.class-item.is,
      record {
        found = put_first class done _ _ c.in_ok-copy.field-0 c.in_ok-copy.ensures by_name.found c.in_ok-insert.ensures.updates.0;
        short = short_first class done (omega arith) by_name.short;
      },
    )

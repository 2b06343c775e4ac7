-- The pool of a class file that is read is read by itself, as that of version 52.
use Rattle.std.proofs.Common.{◌≡◌, ◌+◌, ℕ, zero, suc, Bool, true, false, cond, eqb, leb, ltb, ◌&&◌, ◌||◌, ◌==◌, not, List, [], ◌∷◌, ◌++◌, length, take, drop, None, Some, Result, Ok, Err, refl, sym, ap, subst, inl, inr, ◌∙◌}
use Rattle.std.specs.Int.{Width, w16, w32, w64, byte_len, from_be_bytes, cast_signed}
use Rattle.std.proofs.lemmas.List.{drop-drop}
use Rattle.class_model.specs.Checks.{Fault, fault, AllHold, ◌>>=◌}
use Rattle.class_model.specs.ClassOf.{ClassOf}
use Rattle.class_model.specs.Cutting.{Rest, Version, Cut, behind, bytes_at, number_at, u1_at, u2_at, u4_at, u2_pair_at, is_tag, fields_at, entries_at, pool_at, version_at, uncut}
use Rattle.class_model.specs.Laws.Checks.{both_hold, first_holds, others_hold}
use Rattle.class_model.specs.Laws.Cuts.{bind_ok, done, same_done, guard_false, guard_true}
use Rattle.class_model.specs.Pool.{Constants, entries_of}
use Rattle.class_model.specs.PoolChecks.{RefersWell, constant_checks, entries_checks}
use Rattle.class_model.specs.Spelling.{magic, constant_bytes}
use Rattle.class_model.specs.declared.class_file.ClassFile.{ClassFile}
use Rattle.class_model.specs.declared.fault.FileRule.TheVariants as rules
use Rattle.class_model.specs.declared.pool.Const.{Const}
use Rattle.class_model.specs.declared.pool.Const.TheVariants.{Utf8, Integer, Float, Long, Double, Class, String, Fieldref, Methodref, InterfaceMethodref, NameAndType, MethodHandle, MethodType, InvokeDynamic}
use Rattle.pool_bytes.specs.Reading.{rest_at, pool_checks, Stands}
use Rattle.class_bytes.proofs.HeaderCuts.{pool_kept}

-- ---- what version 52 gives too

-- What the one gives, the other gives.
record Gives {X : Type 0} (one other : Result X Fault) : Type 0 where
  gives : (x : X) → one ≡ Ok x → other ≡ Ok x

same : {X : Type 0} (r : Result X Fault) → Gives r r
same r = record { gives = λ x e. e }

each_step : {X Y : Type 0} {one other : Result X Fault} {f g : X → Result Y Fault} → Gives one other → ((x : X) → Gives (f x) (g x)) → Gives (one >>= f) (other >>= g)
each_step {one = one} {f = f} {g = g} first next = record {
  gives = λ y e.
      let got = bind_ok one f y e in
      ap (λ r. r >>= g) (first.gives got.0 got.1) ∙ (next got.0).gives y got.2;
}

behind_test : {X : Type 0} (test : Bool) (x : Result X Fault) {one other : Result X Fault} → Gives one other → Gives (cond test x one) (cond test x other)
behind_test true x next = same x
behind_test false x next = next

weaker_test : {X : Type 0} (test weaker : Bool) (x : X) (f : Fault) → (test ≡ true → weaker ≡ true) → Gives (cond test (Ok x) (Err f)) (cond weaker (Ok x) (Err f))
weaker_test true weaker x f holds = record { gives = λ y e. rw (holds refl) e }
weaker_test false weaker x f holds = record { gives = λ y e. absurd cc }

-- a tag that an earlier version knows is known
known_tag : (common later newer stands : Bool) → ((common || (later && newer)) && stands) ≡ true → ((common || newer) && stands) ≡ true
known_tag true later newer stands e = e
known_tag false true newer stands e = e
known_tag false false newer stands e = absurd cc

abbrev may_stand : ℕ → ℕ → ℕ → ℕ → Bool
may_stand major tag index count = is_tag major tag && not (((tag == 5) || (tag == 6)) && (index + 1 == count))

entries_given : (left major index count : ℕ) (rest : Rest) → Gives (entries_at left major index count rest) (entries_at left 52 index count rest)
unfolding entries_at
entries_given zero major index count rest = same (Ok ([], rest))
entries_given (suc left) major index count rest =
    behind_test (leb count index) (Ok ([], rest))
    (each_step (same (u1_at rest)) (λ tag.
    each_step (weaker_test (may_stand major tag.0 index count) (may_stand 52 tag.0 index count) tag.1 (fault rest.at rules.Tag) (known_tag ((tag.0 == 1) || (leb 3 tag.0 && leb tag.0 12)) (leb 51 major) ((tag.0 == 15) || (tag.0 == 16) || (tag.0 == 18)) (not (((tag.0 == 5) || (tag.0 == 6)) && (index + 1 == count))))) (λ known.
    each_step (same (fields_at tag.0 known)) (λ constant.
    each_step (entries_given left major (index + length (entries_of constant.0)) count constant.1) (λ others. same (Ok (entries_of constant.0 ++ others.0, others.1)))))))

pool_given : (major : ℕ) (rest : Rest) → Gives (pool_at major rest) (pool_at 52 rest)
pool_given major rest =
    each_step (same (u2_at rest)) (λ count.
    each_step (same (cond (eqb count.0 0) (Err (fault rest.at rules.Tag)) (Ok count.1))) (λ some.
    each_step (entries_given count.0 major 1 count.0 some) (λ entries. same (Ok (None ∷ entries.0, entries.1)))))

-- ---- what version 52 asks no more of

refers_well : (major : ℕ) (pool : Constants) (kind reference : ℕ) → RefersWell major pool kind reference → RefersWell 52 pool kind reference
refers_well major pool kind reference (inl field) = inl field
refers_well major pool kind reference (inr (inl virtual)) = inr (inl virtual)
refers_well major pool kind reference (inr (inr (inl (low, high, inl method, name)))) = inr (inr (inl (low, high, inl method, name)))
refers_well major pool kind reference (inr (inr (inl (low, high, inr (is, method), name)))) = inr (inr (inl (low, high, inr (refl, method), name)))
refers_well major pool kind reference (inr (inr (inr others))) = inr (inr (inr others))

constant_holds : (major : ℕ) (pool : Constants) (at : ℕ) (constant : Const) → AllHold (constant_checks major pool at constant) → AllHold (constant_checks 52 pool at constant)
constant_holds major pool at (MethodHandle kind reference) h = (refers_well major pool kind reference h.0, tt)
constant_holds major pool at constant h = h

entries_hold : (major : ℕ) (pool : Constants) (at : ℕ) (entries : Constants) → AllHold (entries_checks major pool at entries) → AllHold (entries_checks 52 pool at entries)
entries_hold major pool at [] h = tt
entries_hold major pool at (None ∷ entries) h = entries_hold major pool at entries h
entries_hold major pool at (Some constant ∷ entries) h =
    let next = at + length (constant_bytes constant) in
    let own = constant_checks major pool at constant in
    let others = entries_checks major pool next entries in
    both_hold (constant_checks 52 pool at constant) (entries_checks 52 pool next entries)
    (constant_holds major pool at constant (first_holds own others h)) (entries_hold major pool next entries (others_hold own others h))

-- ---- what is left stands in the bytes

module _ (bytes : List ℕ) where
  -- What is left of the bytes is what stands from its place on.
  record IsLeft (rest : Rest) : Type 0 where
    left : rest.bytes ≡ drop rest.at bytes

  -- a part leaves such a rest
  record Leaves {X : Type 0} (part : Rest → Cut X) : Type 0 where
    leaves : (rest : Rest) (x : X × Rest) → IsLeft rest → part rest ≡ Ok x → IsLeft x.1

  then : {X Y : Type 0} {part : Rest → Cut X} → Leaves part → (f : X × Rest → Cut Y) → ((x : X) → Leaves (λ rest. f (x, rest))) → Leaves (λ rest. part rest >>= f)
  then {part = part} one f more = record {
    leaves = λ rest y is e.
        let got = bind_ok (part rest) f y e in
        (more got.0.0).leaves got.0.1 y (one.leaves rest got.0 is got.1) got.2;
  }

  ends : {X : Type 0} (x : X) → Leaves (λ rest. done (x, rest))
  ends {X = X} x = record { leaves = λ rest y is e. subst (λ (z : X × Rest). IsLeft z.1) (same_done (x, rest) y e) is }

  either : {X : Type 0} (test : Bool) {one other : Rest → Cut X} → Leaves one → Leaves other → Leaves (λ rest. cond test (one rest) (other rest))
  either true one other = one
  either false one other = other

  bytes_leave : (count : ℕ) → Leaves (bytes_at count)
  bytes_leave count = record {
    leaves = λ rest x is e.
        let g = guard_false (ltb (length rest.bytes) count) (fault rest.at rules.Short) (take count rest.bytes, behind count rest) x e in
        let next : IsLeft (behind count rest) = record { left = ap (drop count) is.left ∙ drop-drop count rest.at bytes } in
        subst (λ (z : List ℕ × Rest). IsLeft z.1) g.1 next;
  }

  number_leaves : (w : Width) → Leaves (number_at w)
  number_leaves w = then (bytes_leave (byte_len w)) _ (λ item. ends (from_be_bytes w item))

  byte_leaves : Leaves u1_at
  byte_leaves = then (bytes_leave 1) _ (λ item. ends (from_be_bytes w16 (0 ∷ item)))

  pair_leaves : Leaves u2_pair_at
  pair_leaves = then (number_leaves w16) _ (λ first. then (number_leaves w16) _ (λ second. ends (first, second)))

  fields_leave : (tag : ℕ) → Leaves (fields_at tag)
  unfolding fields_at
  fields_leave tag =
      either (tag == 1) (then (number_leaves w16) _ (λ len. then (bytes_leave len) _ (λ text. ends (Utf8 text))))
      (either (tag == 3) (then (number_leaves w32) _ (λ n. ends (Integer (cast_signed w32 n))))
      (either (tag == 4) (then (number_leaves w32) _ (λ n. ends (Float n)))
      (either (tag == 5) (then (number_leaves w64) _ (λ n. ends (Long (cast_signed w64 n))))
      (either (tag == 6) (then (number_leaves w64) _ (λ n. ends (Double n)))
      (either (tag == 7) (then (number_leaves w16) _ (λ n. ends (Class n)))
      (either (tag == 8) (then (number_leaves w16) _ (λ n. ends (String n)))
      (either (tag == 9) (then pair_leaves _ (λ n. ends (Fieldref n.0 n.1)))
      (either (tag == 10) (then pair_leaves _ (λ n. ends (Methodref n.0 n.1)))
      (either (tag == 11) (then pair_leaves _ (λ n. ends (InterfaceMethodref n.0 n.1)))
      (either (tag == 12) (then pair_leaves _ (λ n. ends (NameAndType n.0 n.1)))
      (either (tag == 15) (then byte_leaves _ (λ kind. then (number_leaves w16) _ (λ n. ends (MethodHandle kind n))))
      (either (tag == 16) (then (number_leaves w16) _ (λ n. ends (MethodType n)))
      (then pair_leaves _ (λ n. ends (InvokeDynamic n.0 n.1)))))))))))))))

  -- behind a test, the rest is the same
  tested : (test : Bool) (f : Fault) (rest after : Rest) → IsLeft rest → cond test (Ok rest) (Err f) ≡ Ok after → IsLeft after
  tested test f rest after is e = subst IsLeft (guard_true test f rest after e).1 is

  entries_leave : (left major index count : ℕ) → Leaves (entries_at left major index count)
  unfolding entries_at
  entries_leave zero major index count = ends []
  entries_leave (suc left) major index count =
      either (leb count index) (ends [])
      (record {
        leaves = λ rest x is e.
            let tag = bind_ok (u1_at rest) _ x e in
            let known = bind_ok (cond (may_stand major tag.0.0 index count) (Ok tag.0.1) (Err (fault rest.at rules.Tag))) _ x tag.2 in
            let stands = tested (may_stand major tag.0.0 index count) (fault rest.at rules.Tag) tag.0.1 known.0 (byte_leaves.leaves rest tag.0 is tag.1) known.1 in
            let constant = bind_ok (fields_at tag.0.0 known.0) _ x known.2 in
            let others = bind_ok (entries_at left major (index + length (entries_of constant.0.0)) count constant.0.1) _ x constant.2 in
            let after = (fields_leave tag.0.0).leaves known.0 constant.0 stands constant.1 in
            (ends (entries_of constant.0.0 ++ others.0.0)).leaves others.0.1 x ((entries_leave left major (index + length (entries_of constant.0.0)) count).leaves constant.0.1 others.0 after others.1) others.2;
      })

  pool_leaves : (major : ℕ) → Leaves (pool_at major)
  pool_leaves major = record {
    leaves = λ rest x is e.
        let count = bind_ok (u2_at rest) _ x e in
        let some = bind_ok (cond (eqb count.0.0 0) (Err (fault rest.at rules.Tag)) (Ok count.0.1)) _ x count.2 in
        let stands = subst IsLeft (guard_false (eqb count.0.0 0) (fault rest.at rules.Tag) count.0.1 some.0 some.1).1 ((number_leaves w16).leaves rest count.0 is count.1) in
        let entries = bind_ok (entries_at count.0.0 major 1 count.0.0 some.0) _ x some.2 in
        (ends (None ∷ entries.0.0)).leaves entries.0.1 x ((entries_leave count.0.0 major 1 count.0.0).leaves some.0 entries.0 stands entries.1) entries.2;
  }

-- ---- behind the version

number_behind : (w : Width) (rest : Rest) (x : ℕ × Rest) → number_at w rest ≡ Ok x → x.1 ≡ behind (byte_len w) rest
number_behind w rest x e =
    let count = byte_len w in
    let item = bind_ok (bytes_at count rest) _ x e in
    let g = guard_false (ltb (length rest.bytes) count) (fault rest.at rules.Short) (take count rest.bytes, behind count rest) item.0 item.1 in
    ap (λ (z : ℕ × Rest). z.1) (sym (same_done (from_be_bytes w item.0.0, item.0.1) x item.2)) ∙ ap (λ (z : List ℕ × Rest). z.1) (sym g.1)

pub behind_version : (bytes : List ℕ) (x : Version × Rest) → version_at (uncut bytes) ≡ Ok x → x.1 ≡ rest_at bytes 8
behind_version bytes x e =
    let first = bind_ok (u4_at (uncut bytes)) _ x e in
    let magical = bind_ok (cond (first.0.0 == magic) (Ok first.0.1) (Err (fault 0 rules.Magic))) _ x first.2 in
    let g = guard_true (first.0.0 == magic) (fault 0 rules.Magic) first.0.1 magical.0 magical.1 in
    let minor = bind_ok (u2_at magical.0) _ x magical.2 in
    let major = bind_ok (u2_at minor.0.1) _ x minor.2 in
    let made : Version × Rest = (record { minor = minor.0.0; major = major.0.0 }, major.0.1) in
    let place : List ℕ → Rest = λ left. record { at = 8; bytes = left } in
    ap (λ (z : Version × Rest). z.1) (sym (same_done made x major.2))
    ∙ number_behind w16 minor.0.1 major.0 major.1
    ∙ ap (behind 2) (number_behind w16 magical.0 minor.0 minor.1)
    ∙ ap (λ (r : Rest). behind 2 (behind 2 r)) (sym g.1 ∙ number_behind w32 (uncut bytes) first.0 first.1)
    ∙ ap place (drop-drop 2 2 (drop 4 bytes) ∙ drop-drop 4 4 bytes)

-- ---- the pool

abbrev pub IsAlone : List ℕ → Constants → Type 0
IsAlone bytes pool = AllHold (pool_checks 52 (rest_at bytes 8)) × ((end : ℕ) × Stands 52 bytes 8 pool end)

cut_alone : (bytes : List ℕ) (major : ℕ) (pool : Constants) (after : Rest) → pool_at major (rest_at bytes 8) ≡ Ok (pool, after) → AllHold (entries_checks 52 pool 10 pool) → IsAlone bytes pool
cut_alone bytes major pool after cut holds =
    let given = (pool_given major (rest_at bytes 8)).gives (pool, after) cut in
    let ends = (pool_leaves bytes major).leaves (rest_at bytes 8) (pool, after) (record { left = refl }) cut in
    (rw given holds, (after.at, given ∙ ap (λ (left : List ℕ). Ok (pool, record { at = after.at; bytes = left })) ends.left))

-- what a whole class file asks of its pool
pub pool_alone : (bytes : List ℕ) (class : ClassFile) (is : ClassOf bytes class) → AllHold (entries_checks is.cut.major is.cut.pool 10 is.cut.pool) → IsAlone bytes class.pool
pool_alone bytes class is holds =
    let got = bind_ok (pool_at is.version.major is.rest) _ is.cut is.is_cut in
    let place = behind_version bytes (is.version, is.rest) is.head in
    let kept = pool_kept is.version got.0.0 got.0.1 is.cut got.2 in
    let cut = ap (pool_at is.version.major) (sym place) ∙ got.1 ∙ ap (λ (pool : Constants). Ok (pool, got.0.1)) (sym kept) in
    let asked = entries_hold is.cut.major is.cut.pool 10 is.cut.pool holds in
    subst (IsAlone bytes) (ap (λ (c : ClassFile). c.pool) (sym is.is)) (cut_alone bytes is.version.major is.cut.pool got.0.1 cut asked)

-- Attributes that are cut and not kept: what they take is known by what is left.
use Rattle.std.proofs.Common.{◌≡◌, ℕ, suc, ◌+◌, ◌≤◌, ltb, List, [], ◌∷◌, ◌++◌, length, take, Ok, Err, refl, subst, ap, ◌∙◌, arith, length-append, length-take, length-drop}
use Rattle.std.specs.List.{flat_map}
use Rattle.std.specs.Int.{w16, w32, from_be_bytes}
use Rattle.std.proofs.lemmas.Bool.{ltb-false}
use Rattle.std.proofs.lemmas.List.Concat.{flat_map-append}
use Rattle.class_model.specs.Answers.{Takes}
use Rattle.class_model.specs.Checks.{fault}
use Rattle.class_model.specs.Cutting.{Rest, Cut, behind, bytes_at, u2_at, u4_at, attr_at, counted_at}
use Rattle.class_model.specs.Laws.Cuts.{bind_ok, same_done, guard_false}
use Rattle.class_model.specs.Spelling.{u2, u4, attr_bytes}
use Rattle.class_model.specs.declared.class_file.Attr.{Attr}
use Rattle.class_model.specs.declared.class_file.Attr.TheVariants.{Raw}
use Rattle.class_model.specs.declared.fault.ClassFault.{ClassFault}
use Rattle.class_model.specs.declared.fault.ClassFault.TheVariants as faults
use Rattle.class_model.specs.declared.fault.FileRule.TheVariants as rules
use Rattle.class_bytes.specs.Inner.HeaderParts.{skipped_at}
use Rattle.class_bytes.specs.Inner.Parts.{attrs_len}
use Rattle.class_bytes.proofs.Many.{SoFar, goes_on_plain, stops, is_done}

-- ---- an attribute takes its bytes

-- An item of so many bytes was taken from the front.
record Took (count : ℕ) (rest : Rest) (item : List ℕ) (after : Rest) : Type 0 where
  item_len : length item ≡ count
  left : length rest.bytes ≡ count + length after.bytes

took : (count : ℕ) (rest : Rest) (x : List ℕ × Rest) → bytes_at count rest ≡ Ok x → Took count rest x.0 x.1
took count rest x e =
    let g = guard_false (ltb (length rest.bytes) count) (fault rest.at rules.Short) (take count rest.bytes, behind count rest) x e in
    let enough : count ≤ length rest.bytes = ltb-false _ _ g.0 in
    let here : Took count rest (take count rest.bytes) (behind count rest) = record { item_len = omega (arith, length-take count rest.bytes); left = omega (arith, length-drop count rest.bytes) } in
    subst (λ (y : List ℕ × Rest). Took count rest y.0 y.1) g.1 here

record Left (count : ℕ) (rest after : Rest) : Type 0 where
  is : length rest.bytes ≡ count + length after.bytes

two_taken : (rest : Rest) (x : ℕ × Rest) → u2_at rest ≡ Ok x → Left 2 rest x.1
two_taken rest x e =
    let item = bind_ok (bytes_at 2 rest) (λ item. Ok (from_be_bytes w16 item.0, item.1)) x e in
    subst (λ (y : ℕ × Rest). Left 2 rest y.1) (same_done (from_be_bytes w16 item.0.0, item.0.1) x item.2) (record { is = (took 2 rest item.0 item.1).left })

four_taken : (rest : Rest) (x : ℕ × Rest) → u4_at rest ≡ Ok x → Left 4 rest x.1
four_taken rest x e =
    let item = bind_ok (bytes_at 4 rest) (λ item. Ok (from_be_bytes w32 item.0, item.1)) x e in
    subst (λ (y : ℕ × Rest). Left 4 rest y.1) (same_done (from_be_bytes w32 item.0.0, item.0.1) x item.2) (record { is = (took 4 rest item.0 item.1).left })

raw_len : (name : ℕ) (content : List ℕ) → length (attr_bytes (Raw name content)) ≡ 6 + length content
raw_len name content = omega (arith, length-append (u2 name) (u4 (length content) ++ content), length-append (u4 (length content)) content)

attr_taken : (rest : Rest) (x : Attr × Rest) → attr_at rest ≡ Ok x → Left (length (attr_bytes x.0)) rest x.1
attr_taken rest x e =
    let name = bind_ok (u2_at rest) _ x e in
    let len = bind_ok (u4_at name.0.1) _ x name.2 in
    let content = bind_ok (bytes_at len.0.0 len.0.1) _ x len.2 in
    let bytes = took len.0.0 len.0.1 content.0 content.1 in
    let attr : Attr = Raw name.0.0 content.0.0 in
    let two = (two_taken rest name.0 name.1).is in
    let four = (four_taken name.0.1 len.0 len.1).is in
    let here : Left (length (attr_bytes attr)) rest content.0.1 = record { is = omega (arith, two, four, bytes.left, bytes.item_len, raw_len name.0.0 content.0.0) } in
    subst (λ (y : Attr × Rest). Left (length (attr_bytes y.0)) rest y.1) (same_done (attr, content.0.1) x content.2) here

-- ---- attributes one after the other

-- Some attributes were cut, so many are left, and so many bytes were left before them.
pub record Skipped (whole : Cut (List Attr)) (before left : ℕ) (rest : Rest) : Type 0 where
  pub got : List Attr
  pub so_far : SoFar attr_at whole left got rest
  pub bytes : before ≡ attrs_len got + length rest.bytes

attrs_more : (got : List Attr) (attr : Attr) → attrs_len (got ++ attr ∷ []) ≡ attrs_len got + length (attr_bytes attr)
attrs_more got attr =
    ap length (flat_map-append attr_bytes got (attr ∷ [])) ∙ omega (arith, length-append (flat_map attr_bytes got) (flat_map attr_bytes (attr ∷ [])), length-append (attr_bytes attr) [])

pub skips : {whole : Cut (List Attr)} {before left : ℕ} (next : ℕ) {rest : Rest} → Skipped whole before left rest → left ≡ suc next → (attr : Attr) (after : Rest) → attr_at rest ≡ Ok (attr, after) → Skipped whole before next after
skips next {rest = rest} skipped e attr after cut = record {
  got = skipped.got ++ attr ∷ [];
  so_far = goes_on_plain next skipped.so_far e attr after cut;
  bytes = omega (arith, skipped.bytes, (attr_taken rest (attr, after) cut).is, attrs_more skipped.got attr);
}

seen_refused : (rest after : Rest) (e : ClassFault) → Takes (counted_at attr_at rest) after (Err e) → Takes (skipped_at rest) after (Err e)
seen_refused rest after (faults.Malformed at rule) cut = rw cut refl
seen_refused rest after faults.NoMemory cut = tt
seen_refused rest after (faults.Version major minor) cut = cut

pub attr_refused : (start : Rest) {before left : ℕ} (next : ℕ) {rest : Rest} → Skipped (counted_at attr_at start) before left rest → left ≡ suc next → (e : ClassFault) (after : Rest) → Takes (attr_at rest) after (Err e) → Takes (skipped_at start) after (Err e)
attr_refused start next skipped same e after cut = seen_refused start after e (stops next skipped.so_far same e after cut)

pub all_skipped : (start : Rest) {before left : ℕ} {rest : Rest} → Skipped (counted_at attr_at start) before left rest → left ≡ 0 → (len : ℕ) → len + length rest.bytes ≡ before → skipped_at start ≡ Ok (len, rest)
all_skipped start {rest = rest} skipped e len is =
    let same : len ≡ attrs_len skipped.got = omega (arith, skipped.bytes, is) in
    rw (is_done skipped.so_far e, same) refl

-- The parts of a Code attribute are as long as its content.
use Rattle.std.proofs.Common.{◌≡◌, ℕ, zero, suc, ◌+◌, ◌*◌, ◌≤◌, ltb, List, [], ◌∷◌, ◌++◌, length, take, drop, Some, Ok, refl, subst, arith, length-append, length-drop}
use Rattle.std.specs.Int.{Width, w16, w32, byte_len, from_be_bytes}
use Rattle.std.specs.List.{flat_map}
use Rattle.std.proofs.lemmas.Bool.{ltb-false, eqb-true}
use Rattle.std.proofs.lemmas.List.{length-take}
use Rattle.class_model.specs.Checks.{fault}
use Rattle.class_model.specs.Code.{handler_at, inner_at, part_at, code_part}
use Rattle.class_model.specs.Cutting.{Rest, Cut, behind, bytes_at, number_at, u2_at, u4_at, many_at, counted_at}
use Rattle.class_model.specs.Laws.Cuts.{bind_ok, same_done, guard_false, whole_some}
use Rattle.class_model.specs.Spelling.{u2, u4, handler_bytes, inner_bytes, code_part_bytes}
use Rattle.class_model.specs.declared.class_file.CodePart.{CodePart}
use Rattle.class_model.specs.declared.class_file.Handler.{Handler}
use Rattle.class_model.specs.declared.class_file.InnerAttr.{InnerAttr}
use Rattle.class_model.specs.declared.fault.FileRule.TheVariants as rules
use Rattle.class_bytes.specs.Inner.CodeParts.{parts_len}

-- What a part cuts off has a size.
record Spends {X : Type 0} (part : Rest → Cut X) (size : X → ℕ) : Type 0 where
  pub spent : (rest : Rest) (x : X × Rest) → part rest ≡ Ok x → size x.0 + length x.1.bytes ≡ length rest.bytes

-- ---- items

bytes_spend : (count : ℕ) → Spends (bytes_at count) (λ bytes. count)
bytes_spend count = record {
  spent = λ rest x e.
      let g = guard_false (ltb (length rest.bytes) count) (fault rest.at rules.Short) (take count rest.bytes, behind count rest) x e in
      let enough : count ≤ length rest.bytes = ltb-false _ _ g.0 in
      let left : count + length (drop count rest.bytes) ≡ length rest.bytes = omega (arith, length-drop count rest.bytes) in
      subst (λ (z : List ℕ × Rest). count + length z.1.bytes ≡ length rest.bytes) g.1 left;
}

bytes_len : (count : ℕ) (rest : Rest) (x : List ℕ × Rest) → bytes_at count rest ≡ Ok x → length x.0 ≡ count
bytes_len count rest x e =
    let g = guard_false (ltb (length rest.bytes) count) (fault rest.at rules.Short) (take count rest.bytes, behind count rest) x e in
    let enough : count ≤ length rest.bytes = ltb-false _ _ g.0 in
    let len : length (take count rest.bytes) ≡ count = omega (arith, length-take count rest.bytes) in
    subst (λ (z : List ℕ × Rest). length z.0 ≡ count) g.1 len

number_spends : (w : Width) → Spends (number_at w) (λ number. byte_len w)
number_spends w = record {
  spent = λ rest x e.
      let s = bind_ok (bytes_at (byte_len w) rest) _ x e in
      let same = same_done (from_be_bytes w s.0.0, s.0.1) x s.2 in
      subst (λ (z : ℕ × Rest). byte_len w + length z.1.bytes ≡ length rest.bytes) same ((bytes_spend (byte_len w)).spent rest s.0 s.1);
}

u2_spent : (rest : Rest) (x : ℕ × Rest) → u2_at rest ≡ Ok x → 2 + length x.1.bytes ≡ length rest.bytes
u2_spent rest x e = (number_spends w16).spent rest x e

u4_spent : (rest : Rest) (x : ℕ × Rest) → u4_at rest ≡ Ok x → 4 + length x.1.bytes ≡ length rest.bytes
u4_spent rest x e = (number_spends w32).spent rest x e

-- ---- lists of parts

many_spend : {X : Type 0} {part : Rest → Cut X} (spell : X → List ℕ) → Spends part (λ x. length (spell x)) → (count : ℕ) → Spends (many_at part count) (λ xs. length (flat_map spell xs))
unfolding many_at
many_spend spell spends zero = record {
  spent = λ rest x e. subst (λ (z : List _ × Rest). length (flat_map spell z.0) + length z.1.bytes ≡ length rest.bytes) (same_done ([], rest) x e) (omega arith);
}
many_spend {part = part} spell spends (suc count) = record {
  spent = λ rest x e.
      let a = bind_ok (part rest) _ x e in
      let b = bind_ok (many_at part count a.0.1) _ x a.2 in
      let first = spends.spent rest a.0 a.1 in
      let others = (many_spend spell spends count).spent a.0.1 b.0 b.1 in
      let all : length (flat_map spell (a.0.0 ∷ b.0.0)) + length b.0.1.bytes ≡ length rest.bytes = omega (arith, first, others, length-append (spell a.0.0) (flat_map spell b.0.0)) in
      subst (λ (z : List _ × Rest). length (flat_map spell z.0) + length z.1.bytes ≡ length rest.bytes) (same_done (a.0.0 ∷ b.0.0, b.0.1) x b.2) all;
}

counted_spend : {X : Type 0} {part : Rest → Cut X} (spell : X → List ℕ) → Spends part (λ x. length (spell x)) → Spends (counted_at part) (λ xs. 2 + length (flat_map spell xs))
counted_spend {part = part} spell spends = record {
  spent = λ rest x e.
      let n = bind_ok (u2_at rest) _ x e in
      omega (arith, u2_spent rest n.0 n.1, (many_spend spell spends n.0.0).spent n.0.1 x n.2);
}

-- ---- handlers and attributes

handler_spends : Spends handler_at (λ handler. length (handler_bytes handler))
handler_spends = record {
  spent = λ rest x e.
      let from = bind_ok (u2_at rest) _ x e in
      let end = bind_ok (u2_at from.0.1) _ x from.2 in
      let at = bind_ok (u2_at end.0.1) _ x end.2 in
      let type = bind_ok (u2_at at.0.1) _ x at.2 in
      let made : Handler = record { start = from.0.0; end = end.0.0; at = at.0.0; catch_type = type.0.0 } in
      let all : length (handler_bytes made) + length type.0.1.bytes ≡ length rest.bytes =
      omega (arith, u2_spent rest from.0 from.1, u2_spent from.0.1 end.0 end.1, u2_spent end.0.1 at.0 at.1, u2_spent at.0.1 type.0 type.1) in
      subst (λ (z : Handler × Rest). length (handler_bytes z.0) + length z.1.bytes ≡ length rest.bytes) (same_done (made, type.0.1) x type.2) all;
}

inner_spends : Spends inner_at (λ attr. length (inner_bytes attr))
inner_spends = record {
  spent = λ rest x e.
      let name = bind_ok (u2_at rest) _ x e in
      let len = bind_ok (u4_at name.0.1) _ x name.2 in
      let content = bind_ok (bytes_at len.0.0 len.0.1) _ x len.2 in
      let made : InnerAttr = record { name = name.0.0; bytes = content.0.0 } in
      let all : length (inner_bytes made) + length content.0.1.bytes ≡ length rest.bytes =
      omega (arith, u2_spent rest name.0 name.1, u4_spent name.0.1 len.0 len.1, (bytes_spend len.0.0).spent len.0.1 content.0 content.1, bytes_len len.0.0 len.0.1 content.0 content.1) in
      subst (λ (z : InnerAttr × Rest). length (inner_bytes z.0) + length z.1.bytes ≡ length rest.bytes) (same_done (made, content.0.1) x content.2) all;
}

handlers_len : (handlers : List Handler) → length (flat_map handler_bytes handlers) ≡ 8 * length handlers
handlers_len [] = refl
handlers_len (handler ∷ handlers) = omega (arith, handlers_len handlers, length-append (handler_bytes handler) (flat_map handler_bytes handlers))

-- ---- the content

part_spends : Spends part_at (λ part. 8 + parts_len part)
part_spends = record {
  spent = λ rest x e.
      let stack = bind_ok (u2_at rest) _ x e in
      let locals = bind_ok (u2_at stack.0.1) _ x stack.2 in
      let len = bind_ok (u4_at locals.0.1) _ x locals.2 in
      let code = bind_ok (bytes_at len.0.0 len.0.1) _ x len.2 in
      let handlers = bind_ok (counted_at handler_at code.0.1) _ x code.2 in
      let attrs = bind_ok (counted_at inner_at handlers.0.1) _ x handlers.2 in
      let made : CodePart = record { max_stack = stack.0.0; max_locals = locals.0.0; code = code.0.0; handlers = handlers.0.0; attrs = attrs.0.0 } in
      let all : 8 + parts_len made + length attrs.0.1.bytes ≡ length rest.bytes =
      omega (
        arith,
        u2_spent rest stack.0 stack.1,
        u2_spent stack.0.1 locals.0 locals.1,
        u4_spent locals.0.1 len.0 len.1,
        (bytes_spend len.0.0).spent len.0.1 code.0 code.1,
        bytes_len len.0.0 len.0.1 code.0 code.1,
        (counted_spend handler_bytes handler_spends).spent code.0.1 handlers.0 handlers.1,
        handlers_len handlers.0.0,
        (counted_spend inner_bytes inner_spends).spent handlers.0.1 attrs.0 attrs.1,
      ) in
      subst (λ (z : CodePart × Rest). 8 + parts_len z.0 + length z.1.bytes ≡ length rest.bytes) (same_done (made, attrs.0.1) x attrs.2) all;
}

pub part_fills : (content : List ℕ) (part : CodePart) → code_part content ≡ Some part → 8 + parts_len part ≡ length content
part_fills content part e =
    let start : Rest = record { at = 0; bytes = content } in
    let w = whole_some (part_at start) part e in
    let spent = part_spends.spent start w.0 w.1 in
    subst (λ (p : CodePart). 8 + parts_len p ≡ length content) w.3 (omega (arith, spent, eqb-true _ _ w.2))

sums : (a b c d e f g h : List ℕ) → length (a ++ b ++ (c ++ d) ++ (e ++ f) ++ (g ++ h)) ≡ length a + length b + (length c + length d) + (length e + length f) + (length g + length h)
sums a b c d e f g h = simp length-append

pub part_len : (part : CodePart) → length (code_part_bytes part) ≡ 8 + parts_len part
part_len part =
    let all = sums (u2 part.max_stack) (u2 part.max_locals) (u4 (length part.code)) part.code (u2 (length part.handlers)) (flat_map handler_bytes part.handlers) (u2 (length part.attrs)) (flat_map inner_bytes part.attrs) in
    omega (arith, all, handlers_len part.handlers)

-- The content of a Code attribute that is cut from its own spelling fits its items.
use Rattle.std.proofs.Common.{◌≡◌, ◌+◌, ◌^◌, ◌<◌, ◌≤◌, ℕ, zero, suc, List, [], ◌∷◌, ◌++◌, length, Some, Ok, refl, sym, ap, subst, ◌∙◌, arith, append_assoc}
use Rattle.std.specs.List.{AllByRecursion, flat_map}
use Rattle.std.proofs.lemmas.Bool.{eqb-true}
use Rattle.std.proofs.lemmas.List.{append-nil, length-append}
use Rattle.class_model.specs.Code.{handler_at, inner_at, part_at, code_part}
use Rattle.class_model.specs.Cutting.{Rest, Cut, uncut, bytes_at, u2_at, u4_at, many_at, counted_at}
use Rattle.class_model.specs.Laws.Cuts.{bind_ok, same_done, whole_some}
use Rattle.class_model.specs.Laws.Lists.{AllByRecursion-weaker}
use Rattle.class_model.specs.Spelling.{u2, u4, inner_bytes, handler_bytes, code_part_bytes}
use Rattle.class_model.specs.declared.class_file.CodePart.{CodePart}
use Rattle.class_model.specs.declared.class_file.Handler.{Handler}
use Rattle.class_model.specs.declared.class_file.InnerAttr.{InnerAttr}
use Rattle.written_files.proofs.WrittenClasses.OwnParts.{IsOwn, IsCounted, bytes_taken, counted_own, text_taken, u2_any, u4_any}
use Rattle.class_bytes.specs.Counts.{FitsInner, FitsInners, FitsPart}
use Rattle.class_bytes.specs.Numbers.{HandlerNumbers, InnerNumber, PartNumbers}

-- ---- lengths

-- what is cut is as long as its spelling
record HasLen {X : Type 0} (part : Rest → Cut X) (spell : X → List ℕ) : Type 0 where
  len : (rest : Rest) (x : X × Rest) → part rest ≡ Ok x → length rest.bytes ≡ length (spell x.0) + length x.1.bytes

u2_len : (rest : Rest) (x : ℕ × Rest) → u2_at rest ≡ Ok x → length rest.bytes ≡ 2 + length x.1.bytes
u2_len rest x e =
    let item = bind_ok (bytes_at 2 rest) _ x e in
    let same : item.0.1 ≡ x.1 = ap (λ (y : ℕ × Rest). y.1) (same_done _ x item.2) in
    let left : length item.0.1.bytes ≡ length x.1.bytes = ap (λ (r : Rest). length r.bytes) same in
    let taken = (bytes_taken 2 rest item.0 item.1).within in
    omega (arith, left, taken)

u4_len : (rest : Rest) (x : ℕ × Rest) → u4_at rest ≡ Ok x → length rest.bytes ≡ 4 + length x.1.bytes
u4_len rest x e =
    let item = bind_ok (bytes_at 4 rest) _ x e in
    let same : item.0.1 ≡ x.1 = ap (λ (y : ℕ × Rest). y.1) (same_done _ x item.2) in
    let left : length item.0.1.bytes ≡ length x.1.bytes = ap (λ (r : Rest). length r.bytes) same in
    let taken = (bytes_taken 4 rest item.0 item.1).within in
    omega (arith, left, taken)

many_len : {X : Type 0} {part : Rest → Cut X} {spell : X → List ℕ} → HasLen part spell → (count : ℕ) → HasLen (many_at part count) (flat_map spell)
unfolding many_at
many_len {X} {part} {spell} long zero = record {
  len = λ rest x e. subst (λ (y : List X × Rest). length rest.bytes ≡ length (flat_map spell y.0) + length y.1.bytes) (same_done ([], rest) x e) (omega arith);
}
many_len {X} {part} {spell} long (suc count) = record {
  len = λ rest x e.
      let first = bind_ok (part rest) _ x e in
      let others = bind_ok (many_at part count first.0.1) _ x first.2 in
      let one = long.len rest first.0 first.1 in
      let rec = (many_len long count).len first.0.1 others.0 others.1 in
      let both = length-append (spell first.0.0) (flat_map spell others.0.0) in
      subst (λ (y : List X × Rest). length rest.bytes ≡ length (flat_map spell y.0) + length y.1.bytes)
      (same_done (first.0.0 ∷ others.0.0, others.0.1) x others.2) (omega (arith, one, rec, both));
}

counted_len : {X : Type 0} {part : Rest → Cut X} {spell : X → List ℕ} → HasLen part spell → HasLen (counted_at part) (λ xs. u2 (length xs) ++ flat_map spell xs)
counted_len {X} {part} {spell} long = record {
  len = λ rest x e.
      let count = bind_ok (u2_at rest) _ x e in
      let one = u2_len rest count.0 count.1 in
      let many = (many_len long count.0.0).len count.0.1 x count.2 in
      omega (arith, one, many);
}

handler_len : HasLen handler_at handler_bytes
handler_len = record {
  len = λ rest x e.
      let from = bind_ok (u2_at rest) _ x e in
      let end = bind_ok (u2_at from.0.1) _ x from.2 in
      let at = bind_ok (u2_at end.0.1) _ x end.2 in
      let type = bind_ok (u2_at at.0.1) _ x at.2 in
      let a = u2_len rest from.0 from.1 in
      let b = u2_len from.0.1 end.0 end.1 in
      let c = u2_len end.0.1 at.0 at.1 in
      let d = u2_len at.0.1 type.0 type.1 in
      let left : length type.0.1.bytes ≡ length x.1.bytes = ap (λ (y : Handler × Rest). length y.1.bytes) (same_done _ x type.2) in
      omega (arith, a, b, c, d, left);
}

inner_len : HasLen inner_at inner_bytes
inner_len = record {
  len = λ rest x e.
      let name = bind_ok (u2_at rest) _ x e in
      let len = bind_ok (u4_at name.0.1) _ x name.2 in
      let content = bind_ok (bytes_at len.0.0 len.0.1) _ x len.2 in
      let a = u2_len rest name.0 name.1 in
      let b = u4_len name.0.1 len.0 len.1 in
      let c = bytes_taken len.0.0 len.0.1 content.0 content.1 in
      let long = c.long in
      let within = c.within in
      subst (λ (y : InnerAttr × Rest). length rest.bytes ≡ length (inner_bytes y.0) + length y.1.bytes) (same_done _ x content.2) (omega (arith, a, b, long, within));
}

part_len : HasLen part_at code_part_bytes
part_len = record {
  len = λ rest x e.
      let stack = bind_ok (u2_at rest) _ x e in
      let locals = bind_ok (u2_at stack.0.1) _ x stack.2 in
      let len = bind_ok (u4_at locals.0.1) _ x locals.2 in
      let code = bind_ok (bytes_at len.0.0 len.0.1) _ x len.2 in
      let handlers = bind_ok (counted_at handler_at code.0.1) _ x code.2 in
      let attrs = bind_ok (counted_at inner_at handlers.0.1) _ x handlers.2 in
      let a = u2_len rest stack.0 stack.1 in
      let b = u2_len stack.0.1 locals.0 locals.1 in
      let c = u4_len locals.0.1 len.0 len.1 in
      let d = bytes_taken len.0.0 len.0.1 code.0 code.1 in
      let long = d.long in
      let within = d.within in
      let h = (counted_len handler_len).len code.0.1 handlers.0 handlers.1 in
      let i = (counted_len inner_len).len handlers.0.1 attrs.0 attrs.1 in
      let in_front = code.0.0 in
      let of_handlers = flat_map handler_bytes handlers.0.0 in
      let of_attrs = flat_map inner_bytes attrs.0.0 in
      let one = length-append (code.0.0 ++ (u2 (length handlers.0.0) ++ of_handlers)) (u2 (length attrs.0.0) ++ of_attrs) in
      let two = length-append code.0.0 (u2 (length handlers.0.0) ++ of_handlers) in
      subst (λ (y : CodePart × Rest). length rest.bytes ≡ length (code_part_bytes y.0) + length y.1.bytes) (same_done _ x attrs.2)
      (omega (arith, a, b, c, long, within, h, i, one, two));
}

pub code_len : (content : List ℕ) (part : CodePart) → code_part content ≡ Some part → length (code_part_bytes part) ≡ length content
code_len content part e =
    let w = whole_some (part_at (uncut content)) part e in
    let long = part_len.len (uncut content) w.0 w.1 in
    let ends : length w.0.1.bytes ≡ 0 = eqb-true _ _ w.2 in
    subst (λ (q : CodePart). length (code_part_bytes q) ≡ length content) w.3 (omega (arith, ends, long))

-- ---- from their own spelling

handler_own : IsOwn handler_at handler_bytes HandlerNumbers
handler_own = record {
  own = λ rest x back e stands.
      let from = bind_ok (u2_at rest) _ x e in
      let end = bind_ok (u2_at from.0.1) _ x from.2 in
      let at = bind_ok (u2_at end.0.1) _ x end.2 in
      let type = bind_ok (u2_at at.0.1) _ x at.2 in
      subst (λ (y : Handler × Rest). rest.bytes ≡ handler_bytes y.0 ++ back → (y.1.bytes ≡ back) × HandlerNumbers y.0) (same_done _ x type.2)
      (λ s.
      let a = u2_any from.0.0 rest from.0 (u2 end.0.0 ++ (u2 at.0.0 ++ (u2 type.0.0 ++ back))) from.1 s in
      let b = u2_any end.0.0 from.0.1 end.0 (u2 at.0.0 ++ (u2 type.0.0 ++ back)) end.1 a.behind in
      let c = u2_any at.0.0 end.0.1 at.0 (u2 type.0.0 ++ back) at.1 b.behind in
      let d = u2_any type.0.0 at.0.1 type.0 back type.1 c.behind in
      (d.behind, record { start = a.less; end = b.less; at = c.less; catch_type = d.less })) stands;
}

record InnerHolds (attr : InnerAttr) : Type 0 where
  pub fits : FitsInner attr
  pub number : InnerNumber attr

inner_own : IsOwn inner_at inner_bytes InnerHolds
inner_own = record {
  own = λ rest x back e stands.
      let name = bind_ok (u2_at rest) _ x e in
      let len = bind_ok (u4_at name.0.1) _ x name.2 in
      let content = bind_ok (bytes_at len.0.0 len.0.1) _ x len.2 in
      subst (λ (y : InnerAttr × Rest). rest.bytes ≡ inner_bytes y.0 ++ back → (y.1.bytes ≡ back) × InnerHolds y.0) (same_done _ x content.2)
      (λ s.
      let text = content.0.0 in
      let a = u2_any name.0.0 rest name.0 (u4 (length text) ++ (text ++ back)) name.1 s in
      let b = u4_any (length text) name.0.1 len.0 (text ++ back) len.1 a.behind in
      let long = (bytes_taken len.0.0 len.0.1 content.0 content.1).long in
      let c = text_taken len.0.0 len.0.1 content.0 text back content.1 b.behind long in
      let less = b.less in
      (c.1, record { fits = omega (arith, less, long); number = a.less })) stands;
}

record PartHolds (part : CodePart) : Type 0 where
  pub code : length part.code < 2 ^ 32
  pub handlers : length part.handlers ≤ 65535
  pub attrs : FitsInners part.attrs
  pub numbers : PartNumbers part

part_own : IsOwn part_at code_part_bytes PartHolds
part_own = record {
  own = λ rest x back e stands.
      let stack = bind_ok (u2_at rest) _ x e in
      let locals = bind_ok (u2_at stack.0.1) _ x stack.2 in
      let len = bind_ok (u4_at locals.0.1) _ x locals.2 in
      let code = bind_ok (bytes_at len.0.0 len.0.1) _ x len.2 in
      let handlers = bind_ok (counted_at handler_at code.0.1) _ x code.2 in
      let attrs = bind_ok (counted_at inner_at handlers.0.1) _ x handlers.2 in
      subst (λ (y : CodePart × Rest). rest.bytes ≡ code_part_bytes y.0 ++ back → (y.1.bytes ≡ back) × PartHolds y.0) (same_done _ x attrs.2)
      (λ s.
      let text = code.0.0 in
      let of_handlers = u2 (length handlers.0.0) ++ flat_map handler_bytes handlers.0.0 in
      let of_attrs = u2 (length attrs.0.0) ++ flat_map inner_bytes attrs.0.0 in
      let front = u2 stack.0.0 ++ (u2 locals.0.0 ++ u4 (length text)) in
      let regroup : ((text ++ of_handlers) ++ of_attrs) ++ back ≡ text ++ (of_handlers ++ (of_attrs ++ back)) =
      append_assoc (text ++ of_handlers) of_attrs back ∙ append_assoc text of_handlers (of_attrs ++ back) in
      let grouped : rest.bytes ≡ front ++ (text ++ (of_handlers ++ (of_attrs ++ back))) = s ∙ ap (λ (more : List ℕ). front ++ more) regroup in
      let a = u2_any stack.0.0 rest stack.0 (u2 locals.0.0 ++ (u4 (length text) ++ (text ++ (of_handlers ++ (of_attrs ++ back))))) stack.1 grouped in
      let b = u2_any locals.0.0 stack.0.1 locals.0 (u4 (length text) ++ (text ++ (of_handlers ++ (of_attrs ++ back)))) locals.1 a.behind in
      let c = u4_any (length text) locals.0.1 len.0 (text ++ (of_handlers ++ (of_attrs ++ back))) len.1 b.behind in
      let long = (bytes_taken len.0.0 len.0.1 code.0 code.1).long in
      let d = text_taken len.0.0 len.0.1 code.0 text (of_handlers ++ (of_attrs ++ back)) code.1 c.behind long in
      let h = (counted_own handler_own).own code.0.1 handlers.0 (of_attrs ++ back) handlers.1 d.1 in
      let i = (counted_own inner_own).own handlers.0.1 attrs.0 back attrs.1 h.0 in
      let less = c.less in (
        i.0,
        record {
          code = omega (arith, less, long);
          handlers = h.1.few;
          attrs = record { count = i.1.few; each = AllByRecursion-weaker InnerHolds FitsInner (λ attr h. h.fits) attrs.0.0 i.1.each };
          numbers = record {
            max_stack = a.less;
            max_locals = b.less;
            handlers = h.1.each;
            attrs = AllByRecursion-weaker InnerHolds InnerNumber (λ attr h. h.number) attrs.0.0 i.1.each;
          };
        },
      )) stands;
}

-- a content that is cut as parts that spell it
pub record CodeFits (part : CodePart) : Type 0 where
  pub fits : FitsPart part
  pub numbers : PartNumbers part

pub code_fits : (part : CodePart) → code_part (code_part_bytes part) ≡ Some part → length (code_part_bytes part) < 2 ^ 32 → CodeFits part
code_fits part e short =
    let text = code_part_bytes part in
    let w = whole_some (part_at (uncut text)) part e in
    let own = part_own.own (uncut text) w.0 [] w.1 (ap code_part_bytes (sym w.3) ∙ sym (append-nil (code_part_bytes w.0.0))) in
    let holds = subst PartHolds w.3 own.1 in
    record { fits = record { content = short; code = holds.code; handlers = holds.handlers; attrs = holds.attrs }; numbers = holds.numbers }

-- The parts of a class file that are cut are as long as what spells them; and what is cut from a class file's own bytes are its parts, so that its
-- counts are numbers of two bytes.
use Rattle.std.proofs.Common.{◌≡◌, ◌==◌, ◌<◌, ℕ, List, [], ◌∷◌, ◌++◌, drop, take, length, Some, Ok, refl, sym, ap, subst, ◌∙◌, arith, length-drop, ltb}
use Rattle.std.specs.List.{flat_map}
use Rattle.std.specs.Int.{w16, from_be_bytes}
use Rattle.std.proofs.lemmas.Bool.{eqb-true}
use Rattle.std.proofs.lemmas.List.{append_assoc}
use Rattle.class_model.specs.Checks.{fault}
use Rattle.class_model.specs.Code.{handler_at, inner_at, part_at, code_part}
use Rattle.class_model.specs.Cutting.{Rest, Version, behind, attr_at, bytes_at, counted_at, field_at, method_at, u2_at, u4_at, uncut, version_at}
use Rattle.class_model.specs.Laws.Cuts.{bind_ok, guard_false, guard_true, same_done, whole_some}
use Rattle.class_model.specs.Spelling.{u2, u4, u2s, inner_bytes, handler_bytes, code_part_bytes, attr_bytes, field_bytes, method_bytes, pool_bytes, magic}
use Rattle.class_model.specs.declared.class_file.Attr.TheVariants.{Raw}
use Rattle.class_model.specs.declared.class_file.ClassFile.{ClassFile}
use Rattle.class_model.specs.declared.class_file.CodePart.{CodePart}
use Rattle.class_model.specs.declared.fault.FileRule.TheVariants as rules
use Rattle.expanded_runs.proofs.Plans.TakenParts.{IsAsLong, Always, Takes, Takes-then, takes_none, step, made, bytes_long, many_long, u2_long, u4_long, counted_long}

-- ---- attributes and members

pub attr_long : IsAsLong attr_at attr_bytes Always
attr_long = record {
  takes = λ rest x e.
      let name = step u2_long (takes_none rest) _ x e in
      let len = step u4_long name.takes _ x name.goes_on in
      let content = step (bytes_long len.got.0) len.takes _ x len.goes_on in
      let counted = subst (λ (k : ℕ). Takes rest (u2 name.got.0 ++ u4 k ++ content.got.0) content.got.1) (sym content.holds) content.takes in
      made attr_bytes Always rest (Raw name.got.0 content.got.0, content.got.1) x counted tt content.goes_on;
}

pub field_long : IsAsLong field_at field_bytes Always
field_long = record {
  takes = λ rest x e.
      let flags = step u2_long (takes_none rest) _ x e in
      let name = step u2_long flags.takes _ x flags.goes_on in
      let desc = step u2_long name.takes _ x name.goes_on in
      let attrs = step (counted_long attr_long) desc.takes _ x desc.goes_on in
      made field_bytes Always rest (record { flags = flags.got.0; name = name.got.0; desc = desc.got.0; attrs = attrs.got.0 }, attrs.got.1) x attrs.takes tt attrs.goes_on;
}

pub method_long : IsAsLong method_at method_bytes Always
method_long = record {
  takes = λ rest x e.
      let flags = step u2_long (takes_none rest) _ x e in
      let name = step u2_long flags.takes _ x flags.goes_on in
      let desc = step u2_long name.takes _ x name.goes_on in
      let attrs = step (counted_long attr_long) desc.takes _ x desc.goes_on in
      made method_bytes Always rest (record { flags = flags.got.0; name = name.got.0; desc = desc.got.0; attrs = attrs.got.0 }, attrs.got.1) x attrs.takes tt attrs.goes_on;
}

-- ---- the content of a Code attribute

handler_long : IsAsLong handler_at handler_bytes Always
handler_long = record {
  takes = λ rest x e.
      let from = step u2_long (takes_none rest) _ x e in
      let end = step u2_long from.takes _ x from.goes_on in
      let at = step u2_long end.takes _ x end.goes_on in
      let type = step u2_long at.takes _ x at.goes_on in
      made handler_bytes Always rest (record { start = from.got.0; end = end.got.0; at = at.got.0; catch_type = type.got.0 }, type.got.1) x type.takes tt type.goes_on;
}

inner_long : IsAsLong inner_at inner_bytes Always
inner_long = record {
  takes = λ rest x e.
      let name = step u2_long (takes_none rest) _ x e in
      let len = step u4_long name.takes _ x name.goes_on in
      let content = step (bytes_long len.got.0) len.takes _ x len.goes_on in
      let counted = subst (λ (k : ℕ). Takes rest (u2 name.got.0 ++ u4 k ++ content.got.0) content.got.1) (sym content.holds) content.takes in
      made inner_bytes Always rest (record { name = name.got.0; bytes = content.got.0 }, content.got.1) x counted tt content.goes_on;
}

part_long : IsAsLong part_at code_part_bytes Always
part_long = record {
  takes = λ rest x e.
      let stack = step u2_long (takes_none rest) _ x e in
      let locals = step u2_long stack.takes _ x stack.goes_on in
      let len = step u4_long locals.takes _ x locals.goes_on in
      let bytes = step (bytes_long len.got.0) len.takes _ x len.goes_on in
      let counted = subst (λ (k : ℕ). Takes rest (u2 stack.got.0 ++ u2 locals.got.0 ++ u4 k ++ bytes.got.0) bytes.got.1) (sym bytes.holds) bytes.takes in
      let handlers = step (counted_long handler_long) counted _ x bytes.goes_on in
      let attrs = step (counted_long inner_long) handlers.takes _ x handlers.goes_on in
      made code_part_bytes Always rest (record { max_stack = stack.got.0; max_locals = locals.got.0; code = bytes.got.0; handlers = handlers.got.0; attrs = attrs.got.0 }, attrs.got.1) x attrs.takes tt attrs.goes_on;
}

abbrev pub version_bytes : Version → List ℕ
version_bytes version = u4 magic ++ u2 version.minor ++ u2 version.major

-- the bytes of a class file before its methods
abbrev pub before_methods : ClassFile → List ℕ
before_methods c =
    u4 magic ++ u2 c.minor ++ u2 c.major ++ pool_bytes c.pool
    ++ u2 c.flags ++ u2 c.this_class ++ u2 c.super_class
    ++ (u2 (length c.interfaces) ++ u2s c.interfaces)
    ++ (u2 (length c.fields) ++ flat_map field_bytes c.fields)

pub version_long : IsAsLong version_at version_bytes Always
version_long = record {
  takes = λ rest x e.
      let first = step u4_long (takes_none rest) _ x e in
      let magical = bind_ok _ _ x first.goes_on in
      let g = guard_true (first.got.0 == magic) (fault 0 rules.Magic) first.got.1 magical.0 magical.1 in
      let behind : Takes rest (u4 magic) magical.0 = subst (λ (r : Rest). Takes rest (u4 magic) r) g.1 (subst (λ (k : ℕ). Takes rest (u4 k) first.got.1) (eqb-true _ _ g.0) first.takes) in
      let minor = step u2_long behind _ x magical.2 in
      let major = step u2_long minor.takes _ x minor.goes_on in
      made version_bytes Always rest (record { minor = minor.got.0; major = major.got.0 }, major.got.1) x major.takes tt major.goes_on;
}

-- ---- what stands behind a text

drop_front : (front back : List ℕ) → drop (length front) (front ++ back) ≡ back
drop_front [] back = refl
drop_front (byte ∷ front) back = drop_front front back

pub take_front : (front back : List ℕ) → take (length front) (front ++ back) ≡ front
take_front [] back = refl
take_front (byte ∷ front) back = ap (λ (rest : List ℕ). byte ∷ rest) (take_front front back)

pub after_text : (from after : Rest) (text front back : List ℕ) → Takes from text after → from.bytes ≡ front ++ back → length text ≡ length front
    → after.bytes ≡ back
after_text from after text front back takes stands same =
    takes.behind ∙ ap (λ (n : ℕ). drop n from.bytes) same ∙ ap (drop (length front)) stands ∙ drop_front front back

-- ---- counts

-- a number that is spelled is cut as one of two bytes
spelled_small : (n : ℕ) → from_be_bytes w16 (u2 n) < 65536
spelled_small n = omega arith

u2_small : (rest : Rest) (x : ℕ × Rest) (n : ℕ) (back : List ℕ) → u2_at rest ≡ Ok x → rest.bytes ≡ u2 n ++ back → x.0 < 65536
u2_small rest x n back e stands =
    let item = bind_ok (bytes_at 2 rest) _ x e in
    let g = guard_false (ltb (length rest.bytes) 2) (fault rest.at rules.Short) (take 2 rest.bytes, behind 2 rest) item.0 item.1 in
    let made_of : from_be_bytes w16 item.0.0 ≡ x.0 = ap (λ (y : ℕ × Rest). y.0) (same_done (from_be_bytes w16 item.0.0, item.0.1) x item.2) in
    let is : item.0.0 ≡ u2 n = ap (λ (y : List ℕ × Rest). y.0) (sym g.1) ∙ ap (take 2) stands in
    let small = spelled_small n in
    subst (λ (m : ℕ). m < 65536) (ap (from_be_bytes w16) (sym is) ∙ made_of) small

-- ---- the content of a Code attribute

-- a code has at most so many locals and handlers
pub record IsFew (part : CodePart) : Type 0 where
  pub locals : part.max_locals < 65536
  pub handlers : length part.handlers < 65536

few_of_part : (p : CodePart) (after : Rest) → part_at (uncut (code_part_bytes p)) ≡ Ok (p, after) → IsFew p
few_of_part p after e =
    let rest = uncut (code_part_bytes p) in
    let stack = bind_ok (u2_at rest) _ (p, after) e in
    let locals = bind_ok (u2_at stack.0.1) _ (p, after) stack.2 in
    let len = bind_ok (u4_at locals.0.1) _ (p, after) locals.2 in
    let bytes = bind_ok (bytes_at len.0.0 len.0.1) _ (p, after) len.2 in
    let handlers = bind_ok (counted_at handler_at bytes.0.1) _ (p, after) bytes.2 in
    let attrs = bind_ok (counted_at inner_at handlers.0.1) _ (p, after) handlers.2 in
    let got : CodePart = record { max_stack = stack.0.0; max_locals = locals.0.0; code = bytes.0.0; handlers = handlers.0.0; attrs = attrs.0.0 } in
    let is : got ≡ p = ap (λ (y : CodePart × Rest). y.0) (same_done (got, attrs.0.1) (p, after) attrs.2) in
    let one = (u2_long.takes rest stack.0 stack.1).0 in
    let two = Takes-then rest (u2 stack.0.0) stack.0.1 (u2 locals.0.0) locals.0.1 one (u2_long.takes stack.0.1 locals.0 locals.1).0 in
    let three = Takes-then rest (u2 stack.0.0 ++ u2 locals.0.0) locals.0.1 (u4 len.0.0) len.0.1 two (u4_long.takes locals.0.1 len.0 len.1).0 in
    let four = Takes-then rest (u2 stack.0.0 ++ u2 locals.0.0 ++ u4 len.0.0) len.0.1 bytes.0.0 bytes.0.1 three ((bytes_long len.0.0).takes len.0.1 bytes.0 bytes.1).0 in
    let counted = bind_ok (u2_at bytes.0.1) _ handlers.0 handlers.1 in
    let many = ((many_long handler_long counted.0.0).takes counted.0.1 handlers.0 counted.2).1 in
    let attrs_text = u2 (length p.attrs) ++ flat_map inner_bytes p.attrs in
    let handlers_text = flat_map handler_bytes p.handlers in
    let behind_locals = (u4 (length p.code) ++ p.code ++ (u2 (length p.handlers) ++ handlers_text)) ++ attrs_text in
    let at_locals : stack.0.1.bytes ≡ u2 p.max_locals ++ behind_locals =
    after_text rest stack.0.1 (u2 stack.0.0) (u2 p.max_stack) (u2 p.max_locals ++ behind_locals) one refl refl in
    let code_same : length bytes.0.0 ≡ length p.code = ap (λ (q : CodePart). length q.code) is in
    let front = u2 p.max_stack ++ u2 p.max_locals ++ (u4 (length p.code) ++ p.code) in
    let behind_code = u2 (length p.handlers) ++ (handlers_text ++ attrs_text) in
    let stands : code_part_bytes p ≡ front ++ behind_code =
    append_assoc front (u2 (length p.handlers) ++ handlers_text) attrs_text in
    let at_handlers : bytes.0.1.bytes ≡ behind_code =
    after_text rest bytes.0.1 (u2 stack.0.0 ++ u2 locals.0.0 ++ u4 len.0.0 ++ bytes.0.0) front behind_code four stands (omega (arith, code_same)) in
    record {
      locals = subst (λ (q : CodePart). q.max_locals < 65536) is (u2_small stack.0.1 locals.0 p.max_locals behind_locals locals.1 at_locals);
      handlers =
          let small = u2_small bytes.0.1 counted.0 (length p.handlers) (handlers_text ++ attrs_text) counted.1 at_handlers in
          subst (λ (q : CodePart). length q.handlers < 65536) is (omega (arith, small, many));
    }

pub code_len : (content : List ℕ) (part : CodePart) → code_part content ≡ Some part → length (code_part_bytes part) ≡ length content
code_len content part e =
    let w = whole_some (part_at (uncut content)) part e in
    let took = (part_long.takes (uncut content) w.0 w.1).0 in
    let ends : length w.0.1.bytes ≡ 0 = eqb-true _ _ w.2 in
    let left : length w.0.1.bytes ≡ length (drop (length (code_part_bytes w.0.0)) content) = ap (λ (l : List ℕ). length l) took.behind in
    let many = length-drop (length (code_part_bytes w.0.0)) content in
    subst (λ (q : CodePart). length (code_part_bytes q) ≡ length content) w.3 (omega (arith, ends, left, many, took.within))

pub few_of_code : (part : CodePart) → code_part (code_part_bytes part) ≡ Some part → IsFew part
few_of_code part e =
    let w = whole_some (part_at (uncut (code_part_bytes part))) part e in
    let is : part_at (uncut (code_part_bytes part)) ≡ Ok (part, w.0.1) = w.1 ∙ ap (λ (q : CodePart). Ok (q, w.0.1)) w.3 in
    few_of_part part w.0.1 is

-- The codes of a class file have at most 65,535 local units and as many handlers: their counts are of two bytes.
use Rattle.std.proofs.Common.{◌≡◌, ◌==◌, ◌+◌, ℕ, zero, suc, Bool, true, false, List, [], ◌∷◌, ◌++◌, take, length, map, Option, Some, None, Ok, refl, sym, ap, subst, ◌∙◌, arith, ltb}
use Rattle.std.specs.List.{AllByRecursion, flat_map}
use Rattle.std.proofs.lemmas.List.{append_assoc, length-append}
use Rattle.class_model.specs.Checks.{fault}
use Rattle.class_model.specs.ClassOf.{ClassOf, entered, entered_attr, entered_method}
use Rattle.class_model.specs.Code.{code_part}
use Rattle.class_model.specs.Cutting.{Rest, Version, attr_at, behind, bytes_at, class_file_at, counted_at, many_at, method_at, u2_at, u4_at, uncut, version_at}
use Rattle.class_model.specs.Laws.Cuts.{bind_ok, guard_false, guard_true, same_done}
use Rattle.class_model.specs.Members.{is_named}
use Rattle.class_model.specs.Methods.{code}
use Rattle.class_model.specs.Pool.{Constants}
use Rattle.class_model.specs.Spelling.{attr_bytes, attrs_bytes, class_bytes, code_part_bytes, method_bytes, u2, u4}
use Rattle.class_model.specs.declared.class_file.Attr.{Attr}
use Rattle.class_model.specs.declared.class_file.Attr.TheVariants.{Raw, Code}
use Rattle.class_model.specs.declared.class_file.ClassFile.{ClassFile}
use Rattle.class_model.specs.declared.class_file.CodePart.{CodePart}
use Rattle.class_model.specs.declared.class_file.Method.{Method}
use Rattle.class_model.specs.declared.fault.FileRule.TheVariants as rules
use Rattle.expanded_runs.proofs.Plans.TakenClasses.{IsFew, after_text, attr_long, before_methods, code_len, few_of_code, field_long, take_front, version_long}
use Rattle.expanded_runs.proofs.Plans.TakenParts.{Takes-then, bytes_long, counted_long, step, u2_long, u4_long}
use Rattle.expanded_runs.proofs.Plans.TakenPools.{pool_long}

abbrev pub HasFew : Attr → Type 0
HasFew (Code name part) = IsFew part
HasFew (Raw name bytes) = Unit {0}

abbrev pub AreFew : Method → Type 0
AreFew method = AllByRecursion HasFew method.attrs

abbrev IsRaw : Attr → Type 0
IsRaw (Raw name bytes) = Unit {0}
IsRaw (Code name part) = ⊥

-- ---- an attribute

module _ (pool : Constants) where
  abbrev entered_as : (name : ℕ) (bytes : List ℕ) (named : Bool) (found : Option CodePart) → Attr
  entered_as name bytes true (Some part) = Code name part
  entered_as name bytes named found = Raw name bytes

  is_entered : (name : ℕ) (bytes : List ℕ) (named : Bool) (found : Option CodePart)
      → is_named pool code (Raw name bytes) ≡ named
      → code_part bytes ≡ found
      → entered_attr pool (Raw name bytes) ≡ entered_as name bytes named found
  is_entered name bytes true (Some part) n e = rw (n, e) refl
  is_entered name bytes true None n e = rw (n, e) refl
  is_entered name bytes false found n e = rw n refl

  -- what is entered is as long as before
  as_long_by : (name : ℕ) (bytes : List ℕ) (named : Bool) (found : Option CodePart) → code_part bytes ≡ found
      → length (attr_bytes (entered_as name bytes named found)) ≡ length (attr_bytes (Raw name bytes))
  as_long_by name bytes true (Some part) e = let same = code_len bytes part e in omega (arith, same)
  as_long_by name bytes true None e = refl
  as_long_by name bytes false found e = refl

  attr_as_long : (attr : Attr) → IsRaw attr → length (attr_bytes (entered_attr pool attr)) ≡ length (attr_bytes attr)
  attr_as_long (Raw name bytes) raw =
      ap (λ (a : Attr). length (attr_bytes a)) (is_entered name bytes (is_named pool code (Raw name bytes)) (code_part bytes) refl refl)
      ∙ as_long_by name bytes (is_named pool code (Raw name bytes)) (code_part bytes) refl
  attr_as_long (Code name part) raw = absurd raw

  -- what is cut from the bytes of an attribute that is entered is its content
  few_by : (name : ℕ) (bytes : List ℕ) (named : Bool) (found : Option CodePart) → code_part bytes ≡ found
      → (back : List ℕ) (rest : Rest) (n l : ℕ × Rest)
      → rest.bytes ≡ attr_bytes (entered_as name bytes named found) ++ back
      → u2_at rest ≡ Ok n
      → u4_at n.1 ≡ Ok l
      → bytes_at l.0 l.1 ≡ Ok (bytes, behind l.0 l.1)
      → HasFew (entered_as name bytes named found)
  few_by name bytes true None e back rest n l stands first second third = tt
  few_by name bytes false found e back rest n l stands first second third = tt
  few_by name bytes true (Some part) e back rest n l stands first second third =
      let text = code_part_bytes part in
      let one = (u2_long.takes rest n first).0 in
      let two = Takes-then rest (u2 n.0) n.1 (u4 l.0) l.1 one (u4_long.takes n.1 l second).0 in
      let at_content : l.1.bytes ≡ text ++ back =
      after_text rest l.1 (u2 n.0 ++ u4 l.0) (u2 name ++ u4 (length text)) (text ++ back) two stands refl in
      let g = guard_false (ltb (length l.1.bytes) l.0) (fault l.1.at rules.Short) (take l.0 l.1.bytes, behind l.0 l.1) (bytes, behind l.0 l.1) third in
      let is : take l.0 l.1.bytes ≡ bytes = ap (λ (y : List ℕ × Rest). y.0) g.1 in
      let long : length bytes ≡ l.0 = ((bytes_long l.0).takes l.1 (bytes, behind l.0 l.1) third).1 in
      let count : l.0 ≡ length text = sym long ∙ sym (code_len bytes part e) in
      let same : bytes ≡ text = sym is ∙ ap (λ (m : ℕ). take m l.1.bytes) count ∙ ap (take (length text)) at_content ∙ take_front text back in
      few_of_code part (sym (ap code_part same) ∙ e)

  attr_few : (rest : Rest) (x : Attr × Rest) (back : List ℕ) → attr_at rest ≡ Ok x
      → rest.bytes ≡ attr_bytes (entered_attr pool x.0) ++ back
      → HasFew (entered_attr pool x.0) × (x.1.bytes ≡ back) × IsRaw x.0
  attr_few rest x back e stands =
      let name = bind_ok (u2_at rest) _ x e in
      let len = bind_ok (u4_at name.0.1) _ x name.2 in
      let content = bind_ok (bytes_at len.0.0 len.0.1) _ x len.2 in
      let got : Attr = Raw name.0.0 content.0.0 in
      let both : (got, content.0.1) ≡ x = same_done (got, content.0.1) x content.2 in
      let is : got ≡ x.0 = ap (λ (y : Attr × Rest). y.0) both in
      let g = guard_false (ltb (length len.0.1.bytes) len.0.0) (fault len.0.1.at rules.Short) (take len.0.0 len.0.1.bytes, behind len.0.0 len.0.1) content.0 content.1 in
      let after : behind len.0.0 len.0.1 ≡ content.0.1 = ap (λ (y : List ℕ × Rest). y.1) g.1 in
      let third : bytes_at len.0.0 len.0.1 ≡ Ok (content.0.0, behind len.0.0 len.0.1) = content.1 ∙ ap (λ (r : Rest). Ok (content.0.0, r)) (sym after) in
      let named = is_named pool code got in
      let found = code_part content.0.0 in
      let entered_is : entered_attr pool x.0 ≡ entered_as name.0.0 content.0.0 named found =
      ap (entered_attr pool) (sym is) ∙ is_entered name.0.0 content.0.0 named found refl refl in
      let stands_so : rest.bytes ≡ attr_bytes (entered_as name.0.0 content.0.0 named found) ++ back = stands ∙ ap (λ (a : Attr). attr_bytes a ++ back) entered_is in
      let few = few_by name.0.0 content.0.0 named found refl back rest name.0 len.0 stands_so name.1 len.1 third in
      let raw : IsRaw x.0 = subst IsRaw is tt in (
        subst HasFew (sym entered_is) few,
        after_text rest x.1 (attr_bytes x.0) (attr_bytes (entered_attr pool x.0)) back (attr_long.takes rest x e).0 stands (sym (attr_as_long x.0 raw)),
        raw,
      )

  -- ---- all attributes of a method

  attrs_few : (count : ℕ) (rest : Rest) (x : List Attr × Rest) (back : List ℕ) → many_at attr_at count rest ≡ Ok x
      → rest.bytes ≡ flat_map attr_bytes (map (entered_attr pool) x.0) ++ back
      → AllByRecursion HasFew (map (entered_attr pool) x.0) × (x.1.bytes ≡ back)
      × (length (flat_map attr_bytes (map (entered_attr pool) x.0)) ≡ length (flat_map attr_bytes x.0))
  unfolding many_at
  attrs_few zero rest x back e stands =
      subst (λ (y : List Attr × Rest). rest.bytes ≡ flat_map attr_bytes (map (entered_attr pool) y.0) ++ back
      → AllByRecursion HasFew (map (entered_attr pool) y.0) × (y.1.bytes ≡ back)
      × (length (flat_map attr_bytes (map (entered_attr pool) y.0)) ≡ length (flat_map attr_bytes y.0)))
      (same_done ([], rest) x e) (λ s. (tt, s, refl)) stands
  attrs_few (suc count) rest x back e stands =
      let first = bind_ok (attr_at rest) _ x e in
      let others = bind_ok (many_at attr_at count first.0.1) _ x first.2 in
      subst (λ (y : List Attr × Rest). rest.bytes ≡ flat_map attr_bytes (map (entered_attr pool) y.0) ++ back
      → AllByRecursion HasFew (map (entered_attr pool) y.0) × (y.1.bytes ≡ back)
      × (length (flat_map attr_bytes (map (entered_attr pool) y.0)) ≡ length (flat_map attr_bytes y.0)))
      (same_done (first.0.0 ∷ others.0.0, others.0.1) x others.2) (λ s.
      let own = attr_bytes (entered_attr pool first.0.0) in
      let more = flat_map attr_bytes (map (entered_attr pool) others.0.0) in
      let one = attr_few rest first.0 (more ++ back) first.1 (s ∙ append_assoc own more back) in
      let rest_few = attrs_few count first.0.1 others.0 back others.1 one.1 in
      let same = attr_as_long first.0.0 one.2 in
      let left = length-append own more in
      let right = length-append (attr_bytes first.0.0) (flat_map attr_bytes others.0.0) in
      ((one.0, rest_few.0), rest_few.1, omega (arith, same, left, right, rest_few.2))) stands

  -- ---- methods

  method_few : (rest : Rest) (x : Method × Rest) (back : List ℕ) → method_at rest ≡ Ok x
      → rest.bytes ≡ method_bytes (entered_method pool x.0) ++ back
      → AreFew (entered_method pool x.0) × (x.1.bytes ≡ back)
  method_few rest x back e stands =
      let flags = bind_ok (u2_at rest) _ x e in
      let name = bind_ok (u2_at flags.0.1) _ x flags.2 in
      let desc = bind_ok (u2_at name.0.1) _ x name.2 in
      let attrs = bind_ok (counted_at attr_at desc.0.1) _ x desc.2 in
      let count = bind_ok (u2_at desc.0.1) _ attrs.0 attrs.1 in
      let got : Method = record { flags = flags.0.0; name = name.0.0; desc = desc.0.0; attrs = attrs.0.0 } in
      let both : (got, attrs.0.1) ≡ x = same_done (got, attrs.0.1) x attrs.2 in
      let one = (u2_long.takes rest flags.0 flags.1).0 in
      let two = Takes-then rest (u2 flags.0.0) flags.0.1 (u2 name.0.0) name.0.1 one (u2_long.takes flags.0.1 name.0 name.1).0 in
      let three = Takes-then rest (u2 flags.0.0 ++ u2 name.0.0) name.0.1 (u2 desc.0.0) desc.0.1 two (u2_long.takes name.0.1 desc.0 desc.1).0 in
      let four = Takes-then rest (u2 flags.0.0 ++ u2 name.0.0 ++ u2 desc.0.0) desc.0.1 (u2 count.0.0) count.0.1 three (u2_long.takes desc.0.1 count.0 count.1).0 in
      subst (λ (y : Method × Rest). rest.bytes ≡ method_bytes (entered_method pool y.0) ++ back → AreFew (entered_method pool y.0) × (y.1.bytes ≡ back)) both (λ s.
      let list = map (entered_attr pool) attrs.0.0 in
      let texts = flat_map attr_bytes list in
      let at_attrs : count.0.1.bytes ≡ texts ++ back =
      after_text rest count.0.1 (u2 flags.0.0 ++ u2 name.0.0 ++ u2 desc.0.0 ++ u2 count.0.0) (u2 flags.0.0 ++ u2 name.0.0 ++ u2 desc.0.0 ++ u2 (length list)) (texts ++ back) four s refl in
      let few = attrs_few count.0.0 count.0.1 attrs.0 back count.2 at_attrs in
      (few.0, few.1)) stands

  methods_few : (count : ℕ) (rest : Rest) (x : List Method × Rest) (back : List ℕ) → many_at method_at count rest ≡ Ok x
      → rest.bytes ≡ flat_map method_bytes (map (entered_method pool) x.0) ++ back
      → AllByRecursion AreFew (map (entered_method pool) x.0)
  unfolding many_at
  methods_few zero rest x back e stands =
      subst (λ (y : List Method × Rest). AllByRecursion AreFew (map (entered_method pool) y.0)) (same_done ([], rest) x e) tt
  methods_few (suc count) rest x back e stands =
      let first = bind_ok (method_at rest) _ x e in
      let others = bind_ok (many_at method_at count first.0.1) _ x first.2 in
      subst (λ (y : List Method × Rest). rest.bytes ≡ flat_map method_bytes (map (entered_method pool) y.0) ++ back
      → AllByRecursion AreFew (map (entered_method pool) y.0)) (same_done (first.0.0 ∷ others.0.0, others.0.1) x others.2) (λ s.
      let own = method_bytes (entered_method pool first.0.0) in
      let more = flat_map method_bytes (map (entered_method pool) others.0.0) in
      let one = method_few rest first.0 (more ++ back) first.1 (s ∙ append_assoc own more back) in
      (one.0, methods_few count first.0.1 others.0 back others.1 one.1)) stands

-- ---- a class file

both_longer : (front one other : List ℕ) → length one ≡ length other → length (front ++ one) ≡ length (front ++ other)
both_longer front one other same = length-append front one ∙ ap (λ (n : ℕ). length front + n) same ∙ sym (length-append front other)

few_of_cut : (version : Version) (rest : Rest) (cut : ClassFile) (bytes : List ℕ)
    → bytes ≡ class_bytes (entered cut)
    → version_at (uncut bytes) ≡ Ok (version, rest)
    → class_file_at version rest ≡ Ok cut
    → AllByRecursion AreFew (entered cut).methods
few_of_cut version rest cut bytes spelled head e =
    let begun = (version_long.takes (uncut bytes) (version, rest) head).0 in
    let pool = step (pool_long version.major) begun _ cut e in
    let flags = step u2_long pool.takes _ cut pool.goes_on in
    let this = step u2_long flags.takes _ cut flags.goes_on in
    let super = step u2_long this.takes _ cut this.goes_on in
    let interfaces = step (counted_long u2_long) super.takes _ cut super.goes_on in
    let fields = step (counted_long field_long) interfaces.takes _ cut interfaces.goes_on in
    let methods = bind_ok (counted_at method_at fields.got.1) _ cut fields.goes_on in
    let count = bind_ok (u2_at fields.got.1) _ methods.0 methods.1 in
    let attrs = bind_ok (counted_at attr_at methods.0.1) _ cut methods.2 in
    let end = guard_true (length attrs.0.1.bytes == 0) (fault attrs.0.1.at rules.Extra) _ cut attrs.2 in
    let got : ClassFile = record {
      major = version.major;
      minor = version.minor;
      pool = pool.got.0;
      flags = flags.got.0;
      this_class = this.got.0;
      super_class = super.got.0;
      interfaces = interfaces.got.0;
      fields = fields.got.0;
      methods = methods.0.0;
      attrs = attrs.0.0;
    } in
    let begun_methods = Takes-then (uncut bytes) (before_methods got) fields.got.1 (u2 count.0.0) count.0.1 fields.takes (u2_long.takes fields.got.1 count.0 count.1).0 in
    subst (λ (c : ClassFile). bytes ≡ class_bytes (entered c) → AllByRecursion AreFew (entered c).methods) end.1 (λ s.
    let list = map (entered_method pool.got.0) methods.0.0 in
    let texts = flat_map method_bytes list in
    let back = attrs_bytes attrs.0.0 in
    let front = before_methods got ++ u2 (length list) in
    let stands : bytes ≡ front ++ (texts ++ back) =
    s
    ∙ ap (λ (t : List ℕ). t ++ back) (sym (append_assoc (before_methods got) (u2 (length list)) texts))
    ∙ append_assoc front texts back in
    let same : length (before_methods got ++ u2 count.0.0) ≡ length front =
    both_longer (before_methods got) (u2 count.0.0) (u2 (length list)) refl in
    let at_methods : count.0.1.bytes ≡ texts ++ back =
    after_text (uncut bytes) count.0.1 (before_methods got ++ u2 count.0.0) front (texts ++ back) begun_methods stands same in
    methods_few pool.got.0 count.0.0 count.0.1 methods.0 back count.2 at_methods) spelled

-- The bytes of a class file are its own.
pub few_of_class : (class : ClassFile) → ClassOf (class_bytes class) class → AllByRecursion AreFew class.methods
few_of_class class of =
    subst (λ (c : ClassFile). AllByRecursion AreFew c.methods) (sym of.is)
    (few_of_cut of.version of.rest of.cut (class_bytes class) (ap class_bytes of.is) of.head of.is_cut)

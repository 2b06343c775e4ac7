-- The Code that is written of a method has one number of bytes, whatever the indices are by which its frames are spelled.
use Rattle.std.proofs.Common.{◌≡◌, ◌+◌, ◌*◌, ℕ, nat_le, List, [], ◌∷◌, ◌++◌, drop, length, Option, refl, sym, ap, subst, ◌∙◌, inl, inr, arith, length-append, if◌then◌else◌}
use Rattle.std.specs.List.{flat_map}
use Rattle.class_model.specs.Code.{stack_map_table}
use Rattle.class_model.specs.Frames.{listed}
use Rattle.class_model.specs.Methods.{entry_of, home_of}
use Rattle.class_model.specs.Pool.{Constants}
use Rattle.class_model.specs.Spelling.{code_part_bytes, handler_bytes, inner_bytes, u2, u4}
use Rattle.class_model.specs.declared.class_file.CodePart.{CodePart}
use Rattle.class_model.specs.declared.class_file.Handler.{Handler}
use Rattle.class_model.specs.declared.class_file.InnerAttr.{InnerAttr}
use Rattle.class_model.specs.declared.class_file.MethodAt.{MethodAt}
use Rattle.class_model.specs.declared.frame.Frame.{Frame}
use Rattle.class_model.specs.declared.frame.PlacedFrame.{PlacedFrame}
use Rattle.class_model.specs.declared.frame.VType.{VType}
use Rattle.class_model.specs.declared.frame.VType.TheVariants.{Top, Int, Float, Long, Double, Null, UninitThis, Object, Uninit}
use Rattle.class_rewrite.specs.Rewriting.Methods.{IsWholeCode, Rewriting, Rewritten}
use Rattle.code_layout.specs.Layout.{item_ranges, item_starts, placed_bytes, placed_items, start_in}
use Rattle.code_layout.specs.declared.emitted.EmitItem.{EmitItem}
use Rattle.flow_code.specs.WrittenUnits.{written_units}
use Rattle.making_code.specs.Constants.{text_index}
use Rattle.map_frames.specs.Writing.{AreFrames, FitsFrameKind, FrameKind, IsFirst, IsTable, Listed, Same, SameItem, SameItemExtended, Chop, SameExtended, Append, Full, frame_kinds, kind_bytes, listed_at, type_bytes, types_bytes}
use Rattle.map_frames.specs.declared.writing.NamedIndex.{NamedIndex}
use Rattle.member_link.specs.Bodies.{Body}
use Rattle.member_link.specs.Scope.{Scope}
use Rattle.plan_flow.specs.Written.WrittenPrograms.{WrittenMethod}
use Rattle.stackmap_emit.specs.FramesAttribute.{IsFramesAttribute, no_attribute, one_attribute}
use Rattle.stackmap_emit.specs.PlacedFrames.{placed_frames, spelled_in}

-- ---- frames

module _ (names others : List NamedIndex) where
  type_len : (type : VType) → length (type_bytes names type) ≡ length (type_bytes others type)
  type_len Top = refl
  type_len Int = refl
  type_len Float = refl
  type_len Double = refl
  type_len Long = refl
  type_len Null = refl
  type_len UninitThis = refl
  type_len (Object name) = refl
  type_len (Uninit at) = refl

  types_len : (types : List VType) → length (types_bytes names types) ≡ length (types_bytes others types)
  types_len [] = refl
  types_len (type ∷ types) =
      omega (
        arith,
        type_len type,
        types_len types,
        length-append (type_bytes names type) (types_bytes names types),
        length-append (type_bytes others type) (types_bytes others types),
      )

  kind_len : (before : List VType) (frame : Listed) (kind : FrameKind) → length (kind_bytes names before frame kind) ≡ length (kind_bytes others before frame kind)
  kind_len before frame Same = refl
  kind_len before frame SameItem = omega (arith, types_len frame.stack)
  kind_len before frame SameItemExtended = omega (arith, types_len frame.stack)
  kind_len before frame Chop = refl
  kind_len before frame SameExtended = refl
  kind_len before frame Append = omega (arith, types_len (drop (length before) frame.locals))
  kind_len before frame Full =
      omega (
        arith,
        types_len frame.locals,
        types_len frame.stack,
        length-append (types_bytes names frame.locals) (u2 (length frame.stack) ++ types_bytes names frame.stack),
        length-append (types_bytes others frame.locals) (u2 (length frame.stack) ++ types_bytes others frame.stack),
      )

-- one kind is the first that fits
first_is_one : (fits : FrameKind → Type 0) (kinds : List FrameKind) (one other : FrameKind) → IsFirst fits kinds one → IsFirst fits kinds other → one ≡ other
first_is_one fits [] one other first also = absurd first
first_is_one fits (kind ∷ kinds) one other (inl first) (inl also) = first.0 ∙ sym also.0
first_is_one fits (kind ∷ kinds) one other (inl first) (inr also) = absurd (also.0 first.1)
first_is_one fits (kind ∷ kinds) one other (inr first) (inl also) = absurd (first.0 also.1)
first_is_one fits (kind ∷ kinds) one other (inr first) (inr also) = first_is_one fits kinds one other first.1 also.1

abbrev len : List ℕ → ℕ
len bytes = length bytes

frames_len : (names others : List NamedIndex) (from : ℕ) (before : List VType) (frames : List PlacedFrame) (bytes also : List ℕ)
    → AreFrames names from before frames bytes
    → AreFrames others from before frames also
    → length bytes ≡ length also
frames_len names others from before [] bytes also p q = ap len p ∙ sym (ap len q)
frames_len names others from before (placed ∷ frames) bytes also p q =
    let frame : Listed = listed_at from placed in
    let kinds : p.3.kind ≡ q.3.kind = first_is_one (FitsFrameKind before frame) frame_kinds p.3.kind q.3.kind p.3.first q.3.first in
    let first : length p.0 ≡ length q.0 =
    ap len p.3.spelled ∙ kind_len names others before frame p.3.kind
    ∙ ap (λ (kind : FrameKind). length (kind_bytes others before frame kind)) kinds
    ∙ sym (ap len q.3.spelled) in
    let rest : length p.1 ≡ length q.1 = frames_len names others (placed.at + 1) (listed placed.frame) frames p.1 q.1 p.4 q.4 in
    omega (arith, first, rest, ap len p.2, ap len q.2, length-append p.0 p.1, length-append q.0 q.1)

spelled_len : {names others : List NamedIndex} {entry : Frame} {frames : List PlacedFrame} {bytes also : List ℕ}
    → IsTable names entry frames bytes
    → IsTable others entry frames also
    → length bytes ≡ length also
spelled_len {names = names} {others = others} {entry = entry} {frames = frames} p q =
    let same = frames_len names others 0 (listed entry) frames p.inside q.inside p.are_frames q.are_frames in
    omega (arith, same, ap len p.counted, ap len q.counted)

abbrev pub inners_len : List InnerAttr → ℕ
inners_len attrs = length (flat_map inner_bytes attrs)

one_len : (name other : ℕ) (bytes also : List ℕ) → length bytes ≡ length also
    → inners_len (record { name = name; bytes = bytes } ∷ []) ≡ inners_len (record { name = other; bytes = also } ∷ [])
one_len name other bytes also same = omega (arith, same, length-append bytes [], length-append also [])

attrs_len : (pool more : Constants) (entry : Frame) (frames : List PlacedFrame) (attrs also : List InnerAttr)
    → IsFramesAttribute pool entry frames attrs
    → IsFramesAttribute more entry frames also
    → inners_len attrs ≡ inners_len also
attrs_len pool more entry frames _ _ (no_attribute none) (no_attribute none_also) = refl
attrs_len pool more entry frames _ _ (no_attribute none) (one_attribute some named table read) = absurd (some none)
attrs_len pool more entry frames _ _ (one_attribute some named table read) (no_attribute none) = absurd (some none)
attrs_len pool more entry frames _ _ (one_attribute some named table read) (one_attribute some_also named_also table_also read_also) =
    one_len (text_index pool stack_map_table) (text_index more stack_map_table) _ _ (spelled_len table table_also)

-- ---- the whole

sums : (a b c d e f g h : List ℕ) → length (a ++ b ++ (c ++ d) ++ (e ++ f) ++ (g ++ h))
    ≡ length a + length b + (length c + length d) + (length e + length f) + (length g + length h)
sums a b c d e f g h = simp length-append

pub handlers_len : (handlers : List Handler) → length (flat_map handler_bytes handlers) ≡ 8 * length handlers
handlers_len [] = refl
handlers_len (handler ∷ handlers) = omega (arith, handlers_len handlers, length-append (handler_bytes handler) (flat_map handler_bytes handlers))

pub part_len : (part : CodePart) → length (code_part_bytes part) ≡ 12 + length part.code + length (flat_map handler_bytes part.handlers) + inners_len part.attrs
part_len part =
    let all = sums (u2 part.max_stack) (u2 part.max_locals) (u4 (length part.code)) part.code (u2 (length part.handlers)) (flat_map handler_bytes part.handlers)
    (u2 (length part.attrs)) (flat_map inner_bytes part.attrs) in
    omega (arith, all)

abbrev entry_in : Scope → WrittenMethod → Frame
entry_in host one = entry_of (home_of host.class) host.method (record host.part { max_locals = written_units one.flat })

abbrev frames_in : Scope → List ℕ → List (Option Frame) → List PlacedFrame
frames_in host starts stated = if nat_le 50 host.class.major then placed_frames (start_in starts) 0 stated else []

pub code_len : {asked also : ℕ → Type 0} {r : Rewriting} {at : MethodAt} {pool : Constants} (w v : Rewritten) (p : IsWholeCode asked r at pool w)
    (q : IsWholeCode also r at pool v)
    → w.one ≡ v.one
    → w.items ≡ v.items
    → p.host ≡ q.host
    → w.stated ≡ v.stated
    → length (code_part_bytes w.part) ≡ length (code_part_bytes v.part)
code_len w v p q ones items hosts stated =
    let starts : w.laid.starts ≡ v.laid.starts =
    p.framed.laid.starts ∙ ap (λ (x : WrittenMethod). item_starts (spelled_in x.form) w.items) ones
    ∙ ap (λ (x : List EmitItem). item_starts (spelled_in v.one.form) x) items
    ∙ sym q.framed.laid.starts in
    let code : w.part.code ≡ v.part.code =
    p.code ∙ p.framed.laid.bytes
    ∙ ap (λ (x : WrittenMethod). placed_bytes (spelled_in x.form) (placed_items (spelled_in x.form) w.items)) ones
    ∙ ap (λ (x : List EmitItem). placed_bytes (spelled_in v.one.form) (placed_items (spelled_in v.one.form) x)) items
    ∙ sym q.framed.laid.bytes
    ∙ sym q.code in
    let handlers : w.part.handlers ≡ v.part.handlers =
    p.handlers ∙ p.framed.laid.handlers ∙ ap (λ (x : WrittenMethod). item_ranges (spelled_in x.form) w.items) ones
    ∙ ap (λ (x : List EmitItem). item_ranges (spelled_in v.one.form) x) items
    ∙ sym q.framed.laid.handlers
    ∙ sym q.handlers in
    let entry : w.body.entry ≡ v.body.entry =
    ap (λ (x : Body). x.entry) p.framed.body ∙ ap (λ (x : WrittenMethod). entry_in p.host x) ones
    ∙ ap (λ (x : Scope). entry_in x v.one) hosts
    ∙ ap (λ (x : Body). x.entry) (sym q.framed.body) in
    let frames : frames_in p.host w.laid.starts w.stated ≡ frames_in q.host v.laid.starts v.stated =
    ap (λ (x : Scope). frames_in x w.laid.starts w.stated) hosts
    ∙ ap (λ (x : List ℕ). frames_in q.host x w.stated) starts
    ∙ ap (λ (x : List (Option Frame)). frames_in q.host v.laid.starts x) stated in
    let here : IsFramesAttribute w.pool v.body.entry (frames_in q.host v.laid.starts v.stated) w.part.attrs =
    subst (λ (x : Frame). IsFramesAttribute w.pool x (frames_in q.host v.laid.starts v.stated) w.part.attrs) entry
    (subst (λ (x : List PlacedFrame). IsFramesAttribute w.pool w.body.entry x w.part.attrs) frames p.attrs) in
    let attrs : inners_len w.part.attrs ≡ inners_len v.part.attrs =
    attrs_len w.pool v.pool v.body.entry (frames_in q.host v.laid.starts v.stated) w.part.attrs v.part.attrs here q.attrs in
    let codes : length w.part.code ≡ length v.part.code = ap len code in
    let tables : length (flat_map handler_bytes w.part.handlers) ≡ length (flat_map handler_bytes v.part.handlers) =
    ap (λ (x : List Handler). length (flat_map handler_bytes x)) handlers in
    omega (arith, part_len w.part, part_len v.part, codes, tables, attrs)

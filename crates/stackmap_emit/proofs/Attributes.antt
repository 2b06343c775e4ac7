-- The attribute of frames, by its parts.
use Rattle.std.proofs.Common.{◌≡◌, ◌≢◌, ◌==◌, ℕ, true, length, List, [], ◌∷◌, ◌++◌, Some, refl, sym, ap, subst, arith}
use Rattle.std.specs.List.{flat_map}
use Rattle.std.proofs.lemmas.Bool.{eqb-true}
use Rattle.class_model.specs.Code.{stack_map_table}
use Rattle.class_model.specs.Laws.Lists.{AllByRecursion-weaker}
use Rattle.class_model.specs.Pool.{Constants}
use Rattle.class_model.specs.declared.frame.Frame.{Frame}
use Rattle.class_model.specs.declared.frame.PlacedFrame.{PlacedFrame}
use Rattle.making_code.specs.Constants.{Need, index_in, needs_class, needs_text}
use Rattle.map_frames.specs.Writing.{IsTable}
use Rattle.map_frames.specs.declared.writing.NamedIndex.{NamedIndex}
use Rattle.materialise.specs.Growing.{Grows}
use Rattle.materialise.specs.Indices.{IsIndex, need_of_text}
use Rattle.pool_edit.specs.Edits.{Edit, grown}
use Rattle.stackmap_emit.proofs.Adding.{index_stays}
use Rattle.materialise.specs.Laws.GrownEdits.{grows_both}
use Rattle.stackmap_emit.specs.FrameConstants.{frame_needs, table_needs}
use Rattle.stackmap_emit.specs.FramesAttribute.{AreRead, IsFramesAttribute, all_stated, one_attribute, placed_needs}
use Rattle.stackmap_emit.specs.Inner.ClassIndices.{Adds, AreIndices}

stated_needs : (frames : List PlacedFrame) → flat_map frame_needs (all_stated frames) ≡ placed_needs frames
stated_needs [] = refl
stated_needs (placed ∷ frames) = ap (λ (needs : List Need). frame_needs (Some placed.frame) ++ needs) (stated_needs frames)

pub table_some : (frames : List PlacedFrame) → frames ≢ [] → needs_text stack_map_table ++ placed_needs frames ≡ table_needs (all_stated frames)
table_some [] some = absurd (some refl)
table_some (placed ∷ frames) some = ap (λ (needs : List Need). needs_text stack_map_table ++ needs) (sym (stated_needs (placed ∷ frames)))

pub attribute_is : (middle new : Edit) (entry : Frame) (frames : List PlacedFrame) (names : List NamedIndex) (name : ℕ) (bytes : List ℕ)
    → frames ≢ []
    → IsIndex middle (need_of_text stack_map_table) name
    → Adds middle [] (placed_needs frames) new names
    → IsTable names entry frames bytes
    → AreRead names entry frames bytes
    → (more : Constants) → IsFramesAttribute (grown new ++ more) entry frames (record { name = name; bytes = bytes } ∷ [])
attribute_is middle new entry frames names name bytes some known adds table read more =
    let index = index_stays middle new (placed_needs frames) (need_of_text stack_map_table) name adds.grows known in
    let indices : AreIndices new names = adds.indices tt in
    let same = AllByRecursion-weaker (λ (named : NamedIndex). IsIndex new (needs_class named.class) named.index)
    (λ (named : NamedIndex). named.index ≡ index_in (grown new ++ more) (needs_class named.class)) (λ named is. sym (is.is more)) names indices in
    subst (λ (n : ℕ). IsFramesAttribute (grown new ++ more) entry frames (record { name = n; bytes = bytes } ∷ [])) (index.is more)
    (one_attribute some (same, adds.each) table read)

pub attribute_grows : (old middle new : Edit) (frames : List PlacedFrame) (names : List NamedIndex)
    → frames ≢ []
    → Grows old (needs_text stack_map_table) middle
    → Adds middle [] (placed_needs frames) new names
    → Grows old (table_needs (all_stated frames)) new
attribute_grows old middle new frames names some grows adds =
    subst (λ (needs : List Need). Grows old needs new) (table_some frames some)
    (grows_both old middle new (needs_text stack_map_table) (placed_needs frames) grows adds.grows)

pub none_there : (frames : List PlacedFrame) → (length frames == 0) ≡ true → frames ≡ []
none_there [] none = refl
none_there (placed ∷ frames) none =
    let same : length (placed ∷ frames) ≡ 0 = eqb-true (length (placed ∷ frames)) 0 none in
    absurd (omega (arith, same))

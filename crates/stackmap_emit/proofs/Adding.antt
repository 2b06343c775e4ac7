-- The constants of classes, added to a pool one after the other.
use Rattle.std.proofs.Common.{◌≡◌, ◌+◌, ◌-◌, ℕ, zero, suc, List, [], ◌∷◌, ◌++◌, length, drop, replicate, slice_get, Some, inl, inr, refl, sym, ap, subst, ◌∙◌, append_assoc, append-nil}
use Rattle.std.specs.List.{AllByRecursion, flat_map}
use Rattle.std.proofs.lemmas.Grind.{flat_map-append}
use Rattle.class_model.specs.Laws.Lists.{AllByRecursion-weaker, drop_item}
use Rattle.class_model.specs.Pool.{Constants}
use Rattle.class_model.specs.declared.frame.Frame.{Frame}
use Rattle.class_model.specs.declared.frame.VType.{VType}
use Rattle.class_model.specs.declared.frame.VType.TheVariants.{Top}
use Rattle.class_tree.specs.Headers.{Name}
use Rattle.flow_code.specs.declared.reason.Reason.{Reason}
use Rattle.making_code.specs.Constants.{Need, class_needs, index_in, needs_class, needs_itself, needs_member, needs_name_and_type, needs_string}
use Rattle.making_code.specs.Laws.GrownPools.{grow_begins}
use Rattle.map_frames.specs.declared.writing.NamedIndex.{NamedIndex}
use Rattle.materialise.specs.Growing.{Grows, IsFull}
use Rattle.materialise.specs.Indices.{IsIndex}
use Rattle.materialise.specs.Laws.GrownEdits.{continues_both, full_first, full_then, grows_both}
use Rattle.pool_edit.specs.Edits.{Continues, Edit, grown}
use Rattle.stackmap_emit.specs.FrameConstants.{frame_needs, type_needs}
use Rattle.stackmap_emit.specs.FramesAttribute.{IsNamed}
use Rattle.stackmap_emit.specs.Inner.ClassIndices.{Adds, AddsBefore, AreIndices, HasClass, Notes}

-- ---- lists

all_both : {X : Type 0} (P : X → Type 0) (xs ys : List X) → AllByRecursion P xs → AllByRecursion P ys → AllByRecursion P (xs ++ ys)
all_both P [] ys all others = others
all_both P (x ∷ xs) ys all others = (all.0, all_both P xs ys all.1 others)

still_there : {X : Type 0} (xs ys : List X) (n : ℕ) (x : X) → slice_get xs n ≡ Some x → slice_get (xs ++ ys) n ≡ Some x
still_there [] ys zero x is = absurd cc
still_there [] ys (suc n) x is = absurd cc
still_there (first ∷ xs) ys zero x is = is
still_there (first ∷ xs) ys (suc n) x is = still_there xs ys n x is

last_there : {X : Type 0} (xs : List X) (x : X) → slice_get (xs ++ x ∷ []) (length xs) ≡ Some x
last_there [] x = refl
last_there (first ∷ xs) x = last_there xs x

-- ---- indices

pub index_stays : (old new : Edit) (needs : List Need) (need : Need) (index : ℕ) → Grows old needs new → IsIndex old need index → IsIndex new need index
index_stays old new needs need index grows known =
    let begins = grow_begins old.limit needs (grown old) (grown new) grows.grown_by in
    record {
      is = λ more.
          ap (λ (pool : Constants). index_in (pool ++ more) need) begins.is
          ∙ ap (λ (pool : Constants). index_in pool need) (append_assoc (grown old) begins.more more)
          ∙ known.is (begins.more ++ more);
    }

indices_stay : (old new : Edit) (needs : List Need) → Grows old needs new → (names : List NamedIndex) → AreIndices old names → AreIndices new names
indices_stay old new needs grows [] all = tt
indices_stay old new needs grows (one ∷ names) all =
    (index_stays old new needs (needs_class one.class) one.index grows all.0, indices_stay old new needs grows names all.1)

-- ---- names

named_more : (names more : List NamedIndex) (need : Need) → IsNamed names need → IsNamed (names ++ more) need
named_more names more (needs_class name) has = (has.0, has.1, still_there names more has.0 has.1 has.2, has.3)
named_more names more (needs_itself constant) has = tt
named_more names more (needs_string text) has = tt
named_more names more (needs_name_and_type name desc) has = tt
named_more names more (needs_member kind class name desc) has = tt

pub adds_class : (old new : Edit) (names more : List NamedIndex) (name : Name) (index : ℕ)
    → Grows old (class_needs name) new
    → IsIndex new (needs_class name) index
    → Notes names name index more
    → Adds old names (class_needs name) new more
adds_class old new names more name index grows known (inl same) = record {
  grows = grows;
  indices = λ all. subst (AreIndices new) (sym same.0) (indices_stay old new (class_needs name) grows names all);
  stays = λ need has. subst (λ (list : List NamedIndex). IsNamed list need) (sym same.0) has;
  each = (tt, (subst (λ (list : List NamedIndex). HasClass list name) (sym same.0) same.1, tt));
}
adds_class old new names more name index grows known (inr added) =
    let one : NamedIndex = record { class = name; index = index } in
    record {
      grows = grows;
      indices = λ all.
          subst (AreIndices new) (sym added)
          (all_both (λ (named : NamedIndex). IsIndex new (needs_class named.class) named.index) names (one ∷ []) (indices_stay old new (class_needs name) grows names all) (known, tt));
      stays = λ need has. subst (λ (list : List NamedIndex). IsNamed list need) (sym added) (named_more names (one ∷ []) need has);
      each = (tt, (subst (λ (list : List NamedIndex). HasClass list name) (sym added) (length names, one, last_there names one, refl), tt));
    }

pub adds_both : (old middle new : Edit) (names some more : List NamedIndex) (front back : List Need)
    → Adds old names front middle some
    → Adds middle some back new more
    → Adds old names (front ++ back) new more
adds_both old middle new names some more front back one other = record {
  grows = grows_both old middle new front back one.grows other.grows;
  indices = λ all. other.indices (one.indices all);
  stays = λ need has. other.stays need (one.stays need has);
  each = all_both (IsNamed more) front back (AllByRecursion-weaker (IsNamed some) (IsNamed more) other.stays front one.each) other.each;
}

-- ---- one after the other

pub adds_next : (old middle new : Edit) (names some more : List NamedIndex) (needs left own rest : List Need)
    → left ≡ own ++ rest
    → AddsBefore old names needs left middle some
    → Adds middle some own new more
    → Continues middle new
    → AddsBefore old names needs rest new more
adds_next old middle new names some more needs left own rest cut before adds on = record {
  done = before.done ++ own;
  is = before.is ∙ ap (λ (list : List Need). before.done ++ list) cut ∙ sym (append_assoc before.done own rest);
  adds = adds_both old middle new names some more before.done own before.adds adds;
  continues = continues_both old middle new before.continues on;
}

pub adds_all : (old new : Edit) (names more : List NamedIndex) (needs left : List Need)
    → left ≡ []
    → AddsBefore old names needs left new more
    → Adds old names needs new more
adds_all old new names more needs left none before =
    subst (λ (list : List Need). Adds old names list new more)
    (sym (before.is ∙ ap (λ (list : List Need). before.done ++ list) none ∙ append-nil before.done)) before.adds

pub adds_full : (old middle : Edit) (names some : List NamedIndex) (needs left own rest : List Need) (reason : Reason)
    → left ≡ own ++ rest
    → AddsBefore old names needs left middle some
    → IsFull middle own reason
    → IsFull old needs reason
adds_full old middle names some needs left own rest reason cut before full =
    subst (λ (list : List Need). IsFull old list reason) (sym (before.is ∙ ap (λ (list : List Need). before.done ++ list) cut))
    (full_then old middle before.done (own ++ rest) reason before.adds.grows (full_first middle own rest reason full))

-- ---- of items

pub needs_next : {X : Type 0} (needs : X → List Need) (items : List X) (at : ℕ) (item : X) → slice_get items at ≡ Some item
    → flat_map needs (drop at items) ≡ needs item ++ flat_map needs (drop (at + 1) items)
needs_next needs items at item is = ap (flat_map needs) (drop_item items at item is)

tops_need_nothing : (n : ℕ) → flat_map type_needs (replicate n Top) ≡ []
tops_need_nothing zero = refl
tops_need_nothing (suc n) = tops_need_nothing n

pub units_end : (units : List VType) (at listed : ℕ) → at ≡ listed → drop listed units ≡ replicate (length units - listed) Top
    → flat_map type_needs (drop at units) ≡ []
units_end units at listed same tops =
    ap (λ (n : ℕ). flat_map type_needs (drop n units)) same ∙ ap (flat_map type_needs) tops ∙ tops_need_nothing (length units - listed)

pub frame_parts : (frame : Frame) → frame_needs (Some frame) ≡ flat_map type_needs frame.locals ++ flat_map type_needs frame.stack
frame_parts frame = flat_map-append type_needs frame.locals frame.stack

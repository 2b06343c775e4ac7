-- Pools that grow by parts of what is needed: edits that go on, and what they keep.
use Rattle.std.proofs.Common.{◌≡◌, ◌++◌, ℕ, List, [], refl, sym, ap, ◌∙◌, append_assoc, append-nil, option_and_then}
use Rattle.std.specs.List.{flat_map}
use Rattle.std.proofs.lemmas.Grind.{flat_map-append}
use Rattle.class_model.specs.Pool.{Constants, entries_of}
use Rattle.class_model.specs.declared.pool.Const.{Const}
use Rattle.flow_code.specs.declared.reason.Reason.{Reason}
use Rattle.making_code.specs.Constants.{Need, grow, index_in}
use Rattle.making_code.specs.Laws.GrownPools.{grow_both}
use Rattle.materialise.specs.Growing.{Grows, IsFull}
use Rattle.materialise.specs.Indices.{IsIndex}
use Rattle.pool_edit.specs.Edits.{Continues, Edit, grown}

-- ---- edits that go on

pub grown_more : (old new : Edit) (so_far : Continues old new) → grown new ≡ grown old ++ flat_map entries_of so_far.more
grown_more old new so_far =
    ap (λ (base : Constants). base ++ flat_map entries_of new.added) so_far.base
    ∙ ap (λ (constants : List Const). old.base ++ flat_map entries_of constants) so_far.added
    ∙ ap (λ (entries : Constants). old.base ++ entries) (flat_map-append entries_of old.added so_far.more)
    ∙ sym (append_assoc old.base (flat_map entries_of old.added) (flat_map entries_of so_far.more))

pub continues_itself : (edit : Edit) → Continues edit edit
continues_itself edit = record { base = refl; limit = refl; more = []; added = sym (append-nil edit.added) }

pub continues_both : (first middle last : Edit) → Continues first middle → Continues middle last → Continues first last
continues_both first middle last one other = record {
  base = other.base ∙ one.base;
  limit = other.limit ∙ one.limit;
  more = one.more ++ other.more;
  added = other.added ∙ ap (λ (constants : List Const). constants ++ other.more) one.added ∙ append_assoc first.added one.more other.more;
}

-- an index stays what it is
pub index_later : (old new : Edit) (need : Need) (index : ℕ) → IsIndex old need index → Continues old new → IsIndex new need index
index_later old new need index known so_far = record {
  is = λ more.
      ap (λ (pool : Constants). index_in (pool ++ more) need) (grown_more old new so_far)
      ∙ ap (λ (pool : Constants). index_in pool need) (append_assoc (grown old) (flat_map entries_of so_far.more) more)
      ∙ known.is (flat_map entries_of so_far.more ++ more);
}

-- ---- growth, part by part

pub grows_none : (edit : Edit) → Grows edit [] edit
grows_none edit = record { base = refl; limit = refl; grown_by = refl }

pub grows_both : (first middle last : Edit) (front back : List Need) → Grows first front middle → Grows middle back last → Grows first (front ++ back) last
grows_both first middle last front back one other = record {
  base = other.base ∙ one.base;
  limit = other.limit ∙ one.limit;
  grown_by =
      grow_both first.limit (grown first) front back
      ∙ ap (option_and_then (λ (more : Constants). grow first.limit more back)) one.grown_by
      ∙ ap (λ (limit : ℕ). grow limit (grown middle) back) (sym one.limit)
      ∙ other.grown_by;
}

-- the first part does not fit
pub full_first : (edit : Edit) (front back : List Need) (reason : Reason) → IsFull edit front reason → IsFull edit (front ++ back) reason
full_first edit front back reason full = record {
  is = full.is;
  past =
      grow_both edit.limit (grown edit) front back
      ∙ ap (option_and_then (λ (more : Constants). grow edit.limit more back)) full.past;
}

-- the first part fits, and the second does not
pub full_then : (first middle : Edit) (front back : List Need) (reason : Reason)
    → Grows first front middle
    → IsFull middle back reason
    → IsFull first (front ++ back) reason
full_then first middle front back reason one full = record {
  is = full.is;
  past =
      grow_both first.limit (grown first) front back
      ∙ ap (option_and_then (λ (more : Constants). grow first.limit more back)) one.grown_by
      ∙ ap (λ (limit : ℕ). grow limit (grown middle) back) (sym one.limit)
      ∙ full.past;
}

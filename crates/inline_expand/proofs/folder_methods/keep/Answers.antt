use Rattle.std.proofs.Common.{◌≡◌, ◌<◌, ◌++◌, ◌∷◌, [], List, length, set, refl, sym, subst, ◌∙◌, ap}
use Rattle.std.proofs.lemmas.Option.{get_or_from_slice_get, slice_get_read}
use Rattle.class_tree.specs.Headers.{headers_of}
use Rattle.inline_expand.specs.Inner.FolderMethods.{AreKept, bucket_at}
use Rattle.inline_expand.proofs.FoundMethods.{class_at}
use Rattle.inline_expand.proofs.MethodBuckets.{kept_put, on_ok}
use Rattle.inline_expand.proofs.folder_methods.keep.Goals as goal
use Rattle.member_link.specs.declared.found.Found.{Found}

pub returns : goal.returns
returns c =
    let classes = c.args.tree.now in
    let headers = headers_of classes in
    let buckets = c.args.buckets.now in
    let method = c.args.method.now in
    let slot = c.slot_of-slot.result in
    let found = c.in-Some.found in
    let header = class_at classes c.args.class c.requires.class in
    let within : slot < length buckets = c.slot_of-slot.ensures.within in
    let old : bucket_at buckets slot ≡ c.index-buckets-slot.result = get_or_from_slice_get buckets slot c.index-buckets-slot.result [] (slice_get_read buckets (length buckets) slot c.index-buckets-slot.result refl within c.index-buckets-slot.is) in
    let kept = kept_put headers c.args.class method buckets c.a_tree_is_a_hierarchy.ensures header.0 header.1 found c.in-Some.ensures slot c.slot_of-slot.ensures.same within in
    on_ok c.push.result (λ pushed.
    let same : bucket_at buckets slot ++ found ∷ [] ≡ c.push.new.self = ap (λ (bucket : List Found). bucket ++ found ∷ []) (old ∙ c.index-buckets-slot.is) ∙ sym pushed in
    subst (λ (bucket : List Found). AreKept headers c.args.class (method ∷ []) buckets (set buckets slot bucket)) same kept) c.push.ensures.ok

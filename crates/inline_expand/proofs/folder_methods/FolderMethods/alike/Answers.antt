use Rattle.std.proofs.Common.{◌≡◌, ◌∙◌, ◌<◌, ℕ, List, [], length, refl, ap, subst, arith}
use Rattle.std.proofs.lemmas.Option.{get_or_from_slice_get, slice_get_read}
use Rattle.class_tree.specs.Headers.{Classes, headers_of}
use Rattle.inline_expand.specs.Inner.FolderMethods.{AreAlike, bucket_at, slot_of}
use Rattle.inline_expand.proofs.MethodBuckets.{bucket_is_alike}
use Rattle.inline_expand.proofs.folder_methods.FolderMethods.alike.Goals as goal
use Rattle.member_link.specs.declared.found.Found.{Found}

pub returns : goal.returns
returns c =
    let headers = headers_of c.self.inside.tree.now in
    let buckets = c.self.inside.buckets.items in
    let method = c.args.method.now in
    let slot = c.slot_of-slot.result in
    let within : slot < length buckets = omega (arith, c.slot_of-slot.ensures.within, c.len.ensures) in
    let bucket : bucket_at buckets slot ≡ c.index.result.now = get_or_from_slice_get buckets slot c.index.result.now [] (slice_get_read buckets (length buckets) slot c.index.result.now refl within c.index.ensures) in
    let len : c.len.result ≡ length buckets = omega (arith, c.len.ensures) in
    let same : slot ≡ slot_of (length buckets) method = c.slot_of-slot.ensures.same ∙ ap (λ (count : ℕ). slot_of count method) len in
    let alike = bucket_is_alike headers buckets c.self.invariant method slot same in
    subst (λ (classes : Classes). AreAlike (headers_of classes) method c.index.result.now) c.self.view_is (subst (λ (lows : List Found). AreAlike headers method lows) bucket alike)

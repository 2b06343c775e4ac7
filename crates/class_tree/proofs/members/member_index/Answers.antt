use Rattle.std.proofs.Common.{◌≡◌, ℕ, length, refl, sym, subst, rules, arith}
use Rattle.std.proofs.lemmas.Cmp.{nat_list_cmp_total, lists_total}
use Rattle.std.proofs.lemmas.Fn.{always_returns_same}
use Rattle.std.proofs.lemmas.Iterator.{items_from_collect, YieldsList-from_range}
use Rattle.std.proofs.lemmas.List.Sorted.{ranks_by}
use Rattle.std.proofs.lemmas.Result.{IfOk-at_ok}
use Rattle.std.specs.Cmp.Lexicographic.{slice_cmp}
use Rattle.std.specs.List.{range_with_len}
use Rattle.std.specs.List.Sorted.{IsPermutation}
use Rattle.std.specs.Ordering.{nat_cmp, is_lt}
use Rattle.class_tree.specs.Inner.MemberIndex.{IsMemberIndex, key_at}
use Rattle.class_tree.proofs.members.member_index.Goals as goal

pub returns : goal.returns
returns c =
    let members = c.args.members.now in
    let all : c.in_ok-places.places.items ≡ range_with_len 0 (length members) = IfOk-at_ok _ c.in_ok-places.was (items_from_collect _ c.collect.ensures.ran (YieldsList-from_range 0 _ _ refl (omega arith))) in
    subst (IsMemberIndex members) (sym c.from_vec.ensures) (record {
      places = subst (λ places. IsPermutation places c.sort_by.new.self.items) all c.sort_by.ensures.permutation;
      sorted = c.in_ok-sort_by.ensures.sorted (λ (one other : ℕ). is_lt (slice_cmp (slice_cmp nat_cmp) (key_at members one) (key_at members other))) (ranks_by (lists_total nat_list_cmp_total) (key_at members)) (always_returns_same _ _ _ (λ a r f' k. search rules));
    })

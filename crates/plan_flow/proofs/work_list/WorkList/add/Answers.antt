use Rattle.std.proofs.Common.{ℕ, ◌++◌, List, sym, subst}
use Rattle.plan_flow.specs.Inner.Reaching.{HasListed}
use Rattle.plan_flow.proofs.WorkLists.{inserted, listed_back, listed_front}
use Rattle.plan_flow.proofs.work_list.WorkList.add.Goals as goal

pub returns-in_ok-insert : goal.returns-in_ok-insert
returns-in_ok-insert c =
    let ahead = c.self.inside.ahead.keys in
    let behind = c.self.inside.behind.keys in
    let listed = subst (λ (list : List ℕ). HasListed ahead list c.args.at) (sym c.in_ok-insert.ensures.keys) (inserted ahead c.args.at) in
    subst (λ (list : List ℕ). HasListed list (c.insert.new.self.keys ++ behind) c.args.at) c.self.view_is
    (listed_front ahead c.insert.new.self.keys behind c.args.at listed)

pub returns-in_ok-insert-2 : goal.returns-in_ok-insert-2
returns-in_ok-insert-2 c =
    let ahead = c.self.inside.ahead.keys in
    let behind = c.self.inside.behind.keys in
    let more = c.insert-else-at-self.new.self.keys in
    let listed = subst (λ (list : List ℕ). HasListed behind list c.args.at) (sym c.in_ok-insert-2.ensures.keys)
    (inserted behind c.args.at) in
    subst (λ (list : List ℕ). HasListed list (ahead ++ more) c.args.at) c.self.view_is (listed_back ahead behind more c.args.at listed)

use Rattle.std.proofs.Common.{◌≡◌, ◌∙◌, sym, ap, cond, Some, None, string_bytes, rules}
use Rattle.std.specs.BTreeMap.{get_by_text, IsUnchanged}
use Rattle.std.specs.Map.{update}
use Rattle.std.specs.Str.{bytes_eq}
use Rattle.std.proofs.lemmas.Map.Text.{btree_map_updates_text}
use Rattle.host_tree.specs.Host.{Bytes, SameFiles}
use Rattle.host_tree.specs.Tree.{opened, tree_files}
use Rattle.host_tree.proofs.Trees.{put_holds, same_elsewhere, same_files}
use Rattle.host_tree.proofs.tree.FileTree.put.Goals as goal
use Rattle.host_tree.proofs.tree.FileTree.put.Goals.{After-insert, In_ok-insert-in-Some}

-- the folder is written back to its root
written : (c : After-insert) → (r : Bytes) → get_by_text (c.get_mut.follows.lender c.insert.new.self) r ≡ update bytes_eq (get_by_text c.args.self.now.roots) c.args.root.now (Some c.insert.new.self) r
written c = btree_map_updates_text c.args.root.now c.args.self.now.roots (c.get_mut.follows.lender c.insert.new.self) _ ((c.get_mut.follows.holds c.insert.new.self).3 (search rules))

-- the root's folder is written back as it was
undone : (c : After-insert) → IsUnchanged c.in-Some.files.now c.insert.new.self → SameFiles (tree_files c.args.self.now) (tree_files record { roots = c.get_mut.follows.lender c.insert.new.self })
undone c unchanged =
    let had = sym c.in-Some.ensures.value in
    let names : (n : Bytes) → get_by_text c.insert.new.self n ≡ opened (get_by_text c.args.self.now.roots c.args.root.now) n = λ n. rw had (search rules) in
    same_files (get_by_text c.args.self.now.roots) _ c.args.root.now c.insert.new.self (written c) names

pub returns-in_err-insert-in-Some-clause-elsewhere :
    goal.returns-in_err-insert-in-Some-clause-elsewhere
returns-in_err-insert-in-Some-clause-elsewhere c =
    let at = goal.at.returns-in_err-insert-in-Some-clause-elsewhere c in
    λ r n _. undone at.After-insert c.in_err-insert-in-Some.ensures.err r n

pub returns-in_err-insert-in-Some-clause-err : goal.returns-in_err-insert-in-Some-clause-err
returns-in_err-insert-in-Some-clause-err c =
    let at = goal.at.returns-in_err-insert-in-Some-clause-err c in
    let same = undone at.After-insert c.in_err-insert-in-Some.ensures.err in
    search rules

-- the new folder has the file, and what the root's folder had beside it
inserted : (c : In_ok-insert-in-Some) → (n : Bytes) → get_by_text c.insert.new.self n ≡ update bytes_eq (opened (get_by_text c.args.self.now.roots c.args.root.now)) (string_bytes c.in_ok-name.name) (Some c.from_vec-bytes.result) n
inserted c n =
    let had = sym c.in-Some.ensures.value in
    rw had (btree_map_updates_text (string_bytes c.in_ok-name.name) c.in-Some.files.now c.insert.new.self _ c.in_ok-insert-in-Some.ensures.updates n)

pub returns-in_ok-insert-in-Some-clause-ok : goal.returns-in_ok-insert-in-Some-clause-ok
returns-in_ok-insert-in-Some-clause-ok c =
    let at = goal.at.returns-in_ok-insert-in-Some-clause-ok c in
    let holds = put_holds (get_by_text c.args.self.now.roots) _ c.args.root.now c.insert.new.self (written at.After-insert) _ _ (inserted at.In_ok-insert-in-Some) in
    rw (c.in_ok-name.ensures.ok, c.from_vec-bytes.ensures, c.in_ok-from_slice.ensures.items) at holds

pub returns-in_ok-insert-in-Some-clause-elsewhere : goal.returns-in_ok-insert-in-Some-clause-elsewhere
returns-in_ok-insert-in-Some-clause-elsewhere c =
    let at = goal.at.returns-in_ok-insert-in-Some-clause-elsewhere c in
    let same = same_elsewhere (get_by_text c.args.self.now.roots) _ c.args.root.now c.insert.new.self (written at.After-insert) _ _ (inserted at.In_ok-insert-in-Some) in
    rw c.in_ok-name.ensures.ok at same

pub returns-in_ok-insert-in-None-2-clause-elsewhere :
    goal.returns-in_ok-insert-in-None-2-clause-elsewhere
returns-in_ok-insert-in-None-2-clause-elsewhere c =
    let before = c.get_mut.follows.lender-at-none in
    let root = string_bytes c.in_ok-from_str-in-None.field-0 in
    let name = string_bytes c.in_ok-name.name in
    let placed = btree_map_updates_text root before c.insert-in-None-2.new.self _ c.in_ok-insert-in-None-2.ensures.updates in
    let filled = btree_map_updates_text name c.new-files.result c.insert-in-None.new.self _ c.in_ok-insert-in-None.ensures.updates in
    let empty : (n : Bytes) → get_by_text c.new-files.result n ≡ None = λ n. search rules in
    let here = c.in_ok-from_str-in-None.ensures.ok in
    let had = sym c.in-None.ensures.value in
    let back = c.get_mut.follows.holds-at-none in
    let names : (n : Bytes) → get_by_text c.insert-in-None.new.self n ≡ update bytes_eq (opened (get_by_text before root)) name (Some c.from_vec-bytes.result) n = λ n. rw (here, back, had) (filled n ∙ ap (λ x. cond (bytes_eq name n) (Some c.from_vec-bytes.result) x) (empty n)) in
    rw (c.in_ok-name.ensures.ok, here, back) at (same_elsewhere (get_by_text before) _ root c.insert-in-None.new.self placed name c.from_vec-bytes.result names)

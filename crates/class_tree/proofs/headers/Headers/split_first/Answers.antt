use Rattle.std.proofs.Common.{◌≡◌, false, sym, ap, subst, rules}
use Rattle.std.specs.Cmp.Lexicographic.{slice_cmp}
use Rattle.std.specs.Ordering.{nat_cmp, is_gt}
use Rattle.class_tree.specs.Headers.{Headers}
use Rattle.class_tree.specs.Trees.{AreHeadersInOrder}
use Rattle.class_tree.proofs.FirstClasses.{from_first, from_none, from_lower, not_after, rest_in_order, none_earlier}
use Rattle.class_tree.proofs.headers.Headers.split_first.Goals as goal

pub returns-in-empty-len1-up-clause-library : goal.returns-in-empty-len1-up-clause-library
returns-in-empty-len1-up-clause-library c =
    let sorted = subst (λ (h : Headers). AreHeadersInOrder h.library) (sym c.self.view_is) c.requires.library in
    rest_in_order c.self.inside.library.now c.new.result.library (ap (λ (h : Headers). h.library) c.new.ensures) sorted

pub returns-in-empty-len1-up-clause-first : goal.returns-in-empty-len1-up-clause-first
returns-in-empty-len1-up-clause-first c =
    let sorted = subst (λ (h : Headers). AreHeadersInOrder h.library) (sym c.self.view_is) c.requires.library in
    let first = c.first-item.result in
    none_earlier c.self.inside.folder.now c.self.inside.library.now c.args.self.now c.self.view_is first.name (from_none first.name c.self.inside.folder.now (search rules)) (from_first c.self.inside.library.now first sorted c.first-item.is)

pub returns-in-len1-up-empty-clause-folder : goal.returns-in-len1-up-empty-clause-folder
returns-in-len1-up-empty-clause-folder c =
    let sorted = subst (λ (h : Headers). AreHeadersInOrder h.folder) (sym c.self.view_is) c.requires.folder in
    rest_in_order c.self.inside.folder.now c.new-in-len1-up-empty.result.folder (ap (λ (h : Headers). h.folder) c.new-in-len1-up-empty.ensures) sorted

pub returns-in-len1-up-empty-clause-first : goal.returns-in-len1-up-empty-clause-first
returns-in-len1-up-empty-clause-first c =
    let sorted = subst (λ (h : Headers). AreHeadersInOrder h.folder) (sym c.self.view_is) c.requires.folder in
    let first = c.first-item-then-this-lt1.result in
    none_earlier c.self.inside.folder.now c.self.inside.library.now c.args.self.now c.self.view_is first.name (from_first c.self.inside.folder.now first sorted c.first-item-then-this-lt1.is) (from_none first.name c.self.inside.library.now (search rules))

pub returns-then-is_gt-clause-library : goal.returns-then-is_gt-clause-library
returns-then-is_gt-clause-library c =
    let sorted = subst (λ (h : Headers). AreHeadersInOrder h.library) (sym c.self.view_is) c.requires.library in
    rest_in_order c.self.inside.library.now c.new-then-is_gt.result.library (ap (λ (h : Headers). h.library) c.new-then-is_gt.ensures) sorted

pub returns-then-is_gt-clause-first : goal.returns-then-is_gt-clause-first
returns-then-is_gt-clause-first c =
    let folder = subst (λ (h : Headers). AreHeadersInOrder h.folder) (sym c.self.view_is) c.requires.folder in
    let library = subst (λ (h : Headers). AreHeadersInOrder h.library) (sym c.self.view_is) c.requires.library in
    let one = c.one-item.result in
    let other = c.other-item.result in
    let before : is_gt (slice_cmp nat_cmp other.name one.name) ≡ false = not_after one.name other.name (search rules) in
    none_earlier c.self.inside.folder.now c.self.inside.library.now c.args.self.now c.self.view_is other.name (from_lower other.name one.name c.self.inside.folder.now before (from_first c.self.inside.folder.now one folder c.one-item.is)) (from_first c.self.inside.library.now other library c.other-item.is)

pub returns-else-is_gt-clause-folder : goal.returns-else-is_gt-clause-folder
returns-else-is_gt-clause-folder c =
    let sorted = subst (λ (h : Headers). AreHeadersInOrder h.folder) (sym c.self.view_is) c.requires.folder in
    rest_in_order c.self.inside.folder.now c.new-else-is_gt.result.folder (ap (λ (h : Headers). h.folder) c.new-else-is_gt.ensures) sorted

pub returns-else-is_gt-clause-first : goal.returns-else-is_gt-clause-first
returns-else-is_gt-clause-first c =
    let folder = subst (λ (h : Headers). AreHeadersInOrder h.folder) (sym c.self.view_is) c.requires.folder in
    let library = subst (λ (h : Headers). AreHeadersInOrder h.library) (sym c.self.view_is) c.requires.library in
    let one = c.one-item.result in
    let other = c.other-item.result in
    let before : is_gt (slice_cmp nat_cmp one.name other.name) ≡ false = search rules in
    none_earlier c.self.inside.folder.now c.self.inside.library.now c.args.self.now c.self.view_is one.name (from_first c.self.inside.folder.now one folder c.one-item.is) (from_lower one.name other.name c.self.inside.library.now before (from_first c.self.inside.library.now other library c.other-item.is))

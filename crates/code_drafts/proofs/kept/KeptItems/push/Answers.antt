use Rattle.std.proofs.Common.{rules, ◌≡◌, ◌++◌, ◌∷◌, [], length, ◌+◌, ◌<◌, ◌≤◌, Bool, true, false, sym, subst}
use Rattle.code_drafts.specs.Laws.KeptCounts.{counted_more, past_entries, past_length, stays_long}
use Rattle.code_drafts.specs.Counts.{AreCounted, handlers_of}
use Rattle.code_drafts.specs.Drafts.{Keeps}
use Rattle.code_drafts.proofs.kept.KeptItems.push.Goals as goal
use Rattle.code_drafts.proofs.kept.KeptItems.push.Goals.{then-len-ge-MOST-via-then-len-ge-MOST, then-len-ge-MOST-via-else-len-ge-MOST+then-entries-gt-MOST}

pub returns-then-self : goal.returns-then-self
returns-then-self c = λ s constructor pool items one kept same.
    let drafts = c.args.self.now.items in
    let long : c.args.self.now.is_long ≡ true = search rules in
    subst (λ (b : Bool). Keeps s constructor pool (items ++ one ∷ []) b drafts) (sym long)
    (stays_long s constructor pool items one drafts drafts (subst (λ (b : Bool). Keeps s constructor pool items b drafts) long kept))

pub returns-then-len-ge-MOST : goal.returns-then-len-ge-MOST
returns-then-len-ge-MOST c = λ s constructor pool items one kept same.
    let drafts = c.args.self.now.items in
    let short : c.args.self.now.is_long ≡ false = search rules in
    let all = subst (λ (b : Bool). Keeps s constructor pool items b drafts) short kept in
    elim c.then-len-ge-MOST.branch [
      | then-len-ge-MOST-via-then-len-ge-MOST w ↦
          let past : 65535 ≤ length drafts = search rules in
          past_length s constructor pool items one drafts c.clear.new.self.items all past
      | then-len-ge-MOST-via-else-len-ge-MOST+then-entries-gt-MOST w ↦
          let past : 65535 < handlers_of drafts + length c.args.item.catches = search rules in
          past_entries s constructor pool items one drafts c.clear.new.self.items c.args.item all same past
    ]

pub invariant_of-self-2 : goal.invariant_of-self-2
invariant_of-self-2 c =
    let inside = c.self.inside in
    let short : inside.is_long ≡ false = search rules in
    let counted = subst (λ (b : Bool). AreCounted b inside.items.items inside.entries) short c.self.invariant in
    let sum : c.saturating_add-entries.result ≡ inside.entries + length c.args.item.catches = search rules in
    let few : length inside.items.items < 65535 = search rules in
    let low : inside.entries + length c.args.item.catches ≤ 65535 = search rules in
    subst (λ (b : Bool). AreCounted b c.push.new.self.items c.saturating_add-entries.result) (sym short)
    (subst (AreCounted false c.push.new.self.items) (sym sum)
    (counted_more inside.items.items c.push.new.self.items c.args.item inside.entries counted c.in_ok-push.ensures.items few low))

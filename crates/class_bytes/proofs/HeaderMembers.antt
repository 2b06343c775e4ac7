-- The members of a header checked one after the other.
use Rattle.std.proofs.Common.{◌≡◌, ℕ, ◌+◌, ◌<◌, ◌^◌, List, ◌∷◌, length, get_or, map, drop, Err, ap, ◌∙◌, sym, arith, add-one, drop-cons}
use Rattle.class_model.specs.Answers.{Tells}
use Rattle.class_model.specs.Checks.{Check, Fault}
use Rattle.class_model.specs.Laws.Answers.{refused}
use Rattle.class_model.specs.Laws.Checks.{Remain}
use Rattle.class_model.specs.Pool.{Constants}
use Rattle.class_model.specs.declared.fault.ClassFault.{ClassFault}
use Rattle.class_model.specs.declared.header.Member.{Member}
use Rattle.class_bytes.specs.Inner.HeaderParts.{member_in, member_checks, members_checks, members_len}
use Rattle.class_bytes.specs.declared.header_checks.MemberKind.{MemberKind}
use Rattle.class_bytes.specs.declared.header_cutting.MemberHead.{MemberHead}

first_left : (members : List MemberHead) (index : ℕ) (other : MemberHead) → index < length members → drop index members ≡ get_or members index other ∷ drop (index + 1) members
first_left members index other within =
    drop-cons members index other within ∙ ap (λ (n : ℕ). get_or members index other ∷ drop n members) (sym (add-one index))

-- the next member is not beyond the last
pub next_within : (members : List MemberHead) (index : ℕ) → MemberHead → index < length members → (place end : ℕ) → place + members_len (drop index members) ≡ end → end < 2 ^ 64 → place + 8 < 2 ^ 64
next_within members index other within place end ends room =
    let e : place + (8 + (get_or members index other).attrs + members_len (drop (index + 1) members)) ≡ end = rw (first_left members index other within) at ends in
    omega (arith, room)

-- what is kept of a member, and of members up to a place
abbrev IsOwn : Constants → MemberHead → Member → Type 0
IsOwn pool member own = own ≡ member_in pool member

abbrev pub AreOwn : Constants → List MemberHead → ℕ → List Member × ℕ → Type 0
AreOwn pool members end own = (own.0 ≡ map (member_in pool) members) × (own.1 ≡ end)

-- the next member is refused
pub next_refused : (kind : MemberKind) (pool : Constants) (members : List MemberHead) (index : ℕ) (other : MemberHead) → index < length members
    → {whole : List (Check Fault)} (place end : ℕ) → Remain whole (members_checks kind pool place (drop index members)) → (e : ClassFault)
    → Tells (member_checks kind pool place (get_or members index other)) (IsOwn pool (get_or members index other)) (Err e)
    → Tells whole (AreOwn pool members end) (Err e)
next_refused kind pool members index other within place end left e told =
    let member = get_or members index other in
    refused (member_checks kind pool place member) (members_checks kind pool (place + (8 + member.attrs)) (drop (index + 1) members)) (IsOwn pool member) (AreOwn pool members end) e (rw (first_left members index other within) at left) told

use Rattle.std.proofs.Common.{◌≡◌, ℕ, length, sym, subst, arith}
use Rattle.class_model.specs.declared.instr.Instr.{Instr}
use Rattle.code_bytes.specs.Encoding.{HasSpelling}
use Rattle.member_link.specs.Targets.{with_targets}
use Rattle.code_layout.specs.Layout.{start_in}
use Rattle.code_layout.proofs.writing.push_shortest.Goals as goal

pub encode_into-requires : goal.encode_into-requires
encode_into-requires c =
    let here : length c.args.code.now.items ≡ c.len-at.result = omega arith in
    let same = rw c.in-Some.is at c.in_ok-placed.ensures in
    let placed = with_targets (start_in c.args.starts.now) c.args.instr.now in
    subst (λ (instr : Instr). HasSpelling c.len-at.result instr) (sym same)
    (subst (λ (at : ℕ). HasSpelling at placed) here c.requires.spelled)

pub encode_into-requires-in-None : goal.encode_into-requires-in-None
encode_into-requires-in-None c =
    let here : length c.args.code.now.items ≡ c.len-at.result = omega arith in
    let same = rw c.in-None.is at c.in_ok-placed.ensures in
    let placed = with_targets (start_in c.args.starts.now) c.args.instr.now in
    subst (λ (instr : Instr). HasSpelling c.len-at.result instr) same
    (subst (λ (at : ℕ). HasSpelling at placed) here c.requires.spelled)

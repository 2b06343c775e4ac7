use Rattle.std.proofs.Common.{◌≡◌, ℕ, ℤ, pos, ◌+ℤ◌, ◌-◌, List, ◌∷◌, ◌++◌, length, replicate, ap, ◌∙◌, append_assoc, to_z, of_z, w32}
use Rattle.std.proofs.lemmas.Int.{to_z-of_z}
use Rattle.std.specs.List.{flat_map}
use Rattle.class_model.specs.Instructions.{pad_of}
use Rattle.class_model.specs.Spelling.{u4}
use Rattle.code_bytes.specs.Forms.{target_bytes, table_bytes}
use Rattle.code_bytes.proofs.PushedItems.{one_pushed, all_pushed}
use Rattle.code_bytes.proofs.forms.push_table.Goals as goal

-- what was appended, one after the other
table_made : (at : ℕ) (low : ℤ) (other : ℕ) (to out head keyed both done : List ℕ) → head ≡ out ++ (170 ∷ (replicate (pad_of at) 0 ++ target_bytes at other)) → keyed ≡ head ++ u4 (of_z w32 low) → both ≡ keyed ++ u4 (of_z w32 (low +ℤ pos (length to - 1))) → done ≡ both ++ flat_map (target_bytes at) to → done ≡ out ++ table_bytes at low other to
table_made at low other to out head keyed both done is_head is_keyed is_both is_done = rw (is_done, is_both, is_keyed, is_head) (simp append_assoc)

pub returns : goal.returns
returns c =
    let low = c.args.low in
    let to = c.args.targets.now in
    let low_fits = to_z-of_z w32 low c.ranges.low in
    let high = c.high_of.ensures ∙ ap (λ z. z +ℤ pos (length to - 1)) low_fits in
    let high_fits = to_z-of_z w32 (low +ℤ pos (length to - 1)) c.requires.2 in
    table_made c.args.at low c.args.other to _ _ _ _ _ c.in_ok-push_switch.ensures
    (c.in_ok-push_s4.ensures ∙ ap (λ z. c.push_switch.new.out.items ++ u4 (of_z w32 z)) low_fits)
    (c.in_ok-push_s4-2.ensures ∙ ap (λ z. c.push_s4.new.out.items ++ u4 (of_z w32 z)) (ap (λ z. to_z w32 (of_z w32 z)) high ∙ high_fits))
    (all_pushed (target_bytes c.args.at) _ _ to _ c.loop-to.invariant c.loop-to-test.false)

pub loop-to-preserved : goal.loop-to-preserved
loop-to-preserved c =
    one_pushed (target_bytes c.args.at) _ _ _ _ _ _ c.loop-to.invariant c.loop-to-test.true (c.in_ok-push_u4.ensures ∙ ap (λ n. c.loop-to.out.items ++ u4 n) c.offset.ensures)

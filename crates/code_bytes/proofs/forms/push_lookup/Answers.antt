use Rattle.std.proofs.Common.{◌≡◌, ℕ, List, ◌∷◌, ◌++◌, length, replicate, append_assoc}
use Rattle.std.specs.List.{flat_map}
use Rattle.class_model.specs.Instructions.{pad_of}
use Rattle.class_model.specs.Spelling.{u4}
use Rattle.class_model.specs.declared.instr.Pair.{Pair}
use Rattle.code_bytes.specs.Forms.{target_bytes, pair_bytes, lookup_bytes}
use Rattle.code_bytes.proofs.PushedItems.{one_pushed, all_pushed}
use Rattle.code_bytes.proofs.forms.push_lookup.Goals as goal

-- what was appended, one after the other
lookup_made : (at other : ℕ) (pairs : List Pair) (out head counted done : List ℕ) → head ≡ out ++ (171 ∷ (replicate (pad_of at) 0 ++ target_bytes at other)) → counted ≡ head ++ u4 (length pairs) → done ≡ counted ++ flat_map (pair_bytes at) pairs → done ≡ out ++ lookup_bytes at other pairs
lookup_made at other pairs out head counted done is_head is_counted is_done = rw (is_done, is_counted, is_head) (simp append_assoc)

pub loop-pair-preserved : goal.loop-pair-preserved
loop-pair-preserved c = one_pushed (pair_bytes c.args.at) _ _ _ _ _ _ c.loop-pair.invariant c.loop-pair-test.true c.in_ok-push_pair.ensures

pub returns : goal.returns
returns c =
    lookup_made c.args.at c.args.other c.args.pairs.now _ _ _ _ c.in_ok-push_switch.ensures c.in_ok-push_u4.ensures (all_pushed (pair_bytes c.args.at) _ _ c.args.pairs.now _ c.loop-pair.invariant c.loop-pair-test.false)

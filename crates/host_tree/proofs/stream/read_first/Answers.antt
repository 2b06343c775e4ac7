use Rattle.std.proofs.Common.{◌≡◌, ap, ◌∙◌, arith}
use Rattle.std.specs.Result.{result_unwrap_or}
use Rattle.std.proofs.lemmas.Result.{Ok-from_Ok_iff}
use Rattle.host_tree.proofs.Streams.{Consumes-appended, first_read, room_for, room_after, none_left}
use Rattle.host_tree.proofs.stream.read_first.Goals as goal
use Rattle.host_tree.proofs.stream.read_first.Goals.{else-loop-wanted-test, then-loop-wanted-test+in_ok-count+then-count-wanted}

pub loop-wanted-preserved : goal.loop-wanted-preserved
loop-wanted-preserved g c =
    let more = c.in_ok-count.ensures in
    record {
      taken = Consumes-appended _ _ _ c.loop-wanted.bytes.items c.read_more.new.bytes.items more.kept c.loop-wanted.invariant.taken more.taken;
      room = omega (arith, more.count);
      done = λ none. omega (arith, more.count);
    }

-- fewer were read than asked for only at the input's end
pub returns : goal.returns
returns g c =
    let most : c.unwrap_or-most.result ≡ c.args.most = c.unwrap_or-most.ensures ∙ ap (λ r. result_unwrap_or r 18446744073709551615) (Ok-from_Ok_iff c.try_from.result _ c.args.most c.try_from.ensures c.ranges.most.fits) in
    elim c.loop-wanted-test.branch [
      | else-loop-wanted-test w ↦
          let before = c.loop-wanted.invariant in
          let same : c.loop-wanted-test.bytes.items ≡ c.loop-wanted.bytes.items = ap (λ v. v.items) w.bytes-is in
          first_read _ _ _ _ _ _ most (c.from_vec.ensures ∙ same) before.taken (room_for _ _ _ _ c.loop-wanted.bytes.ok.0 before.room) (none_left _ _ _ _ c.loop-wanted.bytes.ok.0 before.done w.loop-wanted-test.false)
      | then-loop-wanted-test+in_ok-count+then-count-wanted w ↦
          let more = w.in_ok-count.ensures in
          let taken = Consumes-appended _ _ _ c.loop-wanted.bytes.items w.read_more.new.bytes.items more.kept c.loop-wanted.invariant.taken more.taken in
          let same : c.loop-wanted-test.bytes.items ≡ w.read_more.new.bytes.items = ap (λ v. v.items) w.bytes-is in
          first_read _ _ _ _ _ _ most (c.from_vec.ensures ∙ same) taken (room_after _ _ _ _ _ _ w.read_more.new.bytes.ok.0 more.count.1 more.count.0 c.loop-wanted.invariant.room) (λ fewer. more.ended w.if-count-wanted.true)
    ]

use Rattle.std.proofs.Common.{Ok, Err, ◌∙◌, refl, sym, arith}
use Rattle.std.proofs.lemmas.List.{append-nil, nil_from_length}
use Rattle.std.proofs.lemmas.Result.{err_from_is_err_and}
use Rattle.host_tree.specs.declared.call.HostCall.TheVariants.{Read}
use Rattle.pea_top.proofs.CallCounts.{CountsOnly-trans}
use Rattle.pea_top.specs.Inner.ReadFiles.{no_files}
use Rattle.pea_top.proofs.ReadFiles.{one_more_class, one_more_other}
use Rattle.pea_top.proofs.FolderReads.{All-push, next_there}
use Rattle.pea_top.proofs.FileReads.{IsFileOrWhy-same, no_file_read, one_more_file, all_files_read, why_from_file}
use Rattle.pea_top.proofs.reading.read_files.Goals as goal

pub loop-name-init : goal.loop-name-init
loop-name-init g c = record {
  files = λ told root name. refl;
  printed = λ told. refl;
  counts = record { own = record { later = omega arith; stands = λ last. last }; others = λ other differs. refl };
  read = λ told. rw (c.in_ok-files.ensures.items, c.new-classes.ensures) (no_file_read _ c.into_iter-name-iterator.ensures.into_iter_gives.0);
  pairs = rw (c.in_ok-files.ensures.items, c.new-classes.ensures) no_files;
  class_files = rw c.new-classes.ensures tt;
}

pub read_file-requires : goal.read_file-requires
read_file-requires g c = λ told.
    let read = rw c.in-Some.ensures.steps.0 at (c.loop-name.invariant.read told) in
    rw (c.loop-name.invariant.files told c.args.root.now c.in-Some.name) (next_there (c.requires told) read.read)

pub returns-in_err-file-clause-found : goal.returns-in_err-file-clause-found
returns-in_err-file-clause-found g c = λ told.
    let read = rw c.in-Some.ensures.steps.0 at (c.loop-name.invariant.read told) in
    let found = IsFileOrWhy-same (c.loop-name.invariant.files told c.args.root.now) c.in-Some.name (Err c.in_err-file.field-0.0) (c.in_err-file.ensures.found told) in
    let p = err_from_is_err_and c.from_residual-in_err-file.result c.from_residual-in_err-file.ensures.1 in
    rw (p.1, p.2) (why_from_file (c.requires told) read _ found)

pub returns-in_err-push-clause-counts : goal.returns-in_err-push-clause-counts
returns-in_err-push-clause-counts g c = CountsOnly-trans Read c.loop-name.invariant.counts c.read_file.ensures.counts

pub loop-name-preserved-in-Continue-branch-4 : goal.loop-name-preserved-in-Continue-branch-4
loop-name-preserved-in-Continue-branch-4 g c = record {
  files = λ told root name. c.read_file.ensures.files told root name ∙ c.loop-name.invariant.files told root name;
  printed = λ told. c.read_file.ensures.printed told ∙ c.loop-name.invariant.printed told;
  counts = CountsOnly-trans Read c.loop-name.invariant.counts c.read_file.ensures.counts;
  read = λ told.
      let read = rw c.in-Some.ensures.steps.0 at (c.loop-name.invariant.read told) in
      let found = IsFileOrWhy-same (c.loop-name.invariant.files told c.args.root.now) c.in-Some.name (Ok (c.in_ok-file.file, c.in_ok-file.class)) (c.in_ok-file.ensures.found told) in
      rw (c.in_ok-push.ensures.items, c.in_ok-push-2.ensures.ok) (rw c.in-Some-class.is at (one_more_file read found.0 found.1));
  pairs = rw (c.in_ok-push.ensures.items, c.in_ok-push-2.ensures.ok) (one_more_class c.in_ok-file.file c.in-Some-class.class c.loop-name.invariant.pairs (rw c.in-Some-class.is at c.in_ok-file.ensures.pair));
  class_files = rw c.in_ok-push-2.ensures.ok (All-push _ c.loop-name.classes c.in-Some-class.class c.loop-name.invariant.class_files (rw c.in-Some-class.is at c.in_ok-file.ensures.class_file));
}

pub loop-name-preserved : goal.loop-name-preserved
loop-name-preserved g c = record {
  files = λ told root name. c.read_file.ensures.files told root name ∙ c.loop-name.invariant.files told root name;
  printed = λ told. c.read_file.ensures.printed told ∙ c.loop-name.invariant.printed told;
  counts = CountsOnly-trans Read c.loop-name.invariant.counts c.read_file.ensures.counts;
  read = λ told.
      let read = rw c.in-Some.ensures.steps.0 at (c.loop-name.invariant.read told) in
      let found = IsFileOrWhy-same (c.loop-name.invariant.files told c.args.root.now) c.in-Some.name (Ok (c.in_ok-file.file, c.in_ok-file.class)) (c.in_ok-file.ensures.found told) in
      rw c.in_ok-push.ensures.items (rw (c.in_default.is, append-nil) at (one_more_file read found.0 found.1));
  pairs = rw c.in_ok-push.ensures.items (one_more_other c.in_ok-file.file c.loop-name.invariant.pairs (rw c.in_default.is at c.in_ok-file.ensures.pair));
  class_files = c.loop-name.invariant.class_files;
}

pub returns-clause-found : goal.returns-clause-found
returns-clause-found g c = λ told.
    let none = nil_from_length _ (sym c.loop-name.name-iterator.rest.ok.0 ∙ c.in-None.ensures.steps.0) in
    all_files_read (c.requires told) (rw none at (c.loop-name.invariant.read told))

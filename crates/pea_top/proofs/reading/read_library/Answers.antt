use Rattle.std.proofs.Common.{Ok, Err, ◌∙◌, refl, sym, arith}
use Rattle.std.proofs.lemmas.Bool.{false≢true}
use Rattle.std.proofs.lemmas.List.{nil_from_length}
use Rattle.std.proofs.lemmas.Result.{err_from_is_err_and}
use Rattle.host_tree.specs.declared.call.HostCall.TheVariants.{Read}
use Rattle.pea_top.proofs.CallCounts.{CountsOnly-trans}
use Rattle.pea_top.proofs.FolderReads.{All-push, next_there}
use Rattle.pea_top.proofs.HeaderReads.{IsHeaderOrWhy-same, no_header_read, one_more_header, one_more_passed, all_headers_read, why_from_header}
use Rattle.pea_top.proofs.reading.read_library.Goals as goal

pub loop-name-init : goal.loop-name-init
loop-name-init g c = record {
  files = λ told root name. refl;
  printed = λ told. refl;
  counts = record { own = record { later = omega arith; stands = λ last. last }; others = λ other differs. refl };
  read = λ told. rw c.new-headers.ensures (no_header_read _ c.into_iter-name-iterator.ensures.into_iter_gives.0);
  library_classes = rw c.new-headers.ensures tt;
}

pub read_library_file-requires-clause-there : goal.read_library_file-requires-clause-there
read_library_file-requires-clause-there g c = λ told.
    let read = rw c.in-Some.ensures.steps.0 at (c.loop-name.invariant.read told) in
    rw (c.loop-name.invariant.files told c.args.root.now c.in-Some.name) (next_there (c.requires told) read.read)

pub returns-in_err-read_library_file-clause-found : goal.returns-in_err-read_library_file-clause-found
returns-in_err-read_library_file-clause-found g c = λ told.
    let read = rw c.in-Some.ensures.steps.0 at (c.loop-name.invariant.read told) in
    let found = IsHeaderOrWhy-same (c.loop-name.invariant.files told c.args.root.now) c.in-Some.name (Err c.in_err-read_library_file.field-0.0) (c.in_err-read_library_file.ensures.found told) in
    let p = err_from_is_err_and c.from_residual-in_err-read_library_file.result c.from_residual-in_err-read_library_file.ensures.1 in
    rw (p.1, p.2) (why_from_header (c.requires told) read _ found)

pub returns-in_err-push-clause-counts : goal.returns-in_err-push-clause-counts
returns-in_err-push-clause-counts g c = CountsOnly-trans Read c.loop-name.invariant.counts c.read_library_file.ensures.counts

pub loop-name-preserved-in_ok-push : goal.loop-name-preserved-in_ok-push
loop-name-preserved-in_ok-push g c = record {
  files = λ told root name. c.read_library_file.ensures.files told root name ∙ c.loop-name.invariant.files told root name;
  printed = λ told. c.read_library_file.ensures.printed told ∙ c.loop-name.invariant.printed told;
  counts = CountsOnly-trans Read c.loop-name.invariant.counts c.read_library_file.ensures.counts;
  read = λ told.
      let read = rw c.in-Some.ensures.steps.0 at (c.loop-name.invariant.read told) in
      let found = IsHeaderOrWhy-same (c.loop-name.invariant.files told c.args.root.now) c.in-Some.name (Ok c.in_ok-read_library_file.field-0) (c.in_ok-read_library_file.ensures.found told) in
      rw c.in_ok-push.ensures.ok (one_more_header read (sym c.is_class_file.ensures ∙ c.if-is_class_file.true) found);
  library_classes = rw c.in_ok-push.ensures.ok (All-push _ c.loop-name.headers c.in_ok-read_library_file.field-0 c.loop-name.invariant.library_classes c.in_ok-read_library_file.ensures.header);
}

pub loop-name-preserved : goal.loop-name-preserved
loop-name-preserved g c = record {
  files = c.loop-name.invariant.files;
  printed = c.loop-name.invariant.printed;
  counts = c.loop-name.invariant.counts;
  read = λ told.
      let read = rw c.in-Some.ensures.steps.0 at (c.loop-name.invariant.read told) in
      one_more_passed {library = g.H.Host.file c.args.host.now c.args.root.now} read (λ named. false≢true (sym c.if-is_class_file.false ∙ c.is_class_file.ensures ∙ named));
  library_classes = c.loop-name.invariant.library_classes;
}

pub returns-clause-found : goal.returns-clause-found
returns-clause-found g c = λ told.
    let none = nil_from_length _ (sym c.loop-name.name-iterator.rest.ok.0 ∙ c.in-None.ensures.steps.0) in
    all_headers_read (c.requires told) (rw none at (c.loop-name.invariant.read told))

use Rattle.std.proofs.Common.{List, ℕ, false, ap, sym, ◌∙◌, arith, map, subst, Err, option_map, is_ok, take}
use Rattle.std.proofs.lemmas.Option.{slice_get-map}
use Rattle.std.proofs.lemmas.List.{length-map}
use Rattle.std.proofs.lemmas.Bool.{false≢true}
use Rattle.wire_spec.specs.Content.{AddsFile}
use Rattle.pcap_file.specs.Capture.{capture_head}
use Rattle.plan.specs.Parts.{service_seen}
use Rattle.capture_files.specs.Files.{file_with, files_from, head_of, AddsPart}
use Rattle.ipe_io.specs.declared.faults.AddFault.TheVariants.{Failed, OutOfMemory}
use Rattle.capture_files.proofs.CameUp.{came_up}
use Rattle.capture_files.proofs.Adding.{captures_next, heads_part_of_next, adds_stay}
use Rattle.capture_files.proofs.files.add_files.Goals as goal

pub returns-in_err-last-clause-failed : goal.returns-in_err-last-clause-failed
returns-in_err-last-clause-failed g c = λ e. (
  c.loop-k.k,
  heads_part_of_next (map service_seen c.args.services.now) c.loop-k.k (service_seen c.at.result.now) (g.R.Rack.told c.args.rack.now).files (g.R.Rack.told c.loop-k.rack).files (g.R.Rack.told c.add_capture.new.rack).files
      (slice_get-map service_seen c.args.services.now c.loop-k.k ∙ ap (option_map service_seen) c.at.ensures.read)
      c.loop-k.invariant.added
      (subst (λ (n : List ℕ). AddsPart n (g.R.Rack.told c.loop-k.rack).files (g.R.Rack.told c.add_capture.new.rack).files) c.text.ensures.read (c.in_err-last.ensures.failed (ap (λ f. Err f) (came_up c.from_residual.result c.in_err-last.field-0.0 Failed c.from_residual.ensures.1 e)))),
)

pub loop-k-preserved : goal.loop-k-preserved
loop-k-preserved g c = record {
  count = omega (arith, c.in_ok-last.ensures.written.0, c.loop-k.invariant.count);
  place = λ some. omega (arith, c.in_ok-last.ensures.place.0, c.loop-k.invariant.count);
  added = captures_next head_of (map service_seen c.args.services.now) c.loop-k.k (service_seen c.at.result.now) (g.R.Rack.told c.args.rack.now).files (g.R.Rack.told c.loop-k.rack).files (g.R.Rack.told c.add_capture.new.rack).files
      (slice_get-map service_seen c.args.services.now c.loop-k.k ∙ ap (option_map service_seen) c.at.ensures.read)
      c.loop-k.invariant.added
      (subst (λ (n : List ℕ). AddsFile (g.R.Rack.told c.loop-k.rack).files (g.R.Rack.told c.add_capture.new.rack).files (file_with false n capture_head)) c.text.ensures.read c.in_ok-last.ensures.written.1);
  faults = c.in_ok-last.ensures.cause.kept (λ e. false≢true (sym (ap is_ok e))) ∙ c.loop-k.invariant.faults;
}

pub returns-in_err-last-clause-memory : goal.returns-in_err-last-clause-memory
returns-in_err-last-clause-memory g c = λ e.
    let same = c.in_err-last.ensures.memory (ap (λ f. Err f) (came_up c.from_residual.result c.in_err-last.field-0.0 OutOfMemory c.from_residual.ensures.1 e)) in (
      record {
        count = c.loop-k.k;
        fewer = omega (arith, c.loop-k-test.true, c.len-k-end.ensures.read, length-map c.args.services.now service_seen);
        files = adds_stay (g.R.Rack.told c.args.rack.now).files (g.R.Rack.told c.loop-k.rack).files (g.R.Rack.told c.add_capture.new.rack).files
            (files_from false 0 head_of (take c.loop-k.k (map service_seen c.args.services.now))) c.loop-k.invariant.added same.1;
      },
      omega (arith, same.0, c.loop-k.invariant.count),
    )

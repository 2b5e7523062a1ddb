use Rattle.std.proofs.Common.{rules, refl, ◌≡◌, sym, ◌∙◌, arith}
use Rattle.std.proofs.lemmas.List.{length-map}
use Rattle.plan_spec.specs.Plan.{PlanFields}
use Rattle.plan.specs.Parts.{service_seen}
use Rattle.plan.specs.PlanView.{plan_fields}
use Rattle.capture_files.specs.Faults.{fault_of_reading, fault_of_adding}
use Rattle.capture_files.proofs.CameUp.{comes_up}
use Rattle.plan_law.proofs.Plans.{changes_right, services_count}
use Rattle.receive_command.proofs.Captured.{sized, heads_stopped, captured_part, captured_whole, captured_in_flush}
use Rattle.receive_command.proofs.captures.write_captures.Goals as goal

pub returns-in_err-first : goal.returns-in_err-first
returns-in_err-first g c =
    let failed = comes_up c.from_residual.result (fault_of_adding c.in_err-first.field-0.0) (fault_of_adding c.in_err-first.field-0.0) c.from_residual.ensures.1 refl in
    record {
      captures = rw failed (heads_stopped c.in_err-first.field-0.0 (plan_fields c.args.plan.now) (g.I.Source.told c.args.input.now) (g.R.Rack.told c.args.rack.now) (g.R.Rack.told c.add_files.new.rack)
          c.args.reception.now.receiver (c.args.input.now ≡ c.args.input.now) (search rules) refl c.in_err-first.ensures.failed (λ e. let begun = c.in_err-first.ensures.memory e in record { heads = begun.0; many = begun.1 }) (omega (arith, c.in_err-first.ensures.most, length-map c.args.plan.now.services service_seen)) c.in_err-first.ensures.cause);
    }

pub returns-in_err-tail : goal.returns-in_err-tail
returns-in_err-tail g c =
    let plan : PlanFields = plan_fields c.args.plan.now in
    let failed = comes_up c.from_residual-in_err-tail.result (fault_of_reading c.in_err-tail.field-0.0) (fault_of_reading c.in_err-tail.field-0.0) c.from_residual-in_err-tail.ensures.1 refl in
    record {
      captures = rw failed (captured_part plan c.in_ok-first.first (g.I.Source.told c.args.input.now) (g.I.Source.told c.write_pieces.new.input)
          (g.R.Rack.told c.args.rack.now) (g.R.Rack.told c.add_files.new.rack) (g.R.Rack.told c.write_pieces.new.rack) c.write_pieces.new.reception.receiver (c.write_pieces.new.input ≡ c.args.input.now)
          (sized (g.R.Rack.told c.args.rack.now).files (g.R.Rack.told c.args.rack.now).count c.in_ok-first.first c.in_ok-first.ensures.place.0 (g.met.R.Rack.as_many c.args.rack.now))
          c.in_ok-first.ensures.written.1 (c.in_ok-first.ensures.cause.kept (λ f. absurd (cc))) (omega (arith, c.in_ok-first.ensures.written.0, length-map c.args.plan.now.services service_seen))
          c.in_err-tail.field-0.0 c.in_err-tail.ensures.writes);
    }

pub add_files-requires : goal.add_files-requires
add_files-requires g c = record { some = omega (arith, (services_count (plan_fields c.args.plan.now) c.args.plan.now.valid).0, length-map c.args.plan.now.services service_seen) }

pub overflow_cast-services : goal.overflow_cast-services
overflow_cast-services g c =
    omega (arith, c.len-services.ensures.read, (services_count (plan_fields c.args.plan.now) c.args.plan.now.valid).1, length-map c.args.plan.now.services service_seen)

pub write_pieces-requires-clause-few : goal.write_pieces-requires-clause-few
write_pieces-requires-clause-few g c = omega (arith, (services_count (plan_fields c.args.plan.now) c.args.plan.now.valid).1, length-map c.args.plan.now.services service_seen)

pub flush_files-requires-clause-there : goal.flush_files-requires-clause-there
flush_files-requires-clause-there g c =
    omega (arith, c.in_ok-tail.ensures.writes.ends.5.count, c.in_ok-first.ensures.written.0, c.in_ok-first.ensures.place.0, c.len-services.ensures.read)

pub returns-in-Ok : goal.returns-in-Ok
returns-in-Ok g c = record {
  captures =
      let plan : PlanFields = plan_fields c.args.plan.now in
      captured_whole plan c.in_ok-first.first (g.I.Source.told c.args.input.now) (g.I.Source.told c.write_pieces.new.input)
      (g.R.Rack.told c.args.rack.now) (g.R.Rack.told c.add_files.new.rack) (g.R.Rack.told c.write_pieces.new.rack) c.write_pieces.new.reception.receiver (c.write_pieces.new.input ≡ c.args.input.now)
      (sized (g.R.Rack.told c.args.rack.now).files (g.R.Rack.told c.args.rack.now).count c.in_ok-first.first c.in_ok-first.ensures.place.0 (g.met.R.Rack.as_many c.args.rack.now))
      c.in_ok-first.ensures.written.1 (c.in_ok-first.ensures.cause.kept (λ f. absurd (cc))) (omega (arith, c.in_ok-first.ensures.written.0, length-map c.args.plan.now.services service_seen))
      (g.R.Rack.told c.flush_files.new.rack) c.in_ok-tail.tail c.len-services.result (changes_right plan c.args.plan.now.whole)
      (c.len-services.ensures.read ∙ sym (length-map c.args.plan.now.services service_seen))
      c.in_ok-tail.ensures.writes c.in-Ok.ensures.count c.in-Ok.ensures.flushed c.in-Ok.ensures.cause.kept;
}

pub returns-in-Err : goal.returns-in-Err
returns-in-Err g c = record {
  captures =
      let plan : PlanFields = plan_fields c.args.plan.now in
      captured_in_flush plan c.in_ok-first.first (g.I.Source.told c.args.input.now) (g.I.Source.told c.write_pieces.new.input)
      (g.R.Rack.told c.args.rack.now) (g.R.Rack.told c.add_files.new.rack) (g.R.Rack.told c.write_pieces.new.rack) c.write_pieces.new.reception.receiver (c.write_pieces.new.input ≡ c.args.input.now)
      (sized (g.R.Rack.told c.args.rack.now).files (g.R.Rack.told c.args.rack.now).count c.in_ok-first.first c.in_ok-first.ensures.place.0 (g.met.R.Rack.as_many c.args.rack.now))
      c.in_ok-first.ensures.written.1 (c.in_ok-first.ensures.cause.kept (λ f. absurd (cc))) (omega (arith, c.in_ok-first.ensures.written.0, length-map c.args.plan.now.services service_seen))
      (g.R.Rack.told c.flush_files.new.rack) c.in_ok-tail.tail c.len-services.result (changes_right plan c.args.plan.now.whole)
      (c.len-services.ensures.read ∙ sym (length-map c.args.plan.now.services service_seen))
      c.in_ok-tail.ensures.writes c.in-Err.ensures.count c.in-Err.ensures.stopped c.in-Err.ensures.cause.failed;
}

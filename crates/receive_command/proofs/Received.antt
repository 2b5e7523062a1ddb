-- What the commands ensure, from their captures and from what became of the report.
use Rattle.std.proofs.Common.{◌≡◌, inl, inr, true, ℕ, ◌<◌, List, length, refl, ap, subst, Result, Ok, Err, arith}
use Rattle.std.specs.Bool.{⊤}
use Rattle.ipe_io.specs.Told.{InputTold, RackTold, OutputTold}
use Rattle.plan_spec.specs.Plan.{PlanFields}
use Rattle.demux_core.specs.declared.receiver.ByCarrier.{ByCarrier}
use Rattle.capture_files.specs.declared.faults.ReceiveFault.{ReceiveFault}
use Rattle.capture_files.specs.declared.faults.ReceiveFault.TheVariants as fault
use Rattle.receive_command.specs.Report.{IsReport}
use Rattle.receive_command.specs.Ends.{EndsWhole}
use Rattle.recording_reception.specs.Reception.{IsGiven}
use Rattle.receive_command.specs.Receives.{ReceiveEnds, ReceivesInto, Captures, ReceivesFiles, Receives, PutsReport}
use Rattle.capture_files.proofs.Adding.{adds_none, none_begun}
use Rattle.capture_files.specs.Faults.{Blames}
use Rattle.capture_files.proofs.CameUp.{stays}

-- A fault of the captures that a command hands on.

blames_too : {T S : Type 0} (e own : ReceiveFault) (before now : ℕ) → Blames {T = T} (Err e) own before now → Blames {T = S} (Err e) own before now
blames_too e own before now blames = record {
  rose = λ is. blames.rose (let same : e ≡ own = cc in ap (λ x. Err x) same);
  kept = λ not. blames.kept (λ is. not (let same : e ≡ own = cc in ap (λ x. Err x) same));
}

module _ {T S : Type 0} (plan : PlanFields) (input now : InputTold) (rack now_rack : RackTold) (Done : T → Type 0) (DoneToo : S → Type 0) (Lacks LacksToo Fails : Type 0) (lacks : Lacks → LacksToo) where
  ends_too : (e : ReceiveFault) → ReceiveEnds {T = T} (Err e) plan input now rack now_rack Done Lacks ⊥ → ReceiveEnds {T = S} (Err e) plan input now rack now_rack DoneToo LacksToo Fails
  ends_too fault.Source ends = ends
  ends_too fault.TooLong ends = ends
  ends_too fault.Rack ends = ends
  ends_too fault.OutOfMemory ends = lacks ends
  ends_too fault.Sink ends = absurd ends

  handed_on : (e : ReceiveFault) → ReceivesInto {T = T} (Err e) plan input now rack now_rack Done Lacks ⊥ → ReceivesInto {T = S} (Err e) plan input now rack now_rack DoneToo LacksToo Fails
  handed_on e into =
      record { ends = ends_too e into.ends; input_faults = blames_too _ _ _ _ into.input_faults; rack_faults = blames_too _ _ _ _ into.rack_faults }

-- it is none of an output
no_sink : {T : Type 0} (e : ReceiveFault) (plan : PlanFields) (input now : InputTold) (rack now_rack : RackTold) (Done : T → Type 0) (Lacks : Type 0)
    → ReceivesInto {T = T} (Err e) plan input now rack now_rack Done Lacks ⊥ → e ≡ fault.Sink → ⊥
no_sink e plan input now rack now_rack Done Lacks into is = subst (λ (f : ReceiveFault). ReceiveEnds (Err f) plan input now rack now_rack Done Lacks ⊥) is into.ends

-- `receive`.

-- memory ran out before anything was read
pub lacks_all : (plan : PlanFields) (input : InputTold) (rack : RackTold) (output : OutputTold) (Unread Silent : Type 0) → 0 < length plan.services → Unread → Silent
    → Receives (Err fault.OutOfMemory) plan input input rack rack output output Unread Silent
lacks_all plan input rack output Unread Silent some unread silent = record {
  into = record {
    ends = inl (unread, record { heads = record { count = 0; fewer = some; files = adds_none rack.files }; many = omega arith });
    input_faults = stays _ _ _ _ (λ is. absurd (cc)) refl;
    rack_faults = stays _ _ _ _ (λ is. absurd (cc)) refl;
  };
  unchanged = λ not. silent;
  output_faults = stays _ _ _ _ (λ is. absurd (cc)) refl;
}

-- the captures were not done
pub captures_fail : (plan : PlanFields) (input now : InputTold) (rack now_rack : RackTold) (receiver : ByCarrier) (output : OutputTold) (Unread Silent : Type 0) → Silent
    → (e : ReceiveFault) → Captures (Err e) plan input now rack now_rack receiver Unread → Receives (Err e) plan input now rack now_rack output output Unread Silent
captures_fail plan input now rack now_rack receiver output Unread Silent silent e captures = record {
  into = handed_on plan input now rack now_rack _ _ _ _ _ (λ heads. inl heads) e captures;
  unchanged = λ not. silent;
  output_faults = stays _ _ _ _ (λ is. let sink : e ≡ fault.Sink = cc in no_sink e plan input now rack now_rack _ _ captures sink) refl;
}

-- they were, and then the report
module _ (plan : PlanFields) (input now : InputTold) (rack now_rack : RackTold) (receiver : ByCarrier) (output now_output : OutputTold) (Unread Silent : Type 0) (tail : ℕ)
    (captures : Captures (Ok tail) plan input now rack now_rack receiver Unread) where
  abbrev whole : EndsWhole plan input.left now.left rack.files now_rack.files
  whole = captures.ends.0.ends

  abbrev Puts : Result ⊤ ReceiveFault → Type 0
  Puts result = PutsReport result (IsReport plan whole.pieces (length whole.tail)) output now_output Silent

  -- the report blames neither the input nor the rack
  unblamed : (result : Result ⊤ ReceiveFault) (own : ReceiveFault) (before now : ℕ) → Puts result → (Puts (Err own) → ⊥) → Blames {T = ℕ} (Ok tail) own before now → Blames result own before now
  unblamed result own before now puts none blames =
      stays result own before now (λ is. none (subst Puts is puts)) (blames.kept (λ is. absurd (cc)))

  into_with : {Done : ⊤ → Type 0} {Lacks Fails : Type 0} (result : Result ⊤ ReceiveFault) → Puts result → ReceiveEnds result plan input now rack now_rack Done Lacks Fails
      → ReceivesInto result plan input now rack now_rack Done Lacks Fails
  into_with result puts ends = record {
    ends = ends;
    input_faults = unblamed result fault.Source _ _ puts (λ other. other.ends) captures.input_faults;
    rack_faults = unblamed result fault.Rack _ _ puts (λ other. other.ends) captures.rack_faults;
  }

  reported_by : (result : Result ⊤ ReceiveFault) → Puts result → Receives result plan input now rack now_rack output now_output Unread Silent
  reported_by (Ok done) puts = record {
    into = into_with (Ok done) puts ((record { ends = whole; reports = puts.ends.0 }, puts.ends.1), captures.ends.1, captures.ends.2);
    unchanged = λ not. tt;
    output_faults = puts.output_faults;
  }
  reported_by (Err fault.Sink) puts = record {
    into = into_with (Err fault.Sink) puts (record { ends = whole; reports = puts.ends.0 }, puts.ends.1, captures.ends.1, captures.ends.2);
    unchanged = λ not. absurd (not refl);
    output_faults = puts.output_faults;
  }
  reported_by (Err fault.OutOfMemory) puts = record {
    into = into_with (Err fault.OutOfMemory) puts (inr (whole, captures.ends.1, captures.ends.2));
    unchanged = λ not. puts.ends;
    output_faults = puts.output_faults;
  }
  reported_by (Err fault.Source) puts = absurd puts.ends
  reported_by (Err fault.Rack) puts = absurd puts.ends
  reported_by (Err fault.TooLong) puts = absurd puts.ends

  pub reported : (result : Result ⊤ ReceiveFault)
      → ((pieces : List (List ℕ)) → IsGiven true plan pieces receiver → PutsReport result (IsReport plan pieces tail) output now_output Silent)
      → Receives result plan input now rack now_rack output now_output Unread Silent
  reported result puts =
      reported_by result (subst (λ (n : ℕ). PutsReport result (IsReport plan whole.pieces n) output now_output Silent) captures.ends.0.tail_is (puts whole.pieces captures.ends.0.received))

-- `ule`.

module _ (plan : PlanFields) (input now : InputTold) (rack now_rack : RackTold) (receiver : ByCarrier) (Unread : Type 0) where
  pub files_done : (tail : ℕ) (done : ⊤) → Captures (Ok tail) plan input now rack now_rack receiver Unread → ReceivesFiles (Ok done) plan input now rack now_rack Unread
  files_done tail done captures = record {
    ends = (captures.ends.0.ends, captures.ends.1, captures.ends.2);
    input_faults = stays _ _ _ _ (λ is. absurd (cc)) (captures.input_faults.kept (λ is. absurd (cc)));
    rack_faults = stays _ _ _ _ (λ is. absurd (cc)) (captures.rack_faults.kept (λ is. absurd (cc)));
  }

  pub files_fail : length plan.services ≡ 1 → (e : ReceiveFault) → Captures (Err e) plan input now rack now_rack receiver Unread → ReceivesFiles (Err e) plan input now rack now_rack Unread
  files_fail one e captures = handed_on plan input now rack now_rack _ _ _ _ _
      (λ lacks. let none = none_begun plan.services rack.files now_rack.files rack.count now_rack.count one (lacks.1.heads, lacks.1.many) in (lacks.0, none.0, none.1)) e captures

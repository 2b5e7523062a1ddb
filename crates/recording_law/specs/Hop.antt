-- One hop of a service: a stream that carries datagrams to it, and a recording of the stream, on either carrier.
use Rattle.std.specs.Prelude.{◌≡◌, ℕ, true, false, List, [], flat_map, Option, Some, None}
use Rattle.wire_spec.specs.Lists.{IsSubsequence}
use Rattle.plan_spec.specs.Plan.{PlanFields, is_baseband, isi_of}
use Rattle.plan_spec.specs.Changes.{pids_in}
use Rattle.bb_reception_spec.specs.Delivered.{service_at}
use Rattle.loss_law.specs.Loss.{CarriesFor}
use Rattle.loss_law.specs.Spans.{IsRecordedFor, wanted_on_pids}
use Rattle.bb_loss_law.specs.Plans.{CarriesInFramesFor, IsRecordedInFramesFor, wanted_of}
use Rattle.recording_spec.specs.Pieces.{records_in}

-- Under the plan these pieces carry of service k these datagrams, in order: those on one of its PIDs after another, or those on its ISI. Of
-- what else is sent nothing is asked
pub data CarriesInPieces (plan : PlanFields) (k : ℕ) (sent carried : List (List ℕ)) : Type 0 where
  in_packets : is_baseband plan ≡ false → (datagrams : ℕ → List (List ℕ)) → CarriesFor plan k (records_in plan sent) datagrams
      → carried ≡ flat_map datagrams (pids_in plan k) → CarriesInPieces plan k sent carried
  in_frames : is_baseband plan ≡ true → CarriesInFramesFor plan k sent carried → CarriesInPieces plan k sent carried

-- The recorded pieces are a recording of them as service k asks it: they came through the channel, no damaged or spliced unit of the service
-- passes its check, no fragments are reassembled to a PDU that was not sent, and the sections of a service of MPE-FEC frames are accepted as
-- its law asks
abbrev pub IsRecordedInPieces : (plan : PlanFields) (k : ℕ) (sent carried : List (List ℕ)) → CarriesInPieces plan k sent carried → List (List ℕ) → Type 0
IsRecordedInPieces plan k sent carried (in_packets is datagrams carries same) recorded =
    IsRecordedFor plan k (records_in plan sent) datagrams carries (records_in plan recorded)
IsRecordedInPieces plan k sent carried (in_frames is carries) recorded = IsRecordedInFramesFor plan k sent recorded

-- what was sent on an ISI and is wanted, where the service has one
abbrev pub wanted_on_isi : Option ℕ → PlanFields → ℕ → List (List ℕ) → List (List ℕ)
wanted_on_isi None plan k sent = []
wanted_on_isi (Some isi) plan k sent = wanted_of plan k isi sent

-- of what was sent to service k, what its filter wants
abbrev pub wanted_in : (plan : PlanFields) (k : ℕ) (sent carried : List (List ℕ)) → CarriesInPieces plan k sent carried → List (List ℕ)
wanted_in plan k sent carried (in_packets is datagrams carries same) = wanted_on_pids plan k carries.units datagrams
wanted_in plan k sent carried (in_frames is carries) = wanted_on_isi (isi_of (service_at plan k).kind) plan k sent

-- all that was delivered are wanted datagrams, unchanged and in order, and the wanted ones are some of those that were carried
pub record DeliversWanted (carried wanted delivered : List (List ℕ)) : Type 0 where
  pub were_wanted : IsSubsequence delivered wanted
  pub were_sent : IsSubsequence wanted carried

-- The numbers that a report has of a recording of baseband frames: of the whole recording, and of each service.
use Rattle.std.specs.Prelude.{ℕ, List, [], length, Option, Some, None}
use Rattle.plan_spec.specs.Plan.{ServiceFields, PlanFields, isi_of, isis}
use Rattle.gse_spec.specs.Reassembly.{Pdu}
use Rattle.gse_spec.specs.Received.{carried_by_pdu}
use Rattle.gse_spec.specs.Numbers.{refused_frames, other_frames, IsiNumbers, isi_numbers, pdus_of, PduNumbers, pdu_numbers}
use Rattle.bb_reception_spec.specs.Delivered.{service_at}

-- all frames; those that are refused; those of an input stream that no service of the plan has
pub record RecordingNumbers : Type 0 where
  pub frames : ℕ
  pub unreadable : ℕ
  pub other : ℕ

abbrev pub recording_numbers : PlanFields → List (List ℕ) → RecordingNumbers
recording_numbers plan frames = record {
  frames = length frames;
  unreadable = refused_frames frames;
  other = other_frames (isis plan) frames;
}

-- the numbers of a service without an input stream
abbrev pub no_isi_numbers : IsiNumbers
no_isi_numbers = record { heard = 0; units = 0; bad_check = 0; delimited = 0; bad_length = 0 }

-- Of one service: what became of the frames and packets of its input stream. A middle or last fragment without a first counts as delimited, and so does a last
-- one whose first is more than 256 received frames back; each refused packet counts as a bad length.
abbrev pub numbers_on : Option ℕ → List (List ℕ) → IsiNumbers
numbers_on None frames = no_isi_numbers
numbers_on (Some isi) frames = isi_numbers isi frames

abbrev pub service_numbers : ServiceFields → List (List ℕ) → IsiNumbers
service_numbers service frames = numbers_on (isi_of service.kind) frames

abbrev pub numbers_of : PlanFields → ℕ → List (List ℕ) → IsiNumbers
numbers_of plan k frames = service_numbers (service_at plan k) frames

-- and what its PDUs give
abbrev pub pdus_on : Option ℕ → List (List ℕ) → List Pdu
pdus_on None frames = []
pdus_on (Some isi) frames = pdus_of isi frames

abbrev pub service_pdu_numbers : ServiceFields → List (List ℕ) → PduNumbers
service_pdu_numbers service frames = pdu_numbers carried_by_pdu service.filter (pdus_on (isi_of service.kind) frames)

abbrev pub pdu_numbers_of : PlanFields → ℕ → List (List ℕ) → PduNumbers
pdu_numbers_of plan k frames = service_pdu_numbers (service_at plan k) frames
